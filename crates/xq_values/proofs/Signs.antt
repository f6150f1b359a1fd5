-- Signs in front of a value: one more at a time, from the last to the first.
use Rattle.std.proofs.Common.{◌≡◌, ℕ, zero, suc, ◌+◌, ◌-◌, ◌<◌, Bool, List, [], ◌∷◌, length, drop, get_or, refl, ap, sym, ◌∙◌, subst, arith, drop-cons, ℤ, Option, Some, None, Result, Ok, Err}
use Rattle.xq_ast.specs.declared.code.Code.{Code}
use Rattle.xq_ast.specs.declared.tree.Sign.{Sign}
use Rattle.xq_ast.specs.declared.tree.Sign.TheVariants.{Plus}
use Rattle.xml_model.specs.Items.{Items, ◌>>?◌}
use Rattle.xml_model.specs.Atoms.{Atoms, is_minus, signed_by}
use Rattle.xq_values.specs.Lists.{listed, IsPlain}
use Rattle.xq_values.specs.Signs.{is_minus_at, with_sign, again, SignsGive}

none_behind : (signs : List Sign) (i : ℕ) → length signs ≡ i + 1 → drop (suc i) signs ≡ []
none_behind [] i e = refl
none_behind (s ∷ []) zero e = refl
none_behind (s ∷ t ∷ signs) zero e = absurd (omega arith)
none_behind (s ∷ signs) (suc i) e = none_behind signs i (omega arith)

-- the last sign
pub last_sign : (signs : List Sign) (operand : Atoms) (i : ℕ) (result : Result (Option ℤ) Code) → length signs ≡ i + 1
    → listed result ≡ with_sign (is_minus_at signs i) operand → SignsGive (drop i signs) operand result
last_sign signs operand i result long given atoms plain value same =
    let s : Sign = get_or signs i Plus in
    let rest : drop i signs ≡ s ∷ [] = drop-cons signs i Plus (omega arith) ∙ ap (λ ss. s ∷ ss) (none_behind signs i long) in
    given ∙ (ap (with_sign (is_minus s)) (sym same) ∙ ap (λ ss. signed_by atoms ss value) (sym rest))

again_is : (atoms : Items → Atoms) → IsPlain atoms → (minus : Bool) (found : Result (Option ℤ) Code) → again minus found ≡ (listed found >>? (λ items. with_sign minus (atoms items)))
again_is atoms plain minus (Ok None) = ap (with_sign minus) (sym plain.none)
again_is atoms plain minus (Ok (Some n)) = ap (with_sign minus) (sym (plain.integer n))
again_is atoms plain minus (Err code) = refl

one_more : (signs : List Sign) (operand : Atoms) (i : ℕ) (found result : Result (Option ℤ) Code) → i < length signs
    → SignsGive (drop (suc i) signs) operand found → listed result ≡ again (is_minus_at signs i) found → SignsGive (drop i signs) operand result
one_more signs operand i found result less so_far given atoms plain value same =
    let s : Sign = get_or signs i Plus in
    let rest : drop i signs ≡ s ∷ drop (suc i) signs = drop-cons signs i Plus less in
    given ∙ (again_is atoms plain (is_minus s) found ∙ (ap (λ r. r >>? (λ items. with_sign (is_minus s) (atoms items))) (so_far atoms plain value same)
    ∙ ap (λ ss. signed_by atoms ss value) (sym rest)))

-- one sign more in front
pub more_sign : (signs : List Sign) (operand : Atoms) (left : ℕ) (found result : Result (Option ℤ) Code) → 0 < left → left < length signs
    → SignsGive (drop left signs) operand found → listed result ≡ again (is_minus_at signs (left - 1)) found → SignsGive (drop (left - 1) signs) operand result
more_sign signs operand zero found result some less so_far given = absurd (omega arith)
more_sign signs operand (suc i) found result some less so_far given =
    let e : suc i - 1 ≡ i = omega arith in
    let here : listed result ≡ again (is_minus_at signs i) found = given ∙ ap (λ k. again (is_minus_at signs k) found) e in
    subst (λ k. SignsGive (drop k signs) operand result) (sym e) (one_more signs operand i found result (omega arith) so_far here)
