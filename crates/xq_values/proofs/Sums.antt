-- Sums: casting and adding in turn gives what casting all and then adding gives.
use Rattle.std.proofs.Common.{◌≡◌, Bool, true, false, List, [], ◌∷◌, refl, ◌∙◌, ℤ, pos, Option, Some, None, Result, Ok, Err}
use Rattle.std.specs.Prelude.{◌+ℤ◌, ok_or, if◌then◌else◌}
use Rattle.xq_ast.specs.declared.code.Code.{Code}
use Rattle.xq_ast.specs.declared.code.Code.TheVariants.{FOAR0002}
use Rattle.xml_model.specs.Items.{◌>>?◌}
use Rattle.xml_model.specs.Atoms.{Atoms, is_long, summand, summands, added_up, sum_of}
use Rattle.xq_values.specs.Sums.{plus, summed}

abbrev added_from : Option ℤ → List ℤ → Result ℤ Code
added_from None ns = Err FOAR0002
added_from (Some total) ns = added_up total ns

one_more : (total : Option ℤ) (n : ℤ) (ns : List ℤ) → added_from (plus total n) ns ≡ added_from total (n ∷ ns)
one_more None n ns = refl
one_more (Some total) n ns = by_test (is_long (total +ℤ n))
  where
    by_test : (t : Bool) → added_from (if t then Some (total +ℤ n) else None) ns ≡ ((if t then Ok (total +ℤ n) else Err FOAR0002) >>? (λ more. added_up more ns))
    by_test true = refl
    by_test false = refl

with_rest : (total : Option ℤ) (n : ℤ) (rest : Result (List ℤ) Code) → (rest >>? added_from (plus total n)) ≡ ((rest >>? (λ ns. Ok (n ∷ ns))) >>? added_from total)
with_rest total n (Ok ns) = one_more total n ns
with_rest total n (Err code) = refl

with_first : (total : Option ℤ) (more : Atoms) (first : Result ℤ Code) → ((n : ℤ) → summed (plus total n) more ≡ (summands more >>? added_from (plus total n)))
    → (first >>? (λ n. summed (plus total n) more)) ≡ ((first >>? (λ n. summands more >>? (λ ns. Ok (n ∷ ns)))) >>? added_from total)
with_first total more (Ok n) same = same n ∙ with_rest total n (summands more)
with_first total more (Err code) same = refl

at_end : (total : Option ℤ) → ok_or total FOAR0002 ≡ added_from total []
at_end None = refl
at_end (Some n) = refl

summed_from : (atoms : Atoms) (total : Option ℤ) → summed total atoms ≡ (summands atoms >>? added_from total)
summed_from [] total = at_end total
summed_from (a ∷ more) total = with_first total more (summand a) (λ n. summed_from more (plus total n))

-- from 0 on it is the sum
pub summed_is : (atoms : Atoms) → summed (Some (pos 0)) atoms ≡ sum_of atoms
summed_is atoms = summed_from atoms (Some (pos 0)) ∙ by_result (summands atoms)
  where
    by_result : (r : Result (List ℤ) Code) → (r >>? added_from (Some (pos 0))) ≡ (r >>? added_up (pos 0))
    by_result (Ok ns) = refl
    by_result (Err code) = refl
