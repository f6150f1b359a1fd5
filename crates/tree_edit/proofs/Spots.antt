-- Edits in the order of their numbers: what is done at a number, and the edits from a number on.
use Rattle.std.proofs.Common.{◌≡◌, ℕ, zero, suc, ◌+◌, ◌<◌, ◌≤◌, List, [], ◌∷◌, length, get_or, drop, Option, None, Some, refl, sym, ap, subst, ◌∙◌, arith}
use Rattle.std.specs.Prelude.{if◌then◌else◌}
use Rattle.std.specs.List.{slice_get}
use Rattle.std.proofs.lemmas.Bool.{ne_eqb}
use Rattle.std.proofs.lemmas.Bool.Decides.{Decides-eqb}
use Rattle.std.proofs.lemmas.Option.{none-some, same_Some}
use Rattle.xml_model.specs.declared.edit.Edit.{Edit}
use Rattle.xml_model.specs.declared.edit.EditKind.{EditKind}
use Rattle.tree_edit.specs.Numbered.{look, RisesFrom, IsAt}

-- ---- lists

-- from an element that is there on
pub drop_some : {A : Type 0} (xs : List A) (i : ℕ) (x : A) → slice_get xs i ≡ Some x → drop i xs ≡ x ∷ drop (i + 1) xs
drop_some [] i x e = absurd (none-some x e)
drop_some (y ∷ xs) zero x e = ap (λ y. y ∷ xs) (same_Some y x e)
drop_some (y ∷ xs) (suc i) x e =
    let same : i + 1 + 1 ≡ suc i + 1 = omega arith in
    let one : suc i + 1 ≡ suc (i + 1) = omega arith in
    drop_some xs i x e ∙ ap (λ n. x ∷ drop n (y ∷ xs)) (sym one)

-- what a slice tells of an element that is there
pub got : {A : Type 0} (xs : List A) (i : ℕ) (x : A) → i < length xs → x ≡ get_or xs i x → slice_get xs i ≡ Some x
got [] i x less e = absurd (omega arith)
got (y ∷ xs) zero x less e = ap (λ y. Some y) (sym e)
got (y ∷ xs) (suc i) x less e = got xs i x (omega arith) e

-- from one that is not there on
drop_none : {A : Type 0} (xs : List A) (i : ℕ) → slice_get xs i ≡ None → drop i xs ≡ []
drop_none [] zero e = refl
drop_none [] (suc i) e = refl
drop_none (y ∷ xs) zero e = absurd (none-some y (sym e))
drop_none (y ∷ xs) (suc i) e = drop_none xs i e

-- ---- edits in order

-- the first edit is at the number
here : (e : Edit) (more : List Edit) (n : ℕ) → e.at ≡ n → look (e ∷ more) n ≡ Some e.what
here e more n is = ap (λ b. if b then Some e.what else look more n) ((Decides-eqb e.at n).1 is)

-- or at another
other : (e : Edit) (more : List Edit) (n : ℕ) → (e.at ≡ n → ⊥) → look (e ∷ more) n ≡ look more n
other e more n apart = ap (λ b. if b then Some e.what else look more n) (ne_eqb e.at n apart)

-- nothing is done below the first number
none_before : (n k : ℕ) (edits : List Edit) → RisesFrom n edits → k < n → look edits k ≡ None
none_before n k [] r less = refl
none_before n k (e ∷ more) r less =
    let first : n ≤ e.at = r.0 in
    other e more k (λ is. omega (arith, is)) ∙ none_before (e.at + 1) k more r.1 (omega arith)

-- numbers that rise from one on rise from a lesser one on
rises_less : (m n : ℕ) (edits : List Edit) → m ≤ n → RisesFrom n edits → RisesFrom m edits
rises_less m n [] less r = tt
rises_less m n (e ∷ more) less r = let first : n ≤ e.at = r.0 in (omega arith, r.1)

-- at the start no edit has been gone past
pub at_start : (edits : List Edit) → RisesFrom 0 edits → IsAt edits 0 0
at_start edits r = record { rises = r; same = λ n less. refl }

-- ---- the next node

-- what is done at a number, and where the edits from the next number on begin
pub record Found (edits : List Edit) (number : ℕ) (what : Option EditKind) (next : ℕ) : Type 0 where
  pub is : what ≡ look edits number
  pub at : IsAt edits (number + 1) next

-- there is no edit any more
pub found_none : (edits : List Edit) (n i : ℕ) → IsAt edits n i → slice_get edits i ≡ None → Found edits n None i
found_none edits n i at e =
    let gone : drop i edits ≡ [] = drop_none edits i e in
    record {
      is = sym (at.same n (omega arith) ∙ ap (λ es. look es n) gone);
      at = record { rises = subst (RisesFrom (n + 1)) (sym gone) tt; same = λ k less. at.same k (omega arith) };
    }

-- the next edit is at the number
pub found_here : (edits : List Edit) (n i : ℕ) (e : Edit) → IsAt edits n i → slice_get edits i ≡ Some e → e.at ≡ n → Found edits n (Some e.what) (i + 1)
found_here edits n i e at h is =
    let next : drop i edits ≡ e ∷ drop (i + 1) edits = drop_some edits i e h in
    let r : RisesFrom n (e ∷ drop (i + 1) edits) = subst (RisesFrom n) next at.rises in
    record {
      is = sym (at.same n (omega arith) ∙ (ap (λ es. look es n) next ∙ here e (drop (i + 1) edits) n is));
      at = record {
        rises = subst (λ m. RisesFrom (m + 1) (drop (i + 1) edits)) is r.1;
        same = λ k less. at.same k (omega arith) ∙ (ap (λ es. look es k) next ∙ other e (drop (i + 1) edits) k (λ same. omega (arith, same)));
      };
    }

-- the next edit is at another number, which is greater
pub found_later : (edits : List Edit) (n i : ℕ) (e : Edit) → IsAt edits n i → slice_get edits i ≡ Some e → (e.at ≡ n → ⊥) → Found edits n None i
found_later edits n i e at h apart =
    let next : drop i edits ≡ e ∷ drop (i + 1) edits = drop_some edits i e h in
    let r : RisesFrom n (e ∷ drop (i + 1) edits) = subst (RisesFrom n) next at.rises in
    let first : n ≤ e.at = r.0 in
    let less : n + 1 ≤ e.at = omega (arith, apart) in
    record {
      is = sym (at.same n (omega arith) ∙ (ap (λ es. look es n) next ∙ (other e (drop (i + 1) edits) n apart ∙ none_before (e.at + 1) n (drop (i + 1)
          edits) r.1 (omega arith))));
      at = record { rises = subst (RisesFrom (n + 1)) (sym next) (less, r.1); same = λ k h. at.same k (omega arith) };
    }

-- ---- nodes that are gone past

-- on the way from one number to another: the edits from here on have all those at the other number or a greater one
pub record IsOnTheWay (edits : List Edit) (from to next : ℕ) : Type 0 where
  pub rises : RisesFrom from (drop next edits)
  pub same : (n : ℕ) → to ≤ n → look edits n ≡ look (drop next edits) n

pub sets_out : (edits : List Edit) (from to next : ℕ) → IsAt edits from next → from ≤ to → IsOnTheWay edits from to next
sets_out edits from to next at less = record { rises = at.rises; same = λ n h. at.same n (omega arith) }

-- an edit before the other number is gone past
pub goes_past : (edits : List Edit) (from to i : ℕ) (e : Edit) → IsOnTheWay edits from to i → slice_get edits i ≡ Some e → e.at < to
    → IsOnTheWay edits from to (i + 1)
goes_past edits from to i e on h less =
    let next : drop i edits ≡ e ∷ drop (i + 1) edits = drop_some edits i e h in
    let r : RisesFrom from (e ∷ drop (i + 1) edits) = subst (RisesFrom from) next on.rises in
    let first : from ≤ e.at = r.0 in
    record {
      rises = rises_less from (e.at + 1) (drop (i + 1) edits) (omega arith) r.1;
      same = λ n h. on.same n h ∙ (ap (λ es. look es n) next ∙ other e (drop (i + 1) edits) n (λ same. omega (arith, same)));
    }

-- the next edit is at the other number or behind it
pub arrives : (edits : List Edit) (from to i : ℕ) (e : Edit) → IsOnTheWay edits from to i → slice_get edits i ≡ Some e → to ≤ e.at → IsAt edits to i
arrives edits from to i e on h less =
    let next : drop i edits ≡ e ∷ drop (i + 1) edits = drop_some edits i e h in
    let r : RisesFrom from (e ∷ drop (i + 1) edits) = subst (RisesFrom from) next on.rises in
    record { rises = subst (RisesFrom to) (sym next) (less, r.1); same = on.same }

-- there is no edit any more
pub arrives_last : (edits : List Edit) (from to i : ℕ) → IsOnTheWay edits from to i → slice_get edits i ≡ None → IsAt edits to i
arrives_last edits from to i on e = record { rises = subst (RisesFrom to) (sym (drop_none edits i e)) tt; same = on.same }

pub ruleset ways = (sets_out, goes_past, arrives, arrives_last)
