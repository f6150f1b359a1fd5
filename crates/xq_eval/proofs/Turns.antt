-- Loops of evaluation: one turn keeps that what is done, with what is left, is the whole.
use Rattle.std.specs.Prelude.{◌≡◌, Option, Some, None, ℕ, zero, suc, ◌+◌, ◌<◌, ◌≤◌, List, [], ◌∷◌, ◌++◌, map, length, Result, Ok, Err, refl}
use Rattle.std.proofs.Common.{get_or, drop, sym, ap, ◌∙◌, append_assoc, arith}
use Rattle.std.proofs.Math.Numerals.{add-one}
use Rattle.std.proofs.lemmas.List.{append-nil}
use Rattle.xq_ast.specs.declared.code.Code.{Code}
use Rattle.xml_model.specs.Evaluation.{or_later}
use Rattle.xml_model.specs.Items.{Items, Made, Making, give, then_with, ◌>>=◌}

left_suc : {A B : Type 0} (f : A → B) (xs : List A) (i : ℕ) (x : A) → x ≡ get_or xs i x → i < length xs → map f (drop i xs) ≡ f x ∷ map f (drop (suc i) xs)
left_suc f [] i x e h = absurd (omega arith)
left_suc f (y ∷ ys) zero x e h = ap (λ z. f z ∷ map f ys) (sym e)
left_suc f (y ∷ ys) (suc i) x e h = left_suc f ys i x e (omega arith)

-- what is left begins with this one
pub left_with : {A B : Type 0} (f : A → B) (xs : List A) (i : ℕ) (x : A) → x ≡ get_or xs i x → i < length xs → map f (drop i xs) ≡ f x ∷ map f (drop (i + 1) xs)
left_with f xs i x e h = rw add-one (left_suc f xs i x e h)

-- nothing is left
pub left_none : {A B : Type 0} (f : A → B) (xs : List A) (i : ℕ) → length xs ≤ i → map f (drop i xs) ≡ []
left_none f [] zero h = refl
left_none f [] (suc i) h = refl
left_none f (x ∷ xs) zero h = absurd (omega arith)
left_none f (x ∷ xs) (suc i) h = left_none f xs i (omega arith)

-- a part gave something, which comes behind what is done
pub collected : {X C : Type 0} (add : X → List C → List C) (part : X → List C) → ((x : X) (more : List C) → add x more ≡ part x ++ more)
    → (d : Result (X × Made) Code) (rest : Making (List C)) (done new : List C) (x : X) (m : Made) → d ≡ Ok (x, m) → new ≡ done ++ part x
    → then_with (then_with d (λ y. rest >>= (λ more. give (add y more)))) (λ r. give (done ++ r)) ≡ then_with (rest m) (λ r. give (new ++ r))
collected {X} {C} add part splits d rest done new x m e grown =
    ap (λ o. then_with (then_with o (λ y. rest >>= (λ more. give (add y more)))) (λ r. give (done ++ r))) e ∙ behind (rest m)
  where
    behind : (o : Result (List C × Made) Code) → then_with (then_with o (λ more. give (add x more))) (λ r. give (done ++ r)) ≡ then_with o (λ r. give
        (new ++ r))
    behind (Ok both) = ap (λ l. let r : Result (List C × Made) Code = Ok (l, both.1) in r)
        (ap (λ l. done ++ l) (splits x both.0) ∙ (sym (append_assoc done (part x) both.0) ∙ ap (λ l. l ++ both.0) (sym grown)))
    behind (Err code) = refl

-- nothing comes behind what is done
pub collected_all : {C : Type 0} (done : List C) (m : Made) → then_with {A = List C} (Ok ([], m)) (λ r. give (done ++ r)) ≡ Ok (done, m)
collected_all {C} done m = ap (λ l. let r : Result (List C × Made) Code = Ok (l, m) in r) (append-nil done)

-- nothing before it
pub collected_none : {C : Type 0} (d : Result (List C × Made) Code) → then_with d (λ r. give ([] ++ r)) ≡ d
collected_none (Ok both) = refl
collected_none (Err code) = refl

-- a part ended
pub collected_end : {X C : Type 0} (d : Result (X × Made) Code) (f : X → Making (List C)) (done : List C) (code : Code) → d ≡ Err code
    → then_with (then_with d f) (λ r. give (done ++ r)) ≡ Err code
collected_end d f done code e = ap (λ o. then_with (then_with o f) (λ r. give (done ++ r))) e

-- a later value hides those before it
pub later_later : (a b c : Option Items) → or_later a (or_later b c) ≡ or_later (or_later a b) c
later_later a b None = refl
later_later a b (Some items) = refl
