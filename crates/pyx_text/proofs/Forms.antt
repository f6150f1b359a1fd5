-- The form of a line that begins with none of the five marks.
use Rattle.std.proofs.Common.{◌≡◌, ◌≢◌, ℕ, List, [], ◌∷◌, false, nat_eq, refl, ap}
use Rattle.xml_model.specs.Pyx.{form, no_form}
use Rattle.pyx_text.proofs.Escapes.{nat_eq-differ}

-- a line that begins with none of the five marks has no form
pub form_other : (line : List ℕ) → ((rest : List ℕ) → line ≢ 40 ∷ rest) → ((rest : List ℕ) → line ≢ 41 ∷ rest) → ((rest : List ℕ) → line ≢ 65 ∷ rest)
    → ((rest : List ℕ) → line ≢ 45 ∷ rest) → ((rest : List ℕ) → line ≢ 63 ∷ rest) → form line ≡ no_form
form_other [] b e a c i = refl
form_other (x ∷ xs) b e a c i =
    let not_b : nat_eq x 40 ≡ false = nat_eq-differ x 40 (λ h. b xs (ap (λ y. y ∷ xs) h)) in
    let not_e : nat_eq x 41 ≡ false = nat_eq-differ x 41 (λ h. e xs (ap (λ y. y ∷ xs) h)) in
    let not_a : nat_eq x 65 ≡ false = nat_eq-differ x 65 (λ h. a xs (ap (λ y. y ∷ xs) h)) in
    let not_c : nat_eq x 45 ≡ false = nat_eq-differ x 45 (λ h. c xs (ap (λ y. y ∷ xs) h)) in
    let not_i : nat_eq x 63 ≡ false = nat_eq-differ x 63 (λ h. i xs (ap (λ y. y ∷ xs) h)) in
    rw (not_b, not_e, not_a, not_c, not_i) refl
