-- The names of the attributes after the first sixteen.
use Rattle.std.proofs.Common.{◌≡◌, ℕ, ◌<◌, ◌≤◌, Bool, true, false, ◌||◌, List, [], ◌∷◌, ◌++◌, take, drop, length, refl, ap, sym, ◌∙◌, length-append, length-drop, ◌-◌, arith}
use Rattle.std.proofs.lemmas.List.{drop_all}
use Rattle.std.proofs.Math.Seq.{take-length}
use Rattle.std.specs.Str.{bytes_eq}
use Rattle.xml_model.specs.declared.node.Attr.{Attr}
use Rattle.xml_model.specs.Trees.{has_attribute}

or-assoc : (a b c : Bool) → (a || (b || c)) ≡ ((a || b) || c)
or-assoc true b c = refl
or-assoc false b c = refl

-- attributes in two parts
pub has_attribute-append : (name : List ℕ) (xs ys : List Attr) → has_attribute name (xs ++ ys) ≡ (has_attribute name xs || has_attribute name ys)
has_attribute-append name [] ys = refl
has_attribute-append name (x ∷ xs) ys = ap (λ b. bytes_eq x.name name || b) (has_attribute-append name xs ys)
    ∙ or-assoc (bytes_eq x.name name) (has_attribute name xs) (has_attribute name ys)

-- another attribute, while there are few
pub few_more : (n : ℕ) (attrs : List Attr) (a : Attr) → length attrs < n → drop n (attrs ++ a ∷ []) ≡ drop n attrs
few_more n attrs a lt =
    let all : length (attrs ++ a ∷ []) ≤ n = omega (arith, lt, length-append attrs (a ∷ [])) in
    let most : length attrs ≤ n = omega (arith, lt) in
    drop_all n (attrs ++ a ∷ []) all ∙ sym (drop_all n attrs most)

-- the others, as a slice to the end
pub to_end : (n : ℕ) (attrs : List Attr) → take (length attrs - n) (drop n attrs) ≡ drop n attrs
to_end n attrs = ap (λ k. take k (drop n attrs)) (sym (length-drop n attrs)) ∙ take-length (drop n attrs)
