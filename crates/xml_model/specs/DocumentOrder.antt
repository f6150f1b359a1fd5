-- Document order, and lists of nodes in document order without duplicates.
use Rattle.std.specs.Prelude.{List, [], ◌∷◌}
use Rattle.std.specs.Cmp.Lexicographic.{slice_cmp}
use Rattle.std.specs.Ordering.{nat_cmp, ordering_then}
use Rattle.std.specs.declared.cmp.Ordering.{Ordering}
use Rattle.std.specs.declared.cmp.Ordering.TheVariants.{Less, Equal, Greater}
use Rattle.xml_model.specs.Nav.{Stored}
use Rattle.xml_model.specs.Place.{place_cmp}

-- documents by the bytes of their names, and in one document by place
abbrev pub node_cmp : Stored → Stored → Ordering
node_cmp a b = ordering_then (slice_cmp nat_cmp a.name b.name) (place_cmp a.place b.place)

module _ {A : Type 0} (cmp : A → A → Ordering) where
  -- the lesser of two first elements, with what then follows; of two that are equal one
  abbrev pub by_first : Ordering → A → A → List A → List A → List A → List A
  by_first Less x y with_all with_rest later = x ∷ with_all
  by_first Equal x y with_all with_rest later = x ∷ with_rest
  by_first Greater x y with_all with_rest later = y ∷ later

  abbrev pub into : A → (List A → List A) → List A → List A
  into x rest [] = x ∷ rest []
  into x rest (y ∷ ys) = by_first (cmp x y) x y (rest (y ∷ ys)) (rest ys) (into x rest ys)

  -- two lists in order as one, without duplicates
  abbrev pub union : List A → List A → List A
  union [] ys = ys
  union (x ∷ xs) ys = into x (union xs) ys

  -- the elements in order, without duplicates
  abbrev pub in_order : List A → List A
  in_order [] = []
  in_order (x ∷ xs) = union (x ∷ []) (in_order xs)
