-- Ranges of integers.
use Rattle.std.proofs.Common.{◌≡◌, ℕ, ◌+◌, Bool, true, false, List, [], ◌∷◌, ◌++◌, map, refl, ap, sym, ◌∙◌, arith, ℤ, pos, Ok, Err}
use Rattle.std.specs.Prelude.{◌+ℤ◌, ◌-ℤ◌, int_lt, int_le, unsigned_abs, if◌then◌else◌}
use Rattle.std.specs.List.{range_with_len}
use Rattle.std.proofs.lemmas.List.FromFn.{map-range_with_len_more}
use Rattle.xq_ast.specs.declared.code.Code.TheVariants.{TooManyItems}
use Rattle.xml_model.specs.declared.limits.TheConstants.{ITEMS_MAX}
use Rattle.xml_model.specs.declared.nav.Id.{Id}
use Rattle.xml_model.specs.Nav.{Stored}
use Rattle.xml_model.specs.Items.{Items, integer}
use Rattle.xml_model.specs.Items as items
use Rattle.xml_model.specs.Atoms.{range_of}
use Rattle.xq_values.specs.declared.item.Item.{Item}
use Rattle.xq_values.specs.declared.item.Item.TheVariants as item
use Rattle.xq_values.specs.Ranges.{count_of}
use Rattle.xq_values.specs.Seen.{item_seen}

-- the integer so many behind another
abbrev pub nth : ℤ → ℕ → items.Item
nth low k = integer (low +ℤ pos k)

seen_more : (place : Id → Stored) (all : List Item) (v : ℤ) → map (item_seen place) (all ++ item.Int v ∷ []) ≡ map (item_seen place) all ++ integer v ∷ []
seen_more place [] v = refl
seen_more place (x ∷ all) v = ap (λ r. item_seen place x ∷ r) (seen_more place all v)

-- one integer more
pub one_more : (place : Id → Stored) (low : ℤ) (all new : List Item) (k : ℕ) (v : ℤ) → v ≡ low +ℤ pos k → new ≡ all ++ item.Int v ∷ []
    → map (item_seen place) all ≡ map (nth low) (range_with_len 0 k) → map (item_seen place) new ≡ map (nth low) (range_with_len 0 (k + 1))
one_more place low all new k v here added so_far =
    ap (map (item_seen place)) added ∙ (seen_more place all v
    ∙ (ap (λ r. r ++ integer v ∷ []) so_far ∙ (ap (λ n. map (nth low) (range_with_len 0 k) ++ integer n ∷ []) here
    ∙ sym (map-range_with_len_more (nth low) 0 k k (omega arith)))))

-- the range of so many integers
pub range_is : (n m : ℤ) (count : ℕ) → Ok count ≡ count_of n m → range_of n m ≡ Ok (map (nth n) (range_with_len 0 count))
range_is n m count e = by_tests (int_lt m n) (int_le (pos ITEMS_MAX) (m -ℤ n)) e
  where
    by_tests : (s t : Bool) → Ok count ≡ (if s then Ok 0 else (if t then Err TooManyItems else Ok (unsigned_abs (m -ℤ n) + 1)))
        → (if s then Ok [] else (if t then Err TooManyItems else Ok (map (nth n) (range_with_len 0 (unsigned_abs (m -ℤ n) + 1))))) ≡ Ok (map (nth n) (range_with_len 0 count))
    by_tests true t f = let none : 0 ≡ count = cc in ap (λ k. Ok (map (nth n) (range_with_len 0 k))) none
    by_tests false true f = absurd (cc)
    by_tests false false f = let some : unsigned_abs (m -ℤ n) + 1 ≡ count = cc in ap (λ k. Ok (map (nth n) (range_with_len 0 k))) some
