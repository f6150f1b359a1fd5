-- The order of keys is total, and that of tuples by their keys is a strict weak order.
use Rattle.std.proofs.Common.{◌≡◌, ℕ, ◌≤◌, ◌<◌, length, Bool, true, false, List, [], ◌∷◌, refl, sym, ap, ◌∙◌, Ordering, subst, ℤ, pos, arith}
use Rattle.std.specs.Prelude.{map, if◌then◌else◌}
use Rattle.std.specs.Ordering.{on, then_cmp, nat_cmp, int_cmp, bool_cmp, ordering_reverse, ordering_then, is_lt}
use Rattle.std.specs.declared.cmp.Ordering.TheVariants.{Less, Equal, Greater}
use Rattle.std.specs.Cmp.{IsTotalOrder, IsStrictWeakOrder, int_cmp_total, nat_cmp_total, bool_cmp_total, on_total, then_flip, then_total, alike_right}
use Rattle.std.specs.Cmp.Lexicographic.{slice_cmp, nat_list_cmp_total}
use Rattle.std.proofs.lemmas.List.Sorted.{ranks_by}
use Rattle.xml_model.specs.declared.value.Key.{Key}
use Rattle.xml_model.specs.declared.value.Key.TheVariants as key
use Rattle.xml_model.specs.Nav.{Stored}
use Rattle.xml_model.specs.Tuples.{type_of, type_rank, key_cmp, turned, keys_cmp, row_placed, rows_placed}
use Rattle.xml_model.specs.declared.nav.Id.{Id}
use Rattle.xq_values.specs.declared.row.Row.{Row}
use Rattle.xq_values.specs.Rows.{row_seen}
use Rattle.xq_values.proofs.Stable.{placed, placed_all}

-- a key as its type, its text, its number and its truth value, of which the first that differs decides
abbrev rank : Key → ℕ
rank k = type_rank (type_of k)

abbrev text : Key → List ℕ
text key.Empty = []
text (key.Text t) = t
text (key.Int i) = []
text (key.Truth b) = []

abbrev number : Key → ℤ
number key.Empty = pos 0
number (key.Text t) = pos 0
number (key.Int i) = i
number (key.Truth b) = pos 0

abbrev truth : Key → Bool
truth key.Empty = false
truth (key.Text t) = false
truth (key.Int i) = false
truth (key.Truth b) = b

abbrev by_parts : Key → Key → Ordering
by_parts = then_cmp (on rank nat_cmp) (then_cmp (on text (slice_cmp nat_cmp)) (then_cmp (on number int_cmp) (on truth bool_cmp)))

by_parts_total : IsTotalOrder by_parts
by_parts_total =
    then_total (on_total rank nat_cmp_total) (then_total (on_total text nat_list_cmp_total) (then_total (on_total number int_cmp_total) (on_total truth bool_cmp_total)))

then_itself : (a : Ordering) → ordering_then a Equal ≡ a
then_itself Less = refl
then_itself Equal = refl
then_itself Greater = refl

parts_are : (a b : Key) → by_parts a b ≡ key_cmp a b
parts_are key.Empty key.Empty = refl
parts_are key.Empty (key.Text t) = refl
parts_are key.Empty (key.Int i) = refl
parts_are key.Empty (key.Truth b) = refl
parts_are (key.Text s) key.Empty = refl
parts_are (key.Text s) (key.Text t) = then_itself (slice_cmp nat_cmp s t)
parts_are (key.Text s) (key.Int i) = refl
parts_are (key.Text s) (key.Truth b) = refl
parts_are (key.Int i) key.Empty = refl
parts_are (key.Int i) (key.Text t) = refl
parts_are (key.Int i) (key.Int j) = then_itself (int_cmp i j)
parts_are (key.Int i) (key.Truth b) = refl
parts_are (key.Truth b) key.Empty = refl
parts_are (key.Truth b) (key.Text t) = refl
parts_are (key.Truth b) (key.Int i) = refl
parts_are (key.Truth a) (key.Truth b) = refl

key_total : IsTotalOrder key_cmp
key_total = subst IsTotalOrder (λ i a b. parts_are a b i) by_parts_total

turned_total : (d : Bool) → IsTotalOrder (λ a b. turned d (key_cmp a b))
turned_total false = key_total
turned_total true = record {
  antisymm = λ x y. ap ordering_reverse (key_total.antisymm x y);
  trans = λ x y z p q. ap ordering_reverse (back key_cmp key_total x y z p q);
  congr = λ x y z p. ap ordering_reverse (key_total.congr x y z (unturned (key_cmp x y) p));
}
  where
    unturned : (o : Ordering) → ordering_reverse o ≡ Equal → o ≡ Equal
    unturned Less p = absurd (cc)
    unturned Equal p = refl
    unturned Greater p = absurd (cc)

    less : (o : Ordering) → ordering_reverse o ≡ Less → o ≡ Greater
    less Less p = absurd (cc)
    less Equal p = absurd (cc)
    less Greater p = refl

    back : (R : Key → Key → Ordering) → IsTotalOrder R → (x y z : Key) → ordering_reverse (R x y) ≡ Less → ordering_reverse (R y z) ≡ Less → R x z ≡ Greater
    back R o x y z p q =
        let a : R y x ≡ Less = o.antisymm y x ∙ ap ordering_reverse (less (R x y) p) in
        let b : R z y ≡ Less = o.antisymm z y ∙ ap ordering_reverse (less (R y z) q) in
        o.antisymm x z ∙ ap ordering_reverse (o.trans z y x b a)

-- ---- lists of keys, by the directions

flipped : (a b c d : Ordering) → a ≡ ordering_reverse b → c ≡ ordering_reverse d → ordering_then a c ≡ ordering_reverse (ordering_then b d)
flipped a b c d p q = rw (p, q) (then_flip b d)

alike : (a b c d : Ordering) → a ≡ b → c ≡ d → ordering_then a c ≡ ordering_then b d
alike a b c d p q = rw (p, q) refl

both : (a b c d e f : Ordering) → (a ≡ Less → b ≡ Less → c ≡ Less) → (a ≡ Equal → c ≡ b) → (b ≡ Equal → c ≡ a)
    → (d ≡ Less → e ≡ Less → f ≡ Less) → ordering_then a d ≡ Less → ordering_then b e ≡ Less → ordering_then c f ≡ Less
both Less Less c d e f l m n k p q = rw (l refl refl) refl
both Less Equal c d e f l m n k p q = rw (n refl) refl
both Equal Less c d e f l m n k p q = rw (m refl) refl
both Equal Equal c d e f l m n k p q = rw (m refl) (k p q)
both Greater b c d e f l m n k p q = absurd (cc)
both Less Greater c d e f l m n k p q = absurd (cc)
both Equal Greater c d e f l m n k p q = absurd (cc)

split : (a b : Ordering) → ordering_then a b ≡ Equal → (a ≡ Equal) × (b ≡ Equal)
split Less b p = absurd (cc)
split Equal b p = (refl, p)
split Greater b p = absurd (cc)

anti : (ds : List Bool) (x y : List Key) → keys_cmp ds x y ≡ ordering_reverse (keys_cmp ds y x)
anti [] [] [] = refl
anti [] [] (y ∷ ys) = refl
anti [] (x ∷ xs) [] = refl
anti [] (x ∷ xs) (y ∷ ys) = flipped (key_cmp x y) (key_cmp y x) (keys_cmp [] xs ys) (keys_cmp [] ys xs) (key_total.antisymm x y) (anti [] xs ys)
anti (d ∷ ds) [] [] = refl
anti (d ∷ ds) [] (y ∷ ys) = refl
anti (d ∷ ds) (x ∷ xs) [] = refl
anti (d ∷ ds) (x ∷ xs) (y ∷ ys) =
    flipped (turned d (key_cmp x y)) (turned d (key_cmp y x)) (keys_cmp ds xs ys) (keys_cmp ds ys xs) ((turned_total d).antisymm x y) (anti ds xs ys)

trans : (ds : List Bool) (x y z : List Key) → keys_cmp ds x y ≡ Less → keys_cmp ds y z ≡ Less → keys_cmp ds x z ≡ Less
trans [] [] [] z p q = absurd (cc)
trans [] [] (y ∷ ys) [] p q = absurd (cc)
trans [] [] (y ∷ ys) (z ∷ zs) p q = refl
trans [] (x ∷ xs) [] z p q = absurd (cc)
trans [] (x ∷ xs) (y ∷ ys) [] p q = absurd (cc)
trans [] (x ∷ xs) (y ∷ ys) (z ∷ zs) p q =
    both (key_cmp x y) (key_cmp y z) (key_cmp x z) (keys_cmp [] xs ys) (keys_cmp [] ys zs) (keys_cmp [] xs zs)
    (key_total.trans x y z) (key_total.congr x y z) (λ e. sym (alike_right key_total y z x e)) (trans [] xs ys zs) p q
trans (d ∷ ds) [] [] z p q = absurd (cc)
trans (d ∷ ds) [] (y ∷ ys) [] p q = absurd (cc)
trans (d ∷ ds) [] (y ∷ ys) (z ∷ zs) p q = refl
trans (d ∷ ds) (x ∷ xs) [] z p q = absurd (cc)
trans (d ∷ ds) (x ∷ xs) (y ∷ ys) [] p q = absurd (cc)
trans (d ∷ ds) (x ∷ xs) (y ∷ ys) (z ∷ zs) p q =
    let o = turned_total d in
    both (turned d (key_cmp x y)) (turned d (key_cmp y z)) (turned d (key_cmp x z)) (keys_cmp ds xs ys) (keys_cmp ds ys zs) (keys_cmp ds xs zs)
    (o.trans x y z) (o.congr x y z) (λ e. sym (alike_right o y z x e)) (trans ds xs ys zs) p q

congr : (ds : List Bool) (x y z : List Key) → keys_cmp ds x y ≡ Equal → keys_cmp ds x z ≡ keys_cmp ds y z
congr [] [] [] z p = refl
congr [] [] (y ∷ ys) z p = absurd (cc)
congr [] (x ∷ xs) [] z p = absurd (cc)
congr [] (x ∷ xs) (y ∷ ys) [] p = refl
congr [] (x ∷ xs) (y ∷ ys) (z ∷ zs) p =
    let s = split (key_cmp x y) (keys_cmp [] xs ys) p in
    alike (key_cmp x z) (key_cmp y z) (keys_cmp [] xs zs) (keys_cmp [] ys zs) (key_total.congr x y z s.0) (congr [] xs ys zs s.1)
congr (d ∷ ds) [] [] z p = refl
congr (d ∷ ds) [] (y ∷ ys) z p = absurd (cc)
congr (d ∷ ds) (x ∷ xs) [] z p = absurd (cc)
congr (d ∷ ds) (x ∷ xs) (y ∷ ys) [] p = refl
congr (d ∷ ds) (x ∷ xs) (y ∷ ys) (z ∷ zs) p =
    let s = split (turned d (key_cmp x y)) (keys_cmp ds xs ys) p in
    alike (turned d (key_cmp x z)) (turned d (key_cmp y z)) (keys_cmp ds xs zs) (keys_cmp ds ys zs) ((turned_total d).congr x y z s.0) (congr ds xs ys zs s.1)

-- lists of keys are in a total order
pub keys_total : (ds : List Bool) → IsTotalOrder (keys_cmp ds)
keys_total ds = record { antisymm = anti ds; trans = trans ds; congr = congr ds }

-- ---- tuples

-- one tuple stands before another by its keys
abbrev pub before : List Bool → Row → Row → Bool
before ds a b = is_lt (keys_cmp ds a.keys b.keys)

-- and that is a strict weak order
pub rows_rank : (ds : List Bool) → IsStrictWeakOrder (before ds)
rows_rank ds = ranks_by (keys_total ds) (λ (r : Row). r.keys)

-- a tuple is put at one place, whether it is looked at before or after
placed_seen : (place : Id → Stored) (ds : List Bool) (row : Row) (rows : List Row)
    → map (row_seen place) (placed (before ds) row rows) ≡ row_placed ds (row_seen place row) (map (row_seen place) rows)
placed_seen place ds row [] = refl
placed_seen place ds row (other ∷ rows) = by_test (before ds row other) (placed_seen place ds row rows)
  where
    by_test : (t : Bool) → map (row_seen place) (placed (before ds) row rows) ≡ row_placed ds (row_seen place row) (map (row_seen place) rows)
        → map (row_seen place) (if t then row ∷ other ∷ rows else other ∷ placed (before ds) row rows)
        ≡ (if t then row_seen place row ∷ row_seen place other ∷ map (row_seen place) rows else row_seen place other ∷ row_placed ds (row_seen place row) (map (row_seen place) rows))
    by_test true same = refl
    by_test false same = ap (λ rs. row_seen place other ∷ rs) same

-- and so are all
pub all_placed_seen : (place : Id → Stored) (ds : List Bool) (rows done : List Row)
    → map (row_seen place) (placed_all (before ds) rows done) ≡ rows_placed ds (map (row_seen place) rows) (map (row_seen place) done)
all_placed_seen place ds [] done = refl
all_placed_seen place ds (row ∷ rows) done =
    all_placed_seen place ds rows (placed (before ds) row done) ∙ ap (rows_placed ds (map (row_seen place) rows)) (placed_seen place ds row done)

-- ---- lists of unlike length

-- a list with a key in front stands behind one that has none
pub greater : (ds : List Bool) (a b : List Key) → 1 ≤ length a → length b ≡ 0 → Greater ≡ keys_cmp ds a b
greater ds [] b some none = absurd (omega arith)
greater ds (x ∷ xs) [] some none = refl
greater ds (x ∷ xs) (y ∷ ys) some none = absurd (omega arith)

-- a list that has no key is empty
pub no_keys : (ds : List Bool) (a b : List Key) → length a < 1 → keys_cmp ds [] b ≡ keys_cmp ds a b
no_keys ds [] b none = refl
no_keys ds (x ∷ xs) b none = absurd (omega arith)
