-- What a changed entry does to what the pages mean.
use Rattle.std.proofs.Common.{◌≡◌, ◌≢◌, ℕ, ◌<◌, ◌≤◌, ◌^◌, ◌==◌, ◌⊎◌, inl, inr, ⊎_elim, Bool, true, false, nat_eq, List, [], ◌∷◌, length, Option, Some, None, refl, sym, ap, ◌∙◌, cond, subst, true≢false, eq-eqb, arith}
use Rattle.std.proofs.lemmas.Bool.{eqb-true}
use Rattle.std.proofs.lemmas.Bool.Decides.{nat_tests}
use Rattle.std.specs.Ordering.{nat_cmp}
use Rattle.std.specs.Cmp.{nat_cmp_total, unsigned_tied}
use Rattle.std.specs.FinMap as map
use Rattle.page_bytes.specs.declared.ids.Addr.{Addr}
use Rattle.indirection.specs.Forms.{MOST_NUMBERS, leaf_index, entry_index, first_free, highest, entry_page, entry_place, with_entry}
use Rattle.page_bytes.specs.Seen.{bytes}
use Rattle.indirection.specs.Meaning.{leaf_number, IsTable, page_at, place_at, leaf_count, directory_count, NodeNumbers, is_listed, EntryMeans, IsFreeList, MeansNumbers}
use Rattle.indirection.proofs.Entries.{entry_page-written, entry_place-written, entry_page-apart, entry_place-apart}

abbrev Pages : Type 0
Pages = ℕ → Option (List ℕ)

-- an address of a map of numbers, once one number has another or none
pub get-with : (m : map.FinMap nat_cmp Addr) (h : ℕ) (to : Addr) (x : ℕ) → map.get (map.insert m h to) x ≡ cond (x == h) (Some to) (map.get m x)
get-with m h to x = map.get-insert nat_cmp_total m h to x ∙ ap (λ e. cond e (Some to) (map.get m x)) (unsigned_tied x h)

-- a number that was taken out has no address, and every other has what it had
pub get-without : (m : map.FinMap nat_cmp Addr) (h x : ℕ) → map.get (map.remove m h) x ≡ cond (x == h) None (map.get m x)
get-without m h x = map.get-remove nat_cmp_total m h x ∙ ap (λ e. cond e None (map.get m x)) (unsigned_tied x h)

-- a number's entry is written in its leaf
pub record WritesEntry (pages new : Pages) (h page place : ℕ) : Type 0 where
  pub leaf : bytes new (leaf_number pages (leaf_index h)) ≡ with_entry (entry_index h) page place (bytes pages (leaf_number pages (leaf_index h)))
  pub others : (l : ℕ) → l ≢ leaf_index h → leaf_number pages l ≢ leaf_number pages (leaf_index h)
      → bytes new (leaf_number pages l) ≡ bytes pages (leaf_number pages l)

module _ (pages new : Pages) (h page place leaves : ℕ) (long : length (bytes pages (leaf_number pages (leaf_index h))) ≡ 4096)
    (stays : (l : ℕ) → l < leaves → leaf_number new l ≡ leaf_number pages l) (apart : (l m : ℕ) → l < leaves → m < leaves
    → leaf_number pages l ≡ leaf_number pages m → l ≡ m)
    (below : leaf_index h < leaves) (w : WritesEntry pages new h page place) where
  -- the number's page is the one written, if that has eight bytes
  pub page_at-written : page < 256 ^ 8 → page_at new h ≡ page
  unfolding page_at
  page_at-written small =
      ap (λ n. entry_page (entry_index h) (bytes new n)) (stays (leaf_index h) below) ∙ ap (entry_page (entry_index h)) w.leaf
      ∙ entry_page-written (entry_index h) page place (bytes pages (leaf_number pages (leaf_index h))) (omega arith) long small

  -- the number's place is the one written, if that has four bytes
  pub place_at-written : place < 256 ^ 4 → place_at new h ≡ place
  unfolding place_at
  place_at-written small =
      ap (λ n. entry_place (entry_index h) (bytes new n)) (stays (leaf_index h) below) ∙ ap (entry_place (entry_index h)) w.leaf
      ∙ entry_place-written (entry_index h) page place (bytes pages (leaf_number pages (leaf_index h))) (omega arith) long small

  -- another number's entry is in another leaf, or another one of this leaf
  same_field : (read : ℕ → List ℕ → ℕ)
      → ((j : ℕ) → j < 340 → j ≢ entry_index h
      → read j (with_entry (entry_index h) page place (bytes pages (leaf_number pages (leaf_index h))))
      ≡ read j (bytes pages (leaf_number pages (leaf_index h))))
      → (x : ℕ) → 0 < x → 0 < h → x ≢ h → leaf_index x < leaves
      → read (entry_index x) (bytes new (leaf_number new (leaf_index x))) ≡ read (entry_index x) (bytes pages (leaf_number pages (leaf_index x)))
  same_field read kept x positive positive' differ inside = ap (λ n. read (entry_index x) (bytes new n)) (stays (leaf_index x) inside)
      ∙ at (nat_eq (leaf_index x) (leaf_index h)) refl
    where
      at : (same : Bool) → nat_eq (leaf_index x) (leaf_index h) ≡ same
          → read (entry_index x) (bytes new (leaf_number pages (leaf_index x))) ≡ read (entry_index x) (bytes pages (leaf_number pages (leaf_index x)))
      at true is =
          let same = eqb-true (leaf_index x) (leaf_index h) is in
          subst (λ l. read (entry_index x) (bytes new (leaf_number pages l)) ≡ read (entry_index x) (bytes pages (leaf_number pages l))) (sym same)
          (ap (read (entry_index x)) w.leaf ∙ kept (entry_index x) (omega arith) (λ place. differ (omega (arith, same, place, positive, positive'))))
      at false is =
          let other : leaf_index x ≢ leaf_index h = λ one. true≢false (sym (eq-eqb (leaf_index x) (leaf_index h) one) ∙ is) in
          ap (read (entry_index x)) (w.others (leaf_index x) other (λ one. other (apart (leaf_index x) (leaf_index h) inside below one)))

  -- another number's page is as it was, where both numbers are past 0 and its leaf is of the table
  pub page_at-kept : (x : ℕ) → 0 < x → 0 < h → x ≢ h → leaf_index x < leaves → page_at new x ≡ page_at pages x
  unfolding page_at
  page_at-kept = same_field entry_page (entry_page-apart (entry_index h) page place (bytes pages (leaf_number pages (leaf_index h))) (omega arith) long)

  -- another number's place is as it was, where both numbers are past 0 and its leaf is of the table
  pub place_at-kept : (x : ℕ) → 0 < x → 0 < h → x ≢ h → leaf_index x < leaves → place_at new x ≡ place_at pages x
  unfolding place_at
  place_at-kept = same_field entry_place (entry_place-apart (entry_index h) page place (bytes pages (leaf_number pages (leaf_index h))) (omega arith) long)

-- a list of free numbers stays one where their entries stay
pub IsFreeList-kept : (pages new : Pages) (first : ℕ) (hs : List ℕ) → ((x : ℕ) → is_listed hs x ≡ true → place_at new x ≡ place_at pages x)
    → IsFreeList pages first hs → IsFreeList new first hs
IsFreeList-kept pages new first [] kept is = is
IsFreeList-kept pages new first (h ∷ hs) kept is = (
  is.0,
  is.1,
  subst (λ n. IsFreeList new n hs) (sym (kept h (listed_first h hs)))
      (IsFreeList-kept pages new (place_at pages h) hs (λ x listed. kept x (listed_behind x h hs listed)) is.2),
)
  where
    listed_first : (h : ℕ) (hs : List ℕ) → is_listed (h ∷ hs) h ≡ true
    listed_first h hs = grind (arith, nat_tests)

    listed_behind : (x h : ℕ) (hs : List ℕ) → is_listed hs x ≡ true → is_listed (h ∷ hs) x ≡ true
    listed_behind x h hs listed = grind (arith, nat_tests)

-- what the numbers are once the entry of one of them is another
pub record Differs (pages new : Pages) (before after : NodeNumbers) (h : ℕ) : Type 0 where
  pub taken : (x : ℕ) → x ≢ h → map.get after.taken x ≡ map.get before.taken x
  pub listed : (x : ℕ) → x ≢ h → is_listed after.free x ≡ is_listed before.free x
  pub page : (x : ℕ) → 0 < x → x ≤ before.highest → x ≢ h → page_at new x ≡ page_at pages x
  pub place : (x : ℕ) → 0 < x → x ≤ before.highest → x ≢ h → place_at new x ≡ place_at pages x
  pub entry : EntryMeans (map.get after.taken h) (is_listed after.free h) (page_at new h) (place_at new h)
  pub given : (0 < h) × (h ≤ after.highest)
  pub raised : (x : ℕ) → x ≢ h → x ≤ after.highest → x ≤ before.highest
  pub kept : before.highest ≤ after.highest

-- where the pages meant numbers, and differ at one number alone as the numbers do, they mean the numbers after,
-- if the table, the highest number and the free list after are these numbers' too
pub means_after : (pages new : Pages) (before after : NodeNumbers) (h : ℕ) → MeansNumbers pages before → Differs pages new before after h
    → IsTable new (directory_count (leaf_count after.highest)) (directory_count (leaf_count after.highest)) (leaf_count after.highest)
    → highest (bytes new 0) ≡ after.highest → after.highest ≤ MOST_NUMBERS → IsFreeList new (first_free (bytes new 0)) after.free → MeansNumbers new after
means_after pages new before after h m d table top most free = record {
  table = table;
  highest = top;
  most = most;
  free = free;
  entry = λ x positive inside. here_or x
      (λ same. subst (λ x. EntryMeans (map.get after.taken x) (is_listed after.free x) (page_at new x) (place_at new x)) (sym same) d.entry)
      (λ differ. moved (sym (d.taken x differ)) (sym (d.listed x differ)) (sym (d.page x positive (d.raised x differ inside) differ))
      (sym (d.place x positive (d.raised x differ inside) differ))
      (m.entry x positive (d.raised x differ inside)));
  outside = λ x out.
      let differ : x ≢ h = λ same. let given = d.given in
      ⊎_elim (λ zero. absurd (omega (arith, same, given, zero))) (λ past. absurd (omega (arith, same, given, past))) out in
      let before_out : (x ≡ 0) ⊎ (before.highest < x) = ⊎_elim (λ zero. inl zero) (λ past. let kept = d.kept in inr (omega (arith, kept, past))) out in
      (d.taken x differ ∙ (m.outside x before_out).0, d.listed x differ ∙ (m.outside x before_out).1);
}
  where
    here_or : (x : ℕ) {P : Type 0} → (x ≡ h → P) → (x ≢ h → P) → P
    here_or x {P = P} same other = at (nat_eq x h) refl
      where
        at : (b : Bool) → nat_eq x h ≡ b → P
        at true is = same (eqb-true x h is)
        at false is = other (λ one. true≢false (sym (eq-eqb x h one) ∙ is))

    moved : {t t' : Option Addr} {l l' : Bool} {p p' q q' : ℕ} → t ≡ t' → l ≡ l' → p ≡ p' → q ≡ q' → EntryMeans t l p q → EntryMeans t' l' p' q'
    moved et el ep eq e = subst (λ (r : Option Addr × Bool × ℕ × ℕ). EntryMeans r.0 r.1 r.2 r.3) (λ i. (et i, el i, ep i, eq i)) e
