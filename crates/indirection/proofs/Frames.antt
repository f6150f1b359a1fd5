-- What calls of other structures leave of node numbers.
use Rattle.std.proofs.Common.{◌≡◌, ◌≢◌, ℕ, ◌+◌, ◌/◌, ◌<◌, ◌≤◌, ◌==◌, ◌||◌, ◌⊎◌, inl, inr, Bool, true, false, List, [], length, slice_index, Option, Some, None, refl, sym, ap, ◌∙◌, subst, IsTrue, unwrap_or, true≢false, eq-eqb, arith}
use Rattle.std.specs.FinMap as map
use Rattle.page_bytes.specs.Fields.{field, bytes_at}
use Rattle.page_bytes.specs.Frames.{Call, before, behind}
use Rattle.page_bytes.specs.Head.{next_page}
use Rattle.page_bytes.specs.Own.{HasOwnPage}
use Rattle.page_bytes.specs.Seen.{bytes}
use Rattle.page_bytes.proofs.FieldLaws.{field-bytes_at, slice_index-bytes_at}
use Rattle.page_bytes.proofs.Frames.{page_stays}
use Rattle.indirection.specs.Forms.{LEAF_KIND, DIRECTORY_KIND, leaf_index, entry_index, root, first_free, highest, entry_page, entry_place}
use Rattle.indirection.specs.Meaning.{IsPage, root_number, directory_number, leaf_number, IsTable, page_at, place_at, leaf_count, directory_count, NodeNumbers, is_listed, EntryMeans, IsFreeList, MeansNumbers}
use Rattle.indirection.specs.Owned.{is_number_kind}
use Rattle.indirection.specs.Sparing.{SparesNumbers}
use Rattle.indirection.proofs.Meanings.{IsFreeList-kept}
use Rattle.indirection.proofs.Steps.{Keeping, IsTable-kept, leaf_stays}

module _ (c : Call) (spares : SparesNumbers c) where
  -- a page of a kind that isn't the call's
  foreign_page : (n kind : ℕ) → 0 < kind → slice_index (bytes (before c) n) 0 ≡ kind → c.own.is_kind kind ≡ false → HasOwnPage c.own (before c n) → ⊥
  unfolding bytes
  foreign_page n kind positive is foreign mine = at (before c n) is mine
    where
      at : (o : Option (List ℕ)) → slice_index (unwrap_or o []) 0 ≡ kind → HasOwnPage c.own o → ⊥
      at None is mine = absurd mine
      at (Some b) is mine = true≢false (sym mine ∙ ap c.own.is_kind is ∙ foreign)

  -- a page of node numbers stays
  stays : (n kind : ℕ) → 0 < kind → kind ≢ 2 → IsPage (before c) 2 0 → IsPage (before c) kind n → c.own.is_kind kind ≡ false → is_number_kind kind ≡ true
      → n < next_page (bytes (before c) 0)
      → bytes (behind c) n ≡ bytes (before c) n
  unfolding bytes
  stays n kind positive differ head page foreign mine early =
      let past : n ≢ 0 = λ none. differ (sym page.0 ∙ ap (λ m. slice_index (bytes (before c) m) 0) none ∙ head.0) in
      ap (λ o. unwrap_or o []) (page_stays c n spares.keeps (record {
        beside = omega (arith, past);
        foreign = foreign_page n kind positive page.0 foreign;
        untouched = spares.untouched n (ap is_number_kind page.0 ∙ mine);
        earlier = early;
      }))

  -- a field of the head stays
  head_field : (k at : ℕ) → bytes_at at k (bytes (behind c) 0) ≡ bytes_at at k (bytes (before c) 0)
      → field k at (bytes (behind c) 0) ≡ field k at (bytes (before c) 0)
  head_field k at same = field-bytes_at k at (bytes (before c) 0) (bytes (behind c) 0) same

  module _ (numbers : NodeNumbers) (m : MeansNumbers (before c) numbers) where
    abbrev leaves : ℕ
    leaves = leaf_count numbers.highest

    abbrev directories : ℕ
    directories = directory_count (leaf_count numbers.highest)

    placed : (l : ℕ) → l < leaf_count numbers.highest → l / 511 < directory_count (leaf_count numbers.highest)
    placed l below = omega (arith, below)

    directory_same : (n : ℕ) → IsPage (before c) DIRECTORY_KIND n → n < next_page (bytes (before c) 0) → bytes (behind c) n ≡ bytes (before c) n
    directory_same n page early = stays n DIRECTORY_KIND (omega arith) (λ is. absurd (omega (arith, is))) m.table.head page spares.directory refl early

    leaf_same : (n : ℕ) → IsPage (before c) LEAF_KIND n → n < next_page (bytes (before c) 0) → bytes (behind c) n ≡ bytes (before c) n
    leaf_same n page early = stays n LEAF_KIND (omega arith) (λ is. absurd (omega (arith, is))) m.table.head page spares.leaf refl early

    root_same : root_number (behind c) ≡ root_number (before c)
    unfolding root_number
    root_same = head_field 8 18 (spares.keeps.head 18 8 spares.root (inr (omega arith)))

    kept : Keeping (before c) (behind c) directories directories leaves
    kept = record {
      head = (
        sym (slice_index-bytes_at (bytes (behind c) 0) 0) ∙ ap (λ l. slice_index l 0) (spares.keeps.head 0 1 spares.kind (inl (omega arith)))
            ∙ slice_index-bytes_at (bytes (before c) 0) 0 ∙ m.table.head.0,
        spares.keeps.long ∙ m.table.head.1,
      );
      root = root_same;
      next = spares.keeps.raised;
      last = spares.keeps.last m.table.last;
      root_bytes = λ some. directory_same (root_number (before c)) (m.table.root some).0 (m.table.root some).1;
      directory_bytes = λ d below. directory_same (directory_number (before c) d) (m.table.directory d below).0 (m.table.directory d below).1;
      leaf_page = λ l below. let page = m.table.leaf l below in
          subst (λ (b : List ℕ). (slice_index b 0 ≡ LEAF_KIND) × (length b ≡ 4096)) (sym (leaf_same (leaf_number (before c) l) page.0 page.1)) page.0;
    }

    leaf_bytes : (l : ℕ) → l < leaves → bytes (behind c) (leaf_number (behind c) l) ≡ bytes (before c) (leaf_number (before c) l)
    leaf_bytes l below =
        ap (bytes (behind c)) (leaf_stays (before c) (behind c) directories directories leaves m.table kept (λ some. some) placed l below)
        ∙ leaf_same (leaf_number (before c) l) (m.table.leaf l below).0 (m.table.leaf l below).1

    inside : (h : ℕ) → 0 < h → h ≤ numbers.highest → leaf_index h < leaf_count numbers.highest
    inside h positive up = omega (arith, positive, up)

    page_same : (h : ℕ) → 0 < h → h ≤ numbers.highest → page_at (behind c) h ≡ page_at (before c) h
    unfolding page_at
    page_same h positive up = ap (entry_page (entry_index h)) (leaf_bytes (leaf_index h) (inside h positive up))

    place_same : (h : ℕ) → 0 < h → h ≤ numbers.highest → place_at (behind c) h ≡ place_at (before c) h
    unfolding place_at
    place_same h positive up = ap (entry_place (entry_index h)) (leaf_bytes (leaf_index h) (inside h positive up))

    -- a free number is in range
    in_range : (h : ℕ) → is_listed numbers.free h ≡ true → (0 < h) × (h ≤ numbers.highest)
    in_range h listed = (
      (let some : h ≢ 0 = λ none. true≢false (sym listed ∙ (m.outside h (inl none)).1) in omega (arith, some)),
      (let low : numbers.highest < h → ⊥ = λ past. true≢false (sym listed ∙ (m.outside h (inr past)).1) in omega (arith, low)),
    )

    -- after the call the pages mean the numbers that they meant before it
    pub numbers_stay : MeansNumbers (behind c) numbers
    numbers_stay = record {
      table = IsTable-kept (before c) (behind c) directories directories leaves m.table kept (λ some. some) placed;
      highest = head_field 4 38 (spares.keeps.head 38 4 spares.highest (inr (omega arith))) ∙ m.highest;
      most = m.most;
      free = IsFreeList-kept (before c) (behind c) (first_free (bytes (behind c) 0)) numbers.free
          (λ x listed. let range = in_range x listed in place_same x range.0 range.1)
          (subst (λ n. IsFreeList (before c) n numbers.free) (sym (head_field 4 34 (spares.keeps.head 34 4 spares.first_free (inr (omega arith))))) m.free);
      entry = λ h positive up.
          subst (λ (e : ℕ × ℕ). EntryMeans (map.get numbers.taken h) (is_listed numbers.free h) e.0 e.1)
          (λ i. (sym (page_same h positive up) i, sym (place_same h positive up) i)) (m.entry h positive up);
      outside = m.outside;
    }

-- where a call spares node numbers the pages mean the same ones
pub frame : (c : Call) (numbers : NodeNumbers) → SparesNumbers c → MeansNumbers (before c) numbers → MeansNumbers (behind c) numbers
frame c numbers spares m = numbers_stay c spares numbers m
