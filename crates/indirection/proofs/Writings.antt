-- What a written entry and a written head leave, as they are seen.
use Rattle.std.proofs.Common.{◌≡◌, ℕ, ◌+◌, ◌*◌, ◌/◌, ◌<◌, ◌≤◌, ◌^◌, ◌⊎◌, inl, List, length, slice_index, Option, sym, ap, ◌∙◌, arith, IsTrue}
use Rattle.page_bytes.specs.declared.ids.Space.{Space}
use Rattle.page_bytes.specs.declared.ids.PageId.{PageId}
use Rattle.page_bytes.specs.Fields.{field, with_field}
use Rattle.page_bytes.specs.Known.{is_there}
use Rattle.page_bytes.specs.Work.{Work}
use Rattle.page_bytes.proofs.FieldLaws.{field-written}
use Rattle.indirection.specs.Forms.{LEAF_KIND, leaf_index, entry_index, with_entry}
use Rattle.page_bytes.specs.Links.{page_in}
use Rattle.indirection.specs.Writing.{with_number, with_entry_in}
use Rattle.page_bytes.specs.Seen.{seen, bytes}
use Rattle.indirection.specs.Meaning.{IsPage, leaf_number, IsTable, page_at, place_at}
use Rattle.page_bytes.proofs.WrittenFields.{length-with_field, field_apart, kind_kept}
use Rattle.indirection.proofs.Entries.{length-with_entry, kind-with_entry}
use Rattle.page_bytes.proofs.SeenPages.{seen-written, seen-beside, seen-first}
use Rattle.indirection.proofs.Steps.{Only, Keeping, IsTable-kept, leaf_stays, kinds_apart, leaf_written, head_written}
use Rattle.indirection.proofs.Meanings.{WritesEntry}

-- an entry is written in its leaf
module _ (w : Work) (all : PageId → Option (List ℕ)) (space : Space) (h page place roots directories leaves : ℕ)
    (t : IsTable (seen w.now all space) roots directories leaves) (rooted : 0 < directories → 0 < roots) (placed : (l : ℕ) → l < leaves → l / 511 < directories)
    (below : leaf_index h < leaves) (there : IsTrue (is_there w.now (page_in space (leaf_number (seen w.now all space) (leaf_index h))))) where
  abbrev leaf : ℕ
  leaf = leaf_number (seen w.now all space) (leaf_index h)

  -- the workspace once this page and place are written in the number's entry
  abbrev pub entered : Work
  entered = with_entry_in w space (leaf_number (seen w.now all space) (leaf_index h)) (entry_index h) page place

  -- the leaf has its bytes with the entry written
  pub entered_bytes : bytes (seen entered.now all space) leaf ≡ with_entry (entry_index h) page place (bytes (seen w.now all space) leaf)
  entered_bytes = seen-written w all space leaf _ ∙ ap (with_entry (entry_index h) page place) (sym (seen-first w.now all space leaf there))

  -- every page beside the leaf is as it was
  pub entered_only : Only (seen w.now all space) (seen entered.now all space) leaf
  entered_only q differ = seen-beside w all space leaf q _ differ

  -- the leaf is still a page of 4,096 bytes and of a leaf's kind
  pub entered_page : IsPage (seen entered.now all space) LEAF_KIND leaf
  entered_page =
      let is = (t.leaf (leaf_index h) below).0 in let b = bytes (seen w.now all space) leaf in (
        ap (λ l. slice_index l 0) entered_bytes ∙ kind-with_entry (entry_index h) page place b (omega arith) is.1 ∙ is.0,
        ap length entered_bytes ∙ length-with_entry (entry_index h) page place b (omega arith) is.1,
      )

  entered_keeps : Keeping (seen w.now all space) (seen entered.now all space) roots directories leaves
  entered_keeps = leaf_written (seen w.now all space) (seen entered.now all space) roots directories leaves t
      (leaf_index h) below rooted entered_only entered_page

  -- the pages are still a table with as many directory pages and leaves
  pub entered_table : IsTable (seen entered.now all space) roots directories leaves
  entered_table = IsTable-kept (seen w.now all space) (seen entered.now all space) roots directories leaves t entered_keeps rooted placed

  -- each leaf has the number that it had
  pub entered_stays : (l : ℕ) → l < leaves → leaf_number (seen entered.now all space) l ≡ leaf_number (seen w.now all space) l
  entered_stays = leaf_stays (seen w.now all space) (seen entered.now all space) roots directories leaves t entered_keeps rooted placed

  -- the number's entry is written, and every other leaf is as it was
  pub entered_writes : WritesEntry (seen w.now all space) (seen entered.now all space) h page place
  entered_writes = record { leaf = entered_bytes; others = λ l other differ. entered_only (leaf_number (seen w.now all space) l) differ }

  -- the head is as it was
  pub entered_head : bytes (seen entered.now all space) 0 ≡ bytes (seen w.now all space) 0
  entered_head = entered_only 0
      (kinds_apart (seen w.now all space) 2 LEAF_KIND 0 leaf (λ is. absurd (omega (arith, is))) t.head (t.leaf (leaf_index h) below).0)

-- a field of the head behind the root is written
module _ (w : Work) (all : PageId → Option (List ℕ)) (space : Space) (at x roots directories leaves : ℕ) (behind : 26 ≤ at) (inside : at + 4 ≤ 4096)
    (t : IsTable (seen w.now all space) roots directories leaves) (rooted : 0 < directories → 0 < roots) (placed : (l : ℕ) → l < leaves → l / 511 < directories)
    (there : IsTrue (is_there w.now (page_in space 0))) where
  -- the workspace once four bytes of the head are written with x
  abbrev pub headed : Work
  headed = with_number 4 w space 0 at x

  -- the head has its bytes with the field written
  pub headed_bytes : bytes (seen headed.now all space) 0 ≡ with_field 4 (bytes (seen w.now all space) 0) at x
  headed_bytes = seen-written w all space 0 _ ∙ ap (λ (b : List ℕ). with_field 4 b at x) (sym (seen-first w.now all space 0 there))

  -- every page beside the head is as it was
  pub headed_only : Only (seen w.now all space) (seen headed.now all space) 0
  headed_only q differ = seen-beside w all space 0 q _ differ

  fits : at + 4 ≤ length (bytes (seen w.now all space) 0)
  fits = let long = t.head.1 in omega (arith, long, inside)

  -- another field of the head stays
  pub headed_field : (n to : ℕ) → (to + n ≤ at) ⊎ (at + 4 ≤ to) → field n to (bytes (seen headed.now all space) 0) ≡ field n to (bytes (seen w.now all space) 0)
  headed_field n to apart = ap (field n to) headed_bytes ∙ field_apart n to 4 (bytes (seen w.now all space) 0) at x apart fits

  -- the field has what was written, if that has four bytes
  pub headed_written : x < 256 ^ 4 → field 4 at (bytes (seen headed.now all space) 0) ≡ x
  headed_written small = ap (field 4 at) headed_bytes
      ∙ field-written 4 at x (bytes (seen w.now all space) 0) small (let long = t.head.1 in omega (arith, long, inside))

  headed_keeps : Keeping (seen w.now all space) (seen headed.now all space) roots directories leaves
  headed_keeps =
      head_written (seen w.now all space) (seen headed.now all space) roots directories leaves t headed_only (
        ap (λ l. slice_index l 0) headed_bytes ∙ kind_kept 4 (bytes (seen w.now all space) 0) at x (omega (arith, behind)) fits ∙ t.head.0,
        ap length headed_bytes ∙ length-with_field 4 (bytes (seen w.now all space) 0) at x fits ∙ t.head.1,
      )
      (headed_field 8 18 (inl (omega (arith, behind)))) (let same = headed_field 8 2 (inl (omega (arith, behind))) in omega (arith, same))
      (let same = headed_field 8 2 (inl (omega (arith, behind))) in let before = t.last in omega (arith, same, before))

  -- the pages are still a table with as many directory pages and leaves
  pub headed_table : IsTable (seen headed.now all space) roots directories leaves
  headed_table = IsTable-kept (seen w.now all space) (seen headed.now all space) roots directories leaves t headed_keeps rooted placed

  headed_leaf : (l : ℕ) → l < leaves
      → bytes (seen headed.now all space) (leaf_number (seen headed.now all space) l) ≡ bytes (seen w.now all space) (leaf_number (seen w.now all space) l)
  headed_leaf l below =
      ap (bytes (seen headed.now all space))
      (leaf_stays (seen w.now all space) (seen headed.now all space) roots directories leaves t headed_keeps rooted placed l below)
      ∙ headed_only (leaf_number (seen w.now all space) l)
      (kinds_apart (seen w.now all space) LEAF_KIND 2 (leaf_number (seen w.now all space) l) 0 (λ is. absurd (omega (arith, is))) (t.leaf l below).0 t.head)

  -- and no entry changes
  pub headed_page : (h : ℕ) → leaf_index h < leaves → page_at (seen headed.now all space) h ≡ page_at (seen w.now all space) h
  unfolding page_at
  headed_page h below = ap (λ l. field 8 (16 + entry_index h * 12) l) (headed_leaf (leaf_index h) below)

  -- the place in each entry of the table's leaves is as it was
  pub headed_place : (h : ℕ) → leaf_index h < leaves → place_at (seen headed.now all space) h ≡ place_at (seen w.now all space) h
  unfolding place_at
  headed_place h below = ap (λ l. field 4 (16 + entry_index h * 12 + 8) l) (headed_leaf (leaf_index h) below)
