-- What a number that is given does to what the pages mean.
use Rattle.std.proofs.Common.{◌≡◌, ◌≢◌, ℕ, ◌+◌, ◌*◌, ◌/◌, ◌%◌, ◌<◌, ◌≤◌, ◌^◌, ◌==◌, ◌||◌, ◌⊎◌, inl, inr, ⊎_elim, Bool, true, false, List, [], ◌∷◌, Option, Some, None, Result, Ok, Err, MatchResult, refl, sym, ap, ◌∙◌, subst, true≢false, eq-eqb, le-ltb, arith, IsTrue, if◌then◌else◌}
use Rattle.std.proofs.lemmas.Bool.{eqb-true}
use Rattle.std.proofs.lemmas.Bool.Decides.{nat_tests}
use Rattle.std.specs.FinMap as map
use Rattle.page_bytes.specs.declared.ids.Space.{Space}
use Rattle.page_bytes.specs.declared.ids.PageId.{PageId}
use Rattle.page_bytes.specs.declared.ids.NodeNo.{NodeNo}
use Rattle.page_bytes.specs.declared.ids.Addr.{Addr}
use Rattle.page_bytes.specs.declared.end.PageEnd.{PageEnd}
use Rattle.page_bytes.specs.declared.end.PageEnd.TheVariants.{Damaged, Spent}
use Rattle.page_bytes.specs.PageNumber.{page_number}
use Rattle.page_bytes.specs.Fields.{field}
use Rattle.page_bytes.specs.Head.{head_of, LAST_PAGE}
use Rattle.page_bytes.specs.Known.{Known, is_there}
use Rattle.page_bytes.specs.Work.{Work}
use Rattle.indirection.specs.declared.forms.Leaf.{Leaf}
use Rattle.indirection.specs.declared.forms.Numbers.{Numbers}
use Rattle.indirection.specs.declared.forms.Entry.TheVariants.{Taken, Free}
use Rattle.indirection.specs.Forms.{MOST_NUMBERS, LEAF_KIND, leaf_index, entry_index, first_free, highest}
use Rattle.page_bytes.specs.Links.{and_then, page_in}
use Rattle.indirection.specs.Reading.{linked}
use Rattle.indirection.specs.Finding.{numbers_in, directory_in, leaf_in, found_in}
use Rattle.indirection.specs.Writing.{with_number, with_entry_in}
use Rattle.indirection.specs.Adding.{free_behind, reused_in, placed_in, grown_in, last_leaf, appended_in, added_in}
use Rattle.page_bytes.specs.Answers.{Answers, IsStop, IsNeed, IsSpent}
use Rattle.page_bytes.specs.Seen.{seen, bytes}
use Rattle.indirection.specs.Meaning.{root_number, directory_number, leaf_number, page_at, place_at, leaf_count, directory_count, NodeNumbers, is_listed, EntryMeans, IsFreeList, MeansNumbers, next_number, highest_given, free_left, with_number_given, MOST_PAGES, IsNotGiven}
use Rattle.page_bytes.proofs.Askings.{Gives, gives_then}
use Rattle.page_bytes.proofs.PageWrites.{there_with_page}
use Rattle.indirection.proofs.Meanings.{page_at-written, place_at-written, page_at-kept, place_at-kept, IsFreeList-kept, means_after}
use Rattle.indirection.proofs.Writings.{entered_table, entered_stays, entered_writes, entered_head, headed_table, headed_field, headed_written, headed_page, headed_place}
use Rattle.indirection.proofs.Findings.{directory_in-is, leaf_in-is, leaf-is, means_numbers-is, means_found-is}
use Rattle.indirection.proofs.Changing.{get-with_same, get-with_other, means_address, in_range, entry_written, written_table, written_head, written_page, written_place, written_page_kept, written_place_kept, listed_other}
use Rattle.indirection.proofs.Ending.{free_small, refused_or_needs, then_refused}
use Rattle.indirection.proofs.Children.{Stands, one_root}
use Rattle.indirection.proofs.Reaching.{Reaches, reaches_then, gives_reaches, HasLeaf, grown-is}

-- the end of a call that reaches a value
pub reached : {X : Type 0} (k : Known) (all : PageId → Option (List ℕ)) (space : Space) (most : ℕ) (s : Result (X × Work) PageEnd) (r : Result X PageEnd)
    (w' : Work) (Q : X × Work → Type 0) (R : PageEnd → Type 0)
    → Reaches k all space most s Q → Answers s r w' → MatchResult r (λ x. Q (x, w')) (λ e. IsStop k all space e ⊎ (IsSpent (seen k all space) most e ⊎ R e))
reached k all space most s (Ok y) w' Q R (inl given) answer =
    let is = subst (λ s. Answers s (Ok y) w') given.1 answer in subst Q (λ i. (sym is.0 i, sym is.1 i)) given.2
reached k all space most s (Err e) w' Q R (inl given) answer = inl (inl (subst (λ s. Answers s (Err e) w') given.1 answer))
reached k all space most s (Ok y) w' Q R (inr (inl need)) answer = absurd (subst (λ s. Answers s (Ok y) w') need.1.0 answer)
reached k all space most s (Err e) w' Q R (inr (inl need)) answer =
    ⊎_elim (λ is. inl (inr (subst (IsNeed k all space) (sym is) need.1.1))) (λ is. inl (inl is)) (subst (λ s. Answers s (Err e) w') need.1.0 answer)
reached k all space most s (Ok y) w' Q R (inr (inr is)) answer = absurd (subst (λ s. Answers s (Ok y) w') is.0 answer)
reached k all space most s (Err e) w' Q R (inr (inr is)) answer =
    ⊎_elim (λ same. inr (inl (same, is.1))) (λ none. inl (inl none)) (subst (λ s. Answers s (Err e) w') is.0 answer)

module _ (w : Work) (all : PageId → Option (List ℕ)) (space : Space) (m : NodeNumbers) (means : MeansNumbers (seen w.now all space) m)
    (to : Addr) (page_small : to.page < 256) (at_small : to.at < 65536) (layer_small : to.layer < 2 ^ 56) (some : 0 < page_number to) where
  -- the first free number is given again
  module _ (h : ℕ) (hs : List ℕ) (split : m.free ≡ h ∷ hs) where
    free_is : IsFreeList (seen w.now all space) (first_free (bytes (seen w.now all space) 0)) (h ∷ hs)
    free_is = subst (IsFreeList (seen w.now all space) (first_free (bytes (seen w.now all space) 0))) split means.free

    listed_first : is_listed m.free h ≡ true
    listed_first = ap (λ l. is_listed l h) split ∙ ap (λ b. b || is_listed hs h) (eq-eqb h h refl)

    part : (x : ℕ) → is_listed hs x ≡ true → is_listed m.free x ≡ true
    part x listed = ap (λ l. is_listed l x) split ∙ or_true (x == h) (is_listed hs x) listed
      where
        or_true : (a b : Bool) → b ≡ true → (a || b) ≡ true
        or_true true b is = refl
        or_true false b is = is

    abbrev reused : Work
    reused = with_number 4 (with_entry_in w space (leaf_number (seen w.now all space) (leaf_index h)) (entry_index h) (page_number to) to.at) space 0 34
        (place_at (seen w.now all space) h)

    abbrev after : NodeNumbers
    after = record { taken = map.insert m.taken h to; free = hs; highest = m.highest }

    means_reused : 0 < h → h ≤ m.highest → IsTrue (is_there w.now (page_in space (leaf_number (seen w.now all space) (leaf_index h))))
        → IsTrue (is_there w.now (page_in space 0))
        → MeansNumbers (seen reused.now all space) after
    means_reused positive inside there head_there =
        let p = page_number to in let q = to.at in let next = place_at (seen w.now all space) h in
        let w1 = entry_written w all space m means h positive inside there p q in
        let leaves = leaf_count m.highest in let directories = directory_count leaves in
        let table = written_table w all space m means h positive inside there p q in
        let head1 = there_with_page w (page_in space (leaf_number (seen w.now all space) (leaf_index h))) (page_in space 0) _ head_there in
        let page_kept : (x : ℕ) → 0 < x → x ≤ m.highest → page_at (seen reused.now all space) x ≡ page_at (seen w1.now all space) x =
        λ x low up. headed_page w1 all space 34 next directories directories leaves (omega arith) (omega arith) table (λ one. one)
        (λ l below. omega (arith, below)) head1 x (omega (arith, low, up)) in
        let place_kept : (x : ℕ) → 0 < x → x ≤ m.highest → place_at (seen reused.now all space) x ≡ place_at (seen w1.now all space) x =
        λ x low up. headed_place w1 all space 34 next directories directories leaves (omega arith) (omega arith) table (λ one. one)
        (λ l below. omega (arith, below)) head1 x (omega (arith, low, up)) in
        let low_next = free_small w all space m means h hs next part free_is.2 in let most = means.most in
        means_after (seen w.now all space) (seen reused.now all space) m after h means
        (record {
          taken = λ x differ. get-with_other m.taken h x to differ;
          listed = λ x differ. sym (listed_other hs h x differ) ∙ ap (λ l. is_listed l x) (sym split);
          page = λ x low up differ. page_kept x low up ∙ written_page_kept w all space m means h positive inside there p q x low up differ;
          place = λ x low up differ. place_kept x low up ∙ written_place_kept w all space m means h positive inside there p q x low up differ;
          entry = means_address to (map.get (map.insert m.taken h to) h) (is_listed hs h) _ _ (get-with_same m.taken h to) free_is.1
              (page_kept h positive inside ∙ written_page w all space m means h positive inside there p q (omega (arith, layer_small, page_small)))
              (place_kept h positive inside ∙ written_place w all space m means h positive inside there p q (omega (arith, at_small))) page_small at_small some;
          given = (positive, inside);
          raised = λ x differ up. up;
          kept = omega arith;
        })
        (headed_table w1 all space 34 next directories directories leaves (omega arith) (omega arith) table (λ one. one)
        (λ l below. omega (arith, below)) head1)
        (headed_field w1 all space 34 next directories directories leaves (omega arith) (omega arith) table (λ one. one)
        (λ l below. omega (arith, below)) head1 4 38 (inr (omega arith))
        ∙ ap highest (written_head w all space m means h positive inside there p q) ∙ means.highest)
        most
        (subst (λ n. IsFreeList (seen reused.now all space) n hs)
        (sym (headed_written w1 all space 34 next directories directories leaves (omega arith) (omega arith) table (λ one. one)
        (λ l below. omega (arith, below)) head1 (omega (arith, low_next, most))))
        (IsFreeList-kept (seen w.now all space) (seen reused.now all space) next hs
        (λ x listed. in_range w all space m means h positive inside there hs part x listed (λ low up. place_kept x low up
        ∙ written_place_kept w all space m means h positive inside there p q x low up (λ is. true≢false (sym listed ∙ ap (is_listed hs) is ∙ free_is.1))))
        free_is.2))

  -- the number after the highest is given, in a leaf that has room
  module _ (none : m.free ≡ []) (v : Work)
      (s : Stands all space (seen w.now all space) (leaf_count m.highest) v (directory_count (leaf_count (m.highest + 1)))
      (directory_count (leaf_count (m.highest + 1))) (leaf_count (m.highest + 1)))
      (there : IsTrue (is_there v.now (page_in space (leaf_number (seen v.now all space) (leaf_index (m.highest + 1))))))
      (room : m.highest < MOST_NUMBERS) where
    abbrev last : ℕ
    last = m.highest + 1

    abbrev appended : Work
    appended = with_number 4
        (with_entry_in v space (leaf_number (seen v.now all space) (leaf_index (m.highest + 1))) (entry_index (m.highest + 1)) (page_number to) to.at) space 0
        38 (m.highest + 1)

    as_begun : (x : ℕ) → 0 < x → x ≤ m.highest
        → (page_at (seen v.now all space) x ≡ page_at (seen w.now all space) x) × (place_at (seen v.now all space) x ≡ place_at (seen w.now all space) x)
    unfolding page_at place_at
    as_begun x low up =
        let same = s.leaf_bytes (leaf_index x) (omega (arith, low, up)) in
        (ap (λ l. field 8 (16 + entry_index x * 12) l) same, ap (λ l. field 4 (16 + entry_index x * 12 + 8) l) same)

    means_appended : MeansNumbers (seen appended.now all space) (record { taken = map.insert m.taken (m.highest + 1) to; free = []; highest = m.highest + 1 })
    means_appended =
        let h = m.highest + 1 in let p = page_number to in let q = to.at in
        let leaves = leaf_count (m.highest + 1) in let directories = directory_count leaves in
        let below : leaf_index h < leaves = omega arith in
        let placed : (l : ℕ) → l < leaves → l / 511 < directories = λ l less. omega (arith, less) in
        let long = (s.table.leaf (leaf_index h) below).0.1 in
        let w1 = with_entry_in v space (leaf_number (seen v.now all space) (leaf_index (m.highest + 1))) (entry_index (m.highest + 1)) (page_number to) to.at in
        let table = entered_table v all space h p q directories directories leaves s.table (λ one. one) placed below there in
        let stays = entered_stays v all space h p q directories directories leaves s.table (λ one. one) placed below there in
        let writes = entered_writes v all space h p q directories directories leaves s.table (λ one. one) placed below there in
        let head1 = there_with_page v (page_in space (leaf_number (seen v.now all space) (leaf_index h))) (page_in space 0) _ s.there in
        let page_kept : (x : ℕ) → 0 < x → x ≤ h → page_at (seen appended.now all space) x ≡ page_at (seen w1.now all space) x =
        λ x low up. headed_page w1 all space 38 h directories directories leaves (omega arith) (omega arith) table (λ one. one) placed head1 x
        (omega (arith, low, up)) in
        let place_kept : (x : ℕ) → 0 < x → x ≤ h → place_at (seen appended.now all space) x ≡ place_at (seen w1.now all space) x =
        λ x low up. headed_place w1 all space 38 h directories directories leaves (omega arith) (omega arith) table (λ one. one) placed head1 x
        (omega (arith, low, up)) in
        let head_is = entered_head v all space h p q directories directories leaves s.table (λ one. one) placed below there in
        let first_none : first_free (bytes (seen w.now all space) 0) ≡ 0 =
        subst (IsFreeList (seen w.now all space) (first_free (bytes (seen w.now all space) 0))) none means.free in
        means_after (seen w.now all space) (seen appended.now all space) m
        (record { taken = map.insert m.taken (m.highest + 1) to; free = []; highest = m.highest + 1 }) h means
        (record {
          taken = λ x differ. get-with_other m.taken h x to differ;
          listed = λ x differ. ap (λ l. is_listed l x) (sym none);
          page = λ x low up differ. page_kept x low (omega (arith, up))
              ∙ page_at-kept (seen v.now all space) (seen w1.now all space) h p q leaves long stays s.table.leaves_apart below writes x low (omega arith) differ
              (omega (arith, low, up)) ∙ (as_begun x low up).0;
          place = λ x low up differ. place_kept x low (omega (arith, up))
              ∙ place_at-kept (seen v.now all space) (seen w1.now all space) h p q leaves long stays s.table.leaves_apart below writes x low
              (omega arith) differ (omega (arith, low, up)) ∙ (as_begun x low up).1;
          entry = means_address to (map.get (map.insert m.taken h to) h) false _ _ (get-with_same m.taken h to) refl
              (page_kept h (omega arith) (omega arith)
              ∙ page_at-written (seen v.now all space) (seen w1.now all space) h p q leaves long stays s.table.leaves_apart below writes
              (omega (arith, layer_small, page_small)))
              (place_kept h (omega arith) (omega arith)
              ∙ place_at-written (seen v.now all space) (seen w1.now all space) h p q leaves long stays s.table.leaves_apart below writes
              (omega (arith, at_small))) page_small at_small some;
          given = (omega arith, omega arith);
          raised = λ x differ up. omega (arith, differ, up);
          kept = omega arith;
        })
        (headed_table w1 all space 38 h directories directories leaves (omega arith) (omega arith) table (λ one. one) placed head1)
        (headed_written w1 all space 38 h directories directories leaves (omega arith) (omega arith) table (λ one. one) placed head1 (omega (arith, room)))
        (omega (arith, room))
        (headed_field w1 all space 38 h directories directories leaves (omega arith) (omega arith) table (λ one. one) placed head1 4 34 (inl (omega arith))
        ∙ ap first_free head_is ∙ s.fields 4 34 (omega arith) ∙ first_none)

  -- what the head says, where it has these numbers
  abbrev heading : ℕ → Numbers
  heading first = record { root = root_number (seen w.now all space); first_free = first; highest = m.highest }

  heading-is : (first : ℕ) → first_free (bytes (seen w.now all space) 0) ≡ first
      → Gives w.now all space (numbers_in w.now space) (record { root = root_number (seen w.now all space); first_free = first; highest = m.highest })
      (IsTrue (is_there w.now (page_in space 0)))
  heading-is first is = subst (λ (n : Numbers). Gives w.now all space (numbers_in w.now space) n (IsTrue (is_there w.now (page_in space 0))))
      (λ i. record { root = root_number (seen w.now all space); first_free = is i; highest = means.highest i }) (means_numbers-is w.now all space m means)

  -- a number was given
  abbrev pub Given : NodeNo × Work → Type 0
  Given p = (p.0.0 ≡ next_number m.highest m.free) × MeansNumbers (seen p.1.now all space) (with_number_given m to)

  free_entry : (o : Option Addr) (listed : Bool) (page place : ℕ) → EntryMeans o listed page place → listed ≡ true → page ≡ 0
  free_entry (Some a) listed page place is listed_is = absurd (true≢false (sym listed_is ∙ is.3))
  free_entry None listed page place is listed_is = is.0

  behind : (leaf page place : ℕ) → page ≡ 0 → place ≤ m.highest
      → free_behind space m.highest leaf (if page == 0 then Free place else Taken (record { layer = page / 256; page = page % 256; at = place })) ≡ Ok place
  behind leaf page place none low =
      ap (λ b. free_behind space m.highest leaf (if b then Free place else Taken (record { layer = page / 256; page = page % 256; at = place })))
      (eq-eqb page 0 none)
      ∙ ap (λ b. if b then Err (Damaged (page_in space leaf)) else Ok place) (le-ltb m.highest place low)

  reused-is : (h : ℕ) (hs : List ℕ) → m.free ≡ h ∷ hs → IsTrue (is_there w.now (page_in space 0))
      → Reaches w.now all space MOST_PAGES
      (reused_in w space (record { root = root_number (seen w.now all space); first_free = h; highest = m.highest }) to) Given
  reused-is h hs split head_there =
      let list = free_is h hs split in let first : first_free (bytes (seen w.now all space) 0) ≡ h = list.0 in
      let inside : h ≤ m.highest = let low =
      free_small w all space m means h m.free (first_free (bytes (seen w.now all space) 0)) (λ x listed. listed) means.free in omega (arith, low, first) in
      let past : h ≢ 0 = λ zero_is. true≢false (sym (listed_first h hs split) ∙ (means.outside h (inl zero_is)).1) in
      let positive : 0 < h = omega (arith, past) in
      let next = place_at (seen w.now all space) h in
      let low_next : next ≤ m.highest = free_small w all space m means h hs next (part h hs split) list.2 in
      let free = free_entry (map.get m.taken h) (is_listed m.free h) (page_at (seen w.now all space) h) next (means.entry h positive inside)
      (listed_first h hs split) in
      let entry = if page_at (seen w.now all space) h == 0 then Free next else Taken
      (record { layer = page_at (seen w.now all space) h / 256; page = page_at (seen w.now all space) h % 256; at = next }) in
      subst (λ b. Reaches w.now all space MOST_PAGES
      (if b then Err (Damaged (head_of space)) else and_then (found_in w.now space (root_number (seen w.now all space)) h)
      (λ (leaf : Leaf). and_then (free_behind space m.highest leaf.number leaf.entry)
      (λ next. Ok (record { 0 = h }, with_number 4 (with_entry_in w space leaf.number (entry_index h) (page_number to) to.at) space 0 34 next)))) Given)
      (sym (le-ltb m.highest h inside))
      (gives_reaches w.now all space MOST_PAGES (found_in w.now space (root_number (seen w.now all space)) h)
      (λ (leaf : Leaf). and_then (free_behind space m.highest leaf.number leaf.entry)
      (λ next. Ok (record { 0 = h }, with_number 4 (with_entry_in w space leaf.number (entry_index h) (page_number to) to.at) space 0 34 next)))
      _ Given (means_found-is w.now all space m means h positive inside) (λ there.
      subst (λ r. Reaches w.now all space MOST_PAGES
      (and_then r (λ next. Ok (
        record { 0 = h },
        with_number 4
            (with_entry_in w space (leaf_number (seen w.now all space) (leaf_index h)) (entry_index h) (page_number to) to.at) space 0 34 next,
      ))) Given)
      (sym (behind (leaf_number (seen w.now all space) (leaf_index h)) (page_at (seen w.now all space) h) next free low_next))
      (inl (
        _,
        refl,
        (
          ap (next_number m.highest) (sym split),
          subst (λ n. MeansNumbers (seen (reused h hs split).now all space) n)
              (λ i. record {
                taken = map.insert m.taken (next_number m.highest (sym split i)) to;
                free = free_left (sym split i);
                highest =
                    highest_given m.highest (sym split i);
              })
              (means_reused h hs split positive inside there head_there),
        ),
      ))))

  -- the leaf of the number after the highest
  abbrev HasLast : ℕ × Work → Type 0
  HasLast p = Stands all space (seen w.now all space) (leaf_count m.highest) p.1 (directory_count (leaf_count (m.highest + 1)))
      (directory_count (leaf_count (m.highest + 1))) (leaf_count (m.highest + 1))
      × (leaf_number (seen p.1.now all space) (leaf_index (m.highest + 1)) ≡ p.0) × IsTrue (is_there p.1.now (page_in space p.0))

  begins : IsTrue (is_there w.now (page_in space 0))
      → Stands all space (seen w.now all space) (leaf_count m.highest) w (directory_count (leaf_count m.highest)) (directory_count (leaf_count m.highest))
      (leaf_count m.highest)
  begins there = record {
    table = means.table;
    there = there;
    fields = λ n at behind. refl;
    leaf_bytes = λ l below. refl;
    leaf_numbers = omega arith;
    rooted = λ one. one;
    placed = λ l below. omega (arith, below);
  }

  last-is : (first : ℕ) → IsTrue (is_there w.now (page_in space 0)) → m.highest < MOST_NUMBERS
      → Reaches w.now all space MOST_PAGES
      (last_leaf w space (record { root = root_number (seen w.now all space); first_free = first; highest = m.highest })) HasLast
  last-is first there room = at (m.highest % 340 == 0) refl
    where
      whole : m.highest % 340 ≡ 0 → (p : ℕ × Work) → HasLeaf all space (seen w.now all space) (leaf_count m.highest) (m.highest / 340) p → HasLast p
      whole is p has =
          let count : m.highest / 340 + 1 ≡ leaf_count (m.highest + 1) = omega (arith, is) in let index : m.highest / 340 ≡ leaf_index (m.highest + 1) =
          omega (arith, is) in
          let s = subst (λ c. Stands all space (seen w.now all space) (leaf_count m.highest) p.1 1 (directory_count c) c) count has.0 in (
            record {
              table = one_root (seen p.1.now all space) 1 (directory_count (leaf_count (m.highest + 1))) (directory_count (leaf_count (m.highest + 1)))
                  (leaf_count (m.highest + 1)) (λ one. omega arith) s.table;
              there = s.there;
              fields = s.fields;
              leaf_bytes = s.leaf_bytes;
              leaf_numbers = s.leaf_numbers;
              rooted = λ one. one;
              placed = s.placed;
            },
            subst (λ l. leaf_number (seen p.1.now all space) l ≡ p.0) index has.1,
            has.2,
          )

      at : (b : Bool) → (m.highest % 340 == 0) ≡ b
          → Reaches w.now all space MOST_PAGES
          (if b then grown_in w space (root_number (seen w.now all space)) (m.highest / 340) else and_then
          (placed_in w.now space (root_number (seen w.now all space)) (m.highest / 340)) (λ number. Ok (number, w))) HasLast
      at true is =
          let none = eqb-true (m.highest % 340) 0 is in let count : leaf_count m.highest ≡ m.highest / 340 = omega (arith, none) in
          weaker (grown-is all space (seen w.now all space) (leaf_count m.highest) w (m.highest / 340)
          (subst (λ c. Stands all space (seen w.now all space) (leaf_count m.highest) w (directory_count c) (directory_count c) c) count (begins there))
          (omega (arith, room)))
        where
          weaker : Reaches w.now all space MOST_PAGES (grown_in w space (root_number (seen w.now all space)) (m.highest / 340))
              (HasLeaf all space (seen w.now all space) (leaf_count m.highest) (m.highest / 340))
              → Reaches w.now all space MOST_PAGES (grown_in w space (root_number (seen w.now all space)) (m.highest / 340)) HasLast
          weaker (inl given) = inl (given.0, given.1, whole (eqb-true (m.highest % 340) 0 is) given.0 given.2)
          weaker (inr stop) = inr stop
      at false is =
          let some_left : m.highest % 340 ≢ 0 = λ none. true≢false (sym (eq-eqb (m.highest % 340) 0 none) ∙ is) in
          let l = m.highest / 340 in let leaves = leaf_count m.highest in let directories = directory_count leaves in
          let rooted : 0 < directories = omega (arith, some_left) in let above : l / 511 < directories = omega (arith, some_left) in let below : l < leaves =
          omega (arith, some_left) in
          let p = seen w.now all space in
          gives_reaches w.now all space MOST_PAGES (placed_in w.now space (root_number p) l) (λ number. Ok (number, w)) (leaf_number p l) HasLast
          (gives_then w.now all space (directory_in w.now space (root_number p) l)
          (λ directory. and_then (leaf_in w.now space (root_number p) directory l)
          (λ number. and_then (linked w.now space LEAF_KIND directory number) (λ bytes. Ok number)))
          (directory_number p (l / 511)) (leaf_number p l) (directory_in-is w.now all space directories directories leaves means.table rooted l above) (λ _.
          gives_then w.now all space (leaf_in w.now space (root_number p) (directory_number p (l / 511)) l)
          (λ number. and_then (linked w.now space LEAF_KIND (directory_number p (l / 511)) number) (λ bytes. Ok number))
          (leaf_number p l) (leaf_number p l) (leaf_in-is w.now all space directories directories leaves means.table rooted l above) (λ _.
          gives_then w.now all space (linked w.now space LEAF_KIND (directory_number p (l / 511)) (leaf_number p l)) (λ bytes. Ok (leaf_number p l)) _
          (leaf_number p l)
          (leaf-is w.now all space directories directories leaves means.table rooted (directory_number p (l / 511)) l below)
          (λ leaf_there. inl (refl, leaf_there)))))
          (λ leaf_there.
          let count : leaf_count m.highest ≡ leaf_count (m.highest + 1) = omega (arith, some_left) in let index : m.highest / 340 ≡ leaf_index (m.highest + 1) =
          omega arith in
          inl (
            (leaf_number p l, w),
            refl,
            (
              subst (λ c. Stands all space p (leaf_count m.highest) w (directory_count c) (directory_count c) c) count (begins there),
              ap (leaf_number p) (sym index),
              leaf_there,
            ),
          ))

  appended-is : m.free ≡ [] → m.highest < MOST_NUMBERS → (first : ℕ) → IsTrue (is_there w.now (page_in space 0))
      → Reaches w.now all space MOST_PAGES
      (appended_in w space (record { root = root_number (seen w.now all space); first_free = first; highest = m.highest }) to) Given
  appended-is none room first head_there =
      subst (λ b. Reaches w.now all space MOST_PAGES
      (if b then Err (Damaged (head_of space)) else and_then
      (last_leaf w space (record { root = root_number (seen w.now all space); first_free = first; highest = m.highest }))
      (λ (last : ℕ × Work). Ok (
        record { 0 = m.highest + 1 },
        with_number 4 (with_entry_in last.1 space last.0 (m.highest % 340) (page_number to) to.at) space 0 38
            (m.highest + 1),
      ))) Given) (sym (not_most m.highest room))
      (reaches_then w.now all space MOST_PAGES
      (last_leaf w space (record { root = root_number (seen w.now all space); first_free = first; highest = m.highest }))
      (λ (last : ℕ × Work). Ok
      (record { 0 = m.highest + 1 }, with_number 4 (with_entry_in last.1 space last.0 (m.highest % 340) (page_number to) to.at) space 0 38 (m.highest + 1)))
      HasLast Given (last-is first head_there room) (λ last has.
      let index : entry_index (m.highest + 1) ≡ m.highest % 340 = omega arith in
      inl (
        _,
        refl,
        (
          ap (next_number m.highest) (sym none),
          subst (λ (e : ℕ × ℕ). MeansNumbers
              (seen (with_number 4 (with_entry_in last.1 space e.0 e.1 (page_number to) to.at) space 0 38 (m.highest + 1)).now all space)
              (with_number_given m to)) (λ i. (has.1 i, index i))
              (subst (λ n. MeansNumbers
              (seen (appended none last.1 has.0 (subst (λ n. IsTrue (is_there last.1.now (page_in space n))) (sym has.1) has.2) room).now all space) n)
              (λ i. record {
                taken = map.insert m.taken (next_number m.highest (sym none i)) to;
                free = free_left (sym none i);
                highest =
                    highest_given m.highest (sym none i);
              })
              (means_appended none last.1 has.0 (subst (λ n. IsTrue (is_there last.1.now (page_in space n))) (sym has.1) has.2) room)),
        ),
      )))
    where
      not_most : (n : ℕ) → n < MOST_NUMBERS → (n == MOST_NUMBERS) ≡ false
      not_most n less = grind (arith, nat_tests)

  abbrev full : PageEnd → Type 0
  full end = (m.highest ≡ MOST_NUMBERS) × (m.free ≡ []) × (end ≡ Damaged (head_of space))

  -- what the call `add` does to the numbers
  pub add_means : (r : Result NodeNo PageEnd) (w' : Work) → Answers (added_in w space to) r w'
      → MatchResult r (λ number. (number.0 ≡ next_number m.highest m.free) × MeansNumbers (seen w'.now all space) (with_number_given m to))
      (λ end. IsNotGiven w.now all space m end)
  add_means r w' answer = at m.free refl (m.highest == MOST_NUMBERS) refl
    where
      begun_with : (first : ℕ) → first_free (bytes (seen w.now all space) 0) ≡ first
          → (IsTrue (is_there w.now (page_in space 0))
          → Reaches w.now all space MOST_PAGES (if first == 0 then appended_in w space (heading first) to else reused_in w space (heading first) to) Given)
          → MatchResult r (λ number. Given (number, w')) (λ end. IsNotGiven w.now all space m end)
      begun_with first is more = reached w.now all space MOST_PAGES (added_in w space to) r w' Given full
          (gives_reaches w.now all space MOST_PAGES (numbers_in w.now space)
          (λ (n : Numbers). if n.first_free == 0 then appended_in w space n to else reused_in w space n to) (heading first) Given
          (heading-is first is) more) answer

      at : (l : List ℕ) → m.free ≡ l → (b : Bool) → (m.highest == MOST_NUMBERS) ≡ b
          → MatchResult r (λ number. Given (number, w')) (λ end. IsNotGiven w.now all space m end)
      at [] none true most =
          let first : first_free (bytes (seen w.now all space) 0) ≡ 0 =
          subst (IsFreeList (seen w.now all space) (first_free (bytes (seen w.now all space) 0))) none means.free in
          refused_or_needs w.now all space (added_in w space to) (Damaged (head_of space)) r w' (λ number v. Given (number, v))
          (λ end. IsSpent (seen w.now all space) MOST_PAGES end ⊎ full end)
          (then_refused w.now all space (numbers_in w.now space)
          (λ (n : Numbers). if n.first_free == 0 then appended_in w space n to else reused_in w space n to) (heading 0) (Damaged (head_of space))
          (heading-is 0 first)
          (λ there. inl (ap (λ b. if b then Err (Damaged (head_of space)) else and_then (last_leaf w space (heading 0))
          (λ (last : ℕ × Work). Ok (
            record { 0 = m.highest + 1 },
            with_number 4 (with_entry_in last.1 space last.0 (m.highest % 340) (page_number to) to.at) space 0 38
                (m.highest + 1),
          ))) most)))
          answer (inr (eqb-true m.highest MOST_NUMBERS most, none, refl))
      at [] none false most =
          let first : first_free (bytes (seen w.now all space) 0) ≡ 0 =
          subst (IsFreeList (seen w.now all space) (first_free (bytes (seen w.now all space) 0))) none means.free in
          let differ : m.highest ≢ MOST_NUMBERS = λ is. true≢false (sym (eq-eqb m.highest MOST_NUMBERS is) ∙ most) in let up = means.most in
          begun_with 0 first (λ there. appended-is none (omega (arith, differ, up)) 0 there)
      at (h ∷ hs) split b most =
          let list = free_is h hs split in
          let past : h ≢ 0 = λ zero_is. true≢false (sym (listed_first h hs split) ∙ (means.outside h (inl zero_is)).1) in
          begun_with h list.0 (λ there. subst
          (λ b. Reaches w.now all space MOST_PAGES (if b then appended_in w space (heading h) to else reused_in w space (heading h) to) Given)
          (sym (not_zero h past)) (reused-is h hs split there))
        where
          not_zero : (h : ℕ) → h ≢ 0 → (h == 0) ≡ false
          not_zero h past = grind (arith, nat_tests)
