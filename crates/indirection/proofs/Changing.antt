-- What changed, removed and reused numbers do to what the pages mean.
use Rattle.std.proofs.Common.{◌≡◌, ◌≢◌, ℕ, ◌/◌, ◌%◌, ◌<◌, ◌≤◌, ◌^◌, ◌==◌, ◌||◌, inl, inr, Bool, true, false, nat_lt, nat_le, List, ◌∷◌, Option, Some, None, refl, sym, ap, ◌∙◌, cond, subst, true≢false, eq-eqb, arith, IsTrue}
use Rattle.std.proofs.lemmas.Bool.{ltb-true, ltb-false, leb-true, leb-false}
use Rattle.std.specs.Ordering.{nat_cmp}
use Rattle.std.proofs.lemmas.Bool.Decides.{nat_tests}
use Rattle.std.specs.FinMap as map
use Rattle.page_bytes.specs.declared.ids.Space.{Space}
use Rattle.page_bytes.specs.declared.ids.PageId.{PageId}
use Rattle.page_bytes.specs.declared.ids.Addr.{Addr}
use Rattle.page_bytes.specs.PageNumber.{page_number}
use Rattle.page_bytes.specs.Known.{is_there}
use Rattle.page_bytes.specs.Work.{Work}
use Rattle.indirection.specs.Forms.{leaf_index, entry_index, first_free, highest}
use Rattle.page_bytes.specs.Links.{page_in}
use Rattle.indirection.specs.Writing.{with_number, with_entry_in}
use Rattle.page_bytes.specs.Seen.{seen, bytes}
use Rattle.indirection.specs.Meaning.{leaf_number, IsTable, page_at, place_at, leaf_count, directory_count, NodeNumbers, is_listed, EntryMeans, IsFreeList, MeansNumbers, with_address, without_number}
use Rattle.indirection.proofs.Meanings.{get-with, get-without, page_at-written, place_at-written, page_at-kept, place_at-kept, IsFreeList-kept, means_after}
use Rattle.indirection.proofs.Writings.{entered_table, entered_stays, entered_writes, entered_head, headed_table, headed_field, headed_written, headed_page, headed_place}

apart : (x h : ℕ) → x ≢ h → (x == h) ≡ false
apart x h differ = grind (arith, nat_tests)

-- the number that was given an address has it
pub get-with_same : (m : map.FinMap nat_cmp Addr) (h : ℕ) (to : Addr) → map.get (map.insert m h to) h ≡ Some to
get-with_same m h to = get-with m h to h ∙ ap (λ b. cond b (Some to) (map.get m h)) (eq-eqb h h refl)

-- every other number has the address that it had, or none as before
pub get-with_other : (m : map.FinMap nat_cmp Addr) (h x : ℕ) (to : Addr) → x ≢ h → map.get (map.insert m h to) x ≡ map.get m x
get-with_other m h x to differ = get-with m h to x ∙ ap (λ b. cond b (Some to) (map.get m x)) (apart x h differ)

get-without_same : (m : map.FinMap nat_cmp Addr) (h : ℕ) → map.get (map.remove m h) h ≡ None
get-without_same m h = get-without m h h ∙ ap (λ b. cond b None (map.get m h)) (eq-eqb h h refl)

get-without_other : (m : map.FinMap nat_cmp Addr) (h x : ℕ) → x ≢ h → map.get (map.remove m h) x ≡ map.get m x
get-without_other m h x differ = get-without m h x ∙ ap (λ b. cond b None (map.get m x)) (apart x h differ)

-- that one number more is listed changes nothing for another
pub listed_other : (hs : List ℕ) (h x : ℕ) → x ≢ h → is_listed (h ∷ hs) x ≡ is_listed hs x
listed_other hs h x differ = ap (λ b. b || is_listed hs x) (apart x h differ)

listed_itself : (hs : List ℕ) (h : ℕ) → is_listed (h ∷ hs) h ≡ true
listed_itself hs h = ap (λ b. b || is_listed hs h) (eq-eqb h h refl)

-- an address is what its page's number and its place are
pub address_is : (to : Addr) → to.page < 256 → to ≡ record { layer = page_number to / 256; page = page_number to % 256; at = to.at }
address_is to small =
    let layer : to.layer ≡ page_number to / 256 = omega (arith, small) in let page : to.page ≡ page_number to % 256 = omega (arith, small) in
    λ i. record { layer = layer i; page = page i; at = to.at }

-- an entry that has an address means it
pub means_address : (to : Addr) (there : Option Addr) (listed : Bool) (page place : ℕ) → there ≡ Some to → listed ≡ false → page ≡ page_number to
    → place ≡ to.at
    → to.page < 256 → to.at < 65536 → 0 < page_number to → EntryMeans there listed page place
means_address to there listed page place some free number at page_small at_small positive =
    let fields : EntryMeans (Some to) listed (page_number to) to.at = (address_is to page_small, positive, at_small, free) in
    subst (λ (e : Option Addr × ℕ × ℕ). EntryMeans e.0 listed e.1 e.2) (λ i. (sym some i, sym number i, sym at i)) fields

module _ (w : Work) (all : PageId → Option (List ℕ)) (space : Space) (m : NodeNumbers) (means : MeansNumbers (seen w.now all space) m)
    (h : ℕ) (positive : 0 < h) (inside : h ≤ m.highest)
    (there : IsTrue (is_there w.now (page_in space (leaf_number (seen w.now all space) (leaf_index h))))) where
  abbrev leaves : ℕ
  leaves = leaf_count m.highest

  abbrev directories : ℕ
  directories = directory_count leaves

  placed : (l : ℕ) → l < leaves → l / 511 < directories
  placed l below = omega (arith, below)

  below : leaf_index h < leaves
  below = omega (arith, positive, inside)

  entry_below : (x : ℕ) → 0 < x → x ≤ m.highest → leaf_index x < leaves
  entry_below x some up = omega (arith, some, up)

  -- a free number is one of those given
  pub in_range : (hs : List ℕ) → ((x : ℕ) → is_listed hs x ≡ true → is_listed m.free x ≡ true) → (x : ℕ) {P : Type 0} → is_listed hs x ≡ true
      → (0 < x → x ≤ m.highest → P) → P
  in_range hs part x {P = P} listed more = at (nat_lt 0 x) (nat_le x m.highest) refl refl
    where
      at : (b c : Bool) → nat_lt 0 x ≡ b → nat_le x m.highest ≡ c → P
      at true true some up = more (ltb-true 0 x some) (leb-true x m.highest up)
      at false c none up = let zero_is = ltb-false 0 x none in absurd (true≢false (sym (part x listed) ∙ (means.outside x (inl (omega (arith, zero_is)))).1))
      at true false some past = let over = leb-false x m.highest past in
          absurd (true≢false (sym (part x listed) ∙ (means.outside x (inr (omega (arith, over)))).1))

  module _ (page place : ℕ) where
    -- the workspace once this page and place are written in the number's entry
    abbrev pub entry_written : Work
    entry_written = with_entry_in w space (leaf_number (seen w.now all space) (leaf_index h)) (entry_index h) page place

    -- the table stands as it did: as many directory pages and leaves, each where it was
    pub written_table : IsTable (seen entry_written.now all space) directories directories leaves
    written_table = entered_table w all space h page place directories directories leaves means.table (λ some. some) placed below there

    -- the head is as it was
    pub written_head : bytes (seen entry_written.now all space) 0 ≡ bytes (seen w.now all space) 0
    written_head = entered_head w all space h page place directories directories leaves means.table (λ some. some) placed below there

    -- the number's entry has the page that was written, if that has eight bytes
    pub written_page : page < 256 ^ 8 → page_at (seen entry_written.now all space) h ≡ page
    written_page = page_at-written (seen w.now all space) (seen entry_written.now all space) h page place leaves (means.table.leaf (leaf_index h) below).0.1
        (entered_stays w all space h page place directories directories leaves means.table (λ some. some) placed below there) means.table.leaves_apart below
        (entered_writes w all space h page place directories directories leaves means.table (λ some. some) placed below there)

    -- the number's entry has the place that was written, if that has four bytes
    pub written_place : place < 256 ^ 4 → place_at (seen entry_written.now all space) h ≡ place
    written_place = place_at-written (seen w.now all space) (seen entry_written.now all space) h page place leaves (means.table.leaf (leaf_index h) below).0.1
        (entered_stays w all space h page place directories directories leaves means.table (λ some. some) placed below there) means.table.leaves_apart below
        (entered_writes w all space h page place directories directories leaves means.table (λ some. some) placed below there)

    -- every other number up to the highest has its page as before
    pub written_page_kept : (x : ℕ) → 0 < x → x ≤ m.highest → x ≢ h → page_at (seen entry_written.now all space) x ≡ page_at (seen w.now all space) x
    written_page_kept x some up differ =
        page_at-kept (seen w.now all space) (seen entry_written.now all space) h page place leaves (means.table.leaf (leaf_index h) below).0.1
        (entered_stays w all space h page place directories directories leaves means.table (λ some. some) placed below there) means.table.leaves_apart below
        (entered_writes w all space h page place directories directories leaves means.table (λ some. some) placed below there) x some positive differ
        (entry_below x some up)

    -- every other number up to the highest has its place as before
    pub written_place_kept : (x : ℕ) → 0 < x → x ≤ m.highest → x ≢ h → place_at (seen entry_written.now all space) x ≡ place_at (seen w.now all space) x
    written_place_kept x some up differ =
        place_at-kept (seen w.now all space) (seen entry_written.now all space) h page place leaves (means.table.leaf (leaf_index h) below).0.1
        (entered_stays w all space h page place directories directories leaves means.table (λ some. some) placed below there) means.table.leaves_apart below
        (entered_writes w all space h page place directories directories leaves means.table (λ some. some) placed below there) x some positive differ
        (entry_below x some up)

    -- of the free numbers those that are not this one lead on as before
    pub written_free : (first : ℕ) (hs : List ℕ) → is_listed hs h ≡ false → ((x : ℕ) → is_listed hs x ≡ true → is_listed m.free x ≡ true)
        → IsFreeList (seen w.now all space) first hs → IsFreeList (seen entry_written.now all space) first hs
    written_free first hs none part = IsFreeList-kept (seen w.now all space) (seen entry_written.now all space) first hs
        (λ x listed. in_range hs part x listed (λ some up. written_place_kept x some up (λ is. true≢false (sym listed ∙ ap (is_listed hs) is ∙ none))))

  module _ (a : Addr) (taken : map.get m.taken h ≡ Some a) where
    entry_was : EntryMeans (Some a) (is_listed m.free h) (page_at (seen w.now all space) h) (place_at (seen w.now all space) h)
    entry_was = subst (λ o. EntryMeans o (is_listed m.free h) (page_at (seen w.now all space) h) (place_at (seen w.now all space) h)) taken
        (means.entry h positive inside)

    -- the number has another address
    pub means_changed : (to : Addr) → to.page < 256 → to.at < 65536 → to.layer < 2 ^ 56 → 0 < page_number to
        → MeansNumbers (seen (with_entry_in w space (leaf_number (seen w.now all space) (leaf_index h)) (entry_index h) (page_number to) to.at).now all space)
        (with_address m h to)
    means_changed to page_small at_small layer_small some =
        means_after (seen w.now all space) (seen (entry_written (page_number to) to.at).now all space) m (with_address m h to) h means
        (record {
          taken = λ x differ. get-with_other m.taken h x to differ;
          listed = λ x differ. refl;
          page = written_page_kept (page_number to) to.at;
          place = written_place_kept (page_number to) to.at;
          entry = means_address to (map.get (map.insert m.taken h to) h) (is_listed m.free h) _ _ (get-with_same m.taken h to) entry_was.3
              (written_page (page_number to) to.at (omega (arith, layer_small, page_small)))
              (written_place (page_number to) to.at (omega (arith, at_small))) page_small at_small some;
          given = (positive, inside);
          raised = λ x differ up. up;
          kept = omega arith;
        })
        (written_table (page_number to) to.at) (ap highest (written_head (page_number to) to.at) ∙ means.highest) means.most
        (subst (λ n. IsFreeList (seen (entry_written (page_number to) to.at).now all space) n m.free)
        (sym (ap first_free (written_head (page_number to) to.at)))
        (written_free (page_number to) to.at (first_free (bytes (seen w.now all space) 0)) m.free entry_was.3 (λ x listed. listed) means.free))

    -- the number is free, and the first that is given again
    pub means_removed : IsTrue
        (is_there (with_entry_in w space (leaf_number (seen w.now all space) (leaf_index h)) (entry_index h) 0
        (first_free (bytes (seen w.now all space) 0))).now (page_in space 0))
        → first_free (bytes (seen w.now all space) 0) < 256 ^ 4
        → MeansNumbers (seen (with_number 4
        (with_entry_in w space (leaf_number (seen w.now all space) (leaf_index h)) (entry_index h) 0 (first_free (bytes (seen w.now all space) 0))) space 0
        34 h).now all space) (without_number m h)
    means_removed head_there small =
        let free = first_free (bytes (seen w.now all space) 0) in let w1 = entry_written 0 free in
        let table = written_table 0 free in
        let last = with_number 4 w1 space 0 34 h in
        let page_kept : (x : ℕ) → 0 < x → x ≤ m.highest → page_at (seen last.now all space) x ≡ page_at (seen w1.now all space) x =
        λ x some up. headed_page w1 all space 34 h directories directories leaves (omega arith) (omega arith) table (λ some. some) placed head_there x
        (entry_below x some up) in
        let place_kept : (x : ℕ) → 0 < x → x ≤ m.highest → place_at (seen last.now all space) x ≡ place_at (seen w1.now all space) x =
        λ x some up. headed_place w1 all space 34 h directories directories leaves (omega arith) (omega arith) table (λ some. some) placed head_there x
        (entry_below x some up) in
        let most = means.most in
        let here : place_at (seen last.now all space) h ≡ free = place_kept h positive inside ∙ written_place 0 free small in
        means_after (seen w.now all space) (seen last.now all space) m (without_number m h) h means
        (record {
          taken = λ x differ. get-without_other m.taken h x differ;
          listed = λ x differ. listed_other m.free h x differ;
          page = λ x some up differ. page_kept x some up ∙ written_page_kept 0 free x some up differ;
          place = λ x some up differ. place_kept x some up ∙ written_place_kept 0 free x some up differ;
          entry = subst (λ (e : Option Addr × Bool). EntryMeans e.0 e.1 (page_at (seen last.now all space) h) (place_at (seen last.now all space) h))
              (λ i. (sym (get-without_same m.taken h) i, sym (listed_itself m.free h) i))
              (page_kept h positive inside ∙ written_page 0 free (omega arith), refl);
          given = (positive, inside);
          raised = λ x differ up. up;
          kept = omega arith;
        })
        (headed_table w1 all space 34 h directories directories leaves (omega arith) (omega arith) table (λ some. some) placed head_there)
        (headed_field w1 all space 34 h directories directories leaves (omega arith) (omega arith) table (λ some. some) placed head_there 4 38
        (inr (omega arith)) ∙ ap highest (written_head 0 free) ∙ means.highest)
        most (
          headed_written w1 all space 34 h directories directories leaves (omega arith) (omega arith) table (λ some. some) placed head_there
              (omega (arith, most, inside)),
          entry_was.3,
          subst (λ n. IsFreeList (seen last.now all space) n m.free) (sym here)
              (IsFreeList-kept (seen w.now all space) (seen last.now all space) free m.free
              (λ x listed. in_range m.free (λ x listed. listed) x listed (λ some up. place_kept x some up
              ∙ written_place_kept 0 free x some up (λ is. true≢false (sym listed ∙ ap (is_listed m.free) is ∙ entry_was.3)))) means.free),
        )
