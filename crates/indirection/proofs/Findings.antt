-- What is found where the pages mean numbers: the number's entry, or a page is needed.
use Rattle.std.proofs.Common.{◌≡◌, ◌≢◌, ℕ, ◌/◌, ◌%◌, ◌<◌, ◌≤◌, ◌==◌, ◌||◌, ◌&&◌, ◌⊎◌, inl, inr, ⊎_elim, Bool, true, false, not, nat_lt, nat_le, List, [], slice_index, Option, Some, None, Result, Ok, Err, refl, sym, ap, ◌∙◌, is_some, unwrap_or, subst, true≢false, eq-eqb, arith, IsTrue, if◌then◌else◌}
use Rattle.std.proofs.lemmas.Bool.{eqb-true, ltb-true, ltb-false}
use Rattle.std.proofs.lemmas.Bool.Decides.{nat_tests}
use Rattle.std.specs.FinMap as map
use Rattle.page_bytes.specs.declared.ids.Space.{Space}
use Rattle.page_bytes.specs.declared.ids.PageId.{PageId}
use Rattle.page_bytes.specs.declared.ids.Addr.{Addr}
use Rattle.page_bytes.specs.declared.end.PageEnd.{PageEnd}
use Rattle.page_bytes.specs.declared.end.PageEnd.TheVariants.{Need, Damaged}
use Rattle.page_bytes.specs.Known.{Known, is_there, is_unknown}
use Rattle.page_bytes.specs.Head.{is_head, next_page, head_in}
use Rattle.indirection.specs.declared.forms.Leaf.{Leaf}
use Rattle.indirection.specs.declared.forms.Numbers.{Numbers}
use Rattle.indirection.specs.declared.forms.Entry.{Entry}
use Rattle.indirection.specs.declared.forms.Entry.TheVariants.{Taken, Free}
use Rattle.indirection.specs.Forms.{MOST_NUMBERS, LEAF_KIND, DIRECTORY_KIND, leaf_index, entry_index, first_free, highest, link, entry_page, entry_place}
use Rattle.page_bytes.specs.Links.{and_then, page_in, or_damaged, asked, tested}
use Rattle.indirection.specs.Reading.{numbers_head, linked}
use Rattle.indirection.specs.Finding.{directory_in, leaf_in, entry_of, found_in, numbers_in, address_of, address_in}
use Rattle.page_bytes.specs.Seen.{seen, bytes}
use Rattle.indirection.specs.Meaning.{IsPage, root_number, directory_number, leaf_number, IsTable, page_at, place_at, leaf_count, directory_count, NodeNumbers, is_listed, EntryMeans, MeansNumbers}
use Rattle.page_bytes.specs.Answers.{GivesOrNeeds}
use Rattle.page_bytes.proofs.Askings.{Needs, Gives, gives_then, asked-is}
use Rattle.indirection.proofs.Steps.{kinds_apart}

module _ (k : Known) (all : PageId → Option (List ℕ)) (space : Space) where
  abbrev pages : ℕ → Option (List ℕ)
  pages = seen k all space

  -- a head in its form is given with its bytes, and is there, or it is needed
  pub head-is : IsPage (seen k all space) 2 0 → 0 < next_page (bytes (seen k all space) 0) → highest (bytes (seen k all space) 0) ≤ MOST_NUMBERS
      → Gives k all space (numbers_head k space) (bytes (seen k all space) 0) (IsTrue (is_there k (page_in space 0)))
  head-is page next most =
      let id = page_in space 0 in let b = bytes (seen k all space) 0 in let long = page.1 in
      gives_then k all space (head_in k space) (λ head. tested id (nat_le (highest head) MOST_NUMBERS) head) b b
      (gives_then k all space (asked k id id) (λ head. tested id (is_head head) head) b b (asked-is k all space id 0 (omega (arith, long)))
      (λ there. inl (ap (λ t. tested id t b) (passes b page.0 next), there)))
      (λ there. inl (ap (λ t. tested id t b) (few b most), there))
    where
      passes : (b : List ℕ) → slice_index b 0 ≡ 2 → 0 < next_page b → is_head b ≡ true
      passes b is next = grind (arith, nat_tests)

      few : (b : List ℕ) → highest b ≤ MOST_NUMBERS → nat_le (highest b) MOST_NUMBERS ≡ true
      few b most = grind (arith, nat_tests)

  -- a page of a kind past 0, other than the head, is given with its bytes, and is there, or it is needed
  pub linked-is : (kind from n : ℕ) → 0 < kind → n ≢ 0 → IsPage (seen k all space) kind n
      → Gives k all space (linked k space kind from n) (bytes (seen k all space) n) (IsTrue (is_there k (page_in space n)))
  linked-is kind from n positive past page =
      let id = page_in space n in let source = page_in space from in let b = bytes (seen k all space) n in let long = page.1 in
      subst (λ t. Gives k all space (if t then Err (Damaged source) else and_then (asked k source id) (λ b. tested id (slice_index b 0 == kind) b)) b
      (IsTrue (is_there k id))) (sym (not_zero n past))
      (gives_then k all space (asked k source id) (λ b. tested id (slice_index b 0 == kind) b) b b (asked-is k all space source n (omega (arith, long)))
      (λ there. inl (ap (λ t. tested id t b) (eq-eqb (slice_index b 0) kind page.0), there)))
    where
      not_zero : (n : ℕ) → n ≢ 0 → (n == 0) ≡ false
      not_zero n past = grind (arith, nat_tests)

  -- what the head says
  pub numbers_seen : Numbers
  numbers_seen = record {
    root = root_number (seen k all space);
    first_free = first_free (bytes (seen k all space) 0);
    highest =
        highest (bytes (seen k all space) 0);
  }

  -- by a head in its form the root, the first free and the highest number are given, or the head is needed
  pub numbers-is : IsPage (seen k all space) 2 0 → 0 < next_page (bytes (seen k all space) 0) → highest (bytes (seen k all space) 0) ≤ MOST_NUMBERS
      → Gives k all space (numbers_in k space)
      (record {
        root = root_number (seen k all space);
        first_free = first_free (bytes (seen k all space) 0);
        highest =
            highest (bytes (seen k all space) 0);
      }) (IsTrue (is_there k (page_in space 0)))
  unfolding root_number
  numbers-is page next most =
      gives_then k all space (numbers_head k space) _ (bytes (seen k all space) 0) _ (head-is page next most) (λ there. inl (refl, there))

  module _ (roots directories leaves : ℕ) (t : IsTable (seen k all space) roots directories leaves) (rooted : 0 < roots) where
    root_past : root_number (seen k all space) ≢ 0
    root_past = kinds_apart (seen k all space) DIRECTORY_KIND 2 (root_number (seen k all space)) 0 (λ is. absurd (omega (arith, is))) (t.root rooted).0 t.head

    directory_past : (d : ℕ) → d < directories → directory_number (seen k all space) d ≢ 0
    directory_past d below =
        kinds_apart (seen k all space) DIRECTORY_KIND 2 (directory_number (seen k all space) d) 0 (λ is. absurd (omega (arith, is)))
        (t.directory d below).0 t.head

    leaf_past : (l : ℕ) → l < leaves → leaf_number (seen k all space) l ≢ 0
    leaf_past l below = kinds_apart (seen k all space) LEAF_KIND 2 (leaf_number (seen k all space) l) 0 (λ is. absurd (omega (arith, is)))
        (t.leaf l below).0 t.head

    -- the table's root is given with its bytes, and is there, or it is needed
    pub root-is : Gives k all space (linked k space DIRECTORY_KIND 0 (root_number (seen k all space)))
        (bytes (seen k all space) (root_number (seen k all space))) (IsTrue (is_there k (page_in space (root_number (seen k all space)))))
    root-is = linked-is DIRECTORY_KIND 0 (root_number (seen k all space)) (omega arith) root_past (t.root rooted).0

    -- each directory page of the table is given with its bytes, and is there, or it is needed
    pub directory-is : (from d : ℕ) → d < directories
        → Gives k all space (linked k space DIRECTORY_KIND from (directory_number (seen k all space) d))
        (bytes (seen k all space) (directory_number (seen k all space) d)) (IsTrue (is_there k (page_in space (directory_number (seen k all space) d))))
    directory-is from d below =
        linked-is DIRECTORY_KIND from (directory_number (seen k all space) d) (omega arith) (directory_past d below) (t.directory d below).0

    -- each leaf of the table is given with its bytes, and is there, or it is needed
    pub leaf-is : (from l : ℕ) → l < leaves
        → Gives k all space (linked k space LEAF_KIND from (leaf_number (seen k all space) l)) (bytes (seen k all space) (leaf_number (seen k all space) l))
        (IsTrue (is_there k (page_in space (leaf_number (seen k all space) l))))
    leaf-is from l below = linked-is LEAF_KIND from (leaf_number (seen k all space) l) (omega arith) (leaf_past l below) (t.leaf l below).0

    -- the root gives the number of the leaf's directory page, if the table has that one, or the root is needed
    pub directory_in-is : (leaf : ℕ) → leaf / 511 < directories
        → Gives k all space (directory_in k space (root_number (seen k all space)) leaf) (directory_number (seen k all space) (leaf / 511)) (Unit {0})
    unfolding directory_number
    directory_in-is leaf below =
        gives_then k all space (linked k space DIRECTORY_KIND 0 (root_number (seen k all space))) (λ b. Ok (link (leaf / 511) b))
        (bytes (seen k all space) (root_number (seen k all space))) _ root-is (λ there. inl (refl, tt))

    -- the directory page gives the leaf's number, if the table has that directory page, or it is needed
    pub leaf_in-is : (leaf : ℕ) → leaf / 511 < directories
        → Gives k all space (leaf_in k space (root_number (seen k all space)) (directory_number (seen k all space) (leaf / 511)) leaf)
        (leaf_number (seen k all space) leaf) (Unit {0})
    unfolding leaf_number
    leaf_in-is leaf below =
        gives_then k all space (linked k space DIRECTORY_KIND (root_number (seen k all space)) (directory_number (seen k all space) (leaf / 511)))
        (λ b. Ok (link (leaf % 511) b)) (bytes (seen k all space) (directory_number (seen k all space) (leaf / 511))) _
        (directory-is (root_number (seen k all space)) (leaf / 511) below) (λ there. inl (refl, tt))

    -- what an entry says: with page 0 it is free and has the next free number, and else it has an address
    pub entry_seen : ℕ → ℕ → Entry
    entry_seen page place = if page == 0 then Free place else Taken (record { layer = page / 256; page = page % 256; at = place })

    entry_of-is : (leaf page place : ℕ) → (page ≡ 0) ⊎ (place < 65536)
        → entry_of space leaf page place ≡ Ok (if page == 0 then Free place else Taken (record { layer = page / 256; page = page % 256; at = place }))
    entry_of-is leaf page place sound = at (page == 0) (nat_lt place 65536) refl refl
      where
        at : (z s : Bool) → (page == 0) ≡ z → nat_lt place 65536 ≡ s
            → (if z then Ok (Free place) else if s then Ok (Taken (record { layer = page / 256; page = page % 256; at = place })) else Err
            (Damaged (page_in space leaf))) ≡ Ok (if z then Free place else Taken (record { layer = page / 256; page = page % 256; at = place }))
        at true s z_is s_is = refl
        at false true z_is s_is = refl
        at false false z_is s_is = let past = ltb-false place 65536 s_is in
            absurd (⊎_elim (λ zero_is. true≢false (sym (eq-eqb page 0 zero_is) ∙ z_is)) (λ small. absurd (omega (arith, past, small))) sound)

    -- a number's leaf, which is then there, and its entry are given, or a page on the way is needed,
    -- if the table has the leaf and the entry is free or has a place below 65,536
    pub found-is : (h : ℕ) → leaf_index h < leaves → leaf_index h / 511 < directories
        → (page_at (seen k all space) h ≡ 0) ⊎ (place_at (seen k all space) h < 65536)
        → Gives k all space (found_in k space (root_number (seen k all space)) h)
        (record {
          number = leaf_number (seen k all space) (leaf_index h);
          entry =
              if page_at (seen k all space) h == 0 then Free (place_at (seen k all space) h) else Taken
              (record { layer = page_at (seen k all space) h / 256; page = page_at (seen k all space) h % 256; at = place_at (seen k all space) h });
        })
        (IsTrue (is_there k (page_in space (leaf_number (seen k all space) (leaf_index h)))))
    unfolding page_at place_at
    found-is h below above sound =
        let p = seen k all space in let l = leaf_index h in let d = directory_number p (l / 511) in let n = leaf_number p l in let b = bytes p n in let i =
        entry_index h in
        gives_then k all space (directory_in k space (root_number p) l)
        (λ directory. and_then (leaf_in k space (root_number p) directory l)
        (λ leaf. and_then (linked k space LEAF_KIND directory leaf)
        (λ bytes. and_then (entry_of space leaf (entry_page i bytes) (entry_place i bytes)) (λ entry. Ok (record { number = leaf; entry = entry })))))
        d _ (directory_in-is l above) (λ _.
        gives_then k all space (leaf_in k space (root_number p) d l)
        (λ leaf. and_then (linked k space LEAF_KIND d leaf)
        (λ bytes. and_then (entry_of space leaf (entry_page i bytes) (entry_place i bytes)) (λ entry. Ok (record { number = leaf; entry = entry }))))
        n _ (leaf_in-is l above) (λ _.
        gives_then k all space (linked k space LEAF_KIND d n)
        (λ bytes. and_then (entry_of space n (entry_page i bytes) (entry_place i bytes)) (λ entry. Ok (record { number = n; entry = entry })))
        b _ (leaf-is d l below) (λ there.
        inl (ap (λ r. and_then r (λ entry. Ok (record { number = n; entry = entry }))) (entry_of-is n (entry_page i b) (entry_place i b) sound), there))))

entry_address : (o : Option Addr) (listed : Bool) (page place : ℕ) → EntryMeans o listed page place
    → address_of (if page == 0 then Free place else Taken (record { layer = page / 256; page = page % 256; at = place })) ≡ o
entry_address (Some a) listed page place is = at (page == 0) refl
  where
    at : (b : Bool) → (page == 0) ≡ b → address_of (if b then Free place else Taken (record { layer = page / 256; page = page % 256; at = place })) ≡ Some a
    at true zero_is = let none = eqb-true page 0 zero_is in let some = is.1 in absurd (omega (arith, none, some))
    at false past = ap Some (sym is.0)
entry_address None listed page place is =
    ap (λ b. address_of (if b then Free place else Taken (record { layer = page / 256; page = page % 256; at = place }))) (eq-eqb page 0 is.0)

-- an entry that means something is free or has a place below 65,536
pub entry_sound : (o : Option Addr) (listed : Bool) (page place : ℕ) → EntryMeans o listed page place → (page ≡ 0) ⊎ (place < 65536)
entry_sound (Some a) listed page place is = inr is.2
entry_sound None listed page place is = inl is.0

-- a number that is 0 or past the highest
pub out_or_in : (h top : ℕ) {P : Type 0} → ((h ≡ 0) ⊎ (top < h) → (h == 0 || nat_lt top h) ≡ true → P)
    → (0 < h → h ≤ top → (h == 0 || nat_lt top h) ≡ false → P) → P
out_or_in h top {P = P} out inside = at (h == 0) (nat_lt top h) refl refl
  where
    positive : (h : ℕ) → h ≢ 0 → 0 < h
    positive h past = omega (arith, past)

    at : (z l : Bool) → (h == 0) ≡ z → nat_lt top h ≡ l → P
    at true l zero_is less = out (inl (eqb-true h 0 zero_is)) (ap (λ b. b || nat_lt top h) zero_is)
    at false true zero_is less = out (inr (ltb-true top h less)) (λ i. zero_is i || less i)
    at false false zero_is less =
        inside (positive h (λ none. true≢false (sym (eq-eqb h 0 none) ∙ zero_is))) (ltb-false top h less) (λ i. zero_is i || less i)

module _ (k : Known) (all : PageId → Option (List ℕ)) (space : Space) (m : NodeNumbers) (means : MeansNumbers (seen k all space) m) where
  -- where the pages mean numbers, the head's three numbers are given, or the head is needed
  pub means_numbers-is : Gives k all space (numbers_in k space)
      (record { root = root_number (seen k all space); first_free = first_free (bytes (seen k all space) 0); highest = highest (bytes (seen k all space) 0) })
      (IsTrue (is_there k (page_in space 0)))
  means_numbers-is = let top = means.highest in let most = means.most in numbers-is k all space means.table.head means.table.next (omega (arith, top, most))

  -- where the pages mean numbers, the leaf and the entry of each up to the highest are given,
  -- or a page on the way is needed
  pub means_found-is : (h : ℕ) → 0 < h → h ≤ m.highest
      → Gives k all space (found_in k space (root_number (seen k all space)) h)
      (record {
        number = leaf_number (seen k all space) (leaf_index h);
        entry =
            if page_at (seen k all space) h == 0 then Free (place_at (seen k all space) h) else Taken
            (record { layer = page_at (seen k all space) h / 256; page = page_at (seen k all space) h % 256; at = place_at (seen k all space) h });
      })
      (IsTrue (is_there k (page_in space (leaf_number (seen k all space) (leaf_index h)))))
  means_found-is h positive inside =
      let leaves = leaf_count m.highest in let directories = directory_count leaves in
      found-is k all space directories directories leaves means.table (omega (arith, positive, inside)) h (omega (arith, positive, inside))
      (omega (arith, positive, inside))
      (entry_sound (map.get m.taken h) (is_listed m.free h) (page_at (seen k all space) h) (place_at (seen k all space) h) (means.entry h positive inside))

  -- the address that the pages mean is found, or a page is needed
  pub address-is : (h : ℕ) → GivesOrNeeds k all space (address_in k space h) (map.get m.taken h)
  address-is h = ⊎_elim (λ is. inl is.0) (λ need. inr need)
      (gives_then k all space (numbers_in k space)
      (λ (numbers : Numbers). if h == 0 || nat_lt numbers.highest h then Ok None else and_then (found_in k space numbers.root h)
      (λ leaf. Ok (address_of leaf.entry)))
      (record { root = root_number (seen k all space); first_free = first_free (bytes (seen k all space) 0); highest = highest (bytes (seen k all space) 0) })
      (map.get m.taken h) means_numbers-is (λ _. at))
    where
      at : Gives k all space (if h == 0 || nat_lt (highest (bytes (seen k all space) 0)) h then Ok None else and_then
          (found_in k space (root_number (seen k all space)) h) (λ leaf. Ok (address_of leaf.entry))) (map.get m.taken h) (Unit {0})
      at = out_or_in h (highest (bytes (seen k all space) 0))
          (λ out is. subst (λ b. Gives k all space
          (if b then Ok None else and_then (found_in k space (root_number (seen k all space)) h) (λ leaf. Ok (address_of leaf.entry))) (map.get m.taken h)
          (Unit {0})) (sym is)
          (inl (ap Ok (sym (means.outside h (⊎_elim (λ none. inl none) (λ past. let same = means.highest in inr (omega (arith, same, past))) out)).0), tt)))
          (λ positive inside is. subst
          (λ b. Gives k all space (if b then Ok None else and_then (found_in k space (root_number (seen k all space)) h)
          (λ leaf. Ok (address_of leaf.entry))) (map.get m.taken h) (Unit {0})) (sym is)
          (let below : h ≤ m.highest = let same = means.highest in omega (arith, same, inside) in
          gives_then k all space (found_in k space (root_number (seen k all space)) h) (λ (leaf : Leaf). Ok (address_of leaf.entry)) _ (map.get m.taken h)
          (means_found-is h positive below)
          (λ there. inl (
            ap Ok (entry_address (map.get m.taken h) (is_listed m.free h) (page_at (seen k all space) h) (place_at (seen k all space) h)
                (means.entry h positive below)),
            tt,
          ))))
