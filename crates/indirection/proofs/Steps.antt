-- What one written page leaves of the root, the directory pages and the leaves.
use Rattle.std.proofs.Common.{◌≡◌, ◌≢◌, ℕ, ◌+◌, ◌/◌, ◌%◌, ◌<◌, ◌≤◌, Bool, true, false, nat_eq, nat_lt, List, length, slice_index, Option, refl, sym, ap, ◌∙◌, subst, true≢false, eq-eqb, arith}
use Rattle.std.proofs.lemmas.Bool.{eqb-true, ltb-true, ltb-false}
use Rattle.page_bytes.specs.Head.{next_page, LAST_PAGE}
use Rattle.indirection.specs.Forms.{LEAF_KIND, DIRECTORY_KIND, root, link}
use Rattle.page_bytes.specs.Seen.{bytes}
use Rattle.indirection.specs.Meaning.{IsPage, IsNumbered, root_number, directory_number, leaf_number, IsTable}

abbrev Pages : Type 0
Pages = ℕ → Option (List ℕ)

-- all pages but one are as they were
abbrev pub Only : Pages → Pages → ℕ → Type 0
Only pages new n = (q : ℕ) → q ≢ n → bytes new q ≡ bytes pages q

-- what a change has to keep, so that all pages stay where they are
pub record Keeping (pages new : Pages) (roots directories leaves : ℕ) : Type 0 where
  pub head : IsPage new 2 0
  pub root : root_number new ≡ root_number pages
  pub next : next_page (bytes pages 0) ≤ next_page (bytes new 0)
  pub last : next_page (bytes new 0) ≤ LAST_PAGE
  pub root_bytes : 0 < roots → bytes new (root_number pages) ≡ bytes pages (root_number pages)
  pub directory_bytes : (d : ℕ) → d < directories → bytes new (directory_number pages d) ≡ bytes pages (directory_number pages d)
  pub leaf_page : (l : ℕ) → l < leaves → IsPage new LEAF_KIND (leaf_number pages l)

module _ (pages new : Pages) (roots directories leaves : ℕ) (t : IsTable pages roots directories leaves) (k : Keeping pages new roots directories leaves)
    (rooted : 0 < directories → 0 < roots) (placed : (l : ℕ) → l < leaves → l / 511 < directories) where
  -- each directory page has the number that it had
  pub directory_stays : (d : ℕ) → d < directories → directory_number new d ≡ directory_number pages d
  unfolding directory_number
  directory_stays d below =
      let some : 0 < directories = omega arith in
      ap (λ n. link d (bytes new n)) k.root ∙ ap (link d) (k.root_bytes (rooted some))

  -- each leaf has the number that it had
  pub leaf_stays : (l : ℕ) → l < leaves → leaf_number new l ≡ leaf_number pages l
  unfolding leaf_number
  leaf_stays l below =
      ap (λ n. link (l % 511) (bytes new n)) (directory_stays (l / 511) (placed l below)) ∙ ap (link (l % 511)) (k.directory_bytes (l / 511) (placed l below))

  numbered : (n m : ℕ) → m ≡ n → IsNumbered pages n → IsNumbered new m
  numbered n m is h = let next = k.next in omega arith

  of_kind : (kind n m : ℕ) → m ≡ n → bytes new n ≡ bytes pages n → IsPage pages kind n → IsPage new kind m
  of_kind kind n m is same h = subst (IsPage new kind) (sym is) (subst (λ (b : List ℕ). (slice_index b 0 ≡ kind) × (length b ≡ 4096)) (sym same) h)

  -- the pages after the change are a table with as many directory pages and leaves
  pub IsTable-kept : IsTable new roots directories leaves
  IsTable-kept = record {
    head = k.head;
    next = let before = t.next in let after = k.next in omega arith;
    last = k.last;
    root = λ some. (
      of_kind DIRECTORY_KIND (root_number pages) (root_number new) k.root (k.root_bytes some) (t.root some).0,
      numbered (root_number pages)
          (root_number new) k.root (t.root some).1,
    );
    directory = λ d below. (
      of_kind DIRECTORY_KIND (directory_number pages d) (directory_number new d) (directory_stays d below) (k.directory_bytes d below) (t.directory d below).0,
      numbered (directory_number pages d) (directory_number new d) (directory_stays d below) (t.directory d below).1,
    );
    leaf = λ l below. (
      subst (IsPage new LEAF_KIND) (sym (leaf_stays l below)) (k.leaf_page l below),
      numbered (leaf_number pages l) (leaf_number new l) (leaf_stays l below) (t.leaf l below).1,
    );
    root_apart = λ d below is. t.root_apart d below (sym (directory_stays d below) ∙ is ∙ k.root);
    directories_apart = λ d e below below' is. t.directories_apart d e below below' (sym (directory_stays d below) ∙ is ∙ directory_stays e below');
    leaves_apart = λ l m below below' is. t.leaves_apart l m below below' (sym (leaf_stays l below) ∙ is ∙ leaf_stays m below');
  }

-- pages of two kinds are two pages
pub kinds_apart : (pages : Pages) (a b n m : ℕ) → a ≢ b → IsPage pages a n → IsPage pages b m → n ≢ m
kinds_apart pages a b n m differ first second is = differ (sym first.0 ∙ ap (λ q. slice_index (bytes pages q) 0) is ∙ second.0)

module _ (pages new : Pages) (roots directories leaves : ℕ) (t : IsTable pages roots directories leaves) where
  -- a leaf is written
  pub leaf_written : (l : ℕ) → l < leaves → (0 < directories → 0 < roots) → Only pages new (leaf_number pages l) → IsPage new LEAF_KIND (leaf_number pages l)
      → Keeping pages new roots directories leaves
  unfolding root_number
  leaf_written l below rooted only written =
      let leaf = leaf_number pages l in let is_leaf = (t.leaf l below).0 in
      let head : bytes new 0 ≡ bytes pages 0 = only 0 (kinds_apart pages 2 LEAF_KIND 0 leaf (λ is. absurd (omega (arith, is))) t.head is_leaf) in record {
        head = subst (λ (b : List ℕ). (slice_index b 0 ≡ 2) × (length b ≡ 4096)) (sym head) t.head;
        root = ap root head;
        next = let same = ap next_page head in omega (arith, same);
        last = let same = ap next_page head in let before = t.last in omega (arith, same, before);
        root_bytes = λ some. only (root_number pages)
            (kinds_apart pages DIRECTORY_KIND LEAF_KIND (root_number pages) leaf (λ is. absurd (omega (arith, is))) (t.root some).0 is_leaf);
        directory_bytes = λ d below'. only (directory_number pages d)
            (kinds_apart pages DIRECTORY_KIND LEAF_KIND (directory_number pages d) leaf (λ is. absurd (omega (arith, is))) (t.directory d below').0 is_leaf);
        leaf_page = λ m below'. either m below' (nat_eq (leaf_number pages m) leaf) refl;
      }
    where
      either : (m : ℕ) → m < leaves → (same : Bool) → nat_eq (leaf_number pages m) (leaf_number pages l) ≡ same → IsPage new LEAF_KIND (leaf_number pages m)
      either m below' true is = subst (IsPage new LEAF_KIND) (sym (eqb-true (leaf_number pages m) (leaf_number pages l) is)) written
      either m below' false is =
          subst (λ (b : List ℕ). (slice_index b 0 ≡ LEAF_KIND) × (length b ≡ 4096))
          (sym (only (leaf_number pages m) (λ same. true≢false (sym (eq-eqb (leaf_number pages m) (leaf_number pages l) same) ∙ is)))) (t.leaf m below').0

  -- the head is written, and its root stays
  pub head_written : Only pages new 0 → IsPage new 2 0 → root (bytes new 0) ≡ root (bytes pages 0) → next_page (bytes pages 0) ≤ next_page (bytes new 0)
      → next_page (bytes new 0) ≤ LAST_PAGE → Keeping pages new roots directories leaves
  unfolding root_number
  head_written only written same next last = record {
    head = written;
    root = same;
    next = next;
    last = last;
    root_bytes = λ some. only (root_number pages)
        (kinds_apart pages DIRECTORY_KIND 2 (root_number pages) 0 (λ is. absurd (omega (arith, is))) (t.root some).0 t.head);
    directory_bytes = λ d below. only (directory_number pages d)
        (kinds_apart pages DIRECTORY_KIND 2 (directory_number pages d) 0 (λ is. absurd (omega (arith, is))) (t.directory d below).0 t.head);
    leaf_page = λ l below. subst (λ (b : List ℕ). (slice_index b 0 ≡ LEAF_KIND) × (length b ≡ 4096))
        (sym (only (leaf_number pages l) (kinds_apart pages LEAF_KIND 2 (leaf_number pages l) 0 (λ is. absurd (omega (arith, is))) (t.leaf l below).0 t.head)))
        (t.leaf l below).0;
  }

-- a page that is none of the table's
pub record IsBeside (pages : Pages) (roots directories leaves n : ℕ) : Type 0 where
  pub head : n ≢ 0
  pub root : 0 < roots → n ≢ root_number pages
  pub directory : (d : ℕ) → d < directories → n ≢ directory_number pages d
  pub leaf : (l : ℕ) → l < leaves → n ≢ leaf_number pages l

-- a new page is made: it is the head's next one, and the head's next page number is one more
pub record MakesPage (pages new : Pages) (kind n : ℕ) : Type 0 where
  pub number : n ≡ next_page (bytes pages 0)
  pub others : (q : ℕ) → q ≢ 0 → q ≢ n → bytes new q ≡ bytes pages q
  pub head : IsPage new 2 0
  pub root : root (bytes new 0) ≡ root (bytes pages 0)
  pub next : next_page (bytes new 0) ≡ next_page (bytes pages 0) + 1
  pub last : next_page (bytes new 0) ≤ LAST_PAGE
  pub page : IsPage new kind n

module _ (pages new : Pages) (roots directories leaves : ℕ) (t : IsTable pages roots directories leaves) where
  -- a page that is made is none of the table's
  pub new_beside : (kind n : ℕ) → MakesPage pages new kind n → IsBeside pages roots directories leaves n
  new_beside kind n made =
      let number = made.number in let positive = t.next in record {
        head = λ is. absurd (omega (arith, is));
        root = λ some is. let below = (t.root some).1 in absurd (omega (arith, is, below));
        directory = λ d below is. let numbered = (t.directory d below).1 in absurd (omega (arith, is, numbered));
        leaf = λ l below is. let numbered = (t.leaf l below).1 in absurd (omega (arith, is, numbered));
      }

  -- and no leaf changes
  pub leaves_beside : (kind n l : ℕ) → MakesPage pages new kind n → l < leaves → bytes new (leaf_number pages l) ≡ bytes pages (leaf_number pages l)
  leaves_beside kind n l made below =
      made.others (leaf_number pages l) (kinds_apart pages LEAF_KIND 2 (leaf_number pages l) 0 (λ is. absurd (omega (arith, is))) (t.leaf l below).0 t.head)
      (λ is. (new_beside kind n made).leaf l below (sym is))

  -- a page that is made leaves the head, the root, the directory pages and the leaves as the table needs them
  pub page_made : (kind n : ℕ) → MakesPage pages new kind n → Keeping pages new roots directories leaves
  unfolding root_number
  page_made kind n made =
      let apart = new_beside kind n made in record {
        head = made.head;
        root = made.root;
        next = let next = made.next in omega (arith, next);
        last = made.last;
        root_bytes = λ some. made.others (root_number pages)
            (kinds_apart pages DIRECTORY_KIND 2 (root_number pages) 0 (λ is. absurd (omega (arith, is))) (t.root some).0 t.head)
            (λ is. apart.root some (sym is));
        directory_bytes = λ d below. made.others (directory_number pages d)
            (kinds_apart pages DIRECTORY_KIND 2 (directory_number pages d) 0 (λ is. absurd (omega (arith, is))) (t.directory d below).0 t.head)
            (λ is. apart.directory d below (sym is));
        leaf_page = λ l below. subst (λ (b : List ℕ). (slice_index b 0 ≡ LEAF_KIND) × (length b ≡ 4096))
            (sym (made.others (leaf_number pages l)
            (kinds_apart pages LEAF_KIND 2 (leaf_number pages l) 0 (λ is. absurd (omega (arith, is))) (t.leaf l below).0 t.head)
            (λ is. apart.leaf l below (sym is)))) (t.leaf l below).0;
      }

-- what is below one more is below, or is the last
last_or_before : (n d : ℕ) {P : Type 0} → d < n + 1 → (d < n → P) → (d ≡ n → P) → P
last_or_before n d {P = P} below before last = at (nat_lt d n) refl
  where
    at : (b : Bool) → nat_lt d n ≡ b → P
    at true is = before (ltb-true d n is)
    at false is = last (let past = ltb-false d n is in omega (arith, past, below))

-- a link to the new root is written in the head
pub root_linked : (pages new : Pages) (n : ℕ) → IsTable pages 0 0 0 → n ≢ 0 → IsNumbered pages n → IsPage pages DIRECTORY_KIND n
    → Only pages new 0 → IsPage new 2 0 → root (bytes new 0) ≡ n → next_page (bytes new 0) ≡ next_page (bytes pages 0) → IsTable new 1 0 0
unfolding root_number
root_linked pages new n t apart numbered page others head link next = record {
  head = head;
  next = let positive = t.next in omega (arith, next);
  last = let before = t.last in omega (arith, next, before);
  root = λ some. (
    subst (IsPage new DIRECTORY_KIND) (sym link) (subst (λ (b : List ℕ). (slice_index b 0 ≡ DIRECTORY_KIND) × (length b ≡ 4096)) (sym (others n apart)) page),
    omega (arith, numbered, link, next),
  );
  directory = λ d below. absurd (omega (arith, below));
  leaf = λ l below. absurd (omega (arith, below));
  root_apart = λ d below is. absurd (omega (arith, below));
  directories_apart = λ d e below below' is. absurd (omega (arith, below));
  leaves_apart = λ l m below below' is. absurd (omega (arith, below));
}

-- a link to a new directory page is written in the root
pub record LinksDirectory (pages new : Pages) (directories n : ℕ) : Type 0 where
  pub others : Only pages new (root_number pages)
  pub root : IsPage new DIRECTORY_KIND (root_number pages)
  pub new_link : link directories (bytes new (root_number pages)) ≡ n
  pub old_links : (d : ℕ) → d < directories → link d (bytes new (root_number pages)) ≡ link d (bytes pages (root_number pages))

module _ (pages new : Pages) (directories leaves n : ℕ) (t : IsTable pages 1 directories leaves) (placed : (l : ℕ) → l < leaves → l / 511 < directories)
    (apart : IsBeside pages 1 directories leaves n) (numbered : IsNumbered pages n) (page : IsPage pages DIRECTORY_KIND n)
    (linked : LinksDirectory pages new directories n) where
  -- the head is as it was
  pub head_same : bytes new 0 ≡ bytes pages 0
  head_same = linked.others 0 (kinds_apart pages 2 DIRECTORY_KIND 0 (root_number pages) (λ is. absurd (omega (arith, is))) t.head (t.root (omega arith)).0)

  -- the root is the page that it was
  pub root_same : root_number new ≡ root_number pages
  unfolding root_number
  root_same = ap root head_same

  old_directory : (d : ℕ) → d < directories → directory_number new d ≡ directory_number pages d
  unfolding directory_number
  old_directory d below = ap (λ r. link d (bytes new r)) root_same ∙ linked.old_links d below

  -- the new page comes after the directory pages that there were
  pub new_directory : directory_number new directories ≡ n
  unfolding directory_number
  new_directory = ap (λ r. link directories (bytes new r)) root_same ∙ linked.new_link

  directory_bytes_same : (d : ℕ) → d < directories → bytes new (directory_number pages d) ≡ bytes pages (directory_number pages d)
  directory_bytes_same d below = linked.others (directory_number pages d) (t.root_apart d below)

  -- each leaf has the number that it had
  pub old_leaf : (l : ℕ) → l < leaves → leaf_number new l ≡ leaf_number pages l
  unfolding leaf_number
  old_leaf l below =
      ap (λ d. link (l % 511) (bytes new d)) (old_directory (l / 511) (placed l below)) ∙ ap (link (l % 511)) (directory_bytes_same (l / 511) (placed l below))

  -- each leaf has the bytes that it had
  pub leaf_bytes_same : (l : ℕ) → l < leaves → bytes new (leaf_number new l) ≡ bytes pages (leaf_number pages l)
  leaf_bytes_same l below = ap (bytes new) (old_leaf l below)
      ∙ linked.others (leaf_number pages l)
      (kinds_apart pages LEAF_KIND DIRECTORY_KIND (leaf_number pages l) (root_number pages) (λ is. absurd (omega (arith, is))) (t.leaf l below).0
      (t.root (omega arith)).0)

  as_before : (kind m q : ℕ) → m ≡ q → q ≢ root_number pages → IsPage pages kind q × IsNumbered pages q → IsPage new kind m × IsNumbered new m
  as_before kind m q is differ h =
      subst (λ m. IsPage new kind m × IsNumbered new m) (sym is) (
        subst (λ (b : List ℕ). (slice_index b 0 ≡ kind) × (length b ≡ 4096)) (sym (linked.others q differ)) h.0,
        subst (λ (b : List ℕ). q < next_page b)
            (sym head_same) h.1,
      )

  -- the pages are a table with one directory page more
  pub directory_linked : IsTable new 1 (directories + 1) leaves
  directory_linked = record {
    head = subst (λ (b : List ℕ). (slice_index b 0 ≡ 2) × (length b ≡ 4096)) (sym head_same) t.head;
    next = subst (λ (b : List ℕ). 0 < next_page b) (sym head_same) t.next;
    last = subst (λ (b : List ℕ). next_page b ≤ LAST_PAGE) (sym head_same) t.last;
    root = λ some. subst (λ r. IsPage new DIRECTORY_KIND r × IsNumbered new r) (sym root_same)
        (linked.root, subst (λ (b : List ℕ). root_number pages < next_page b) (sym head_same) (t.root some).1);
    directory = λ d below. last_or_before directories d below
        (λ before. as_before DIRECTORY_KIND (directory_number new d) (directory_number pages d) (old_directory d before) (t.root_apart d before)
        (t.directory d before))
        (λ last. as_before DIRECTORY_KIND (directory_number new d) n (ap (directory_number new) last ∙ new_directory) (apart.root (omega arith))
        (page, numbered));
    leaf = λ l below. as_before LEAF_KIND (leaf_number new l) (leaf_number pages l) (old_leaf l below)
        (kinds_apart pages LEAF_KIND DIRECTORY_KIND (leaf_number pages l) (root_number pages) (λ is. absurd (omega (arith, is))) (t.leaf l below).0
        (t.root (omega arith)).0) (t.leaf l below);
    root_apart = λ d below is. last_or_before directories d below
        (λ before. t.root_apart d before (sym (old_directory d before) ∙ is ∙ root_same))
        (λ last. apart.root (omega arith) (sym (ap (directory_number new) last ∙ new_directory) ∙ is ∙ root_same));
    directories_apart = λ d e below below' is. last_or_before directories d below
        (λ before. last_or_before directories e below'
        (λ before'. t.directories_apart d e before before' (sym (old_directory d before) ∙ is ∙ old_directory e before'))
        (λ last. absurd (apart.directory d before (sym (sym (old_directory d before) ∙ is ∙ ap (directory_number new) last ∙ new_directory)))))
        (λ last. last_or_before directories e below'
        (λ before'. absurd (apart.directory e before' (sym (ap (directory_number new) last ∙ new_directory) ∙ is ∙ old_directory e before')))
        (λ last'. last ∙ sym last'));
    leaves_apart = λ l m below below' is. t.leaves_apart l m below below' (sym (old_leaf l below) ∙ is ∙ old_leaf m below');
  }

-- a link to a new leaf is written in its directory page
pub record LinksLeaf (pages new : Pages) (leaves n : ℕ) : Type 0 where
  pub others : Only pages new (directory_number pages (leaves / 511))
  pub directory : IsPage new DIRECTORY_KIND (directory_number pages (leaves / 511))
  pub new_link : link (leaves % 511) (bytes new (directory_number pages (leaves / 511))) ≡ n
  pub old_links : (i : ℕ) → i < 511 → i ≢ leaves % 511
      → link i (bytes new (directory_number pages (leaves / 511))) ≡ link i (bytes pages (directory_number pages (leaves / 511)))

module _ (pages new : Pages) (directories leaves n : ℕ) (t : IsTable pages 1 directories leaves) (placed : (l : ℕ) → l < leaves + 1 → l / 511 < directories)
    (apart : IsBeside pages 1 directories leaves n) (numbered : IsNumbered pages n) (page : IsPage pages LEAF_KIND n)
    (linked : LinksLeaf pages new leaves n) where
  above_is : IsPage pages DIRECTORY_KIND (directory_number pages (leaves / 511)) × IsNumbered pages (directory_number pages (leaves / 511))
  above_is = t.directory (leaves / 511) (placed leaves (omega arith))

  -- the head is as it was
  pub head_as_before : bytes new 0 ≡ bytes pages 0
  head_as_before = linked.others 0
      (kinds_apart pages 2 DIRECTORY_KIND 0 (directory_number pages (leaves / 511)) (λ is. absurd (omega (arith, is))) t.head above_is.0)

  -- the root is the page that it was
  pub root_as_before : root_number new ≡ root_number pages
  unfolding root_number
  root_as_before = ap root head_as_before

  root_bytes_as_before : bytes new (root_number pages) ≡ bytes pages (root_number pages)
  root_bytes_as_before = linked.others (root_number pages) (λ is. t.root_apart (leaves / 511) (placed leaves (omega arith)) (sym is))

  same_directory : (d : ℕ) → directory_number new d ≡ directory_number pages d
  unfolding directory_number
  same_directory d = ap (λ r. link d (bytes new r)) root_as_before ∙ ap (link d) root_bytes_as_before

  -- the new page comes after the leaves that there were
  pub new_leaf : leaf_number new leaves ≡ n
  unfolding leaf_number
  new_leaf = ap (λ d. link (leaves % 511) (bytes new d)) (same_directory (leaves / 511)) ∙ linked.new_link

  -- another leaf's link stands in another directory page, or at another place of this one
  pub leaf_as_before : (l : ℕ) → l < leaves → leaf_number new l ≡ leaf_number pages l
  unfolding leaf_number
  leaf_as_before l below = ap (λ d. link (l % 511) (bytes new d)) (same_directory (l / 511)) ∙ at (nat_eq (l / 511) (leaves / 511)) refl
    where
      at : (same : Bool) → nat_eq (l / 511) (leaves / 511) ≡ same
          → link (l % 511) (bytes new (directory_number pages (l / 511))) ≡ link (l % 511) (bytes pages (directory_number pages (l / 511)))
      at true is =
          let same = eqb-true (l / 511) (leaves / 511) is in
          subst (λ d. link (l % 511) (bytes new (directory_number pages d)) ≡ link (l % 511) (bytes pages (directory_number pages d))) (sym same)
          (linked.old_links (l % 511) (omega arith) (λ place. absurd (omega (arith, same, place, below))))
      at false is =
          ap (link (l % 511)) (linked.others (directory_number pages (l / 511))
          (λ one. absurd (true≢false
          (sym (eq-eqb (l / 511) (leaves / 511)
          (t.directories_apart (l / 511) (leaves / 511) (placed l (omega (arith, below))) (placed leaves (omega arith)) one)) ∙ is))))

  stays_page : (kind m q : ℕ) → m ≡ q → q ≢ directory_number pages (leaves / 511) → IsPage pages kind q × IsNumbered pages q
      → IsPage new kind m × IsNumbered new m
  stays_page kind m q is differ h =
      subst (λ m. IsPage new kind m × IsNumbered new m) (sym is) (
        subst (λ (b : List ℕ). (slice_index b 0 ≡ kind) × (length b ≡ 4096)) (sym (linked.others q differ)) h.0,
        subst (λ (b : List ℕ). q < next_page b)
            (sym head_as_before) h.1,
      )

  directory_there : (d : ℕ) → d < directories → IsPage new DIRECTORY_KIND (directory_number pages d)
  directory_there d below = at (nat_eq (directory_number pages d) (directory_number pages (leaves / 511))) refl
    where
      at : (same : Bool) → nat_eq (directory_number pages d) (directory_number pages (leaves / 511)) ≡ same
          → IsPage new DIRECTORY_KIND (directory_number pages d)
      at true is = subst (IsPage new DIRECTORY_KIND) (sym (eqb-true (directory_number pages d) (directory_number pages (leaves / 511)) is)) linked.directory
      at false is = subst (λ (b : List ℕ). (slice_index b 0 ≡ DIRECTORY_KIND) × (length b ≡ 4096))
          (sym (linked.others (directory_number pages d)
          (λ one. true≢false (sym (eq-eqb (directory_number pages d) (directory_number pages (leaves / 511)) one) ∙ is)))) (t.directory d below).0

  leaf_differs : (l : ℕ) → l < leaves → leaf_number pages l ≢ directory_number pages (leaves / 511)
  leaf_differs l below = kinds_apart pages LEAF_KIND DIRECTORY_KIND (leaf_number pages l) (directory_number pages (leaves / 511))
      (λ is. absurd (omega (arith, is))) (t.leaf l below).0 above_is.0

  -- each leaf that there was has the bytes that it had
  pub leaf_bytes_as_before : (l : ℕ) → l < leaves → bytes new (leaf_number new l) ≡ bytes pages (leaf_number pages l)
  leaf_bytes_as_before l below = ap (bytes new) (leaf_as_before l below) ∙ linked.others (leaf_number pages l) (leaf_differs l below)

  -- the pages are a table with one leaf more
  pub leaf_linked : IsTable new 1 directories (leaves + 1)
  leaf_linked = record {
    head = subst (λ (b : List ℕ). (slice_index b 0 ≡ 2) × (length b ≡ 4096)) (sym head_as_before) t.head;
    next = subst (λ (b : List ℕ). 0 < next_page b) (sym head_as_before) t.next;
    last = subst (λ (b : List ℕ). next_page b ≤ LAST_PAGE) (sym head_as_before) t.last;
    root = λ some. stays_page DIRECTORY_KIND (root_number new) (root_number pages) root_as_before
        (λ is. t.root_apart (leaves / 511) (placed leaves (omega arith)) (sym is)) (t.root (omega arith));
    directory = λ d below. subst (λ m. IsPage new DIRECTORY_KIND m × IsNumbered new m) (sym (same_directory d))
        (directory_there d below, subst (λ (b : List ℕ). directory_number pages d < next_page b) (sym head_as_before) (t.directory d below).1);
    leaf = λ l below. last_or_before leaves l below
        (λ before. stays_page LEAF_KIND (leaf_number new l) (leaf_number pages l) (leaf_as_before l before) (leaf_differs l before) (t.leaf l before))
        (λ last. stays_page LEAF_KIND (leaf_number new l) n (ap (leaf_number new) last ∙ new_leaf)
        (apart.directory (leaves / 511) (placed leaves (omega arith))) (page, numbered));
    root_apart = λ d below is. t.root_apart d below (sym (same_directory d) ∙ is ∙ root_as_before);
    directories_apart = λ d e below below' is. t.directories_apart d e below below' (sym (same_directory d) ∙ is ∙ same_directory e);
    leaves_apart = λ l m below below' is. last_or_before leaves l below
        (λ before. last_or_before leaves m below'
        (λ before'. t.leaves_apart l m before before' (sym (leaf_as_before l before) ∙ is ∙ leaf_as_before m before'))
        (λ last. absurd (apart.leaf l before (sym (sym (leaf_as_before l before) ∙ is ∙ ap (leaf_number new) last ∙ new_leaf)))))
        (λ last. last_or_before leaves m below'
        (λ before'. absurd (apart.leaf m before' (sym (ap (leaf_number new) last ∙ new_leaf) ∙ is ∙ leaf_as_before m before')))
        (λ last'. last ∙ sym last'));
  }
