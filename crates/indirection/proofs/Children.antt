-- What a new root, a new directory page and a new leaf do to the table, each with the link to it.
use Rattle.std.proofs.Common.{◌≡◌, ◌≢◌, ℕ, ◌+◌, ◌/◌, ◌%◌, ◌<◌, ◌≤◌, inl, inr, ⊎_elim, List, length, slice_index, Option, sym, ap, ◌∙◌, subst, arith, IsTrue}
use Rattle.page_bytes.specs.declared.ids.Space.{Space}
use Rattle.page_bytes.specs.declared.ids.PageId.{PageId}
use Rattle.page_bytes.specs.Fields.{field, with_field}
use Rattle.page_bytes.specs.Head.{next_page, LAST_PAGE}
use Rattle.page_bytes.specs.Known.{is_there}
use Rattle.page_bytes.specs.Work.{Work, with_fresh, next_in}
use Rattle.page_bytes.proofs.FieldLaws.{field-written}
use Rattle.indirection.specs.Forms.{LEAF_KIND, DIRECTORY_KIND, root, link, link_at}
use Rattle.page_bytes.specs.Links.{page_in}
use Rattle.indirection.specs.Writing.{with_new, with_child}
use Rattle.page_bytes.specs.Seen.{seen, bytes}
use Rattle.indirection.specs.Meaning.{IsPage, IsNumbered, root_number, directory_number, leaf_number, IsTable}
use Rattle.indirection.proofs.Entries.{order}
use Rattle.page_bytes.proofs.WrittenFields.{length-with_field, field_apart, kind_kept}
use Rattle.page_bytes.proofs.PageWrites.{there_with_page, written_there}
use Rattle.indirection.proofs.NewKinds.{there_with_new}
use Rattle.page_bytes.proofs.SeenPages.{seen-written, seen-beside, seen-first}
use Rattle.indirection.proofs.Steps.{Keeping, MakesPage, IsBeside, IsTable-kept, directory_stays, leaf_stays, new_beside, page_made, leaves_beside, root_linked, LinksDirectory, directory_linked, head_same, root_same, leaf_bytes_same, new_directory, LinksLeaf, leaf_linked, new_leaf, head_as_before, leaf_bytes_as_before}
use Rattle.indirection.proofs.NewPages.{made, made_field}

-- a workspace in which the table stands, with the leaves and the fields of the head that it began with
pub record Stands (all : PageId → Option (List ℕ)) (space : Space) (begun : ℕ → Option (List ℕ)) (old : ℕ) (w : Work)
    (roots directories leaves : ℕ) : Type 0 where
  pub table : IsTable (seen w.now all space) roots directories leaves
  pub there : IsTrue (is_there w.now (page_in space 0))
  pub fields : (n to : ℕ) → 26 ≤ to → field n to (bytes (seen w.now all space) 0) ≡ field n to (bytes begun 0)
  pub leaf_bytes : (l : ℕ) → l < old → bytes (seen w.now all space) (leaf_number (seen w.now all space) l) ≡ bytes begun (leaf_number begun l)
  pub leaf_numbers : old ≤ leaves
  pub rooted : 0 < directories → 0 < roots
  pub placed : (l : ℕ) → l < leaves → l / 511 < directories

-- one root, where there is one
pub one_root : (pages : ℕ → Option (List ℕ)) (some any directories leaves : ℕ) → (0 < any → 0 < some) → IsTable pages some directories leaves
    → IsTable pages any directories leaves
one_root pages some any directories leaves there t = record {
  head = t.head;
  next = t.next;
  last = t.last;
  root = λ one. t.root (there one);
  directory = t.directory;
  leaf = t.leaf;
  root_apart = t.root_apart;
  directories_apart = t.directories_apart;
  leaves_apart = t.leaves_apart;
}

-- a page's link that is written, and the others
module _ (b : List ℕ) (d n : ℕ) (below : d < 511) (small : n ≤ LAST_PAGE) (long : length b ≡ 4096) where
  link_written : link d (with_field 8 b (link_at d) n) ≡ n
  link_written = field-written 8 (link_at d) n b (omega (arith, small)) (omega (arith, below, long))

  link_apart : (i : ℕ) → i ≢ d → link i (with_field 8 b (link_at d) n) ≡ link i b
  link_apart i differ = field_apart 8 (link_at i) 8 b (link_at d) n
      (⊎_elim (λ less. inl (omega (arith, less))) (λ past. inr (omega (arith, past))) (order i d differ)) (omega (arith, below, long))

  kind_linked : slice_index (with_field 8 b (link_at d) n) 0 ≡ slice_index b 0
  kind_linked = kind_kept 8 b (link_at d) n (omega arith) (omega (arith, below, long))

  length_linked : length (with_field 8 b (link_at d) n) ≡ 4096
  length_linked = length-with_field 8 b (link_at d) n (omega (arith, below, long)) ∙ long

module _ (all : PageId → Option (List ℕ)) (space : Space) (begun : ℕ → Option (List ℕ)) (old : ℕ) (w : Work) (roots directories leaves : ℕ)
    (s : Stands all space begun old w roots directories leaves) (kind : ℕ) (more : next_page (bytes (seen w.now all space) 0) < LAST_PAGE) where
  -- where a next page number is left, a new page without a link to it is made as the table expects it
  pub mid_made : MakesPage (seen w.now all space) (seen (with_new kind w space).now all space) kind (next_in w space)
  mid_made = made w all space kind s.table.head s.there s.table.next more

  mid_keeps : Keeping (seen w.now all space) (seen (with_new kind w space).now all space) roots directories leaves
  mid_keeps = page_made (seen w.now all space) (seen (with_new kind w space).now all space) roots directories leaves s.table kind (next_in w space) mid_made

  -- the root has the number that it had
  pub mid_root : root_number (seen (with_new kind w space).now all space) ≡ root_number (seen w.now all space)
  mid_root = mid_keeps.root

  -- each directory page has the number that it had
  pub mid_directory : (d : ℕ) → d < directories → directory_number (seen (with_new kind w space).now all space) d ≡ directory_number (seen w.now all space) d
  mid_directory = directory_stays (seen w.now all space)
      (seen (with_new kind w space).now all space) roots directories leaves s.table mid_keeps s.rooted s.placed

  -- the new page is there, and is none of the table's
  pub mid_stands : Stands all space begun old (with_new kind w space) roots directories leaves
  mid_stands = record {
    table = IsTable-kept (seen w.now all space) (seen (with_new kind w space).now all space) roots directories leaves s.table mid_keeps s.rooted s.placed;
    there = there_with_new kind w space (page_in space 0) s.there;
    fields = λ m to behind. made_field w all space kind s.table.head s.there s.table.next more m to (omega (arith, behind)) ∙ s.fields m to behind;
    leaf_bytes = λ l below.
        let inside : l < leaves = let few = s.leaf_numbers in omega (arith, few, below) in
        ap (bytes (seen (with_new kind w space).now all space))
        (leaf_stays (seen w.now all space)
        (seen (with_new kind w space).now all space) roots directories leaves s.table mid_keeps s.rooted s.placed l inside)
        ∙ leaves_beside (seen w.now all space) (seen (with_new kind w space).now all space) roots directories leaves s.table kind
        (next_in w space) l mid_made inside ∙ s.leaf_bytes l below;
    leaf_numbers = s.leaf_numbers;
    rooted = s.rooted;
    placed = s.placed;
  }

  -- the new page is none of the head, the root, the directory pages and the leaves
  pub mid_beside : IsBeside (seen (with_new kind w space).now all space) roots directories leaves (next_in w space)
  mid_beside =
      let before = new_beside (seen w.now all space) (seen (with_new kind w space).now all space) roots directories leaves s.table kind
      (next_in w space) mid_made in record {
        head = before.head;
        root = λ some is. before.root some (is ∙ mid_root);
        directory = λ d below is. before.directory d below (is ∙ mid_directory d below);
        leaf = λ l below is. before.leaf l below (is
            ∙ leaf_stays (seen w.now all space)
            (seen (with_new kind w space).now all space) roots directories leaves s.table mid_keeps s.rooted s.placed l below);
      }

  -- the new page's number is below the head's next page number
  pub mid_numbered : IsNumbered (seen (with_new kind w space).now all space) (next_in w space)
  mid_numbered = let number = mid_made.number in let next = mid_made.next in omega (arith, number, next)

  -- the new page's number is at most the last page number
  pub mid_small : next_in w space ≤ LAST_PAGE
  mid_small = let number = mid_made.number in omega (arith, number, more)

-- a new root
module _ (all : PageId → Option (List ℕ)) (space : Space) (begun : ℕ → Option (List ℕ)) (w : Work)
    (s : Stands all space begun 0 w 0 0 0) (more : next_page (bytes (seen w.now all space) 0) < LAST_PAGE) where
  root_bytes : bytes (seen (with_child DIRECTORY_KIND w space 0 18).now all space) 0
      ≡ with_field 8 (bytes (seen (with_new DIRECTORY_KIND w space).now all space) 0) 18 (next_in w space)
  root_bytes =
      seen-written (with_new DIRECTORY_KIND w space) all space 0 _
      ∙ ap (λ (b : List ℕ). with_field 8 b 18 (next_in w space))
      (sym (seen-first (with_new DIRECTORY_KIND w space).now all space 0 (there_with_new DIRECTORY_KIND w space (page_in space 0) s.there)))

  -- the root is the new page
  pub rooted_number : root_number (seen (with_child DIRECTORY_KIND w space 0 18).now all space) ≡ next_in w space
  unfolding root_number
  rooted_number =
      let mid = mid_stands all space begun 0 w 0 0 0 s DIRECTORY_KIND more in let long = mid.table.head.1 in let small =
      mid_small all space begun 0 w 0 0 0 s DIRECTORY_KIND more in
      ap root root_bytes ∙ field-written 8 18 (next_in w space) (bytes (seen (with_new DIRECTORY_KIND w space).now all space) 0) (omega (arith, small))
      (omega (arith, long))

  -- the table stands with one root, and no directory page and no leaf as before
  pub rooted_stands : Stands all space begun 0 (with_child DIRECTORY_KIND w space 0 18) 1 0 0
  unfolding root_number
  rooted_stands =
      let mid = mid_stands all space begun 0 w 0 0 0 s DIRECTORY_KIND more in let apart = mid_beside all space begun 0 w 0 0 0 s DIRECTORY_KIND more in
      let long = mid.table.head.1 in
      let b = bytes (seen (with_new DIRECTORY_KIND w space).now all space) 0 in let n = next_in w space in let v = with_new DIRECTORY_KIND w space in record {
        table = root_linked (seen v.now all space) (seen (with_child DIRECTORY_KIND w space 0 18).now all space) n mid.table apart.head
            (mid_numbered all space begun 0 w 0 0 0 s DIRECTORY_KIND more) (mid_made all space begun 0 w 0 0 0 s DIRECTORY_KIND more).page
            (λ q differ. seen-beside v all space 0 q _ differ) (
              ap (λ l. slice_index l 0) root_bytes ∙ kind_kept 8 b 18 n (omega arith) (omega (arith, long)) ∙ mid.table.head.0,
              ap length root_bytes
                  ∙ length-with_field 8 b 18 n (omega (arith, long)) ∙ long,
            )
            rooted_number
            (ap next_page root_bytes ∙ field_apart 8 2 8 b 18 n (inl (omega arith)) (omega (arith, long)));
        there = there_with_page v (page_in space 0) (page_in space 0) _ mid.there;
        fields = λ m to behind. ap (field m to) root_bytes ∙ field_apart m to 8 b 18 n (inr (omega (arith, behind))) (omega (arith, long))
            ∙ mid.fields m to behind;
        leaf_bytes = λ l below. absurd (omega (arith, below));
        leaf_numbers = omega arith;
        rooted = λ some. omega arith;
        placed = λ l below. absurd (omega (arith, below));
      }

  -- the head's next page number is one more
  pub rooted_next : next_page (bytes (seen (with_child DIRECTORY_KIND w space 0 18).now all space) 0) ≡ next_page (bytes (seen w.now all space) 0) + 1
  rooted_next =
      let mid = mid_stands all space begun 0 w 0 0 0 s DIRECTORY_KIND more in let long = mid.table.head.1 in
      ap next_page root_bytes ∙ field_apart 8 2 8 (bytes (seen (with_new DIRECTORY_KIND w space).now all space) 0) 18 (next_in w space) (inl (omega arith))
      (omega (arith, long))
      ∙ (mid_made all space begun 0 w 0 0 0 s DIRECTORY_KIND more).next

  -- the new root is there
  pub rooted_there : IsTrue (is_there (with_child DIRECTORY_KIND w space 0 18).now (page_in space (next_in w space)))
  rooted_there = there_with_page (with_new DIRECTORY_KIND w space) (page_in space 0) (page_in space (next_in w space)) _
      (written_there (with_fresh w space) (page_in space (next_in w space)) _)

-- a new directory page
module _ (all : PageId → Option (List ℕ)) (space : Space) (begun : ℕ → Option (List ℕ)) (old : ℕ) (w : Work) (directories leaves : ℕ)
    (s : Stands all space begun old w 1 directories leaves) (more : next_page (bytes (seen w.now all space) 0) < LAST_PAGE) (below : directories < 511)
    (root_there : IsTrue (is_there w.now (page_in space (root_number (seen w.now all space))))) where
  -- the workspace with a new directory page, to which the root's next link leads
  abbrev pub directed : Work
  directed = with_child DIRECTORY_KIND w space (root_number (seen w.now all space)) (link_at directories)

  parent_bytes : bytes (seen (with_child DIRECTORY_KIND w space (root_number (seen w.now all space)) (link_at directories)).now all space)
      (root_number (seen w.now all space))
      ≡ with_field 8 (bytes (seen (with_new DIRECTORY_KIND w space).now all space) (root_number (seen w.now all space))) (link_at directories) (next_in w space)
  parent_bytes =
      let r = root_number (seen w.now all space) in let v = with_new DIRECTORY_KIND w space in
      seen-written v all space r _
      ∙ ap (λ (b : List ℕ). with_field 8 b (link_at directories) (next_in w space))
      (sym (seen-first v.now all space r (there_with_new DIRECTORY_KIND w space (page_in space r) root_there)))

  links : LinksDirectory (seen (with_new DIRECTORY_KIND w space).now all space) (seen directed.now all space) directories (next_in w space)
  links =
      let r = root_number (seen w.now all space) in let v = with_new DIRECTORY_KIND w space in let n = next_in w space in let b =
      bytes (seen v.now all space) r in
      let mid = mid_stands all space begun old w 1 directories leaves s DIRECTORY_KIND more in let is_root =
      mid_root all space begun old w 1 directories leaves s DIRECTORY_KIND more in
      let small = mid_small all space begun old w 1 directories leaves s DIRECTORY_KIND more in
      let page : IsPage (seen v.now all space) DIRECTORY_KIND r =
      subst (IsPage (seen v.now all space) DIRECTORY_KIND) is_root (mid.table.root (omega arith)).0 in
      record {
        others = λ q differ. seen-beside v all space r q _ (λ is. differ (is ∙ sym is_root));
        root = subst (IsPage (seen directed.now all space) DIRECTORY_KIND) (sym is_root) (
          ap (λ l. slice_index l 0) parent_bytes ∙ kind_linked b directories n below small page.1 ∙ page.0,
          ap length parent_bytes
              ∙ length_linked b directories n below small page.1,
        );
        new_link = ap (λ q. link directories (bytes (seen directed.now all space) q)) is_root ∙ ap (link directories) parent_bytes
            ∙ link_written b directories n below small page.1;
        old_links = λ d less. ap (λ q. link d (bytes (seen directed.now all space) q)) is_root ∙ ap (link d) parent_bytes
            ∙ link_apart b directories n below small page.1 d (λ is. absurd (omega (arith, is, less)))
            ∙ ap (λ q. link d (bytes (seen v.now all space) q)) (sym is_root);
      }

  -- the new page comes after the directory pages that there were
  pub directed_number : directory_number (seen directed.now all space) directories ≡ next_in w space
  directed_number =
      let v = with_new DIRECTORY_KIND w space in let mid = mid_stands all space begun old w 1 directories leaves s DIRECTORY_KIND more in
      new_directory (seen v.now all space) (seen directed.now all space) directories leaves (next_in w space) mid.table mid.placed
      (mid_beside all space begun old w 1 directories leaves s DIRECTORY_KIND more)
      (mid_numbered all space begun old w 1 directories leaves s DIRECTORY_KIND more)
      (mid_made all space begun old w 1 directories leaves s DIRECTORY_KIND more).page links

  -- the table stands with one directory page more and the same leaves
  pub directed_stands : Stands all space begun old directed 1 (directories + 1) leaves
  directed_stands =
      let v = with_new DIRECTORY_KIND w space in let mid = mid_stands all space begun old w 1 directories leaves s DIRECTORY_KIND more in let n =
      next_in w space in
      let apart = mid_beside all space begun old w 1 directories leaves s DIRECTORY_KIND more in let numbered =
      mid_numbered all space begun old w 1 directories leaves s DIRECTORY_KIND more in
      let page = (mid_made all space begun old w 1 directories leaves s DIRECTORY_KIND more).page in record {
        table = directory_linked (seen v.now all space) (seen directed.now all space) directories leaves n mid.table mid.placed apart numbered page links;
        there = there_with_page v (page_in space (root_number (seen w.now all space))) (page_in space 0) _ mid.there;
        fields = λ m to behind. ap (field m to)
            (head_same (seen v.now all space) (seen directed.now all space) directories leaves n mid.table mid.placed apart numbered page links)
            ∙ mid.fields m to behind;
        leaf_bytes = λ l less. leaf_bytes_same (seen v.now all space)
            (seen directed.now all space) directories leaves n mid.table mid.placed apart numbered page links l (let few = mid.leaf_numbers in
            omega (arith, few, less)) ∙ mid.leaf_bytes l less;
        leaf_numbers = s.leaf_numbers;
        rooted = λ some. omega arith;
        placed = λ l less. let inside = s.placed l less in omega (arith, inside);
      }

  -- the head's next page number is one more
  pub directed_next : next_page (bytes (seen directed.now all space) 0) ≡ next_page (bytes (seen w.now all space) 0) + 1
  directed_next =
      let v = with_new DIRECTORY_KIND w space in let mid = mid_stands all space begun old w 1 directories leaves s DIRECTORY_KIND more in
      ap next_page (head_same (seen v.now all space) (seen directed.now all space) directories leaves (next_in w space) mid.table mid.placed
      (mid_beside all space begun old w 1 directories leaves s DIRECTORY_KIND more)
      (mid_numbered all space begun old w 1 directories leaves s DIRECTORY_KIND more)
      (mid_made all space begun old w 1 directories leaves s DIRECTORY_KIND more).page links)
      ∙ (mid_made all space begun old w 1 directories leaves s DIRECTORY_KIND more).next

  -- the root is the page that it was
  pub directed_root : root_number (seen directed.now all space) ≡ root_number (seen w.now all space)
  directed_root =
      let v = with_new DIRECTORY_KIND w space in let mid = mid_stands all space begun old w 1 directories leaves s DIRECTORY_KIND more in
      root_same (seen v.now all space) (seen directed.now all space) directories leaves (next_in w space) mid.table mid.placed
      (mid_beside all space begun old w 1 directories leaves s DIRECTORY_KIND more)
      (mid_numbered all space begun old w 1 directories leaves s DIRECTORY_KIND more)
      (mid_made all space begun old w 1 directories leaves s DIRECTORY_KIND more).page links
      ∙ mid_root all space begun old w 1 directories leaves s DIRECTORY_KIND more

  -- the new directory page is there
  pub directed_there : IsTrue (is_there directed.now (page_in space (next_in w space)))
  directed_there = there_with_page (with_new DIRECTORY_KIND w space) (page_in space (root_number (seen w.now all space))) (page_in space (next_in w space)) _
      (written_there (with_fresh w space) (page_in space (next_in w space)) _)

-- a new leaf
module _ (all : PageId → Option (List ℕ)) (space : Space) (begun : ℕ → Option (List ℕ)) (old : ℕ) (w : Work) (directories leaves : ℕ)
    (s : Stands all space begun old w 1 directories leaves) (more : next_page (bytes (seen w.now all space) 0) < LAST_PAGE) (room : (l : ℕ) → l < leaves + 1
    → l / 511 < directories)
    (above_there : IsTrue (is_there w.now (page_in space (directory_number (seen w.now all space) (leaves / 511))))) where
  -- the workspace with a new leaf, to which the next link of its directory page leads
  abbrev pub leafed : Work
  leafed = with_child LEAF_KIND w space (directory_number (seen w.now all space) (leaves / 511)) (link_at (leaves % 511))

  above_bytes : bytes (seen leafed.now all space) (directory_number (seen w.now all space) (leaves / 511))
      ≡ with_field 8 (bytes (seen (with_new LEAF_KIND w space).now all space) (directory_number (seen w.now all space) (leaves / 511))) (link_at (leaves % 511))
      (next_in w space)
  above_bytes =
      let r = directory_number (seen w.now all space) (leaves / 511) in let v = with_new LEAF_KIND w space in
      seen-written v all space r _
      ∙ ap (λ (b : List ℕ). with_field 8 b (link_at (leaves % 511)) (next_in w space))
      (sym (seen-first v.now all space r (there_with_new LEAF_KIND w space (page_in space r) above_there)))

  leaf_links : LinksLeaf (seen (with_new LEAF_KIND w space).now all space) (seen leafed.now all space) leaves (next_in w space)
  leaf_links =
      let r = directory_number (seen w.now all space) (leaves / 511) in let v = with_new LEAF_KIND w space in let n = next_in w space in let b =
      bytes (seen v.now all space) r in
      let mid = mid_stands all space begun old w 1 directories leaves s LEAF_KIND more in
      let is_above : directory_number (seen v.now all space) (leaves / 511) ≡ r =
      mid_directory all space begun old w 1 directories leaves s LEAF_KIND more (leaves / 511) (room leaves (omega arith)) in
      let small = mid_small all space begun old w 1 directories leaves s LEAF_KIND more in
      let page : IsPage (seen v.now all space) DIRECTORY_KIND r =
      subst (IsPage (seen v.now all space) DIRECTORY_KIND) is_above (mid.table.directory (leaves / 511) (room leaves (omega arith))).0 in
      record {
        others = λ q differ. seen-beside v all space r q _ (λ is. differ (is ∙ sym is_above));
        directory = subst (IsPage (seen leafed.now all space) DIRECTORY_KIND) (sym is_above) (
          ap (λ l. slice_index l 0) above_bytes ∙ kind_linked b (leaves % 511) n (omega arith) small page.1 ∙ page.0,
          ap length above_bytes
              ∙ length_linked b (leaves % 511) n (omega arith) small page.1,
        );
        new_link = ap (λ q. link (leaves % 511) (bytes (seen leafed.now all space) q)) is_above ∙ ap (link (leaves % 511)) above_bytes
            ∙ link_written b (leaves % 511) n (omega arith) small page.1;
        old_links = λ i less differ. ap (λ q. link i (bytes (seen leafed.now all space) q)) is_above ∙ ap (link i) above_bytes
            ∙ link_apart b (leaves % 511) n (omega arith) small page.1 i differ ∙ ap (λ q. link i (bytes (seen v.now all space) q)) (sym is_above);
      }

  -- the new page comes after the leaves that there were
  pub leafed_number : leaf_number (seen leafed.now all space) leaves ≡ next_in w space
  leafed_number =
      let v = with_new LEAF_KIND w space in let mid = mid_stands all space begun old w 1 directories leaves s LEAF_KIND more in
      new_leaf (seen v.now all space) (seen leafed.now all space) directories leaves (next_in w space) mid.table room
      (mid_beside all space begun old w 1 directories leaves s LEAF_KIND more) (mid_numbered all space begun old w 1 directories leaves s LEAF_KIND more)
      (mid_made all space begun old w 1 directories leaves s LEAF_KIND more).page leaf_links

  -- the table stands with one leaf more and the same directory pages
  pub leafed_stands : Stands all space begun old leafed 1 directories (leaves + 1)
  leafed_stands =
      let v = with_new LEAF_KIND w space in let mid = mid_stands all space begun old w 1 directories leaves s LEAF_KIND more in let n = next_in w space in
      let apart = mid_beside all space begun old w 1 directories leaves s LEAF_KIND more in let numbered =
      mid_numbered all space begun old w 1 directories leaves s LEAF_KIND more in
      let page = (mid_made all space begun old w 1 directories leaves s LEAF_KIND more).page in record {
        table = leaf_linked (seen v.now all space) (seen leafed.now all space) directories leaves n mid.table room apart numbered page leaf_links;
        there = there_with_page v (page_in space (directory_number (seen w.now all space) (leaves / 511))) (page_in space 0) _ mid.there;
        fields = λ m to behind. ap (field m to)
            (head_as_before (seen v.now all space) (seen leafed.now all space) directories leaves n mid.table room apart numbered page leaf_links)
            ∙ mid.fields m to behind;
        leaf_bytes = λ l less. leaf_bytes_as_before (seen v.now all space)
            (seen leafed.now all space) directories leaves n mid.table room apart numbered page leaf_links l (let few = mid.leaf_numbers in
            omega (arith, few, less)) ∙ mid.leaf_bytes l less;
        leaf_numbers = let few = s.leaf_numbers in omega (arith, few);
        rooted = s.rooted;
        placed = room;
      }

  -- the new leaf is there
  pub leafed_there : IsTrue (is_there leafed.now (page_in space (next_in w space)))
  leafed_there = there_with_page (with_new LEAF_KIND w space) (page_in space (directory_number (seen w.now all space) (leaves / 511)))
      (page_in space (next_in w space)) _ (written_there (with_fresh w space) (page_in space (next_in w space)) _)
