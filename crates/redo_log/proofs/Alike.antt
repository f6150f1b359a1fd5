-- What a record does to pages is the same whatever is seen of them.
use Rattle.std.proofs.Common.{◌≡◌, Bool, true, false, cond, not, is_some, List, [], ◌∷◌, ℕ, Option, Some, None, refl, sym, ap, ◌∙◌}
use Rattle.std.specs.Ordering.{eq_by_cmp}
use Rattle.std.specs.FinMap as map
use Rattle.page_bytes.specs.declared.ids.PageId.{PageId}
use Rattle.page_bytes.specs.declared.ids.DocEntry.{DocEntry}
use Rattle.page_bytes.specs.declared.lists.PageChange.{PageChange}
use Rattle.page_bytes.specs.Order.{page_cmp, is_in}
use Rattle.page_bytes.proofs.Orders.{page_cmp-total, page_cmp-exact}
use Rattle.redo_log.specs.Names.{Names}
use Rattle.redo_log.specs.declared.change.LogName.{LogName}
use Rattle.redo_log.specs.declared.change.Change.{Change}
use Rattle.redo_log.specs.declared.store.Store.{Store}
use Rattle.redo_log.specs.Store.{entry_of, names_after, without_document, pages_after_name, pages_after_names, with_image, with_images, without_page, without_gone, pages_after, no_image, after_names, after, HaveSameKeys}

module _ {V W : Type 0} where
  inserted : (a : map.FinMap page_cmp V) (b : map.FinMap page_cmp W) (k : PageId) (v : V) (w : W) → HaveSameKeys a b
      → HaveSameKeys (map.insert a k v) (map.insert b k w)
  inserted a b k v w h q = ap is_some (map.get-insert page_cmp-total a k v q)
      ∙ (by_test (eq_by_cmp page_cmp q k) ∙ sym (ap is_some (map.get-insert page_cmp-total b k w q)))
    where
      by_test : (e : Bool) → is_some (cond e (Some v) (map.get a q)) ≡ is_some (cond e (Some w) (map.get b q))
      by_test true = refl
      by_test false = h q

  removed : (a : map.FinMap page_cmp V) (b : map.FinMap page_cmp W) (k : PageId) → HaveSameKeys a b → HaveSameKeys (map.remove a k) (map.remove b k)
  removed a b k h q = ap is_some (map.get-remove page_cmp-total a k q)
      ∙ (by_test (eq_by_cmp page_cmp q k) ∙ sym (ap is_some (map.get-remove page_cmp-total b k q)))
    where
      by_test : (e : Bool) → is_some (cond e None (map.get a q)) ≡ is_some (cond e None (map.get b q))
      by_test true = refl
      by_test false = h q

  retained : (a : map.FinMap page_cmp V) (b : map.FinMap page_cmp W) (p : PageId → Bool) → HaveSameKeys a b
      → HaveSameKeys (map.retain_keys a p) (map.retain_keys b p)
  retained a b p h q =
      ap is_some (map.get-retain_keys a p q (λ x t. ap p (sym (page_cmp-exact q x t))))
      ∙ (by_test (p q) ∙ sym (ap is_some (map.get-retain_keys b p q (λ x t. ap p (sym (page_cmp-exact q x t))))))
    where
      by_test : (e : Bool) → is_some (cond e (map.get a q) None) ≡ is_some (cond e (map.get b q) None)
      by_test true = h q
      by_test false = refl

  without_one : (was : Option DocEntry) (a : map.FinMap page_cmp V) (b : map.FinMap page_cmp W) → HaveSameKeys a b
      → HaveSameKeys (without_document was a) (without_document was b)
  without_one None a b h = h
  without_one (Some e) a b h = retained a b (λ id. not (is_in e.space id)) h

  after_one : (was now : Option DocEntry) (a : map.FinMap page_cmp V) (b : map.FinMap page_cmp W) → HaveSameKeys a b
      → HaveSameKeys (pages_after_name was now a) (pages_after_name was now b)
  after_one was None a b h = without_one was a b h
  after_one was (Some e) a b h = h

  after_some : (ns : List LogName) (names : Names) (a : map.FinMap page_cmp V) (b : map.FinMap page_cmp W) → HaveSameKeys a b
      → HaveSameKeys (pages_after_names ns names a) (pages_after_names ns names b)
  after_some [] names a b h = h
  after_some (n ∷ ns) names a b h =
      after_some ns (names_after n.name n.entry names) (pages_after_name (entry_of n.name names) n.entry a) (pages_after_name (entry_of n.name names) n.entry b)
      (after_one (entry_of n.name names) n.entry a b h)

  module _ (f : List ℕ → V) (g : List ℕ → W) where
    with_one : (o : Option (List ℕ)) (id : PageId) (a : map.FinMap page_cmp V) (b : map.FinMap page_cmp W) → HaveSameKeys a b
        → HaveSameKeys (with_image f o id a) (with_image g o id b)
    with_one None id a b h = h
    with_one (Some page) id a b h = inserted a b id (f page) (g page) h

    with_some : (cs : List PageChange) (a : map.FinMap page_cmp V) (b : map.FinMap page_cmp W) → HaveSameKeys a b
        → HaveSameKeys (with_images f cs a) (with_images g cs b)
    with_some [] a b h = h
    with_some (c ∷ cs) a b h = with_some cs (with_image f c.page c.id a) (with_image g c.page c.id b) (with_one c.page c.id a b h)

  gone_one : (o : Option (List ℕ)) (id : PageId) (a : map.FinMap page_cmp V) (b : map.FinMap page_cmp W) → HaveSameKeys a b
      → HaveSameKeys (without_page o id a) (without_page o id b)
  gone_one None id a b h = removed a b id h
  gone_one (Some page) id a b h = h

  gone_some : (cs : List PageChange) (a : map.FinMap page_cmp V) (b : map.FinMap page_cmp W) → HaveSameKeys a b
      → HaveSameKeys (without_gone cs a) (without_gone cs b)
  gone_some [] a b h = h
  gone_some (c ∷ cs) a b h = gone_some cs (without_page c.page c.id a) (without_page c.page c.id b) (gone_one c.page c.id a b h)

  -- two maps of the same pages are maps of the same pages after a record
  pub same_pages : (f : List ℕ → V) (g : List ℕ → W) (c : Change) (names : Names) (a : map.FinMap page_cmp V) (b : map.FinMap page_cmp W) → HaveSameKeys a b
      → HaveSameKeys (pages_after f c names a) (pages_after g c names b)
  same_pages f g c names a b h = gone_some c.pages _ _ (with_some f g c.pages _ _ (after_some c.names names a b h))

names_pages : (ns : List LogName) (s : Store) → (after_names ns s).pages ≡ pages_after_names ns s.names s.pages
names_pages [] s = refl
names_pages (n ∷ ns) s = names_pages ns _

-- the pages that are there after a record
pub store_pages : (c : Change) (s : Store) → (after c s).pages ≡ pages_after no_image c s.names s.pages
store_pages c s = ap (λ p. without_gone c.pages (with_images no_image c.pages p)) (names_pages c.names s)
