-- A weight of a workspace, which each piece that is taken away lowers: each page counts what is behind its lowest piece.
use Rattle.std.proofs.Common.{◌≡◌, ℕ, ◌+◌, ◌-◌, Bool, true, false, List, [], ◌∷◌, Option, Some, None, refl, sym, ap, ◌∙◌, cond, arith}
use Rattle.std.specs.declared.cmp.Ordering.{Ordering}
use Rattle.std.specs.declared.cmp.Ordering.TheVariants.{Less, Equal, Greater}
use Rattle.std.specs.Ordering.{eq_by_cmp, is_eq}
use Rattle.std.specs.Cmp.{tied_itself}
use Rattle.std.specs.FinMap as map
use Rattle.std.specs.FinMap.Entries.{find, put, by_order}
use Rattle.page_bytes.specs.declared.ids.PageId.{PageId}
use Rattle.page_bytes.specs.Order.{page_cmp}
use Rattle.page_bytes.specs.Known.{PageMap}
use Rattle.page_bytes.proofs.Orders.{page_cmp-total, page_cmp-exact}
use Rattle.page_bytes.proofs.Works.{insert-same}
use Rattle.text_pages.specs.Slots.{lowest}

-- a page's bytes from its lowest piece on, and one
abbrev pub page_weight : List ℕ → ℕ
page_weight page = 4097 - lowest page

-- the pages of a list, each with its weight
abbrev pub entries_weight : List (PageId × List ℕ) → ℕ
entries_weight [] = 0
entries_weight (e ∷ es) = page_weight e.1 + entries_weight es

-- the pages of a map, each with its weight
pub weight : PageMap → ℕ
weight pages = entries_weight (map.entries pages)

-- a page under a new name adds its weight
added : (id : PageId) (v : List ℕ) (es : List (PageId × List ℕ)) → find page_cmp id es ≡ None
    → entries_weight (put page_cmp id v es) ≡ entries_weight es + page_weight v
added id v [] none = omega arith
added id v (e ∷ es) none = at (page_cmp id e.0) none (λ later. added id v es later)
  where
    at : (o : Ordering) → cond (is_eq o) (Some e.1) (find page_cmp id es) ≡ None
        → (find page_cmp id es ≡ None → entries_weight (put page_cmp id v es) ≡ entries_weight es + page_weight v)
        → entries_weight (by_order o ((id, v) ∷ e ∷ es) ((e.0, v) ∷ es) (e ∷ put page_cmp id v es)) ≡ (page_weight e.1 + entries_weight es) + page_weight v
    at Less is rest = omega arith
    at Equal is rest = cc
    at Greater is rest = let more = rest is in omega (arith, more)

weight-added : (m : PageMap) (id : PageId) (v : List ℕ) → map.get m id ≡ None → weight (map.insert m id v) ≡ weight m + page_weight v
unfolding weight
weight-added m id v none = ap entries_weight (map.entries-insert page_cmp-total m id v) ∙ added id v (map.entries m) (sym (map.get-entries m id) ∙ none)

gone : (m : PageMap) (id : PageId) → map.get (map.remove m id) id ≡ None
gone m id = map.get-remove page_cmp-total m id id ∙ ap (λ o. cond (is_eq o) None (map.get m id)) (tied_itself page_cmp-total id)

put_back : {X : Type 0} (e : Bool) (v : X) (o : Option X) → cond e (Some v) (cond e None o) ≡ cond e (Some v) o
put_back true v o = refl
put_back false v o = refl

again : (m : PageMap) (id : PageId) (v : List ℕ) → map.insert (map.remove m id) id v ≡ map.insert m id v
again m id v = map.same_map page_cmp-total page_cmp-exact _ _ (λ q.
    map.get-insert page_cmp-total (map.remove m id) id v q
    ∙ ap (cond (eq_by_cmp page_cmp q id) (Some v)) (map.get-remove page_cmp-total m id q)
    ∙ put_back (eq_by_cmp page_cmp q id) v (map.get m q)
    ∙ sym (map.get-insert page_cmp-total m id v q))

-- without a page there is its weight less
pub weight-without : (m : PageMap) (id : PageId) (x : List ℕ) → map.get m id ≡ Some x → weight m ≡ weight (map.remove m id) + page_weight x
weight-without m id x is =
    ap weight (sym (again m id x ∙ insert-same m id x is)) ∙ weight-added (map.remove m id) id x (gone m id)

-- a page in the place of another changes the weight by the difference of the two
pub weight-replaced : (m : PageMap) (id : PageId) (x v : List ℕ) → map.get m id ≡ Some x → weight (map.insert m id v) + page_weight x ≡ weight m + page_weight v
weight-replaced m id x v is =
    let new : weight (map.insert m id v) ≡ weight (map.remove m id) + page_weight v = ap weight (sym (again m id v))
    ∙ weight-added (map.remove m id) id v (gone m id) in
    let old = weight-without m id x is in omega (arith, new, old)
