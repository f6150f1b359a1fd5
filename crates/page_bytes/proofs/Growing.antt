-- What a workspace comes to know: nothing that is known is forgotten.
use Rattle.std.proofs.Common.{◌≡◌, ℕ, Bool, true, false, not, ◌&&◌, ◌||◌, List, Option, Some, None, sym, ap, ◌∙◌, cond, is_some, IsTrue, true≢false}
use Rattle.std.specs.Ordering.{eq_by_cmp}
use Rattle.std.specs.FinMap as map
use Rattle.page_bytes.specs.declared.ids.PageId.{PageId}
use Rattle.page_bytes.specs.Order.{page_cmp}
use Rattle.page_bytes.specs.Known.{Known, is_unknown}
use Rattle.page_bytes.specs.Work.{Work, with_page, without_page}
use Rattle.page_bytes.proofs.Orders.{page_cmp-total}

-- what is unknown was unknown
abbrev pub Grows : Known → Known → Type 0
Grows old new = (id : PageId) → IsTrue (is_unknown new id) → IsTrue (is_unknown old id)

-- what is unknown after two steps, neither of which forgets anything, was unknown before both
pub grows_twice : (a b c : Known) → Grows a b → Grows b c → Grows a c
grows_twice a b c one two id is = one id (two id is)

written : (e : Bool) (page : Option (List ℕ)) (out : Bool) (x : List ℕ) → (not (is_some (cond e (Some x) page)) && out) ≡ true
    → (not (is_some page) && out) ≡ true
written true page out x is = absurd (true≢false (sym is))
written false page out x is = is

-- a page that is written makes nothing unknown
pub grows_with : (w : Work) (id : PageId) (b : List ℕ) → Grows w.now (with_page w id b).now
grows_with w id b q is =
    let out = not (map.contains_key w.now.whole q.space || map.contains_key w.now.freed q) in
    written (eq_by_cmp page_cmp q id) (map.get w.now.pages q) out b (ap (λ o. not (is_some o) && out) (sym (map.get-insert page_cmp-total w.now.pages id b q))
    ∙ is)

freed : (e : Bool) (page : Option (List ℕ)) (whole : Bool) (lost : Option (Unit {0}))
    → (not (is_some (cond e None page)) && not (whole || is_some (cond e (Some tt) lost))) ≡ true → (not (is_some page) && not (whole || is_some lost)) ≡ true
freed true page true lost is = absurd (true≢false (sym is))
freed true page false lost is = absurd (true≢false (sym is))
freed false page whole lost is = is

-- a page that is freed makes nothing unknown, not even itself
pub grows_without : (w : Work) (id : PageId) → Grows w.now (without_page w id).now
grows_without w id q is =
    let whole = map.contains_key w.now.whole q.space in
    freed (eq_by_cmp page_cmp q id) (map.get w.now.pages q) whole (map.get w.now.freed q)
    ((λ i. not (is_some (sym (map.get-remove page_cmp-total w.now.pages id q) i)) && not
    (whole || is_some (sym (map.get-insert page_cmp-total w.now.freed id tt q) i))) ∙ is)
