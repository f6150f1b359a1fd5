-- What is seen of a space's pages once one of them is written or freed.
use Rattle.std.proofs.Common.{◌≡◌, ◌≢◌, ℕ, ◌==◌, Bool, true, false, not, ◌&&◌, ◌||◌, List, [], Option, Some, None, refl, sym, ap, ◌∙◌, cond, is_some, unwrap_or, IsTrue, if◌then◌else◌, true≢false, arith}
use Rattle.std.proofs.lemmas.Bool.Decides.{nat_tests}
use Rattle.std.specs.declared.cmp.Ordering.{Ordering}
use Rattle.std.specs.declared.cmp.Ordering.TheVariants.{Less, Equal, Greater}
use Rattle.std.specs.Ordering.{eq_by_cmp, is_eq}
use Rattle.std.specs.FinMap as map
use Rattle.page_bytes.specs.declared.ids.Space.{Space}
use Rattle.page_bytes.specs.declared.ids.PageId.{PageId}
use Rattle.page_bytes.specs.Order.{page_cmp}
use Rattle.page_bytes.specs.Known.{Known, is_there}
use Rattle.page_bytes.specs.Links.{page_in}
use Rattle.page_bytes.specs.Work.{Work, with_page, without_page, first_bytes, zeros}
use Rattle.page_bytes.specs.Seen.{seen, bytes}
use Rattle.page_bytes.proofs.Orders.{page_cmp-total, page_cmp-exact}
use Rattle.page_bytes.proofs.PageWrites.{get_with_page, get_of_space, same_number}

apart : (q n : ℕ) → q ≢ n → (q == n) ≡ false
apart q n differ = grind (arith, nat_tests)

itself : (n : ℕ) → (n == n) ≡ true
itself n = grind (arith, nat_tests)

-- ---- a page is written

seen_some : (page : Option (List ℕ)) (out : Bool) (all : Option (List ℕ)) (x : List ℕ) → page ≡ Some x
    → (if not (is_some page) && out then all else page) ≡ Some x
seen_some None out all x is = cc
seen_some (Some y) out all x is = is

-- a page that is written is seen, with the bytes written
pub page-written : (w : Work) (all : PageId → Option (List ℕ)) (space : Space) (n : ℕ) (b : List ℕ)
    → seen (with_page w (page_in space n) b).now all space n ≡ Some b
page-written w all space n b =
    let id = page_in space n in let k = (with_page w id b).now in
    seen_some (map.get k.pages id) (not (map.contains_key k.whole space || map.contains_key k.freed id)) (all id) b (get_with_page w id b)

-- the bytes seen of a page that is written are those written
pub seen-written : (w : Work) (all : PageId → Option (List ℕ)) (space : Space) (n : ℕ) (b : List ℕ)
    → bytes (seen (with_page w (page_in space n) b).now all space) n ≡ b
unfolding bytes
seen-written w all space n b = ap (λ o. unwrap_or o []) (page-written w all space n b)

beside : (eq : Bool) (page : Option (List ℕ)) (out : Bool) (all : Option (List ℕ)) (x : List ℕ) → eq ≡ false
    → (if not (is_some (cond eq (Some x) page)) && out then all else cond eq (Some x) page) ≡ (if not (is_some page) && out then all else page)
beside true page out all x is = absurd (true≢false is)
beside false page out all x is = refl

-- any other page of the space is seen as it was
pub page-beside : (w : Work) (all : PageId → Option (List ℕ)) (space : Space) (n q : ℕ) (b : List ℕ) → q ≢ n
    → seen (with_page w (page_in space n) b).now all space q ≡ seen w.now all space q
page-beside w all space n q b differ =
    let id = page_in space q in let out = not (map.contains_key w.now.whole space || map.contains_key w.now.freed id) in
    ap (λ o. if not (is_some o) && out then all id else o) (get_of_space w space n q b)
    ∙ beside (q == n) (map.get w.now.pages id) out (all id) b (apart q n differ)

-- the bytes seen of any other page of the space are as they were
pub seen-beside : (w : Work) (all : PageId → Option (List ℕ)) (space : Space) (n q : ℕ) (b : List ℕ) → q ≢ n
    → bytes (seen (with_page w (page_in space n) b).now all space) q ≡ bytes (seen w.now all space) q
unfolding bytes
seen-beside w all space n q b differ = ap (λ o. unwrap_or o []) (page-beside w all space n q b differ)

first_seen : (page : Option (List ℕ)) (out : Bool) (all : Option (List ℕ)) → is_some page ≡ true
    → unwrap_or (if not (is_some page) && out then all else page) [] ≡ unwrap_or page zeros
first_seen None out all is = absurd (true≢false (sym is))
first_seen (Some x) out all is = refl

-- a page that is there is seen as an edit begins with it
pub seen-first : (k : Known) (all : PageId → Option (List ℕ)) (space : Space) (n : ℕ) → IsTrue (is_there k (page_in space n))
    → bytes (seen k all space) n ≡ first_bytes k (page_in space n)
unfolding bytes
seen-first k all space n is =
    let id = page_in space n in first_seen (map.get k.pages id) (not (map.contains_key k.whole space || map.contains_key k.freed id)) (all id) is

some_of : (page : Option (List ℕ)) (out : Bool) (all : Option (List ℕ)) → is_some page ≡ true
    → (if not (is_some page) && out then all else page) ≡ Some (unwrap_or page zeros)
some_of None out all is = absurd (true≢false (sym is))
some_of (Some x) out all is = refl

-- a page that is there is seen, with the bytes that an edit of it begins with
pub page-first : (k : Known) (all : PageId → Option (List ℕ)) (space : Space) (n : ℕ) → IsTrue (is_there k (page_in space n))
    → seen k all space n ≡ Some (first_bytes k (page_in space n))
page-first k all space n is =
    let id = page_in space n in some_of (map.get k.pages id) (not (map.contains_key k.whole space || map.contains_key k.freed id)) (all id) is

-- ---- a page is freed

gone : (e : Bool) (page : Option (List ℕ)) (whole : Bool) (lost : Option (Unit {0})) (all : Option (List ℕ)) → e ≡ true
    → (if not (is_some (cond e None page)) && not (whole || is_some (cond e (Some tt) lost)) then all else cond e None page) ≡ None
gone true page true lost all is = refl
gone true page false lost all is = refl
gone false page whole lost all is = absurd (true≢false (sym is))

kept : (e : Bool) (page : Option (List ℕ)) (whole : Bool) (lost : Option (Unit {0})) (all : Option (List ℕ)) → e ≡ false
    → (if not (is_some (cond e None page)) && not (whole || is_some (cond e (Some tt) lost)) then all else cond e None page)
    ≡ (if not (is_some page) && not (whole || is_some lost) then all else page)
kept true page whole lost all is = absurd (true≢false is)
kept false page whole lost all is = refl

module _ (w : Work) (all : PageId → Option (List ℕ)) (space : Space) (n : ℕ) where
  seen_now : (q : ℕ) → seen (without_page w (page_in space n)).now all space q
      ≡ (if not (is_some (cond (q == n) None (map.get w.now.pages (page_in space q)))) && not
      (map.contains_key w.now.whole space || is_some (cond (q == n) (Some tt) (map.get w.now.freed (page_in space q)))) then all (page_in space q) else cond
      (q == n) None (map.get w.now.pages (page_in space q)))
  seen_now q =
      let id = page_in space q in
      let page_is = map.get-remove page_cmp-total w.now.pages (page_in space n) id ∙ ap (λ e. cond e None (map.get w.now.pages id)) (same_number space q n) in
      let gone_is = map.get-insert page_cmp-total w.now.freed (page_in space n) tt id
      ∙ ap (λ e. cond e (Some tt) (map.get w.now.freed id)) (same_number space q n) in
      λ i. if not (is_some (page_is i)) && not (map.contains_key w.now.whole space || is_some (gone_is i)) then all id else page_is i

  -- a page that was freed is not there
  pub page-freed : seen (without_page w (page_in space n)).now all space n ≡ None
  page-freed = seen_now n ∙ gone (n == n) (map.get w.now.pages (page_in space n)) (map.contains_key w.now.whole space) (map.get w.now.freed (page_in space n))
      (all (page_in space n)) (itself n)

  -- a page that is freed has no bytes to be seen
  pub seen-freed : bytes (seen (without_page w (page_in space n)).now all space) n ≡ []
  unfolding bytes
  seen-freed = ap (λ o. unwrap_or o []) page-freed

  -- any other page of the space is seen as it was where one is freed
  pub page-freed_beside : (q : ℕ) → q ≢ n → seen (without_page w (page_in space n)).now all space q ≡ seen w.now all space q
  page-freed_beside q differ = seen_now q
      ∙ kept (q == n) (map.get w.now.pages (page_in space q)) (map.contains_key w.now.whole space) (map.get w.now.freed (page_in space q))
      (all (page_in space q)) (apart q n differ)

  -- the bytes seen of any other page of the space are as they were where one is freed
  pub seen-freed_beside : (q : ℕ) → q ≢ n → bytes (seen (without_page w (page_in space n)).now all space) q ≡ bytes (seen w.now all space) q
  unfolding bytes
  seen-freed_beside q differ = ap (λ o. unwrap_or o []) (page-freed_beside q differ)

-- ---- pages of other spaces

-- a page of another space is tied with no page of this one
pub other_space : (space : Space) (n : ℕ) (q : PageId) → q.space ≢ space → eq_by_cmp page_cmp q (page_in space n) ≡ false
other_space space n q differ = at (page_cmp q (page_in space n)) refl
  where
    at : (o : Ordering) → page_cmp q (page_in space n) ≡ o → is_eq o ≡ false
    at Less e = refl
    at Equal e = absurd (differ (ap (λ (id : PageId). id.space) (page_cmp-exact q (page_in space n) e)))
    at Greater e = refl

beside_put : {X : Type 0} (e : Bool) (x : X) (o : Option X) → e ≡ false → cond e (Some x) o ≡ o
beside_put true x o is = absurd (true≢false is)
beside_put false x o is = refl

beside_gone : {X : Type 0} (e : Bool) (o : Option X) → e ≡ false → cond e None o ≡ o
beside_gone true o is = absurd (true≢false is)
beside_gone false o is = refl

-- where a page of one space is written, what is there of a page of another space is as it was
pub other_with : (w : Work) (space : Space) (n : ℕ) (b : List ℕ) (q : PageId) → q.space ≢ space
    → map.get (with_page w (page_in space n) b).now.pages q ≡ map.get w.now.pages q
other_with w space n b q differ = map.get-insert page_cmp-total w.now.pages (page_in space n) b q
    ∙ beside_put (eq_by_cmp page_cmp q (page_in space n)) b (map.get w.now.pages q) (other_space space n q differ)

-- where a page of one space is freed, what is there of a page of another space is as it was
pub other_without : (w : Work) (space : Space) (n : ℕ) (q : PageId) → q.space ≢ space
    → map.get (without_page w (page_in space n)).now.pages q ≡ map.get w.now.pages q
other_without w space n q differ = map.get-remove page_cmp-total w.now.pages (page_in space n) q
    ∙ beside_gone (eq_by_cmp page_cmp q (page_in space n)) (map.get w.now.pages q) (other_space space n q differ)

other_freed : (w : Work) (space : Space) (n : ℕ) (q : PageId) → q.space ≢ space → map.get (without_page w (page_in space n)).now.freed q ≡ map.get w.now.freed q
other_freed w space n q differ = map.get-insert page_cmp-total w.now.freed (page_in space n) tt q
    ∙ beside_put (eq_by_cmp page_cmp q (page_in space n)) tt (map.get w.now.freed q) (other_space space n q differ)

module _ (w : Work) (all : PageId → Option (List ℕ)) (space : Space) (n : ℕ) (other : Space) (m : ℕ) (differ : other ≢ space) where
  -- where a page of one space is written, the pages of another are seen as they were
  pub page-other : (b : List ℕ) → seen (with_page w (page_in space n) b).now all other m ≡ seen w.now all other m
  page-other b =
      let id = page_in other m in
      ap (λ o. if not (is_some o) && not (map.contains_key w.now.whole other || map.contains_key w.now.freed id) then all id else o)
      (other_with w space n b id differ)

  -- where a page of one space is freed, the pages of another are seen as they were
  pub page-other_freed : seen (without_page w (page_in space n)).now all other m ≡ seen w.now all other m
  page-other_freed =
      let id = page_in other m in let page_is = other_without w space n id differ in let gone_is = other_freed w space n id differ in
      λ i. if not (is_some (page_is i)) && not (map.contains_key w.now.whole other || is_some (gone_is i)) then all id else page_is i
