-- What each change of a workspace's parts does to what the workspace is seen as.
use Rattle.std.proofs.Common.{◌≡◌, ℕ, zero, suc, ◌+◌, ◌-◌, ◌<◌, Bool, true, false, not, ◌&&◌, ◌||◌, List, Option, Some, None, refl, sym, ap, ◌∙◌, cond, is_some, unwrap_or, true≢false, Bor, arith}
use Rattle.std.specs.Option.{option_or, option_copied}
use Rattle.std.specs.declared.cmp.Ordering.{Ordering}
use Rattle.std.specs.declared.cmp.Ordering.TheVariants.{Less, Equal, Greater}
use Rattle.std.specs.Ordering.{eq_by_cmp, is_eq}
use Rattle.std.specs.Cmp.{tied_itself}
use Rattle.std.specs.FinMap as map
use Rattle.page_bytes.specs.declared.ids.Space.{Space}
use Rattle.page_bytes.specs.declared.ids.PageId.{PageId}
use Rattle.page_bytes.specs.Order.{space_cmp, page_cmp, is_in}
use Rattle.page_bytes.specs.Overlay.{get-overlay}
use Rattle.page_bytes.specs.Known.{PageMap, PageIds, Spaces, Known, known_of, is_absent, is_unknown}
use Rattle.page_bytes.specs.Work.{Work, work_over, with_page, without_page, with_space, without_space, first_bytes, zeros, with_fresh}
use Rattle.page_bytes.specs.Head.{head_of, next_page, with_next_page}
use Rattle.page_bytes.specs.Inside.{stays, pages_of, work_of, Owns}
use Rattle.page_bytes.proofs.Orders.{page_cmp-total, page_cmp-exact, space_cmp-total, is_in-cmp}

never : (b : Bool) → (b && false) ≡ false
never true = refl
never false = refl

drafted : {X : Type 0} (e : Bool) (x : X) (d r : Option X) → option_or (cond e (Some x) d) r ≡ cond e (Some x) (option_or d r)
drafted true x d r = refl
drafted false x d r = refl

freed : {X : Type 0} (e w : Bool) (d : Option X) (g : Option (Unit {0})) (b : Option X)
    → option_or (cond e None d) (cond (not w && not (is_some (cond e (Some tt) g))) b None) ≡ cond e None (option_or d (cond (not w && not (is_some g)) b None))
freed true true d g b = refl
freed true false d g b = refl
freed false w d g b = refl

opened : {X : Type 0} (e g : Bool) (d : Option X) (w : Option (Unit {0})) (b : Option X)
    → option_or (cond (not e) d None) (cond (not (is_some (cond e (Some tt) w)) && not g) b None)
    ≡ cond (not e) (option_or d (cond (not (is_some w) && not g) b None)) None
opened true g d w b = refl
opened false g d w b = refl

dropped : {X : Type 0} (e : Bool) (d : Option X) (g w : Option (Unit {0})) (b : Option X)
    → option_or (cond (not e) d None) (cond (not (is_some (cond e None w)) && not (is_some (cond (not e) g None))) (cond (not e) b None) None)
    ≡ cond (not e) (option_or d (cond (not (is_some w) && not (is_some g)) b None)) None
dropped true d g w b = refl
dropped false d g w b = refl

-- what a map keeps by a test, at a key
pub get-kept : {X : Type 0} (m : map.FinMap page_cmp X) (p : PageId → Bool) (q : PageId) → map.get (map.retain_keys m p) q ≡ cond (p q) (map.get m q) None
get-kept m p q = map.get-retain_keys m p q (λ x t. ap p (sym (page_cmp-exact q x t)))

-- what is there of a page: its draft, or else what is below and stays
pub get-pages_of : (b d : PageMap) (g : PageIds) (w : Spaces) (q : PageId)
    → map.get (pages_of b d g w) q ≡ option_or (map.get d q) (cond (stays g w q) (map.get b q) None)
get-pages_of b d g w q = get-overlay page_cmp-total d (map.retain_keys b (stays g w)) q ∙ ap (option_or (map.get d q)) (get-kept b (stays g w) q)

-- no key is in the empty set
pub no_key : {K : Type 0} (R : K → K → Ordering) (q : K) → map.contains_key (map.empty {X = Unit {0}} {R = R}) q ≡ false
no_key R q = ap is_some (map.get-empty R q)

-- a set of pages without pages tells of no page that it is absent
pub nothing_absent : (pages : PageMap) (q : PageId) → is_absent (known_of pages) q ≡ false
nothing_absent pages q =
    ap (λ b. not (map.contains_key pages q) && (b || map.contains_key {X = Unit {0}} {R = page_cmp} map.empty q)) (no_key space_cmp q.space)
    ∙ ap (λ b. not (map.contains_key pages q) && b) (no_key page_cmp q)
    ∙ never (not (map.contains_key pages q))

-- equal at each page, two maps are one
pub same_pages : (m n : PageMap) → ((q : PageId) → map.get m q ≡ map.get n q) → m ≡ n
same_pages = map.same_map page_cmp-total page_cmp-exact

-- a new workspace has what is below, and nothing is absent
pub work_of-over : (b : PageMap) → work_of b map.empty map.empty map.empty ≡ work_over b
work_of-over b =
    let stay : (q : PageId) → stays map.empty map.empty q ≡ true =
    λ q. ap (λ x. not x && not (map.contains_key {X = Unit {0}} {R = page_cmp} map.empty q)) (no_key space_cmp q.space) ∙ ap not (no_key page_cmp q) in
    let same = same_pages (pages_of b map.empty map.empty map.empty) b
    (λ q. get-pages_of b map.empty map.empty map.empty q
    ∙ ap (λ o. option_or o (cond (stays map.empty map.empty q) (map.get b q) None)) (map.get-empty page_cmp q)
    ∙ ap (λ x. cond x (map.get b q) None) (stay q)) in
    λ i. record { below = b; now = record { pages = same i; whole = map.empty; freed = map.empty } }

-- a draft of a page is the page
pub work_of-draft : (b d : PageMap) (g : PageIds) (w : Spaces) (id : PageId) (x : List ℕ)
    → work_of b (map.insert d id x) g w ≡ with_page (work_of b d g w) id x
work_of-draft b d g w id x =
    let same = same_pages (pages_of b (map.insert d id x) g w) (map.insert (pages_of b d g w) id x)
    (λ q. get-pages_of b (map.insert d id x) g w q
    ∙ ap (λ o. option_or o (cond (stays g w q) (map.get b q) None)) (map.get-insert page_cmp-total d id x q)
    ∙ drafted (eq_by_cmp page_cmp q id) x (map.get d q) (cond (stays g w q) (map.get b q) None)
    ∙ ap (cond (eq_by_cmp page_cmp q id) (Some x)) (sym (get-pages_of b d g w q))
    ∙ sym (map.get-insert page_cmp-total (pages_of b d g w) id x q)) in
    λ i. record { below = b; now = record { pages = same i; whole = w; freed = g } }

-- to free a page is to drop its draft and to note that it is gone
pub work_of-gone : (b d : PageMap) (g : PageIds) (w : Spaces) (id : PageId)
    → work_of b (map.remove d id) (map.insert g id tt) w ≡ without_page (work_of b d g w) id
work_of-gone b d g w id =
    let same = same_pages (pages_of b (map.remove d id) (map.insert g id tt) w) (map.remove (pages_of b d g w) id)
    (λ q. get-pages_of b (map.remove d id) (map.insert g id tt) w q
    ∙ ap (λ o. option_or o (cond (stays (map.insert g id tt) w q) (map.get b q) None)) (map.get-remove page_cmp-total d id q)
    ∙ ap (λ o. option_or (cond (eq_by_cmp page_cmp q id) None (map.get d q)) (cond (not (map.contains_key w q.space) && not (is_some o)) (map.get b q) None))
    (map.get-insert page_cmp-total g id tt q)
    ∙ freed (eq_by_cmp page_cmp q id) (map.contains_key w q.space) (map.get d q) (map.get g q) (map.get b q)
    ∙ ap (cond (eq_by_cmp page_cmp q id) None) (sym (get-pages_of b d g w q))
    ∙ sym (map.get-remove page_cmp-total (pages_of b d g w) id q)) in
    λ i. record { below = b; now = record { pages = same i; whole = w; freed = map.insert g id tt } }

-- to open a space is to drop its drafts and to note that it is whole
pub work_of-opened : (b d : PageMap) (g : PageIds) (w : Spaces) (s : Space)
    → work_of b (map.retain_keys d (λ q. not (is_in s q))) g (map.insert w s tt) ≡ with_space (work_of b d g w) s
work_of-opened b d g w s =
    let out = λ (q : PageId). not (is_in s q) in
    let same = same_pages (pages_of b (map.retain_keys d out) g (map.insert w s tt)) (map.retain_keys (pages_of b d g w) out)
    (λ q. get-pages_of b (map.retain_keys d out) g (map.insert w s tt) q
    ∙ ap (λ o. option_or o (cond (stays g (map.insert w s tt) q) (map.get b q) None)) (get-kept d out q)
    ∙ ap (λ o. option_or (cond (out q) (map.get d q) None) (cond (not (is_some o) && not (map.contains_key g q)) (map.get b q) None))
    (map.get-insert space_cmp-total w s tt q.space)
    ∙ ap (λ e. option_or (cond (out q) (map.get d q) None)
    (cond (not (is_some (cond e (Some tt) (map.get w q.space))) && not (map.contains_key g q)) (map.get b q) None)) (is_in-cmp s q)
    ∙ opened (is_in s q) (map.contains_key g q) (map.get d q) (map.get w q.space) (map.get b q)
    ∙ ap (λ o. cond (out q) o None) (sym (get-pages_of b d g w q))
    ∙ sym (get-kept (pages_of b d g w) out q)) in
    λ i. record { below = b; now = record { pages = same i; whole = map.insert w s tt; freed = g } }

-- to drop a space is to drop all that is kept of it
pub work_of-dropped : (b d : PageMap) (g : PageIds) (w : Spaces) (s : Space)
    → work_of (map.retain_keys b (λ q. not (is_in s q))) (map.retain_keys d (λ q. not (is_in s q))) (map.retain_keys g (λ q. not (is_in s q))) (map.remove w s)
    ≡ without_space (work_of b d g w) s
work_of-dropped b d g w s =
    let out = λ (q : PageId). not (is_in s q) in
    let same = same_pages (pages_of (map.retain_keys b out) (map.retain_keys d out) (map.retain_keys g out) (map.remove w s))
    (map.retain_keys (pages_of b d g w) out)
    (λ q. get-pages_of (map.retain_keys b out) (map.retain_keys d out) (map.retain_keys g out) (map.remove w s) q
    ∙ ap (λ o. option_or o (cond (stays (map.retain_keys g out) (map.remove w s) q) (map.get (map.retain_keys b out) q) None)) (get-kept d out q)
    ∙ ap (λ o. option_or (cond (out q) (map.get d q) None) (cond (stays (map.retain_keys g out) (map.remove w s) q) o None)) (get-kept b out q)
    ∙ ap (λ o. option_or (cond (out q) (map.get d q) None)
    (cond (not (map.contains_key (map.remove w s) q.space) && not (is_some o)) (cond (out q) (map.get b q) None) None)) (get-kept g out q)
    ∙ ap (λ o. option_or (cond (out q) (map.get d q) None)
    (cond (not (is_some o) && not (is_some (cond (out q) (map.get g q) None))) (cond (out q) (map.get b q) None) None))
    (map.get-remove space_cmp-total w s q.space)
    ∙ ap (λ e. option_or (cond (out q) (map.get d q) None)
    (cond (not (is_some (cond e None (map.get w q.space))) && not (is_some (cond (out q) (map.get g q) None))) (cond (out q) (map.get b q) None) None))
    (is_in-cmp s q)
    ∙ dropped (is_in s q) (map.get d q) (map.get g q) (map.get w q.space) (map.get b q)
    ∙ ap (λ o. cond (out q) o None) (sym (get-pages_of b d g w q))
    ∙ sym (get-kept (pages_of b d g w) out q)) in
    λ i. record { below = map.retain_keys b out; now = record { pages = same i; whole = map.remove w s; freed = map.retain_keys g out } }

-- a page with a draft has the draft's bytes
pub page-drafted : (b d : PageMap) (g : PageIds) (w : Spaces) (q : PageId) (x : List ℕ) → map.get d q ≡ Some x → map.get (pages_of b d g w) q ≡ Some x
page-drafted b d g w q x is = get-pages_of b d g w q ∙ ap (λ o. option_or o (cond (stays g w q) (map.get b q) None)) is

-- a page without one isn't there where it is gone or its space is whole
pub page-hidden : (b d : PageMap) (g : PageIds) (w : Spaces) (q : PageId) → map.get d q ≡ None → stays g w q ≡ false → map.get (pages_of b d g w) q ≡ None
page-hidden b d g w q is out = get-pages_of b d g w q ∙ ap (λ o. option_or o (cond (stays g w q) (map.get b q) None)) is
    ∙ ap (λ s. cond s (map.get b q) None) out

-- and else is what it is below
pub page-below : (b d : PageMap) (g : PageIds) (w : Spaces) (q : PageId) → map.get d q ≡ None → stays g w q ≡ true → map.get (pages_of b d g w) q ≡ map.get b q
page-below b d g w q is stay = get-pages_of b d g w q ∙ ap (λ o. option_or o (cond (stays g w q) (map.get b q) None)) is
    ∙ ap (λ s. cond s (map.get b q) None) stay

same_twice : {X : Type 0} (e : Bool) (x y : X) (o : Option X) → cond e (Some y) (cond e (Some x) o) ≡ cond e (Some y) o
same_twice true x y o = refl
same_twice false x y o = refl

-- what was put in is there
pub get-inserted : {X : Type 0} (m : map.FinMap page_cmp X) (k : PageId) (x : X) → map.get (map.insert m k x) k ≡ Some x
get-inserted m k x = map.get-insert page_cmp-total m k x k ∙ ap (λ o. cond (is_eq o) (Some x) (map.get m k)) (tied_itself page_cmp-total k)

-- and hides what was put in before
pub insert-inserted : {X : Type 0} (m : map.FinMap page_cmp X) (k : PageId) (x y : X) → map.insert (map.insert m k x) k y ≡ map.insert m k y
insert-inserted m k x y = map.same_map page_cmp-total page_cmp-exact _ _
    (λ q. map.get-insert page_cmp-total (map.insert m k x) k y q ∙ ap (cond (eq_by_cmp page_cmp q k) (Some y)) (map.get-insert page_cmp-total m k x q)
    ∙ same_twice (eq_by_cmp page_cmp q k) x y (map.get m q) ∙ sym (map.get-insert page_cmp-total m k y q))

-- a page that is there is not unknown, and what it begins with is what it is
pub there_is_known : (k : Known) (id : PageId) (x : List ℕ) → map.get k.pages id ≡ Some x → is_unknown k id ≡ false
there_is_known k id x is = ap (λ o. not (is_some o) && not (map.contains_key k.whole id.space || map.contains_key k.freed id)) is

-- the bytes of a page that is there are those that an edit of it begins with
pub first_bytes-there : (k : Known) (id : PageId) (x : List ℕ) → map.get k.pages id ≡ Some x → x ≡ first_bytes k id
first_bytes-there k id x is = ap (λ o. unwrap_or o zeros) (sym is)

-- a value that is there
pub some : {X : Type 0} (o : Option X) → is_some o ≡ true → (x : X) × (o ≡ Some x)
some None is = absurd (true≢false (sym is))
some (Some x) is = (x, refl)

-- a reference that is there has a value behind it
pub some_copied : {X : Type 0} (o : Option (Bor X)) → is_some o ≡ true → (x : X) × (option_copied o ≡ Some x)
some_copied None is = absurd (true≢false (sym is))
some_copied (Some r) is = (r.now, refl)

-- what is there, put in again, changes nothing
pub insert-same : {X : Type 0} (m : map.FinMap page_cmp X) (k : PageId) (x : X) → map.get m k ≡ Some x → map.insert m k x ≡ m
insert-same {X} m k x is = map.same_map page_cmp-total page_cmp-exact _ _ (λ q. map.get-insert page_cmp-total m k x q ∙ at (page_cmp q k) q refl)
  where
    at : (o : Ordering) (q : PageId) → page_cmp q k ≡ o → cond (is_eq o) (Some x) (map.get m q) ≡ map.get m q
    at Less q e = refl
    at Equal q e = sym is ∙ ap (map.get m) (sym (page_cmp-exact q k e))
    at Greater q e = refl

-- a page that is written with the bytes that it has leaves the workspace as it was
pub with_page-same : (w : Work) (id : PageId) (x : List ℕ) → map.get w.now.pages id ≡ Some x → with_page w id x ≡ w
with_page-same w id x is = let same = insert-same w.now.pages id x is in
    λ i. record { below = w.below; now = record { pages = same i; whole = w.now.whole; freed = w.now.freed } }

-- another page stays
pub get-beside : {X : Type 0} (m : map.FinMap page_cmp X) (k q : PageId) (x : X) → eq_by_cmp page_cmp q k ≡ false → map.get (map.insert m k x) q ≡ map.get m q
get-beside m k q x apart = map.get-insert page_cmp-total m k x q ∙ ap (λ e. cond e (Some x) (map.get m q)) apart

-- a page with a number past 0 isn't the head
pub head_apart : (space : Space) (n : ℕ) → 0 < n → eq_by_cmp page_cmp (head_of space) (record { space = space; number = n }) ≡ false
head_apart space n positive = at (page_cmp (head_of space) (record { space = space; number = n })) refl
  where
    at : (o : Ordering) → page_cmp (head_of space) (record { space = space; number = n }) ≡ o → is_eq o ≡ false
    at Less e = refl
    at Equal e = let zero_is : 0 ≡ n = ap (λ (id : PageId). id.number) (page_cmp-exact (head_of space) (record { space = space; number = n }) e) in
        absurd (omega arith)
    at Greater e = refl

kept : {X : Type 0} (d b : Option X) (s : Bool) (x : X) → option_or d (cond s b None) ≡ Some x → option_or d b ≡ Some x
kept None b true x is = is
kept None b false x is = cc
kept (Some y) b s x is = is

-- what is there has a draft or is below
pub there_kept : (b d : PageMap) (g : PageIds) (w : Spaces) (q : PageId) (x : List ℕ) → map.get (pages_of b d g w) q ≡ Some x
    → option_or (map.get d q) (map.get b q) ≡ Some x
there_kept b d g w q x is = kept (map.get d q) (map.get b q) (stays g w q) x (sym (get-pages_of b d g w q) ∙ is)

-- a page that has a draft is owned as it is
pub Owns-drafted : (d b : PageMap) (id : PageId) → map.contains_key d id ≡ true → Owns d b id d
Owns-drafted d b id has = let there = some (map.get d id) has in (there.0, ap (λ o. option_or o (map.get b id)) there.1, sym (insert-same d id there.0 there.1))

-- a head that is there, owned, a new page of zeros and the head's number raised make a new page
pub work_of-fresh : (b d : PageMap) (g : PageIds) (w : Spaces) (space : Space) (n : ℕ) (x : List ℕ) → map.get (pages_of b d g w) (head_of space) ≡ Some x
    → n ≡ next_page x
    → work_of b (map.insert (map.insert (map.insert d (head_of space) x) (record { space = space; number = n }) zeros) (head_of space)
    (with_next_page x (n + 1))) g w
    ≡ with_fresh (work_of b d g w) space
work_of-fresh b d g w space n x there is =
    let head = head_of space in let id : PageId = record { space = space; number = n } in let raised = with_next_page x (n + 1) in let all = work_of b d g w in
    let bytes : x ≡ first_bytes all.now head = first_bytes-there all.now head x there in
    let number : n ≡ next_page (first_bytes all.now head) = is ∙ ap next_page bytes in
    work_of-draft b (map.insert (map.insert d head x) id zeros) g w head raised
    ∙ ap (λ z. with_page z head raised) (work_of-draft b (map.insert d head x) g w id zeros
    ∙ ap (λ z. with_page z id zeros) (work_of-draft b d g w head x ∙ with_page-same all head x there))
    ∙ (λ j. with_page (with_page all (record { space = space; number = number j }) zeros) head (with_next_page (bytes j) (number j + 1)))

some_there : {X : Type 0} (m : map.FinMap page_cmp X) (k : PageId) (x : X) (n : ℕ) → map.get m k ≡ Some x → map.len m ≡ n → 0 < n
some_there m k x zero is none =
    let gone : None ≡ Some x = sym (map.get-empty page_cmp k) ∙ ap (λ e. map.get e k) (sym (map.empty_of_len m none)) ∙ is in
    absurd (true≢false (sym (ap is_some gone)))
some_there m k x (suc n) is some = omega arith

-- where a page that is there is taken out there are fewer
pub len-removed : {X : Type 0} (m : map.FinMap page_cmp X) (k : PageId) (x : X) → map.get m k ≡ Some x → map.len (map.remove m k) < map.len m
len-removed m k x is =
    let less : map.len (map.remove m k) ≡ map.len m - 1 = map.len-remove page_cmp-total m k ∙ ap (λ o. cond (is_some o) (map.len m - 1) (map.len m)) is in
    let positive = some_there m k x (map.len m) is refl in omega arith
