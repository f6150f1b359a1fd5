-- What is known where a page was asked for: that it is there where it was given, that a step of a call gave a value where the
-- call did, and that over pages which have bytes a page is given or needed.
use Rattle.std.proofs.Common.{◌≡◌, ℕ, zero, suc, ◌<◌, ◌==◌, ◌&&◌, ◌||◌, ◌⊎◌, ⊎_elim, inl, inr, Bool, true, false, not, List, [], Option, Some, None, Result, Ok, Err, OnOk, refl, sym, ap, ◌∙◌, subst, is_some, unwrap_or, length, IsTrue, true≢false, if◌then◌else◌, arith}
use Rattle.std.specs.FinMap as map
use Rattle.page_bytes.specs.declared.ids.Space.{Space}
use Rattle.page_bytes.specs.declared.ids.PageId.{PageId}
use Rattle.page_bytes.specs.declared.end.PageEnd.{PageEnd}
use Rattle.page_bytes.specs.declared.end.PageEnd.TheVariants.{Need}
use Rattle.page_bytes.specs.Answers.{IsNeed, unless}
use Rattle.page_bytes.specs.Known.{Known, is_there, is_unknown}
use Rattle.page_bytes.specs.Links.{page_in, and_then, or_damaged, asked, tested}
use Rattle.page_bytes.specs.Seen.{seen, bytes}
use Rattle.page_bytes.specs.Work.{first_bytes, zeros}

-- ---- steps that gave a value

-- a call in two steps gave a value where both did
pub both_gave : {X Y : Type 0} (r : Result X PageEnd) (f : X → Result Y PageEnd) (y : Y) → and_then r f ≡ Ok y → (x : X) × ((r ≡ Ok x) × (f x ≡ Ok y))
both_gave (Ok x) f y is = (x, (refl, is))
both_gave (Err end) f y is = cc

-- what a test gave has passed it
pub test_passed : (id : PageId) (b : Bool) (x y : List ℕ) → tested id b x ≡ Ok y → (b ≡ true) × (x ≡ y)
test_passed id true x y is = (refl, (cc))
test_passed id false x y is = cc

there : (from : PageId) (page : Option (List ℕ)) (x : List ℕ) → or_damaged from page ≡ Ok x → page ≡ Some x
there from None x is = cc
there from (Some y) x is = cc

given : (b : Bool) (from id : PageId) (page : Option (List ℕ)) (x : List ℕ) → (if b then Err (Need id) else or_damaged from page) ≡ Ok x → page ≡ Some x
given true from id page x is = cc
given false from id page x is = there from page x is

-- a page that was asked for and given is there
pub asked_there : (k : Known) (from id : PageId) (x : List ℕ) → asked k from id ≡ Ok x → map.get k.pages id ≡ Some x
asked_there k from id x is = given (is_unknown k id) from id (map.get k.pages id) x is

-- and an edit of it begins with as many bytes
pub asked_long : (k : Known) (from id : PageId) (x : List ℕ) → asked k from id ≡ Ok x → length x ≡ 4096 → length (first_bytes k id) ≡ 4096
asked_long k from id x is long = ap (λ (o : Option (List ℕ)). length (unwrap_or o zeros)) (asked_there k from id x is) ∙ long

-- a page that is there is given
pub there_asked : (k : Known) (from id : PageId) (x : List ℕ) → is_unknown k id ≡ false → map.get k.pages id ≡ Some x → asked k from id ≡ Ok x
there_asked k from id x known is = ap (λ b. if b then Err (Need id) else or_damaged from (map.get k.pages id)) known ∙ ap (or_damaged from) is

-- what holds anyway holds where a value is given
pub on_any : {X E P : Type 0} (r : Result X E) → P → OnOk r P
on_any (Ok x) p = p
on_any (Err e) p = tt

-- what follows from what holds where a value is given holds there too
pub on_ok : {X E P Q : Type 0} (r : Result X E) → (P → Q) → OnOk r P → OnOk r Q
on_ok (Ok x) f p = f p
on_ok (Err e) f p = tt

-- one answer has one value
pub one_value : {X : Type 0} (x y : X) → (let r : Result X PageEnd = Ok x in r ≡ Ok y) → x ≡ y
one_value x y is = cc

-- where a value was given there was no refusal
pub unless_gave : {X : Type 0} (refusal : Option PageEnd) (x y : X) → unless refusal x ≡ Ok y → (refusal ≡ None) × (x ≡ y)
unless_gave (Some end) x y is = cc
unless_gave None x y is = (refl, (cc))

-- ---- tests

-- the parts of a test that has passed
pub first_true : (a b : Bool) → (a && b) ≡ true → a ≡ true
first_true true b is = refl
first_true false b is = is

-- where both of two tests pass, so does the second
pub second_true : (a b : Bool) → (a && b) ≡ true → b ≡ true
second_true true b is = is
second_true false b is = absurd (true≢false (sym is))

-- a number that isn't none is past it
pub not_none : (n : ℕ) → not (n == 0) ≡ true → 0 < n
not_none zero is = absurd (true≢false (sym is))
not_none (suc n) is = omega arith

-- ---- pages that have bytes

-- a page of the map is needed of which nothing is known
abbrev pub Needs : {X : Type 0} → Known → (PageId → Option (List ℕ)) → Space → Result X PageEnd → Type 0
Needs k all space r = (end : PageEnd) × ((r ≡ Err end) × IsNeed k all space end)

-- a value is given of which P holds, or a page is needed
abbrev pub Gives : {X : Type 0} → Known → (PageId → Option (List ℕ)) → Space → Result X PageEnd → X → Type 0 → Type 0
Gives k all space r x P = ((r ≡ Ok x) × P) ⊎ Needs k all space r

-- a step that gives or needs, and then one more
pub gives_then : {X Y : Type 0} {P Q : Type 0} (k : Known) (all : PageId → Option (List ℕ)) (space : Space) (r : Result X PageEnd) (f : X → Result Y PageEnd)
    (x : X) (y : Y)
    → Gives k all space r x P → (P → Gives k all space (f x) y Q) → Gives k all space (and_then r f) y Q
gives_then {P = P} {Q = Q} k all space r f x y gave more = ⊎_elim
    (λ (is : (r ≡ Ok x) × P). subst (λ r. Gives k all space (and_then r f) y Q) (sym is.0) (more is.1))
    (λ need. inr (need.0, (ap (λ r. and_then r f) need.1.0, need.1.1)))
    gave

some_bytes : (o : Option (List ℕ)) → 0 < length (unwrap_or o []) → is_some o ≡ true
some_bytes None some = absurd (omega (arith, some))
some_bytes (Some b) some = refl

-- a page's bytes, by what is known of it
page_found : (k : Known) (all : PageId → Option (List ℕ)) (space : Space) (n : ℕ) (from : PageId) (page : Option (List ℕ)) (out : Bool)
    → (not (is_some page) && out) ≡ is_unknown k (page_in space n)
    → 0 < length (unwrap_or (if not (is_some page) && out then all (page_in space n) else page) [])
    → Gives k all space (if not (is_some page) && out then Err (Need (page_in space n)) else or_damaged from page)
    (unwrap_or (if not (is_some page) && out then all (page_in space n) else page) []) (is_some page ≡ true)
page_found k all space n from (Some b) out unknown some = inl (refl, refl)
page_found k all space n from None true unknown some = inr (Need (page_in space n), (refl, (n, (refl, sym unknown, some_bytes (all (page_in space n)) some))))
page_found k all space n from None false unknown some = absurd (omega (arith, some))

-- a page that has bytes is given, or it is needed
pub asked-is : (k : Known) (all : PageId → Option (List ℕ)) (space : Space) (from : PageId) (n : ℕ) → 0 < length (bytes (seen k all space) n)
    → Gives k all space (asked k from (page_in space n)) (bytes (seen k all space) n) (IsTrue (is_there k (page_in space n)))
unfolding bytes
asked-is k all space from n some =
    let id = page_in space n in
    page_found k all space n from (map.get k.pages id) (not (map.contains_key k.whole space || map.contains_key k.freed id)) refl some
