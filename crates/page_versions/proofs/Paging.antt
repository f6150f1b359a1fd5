-- What a change of some pages' chains does to the table of chains.
use Rattle.std.proofs.Common.{◌≡◌, ◌<◌, Bool, true, false, cond, ◌||◌, List, [], ◌∷◌, ◌++◌, Option, Some, None, IfSome, is_some, unwrap_or, length, refl, sym, ap, ◌∙◌, subst, true≢false, arith, filter, ◌&&◌, T}
use Rattle.std.proofs.lemmas.List.Folds.{list_any-append}
use Rattle.std.specs.List.{AllByRecursion}
use Rattle.std.specs.List.Sorted.{IsStrictlySortedBy}
use Rattle.std.specs.Map.{keys_of}
use Rattle.std.proofs.lemmas.Map.Keys.{sorted_head, sorted_tail}
use Rattle.std.specs.FinMap.Entries.{is_some-find, below_all}
use Rattle.std.specs.Ordering.{is_eq, is_lt}
use Rattle.std.specs.declared.cmp.Ordering.{Ordering}
use Rattle.std.specs.declared.cmp.Ordering.TheVariants.{Less, Equal, Greater}
use Rattle.std.proofs.lemmas.Cmp.{tied_itself}
use Rattle.std.specs.FinMap as map
use Rattle.page_bytes.specs.declared.ids.PageId.{PageId}
use Rattle.page_bytes.specs.Order.{page_cmp}
use Rattle.page_bytes.proofs.Orders.{page_cmp-total, page_cmp-exact}
use Rattle.page_versions.specs.declared.version.Version.{Version}
use Rattle.page_versions.specs.ChainMap.{ChainMap, chain_in}
use Rattle.page_versions.specs.Staging.{has_versions}
use Rattle.page_versions.specs.Inside.{is_page, is_listed, NoneEmpty}

no_and : (b : Bool) → (b && false) ≡ false
no_and true = refl
no_and false = refl

or_no : (b : Bool) → (b || false) ≡ b
or_no true = refl
or_no false = refl

-- one page more is listed
pub listed-append : (ps : List PageId) (p q : PageId) → is_listed (ps ++ p ∷ []) q ≡ (is_listed ps q || is_page q p)
listed-append ps p q = list_any-append (is_page q) ps (p ∷ []) ∙ ap (λ b. is_listed ps q || b) (or_no (is_page q p))

-- a page that is listed is listed with one more
pub listed_first : (ps : List PageId) (p q : PageId) → is_listed ps q ≡ true → is_listed (ps ++ p ∷ []) q ≡ true
listed_first ps p q is = listed-append ps p q ∙ ap (λ b. b || is_page q p) is

or_yes : (b : Bool) → (b || true) ≡ true
or_yes true = refl
or_yes false = refl

-- a page is itself
pub same_page : (q : PageId) → is_page q q ≡ true
same_page q = ap is_eq (tied q)
  where
    tied : (q : PageId) → page_cmp q q ≡ Equal
    tied q = tied_itself page_cmp-total q

-- and the one more is listed
pub listed_last : (ps : List PageId) (p : PageId) → is_listed (ps ++ p ∷ []) p ≡ true
listed_last ps p = listed-append ps p p ∙ ap (λ b. is_listed ps p || b) (same_page p) ∙ or_yes (is_listed ps p)

equal : (o : Ordering) → is_eq o ≡ true → o ≡ Equal
equal Less t = cc
equal Equal t = refl
equal Greater t = cc

-- one page has one name
pub page-is : (q id : PageId) → is_page q id ≡ true → q ≡ id
page-is q id is = page_cmp-exact q id (equal (page_cmp q id) is)

-- a table with a chain put in
pub chain_in-insert : (m : ChainMap) (id : PageId) (c : List Version) (q : PageId) → chain_in (map.insert m id c) q ≡ cond (is_page q id) c (chain_in m q)
chain_in-insert m id c q = ap (λ o. unwrap_or o []) (map.get-insert page_cmp-total m id c q) ∙ at (is_page q id)
  where
    at : (b : Bool) → unwrap_or (cond b (Some c) (map.get m q)) [] ≡ cond b c (chain_in m q)
    at true = refl
    at false = refl

-- a page that is taken out of a table has no versions, and every other has its chain
pub chain_in-remove : (m : ChainMap) (id : PageId) (q : PageId) → chain_in (map.remove m id) q ≡ cond (is_page q id) [] (chain_in m q)
chain_in-remove m id q = ap (λ o. unwrap_or o []) (map.get-remove page_cmp-total m id q) ∙ at (is_page q id)
  where
    at : (b : Bool) → unwrap_or (cond b None (map.get m q)) [] ≡ cond b [] (chain_in m q)
    at true = refl
    at false = refl

-- a page's chain is changed by a function
module _ (f : List Version → List Version) where
  -- where one page got what the function makes of its chain, and all others kept theirs,
  -- each chain is the function's of its own at that page, and else as it was
  pub changed : (m n : ChainMap) (id : PageId) → ((q : PageId) → chain_in n q ≡ cond (is_page q id) (f (chain_in m id)) (chain_in m q)) → (q : PageId)
      → chain_in n q ≡ cond (is_page q id) (f (chain_in m q)) (chain_in m q)
  changed m n id is q =
      is q ∙ elim (is_page q id) as (λ b. is_page q id ≡ b → cond b (f (chain_in m id)) (chain_in m q) ≡ cond b (f (chain_in m q)) (chain_in m q)) [
        | true ↦ λ e. ap (λ p. f (chain_in m p)) (sym (page-is q id e))
        | false ↦ λ _. refl
      ] refl

  -- and so where that is put in the table for a page that has a chain
  pub changed-insert : (m : ChainMap) (id : PageId) (c d : List Version) → map.get m id ≡ Some c → d ≡ f c → (q : PageId)
      → chain_in (map.insert m id d) q ≡ cond (is_page q id) (f (chain_in m q)) (chain_in m q)
  changed-insert m id c d there is =
      changed m (map.insert m id d) id (λ q. chain_in-insert m id d q
      ∙ ap (λ x. cond (is_page q id) x (chain_in m q)) (is ∙ ap f (ap (λ o. unwrap_or o []) (sym there))))

  -- a page without a chain stays so
  pub changed-absent : (m : ChainMap) (id : PageId) → chain_in m id ≡ [] → f [] ≡ [] → (q : PageId)
      → chain_in m q ≡ cond (is_page q id) (f (chain_in m q)) (chain_in m q)
  changed-absent m id none nil =
      changed m m id (λ q. elim (is_page q id) as (λ b. is_page q id ≡ b → chain_in m q ≡ cond b (f (chain_in m id)) (chain_in m q)) [
        | true ↦ λ e. ap (chain_in m) (page-is q id e) ∙ none ∙ sym nil ∙ ap f (sym none)
        | false ↦ λ _. refl
      ] refl)

  -- the chains of these pages are changed, and no others
  abbrev pub Done : (PageId → List Version) → List PageId → (PageId → List Version) → Type 0
  Done old ps now = (q : PageId) → now q ≡ cond (is_listed ps q) (f (old q)) (old q)

  -- with the pages of a list changed, and one more, those of the longer list are, if to change twice is to change once
  pub done_more : (old now next : PageId → List Version) (ps : List PageId) (id : PageId) → ((q : PageId) → f (f (old q)) ≡ f (old q)) → Done old ps now
      → ((q : PageId) → next q ≡ cond (is_page q id) (f (now q)) (now q)) → Done old (ps ++ id ∷ []) next
  done_more old now next ps id once done step q =
      step q ∙ ap (λ x. cond (is_page q id) (f x) x) (done q) ∙ at (is_listed ps q) (is_page q id)
      ∙ ap (λ b. cond b (f (old q)) (old q)) (sym (listed-append ps id q))
    where
      at : (l e : Bool) → cond e (f (cond l (f (old q)) (old q))) (cond l (f (old q)) (old q)) ≡ cond (l || e) (f (old q)) (old q)
      at true true = once q
      at true false = refl
      at false true = refl
      at false false = refl

-- a table whose chains have versions, with one more such chain
pub filled-insert : (m : ChainMap) (id : PageId) (c : List Version) → NoneEmpty m → 0 < length c → NoneEmpty (map.insert m id c)
filled-insert m id c filled some q =
    subst (λ o. IfSome o (λ chain. 0 < length chain)) (sym (map.get-insert page_cmp-total m id c q)) (at (is_page q id))
  where
    at : (b : Bool) → IfSome (cond b (Some c) (map.get m q)) (λ chain. 0 < length chain)
    at true = some
    at false = filled q

-- where all other chains have versions, all have once this page is taken out
pub filled-remove : (m : ChainMap) (id : PageId) → ((q : PageId) → is_page q id ≡ false → IfSome (map.get m q) (λ chain. 0 < length chain))
    → NoneEmpty (map.remove m id)
filled-remove m id filled q =
    subst (λ o. IfSome o (λ chain. 0 < length chain)) (sym (map.get-remove page_cmp-total m id q))
    (elim (is_page q id) as (λ b. is_page q id ≡ b
    → IfSome (cond b None (map.get m q)) (λ chain. 0 < length chain)) [ true ↦ λ _. tt | false ↦ λ e. filled q e ] refl)

same_chain : (o p : Option (List Version)) → IfSome o (λ chain. 0 < length chain) → IfSome p (λ chain. 0 < length chain) → unwrap_or o [] ≡ unwrap_or p []
    → o ≡ p
same_chain None None a b is = refl
same_chain None (Some c) a b is = let none : length c ≡ 0 = ap length (sym is) in absurd (omega arith)
same_chain (Some c) None a b is = let none : length c ≡ 0 = ap length is in absurd (omega arith)
same_chain (Some c) (Some d) a b is = ap Some is

-- two such tables with the same chains are one
pub same_table : (m n : ChainMap) → NoneEmpty m → NoneEmpty n → ((q : PageId) → chain_in m q ≡ chain_in n q) → m ≡ n
same_table m n full filled same = map.same_map page_cmp-total page_cmp-exact m n (λ q. same_chain (map.get m q) (map.get n q) (full q) (filled q) (same q))

has_some : (o : Option (List Version)) → IfSome o (λ chain. 0 < length chain) → is_some o ≡ has_versions (unwrap_or o [])
has_some None filled = refl
has_some (Some []) filled = absurd (omega arith)
has_some (Some (v ∷ vs)) filled = refl

-- a page is in the table where it has versions
pub has-chain : (m : ChainMap) (q : PageId) → NoneEmpty m → map.contains_key m q ≡ has_versions (chain_in m q)
has-chain m q filled = has_some (map.get m q) (filled q)

-- no page is without a chain where there are none
pub chain_in-empty : (q : PageId) → chain_in map.empty q ≡ []
chain_in-empty q = ap (λ o. unwrap_or o []) (map.get-empty page_cmp q)

-- the listed pages that pass a test
pub listed-filter : (p : PageId → Bool) (ps : List PageId) (q : PageId) → is_listed (filter p ps) q ≡ (p q && is_listed ps q)
listed-filter p [] q = sym (no_and (p q))
listed-filter p (x ∷ xs) q =
    elim (p x) as (λ b. p x ≡ b → is_listed (cond b (x ∷ filter p xs) (filter p xs)) q ≡ (p q && (is_page q x || is_listed xs q))) [
      | true ↦ λ e. ap (λ b. is_page q x || b) (listed-filter p xs q) ∙ kept (is_page q x) (p q) (is_listed xs q) (λ t. ap p (page-is q x t) ∙ e)
      | false ↦ λ e. listed-filter p xs q ∙ gone (is_page q x) (p q) (is_listed xs q) (λ t. ap p (page-is q x t) ∙ e)
    ] refl
  where
    kept : (t c l : Bool) → (t ≡ true → c ≡ true) → (t || (c && l)) ≡ (c && (t || l))
    kept true c l is = ap (λ b. b && true) (sym (is refl))
    kept false c l is = refl

    gone : (t c l : Bool) → (t ≡ true → c ≡ false) → (c && l) ≡ (c && (t || l))
    gone true c l is = ap (λ b. b && l) (is refl) ∙ ap (λ b. b && true) (sym (is refl))
    gone false c l is = refl

-- the pages of a table
pub listed-keys : {X : Type 0} (es : List (PageId × X)) (q : PageId) → is_listed (keys_of es) q ≡ map.contains_key {R = page_cmp} (map.from_entries es) q
listed-keys es q = sym (is_some-find page_cmp q es) ∙ ap is_some (sym (map.get-from_entries page_cmp-total es q))

below_from : {X : Type 0} (x : PageId) (es : List (PageId × X)) → AllByRecursion (λ y. page_cmp x y ≡ Less) (keys_of es) → below_all page_cmp x es ≡ true
below_from x [] all = refl
below_from x (e ∷ es) all = ap (λ o. is_lt o && below_all page_cmp x es) all.0 ∙ below_from x es all.1

sorted_from : {X : Type 0} (es : List (PageId × X)) → IsStrictlySortedBy page_cmp (keys_of es) → map.is_sorted page_cmp es ≡ true
sorted_from [] sorted = refl
sorted_from (e ∷ es) sorted =
    ap (λ b. b && map.is_sorted page_cmp es) (below_from e.0 es (sorted_head page_cmp e.0 (keys_of es) sorted))
    ∙ sorted_from es (sorted_tail page_cmp e.0 (keys_of es) sorted)

-- entries in order are those of the finite map that they stand for
pub entries-of : {X : Type 0} (es : List (PageId × X)) → IsStrictlySortedBy page_cmp (keys_of es) → map.entries {R = page_cmp} (map.from_entries es) ≡ es
entries-of es sorted =
    let is : T (map.is_sorted page_cmp es) = subst T (sym (sorted_from es sorted)) tt in
    ap map.entries (map.same_map page_cmp-total page_cmp-exact (map.from_entries es) (map.from_sorted es) (λ q. map.get-from_entries page_cmp-total es q
    ∙ sym (map.get-from_sorted page_cmp es q is)))
    ∙ map.entries-from_sorted page_cmp es is

-- a page that isn't listed after wasn't listed before
pub unlisted : (old new : List PageId) (q : PageId) → (is_listed old q ≡ true → is_listed new q ≡ true) → is_listed new q ≡ false → is_listed old q ≡ false
unlisted old new q keeps out = elim (is_listed old q) as (λ b. is_listed old q ≡ b → b ≡ false) [
  | true ↦ λ e. absurd (true≢false (sym (keeps e) ∙ out))
  | false ↦ λ _. refl
] refl
