-- How the pages of one table are put into another, one after another.
use Rattle.std.proofs.Common.{◌≡◌, ℕ, Bool, true, false, not, ◌&&◌, ◌||◌, List, [], ◌∷◌, Option, Some, None, Result, Ok, Err, OnOk, OnErr, refl, sym, ap, ◌∙◌, subst, cond, is_some, true≢false}
use Rattle.std.specs.List.{All}
use Rattle.std.specs.Result.{is_err}
use Rattle.std.proofs.lemmas.List.Elements.{All-head, All-tail}
use Rattle.std.specs.Option.{option_or}
use Rattle.std.specs.FinMap as map
use Rattle.std.specs.FinMap.{find}
use Rattle.page_bytes.specs.declared.ids.PageId.{PageId}
use Rattle.page_bytes.specs.Order.{page_cmp}
use Rattle.page_bytes.specs.Known.{PageMap, PageIds, Spaces, is_absent}
use Rattle.page_bytes.specs.Work.{with_pages}
use Rattle.page_bytes.specs.Inside.{stays, pages_of, work_of}
use Rattle.page_bytes.specs.Overlay.{overlay, get-overlay}
use Rattle.page_bytes.proofs.Orders.{page_cmp-total}
use Rattle.page_bytes.proofs.Works.{get-inserted, get-beside, same_pages, get-kept, get-pages_of}
use Rattle.page_bytes.proofs.Listing.{either, some_none}

-- each entry is one of the map
abbrev pub AllFound : PageMap → List (PageId × List ℕ) → Type 0
AllFound m [] = Unit {0}
AllFound m (e ∷ es) = (map.get m e.0 ≡ Some e.1) × AllFound m es

-- of the pages of `more`, all but those in `rest` were put into `old`, which gave `now`
pub record IsShared (old more now : PageMap) (rest : List (PageId × List ℕ)) : Type 0 where
  pub frame : (q : PageId) → map.get more q ≡ None → map.get now q ≡ map.get old q
  pub done : (q : PageId) (x : List ℕ) → find page_cmp q rest ≡ None → map.get more q ≡ Some x → map.get now q ≡ Some x
  pub found : AllFound more rest

-- at the start all are left
pub IsShared-start : (old more : PageMap) (es : List (PageId × List ℕ)) → ((q : PageId) → map.get more q ≡ find page_cmp q es) → AllFound more es
    → IsShared old more old es
IsShared-start old more es are found = record {
  frame = λ q none. refl;
  done = λ q x left there. some_none x (sym there ∙ are q ∙ left);
  found = found;
}

-- the next one is put in
pub IsShared-next : (old more now new : PageMap) (id : PageId) (x : List ℕ) (rest : List (PageId × List ℕ)) → IsShared old more now ((id, x) ∷ rest)
    → new ≡ map.insert now id x → IsShared old more new rest
IsShared-next old more now new id x rest shared put = subst (λ n. IsShared old more n rest) (sym put) (record {
  frame = λ q none. either id q
      (λ same tied. some_none x (sym shared.found.0 ∙ ap (map.get more) (sym same) ∙ none))
      (λ apart. get-beside now id q x apart ∙ shared.frame q none);
  done = λ q y left there. either id q
      (λ same tied. ap (map.get (map.insert now id x)) same ∙ get-inserted now id x ∙ sym shared.found.0 ∙ ap (map.get more) (sym same) ∙ there)
      (λ apart. get-beside now id q x apart ∙ shared.done q y (ap (λ b. cond b (Some x) (find page_cmp q rest)) apart ∙ left) there);
  found = shared.found.1;
})

over : (old more : PageMap) (q : PageId) (o : Option (List ℕ)) (now : Option (List ℕ)) → (o ≡ None → now ≡ map.get old q)
    → ((x : List ℕ) → o ≡ Some x → now ≡ Some x) → now ≡ option_or o (map.get old q)
over old more q None now frame done = frame refl
over old more q (Some x) now frame done = done x refl

-- at the end they lie over what was there
pub IsShared-end : (old more now : PageMap) → IsShared old more now [] → now ≡ overlay more old
IsShared-end old more now shared = same_pages now (overlay more old)
    (λ q. over old more q (map.get more q) (map.get now q) (shared.frame q) (λ x. shared.done q x refl) ∙ sym (get-overlay page_cmp-total more old q))

-- the entries of a tree are found in its map
pub AllFound-from : (m : PageMap) (es : List (PageId × List ℕ)) → All (λ e. map.get m e.0 ≡ Some e.1) es → AllFound m es
AllFound-from m [] all = tt
AllFound-from m (e ∷ es) all = (All-head (λ e. map.get m e.0 ≡ Some e.1) e es all, AllFound-from m es (All-tail (λ e. map.get m e.0 ≡ Some e.1) e es all))

either_way : {X : Type 0} (s m : Option X) → option_or (cond (not (is_some s)) m None) s ≡ option_or s m
either_way None None = refl
either_way None (Some x) = refl
either_way (Some x) m = refl

-- what isn't there yet, put over what is, lies under it
pub overlay-left : (s m : PageMap) → overlay (map.retain_keys m (λ id. not (map.contains_key s id))) s ≡ overlay s m
overlay-left s m = same_pages _ _
    (λ q. get-overlay page_cmp-total (map.retain_keys m (λ id. not (map.contains_key s id))) s q
    ∙ ap (λ o. option_or o (map.get s q)) (get-kept m (λ id. not (map.contains_key s id)) q) ∙ either_way (map.get s q) (map.get m q)
    ∙ sym (get-overlay page_cmp-total s m q))

back : {X : Type 0} (s m now : Option X) → (cond (not (is_some s)) m None ≡ None → now ≡ s) → cond (not (is_some (cond (not (is_some s)) m None))) now None ≡ s
back None None now same = same refl
back None (Some x) now same = refl
back (Some y) m now same = same refl

-- to take out what wasn't there leaves what was
pub taken_back : (s m now : PageMap) → ((q : PageId) → map.get (map.retain_keys m (λ id. not (map.contains_key s id))) q ≡ None → map.get now q ≡ map.get s q)
    → map.retain_keys now (λ id. not (map.contains_key (map.retain_keys m (λ id. not (map.contains_key s id))) id)) ≡ s
taken_back s m now same =
    let new = map.retain_keys m (λ id. not (map.contains_key s id)) in
    same_pages _ _ (λ q. get-kept now (λ id. not (map.contains_key new id)) q
    ∙ ap (λ o. cond (not (is_some o)) (map.get now q) None) (get-kept m (λ id. not (map.contains_key s id)) q)
    ∙ back (map.get s q) (map.get m q) (map.get now q) (λ none. same q (get-kept m (λ id. not (map.contains_key s id)) q ∙ none)))

-- what a clause says of the answer at hand
pub on_err_is : {T E P : Type 0} (r : Result T E) → is_err r ≡ true → OnErr r P → P
on_err_is (Ok x) is p = absurd (true≢false (sym is))
on_err_is (Err e) is p = p

-- what holds of an answer if it is a value holds, where the answer isn't an error
pub on_ok_is : {T E P : Type 0} (r : Result T E) → is_err r ≡ false → OnOk r P → P
on_ok_is (Ok x) is p = p
on_ok_is (Err e) is p = absurd (true≢false is)

added : {X : Type 0} (d b m : Option X) (w g : Bool) → option_or d (cond (not w && not g) (option_or b m) None)
    ≡ option_or (option_or d (cond (not w && not g) b None)) (cond (not (not (is_some (option_or d (cond (not w && not g) b None))) && (w || g))) m None)
added (Some x) b m w g = refl
added None b m true g = refl
added None b m false true = refl
added None None None false false = refl
added None None (Some x) false false = refl
added None (Some x) m false false = refl

-- pages put under those below are there where nothing was known of them
pub work_of-added : (b d m : PageMap) (g : PageIds) (w : Spaces) → work_of (overlay b m) d g w ≡ with_pages (work_of b d g w) m
work_of-added b d m g w =
    let old = work_of b d g w in let new = λ (id : PageId). not (is_absent old.now id) in
    let same = same_pages (pages_of (overlay b m) d g w) (overlay old.now.pages (map.retain_keys m new))
    (λ q. get-pages_of (overlay b m) d g w q
    ∙ ap (λ o. option_or (map.get d q) (cond (stays g w q) o None)) (get-overlay page_cmp-total b m q)
    ∙ added (map.get d q) (map.get b q) (map.get m q) (map.contains_key w q.space) (map.contains_key g q)
    ∙ ap (λ o. option_or o (cond (not (not (is_some o) && (map.contains_key w q.space || map.contains_key g q))) (map.get m q) None))
    (sym (get-pages_of b d g w q))
    ∙ ap (option_or (map.get old.now.pages q)) (sym (get-kept m new q))
    ∙ sym (get-overlay page_cmp-total old.now.pages (map.retain_keys m new) q)) in
    λ i. record { below = overlay b m; now = record { pages = same i; whole = w; freed = g } }
