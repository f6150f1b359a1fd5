-- What a text that is put on a space's pages keeps of other spaces.
use Rattle.std.proofs.Common.{◌≡◌, ◌≢◌, ℕ, ◌+◌, false, not, ◌&&◌, ◌||◌, List, [], ◌∷◌, Some, None, cond, is_some, refl, sym, ap, ◌∙◌}
use Rattle.std.specs.FinMap as map
use Rattle.std.specs.Ordering.{eq_by_cmp, is_eq}
use Rattle.std.specs.declared.cmp.Ordering.{Ordering}
use Rattle.std.specs.declared.cmp.Ordering.TheVariants.{Less, Equal, Greater}
use Rattle.page_bytes.specs.declared.ids.Space.{Space}
use Rattle.page_bytes.specs.declared.ids.PageId.{PageId}
use Rattle.page_bytes.specs.Links.{page_in}
use Rattle.page_bytes.specs.Order.{space_cmp, page_cmp, is_in}
use Rattle.page_bytes.specs.Work.{Work, with_page, with_space}
use Rattle.page_bytes.proofs.Orders.{page_cmp-exact, space_cmp-total, space_cmp-exact, is_in-cmp}
use Rattle.page_bytes.proofs.Works.{get-kept, get-beside}
use Rattle.flat_doc.specs.Putting.{flat_pages, with_pages_from, with_text, KeepsOthers}

-- another space, and its pages, are others
space_apart : (space other : Space) → other ≢ space → eq_by_cmp space_cmp other space ≡ false
space_apart space other apart = at (space_cmp other space) refl
  where
    at : (o : Ordering) → space_cmp other space ≡ o → is_eq o ≡ false
    at Less e = refl
    at Equal e = absurd (apart (space_cmp-exact other space e))
    at Greater e = refl

page_apart : (space : Space) (n : ℕ) (id : PageId) → id.space ≢ space → eq_by_cmp page_cmp id (page_in space n) ≡ false
page_apart space n id apart = at (page_cmp id (page_in space n)) refl
  where
    at : (o : Ordering) → page_cmp id (page_in space n) ≡ o → is_eq o ≡ false
    at Less e = refl
    at Equal e = absurd (apart (ap (λ (q : PageId). q.space) (page_cmp-exact id (page_in space n) e)))
    at Greater e = refl

-- a page of the space that is put keeps others
kept_by_page : (w : Work) (space : Space) (n : ℕ) (bytes : List ℕ) → KeepsOthers space w (with_page w (page_in space n) bytes)
kept_by_page w space n bytes =
    let pages : (id : PageId) → id.space ≢ space → map.get (map.insert w.now.pages (page_in space n) bytes) id ≡ map.get w.now.pages id =
    λ id apart. get-beside w.now.pages (page_in space n) id bytes (page_apart space n id apart) in
    record {
      pages = pages;
      absent = λ id apart. ap (λ o. not (is_some o) && (map.contains_key w.now.whole id.space || map.contains_key w.now.freed id)) (pages id apart);
      below = refl;
    }

-- to open the space keeps others
kept_by_space : (w : Work) (space : Space) → KeepsOthers space w (with_space w space)
kept_by_space w space =
    let pages : (id : PageId) → id.space ≢ space → map.get (map.retain_keys w.now.pages (λ q. not (is_in space q))) id ≡ map.get w.now.pages id =
    λ id apart. get-kept w.now.pages (λ q. not (is_in space q)) id
    ∙ ap (λ b. cond (not b) (map.get w.now.pages id) None) (sym (is_in-cmp space id) ∙ space_apart space id.space apart) in
    let whole : (id : PageId) → id.space ≢ space → map.contains_key (map.insert w.now.whole space tt) id.space ≡ map.contains_key w.now.whole id.space =
    λ id apart. ap is_some (map.get-insert space_cmp-total w.now.whole space tt id.space
    ∙ ap (λ e. cond e (Some tt) (map.get w.now.whole id.space)) (space_apart space id.space apart)) in
    record {
      pages = pages;
      absent = λ id apart. λ j. not (is_some (pages id apart j)) && (whole id apart j || map.contains_key w.now.freed id);
      below = refl;
    }

both_keep : (space : Space) (a b c : Work) → KeepsOthers space a b → KeepsOthers space b c → KeepsOthers space a c
both_keep space a b c first then = record {
  pages = λ id apart. then.pages id apart ∙ first.pages id apart;
  absent = λ id apart. then.absent id apart ∙ first.absent id apart;
  below = then.below ∙ first.below;
}

kept_from : (w : Work) (space : Space) (n : ℕ) (pages : List (List ℕ)) → KeepsOthers space w (with_pages_from w space n pages)
kept_from w space n [] = record { pages = λ id apart. refl; absent = λ id apart. refl; below = refl }
kept_from w space n (page ∷ pages) =
    let next = with_page w (page_in space n) page in
    both_keep space w next (with_pages_from next space (n + 1) pages) (kept_by_page w space n page) (kept_from next space (n + 1) pages)

-- a text that is put keeps others
pub others_kept : (w : Work) (space : Space) (text : List ℕ) → KeepsOthers space w (with_text w space text)
others_kept w space text =
    both_keep space w (with_space w space) (with_text w space text) (kept_by_space w space) (kept_from (with_space w space) space 0 (flat_pages text))
