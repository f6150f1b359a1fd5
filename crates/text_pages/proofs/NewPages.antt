-- What a new text page is.
use Rattle.std.proofs.Common.{◌≡◌, [], ◌∷◌, None, List, ℕ, ap, unwrap_or}
use Rattle.page_bytes.specs.declared.ids.Space.{Space}
use Rattle.page_bytes.specs.declared.texts.TextRef.{TextRef}
use Rattle.page_bytes.specs.Fields.{with_bytes}
use Rattle.page_bytes.specs.Links.{page_in}
use Rattle.page_bytes.specs.Refusal.{fresh_refusal}
use Rattle.page_bytes.specs.Texts.{TEXT_KIND}
use Rattle.page_bytes.specs.Work.{Work, with_page, with_fresh, first_bytes, next_in, zeros}
use Rattle.page_bytes.proofs.PageWrites.{fresh_zeros, next_positive}
use Rattle.text_pages.specs.Slots.{only_place, with_piece}
use Rattle.text_pages.specs.Putting.{with_new_page}

-- a new text page begins with zeros, so its one piece is all that it has
pub with_new_page-is : (w : Work) (space : Space) (next : TextRef) (text : List ℕ) → fresh_refusal w.now space ≡ None
    → with_page (with_fresh w space) (page_in space (next_in w space))
    (with_piece (only_place text) next text (with_bytes (first_bytes (with_fresh w space).now (page_in space (next_in w space))) 0 (TEXT_KIND ∷ [])))
    ≡ with_new_page w space next text
with_new_page-is w space next text none =
    ap (λ o. with_page (with_fresh w space) (page_in space (next_in w space))
    (with_piece (only_place text) next text (with_bytes (unwrap_or o zeros) 0 (TEXT_KIND ∷ [])))) (fresh_zeros w space (next_positive w space none))
