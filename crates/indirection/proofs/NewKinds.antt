-- What a new page of a kind is.
use Rattle.std.proofs.Common.{◌≡◌, ℕ, [], ◌∷◌, None, ap, IsTrue, unwrap_or}
use Rattle.page_bytes.specs.declared.ids.Space.{Space}
use Rattle.page_bytes.specs.declared.ids.PageId.{PageId}
use Rattle.page_bytes.specs.Fields.{with_bytes}
use Rattle.page_bytes.specs.Known.{is_there}
use Rattle.page_bytes.specs.Links.{page_in}
use Rattle.page_bytes.specs.Refusal.{fresh_refusal}
use Rattle.page_bytes.specs.Work.{Work, with_page, with_fresh, next_in, zeros}
use Rattle.page_bytes.proofs.PageWrites.{there_with_page, there_with_fresh, fresh_zeros, next_positive}
use Rattle.indirection.specs.Writing.{with_kind, with_new}

-- what is there stays there beside a new page of a kind
pub there_with_new : (kind : ℕ) (w : Work) (space : Space) (q : PageId) → IsTrue (is_there w.now q) → IsTrue (is_there (with_new kind w space).now q)
there_with_new kind w space q is =
    there_with_page (with_fresh w space) (page_in space (next_in w space)) q (with_bytes zeros 0 (kind ∷ [])) (there_with_fresh w space q is)

-- a new page begins with zeros, so its kind is all that it has
pub with_new-is : (kind : ℕ) (w : Work) (space : Space) → fresh_refusal w.now space ≡ None
    → with_kind kind (with_fresh w space) (page_in space (next_in w space)) ≡ with_new kind w space
with_new-is kind w space none =
    ap (λ o. with_page (with_fresh w space) (page_in space (next_in w space)) (with_bytes (unwrap_or o zeros) 0 (kind ∷ [])))
    (fresh_zeros w space (next_positive w space none))
