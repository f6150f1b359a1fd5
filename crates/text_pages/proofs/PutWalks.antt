-- How a text is put piece by piece.
use Rattle.std.proofs.Common.{◌≡◌, ℕ, suc, ◌-◌, ◌<◌, ◌≤◌, List, length, take, drop, sym, ap, ◌∙◌, arith, length-drop}
use Rattle.std.proofs.lemmas.List.{take_all}
use Rattle.page_bytes.specs.declared.ids.Space.{Space}
use Rattle.page_bytes.specs.declared.texts.TextRef.{TextRef}
use Rattle.page_bytes.specs.Links.{and_then}
use Rattle.page_bytes.specs.Work.{Work}
use Rattle.text_pages.specs.Putting.{piece_of, piece_put_in, pieces_put_in}

-- more than all that is left is all that is left
pub all_taken : (at : ℕ) (bytes : List ℕ) → length bytes - at ≤ 4074 → take (length bytes - at) (drop at bytes) ≡ take 4074 (drop at bytes)
all_taken at bytes short =
    let left = length-drop at bytes in
    take_all (length bytes - at) (drop at bytes) (omega (arith, left)) ∙ sym (take_all 4074 (drop at bytes) (omega (arith, left, short)))

-- the last of so many pieces is put first
pub put_step : (n : ℕ) (w : Work) (space : Space) (next : TextRef) (bytes : List ℕ) → 0 < n
    → pieces_put_in n w space next bytes
    ≡ and_then (piece_put_in w space next (piece_of (n - 1) bytes)) (λ (put : TextRef × Work). pieces_put_in (n - 1) put.1 space put.0 bytes)
put_step n w space next bytes some =
    let more : n ≡ suc (n - 1) = omega (arith, some) in ap (λ m. pieces_put_in m w space next bytes) more
