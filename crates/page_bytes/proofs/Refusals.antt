-- What a refusal says of another answer.
use Rattle.std.proofs.Common.{◌≡◌, ℕ, List, Bool, true, false, not, ◌&&◌, ◌||◌, is_some, Option, Some, None, Result, Ok, Err, IsErrAnd, refl, sym, subst, if◌then◌else◌}
use Rattle.std.specs.FinMap as map
use Rattle.page_bytes.specs.declared.ids.Space.{Space}
use Rattle.page_bytes.specs.declared.ids.PageId.{PageId}
use Rattle.page_bytes.specs.declared.end.PageEnd.{PageEnd}
use Rattle.page_bytes.specs.declared.end.PageEnd.TheVariants.{Need, Damaged, NoMemory}
use Rattle.page_bytes.specs.Known.{Known, is_unknown}
use Rattle.page_bytes.specs.Refusal.{RefusedBy, edit_refusal, free_refusal, fresh_refusal, head_refusal}
use Rattle.page_bytes.specs.Head.{head_of}

-- where one value was answered there was no refusal, so another may be
pub RefusedBy-ok : {X Y : Type 0} (refusal : Option PageEnd) (x : X) (y : Y) → RefusedBy refusal (Ok x) → RefusedBy refusal (Ok y)
RefusedBy-ok (Some e) x y is = cc
RefusedBy-ok None x y is = tt

-- an edit of a page that isn't unknown is not refused
pub edit_allowed : {X : Type 0} (k : Known) (id : PageId) (x : X) → is_unknown k id ≡ false → RefusedBy (edit_refusal k id) (Ok x)
edit_allowed k id x is = subst (λ b. RefusedBy (if b then Some (Need id) else None) (Ok x)) (sym is) tt

same_refusal : (head : PageId) (there : Option (List ℕ)) (out : Bool) (e : PageEnd)
    → (if not (is_some there) && not out then Some (Need head) else if not (is_some there) && out then Some (Damaged head) else None) ≡ Some e
    → (if not (is_some there) && not out then Some (Need head) else head_refusal head there) ≡ Some e
same_refusal head None true e is = is
same_refusal head None false e is = is
same_refusal head (Some bytes) out e is = cc

-- a head that isn't to be had refuses a new page
pub fresh_refusal-head : (X : Type 0) (k : Known) (space : Space) (e : PageEnd) → free_refusal k (head_of space) ≡ Some e
    → RefusedBy {X = X} (fresh_refusal k space) (Err e)
fresh_refusal-head X k space e is =
    subst (λ r. RefusedBy {X = X} r (Err e))
    (sym (same_refusal (head_of space) (map.get k.pages (head_of space)) (map.contains_key k.whole space || map.contains_key k.freed (head_of space)) e is))
    refl

-- an edit of a page of which something is known stops for want of memory alone
pub edit_stopped : (X : Type 0) (k : Known) (id : PageId) → is_unknown k id ≡ false → RefusedBy {X = X} (edit_refusal k id) (Err NoMemory)
edit_stopped X k id known = subst (λ b. RefusedBy {X = X} (if b then Some (Need id) else None) (Err NoMemory)) (sym known) refl

-- where a value was answered there was no refusal, so the call may stop for want of memory
pub RefusedBy-stopped : {X : Type 0} (Y : Type 0) (refusal : Option PageEnd) (x : X) → RefusedBy refusal (Ok x) → RefusedBy {X = Y} refusal (Err NoMemory)
RefusedBy-stopped Y (Some e) x is = cc
RefusedBy-stopped Y None x is = refl

-- and so it may by an answer that hands on a want of memory
pub RefusedBy-handed : {X Y : Type 0} (refusal : Option PageEnd) (x : X) (r : Result Y PageEnd) → RefusedBy refusal (Ok x) → IsErrAnd r (λ end. end ≡ NoMemory)
    → RefusedBy refusal r
RefusedBy-handed (Some e) x r is handed = cc
RefusedBy-handed None x (Ok y) is handed = tt
RefusedBy-handed None x (Err e) is handed = handed
