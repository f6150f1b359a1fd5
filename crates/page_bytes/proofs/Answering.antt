-- How the answers of a call's parts make up its own.
use Rattle.std.proofs.Common.{◌≡◌, inr, Result, Ok, Err, sym, subst}
use Rattle.page_bytes.specs.declared.end.PageEnd.{PageEnd}
use Rattle.page_bytes.specs.declared.end.PageEnd.TheVariants.{NoMemory}
use Rattle.page_bytes.specs.Work.{Work}
use Rattle.page_bytes.specs.Links.{and_then}
use Rattle.page_bytes.specs.Answers.{Answers}

-- a value was asked for where one was given
pub answered : {X : Type 0} (s : Result (X × Work) PageEnd) (x : X) (w : Work) → Answers s (Ok x) w → s ≡ Ok (x, w)
answered (Ok p) x w is = λ i. Ok (sym is.0 i, sym is.1 i)
answered (Err e) x w is = absurd is

-- want of memory may always be answered
pub spent : {X : Type 0} (s : Result (X × Work) PageEnd) (e : PageEnd) (w : Work) → e ≡ NoMemory → Answers s (Err e) w
spent (Ok p) e w is = is
spent (Err end) e w is = inr is

-- a refusal stays
pub refused : {X Y : Type 0} (s : Result (X × Work) PageEnd) (f : X × Work → Result (Y × Work) PageEnd) (e : PageEnd) (w w' : Work)
    → Answers s (Err e) w → Answers (and_then s f) (Err e) w'
refused (Ok p) f e w w' is = spent (f p) e w' is
refused (Err end) f e w w' is = is

-- and a value is gone on with
pub went_on : {X Y : Type 0} (s : Result (X × Work) PageEnd) (f : X × Work → Result (Y × Work) PageEnd) (x : X) (w : Work) (r : Result Y PageEnd) (w' : Work)
    → Answers s (Ok x) w → Answers (f (x, w)) r w' → Answers (and_then s f) r w'
went_on s f x w r w' is more = subst (λ t. Answers (and_then t f) r w') (sym (answered s x w is)) more
