-- What a session's last event lets follow keeps the order of a call's events.
use Rattle.std.proofs.Common.{ℕ, Bool, true, false, ◌==◌, ◌||◌, IsTrue, List, Option, None, Some, refl}
use Rattle.xq_ast.specs.declared.need.Need.{Need}
use Rattle.session_core.specs.declared.history.event.Event.{Event}
use Rattle.session_core.specs.declared.history.event.Event.TheVariants.{Granted, Settled, Left}
use Rattle.session_core.specs.History.{session_of, is_closing, last_of}
use Rattle.session_core.specs.History.CallOrder.{is_grant, comes_behind, CallOrderAt}
use Rattle.session_core.specs.History.Locks.{ClosesGrant, IsBehindGrant}
use Rattle.session_core.specs.History.Settling.{ClosesBehind, IsBehindSettled}
use Rattle.session_core.specs.Keeping.Kept.{Follows}

closes_grant : (granted : List Need) (e : Event) → ClosesGrant granted e → IsTrue (is_closing e)
closes_grant granted (Granted s asked) is = absurd is
closes_grant granted (Settled by s stands) is = absurd is
closes_grant granted (Left s) is = absurd is
closes_grant granted e is = refl

closes_settled : (own : Bool) (e : Event) (past : List Event) → ClosesBehind own e past → IsTrue (is_closing e || is_grant e)
closes_settled true (Settled by s stands) past is = absurd is
closes_settled false (Settled by s stands) past is = absurd is
closes_settled true (Left s) past is = absurd is
closes_settled false (Left s) past is = absurd is
closes_settled own e past is = refl

-- what the session's last event lets follow comes in the order of the events of a call
pub in_order : (e : Event) (past : List Event) → Follows e past → CallOrderAt e past
in_order e past follows = by_last (last_of (session_of e) past) follows.0 follows.1
  where
    by_last : (last : Option Event) → IsBehindGrant last e → IsBehindSettled last e past → IsTrue (comes_behind last e)
    by_last (Some (Granted s granted)) behind settled = closes_grant granted e behind
    by_last (Some (Settled by s stands)) behind settled = closes_settled (by == s) e past settled
    by_last last behind settled = refl
