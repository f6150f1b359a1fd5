-- The order of the events that a session adds for one call: at most one settling, then at most one grant of locks, and
-- then what closes the call. It is a part of the clause `closes`, and is told by the events alone: it needs neither the
-- scripts nor the base. What the settling and the grant are for stands in `Settling` and `Locks`.
use Rattle.std.specs.Prelude.{Bool, true, false, ◌||◌, IsTrue, List, Option, Some, None}
use Rattle.session_core.specs.declared.history.event.Event.{Event}
use Rattle.session_core.specs.declared.history.event.Event.TheVariants.{Granted, Settled}
use Rattle.session_core.specs.History.{session_of, is_closing, last_of}

-- the event grants locks
abbrev pub is_grant : Event → Bool
is_grant (Granted s asked) = true
is_grant _ = false

-- behind a session's last event this one may be its next
abbrev pub comes_behind : Option Event → Event → Bool
comes_behind (Some (Granted s asked)) e = is_closing e
comes_behind (Some (Settled by s stands)) e = is_closing e || is_grant e
comes_behind _ e = true

-- the event may come directly after its session's last one
abbrev pub CallOrderAt : Event → List Event → Type 0
CallOrderAt e past = IsTrue (comes_behind (last_of (session_of e) past) e)
