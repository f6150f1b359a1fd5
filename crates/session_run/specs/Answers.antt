-- The event of an answer.
use Rattle.std.specs.Prelude.{ℕ, Option}
use Rattle.xq_ast.specs.declared.call.Call.{Call}
use Rattle.session_core.specs.declared.history.event.Says.{Says}
use Rattle.session_core.specs.declared.history.event.Event.{Event}
use Rattle.session_core.specs.declared.history.event.Event.TheVariants.{Answered}

-- the session's call was given this answer
abbrev pub answered : ℕ → Option Call → Says → Event
answered s call answer = Answered s (record { call = call; says = answer })
