-- Journals in which no call was answered for want of memory.
use Rattle.std.specs.Prelude.{◌≡◌, List, [], ◌∷◌}
use Rattle.xq_ast.specs.declared.code.Code.TheVariants as codes
use Rattle.session_core.specs.declared.history.event.Says.TheVariants as says
use Rattle.session_core.specs.declared.history.event.Event.{Event}
use Rattle.session_core.specs.declared.history.event.Event.TheVariants.{Answered}

-- the event does not say that memory was wanting
abbrev pub IsNoWant : Event → Type 0
IsNoWant (Answered s reply) = reply.says ≡ says.Error codes.NoMemory → ⊥
IsNoWant _ = Unit {0}

-- no event says so
abbrev pub HasNoWant : List Event → Type 0
HasNoWant [] = Unit {0}
HasNoWant (e ∷ journal) = IsNoWant e × HasNoWant journal
