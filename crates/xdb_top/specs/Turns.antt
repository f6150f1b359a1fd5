-- The order in which calls are played on one thread: first the sessions that an order names, one call each, and then
-- session by session the calls that are left.
use Rattle.std.specs.Prelude.{◌≡◌, ℕ, ◌+◌, ◌==◌, ◌||◌, nat_lt, Bool, true, if◌then◌else◌, List, [], ◌∷◌, ◌++◌, length, replicate}
use Rattle.session_core.specs.declared.history.event.Event.{Event}
use Rattle.session_core.specs.declared.history.event.Event.TheVariants.{Granted, Settled, Left}
use Rattle.session_core.specs.History.{session_of, is_closing}
use Rattle.session_core.specs.History.CallOrder.{is_grant}
use Rattle.session_core.specs.History.Closes.{Scripts, calls_of}

-- 1 where it holds, and else 0
abbrev pub one_where : Bool → ℕ
one_where b = if b then 1 else 0

-- how many turns a session has had
abbrev pub turns_of : ℕ → List ℕ → ℕ
turns_of s [] = 0
turns_of s (t ∷ turns) = one_where (t == s) + turns_of s turns

-- a session has one turn more; it is passed over where it has no call left
abbrev pub with_turn : Scripts → List ℕ → ℕ → List ℕ
with_turn P turns s = if nat_lt (turns_of s turns) (length (calls_of P s)) then turns ++ s ∷ [] else turns

-- the turns that an order gives, after some turns
abbrev pub ordered : Scripts → List ℕ → List ℕ → List ℕ
ordered P turns [] = turns
ordered P turns (s ∷ order) = ordered P (with_turn P turns s) order

-- each session as often as it has calls, one session after another from the number `first` on
abbrev pub one_by_one : ℕ → Scripts → List ℕ
one_by_one first [] = []
one_by_one first (calls ∷ more) = replicate (length calls) first ++ one_by_one (first + 1) more

-- all turns of some scripts: by an order, and then what is left session by session
abbrev pub all_turns : Scripts → List ℕ → List ℕ
all_turns P order = ordered P [] (order ++ one_by_one 1 P)

-- the sessions whose calls the events close, in order
abbrev pub turns_in : List Event → List ℕ
turns_in [] = []
turns_in (e ∷ journal) = if is_closing e then session_of e ∷ turns_in journal else turns_in journal

-- the newest event closes a call of the session
abbrev pub IsBehindCall : ℕ → List Event → Type 0
IsBehindCall s [] = ⊥
IsBehindCall s (e ∷ past) = (session_of e ≡ s) × (is_closing e ≡ true)

-- a session leaves directly after its last call
abbrev pub LeavesAtOnce : Event → List Event → Type 0
LeavesAtOnce (Left s) past = IsBehindCall s past
LeavesAtOnce _ past = Unit {0}

-- directly after the grant of a session's locks comes what closes its call, and after a settling that or the grant
abbrev pub FollowsAtOnce : Event → List Event → Type 0
FollowsAtOnce e (Granted s asked ∷ past) = (session_of e ≡ s) × (is_closing e ≡ true)
FollowsAtOnce e (Settled by s stands ∷ past) = (session_of e ≡ by) × ((is_closing e || is_grant e) ≡ true)
FollowsAtOnce e _ = Unit {0}

-- no call is under way: the newest event is no grant and no settling
abbrev pub IsAtRest : List Event → Type 0
IsAtRest (Granted s asked ∷ past) = ⊥
IsAtRest (Settled by s stands ∷ past) = ⊥
IsAtRest _ = Unit {0}

-- the session has the next of these turns
abbrev pub HasNext : ℕ → List ℕ → Type 0
HasNext s [] = ⊥
HasNext s (t ∷ turns) = t ≡ s

-- a call that is under way, for which locks were granted or a commit was settled, is that of the session that has the
-- next turn
abbrev pub IsOfNextTurn : List Event → List ℕ → Type 0
IsOfNextTurn (Granted s asked ∷ past) turns = HasNext s turns
IsOfNextTurn (Settled by s stands ∷ past) turns = HasNext by turns
IsOfNextTurn _ turns = Unit {0}
