-- What contracts see of a pass, and what the calls of the lock make of it.
use Rattle.std.specs.Prelude.{◌≡◌, ℕ, ◌+◌, ◌<◌, ◌≤◌, Bool, true, false, Option, None, List, [], ◌∷◌, ◌++◌, length}
use mathlib.Core.Option.{some}
use lib.ListN.{get_elem?}
use Rattle.atomic_table.specs.Seated.{TableId}
use Rattle.atomic_table.specs.Table.{Me}
use Rattle.hist_lock.specs.declared.view.Kept.{Kept}
use Rattle.hist_lock.specs.declared.view.View.{View}
use Rattle.hist_lock.specs.Story.{Begins, events_of, longer}

-- its lock, its session's number, the origin of the value, the events that it has seen, its own among all events, and whether it is inside;
-- of the opener also how many passes were made, and what is kept of those that were joined
pub record Known (E O : Type 0) : Type 0 where
  pub lock : TableId
  pub id : ℕ
  pub origin : O
  pub seen : List E
  pub mine : List E
  pub inside : Bool
  pub made : ℕ
  pub kept : List (Kept E)

-- the most passes that are split from an opener's: their numbers have 32 bits
abbrev pub most_passes : ℕ
most_passes = 4294967295

module _ {E O : Type 0} where
  -- what contracts see of a pass of this lock that keeps this view
  abbrev pub known_of : TableId → View E O → Known E O
  known_of lock v = record { lock = lock; id = v.id; origin = v.origin; seen = v.seen; mine = v.mine; inside = v.inside; made = v.made; kept = v.kept }

  -- the opener's pass of a new lock round a value from this origin
  abbrev pub opening_pass : TableId → O → Known E O
  opening_pass lock o = record { lock = lock; id = 0; origin = o; seen = []; mine = []; inside = false; made = 0; kept = [] }

  -- the pass that is split from the opener's
  abbrev pub parting_pass : Known E O → Known E O
  parting_pass p = record { lock = p.lock; id = p.made + 1; origin = p.origin; seen = p.seen; mine = []; inside = false; made = 0; kept = [] }

  -- the opener's pass after another was joined: the longer of what both saw, and the other's own events by its number
  abbrev pub joining_pass : Known E O → Known E O → Known E O
  joining_pass p q = record p { seen = longer p.seen q.seen; kept = p.kept ++ record { id = q.id; mine = q.mine; seen = q.seen } ∷ [] }

  -- each pass that was made was joined
  abbrev pub AllJoined : Known E O → Type 0
  AllJoined p = (k : ℕ) → 0 < k → k ≤ p.made → (i : ℕ) × (x : Kept E) × (get_elem? p.kept i ≡ some x) × (x.id ≡ k)

  -- what the list says to the opener in the end: it begins with what each pass saw, has of each number exactly what its
  -- pass had, and no event of a number that was not given
  pub record ClosedAs (session : E → ℕ) (log : List E) (p : Known E O) : Type 0 where
    pub begins : Begins log p.seen
    pub own : events_of session 0 log ≡ p.mine
    pub joined : (i : ℕ) (x : Kept E) → get_elem? p.kept i ≡ some x → events_of session x.id log ≡ x.mine
    pub saw : (i : ℕ) (x : Kept E) → get_elem? p.kept i ≡ some x → Begins log x.seen
    pub no_other : (by : ℕ) → p.made < by → events_of session by log ≡ []

-- the slots in the hands of a pass: the one slot, empty, while it is inside
abbrev pub hands : {T : Type 0} → Bool → List (ℕ × Option T)
hands true = (0, None) ∷ []
hands false = []

-- what a pass keeps at run time
pub record IsPass {T E O : Type 0} (me : Me (Option T) (View E O)) (made found : ℕ) : Type 0 where
  pub live : me.0.live ≡ true
  pub counts : made ≡ me.0.made
  pub holding : me.1 ≡ hands me.0.inside
  pub counted : me.0.inside ≡ true → found ≡ length me.0.seen
