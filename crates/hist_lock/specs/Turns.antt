-- The rule between steps, and what each step tells.
-- Word 0 counts the events. Word 1 is 0 while the value is at home, and else 1, or 2 where somebody may wait for it.
use Rattle.std.specs.Prelude.{◌≡◌, ℕ, ◌+◌, ◌^◌, ◌<◌, ◌≤◌, ◌⊎◌, true, false, Option, Some, List, [], ◌∷◌, ◌++◌, length}
use mathlib.Core.Option.{some, none}
use lib.ListN.{get_elem?}
use Rattle.atomic_table.specs.Table.{State, Me, Step}
use Rattle.hist_lock.specs.declared.view.Kept.{Kept}
use Rattle.hist_lock.specs.declared.view.View.{View}
use Rattle.hist_lock.specs.Story.{Begins, events_of, AllOf}
use Rattle.hist_lock.specs.Views.{entered, added, left}

-- what the list is to what is kept of a joined pass
pub record Keeps {E : Type 0} (session : E → ℕ) (log : List E) (made : ℕ) (x : Kept E) : Type 0 where
  pub own : x.mine ≡ events_of session x.id log
  pub begun : Begins log x.seen
  pub numbered : x.id ≤ made

module _ {E O : Type 0} (session : E → ℕ) where
  -- what the list is to one live view. Only the opener's keeps anything, each number once
  pub record Knows (o : O) (log : List E) (made : ℕ) (v : View E O) : Type 0 where
    pub from : v.origin ≡ o
    pub begun : Begins log v.seen
    pub own : v.mine ≡ events_of session v.id log
    pub numbered : v.id ≤ made
    pub opens : v.id ≡ 0 → v.made ≡ made
    pub others : (i : ℕ) (x : Kept E) → get_elem? v.kept i ≡ some x → Keeps session log made x
    pub once : (i k : ℕ) (x y : Kept E) → get_elem? v.kept i ≡ some x → get_elem? v.kept k ≡ some y → x.id ≡ y.id → i ≡ k
    pub sole : (v.id ≡ 0 → ⊥) → v.kept ≡ []
    pub now : v.inside ≡ true → v.seen ≡ log

module _ {T E O : Type 0} (events : T → List E) (session : E → ℕ) (origin : T → O) where
  -- the turn is free: the value is at home, and nobody is inside
  pub record IsFree (o : O) (log : List E) (s : State (Option T) (View E O)) : Type 0 where
    pub value : T
    pub at_home : s.homes ≡ some (Some value) ∷ []
    pub list : events value ≡ log
    pub from : origin value ≡ o
    pub words : s.words ≡ length log ∷ 0 ∷ []
    pub nobody : (j : ℕ) (v : View E O) → get_elem? s.views j ≡ some v → v.live ≡ true → v.inside ≡ false

  -- the turn is held: the value is out with the one who is inside
  pub record IsHeld (log : List E) (s : State (Option T) (View E O)) : Type 0 where
    pub away : s.homes ≡ none ∷ []
    pub turn : ℕ
    pub busy : turn ≡ 0 → ⊥
    pub words : s.words ≡ length log ∷ turn ∷ []
    pub holder : ℕ
    pub view : View E O
    pub there : get_elem? s.views holder ≡ some view
    pub is_live : view.live ≡ true
    pub is_in : view.inside ≡ true
    pub alone : (j : ℕ) (v : View E O) → get_elem? s.views j ≡ some v → v.live ≡ true → v.inside ≡ true → j ≡ holder

  -- the rule: there is one list, and a number of passes made. Numbers of passes, live or kept, are distinct, and no event has a number that was not given
  pub record IsKept (o : O) (s : State (Option T) (View E O)) : Type 0 where
    pub log : List E
    pub made : ℕ
    pub small : length log < 2 ^ 64
    pub no_other : (by : ℕ) → made < by → events_of session by log ≡ []
    pub each : (j : ℕ) (v : View E O) → get_elem? s.views j ≡ some v → v.live ≡ true → Knows session o log made v
    pub apart : (j k : ℕ) (v w : View E O) → get_elem? s.views j ≡ some v → get_elem? s.views k ≡ some w → v.live ≡ true → w.live ≡ true → v.id ≡ w.id → j ≡ k
    pub kept_apart : (j k i : ℕ) (v w : View E O) (x : Kept E) → get_elem? s.views j ≡ some v → get_elem? s.views k ≡ some w → v.live ≡ true → w.live ≡ true
        → get_elem? v.kept i ≡ some x → x.id ≡ w.id → ⊥
    pub phase : IsFree o log s ⊎ IsHeld log s

  -- a seat's view, and the slot in its hands
  abbrev Mine : Type 0
  Mine = Me (Option T) (View E O)

  -- what the value in its hands is to the one who has taken the turn
  pub record Gained (v : View E O) (x : T) : Type 0 where
    pub begun : Begins (events x) v.seen
    pub own : v.mine ≡ events_of session v.id (events x)
    pub from : origin x ≡ v.origin
    pub small : length (events x) < 2 ^ 64

  -- a try to take the turn
  abbrev pub taken : Step (Option T) → Mine → ℕ → Mine → Type 0
  taken st m found m' =
      (found ≡ 0 → (x : T) × (m'.0 ≡ entered m.0 (events x)) × (m'.1 ≡ (0, Some x) ∷ []) × Gained m.0 x)
      × ((found ≡ 0 → ⊥) → m' ≡ m)

  -- the seat has seen the events of the value that it holds
  abbrev pub raised : Step (Option T) → Mine → ℕ → Mine → Type 0
  raised st m found m' = (x : T) (new : List E) → m.1 ≡ (0, Some x) ∷ [] → events x ≡ m.0.seen ++ new → AllOf session m.0.id new
      → m' ≡ (added m.0 (events x) (m.0.mine ++ new), m.1)

  -- nothing changes, and no event that the opener has seen has the number of the next pass
  abbrev pub looked : Step (Option T) → Mine → ℕ → Mine → Type 0
  looked st m found m' = (m' ≡ m) × (events_of session (m.0.made + 1) m.0.seen ≡ [])

  -- the turn is given back
  abbrev pub freed : Step (Option T) → Mine → ℕ → Mine → Type 0
  freed st m found m' = m' ≡ (left m.0, [])
