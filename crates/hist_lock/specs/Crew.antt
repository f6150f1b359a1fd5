-- Workers that own a pass each, and what the list says of them once all were joined.
use Rattle.std.specs.Prelude.{◌≡◌, ℕ, ◌+◌, ◌<◌, false, List, [], length, slice_index_or}
use Rattle.atomic_table.specs.Seated.{TableId}
use Rattle.hist_lock.specs.declared.view.Kept.{Kept}
use Rattle.hist_lock.specs.Story.{Begins, events_of}
use Rattle.hist_lock.specs.Passes.{Known}

-- what a worker is to its crew: its number, its pass, the events that it told of as its own, and those that it found at some time
pub record Hand (E O : Type 0) : Type 0 where
  pub number : ℕ
  pub pass : Known E O
  pub told : List E
  pub found : List E

-- a worker with this number and pass, which told of these events and found those
abbrev pub hand : {E O : Type 0} → ℕ → Known E O → List E → List E → Hand E O
hand n p told found = record { number = n; pass = p; told = told; found = found }

-- what the opener keeps of a pass
abbrev pub kept_by : {E O : Type 0} → Known E O → Kept E
kept_by p = record { id = p.id; mine = p.mine; seen = p.seen }

module _ {W E O : Type 0} (seen_as : W → Hand E O) where
  -- the worker at place k has the number and the pass k + 1 of this lock, is outside, has told of the events that it added, and found a beginning of the list
  pub record Ready (lock : TableId) (k : ℕ) (w : W) : Type 0 where
    pub number : (seen_as w).number ≡ k + 1
    pub at_lock : (seen_as w).pass.lock ≡ lock
    pub id : (seen_as w).pass.id ≡ k + 1
    pub outside : (seen_as w).pass.inside ≡ false
    pub told : (seen_as w).pass.mine ≡ (seen_as w).told
    pub found : Begins (seen_as w).pass.seen (seen_as w).found

  -- each worker is so at its place in the list
  abbrev pub AllReady : TableId → List W → Type 0
  AllReady lock ws = (k : ℕ) (d : W) → k < length ws → Ready lock k (slice_index_or ws k d)

  -- the worker is outside of this lock
  pub record AtLock (lock : TableId) (w : W) : Type 0 where
    pub at_lock : (seen_as w).pass.lock ≡ lock
    pub outside : (seen_as w).pass.inside ≡ false

-- the list has of each worker's number exactly what it told of, begins with what it found, and has no event of any other number
pub record Tells {R E : Type 0} (told found : R → List E) (session : E → ℕ) (log : List E) (rs : List R) : Type 0 where
  pub own : (k : ℕ) (d : R) → k < length rs → events_of session (k + 1) log ≡ told (slice_index_or rs k d)
  pub begins : (k : ℕ) (d : R) → k < length rs → Begins log (found (slice_index_or rs k d))
  pub opener : events_of session 0 log ≡ []
  pub no_other : (by : ℕ) → length rs < by → events_of session by log ≡ []
