-- What holds between two calls while scripts are played: of the journal, and of the seats, one for each session.
use Rattle.std.specs.Prelude.{◌≡◌, ◌≢◌, ℕ, ◌+◌, List, [], ◌∷◌, ◌++◌, length, slice_get, Some}
use Rattle.xml_model.specs.Forest.{no_documents}
use Rattle.session_core.specs.History.Closes.{Scripts, closed_of}
use Rattle.session_core.specs.Keeping.Kept.{Kept, kept_of, past}
use Rattle.session_run.specs.Tied.{IsReady}
use Rattle.session_run.specs.Called.{IsUntouched}
use Rattle.xml_model.specs.Changes.{no_changes}
use Rattle.session_run.specs.Sessions.{seat_of}
use Rattle.xdb_top.specs.declared.play.Seat.{Seat}
use Rattle.script_text.specs.declared.scripts.session_calls.Script.{Script}
use Rattle.xdb_top.specs.Turns.{IsAtRest, turns_in, ordered, all_turns, IsOfNextTurn}
use Rattle.xdb_top.specs.Played.{start, IsPlayed}

-- a session has made as many calls as it has closed, and may make the next
pub record IsSeated (s : ℕ) (seat : Seat) (k : Kept) : Type 0 where
  pub number : seat.session.number ≡ s
  pub made : seat.made ≡ closed_of s (past k)
  pub ready : IsReady s seat.session.changes k

-- the scripts are played so far: no call is under way, and each session may make its next call
pub record IsPlaying (P : Scripts) (k : Kept) (seats : List Seat) : Type 0 where
  pub base : k.base ≡ start
  pub played : IsPlayed k.base P (past k)
  pub at_rest : IsAtRest (past k)
  pub as_many : length seats ≡ length P
  pub seated : (i : ℕ) (seat : Seat) → slice_get seats i ≡ Some seat → IsSeated (i + 1) seat k

-- the turns of an order were had
pub record HasPlayed (P : Scripts) (order : List ℕ) (old new : Kept) (seats : List Seat) : Type 0 where
  pub playing : IsPlaying P new seats
  pub turns : turns_in new.journal ≡ ordered P (turns_in old.journal) order

-- one session had its turn, where it had a call left, and no other session was touched
pub record HasHadTurn (P : Scripts) (s : ℕ) (old new : Kept) (seat : Seat) : Type 0 where
  pub base : new.base ≡ old.base
  pub played : IsPlayed new.base P (past new)
  pub at_rest : IsAtRest (past new)
  pub seated : IsSeated s seat new
  pub turns : turns_in new.journal ≡ ordered P (turns_in old.journal) (s ∷ [])
  pub others : (t : ℕ) → t ≢ s → IsUntouched t old new
  pub closed : (t : ℕ) → t ≢ s → closed_of t (past new) ≡ closed_of t (past old)

-- memory was wanting before all turns of an order were had: those that were had come first in it
pub record HasBrokenOff (P : Scripts) (order : List ℕ) (old new : Kept) : Type 0 where
  pub played : IsPlayed new.base P (past new)
  pub rest : List ℕ
  pub turns : turns_in new.journal ++ rest ≡ ordered P (turns_in old.journal) order
  pub under_way : IsOfNextTurn (past new) rest

-- the seats of sessions that have made no call
pub record AreNewSeats (count : ℕ) (seats : List Seat) : Type 0 where
  pub as_many : length seats ≡ count
  pub each : (i : ℕ) (seat : Seat) → slice_get seats i ≡ Some seat → (seat.session ≡ seat_of (i + 1) no_changes) × (seat.made ≡ 0)

-- an empty journal over a store without documents
abbrev pub start_kept : Kept
start_kept = kept_of 0 1 no_documents []

-- a script was played whole
pub record IsPlayedWhole (script : Script) (k : Kept) : Type 0 where
  pub base : k.base ≡ start
  pub played : IsPlayed k.base script.sessions (past k)
  pub at_rest : IsAtRest (past k)
  pub in_turn : turns_in k.journal ≡ all_turns script.sessions script.order
