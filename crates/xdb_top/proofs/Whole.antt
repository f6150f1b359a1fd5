-- A journal of played scripts is one legal history once all calls are closed.
use Rattle.std.proofs.Common.{◌≡◌, ℕ, List, [], ◌++◌, length, Result, Ok, Err, OnOk, OnErr, is_ok, IsTrue, refl, sym, ap, subst, ◌∙◌, append-nil, rules}
use Rattle.session_core.specs.declared.history.event.Event.{Event}
use Rattle.session_core.specs.History.{past_of}
use Rattle.session_core.specs.History.Transactions.{Base}
use Rattle.session_core.specs.History.Closes.{Scripts, calls_of, closed_of}
use Rattle.session_core.specs.History.Legal.{Legal, SoFar}
use Rattle.session_core.specs.Keeping.Kept.{Kept, past}
use Rattle.session_core.proofs.Growing.{begins}
use Rattle.script_text.specs.declared.scripts.session_calls.Script.{Script}
use Rattle.script_text.specs.JournalText.{ArePrinted}
use Rattle.xdb_top.specs.Typed.{AreTyped}
use Rattle.xdb_top.proofs.Printed.{printed_journal}
use Rattle.xdb_top.specs.Turns.{turns_of, turns_in, one_by_one, all_turns}
use Rattle.xdb_top.specs.Played.{start, IsPlayed, IsWholePlay, IsPartPlay}
use Rattle.xdb_top.specs.Playing.{HasBrokenOff, start_kept, IsPlayedWhole}
use Rattle.xdb_top.proofs.Turns.{closed_by_turns, all_had}
use Rattle.xdb_top.proofs.Starting.{nothing_played_yet}
use Rattle.xdb_top.proofs.Closing.{next_at_rest}

-- events that are legal so far and played, when each session has closed all its calls, are one legal history
pub all_closed : (B : Base) (P : Scripts) (journal : List Event) → SoFar B journal → IsPlayed B P (past_of journal)
    → ((s : ℕ) → closed_of s (past_of journal) ≡ length (calls_of P s)) → Legal journal B P
all_closed B P journal so_far played all = record {
  closes = record { each = played.closes; in_order = so_far.in_order; at_end = λ s. (all s, played.ends s (all s)) };
  locks = so_far.locks;
  serial = so_far.serial;
  snapshots = so_far.snapshots;
  unfinished = so_far.unfinished;
  refusals = record { by_state = so_far.refusals; by_text = played.texts };
  settling = so_far.settling;
  marks = so_far.marks;
}

played_from_start : (script : Script) (k : Kept) → IsPlayedWhole script k → IsPlayed start script.sessions (past k)
played_from_start script k whole = subst (λ B. IsPlayed B script.sessions (past k)) whole.base whole.played

-- a script that was played whole
pub whole_play : (script : Script) (k : Kept) → IsPlayedWhole script k → SoFar k.base k.journal → AreTyped k.journal
    → IsWholePlay start script k.journal
whole_play script k whole so_far typed = record {
  legal = all_closed start script.sessions k.journal (subst (λ B. SoFar B k.journal) whole.base so_far) (played_from_start script k whole)
      (λ s. closed_by_turns s k.journal ∙ ap (turns_of s) whole.in_turn ∙ all_had script.sessions script.order s);
  in_turn = whole.in_turn;
  right = (played_from_start script k whole).right;
  at_once = whole.played.at_once;
  leaves = whole.played.leaves;
  printed = printed_journal start script.sessions k.journal typed (played_from_start script k whole).closes so_far.locks
      (played_from_start script k whole).right;
}

-- a play that ends with Ok, with a typed journal, is a whole play
pub whole_where_ok : {T E : Type 0} (r : Result T E) (script : Script) (k : Kept) (journal : List Event) → OnOk r (IsPlayedWhole script k)
    → SoFar k.base k.journal → journal ≡ k.journal → AreTyped journal
    → IsTrue (is_ok r) → IsWholePlay start script journal
whole_where_ok (Ok x) script k journal whole so_far same typed ok =
    subst (IsWholePlay start script) (sym same) (whole_play script k whole so_far (subst AreTyped same typed))
whole_where_ok (Err e) script k journal whole so_far same typed ok = absurd (search rules)

-- ---- a part of a script

-- nothing of it
pub nothing_of_it : (script : Script) (journal : List Event) → journal ≡ [] → IsPartPlay start script journal
nothing_of_it script journal none = subst (IsPartPlay start script) (sym none)
    (record {
      legal = begins start;
      played = nothing_played_yet start script.sessions;
      printed = tt;
      rest = all_turns script.sessions script.order;
      in_turn =
          refl;
      under_way = tt;
    })

module _ (script : Script) (k : Kept) (so_far : SoFar k.base k.journal) (base : k.base ≡ start) (typed : AreTyped k.journal) where
  from_start : SoFar start k.journal
  from_start = subst (λ B. SoFar B k.journal) base so_far

  printed_by : IsPlayed start script.sessions (past k) → ArePrinted k.journal
  printed_by played = printed_journal start script.sessions k.journal typed played.closes so_far.locks played.right

  part_of_whole : IsPlayedWhole script k → IsPartPlay start script k.journal
  part_of_whole whole = record {
    legal = from_start;
    played = played_from_start script k whole;
    printed = printed_by (played_from_start script k whole);
    rest = [];
    in_turn = append-nil (turns_in k.journal) ∙ whole.in_turn;
    under_way = next_at_rest (past k) [] whole.at_rest;
  }

  part_off : HasBrokenOff script.sessions (script.order ++ one_by_one 1 script.sessions) start_kept k → IsPartPlay start script k.journal
  part_off off = record {
    legal = from_start;
    played = subst (λ B. IsPlayed B script.sessions (past k)) base off.played;
    printed = printed_by (subst (λ B. IsPlayed B script.sessions (past k)) base off.played);
    rest = off.rest;
    in_turn =
        off.turns;
    under_way = off.under_way;
  }

  -- what was played is a part of the script, however the play ended
  pub part_play : {T E : Type 0} (r : Result T E) (journal : List Event) → OnOk r (IsPlayedWhole script k)
      → OnErr r (HasBrokenOff script.sessions (script.order ++ one_by_one 1 script.sessions) start_kept k)
      → journal ≡ k.journal → IsPartPlay start script journal
  part_play (Ok x) journal whole off same = subst (IsPartPlay start script) (sym same) (part_of_whole whole)
  part_play (Err e) journal whole off same = subst (IsPartPlay start script) (sym same) (part_off off)
