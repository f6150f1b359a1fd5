-- A session's turn: what its call and its end leave of the journal that is played.
use Rattle.std.proofs.Common.{◌≡◌, ◌≢◌, ℕ, ◌+◌, ◌<◌, ◌≤◌, nat_lt, Bool, true, false, IsTrue, List, [], ◌∷◌, ◌++◌, length, slice_get, slice_index_or, add-one, Some, inl, inr, refl, sym, ap, subst, ◌∙◌, arith, rules}
use Rattle.std.proofs.lemmas.Option.{slice_get_read, slice_get_within}
use Rattle.std.proofs.lemmas.Bool.{lt-ltb, le-ltb, ltb-true, ltb-false}
use Rattle.std.proofs.lemmas.List.{reverse-append}
use Rattle.xq_ast.specs.declared.call.CallText.{CallText}
use Rattle.xq_ast.specs.declared.need.Need.{Need}
use Rattle.session_core.specs.declared.history.event.Event.{Event}
use Rattle.session_core.specs.declared.history.event.Event.TheVariants.{Granted, Left}
use Rattle.session_core.specs.History.{past_of}
use Rattle.session_core.specs.History.Transactions.{Base}
use Rattle.session_core.specs.History.States.{state, is_open}
use Rattle.session_core.specs.History.Closes.{Scripts, calls_of, or_none, closed_of, next_call, NeedsThese}
use Rattle.session_core.specs.Keeping.Kept.{Kept, with_event, past}
use Rattle.session_core.proofs.Growing.{past-more}
use Rattle.session_run.specs.Calls.{ClosesText, AreOfCall, at_once, behind_grant}
use Rattle.session_run.specs.Called.{IsCalled, IsUnclosed, IsUntouched, with_events}
use Rattle.xml_model.specs.Changes.{ChangeMap}
use Rattle.session_run.specs.Tied.{IsReady}
use Rattle.xdb_top.specs.declared.play.Seat.{Seat}
use Rattle.xdb_top.specs.Turns.{FollowsAtOnce, IsAtRest, IsOfNextTurn, turns_of, turns_in, with_turn}
use Rattle.xdb_top.specs.Played.{IsPlayed, IsUpTo}
use Rattle.xdb_top.specs.Playing.{IsSeated, HasHadTurn, HasBrokenOff}
use Rattle.xdb_top.proofs.Turns.{closed_by_turns, turn_more, no_turn_more, turns_in-append, ordered_front}
use Rattle.xdb_top.proofs.Closing.{follows_rest, next_at_rest, rests_behind, granted_played, next_behind_grant, closed_played, goes_on, left_played, closed_here, closed_elsewhere}

-- ---- one turn in a list of turns

-- a session that has had as many turns as it has calls is passed over
pub passes : (P : Scripts) (turns : List ℕ) (s : ℕ) → length (calls_of P s) ≤ turns_of s turns → with_turn P turns s ≡ turns
passes P turns s none = rw (le-ltb (turns_of s turns) (length (calls_of P s)) none) refl

takes : (P : Scripts) (turns : List ℕ) (s : ℕ) → turns_of s turns < length (calls_of P s) → with_turn P turns s ≡ turns ++ s ∷ []
takes P turns s some = rw (lt-ltb (turns_of s turns) (length (calls_of P s)) some) refl

-- ---- no call is left

untouched : (t : ℕ) (k : Kept) → IsUntouched t k k
untouched t k = record { open_is = refl; last_is = refl; tied = λ changes is. is }

-- a session without a call left is passed over
pub passed_over : (P : Scripts) (s : ℕ) (k : Kept) (seat : Seat) → IsPlayed k.base P (past k) → IsAtRest (past k) → IsSeated s seat k
    → length (calls_of P s) ≤ seat.made → HasHadTurn P s k k seat
passed_over P s k seat played rests seated none = record {
  base = refl;
  played = played;
  at_rest = rests;
  seated = seated;
  turns = sym (passes P (turns_in k.journal) s (subst (λ n. length (calls_of P s) ≤ n) (seated.made ∙ closed_by_turns s k.journal) none));
  others = λ t other. untouched t k;
  closed = λ t other. refl;
}

-- ---- a call is made

-- what a call leaves, when its session's end may be still to come
pub record IsUpAfter (P : Scripts) (s : ℕ) (old new : Kept) : Type 0 where
  pub up : IsUpTo new.base P s (past new)
  pub closed_here : closed_of s (past new) ≡ closed_of s (past old) + 1
  pub closed_there : (t : ℕ) → t ≢ s → closed_of t (past new) ≡ closed_of t (past old)
  pub turns : turns_in new.journal ≡ turns_in old.journal ++ s ∷ []
  pub base : new.base ≡ old.base

-- the same of events after a past
record IsUpBehind (B : Base) (P : Scripts) (s : ℕ) (old new : List Event) : Type 0 where
  up : IsUpTo B P s new
  closed_here : closed_of s new ≡ closed_of s old + 1
  closed_there : (t : ℕ) → t ≢ s → closed_of t new ≡ closed_of t old

closing_behind : (B : Base) (P : Scripts) (s : ℕ) (text : CallText) (e : Event) (old : List Event) → IsPlayed B P old → next_call P s old ≡ Some text
    → ClosesText B s text e old → FollowsAtOnce e old
    → IsUpBehind B P s old (e ∷ old)
closing_behind B P s text e old played next closes follows = record {
  up = closed_played B P s text e old played next closes follows;
  closed_here = closed_here s e old closes.closing closes.of_session;
  closed_there = λ t other. closed_elsewhere t e old closes.closing (λ same. other (sym same ∙ closes.of_session));
}

granted_first : (B : Base) (P : Scripts) (s : ℕ) (asked : List Need) (old new : List Event) → IsUpBehind B P s (Granted s asked ∷ old) new
    → IsUpBehind B P s old new
granted_first B P s asked old new behind = record {
  up = behind.up;
  closed_here = let grown = behind.closed_here in omega arith;
  closed_there = λ t other. behind.closed_there t other ∙ omega arith;
}

up_after : (P : Scripts) (s : ℕ) (text : CallText) (old : Kept) (events : List Event) → IsPlayed old.base P (past old) → IsAtRest (past old)
    → next_call P s (past old) ≡ Some text
    → AreOfCall old.base s text (past old) events → IsUpAfter P s old (with_events events old)
up_after P s text old _ played rests next (at_once {e = e} closes) =
    let behind : IsUpBehind old.base P s (past old) (past_of (old.journal ++ e ∷ [])) =
    subst (IsUpBehind old.base P s (past old)) (sym (past-more old.journal e))
    (closing_behind old.base P s text e (past old) played next closes (follows_rest e (past old) rests)) in
    record {
      up = behind.up;
      closed_here = behind.closed_here;
      closed_there = behind.closed_there;
      turns = turn_more old.journal e closes.closing ∙ ap (λ u. turns_in old.journal ++ u ∷ []) closes.of_session;
      base = refl;
    }
up_after P s text old _ played rests next (behind_grant {asked = asked} {e = e} some needed closes) =
    let granted = granted_played old.base P s text asked (past old) played rests next needed in
    let behind : IsUpBehind old.base P s (past old) (past_of (old.journal ++ Granted s asked ∷ e ∷ [])) =
    subst (IsUpBehind old.base P s (past old)) (sym (reverse-append old.journal (Granted s asked ∷ e ∷ [])))
    (granted_first old.base P s asked (past old) (e ∷ Granted s asked ∷ past old)
    (closing_behind old.base P s text e (Granted s asked ∷ past old) granted (next_behind_grant P s asked (past old) ∙ next) closes
    (closes.of_session, closes.closing))) in
    record {
      up = behind.up;
      closed_here = behind.closed_here;
      closed_there = behind.closed_there;
      turns = turns_in-append old.journal (Granted s asked ∷ e ∷ [])
          ∙ ap (λ u. turns_in old.journal ++ u) (rw closes.closing (ap (λ u. u ∷ []) closes.of_session));
      base = refl;
    }

-- where the next call of a session is closed, one call more is played, up to what its session's end may still bring
pub up_after_call : (P : Scripts) (s : ℕ) (text : CallText) (old new : Kept) → IsPlayed old.base P (past old) → IsAtRest (past old)
    → next_call P s (past old) ≡ Some text → IsCalled s text old new → IsUpAfter P s old new
up_after_call P s text old new played rests next called =
    subst (IsUpAfter P s old) (sym called.grown) (up_after P s text old called.events played rests next called.of_call)

-- ---- a call is not closed

-- what is played without one turn more
pub broke_off_at : (P : Scripts) (order : List ℕ) (old new : Kept) → IsPlayed new.base P (past new) → IsAtRest (past new)
    → turns_in new.journal ≡ turns_in old.journal → HasBrokenOff P order old new
broke_off_at P order old new played rests same = let front = ordered_front P (turns_in old.journal) order in record {
  played = played;
  rest = front.rest;
  turns = ap (λ turns. turns ++ front.rest) same ∙ front.is;
  under_way = next_at_rest (past new) front.rest rests;
}

granted_alone : (P : Scripts) (s : ℕ) (text : CallText) (asked : List Need) (old : Kept) → IsPlayed old.base P (past old) → IsAtRest (past old)
    → next_call P s (past old) ≡ Some text → NeedsThese asked text
    → HasBrokenOff P (s ∷ []) old (with_event (Granted s asked) old)
granted_alone P s text asked old played rests next needed =
    let within = slice_get_within (calls_of P s) (closed_of s (past old)) text next in let had = closed_by_turns s old.journal in record {
      played = subst (IsPlayed old.base P) (sym (past-more old.journal (Granted s asked)))
          (granted_played old.base P s text asked (past old) played rests next needed);
      rest = s ∷ [];
      turns = ap (λ turns. turns ++ s ∷ []) (no_turn_more old.journal (Granted s asked) refl)
          ∙ sym (takes P (turns_in old.journal) s (omega (arith, within, had)));
      under_way = subst (λ before. IsOfNextTurn before (s ∷ [])) (sym (past-more old.journal (Granted s asked))) refl;
    }

-- where the next call of a session is not closed, the play breaks off at its turn
pub broke_off : (P : Scripts) (s : ℕ) (text : CallText) (old new : Kept) → IsPlayed old.base P (past old) → IsAtRest (past old)
    → next_call P s (past old) ≡ Some text → IsUnclosed s text old new
    → HasBrokenOff P (s ∷ []) old new
broke_off P s text old new played rests next (inl same) = subst (HasBrokenOff P (s ∷ []) old) (sym same) (broke_off_at P (s ∷ []) old old played rests refl)
broke_off P s text old new played rests next (inr alone) =
    subst (HasBrokenOff P (s ∷ []) old) (sym alone.grown) (granted_alone P s text alone.asked old played rests next alone.needed)

-- ---- the session goes on, or it ends

-- the parts of a turn that a call's end leaves as they are
turn_by : (P : Scripts) (s : ℕ) (old mid : Kept) (seat : Seat) → IsUpAfter P s old mid → IsPlayed mid.base P (past mid) → IsReady s seat.session.changes mid
    → seat.session.number ≡ s
    → seat.made ≡ closed_of s (past old) + 1 → closed_of s (past old) < length (calls_of P s) → ((t : ℕ) → t ≢ s → IsUntouched t old mid)
    → HasHadTurn P s old mid seat
turn_by P s old mid seat after played ready number made some others = record {
  base = after.base;
  played = played;
  at_rest = rests_behind s (past mid) after.up.behind;
  seated = record { number = number; made = made ∙ sym after.closed_here; ready = ready };
  turns = after.turns ∙ sym (takes P (turns_in old.journal) s (subst (λ n. n < length (calls_of P s)) (closed_by_turns s old.journal) some));
  others = others;
  closed = after.closed_there;
}

-- it has more calls
pub turn_goes_on : (P : Scripts) (s : ℕ) (old mid : Kept) (seat : Seat) → IsUpAfter P s old mid → IsReady s seat.session.changes mid → seat.session.number ≡ s
    → seat.made ≡ closed_of s (past old) + 1 → seat.made < length (calls_of P s) → ((t : ℕ) → t ≢ s → IsUntouched t old mid) → HasHadTurn P s old mid seat
turn_goes_on P s old mid seat after ready number made more others =
    turn_by P s old mid seat after
    (goes_on mid.base P s (past mid) after.up (λ all. absurd (let closed = after.closed_here in omega (arith, all, closed, made, more)))) ready number made
    (omega (arith, made, more)) others

both_untouched : (t : ℕ) (old mid new : Kept) → IsUntouched t old mid → IsUntouched t mid new → IsUntouched t old new
both_untouched t old mid new first second = record {
  open_is = second.open_is ∙ first.open_is;
  last_is = second.last_is ∙ first.last_is;
  tied = λ changes is. second.tied changes (first.tied changes is);
}

-- it leaves
turn_left : (P : Scripts) (s : ℕ) (old mid : Kept) (seat : Seat) → IsUpAfter P s old mid → is_open (state s (past mid)) ≡ true
    → IsReady s seat.session.changes (with_event (Left s) mid)
    → seat.session.number ≡ s → seat.made ≡ closed_of s (past old) + 1 → seat.made ≡ length (calls_of P s)
    → ((t : ℕ) → t ≢ s → IsUntouched t old (with_event (Left s) mid))
    → HasHadTurn P s old (with_event (Left s) mid) seat
turn_left P s old mid seat after is_open_still ready number made all others = record {
  base = after.base;
  played = subst (IsPlayed mid.base P) (sym left_behind)
      (left_played mid.base P s (past mid) after.up (let closed = after.closed_here in omega (arith, all, closed, made)) is_open_still);
  at_rest = subst IsAtRest (sym left_behind) tt;
  seated = record {
    number = number;
    made = let closed = after.closed_here in let stays = closed_of_left s in omega (arith, closed, made, stays);
    ready =
        ready;
  };
  turns = no_turn_more mid.journal (Left s) refl ∙ after.turns
      ∙ sym (takes P (turns_in old.journal) s (subst (λ n. n < length (calls_of P s)) (closed_by_turns s old.journal) (omega (arith, made, all))));
  others = others;
  closed = λ t other. closed_of_left t ∙ after.closed_there t other;
}
  where
    left_behind : past_of (mid.journal ++ Left s ∷ []) ≡ Left s ∷ past mid
    left_behind = past-more mid.journal (Left s)

    closed_of_left : (t : ℕ) → closed_of t (past_of (mid.journal ++ Left s ∷ [])) ≡ closed_of t (past mid)
    closed_of_left t = ap (closed_of t) left_behind ∙ omega arith

-- it has made its last call
pub turn_ends : (P : Scripts) (s : ℕ) (old mid new : Kept) (seat : Seat) → IsUpAfter P s old mid
    → (IsTrue (is_open (state s (past mid))) → new ≡ with_event (Left s) mid) → (is_open (state s (past mid)) ≡ false → new ≡ mid)
    → IsReady s seat.session.changes new → seat.session.number ≡ s → seat.made ≡ closed_of s (past old) + 1 → seat.made ≡ length (calls_of P s)
    → ((t : ℕ) → t ≢ s → IsUntouched t old mid) → ((t : ℕ) → t ≢ s → IsUntouched t mid new) → HasHadTurn P s old new seat
turn_ends P s old mid new seat after left closed ready number made all first second = by_state (is_open (state s (past mid))) refl
  where
    Ends : Kept → Type 0
    Ends k = IsReady s seat.session.changes k → ((t : ℕ) → t ≢ s → IsUntouched t old k) → HasHadTurn P s old k seat

    others : (t : ℕ) → t ≢ s → IsUntouched t old new
    others t other = both_untouched t old mid new (first t other) (second t other)

    as_true : (b : Bool) → b ≡ true → IsTrue b
    as_true b is = search rules

    by_state : (b : Bool) → is_open (state s (past mid)) ≡ b → HasHadTurn P s old new seat
    by_state true is = subst Ends (sym (left (as_true _ is))) (λ r o. turn_left P s old mid seat after is r number made all o) ready others
    by_state false is = subst Ends (sym (closed is))
        (λ r o. turn_by P s old mid seat after (goes_on mid.base P s (past mid) after.up (λ _. is)) r number made (omega (arith, made, all)) o) ready others

-- ---- the calls of a session in its place

-- the session with the number i + 1 has the calls at the place i of the script
pub calls_at : (P : Scripts) (i : ℕ) (calls : List CallText) → i < length P → calls ≡ slice_index_or P i calls → calls_of P (i + 1) ≡ calls
calls_at P i calls within is = ap (calls_of P) (add-one i) ∙ ap or_none (slice_get_read P (length P) i calls refl within is)

-- where the calls that it has made are not below how many it has, the session has no call left
pub none_left : (P : Scripts) (i made : ℕ) (calls : List CallText) → calls_of P (i + 1) ≡ calls → false ≡ nat_lt made (length calls)
    → length (calls_of P (i + 1)) ≤ made
none_left P i made calls are none = subst (λ cs. length cs ≤ made) (sym are) (ltb-false made (length calls) (sym none))

-- the call at the place of those that a session has closed is its next call
pub next_at : (P : Scripts) (i made : ℕ) (calls : List CallText) (text : CallText) (before : List Event) → calls_of P (i + 1) ≡ calls
    → true ≡ nat_lt made (length calls)
    → text ≡ slice_index_or calls made text → made ≡ closed_of (i + 1) before → next_call P (i + 1) before ≡ Some text
next_at P i made calls text before are some is closed =
    ap (slice_get (calls_of P (i + 1))) (sym closed) ∙ ap (λ cs. slice_get cs made) are
    ∙ slice_get_read calls (length calls) made text refl (ltb-true made (length calls) (sym some)) is

-- the call of the session in its place is made
pub up_after_next : (P : Scripts) (i made number : ℕ) (calls : List CallText) (text : CallText) (old new : Kept) → IsPlayed old.base P (past old)
    → IsAtRest (past old) → calls_of P (i + 1) ≡ calls
    → true ≡ nat_lt made (length calls) → text ≡ slice_index_or calls made text → made ≡ closed_of (i + 1) (past old) → number ≡ i + 1
    → IsCalled number text old new → IsUpAfter P (i + 1) old new
up_after_next P i made number calls text old new played rests are some is closed numbered called =
    up_after_call P (i + 1) text old new played rests (next_at P i made calls text (past old) are some is closed)
    (subst (λ s. IsCalled s text old new) numbered called)

-- or it is not closed
pub broke_off_next : (P : Scripts) (i made number : ℕ) (calls : List CallText) (text : CallText) (old new : Kept) → IsPlayed old.base P (past old)
    → IsAtRest (past old) → calls_of P (i + 1) ≡ calls
    → true ≡ nat_lt made (length calls) → text ≡ slice_index_or calls made text → made ≡ closed_of (i + 1) (past old) → number ≡ i + 1
    → IsUnclosed number text old new → HasBrokenOff P ((i + 1) ∷ []) old new
broke_off_next P i made number calls text old new played rests are some is closed numbered left =
    broke_off P (i + 1) text old new played rests (next_at P i made calls text (past old) are some is closed)
    (subst (λ s. IsUnclosed s text old new) numbered left)

-- a session that is ready under its number is ready under the number of its place
pub ready_as : (number i : ℕ) (changes : ChangeMap) (k : Kept) → number ≡ i + 1 → IsReady number changes k → IsReady (i + 1) changes k
ready_as number i changes k numbered ready = subst (λ s. IsReady s changes k) numbered ready

-- sessions other than a number are untouched also where that number is told by its place
pub others_as : (number i : ℕ) (old new : Kept) → number ≡ i + 1 → ((t : ℕ) → t ≢ number → IsUntouched t old new) → (t : ℕ) → t ≢ i + 1 → IsUntouched t old new
others_as number i old new numbered others t other = others t (λ same. other (same ∙ numbered))
