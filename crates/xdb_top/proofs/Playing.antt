-- All seats while turns are had.
use Rattle.std.proofs.Common.{◌≡◌, ◌≢◌, ℕ, zero, suc, ◌+◌, ◌<◌, ◌≤◌, ◌⊎◌, inl, inr, eqb, true, false, List, [], ◌∷◌, ◌++◌, length, take, replicate, slice_get, slice_set, slice_index_or, None, Some, Result, Ok, Err, OnErr, refl, sym, ap, subst, ◌∙◌, append_assoc, length-take, arith}
use Rattle.std.proofs.lemmas.Option.{slice_get_within, slice_get_past, slice_get-get_or, get_or_from_slice_get}
use Rattle.std.proofs.lemmas.List.{take_more, get_or-set_same, get_or-set_other, length-set, append-nil}
use Rattle.std.proofs.lemmas.Bool.Decides.{eqb_tells}
use Rattle.xq_ast.specs.declared.call.CallText.{CallText}
use Rattle.session_core.specs.History.States.{in_doubt}
use Rattle.session_core.specs.History.Closes.{Scripts, calls_of, or_none, closed_of}
use Rattle.session_core.specs.Keeping.Kept.{Kept, past}
use Rattle.session_run.specs.Called.{IsUntouched}
use Rattle.session_run.specs.Tied.{EndsCall}
use Rattle.xdb_top.specs.declared.play.Seat.{Seat}
use Rattle.xdb_top.specs.Turns.{turns_in, with_turn, ordered, one_by_one}
use Rattle.xdb_top.specs.Playing.{IsSeated, IsPlaying, HasPlayed, HasHadTurn, HasBrokenOff}
use Rattle.xdb_top.proofs.Turns.{IsFront, ordered_front}
use Rattle.xdb_top.proofs.Seats.{passes}
use Rattle.xdb_top.proofs.Closing.{next_turn-more}

-- ---- one turn

-- another session is seated as it was
still_seated : (t : ℕ) (seat : Seat) (old new : Kept) → IsSeated t seat old → IsUntouched t old new → closed_of t (past new) ≡ closed_of t (past old)
    → in_doubt (past new) ≡ None → IsSeated t seat new
still_seated t seat old new seated untouched closed settled = record {
  number = seated.number;
  made = seated.made ∙ sym closed;
  ready = record {
    tied = untouched.tied seat.session.changes seated.ready.tied;
    between = subst EndsCall (sym untouched.last_is) seated.ready.between;
    settled = settled;
  };
}

same_seat : (seats : List Seat) (i : ℕ) (seat found : Seat) → i < length seats → slice_get (slice_set seats i seat) i ≡ Some found → found ≡ seat
same_seat seats i seat found within got = sym (get_or_from_slice_get (slice_set seats i seat) i found seat got) ∙ get_or-set_same seats i seat seat within

other_seat : (seats : List Seat) (i j : ℕ) (seat found : Seat) → j ≢ i → slice_get (slice_set seats i seat) j ≡ Some found → slice_get seats j ≡ Some found
other_seat seats i j seat found other got =
    let within : j < length seats = subst (λ n. j < n) (length-set seats i seat) (slice_get_within (slice_set seats i seat) j found got) in
    slice_get-get_or seats j found within
    ∙ ap Some (sym (get_or-set_other seats i j seat found other) ∙ get_or_from_slice_get (slice_set seats i seat) j found found got)

-- after the turn of the session in a place of the seats, the seats play on with that session's new seat in its place
pub seat_played : (P : Scripts) (i : ℕ) (old new : Kept) (seats : List Seat) (seat : Seat) → IsPlaying P old seats → i < length seats
    → HasHadTurn P (i + 1) old new seat
    → HasPlayed P ((i + 1) ∷ []) old new (slice_set seats i seat)
seat_played P i old new seats seat playing within turn = record {
  playing = record {
    base = turn.base ∙ playing.base;
    played = turn.played;
    at_rest = turn.at_rest;
    as_many = length-set seats i seat ∙ playing.as_many;
    seated = λ j found got. by_place j found got (eqb_tells j i);
  };
  turns = turn.turns;
}
  where
    by_place : (j : ℕ) (found : Seat) → slice_get (slice_set seats i seat) j ≡ Some found → ((eqb j i ≡ true) × (j ≡ i)) ⊎ ((eqb j i ≡ false) × (j ≢ i))
        → IsSeated (j + 1) found new
    by_place j found got (inl (test, same)) =
        let at : slice_get (slice_set seats i seat) i ≡ Some found = subst (λ k. slice_get (slice_set seats i seat) k ≡ Some found) same got in
        subst (λ k. IsSeated (k + 1) found new) (sym same) (subst (λ x. IsSeated (i + 1) x new) (sym (same_seat seats i seat found within at)) turn.seated)
    by_place j found got (inr (test, other)) =
        let apart : j + 1 ≢ i + 1 = λ same. other (omega arith) in
        still_seated (j + 1) found old new (playing.seated j found (other_seat seats i j seat found other got)) (turn.others (j + 1) apart)
        (turn.closed (j + 1) apart) turn.seated.ready.settled

-- a number without a session is passed over
pub none_there : (P : Scripts) (s : ℕ) → (s ≡ 0) ⊎ (length P < s) → length (calls_of P s) ≤ 0
none_there P zero out = omega arith
none_there P (suc s) (inl is) = absurd (omega arith)
none_there P (suc s) (inr past_all) = let none = ap (λ o. length (or_none o)) (slice_get_past P s (omega arith)) in omega arith

-- the turn of a number without a session changes nothing
pub nobody_played : (P : Scripts) (s : ℕ) (k : Kept) (seats : List Seat) → IsPlaying P k seats → (s ≡ 0) ⊎ (length seats < s) → HasPlayed P (s ∷ []) k k seats
nobody_played P s k seats playing out =
    record { playing = playing; turns = sym (passes P (turns_in k.journal) s (let none = none_there P s (among out) in omega arith)) }
  where
    among : (s ≡ 0) ⊎ (length seats < s) → (s ≡ 0) ⊎ (length P < s)
    among (inl is) = inl is
    among (inr above) = inr (subst (λ n. n < s) playing.as_many above)

-- ---- turns after turns

ordered-append : (P : Scripts) (turns xs ys : List ℕ) → ordered P turns (xs ++ ys) ≡ ordered P (ordered P turns xs) ys
ordered-append P turns [] ys = refl
ordered-append P turns (s ∷ xs) ys = ordered-append P (with_turn P turns s) xs ys

-- after no turns the seats play as they did
pub nothing_played : (P : Scripts) (k : Kept) (seats : List Seat) → IsPlaying P k seats → HasPlayed P [] k k seats
nothing_played P k seats playing = record { playing = playing; turns = refl }

-- turns that were had, and then others, are all of them had in turn
pub more_played : (P : Scripts) (first second : List ℕ) (old mid new : Kept) (seats seats' : List Seat) → HasPlayed P first old mid seats
    → HasPlayed P second mid new seats'
    → HasPlayed P (first ++ second) old new seats'
more_played P first second old mid new seats seats' one other = record {
  playing = other.playing;
  turns = other.turns ∙ ap (λ turns. ordered P turns second) one.turns ∙ sym (ordered-append P (turns_in old.journal) first second);
}

-- ---- a play that breaks off

-- what holds anyway holds of each Err answer
pub where_err : {T E P : Type 0} (r : Result T E) → P → OnErr r P
where_err (Ok x) fact = tt
where_err (Err e) fact = fact

-- after turns that were had
pub played_and_off : (P : Scripts) (first second : List ℕ) (old mid new : Kept) (seats : List Seat) → HasPlayed P first old mid seats
    → HasBrokenOff P second mid new → HasBrokenOff P (first ++ second) old new
played_and_off P first second old mid new seats one off = record {
  played = off.played;
  rest = off.rest;
  turns = off.turns ∙ ap (λ turns. ordered P turns second) one.turns ∙ sym (ordered-append P (turns_in old.journal) first second);
  under_way = off.under_way;
}

-- so that no later turn is had
pub off_in_front : (P : Scripts) (first all : List ℕ) (old new : Kept) → IsFront first all → HasBrokenOff P first old new → HasBrokenOff P all old new
off_in_front P first all old new before off =
    let other = ordered_front P (ordered P (turns_in old.journal) first) before.rest in
    subst (λ order. HasBrokenOff P order old new) before.is (record {
      played = off.played;
      rest = off.rest ++ other.rest;
      turns = sym (append_assoc (turns_in new.journal) off.rest other.rest) ∙ ap (λ turns. turns ++ other.rest) off.turns ∙ other.is
          ∙ sym (ordered-append P (turns_in old.journal) first before.rest);
      under_way = next_turn-more (past new) off.rest other.rest off.under_way;
    })

-- one session more, of those that have their turns one by one
pub one_by_one-more : (first : ℕ) (P : Scripts) (calls : List CallText)
    → one_by_one first (P ++ calls ∷ []) ≡ one_by_one first P ++ replicate (length calls) (first + length P)
one_by_one-more first [] calls = append-nil (replicate (length calls) first) ∙ ap (replicate (length calls)) (omega arith)
one_by_one-more first (c ∷ P) calls =
    ap (λ more. replicate (length c) first ++ more) (one_by_one-more (first + 1) P calls
    ∙ ap (λ n. one_by_one (first + 1) P ++ replicate (length calls) n) (omega arith))
    ∙ sym (append_assoc (replicate (length c) first) (one_by_one (first + 1) P) (replicate (length calls) (first + suc (length P))))

-- the turns one by one of the first i sessions, and then as many of the next as it has calls, are those of the first i + 1
pub one_by_one-next : (P : Scripts) (i : ℕ) (calls : List CallText) → i < length P → calls ≡ slice_index_or P i calls
    → one_by_one 1 (take i P) ++ replicate (length calls) (i + 1) ≡ one_by_one 1 (take (i + 1) P)
one_by_one-next P i calls within is =
    ap (λ n. one_by_one 1 (take i P) ++ replicate (length calls) n) (omega (arith, length-take i P))
    ∙ sym (one_by_one-more 1 (take i P) calls)
    ∙ ap (one_by_one 1) (sym (take_more P i calls within ∙ ap (λ x. take i P ++ x ∷ []) (sym is)))
