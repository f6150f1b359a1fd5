-- The seats before any call, and what an empty journal is.
use Rattle.std.proofs.Common.{◌≡◌, ◌≢◌, ℕ, ◌+◌, ◌<◌, ◌⊎◌, inl, inr, eqb, true, false, true≢false, List, [], ◌∷◌, ◌++◌, length, slice_get, Some, refl, sym, ap, subst, ◌∙◌, arith, length-append}
use Rattle.std.proofs.lemmas.Option.{slice_get_within, slice_get-get_or, get_or_from_slice_get}
use Rattle.std.proofs.lemmas.List.{get_or_push, get_or_append_left}
use Rattle.std.proofs.lemmas.Bool.Decides.{eqb_tells}
use Rattle.session_core.specs.History.Transactions.{Base}
use Rattle.session_core.specs.History.Closes.{Scripts}
use Rattle.session_core.specs.Keeping.Kept.{Kept}
use Rattle.xml_model.specs.Changes.{no_changes}
use Rattle.session_run.specs.Sessions.{seat_of}
use Rattle.script_text.specs.declared.scripts.session_calls.Script.{Script}
use Rattle.xdb_top.specs.declared.play.Seat.{Seat}
use Rattle.xdb_top.specs.Turns.{one_by_one}
use Rattle.xdb_top.specs.Played.{start, IsPlayed}
use Rattle.xdb_top.specs.Playing.{IsPlaying, HasPlayed, HasBrokenOff, AreNewSeats, start_kept, IsPlayedWhole}
use Rattle.xdb_top.proofs.Seats.{broke_off_at}

-- the seat of a session at this place that has made no call
abbrev pub new_seat : ℕ → Seat
new_seat i = record { session = seat_of (i + 1) no_changes; made = 0 }

-- an empty list is the new seats of no sessions
pub no_seats : (seats : List Seat) → seats ≡ [] → AreNewSeats 0 seats
no_seats seats none = subst (AreNewSeats 0) (sym none)
    (record { as_many = refl; each = λ i seat got. absurd (let out = slice_get_within [] i seat got in omega (arith, out)) })

-- the new seats of n sessions and one more new seat are those of n + 1
pub one_seat_more : (n : ℕ) (seats : List Seat) → AreNewSeats n seats → AreNewSeats (n + 1) (seats ++ new_seat n ∷ [])
one_seat_more n seats are = record {
  as_many = length-append seats (new_seat n ∷ []) ∙ omega (arith, are.as_many);
  each = λ i seat got. by_place i seat got (eqb_tells i n);
}
  where
    by_place : (i : ℕ) (seat : Seat) → slice_get (seats ++ new_seat n ∷ []) i ≡ Some seat → ((eqb i n ≡ true) × (i ≡ n)) ⊎ ((eqb i n ≡ false) × (i ≢ n))
        → (seat.session ≡ seat_of (i + 1) no_changes) × (seat.made ≡ 0)
    by_place i seat got (inl (test, same)) =
        let last : seat ≡ new_seat n = sym (get_or_from_slice_get (seats ++ new_seat n ∷ []) i seat seat got)
        ∙ get_or_push seats (new_seat n) seat i (are.as_many ∙ sym same) in
        (ap (λ s. s.session) last ∙ ap (λ k. seat_of (k + 1) no_changes) (sym same), ap (λ s. s.made) last)
    by_place i seat got (inr (test, other)) =
        let below = slice_get_within (seats ++ new_seat n ∷ []) i seat got in
        let within : i < length seats = omega (arith, below, length-append seats (new_seat n ∷ []), are.as_many, other) in
        are.each i seat (slice_get-get_or seats i seat within
        ∙ ap Some (sym (get_or_append_left seats (new_seat n ∷ []) seat i within) ∙ get_or_from_slice_get (seats ++ new_seat n ∷ []) i seat seat got))

-- where there are no events, scripts are played so far
pub nothing_played_yet : (B : Base) (P : Scripts) → IsPlayed B P []
nothing_played_yet B P =
    record { closes = tt; texts = tt; right = tt; at_once = tt; leaves = tt; stays = λ s has. absurd (true≢false (sym has)); ends = λ s all. refl }

-- a play that breaks off before its first turn
pub off_at_start : (P : Scripts) (order : List ℕ) (k : Kept) → k ≡ start_kept → HasBrokenOff P order start_kept k
off_at_start P order k is = subst (HasBrokenOff P order start_kept) (sym is) (broke_off_at P order start_kept start_kept (nothing_played_yet start P) tt refl)

-- new seats, one for each session, play from the empty journal on
pub starts : (P : Scripts) (seats : List Seat) → AreNewSeats (length P) seats → IsPlaying P start_kept seats
starts P seats are = record {
  base = refl;
  played = nothing_played_yet start P;
  at_rest = tt;
  as_many = are.as_many;
  seated = λ i seat got. record {
    number = ap (λ s. s.number) (are.each i seat got).0;
    made = (are.each i seat got).1;
    ready = record { tied = ap (λ s. s.changes) (are.each i seat got).0; between = tt; settled = refl };
  };
}

-- when the turns of the order and then all one by one were had from the start, the script was played whole
pub whole : (script : Script) (k : Kept) (seats : List Seat) → HasPlayed script.sessions (script.order ++ one_by_one 1 script.sessions) start_kept k seats
    → IsPlayedWhole script k
whole script k seats played = record { base = played.playing.base; played = played.playing.played; at_rest = played.playing.at_rest; in_turn = played.turns }
