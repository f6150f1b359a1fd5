-- Turns: all turns of some scripts are as many for each session as it has calls.
use Rattle.std.proofs.Common.{◌≡◌, ℕ, zero, suc, ◌+◌, ◌≤◌, ◌<◌, ◌==◌, ◌&&◌, eqb, min, nat_lt, ◌⊎◌, inl, inr, ◌≢◌, Bool, true, false, if◌then◌else◌, List, [], ◌∷◌, ◌++◌, length, replicate, take, drop, slice_get, refl, sym, ap, subst, add-zero, append-nil, append_assoc, ◌∙◌, arith}
use Rattle.std.proofs.lemmas.List.{reverse-append, take-append-drop, take-replicate}
use Rattle.std.proofs.lemmas.Bool.{ltb-true, ltb-false}
use Rattle.std.proofs.lemmas.Bool.Decides.{eqb_tells}
use Rattle.session_core.specs.declared.history.event.Event.{Event}
use Rattle.session_core.specs.History.{past_of, session_of, is_closing}
use Rattle.session_core.specs.History.Closes.{Scripts, calls_of, or_none, closed_of, more_closed}
use Rattle.session_core.proofs.Tying.{here, elsewhere}
use Rattle.xdb_top.specs.Turns.{one_where, turns_of, with_turn, ordered, one_by_one, all_turns, turns_in}

-- a session's turns in two lists are those in the first and those in the second
pub turns_of-append : (s : ℕ) (xs ys : List ℕ) → turns_of s (xs ++ ys) ≡ turns_of s xs + turns_of s ys
turns_of-append s [] ys = omega arith
turns_of-append s (t ∷ xs) ys = rw (turns_of-append s xs ys) (omega arith)

turns_of-same : (s n : ℕ) → turns_of s (replicate n s) ≡ n
turns_of-same s zero = refl
turns_of-same s (suc n) = rw (here {A = ℕ} s 0 1, turns_of-same s n) (omega arith)

turns_of-other : (s t n : ℕ) → (t ≡ s → ⊥) → turns_of s (replicate n t) ≡ 0
turns_of-other s t zero apart = refl
turns_of-other s t (suc n) apart = rw (elsewhere {A = ℕ} t s 0 1 apart, turns_of-other s t n apart) refl

-- ---- an order

-- a turn more is one more for its session, where it has a call left
turns_of-with_turn : (P : Scripts) (turns : List ℕ) (t s : ℕ) → turns_of s turns ≤ length (calls_of P s)
    → turns_of s (with_turn P turns t) ≡ min (length (calls_of P s)) (turns_of s turns + one_where (t == s))
turns_of-with_turn P turns t s within = by_tests (nat_lt (turns_of t turns) (length (calls_of P t))) refl (eqb_tells t s)
  where
    Same : Bool → Type 0
    Same b = turns_of s (if b then turns ++ t ∷ [] else turns) ≡ min (length (calls_of P s)) (turns_of s turns + one_where (t == s))

    by_tests : (b : Bool) → nat_lt (turns_of t turns) (length (calls_of P t)) ≡ b → ((eqb t s ≡ true) × (t ≡ s)) ⊎ ((eqb t s ≡ false) × (t ≢ s)) → Same b
    by_tests true is (inl (test, same)) =
        let less : turns_of s turns < length (calls_of P s) = subst (λ u. turns_of u turns < length (calls_of P u)) same (ltb-true _ _ is) in
        turns_of-append s turns (t ∷ []) ∙ rw test (omega arith)
    by_tests true is (inr (test, other)) = turns_of-append s turns (t ∷ []) ∙ rw test (omega arith)
    by_tests false is (inl (test, same)) =
        let none : length (calls_of P s) ≤ turns_of s turns = subst (λ u. length (calls_of P u) ≤ turns_of u turns) same (ltb-false _ _ is) in
        rw test (omega arith)
    by_tests false is (inr (test, other)) = rw test (omega arith)

-- an order adds to a session's turns as often as it names the session, up to its number of calls
pub turns_of-ordered : (P : Scripts) (turns order : List ℕ) (s : ℕ) → turns_of s turns ≤ length (calls_of P s)
    → turns_of s (ordered P turns order) ≡ min (length (calls_of P s)) (turns_of s turns + turns_of s order)
turns_of-ordered P turns [] s within = omega arith
turns_of-ordered P turns (t ∷ order) s within =
    let one = turns_of-with_turn P turns t s within in
    turns_of-ordered P (with_turn P turns t) order s (omega arith) ∙ omega arith

-- ---- session by session

before_first : (first s : ℕ) (P : Scripts) → s < first → turns_of s (one_by_one first P) ≡ 0
before_first first s [] below = refl
before_first first s (calls ∷ more) below =
    turns_of-append s (replicate (length calls) first) (one_by_one (first + 1) more)
    ∙ rw (turns_of-other s first (length calls) (omega arith), before_first (first + 1) s more (omega arith)) refl

from_first : (first : ℕ) (P : Scripts) (k : ℕ) → turns_of (first + k) (one_by_one first P) ≡ length (or_none (slice_get P k))
from_first first [] k = refl
from_first first (calls ∷ more) zero =
    turns_of-append (first + 0) (replicate (length calls) first) (one_by_one (first + 1) more)
    ∙ ap (λ n. n + turns_of (first + 0) (one_by_one (first + 1) more)) (ap (λ u. turns_of u (replicate (length calls) first)) (add-zero first)
    ∙ turns_of-same first (length calls))
    ∙ ap (λ n. length calls + n) (before_first (first + 1) (first + 0) more (omega arith))
    ∙ omega arith
from_first first (calls ∷ more) (suc k) =
    turns_of-append (first + suc k) (replicate (length calls) first) (one_by_one (first + 1) more)
    ∙ ap (λ n. n + turns_of (first + suc k) (one_by_one (first + 1) more)) (turns_of-other (first + suc k) first (length calls) (λ same. omega arith))
    ∙ let next : turns_of (first + suc k) (one_by_one (first + 1) more) ≡ turns_of ((first + 1) + k) (one_by_one (first + 1) more) =
    ap (λ u. turns_of u (one_by_one (first + 1) more)) (omega arith) in
    let rest = from_first (first + 1) more k in
    omega arith

-- one by one, each session has as many turns as it has calls
pub turns_of-one_by_one : (P : Scripts) (s : ℕ) → turns_of s (one_by_one 1 P) ≡ length (calls_of P s)
turns_of-one_by_one P zero = before_first 1 0 P (omega arith)
turns_of-one_by_one P (suc s) = ap (λ u. turns_of u (one_by_one 1 P)) (omega arith) ∙ from_first 1 P s

-- each session has as many turns as it has calls
pub all_had : (P : Scripts) (order : List ℕ) (s : ℕ) → turns_of s (all_turns P order) ≡ length (calls_of P s)
all_had P order s =
    let all = turns_of-ordered P [] (order ++ one_by_one 1 P) s (omega arith) in
    let sum = turns_of-append s order (one_by_one 1 P) in
    let each = turns_of-one_by_one P s in
    omega arith

-- ---- turns that come first in others

-- some turns come first in others
pub record IsFront (turns all : List ℕ) : Type 0 where
  pub rest : List ℕ
  pub is : turns ++ rest ≡ all

-- turns come first in themselves
pub front_itself : (turns : List ℕ) → IsFront turns turns
front_itself turns = record { rest = []; is = append-nil turns }

-- what comes first in turns that come first in others comes first in those
pub front_then : (a b c : List ℕ) → IsFront a b → IsFront b c → IsFront a c
front_then a b c one other =
    record { rest = one.rest ++ other.rest; is = sym (append_assoc a one.rest other.rest) ∙ ap (λ x. x ++ other.rest) one.is ∙ other.is }

with_turn_front : (P : Scripts) (turns : List ℕ) (s : ℕ) → IsFront turns (with_turn P turns s)
with_turn_front P turns s = by_test (nat_lt (turns_of s turns) (length (calls_of P s)))
  where
    by_test : (b : Bool) → IsFront turns (if b then turns ++ s ∷ [] else turns)
    by_test true = record { rest = s ∷ []; is = refl }
    by_test false = front_itself turns

-- the turns that were had come first in those that an order makes of them
pub ordered_front : (P : Scripts) (turns order : List ℕ) → IsFront turns (ordered P turns order)
ordered_front P turns [] = front_itself turns
ordered_front P turns (s ∷ order) =
    front_then turns (with_turn P turns s) (ordered P (with_turn P turns s) order) (with_turn_front P turns s) (ordered_front P (with_turn P turns s) order)

-- the first k turns come first in all
pub take_front : (k : ℕ) (turns : List ℕ) → IsFront (take k turns) turns
take_front k turns = record { rest = drop k turns; is = take-append-drop k turns }

-- of a turn that is repeated, fewer come first in more
pub replicate_front : (k n turn : ℕ) → k ≤ n → IsFront (replicate k turn) (replicate n turn)
replicate_front k n turn within = subst (λ turns. IsFront turns (replicate n turn)) (take-replicate k n turn within) (take_front k (replicate n turn))

-- the turns one by one of the first k sessions come first in those of all
pub one_by_one_front : (first k : ℕ) (P : Scripts) → IsFront (one_by_one first (take k P)) (one_by_one first P)
one_by_one_front first zero P = record { rest = one_by_one first P; is = refl }
one_by_one_front first (suc k) [] = front_itself []
one_by_one_front first (suc k) (calls ∷ more) = let front = one_by_one_front (first + 1) k more in record {
  rest = front.rest;
  is = append_assoc (replicate (length calls) first) (one_by_one (first + 1) (take k more)) front.rest
      ∙ ap (λ turns. replicate (length calls) first ++ turns) front.is;
}

-- ---- the turns of a journal

closed_of-append : (s : ℕ) (xs ys : List Event) → closed_of s (xs ++ ys) ≡ closed_of s xs + closed_of s ys
closed_of-append s [] ys = omega arith
closed_of-append s (e ∷ xs) ys = rw (closed_of-append s xs ys) (omega arith)

-- the calls that a session has closed are its turns
pub closed_by_turns : (s : ℕ) (journal : List Event) → closed_of s (past_of journal) ≡ turns_of s (turns_in journal)
closed_by_turns s [] = refl
closed_by_turns s (e ∷ journal) =
    ap (closed_of s) (reverse-append (e ∷ []) journal) ∙ closed_of-append s (past_of journal) (e ∷ [])
    ∙ ap (λ n. n + (more_closed s e + 0)) (closed_by_turns s journal) ∙ by_test (is_closing e) refl
  where
    by_test : (b : Bool) → is_closing e ≡ b
        → turns_of s (turns_in journal) + ((if b && (session_of e == s) then 1 else 0) + 0)
        ≡ turns_of s (if b then session_of e ∷ turns_in journal else turns_in journal)
    by_test true is = omega arith
    by_test false is = omega arith

-- the turns of two journals in a row are those of the first and then those of the second
pub turns_in-append : (xs ys : List Event) → turns_in (xs ++ ys) ≡ turns_in xs ++ turns_in ys
turns_in-append [] ys = refl
turns_in-append (e ∷ xs) ys = by_test (is_closing e) (turns_in-append xs ys)
  where
    by_test : (b : Bool) → turns_in (xs ++ ys) ≡ turns_in xs ++ turns_in ys
        → (if b then session_of e ∷ turns_in (xs ++ ys) else turns_in (xs ++ ys)) ≡ (if b then session_of e ∷ turns_in xs else turns_in xs) ++ turns_in ys
    by_test true more = ap (λ turns. session_of e ∷ turns) more
    by_test false more = more

-- an event that closes a call is one turn more, and any other is none
pub turn_more : (journal : List Event) (e : Event) → is_closing e ≡ true → turns_in (journal ++ e ∷ []) ≡ turns_in journal ++ session_of e ∷ []
turn_more journal e is = turns_in-append journal (e ∷ []) ∙ rw is refl

-- an event that closes no call adds no turn
pub no_turn_more : (journal : List Event) (e : Event) → is_closing e ≡ false → turns_in (journal ++ e ∷ []) ≡ turns_in journal
no_turn_more journal e is = turns_in-append journal (e ∷ []) ∙ rw is (append-nil (turns_in journal))
