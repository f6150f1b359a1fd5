-- One call more: its events are the next call's, and all else stays.
use Rattle.std.proofs.Common.{◌≡◌, ℕ, ◌+◌, ◌<◌, ◌==◌, eqb, ◌||◌, ◌⊎◌, inl, inr, ◌≢◌, Bool, true, false, true≢false, IsTrue, Option, if◌then◌else◌, List, [], ◌∷◌, length, slice_get, IfSome, None, Some, refl, sym, ap, subst, ◌∙◌, arith, rules, ◌++◌}
use Rattle.std.proofs.lemmas.Option.{slice_get_within}
use Rattle.std.proofs.lemmas.Bool.Decides.{eqb_tells}
use Rattle.xq_ast.specs.declared.call.CallText.{CallText}
use Rattle.xq_ast.specs.declared.need.Need.{Need}
use Rattle.session_core.specs.declared.history.event.Event.{Event}
use Rattle.session_core.specs.declared.history.event.Event.TheVariants.{Began, Granted, Refused, Answered, Committed, Ended, RolledBack, Doubt, Settled, Left}
use Rattle.session_core.specs.History.{session_of, is_closing}
use Rattle.session_core.specs.History.Transactions.{Base, Transaction, open_of, open_behind}
use Rattle.session_core.specs.History.States.{state, state_with, is_open}
use Rattle.session_core.specs.History.Closes.{Scripts, calls_of, closed_of, next_call, is_left_by, has_left, ClosesBy, IsSomeText, IsForCall, IsAnswerTo, TextRefusalsAt, NeedsThese}
use Rattle.session_core.proofs.Tying.{here, elsewhere}
use Rattle.xdb_top.specs.Turns.{LeavesAtOnce, FollowsAtOnce, IsAtRest, HasNext, IsOfNextTurn, IsBehindCall}
use Rattle.session_run.specs.Calls.{AnswersText, ClosesText}
use Rattle.xdb_top.specs.Played.{IsPlayed, IsUpTo}

-- ---- an event that closes a call

no_grant : {A : Type 0} → false ≡ true → A
no_grant is = absurd (true≢false (sym is))

as_call : (P : Scripts) (e : Event) (past : List Event) → is_closing e ≡ true → IsSomeText (next_call P (session_of e) past) (λ text. ClosesBy text e)
    → IsForCall P e past
as_call P (Began s kind) past is h = h
as_call P (Granted s needs) past is h = no_grant is
as_call P (Refused s name holder needs) past is h = h
as_call P (Answered s reply) past is h = h
as_call P (Committed s n) past is h = h
as_call P (Ended s) past is h = h
as_call P (RolledBack s) past is h = h
as_call P (Doubt s n mark) past is h = h
as_call P (Settled by s stands) past is h = no_grant is
as_call P (Left s) past is h = no_grant is

as_answer : (P : Scripts) (text : CallText) (e : Event) (past : List Event) → next_call P (session_of e) past ≡ Some text → AnswersText text e past
    → TextRefusalsAt P e past
as_answer P text (Began s kind) past next h = tt
as_answer P text (Granted s needs) past next h = tt
as_answer P text (Refused s name holder needs) past next h = tt
as_answer P text (Answered s reply) past next h = subst (λ c. IfSome c (λ t. IsAnswerTo t (state s past) reply.says)) (sym next) h
as_answer P text (Committed s n) past next h = tt
as_answer P text (Ended s) past next h = tt
as_answer P text (RolledBack s) past next h = tt
as_answer P text (Doubt s n mark) past next h = tt
as_answer P text (Settled by s stands) past next h = tt
as_answer P text (Left s) past next h = tt

is_no_leaving : (s : ℕ) (e : Event) → is_closing e ≡ true → is_left_by s e ≡ false
is_no_leaving s (Began t kind) is = refl
is_no_leaving s (Granted t needs) is = refl
is_no_leaving s (Refused t name holder needs) is = refl
is_no_leaving s (Answered t reply) is = refl
is_no_leaving s (Committed t n) is = refl
is_no_leaving s (Ended t) is = refl
is_no_leaving s (RolledBack t) is = refl
is_no_leaving s (Doubt t n mark) is = refl
is_no_leaving s (Settled by t stands) is = refl
is_no_leaving s (Left t) is = no_grant is

leaves_nothing : (e : Event) (past : List Event) → is_closing e ≡ true → LeavesAtOnce e past
leaves_nothing (Began t kind) past is = tt
leaves_nothing (Granted t needs) past is = tt
leaves_nothing (Refused t name holder needs) past is = tt
leaves_nothing (Answered t reply) past is = tt
leaves_nothing (Committed t n) past is = tt
leaves_nothing (Ended t) past is = tt
leaves_nothing (RolledBack t) past is = tt
leaves_nothing (Doubt t n mark) past is = tt
leaves_nothing (Settled by t stands) past is = tt
leaves_nothing (Left t) past is = no_grant is

-- where no call is under way, none is out of turn
pub next_at_rest : (past : List Event) (turns : List ℕ) → IsAtRest past → IsOfNextTurn past turns
next_at_rest [] turns rests = tt
next_at_rest (Began s kind ∷ past) turns rests = tt
next_at_rest (Granted s needs ∷ past) turns rests = absurd rests
next_at_rest (Refused s name holder needs ∷ past) turns rests = tt
next_at_rest (Answered s reply ∷ past) turns rests = tt
next_at_rest (Committed s n ∷ past) turns rests = tt
next_at_rest (Ended s ∷ past) turns rests = tt
next_at_rest (RolledBack s ∷ past) turns rests = tt
next_at_rest (Doubt s n mark ∷ past) turns rests = tt
next_at_rest (Settled by s stands ∷ past) turns rests = absurd rests
next_at_rest (Left s ∷ past) turns rests = tt

-- nor where more turns are to come
has_next-more : (s : ℕ) (turns more : List ℕ) → HasNext s turns → HasNext s (turns ++ more)
has_next-more s [] more is = absurd is
has_next-more s (t ∷ turns) more is = is

-- where the call under way is of the next turn, it still is when more turns are to come after it
pub next_turn-more : (past : List Event) (turns more : List ℕ) → IsOfNextTurn past turns → IsOfNextTurn past (turns ++ more)
next_turn-more [] turns more is = tt
next_turn-more (Began s kind ∷ past) turns more is = tt
next_turn-more (Granted s needs ∷ past) turns more is = has_next-more s turns more is
next_turn-more (Refused s name holder needs ∷ past) turns more is = tt
next_turn-more (Answered s reply ∷ past) turns more is = tt
next_turn-more (Committed s n ∷ past) turns more is = tt
next_turn-more (Ended s ∷ past) turns more is = tt
next_turn-more (RolledBack s ∷ past) turns more is = tt
next_turn-more (Doubt s n mark ∷ past) turns more is = tt
next_turn-more (Settled by s stands ∷ past) turns more is = has_next-more by turns more is
next_turn-more (Left s ∷ past) turns more is = tt

-- where no call is under way, any event may come next
pub follows_rest : (e : Event) (past : List Event) → IsAtRest past → FollowsAtOnce e past
follows_rest e [] rests = tt
follows_rest e (Began s kind ∷ past) rests = tt
follows_rest e (Granted s needs ∷ past) rests = absurd rests
follows_rest e (Refused s name holder needs ∷ past) rests = tt
follows_rest e (Answered s reply ∷ past) rests = tt
follows_rest e (Committed s n ∷ past) rests = tt
follows_rest e (Ended s ∷ past) rests = tt
follows_rest e (RolledBack s ∷ past) rests = tt
follows_rest e (Doubt s n mark ∷ past) rests = tt
follows_rest e (Settled by s stands ∷ past) rests = absurd rests
follows_rest e (Left s ∷ past) rests = tt

-- after the closing of a call none is
rests_closed : (e : Event) (past : List Event) → is_closing e ≡ true → IsAtRest (e ∷ past)
rests_closed (Began s kind) past is = tt
rests_closed (Granted s needs) past is = no_grant is
rests_closed (Refused s name holder needs) past is = tt
rests_closed (Answered s reply) past is = tt
rests_closed (Committed s n) past is = tt
rests_closed (Ended s) past is = tt
rests_closed (RolledBack s) past is = tt
rests_closed (Doubt s n mark) past is = tt
rests_closed (Settled by s stands) past is = no_grant is
rests_closed (Left s) past is = tt

-- directly after the closing of a session's call no call is under way
pub rests_behind : (s : ℕ) (past : List Event) → IsBehindCall s past → IsAtRest past
rests_behind s [] behind = absurd behind
rests_behind s (e ∷ past) behind = rests_closed e past behind.1

-- what another session closes leaves a session's transaction open as it is
stays_open : (t : ℕ) (e : Event) (o : Option Transaction) → is_closing e ≡ true → (session_of e ≡ t → ⊥) → open_behind t e o ≡ o
stays_open t (Began s kind) o is other = elsewhere s t o _ other
stays_open t (Granted s needs) o is other = no_grant is
stays_open t (Refused s name holder needs) o is other = refl
stays_open t (Answered s reply) o is other = elsewhere s t o _ other
stays_open t (Committed s n) o is other = elsewhere s t o _ other
stays_open t (Ended s) o is other = elsewhere s t o _ other
stays_open t (RolledBack s) o is other = elsewhere s t o _ other
stays_open t (Doubt s n mark) o is other = elsewhere s t o _ other
stays_open t (Settled by s stands) o is other = no_grant is
stays_open t (Left s) o is other = no_grant is

-- an event that closes a call of the session is one more call that it has closed
pub closed_here : (s : ℕ) (e : Event) (past : List Event) → is_closing e ≡ true → session_of e ≡ s → closed_of s (e ∷ past) ≡ closed_of s past + 1
closed_here s e past is same = rw (is, same, here {A = ℕ} s 0 1) (omega arith)

-- an event that closes another session's call leaves how many calls a session has closed
pub closed_elsewhere : (t : ℕ) (e : Event) (past : List Event) → is_closing e ≡ true → (session_of e ≡ t → ⊥) → closed_of t (e ∷ past) ≡ closed_of t past
closed_elsewhere t e past is other = rw (is, elsewhere {A = ℕ} (session_of e) t 0 1 other) (omega arith)

-- ---- the next call

-- a session with a next call has calls left
has_more : (calls : List CallText) (i : ℕ) (text : CallText) → slice_get calls i ≡ Some text → i < length calls
has_more calls i text next = slice_get_within calls i text next

not_ended : (P : Scripts) (s : ℕ) (past : List Event) (text : CallText) → next_call P s past ≡ Some text → closed_of s past ≡ length (calls_of P s) → ⊥
not_ended P s past text next all = let more = has_more (calls_of P s) (closed_of s past) text next in omega (arith, more, all)

-- so it has not left
not_left_yet : (B : Base) (P : Scripts) (s : ℕ) (past : List Event) (text : CallText) → IsPlayed B P past → next_call P s past ≡ Some text
    → has_left s past ≡ false
not_left_yet B P s past text played next = by_test (has_left s past) refl
  where
    by_test : (b : Bool) → has_left s past ≡ b → has_left s past ≡ false
    by_test true is = absurd (not_ended P s past text next (played.stays s is))
    by_test false is = is

-- the grant of its locks
pub granted_played : (B : Base) (P : Scripts) (s : ℕ) (text : CallText) (asked : List Need) (past : List Event) → IsPlayed B P past → IsAtRest past
    → next_call P s past ≡ Some text
    → NeedsThese asked text → IsPlayed B P (Granted s asked ∷ past)
granted_played B P s text asked past played rests next needed = record {
  closes = ((subst (λ c. IsSomeText c (NeedsThese asked)) (sym next) needed, not_left_yet B P s past text played next), played.closes);
  texts = (tt, played.texts);
  right = (tt, played.right);
  at_once = (follows_rest (Granted s asked) past rests, played.at_once);
  leaves = (tt, played.leaves);
  stays = λ t has. rw (zero_more (closed_of t past)) (played.stays t has);
  ends = λ t all. rw (elsewhere s t (open_of t past) _
      (λ same. not_ended P s past text next (subst (λ u. closed_of u past ≡ length (calls_of P u)) (sym same) (sym (zero_more (closed_of t past)) ∙ all))))
      (played.ends t (sym (zero_more (closed_of t past)) ∙ all));
}
  where
    zero_more : (n : ℕ) → 0 + n ≡ n
    zero_more n = omega arith

-- after it the call is still the next
pub next_behind_grant : (P : Scripts) (s : ℕ) (asked : List Need) (past : List Event) → next_call P s (Granted s asked ∷ past) ≡ next_call P s past
next_behind_grant P s asked past = ap (λ n. slice_get (calls_of P s) n) (omega arith)

-- what closes it
pub closed_played : (B : Base) (P : Scripts) (s : ℕ) (text : CallText) (e : Event) (past : List Event) → IsPlayed B P past → next_call P s past ≡ Some text
    → ClosesText B s text e past → FollowsAtOnce e past → IsUpTo B P s (e ∷ past)
closed_played B P s text e past played next closed follows = record {
  closes = (
    (
      as_call P e past closed.closing (subst (λ c. IsSomeText c (λ t. ClosesBy t e)) (sym here_next) closed.closes),
      ap
          (λ u. has_left u past) closed.of_session ∙ not_left_yet B P s past text played next,
    ),
    played.closes,
  );
  texts = (as_answer P text e past here_next closed.answers, played.texts);
  right = (closed.right, played.right);
  at_once = (follows, played.at_once);
  leaves = (leaves_nothing e past closed.closing, played.leaves);
  behind = (closed.of_session, closed.closing);
  stays = λ t has. by_session t (stays_left t has);
  not_left = rw (is_no_leaving s e closed.closing) (not_left_yet B P s past text played next);
  ends = λ t other all. ap (λ o. is_open (state_with o)) (stays_open t e (open_of t past) closed.closing (λ same. other (sym closed.of_session ∙ same)))
      ∙ played.ends t (sym (closed_elsewhere t e past closed.closing (λ same. other (sym closed.of_session ∙ same))) ∙ all);
}
  where
    here_next : next_call P (session_of e) past ≡ Some text
    here_next = ap (λ u. next_call P u past) closed.of_session ∙ next

    stays_left : (t : ℕ) → has_left t (e ∷ past) ≡ true → has_left t past ≡ true
    stays_left t has = subst (λ b. (b || has_left t past) ≡ true) (is_no_leaving t e closed.closing) has

    by_session : (t : ℕ) → has_left t past ≡ true → closed_of t (e ∷ past) ≡ length (calls_of P t)
    by_session t has = closed_elsewhere t e past closed.closing
        (λ same. true≢false (sym has ∙ ap (λ u. has_left u past) (sym same ∙ closed.of_session) ∙ not_left_yet B P s past text played next))
        ∙ played.stays t has

-- ---- its session's end

-- the session goes on, or its transaction is not open
pub goes_on : (B : Base) (P : Scripts) (s : ℕ) (past : List Event) → IsUpTo B P s past
    → (closed_of s past ≡ length (calls_of P s) → is_open (state s past) ≡ false) → IsPlayed B P past
goes_on B P s past up ended = record {
  closes = up.closes;
  texts = up.texts;
  right = up.right;
  at_once = up.at_once;
  leaves = up.leaves;
  stays = up.stays;
  ends = λ t all. by_session t all (eqb_tells s t);
}
  where
    by_session : (t : ℕ) → closed_of t past ≡ length (calls_of P t) → ((eqb s t ≡ true) × (s ≡ t)) ⊎ ((eqb s t ≡ false) × (s ≢ t))
        → is_open (state t past) ≡ false
    by_session t all (inl (is, same)) = subst (λ u. closed_of u past ≡ length (calls_of P u) → is_open (state u past) ≡ false) same ended all
    by_session t all (inr (is, other)) = up.ends t other all

no_state : (s : ℕ) (o : Option Transaction) → is_open (state_with (if s == s then None else o)) ≡ false
no_state s o = ap (λ x. is_open (state_with x)) (here s o None)

-- or it leaves
pub left_played : (B : Base) (P : Scripts) (s : ℕ) (past : List Event) → IsUpTo B P s past → closed_of s past ≡ length (calls_of P s)
    → is_open (state s past) ≡ true → IsPlayed B P (Left s ∷ past)
left_played B P s past up all is_open_still = record {
  closes = (((all, IsTrue-from is_open_still), up.not_left), up.closes);
  texts = (tt, up.texts);
  right = (tt, up.right);
  at_once = (follows_rest (Left s) past (rests_behind s past up.behind), up.at_once);
  leaves = (up.behind, up.leaves);
  stays = λ t has. zero_more (closed_of t past) ∙ stays_by t has (eqb_tells s t);
  ends = λ t all'. ends_by t (sym (zero_more (closed_of t past)) ∙ all') (eqb_tells s t);
}
  where
    zero_more : (n : ℕ) → 0 + n ≡ n
    zero_more n = omega arith

    IsTrue-from : {b : Bool} → b ≡ true → IsTrue b
    IsTrue-from is = search rules

    stays_by : (t : ℕ) → has_left t (Left s ∷ past) ≡ true → ((eqb s t ≡ true) × (s ≡ t)) ⊎ ((eqb s t ≡ false) × (s ≢ t))
        → closed_of t past ≡ length (calls_of P t)
    stays_by t has (inl (is, same)) = subst (λ u. closed_of u past ≡ length (calls_of P u)) same all
    stays_by t has (inr (is, other)) = up.stays t (subst (λ b. (b || has_left t past) ≡ true) is has)

    ends_by : (t : ℕ) → closed_of t past ≡ length (calls_of P t) → ((eqb s t ≡ true) × (s ≡ t)) ⊎ ((eqb s t ≡ false) × (s ≢ t))
        → is_open (state t (Left s ∷ past)) ≡ false
    ends_by t all' (inl (is, same)) = subst (λ u. is_open (state u (Left s ∷ past)) ≡ false) same (no_state s (open_of s past))
    ends_by t all' (inr (is, other)) = ap (λ o. is_open (state_with o)) (elsewhere s t (open_of t past) None other) ∙ up.ends t other all'
