-- Two plays of a script without want of memory are one: with the same events before, the next event is the same.
use Rattle.std.proofs.Common.{◌≡◌, ◌⊎◌, inl, inr, ℕ, Bool, true, false, true≢false, ◌&&◌, ◌==◌, if◌then◌else◌, List, [], ◌∷◌, ◌++◌, length, reverse, Option, refl, sym, ap, subst, ◌∙◌, arith, append-nil, append_assoc}
use Rattle.std.proofs.lemmas.List.{reverse-append}
use Rattle.std.proofs.lemmas.Option.{slice_get_within}
use Rattle.session_core.specs.declared.history.event.Event.{Event}
use Rattle.session_core.specs.declared.history.event.Event.TheVariants.{Began, Granted, Refused, Answered, Committed, Ended, RolledBack, Doubt, Settled, Left}
use Rattle.session_core.specs.History.{session_of, is_closing, past_of, AtEach}
use Rattle.session_core.specs.History.Transactions.{Base, Transaction, open_of, open_behind}
use Rattle.session_core.specs.History.States.{state, state_with, is_open}
use Rattle.session_core.specs.History.Closes.{Scripts, calls_of, closed_of, more_closed, ClosesAtEnd}
use Rattle.session_core.proofs.Tying.{elsewhere}
use Rattle.script_text.specs.declared.scripts.session_calls.Script.{Script}
use Rattle.xdb_top.specs.Turns.{HasNext, IsBehindCall, turns_in}
use Rattle.xdb_top.specs.Played.{IsWholePlay}
use Rattle.xdb_top.specs.Wants.{IsNoWant, HasNoWant}
use Rattle.xdb_top.proofs.Places.{IsPlace, places}
use Rattle.xdb_top.proofs.Telling.{IsOfText, of_text, of_text_once}

-- ---- from the front on

-- the events before, when these have come too
onto : List Event → List Event → List Event
onto [] past = past
onto (e ∷ events) past = onto events (e ∷ past)

onto_is : (events past : List Event) → onto events past ≡ reverse events ++ past
unfolding onto
onto_is [] past = refl
onto_is (e ∷ events) past = onto_is events (e ∷ past) ∙ sym (ap (λ x. x ++ past) (reverse-append (e ∷ []) events) ∙ append_assoc (reverse events) (e ∷ []) past)

past_onto : (journal : List Event) → past_of journal ≡ onto journal []
past_onto journal = sym (onto_is journal [] ∙ append-nil (reverse journal))

-- what holds of the events that are to come
abbrev ToCome : Base → Scripts → List Event → List Event → Type 0
ToCome B P past [] = ClosesAtEnd P past
ToCome B P past (e ∷ events) = IsPlace B P e past × IsNoWant e × ToCome B P (e ∷ past) events

to_come : (B : Base) (P : Scripts) (events past : List Event) → AtEach (IsPlace B P) (onto events past) → HasNoWant events → ClosesAtEnd P (onto events past)
    → ToCome B P past events × AtEach (IsPlace B P) past
unfolding onto
to_come B P [] past each no_want at_end = (at_end, each)
to_come B P (e ∷ events) past each no_want at_end =
    let more = to_come B P events (e ∷ past) each no_want.1 at_end in ((more.1.0, no_want.0, more.0), more.1.1)

module _ (B : Base) (P : Scripts) where
  -- ---- a session with a next call, and one that leaves

  calls_left : (e : Event) (past : List Event) → IsOfText B P e past → closed_of (session_of e) past ≡ length (calls_of P (session_of e)) → ⊥
  calls_left e past of_text all = let within = slice_get_within (calls_of P (session_of e)) (closed_of (session_of e) past) of_text.text of_text.next_is in
      omega (arith, within, all)

  -- where a session leaves, its calls are closed and its transaction is open, and its last call has just been closed
  left_all : (s : ℕ) (e : Event) (past : List Event) → e ≡ Left s → IsPlace B P e past → closed_of s past ≡ length (calls_of P s)
  left_all s e past is place = (subst (λ x. IsPlace B P x past) is place).closes.0.0

  left_open : (s : ℕ) (e : Event) (past : List Event) → e ≡ Left s → IsPlace B P e past → is_open (state s past) ≡ true
  left_open s e past is place = (subst (λ x. IsPlace B P x past) is place).closes.0.1

  left_behind : (s : ℕ) (e : Event) (past : List Event) → e ≡ Left s → IsPlace B P e past → IsBehindCall s past
  left_behind s e past is place = (subst (λ x. IsPlace B P x past) is place).leaves

  same_behind : (s t : ℕ) (past : List Event) → IsBehindCall s past → IsBehindCall t past → s ≡ t
  same_behind s t [] behind behind' = absurd behind
  same_behind s t (e ∷ past) behind behind' = sym behind.0 ∙ behind'.0

  -- ---- events of other sessions

  open_stays : (s : ℕ) (e : Event) (past : List Event) (o : Option Transaction) → IsPlace B P e past → (session_of e ≡ s → ⊥) → open_behind s e o ≡ o
  open_stays s (Began t kind) past o place other = elsewhere t s o _ other
  open_stays s (Granted t needs) past o place other = elsewhere t s o _ other
  open_stays s (Refused t name holder needs) past o place other = refl
  open_stays s (Answered t reply) past o place other = elsewhere t s o _ other
  open_stays s (Committed t n) past o place other = elsewhere t s o _ other
  open_stays s (Ended t) past o place other = elsewhere t s o _ other
  open_stays s (RolledBack t) past o place other = elsewhere t s o _ other
  open_stays s (Doubt t n mark) past o place other = elsewhere t s o _ other
  open_stays s (Settled by t stands) past o place other = absurd place.right
  open_stays s (Left t) past o place other = elsewhere t s o _ other

  still_open : (s : ℕ) (e : Event) (past : List Event) → IsPlace B P e past → (session_of e ≡ s → ⊥) → is_open (state s past) ≡ true
      → is_open (state s (e ∷ past)) ≡ true
  still_open s e past place other is = ap (λ o. is_open (state_with o)) (open_stays s e past (open_of s past) place other) ∙ is

  none_closed : (s t : ℕ) (b : Bool) → (t ≡ s → ⊥) → ◌≡◌ {A = ℕ} (if b && (t == s) then 1 else 0) 0
  none_closed s t true other = elsewhere {A = ℕ} t s 0 1 other
  none_closed s t false other = refl

  still_closed : (s : ℕ) (e : Event) (past : List Event) → (session_of e ≡ s → ⊥) → closed_of s past ≡ length (calls_of P s)
      → closed_of s (e ∷ past) ≡ length (calls_of P s)
  still_closed s e past other all = let none : more_closed s e ≡ 0 = none_closed s (session_of e) (is_closing e) other in omega (arith, none, all)

  -- a session whose calls are closed adds no event, but that it leaves directly after its last call
  adds_none : (s : ℕ) (e : Event) (past : List Event) → IsPlace B P e past → IsNoWant e → closed_of s past ≡ length (calls_of P s) → (IsBehindCall s past → ⊥)
      → session_of e ≡ s → ⊥
  adds_none s e past place no_want all not_behind same = by_kind (of_text B P past e place no_want)
    where
      by_kind : (e ≡ Left (session_of e)) ⊎ IsOfText B P e past → ⊥
      by_kind (inl is) = not_behind (subst (λ t. IsBehindCall t past) same (left_behind (session_of e) e past is place))
      by_kind (inr of_text) = calls_left e past of_text (subst (λ t. closed_of t past ≡ length (calls_of P t)) (sym same) all)

  -- so its transaction is not open where another session's event comes next
  left_out : (events : List Event) (e : Event) (s : ℕ) (past : List Event) → is_open (state s past) ≡ true → closed_of s past ≡ length (calls_of P s)
      → (session_of e ≡ s → ⊥) → ToCome B P past (e ∷ events) → ⊥
  left_out [] e s past is all other to_come = true≢false (sym (still_open s e past to_come.0 other is) ∙ (to_come.2 s).1)
  left_out (f ∷ events) e s past is all other to_come =
      left_out events f s (e ∷ past) (still_open s e past to_come.0 other is) (still_closed s e past other all)
      (adds_none s f (e ∷ past) to_come.2.0 to_come.2.1 (still_closed s e past other all) (λ behind. other behind.0)) to_come.2

  -- ---- the next turn

  no_more : (e : Event) (past : List Event) → ClosesAtEnd P past → IsPlace B P e past → IsNoWant e → ⊥
  no_more e past at_end place no_want = by_kind (of_text B P past e place no_want)
    where
      by_kind : (e ≡ Left (session_of e)) ⊎ IsOfText B P e past → ⊥
      by_kind (inl is) = true≢false (sym (left_open (session_of e) e past is place) ∙ (at_end (session_of e)).1)
      by_kind (inr of_text) = calls_left e past of_text (at_end (session_of e)).0

  grant_turn : (s : ℕ) (e : Event) (past : List Event) → IsOfText B P e past → session_of e ≡ s → closed_of s (e ∷ past) ≡ closed_of s past
      → ClosesAtEnd P (e ∷ past) → ⊥
  grant_turn s e past of_text same none at_end =
      calls_left e past of_text (subst (λ t. closed_of t past ≡ length (calls_of P t)) (sym same) (sym none ∙ (at_end s).0))

  has_turn : (e : Event) (past events : List Event) → ToCome B P past (e ∷ events) → IsOfText B P e past → HasNext (session_of e) (turns_in (e ∷ events))
  has_turn (Began s kind) past events to_come of_text = refl
  has_turn (Granted s asked) past [] to_come of_text = absurd (grant_turn s (Granted s asked) past of_text refl (omega arith) to_come.2)
  has_turn (Granted s asked) past (f ∷ events) to_come of_text =
      subst (λ b. HasNext s (if b then session_of f ∷ turns_in events else turns_in events)) (sym to_come.2.0.at_once.1) to_come.2.0.at_once.0
  has_turn (Refused s name holder asked) past events to_come of_text = refl
  has_turn (Answered s reply) past events to_come of_text = refl
  has_turn (Committed s n) past events to_come of_text = refl
  has_turn (Ended s) past events to_come of_text = refl
  has_turn (RolledBack s) past events to_come of_text = refl
  has_turn (Doubt s n mark) past events to_come of_text = refl
  has_turn (Settled by s stands) past events to_come of_text = absurd to_come.0.right
  has_turn (Left s) past events to_come of_text = absurd (calls_left (Left s) past of_text to_come.0.closes.0.0)

  same_turn : (s t : ℕ) (turns turns' : List ℕ) → turns ≡ turns' → HasNext s turns → HasNext t turns' → s ≡ t
  same_turn s t [] turns' same is is' = absurd is
  same_turn s t (u ∷ turns) [] same is is' = absurd is'
  same_turn s t (u ∷ turns) (v ∷ turns') same is is' = cc

  -- ---- the next event

  next_same : (past : List Event) (e f : Event) (events events' : List Event) → ToCome B P past (e ∷ events) → ToCome B P past (f ∷ events')
      → turns_in (e ∷ events) ≡ turns_in (f ∷ events') → e ≡ f
  next_same past e f events events' one other turns = by_kinds (of_text B P past e one.0 one.1) (of_text B P past f other.0 other.1)
    where
      apart : (s : ℕ) (g : Event) → IsOfText B P g past → closed_of s past ≡ length (calls_of P s) → session_of g ≡ s → ⊥
      apart s g of_text all same = calls_left g past of_text (subst (λ t. closed_of t past ≡ length (calls_of P t)) (sym same) all)

      by_kinds : (e ≡ Left (session_of e)) ⊎ IsOfText B P e past → (f ≡ Left (session_of f)) ⊎ IsOfText B P f past → e ≡ f
      by_kinds (inl is) (inl is') =
          is ∙ ap Left (same_behind (session_of e) (session_of f) past (left_behind (session_of e) e past is one.0)
          (left_behind (session_of f) f past is' other.0)) ∙ sym is'
      by_kinds (inl is) (inr text) =
          let all = left_all (session_of e) e past is one.0 in
          absurd (left_out events' f (session_of e) past (left_open (session_of e) e past is one.0) all (apart (session_of e) f text all) other)
      by_kinds (inr text) (inl is) =
          let all = left_all (session_of f) f past is other.0 in
          absurd (left_out events e (session_of f) past (left_open (session_of f) f past is other.0) all (apart (session_of f) e text all) one)
      by_kinds (inr text) (inr text') =
          of_text_once B P past e f
          (same_turn (session_of e) (session_of f) _ _ turns (has_turn e past events one text) (has_turn f past events' other text')) text text'

  same_rest : (e : Event) (events events' : List Event) → turns_in (e ∷ events) ≡ turns_in (e ∷ events') → turns_in events ≡ turns_in events'
  same_rest e events events' same = by_test (is_closing e) same
    where
      by_test : (b : Bool) → (if b then session_of e ∷ turns_in events else turns_in events) ≡ (if b then session_of e ∷ turns_in events' else turns_in events')
          → turns_in events ≡ turns_in events'
      by_test true is = cc
      by_test false is = is

  same_events : (events events' past : List Event) → ToCome B P past events → ToCome B P past events' → turns_in events ≡ turns_in events' → events ≡ events'
  same_events [] [] past one other turns = refl
  same_events [] (f ∷ events') past one other turns = absurd (no_more f past one other.0 other.1)
  same_events (e ∷ events) [] past one other turns = absurd (no_more e past other one.0 one.1)
  same_events (e ∷ events) (f ∷ events') past one other turns =
      let same : e ≡ f = next_same past e f events events' one other turns in
      let more : events ≡ events' = same_events events events' (e ∷ past) one.2 (subst (λ x. ToCome B P (x ∷ past) events') (sym same) other.2)
      (same_rest e events events' (subst (λ x. turns_in (e ∷ events) ≡ turns_in (x ∷ events')) (sym same) turns)) in
      ap (λ x. e ∷ x) more ∙ ap (λ x. x ∷ events') same

-- ---- a whole play

whole_to_come : (B : Base) (script : Script) (journal : List Event) → IsWholePlay B script journal → HasNoWant journal → ToCome B script.sessions [] journal
whole_to_come B script journal whole no_want =
    let each = places B script.sessions (past_of journal) whole.legal.closes.each whole.legal.refusals.by_text whole.right whole.at_once whole.leaves
    whole.legal.locks whole.legal.serial whole.legal.snapshots whole.legal.refusals.by_state whole.legal.settling in
    (to_come B script.sessions journal [] (subst (AtEach (IsPlace B script.sessions)) (past_onto journal) each) no_want
    (subst (ClosesAtEnd script.sessions) (past_onto journal) whole.legal.closes.at_end)).0

-- two whole plays of a script in which no call was answered for want of memory have the same events
pub one_play : (B : Base) (script : Script) (one other : List Event) → IsWholePlay B script one → IsWholePlay B script other → HasNoWant one → HasNoWant other
    → one ≡ other
one_play B script one other whole whole' no_want no_want' =
    same_events B script.sessions one other [] (whole_to_come B script one whole no_want) (whole_to_come B script other whole' no_want') (whole.in_turn
    ∙ sym whole'.in_turn)
