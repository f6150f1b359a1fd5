-- Each event but a session's end is for the session's next call, and is told by what that call's text is.
use Rattle.std.proofs.Common.{◌≡◌, ◌⊎◌, inl, inr, ℕ, ◌<◌, true, false, IfSome, List, ◌∷◌, ◌++◌, length, Option, None, Some, Result, Ok, Err, refl, sym, ap, subst, ◌∙◌, arith, length-append}
use Rattle.xq_ast.specs.declared.call.Call.{Call}
use Rattle.xq_ast.specs.declared.call.Call.TheVariants.{Begin, BeginRead, Commit, Rollback}
use Rattle.xq_ast.specs.declared.call.CallText.{CallText}
use Rattle.xq_ast.specs.declared.code.Code.{Code}
use Rattle.xq_ast.specs.declared.code.Code.TheVariants as codes
use Rattle.xq_ast.specs.declared.need.Need.{Need}
use Rattle.xq_ast.specs.Parsed.{Parsed}
use Rattle.xq_parse.proofs.Readings.{one_answer}
use Rattle.xml_model.specs.Needs.{needs}
use Rattle.session_core.specs.declared.history.event.BeginKind.TheVariants as kinds
use Rattle.session_core.specs.declared.history.event.State.TheVariants.{Idle, Updating}
use Rattle.session_core.specs.declared.history.event.Reply.{Reply}
use Rattle.session_core.specs.declared.history.event.Says.{Says}
use Rattle.session_core.specs.declared.history.event.Says.TheVariants as says
use Rattle.session_core.specs.declared.history.event.Event.{Event}
use Rattle.session_core.specs.declared.history.event.Event.TheVariants.{Began, Granted, Refused, Answered, Committed, Ended, RolledBack, Doubt, Settled, Left}
use Rattle.session_core.specs.History.{session_of, is_closing, last_of}
use Rattle.session_core.specs.History.Transactions.{Base}
use Rattle.session_core.specs.History.States.{state}
use Rattle.session_core.specs.History.Closes.{Scripts, next_call, KeepsReading, ClosesCall, Closes, ClosesBy, IsSomeText, NeedsThese, IsFailure, IsTextAnswer, IsAnswerTo}
use Rattle.session_core.specs.History.Locks.{AllFree, IsRefused, IsBehindGrant, IsAnsweredWithLocks}
use Rattle.session_core.specs.History.Answering.{is_of_device}
use Rattle.session_run.specs.Calls.{IsAnswerInMemory}
use Rattle.xdb_top.specs.Wants.{IsNoWant}
use Rattle.xdb_top.proofs.Places.{IsPlace}
use Rattle.xdb_top.proofs.Verdicts.{never, IsTold, told_where, ended, rolled_back, needing, right_told, told_once}

-- what a text brings: as its call is told, or its refusal
abbrev pub IsToldBy : Base → ℕ → List Event → Result Call Code → Event → Type 0
IsToldBy B s past (Ok call) e = IsTold B s past call (state s past) e
IsToldBy B s past (Err code) e = e ≡ Answered s (record { call = None; says = says.Error code })

told_by_once : (B : Base) (s : ℕ) (past : List Event) (what : Result Call Code) (e f : Event) → IsToldBy B s past what e → IsToldBy B s past what f → e ≡ f
told_by_once B s past (Ok call) e f a b = told_once s past B call (state s past) e f a b
told_by_once B s past (Err code) e f a b = a ∙ sym b

-- an event for the next call of its session
pub record IsOfText (B : Base) (P : Scripts) (e : Event) (past : List Event) : Type 0 where
  pub text : CallText
  pub next_is : next_call P (session_of e) past ≡ Some text
  pub what : Result Call Code
  pub parsed : Parsed text what
  pub told : IsToldBy B (session_of e) past what e

same_text : (a b : CallText) (o : Option CallText) → o ≡ Some a → o ≡ Some b → a ≡ b
same_text a b o is is' = cc

-- two events for the same call at the same place are one
pub of_text_once : (B : Base) (P : Scripts) (past : List Event) (e f : Event) → session_of e ≡ session_of f → IsOfText B P e past → IsOfText B P f past → e ≡ f
of_text_once B P past e f same a b =
    let text : a.text ≡ b.text = same_text a.text b.text (next_call P (session_of e) past) a.next_is (ap (λ s. next_call P s past) same ∙ b.next_is) in
    let what : b.what ≡ a.what = one_answer a.text b.what a.what (subst (λ t. Parsed t b.what) (sym text) b.parsed) a.parsed in
    told_by_once B (session_of e) past a.what e f a.told
    (subst (λ w. IsToldBy B (session_of e) past w f) what (subst (λ s. IsToldBy B s past b.what f) (sym same) b.told))

-- ---- each event is for a call, or its session's end

module _ (B : Base) (P : Scripts) (past : List Event) where
  some_asked : (before : List Need) (n : Need) (behind asked : List Need) → asked ≡ before ++ n ∷ behind → 0 < length asked
  some_asked before n behind asked is = let all = length-append before (n ∷ behind) in let same = ap length is in omega arith

  answer_told : (call : Call) (s : ℕ) (reply : Reply) → KeepsReading (Ok call) reply → IsPlace B P (Answered s reply) past → IsNoWant (Answered s reply)
      → IsTold B s past call (state s past) (Answered s reply)
  answer_told call s reply (inl is) place no_want =
      let right : IsAnswerInMemory B s past (Some call) reply.says = subst (λ c. IsAnswerInMemory B s past c reply.says) is place.right in
      let locks : IsAnsweredWithLocks (state s past) s (record { call = Some call; says = reply.says }) past =
      subst (λ c. IsAnsweredWithLocks (state s past) s (record { call = c; says = reply.says }) past) is place.locks.0 in
      subst (λ c. IsTold B s past call (state s past) (Answered s (record { call = c; says = reply.says }))) (sym is)
      (right_told B s past call reply.says right no_want locks)
  answer_told call s reply (inr lost) place no_want = absurd (no_want lost.1)

  call_told : (call : Call) (e : Event) → is_closing e ≡ true → ClosesCall call e → IsPlace B P e past → IsNoWant e
      → IsTold B (session_of e) past call (state (session_of e) past) e
  call_told call (Began s kinds.Updating) closing is place no_want =
      told_where B s past call Begin (state s past) Idle (Began s kinds.Updating) is place.refusals refl
  call_told call (Began s (kinds.Reading n)) closing is place no_want =
      told_where B s past call BeginRead (state s past) Idle (Began s (kinds.Reading n)) is place.refusals (ap (λ m. Began s (kinds.Reading m)) place.snapshots)
  call_told call (Granted s asked) closing is place no_want = never closing
  call_told call (Refused s name holder asked) closing is place no_want =
      let refused : IsRefused s name holder (needs call) past = subst (λ n. IsRefused s name holder n past) is place.locks.0 in
      told_where B s past call call (state s past) Updating (Refused s name holder asked) refl place.refusals
      (needing B s past call (Refused s name holder asked) (some_asked refused.before refused.blocked refused.behind (needs call) refused.asked_are)
      (inr (inl (record { name = name; holder = holder; is = ap (Refused s name holder) is; refused = refused }))))
  call_told call (Answered s reply) closing is place no_want = answer_told call s reply is place no_want
  call_told call (Committed s n) closing is place no_want =
      told_where B s past call Commit (state s past) Updating (Committed s n) is place.refusals (inl (ap (Committed s) place.serial.0, place.settling.0.1))
  call_told call (Ended s) closing is place no_want =
      told_where B s past call Commit (state s past) (state s past) (Ended s) is refl (ended B s past (state s past) place.refusals)
  call_told call (RolledBack s) closing is place no_want =
      told_where B s past call Rollback (state s past) (state s past) (RolledBack s) is refl (rolled_back B s past (state s past) place.refusals)
  call_told call (Doubt s n mark) closing is place no_want = absurd place.right
  call_told call (Settled by s stands) closing is place no_want = never closing
  call_told call (Left s) closing is place no_want = never closing

  grant_told : (call : Call) (s : ℕ) (asked : List Need) → needs call ≡ asked → IsPlace B P (Granted s asked) past
      → IsTold B s past call (state s past) (Granted s asked)
  grant_told call s asked same place =
      let some : 0 < length (needs call) = subst (λ n. 0 < length n) (sym same) place.locks.0.some in
      told_where B s past call call (state s past) Updating (Granted s asked) refl place.locks.0.updating
      (needing B s past call (Granted s asked) some (inl (record {
        is = ap (Granted s) (sym same);
        some = some;
        free = subst (λ n. AllFree s n past) (sym same) place.locks.0.free;
        first = subst (λ n. IsBehindGrant (last_of s past) (Granted s n)) (sym same) place.locks.1;
      })))

  -- a text that is no call has one refusal
  device_failed : (answer : Says) → IsFailure answer → is_of_device answer ≡ true
  device_failed (says.Error (codes.Failed mark)) failed = refl
  device_failed answer failed = absurd failed

  refusal_says : (s : ℕ) (code : Code) (answer : Says) → IsTextAnswer (Err code) (state s past) answer → is_of_device answer ≡ false
      → (answer ≡ says.Error codes.NoMemory → ⊥) → answer ≡ says.Error code
  refusal_says s code answer (inl is) here no_want = is
  refusal_says s code answer (inr (inl lacks)) here no_want = absurd (no_want lacks)
  refusal_says s code answer (inr (inr doubt)) here no_want = never (sym here ∙ device_failed answer doubt.1)

  refusal_told : (text : CallText) (code : Code) (s : ℕ) (reply : Reply) → next_call P s past ≡ Some text → Parsed text (Err code) → reply.call ≡ None
      → IsPlace B P (Answered s reply) past → IsNoWant (Answered s reply)
      → Answered s reply ≡ Answered s (record { call = None; says = says.Error code })
  refusal_told text code s reply next parsed none place no_want =
      let answer : IsAnswerTo text (state s past) reply.says = subst (λ o. IfSome o (λ t. IsAnswerTo t (state s past) reply.says)) next place.texts in
      let same : answer.what ≡ Err code = one_answer text answer.what (Err code) answer.parsed parsed in
      let right : IsAnswerInMemory B s past None reply.says = subst (λ c. IsAnswerInMemory B s past c reply.says) none place.right in
      let is : reply.says ≡ says.Error code =
      refusal_says s code reply.says (subst (λ w. IsTextAnswer w (state s past) reply.says) same answer.answers) right.1 no_want in
      ap (λ c. Answered s (record { call = c; says = reply.says })) none ∙ ap (λ a. Answered s (record { call = None; says = a })) is

  text_told : (text : CallText) (what : Result Call Code) (e : Event) → is_closing e ≡ true → next_call P (session_of e) past ≡ Some text → Parsed text what
      → Closes what e → IsPlace B P e past → IsNoWant e
      → IsToldBy B (session_of e) past what e
  text_told text (Ok call) e closing next parsed is place no_want = call_told call e closing is place no_want
  text_told text (Err code) (Answered s reply) closing next parsed is place no_want = refusal_told text code s reply next parsed is place no_want
  text_told text (Err code) (Began s kind) closing next parsed is place no_want = absurd is
  text_told text (Err code) (Granted s asked) closing next parsed is place no_want = absurd is
  text_told text (Err code) (Refused s name holder asked) closing next parsed is place no_want = absurd is
  text_told text (Err code) (Committed s n) closing next parsed is place no_want = absurd is
  text_told text (Err code) (Ended s) closing next parsed is place no_want = absurd is
  text_told text (Err code) (RolledBack s) closing next parsed is place no_want = absurd is
  text_told text (Err code) (Doubt s n mark) closing next parsed is place no_want = absurd is
  text_told text (Err code) (Settled by s stands) closing next parsed is place no_want = absurd is
  text_told text (Err code) (Left s) closing next parsed is place no_want = absurd is

  closing_text : (o : Option CallText) (e : Event) → next_call P (session_of e) past ≡ o → is_closing e ≡ true → IsSomeText o (λ text. ClosesBy text e)
      → IsPlace B P e past → IsNoWant e → IsOfText B P e past
  closing_text None e next closing is place no_want = absurd is
  closing_text (Some text) e next closing is place no_want =
      record { text = text; next_is = next; what = is.what; parsed = is.parsed; told = text_told text is.what e closing next is.parsed is.closes place no_want }

  granted_text : (o : Option CallText) (s : ℕ) (asked : List Need) → next_call P s past ≡ o → IsSomeText o (NeedsThese asked)
      → IsPlace B P (Granted s asked) past → IsOfText B P (Granted s asked) past
  granted_text None s asked next is place = absurd is
  granted_text (Some text) s asked next is place =
      record { text = text; next_is = next; what = Ok is.call; parsed = is.parsed; told = grant_told is.call s asked is.needs_are place }

  closing_of : (e : Event) → is_closing e ≡ true → IsSomeText (next_call P (session_of e) past) (λ text. ClosesBy text e) → IsPlace B P e past → IsNoWant e
      → IsOfText B P e past
  closing_of e closing is place no_want = closing_text (next_call P (session_of e) past) e refl closing is place no_want

  -- an event is its session's end, or it is for a call
  pub of_text : (e : Event) → IsPlace B P e past → IsNoWant e → (e ≡ Left (session_of e)) ⊎ IsOfText B P e past
  of_text (Began s kind) place no_want = inr (closing_of (Began s kind) refl place.closes.0 place no_want)
  of_text (Granted s asked) place no_want = inr (granted_text (next_call P s past) s asked refl place.closes.0 place)
  of_text (Refused s name holder asked) place no_want = inr (closing_of (Refused s name holder asked) refl place.closes.0 place no_want)
  of_text (Answered s reply) place no_want = inr (closing_of (Answered s reply) refl place.closes.0 place no_want)
  of_text (Committed s n) place no_want = inr (closing_of (Committed s n) refl place.closes.0 place no_want)
  of_text (Ended s) place no_want = inr (closing_of (Ended s) refl place.closes.0 place no_want)
  of_text (RolledBack s) place no_want = inr (closing_of (RolledBack s) refl place.closes.0 place no_want)
  of_text (Doubt s n mark) place no_want = absurd place.right
  of_text (Settled by s stands) place no_want = absurd place.right
  of_text (Left s) place no_want = inl refl
