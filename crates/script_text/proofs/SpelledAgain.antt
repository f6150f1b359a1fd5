-- A script is read as it was spelled: its sessions are counted first, and then it is read with their number.
use Rattle.std.proofs.Common.{◌≡◌, ℕ, ◌+◌, ◌<◌, ◌≤◌, ◌^◌, ◌⊎◌, inl, inr, Bool, true, false, ◌&&◌, ◌||◌, not, if◌then◌else◌, nat_eq, List, [], ◌∷◌, ◌++◌, length, Ok, refl, ap, ◌∙◌, arith, append_assoc, zero-add}
use Rattle.std.specs.Prelude.{codes}
use Rattle.xml_model.specs.Pyx.{Line}
use Rattle.script_text.specs.declared.limits.TheConstants.{SESSIONS_MAX, CALLS_MAX}
use Rattle.script_text.specs.declared.scripts.session_calls.Script.{Script}
use Rattle.script_text.specs.declared.scripts.kinds.LineKind.TheVariants.{Skipped, Continuation, Session, Order, Call}
use Rattle.script_text.specs.Scripts.{Reading, after, is_blank, is_blank_byte, begins_with, is_session, is_order, kind_of, one_if, opens_load, sessions_in, sessions_of, script_of, start, ◌>>=◌}
use Rattle.script_text.specs.Spelling.{Aside, skipped, ordered, line_of_aside, lines_of_asides, order_of, IsAside, AreAsides, MoreLine, CallLines, load, other, lines_of_more, lines_of_call, ArePyx, AreContinuations, IsCall, CallPart, SessionPart, lines_of_calls, AreCalls, lines_of_sessions, sessions_spelled, order_of_sessions, AreSessions, calls_in, lines_of_script, script_spelled, IsReadAgain}
use Rattle.script_text.proofs.Asides.{at, plus, asides_read}
use Rattle.script_text.proofs.Spelled.{sessions_read}

-- ---- lines that begin no session

call_tests : (a b c d e : Bool)
    → (if a then Skipped else (if b then Skipped else (if c then Continuation else (if d then Session else (if e then Order else Call))))) ≡ Call → d ≡ false
call_tests true b c d e h = cc
call_tests false true c d e h = cc
call_tests false false true d e h = cc
call_tests false false false true e h = cc
call_tests false false false false e h = refl

more_tests : (a b c d e : Bool)
    → (if a then Skipped else (if b then Skipped else (if c then Continuation else (if d then Session else (if e then Order else Call))))) ≡ Continuation
    → c ≡ true
more_tests true b c d e h = cc
more_tests false true c d e h = cc
more_tests false false true d e h = refl
more_tests false false false true e h = cc
more_tests false false false false true h = cc
more_tests false false false false false h = cc

skip_tests : (a b c d e : Bool)
    → (if a then Skipped else (if b then Skipped else (if c then Continuation else (if d then Session else (if e then Order else Call))))) ≡ Skipped
    → (a || b) ≡ true
skip_tests true b c d e h = refl
skip_tests false true c d e h = refl
skip_tests false false true d e h = cc
skip_tests false false false true e h = cc
skip_tests false false false false true h = cc
skip_tests false false false false false h = cc

no_session : (line : Line) → kind_of line ≡ Call → is_session line ≡ false
no_session line h = call_tests (is_blank line) (begins_with 35 line) (begins_with 32 line || begins_with 9 line) (is_session line) (is_order line) h

either : (x y : Bool) → (x || y) ≡ true → (x ≡ true) ⊎ (y ≡ true)
either true y h = inl refl
either false y h = inr h

both_true : (x y : Bool) → (x && y) ≡ true → x ≡ true
both_true true y h = refl
both_true false y h = cc

not_letter : (b : ℕ) → (nat_eq b 32 || nat_eq b 9) ≡ true → (nat_eq b 83 ≡ false) × (nat_eq 76 b ≡ false)
not_letter b h = elim (either (nat_eq b 32) (nat_eq b 9) h) [ inl e ↦ (grind (arith, e), grind (arith, e)) | inr e ↦ (grind (arith, e), grind (arith, e)) ]

blank_first : (line : Line) → (begins_with 32 line || begins_with 9 line) ≡ true → (is_session line ≡ false) × (opens_load line ≡ false)
blank_first [] h = cc
blank_first (b ∷ bs) h = let ne = not_letter b h in (rw ne.0 refl, rw ne.1 refl)

no_session_more : (line : Line) → kind_of line ≡ Continuation → (is_session line ≡ false) × (opens_load line ≡ false)
no_session_more line h =
    blank_first line (more_tests (is_blank line) (begins_with 35 line) (begins_with 32 line || begins_with 9 line) (is_session line) (is_order line) h)

not_letter_either : (b : ℕ) → nat_eq b 35 ≡ true → (nat_eq b 83 ≡ false) × (nat_eq 76 b ≡ false)
not_letter_either b e = (grind (arith, e), grind (arith, e))

blank_line : (line : Line) → is_blank line ≡ true → (is_session line ≡ false) × (opens_load line ≡ false)
blank_line [] h = (refl, refl)
blank_line (b ∷ bs) h = let ne = not_letter b (both_true (is_blank_byte b) (is_blank bs) h) in (rw ne.0 refl, rw ne.1 refl)

comment_line : (line : Line) → begins_with 35 line ≡ true → (is_session line ≡ false) × (opens_load line ≡ false)
comment_line [] h = cc
comment_line (b ∷ bs) h = let ne = not_letter_either b h in (rw ne.0 refl, rw ne.1 refl)

skipped_line : (line : Line) → kind_of line ≡ Skipped → (is_session line ≡ false) × (opens_load line ≡ false)
skipped_line line h =
    elim (either (is_blank line) (begins_with 35 line)
    (skip_tests (is_blank line) (begins_with 35 line) (begins_with 32 line || begins_with 9 line) (is_session line) (is_order line) h))
    [ inl e ↦ blank_line line e | inr e ↦ comment_line line e ]

-- ---- the number of sessions

none_here : (line : Line) (behind : List Line) (t : Bool) → is_session line ≡ false → opens_load line ≡ t
    → sessions_in false (line ∷ behind) ≡ sessions_in t behind
none_here line behind t other_word opens = ap (λ x. one_if x + sessions_in (opens_load line) behind) other_word
    ∙ (zero-add (sessions_in (opens_load line) behind) ∙ ap (λ x. sessions_in x behind) opens)

none_aside : (most : ℕ) (a : Aside) (behind : List Line) → IsAside most a → sessions_in false (line_of_aside a ∷ behind) ≡ sessions_in false behind
none_aside most (skipped line) behind ok = let words = skipped_line line ok.1 in none_here line behind false words.0 words.1
none_aside most (ordered []) behind ok = absurd (omega (arith, ok.0))
none_aside most (ordered (n ∷ ns)) behind ok = zero-add (sessions_in false behind)

-- lines that are no call begin no session
none_beside : (most : ℕ) (asides : List Aside) (behind : List Line) → AreAsides most asides
    → sessions_in false (lines_of_asides asides ++ behind) ≡ sessions_in false behind
none_beside most [] behind ok = refl
none_beside most (a ∷ asides) behind ok = none_aside most a (lines_of_asides asides ++ behind) ok.0 ∙ none_beside most asides behind ok.1

none_loaded : (pyx behind : List Line) → ArePyx pyx → sessions_in true ((pyx ++ codes "." ∷ []) ++ behind) ≡ sessions_in false behind
none_loaded [] behind ok = refl
none_loaded (line ∷ more) behind ok = ap (λ x. sessions_in (not x) ((more ++ codes "." ∷ []) ++ behind)) ok.1 ∙ none_loaded more behind ok.2

none_continued : (most : ℕ) (more : List MoreLine) (behind : List Line) → AreContinuations most more
    → sessions_in false (lines_of_more more ++ behind) ≡ sessions_in false behind
none_continued most [] behind ok = refl
none_continued most (x ∷ more) behind ok =
    let words = no_session_more x.line ok.2 in
    ap (sessions_in false) (append_assoc (lines_of_asides x.between) (x.line ∷ lines_of_more more) behind)
    ∙ (none_beside most x.between (x.line ∷ (lines_of_more more ++ behind)) ok.0
    ∙ (none_here x.line (lines_of_more more ++ behind) false words.0 words.1 ∙ none_continued most more behind ok.3))

none_in_call : (most : ℕ) (c : CallLines) (behind : List Line) → IsCall most c → sessions_in false (lines_of_call c ++ behind) ≡ sessions_in false behind
none_in_call most (load first pyx) behind ok = none_here first ((pyx ++ codes "." ∷ []) ++ behind) true (no_session first ok.1) ok.2
    ∙ none_loaded pyx behind ok.3
none_in_call most (other first more) behind ok = none_here first (lines_of_more more ++ behind) false (no_session first ok.1) ok.2
    ∙ none_continued most more behind ok.3

none_called : (most : ℕ) (cs : List CallPart) (behind : List Line) → AreCalls most cs
    → sessions_in false (lines_of_calls cs ++ behind) ≡ sessions_in false behind
none_called most [] behind ok = refl
none_called most (c ∷ cs) behind ok =
    let split = append_assoc (lines_of_call c.call) (lines_of_asides c.after ++ lines_of_calls cs) behind
    ∙ ap (λ l. lines_of_call c.call ++ l) (append_assoc (lines_of_asides c.after) (lines_of_calls cs) behind) in
    ap (sessions_in false) split
    ∙ (none_in_call most c.call (lines_of_asides c.after ++ (lines_of_calls cs ++ behind)) ok.0
    ∙ (none_beside most c.after (lines_of_calls cs ++ behind) ok.1 ∙ none_called most cs behind ok.2))

sessions_counted : (most : ℕ) (ss : List SessionPart) → AreSessions most ss → sessions_in false (lines_of_sessions ss) ≡ length ss
sessions_counted most [] ok = refl
sessions_counted most (p ∷ ss) ok =
    let rest : sessions_in false (lines_of_asides p.before ++ (lines_of_calls p.calls ++ lines_of_sessions ss)) ≡ length ss =
    none_beside most p.before (lines_of_calls p.calls ++ lines_of_sessions ss) ok.0
    ∙ (none_called most p.calls (lines_of_sessions ss) ok.1 ∙ sessions_counted most ss ok.2) in
    omega (arith, rest)

-- ---- the law

gives : (s : ℕ) (lines : List Line) (before : List Aside) (ss : List SessionPart) (q : Reading) → after s lines start ≡ Ok q
    → sessions_of q ≡ sessions_spelled ss
    → q.order ≡ order_of before ++ order_of_sessions ss → (after s lines start >>= (λ r. Ok (script_of r))) ≡ Ok (script_spelled before ss)
gives s lines before ss q read is in_order =
    ap (λ x. x >>= (λ r. Ok (script_of r))) read
    ∙ (ap (λ l. Ok (let made : Script = record { sessions = l; order = q.order } in made)) is
    ∙ ap (λ o. Ok (let made : Script = record { sessions = sessions_spelled ss; order = o } in made)) in_order)

read_with : (s : ℕ) (before : List Aside) (ss : List SessionPart) → s ≡ length ss → AreAsides (length ss) before → AreSessions (length ss) ss
    → length ss ≤ SESSIONS_MAX → calls_in ss ≤ CALLS_MAX
    → (after s (lines_of_script before ss) start >>= (λ r. Ok (script_of r))) ≡ Ok (script_spelled before ss)
read_with s before ss counted asides calls few_sessions few_calls =
    let n : ℕ = length ss in
    let small : n < 2 ^ 64 = omega (arith, few_sessions) in
    let first = asides_read n (lines_of_sessions ss) before start 0 small asides refl in
    let ready : Reading = at first.0 (plus (order_of before) start) in
    let few : ready.begun + length ss ≤ SESSIONS_MAX = omega (arith, few_sessions) in
    let within : ready.count + calls_in ss ≤ CALLS_MAX = omega (arith, few_calls) in
    let read = sessions_read n ss ready small calls refl few within in
    ap (λ k. after k (lines_of_script before ss) start >>= (λ r. Ok (script_of r))) counted
    ∙ gives n (lines_of_script before ss) before ss read.0 (first.1 ∙ read.1) read.2 read.3

-- a script that is spelled by the rules, whatever lines beside its calls, is read as it was spelled
pub spelled_is_read : IsReadAgain
spelled_is_read before ss ok =
    let counted = none_beside (length ss) before (lines_of_sessions ss) ok.asides ∙ sessions_counted (length ss) ss ok.calls in
    read_with (sessions_in false (lines_of_script before ss)) before ss counted ok.asides ok.calls ok.few_sessions ok.few_calls
