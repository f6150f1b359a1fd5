-- A script is read as it was spelled: its calls and its sessions.
use Rattle.std.proofs.Common.{◌≡◌, ℕ, suc, ◌+◌, ◌<◌, ◌≤◌, ◌==◌, ◌^◌, Bool, true, false, ◌&&◌, ◌||◌, not, if◌then◌else◌, nat_eq, nat_le, List, [], ◌∷◌, ◌++◌, length, Some, Ok, Err, IsUtf8, refl, ap, sym, ◌∙◌, arith, append_assoc, append-nil}
use Rattle.std.specs.Prelude.{codes, option_to_list}
use Rattle.xq_ast.specs.declared.call.CallText.{CallText}
use Rattle.xml_model.specs.Pyx.{Line, next_line}
use Rattle.script_text.specs.declared.limits.TheConstants.{SESSIONS_MAX, CALLS_MAX}
use Rattle.script_text.specs.declared.scripts.fault.ScriptRefusal.TheVariants.{NotUtf8, BadScript, TooManySessions, TooManyCalls, LoadOpen}
use Rattle.script_text.specs.declared.scripts.kinds.LineKind.TheVariants.{Continuation, Session, Call}
use Rattle.script_text.specs.Scripts.{Reading, after, read_line, loaded, continued, with_session, is_end, has_end, kind_of, opens_load, sessions_of, call_of}
use Rattle.script_text.specs.Spelling.{lines_of_asides, order_of, AreAsides, MoreLine, CallLines, load, other, lines_of_more, lines_of_call, joined_by_newlines, call_spelled, order_of_more, order_of_call, ArePyx, AreContinuations, IsCall, CallPart, SessionPart, lines_of_calls, calls_spelled, order_of_calls, AreCalls, lines_of_sessions, sessions_spelled, order_of_sessions, AreSessions, calls_in}
use Rattle.script_text.proofs.ScriptLines.{text_is_text}
use Rattle.script_text.proofs.Asides.{at, step_ok, dot_text, session_text, by_kind, plus, plus_plus, asides_read}

-- a call
abbrev opened : Bool → Line → Reading → Reading
opened t line r = record r { calls = r.calls ++ option_to_list r.last; last = Some (call_of line); count = r.count + 1; in_load = t }

call_line : (s : ℕ) (line : Line) (behind : List Line) (r : Reading) (t : Bool) → IsUtf8 line → kind_of line ≡ Call → r.in_load ≡ false → (r.begun == 0) ≡ false
    → nat_le CALLS_MAX r.count ≡ false
    → opens_load line ≡ t → (t && not (has_end behind)) ≡ false → read_line s line behind r ≡ Ok (opened t line r)
call_line s line behind r t utf8 is outside begun few opens ended =
    by_kind s Call line behind r (opened t line r) is (text_is_text line utf8) outside
    (ap (λ x. if x then Err BadScript else
    (if nat_le CALLS_MAX r.count then Err TooManyCalls else
    (if opens_load line && not (has_end behind) then Err LoadOpen else Ok (opened (opens_load line) line r)))) begun
    ∙ (ap (λ x. if x then Err TooManyCalls else (if opens_load line && not (has_end behind) then Err LoadOpen else Ok (opened (opens_load line) line r))) few
    ∙ (ap (λ x. if x && not (has_end behind) then Err LoadOpen else Ok (opened x line r)) opens
    ∙ ap (λ x. if x then Err LoadOpen else Ok (opened t line r)) ended)))

-- a reading inside of a LOAD, and one after a call
abbrev loading : Reading → CallText → Reading
loading b c = record b { last = Some c; in_load = true }

abbrev closed : Reading → CallText → Reading
closed b c = record b { last = Some c; in_load = false }

-- the lines of a LOAD
pyx_read : (s : ℕ) (behind : List Line) (b : Reading) (pyx : List Line) (c : CallText) → ArePyx pyx → (m : ℕ)
    → (n : ℕ) × (after s ((pyx ++ codes "." ∷ []) ++ behind) (at m (loading b c)) ≡ after s behind (at n (closed b (record c { pyx = c.pyx ++ pyx }))))
pyx_read s behind b [] c ok m = (
  next_line m,
  step_ok s (codes ".") behind (at m (loading b c)) (at (next_line m) (closed b c))
      (ap (λ t. if t then Ok (at (next_line m) (closed b c)) else Err NotUtf8) dot_text)
      ∙ ap (λ p. after s behind (at (next_line m) (closed b (record c { pyx = p })))) (sym (append-nil c.pyx)),
)
pyx_read s behind b (line ∷ more) c ok m =
    let next : CallText = record c { pyx = c.pyx ++ line ∷ [] } in
    let rest = pyx_read s behind b more next ok.2 (next_line m) in (
      rest.0,
      step_ok s line ((more ++ codes "." ∷ []) ++ behind) (at m (loading b c)) (at (next_line m) (loading b next))
          (ap (λ t. if t then Ok (loaded line (at (next_line m) (loading b c))) else Err NotUtf8) (text_is_text line ok.0)
          ∙ ap (λ t. Ok (if t then at (next_line m) (closed b c) else at (next_line m) (loading b next))) ok.1)
          ∙ (rest.1 ∙ ap (λ p. after s behind (at rest.0 (closed b (record c { pyx = p })))) (append_assoc c.pyx (line ∷ []) more)),
    )

shut : (x y z w : Bool) → ((x && (y && (z && false))) && w) ≡ false
shut false y z w = refl
shut true false z w = refl
shut true true false w = refl
shut true true true w = refl

stays_shut : (x w : Bool) → (x && true) ≡ false → (x && w) ≡ false
stays_shut false w e = refl
stays_shut true w e = cc

-- whether a call is a LOAD is decided by its first line
opens_load-more : (t l : List ℕ) → opens_load t ≡ false → opens_load (t ++ 10 ∷ l) ≡ false
opens_load-more [] l e = refl
opens_load-more (a ∷ []) l e = shut (nat_eq 76 a) true true _
opens_load-more (a ∷ b ∷ []) l e = shut (nat_eq 76 a) (nat_eq 79 b) true _
opens_load-more (a ∷ b ∷ c ∷ []) l e = shut (nat_eq 76 a) (nat_eq 79 b) (nat_eq 65 c) _
opens_load-more (a ∷ b ∷ c ∷ d ∷ []) l e = stays_shut _ _ e
opens_load-more (a ∷ b ∷ c ∷ d ∷ f ∷ more) l e = e

-- the lines that continue a call
more_read : (s : ℕ) (behind : List Line) (b : Reading) (more : List MoreLine) (c : CallText) → s < 2 ^ 64 → opens_load c.text ≡ false → AreContinuations s more
    → (m : ℕ)
    → (n : ℕ) × (after s (lines_of_more more ++ behind) (at m (closed b c))
    ≡ after s behind (at n (closed (plus (order_of_more more) b) (record c { text = joined_by_newlines c.text more }))))
more_read s behind b [] c small other_word ok m =
    (m, ap (λ o. after s behind (at m (closed (let made : Reading = record b { order = o } in made) c))) (sym (append-nil b.order)))
more_read s behind b (x ∷ more) c small other_word ok m =
    let next : CallText = continued x.line c in
    let now : Reading = plus (order_of x.between) b in
    let lines : List Line = lines_of_more more ++ behind in
    let between = asides_read s (x.line ∷ lines) x.between (closed b c) m small ok.0 refl in
    let rest = more_read s behind now more next small (opens_load-more c.text x.line other_word) ok.3 (next_line between.0) in (
      rest.0,
      ap (λ l. after s l (at m (closed b c))) (append_assoc (lines_of_asides x.between) (x.line ∷ lines_of_more more) behind)
          ∙ (between.1
          ∙ (step_ok s x.line lines (at between.0 (closed now c)) (at (next_line between.0) (closed now next))
          (by_kind s Continuation x.line lines (at (next_line between.0) (closed now c)) (at (next_line between.0) (closed now next)) ok.2
          (text_is_text x.line ok.1) refl
          (ap (λ t. if t then Err BadScript else Ok (at (next_line between.0) (closed now next))) other_word))
          ∙ (rest.1
          ∙ ap (λ r. after s behind (at rest.0 (closed r (record c { text = joined_by_newlines c.text (x ∷ more) }))))
          (plus_plus (order_of x.between) (order_of_more more) b)))),
    )

ended_inside : (pyx behind : List Line) → has_end ((pyx ++ codes "." ∷ []) ++ behind) ≡ true
ended_inside [] behind = refl
ended_inside (line ∷ more) behind = ap (λ t. is_end line || t) (ended_inside more behind) ∙ or_true (is_end line)
  where
    or_true : (a : Bool) → (a || true) ≡ true
    or_true true = refl
    or_true false = refl

-- one call more
abbrev one_more : Reading → Reading
one_more r = record r { calls = r.calls ++ option_to_list r.last; count = r.count + 1 }

call_read : (s : ℕ) (behind : List Line) (r : Reading) (c : CallLines) → s < 2 ^ 64 → IsCall s c → r.in_load ≡ false → (r.begun == 0) ≡ false
    → nat_le CALLS_MAX r.count ≡ false
    → (n : ℕ) × (after s (lines_of_call c ++ behind) r ≡ after s behind (at n (closed (plus (order_of_call c) (one_more r)) (call_spelled c))))
call_read s behind r (load first pyx) small ok outside begun few =
    let more : List Line = (pyx ++ codes "." ∷ []) ++ behind in
    let ended : (true && not (has_end more)) ≡ false = ap not (ended_inside pyx behind) in
    let line = call_line s first more (at (next_line r.lines) r) true ok.0 ok.1 outside begun few ok.2 ended in
    let rest = pyx_read s behind (one_more r) pyx (call_of first) ok.3 (next_line r.lines) in
    let same = ap (λ o. after s behind (at rest.0 (closed (let made : Reading = record (one_more r) { order = o } in made) (call_spelled (load first pyx)))))
    (sym (append-nil r.order)) in
    (rest.0, step_ok s first more r _ line ∙ (rest.1 ∙ same))
call_read s behind r (other first more) small ok outside begun few =
    let line = call_line s first (lines_of_more more ++ behind) (at (next_line r.lines) r) false ok.0 ok.1 outside begun few ok.2 refl in
    let rest = more_read s behind (one_more r) more (call_of first) small ok.2 ok.3 (next_line r.lines) in
    (rest.0, step_ok s first (lines_of_more more ++ behind) r _ line ∙ rest.1)

-- a call and the lines after it
part_read : (s : ℕ) (behind : List Line) (r : Reading) (c : CallPart) → s < 2 ^ 64 → IsCall s c.call → AreAsides s c.after → r.in_load ≡ false
    → (r.begun == 0) ≡ false → nat_le CALLS_MAX r.count ≡ false
    → (n : ℕ) × (after s (lines_of_call c.call ++ (lines_of_asides c.after ++ behind)) r
    ≡ after s behind (at n (closed (plus (order_of_call c.call ++ order_of c.after) (one_more r)) (call_spelled c.call))))
part_read s behind r c small call asides outside begun few =
    let first = call_read s (lines_of_asides c.after ++ behind) r c.call small call outside begun few in
    let rest = asides_read s behind c.after (closed (plus (order_of_call c.call) (one_more r)) (call_spelled c.call)) first.0 small asides refl in (
      rest.0,
      first.1 ∙ (rest.1
          ∙ ap (λ q. after s behind (at rest.0 (closed q (call_spelled c.call)))) (plus_plus (order_of_call c.call) (order_of c.after) (one_more r))),
    )

-- what is read after some calls of one session
record IsBehind (cs : List CallPart) (r q : Reading) : Type 0 where
  calls : q.calls ++ option_to_list q.last ≡ (r.calls ++ option_to_list r.last) ++ calls_spelled cs
  ended : q.ended ≡ r.ended
  begun : q.begun ≡ r.begun
  order : q.order ≡ r.order ++ order_of_calls cs
  count : q.count ≡ r.count + length cs
  outside : q.in_load ≡ false

le_false : (a b : ℕ) → b < a → nat_le a b ≡ false
le_false a b h = grind (arith, h)

count_more : (a b : ℕ) → (a + 1) + b ≡ a + suc b
count_more a b = omega arith

calls_read : (s : ℕ) (behind : List Line) (cs : List CallPart) (r : Reading) → s < 2 ^ 64 → AreCalls s cs → r.in_load ≡ false → (r.begun == 0) ≡ false
    → r.count + length cs ≤ CALLS_MAX
    → (q : Reading) × (after s (lines_of_calls cs ++ behind) r ≡ after s behind q) × IsBehind cs r q
calls_read s behind [] r small ok outside begun few =
    let is : IsBehind [] r r = record {
      calls = sym (append-nil (r.calls ++ option_to_list r.last));
      ended = refl;
      begun = refl;
      order = sym (append-nil r.order);
      count = omega arith;
      outside = outside;
    } in
    (r, refl, is)
calls_read s behind (c ∷ cs) r small ok outside begun few =
    let less : r.count < CALLS_MAX = omega arith in
    let lines : List Line = lines_of_calls cs ++ behind in
    let one = part_read s lines r c small ok.0 ok.1 outside begun (le_false CALLS_MAX r.count less) in
    let middle : Reading = at one.0 (closed (plus (order_of_call c.call ++ order_of c.after) (one_more r)) (call_spelled c.call)) in
    let within : middle.count + length cs ≤ CALLS_MAX = omega arith in
    let rest = calls_read s behind cs middle small ok.2 refl begun within in
    let is = rest.2 in
    let split = append_assoc (lines_of_call c.call) (lines_of_asides c.after ++ lines_of_calls cs) behind
    ∙ ap (λ l. lines_of_call c.call ++ l) (append_assoc (lines_of_asides c.after) (lines_of_calls cs) behind) in
    let numbers = ap (λ o. o ++ order_of_calls cs) (sym (append_assoc r.order (order_of_call c.call) (order_of c.after))) in (
      rest.0,
      ap (λ l. after s l r) split ∙ (one.1 ∙ rest.1),
      record {
        calls = is.calls ∙ append_assoc (r.calls ++ option_to_list r.last) (call_spelled c.call ∷ []) (calls_spelled cs);
        ended = is.ended;
        begun = is.begun;
        order = is.order ∙ (append_assoc r.order (order_of_call c.call ++ order_of c.after) (order_of_calls cs)
            ∙ ap (λ o. r.order ++ o) (append_assoc (order_of_call c.call) (order_of c.after) (order_of_calls cs)));
        count = is.count ∙ count_more r.count (length cs);
        outside = is.outside;
      },
    )

not_zero : (n : ℕ) → (n + 1 == 0) ≡ false
not_zero n = grind arith

sessions_so_far : (q : Reading) → (q.begun == 0) ≡ false → sessions_of q ≡ q.ended ++ (q.calls ++ option_to_list q.last) ∷ []
sessions_so_far q begun = ap (λ t. if t then q.ended else q.ended ++ (q.calls ++ option_to_list q.last) ∷ []) begun

-- sessions that are spelled by the rules are read, with their calls and their part of the order, as far as the limits go
pub sessions_read : (s : ℕ) (ss : List SessionPart) (r : Reading) → s < 2 ^ 64 → AreSessions s ss → r.in_load ≡ false → r.begun + length ss ≤ SESSIONS_MAX
    → r.count + calls_in ss ≤ CALLS_MAX
    → (q : Reading) × (after s (lines_of_sessions ss) r ≡ Ok q) × (sessions_of q ≡ sessions_of r ++ sessions_spelled ss)
    × (q.order ≡ r.order ++ order_of_sessions ss)
sessions_read s [] r small ok outside few within = (r, refl, sym (append-nil (sessions_of r)), sym (append-nil r.order))
sessions_read s (p ∷ ss) r small ok outside few within =
    let lines : List Line = lines_of_calls p.calls ++ lines_of_sessions ss in
    let behind : List Line = lines_of_asides p.before ++ lines in
    let first : Reading = at (next_line r.lines) r in
    let begins : Reading = with_session first in
    let less : r.begun < SESSIONS_MAX = omega arith in
    let line : read_line s (codes "SESSION") behind first ≡ Ok begins =
    by_kind s Session (codes "SESSION") behind first begins refl session_text outside
    (ap (λ t. if t then Err TooManySessions else Ok begins) (le_false SESSIONS_MAX r.begun less)) in
    let between = asides_read s lines p.before begins (next_line r.lines) small ok.0 outside in
    let ready : Reading = at between.0 (plus (order_of p.before) begins) in
    let some : r.count + length p.calls ≤ CALLS_MAX = omega arith in
    let calls = calls_read s (lines_of_sessions ss) p.calls ready small ok.1 outside (not_zero r.begun) some in
    let is = calls.2 in
    let few_left : calls.0.begun + length ss ≤ SESSIONS_MAX = omega (arith, is.begun) in
    let within_left : calls.0.count + calls_in ss ≤ CALLS_MAX = omega (arith, is.count) in
    let rest = sessions_read s ss calls.0 small ok.2 is.outside few_left within_left in
    let begun : (calls.0.begun == 0) ≡ false = ap (λ n. n == 0) is.begun ∙ not_zero r.begun in
    let now : sessions_of calls.0 ≡ sessions_of r ++ calls_spelled p.calls ∷ [] =
    sessions_so_far calls.0 begun
    ∙ (ap (λ e. e ++ (calls.0.calls ++ option_to_list calls.0.last) ∷ []) is.ended ∙ ap (λ c. sessions_of r ++ c ∷ []) is.calls) in
    let numbers : calls.0.order ≡ r.order ++ (order_of p.before ++ order_of_calls p.calls) = is.order
    ∙ append_assoc r.order (order_of p.before) (order_of_calls p.calls) in (
      rest.0,
      step_ok s (codes "SESSION") behind r begins line ∙ (between.1 ∙ (calls.1 ∙ rest.1)),
      rest.2 ∙ (ap (λ l. l ++ sessions_spelled ss) now ∙ append_assoc (sessions_of r) (calls_spelled p.calls ∷ []) (sessions_spelled ss)),
      rest.3 ∙ (ap (λ o. o ++ order_of_sessions ss) numbers ∙ (append_assoc r.order (order_of p.before ++ order_of_calls p.calls) (order_of_sessions ss)
          ∙ ap (λ o. r.order ++ o) (append_assoc (order_of p.before) (order_of_calls p.calls) (order_of_sessions ss)))),
    )
