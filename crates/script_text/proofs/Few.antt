-- A script that is read has no more sessions than there may be.
use Rattle.std.proofs.Common.{◌≡◌, ℕ, zero, suc, ◌+◌, ◌<◌, ◌≤◌, ◌==◌, eqb, ◌⊎◌, inl, inr, ◌≢◌, Bool, true, false, nat_le, if◌then◌else◌, List, [], ◌∷◌, ◌++◌, length, Option, None, Some, Result, Ok, Err, option_to_list, refl, sym, ap, subst, ◌∙◌, arith, lit≤, length-append}
use Rattle.std.proofs.lemmas.Bool.Decides.{eqb_tells}
use Rattle.std.proofs.lemmas.Bool.{leb-false}
use Rattle.xq_ast.specs.declared.call.CallText.{CallText}
use Rattle.xml_model.specs.Pyx.{Line, split_lines, behind_space, next_line}
use Rattle.script_text.specs.declared.limits.TheConstants.{SESSIONS_MAX, CALLS_MAX}
use Rattle.script_text.specs.declared.scripts.fault.RefusedScript.{RefusedScript}
use Rattle.script_text.specs.declared.scripts.fault.ScriptRefusal.{ScriptRefusal}
use Rattle.script_text.specs.declared.scripts.fault.ScriptRefusal.TheVariants.{NotUtf8, BadScript, TooManySessions, TooManyCalls, LoadOpen}
use Rattle.script_text.specs.declared.scripts.session_calls.Script.{Script}
use Rattle.script_text.specs.Scripts.{Reading}
use Rattle.script_text.specs.declared.scripts.kinds.LineKind.{LineKind}
use Rattle.script_text.specs.declared.scripts.kinds.LineKind.TheVariants.{Skipped, Continuation, Session, Order, Call}
use Rattle.script_text.specs.Scripts.{sessions_of, with_session, with_pyx, with_continuation, with_numbers, with_call, loaded, read_kind, read_line, at_line, step, after, script_of, script, start, sessions_in, opens_load, stays_open, is_end, is_text, kind_of, numbers, split_words, ◌>>=◌}

-- so many sessions at most have begun, and as many at most are there
pub record AreFew (r : Reading) : Type 0 where
  pub there : length (sessions_of r) ≤ r.begun
  pub begun : r.begun ≤ SESSIONS_MAX

-- what is read is few, where it is read
abbrev Few : {E : Type 0} → Result Reading E → Type 0
Few (Ok r) = AreFew r
Few (Err e) = Unit {0}

-- a reading with the same sessions but for the last one's calls
same_sessions : (r : Reading) (calls : List CallText) (last : Option CallText) → AreFew r
    → length (if r.begun == 0 then r.ended else r.ended ++ (calls ++ option_to_list last) ∷ []) ≤ r.begun
same_sessions r calls last few = by_test (r.begun == 0) few.there
  where
    by_test : (b : Bool) → length (if b then r.ended else r.ended ++ (r.calls ++ option_to_list r.last) ∷ []) ≤ r.begun
        → length (if b then r.ended else r.ended ++ (calls ++ option_to_list last) ∷ []) ≤ r.begun
    by_test true there = there
    by_test false there = omega
        (arith, there, length-append r.ended ((r.calls ++ option_to_list r.last) ∷ []), length-append r.ended ((calls ++ option_to_list last) ∷ []))

few_continued : (line : Line) (call : Option CallText) (r : Reading) → AreFew r → Few (with_continuation line call r)
few_continued line None r few = tt
few_continued line (Some call) r few = by_test (opens_load call.text)
  where
    by_test : (b : Bool) → Few (if b then Err BadScript else Ok (record r { last = Some (record call { text = call.text ++ 10 ∷ line }) }))
    by_test true = tt
    by_test false = record { there = same_sessions r r.calls (Some (record call { text = call.text ++ 10 ∷ line })) few; begun = few.begun }

few_numbers : (ns : Option (List ℕ)) (r : Reading) → AreFew r → Few (with_numbers ns r)
few_numbers None r few = tt
few_numbers (Some ns) r few = record { there = few.there; begun = few.begun }

few_session : (r : Reading) → AreFew r → r.begun < SESSIONS_MAX → AreFew (with_session r)
few_session r few below = record { there = by_test (r.begun + 1 == 0) (length-append (sessions_of r) ([] ∷ [])); begun = omega (arith, below) }
  where
    by_test : (b : Bool) → length (sessions_of r ++ [] ∷ []) ≡ length (sessions_of r) + 1
        → length (if b then sessions_of r else sessions_of r ++ ([] ++ []) ∷ []) ≤ r.begun + 1
    by_test true long = omega (arith, few.there)
    by_test false long = omega (arith, few.there, long)

few_kind : (sessions : ℕ) (kind : LineKind) (line : Line) (behind : List Line) (r : Reading) → AreFew r → Few (read_kind sessions kind line behind r)
few_kind sessions Skipped line behind r few = few
few_kind sessions Continuation line behind r few = few_continued line r.last r few
few_kind sessions Session line behind r few = by_test (nat_le SESSIONS_MAX r.begun) refl
  where
    by_test : (b : Bool) → nat_le SESSIONS_MAX r.begun ≡ b → Few (if b then Err TooManySessions else Ok (with_session r))
    by_test true is = tt
    by_test false is = few_session r few (leb-false SESSIONS_MAX r.begun is)
few_kind sessions Order line behind r few = few_numbers (numbers sessions (split_words (behind_space line))) r few
few_kind sessions Call line behind r few = by_first (r.begun == 0)
  where
    by_third : (b : Bool) → Few (if b then Err LoadOpen else Ok (with_call line r))
    by_third true = tt
    by_third false = record { there = same_sessions r (r.calls ++ option_to_list r.last) (Some (record { text = line; pyx = [] })) few; begun = few.begun }

    by_second : (b : Bool) → Few (if b then Err TooManyCalls else (if stays_open line behind then Err LoadOpen else Ok (with_call line r)))
    by_second true = tt
    by_second false = by_third (stays_open line behind)

    by_first : (b : Bool) → Few
        (if b then Err BadScript else
        (if nat_le CALLS_MAX r.count then Err TooManyCalls else (if stays_open line behind then Err LoadOpen else Ok (with_call line r))))
    by_first true = tt
    by_first false = by_second (nat_le CALLS_MAX r.count)

few_loaded : (line : Line) (r : Reading) → AreFew r → AreFew (loaded line r)
few_loaded line r few = by_test (is_end line)
  where
    by_test : (b : Bool) → AreFew (if b then record r { in_load = false } else record r { last = with_pyx line r.last })
    by_test true = record { there = few.there; begun = few.begun }
    by_test false = record { there = same_sessions r r.calls (with_pyx line r.last) few; begun = few.begun }

few_line : (sessions : ℕ) (line : Line) (behind : List Line) (r : Reading) → AreFew r → Few (read_line sessions line behind r)
few_line sessions line behind r few = by_text (is_text line)
  where
    by_load : (b : Bool) → Few (if b then Ok (loaded line r) else read_kind sessions (kind_of line) line behind r)
    by_load true = few_loaded line r few
    by_load false = few_kind sessions (kind_of line) line behind r few

    by_text : (b : Bool) → Few (if b then (if r.in_load then Ok (loaded line r) else read_kind sessions (kind_of line) line behind r) else Err NotUtf8)
    by_text true = by_load r.in_load
    by_text false = tt

few_at_line : (n : ℕ) (read : Result Reading ScriptRefusal) → Few read → Few (at_line n read)
few_at_line n (Ok r) few = few
few_at_line n (Err why) few = tt

few_step : (sessions : ℕ) (line : Line) (behind : List Line) (r : Reading) → AreFew r → Few (step sessions line behind r)
few_step sessions line behind r few =
    few_at_line (next_line r.lines) (read_line sessions line behind (record r { lines = next_line r.lines }))
    (few_line sessions line behind (record r { lines = next_line r.lines }) (record { there = few.there; begun = few.begun }))

few_after : (sessions : ℕ) (lines : List Line) (r : Reading) → AreFew r → Few (after sessions lines r)
few_after sessions [] r few = few
few_after sessions (line ∷ behind) r few = go_on (step sessions line behind r) (few_step sessions line behind r few) (λ next. few_after sessions behind next)
  where
    go_on : (read : Result Reading RefusedScript) → Few read → ((next : Reading) → AreFew next → Few (after sessions behind next))
        → Few (read >>= after sessions behind)
    go_on (Ok next) few more = more next few
    go_on (Err e) few more = tt

abbrev sessions_length : Result Script RefusedScript → ℕ
sessions_length (Ok t) = length t.sessions
sessions_length (Err e) = 0

-- a script has no more sessions than there may be
pub few_sessions : (lines : List Line) (s : Script) → script lines ≡ Ok s → length s.sessions ≤ SESSIONS_MAX
few_sessions lines s is =
    of_read (after (sessions_in false lines) lines start) (few_after (sessions_in false lines) lines start (record { there = lit≤ tt; begun = lit≤ tt })) is
  where
    of_read : (read : Result Reading RefusedScript) → Few read → (read >>= (λ r. Ok (script_of r))) ≡ Ok s → length s.sessions ≤ SESSIONS_MAX
    of_read (Ok r) few is =
        let same : length (sessions_of r) ≡ length s.sessions = ap sessions_length is in
        omega (arith, few.there, few.begun, same)
    of_read (Err e) few is = absurd (let no : ⊥ = cc in no)
