-- Which script the lines of a text spell. A line is the list of its bytes, without its newline.
use Rattle.std.specs.Prelude.{ℕ, zero, suc, ◌+◌, ◌==◌, nat_eq, nat_le, Bool, true, false, not, ◌&&◌, ◌||◌, if◌then◌else◌, List, [], ◌∷◌, ◌++◌, length, drop, codes, Option, None, Some, option_to_list, Result, Ok, Err}
use Rattle.std.specs.Fmt.{decimal}
use Rattle.std.specs.List.{starts_with}
use Rattle.std.specs.Str.{bytes_eq}
use Rattle.std.specs.Str.Lossy.{utf8_valid_len}
use Rattle.xq_ast.specs.declared.call.CallText.{CallText}
use Rattle.xml_model.specs.Pyx.{Line, before_space, behind_space, in_front, next_line}
use Rattle.script_text.specs.declared.limits.TheConstants.{SESSIONS_MAX, CALLS_MAX}
use Rattle.script_text.specs.declared.scripts.fault.ScriptRefusal.{ScriptRefusal}
use Rattle.script_text.specs.declared.scripts.fault.ScriptRefusal.TheVariants.{NotUtf8, BadScript, TooManySessions, TooManyCalls, LoadOpen}
use Rattle.script_text.specs.declared.scripts.fault.RefusedScript.{RefusedScript}
use Rattle.script_text.specs.declared.scripts.session_calls.Script.{Script}
use Rattle.script_text.specs.declared.scripts.kinds.LineKind.{LineKind}
use Rattle.script_text.specs.declared.scripts.kinds.LineKind.TheVariants.{Skipped, Continuation, Session, Order, Call}

-- ---- lines

-- the line is UTF-8: its first bad byte would stand at its end
abbrev pub is_text : Line → Bool
is_text line = utf8_valid_len line == length line

-- the line ends the lines of a LOAD
abbrev pub is_end : Line → Bool
is_end line = bytes_eq line (codes ".")

-- one of the lines ends the lines of a LOAD
abbrev pub has_end : List Line → Bool
has_end [] = false
has_end (line ∷ behind) = is_end line || has_end behind

-- after a word there is a space, a tab, a quote or nothing
abbrev pub ends_word : List ℕ → Bool
ends_word [] = true
ends_word (b ∷ bs) = b == 32 || (b == 9 || (b == 34 || b == 39))

-- the line is the first of a LOAD
abbrev pub opens_load : Line → Bool
opens_load line = starts_with nat_eq line (codes "LOAD") && ends_word (drop 4 line)

-- a space or a tab
abbrev pub is_blank_byte : ℕ → Bool
is_blank_byte b = b == 32 || b == 9

-- all bytes of the line are spaces and tabs
abbrev pub is_blank : Line → Bool
is_blank [] = true
is_blank (b ∷ bs) = is_blank_byte b && is_blank bs

-- the line is `SESSION`
abbrev pub is_session : Line → Bool
is_session line = bytes_eq line (codes "SESSION")

-- `ORDER` alone or followed by a space
abbrev pub is_order : Line → Bool
is_order line = bytes_eq (before_space line) (codes "ORDER")

-- the line begins with this byte
abbrev pub begins_with : ℕ → Line → Bool
begins_with b [] = false
begins_with b (c ∷ cs) = c == b

-- what a line is outside of the lines of a LOAD: the first that fits
abbrev pub kind_of : Line → LineKind
kind_of line =
    if is_blank line then Skipped else
    (if begins_with 35 line then Skipped else
    (if begins_with 32 line || begins_with 9 line then Continuation else
    (if is_session line then Session else
    (if is_order line then Order else Call))))

-- 1 where it holds, and else 0
abbrev pub one_if : Bool → ℕ
one_if true = 1
one_if false = 0

-- how many sessions lines begin; the first lines may be those of a LOAD
abbrev pub sessions_in : Bool → List Line → ℕ
sessions_in in_load [] = 0
sessions_in true (line ∷ behind) = sessions_in (not (is_end line)) behind
sessions_in false (line ∷ behind) = one_if (is_session line) + sessions_in (opens_load line) behind

-- ---- the numbers of an order

-- the number from 1 to `most` that is written so
abbrev pub number_named : (most : ℕ) → List ℕ → Option ℕ
number_named zero word = None
number_named (suc n) word = if bytes_eq (decimal (suc n)) word then Some (suc n) else number_named n word

-- a number and the numbers after it, where all of them are there
abbrev pub both : Option ℕ → Option (List ℕ) → Option (List ℕ)
both (Some n) (Some ns) = Some (n ∷ ns)
both _ _ = None

-- the numbers from 1 to `most` that the words are written as, if each word is one
abbrev pub numbers : ℕ → List (List ℕ) → Option (List ℕ)
numbers most [] = Some []
numbers most (word ∷ words) = both (number_named most word) (numbers most words)

-- what stands between spaces
abbrev pub split_words : List ℕ → List (List ℕ)
split_words [] = [] ∷ []
split_words (b ∷ bs) = if b == 32 then [] ∷ split_words bs else in_front b (split_words bs)

-- ---- reading line by line

-- What has been read: the sessions before the one that has begun last, the calls of that one but for its last, that one, how
-- many sessions have begun, the order, whether the next line is one of a LOAD, and how many calls and lines there were.
pub record Reading : Type 0 where
  pub ended : List (List CallText)
  pub calls : List CallText
  pub last : Option CallText
  pub begun : ℕ
  pub order : List ℕ
  pub in_load : Bool
  pub count : ℕ
  pub lines : ℕ

-- nothing has been read
abbrev pub start : Reading
start = record { ended = []; calls = []; last = None; begun = 0; order = []; in_load = false; count = 0; lines = 0 }

-- all sessions so far
abbrev pub sessions_of : Reading → List (List CallText)
sessions_of r = if r.begun == 0 then r.ended else r.ended ++ (r.calls ++ option_to_list r.last) ∷ []

-- one session more has begun, without calls
abbrev pub with_session : Reading → Reading
with_session r = record r { ended = sessions_of r; calls = []; last = None; begun = r.begun + 1 }

-- a call and one line more
abbrev pub continued : Line → CallText → CallText
continued line call = record call { text = call.text ++ 10 ∷ line }

-- a line that continues the last call; it is refused where there is no call, or where the last one is a LOAD
abbrev pub with_continuation : Line → Option CallText → Reading → Result Reading ScriptRefusal
with_continuation line None r = Err BadScript
with_continuation line (Some call) r = if opens_load call.text then Err BadScript else Ok (record r { last = Some (continued line call) })

-- the order with these numbers at its end; it is refused where a word was no number
abbrev pub with_numbers : Option (List ℕ) → Reading → Result Reading ScriptRefusal
with_numbers None r = Err BadScript
with_numbers (Some ns) r = Ok (record r { order = r.order ++ ns })

-- the call of this line, without PYX
abbrev pub call_of : Line → CallText
call_of line = record { text = line; pyx = [] }

-- one call more, of this line; the next lines are those of a LOAD where it opens one
abbrev pub with_call : Line → Reading → Reading
with_call line r = record r { calls = r.calls ++ option_to_list r.last; last = Some (call_of line); count = r.count + 1; in_load = opens_load line }

-- a LOAD that no line `.` ends
abbrev pub stays_open : Line → List Line → Bool
stays_open line behind = opens_load line && not (has_end behind)

-- the last call with one PYX line more
abbrev pub with_pyx : Line → Option CallText → Option CallText
with_pyx line None = None
with_pyx line (Some call) = Some (record call { pyx = call.pyx ++ line ∷ [] })

-- what has been read after a line of a LOAD
abbrev pub loaded : Line → Reading → Reading
loaded line r = if is_end line then record r { in_load = false } else record r { last = with_pyx line r.last }

-- what has been read after another line, with the number of sessions of all lines and the lines after this one
abbrev pub read_kind : ℕ → LineKind → Line → List Line → Reading → Result Reading ScriptRefusal
read_kind sessions Skipped line behind r = Ok r
read_kind sessions Continuation line behind r = with_continuation line r.last r
read_kind sessions Session line behind r = if nat_le SESSIONS_MAX r.begun then Err TooManySessions else Ok (with_session r)
read_kind sessions Order line behind r = with_numbers (numbers sessions (split_words (behind_space line))) r
read_kind sessions Call line behind r =
    if r.begun == 0 then Err BadScript else
    (if nat_le CALLS_MAX r.count then Err TooManyCalls else
    (if stays_open line behind then Err LoadOpen else Ok (with_call line r)))

-- what has been read after a line: it is refused where it is not UTF-8, and else taken as one of a LOAD or by its kind
abbrev pub read_line : ℕ → Line → List Line → Reading → Result Reading ScriptRefusal
read_line sessions line behind r =
    if is_text line then (if r.in_load then Ok (loaded line r) else read_kind sessions (kind_of line) line behind r) else Err NotUtf8

-- the refusal with the number of its line
abbrev pub at_line : ℕ → Result Reading ScriptRefusal → Result Reading RefusedScript
at_line n (Ok r) = Ok r
at_line n (Err why) = Err (record { line = n; why = why })

-- what has been read after one line more, or its refusal
abbrev pub step : ℕ → Line → List Line → Reading → Result Reading RefusedScript
step sessions line behind r = at_line (next_line r.lines) (read_line sessions line behind (record r { lines = next_line r.lines }))

-- goes on with what was read, or stays at the refusal
infixl 10 ◌>>=◌
abbrev pub ◌>>=◌ : {A B : Type 0} → Result A RefusedScript → (A → Result B RefusedScript) → Result B RefusedScript
(Ok x) >>= f = f x
(Err e) >>= f = Err e

-- what has been read after all lines, or the first refusal
abbrev pub after : ℕ → List Line → Reading → Result Reading RefusedScript
after sessions [] r = Ok r
after sessions (line ∷ behind) r = step sessions line behind r >>= after sessions behind

-- the script of what has been read: its sessions and its order
abbrev pub script_of : Reading → Script
script_of r = record { sessions = sessions_of r; order = r.order }

-- the script that the lines spell, or the first refusal with its line
abbrev pub script : List Line → Result Script RefusedScript
script lines = after (sessions_in false lines) lines start >>= (λ r. Ok (script_of r))
