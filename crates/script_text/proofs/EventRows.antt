-- Events by the rows of the table of lines.
use Rattle.std.proofs.Common.{◌≡◌, ◌≢◌, ℕ, ◌+◌, ◌<◌, ◌^◌, Bool, true, false, if◌then◌else◌, nat_eq, List, [], ◌∷◌, ◌++◌, length, Option, None, Some, IsUtf8, refl, ap, sym, subst, ◌∙◌, arith, append_assoc, length-append}
use Rattle.std.specs.Prelude.{codes}
use Rattle.std.specs.Fmt.{decimal}
use Rattle.std.proofs.lemmas.Fmt.{decimal_injective}
use Rattle.std.proofs.lemmas.List.{append_cancel_left}
use Rattle.xq_ast.specs.CodeText.{code_text, InRange, HasNoMark, no_mark, without_mark}
use Rattle.xq_ast.proofs.Cuts.{cut_once}
use Rattle.xq_ast.proofs.Law.{same_code}
use Rattle.xq_ast.proofs.Numbers.{has_space-decimal}
use Rattle.xq_ast.specs.declared.call.Call.{Call}
use Rattle.xq_ast.specs.declared.code.Code.{Code}
use Rattle.xq_ast.specs.declared.code.Code.TheVariants.{Failed, InDoubt}
use Rattle.xq_ast.specs.declared.need.Need.{Need}
use Rattle.xml_model.specs.Pyx.{Line, IsPlain, IsCutLine, text_of}
use Rattle.session_core.specs.declared.history.event.BeginKind.TheVariants.{Updating, Reading}
use Rattle.session_core.specs.declared.history.event.Says.{Says}
use Rattle.session_core.specs.declared.history.event.Says.TheVariants as says
use Rattle.session_core.specs.declared.history.event.Event.{Event}
use Rattle.session_core.specs.declared.history.event.Event.TheVariants.{Began, Granted, Refused, Answered, Committed, Ended, RolledBack, Doubt, Settled, Left}
use Rattle.script_text.specs.declared.journals.rows.Row.{Row}
use Rattle.script_text.specs.declared.journals.rows.Row.TheVariants as rows
use Rattle.script_text.specs.declared.journals.rows.TheConstants.{ROWS}
use Rattle.script_text.specs.JournalText.{doubled, quoted, mode_text, need_text, needs_text, line_of, stands_text, event_lines, told, IsOneLine, AreLines, HaveNames, IsAnswer, IsSession, IsPrinted}
use Rattle.script_text.specs.JournalRows.{row_word, MissesRows, answer_event, lines_behind, AreUtf8, IsWhole, IsNumbered, IsRow}
use Rattle.script_text.specs.JournalSteps.{begins_quoted, ReadsLines, ReadsRow}
use Rattle.script_text.proofs.EventText.{text_of-append}
use Rattle.script_text.proofs.OneLine.{plain_parts, newline_inside, cut_line_once, doubled_plain, one_line_append, one_line_simple, one_line_decimal, one_line_quoted, one_line_needs, one_line_stands, one_line_code}
use Rattle.script_text.proofs.Quoted.{quoted_one, needs_one}

-- ---- the row of a line

strip : List ℕ → List ℕ → Option (List ℕ)
strip [] ys = Some ys
strip (x ∷ xs) [] = None
strip (x ∷ xs) (y ∷ ys) = if nat_eq x y then strip xs ys else None

tried : Option (List ℕ) → Row → Option (Row × List ℕ) → Option (Row × List ℕ)
tried None row more = more
tried (Some rest) row more = Some (row, rest)

-- the first of the rows whose words stand at the beginning
first_row : List Row → List ℕ → Option (Row × List ℕ)
first_row [] words = None
first_row (row ∷ more) words = tried (strip (row_word row) words) row (first_row more words)

row_found : (row : Row) (rest : List ℕ) → first_row ROWS (row_word row ++ rest) ≡ Some (row, rest)
unfolding first_row tried strip
row_found rows.BeganUpdate rest = refl
row_found rows.BeganRead rest = refl
row_found rows.Granted rest = refl
row_found rows.Refused rest = refl
row_found rows.Done rest = refl
row_found rows.Answer rest = refl
row_found rows.Error rest = refl
row_found rows.Committed rest = refl
row_found rows.Ended rest = refl
row_found rows.RolledBack rest = refl
row_found rows.Doubt rest = refl
row_found rows.Settled rest = refl
row_found rows.Left rest = refl

-- words are of one row
row_once : (a b : Row) (x y : List ℕ) → row_word a ++ x ≡ row_word b ++ y → (a ≡ b) × (x ≡ y)
row_once a b x y e =
    let both : Some (a, x) ≡ Some (b, y) = sym (row_found a x) ∙ (ap (first_row ROWS) e ∙ row_found b y) in
    let pairs = some_one (a, x) (b, y) both in
    (ap (λ f. f.0) pairs, ap (λ f. f.1) pairs)
  where
    some_one : (f g : Row × List ℕ) → Some f ≡ Some g → f ≡ g
    some_one f g e = cc

-- words that begin as no row of the table begin as no row
pub rows_missed : (words : List ℕ) → MissesRows words ROWS → (row : Row) (rest : List ℕ) → words ≢ row_word row ++ rest
rows_missed words m rows.BeganUpdate = m.0
rows_missed words m rows.BeganRead = m.1.0
rows_missed words m rows.Granted = m.1.1.0
rows_missed words m rows.Refused = m.1.1.1.0
rows_missed words m rows.Done = m.1.1.1.1.0
rows_missed words m rows.Answer = m.1.1.1.1.1.0
rows_missed words m rows.Error = m.1.1.1.1.1.1.0
rows_missed words m rows.Committed = m.1.1.1.1.1.1.1.0
rows_missed words m rows.Ended = m.1.1.1.1.1.1.1.1.0
rows_missed words m rows.RolledBack = m.1.1.1.1.1.1.1.1.1.0
rows_missed words m rows.Doubt = m.1.1.1.1.1.1.1.1.1.1.0
rows_missed words m rows.Settled = m.1.1.1.1.1.1.1.1.1.1.1.0
rows_missed words m rows.Left = m.1.1.1.1.1.1.1.1.1.1.1.1.0

-- a number of 32 bits is one of 64
pub sessions_fit : (s : ℕ) → s < 2 ^ 32 → s < 2 ^ 64
sessions_fit s small = omega arith

-- a line begins in one way
pub line_once : (s t : ℕ) (a b : Row) (x y : List ℕ) → IsSession s → IsSession t → line_of s (row_word a ++ x) ≡ line_of t (row_word b ++ y)
    → (s ≡ t) × (a ≡ b) × (x ≡ y)
line_once s t a b x y p q e =
    let parts = cut_once (decimal s) (decimal t) (row_word a ++ x) (row_word b ++ y) (has_space-decimal s (sessions_fit s p))
    (has_space-decimal t (sessions_fit t q)) e in
    let row = row_once a b x y parts.1 in
    (decimal_injective s t (sessions_fit s p) (sessions_fit t q) parts.0, row.0, row.1)

-- ---- lines after an event

-- the text of lines is the first line, a newline and the text of the others
pub line_open : (line : Line) (more : List Line) (rest : List ℕ) → text_of (line ∷ more) ++ rest ≡ line ++ 10 ∷ (text_of more ++ rest)
line_open line more rest = append_assoc line (10 ∷ text_of more) rest

-- a text begins with so many lines in one way alone
pub lines_once : (ls ms : List Line) (x y : List ℕ) → AreLines ls → AreLines ms → length ls ≡ length ms → text_of ls ++ x ≡ text_of ms ++ y
    → (ls ≡ ms) × (x ≡ y)
lines_once [] [] x y p q same e = (refl, e)
lines_once [] (b ∷ ms) x y p q same e = absurd (omega arith)
lines_once (a ∷ ls) [] x y p q same e = absurd (omega arith)
lines_once (a ∷ ls) (b ∷ ms) x y p q same e =
    let first = cut_line_once a b (text_of ls ++ x) (text_of ms ++ y) p.0.1 q.0.1 (sym (line_open a ls x) ∙ (e ∙ line_open b ms y)) in
    let less : length ls ≡ length ms = omega arith in
    let rest = lines_once ls ms x y p.1 q.1 less first.1 in
    (ap (λ l. l ∷ ls) first.0 ∙ ap (λ l. b ∷ l) rest.0, rest.1)

-- where lines are missing, a newline is
pub lines_missing : (ls ms : List Line) (x y : List ℕ) → AreLines ls → AreLines ms → length ls < length ms → text_of ls ++ x ≡ text_of ms ++ y → IsPlain x → ⊥
lines_missing ls [] x y p q less e plain = omega arith
lines_missing [] (b ∷ ms) x y p q less e plain = newline_inside b (text_of ms ++ y) (subst IsPlain (e ∙ line_open b ms y) plain)
lines_missing (a ∷ ls) (b ∷ ms) x y p q less e plain =
    let first = cut_line_once a b (text_of ls ++ x) (text_of ms ++ y) p.0.1 q.0.1 (sym (line_open a ls x) ∙ (e ∙ line_open b ms y)) in
    let fewer : length ls < length ms = omega arith in
    lines_missing ls ms x y p.1 q.1 fewer first.1 plain

-- so many lines were read, and what is left
pub record LinesSoFar (count : ℕ) (lines : List Line) (rest whole : List ℕ) : Type 0 where
  pub length_is : length lines ≡ count
  pub are : AreLines lines
  pub text : text_of lines ++ rest ≡ whole

lines_more : (ls : List Line) (line : Line) → AreLines ls → IsOneLine line → AreLines (ls ++ line ∷ [])
lines_more [] line p q = (q, tt)
lines_more (l ∷ ls) line p q = (p.0, lines_more ls line p.1 q)

-- one line more
pub line_read : (count : ℕ) (ls : List Line) (line : Line) (rest more whole : List ℕ) → LinesSoFar count ls rest whole → IsCutLine rest line more → IsUtf8 line
    → LinesSoFar (count + 1) (ls ++ line ∷ []) more whole
line_read count ls line rest more whole so cut utf8 = record {
  length_is = length-append ls (line ∷ []) ∙ ap (λ n. n + 1) so.length_is;
  are = lines_more ls line so.are (utf8, cut.plain);
  text = ap (λ t. t ++ more) (text_of-append ls (line ∷ [])) ∙ (append_assoc (text_of ls) (line ++ 10 ∷ []) more
      ∙ (ap (λ r. text_of ls ++ r) (append_assoc line (10 ∷ []) more ∙ sym cut.whole) ∙ so.text));
}

-- so many lines are not there
pub lines_end : (count all : ℕ) (ls : List Line) (rest whole : List ℕ) → LinesSoFar count ls rest whole → count < all → IsPlain rest
    → (lines : List Line) (more : List ℕ) → length lines ≡ all → AreLines lines → text_of lines ++ more ≢ whole
lines_end count all ls rest whole so less plain lines more same are e =
    let fewer : length ls < length lines = omega (arith, so.length_is) in
    lines_missing ls lines rest more so.are are fewer (so.text ∙ sym e) plain

-- ---- an event by its row

-- events without lines after them
no_lines_one : (made other a b : Event) (x y : List ℕ) → lines_behind made ≡ [] → lines_behind other ≡ [] → made ≡ other → a ≡ made → b ≡ other
    → text_of (lines_behind a) ++ x ≡ text_of (lines_behind b) ++ y → (a ≡ b) × (x ≡ y)
no_lines_one made other a b x y none empty same p q e =
    let left : text_of (lines_behind a) ++ x ≡ x = ap (λ v. text_of (lines_behind v) ++ x) p ∙ ap (λ l. text_of l ++ x) none in
    let right : text_of (lines_behind b) ++ y ≡ y = ap (λ v. text_of (lines_behind v) ++ y) q ∙ ap (λ l. text_of l ++ y) empty in
    (p ∙ (same ∙ sym q), sym left ∙ (e ∙ right))

whole_one : (made a b : Event) (rest x y : List ℕ) → lines_behind made ≡ [] → IsWhole rest made a → IsWhole rest made b
    → text_of (lines_behind a) ++ x ≡ text_of (lines_behind b) ++ y → (a ≡ b) × (x ≡ y)
whole_one made a b rest x y none p q e = no_lines_one made made a b x y none none refl p.1 q.1 e

numbered_one : (made : ℕ → Event) (a b : Event) (rest x y : List ℕ) → ((n : ℕ) → lines_behind (made n) ≡ []) → IsNumbered rest made a → IsNumbered rest made b
    → text_of (lines_behind a) ++ x ≡ text_of (lines_behind b) ++ y → (a ≡ b) × (x ≡ y)
numbered_one made a b rest x y none p q e =
    let same : p.0 ≡ q.0 = decimal_injective p.0 q.0 p.1 q.1 (p.2 ∙ sym q.2) in
    no_lines_one (made p.0) (made q.0) a b x y (none p.0) (none q.0) (ap made same) p.3 q.3 e

unmarked : (c : Code) → HasNoMark c → without_mark c ≡ c
unmarked (Failed mark) h = ap Failed (sym h)
unmarked (InDoubt mark) h = ap InDoubt (sym h)
unmarked _ h = refl

code_one : (c d : Code) (rest : List ℕ) → InRange c → InRange d → HasNoMark c → HasNoMark d → code_text c ≡ rest → code_text d ≡ rest → c ≡ d
code_one c d rest r s h k p q = sym (unmarked c h) ∙ (same_code c d r s (p ∙ sym q) ∙ unmarked d k)

stands_once : (a b : Bool) → stands_text a ≡ stands_text b → a ≡ b
stands_once true true e = refl
stands_once true false e = cc
stands_once false true e = cc
stands_once false false e = refl

lines_of_answer : (s : ℕ) (all : List Line) (e : Event) (x : List ℕ) → e ≡ answer_event s (says.Lines all) → text_of (lines_behind e) ++ x ≡ text_of all ++ x
lines_of_answer s all e x p = ap (λ v. text_of (lines_behind v) ++ x) p

-- what a row tells is one event
pub row_one : (row : Row) (s : ℕ) (rest : List ℕ) (a b : Event) (x y : List ℕ) → IsRow row s rest a → IsRow row s rest b
    → text_of (lines_behind a) ++ x ≡ text_of (lines_behind b) ++ y → (a ≡ b) × (x ≡ y)
row_one rows.BeganUpdate s rest a b x y p q e = whole_one (Began s Updating) a b rest x y refl p q e
row_one rows.BeganRead s rest a b x y p q e = numbered_one (λ n. Began s (Reading n)) a b rest x y (λ n. refl) p q e
row_one rows.Granted s rest a b x y p q e =
    let same : p.0 ≡ q.0 = needs_one p.0 q.0 p.1 (p.3 ∙ sym q.3) in
    no_lines_one (Granted s p.0) (Granted s q.0) a b x y refl refl (ap (Granted s) same) p.4 q.4 e
row_one rows.Refused s rest a b x y p q e =
    let parts = quoted_one p.0 q.0 (codes " by " ++ decimal p.1) (codes " by " ++ decimal q.1) refl refl (p.4 ∙ sym q.4) in
    let digits : decimal p.1 ≡ decimal q.1 = append_cancel_left (codes " by ") (decimal p.1) (decimal q.1) parts.1 in
    let holder = decimal_injective p.1 q.1 (sessions_fit p.1 p.3) (sessions_fit q.1 q.3) digits in
    no_lines_one (Refused s p.0 p.1 []) (Refused s q.0 q.1 []) a b x y refl refl (ap (λ n. Refused s n p.1 []) parts.0
    ∙ ap (λ h. Refused s q.0 h []) holder) p.5 q.5 e
row_one rows.Done s rest a b x y p q e = whole_one (answer_event s says.Done) a b rest x y refl p q e
row_one rows.Answer s rest a b x y p q e =
    let count : length p.0 ≡ length q.0 = decimal_injective (length p.0) (length q.0) p.2 q.2 (p.3 ∙ sym q.3) in
    let both = lines_once p.0 q.0 x y p.1 q.1 count (sym (lines_of_answer s p.0 a x p.4) ∙ (e ∙ lines_of_answer s q.0 b y q.4)) in
    (p.4 ∙ (ap (λ all. answer_event s (says.Lines all)) both.0 ∙ sym q.4), both.1)
row_one rows.Error s rest a b x y p q e =
    let same = code_one p.0 q.0 rest p.1 q.1 p.2 q.2 p.3 q.3 in
    no_lines_one (answer_event s (says.Error p.0)) (answer_event s (says.Error q.0)) a b x y refl refl (ap (λ c. answer_event s (says.Error c)) same) p.4 q.4 e
row_one rows.Committed s rest a b x y p q e = numbered_one (λ n. Committed s n) a b rest x y (λ n. refl) p q e
row_one rows.Ended s rest a b x y p q e = whole_one (Ended s) a b rest x y refl p q e
row_one rows.RolledBack s rest a b x y p q e = whole_one (RolledBack s) a b rest x y refl p q e
row_one rows.Doubt s rest a b x y p q e = numbered_one (λ n. Doubt s n no_mark) a b rest x y (λ n. refl) p q e
row_one rows.Settled s rest a b x y p q e =
    let parts = cut_once (decimal p.0) (decimal q.0) (stands_text p.1) (stands_text q.1) (has_space-decimal p.0 (sessions_fit p.0 p.2))
    (has_space-decimal q.0 (sessions_fit q.0 q.2)) (p.3 ∙ sym q.3) in
    let other = decimal_injective p.0 q.0 (sessions_fit p.0 p.2) (sessions_fit q.0 q.2) parts.0 in
    let stands = stands_once p.1 q.1 parts.1 in
    no_lines_one (Settled s p.0 p.1) (Settled s q.0 q.1) a b x y refl refl (ap (λ n. Settled s n p.1) other ∙ ap (λ t. Settled s q.0 t) stands) p.4 q.4 e
row_one rows.Left s rest a b x y p q e = whole_one (Left s) a b rest x y refl p q e

-- no event was read
pub none_read : (read : Option Event) (row : Row) (s : ℕ) (rest : List ℕ) → read ≡ None → ((e : Event) → IsRow row s rest e → ⊥) → ReadsRow read row s rest
none_read read row s rest none missing = subst (λ o. ReadsRow o row s rest) (sym none) missing

-- ---- a printed event has a row

-- the row of an event, by its text and by what the text tells of it
pub record HasRow (e : Event) : Type 0 where
  pub row : Row
  pub session : ℕ
  pub rest : List ℕ
  pub small : IsSession session
  pub lines : event_lines e ≡ line_of session (row_word row ++ rest) ∷ lines_behind (told e)
  pub is : IsRow row session rest (told e)
  pub one_line : IsOneLine rest
  pub behind : AreLines (lines_behind (told e))

names_utf8 : (ns : List Need) → HaveNames ns → AreUtf8 ns
names_utf8 [] have = tt
names_utf8 (n ∷ ns) have = (have.0.0, names_utf8 ns have.1)

unmarked_text : (c : Code) → code_text (without_mark c) ≡ code_text c
unmarked_text (Failed mark) = refl
unmarked_text (InDoubt mark) = refl
unmarked_text _ = refl

unmarked_range : (c : Code) → InRange c → InRange (without_mark c)
unmarked_range (Failed mark) r = (omega arith, omega arith)
unmarked_range (InDoubt mark) r = (omega arith, omega arith)
unmarked_range _ r = r

unmarked_mark : (c : Code) → HasNoMark (without_mark c)
unmarked_mark (Failed mark) = refl
unmarked_mark (InDoubt mark) = refl
unmarked_mark _ = tt

nothing : IsOneLine []
nothing = one_line_simple [] refl

answer_row : (s : ℕ) (call : Option Call) (what : Says) → IsSession s → IsAnswer what → HasRow (Answered s (record { call = call; says = what }))
answer_row s call says.Done small is =
    record { row = rows.Done; session = s; rest = []; small = small; lines = refl; is = (refl, refl); one_line = nothing; behind = tt }
answer_row s call (says.Lines all) small is = record {
  row = rows.Answer;
  session = s;
  rest = decimal (length all);
  small = small;
  lines = refl;
  is = (all, is.0, is.1, refl, refl);
  one_line = one_line_decimal (length all) is.1;
  behind = is.0;
}
answer_row s call (says.Error code) small is = record {
  row = rows.Error;
  session = s;
  rest = code_text code;
  small = small;
  lines = refl;
  is = (without_mark code, unmarked_range code is, unmarked_mark code, unmarked_text code, refl);
  one_line = one_line_code code is;
  behind = tt;
}
answer_row s call _ small is = absurd is

-- each event that is printed has a row
pub printed_row : (e : Event) → IsPrinted e → HasRow e
printed_row (Began s Updating) p =
    record { row = rows.BeganUpdate; session = s; rest = []; small = p.0; lines = refl; is = (refl, refl); one_line = nothing; behind = tt }
printed_row (Began s (Reading n)) p =
    record {
      row = rows.BeganRead;
      session = s;
      rest = decimal n;
      small = p.0;
      lines = refl;
      is = (n, p.1, refl, refl);
      one_line =
          one_line_decimal n p.1;
      behind = tt;
    }
printed_row (Granted s needs) p = record {
  row = rows.Granted;
  session = s;
  rest = needs_text needs;
  small = p.0;
  lines = refl;
  is = (needs, p.1, names_utf8 needs p.2, refl, refl);
  one_line = one_line_needs needs p.2;
  behind = tt;
}
printed_row (Refused s name holder needs) p = record {
  row = rows.Refused;
  session = s;
  rest = quoted name ++ (codes " by " ++ decimal holder);
  small = p.0;
  lines = refl;
  is = (name, holder, p.1.0, p.2, refl, refl);
  one_line = one_line_append (quoted name) (codes " by " ++ decimal holder) (one_line_quoted name p.1)
      (one_line_append (codes " by ") (decimal holder) (one_line_simple (codes " by ") refl) (one_line_decimal holder (sessions_fit holder p.2)));
  behind = tt;
}
printed_row (Answered s reply) p = answer_row s reply.call reply.says p.0 p.1
printed_row (Committed s n) p =
    record {
      row = rows.Committed;
      session = s;
      rest = decimal n;
      small = p.0;
      lines = refl;
      is = (n, p.1, refl, refl);
      one_line =
          one_line_decimal n p.1;
      behind = tt;
    }
printed_row (Ended s) p = record { row = rows.Ended; session = s; rest = []; small = p; lines = refl; is = (refl, refl); one_line = nothing; behind = tt }
printed_row (RolledBack s) p =
    record { row = rows.RolledBack; session = s; rest = []; small = p; lines = refl; is = (refl, refl); one_line = nothing; behind = tt }
printed_row (Doubt s n mark) p =
    record {
      row = rows.Doubt;
      session = s;
      rest = decimal n;
      small = p.0;
      lines = refl;
      is = (n, p.1, refl, refl);
      one_line = one_line_decimal n p.1;
      behind =
          tt;
    }
printed_row (Settled by s stands) p = record {
  row = rows.Settled;
  session = by;
  rest = decimal s ++ (codes " " ++ stands_text stands);
  small = p.0;
  lines = refl;
  is = (s, stands, p.1, refl, refl);
  one_line = one_line_append (decimal s) (codes " " ++ stands_text stands) (one_line_decimal s (sessions_fit s p.1))
      (one_line_append (codes " ") (stands_text stands) (one_line_simple (codes " ") refl) (one_line_stands stands));
  behind = tt;
}
printed_row (Left s) p = record { row = rows.Left; session = s; rest = []; small = p; lines = refl; is = (refl, refl); one_line = nothing; behind = tt }

one_line_word : (row : Row) → IsOneLine (row_word row)
one_line_word rows.BeganUpdate = one_line_simple _ refl
one_line_word rows.BeganRead = one_line_simple _ refl
one_line_word rows.Granted = one_line_simple _ refl
one_line_word rows.Refused = one_line_simple _ refl
one_line_word rows.Done = one_line_simple _ refl
one_line_word rows.Answer = one_line_simple _ refl
one_line_word rows.Error = one_line_simple _ refl
one_line_word rows.Committed = one_line_simple _ refl
one_line_word rows.Ended = one_line_simple _ refl
one_line_word rows.RolledBack = one_line_simple _ refl
one_line_word rows.Doubt = one_line_simple _ refl
one_line_word rows.Settled = one_line_simple _ refl
one_line_word rows.Left = one_line_simple _ refl

-- the first line of a printed event is one line
pub start_is_one_line : (s : ℕ) (row : Row) (rest : List ℕ) → IsSession s → IsOneLine rest → IsOneLine (line_of s (row_word row ++ rest))
start_is_one_line s row rest small one =
    one_line_append (decimal s) (codes " " ++ (row_word row ++ rest)) (one_line_decimal s (sessions_fit s small))
    (one_line_append (codes " ") (row_word row ++ rest) (one_line_simple (codes " ") refl) (one_line_append (row_word row) rest (one_line_word row) one))

-- what stands after the row's words of a plain line is plain
pub rest_is_plain : (s : ℕ) (row : Row) (rest : List ℕ) → IsPlain (line_of s (row_word row ++ rest)) → IsPlain rest
rest_is_plain s row rest plain = (plain_parts (row_word row) rest (plain_parts (decimal s) (codes " " ++ (row_word row ++ rest)) plain).1.1).1

-- ---- an event with a row is printed

-- the event is what a text tells, and this is its text
pub record IsReadAs (row : Row) (s : ℕ) (rest : List ℕ) (e : Event) : Type 0 where
  pub printed : IsPrinted e
  pub same : told e ≡ e
  pub lines : event_lines e ≡ line_of s (row_word row ++ rest) ∷ lines_behind e

quoted_is_plain : (name rest : List ℕ) → IsPlain (quoted name ++ rest) → IsPlain name
quoted_is_plain name rest plain =
    let inner = (plain_parts (quoted name) rest plain).0 in
    doubled_plain name (plain_parts (doubled name) (39 ∷ []) inner.1).0

names_of_text : (ns : List Need) → AreUtf8 ns → IsPlain (needs_text ns) → HaveNames ns
names_of_text [] are plain = tt
names_of_text (n ∷ []) are plain = ((are.0, quoted_is_plain n.name (codes " " ++ mode_text n.mode) plain), tt)
names_of_text (n ∷ m ∷ more) are plain =
    let parts = plain_parts (need_text n) (codes ", " ++ needs_text (m ∷ more)) plain in
    ((are.0, quoted_is_plain n.name (codes " " ++ mode_text n.mode) parts.0), names_of_text (m ∷ more) are.1 parts.1.1.1)

whole_read : (row : Row) (s : ℕ) (rest : List ℕ) (made e : Event) → IsWhole rest made e → IsReadAs row s [] made → IsReadAs row s rest e
whole_read row s rest made e is shown = subst (λ v. IsReadAs row s rest v) (sym is.1) (subst (λ r. IsReadAs row s r made) (sym is.0) shown)

as_read : (row : Row) (s : ℕ) (rest own : List ℕ) (made e : Event) → own ≡ rest → e ≡ made → IsReadAs row s own made → IsReadAs row s rest e
as_read row s rest own made e p q shown = subst (λ v. IsReadAs row s rest v) (sym q) (subst (λ r. IsReadAs row s r made) p shown)

unmarked_event : (s : ℕ) (code : Code) → HasNoMark code → told (answer_event s (says.Error code)) ≡ answer_event s (says.Error code)
unmarked_event s code h = ap (λ c. answer_event s (says.Error c)) (unmarked code h)

-- what is read from a plain line by its row is a printed event whose text this is
pub row_read : (row : Row) (s : ℕ) (rest : List ℕ) (e : Event) → IsSession s → IsPlain rest → IsRow row s rest e → IsReadAs row s rest e
row_read rows.BeganUpdate s rest e small plain is =
    whole_read rows.BeganUpdate s rest (Began s Updating) e is (record { printed = (small, tt); same = refl; lines = refl })
row_read rows.BeganRead s rest e small plain is =
    as_read rows.BeganRead s rest (decimal is.0) (Began s (Reading is.0)) e is.2 is.3 (record { printed = (small, is.1); same = refl; lines = refl })
row_read rows.Granted s rest e small plain is =
    as_read rows.Granted s rest (needs_text is.0) (Granted s is.0) e is.3 is.4
    (record { printed = (small, is.1, names_of_text is.0 is.2 (subst IsPlain (sym is.3) plain)); same = refl; lines = refl })
row_read rows.Refused s rest e small plain is =
    as_read rows.Refused s rest (quoted is.0 ++ (codes " by " ++ decimal is.1)) (Refused s is.0 is.1 []) e is.4 is.5
    (record {
      printed = (small, (is.2, quoted_is_plain is.0 (codes " by " ++ decimal is.1) (subst IsPlain (sym is.4) plain)), is.3);
      same = refl;
      lines =
          refl;
    })
row_read rows.Done s rest e small plain is =
    whole_read rows.Done s rest (answer_event s says.Done) e is (record { printed = (small, tt); same = refl; lines = refl })
row_read rows.Answer s rest e small plain is =
    as_read rows.Answer s rest (decimal (length is.0)) (answer_event s (says.Lines is.0)) e is.3 is.4
    (record { printed = (small, (is.1, is.2)); same = refl; lines = refl })
row_read rows.Error s rest e small plain is =
    as_read rows.Error s rest (code_text is.0) (answer_event s (says.Error is.0)) e is.3 is.4
    (record { printed = (small, is.1); same = unmarked_event s is.0 is.2; lines = refl })
row_read rows.Committed s rest e small plain is =
    as_read rows.Committed s rest (decimal is.0) (Committed s is.0) e is.2 is.3 (record { printed = (small, is.1); same = refl; lines = refl })
row_read rows.Ended s rest e small plain is = whole_read rows.Ended s rest (Ended s) e is (record { printed = small; same = refl; lines = refl })
row_read rows.RolledBack s rest e small plain is = whole_read rows.RolledBack s rest (RolledBack s) e is (record { printed = small; same = refl; lines = refl })
row_read rows.Doubt s rest e small plain is =
    as_read rows.Doubt s rest (decimal is.0) (Doubt s is.0 no_mark) e is.2 is.3 (record { printed = (small, is.1); same = refl; lines = refl })
row_read rows.Settled s rest e small plain is =
    as_read rows.Settled s rest (decimal is.0 ++ (codes " " ++ stands_text is.1)) (Settled s is.0 is.1) e is.3 is.4
    (record { printed = (small, is.2); same = refl; lines = refl })
row_read rows.Left s rest e small plain is = whole_read rows.Left s rest (Left s) e is (record { printed = small; same = refl; lines = refl })

-- ---- texts that no row tells

-- an answer's row tells no event where the lines that it counts do not follow
pub answer_missing : (s count : ℕ) (digits behind : List ℕ) → count < 2 ^ 64 → decimal count ≡ digits → ReadsLines None count behind
    → (e : Event) (more : List ℕ) → IsRow rows.Answer s digits e → text_of (lines_behind e) ++ more ≢ behind
answer_missing s count digits behind small is none e more row same =
    let count_is : length row.0 ≡ count = decimal_injective (length row.0) count row.2 small (row.3 ∙ sym is) in
    none row.0 more count_is row.1 (sym (lines_of_answer s row.0 e more row.4) ∙ same)

-- a refusal's row tells no event where no holder stands after the name
pub holder_missing : (s : ℕ) (name rest whole : List ℕ) → quoted name ++ rest ≡ whole → begins_quoted rest ≡ false
    → ((digits : List ℕ) → rest ≢ codes " by " ++ digits)
    → (e : Event) → IsRow rows.Refused s whole e → ⊥
holder_missing s name rest whole is other none e row =
    let parts = quoted_one row.0 name (codes " by " ++ decimal row.1) rest refl other (row.4 ∙ sym is) in
    none (decimal row.1) (sym parts.1)

-- a refusal's row tells no event where what stands as the holder is no session's number
pub no_holder : (s : ℕ) (name rest digits whole : List ℕ) → quoted name ++ rest ≡ whole → begins_quoted rest ≡ false → rest ≡ codes " by " ++ digits
    → ((holder : ℕ) → IsSession holder → decimal holder ≢ digits) → (e : Event) → IsRow rows.Refused s whole e → ⊥
no_holder s name rest digits whole is other by none e row =
    let parts = quoted_one row.0 name (codes " by " ++ decimal row.1) rest refl other (row.4 ∙ sym is) in
    none row.1 row.3 (append_cancel_left (codes " by ") (decimal row.1) digits (parts.1 ∙ by))
