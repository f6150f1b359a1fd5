-- A text tells its journal.
use Rattle.std.proofs.Common.{◌≡◌, ◌≢◌, ℕ, List, [], ◌∷◌, ◌++◌, map, Option, None, Some, Result, Ok, Err, IfOk, IsUtf8, refl, ap, sym, subst, ◌∙◌, append_assoc}
use Rattle.xq_ast.specs.declared.memory.NoMemory.{NoMemory}
use Rattle.xml_model.specs.Pyx.{Line, IsPlain, IsCutLine, text_of}
use Rattle.session_core.specs.declared.history.event.Event.{Event}
use Rattle.script_text.specs.declared.journals.rows.Row.{Row}
use Rattle.script_text.specs.declared.journals.reading.EventText.{EventText}
use Rattle.script_text.specs.JournalText.{line_of, event_lines, journal_lines, text, told, AreLines, IsSession, IsPrinted, ArePrinted}
use Rattle.script_text.specs.JournalRows.{row_word, lines_behind, IsRow}
use Rattle.script_text.specs.JournalRead.{TellNothing, Tells, TextTellsItsJournal}
use Rattle.script_text.specs.JournalSteps.{ReadsBehind, ReadsEvent}
use Rattle.script_text.proofs.EventText.{text_of-append, text-append, text-one}
use Rattle.script_text.proofs.OneLine.{newline_inside, cut_line_once, lines_utf8}
use Rattle.script_text.proofs.EventRows.{line_once, line_open, row_one, HasRow, printed_row, start_is_one_line, rest_is_plain, row_read}

-- ---- one event

-- the first line of an event
abbrev start_of : (e : Event) → HasRow e → Line
start_of e h = line_of h.session (row_word h.row ++ h.rest)

event_open : (e : Event) (h : HasRow e) (x : List ℕ) → text_of (event_lines e) ++ x ≡ start_of e h ++ 10 ∷ (text_of (lines_behind (told e)) ++ x)
event_open e h x = ap (λ l. text_of l ++ x) h.lines ∙ line_open (start_of e h) (lines_behind (told e)) x

start_is_plain : (e : Event) (h : HasRow e) → IsPlain (start_of e h)
start_is_plain e h = (start_is_one_line h.session h.row h.rest h.small h.one_line).1

-- a row tells the same of equal parts
moved : (a b : Row) (s t : ℕ) (x y : List ℕ) (e : Event) → s ≡ t → a ≡ b → x ≡ y → IsRow a s x e → IsRow b t y e
moved a b s t x y e p q r is = subst (λ v. IsRow b t v e) r (subst (λ v. IsRow v t x e) q (subst (λ v. IsRow a v x e) p is))

-- a text begins with one event, but for what it does not tell
event_once : (a b : Event) (x y : List ℕ) → IsPrinted a → IsPrinted b → text_of (event_lines a) ++ x ≡ text_of (event_lines b) ++ y
    → (told a ≡ told b) × (x ≡ y)
event_once a b x y p q e =
    let f = printed_row a p in
    let g = printed_row b q in
    let cut = cut_line_once (start_of a f) (start_of b g) (text_of (lines_behind (told a)) ++ x) (text_of (lines_behind (told b)) ++ y) (start_is_plain a f)
    (start_is_plain b g)
    (sym (event_open a f x) ∙ (e ∙ event_open b g y)) in
    let start = line_once f.session g.session f.row g.row f.rest g.rest f.small g.small cut.0 in
    let is = moved f.row g.row f.session g.session f.rest g.rest (told a) start.0 start.1 start.2 f.is in
    row_one g.row g.session g.rest (told a) (told b) x y is g.is cut.1

nothing_behind : (line more : List ℕ) → line ++ 10 ∷ more ≡ [] → ⊥
nothing_behind [] more e = cc
nothing_behind (b ∷ line) more e = cc

-- an event has a text
event_some : (e : Event) (x : List ℕ) → IsPrinted e → text_of (event_lines e) ++ x ≡ [] → ⊥
event_some e x p none = let h = printed_row e p in nothing_behind (start_of e h) (text_of (lines_behind (told e)) ++ x) (sym (event_open e h x) ∙ none)

-- what has no newline begins with no event
pub no_event_in_line : (bytes : List ℕ) → IsPlain bytes → (e : Event) (more : List ℕ) → IsPrinted e → text_of (event_lines e) ++ more ≢ bytes
no_event_in_line bytes plain e more p same =
    let h = printed_row e p in
    newline_inside (start_of e h) (text_of (lines_behind (told e)) ++ more) (subst IsPlain (sym same ∙ event_open e h more) plain)

first_line_of : (bytes line behind : List ℕ) → IsCutLine bytes line behind → (e : Event) (h : HasRow e) (more : List ℕ)
    → text_of (event_lines e) ++ more ≡ bytes
    → (start_of e h ≡ line) × (text_of (lines_behind (told e)) ++ more ≡ behind)
first_line_of bytes line behind cut e h more same =
    cut_line_once (start_of e h) line (text_of (lines_behind (told e)) ++ more) behind (start_is_plain e h) cut.plain (sym (event_open e h more)
    ∙ (same ∙ cut.whole))

-- nor does what has no such first line
pub no_event_at_line : (bytes line behind : List ℕ) → IsCutLine bytes line behind
    → ((s : ℕ) (row : Row) (rest : List ℕ) → IsSession s → line_of s (row_word row ++ rest) ≢ line) → (e : Event) (more : List ℕ) → IsPrinted e
    → text_of (event_lines e) ++ more ≢ bytes
no_event_at_line bytes line behind cut none e more p same =
    let h = printed_row e p in
    none h.session h.row h.rest h.small (first_line_of bytes line behind cut e h more same).0

-- an event is read by its row
pub event_read : (found : Option EventText) (bytes line behind : List ℕ) (s : ℕ) (row : Row) (rest : List ℕ) → IsCutLine bytes line behind → IsSession s
    → line_of s (row_word row ++ rest) ≡ line → ReadsBehind found row s rest behind → ReadsEvent found bytes
event_read None bytes line behind s row rest cut small start none = λ e more p same.
    let h = printed_row e p in
    let parts = first_line_of bytes line behind cut e h more same in
    let begins = line_once h.session s h.row row h.rest rest h.small small (parts.0 ∙ sym start) in
    none (told e) more (moved h.row row h.session s h.rest rest (told e) begins.0 begins.1 begins.2 h.is) parts.1
event_read (Some found) bytes line behind s row rest cut small start is =
    let plain = rest_is_plain s row rest (subst IsPlain (sym start) cut.plain) in
    let shown = row_read row s rest found.event small plain is.0 in
    let lines = ap (λ l. text_of l ++ found.rest.now) shown.lines ∙ line_open (line_of s (row_word row ++ rest)) (lines_behind found.event) found.rest.now in
    (shown.printed, shown.same, lines ∙ (ap (λ r. line_of s (row_word row ++ rest) ++ 10 ∷ r) is.1 ∙ (ap (λ l. l ++ 10 ∷ behind) start ∙ sym cut.whole)))

-- ---- a journal

text-cons : (e : Event) (more : List Event) → text (e ∷ more) ≡ text_of (event_lines e) ++ text more
text-cons e more = text_of-append (event_lines e) (journal_lines more)

text_has_event : (e : Event) (more : List Event) → IsPrinted e → text (e ∷ more) ≡ [] → ⊥
text_has_event e more p none = event_some e (text more) p (sym (text-cons e more) ∙ none)

-- journals with one text differ in what it does not tell
pub text_tells_its_journal : TextTellsItsJournal
text_tells_its_journal [] [] p q e = refl
text_tells_its_journal [] (b ∷ more) p q e = absurd (text_has_event b more q.0 (sym e))
text_tells_its_journal (a ∷ more) [] p q e = absurd (text_has_event a more p.0 e)
text_tells_its_journal (a ∷ more) (b ∷ others) p q e =
    let first = event_once a b (text more) (text others) p.0 q.0 (sym (text-cons a more) ∙ (e ∙ text-cons b others)) in
    let rest = text_tells_its_journal more others p.1 q.1 first.1 in
    ap (λ v. v ∷ map told more) first.0 ∙ ap (λ l. told b ∷ l) rest

text_left : (e : Event) (more : List Event) (rest : List ℕ) → text (e ∷ more) ++ rest ≡ text_of (event_lines e) ++ (text more ++ rest)
text_left e more rest = ap (λ t. t ++ rest) (text-cons e more) ∙ append_assoc (text_of (event_lines e)) (text more) rest

-- where no event follows what was read, the whole is the text of no journal
no_journal_of : (read journal : List Event) (rest : List ℕ) → ArePrinted read → ArePrinted journal → text read ++ rest ≡ text journal → rest ≢ []
    → ((e : Event) (more : List ℕ) → IsPrinted e → text_of (event_lines e) ++ more ≢ rest) → ⊥
no_journal_of [] [] rest p q e some none = some e
no_journal_of [] (j ∷ js) rest p q e some none = none j (text js) q.0 (sym (text-cons j js) ∙ sym e)
no_journal_of (r ∷ rs) [] rest p q e some none = event_some r (text rs ++ rest) p.0 (sym (text_left r rs rest) ∙ e)
no_journal_of (r ∷ rs) (j ∷ js) rest p q e some none =
    let first = event_once r j (text rs ++ rest) (text js) p.0 q.0 (sym (text_left r rs rest) ∙ (e ∙ text-cons j js)) in
    no_journal_of rs js rest p.1 q.1 first.1 some none

-- where no event follows what was read, and something is left, the whole is the text of no journal
pub nothing_told : (read : List Event) (rest whole : List ℕ) → ArePrinted read → text read ++ rest ≡ whole → rest ≢ []
    → ((e : Event) (more : List ℕ) → IsPrinted e → text_of (event_lines e) ++ more ≢ rest) → TellNothing whole
nothing_told read rest whole p is some none journal q e = no_journal_of read journal rest p q (is ∙ sym e) some none

ArePrinted-more : (read : List Event) (e : Event) → ArePrinted read → IsPrinted e → ArePrinted (read ++ e ∷ [])
ArePrinted-more [] e p q = (q, tt)
ArePrinted-more (r ∷ rs) e p q = (p.0, ArePrinted-more rs e p.1 q)

told-more : (read : List Event) (e : Event) → map told read ≡ read → told e ≡ e → map told (read ++ e ∷ []) ≡ read ++ e ∷ []
told-more [] e p q = ap (λ v. v ∷ []) q
told-more (r ∷ rs) e p q =
    let first : told r ≡ r = cc in
    let rest : map told rs ≡ rs = cc in
    ap (λ v. v ∷ map told (rs ++ e ∷ [])) first ∙ ap (λ l. r ∷ l) (told-more rs e rest q)

-- what was read so far, and what is left
pub record ReadSoFar (read : List Event) (rest whole : List ℕ) : Type 0 where
  pub text : text read ++ rest ≡ whole
  pub printed : ArePrinted read
  pub told : map told read ≡ read

-- one event more
pub read_more : (read : List Event) (e : Event) (rest next whole : List ℕ) → ReadSoFar read rest whole → IsPrinted e → told e ≡ e
    → text_of (event_lines e) ++ next ≡ rest → ReadSoFar (read ++ e ∷ []) next whole
read_more read e rest next whole so p q is = record {
  text = ap (λ t. t ++ next) (text-append read (e ∷ []) ∙ ap (λ t. text read ++ t) (text-one e))
      ∙ (append_assoc (text read) (text_of (event_lines e)) next ∙ (ap (λ t. text read ++ t) is ∙ so.text));
  printed = ArePrinted-more read e so.printed p;
  told = told-more read e so.told q;
}

-- ---- the whole

lines_append : (xs ys : List Line) → AreLines xs → AreLines ys → AreLines (xs ++ ys)
lines_append [] ys p q = q
lines_append (x ∷ xs) ys p q = (p.0, lines_append xs ys p.1 q)

lines_of_event : (e : Event) → IsPrinted e → AreLines (event_lines e)
lines_of_event e p = let h = printed_row e p in subst AreLines (sym h.lines) (start_is_one_line h.session h.row h.rest h.small h.one_line, h.behind)

lines_of_journal : (journal : List Event) → ArePrinted journal → AreLines (journal_lines journal)
lines_of_journal [] p = tt
lines_of_journal (e ∷ more) p = lines_append (event_lines e) (journal_lines more) (lines_of_event e p.0) (lines_of_journal more p.1)

-- the text of a journal is UTF-8
pub text_is_utf8 : (journal : List Event) → ArePrinted journal → IsUtf8 (text journal)
text_is_utf8 journal p = lines_utf8 (journal_lines journal) (lines_of_journal journal p)

-- what is read from a journal's text is what the text tells
pub told_again : (bytes : List ℕ) (read : Option (List Event)) → Tells bytes read → (journal : List Event) → ArePrinted journal → text journal ≡ bytes
    → read ≡ Some (map told journal)
told_again bytes None none journal p e = absurd (none journal p e)
told_again bytes (Some found) is journal p e = ap Some (sym is.told ∙ text_tells_its_journal found journal is.printed p (is.written ∙ sym e))

-- ---- the answers of the program

-- an event is read by its row, unless memory ran out
pub event_answered : (r : Result (Option EventText) NoMemory) (bytes line behind : List ℕ) (s : ℕ) (row : Row) (rest : List ℕ) → IsCutLine bytes line behind
    → IsSession s
    → line_of s (row_word row ++ rest) ≡ line → IfOk r (λ found. ReadsBehind found row s rest behind) → IfOk r (λ found. ReadsEvent found bytes)
event_answered (Ok found) bytes line behind s row rest cut small start is = event_read found bytes line behind s row rest cut small start is
event_answered (Err e) bytes line behind s row rest cut small start is = tt

-- a journal's text is answered with what it tells
pub again_answered : (r : Result (Option (List Event)) NoMemory) (bytes : List ℕ) → IfOk r (λ read. Tells bytes read)
    → (journal : List Event) → ArePrinted journal → text journal ≡ bytes → IfOk r (λ read. read ≡ Some (map told journal))
again_answered (Ok read) bytes is journal p e = told_again bytes read is journal p e
again_answered (Err e) bytes is journal p same = tt

-- bytes that are no UTF-8 tell nothing
pub no_utf8_tells : (bytes : List ℕ) → (IsUtf8 bytes → ⊥) → TellNothing bytes
no_utf8_tells bytes none journal p e = none (subst IsUtf8 e (text_is_utf8 journal p))
