-- Lines that are read one after another, and how long their text is.
use Rattle.std.proofs.Common.{◌≡◌, ℕ, ◌+◌, ◌<◌, ◌≤◌, suc, true, false, nat_lt, get_or, drop, drop-cons, List, [], ◌∷◌, length, Result, Ok, Err, refl, sym, ap, ◌∙◌, arith, length-append}
use Rattle.std.proofs.lemmas.Bool.Decides.{nat_tests}
use Rattle.xml_model.specs.declared.node.Doc.{Doc}
use Rattle.xml_model.specs.declared.node.RefusedLine.{RefusedLine}
use Rattle.xml_model.specs.Pyx.{Reading, Line, start, after, step, ended, read, text_of, ◌>>=◌}
use Rattle.pyx_text.specs.declared.fault.PyxFault.{PyxFault}
use Rattle.pyx_text.specs.declared.fault.PyxFault.TheVariants.{Refused, NoMemory}
use Rattle.pyx_text.specs.Reader.{TakesLine, Ends, end_of}
use Rattle.session_run.specs.Effects.{Spells}

-- the line at a place, and those after it
pub next_line : (lines : List Line) (i : ℕ) (line : Line) → i < length lines → line ≡ get_or lines i line → drop i lines ≡ line ∷ drop (i + 1) lines
next_line lines i line within is =
    let more : suc i ≡ i + 1 = omega arith in
    drop-cons lines i line within ∙ (λ j. sym is j ∷ drop (more j) lines)

-- what has been read, with one line more of those that are left
pub one_read : (r : Result Reading RefusedLine) (line : Line) (rest : List Line) → (r >>= after (line ∷ rest)) ≡ ((r >>= step line) >>= after rest)
one_read (Ok x) line rest = refl
one_read (Err e) line rest = refl

-- with no lines left, what has been read stays as it is
pub none_left : (r : Result Reading RefusedLine) → (r >>= after []) ≡ r
none_left (Ok x) = refl
none_left (Err e) = refl

-- one line more of a text
pub length-text : (line : Line) (lines : List Line) → length (text_of (line ∷ lines)) ≡ length line + (1 + length (text_of lines))
length-text line lines = length-append line (10 ∷ text_of lines) ∙ ap (λ n. length line + n) (omega arith)

-- the test says that a number above the limit is above it
pub past_limit : (limit n : ℕ) → limit < n → nat_lt limit n ≡ true
past_limit limit n above = grind (arith, nat_tests)

-- the test says that a number up to the limit is not above it
pub within_limit : (limit n : ℕ) → n ≤ limit → nat_lt limit n ≡ false
within_limit limit n within = grind (arith, nat_tests)

-- a line that is refused refuses them all
pub refused_at : (fault : PyxFault) (old new : Result Reading RefusedLine) (line : Line) (rest lines : List Line)
    → TakesLine {T = Unit {0}} (Err fault) line old new
    → (old >>= after (line ∷ rest)) ≡ after lines start → Spells (Err fault) (read lines)
refused_at (Refused e) old new line rest lines taken so_far =
    ap (λ r. r >>= ended) (sym so_far ∙ one_read old line rest ∙ ap (λ r. r >>= after rest) (sym taken.0 ∙ taken.1))
refused_at NoMemory old new line rest lines taken so_far = tt

-- what the reader has at the end
pub spelled : (result : Result Doc PyxFault) (r : Result Reading RefusedLine) (lines : List Line) → r ≡ after lines start → Ends result (end_of r)
    → Spells result (read lines)
spelled (Ok doc) r lines is ends = ap (λ x. x >>= ended) (sym is) ∙ ends
spelled (Err (Refused e)) r lines is ends = ap (λ x. x >>= ended) (sym is) ∙ ends
spelled (Err NoMemory) r lines is ends = tt
