-- The text of events, part by part.
use Rattle.std.proofs.Common.{◌≡◌, ◌≤◌, ◌-◌, length, get_or, take, drop, arith, ℕ, Bool, true, false, List, [], ◌∷◌, ◌++◌, if◌then◌else◌, nat_eq, refl, ap, sym, ◌∙◌, append_assoc, append-nil}
use Rattle.std.specs.Prelude.{codes}
use Rattle.std.specs.Fmt.{decimal}
use Rattle.xq_ast.specs.declared.need.Need.{Need}
use Rattle.xml_model.specs.Pyx.{Line, text_of}
use Rattle.std.proofs.lemmas.Grind.{common_steps}
use Rattle.session_core.specs.declared.history.event.Says.TheVariants as answers
use Rattle.session_core.specs.declared.history.event.Event.{Event}
use Rattle.script_text.specs.declared.journals.pieces.Piece.{Piece}
use Rattle.script_text.specs.Pieces.{piece_text, pieces_text, others_text}
use Rattle.script_text.specs.JournalText.{doubled, need_text, needs_text, line_of, answer_lines, event_lines, journal_lines, text}

-- the text of two lists of lines is the text of the first and then that of the second
pub text_of-append : (xs ys : List Line) → text_of (xs ++ ys) ≡ text_of xs ++ text_of ys
text_of-append [] ys = refl
text_of-append (x ∷ xs) ys = ap (λ r. x ++ 10 ∷ r) (text_of-append xs ys) ∙ sym (append_assoc x (10 ∷ text_of xs) (text_of ys))

-- the text of two lists of pieces is the text of the first and then that of the second
pub pieces_text-append : (xs ys : List Piece) → pieces_text (xs ++ ys) ≡ pieces_text xs ++ pieces_text ys
pieces_text-append [] ys = refl
pieces_text-append (x ∷ xs) ys = ap (λ r. piece_text x ++ r) (pieces_text-append xs ys) ∙ sym (append_assoc (piece_text x) (pieces_text xs) (pieces_text ys))

-- the text of one piece alone is that piece's text
pub pieces_text-one : (p : Piece) → pieces_text (p ∷ []) ≡ piece_text p
pieces_text-one p = append-nil (piece_text p)

-- the text of two journals in a row is the text of the first and then that of the second
pub text-append : (xs ys : List Event) → text (xs ++ ys) ≡ text xs ++ text ys
text-append [] ys = refl
text-append (x ∷ xs) ys =
    text_of-append (event_lines x) (journal_lines (xs ++ ys)) ∙ (ap (λ r. text_of (event_lines x) ++ r) (text-append xs ys)
    ∙ (sym (append_assoc (text_of (event_lines x)) (text xs) (text ys)) ∙ ap (λ r. r ++ text ys) (sym (text_of-append (event_lines x) (journal_lines xs)))))

-- the text of one event alone is that of its lines
pub text-one : (e : Event) → text (e ∷ []) ≡ text_of (event_lines e)
text-one e = ap text_of (append-nil (event_lines e))

-- one byte, doubled
abbrev pub doubled_byte : ℕ → List ℕ
doubled_byte b = doubled (b ∷ [])

-- doubling the quotes of two texts in a row doubles those of each
pub doubled-append : (xs ys : List ℕ) → doubled (xs ++ ys) ≡ doubled xs ++ doubled ys
doubled-append [] ys = refl
doubled-append (b ∷ bs) ys = by_test (nat_eq b 39) (doubled-append bs ys)
  where
    by_test : (t : Bool) → doubled (bs ++ ys) ≡ doubled bs ++ doubled ys
        → (if t then b ∷ b ∷ doubled (bs ++ ys) else b ∷ doubled (bs ++ ys)) ≡ (if t then b ∷ b ∷ doubled bs else b ∷ doubled bs) ++ doubled ys
    by_test true e = ap (λ r. b ∷ b ∷ r) e
    by_test false e = ap (λ r. b ∷ r) e

-- the text of two lists of further needs is the text of the first and then that of the second
pub others_text-append : (xs ys : List Need) → others_text (xs ++ ys) ≡ others_text xs ++ others_text ys
others_text-append [] ys = refl
others_text-append (x ∷ xs) ys =
    ap (λ r. (codes ", " ++ need_text x) ++ r) (others_text-append xs ys) ∙ sym (append_assoc (codes ", " ++ need_text x) (others_text xs) (others_text ys))

-- a further need alone is a comma, a space and its text
pub others_text-one : (n : Need) → others_text (n ∷ []) ≡ codes ", " ++ need_text n
others_text-one n = append-nil (codes ", " ++ need_text n)

-- the needs are the first and the others
pub needs_text-cons : (n : Need) (ns : List Need) → needs_text (n ∷ ns) ≡ need_text n ++ others_text ns
needs_text-cons n [] = sym (append-nil (need_text n))
needs_text-cons n (m ∷ more) = ap (λ r. need_text n ++ (codes ", " ++ r)) (needs_text-cons m more)

-- a line in three parts: the session and the first words, what stands after them, and its end
pub line_parts : (n session : ℕ) (words behind : List ℕ) → n ≡ session
    → (decimal n ++ (words ++ [])) ++ (behind ++ 10 ∷ []) ≡ (decimal session ++ (words ++ behind)) ++ 10 ∷ []
line_parts n session words behind e = rw e (simp (append_assoc, append-nil {A = ℕ}))

-- all after the first
tail_all : (n : Need) (ns : List Need) → take (length (n ∷ ns) - 1) ns ≡ ns
tail_all n ns = grind (arith, common_steps)

-- needs in two parts, as a slice has them
pub needs_parts : (xs ns : List Need) (first : Need) → xs ≡ ns → 1 ≤ length xs → first ≡ get_or xs 0 first
    → need_text first ++ others_text (take (length xs - 1) (drop 1 xs)) ≡ needs_text ns
needs_parts [] ns first same some at = absurd (omega arith)
needs_parts (x ∷ xs) ns first same some at =
    ap (λ l. need_text first ++ others_text l) (tail_all x xs)
    ∙ (ap (λ m. need_text m ++ others_text xs) at ∙ (sym (needs_text-cons x xs) ∙ ap needs_text same))

-- the first line of an answer, and its lines
pub answer_parts : (n session : ℕ) (all : List Line) → n ≡ length all
    → text_of (line_of session (codes "answer" ++ (codes " " ++ decimal n)) ∷ []) ++ text_of all ≡ text_of (answer_lines session (answers.Lines all))
answer_parts n session all e = rw e (sym (text_of-append (line_of session (codes "answer" ++ (codes " " ++ decimal (length all))) ∷ []) all))
