-- The first line of a text, at its first newline.
use Rattle.std.proofs.Common.{◌≡◌, ◌≢◌, ℕ, suc, ◌<◌, true, false, List, [], ◌∷◌, ◌++◌, length, get_or, nat_eq, refl, ap, ◌∙◌, arith, length-append}
use Rattle.xml_model.specs.Pyx.{Line, in_front, in_front_of_ended, split_lines, split_ended_lines, IsFirstLine, IsPlain, IsCutLine}
use Rattle.xml_model.proofs.TextAgain.{first_line}

not_newline : (b : ℕ) → b ≢ 10 → nat_eq b 10 ≡ false
not_newline b ne = grind (arith, ne)

-- bytes that have no newline at any index are plain
pub plain_by_index : (xs : List ℕ) → ((i : ℕ) → i < length xs → get_or xs i 0 ≢ 10) → IsPlain xs
plain_by_index [] lacks = tt
plain_by_index (x ∷ xs) lacks =
    (not_newline x (lacks 0 (omega arith)), plain_by_index xs (λ i h. let less : suc i < length (x ∷ xs) = omega arith in lacks (suc i) less))

-- a text without a newline is one line, and no ended one
one_line : (b : ℕ) (bs : List ℕ) → IsPlain (b ∷ bs) → split_lines (b ∷ bs) ≡ (b ∷ bs) ∷ []
one_line b [] plain = rw plain.0 refl
one_line b (c ∷ bs) plain = rw plain.0 (ap (in_front b) (one_line c bs plain.1))

none_ended : (bs : List ℕ) → IsPlain bs → split_ended_lines bs ≡ []
none_ended [] plain = refl
none_ended (b ∷ bs) plain = rw plain.0 (ap (in_front_of_ended b) (none_ended bs plain.1))

first_ended : (line : Line) (rest : List ℕ) → IsPlain line → split_ended_lines (line ++ 10 ∷ rest) ≡ line ∷ split_ended_lines rest
first_ended [] rest plain = refl
first_ended (b ∷ line) rest plain = rw plain.0 (ap (in_front_of_ended b) (first_ended line rest plain.1))

-- a text cut at its first newline has as its first line what stands before it, and that line is ended
pub first_at_newline : (text line rest : List ℕ) → IsCutLine text line rest → IsFirstLine text line true rest
first_at_newline text line rest cut = record {
  lines = ap split_lines cut.whole ∙ first_line line rest cut.plain;
  ended = ap split_ended_lines cut.whole ∙ first_ended line rest cut.plain;
  shorter = omega (arith, ap length cut.whole, length-append line (10 ∷ rest));
}

-- a text with bytes and without a newline is one line, which no newline ends, and nothing is left
pub first_of_one : (text : List ℕ) → text ≢ [] → IsPlain text → IsFirstLine text text false []
first_of_one [] some plain = elim (some refl) [ ]
first_of_one (b ∷ bs) some plain = record { lines = one_line b bs plain; ended = none_ended (b ∷ bs) plain; shorter = omega arith }
