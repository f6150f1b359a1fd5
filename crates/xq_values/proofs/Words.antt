-- Texts of values, one after another, and what stands in a text.
use Rattle.std.proofs.Common.{◌≡◌, ℕ, zero, suc, ◌+◌, ◌≤◌, Bool, true, false, ◌&&◌, ◌||◌, List, [], ◌∷◌, ◌++◌, length, drop, map, refl, ap, sym, ◌∙◌, arith, append-nil, append_assoc, nat_eq, None, Result, Ok, Err}
use Rattle.std.specs.Prelude.{if◌then◌else◌}
use Rattle.std.specs.List.{join_with_byte, concat, starts_with}
use Rattle.std.specs.Bool.{MatchBool}
use Rattle.std.specs.Str.Pattern.{FindsText, LacksTextAt, HasMatch}
use Rattle.std.specs.Fmt.{char_count, is_char_start}
use Rattle.std.proofs.lemmas.Bool.Decides.{nat_tests}
use Rattle.xq_ast.specs.declared.code.Code.{Code}
use Rattle.xml_model.specs.declared.value.Atom.{Atom}
use Rattle.xml_model.specs.Items.{◌>>?◌}
use Rattle.xml_model.specs.Atoms.{Atoms, atom_text}
use Rattle.xml_model.specs.Constructors.{spaced}
use Rattle.xml_model.specs.FunctionAnswers.{concat_argument, concat_arguments, begins_with, has_within}
use Rattle.xq_values.specs.Words.{all_words, concat_onto, chars_of}

-- ---- texts with spaces between

joined_words : (a : Atom) (more : Atoms) → join_with_byte 32 (atom_text a ∷ map atom_text more) ≡ atom_text a ++ all_words true more
joined_words a [] = sym (append-nil (atom_text a))
joined_words a (b ∷ more) = ap (λ r. atom_text a ++ 32 ∷ r) (joined_words b more)

-- one after another they are the texts with a space between each two
pub spaced_is : (values : Atoms) → all_words false values ≡ spaced values
spaced_is [] = refl
spaced_is (a ∷ more) = sym (joined_words a more)

-- ---- arguments of `concat`

abbrev behind : List ℕ → List (List ℕ) → Result (List ℕ) Code
behind all texts = Ok (all ++ concat texts)

with_rest : (all text : List ℕ) (rest : Result (List (List ℕ)) Code) → (rest >>? behind (all ++ text)) ≡ ((rest >>? (λ texts. Ok (text ∷ texts))) >>? behind all)
with_rest all text (Ok texts) = ap (λ t. Ok t) (append_assoc all text (concat texts))
with_rest all text (Err code) = refl

with_first : (all : List ℕ) (more : List Atoms) (first : Result (List ℕ) Code) → ((longer : List ℕ) → concat_onto longer more ≡ (concat_arguments more >>? behind longer))
    → ((first >>? (λ text. Ok (all ++ text))) >>? (λ longer. concat_onto longer more))
    ≡ ((first >>? (λ text. concat_arguments more >>? (λ texts. Ok (text ∷ texts)))) >>? behind all)
with_first all more (Ok text) same = same (all ++ text) ∙ with_rest all text (concat_arguments more)
with_first all more (Err code) same = refl

concat_from : (arguments : List Atoms) (all : List ℕ) → concat_onto all arguments ≡ (concat_arguments arguments >>? behind all)
concat_from [] all = ap (λ t. Ok t) (sym (append-nil all))
concat_from (a ∷ more) all = with_first all more (concat_argument a) (concat_from more)

-- one after another they are the texts of all, joined
pub concat_is : (arguments : List Atoms) → concat_onto [] arguments ≡ (concat_arguments arguments >>? (λ texts. Ok (concat texts)))
concat_is arguments = concat_from arguments []

-- ---- characters

-- they are counted as the standard library counts them
pub chars_is : (text : List ℕ) → chars_of text ≡ char_count text
unfolding char_count
chars_is [] = refl
chars_is (b ∷ text) = ap (λ n. (if is_char_start b then 1 else 0) + n) (chars_is text)

-- ---- what stands in a text

same_byte : (b : ℕ) → nat_eq b b ≡ true
same_byte b = grind (arith, nat_tests)

byte_is : (a b : ℕ) → nat_eq a b ≡ true → a ≡ b
byte_is a b e = grind (arith, nat_tests)

turned_round : (a b : ℕ) → nat_eq b a ≡ nat_eq a b
turned_round a b = grind (arith, nat_tests)

-- what `starts_with` answers
pub starts_is : (text wanted : List ℕ) → starts_with nat_eq text wanted ≡ begins_with text wanted
starts_is [] [] = refl
starts_is (a ∷ text) [] = refl
starts_is [] (b ∷ wanted) = refl
starts_is (a ∷ text) (b ∷ wanted) = ap (λ t. t && starts_with nat_eq text wanted) (turned_round a b) ∙ ap (λ t. nat_eq a b && t) (starts_is text wanted)

begins_front : (wanted rest : List ℕ) → begins_with (wanted ++ rest) wanted ≡ true
begins_front [] [] = refl
begins_front [] (r ∷ rest) = refl
begins_front (w ∷ wanted) rest = rw (same_byte w) (begins_front wanted rest)

begins_whole : (text wanted : List ℕ) → begins_with text wanted ≡ true → text ≡ wanted ++ drop (length wanted) text
begins_whole [] [] e = refl
begins_whole (a ∷ text) [] e = refl
begins_whole [] (b ∷ wanted) e = absurd (cc)
begins_whole (a ∷ text) (b ∷ wanted) e = by_test (nat_eq a b) refl e (begins_whole text wanted)
  where
    by_test : (t : Bool) → nat_eq a b ≡ t → (t && begins_with text wanted) ≡ true → (begins_with text wanted ≡ true → text ≡ wanted ++ drop (length wanted) text)
        → a ∷ text ≡ b ∷ (wanted ++ drop (length wanted) text)
    by_test true same e more = let first : a ≡ b = byte_is a b same in let others : text ≡ wanted ++ drop (length wanted) text = more e in cc
    by_test false other e more = absurd (cc)

or_true : (b : Bool) → (b || true) ≡ true
or_true true = refl
or_true false = refl

found_in_front : (text wanted rest : List ℕ) → text ≡ wanted ++ rest → has_within text wanted ≡ true
found_in_front [] wanted rest e = ap (λ t. begins_with t wanted) e ∙ begins_front wanted rest
found_in_front (a ∷ text) wanted rest e = ap (λ b. b || has_within text wanted) (ap (λ t. begins_with t wanted) e ∙ begins_front wanted rest)

found_at : (text wanted rest : List ℕ) (i : ℕ) → drop i text ≡ wanted ++ rest → has_within text wanted ≡ true
found_at text wanted rest zero e = found_in_front text wanted rest e
found_at [] wanted rest (suc i) e = found_in_front [] wanted rest e
found_at (a ∷ text) wanted rest (suc i) e =
    ap (λ b. begins_with (a ∷ text) wanted || b) (found_at text wanted rest i e) ∙ or_true (begins_with (a ∷ text) wanted)

lacks_front : (text wanted : List ℕ) → LacksTextAt wanted text 0 → begins_with text wanted ≡ false
lacks_front text wanted lacks = by_test (begins_with text wanted) refl
  where
    by_test : (t : Bool) → begins_with text wanted ≡ t → t ≡ false
    by_test true e = absurd (lacks (drop (length wanted) text) (begins_whole text wanted e))
    by_test false e = refl

found_nowhere : (text wanted : List ℕ) → ((i : ℕ) → i ≤ length text → LacksTextAt wanted text i) → has_within text wanted ≡ false
found_nowhere [] wanted lacks = lacks_front [] wanted (lacks 0 (omega arith))
found_nowhere (a ∷ text) wanted lacks =
    ap (λ b. b || has_within text wanted) (lacks_front (a ∷ text) wanted (lacks 0 (omega arith)))
    ∙ found_nowhere text wanted (λ i le rest. lacks (suc i) (omega arith) rest)

-- what `contains` answers
pub contains_is : (text wanted : List ℕ) (b : Bool) → MatchBool b (HasMatch (FindsText wanted) text) (FindsText wanted text None) → b ≡ has_within text wanted
contains_is text wanted true found = sym (found_at text wanted (drop found.1 text) found.0 found.2.1.split)
contains_is text wanted false none = sym (found_nowhere text wanted none)
