-- The first line of some bytes.
use Rattle.std.proofs.Common.{◌≡◌, ◌≢◌, ℕ, ◌+◌, ◌<◌, List, [], ◌∷◌, ◌++◌, length, get_or, take, drop, refl, ap, sym, ◌∙◌, arith, add-one, ◌-◌, true, IsUtf8, eq-eqb, length-drop, take-append-drop, drop-cons}
use Rattle.std.proofs.lemmas.List.{get_or-take, length-take, take_all}
use Rattle.std.proofs.lemmas.Str.{utf8_valid_len-IsUtf8}
use Rattle.xml_model.specs.Pyx.{IsPlain}
use Rattle.xml_model.proofs.TextLines.{plain_by_index, first_at_newline, first_of_one}
use Rattle.script_text.specs.ScriptEnds.{IsFirst}
use Rattle.script_text.specs.Scripts.{is_text}

plain_front : (bytes : List ℕ) (i : ℕ) → ((k : ℕ) → k < i → get_or bytes k 0 ≢ 10) → IsPlain (take i bytes)
plain_front bytes i lacks =
    plain_by_index (take i bytes) (λ k h e. let less : k < i = omega (arith, length-take i bytes) in lacks k less (sym (get_or-take i bytes k 0 less) ∙ e))

whole_at : (bytes : List ℕ) (i : ℕ) → i < length bytes → get_or bytes i 0 ≡ 10 → bytes ≡ take i bytes ++ 10 ∷ drop (i + 1) bytes
whole_at bytes i h e =
    let d : drop i bytes ≡ get_or bytes i 0 ∷ drop (i + 1) bytes = rw add-one (drop-cons bytes i 0 h) in
    sym (take-append-drop i bytes) ∙ (ap (λ l. take i bytes ++ l) d ∙ ap (λ b. take i bytes ++ b ∷ drop (i + 1) bytes) e)

-- all after an index
behind_all : (bytes : List ℕ) (i : ℕ) → take (length bytes - i) (drop i bytes) ≡ drop i bytes
behind_all bytes i = take_all (length bytes - i) (drop i bytes) (omega (arith, length-drop i bytes))

-- bytes with a newline
pub first_ended : (bytes : List ℕ) (i : ℕ) → i < length bytes → get_or bytes i 0 ≡ 10 → ((k : ℕ) → k < i → get_or bytes k 0 ≢ 10)
    → IsFirst bytes (take i bytes) (take (length bytes - (i + 1)) (drop (i + 1) bytes))
first_ended bytes i within at lacks =
    let first = first_at_newline bytes (take i bytes) (drop (i + 1) bytes) (record { whole = whole_at bytes i within at; plain = plain_front bytes i lacks }) in
    let same = behind_all bytes (i + 1) in
    rw same (record { lines = first.lines; shorter = first.shorter })

none_behind : (bytes : List ℕ) (i : ℕ) → i ≡ length bytes → take (length bytes - i) (drop i bytes) ≡ []
none_behind bytes i end = let none : length bytes - i ≡ 0 = omega arith in rw none refl

-- bytes without one
pub first_whole : (bytes : List ℕ) (i : ℕ) → bytes ≢ [] → i ≡ length bytes → ((k : ℕ) → k < i → get_or bytes k 0 ≢ 10)
    → IsFirst bytes bytes (take (length bytes - i) (drop i bytes))
first_whole bytes i some end lacks =
    let first = first_of_one bytes some (plain_by_index bytes (λ k h. let less : k < i = omega arith in lacks k less)) in
    let none = none_behind bytes i end in
    rw none (record { lines = first.lines; shorter = first.shorter })

-- bytes that are text pass its test
pub text_is_text : (line : List ℕ) → IsUtf8 line → is_text line ≡ true
text_is_text line text = rw (utf8_valid_len-IsUtf8 line text) (eq-eqb (length line) (length line) refl)
