-- Bytes that are cut at their first newline.
use Rattle.std.proofs.Common.{◌≡◌, ℕ, zero, suc, ◌+◌, ◌-◌, ◌<◌, ◌≤◌, ◌==◌, Bool, true, false, not, cond, List, [], ◌∷◌, ◌++◌, length, take, drop, get_or, None, Some, refl, sym, ap, ◌∙◌, subst, arith}
use Rattle.std.proofs.lemmas.Bool.{ltb-false, eqb-true}
use Rattle.std.proofs.lemmas.List.{take-append-drop, take_all, drop_more, length-drop}
use Rattle.std.proofs.lemmas.List.Quantifiers.{position-Some}
use Rattle.std.specs.List.{position, position_or_len}
use Rattle.xml_model.specs.Pyx.{IsPlain, IsCutLine}

abbrev is_newline : ℕ → Bool
is_newline b = b == 10

-- bytes with no newline up to a place
plain_before : (bs : List ℕ) (i : ℕ) → ((k : ℕ) → k < i → is_newline (get_or bs k 0) ≡ false) → IsPlain (take i bs)
plain_before [] zero before = tt
plain_before [] (suc i) before = tt
plain_before (b ∷ bs) zero before = tt
plain_before (b ∷ bs) (suc i) before = (before 0 (omega arith), plain_before bs i (λ k h. before (suc k) (omega arith)))

-- bytes whose first newline stands at none of their places
plain_past : (bs : List ℕ) → length bs ≤ position_or_len is_newline bs → IsPlain bs
plain_past [] past = tt
plain_past (b ∷ bs) past = at (b == 10) refl past (plain_past bs)
  where
    at : (t : Bool) → (b == 10) ≡ t → length (b ∷ bs) ≤ cond (not t) (1 + position_or_len is_newline bs) 0
        → (length bs ≤ position_or_len is_newline bs → IsPlain bs) → IsPlain (b ∷ bs)
    at true is past more = absurd (omega arith)
    at false is past more = (is, more (omega arith))

none_past : (t : Bool) (n : ℕ) → cond t (Some n) None ≡ None → t ≡ false
none_past true n is = cc
none_past false n is = refl

-- Bytes in which no newline is found are plain.
pub none_found : (bs : List ℕ) → position is_newline bs ≡ None → IsPlain bs
none_found bs is = plain_past bs (ltb-false _ _ (none_past _ _ is))

-- Where the first newline is found, the bytes are cut there.
pub cut_found : (bs : List ℕ) (i : ℕ) → position is_newline bs ≡ Some i → IsCutLine bs (take i bs) (take (length bs - (i + 1)) (drop (i + 1) bs))
cut_found bs i is =
    let at = position-Some is_newline bs i 0 is in
    let behind : take (length bs - (i + 1)) (drop (i + 1) bs) ≡ drop (i + 1) bs = take_all _ _ (omega (arith, length-drop (i + 1) bs)) in
    let newline : get_or bs i 0 ≡ 10 = eqb-true (get_or bs i 0) 10 at.1 in
    subst (IsCutLine bs (take i bs)) (sym behind) (record {
      whole = sym (take-append-drop i bs) ∙ ap (λ l. take i bs ++ l) (drop_more bs i 0 at.0 ∙ ap (λ b. b ∷ drop (i + 1) bs) newline);
      plain = plain_before bs i at.2;
    })
