-- The turns of the loops.
use Rattle.std.proofs.Common.{◌≡◌, ◌≢◌, ℕ, zero, suc, ◌+◌, ◌-◌, ◌*◌, ◌<◌, ◌≤◌, true, false, List, [], ◌∷◌, ◌++◌, length, take, drop, get_or, fold, Option, None, Some, max, nat_le, IsUtf8, refl, ap, sym, ◌∙◌, subst, arith, append_assoc, append-nil, drop-cons, length-drop}
use Rattle.std.specs.Prelude.{codes, map, option_map}
use Rattle.std.specs.List.{prefix_len}
use Rattle.std.proofs.lemmas.Bool.Decides.{nat_tests}
use Rattle.xq_ast.specs.declared.limits.TheConstants.{INTEGER_MAX}
use Rattle.xq_ast.specs.declared.token.Token.{Token}
use Rattle.xq_ast.specs.Tokens as spec
use Rattle.xq_ast.specs.Tokens.{◌>>=◌, behind, behind_front, second_part, with_second, name, digit_more, string, string_from, string_part, comment_turn, behind_comments, piece, pieces, with_piece, Spelled}
use Rattle.xq_ast.specs.Names.{continues_part}
use Rattle.xq_ast.specs.Parsed.{most_open, open_behind}
use Rattle.xq_parse.specs.declared.comment.CommentTurn.{CommentTurn}
use Rattle.xq_parse.specs.Pieces.{turned}
use Rattle.xq_parse.proofs.Behind.{IsPartOf, part_is, piece_behind, string_is, utf8_after, quote_ascii}
use Rattle.xq_parse.proofs.Fuel.{comment_step, string_step, piece_then, pieces_step}

-- ---- comments

-- a turn over comments leaves what stands after all of them as it is
pub comment_kept : (opened : ℕ) (bytes : List ℕ) (whole : Option (List ℕ)) (t : Option CommentTurn) → 0 < opened
    → ((more : ℕ → List ℕ → Option (List ℕ)) → comment_turn (behind (codes "(:") bytes) (behind (codes ":)") bytes) bytes (opened - 1) more ≡ turned t more)
    → behind_comments (length bytes) opened bytes ≡ whole → turned t (λ k after. behind_comments (length after) k after) ≡ whole
comment_kept zero bytes whole t some turn so_far = absurd (omega arith)
comment_kept (suc opened) bytes whole t some turn so_far =
    let e : suc opened - 1 ≡ opened = omega arith in
    let f : ℕ → List ℕ → Option (List ℕ) = λ k after. behind_comments (length after) k after in
    sym (turn f) ∙ (ap (λ k. comment_turn (behind (codes "(:") bytes) (behind (codes ":)") bytes) bytes k f) e ∙ (sym (comment_step opened bytes) ∙ so_far))

-- ---- integers

grows : (value : ℕ) (digits : List ℕ) → value ≤ fold digit_more value digits
grows value [] = omega arith
grows value (d ∷ digits) = let more = grows (10 * value + (d - 48)) digits in omega arith

-- a number that is past the limit stays so
pub past_limit : (digits : List ℕ) (i value : ℕ) → i < length digits → fold digit_more value (drop i digits) ≡ fold digit_more 0 digits
    → INTEGER_MAX < 10 * value + (get_or digits i 0 - 48) → INTEGER_MAX < fold digit_more 0 digits
past_limit digits i value less so_far past =
    let more = grows (10 * value + (get_or digits i 0 - 48)) (drop (suc i) digits) in
    let e : fold digit_more value (drop i digits) ≡ fold digit_more (10 * value + (get_or digits i 0 - 48)) (drop (suc i) digits) =
    ap (fold digit_more value) (drop-cons digits i 0 less) in
    omega arith

-- ---- names

abbrev none : List ℕ
none = []

take_none : (k n : ℕ) → take k (drop n none) ≡ none
take_none zero n = refl
take_none (suc k) zero = refl
take_none (suc k) (suc n) = refl

drop_none : (k n : ℕ) → drop k (drop n none) ≡ none
drop_none zero zero = refl
drop_none zero (suc n) = refl
drop_none (suc k) zero = refl
drop_none (suc k) (suc n) = refl

take_both : (n m : ℕ) (xs : List ℕ) → take n xs ++ take m (drop n xs) ≡ take (n + m) xs
take_both zero m xs = let e : 0 + m ≡ m = omega arith in rw e refl
take_both (suc n) m [] = let e : suc n + m ≡ suc (n + m) = omega arith in rw e (take_none m (suc n))
take_both (suc n) m (x ∷ xs) = let e : suc n + m ≡ suc (n + m) = omega arith in rw e (ap (λ r. x ∷ r) (take_both n m xs))

drop_both : (n m : ℕ) (xs : List ℕ) → drop m (drop n xs) ≡ drop (n + m) xs
drop_both zero m xs = let e : 0 + m ≡ m = omega arith in rw e refl
drop_both (suc n) m [] = let e : suc n + m ≡ suc (n + m) = omega arith in rw e (drop_none m (suc n))
drop_both (suc n) m (x ∷ xs) = let e : suc n + m ≡ suc (n + m) = omega arith in rw e (drop_both n m xs)

take_whole : (k : ℕ) (xs : List ℕ) → length xs ≤ k → take k xs ≡ xs
take_whole zero [] h = refl
take_whole zero (x ∷ xs) h = absurd (omega arith)
take_whole (suc k) [] h = refl
take_whole (suc k) (x ∷ xs) h = ap (λ r. x ∷ r) (take_whole k xs (omega arith))

-- all that stands behind the first n
pub take_rest : (n : ℕ) (xs : List ℕ) → take (length xs - n) (drop n xs) ≡ drop n xs
take_rest n xs = take_whole (length xs - n) (drop n xs) (omega (arith, length-drop n xs))

-- a name of one part and of a second one
pub name_of_both : (bytes rest : List ℕ) (n m : ℕ) → n ≡ prefix_len continues_part bytes → rest ≡ drop n bytes
    → ((first : List ℕ) → with_second first rest (second_part rest) ≡ (first ++ take m rest, drop m rest))
    → name bytes ≡ (take (n + m) bytes, drop (n + m) bytes)
name_of_both bytes rest n m count is second =
    let all : List ℕ × List ℕ = (take n bytes ++ take m (drop n bytes), drop m (drop n bytes)) in
    let named : name bytes ≡ all =
    subst (λ k. with_second (take k bytes) (drop k bytes) (second_part (drop k bytes)) ≡ all) count
    (subst (λ r. with_second (take n bytes) r (second_part r) ≡ (take n bytes ++ take m r, drop m r)) is (second (take n bytes))) in
    named ∙ (ap (λ x. let y : List ℕ × List ℕ = (x, drop m (drop n bytes)) in y) (take_both n m bytes)
    ∙ ap (λ x. let y : List ℕ × List ℕ = (take (n + m) bytes, x) in y) (drop_both n m bytes))

-- ---- brackets

-- where a token opens a bracket too many, the most brackets that are open at once are too many
pub too_many : (tokens_ : List Token) (i opened most : ℕ) (t : Token) → i < length tokens_ → t ≡ get_or tokens_ i t → opened ≤ most
    → most < open_behind opened t
    → nat_le (most_open opened (drop i tokens_)) most ≡ nat_le (most_open 0 tokens_) most → false ≡ nat_le (most_open 0 tokens_) most
too_many tokens_ i opened most t less is few many so_far =
    let e : drop i tokens_ ≡ t ∷ drop (suc i) tokens_ = drop-cons tokens_ i t less ∙ ap (λ x. x ∷ drop (suc i) tokens_) (sym is) in
    let step : most_open opened (drop i tokens_) ≡ max opened (most_open (open_behind opened t) (drop (suc i) tokens_)) = ap (most_open opened) e in
    let past : most < most_open (open_behind opened t) (drop (suc i) tokens_) = at_least (open_behind opened t) (drop (suc i) tokens_) many in
    let more : nat_le (most_open opened (drop i tokens_)) most ≡ false = not_within _ most (omega (arith, step)) in
    sym more ∙ so_far
  where
    at_least : (n : ℕ) (ts : List Token) → most < n → most < most_open n ts
    at_least n [] h = h
    at_least n (x ∷ ts) h = omega arith

    not_within : (n m : ℕ) → m < n → nat_le n m ≡ false
    not_within n m h = grind (arith, nat_tests)

-- ---- strings

-- with one byte more of the text read, the text so far and what follows are still the whole string
pub string_goes_on : (quote byte : ℕ) (rest after text new : List ℕ) (whole : Option (List ℕ × List ℕ)) → quote < 128
    → string_part quote rest ≡ spec.StringPart.holds (byte ∷ []) after → new ≡ text ++ byte ∷ []
    → (string (length rest) quote rest >>= (λ r. Some (text ++ r.0, r.1))) ≡ whole
    → (string (length after) quote after >>= (λ r. Some (new ++ r.0, r.1))) ≡ whole
string_goes_on quote byte rest after text new whole small part pushed so_far =
    by_rest (string (length after) quote after) (string_step quote rest small ∙ ap (λ p. string_from p (λ us. string (length us) quote us)) part)
  where
    by_rest : (o : Option (List ℕ × List ℕ)) → string (length rest) quote rest ≡ (o >>= (λ r. Some ((byte ∷ []) ++ r.0, r.1)))
        → (o >>= (λ r. Some (new ++ r.0, r.1))) ≡ whole
    by_rest None e = sym (ap (λ o. o >>= (λ r. let x : Option (List ℕ × List ℕ) = Some (text ++ r.0, r.1) in x)) e) ∙ so_far
    by_rest (Some r) e =
        ap (λ t. let x : Option (List ℕ × List ℕ) = Some (t ++ r.0, r.1) in x) pushed
        ∙ (ap (λ t. let x : Option (List ℕ × List ℕ) = Some (t, r.1) in x) (append_assoc text (byte ∷ []) r.0)
        ∙ (sym (ap (λ o. o >>= (λ r. let x : Option (List ℕ × List ℕ) = Some (text ++ r.0, r.1) in x)) e) ∙ so_far))

-- a part of a string that holds a byte leaves fewer bytes
pub string_gets_shorter : (quote byte : ℕ) (rest after : List ℕ) → quote < 128 → string_part quote rest ≡ spec.StringPart.holds (byte ∷ []) after
    → length after < length rest
string_gets_shorter quote byte rest after small part = (subst (IsPartOf rest) part (part_is quote rest small)).less

-- where a string ends, its text is the text so far, and the bytes stand after it
pub string_ends : (quote : ℕ) (rest after text : List ℕ) (whole : Option (List ℕ × List ℕ)) → quote < 128 → string_part quote rest ≡ spec.StringPart.ends after
    → (string (length rest) quote rest >>= (λ r. Some (text ++ r.0, r.1))) ≡ whole → whole ≡ Some (text, after)
string_ends quote rest after text whole small part so_far =
    let e : string (length rest) quote rest ≡ Some ([], after) = string_step quote rest small
    ∙ ap (λ p. string_from p (λ us. string (length us) quote us)) part in
    sym so_far ∙ (ap (λ o. o >>= (λ r. let x : Option (List ℕ × List ℕ) = Some (text ++ r.0, r.1) in x)) e
    ∙ ap (λ t. let x : Option (List ℕ × List ℕ) = Some (t, after) in x) (append-nil text))

-- where a string has a fault, there is no string
pub string_fails : (quote : ℕ) (rest text : List ℕ) (whole : Option (List ℕ × List ℕ)) → quote < 128 → string_part quote rest ≡ spec.StringPart.fault
    → (string (length rest) quote rest >>= (λ r. Some (text ++ r.0, r.1))) ≡ whole → whole ≡ None
string_fails quote rest text whole small part so_far =
    let e : string (length rest) quote rest ≡ None = string_step quote rest small ∙ ap (λ p. string_from p (λ us. string (length us) quote us)) part in
    sym so_far ∙ ap (λ o. o >>= (λ r. let x : Option (List ℕ × List ℕ) = Some (text ++ r.0, r.1) in x)) e

-- the text of a string is UTF-8
pub string_utf8 : (quote : ℕ) (bytes text rest : List ℕ) → quote < 128 → IsUtf8 bytes → string (length bytes) quote bytes ≡ Some (text, rest) → IsUtf8 text
string_utf8 quote bytes text rest small u e = (string_is (length bytes) quote bytes (text, rest) small e).utf8 [] u

-- ---- tokens

-- the pieces of bytes that begin with one are that piece and those of what follows
pub some_bytes : (rest : List ℕ) (p : spec.Piece × List ℕ) → piece rest ≡ Some p
    → pieces (length rest) rest ≡ piece_then rest (λ after. pieces (length after) after) p
some_bytes [] p e = cc
some_bytes (b ∷ rest) p e = pieces_step b rest ∙ ap (λ o. o >>= piece_then (b ∷ rest) (λ after. pieces (length after) after)) e

no_bytes : (rest : List ℕ) → rest ≢ [] → piece rest ≡ None → pieces (length rest) rest ≡ None
no_bytes [] some e = absurd (some refl)
no_bytes (b ∷ rest) some e = pieces_step b rest ∙ ap (λ o. o >>= piece_then (b ∷ rest) (λ after. pieces (length after) after)) e

-- the tokens so far, and those that are left: of each spelled token its part, the token or the length
module _ {A : Type 0} (part : Spelled → A) where
  with_piece-append : (p : spec.Piece) (n : ℕ) (more : List Spelled) → map part (with_piece p n []) ++ map part more ≡ map part (with_piece p n more)
  with_piece-append None n more = refl
  with_piece-append (Some t) n more = refl

  -- the tokens so far and those of the pieces that are left, if these can be read
  abbrev pub Goes : List A → Option (List Spelled) → Option (List A)
  Goes all left = left >>= (λ more. Some (all ++ map part more))

  -- with no tokens so far, those of the pieces that are left are all
  pub pieces_start : (o : Option (List Spelled)) → Goes [] o ≡ option_map (map part) o
  pieces_start None = refl
  pieces_start (Some more) = refl

  -- with no pieces left, the tokens so far are all
  pub pieces_end : (all : List A) → Goes all (Some []) ≡ Some all
  pieces_end all = ap (λ t. let x : Option (List A) = Some t in x) (append-nil all)

  by_rest : (p : spec.Piece) (n : ℕ) (all new : List A) (whole : Option (List A)) (o left : Option (List Spelled)) → new ≡ all ++ map part (with_piece p n [])
      → left ≡ (o >>= (λ more. Some (with_piece p n more))) → Goes all left ≡ whole → Goes new o ≡ whole
  by_rest p n all new whole None left added e so_far = sym (ap (Goes all) e) ∙ so_far
  by_rest p n all new whole (Some more) left added e so_far =
      ap (λ t. let x : Option (List A) = Some (t ++ map part more) in x) added
      ∙ (ap (λ t. let x : Option (List A) = Some t in x) (append_assoc all (map part (with_piece p n [])) (map part more)
      ∙ ap (λ t. all ++ t) (with_piece-append p n more))
      ∙ (sym (ap (Goes all) e) ∙ so_far))

  -- with one piece more read, the tokens so far and those of the pieces that are left are still the whole
  pub pieces_go_on : (rest after : List ℕ) (p : spec.Piece) (all new : List A) (whole : Option (List A)) → piece rest ≡ Some (p, after)
      → new ≡ all ++ map part (with_piece p (length rest - length after) [])
      → Goes all (pieces (length rest) rest) ≡ whole → Goes new (pieces (length after) after) ≡ whole
  pieces_go_on rest after p all new whole read added so_far =
      by_rest p (length rest - length after) all new whole (pieces (length after) after) (pieces (length rest) rest) added
      (some_bytes rest (p, after) read) so_far

  -- where bytes are left that begin with no piece, there are no tokens
  pub pieces_fail : (rest : List ℕ) (all : List A) (whole : Option (List A)) → rest ≢ [] → piece rest ≡ None → Goes all (pieces (length rest) rest) ≡ whole
      → whole ≡ None
  pieces_fail rest all whole some read so_far = sym so_far ∙ ap (Goes all) (no_bytes rest some read)

-- what stands after a piece of a UTF-8 text is UTF-8
pub piece_utf8 : (rest : List ℕ) (p : spec.Piece × List ℕ) → piece rest ≡ Some p → IsUtf8 rest → IsUtf8 p.1
piece_utf8 rest p e u = (piece_behind rest p e).utf8 [] u

-- a piece that was read leaves fewer bytes
pub piece_shrinks : (rest : List ℕ) (p : spec.Piece × List ℕ) → piece rest ≡ Some p → length p.1 < length rest
piece_shrinks rest p e = (piece_behind rest p e).less

-- behind a quote
pub behind_quote_utf8 : (bytes : List ℕ) → 1 ≤ length bytes → spec.is_quote (get_or bytes 0 0) ≡ true → IsUtf8 bytes
    → IsUtf8 (take (length bytes - 1) (drop 1 bytes))
behind_quote_utf8 [] some is u = absurd (omega arith)
behind_quote_utf8 (b ∷ bytes) some is u = subst IsUtf8 (sym (take_rest 1 (b ∷ bytes))) (utf8_after [] bytes b (quote_ascii b is) u)
