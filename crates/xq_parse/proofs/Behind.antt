-- What a reading leaves is shorter, and is UTF-8 where the whole is: an ASCII byte parts the two.
use Rattle.std.proofs.Common.{◌≡◌, ℕ, zero, suc, ◌+◌, ◌<◌, Bool, true, false, ◌&&◌, ◌||◌, List, [], ◌∷◌, ◌++◌, length, take, drop, get_or, Option, None, Some, refl, ap, sym, ◌∙◌, subst, arith, lit<, append_assoc, append-nil, length-append}
use Rattle.std.specs.Prelude.{◌==◌, IsUtf8, nat_lt, nat_le, nat_eq, not, take_while, if◌then◌else◌, codes, pos}
use Rattle.std.specs.List.{list_all, prefix_len}
use Rattle.std.proofs.lemmas.Bool.{ltb-true}
use Rattle.std.proofs.lemmas.Bool.Decides.{nat_tests}
use Rattle.std.proofs.lemmas.Str.{IsUtf8-append, IsUtf8-nil, IsUtf8-take, IsUtf8-drop, IsUtf8-from_ascii, IsCharBoundary-before_ascii, IsCharBoundary-after_ascii}
use Rattle.xq_ast.specs.declared.limits.TheConstants.{INTEGER_MAX}
use Rattle.xq_ast.specs.Tokens as spec
use Rattle.xq_ast.specs.Tokens.{◌>>=◌, behind, behind_front, begins, is_space, is_quote, first_row, row_or, references, symbols, string_part, string_from, string, behind_quote, behind_ampersand, comment_turn, behind_comments, name, second_part, with_second, integer, piece, comment_or_symbol}
use Rattle.xq_ast.proofs.Names.{continues_part_is}
use Rattle.xq_ast.specs.Names.{is_digit, begins_part, continues_part}
use Rattle.xq_ast.specs.declared.token.Token.TheVariants as token
use Rattle.xq_parse.proofs.Fronts.{nat_eq-true, behind-whole, front_whole, front_ends}
use Rattle.xq_parse.proofs.Options.{bind_some, some_is}

-- the rest stands behind an ASCII byte, or at one or at the end
pub record IsBehind (bytes rest : List ℕ) : Type 0 where
  pub less : length rest < length bytes
  pub utf8 : (xs : List ℕ) → IsUtf8 (xs ++ bytes) → IsUtf8 rest

-- ---- UTF-8 at an ASCII byte

at_seam : (xs rest : List ℕ) (c : ℕ) → get_or (xs ++ c ∷ rest) (length xs) 0 ≡ c
at_seam [] rest c = refl
at_seam (x ∷ xs) rest c = at_seam xs rest c

take_seam : (xs ys : List ℕ) → take (length xs) (xs ++ ys) ≡ xs
take_seam [] ys = refl
take_seam (x ∷ xs) ys = ap (λ r. x ∷ r) (take_seam xs ys)

drop_seam : (xs ys : List ℕ) → drop (length xs) (xs ++ ys) ≡ ys
drop_seam [] ys = refl
drop_seam (x ∷ xs) ys = drop_seam xs ys

-- what stands before an ASCII byte of a UTF-8 text is UTF-8
pub utf8_before : (xs rest : List ℕ) (c : ℕ) → c < 128 → IsUtf8 (xs ++ c ∷ rest) → IsUtf8 xs
utf8_before xs rest c ascii u =
    let small : get_or (xs ++ c ∷ rest) (length xs) 0 < 128 = rw at_seam ascii in
    let boundary = IsCharBoundary-before_ascii (xs ++ c ∷ rest) (length xs) (omega (arith, length-append xs (c ∷ rest))) small in
    subst IsUtf8 (take_seam xs (c ∷ rest)) (IsUtf8-take (xs ++ c ∷ rest) (length xs) u boundary)

-- what stands from an ASCII byte of a UTF-8 text on is UTF-8
pub utf8_from : (xs rest : List ℕ) (c : ℕ) → c < 128 → IsUtf8 (xs ++ c ∷ rest) → IsUtf8 (c ∷ rest)
utf8_from xs rest c ascii u =
    let small : get_or (xs ++ c ∷ rest) (length xs) 0 < 128 = rw at_seam ascii in
    let boundary = IsCharBoundary-before_ascii (xs ++ c ∷ rest) (length xs) (omega (arith, length-append xs (c ∷ rest))) small in
    subst IsUtf8 (drop_seam xs (c ∷ rest)) (IsUtf8-drop (xs ++ c ∷ rest) (length xs) u boundary)

-- what stands after an ASCII byte of a UTF-8 text is UTF-8
pub utf8_after : (xs rest : List ℕ) (c : ℕ) → c < 128 → IsUtf8 (xs ++ c ∷ rest) → IsUtf8 rest
utf8_after xs rest c ascii u =
    let whole = utf8_from xs rest c ascii u in
    let small : get_or (c ∷ rest) 0 0 < 128 = ascii in
    IsUtf8-drop (c ∷ rest) 1 whole (IsCharBoundary-after_ascii (c ∷ rest) 0 whole (omega arith) small)

-- an ASCII byte alone is UTF-8
pub utf8_one : (c : ℕ) → c < 128 → IsUtf8 (c ∷ [])
utf8_one c ascii = IsUtf8-from_ascii (c ∷ []) (λ i. each i)
  where
    each : (i : ℕ) → get_or (c ∷ []) i 0 < 128
    each zero = ascii
    each (suc i) = lit< tt

-- an ASCII byte between two texts
pub utf8_glued : (xs ys : List ℕ) (c : ℕ) → c < 128 → IsUtf8 xs → IsUtf8 ys → IsUtf8 ((xs ++ c ∷ []) ++ ys)
utf8_glued xs ys c ascii u v = IsUtf8-append (xs ++ c ∷ []) ys (IsUtf8-append xs (c ∷ []) u (utf8_one c ascii)) v

-- ---- steps

-- one may step over an ASCII byte
pub behind_ascii : (b : ℕ) (bytes : List ℕ) → b < 128 → IsBehind (b ∷ bytes) bytes
behind_ascii b bytes ascii = record { less = omega arith; utf8 = λ xs u. utf8_after xs bytes b ascii u }

-- what may be stepped to from some bytes may be stepped to from one byte before them
pub behind_any : (b : ℕ) (bytes rest : List ℕ) → IsBehind bytes rest → IsBehind (b ∷ bytes) rest
behind_any b bytes rest h =
    record { less = omega (arith, h.less); utf8 = λ xs u. h.utf8 (xs ++ b ∷ []) (subst IsUtf8 (sym (append_assoc xs (b ∷ []) bytes)) u) }

-- two steps are one step
pub behind_both : (a b c : List ℕ) → IsBehind a b → IsBehind b c → IsBehind a c
behind_both a b c g h = record { less = omega (arith, g.less, h.less); utf8 = λ xs u. h.utf8 [] (g.utf8 xs u) }

-- ---- words

-- bytes, one at least, that are all ASCII
abbrev pub is_word : List ℕ → Bool
is_word [] = false
is_word (w ∷ word) = list_all (λ b. nat_lt b 128) (w ∷ word)

both_true : (a b : Bool) → (a && b) ≡ true → (a ≡ true) × (b ≡ true)
both_true true b e = (refl, e)
both_true false b e = cc

append_behind : (w : ℕ) (word rest : List ℕ) → list_all (λ b. nat_lt b 128) (w ∷ word) ≡ true → IsBehind ((w ∷ word) ++ rest) rest
append_behind w [] rest ascii = behind_ascii w rest (ltb-true w 128 (both_true (nat_lt w 128) _ ascii).0)
append_behind w (v ∷ word) rest ascii = behind_any w ((v ∷ word) ++ rest) rest (append_behind v word rest (both_true (nat_lt w 128) _ ascii).1)

-- one may step over a word with which the bytes begin
pub word_behind : (word bytes rest : List ℕ) → is_word word ≡ true → behind word bytes ≡ Some rest → IsBehind bytes rest
word_behind [] bytes rest is e = cc
word_behind (w ∷ word) bytes rest is e = subst (λ x. IsBehind x rest) (sym (behind-whole (w ∷ word) bytes rest e)) (append_behind w word rest is)

-- the words of a table
abbrev pub are_words : {A : Type 0} → List (List ℕ × A) → Bool
are_words [] = true
are_words (row ∷ rows) = is_word row.0 && are_words rows

-- one may step over the word of the first row with which the bytes begin, where a table's spellings are words
pub first_row_behind : {A : Type 0} (rows : List (List ℕ × A)) (bytes : List ℕ) (r : A × List ℕ) → are_words rows ≡ true → first_row rows bytes ≡ Some r
    → IsBehind bytes r.1
first_row_behind [] bytes r are e = cc
first_row_behind (row ∷ rows) bytes r are e =
    let both = both_true (is_word row.0) (are_words rows) are in
    by_word (behind row.0 bytes) refl both.0 e (λ others. first_row_behind rows bytes r both.1 others)
  where
    by_word : (o : Option (List ℕ)) → behind row.0 bytes ≡ o → is_word row.0 ≡ true → row_or o row.1 (first_row rows bytes) ≡ Some r
        → (first_row rows bytes ≡ Some r → IsBehind bytes r.1) → IsBehind bytes r.1
    by_word (Some rest) found is e more = subst (λ x. IsBehind bytes x.1) (some_is e) (word_behind row.0 bytes rest is found)
    by_word None none is e more = more e

-- ---- comments

module _ (n : ℕ) (rest : List ℕ) (more : (k : ℕ) (after : List ℕ) → behind_comments n (suc k) after ≡ Some rest → IsBehind after rest) where
  closed_behind : (k : ℕ) (bytes after : List ℕ) → IsBehind bytes after → behind_comments n k after ≡ Some rest → IsBehind bytes rest
  closed_behind zero bytes after h e = subst (λ x. IsBehind bytes x) (some_is e) h
  closed_behind (suc k) bytes after h e = behind_both bytes after rest h (more k after e)

  turn_behind : (opened : ℕ) (opens closes : Option (List ℕ)) (bytes : List ℕ) → behind (codes "(:") bytes ≡ opens → behind (codes ":)") bytes ≡ closes
      → comment_turn opens closes bytes opened (behind_comments n) ≡ Some rest → IsBehind bytes rest
  turn_behind opened (Some after) closes bytes o c e = behind_both bytes after rest (word_behind (codes "(:") bytes after refl o) (more (suc opened) after e)
  turn_behind opened None (Some after) bytes o c e = closed_behind opened bytes after (word_behind (codes ":)") bytes after refl c) e
  turn_behind opened None None [] o c e = cc
  turn_behind opened None None (b ∷ bytes) o c e = behind_any b bytes rest (more opened bytes e)

-- one may step over comments to what stands after them
pub comments_behind : (n opened : ℕ) (bytes rest : List ℕ) → behind_comments n (suc opened) bytes ≡ Some rest → IsBehind bytes rest
comments_behind zero opened bytes rest e = cc
comments_behind (suc n) opened bytes rest e =
    turn_behind n rest (λ k after h. comments_behind n k after rest h) opened (behind (codes "(:") bytes) (behind (codes ":)") bytes) bytes refl refl e

-- ---- strings

-- a part of a string that holds some of its text is stepped over
pub record StepsOver (bytes text rest : List ℕ) : Type 0 where
  pub less : length rest < length bytes
  pub behind : (r : List ℕ) → IsBehind rest r → IsBehind bytes r
  pub utf8 : (xs : List ℕ) → IsUtf8 (xs ++ bytes) → IsUtf8 ((xs ++ text) ++ rest)

-- the end of a string
pub record EndsString (bytes rest : List ℕ) : Type 0 where
  pub behind : IsBehind bytes rest
  pub utf8 : (xs : List ℕ) → IsUtf8 (xs ++ bytes) → IsUtf8 xs

-- what a part of a string is: it steps over some of its text, ends it, or is a fault
abbrev pub IsPartOf : List ℕ → spec.StringPart → Type 0
IsPartOf bytes (spec.StringPart.holds text rest) = StepsOver bytes text rest
IsPartOf bytes (spec.StringPart.ends rest) = EndsString bytes rest
IsPartOf bytes spec.StringPart.fault = Unit {0}

quote_part : (quote b : ℕ) (bytes : List ℕ) (o : Option (List ℕ)) → quote < 128 → b < 128 → behind (quote ∷ []) bytes ≡ o
    → IsPartOf (b ∷ bytes) (behind_quote o quote bytes)
quote_part quote b bytes None small ascii e = record { behind = behind_ascii b bytes ascii; utf8 = λ xs u. utf8_before xs bytes b ascii u }
quote_part quote b bytes (Some rest) small ascii e =
    let whole : bytes ≡ quote ∷ rest = behind-whole (quote ∷ []) bytes rest e in
    let first : IsBehind bytes rest = subst (λ x. IsBehind x rest) (sym whole) (behind_ascii quote rest small) in
    record {
      less = omega (arith, first.less);
      behind = λ r h. behind_any b bytes r (behind_both bytes rest r first h);
      utf8 = λ xs u. utf8_glued xs rest quote small (utf8_before xs bytes b ascii u) (first.utf8 [] (utf8_after xs bytes b ascii u));
    }

-- a text of one ASCII character
abbrev is_one : List ℕ → Bool
is_one [] = false
is_one (c ∷ []) = nat_lt c 128
is_one (c ∷ d ∷ cs) = false

abbrev are_ones : List (List ℕ × List ℕ) → Bool
are_ones [] = true
are_ones (row ∷ rows) = is_one row.1 && are_ones rows

first_row_one : (rows : List (List ℕ × List ℕ)) (bytes : List ℕ) (r : List ℕ × List ℕ) → are_ones rows ≡ true → first_row rows bytes ≡ Some r
    → is_one r.0 ≡ true
first_row_one [] bytes r are e = cc
first_row_one (row ∷ rows) bytes r are e =
    let both = both_true (is_one row.1) (are_ones rows) are in by_word (behind row.0 bytes) both.0 e (λ others. first_row_one rows bytes r both.1 others)
  where
    by_word : (o : Option (List ℕ)) → is_one row.1 ≡ true → row_or o row.1 (first_row rows bytes) ≡ Some r → (first_row rows bytes ≡ Some r → is_one r.0 ≡ true)
        → is_one r.0 ≡ true
    by_word (Some rest) is e more = subst (λ x. is_one x.0 ≡ true) (some_is e) is
    by_word None is e more = more e

glued_one : (xs ys text : List ℕ) → is_one text ≡ true → IsUtf8 xs → IsUtf8 ys → IsUtf8 ((xs ++ text) ++ ys)
glued_one xs ys [] is u v = cc
glued_one xs ys (c ∷ []) is u v = utf8_glued xs ys c (ltb-true c 128 is) u v
glued_one xs ys (c ∷ d ∷ cs) is u v = cc

ampersand_part : (b : ℕ) (bytes : List ℕ) (o : Option (List ℕ × List ℕ)) → b < 128 → first_row references bytes ≡ o → IsPartOf (b ∷ bytes) (behind_ampersand o)
ampersand_part b bytes None ascii e = tt
ampersand_part b bytes (Some r) ascii e =
    let first : IsBehind bytes r.1 = first_row_behind references bytes r refl e in
    let one : is_one r.0 ≡ true = first_row_one references bytes r refl e in
    record {
      less = omega (arith, first.less);
      behind = λ x h. behind_any b bytes x (behind_both bytes r.1 x first h);
      utf8 = λ xs u. glued_one xs r.1 r.0 one (utf8_before xs bytes b ascii u) (first.utf8 [] (utf8_after xs bytes b ascii u));
    }

plain_part : (b : ℕ) (bytes : List ℕ) → IsPartOf (b ∷ bytes) (spec.StringPart.holds (b ∷ []) bytes)
plain_part b bytes = record { less = omega arith; behind = λ r h. behind_any b bytes r h; utf8 = λ xs u. subst IsUtf8 (sym (append_assoc xs (b ∷ []) bytes)) u }

-- each part of a string in ASCII quotes steps over some of its text, ends it, or is a fault
pub part_is : (quote : ℕ) (bytes : List ℕ) → quote < 128 → IsPartOf bytes (string_part quote bytes)
part_is quote [] small = tt
part_is quote (b ∷ bytes) small = by_tests (nat_eq b quote) (nat_eq b 38) refl refl
  where
    by_tests : (q a : Bool) → nat_eq b quote ≡ q → nat_eq b 38 ≡ a
        → IsPartOf (b ∷ bytes) (if q then behind_quote (behind (quote ∷ []) bytes) quote bytes else if a then behind_ampersand
        (first_row references bytes) else spec.StringPart.holds (b ∷ []) bytes)
    by_tests true a is_quote_ is_other =
        quote_part quote b bytes (behind (quote ∷ []) bytes) small (let e : b ≡ quote = nat_eq-true b quote is_quote_ in omega arith) refl
    by_tests false true other is_ampersand =
        ampersand_part b bytes (first_row references bytes) (let e : b ≡ 38 = nat_eq-true b 38 is_ampersand in omega arith) refl
    by_tests false false other plain = plain_part b bytes

-- a string that was read
pub record IsString (bytes text rest : List ℕ) : Type 0 where
  pub behind : IsBehind bytes rest
  pub utf8 : (xs : List ℕ) → IsUtf8 (xs ++ bytes) → IsUtf8 (xs ++ text)

string_from_is : (n quote : ℕ) (bytes : List ℕ) (r : List ℕ × List ℕ) (p : spec.StringPart) → IsPartOf bytes p
    → ((rest : List ℕ) (q : List ℕ × List ℕ) → string n quote rest ≡ Some q → IsString rest q.0 q.1)
    → string_from p (string n quote) ≡ Some r → IsString bytes r.0 r.1
string_from_is n quote bytes r (spec.StringPart.holds text rest) is more e =
    let a = bind_some (string n quote rest) (λ x. Some (text ++ x.0, x.1)) r e in
    let h = more rest a.0 a.1 in
    subst (λ x. IsString bytes x.0 x.1) (some_is a.2) (record {
      behind = is.behind a.0.1 h.behind;
      utf8 = λ xs u. subst IsUtf8 (append_assoc xs text a.0.0) (h.utf8 (xs ++ text) (is.utf8 xs u));
    })
string_from_is n quote bytes r (spec.StringPart.ends rest) is more e =
    subst (λ x. IsString bytes x.0 x.1) (some_is e) (record { behind = is.behind; utf8 = λ xs u. subst IsUtf8 (sym (append-nil xs)) (is.utf8 xs u) })
string_from_is n quote bytes r spec.StringPart.fault is more e = cc

-- a string that was read in ASCII quotes is stepped over, and its text is UTF-8 where the bytes are
pub string_is : (n quote : ℕ) (bytes : List ℕ) (r : List ℕ × List ℕ) → quote < 128 → string n quote bytes ≡ Some r → IsString bytes r.0 r.1
string_is zero quote bytes r small e = cc
string_is (suc n) quote bytes r small e =
    string_from_is n quote bytes r (string_part quote bytes) (part_is quote bytes small) (λ rest q h. string_is n quote rest q small h) e

-- ---- names and integers

plain_ascii : (c : ℕ) → continues_part c ≡ false → c < 128
plain_ascii c plain = grind (arith, nat_tests)

-- a front behind which no name goes on
pub record IsFront (bytes used rest : List ℕ) : Type 0 where
  pub whole : bytes ≡ used ++ rest
  pub some : 0 < length used
  pub ends : begins continues_part rest ≡ false

-- one may step over a front after which no name goes on
pub front_behind : (bytes used rest : List ℕ) → IsFront bytes used rest → IsBehind bytes rest
front_behind bytes used [] f = record { less = omega (arith, ap length f.whole, length-append used [], f.some); utf8 = λ xs u. IsUtf8-nil }
front_behind bytes used (c ∷ rest) f =
    record {
      less = omega (arith, ap length f.whole, length-append used (c ∷ rest), f.some);
      utf8 = λ xs u. utf8_from (xs ++ used) rest c (plain_ascii c f.ends) (subst IsUtf8 (ap (λ y. xs ++ y) f.whole ∙ sym (append_assoc xs used (c ∷ rest))) u);
    }

-- a front of UTF-8 after which no name goes on is UTF-8
pub front_utf8 : (bytes used rest : List ℕ) → IsFront bytes used rest → IsUtf8 bytes → IsUtf8 used
front_utf8 bytes used [] f u = subst IsUtf8 (f.whole ∙ append-nil used) u
front_utf8 bytes used (c ∷ rest) f u = utf8_before used rest c (plain_ascii c f.ends) (subst IsUtf8 f.whole u)

first_taken : (p : ℕ → Bool) (b : ℕ) (bytes : List ℕ) → p b ≡ true → take_while p (b ∷ bytes) ≡ b ∷ take_while p bytes
first_taken p b bytes passes = let e : 1 + prefix_len p bytes ≡ suc (prefix_len p bytes) = omega arith in rw (passes, e) refl

colon_part : (rest second : List ℕ) → second_part rest ≡ Some second → rest ≡ 58 ∷ second
colon_part [] second e = cc
colon_part (c ∷ bytes) second e = by_test (nat_eq c 58) (begins begins_part bytes) refl e
  where
    by_test : (t s : Bool) → nat_eq c 58 ≡ t → (if t && s then Some bytes else None) ≡ Some second → c ∷ bytes ≡ 58 ∷ second
    by_test true true is e = let first : c ≡ 58 = nat_eq-true c 58 is in cc
    by_test true false is e = cc
    by_test false s is e = cc

with_second_is : (bytes first rest : List ℕ) (o : Option (List ℕ)) → IsFront bytes first rest → second_part rest ≡ o
    → IsFront bytes (with_second first rest o).0 (with_second first rest o).1
with_second_is bytes first rest None f e = f
with_second_is bytes first rest (Some second) f e =
    record {
      whole = f.whole ∙ (ap (λ x. first ++ x) (colon_part rest second e ∙ ap (λ x. 58 ∷ x) (front_whole continues_part second))
          ∙ sym (append_assoc first (58 ∷ take_while continues_part second) (behind_front continues_part second)));
      some = omega (arith, f.some, length-append first (58 ∷ take_while continues_part second));
      ends = front_ends continues_part second;
    }

begins_continues : (b : ℕ) → begins_part b ≡ true → continues_part b ≡ true
begins_continues b begins_ = continues_part_is b ∙ ap (λ t. t || is_digit b || b == 45 || b == 46) begins_

-- where a part of a name begins, the name is a front after which no name goes on
pub name_is : (b : ℕ) (bytes : List ℕ) → begins_part b ≡ true → IsFront (b ∷ bytes) (name (b ∷ bytes)).0 (name (b ∷ bytes)).1
name_is b bytes begins_ =
    let all = b ∷ bytes in
    let rest = behind_front continues_part all in
    with_second_is all (take_while continues_part all) rest (second_part rest)
    (record {
      whole = front_whole continues_part all;
      some = omega (arith, ap length (first_taken continues_part b bytes (begins_continues b begins_)));
      ends = front_ends continues_part all;
    }) refl

integer_of_rest : (value : ℕ) (rest : List ℕ) (r : ℕ × List ℕ) → spec.integer_of value rest ≡ Some r → (begins continues_part rest ≡ false) × (r.1 ≡ rest)
integer_of_rest value rest r e = by_tests (nat_le value INTEGER_MAX) (begins continues_part rest) refl e
  where
    by_tests : (small goes_on : Bool) → begins continues_part rest ≡ goes_on → (if small && not goes_on then Some (value, rest) else None) ≡ Some r
        → (begins continues_part rest ≡ false) × (r.1 ≡ rest)
    by_tests true false ends e = (ends, ap (λ x. x.1) (sym (some_is e)))
    by_tests true true ends e = cc
    by_tests false g ends e = cc

-- one may step over an integer that was read
pub integer_behind : (b : ℕ) (bytes : List ℕ) (r : ℕ × List ℕ) → is_digit b ≡ true → integer (b ∷ bytes) ≡ Some r → IsBehind (b ∷ bytes) r.1
integer_behind b bytes r digit e =
    let all = b ∷ bytes in
    let rest = behind_front is_digit all in
    let both = integer_of_rest _ rest r e in
    subst (λ x. IsBehind all x) (sym both.1) (front_behind all (take_while is_digit all) rest (record {
      whole = front_whole is_digit all;
      some = omega (arith, ap length (first_taken is_digit b bytes digit));
      ends = both.0;
    }))

-- ---- pieces

choose : {A P : Type 0} (t : Bool) (x y : Option A) (z : A) → (if t then x else y) ≡ Some z → (t ≡ true → x ≡ Some z → P) → (t ≡ false → y ≡ Some z → P) → P
choose true x y z e then_ else_ = then_ refl e
choose false x y z e then_ else_ = else_ refl e

space_ascii : (b : ℕ) → is_space b ≡ true → b < 128
space_ascii b is = grind (arith, nat_tests)

-- a quote is ASCII
pub quote_ascii : (b : ℕ) → is_quote b ≡ true → b < 128
quote_ascii b is = grind (arith, nat_tests)

mark_behind : (bytes : List ℕ) (r : spec.Piece × List ℕ) (o : Option (List ℕ)) → behind (codes "(:") bytes ≡ o → comment_or_symbol o bytes ≡ Some r
    → IsBehind bytes r.1
mark_behind bytes r (Some inside) opens e =
    let a = bind_some (behind_comments (length inside) 1 inside) spec.parting r e in
    subst (λ x. IsBehind bytes x.1) (some_is a.2)
    (behind_both bytes inside a.0 (word_behind (codes "(:") bytes inside refl opens) (comments_behind (length inside) 0 inside a.0 a.1))
mark_behind bytes r None opens e =
    let a = bind_some (first_row symbols bytes) (spec.a_token token.Symbol) r e in
    subst (λ x. IsBehind bytes x.1) (some_is a.2) (first_row_behind symbols bytes a.0 refl a.1)

-- one may step over a piece that was read
pub piece_behind : (bytes : List ℕ) (r : spec.Piece × List ℕ) → piece bytes ≡ Some r → IsBehind bytes r.1
piece_behind [] r e = cc
piece_behind (b ∷ bytes) r e =
    choose (is_space b) _ _ r e (λ is x. subst (λ y. IsBehind (b ∷ bytes) y.1) (some_is x) (behind_ascii b bytes (space_ascii b is))) (λ no_space e.
    choose (is_quote b) _ _ r e (λ is x.
    let a = bind_some (string (length bytes) b bytes) (spec.a_token token.Text) r x in
    subst (λ y. IsBehind (b ∷ bytes) y.1) (some_is a.2) (behind_any b bytes a.0.1 (string_is (length bytes) b bytes a.0 (quote_ascii b is) a.1).behind))
    (λ no_quote e.
    choose (is_digit b) _ _ r e (λ is x.
    let a = bind_some (integer (b ∷ bytes)) (spec.a_token (λ n. token.Int (pos n))) r x in
    subst (λ y. IsBehind (b ∷ bytes) y.1) (some_is a.2) (integer_behind b bytes a.0 is a.1)) (λ no_digit e.
    choose (begins_part b) _ _ r e
    (λ is x. subst (λ y. IsBehind (b ∷ bytes) y.1) (some_is x) (front_behind (b ∷ bytes) (name (b ∷ bytes)).0 (name (b ∷ bytes)).1 (name_is b bytes is)))
    (λ no_name e.
    mark_behind (b ∷ bytes) r (behind (codes "(:") (b ∷ bytes)) refl e))))

-- ---- texts

-- a name in UTF-8 is UTF-8
pub name_utf8 : (bytes : List ℕ) → begins begins_part bytes ≡ true → IsUtf8 bytes → IsUtf8 (name bytes).0
name_utf8 [] begins_ u = cc
name_utf8 (b ∷ bytes) begins_ u = front_utf8 (b ∷ bytes) (name (b ∷ bytes)).0 (name (b ∷ bytes)).1 (name_is b bytes begins_) u
