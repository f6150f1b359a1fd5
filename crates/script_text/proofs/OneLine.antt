-- Texts of one line: UTF-8 without a newline.
use Rattle.std.proofs.Common.{◌≡◌, ◌≢◌, ℕ, zero, suc, lit<, ◌<◌, ◌^◌, Bool, true, false, ◌&&◌, not, if◌then◌else◌, nat_eq, nat_lt, List, [], ◌∷◌, ◌++◌, length, get_or, IsUtf8, refl, ap, sym, ◌∙◌, arith, append-nil}
use Rattle.std.specs.Prelude.{codes}
use Rattle.std.specs.Fmt.{decimal}
use Rattle.std.specs.Int.{IsInRange}
use Rattle.std.specs.Str.{IsAscii}
use Rattle.std.specs.Str.Parse.{AllDigits, digits_value}
use Rattle.std.proofs.lemmas.Bool.{and_parts}
use Rattle.std.proofs.lemmas.Fmt.{IsAscii-decimal, decimal_is_IsNumeral}
use Rattle.std.proofs.lemmas.Str.{IsUtf8-append, IsUtf8-from_ascii, encode_ascii, inside_one}
use Rattle.std.proofs.lemmas.Str.Parse.{IsNumeralModel, numerals_by_value, tells_digits, not_in_digits}
use lib.Utf8.{encode, encodes, scalar, scalars}
use Rattle.xq_ast.specs.CodeText.{code_text, refusal_name, kind_name, InRange}
use Rattle.xq_ast.specs.declared.refusal.PyxRefusal.{PyxRefusal}
use Rattle.xq_ast.specs.declared.refusal.PyxRefusal.TheVariants as refusals
use Rattle.xq_ast.specs.declared.code.SpentKind.{SpentKind}
use Rattle.xq_ast.specs.declared.code.SpentKind.TheVariants as kinds
use Rattle.xq_ast.specs.declared.code.Code.{Code}
use Rattle.xq_ast.specs.declared.code.Code.TheVariants.{XPST0003, XPST0008, XPST0017, XPDY0002, XPTY0004, XPTY0019, XPTY0020, XQTY0024, XQDY0025, FOAR0001, FOAR0002, FODC0002, FORG0001, FORG0006, TooLong, NestedTooDeep, BadName, NoTransaction, InTransaction, ReadOnly, Updating, Exists, TooDeep, TooManyNodes, TooMuchText, TooManyItems, ReplyTooLong, NoMemory, Failed, InDoubt, Pyx, Spent, Damaged}
use Rattle.xq_ast.specs.declared.need.LockMode.{LockMode}
use Rattle.xq_ast.specs.declared.need.LockMode.TheVariants.{S, X}
use Rattle.xq_ast.specs.declared.need.Need.{Need}
use Rattle.xml_model.specs.Pyx.{Line, IsPlain, text_of}
use Rattle.xml_model.proofs.TextLines.{plain_by_index}
use Rattle.script_text.specs.JournalText.{doubled, quoted, mode_text, need_text, needs_text, stands_text, IsOneLine, AreLines, HaveNames}
use Rattle.script_text.proofs.EventText.{doubled-append}

-- ---- without a newline

-- two plain texts in a row are plain
pub plain_append : (xs ys : List ℕ) → IsPlain xs → IsPlain ys → IsPlain (xs ++ ys)
plain_append [] ys p q = q
plain_append (x ∷ xs) ys p q = (p.0, plain_append xs ys p.1 q)

-- the two parts of a plain text are plain
pub plain_parts : (xs ys : List ℕ) → IsPlain (xs ++ ys) → IsPlain xs × IsPlain ys
plain_parts [] ys p = (tt, p)
plain_parts (x ∷ xs) ys p = let rest = plain_parts xs ys p.1 in ((p.0, rest.0), rest.1)

-- what has a newline inside is not plain
pub newline_inside : (xs ys : List ℕ) → IsPlain (xs ++ 10 ∷ ys) → ⊥
newline_inside [] ys p = let clash : true ≡ false = p.0 in cc
newline_inside (x ∷ xs) ys p = newline_inside xs ys p.1

-- a test of two numbers that fails
differ : (a b : ℕ) → nat_eq a b ≡ false → a ≢ b
differ a b test e = grind arith

-- a text is cut at its first newline in one way
pub cut_line_once : (a b x y : List ℕ) → IsPlain a → IsPlain b → a ++ 10 ∷ x ≡ b ++ 10 ∷ y → (a ≡ b) × (x ≡ y)
cut_line_once [] [] x y p q e = (refl, cc)
cut_line_once [] (c ∷ b) x y p q e = let first : 10 ≡ c = cc in absurd (differ c 10 q.0 (sym first))
cut_line_once (c ∷ a) [] x y p q e = let first : c ≡ 10 = cc in absurd (differ c 10 p.0 first)
cut_line_once (c ∷ a) (d ∷ b) x y p q e =
    let first : c ≡ d = cc in
    let rest : a ++ 10 ∷ x ≡ b ++ 10 ∷ y = cc in
    let both = cut_line_once a b x y p.1 q.1 rest in
    (let tails : a ≡ b = both.0 in cc, both.1)

-- ---- doubled quotes

plain_by_test : (t : Bool) (b : ℕ) (r : List ℕ) → nat_eq b 10 ≡ false → IsPlain r → IsPlain (if t then b ∷ b ∷ r else b ∷ r)
plain_by_test true b r p q = (p, (p, q))
plain_by_test false b r p q = (p, q)

-- a plain name is plain with its quotes doubled
pub plain_doubled : (name : List ℕ) → IsPlain name → IsPlain (doubled name)
plain_doubled [] p = tt
plain_doubled (b ∷ bs) p = plain_by_test (nat_eq b 39) b (doubled bs) p.0 (plain_doubled bs p.1)

test_plain : (t : Bool) (b : ℕ) (r : List ℕ) → IsPlain (if t then b ∷ b ∷ r else b ∷ r) → (nat_eq b 10 ≡ false) × IsPlain r
test_plain true b r p = (p.0, p.1.1)
test_plain false b r p = (p.0, p.1)

-- a name is plain where it is plain with its quotes doubled
pub doubled_plain : (name : List ℕ) → IsPlain (doubled name) → IsPlain name
doubled_plain [] p = tt
doubled_plain (b ∷ bs) p = let both = test_plain (nat_eq b 39) b (doubled bs) p in (both.0, doubled_plain bs both.1)

-- the test of two numbers that differ is false
pub not_eq : (a b : ℕ) → a ≢ b → nat_eq a b ≡ false
not_eq a b ne = grind (arith, ne)

-- nothing is doubled where there is no quote
no_quotes : (bs : List ℕ) → ((i : ℕ) → i < length bs → get_or bs i 0 ≢ 39) → doubled bs ≡ bs
no_quotes [] lacks = refl
no_quotes (b ∷ bs) lacks =
    let first : nat_eq b 39 ≡ false = not_eq b 39 (lacks 0 (omega arith)) in
    let rest = no_quotes bs (λ i h. let less : suc i < length (b ∷ bs) = omega arith in lacks (suc i) less) in
    rw first (ap (λ r. b ∷ r) rest)

-- a character that is no quote has none inside
one_character : (c : ℕ) → nat_eq c 39 ≡ false → doubled (encode c) ≡ encode c
one_character c other =
    no_quotes (encode c) (λ i h e.
    let small : get_or (encode c) i 0 < 128 = omega arith in
    let same = inside_one c [] (encode c) i (sym (append-nil (encode c))) h small in
    differ c 39 other (same ∙ e))

-- quotes are doubled among characters as among bytes
encodes_doubled : (cs : List ℕ) → encodes (doubled cs) ≡ doubled (encodes cs)
encodes_doubled [] = refl
encodes_doubled (c ∷ cs) = by_test (nat_eq c 39) refl (encodes_doubled cs)
  where
    by_test : (t : Bool) → nat_eq c 39 ≡ t → encodes (doubled cs) ≡ doubled (encodes cs)
        → encodes (if t then c ∷ c ∷ doubled cs else c ∷ doubled cs) ≡ doubled (encode c ++ encodes cs)
    by_test true test e =
        let is : c ≡ 39 = grind (arith, test) in
        let one : encode c ≡ 39 ∷ [] = ap encode is ∙ encode_ascii 39 (lit< tt) in
        ap (λ x. x ++ (x ++ encodes (doubled cs))) one ∙ (ap (λ r. 39 ∷ 39 ∷ r) e ∙ ap (λ x. doubled (x ++ encodes cs)) (sym one))
    by_test false test e =
        ap (λ r. encode c ++ r) e ∙ (ap (λ x. x ++ doubled (encodes cs)) (sym (one_character c test)) ∙ sym (doubled-append (encode c) (encodes cs)))

scalars_doubled : (cs : List ℕ) → scalars cs ≡ true → scalars (doubled cs) ≡ true
scalars_doubled [] s = refl
scalars_doubled (c ∷ cs) s = let both = and_parts (scalar c) (scalars cs) s in by_test (nat_eq c 39) both.0 (scalars_doubled cs both.1)
  where
    by_test : (t : Bool) → scalar c ≡ true → scalars (doubled cs) ≡ true → scalars (if t then c ∷ c ∷ doubled cs else c ∷ doubled cs) ≡ true
    by_test true one more = rw (one, more) refl
    by_test false one more = rw (one, more) refl

utf8_doubled : (name : List ℕ) → IsUtf8 name → IsUtf8 (doubled name)
utf8_doubled name u = (doubled u.0, (scalars_doubled u.0 u.1.0, encodes_doubled u.0 ∙ ap doubled u.1.1))

-- ---- one line

-- two texts of one line, one after the other, are one line
pub one_line_append : (xs ys : List ℕ) → IsOneLine xs → IsOneLine ys → IsOneLine (xs ++ ys)
one_line_append xs ys p q = (IsUtf8-append xs ys p.0 q.0, plain_append xs ys p.1 q.1)

-- ASCII without a newline, as a test
abbrev is_simple : List ℕ → Bool
is_simple [] = true
is_simple (b ∷ bs) = (nat_lt b 128 && not (nat_eq b 10)) && is_simple bs

not_false : (t : Bool) → not t ≡ true → t ≡ false
not_false true e = cc
not_false false e = refl

simple_plain : (bs : List ℕ) → is_simple bs ≡ true → IsPlain bs
simple_plain [] h = tt
simple_plain (b ∷ bs) h =
    let both = and_parts _ _ h in
    let first = and_parts (nat_lt b 128) (not (nat_eq b 10)) both.0 in
    (not_false (nat_eq b 10) first.1, simple_plain bs both.1)

simple_ascii : (bs : List ℕ) → is_simple bs ≡ true → IsAscii bs
simple_ascii [] h i = lit< tt
simple_ascii (b ∷ bs) h zero =
    let both = and_parts _ _ h in
    let first = (and_parts (nat_lt b 128) (not (nat_eq b 10)) both.0).0 in
    grind (arith, first)
simple_ascii (b ∷ bs) h (suc i) = simple_ascii bs (and_parts _ _ h).1 i

-- ASCII without a newline is one line
pub one_line_simple : (bs : List ℕ) → is_simple bs ≡ true → IsOneLine bs
one_line_simple bs h = (IsUtf8-from_ascii bs (simple_ascii bs h), simple_plain bs h)

own : IsNumeralModel (AllDigits 10) (digits_value 10)
own = numerals_by_value (AllDigits 10) tells_digits

-- no byte of a number is one that is no digit
digits_lack : (n c : ℕ) → n < 2 ^ 64 → (IsInRange 48 57 c → ⊥) → (i : ℕ) → i < length (decimal n) → get_or (decimal n) i 0 ≢ c
digits_lack n c small out = not_in_digits own (decimal n) c (decimal_is_IsNumeral n small).0.1 out

-- a number of 64 bits in decimal is one line
pub one_line_decimal : (n : ℕ) → n < 2 ^ 64 → IsOneLine (decimal n)
one_line_decimal n small = (IsUtf8-from_ascii (decimal n) (IsAscii-decimal n small), plain_by_index (decimal n) (digits_lack n 10 small (λ h. omega arith)))

-- a name of one line between quotes is one line
pub one_line_quoted : (name : List ℕ) → IsOneLine name → IsOneLine (quoted name)
one_line_quoted name p =
    one_line_append (39 ∷ []) (doubled name ++ 39 ∷ []) (one_line_simple (39 ∷ []) refl)
    (one_line_append (doubled name) (39 ∷ []) (utf8_doubled name p.0, plain_doubled name p.1) (one_line_simple (39 ∷ []) refl))

one_line_mode : (mode : LockMode) → IsOneLine (codes " " ++ mode_text mode)
one_line_mode S = one_line_simple (codes " S") refl
one_line_mode X = one_line_simple (codes " X") refl

one_line_need : (n : Need) → IsOneLine n.name → IsOneLine (need_text n)
one_line_need n p = one_line_append (quoted n.name) (codes " " ++ mode_text n.mode) (one_line_quoted n.name p) (one_line_mode n.mode)

-- the text of needs whose names are of one line is one line
pub one_line_needs : (ns : List Need) → HaveNames ns → IsOneLine (needs_text ns)
one_line_needs [] p = one_line_simple [] refl
one_line_needs (n ∷ []) p = one_line_need n p.0
one_line_needs (n ∷ m ∷ more) p =
    one_line_append (need_text n) (codes ", " ++ needs_text (m ∷ more)) (one_line_need n p.0)
    (one_line_append (codes ", ") (needs_text (m ∷ more)) (one_line_simple (codes ", ") refl) (one_line_needs (m ∷ more) p.1))

-- the word that says whether a commit stands is one line
pub one_line_stands : (stands : Bool) → IsOneLine (stands_text stands)
one_line_stands true = one_line_simple (codes "yes") refl
one_line_stands false = one_line_simple (codes "no") refl

one_line_refusal : (why : PyxRefusal) → IsOneLine (refusal_name why)
one_line_refusal refusals.BadLine = one_line_simple _ refl
one_line_refusal refusals.BadName = one_line_simple _ refl
one_line_refusal refusals.EndMismatch = one_line_simple _ refl
one_line_refusal refusals.AttributeLate = one_line_simple _ refl
one_line_refusal refusals.AttributeTwice = one_line_simple _ refl
one_line_refusal refusals.TooDeep = one_line_simple _ refl
one_line_refusal refusals.TooManyNodes = one_line_simple _ refl
one_line_refusal refusals.TooMuchText = one_line_simple _ refl
one_line_refusal refusals.Unclosed = one_line_simple _ refl

one_line_kind : (kind : SpentKind) → IsOneLine (kind_name kind)
one_line_kind kinds.Commit = one_line_simple _ refl
one_line_kind kinds.Generation = one_line_simple _ refl
one_line_kind kinds.Page = one_line_simple _ refl
one_line_kind kinds.Slot = one_line_simple _ refl
one_line_kind kinds.Log = one_line_simple _ refl

-- a space and a number
spaced_number : (n : ℕ) → n < 2 ^ 64 → IsOneLine (codes " " ++ decimal n)
spaced_number n small = one_line_append (codes " ") (decimal n) (one_line_simple (codes " ") refl) (one_line_decimal n small)

-- the text of a code whose numbers are in range is one line
pub one_line_code : (code : Code) → InRange code → IsOneLine (code_text code)
one_line_code (Pyx why line) small =
    one_line_append (codes "Pyx ") (refusal_name why ++ (codes " " ++ decimal line)) (one_line_simple _ refl)
    (one_line_append (refusal_name why) (codes " " ++ decimal line) (one_line_refusal why) (spaced_number line small))
one_line_code (Spent kind number) small =
    one_line_append (codes "Spent ") (kind_name kind ++ (codes " " ++ decimal number)) (one_line_simple _ refl)
    (one_line_append (kind_name kind) (codes " " ++ decimal number) (one_line_kind kind) (spaced_number number small))
one_line_code (Damaged commit ordinal page) small =
    one_line_append (codes "Damaged ") (decimal commit ++ (codes " " ++ (decimal ordinal ++ (codes " " ++ decimal page)))) (one_line_simple _ refl)
    (one_line_append (decimal commit) (codes " " ++ (decimal ordinal ++ (codes " " ++ decimal page))) (one_line_decimal commit small.0)
    (one_line_append (codes " ") (decimal ordinal ++ (codes " " ++ decimal page)) (one_line_simple _ refl)
    (one_line_append (decimal ordinal) (codes " " ++ decimal page) (one_line_decimal ordinal small.1) (spaced_number page small.2))))
one_line_code XPST0003 small = one_line_simple _ refl
one_line_code XPST0008 small = one_line_simple _ refl
one_line_code XPST0017 small = one_line_simple _ refl
one_line_code XPDY0002 small = one_line_simple _ refl
one_line_code XPTY0004 small = one_line_simple _ refl
one_line_code XPTY0019 small = one_line_simple _ refl
one_line_code XPTY0020 small = one_line_simple _ refl
one_line_code XQTY0024 small = one_line_simple _ refl
one_line_code XQDY0025 small = one_line_simple _ refl
one_line_code FOAR0001 small = one_line_simple _ refl
one_line_code FOAR0002 small = one_line_simple _ refl
one_line_code FODC0002 small = one_line_simple _ refl
one_line_code FORG0001 small = one_line_simple _ refl
one_line_code FORG0006 small = one_line_simple _ refl
one_line_code TooLong small = one_line_simple _ refl
one_line_code NestedTooDeep small = one_line_simple _ refl
one_line_code BadName small = one_line_simple _ refl
one_line_code NoTransaction small = one_line_simple _ refl
one_line_code InTransaction small = one_line_simple _ refl
one_line_code ReadOnly small = one_line_simple _ refl
one_line_code Updating small = one_line_simple _ refl
one_line_code Exists small = one_line_simple _ refl
one_line_code TooDeep small = one_line_simple _ refl
one_line_code TooManyNodes small = one_line_simple _ refl
one_line_code TooMuchText small = one_line_simple _ refl
one_line_code TooManyItems small = one_line_simple _ refl
one_line_code ReplyTooLong small = one_line_simple _ refl
one_line_code NoMemory small = one_line_simple _ refl
one_line_code (Failed mark) small = one_line_simple _ refl
one_line_code (InDoubt mark) small = one_line_simple _ refl

-- the text of lines is UTF-8
pub lines_utf8 : (lines : List Line) → AreLines lines → IsUtf8 (text_of lines)
lines_utf8 [] are = (one_line_simple [] refl).0
lines_utf8 (line ∷ more) are = IsUtf8-append line (10 ∷ text_of more) are.0.0 (IsUtf8-append (10 ∷ []) (text_of more) newline_utf8 (lines_utf8 more are.1))
  where
    newline_ascii : IsAscii (10 ∷ [])
    newline_ascii zero = lit< tt
    newline_ascii (suc i) = lit< tt

    newline_utf8 : IsUtf8 (10 ∷ [])
    newline_utf8 = IsUtf8-from_ascii (10 ∷ []) newline_ascii

-- a quote is UTF-8
pub quote_utf8 : IsUtf8 (39 ∷ [])
quote_utf8 = (one_line_simple (39 ∷ []) refl).0
