-- What is read from the left is exactly what the relations say.
use Rattle.std.proofs.Common.{◌≡◌, ℕ, ◌<◌, ◌≤◌, Bool, true, false, ◌&&◌, List, length, Option, None, Some, refl, sym, ◌∙◌, arith}
use Rattle.std.specs.Prelude.{nat_le, count_by, if◌then◌else◌, Result, Ok, Err}
use Rattle.std.proofs.lemmas.Bool.{leb-true, leb-false}
use Rattle.std.proofs.lemmas.Bool.Decides.{nat_tests}
use Rattle.xq_ast.specs.declared.limits.TheConstants.{CALL_BYTES_MAX, BRACKETS_MAX, NESTING_WORDS_MAX, SINGLES_MAX}
use Rattle.xq_ast.specs.declared.token.Token.{Token}
use Rattle.xq_ast.specs.declared.call.Call.{Call}
use Rattle.xq_ast.specs.declared.call.CallText.{CallText}
use Rattle.xq_ast.specs.declared.code.Code.{Code}
use Rattle.xq_ast.specs.declared.code.Code.TheVariants.{TooLong, NestedTooDeep, BadName, XPST0017, XPST0008}
use Rattle.xq_ast.specs.Tokens.{tokens}
use Rattle.xq_ast.specs.Grammar.{IsCall}
use Rattle.xq_ast.specs.GoodNames.{has_good_names}
use Rattle.xq_ast.specs.Functions.{has_known_functions}
use Rattle.xq_ast.specs.Variables.{has_bound_variables}
use Rattle.xq_ast.specs.Parsed as answers
use Rattle.xq_ast.specs.Parsed.{Parsed, IsRead, is_nested_well, most_open, is_nesting_word}
use Rattle.xq_ast.specs.Readings.{call_of, named_well, read_tokens, parsed}
use Rattle.xq_parse.proofs.Balance.{nest, words}
use Rattle.xq_parse.proofs.Calls as calls

-- no tokens are two calls
pub one_call : (ts : List Token) (pyx : List (List ℕ)) (a b : Call) → IsCall ts pyx a → IsCall ts pyx b → a ≡ b
one_call ts pyx a b p q = calls.one_call ts pyx a b p q

-- ---- the depth

both_true : (a b : Bool) → (a && b) ≡ true → (a ≡ true) × (b ≡ true)
both_true true b h = (refl, h)
both_true false b h = cc

-- tokens that are nested well have single expressions no deeper than may be
pub nested_small : (ts : List Token) → is_nested_well ts ≡ true → nest ts < SINGLES_MAX
unfolding nest
nested_small ts well =
    let p = both_true (nat_le (most_open 0 ts) BRACKETS_MAX) (nat_le (count_by is_nesting_word ts) NESTING_WORDS_MAX) well in
    let brackets : most_open 0 ts ≤ BRACKETS_MAX = leb-true (most_open 0 ts) BRACKETS_MAX p.0 in
    let words_few : words ts ≤ NESTING_WORDS_MAX = leb-true (words ts) NESTING_WORDS_MAX p.1 in
    omega (arith, brackets, words_few)

-- tokens that are nested well and are a call are read as this call
pub call_complete : {ts : List Token} {pyx : List (List ℕ)} {c : Call} → is_nested_well ts ≡ true → IsCall ts pyx c → call_of ts pyx ≡ Some c
call_complete {ts} well is = calls.call_read SINGLES_MAX is (nested_small ts well)

-- tokens that are read as a call are this call
pub call_sound : (ts : List Token) (pyx : List (List ℕ)) (c : Call) → call_of ts pyx ≡ Some c → IsCall ts pyx c
call_sound ts pyx c e = calls.call_sound SINGLES_MAX ts pyx c e

-- ---- the answer

-- a bound, as a test
fits : (n m : ℕ) → n ≤ m → nat_le n m ≡ true
fits n m h = grind (arith, nat_tests)

passes : (n m : ℕ) → m < n → nat_le n m ≡ false
passes n m h = grind (arith, nat_tests)

fits_from : (n m : ℕ) → nat_le n m ≡ true → n ≤ m
fits_from n m e = leb-true n m e

passes_from : (n m : ℕ) → nat_le n m ≡ false → m < n
passes_from n m e = leb-false n m e

-- where nothing is read no call has these tokens
none_read : (ts : List Token) (pyx : List (List ℕ)) → is_nested_well ts ≡ true → call_of ts pyx ≡ None → (c : Call) → IsCall ts pyx c → ⊥
none_read ts pyx well none c is = let e : None ≡ Some c = sym none ∙ call_complete well is in cc

-- where no call has these tokens nothing is read
nothing_read : (ts : List Token) (pyx : List (List ℕ)) (o : Option Call) → call_of ts pyx ≡ o → ((c : Call) → IsCall ts pyx c → ⊥) → o ≡ None
nothing_read ts pyx None e none = refl
nothing_read ts pyx (Some c) e none = absurd (none c (call_sound ts pyx c e))

read_is : (ts : List Token) (pyx : List (List ℕ)) (r : Result Call Code) → IsRead ts pyx r → read_tokens (Some ts) pyx ≡ r
read_is ts pyx _ (answers.IsRead.nested_too_deep deep) = rw deep refl
read_is ts pyx _ (answers.IsRead.no_call well none) = rw (well, nothing_read ts pyx (call_of ts pyx) refl none) refl
read_is ts pyx _ (answers.IsRead.bad_name well is bad) = rw (well, call_complete well is, bad) refl
read_is ts pyx _ (answers.IsRead.unknown_function well is good unknown) = rw (well, call_complete well is, good, unknown) refl
read_is ts pyx _ (answers.IsRead.unbound_variable well is good known unbound) = rw (well, call_complete well is, good, known, unbound) refl
read_is ts pyx _ (answers.IsRead.a_call well is good known bound) = rw (well, call_complete well is, good, known, bound) refl

-- what the relation says of a text is what is read
pub parsed_is : (c : CallText) (r : Result Call Code) → Parsed c r → parsed c ≡ r
unfolding parsed
parsed_is c _ (answers.Parsed.too_long long) = rw (passes (length c.text) CALL_BYTES_MAX long) refl
parsed_is c _ (answers.Parsed.no_tokens short none) = rw (fits (length c.text) CALL_BYTES_MAX short, none) refl
parsed_is c r (answers.Parsed.read short split is) = rw (fits (length c.text) CALL_BYTES_MAX short, split) (read_is _ c.pyx r is)

passed_holds : (ts : List Token) (pyx : List (List ℕ)) (c : Call) (good known bound : Bool) → is_nested_well ts ≡ true → IsCall ts pyx c
    → has_good_names c ≡ good → has_known_functions c ≡ known → has_bound_variables c ≡ bound
    → IsRead ts pyx (if good then (if known then (if bound then Ok c else Err XPST0008) else Err XPST0017) else Err BadName)
passed_holds ts pyx c true true true well is good known bound = answers.IsRead.a_call well is good known bound
passed_holds ts pyx c true true false well is good known bound = answers.IsRead.unbound_variable well is good known bound
passed_holds ts pyx c true false b well is good known bound = answers.IsRead.unknown_function well is good known
passed_holds ts pyx c false k b well is good known bound = answers.IsRead.bad_name well is good

named_holds : (ts : List Token) (pyx : List (List ℕ)) (o : Option Call) → is_nested_well ts ≡ true → call_of ts pyx ≡ o → IsRead ts pyx (named_well o)
named_holds ts pyx None well e = answers.IsRead.no_call well (none_read ts pyx well e)
named_holds ts pyx (Some c) well e = passed_holds ts pyx c (has_good_names c) (has_known_functions c) (has_bound_variables c) well (call_sound ts pyx c e) refl refl refl

read_holds : (ts : List Token) (pyx : List (List ℕ)) (b : Bool) → is_nested_well ts ≡ b
    → IsRead ts pyx (if b then named_well (call_of ts pyx) else Err NestedTooDeep)
read_holds ts pyx true well = named_holds ts pyx (call_of ts pyx) well refl
read_holds ts pyx false deep = answers.IsRead.nested_too_deep deep

tokens_hold : (c : CallText) (o : Option (List Token)) → length c.text ≤ CALL_BYTES_MAX → tokens c.text ≡ o → Parsed c (read_tokens o c.pyx)
tokens_hold c None short none = answers.Parsed.no_tokens short none
tokens_hold c (Some ts) short split = answers.Parsed.read short split (read_holds ts c.pyx (is_nested_well ts) refl)

length_holds : (c : CallText) (b : Bool) → nat_le (length c.text) CALL_BYTES_MAX ≡ b → Parsed c (if b then read_tokens (tokens c.text) c.pyx else Err TooLong)
length_holds c true short = tokens_hold c (tokens c.text) (fits_from (length c.text) CALL_BYTES_MAX short) refl
length_holds c false long = answers.Parsed.too_long (passes_from (length c.text) CALL_BYTES_MAX long)

-- what is read of a text is what the relation says of it; so each text is a call or is refused
pub parsed_holds : (c : CallText) → Parsed c (parsed c)
unfolding parsed
parsed_holds c = length_holds c (nat_le (length c.text) CALL_BYTES_MAX) refl

-- and in one way
pub one_answer : (c : CallText) (a b : Result Call Code) → Parsed c a → Parsed c b → a ≡ b
one_answer c a b p q = sym (parsed_is c a p) ∙ parsed_is c b q
