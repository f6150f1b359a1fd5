-- What a call's text is: the call that it spells, or why it is refused. The refusals are tested in the order of the
-- cases: too long, no tokens, nested too deep, no call, a bad name, an unknown function, an unbound variable. The last
-- three are each a pass over the whole call.
use Rattle.std.specs.Prelude.{◌≡◌, ℕ, suc, ◌-◌, ◌<◌, ◌≤◌, Bool, true, false, ◌&&◌, ◌||◌, nat_le, bytes_eq, max, count_by, List, [], ◌∷◌, length, None, Some, Result, Ok, Err, codes}
use Rattle.xq_ast.specs.declared.limits.TheConstants.{CALL_BYTES_MAX, BRACKETS_MAX, NESTING_WORDS_MAX}
use Rattle.xq_ast.specs.declared.token.Symbol.TheVariants.{OpenRound, CloseRound, OpenSquare, CloseSquare, OpenCurly, CloseCurly}
use Rattle.xq_ast.specs.declared.token.Token.{Token}
use Rattle.xq_ast.specs.declared.token.Token.TheVariants as token
use Rattle.xq_ast.specs.declared.call.Call.{Call}
use Rattle.xq_ast.specs.declared.call.CallText.{CallText}
use Rattle.xq_ast.specs.declared.code.Code.{Code}
use Rattle.xq_ast.specs.declared.code.Code.TheVariants.{TooLong, XPST0003, NestedTooDeep, BadName, XPST0017, XPST0008}
use Rattle.xq_ast.specs.Tokens.{tokens}
use Rattle.xq_ast.specs.Grammar.{IsCall}
use Rattle.xq_ast.specs.GoodNames.{has_good_names}
use Rattle.xq_ast.specs.Functions.{has_known_functions}
use Rattle.xq_ast.specs.Variables.{has_bound_variables}

-- ---- nesting

-- the brackets that are open behind a token, of `n` before it: an opening one of any shape adds one, a closing one
-- of any shape takes one away where one is open
abbrev pub open_behind : ℕ → Token → ℕ
open_behind n (token.Symbol OpenRound) = suc n
open_behind n (token.Symbol OpenSquare) = suc n
open_behind n (token.Symbol OpenCurly) = suc n
open_behind n (token.Symbol CloseRound) = n - 1
open_behind n (token.Symbol CloseSquare) = n - 1
open_behind n (token.Symbol CloseCurly) = n - 1
open_behind n _ = n

-- the most brackets that are open at once, of `n` before these tokens
abbrev pub most_open : ℕ → List Token → ℕ
most_open n [] = n
most_open n (t ∷ ts) = max n (most_open (open_behind n t) ts)

-- the words `return` and `else`
abbrev pub is_nesting_word : Token → Bool
is_nesting_word (token.Name name) = bytes_eq name (codes "return") || bytes_eq name (codes "else")
is_nesting_word _ = false

-- not too many brackets are open at once, and there are not too many of the words `return` and `else`
abbrev pub is_nested_well : List Token → Bool
is_nested_well ts = nat_le (most_open 0 ts) BRACKETS_MAX && nat_le (count_by is_nesting_word ts) NESTING_WORDS_MAX

-- ---- the answer

-- what these tokens are, with these PYX lines
pub data IsRead (ts : List Token) (pyx : List (List ℕ)) : Result Call Code → Type 0 where
  nested_too_deep : is_nested_well ts ≡ false → IsRead ts pyx (Err NestedTooDeep)
  no_call : is_nested_well ts ≡ true → ((call : Call) → IsCall ts pyx call → ⊥) → IsRead ts pyx (Err XPST0003)
  bad_name : {call : Call} → is_nested_well ts ≡ true → IsCall ts pyx call → has_good_names call ≡ false → IsRead ts pyx (Err BadName)
  unknown_function : {call : Call} → is_nested_well ts ≡ true → IsCall ts pyx call → has_good_names call ≡ true → has_known_functions call ≡ false
      → IsRead ts pyx (Err XPST0017)
  unbound_variable : {call : Call} → is_nested_well ts ≡ true → IsCall ts pyx call → has_good_names call ≡ true → has_known_functions call ≡ true
      → has_bound_variables call ≡ false → IsRead ts pyx (Err XPST0008)
  a_call : {call : Call} → is_nested_well ts ≡ true → IsCall ts pyx call → has_good_names call ≡ true → has_known_functions call ≡ true
      → has_bound_variables call ≡ true → IsRead ts pyx (Ok call)

-- what a call's text is
pub data Parsed (c : CallText) : Result Call Code → Type 0 where
  too_long : CALL_BYTES_MAX < length c.text → Parsed c (Err TooLong)
  no_tokens : length c.text ≤ CALL_BYTES_MAX → tokens c.text ≡ None → Parsed c (Err XPST0003)
  read : {ts : List Token} {answer : Result Call Code} → length c.text ≤ CALL_BYTES_MAX → tokens c.text ≡ Some ts → IsRead ts c.pyx answer → Parsed c answer
