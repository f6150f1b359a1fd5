-- Tokens read from the left: the grammar as a function. It is proved to give exactly what the relations give, so
-- nobody needs to believe it who believes those.
-- A reading gives what the tokens begin with and the tokens behind it, or None. Each row is written over `inner`, the
-- reading of the single expressions inside it; the number of single expressions that stand one in another bounds
-- them all. What is looked at ahead, three tokens at most, is a function of its own. Rows are opened where they are
-- wanted.
use Rattle.std.specs.Prelude.{ℕ, zero, suc, ℤ, Bool, true, false, ◌&&◌, ◌||◌, nat_le, bytes_eq, if◌then◌else◌, List, [], ◌∷◌, ◌++◌, length, Option, None, Some, Result, Ok, Err, codes}
use Rattle.xq_ast.specs.declared.limits.TheConstants.{CALL_BYTES_MAX, SINGLES_MAX}
use Rattle.xq_ast.specs.declared.token.Symbol.{Symbol}
use Rattle.xq_ast.specs.declared.token.Symbol.TheVariants.{OpenRound, CloseRound, OpenSquare, CloseSquare, OpenCurly, CloseCurly, Comma, Slash, SlashSlash, At, Dot, DotDot, ColonColon, Assign, Equal, NotEqual, Less, LessOrEqual, Greater, GreaterOrEqual, Plus, Minus, Star, Bar, Dollar}
use Rattle.xq_ast.specs.declared.token.Token.{Token}
use Rattle.xq_ast.specs.declared.token.Token.TheVariants.{Name, Text, Int, Symbol as Mark}
use Rattle.xq_ast.specs.declared.token.Token.TheVariants as token
use Rattle.xq_ast.specs.declared.step.Axis.{Axis}
use Rattle.xq_ast.specs.declared.step.Axis.TheVariants as axis
use Rattle.xq_ast.specs.declared.step.Test.{Test}
use Rattle.xq_ast.specs.declared.step.Test.TheVariants as kind
use Rattle.xq_ast.specs.declared.tree.CompareOp.{CompareOp}
use Rattle.xq_ast.specs.declared.tree.CompareOp.TheVariants as compare
use Rattle.xq_ast.specs.declared.tree.ProductOp.{ProductOp}
use Rattle.xq_ast.specs.declared.tree.ProductOp.TheVariants.{Times, Idiv, Mod}
use Rattle.xq_ast.specs.declared.tree.Sign.{Sign}
use Rattle.xq_ast.specs.declared.tree.Sign.TheVariants as sign
use Rattle.xq_ast.specs.declared.tree.Expr.{Expr}
use Rattle.xq_ast.specs.declared.tree.Expr.TheVariants as expression
use Rattle.xq_ast.specs.declared.tree.Bind.{Bind}
use Rattle.xq_ast.specs.declared.tree.Bind.TheVariants as binding
use Rattle.xq_ast.specs.declared.tree.SortKey.{SortKey}
use Rattle.xq_ast.specs.declared.tree.SumPart.{SumPart}
use Rattle.xq_ast.specs.declared.tree.ProductPart.{ProductPart}
use Rattle.xq_ast.specs.declared.tree.Step.{Step}
use Rattle.xq_ast.specs.declared.update.Update.{Update}
use Rattle.xq_ast.specs.declared.update.Update.TheVariants as update
use Rattle.xq_ast.specs.declared.call.Call.{Call}
use Rattle.xq_ast.specs.declared.call.Call.TheVariants as call
use Rattle.xq_ast.specs.declared.call.CallText.{CallText}
use Rattle.xq_ast.specs.declared.code.Code.{Code}
use Rattle.xq_ast.specs.declared.code.Code.TheVariants.{TooLong, XPST0003, NestedTooDeep, BadName, XPST0017, XPST0008}
use Rattle.xq_ast.specs.Tokens.{◌>>=◌, tokens}
use Rattle.xq_ast.specs.Grammar.{sequence_of, group_of, or_of, and_of, sum_of, product_of, union_of, signed_of, filter_of, path_of, steps_of, key, sum_part, product_part, step as step_with, step_behind, is_test_word, is_doc_word, plain}
use Rattle.xq_ast.specs.GoodNames.{has_good_names}
use Rattle.xq_ast.specs.Functions.{has_known_functions}
use Rattle.xq_ast.specs.Variables.{has_bound_variables}
use Rattle.xq_ast.specs.Parsed.{is_nested_well}

-- what the tokens begin with and the tokens behind it, or None where they begin with nothing of the kind
abbrev pub Reader : Type 0 → Type 0
Reader A = List Token → Option (A × List Token)

-- ---- looking ahead: what stands behind a token or two, where the tokens begin with them

-- what stands behind a comma, where the tokens begin with one
abbrev pub comma : List Token → Option (List Token)
comma (Mark Comma ∷ ts) = Some ts
comma _ = None

-- what stands behind a closing round bracket, where the tokens begin with one
abbrev pub close_round : List Token → Option (List Token)
close_round (Mark CloseRound ∷ ts) = Some ts
close_round _ = None

-- what stands behind a closing square bracket, where the tokens begin with one
abbrev pub close_square : List Token → Option (List Token)
close_square (Mark CloseSquare ∷ ts) = Some ts
close_square _ = None

-- what stands behind a closing curly bracket, where the tokens begin with one
abbrev pub close_curly : List Token → Option (List Token)
close_curly (Mark CloseCurly ∷ ts) = Some ts
close_curly _ = None

-- what stands behind an opening square bracket, where the tokens begin with one
abbrev pub open_square : List Token → Option (List Token)
open_square (Mark OpenSquare ∷ ts) = Some ts
open_square _ = None

-- what stands behind :=, where the tokens begin with it
abbrev pub assign : List Token → Option (List Token)
assign (Mark Assign ∷ ts) = Some ts
assign _ = None

-- this word
abbrev pub word : List ℕ → List Token → Option (List Token)
word w (Name name ∷ ts) = if bytes_eq name w then Some ts else None
word w _ = None

-- these two words
abbrev pub two_words : List ℕ → List ℕ → List Token → Option (List Token)
two_words v w (Name first ∷ Name second ∷ ts) = if bytes_eq first v && bytes_eq second w then Some ts else None
two_words v w _ = None

-- the name that the tokens begin with
abbrev pub a_name : Reader (List ℕ)
a_name (Name name ∷ ts) = Some (name, ts)
a_name _ = None

-- $Name
abbrev pub variable : Reader (List ℕ)
variable (Mark Dollar ∷ Name name ∷ ts) = Some (name, ts)
variable _ = None

-- the operator of a comparison
abbrev pub compare_op : Reader CompareOp
compare_op (Mark Equal ∷ ts) = Some (compare.Eq, ts)
compare_op (Mark NotEqual ∷ ts) = Some (compare.Ne, ts)
compare_op (Mark Less ∷ ts) = Some (compare.Lt, ts)
compare_op (Mark LessOrEqual ∷ ts) = Some (compare.Le, ts)
compare_op (Mark Greater ∷ ts) = Some (compare.Gt, ts)
compare_op (Mark GreaterOrEqual ∷ ts) = Some (compare.Ge, ts)
compare_op _ = None

-- + or -, of which the second is `minus`
abbrev pub sum_op : Reader Bool
sum_op (Mark Plus ∷ ts) = Some (false, ts)
sum_op (Mark Minus ∷ ts) = Some (true, ts)
sum_op _ = None

-- the operator of a product: *, or one of the words idiv and mod
abbrev pub product_op : Reader ProductOp
product_op (Mark Star ∷ ts) = Some (Times, ts)
product_op (Name w ∷ ts) = if bytes_eq w (codes "idiv") then Some (Idiv, ts) else if bytes_eq w (codes "mod") then Some (Mod, ts) else None
product_op _ = None

-- | or the word union
abbrev pub union_op : List Token → Option (List Token)
union_op (Mark Bar ∷ ts) = Some ts
union_op (Name w ∷ ts) = if bytes_eq w (codes "union") then Some ts else None
union_op _ = None

-- / or //, of which the second is `deep`
abbrev pub slash : Reader Bool
slash (Mark Slash ∷ ts) = Some (false, ts)
slash (Mark SlashSlash ∷ ts) = Some (true, ts)
slash _ = None

-- what stands behind a name, as far as it tells what the name is
pub data Behind : Type 0 where
  -- $
  dollar : List Token → Behind
  -- (
  round : List Token → Behind
  -- {
  curly : List Token → Behind
  -- Name {
  name_curly : List ℕ → List Token → Behind
  -- ::
  colons : List Token → Behind
  other : Behind

-- what these tokens, behind a name, tell of it
abbrev pub behind_name : List Token → Behind
behind_name (Mark Dollar ∷ ts) = Behind.dollar ts
behind_name (Mark OpenRound ∷ ts) = Behind.round ts
behind_name (Mark OpenCurly ∷ ts) = Behind.curly ts
behind_name (Name name ∷ Mark OpenCurly ∷ ts) = Behind.name_curly name ts
behind_name (Mark ColonColon ∷ ts) = Behind.colons ts
behind_name _ = Behind.other

-- ---- repetition

-- Items, each behind what `separator` reads. An item may depend on its separator; `add` puts it before the others.
-- The number bounds the turns; any number from that of the tokens on gives the same.
module _ {S A B : Type 0} (separator : Reader S) (item : S → Reader A) (add : S → A → B → B) (none : B) where
  -- no items where no separator stands, and else the item behind it and then more; a separator without item is a fault
  abbrev pub repeated_at : Option (S × List Token) → List Token → Reader B → Option (B × List Token)
  repeated_at None ts more = Some (none, ts)
  repeated_at (Some s) ts more = item s.0 s.1 >>= (λ r. more r.1 >>= (λ q. Some (add s.0 r.0 q.0, q.1)))

  -- the items that follow, of which at most so many are read
  abbrev pub repeated : ℕ → Reader B
  repeated zero ts = Some (none, ts)
  repeated (suc n) ts = repeated_at (separator ts) ts (repeated n)

  -- all the items that follow
  abbrev pub items : Reader B
  items ts = repeated (length ts) ts

-- the first part, then what follows it
abbrev pub followed : {A B C : Type 0} → (A → B → C) → Reader A → Reader B → Reader C
followed make first rest ts = first ts >>= (λ f. rest f.1 >>= (λ r. Some (make f.0 r.0, r.1)))

-- a first part, and behind an operator a second one where one stands
abbrev pub paired_at : {S A : Type 0} → (A → S → A → A) → Reader A → A × List Token → Option (S × List Token) → Option (A × List Token)
paired_at make part l None = Some l
paired_at make part l (Some s) = part s.1 >>= (λ r. Some (make l.0 s.0 r.0, r.1))

-- a part, and where an operator stands behind it that operator and a second part
abbrev pub paired : {S A : Type 0} → Reader S → (A → S → A → A) → Reader A → Reader A
paired op make part ts = part ts >>= (λ l. paired_at make part l (op l.1))

-- a separator that is one token or two says nothing but that it is there
abbrev pub there_at : Option (List Token) → Option (Unit {0} × List Token)
there_at None = None
there_at (Some ts) = Some (tt, ts)

-- the separator is there, with the tokens behind it
abbrev pub there : (List Token → Option (List Token)) → Reader (Unit {0})
there look ts = there_at (look ts)

-- the item comes before the others, whatever its separator is
abbrev pub put : {S A : Type 0} → S → A → List A → List A
put s x xs = x ∷ xs

-- ---- lists of expressions

-- (, Single)*
unfoldable pub commas : Reader Expr → Reader (List Expr)
commas inner = items (there comma) (λ s. inner) put []

-- Single (, Single)*
unfoldable pub list : Reader Expr → Reader (List Expr)
list inner = followed (λ e es. e ∷ es) inner (commas inner)

-- Expr
unfoldable pub expr : Reader Expr → Reader Expr
expr inner ts = list inner ts >>= (λ r. Some (sequence_of r.0, r.1))

-- [Expr] and the bracket that closes it
abbrev pub content_at : (List Token → Option (List Token)) → Reader Expr → List Token → Option (List Token) → Option (Option Expr × List Token)
content_at close inner ts (Some us) = Some (None, us)
content_at close inner ts None = expr inner ts >>= (λ e. close e.1 >>= (λ us. Some (Some e.0, us)))

-- [Expr] and the bracket that closes it
unfoldable pub content : (List Token → Option (List Token)) → Reader Expr → Reader (Option Expr)
content close inner ts = content_at close inner ts (close ts)

-- [Single (, Single)*] and the bracket that closes it
abbrev pub arguments_at : Reader Expr → List Token → Option (List Token) → Option (List Expr × List Token)
arguments_at inner ts (Some us) = Some ([], us)
arguments_at inner ts None = list inner ts >>= (λ es. close_round es.1 >>= (λ us. Some (es.0, us)))

-- [Single (, Single)*] and the bracket that closes it
unfoldable pub arguments : Reader Expr → Reader (List Expr)
arguments inner ts = arguments_at inner ts (close_round ts)

-- Pred*
unfoldable pub pred : Reader Expr → Reader Expr
pred inner ts = expr inner ts >>= (λ e. close_square e.1 >>= (λ us. Some (e.0, us)))

-- Pred*
unfoldable pub preds : Reader Expr → Reader (List Expr)
preds inner = items (there open_square) (λ s. pred inner) put []

-- ---- steps

-- the axis of this word
abbrev pub axis_of : List ℕ → Option Axis
axis_of w =
    if bytes_eq w (codes "child") then Some axis.Child
    else if bytes_eq w (codes "descendant") then Some axis.Descendant
    else if bytes_eq w (codes "descendant-or-self") then Some axis.DescendantOrSelf
    else if bytes_eq w (codes "self") then Some axis.Itself
    else if bytes_eq w (codes "attribute") then Some axis.Attribute
    else if bytes_eq w (codes "parent") then Some axis.Parent
    else None

-- the test of this word, before brackets
abbrev pub kind_of : List ℕ → Option Test
kind_of w =
    if bytes_eq w (codes "node") then Some kind.AnyNode
    else if bytes_eq w (codes "text") then Some kind.Text
    else if bytes_eq w (codes "processing-instruction") then Some kind.Pi
    else None

-- NameTest
abbrev pub name_test : Reader (Option (List ℕ))
name_test (Name name ∷ ts) = Some (Some name, ts)
name_test (Mark Star ∷ ts) = Some (None, ts)
name_test _ = None

-- a test that begins with this name
abbrev pub named_test : List ℕ → List Token → Behind → Option (Test × List Token)
named_test w ts (Behind.round us) = kind_of w >>= (λ t. close_round us >>= (λ vs. Some (t, vs)))
named_test w ts _ = Some (kind.Name (Some w), ts)

-- Test
abbrev pub test : Reader Test
test (Name w ∷ ts) = named_test w ts (behind_name ts)
test (Mark Star ∷ ts) = Some (kind.Name None, ts)
test _ = None

-- [Axis ::] Test, beginning with this name
abbrev pub named_step : List ℕ → List Token → Behind → Option ((Axis × Test) × List Token)
named_step w ts (Behind.colons us) = axis_of w >>= (λ a. test us >>= (λ t. Some ((a, t.0), t.1)))
named_step w ts b = named_test w ts b >>= (λ t. Some ((axis.Child, t.0), t.1))

-- @ NameTest | .. | [Axis ::] Test
unfoldable pub bare_step : Reader (Axis × Test)
bare_step (Mark At ∷ ts) = name_test ts >>= (λ n. Some ((axis.Attribute, kind.Name n.0), n.1))
bare_step (Mark DotDot ∷ ts) = Some ((axis.Parent, kind.AnyNode), ts)
bare_step (Mark Star ∷ ts) = Some ((axis.Child, kind.Name None), ts)
bare_step (Name w ∷ ts) = named_step w ts (behind_name ts)
bare_step _ = None

-- Step
unfoldable pub step : Reader Expr → Reader Step
step inner = followed (λ s ps. step_with s.0 s.1 ps) bare_step (preds inner)

-- ((/ | //) Step)*
unfoldable pub steps : Reader Expr → Reader (List Step)
steps inner = items slash (λ deep. step inner) (λ deep s more. step_behind deep s ∷ more) []

-- ---- primaries

-- how an operand begins: as one of these primaries, with the tokens behind what was looked at, or as a step
pub data Operand : Type 0 where
  a_string : List ℕ → List Token → Operand
  an_integer : ℤ → List Token → Operand
  -- $
  a_variable : List Token → Operand
  -- (
  a_group : List Token → Operand
  the_context : List Token → Operand
  -- doc (
  a_doc : List Token → Operand
  -- Name (
  a_function : List ℕ → List Token → Operand
  -- element Name {
  an_element : List ℕ → List Token → Operand
  -- attribute Name {
  an_attribute : List ℕ → List Token → Operand
  -- text {
  a_text_node : List Token → Operand
  a_step : Operand

-- an operand that begins with this name
abbrev pub named_operand : List ℕ → Behind → Operand
named_operand w (Behind.round us) = if is_doc_word w then Operand.a_doc us else if is_test_word w then Operand.a_step else Operand.a_function w us
named_operand w (Behind.name_curly name us) =
    if bytes_eq w (codes "element") then Operand.an_element name us else if bytes_eq w (codes "attribute") then Operand.an_attribute name us else Operand.a_step
named_operand w (Behind.curly us) = if bytes_eq w (codes "text") then Operand.a_text_node us else Operand.a_step
named_operand w _ = Operand.a_step

-- how these tokens begin an operand: as one of the primaries, or as a step
abbrev pub operand : List Token → Operand
operand (Text value ∷ ts) = Operand.a_string value ts
operand (Int value ∷ ts) = Operand.an_integer value ts
operand (Mark Dollar ∷ ts) = Operand.a_variable ts
operand (Mark OpenRound ∷ ts) = Operand.a_group ts
operand (Mark Dot ∷ ts) = Operand.the_context ts
operand (Name w ∷ ts) = named_operand w (behind_name ts)
operand _ = Operand.a_step

-- the string that a name of a document is, and the bracket that closes it
abbrev pub doc : Reader Expr
doc (Text name ∷ Mark CloseRound ∷ ts) = Some (expression.Doc name, ts)
doc _ = None

-- Primary
unfoldable pub primary : Reader Expr → Operand → Option (Expr × List Token)
primary inner (Operand.a_string value ts) = Some (expression.Text value, ts)
primary inner (Operand.an_integer value ts) = Some (expression.Int value, ts)
primary inner (Operand.a_variable ts) = a_name ts >>= (λ n. Some (expression.Var n.0, n.1))
primary inner (Operand.a_group ts) = content close_round inner ts >>= (λ o. Some (group_of o.0, o.1))
primary inner (Operand.the_context ts) = Some (expression.Context, ts)
primary inner (Operand.a_doc ts) = doc ts
primary inner (Operand.a_function w ts) = arguments inner ts >>= (λ es. Some (expression.Fun (plain w) es.0, es.1))
primary inner (Operand.an_element name ts) = content close_curly inner ts >>= (λ o. Some (expression.Element name o.0, o.1))
primary inner (Operand.an_attribute name ts) = content close_curly inner ts >>= (λ o. Some (expression.Attribute name o.0, o.1))
primary inner (Operand.a_text_node ts) = content close_curly inner ts >>= (λ o. Some (expression.TextNode o.0, o.1))
primary inner Operand.a_step = None

-- ---- operators, the tightest first

-- Filter, whose primary begins so
unfoldable pub filtered : Reader Expr → Operand → Reader Expr
filtered inner o = followed filter_of (λ us. primary inner o) (preds inner)

-- Path
abbrev pub path_at : Reader Expr → List Token → Operand → Option (Expr × List Token)
path_at inner ts Operand.a_step = followed steps_of (step inner) (steps inner) ts
path_at inner ts o = followed path_of (filtered inner o) (steps inner) ts

-- Path
unfoldable pub path : Reader Expr → Reader Expr
path inner ts = path_at inner ts (operand ts)

-- (+ | -)*
abbrev pub with_sign : Sign → List Sign × List Token → List Sign × List Token
with_sign s r = (s ∷ r.0, r.1)

-- (+ | -)*
abbrev pub signs : List Token → List Sign × List Token
signs (Mark Plus ∷ ts) = with_sign sign.Plus (signs ts)
signs (Mark Minus ∷ ts) = with_sign sign.Minus (signs ts)
signs ts = ([], ts)

-- Signed
abbrev pub signed_at : Reader Expr → List Sign × List Token → Option (Expr × List Token)
signed_at inner s = path inner s.1 >>= (λ e. Some (signed_of s.0 e.0, e.1))

-- Signed
unfoldable pub signed : Reader Expr → Reader Expr
signed inner ts = signed_at inner (signs ts)

-- Union
unfoldable pub unions : Reader Expr → Reader (List Expr)
unions inner = items (there union_op) (λ s. signed inner) put []

-- Union
unfoldable pub union : Reader Expr → Reader Expr
union inner = followed union_of (signed inner) (unions inner)

-- Product
unfoldable pub product_parts : Reader Expr → Reader (List ProductPart)
product_parts inner = items product_op (λ op. union inner) (λ op e ps. product_part op e ∷ ps) []

-- Product
unfoldable pub product : Reader Expr → Reader Expr
product inner = followed product_of (union inner) (product_parts inner)

-- Sum
unfoldable pub sum_parts : Reader Expr → Reader (List SumPart)
sum_parts inner = items sum_op (λ minus. product inner) (λ minus e ps. sum_part minus e ∷ ps) []

-- Sum
unfoldable pub sum : Reader Expr → Reader Expr
sum inner = followed sum_of (product inner) (sum_parts inner)

-- Range
unfoldable pub range : Reader Expr → Reader Expr
range inner = paired (there (word (codes "to"))) (λ l s h. expression.Range l h) (sum inner)

-- Comp
unfoldable pub comp : Reader Expr → Reader Expr
comp inner = paired compare_op expression.Compare (range inner)

-- And
unfoldable pub ands : Reader Expr → Reader (List Expr)
ands inner = items (there (word (codes "and"))) (λ s. comp inner) put []

-- And
unfoldable pub and : Reader Expr → Reader Expr
and inner = followed and_of (comp inner) (ands inner)

-- Or
unfoldable pub ors : Reader Expr → Reader (List Expr)
ors inner = items (there (word (codes "or"))) (λ s. and inner) put []

-- Or
unfoldable pub or : Reader Expr → Reader Expr
or inner = followed or_of (and inner) (ors inner)

-- ---- single expressions

-- [at $Name]
abbrev pub place : List Token → Option (List ℕ) × List Token
place (Name w ∷ Mark Dollar ∷ Name name ∷ ts) = if bytes_eq w (codes "at") then (Some name, ts) else (None, Name w ∷ Mark Dollar ∷ Name name ∷ ts)
place ts = (None, ts)

-- in Single, behind the names of a binding
abbrev pub bind_in : Reader Expr → List ℕ → Option (List ℕ) × List Token → Option (Bind × List Token)
bind_in inner name at = word (codes "in") at.1 >>= (λ us. inner us >>= (λ e. Some (binding.For name at.0 e.0, e.1)))

-- Bind
unfoldable pub bind : Reader Expr → Reader Bind
bind inner ts = variable ts >>= (λ v. bind_in inner v.0 (place v.1))

-- (, Bind)*
unfoldable pub more_binds : Reader Expr → Reader (List Bind)
more_binds inner = items (there comma) (λ s. bind inner) put []

-- Bind (, Bind)*
unfoldable pub binds : Reader Expr → Reader (List Bind)
binds inner = followed (λ b bs. b ∷ bs) (bind inner) (more_binds inner)

-- $Name := Single
unfoldable pub let_bind : Reader Expr → Reader Bind
let_bind inner ts = variable ts >>= (λ v. assign v.1 >>= (λ us. inner us >>= (λ e. Some (binding.Let v.0 e.0, e.1))))

-- (, $Name := Single)*
unfoldable pub more_lets : Reader Expr → Reader (List Bind)
more_lets inner = items (there comma) (λ s. let_bind inner) put []

-- $Name := Single (, $Name := Single)*
unfoldable pub lets : Reader Expr → Reader (List Bind)
lets inner = followed (λ b bs. b ∷ bs) (let_bind inner) (more_lets inner)

-- the words of clauses
pub data ClauseWord : Type 0 where
  for_word : ClauseWord
  let_word : ClauseWord

-- for or let
abbrev pub clause_word : Reader ClauseWord
clause_word (Name w ∷ ts) =
    if bytes_eq w (codes "for") then Some (ClauseWord.for_word, ts) else if bytes_eq w (codes "let") then Some (ClauseWord.let_word, ts) else None
clause_word _ = None

-- For | Let, behind its word
unfoldable pub clause : Reader Expr → ClauseWord → Reader (List Bind)
clause inner ClauseWord.for_word = binds inner
clause inner ClauseWord.let_word = lets inner

-- (For | Let)*
unfoldable pub more_clauses : Reader Expr → Reader (List Bind)
more_clauses inner = items clause_word (clause inner) (λ w bs more. bs ++ more) []

-- For | Let
unfoldable pub first_clause : Reader Expr → Reader (List Bind)
first_clause inner ts = clause_word ts >>= (λ w. clause inner w.0 w.1)

-- (For | Let)+
unfoldable pub clauses : Reader Expr → Reader (List Bind)
clauses inner = followed (λ bs more. bs ++ more) (first_clause inner) (more_clauses inner)

-- [where Single]
abbrev pub filter_at : Reader Expr → List Token → Option (List Token) → Option (Option Expr × List Token)
filter_at inner ts None = Some (None, ts)
filter_at inner ts (Some us) = inner us >>= (λ e. Some (Some e.0, e.1))

-- [where Single]
unfoldable pub filter : Reader Expr → Reader (Option Expr)
filter inner ts = filter_at inner ts (word (codes "where") ts)

-- [ascending | descending]
abbrev pub direction : List Token → Bool × List Token
direction (Name w ∷ ts) = if bytes_eq w (codes "ascending") then (false, ts) else if bytes_eq w (codes "descending") then (true, ts) else (false, Name w ∷ ts)
direction ts = (false, ts)

-- a key of this expression with the direction that was read, and the tokens behind it
abbrev pub key_at : Expr → Bool × List Token → Option (SortKey × List Token)
key_at e d = Some (key d.0 e, d.1)

-- Key
unfoldable pub sort_key : Reader Expr → Reader SortKey
sort_key inner ts = inner ts >>= (λ e. key_at e.0 (direction e.1))

-- (, Key)*
unfoldable pub more_keys : Reader Expr → Reader (List SortKey)
more_keys inner = items (there comma) (λ s. sort_key inner) put []

-- Key (, Key)*
unfoldable pub sort_keys : Reader Expr → Reader (List SortKey)
sort_keys inner = followed (λ k ks. k ∷ ks) (sort_key inner) (more_keys inner)

-- [order by Key (, Key)*]
abbrev pub order_at : Reader Expr → List Token → Option (List Token) → Option (List SortKey × List Token)
order_at inner ts None = Some ([], ts)
order_at inner ts (Some us) = sort_keys inner us

-- [order by Key (, Key)*]
unfoldable pub order : Reader Expr → Reader (List SortKey)
order inner ts = order_at inner ts (two_words (codes "order") (codes "by") ts)

-- Flwor
unfoldable pub flwor : Reader Expr → Reader Expr
flwor inner ts =
    clauses inner ts >>= (λ b. filter inner b.1 >>= (λ f. order inner f.1 >>= (λ k. word (codes "return") k.1 >>= (λ us.
    inner us >>= (λ e. Some (expression.Flwor b.0 f.0 k.0 e.0, e.1))))))

-- If, behind `if (`
unfoldable pub an_if : Reader Expr → Reader Expr
an_if inner ts =
    expr inner ts >>= (λ c. close_round c.1 >>= (λ us. word (codes "then") us >>= (λ vs. inner vs >>= (λ y.
    word (codes "else") y.1 >>= (λ ws. inner ws >>= (λ n. Some (expression.If c.0 y.0 n.0, n.1)))))))

-- which row a single expression is; behind `if (` where it is an If
pub data Begins : Type 0 where
  a_flwor : Begins
  an_if_behind : List Token → Begins
  an_or : Begins

-- which row a single expression is that begins with this name
abbrev pub named_begins : List ℕ → Behind → Begins
named_begins w (Behind.dollar us) = if bytes_eq w (codes "for") || bytes_eq w (codes "let") then Begins.a_flwor else Begins.an_or
named_begins w (Behind.round us) = if bytes_eq w (codes "if") then Begins.an_if_behind us else Begins.an_or
named_begins w _ = Begins.an_or

-- which row a single expression is that begins with these tokens
abbrev pub begins : List Token → Begins
begins (Name w ∷ ts) = named_begins w (behind_name ts)
begins _ = Begins.an_or

-- Single
abbrev pub single_at : Reader Expr → List Token → Begins → Option (Expr × List Token)
single_at inner ts Begins.a_flwor = flwor inner ts
single_at inner ts (Begins.an_if_behind us) = an_if inner us
single_at inner ts Begins.an_or = or inner ts

-- Single, over the reading of those inside it
unfoldable pub single_over : Reader Expr → Reader Expr
single_over inner ts = single_at inner ts (begins ts)

-- single expressions of which at most so many stand one in another
abbrev pub single : ℕ → Reader Expr
single zero ts = None
single (suc n) ts = single_over (single n) ts

-- ---- whole texts: nothing is left

-- what was read, where no token is left
abbrev pub alone_at : {A : Type 0} → A × List Token → Option A
alone_at (x, []) = Some x
alone_at (x, t ∷ ts) = None

-- ---- updates

-- where an insert puts its nodes: into the target, before it or after it
pub data Relation : Type 0 where
  into : Relation
  preceding : Relation
  following : Relation

-- where an insert puts its nodes, by one of the words into, preceding and following
abbrev pub relation : Reader Relation
relation (Name w ∷ ts) =
    if bytes_eq w (codes "into") then Some (Relation.into, ts)
    else if bytes_eq w (codes "preceding") then Some (Relation.preceding, ts)
    else if bytes_eq w (codes "following") then Some (Relation.following, ts)
    else None
relation _ = None

-- the update of an insert with this relation: what is put, and its target
abbrev pub inserted : Relation → Expr → Expr → Update
inserted Relation.into s t = update.Into s t
inserted Relation.preceding s t = update.Preceding s t
inserted Relation.following s t = update.Following s t

-- Single (into | preceding | following) Single
abbrev pub insert : Reader Expr → Reader Update
insert inner ts = inner ts >>= (λ s. relation s.1 >>= (λ r. inner r.1 >>= (λ t. Some (inserted r.0 s.0 t.0, t.1))))

-- $Name in Single with Single
abbrev pub replace : Reader Expr → Reader Update
replace inner ts =
    variable ts >>= (λ v. word (codes "in") v.1 >>= (λ us. inner us >>= (λ t. word (codes "with") t.1 >>= (λ vs.
    inner vs >>= (λ e. Some (update.Replace v.0 t.0 e.0, e.1))))))

-- Single on Name
abbrev pub rename : Reader Expr → Reader Update
rename inner ts = inner ts >>= (λ t. word (codes "on") t.1 >>= (λ us. a_name us >>= (λ n. Some (update.Rename t.0 n.0, n.1))))

-- Single, as the target of this update
abbrev pub deleted : (Expr → Update) → Reader Expr → Reader Update
deleted make inner ts = inner ts >>= (λ t. Some (make t.0, t.1))

-- Update
abbrev pub named_update : List ℕ → Reader Expr → Reader Update
named_update w inner ts =
    if bytes_eq w (codes "insert") then insert inner ts
    else if bytes_eq w (codes "delete") then deleted update.Delete inner ts
    else if bytes_eq w (codes "delete_undeep") then deleted update.DeleteUndeep inner ts
    else if bytes_eq w (codes "replace") then replace inner ts
    else if bytes_eq w (codes "rename") then rename inner ts
    else None

-- Update, whose first token is the word that says which
abbrev pub an_update : Reader Expr → Reader Update
an_update inner (Name w ∷ ts) = named_update w inner ts
an_update inner _ = None

-- ---- calls

-- the call, where no token follows
abbrev pub alone : Call → List Token → Option Call
alone the_call [] = Some the_call
alone the_call (t ∷ ts) = None

-- the call with the string that follows alone
abbrev pub named : (List ℕ → Call) → List Token → Option Call
named make (token.Text name ∷ []) = Some (make name)
named make _ = None

-- the call with the string that follows the word DOCUMENT
abbrev pub document : (List ℕ → Call) → List Token → Option Call
document make (token.Name word ∷ ts) = if bytes_eq word (codes "DOCUMENT") then named make ts else None
document make _ = None

-- what follows the word BEGIN
abbrev pub begin : List Token → Option Call
begin [] = Some call.Begin
begin (token.Name word ∷ []) = if bytes_eq word (codes "READ-ONLY") then Some call.BeginRead else None
begin _ = None

-- what follows the word SHOW
abbrev pub show : List Token → Option Call
show (token.Name word ∷ []) = if bytes_eq word (codes "DOCUMENTS") then Some call.ShowDocuments else None
show _ = None

-- what follows the word UPDATE
abbrev pub updating : Reader Expr → List Token → Option Call
updating inner ts = an_update inner ts >>= alone_at >>= (λ what. Some (call.Update what))

-- an expression alone
abbrev pub query : Reader Expr → List Token → Option Call
query inner ts = expr inner ts >>= alone_at >>= (λ e. Some (call.Query e))

-- the first word says the row
abbrev pub row : Reader Expr → List ℕ → List Token → List (List ℕ) → Option Call
row inner word ts pyx =
    if bytes_eq word (codes "BEGIN") then begin ts
    else if bytes_eq word (codes "COMMIT") then alone call.Commit ts
    else if bytes_eq word (codes "ROLLBACK") then alone call.Rollback ts
    else if bytes_eq word (codes "CHECKPOINT") then alone call.Checkpoint ts
    else if bytes_eq word (codes "SHOW") then show ts
    else if bytes_eq word (codes "CREATE") then document call.Create ts
    else if bytes_eq word (codes "DROP") then document call.Drop ts
    else if bytes_eq word (codes "LOAD") then named (λ name. call.Load name pyx) ts
    else if bytes_eq word (codes "EXPORT") then named call.Export ts
    else if bytes_eq word (codes "UPDATE") then updating inner ts
    else query inner (token.Name word ∷ ts)

-- the call that these tokens are: its row is said by the first word, and without one it is a query
abbrev pub call_over : Reader Expr → List Token → List (List ℕ) → Option Call
call_over inner (token.Name word ∷ ts) pyx = row inner word ts pyx
call_over inner ts pyx = query inner ts

-- the call that these tokens are
abbrev pub call_of : List Token → List (List ℕ) → Option Call
call_of = call_over (single SINGLES_MAX)

-- the passes over a call, in their order
abbrev pub passed : Call → Result Call Code
passed c =
    if has_good_names c then (if has_known_functions c then (if has_bound_variables c then Ok c else Err XPST0008) else Err XPST0017) else Err BadName

-- the call after its passes, or a refusal where the tokens are no call
abbrev pub named_well : Option Call → Result Call Code
named_well None = Err XPST0003
named_well (Some the_call) = passed the_call

-- what tokens are: a call or its refusal; no tokens, or tokens that are nested too deep, are refused before
abbrev pub read_tokens : Option (List Token) → List (List ℕ) → Result Call Code
read_tokens None pyx = Err XPST0003
read_tokens (Some ts) pyx = if is_nested_well ts then named_well (call_of ts pyx) else Err NestedTooDeep

-- what a call's text is
unfoldable pub parsed : CallText → Result Call Code
parsed c = if nat_le (length c.text) CALL_BYTES_MAX then read_tokens (tokens c.text) c.pyx else Err TooLong
