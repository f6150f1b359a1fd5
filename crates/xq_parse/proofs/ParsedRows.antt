-- Worked rows of tokens and of calls. Each computes.
use Rattle.std.specs.Prelude.{◌≡◌, ℕ, true, false, List, [], ◌∷◌, ◌++◌, map, Option, None, Some, Ok, Err, refl, pos, codes, replicate}
use Rattle.xq_ast.specs.declared.token.Symbol.TheVariants.{OpenRound, CloseRound, SlashSlash, Slash, DotDot, Dot, ColonColon, Assign, LessOrEqual, Minus, Dollar}
use Rattle.xq_ast.specs.declared.token.Token.TheVariants.{Name, Text, Int, Symbol}
use Rattle.xq_ast.specs.declared.step.Axis.TheVariants as axis
use Rattle.xq_ast.specs.declared.step.Test.TheVariants as kind
use Rattle.xq_ast.specs.declared.tree.CompareOp.TheVariants as compare
use Rattle.xq_ast.specs.declared.tree.ProductOp.TheVariants.{Times, Idiv, Mod}
use Rattle.xq_ast.specs.declared.tree.Sign.TheVariants as sign
use Rattle.xq_ast.specs.declared.tree.Expr.{Expr}
use Rattle.xq_ast.specs.declared.tree.Expr.TheVariants as e
use Rattle.xq_ast.specs.declared.tree.Bind.TheVariants as bind
use Rattle.xq_ast.specs.declared.tree.Start.TheVariants.{Value, First}
use Rattle.xq_ast.specs.declared.tree.Step.{Step}
use Rattle.xq_ast.specs.declared.update.Update.TheVariants as updates
use Rattle.xq_ast.specs.declared.call.Call.{Call}
use Rattle.xq_ast.specs.declared.call.Call.TheVariants as call
use Rattle.xq_ast.specs.declared.call.CallText.{CallText}
use Rattle.xq_ast.specs.declared.code.Code.TheVariants.{XPST0003, NestedTooDeep, BadName}
use Rattle.xq_ast.specs.Tokens.{◌>>=◌, tokens, token_lengths}
use Rattle.xq_ast.specs.Grammar.{key, sum_part, product_part, step, step_behind}
use Rattle.xq_ast.specs.Parsed.{most_open}
use Rattle.xq_ast.specs.Readings as spec
use Rattle.xq_ast.specs.Readings.{call_of, parsed}

-- ---- tokens

-- the longest symbol that fits
longest_symbols : tokens (codes "//.../::<= :=$")
    ≡ Some (Symbol SlashSlash ∷ Symbol DotDot ∷ Symbol Dot ∷ Symbol Slash ∷ Symbol ColonColon ∷ Symbol LessOrEqual ∷ Symbol Assign ∷ Symbol Dollar ∷ [])
longest_symbols = refl

-- a lone colon is no symbol
lone_colon : tokens (codes "a: b") ≡ None
lone_colon = refl

-- names of one part and of two
names_of_parts : tokens (codes "a-1.b fn:count child::a a:=b")
    ≡ Some (Name (codes "a-1.b") ∷ Name (codes "fn:count") ∷ Name (codes "child") ∷ Symbol ColonColon ∷ Name (codes "a") ∷ Name
    (codes "a") ∷ Symbol Assign ∷ Name (codes "b") ∷ [])
names_of_parts = refl

-- a name has two parts at most
three_parts : tokens (codes "a:b:c") ≡ None
three_parts = refl

-- the greatest integer, and leading zeros
greatest_integer : tokens (codes "9223372036854775807 007") ≡ Some (Int (pos 9223372036854775807) ∷ Int (pos 7) ∷ [])
greatest_integer = refl

past_greatest_integer : tokens (codes "9223372036854775808") ≡ None
past_greatest_integer = refl

-- no character of a name follows an integer directly
integer_then_name : tokens (codes "1-2") ≡ None
integer_then_name = refl

integer_apart : tokens (codes "1 -2") ≡ Some (Int (pos 1) ∷ Symbol Minus ∷ Int (pos 2) ∷ [])
integer_apart = refl

-- both quotes, doubled quotes and references
strings : tokens (codes "'a''b\"' \"&lt;&amp;'\"") ≡ Some (Text (codes "a'b\"") ∷ Text (codes "<&'") ∷ [])
strings = refl

-- another ampersand is a fault, and so is a string that is not closed
other_reference : tokens (codes "'&nbsp;'") ≡ None
other_reference = refl

unclosed_string : tokens (codes "'a''") ≡ None
unclosed_string = refl

-- comments nest and part tokens
comments : tokens (codes "a(: b (: c :) d :)b(::)") ≡ Some (Name (codes "a") ∷ Name (codes "b") ∷ [])
comments = refl

unclosed_comment : tokens (codes "a (: b (: c :)") ≡ None
unclosed_comment = refl

-- a bracket and a colon always open a comment
comment_of_three : tokens (codes "(:)") ≡ None
comment_of_three = refl

-- a token has the length of its own spelling, with quotes, references and leading zeros, without what parts it
lengths : token_lengths (codes "fn:count ( 'a''&lt;' (: , :), 007 )") ≡ Some (8 ∷ 1 ∷ 9 ∷ 1 ∷ 3 ∷ 1 ∷ [])
lengths = refl

-- ---- calls

abbrev text : List ℕ → CallText
text bytes = record { text = bytes; pyx = [] }

-- the call that a text's tokens are
abbrev spelled_call : List ℕ → Option Call
spelled_call bytes = tokens bytes >>= (λ ts. call_of ts [])

-- a text and its call, or None where it has none
abbrev Case : Type 0
Case = List ℕ × Option Call

abbrev spelled : List Case → List (Option Call)
spelled cases = map (λ c. spelled_call c.0) cases

abbrev expected : List Case → List (Option Call)
expected cases = map (λ c. c.1) cases

abbrev int : ℕ → Expr
int n = e.Int (pos n)

abbrev var : List ℕ → Expr
var name = e.Var name

abbrev child : List ℕ → Step
child name = step axis.Child (kind.Name (Some name)) []

abbrev name : List ℕ → Expr
name w = e.Path (First (child w)) []

abbrev star : Expr
star = e.Path (First (step axis.Child (kind.Name None) [])) []

-- rows of expressions: the loosest first
abbrev row_cases : List Case
row_cases =
    (codes "1, 2, 3", Some (call.Query (e.Seq (int 1 ∷ int 2 ∷ int 3 ∷ []))))
    ∷ (codes "()", Some (call.Query (e.Seq [])))
    ∷ (codes "((1))", Some (call.Query (int 1)))
    ∷ (codes "for $x at $p in a, $y in $x let $z := $y, $w := $z where $w order by $p, $z descending, $y ascending return $w", Some (call.Query (e.Flwor (bind.For (codes "x") (Some (codes "p")) (name (codes "a")) ∷ bind.For (codes "y") None (var (codes "x")) ∷ bind.Let (codes "z") (var (codes "y")) ∷ bind.Let (codes "w") (var (codes "z")) ∷ []) (Some (var (codes "w"))) (key false (var (codes "p")) ∷ key true (var (codes "z")) ∷ key false (var (codes "y")) ∷ []) (var (codes "w")))))
    ∷ (codes "let $x := 1 for $y in $x return $y", Some (call.Query (e.Flwor (bind.Let (codes "x") (int 1) ∷ bind.For (codes "y") None (var (codes "x")) ∷ []) None [] (var (codes "y")))))
    ∷ (codes "if (1, 2) then 3 else if (4) then 5 else 6", Some (call.Query (e.If (e.Seq (int 1 ∷ int 2 ∷ [])) (int 3) (e.If (int 4) (int 5) (int 6)))))
    ∷ (codes "1 or 2 and 3 or 4", Some (call.Query (e.Or (int 1 ∷ e.And (int 2 ∷ int 3 ∷ []) ∷ int 4 ∷ []))))
    ∷ (codes "1 = 2, 1 != 2, 1 < 2, 1 <= 2, 1 > 2, 1 >= 2", Some (call.Query (e.Seq (e.Compare (int 1) compare.Eq (int 2) ∷ e.Compare (int 1) compare.Ne (int 2) ∷ e.Compare (int 1) compare.Lt (int 2) ∷ e.Compare (int 1) compare.Le (int 2) ∷ e.Compare (int 1) compare.Gt (int 2) ∷ e.Compare (int 1) compare.Ge (int 2) ∷ []))))
    ∷ (codes "1 + 2 to 3 + 4", Some (call.Query (e.Range (e.Sum (int 1) (sum_part false (int 2) ∷ [])) (e.Sum (int 3) (sum_part false (int 4) ∷ [])))))
    ∷ (codes "1 + 2 - 3 * 4", Some (call.Query (e.Sum (int 1) (sum_part false (int 2) ∷ sum_part true (e.Product (int 3) (product_part Times (int 4) ∷ [])) ∷ []))))
    ∷ (codes "1 * 2 idiv 3 mod 4", Some (call.Query (e.Product (int 1) (product_part Times (int 2) ∷ product_part Idiv (int 3) ∷ product_part Mod (int 4) ∷ []))))
    ∷ (codes "a | b union c * 2", Some (call.Query (e.Product (e.Union (name (codes "a") ∷ name (codes "b") ∷ name (codes "c") ∷ [])) (product_part Times (int 2) ∷ []))))
    ∷ (codes "- + 1 | 2", Some (call.Query (e.Union (e.Signed (sign.Minus ∷ sign.Plus ∷ []) (int 1) ∷ int 2 ∷ []))))
    ∷ (codes "a/b//c", Some (call.Query (e.Path (First (child (codes "a"))) (child (codes "b") ∷ step_behind true (child (codes "c")) ∷ []))))
    ∷ (codes "'t'/a", Some (call.Query (e.Path (Value (e.Text (codes "t"))) (child (codes "a") ∷ []))))
    ∷ (codes "(.)[1][2]", Some (call.Query (e.Filter e.Context (int 1 ∷ int 2 ∷ []))))
    ∷ (codes "a[1, 2][3]", Some (call.Query (e.Path (First (step axis.Child (kind.Name (Some (codes "a"))) (e.Seq (int 1 ∷ int 2 ∷ []) ∷ int 3 ∷ []))) [])))
    ∷ (codes "doc('d'), fn:doc('d')", Some (call.Query (e.Seq (e.Doc (codes "d") ∷ e.Doc (codes "d") ∷ []))))
    ∷ (codes "fn:contains(1, 2), true()", Some (call.Query (e.Seq (e.Fun (codes "contains") (int 1 ∷ int 2 ∷ []) ∷ e.Fun (codes "true") [] ∷ []))))
    ∷ (codes "element a {1, 2}, attribute b {}, text {3}", Some (call.Query (e.Seq (e.Element (codes "a") (Some (e.Seq (int 1 ∷ int 2 ∷ []))) ∷ e.Attribute (codes "b") None ∷ e.TextNode (Some (int 3)) ∷ []))))
    ∷ (codes "1 + text {2}", Some (call.Query (e.Sum (int 1) (sum_part false (e.TextNode (Some (int 2))) ∷ [])))) ∷ []

row_cases_hold : spelled row_cases ≡ expected row_cases
unfolding spec.expr spec.list spec.commas spec.content spec.arguments spec.pred spec.preds spec.bare_step spec.step spec.steps spec.primary spec.filtered spec.path spec.signed spec.unions spec.union spec.product_parts spec.product spec.sum_parts spec.sum spec.range spec.comp spec.ands spec.and spec.ors spec.or spec.bind spec.more_binds spec.binds spec.let_bind spec.more_lets spec.lets spec.clause spec.more_clauses spec.first_clause spec.clauses spec.filter spec.sort_key spec.more_keys spec.sort_keys spec.order spec.flwor spec.an_if spec.single_over
row_cases_hold = refl

-- steps, axes and tests
abbrev step_cases : List Case
step_cases =
    (codes "@a, @*, ..", Some (call.Query (e.Seq (e.Path (First (step axis.Attribute (kind.Name (Some (codes "a"))) [])) [] ∷ e.Path (First (step axis.Attribute (kind.Name None) [])) [] ∷ e.Path (First (step axis.Parent kind.AnyNode [])) [] ∷ []))))
    ∷ (codes "child::a, descendant::*, descendant-or-self::node(), self::text()", Some (call.Query (e.Seq (e.Path (First (step axis.Child (kind.Name (Some (codes "a"))) [])) [] ∷ e.Path (First (step axis.Descendant (kind.Name None) [])) [] ∷ e.Path (First (step axis.DescendantOrSelf kind.AnyNode [])) [] ∷ e.Path (First (step axis.Itself kind.Text [])) [] ∷ []))))
    ∷ (codes "attribute::a, parent::processing-instruction(), node()", Some (call.Query (e.Seq (e.Path (First (step axis.Attribute (kind.Name (Some (codes "a"))) [])) [] ∷ e.Path (First (step axis.Parent kind.Pi [])) [] ∷ e.Path (First (step axis.Child kind.AnyNode [])) [] ∷ [])))) ∷ []

step_cases_hold : spelled step_cases ≡ expected step_cases
unfolding spec.expr spec.list spec.commas spec.content spec.arguments spec.pred spec.preds spec.bare_step spec.step spec.steps spec.primary spec.filtered spec.path spec.signed spec.unions spec.union spec.product_parts spec.product spec.sum_parts spec.sum spec.range spec.comp spec.ands spec.and spec.ors spec.or spec.bind spec.more_binds spec.binds spec.let_bind spec.more_lets spec.lets spec.clause spec.more_clauses spec.first_clause spec.clauses spec.filter spec.sort_key spec.more_keys spec.sort_keys spec.order spec.flwor spec.an_if spec.single_over
step_cases_hold = refl

-- words that are names
abbrev word_cases : List Case
word_cases =
    (codes "for $x in in return return", Some (call.Query (e.Flwor (bind.For (codes "x") None (name (codes "in")) ∷ []) None [] (name (codes "return")))))
    ∷ (codes "for $at at $in in at return at", Some (call.Query (e.Flwor (bind.For (codes "at") (Some (codes "in")) (name (codes "at")) ∷ []) None [] (name (codes "at")))))
    ∷ (codes "let $x := let where where order by order return by", Some (call.Query (e.Flwor (bind.Let (codes "x") (name (codes "let")) ∷ []) (Some (name (codes "where"))) (key false (name (codes "order")) ∷ []) (name (codes "by")))))
    ∷ (codes "for $x in for order by ascending ascending, descending descending return $x", Some (call.Query (e.Flwor (bind.For (codes "x") None (name (codes "for")) ∷ []) None (key false (name (codes "ascending")) ∷ key true (name (codes "descending")) ∷ []) (var (codes "x")))))
    ∷ (codes "if (if) then then else else", Some (call.Query (e.If (name (codes "if")) (name (codes "then")) (name (codes "else")))))
    ∷ (codes "or or or", Some (call.Query (e.Or (name (codes "or") ∷ name (codes "or") ∷ []))))
    ∷ (codes "and and and", Some (call.Query (e.And (name (codes "and") ∷ name (codes "and") ∷ []))))
    ∷ (codes "to to to", Some (call.Query (e.Range (name (codes "to")) (name (codes "to")))))
    ∷ (codes "* * *", Some (call.Query (e.Product star (product_part Times star ∷ []))))
    ∷ (codes "idiv idiv idiv mod mod", Some (call.Query (e.Product (name (codes "idiv")) (product_part Idiv (name (codes "idiv")) ∷ product_part Mod (name (codes "mod")) ∷ []))))
    ∷ (codes "union union union", Some (call.Query (e.Union (name (codes "union") ∷ name (codes "union") ∷ []))))
    ∷ (codes "element or element", Some (call.Query (e.Or (name (codes "element") ∷ name (codes "element") ∷ []))))
    ∷ (codes "element element {text}, attribute attribute {}, text, doc, node, child", Some (call.Query (e.Seq (e.Element (codes "element") (Some (name (codes "text"))) ∷ e.Attribute (codes "attribute") None ∷ name (codes "text") ∷ name (codes "doc") ∷ name (codes "node") ∷ name (codes "child") ∷ []))))
    ∷ (codes "begin, DOCUMENTS", Some (call.Query (e.Seq (name (codes "begin") ∷ name (codes "DOCUMENTS") ∷ []))))
    ∷ (codes "if(1)", None)
    ∷ (codes "a/element b {}", None)
    ∷ (codes "a/count(b)", None)
    ∷ (codes "a/(b)", None)
    ∷ (codes "doc(1)", None)
    ∷ (codes "node(1)", None)
    ∷ (codes "up::a", None)
    ∷ (codes "element a", None)
    ∷ (codes "1-2", None)
    ∷ (codes "1 -2", Some (call.Query (e.Sum (int 1) (sum_part true (int 2) ∷ [])))) ∷ []

word_cases_hold : spelled word_cases ≡ expected word_cases
unfolding spec.expr spec.list spec.commas spec.content spec.arguments spec.pred spec.preds spec.bare_step spec.step spec.steps spec.primary spec.filtered spec.path spec.signed spec.unions spec.union spec.product_parts spec.product spec.sum_parts spec.sum spec.range spec.comp spec.ands spec.and spec.ors spec.or spec.bind spec.more_binds spec.binds spec.let_bind spec.more_lets spec.lets spec.clause spec.more_clauses spec.first_clause spec.clauses spec.filter spec.sort_key spec.more_keys spec.sort_keys spec.order spec.flwor spec.an_if spec.single_over
word_cases_hold = refl

-- words that are names where no row begins with them
abbrev name_cases : List Case
name_cases =
    (codes "1 + if(1)", Some (call.Query (e.Sum (int 1) (sum_part false (e.Fun (codes "if") (int 1 ∷ [])) ∷ []))))
    ∷ (codes "fn:if(1)", Some (call.Query (e.Fun (codes "if") (int 1 ∷ []))))
    ∷ (codes "processing-instruction, descendant, descendant-or-self, self, parent", Some (call.Query (e.Seq (name (codes "processing-instruction") ∷ name (codes "descendant") ∷ name (codes "descendant-or-self") ∷ name (codes "self") ∷ name (codes "parent") ∷ []))))
    ∷ (codes "insert, delete_undeep, replace, rename, READ-ONLY, a/COMMIT", Some (call.Query (e.Seq (name (codes "insert") ∷ name (codes "delete_undeep") ∷ name (codes "replace") ∷ name (codes "rename") ∷ name (codes "READ-ONLY") ∷ e.Path (First (child (codes "a"))) (child (codes "COMMIT") ∷ []) ∷ [])))) ∷ []

name_cases_hold : spelled name_cases ≡ expected name_cases
unfolding spec.expr spec.list spec.commas spec.content spec.arguments spec.pred spec.preds spec.bare_step spec.step spec.steps spec.primary spec.filtered spec.path spec.signed spec.unions spec.union spec.product_parts spec.product spec.sum_parts spec.sum spec.range spec.comp spec.ands spec.and spec.ors spec.or spec.bind spec.more_binds spec.binds spec.let_bind spec.more_lets spec.lets spec.clause spec.more_clauses spec.first_clause spec.clauses spec.filter spec.sort_key spec.more_keys spec.sort_keys spec.order spec.flwor spec.an_if spec.single_over
name_cases_hold = refl

-- updates and calls
abbrev call_cases : List Case
call_cases =
    (codes "UPDATE insert into into into", Some (call.Update (updates.Into (name (codes "into")) (name (codes "into")))))
    ∷ (codes "UPDATE insert a preceding preceding", Some (call.Update (updates.Preceding (name (codes "a")) (name (codes "preceding")))))
    ∷ (codes "UPDATE insert following following following", Some (call.Update (updates.Following (name (codes "following")) (name (codes "following")))))
    ∷ (codes "UPDATE delete delete", Some (call.Update (updates.Delete (name (codes "delete")))))
    ∷ (codes "UPDATE delete_undeep a", Some (call.Update (updates.DeleteUndeep (name (codes "a")))))
    ∷ (codes "UPDATE replace $x in in with with", Some (call.Update (updates.Replace (codes "x") (name (codes "in")) (name (codes "with")))))
    ∷ (codes "UPDATE rename on on on", Some (call.Update (updates.Rename (name (codes "on")) (codes "on"))))
    ∷ (codes "SHOW DOCUMENTS", Some call.ShowDocuments)
    ∷ (codes "SHOW", None)
    ∷ (codes "SHOW DOCUMENT", None)
    ∷ (codes "UPDATE", None)
    ∷ (codes "UPDATE delete", None)
    ∷ (codes "UPDATE insert a", None)
    ∷ (codes "COMMIT COMMIT", None)
    ∷ (codes "DROP DOCUMENT", None)
    ∷ (codes "LOAD", None)
    ∷ (codes "COMMIT, 1", None) ∷ []

call_cases_hold : spelled call_cases ≡ expected call_cases
unfolding spec.expr spec.list spec.commas spec.content spec.arguments spec.pred spec.preds spec.bare_step spec.step spec.steps spec.primary spec.filtered spec.path spec.signed spec.unions spec.union spec.product_parts spec.product spec.sum_parts spec.sum spec.range spec.comp spec.ands spec.and spec.ors spec.or spec.bind spec.more_binds spec.binds spec.let_bind spec.more_lets spec.lets spec.clause spec.more_clauses spec.first_clause spec.clauses spec.filter spec.sort_key spec.more_keys spec.sort_keys spec.order spec.flwor spec.an_if spec.single_over
call_cases_hold = refl

-- variables
abbrev variable_cases : List Case
variable_cases =
    (codes "foo(1), $x, doc(''), (", None)
    ∷ (codes "UPDATE replace $x in a with $x", Some (call.Update (updates.Replace (codes "x") (name (codes "a")) (var (codes "x"))))) ∷ []

variable_cases_hold : spelled variable_cases ≡ expected variable_cases
unfolding spec.expr spec.list spec.commas spec.content spec.arguments spec.pred spec.preds spec.bare_step spec.step spec.steps spec.primary spec.filtered spec.path spec.signed spec.unions spec.union spec.product_parts spec.product spec.sum_parts spec.sum spec.range spec.comp spec.ands spec.and spec.ors spec.or spec.bind spec.more_binds spec.binds spec.let_bind spec.more_lets spec.lets spec.clause spec.more_clauses spec.first_clause spec.clauses spec.filter spec.sort_key spec.more_keys spec.sort_keys spec.order spec.flwor spec.an_if spec.single_over
variable_cases_hold = refl

-- texts that are refused
abbrev refused_cases : List Case
refused_cases =
    (codes "parent on index-scan", None)
    ∷ (codes "(: :) }]or", None)
    ∷ (codes "[1]p:q)idiv (", None)
    ∷ (codes "fn:doc let if insert (", None)
    ∷ (codes "_  ,", None)
    ∷ (codes "1<:=", None)
    ∷ (codes "x order", None)
    ∷ (codes "doc{1 }", None)
    ∷ (codes "collection mod collection into element", None)
    ∷ (codes "doc('d')following c", None)
    ∷ (codes "count(doc('d'))|", None)
    ∷ (codes "((9223372036854775807, 7, 6))[.=]", None)
    ∷ (codes "starts-with x  fn:count *at", None)
    ∷ (codes "rename x rename at ..with fn:count<", None)
    ∷ (codes "in::with(  /", None)
    ∷ (codes "order fn:doc(DOCUMENT)", None) ∷ []

refused_cases_hold : spelled refused_cases ≡ expected refused_cases
unfolding spec.expr spec.list spec.commas spec.content spec.arguments spec.pred spec.preds spec.bare_step spec.step spec.steps spec.primary spec.filtered spec.path spec.signed spec.unions spec.union spec.product_parts spec.product spec.sum_parts spec.sum spec.range spec.comp spec.ands spec.and spec.ors spec.or spec.bind spec.more_binds spec.binds spec.let_bind spec.more_lets spec.lets spec.clause spec.more_clauses spec.first_clause spec.clauses spec.filter spec.sort_key spec.more_keys spec.sort_keys spec.order spec.flwor spec.an_if spec.single_over
refused_cases_hold = refl

-- a LOAD takes the PYX lines of its text
a_load : parsed (record { text = codes "LOAD 'd'"; pyx = codes "(a" ∷ codes ")a" ∷ [] }) ≡ Ok (call.Load (codes "d") (codes "(a" ∷ codes ")a" ∷ []))
unfolding parsed spec.expr spec.list spec.commas spec.content spec.arguments spec.pred spec.preds spec.bare_step spec.step spec.steps spec.primary spec.filtered spec.path spec.signed spec.unions spec.union spec.product_parts spec.product spec.sum_parts spec.sum spec.range spec.comp spec.ands spec.and spec.ors spec.or spec.bind spec.more_binds spec.binds spec.let_bind spec.more_lets spec.lets spec.clause spec.more_clauses spec.first_clause spec.clauses spec.filter spec.sort_key spec.more_keys spec.sort_keys spec.order spec.flwor spec.an_if spec.single_over
a_load = refl

empty_name : parsed (text (codes "DROP DOCUMENT ''")) ≡ Err BadName
unfolding parsed spec.expr spec.list spec.commas spec.content spec.arguments spec.pred spec.preds spec.bare_step spec.step spec.steps spec.primary spec.filtered spec.path spec.signed spec.unions spec.union spec.product_parts spec.product spec.sum_parts spec.sum spec.range spec.comp spec.ands spec.and spec.ors spec.or spec.bind spec.more_binds spec.binds spec.let_bind spec.more_lets spec.lets spec.clause spec.more_clauses spec.first_clause spec.clauses spec.filter spec.sort_key spec.more_keys spec.sort_keys spec.order spec.flwor spec.an_if spec.single_over
empty_name = refl

-- a character below U+0020
low_character : parsed (text (codes "EXPORT 'a" ++ 9 ∷ codes "'")) ≡ Err BadName
unfolding parsed spec.expr spec.list spec.commas spec.content spec.arguments spec.pred spec.preds spec.bare_step spec.step spec.steps spec.primary spec.filtered spec.path spec.signed spec.unions spec.union spec.product_parts spec.product spec.sum_parts spec.sum spec.range spec.comp spec.ands spec.and spec.ors spec.or spec.bind spec.more_binds spec.binds spec.let_bind spec.more_lets spec.lets spec.clause spec.more_clauses spec.first_clause spec.clauses spec.filter spec.sort_key spec.more_keys spec.sort_keys spec.order spec.flwor spec.an_if spec.single_over
low_character = refl

name_of_255_bytes : parsed (text (codes "EXPORT '" ++ (replicate 255 97 ++ codes "'"))) ≡ Ok (call.Export (replicate 255 97))
unfolding parsed spec.expr spec.list spec.commas spec.content spec.arguments spec.pred spec.preds spec.bare_step spec.step spec.steps spec.primary spec.filtered spec.path spec.signed spec.unions spec.union spec.product_parts spec.product spec.sum_parts spec.sum spec.range spec.comp spec.ands spec.and spec.ors spec.or spec.bind spec.more_binds spec.binds spec.let_bind spec.more_lets spec.lets spec.clause spec.more_clauses spec.first_clause spec.clauses spec.filter spec.sort_key spec.more_keys spec.sort_keys spec.order spec.flwor spec.an_if spec.single_over
name_of_255_bytes = refl

name_of_256_bytes : parsed (text (codes "EXPORT '" ++ (replicate 256 97 ++ codes "'"))) ≡ Err BadName
unfolding parsed spec.expr spec.list spec.commas spec.content spec.arguments spec.pred spec.preds spec.bare_step spec.step spec.steps spec.primary spec.filtered spec.path spec.signed spec.unions spec.union spec.product_parts spec.product spec.sum_parts spec.sum spec.range spec.comp spec.ands spec.and spec.ors spec.or spec.bind spec.more_binds spec.binds spec.let_bind spec.more_lets spec.lets spec.clause spec.more_clauses spec.first_clause spec.clauses spec.filter spec.sort_key spec.more_keys spec.sort_keys spec.order spec.flwor spec.an_if spec.single_over
name_of_256_bytes = refl

-- 64 brackets open at once are no call, but nested well; 65 are too deep
brackets_64 : parsed (text (replicate 64 40)) ≡ Err XPST0003
unfolding parsed spec.expr spec.list spec.commas spec.content spec.arguments spec.pred spec.preds spec.bare_step spec.step spec.steps spec.primary spec.filtered spec.path spec.signed spec.unions spec.union spec.product_parts spec.product spec.sum_parts spec.sum spec.range spec.comp spec.ands spec.and spec.ors spec.or spec.bind spec.more_binds spec.binds spec.let_bind spec.more_lets spec.lets spec.clause spec.more_clauses spec.first_clause spec.clauses spec.filter spec.sort_key spec.more_keys spec.sort_keys spec.order spec.flwor spec.an_if spec.single_over
brackets_64 = refl

brackets_65 : parsed (text (replicate 65 40)) ≡ Err NestedTooDeep
unfolding parsed spec.expr spec.list spec.commas spec.content spec.arguments spec.pred spec.preds spec.bare_step spec.step spec.steps spec.primary spec.filtered spec.path spec.signed spec.unions spec.union spec.product_parts spec.product spec.sum_parts spec.sum spec.range spec.comp spec.ands spec.and spec.ors spec.or spec.bind spec.more_binds spec.binds spec.let_bind spec.more_lets spec.lets spec.clause spec.more_clauses spec.first_clause spec.clauses spec.filter spec.sort_key spec.more_keys spec.sort_keys spec.order spec.flwor spec.an_if spec.single_over
brackets_65 = refl

-- a closing bracket takes one away only where one is open
closing_first : most_open 0 (Symbol CloseRound ∷ Symbol OpenRound ∷ []) ≡ 1
closing_first = refl

-- a fault of the tokens comes before the nesting
tokens_first : parsed (text (replicate 65 40 ++ codes "'")) ≡ Err XPST0003
unfolding parsed spec.expr spec.list spec.commas spec.content spec.arguments spec.pred spec.preds spec.bare_step spec.step spec.steps spec.primary spec.filtered spec.path spec.signed spec.unions spec.union spec.product_parts spec.product spec.sum_parts spec.sum spec.range spec.comp spec.ands spec.and spec.ors spec.or spec.bind spec.more_binds spec.binds spec.let_bind spec.more_lets spec.lets spec.clause spec.more_clauses spec.first_clause spec.clauses spec.filter spec.sort_key spec.more_keys spec.sort_keys spec.order spec.flwor spec.an_if spec.single_over
tokens_first = refl
