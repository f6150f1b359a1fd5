-- What is in the grammar is read, where no operator goes on after it.
use Rattle.std.proofs.Common.{◌≡◌, ℕ, Bool, true, false, not, ◌||◌, List, [], ◌∷◌, ◌++◌, length, map, Option, Some, None, inl, inr, refl, ap, sym, ◌∙◌, subst, append_assoc}
use Rattle.std.specs.Prelude.{codes, ◌⊎◌}
use Rattle.std.proofs.lemmas.List.Sums.{sum_by-append}
use Rattle.xq_ast.specs.declared.token.Symbol.TheVariants.{OpenRound, CloseRound, OpenSquare, CloseSquare, OpenCurly, CloseCurly, Comma, Slash, SlashSlash, At, DotDot, ColonColon, Plus, Minus, Star, Bar, Dollar}
use Rattle.xq_ast.specs.declared.token.Token.{Token}
use Rattle.xq_ast.specs.declared.token.Token.TheVariants.{Name, Text, Symbol as Mark}
use Rattle.xq_ast.specs.declared.step.Axis.{Axis}
use Rattle.xq_ast.specs.declared.step.Axis.TheVariants as axis
use Rattle.xq_ast.specs.declared.step.Test.{Test}
use Rattle.xq_ast.specs.declared.step.Test.TheVariants as kind
use Rattle.xq_ast.specs.declared.tree.CompareOp.{CompareOp}
use Rattle.xq_ast.specs.declared.tree.CompareOp.TheVariants as compare
use Rattle.xq_ast.specs.declared.tree.ProductOp.TheVariants.{Times, Idiv, Mod}
use Rattle.xq_ast.specs.declared.tree.Sign.{Sign}
use Rattle.xq_ast.specs.declared.tree.Sign.TheVariants as sign
use Rattle.xq_ast.specs.declared.tree.Expr.{Expr}
use Rattle.xq_ast.specs.declared.tree.Expr.TheVariants as expression
use Rattle.xq_ast.specs.declared.tree.Bind.{Bind}
use Rattle.xq_ast.specs.declared.tree.SortKey.{SortKey}
use Rattle.xq_ast.specs.declared.tree.SumPart.{SumPart}
use Rattle.xq_ast.specs.declared.tree.ProductPart.{ProductPart}
use Rattle.xq_ast.specs.declared.tree.Step.{Step}
use Rattle.xq_ast.specs.Tokens.{◌>>=◌}
use Rattle.xq_ast.specs.Grammar as grammar
use Rattle.xq_ast.specs.Grammar.{IsTest, IsExpr, IsList, IsCommas, IsContent, IsArguments, IsSingle, IsFlwor, IsClause, IsClauses, IsBind, IsBinds, IsLet, IsLets, IsWhere, IsOrder, IsKey, IsKeys, IsIf, IsOr, IsOrs, IsAnd, IsAnds, IsComp, IsRange, IsSum, IsSumParts, IsProduct, IsProductParts, IsUnion, IsUnions, IsSigned, IsPath, IsSteps, IsFilter, IsPreds, IsPrimary, IsStep, is_keyword, is_test_word, is_doc_word, is_function_word, plain, name_token, axis_word, compare_symbol, sign_symbol, sequence_of, group_of, or_of, and_of, sum_of, product_of, union_of, signed_of, filter_of, path_of, steps_of, key, sum_part, product_part, step_behind}
use Rattle.xq_ast.specs.Grammar.{step as step_with}
use Rattle.xq_ast.specs.Readings.{Reader, Operand, Begins, comma, close_round, close_square, close_curly, open_square, word, two_words, compare_op, sum_op, product_op, union_op, slash, followed, there, put, commas, list, expr, content_at, content, arguments_at, arguments, pred, preds, axis_of, named_test, test, named_step, bare_step, step, steps, named_operand, operand, primary, filtered, path_at, path, with_sign, signs, signed_at, signed, unions, union, product_parts, product, sum_parts, sum, range, comp, ands, and, ors, or, bind, let_bind, clause_word, clause, sort_key, named_begins, begins}
use Rattle.std.proofs.Common.{◌+◌, ◌<◌, ◌≤◌, arith}
use Rattle.xq_parse.proofs.Taken.{Takes, comma_takes, open_square_takes, word_takes, there_takes, union_op_takes, slash_takes, sum_op_takes, product_op_takes, clause_word_takes}
use Rattle.xq_parse.proofs.Sound as sound
use Rattle.xq_parse.proofs.Turns.{Shrinking, shrinking, items_turn, items_stop, items_next, followed_at, followed_over, paired_alone, paired_both}
use Rattle.xq_parse.proofs.Follow.{word_rank, rank, or_none, and_none, to_none, compare_none, sum_none, product_none, union_none, slash_none, square_none, behind_none, begins_path, starts, path_append, starts_append, path_starts, no_signs, starts_no_close_round, starts_no_close_curly, word_rank_is}
use Rattle.xq_parse.proofs.Balance.{words, nest, nest-left, nest-right, nest-inside, expr_balanced, content_balanced, arguments_balanced}

-- ---- how rows begin

test_begins : {ts : List Token} {t : Test} → IsTest ts t → begins_path ts ≡ true
test_begins (grammar.IsTest.name_test (Some name)) = refl
test_begins (grammar.IsTest.name_test None) = refl
test_begins grammar.IsTest.node_test = refl
test_begins grammar.IsTest.text_test = refl
test_begins grammar.IsTest.pi_test = refl

primary_begins : {ts : List Token} {e : Expr} → IsPrimary ts e → begins_path ts ≡ true
primary_begins grammar.IsPrimary.string = refl
primary_begins grammar.IsPrimary.integer = refl
primary_begins grammar.IsPrimary.variable = refl
primary_begins (grammar.IsPrimary.group d) = refl
primary_begins grammar.IsPrimary.context = refl
primary_begins (grammar.IsPrimary.doc h) = refl
primary_begins (grammar.IsPrimary.function h d) = refl
primary_begins (grammar.IsPrimary.element d) = refl
primary_begins (grammar.IsPrimary.attribute d) = refl
primary_begins (grammar.IsPrimary.text d) = refl

filter_begins : {ts : List Token} {e : Expr} → IsFilter ts e → begins_path ts ≡ true
filter_begins (grammar.IsFilter.filter {ts = us} {us = vs} p q) = path_append us vs (primary_begins p)

step_begins : {ts : List Token} {s : Step} → IsStep ts s → begins_path ts ≡ true
step_begins (grammar.IsStep.at name d) = refl
step_begins (grammar.IsStep.parent d) = refl
step_begins (grammar.IsStep.along way p q) = refl
step_begins (grammar.IsStep.child {ts = us} {us = vs} p q) = path_append us vs (test_begins p)

path_begins : {ts : List Token} {e : Expr} → IsPath ts e → begins_path ts ≡ true
path_begins (grammar.IsPath.path_filter {ts = us} {us = vs} p q) = path_append us vs (filter_begins p)
path_begins (grammar.IsPath.path_step {ts = us} {us = vs} p q) = path_append us vs (step_begins p)

signed_starts : {ts : List Token} {e : Expr} → IsSigned ts e → starts ts ≡ true
signed_starts (grammar.IsSigned.signed [] {ts = us} p) = path_starts us (path_begins p)
signed_starts (grammar.IsSigned.signed (sign.Plus ∷ more) p) = refl
signed_starts (grammar.IsSigned.signed (sign.Minus ∷ more) p) = refl

union_starts : {ts : List Token} {e : Expr} → IsUnion ts e → starts ts ≡ true
union_starts (grammar.IsUnion.union {ts = us} {us = vs} p q) = starts_append us vs (signed_starts p)

product_starts : {ts : List Token} {e : Expr} → IsProduct ts e → starts ts ≡ true
product_starts (grammar.IsProduct.product {ts = us} {us = vs} p q) = starts_append us vs (union_starts p)

sum_starts : {ts : List Token} {e : Expr} → IsSum ts e → starts ts ≡ true
sum_starts (grammar.IsSum.sum {ts = us} {us = vs} p q) = starts_append us vs (product_starts p)

range_starts : {ts : List Token} {e : Expr} → IsRange ts e → starts ts ≡ true
range_starts (grammar.IsRange.no_range p) = sum_starts p
range_starts (grammar.IsRange.range {ts = us} {us = vs} p q) = starts_append us (Name (codes "to") ∷ vs) (sum_starts p)

comp_starts : {ts : List Token} {e : Expr} → IsComp ts e → starts ts ≡ true
comp_starts (grammar.IsComp.no_comp p) = range_starts p
comp_starts (grammar.IsComp.comp {ts = us} {us = vs} op p q) = starts_append us (Mark (compare_symbol op) ∷ vs) (range_starts p)

and_starts : {ts : List Token} {e : Expr} → IsAnd ts e → starts ts ≡ true
and_starts (grammar.IsAnd.and {ts = us} {us = vs} p q) = starts_append us vs (comp_starts p)

-- an Or begins as an expression may
pub or_starts : {ts : List Token} {e : Expr} → IsOr ts e → starts ts ≡ true
or_starts (grammar.IsOr.or {ts = us} {us = vs} p q) = starts_append us vs (and_starts p)

clause_begins : {ts : List Token} {bs : List Bind} → IsClause ts bs → starts ts ≡ true
clause_begins (grammar.IsClause.for_clause p q) = refl
clause_begins (grammar.IsClause.let_clause p q) = refl

-- a Single begins as an expression may
pub single_starts : {ts : List Token} {e : Expr} → IsSingle ts e → starts ts ≡ true
single_starts (grammar.IsSingle.single_flwor (grammar.IsFlwor.flwor {ts = us} a b c d e)) = starts_append us _ (clause_begins a)
single_starts (grammar.IsSingle.single_if (grammar.IsIf.an_if a b c)) = refl
single_starts (grammar.IsSingle.single_or h d) = or_starts d

-- Single (, Single)* begins as an expression may
pub list_starts : {ts : List Token} {es : List Expr} → IsList ts es → starts ts ≡ true
list_starts (grammar.IsList.list {ts = us} {us = vs} p q) = starts_append us vs (single_starts p)

-- an Expr begins as an expression may
pub expr_starts : {ts : List Token} {e : Expr} → IsExpr ts e → starts ts ≡ true
expr_starts (grammar.IsExpr.expr d) = list_starts d

-- ---- what goes on with a row

preds_rank : {ts : List Token} {es : List Expr} → IsPreds ts es → (left : List Token) → rank left < 9 → rank (ts ++ left) < 10
preds_rank grammar.IsPreds.no_pred left h = omega arith
preds_rank (grammar.IsPreds.pred p q) left h = omega arith

steps_rank : {ts : List Token} {ss : List Step} → IsSteps ts ss → (left : List Token) → rank left < 8 → rank (ts ++ left) < 9
steps_rank grammar.IsSteps.no_step left h = omega arith
steps_rank (grammar.IsSteps.slash p q) left h = omega arith
steps_rank (grammar.IsSteps.slash_slash p q) left h = omega arith

-- a word before tokens that an expression begins
word_below : (w : List ℕ) (k : ℕ) (us vs left : List Token) → starts us ≡ true → word_rank w false < k → rank (Name w ∷ ((us ++ vs) ++ left)) < k
word_below w k us vs left h less = let e = word_rank_is w ((us ++ vs) ++ left) (starts_append (us ++ vs) left (starts_append us vs h)) in omega (arith, e)

-- a word before an expression has a rank below k, where the word alone has
pub word_before : (w : List ℕ) (k : ℕ) (us left : List Token) → starts us ≡ true → word_rank w false < k → rank (Name w ∷ (us ++ left)) < k
word_before w k us left h less = let e = word_rank_is w (us ++ left) (starts_append us left h) in omega (arith, e)

unions_rank : {ts : List Token} {es : List Expr} → IsUnions ts es → (left : List Token) → rank left < 7 → rank (ts ++ left) < 8
unions_rank grammar.IsUnions.no_union left h = omega arith
unions_rank (grammar.IsUnions.bar p q) left h = omega arith
unions_rank (grammar.IsUnions.union_word {ts = us} {us = vs} p q) left h = word_below (codes "union") 8 us vs left (signed_starts p) (omega arith)

product_parts_rank : {ts : List Token} {ps : List ProductPart} → IsProductParts ts ps → (left : List Token) → rank left < 6 → rank (ts ++ left) < 7
product_parts_rank grammar.IsProductParts.no_product left h = omega arith
product_parts_rank (grammar.IsProductParts.times p q) left h = omega arith
product_parts_rank (grammar.IsProductParts.idiv {ts = us} {us = vs} p q) left h = word_below (codes "idiv") 7 us vs left (union_starts p) (omega arith)
product_parts_rank (grammar.IsProductParts.mod_ {ts = us} {us = vs} p q) left h = word_below (codes "mod") 7 us vs left (union_starts p) (omega arith)

sum_parts_rank : {ts : List Token} {ps : List SumPart} → IsSumParts ts ps → (left : List Token) → rank left < 5 → rank (ts ++ left) < 6
sum_parts_rank grammar.IsSumParts.no_sum left h = omega arith
sum_parts_rank (grammar.IsSumParts.plus p q) left h = omega arith
sum_parts_rank (grammar.IsSumParts.minus p q) left h = omega arith

ands_rank : {ts : List Token} {es : List Expr} → IsAnds ts es → (left : List Token) → rank left < 2 → rank (ts ++ left) < 3
ands_rank grammar.IsAnds.no_and left h = omega arith
ands_rank (grammar.IsAnds.next_and {ts = us} {us = vs} p q) left h = word_below (codes "and") 3 us vs left (comp_starts p) (omega arith)

ors_rank : {ts : List Token} {es : List Expr} → IsOrs ts es → (left : List Token) → rank left < 1 → rank (ts ++ left) < 2
ors_rank grammar.IsOrs.no_or left h = omega arith
ors_rank (grammar.IsOrs.next_or {ts = us} {us = vs} p q) left h = word_below (codes "or") 2 us vs left (and_starts p) (omega arith)

-- no operator could take what (, Single)* begins with, if none could take what follows it
pub commas_rank : {ts : List Token} {es : List Expr} → IsCommas ts es → (left : List Token) → rank left < 1 → rank (ts ++ left) < 1
commas_rank grammar.IsCommas.no_comma left h = h
commas_rank (grammar.IsCommas.comma p q) left h = omega arith

-- ---- tests, axes and bare steps

test_complete : {ts : List Token} {t : Test} → IsTest ts t → (left : List Token) → rank left < 10 → test (ts ++ left) ≡ Some (t, left)
test_complete (grammar.IsTest.name_test (Some name)) left h = ap (named_test name left) (behind_none left h)
test_complete (grammar.IsTest.name_test None) left h = refl
test_complete grammar.IsTest.node_test left h = refl
test_complete grammar.IsTest.text_test left h = refl
test_complete grammar.IsTest.pi_test left h = refl

bare_test_complete : {ts : List Token} {t : Test} → IsTest ts t → (left : List Token) → rank left < 10 → bare_step (ts ++ left) ≡ Some ((axis.Child, t), left)
unfolding bare_step
bare_test_complete (grammar.IsTest.name_test (Some name)) left h = ap (named_step name left) (behind_none left h)
bare_test_complete (grammar.IsTest.name_test None) left h = refl
bare_test_complete grammar.IsTest.node_test left h = refl
bare_test_complete grammar.IsTest.text_test left h = refl
bare_test_complete grammar.IsTest.pi_test left h = refl

axis_complete : (way : Axis) → axis_of (axis_word way) ≡ Some way
axis_complete axis.Child = refl
axis_complete axis.Descendant = refl
axis_complete axis.DescendantOrSelf = refl
axis_complete axis.Itself = refl
axis_complete axis.Attribute = refl
axis_complete axis.Parent = refl

along_complete : (way : Axis) {ts : List Token} {t : Test} → IsTest ts t → (left : List Token) → rank left < 10
    → bare_step (Name (axis_word way) ∷ Mark ColonColon ∷ (ts ++ left)) ≡ Some ((way, t), left)
unfolding bare_step
along_complete way {ts} {t} p left h =
    ap (λ o. o >>= (λ a. test (ts ++ left) >>= (λ t. let x : Option ((Axis × Test) × List Token) = Some ((a, t.0), t.1) in x))) (axis_complete way)
    ∙ ap (λ o. o >>= (λ t. let x : Option ((Axis × Test) × List Token) = Some ((way, t.0), t.1) in x)) (test_complete p left h)

at_complete : (name : Option (List ℕ)) (left : List Token) → bare_step (Mark At ∷ name_token name ∷ left) ≡ Some ((axis.Attribute, kind.Name name), left)
unfolding bare_step
at_complete (Some name) left = refl
at_complete None left = refl

parent_complete : (left : List Token) → bare_step (Mark DotDot ∷ left) ≡ Some ((axis.Parent, kind.AnyNode), left)
unfolding bare_step
parent_complete left = refl

-- a step is no other operand
test_operand : {ts : List Token} {t : Test} → IsTest ts t → (left : List Token) → rank left < 10 → operand (ts ++ left) ≡ Operand.a_step
test_operand (grammar.IsTest.name_test (Some name)) left h = ap (named_operand name) (behind_none left h)
test_operand (grammar.IsTest.name_test None) left h = refl
test_operand grammar.IsTest.node_test left h = refl
test_operand grammar.IsTest.text_test left h = refl
test_operand grammar.IsTest.pi_test left h = refl

step_operand : {ts : List Token} {s : Step} → IsStep ts s → (left : List Token) → rank left < 9 → operand (ts ++ left) ≡ Operand.a_step
step_operand (grammar.IsStep.at name d) left h = refl
step_operand (grammar.IsStep.parent d) left h = refl
step_operand (grammar.IsStep.along way p q) left h = refl
step_operand (grammar.IsStep.child {ts = us} {us = vs} p q) left h = ap operand (append_assoc us vs left) ∙ test_operand p (vs ++ left) (preds_rank q left h)

-- a function's word is no other
function_parts : (t d : Bool) → not (t || d) ≡ true → (t ≡ false) × (d ≡ false)
function_parts true d h = cc
function_parts false true h = cc
function_parts false false h = (refl, refl)

function_operand : (w : List ℕ) (left : List Token) → is_function_word w ≡ true → operand (Name w ∷ Mark OpenRound ∷ left) ≡ Operand.a_function w left
function_operand w left h = let p = function_parts (is_test_word w) (is_doc_word w) h in rw (p.1, p.0) refl

-- ---- how single expressions begin

name_then : (w x : List ℕ) (us : List Token) → begins (Name w ∷ Name x ∷ us) ≡ Begins.an_or
name_then w x (Mark OpenCurly ∷ us) = refl
name_then w x _ = refl

-- tokens that begin as an expression may but with no keyword, and go on with no operator, begin an Or
pub begins_or : (ts left : List Token) → starts ts ≡ true → is_keyword ts ≡ false → rank left < 1 → begins (ts ++ left) ≡ Begins.an_or
begins_or [] left h k less = cc
begins_or (Name w ∷ []) left h k less = ap (named_begins w) (behind_none left (omega arith))
begins_or (Name w ∷ Mark Dollar ∷ us) left h k less = rw k refl
begins_or (Name w ∷ Mark OpenRound ∷ us) left h k less = rw k refl
begins_or (Name w ∷ Name x ∷ us) left h k less = name_then w x (us ++ left)
begins_or _ left h k less = refl

bind_begins : {ts : List Token} {b : Bind} → IsBind ts b → (left : List Token) → begins (Name (codes "for") ∷ (ts ++ left)) ≡ Begins.a_flwor
bind_begins (grammar.IsBind.bind d) left = refl
bind_begins (grammar.IsBind.bind_at d) left = refl

let_begins : {ts : List Token} {b : Bind} → IsLet ts b → (left : List Token) → begins (Name (codes "let") ∷ (ts ++ left)) ≡ Begins.a_flwor
let_begins (grammar.IsLet.let_bind d) left = refl

-- tokens that begin with a clause begin a Flwor
pub clause_flwor : {ts : List Token} {bs : List Bind} → IsClause ts bs → (left : List Token) → begins (ts ++ left) ≡ Begins.a_flwor
clause_flwor (grammar.IsClause.for_clause {ts = us} {us = vs} p q) left = ap (λ x. begins (Name (codes "for") ∷ x)) (append_assoc us vs left) ∙ bind_begins p (vs ++ left)
clause_flwor (grammar.IsClause.let_clause {ts = us} {us = vs} p q) left = ap (λ x. begins (Name (codes "let") ∷ x)) (append_assoc us vs left) ∙ let_begins p (vs ++ left)

-- ---- what may stand after a part of a FLWOR expression

-- no operator and no comma
pub record Ends (ts : List Token) : Type 0 where
  pub loose : rank ts < 1
  pub no_comma : there comma ts ≡ None

word_ends : (w : List ℕ) (us left : List Token) → starts us ≡ true → word_rank w false < 1 → Ends (Name w ∷ (us ++ left))
word_ends w us left h less = record { loose = word_before w 1 us left h less; no_comma = refl }

bind_rank : {ts : List Token} {b : Bind} → IsBind ts b → (w : List ℕ) (left : List Token) → rank (Name w ∷ (ts ++ left)) ≡ word_rank w false
bind_rank (grammar.IsBind.bind d) w left = refl
bind_rank (grammar.IsBind.bind_at d) w left = refl

let_rank : {ts : List Token} {b : Bind} → IsLet ts b → (w : List ℕ) (left : List Token) → rank (Name w ∷ (ts ++ left)) ≡ word_rank w false
let_rank (grammar.IsLet.let_bind d) w left = refl

-- tokens that begin with a clause begin with no operator and no comma
pub clause_ends : {ts : List Token} {bs : List Bind} → IsClause ts bs → (left : List Token) → Ends (ts ++ left)
clause_ends (grammar.IsClause.for_clause {ts = us} {us = vs} p q) left =
    record { loose = omega (arith, ap (λ x. rank (Name (codes "for") ∷ x)) (append_assoc us vs left), bind_rank p (codes "for") (vs ++ left)); no_comma = refl }
clause_ends (grammar.IsClause.let_clause {ts = us} {us = vs} p q) left =
    record { loose = omega (arith, ap (λ x. rank (Name (codes "let") ∷ x)) (append_assoc us vs left), let_rank p (codes "let") (vs ++ left)); no_comma = refl }

-- clauses and what follows them begin with no operator and no comma, if what follows does not
pub clauses_end : {ts : List Token} {bs : List Bind} → IsClauses ts bs → (left : List Token) → Ends left → Ends (ts ++ left)
clauses_end grammar.IsClauses.no_clause left h = h
clauses_end (grammar.IsClauses.clause {ts = us} {us = vs} p q) left h = subst Ends (sym (append_assoc us vs left)) (clause_ends p (vs ++ left))

-- what may stand after the clauses: also no clause
pub record EndsClauses (ts : List Token) : Type 0 where
  pub ends : Ends ts
  pub no_clause : clause_word ts ≡ None

-- what may stand after `where`: also no `where`
pub record EndsWhere (ts : List Token) : Type 0 where
  pub clauses : EndsClauses ts
  pub no_where : word (codes "where") ts ≡ None

-- `return` and an expression begin with no operator, comma, clause or `where`
pub return_ends : (us left : List Token) → starts us ≡ true → EndsWhere (Name (codes "return") ∷ (us ++ left))
return_ends us left h = record { clauses = record { ends = word_ends (codes "return") us left h (omega arith); no_clause = refl }; no_where = refl }

-- [order by Key (, Key)*] begins with no operator, comma, clause or `where`, if what follows it does not
pub order_ends : {ts : List Token} {ks : List SortKey} → IsOrder ts ks → (left : List Token) → EndsWhere left → EndsWhere (ts ++ left)
order_ends grammar.IsOrder.no_order left h = h
order_ends (grammar.IsOrder.order p q) left h = record { clauses = record { ends = record { loose = omega arith; no_comma = refl }; no_clause = refl }; no_where = refl }

-- [where Single] begins with no operator, comma or clause, if what follows it does not, nor with `where`
pub where_ends : {ts : List Token} {o : Option Expr} → IsWhere ts o → (left : List Token) → EndsWhere left → EndsClauses (ts ++ left)
where_ends grammar.IsWhere.no_where left h = h.clauses
where_ends (grammar.IsWhere.a_where {ts = us} d) left h = record { ends = word_ends (codes "where") us left (single_starts d) (omega arith); no_clause = refl }

-- `return` is not `order by`
pub no_order_words : (us : List Token) → two_words (codes "order") (codes "by") (Name (codes "return") ∷ us) ≡ None
no_order_words (Name w ∷ us) = refl
no_order_words _ = refl

-- ---- nesting

-- `return` and what follows it have a word that nests
pub return_nests : (us : List Token) → 0 < words (Name (codes "return") ∷ us)
return_nests us = let e : words (Name (codes "return") ∷ us) ≡ 1 + words us = sum_by-append _ (Name (codes "return") ∷ []) us in omega (arith, e)

-- `else` and what follows it have a word that nests
pub else_nests : (us : List Token) → 0 < words (Name (codes "else") ∷ us)
else_nests us = let e : words (Name (codes "else") ∷ us) ≡ 1 + words us = sum_by-append _ (Name (codes "else") ∷ []) us in omega (arith, e)

-- ---- the rows

module _ (n : ℕ) (inner : Reader Expr) (inner_takes : Takes IsSingle inner)
    (inner_reads : (ts : List Token) (e : Expr) → IsSingle ts e → nest ts < n → (left : List Token) → rank left < 1 → inner (ts ++ left) ≡ Some (e, left)) where
  -- each repetition shrinks
  pub commas_shrink : Shrinking (there comma) (λ s. inner)
  commas_shrink = shrinking (there comma) (λ s. inner) (there_takes (Mark Comma) comma comma_takes) (λ us s e. omega (arith, ap length e)) (λ s. inner_takes)

  -- each [ Expr ] leaves fewer tokens
  pub preds_shrink : Shrinking (there open_square) (λ s. pred inner)
  preds_shrink = shrinking (there open_square) (λ s. pred inner) (there_takes (Mark OpenSquare) open_square open_square_takes) (λ us s e. omega (arith, ap length e)) (λ s. sound.pred_takes inner inner_takes)

  -- each slash with its Step leaves fewer tokens
  pub steps_shrink : Shrinking slash (λ deep. step inner)
  steps_shrink = shrinking slash (λ deep. step inner) slash_takes (λ us s e. omega (arith, ap length e)) (λ s. sound.step_takes inner inner_takes)

  -- each operator of a union with its Signed leaves fewer tokens
  pub unions_shrink : Shrinking (there union_op) (λ s. signed inner)
  unions_shrink = shrinking (there union_op) (λ s. signed inner) union_op_takes (λ us s e. long us e) (λ s. sound.signed_takes inner inner_takes)
    where
      long : (us : List Token) → (us ≡ Mark Bar ∷ []) ⊎ (us ≡ Name (codes "union") ∷ []) → 0 < length us
      long us (inl e) = omega (arith, ap length e)
      long us (inr e) = omega (arith, ap length e)

  -- each operator of a product with its Union leaves fewer tokens
  pub product_parts_shrink : Shrinking product_op (λ op. union inner)
  product_parts_shrink = shrinking product_op (λ op. union inner) product_op_takes (λ us s e. omega (arith, ap length e)) (λ s. sound.union_takes inner inner_takes)

  -- each operator of a sum with its Product leaves fewer tokens
  pub sum_parts_shrink : Shrinking sum_op (λ minus. product inner)
  sum_parts_shrink = shrinking sum_op (λ minus. product inner) sum_op_takes (λ us s e. omega (arith, ap length e)) (λ s. sound.product_takes inner inner_takes)

  -- each `and` with its Comp leaves fewer tokens
  pub ands_shrink : Shrinking (there (word (codes "and"))) (λ s. comp inner)
  ands_shrink = shrinking (there (word (codes "and"))) (λ s. comp inner) (there_takes (Name (codes "and")) (word (codes "and")) (word_takes (codes "and"))) (λ us s e. omega (arith, ap length e)) (λ s. sound.comp_takes inner inner_takes)

  -- each `or` with its And leaves fewer tokens
  pub ors_shrink : Shrinking (there (word (codes "or"))) (λ s. and inner)
  ors_shrink = shrinking (there (word (codes "or"))) (λ s. and inner) (there_takes (Name (codes "or")) (word (codes "or")) (word_takes (codes "or"))) (λ us s e. omega (arith, ap length e)) (λ s. sound.and_takes inner inner_takes)

  -- each comma with its Bind leaves fewer tokens
  pub binds_shrink : Shrinking (there comma) (λ s. bind inner)
  binds_shrink = shrinking (there comma) (λ s. bind inner) (there_takes (Mark Comma) comma comma_takes) (λ us s e. omega (arith, ap length e)) (λ s. sound.bind_takes inner inner_takes)

  -- each comma with its $Name := Single leaves fewer tokens
  pub lets_shrink : Shrinking (there comma) (λ s. let_bind inner)
  lets_shrink = shrinking (there comma) (λ s. let_bind inner) (there_takes (Mark Comma) comma comma_takes) (λ us s e. omega (arith, ap length e)) (λ s. sound.let_takes inner inner_takes)

  -- each word of a clause with what follows it leaves fewer tokens
  pub clauses_shrink : Shrinking clause_word (clause inner)
  clauses_shrink = shrinking clause_word (clause inner) clause_word_takes (λ us s e. omega (arith, ap length e)) (λ s. sound.clause_takes inner inner_takes s)

  -- each comma with its Key leaves fewer tokens
  pub keys_shrink : Shrinking (there comma) (λ s. sort_key inner)
  keys_shrink = shrinking (there comma) (λ s. sort_key inner) (there_takes (Mark Comma) comma comma_takes) (λ us s e. omega (arith, ap length e)) (λ s. sound.key_takes inner inner_takes)

  -- single expressions between commas
  commas_read : {ts : List Token} {es : List Expr} → IsCommas ts es → nest ts < n → (left : List Token) → Ends left → commas inner (ts ++ left) ≡ Some (es, left)
  unfolding commas
  commas_read grammar.IsCommas.no_comma small left h = items_stop (there comma) (λ s. inner) put [] commas_shrink left h.no_comma
  commas_read (grammar.IsCommas.comma {ts = us} {us = vs} {e} {es} p q) small left h =
      items_next (there comma) (λ s. inner) put [] commas_shrink (Mark Comma ∷ ((us ++ vs) ++ left)) us vs left tt e es refl
      (inner_reads us e p (omega (arith, nest-left us vs, nest-right (Mark Comma ∷ []) (us ++ vs))) (vs ++ left) (commas_rank q left h.loose))
      (commas_read q (omega (arith, nest-right us vs, nest-right (Mark Comma ∷ []) (us ++ vs))) left h)

  list_read : {ts : List Token} {es : List Expr} → IsList ts es → nest ts < n → (left : List Token) → Ends left → list inner (ts ++ left) ≡ Some (es, left)
  unfolding list
  list_read (grammar.IsList.list {ts = us} {us = vs} {e} {es} p q) small left h =
      followed_over (λ e es. e ∷ es) inner (commas inner) us vs left e es
      (inner_reads us e p (omega (arith, nest-left us vs)) (vs ++ left) (commas_rank q left h.loose)) (commas_read q (omega (arith, nest-right us vs)) left h)

  -- each Expr that is in the grammar and less deep than n is read, where no operator and no comma goes on after it
  pub expr_read : {ts : List Token} {e : Expr} → IsExpr ts e → nest ts < n → (left : List Token) → Ends left → expr inner (ts ++ left) ≡ Some (e, left)
  unfolding expr
  expr_read (grammar.IsExpr.expr d) small left h = ap (λ o. o >>= (λ r. let x : Option (Expr × List Token) = Some (sequence_of r.0, r.1) in x)) (list_read d small left h)

  -- what stands in brackets; `closes` says what the closing one is
  content_read : (t : Token) (close : List Token → Option (List Token)) → ((us : List Token) → close (t ∷ us) ≡ Some us) → ((us : List Token) → starts us ≡ true → close us ≡ None) → ((us : List Token) → Ends (t ∷ us))
      → {ts : List Token} {o : Option Expr} → IsContent ts o → nest ts < n → (left : List Token) → content close inner (ts ++ t ∷ left) ≡ Some (o, left)
  unfolding content
  content_read t close closes open_ ends grammar.IsContent.no_content small left = ap (content_at close inner (t ∷ left)) (closes left)
  content_read t close closes open_ ends (grammar.IsContent.content {ts} {e} d) small left =
      ap (content_at close inner (ts ++ t ∷ left)) (open_ (ts ++ t ∷ left) (starts_append ts (t ∷ left) (expr_starts d)))
      ∙ (ap (λ o. o >>= (λ e. close e.1 >>= (λ us. let x : Option (Option Expr × List Token) = Some (Some e.0, us) in x))) (expr_read d small (t ∷ left) (ends left))
      ∙ ap (λ o. o >>= (λ us. let x : Option (Option Expr × List Token) = Some (Some e, us) in x)) (closes left))

  round_read : {ts : List Token} {o : Option Expr} → IsContent ts o → nest ts < n → (left : List Token) → content close_round inner (ts ++ Mark CloseRound ∷ left) ≡ Some (o, left)
  round_read d small left =
      content_read (Mark CloseRound) close_round (λ us. refl) (λ us h. starts_no_close_round us h) (λ us. record { loose = omega arith; no_comma = refl }) d small left

  curly_read : {ts : List Token} {o : Option Expr} → IsContent ts o → nest ts < n → (left : List Token) → content close_curly inner (ts ++ Mark CloseCurly ∷ left) ≡ Some (o, left)
  curly_read d small left =
      content_read (Mark CloseCurly) close_curly (λ us. refl) (λ us h. starts_no_close_curly us h) (λ us. record { loose = omega arith; no_comma = refl }) d small left

  arguments_read : {ts : List Token} {es : List Expr} → IsArguments ts es → nest ts < n → (left : List Token) → arguments inner (ts ++ Mark CloseRound ∷ left) ≡ Some (es, left)
  unfolding arguments
  arguments_read grammar.IsArguments.no_argument small left = refl
  arguments_read (grammar.IsArguments.arguments {ts} {es} d) small left =
      ap (arguments_at inner (ts ++ Mark CloseRound ∷ left)) (starts_no_close_round (ts ++ Mark CloseRound ∷ left) (starts_append ts (Mark CloseRound ∷ left) (list_starts d)))
      ∙ ap (λ o. o >>= (λ es. close_round es.1 >>= (λ us. let x : Option (List Expr × List Token) = Some (es.0, us) in x))) (list_read d small (Mark CloseRound ∷ left) (record { loose = omega arith; no_comma = refl }))

  pred_read : {ts : List Token} {e : Expr} → IsExpr ts e → nest ts < n → (left : List Token) → pred inner (ts ++ Mark CloseSquare ∷ left) ≡ Some (e, left)
  unfolding pred
  pred_read {ts} d small left =
      ap (λ o. o >>= (λ e. close_square e.1 >>= (λ us. let x : Option (Expr × List Token) = Some (e.0, us) in x))) (expr_read d small (Mark CloseSquare ∷ left) (record { loose = omega arith; no_comma = refl }))

  preds_read : {ts : List Token} {es : List Expr} → IsPreds ts es → nest ts ≤ n → (left : List Token) → rank left < 9 → preds inner (ts ++ left) ≡ Some (es, left)
  unfolding preds
  preds_read grammar.IsPreds.no_pred small left h = items_stop (there open_square) (λ s. pred inner) put [] preds_shrink left (square_none left h)
  preds_read (grammar.IsPreds.pred {ts = us} {us = vs} {e} {preds = es} p q) small left h =
      items_turn (there open_square) (λ s. pred inner) put [] preds_shrink (Mark OpenSquare ∷ ((us ++ Mark CloseSquare ∷ vs) ++ left)) (tt, (us ++ Mark CloseSquare ∷ vs) ++ left) (e, vs ++ left) refl
      (ap (pred inner) (append_assoc us (Mark CloseSquare ∷ vs) left)
      ∙ pred_read p (omega (arith, nest-inside (Mark OpenSquare) (Mark CloseSquare) us vs (λ n. refl) (expr_balanced p))) (vs ++ left))
      ∙ ap (λ o. o >>= (λ q. let x : Option (List Expr × List Token) = Some (e ∷ q.0, q.1) in x))
      (preds_read q (omega (arith, nest-right (Mark OpenSquare ∷ []) (us ++ Mark CloseSquare ∷ vs), nest-right us (Mark CloseSquare ∷ vs), nest-right (Mark CloseSquare ∷ []) vs)) left h)

  step_read : {ts : List Token} {s : Step} → IsStep ts s → nest ts ≤ n → (left : List Token) → rank left < 9 → step inner (ts ++ left) ≡ Some (s, left)
  unfolding step
  step_read (grammar.IsStep.at name {us} {preds = ps} q) small left h =
      followed_at (λ s ps. step_with s.0 s.1 ps) bare_step (preds inner) (Mark At ∷ name_token name ∷ (us ++ left)) (us ++ left) left (axis.Attribute, kind.Name name) ps (at_complete name (us ++ left))
      (preds_read q (omega (arith, nest-right (Mark At ∷ name_token name ∷ []) us)) left h)
  step_read (grammar.IsStep.parent {us} {preds = ps} q) small left h =
      followed_at (λ s ps. step_with s.0 s.1 ps) bare_step (preds inner) (Mark DotDot ∷ (us ++ left)) (us ++ left) left (axis.Parent, kind.AnyNode) ps (parent_complete (us ++ left))
      (preds_read q (omega (arith, nest-right (Mark DotDot ∷ []) us)) left h)
  step_read (grammar.IsStep.along way {ts = us} {us = vs} {what} {preds = ps} p q) small left h =
      followed_at (λ s ps. step_with s.0 s.1 ps) bare_step (preds inner) (Name (axis_word way) ∷ Mark ColonColon ∷ ((us ++ vs) ++ left)) (vs ++ left) left (way, what) ps
      (ap (λ x. bare_step (Name (axis_word way) ∷ Mark ColonColon ∷ x)) (append_assoc us vs left) ∙ along_complete way p (vs ++ left) (preds_rank q left h))
      (preds_read q (omega (arith, nest-right (Name (axis_word way) ∷ Mark ColonColon ∷ []) (us ++ vs), nest-right us vs)) left h)
  step_read (grammar.IsStep.child {ts = us} {us = vs} {what} {preds = ps} p q) small left h =
      followed_over (λ s ps. step_with s.0 s.1 ps) bare_step (preds inner) us vs left (axis.Child, what) ps (bare_test_complete p (vs ++ left) (preds_rank q left h))
      (preds_read q (omega (arith, nest-right us vs)) left h)

  steps_read : {ts : List Token} {ss : List Step} → IsSteps ts ss → nest ts ≤ n → (left : List Token) → rank left < 8 → steps inner (ts ++ left) ≡ Some (ss, left)
  unfolding steps
  steps_read grammar.IsSteps.no_step small left h = items_stop slash (λ deep. step inner) (λ deep s more. step_behind deep s ∷ more) [] steps_shrink left (slash_none left h)
  steps_read (grammar.IsSteps.slash {ts = us} {us = vs} {s} {steps = ss} p q) small left h =
      items_next slash (λ deep. step inner) (λ deep s more. step_behind deep s ∷ more) [] steps_shrink (Mark Slash ∷ ((us ++ vs) ++ left)) us vs left false s ss refl
      (step_read p (omega (arith, nest-left us vs, nest-right (Mark Slash ∷ []) (us ++ vs))) (vs ++ left) (steps_rank q left h))
      (steps_read q (omega (arith, nest-right us vs, nest-right (Mark Slash ∷ []) (us ++ vs))) left h)
  steps_read (grammar.IsSteps.slash_slash {ts = us} {us = vs} {s} {steps = ss} p q) small left h =
      items_next slash (λ deep. step inner) (λ deep s more. step_behind deep s ∷ more) [] steps_shrink (Mark SlashSlash ∷ ((us ++ vs) ++ left)) us vs left true s ss refl
      (step_read p (omega (arith, nest-left us vs, nest-right (Mark SlashSlash ∷ []) (us ++ vs))) (vs ++ left) (steps_rank q left h))
      (steps_read q (omega (arith, nest-right us vs, nest-right (Mark SlashSlash ∷ []) (us ++ vs))) left h)

  -- a primary is an operand other than a step, and is read as that
  record IsPrimaryRead (ts left : List Token) (e : Expr) : Type 0 where
    pub which : Operand
    pub is : operand ts ≡ which
    pub by_filter : (us : List Token) → path_at inner us which ≡ followed path_of (filtered inner which) (steps inner) us
    pub reads : primary inner which ≡ Some (e, left)

  primary_read : {ts : List Token} {e : Expr} → IsPrimary ts e → nest ts ≤ n → (left : List Token) → IsPrimaryRead (ts ++ left) left e
  unfolding primary
  primary_read (grammar.IsPrimary.string {value}) small left = record { which = Operand.a_string value left; is = refl; by_filter = λ us. refl; reads = refl }
  primary_read (grammar.IsPrimary.integer {value}) small left = record { which = Operand.an_integer value left; is = refl; by_filter = λ us. refl; reads = refl }
  primary_read (grammar.IsPrimary.variable {name}) small left = record { which = Operand.a_variable (Name name ∷ left); is = refl; by_filter = λ us. refl; reads = refl }
  primary_read (grammar.IsPrimary.group {ts = us} {o} d) small left = record {
    which = Operand.a_group ((us ++ Mark CloseRound ∷ []) ++ left);
    is = refl;
    by_filter = λ us. refl;
    reads = ap (λ o. o >>= (λ o. let x : Option (Expr × List Token) = Some (group_of o.0, o.1) in x))
        (ap (content close_round inner) (append_assoc us (Mark CloseRound ∷ []) left) ∙ round_read d (omega (arith, nest-inside (Mark OpenRound) (Mark CloseRound) us [] (λ n. refl) (content_balanced d))) left);
  }
  primary_read grammar.IsPrimary.context small left = record { which = Operand.the_context left; is = refl; by_filter = λ us. refl; reads = refl }
  primary_read (grammar.IsPrimary.doc {word = w} {name} h) small left = record { which = Operand.a_doc (Text name ∷ Mark CloseRound ∷ left); is = rw h refl; by_filter = λ us. refl; reads = refl }
  primary_read (grammar.IsPrimary.function {word = w} {ts = us} {es} h d) small left = record {
    which = Operand.a_function w ((us ++ Mark CloseRound ∷ []) ++ left);
    is = function_operand w ((us ++ Mark CloseRound ∷ []) ++ left) h;
    by_filter = λ us. refl;
    reads = ap (λ o. o >>= (λ es. let x : Option (Expr × List Token) = Some (expression.Fun (plain w) es.0, es.1) in x))
        (ap (arguments inner) (append_assoc us (Mark CloseRound ∷ []) left)
        ∙ arguments_read d (omega (arith, nest-inside (Mark OpenRound) (Mark CloseRound) us [] (λ n. refl) (arguments_balanced d), nest-right (Name w ∷ []) (Mark OpenRound ∷ (us ++ Mark CloseRound ∷ [])))) left);
  }
  primary_read (grammar.IsPrimary.element {name} {ts = us} {o} d) small left = record {
    which = Operand.an_element name ((us ++ Mark CloseCurly ∷ []) ++ left);
    is = refl;
    by_filter = λ us. refl;
    reads = ap (λ o. o >>= (λ o. let x : Option (Expr × List Token) = Some (expression.Element name o.0, o.1) in x))
        (ap (content close_curly inner) (append_assoc us (Mark CloseCurly ∷ []) left)
        ∙ curly_read d (omega (arith, nest-inside (Mark OpenCurly) (Mark CloseCurly) us [] (λ n. refl) (content_balanced d), nest-right (Name (codes "element") ∷ Name name ∷ []) (Mark OpenCurly ∷ (us ++ Mark CloseCurly ∷ [])))) left);
  }
  primary_read (grammar.IsPrimary.attribute {name} {ts = us} {o} d) small left = record {
    which = Operand.an_attribute name ((us ++ Mark CloseCurly ∷ []) ++ left);
    is = refl;
    by_filter = λ us. refl;
    reads = ap (λ o. o >>= (λ o. let x : Option (Expr × List Token) = Some (expression.Attribute name o.0, o.1) in x))
        (ap (content close_curly inner) (append_assoc us (Mark CloseCurly ∷ []) left)
        ∙ curly_read d (omega (arith, nest-inside (Mark OpenCurly) (Mark CloseCurly) us [] (λ n. refl) (content_balanced d), nest-right (Name (codes "attribute") ∷ Name name ∷ []) (Mark OpenCurly ∷ (us ++ Mark CloseCurly ∷ [])))) left);
  }
  primary_read (grammar.IsPrimary.text {ts = us} {o} d) small left = record {
    which = Operand.a_text_node ((us ++ Mark CloseCurly ∷ []) ++ left);
    is = refl;
    by_filter = λ us. refl;
    reads = ap (λ o. o >>= (λ o. let x : Option (Expr × List Token) = Some (expression.TextNode o.0, o.1) in x))
        (ap (content close_curly inner) (append_assoc us (Mark CloseCurly ∷ []) left)
        ∙ curly_read d (omega (arith, nest-inside (Mark OpenCurly) (Mark CloseCurly) us [] (λ n. refl) (content_balanced d), nest-right (Name (codes "text") ∷ []) (Mark OpenCurly ∷ (us ++ Mark CloseCurly ∷ [])))) left);
  }

  -- a filter is read by its operand
  record IsFilterRead (ts left : List Token) (e : Expr) : Type 0 where
    pub which : Operand
    pub is : operand ts ≡ which
    pub by_filter : (us : List Token) → path_at inner us which ≡ followed path_of (filtered inner which) (steps inner) us
    pub reads : filtered inner which ts ≡ Some (e, left)

  filter_read : {ts : List Token} {e : Expr} → IsFilter ts e → nest ts ≤ n → (left : List Token) → rank left < 9 → IsFilterRead (ts ++ left) left e
  unfolding filtered
  filter_read (grammar.IsFilter.filter {ts = us} {us = vs} {e} {preds = ps} p q) small left h =
      let first = primary_read p (omega (arith, nest-left us vs)) (vs ++ left) in
      record {
        which = first.which;
        is = ap operand (append_assoc us vs left) ∙ first.is;
        by_filter = first.by_filter;
        reads = followed_at filter_of (λ us. primary inner first.which) (preds inner) ((us ++ vs) ++ left) (vs ++ left) left e ps first.reads (preds_read q (omega (arith, nest-right us vs)) left h);
      }

  path_read : {ts : List Token} {e : Expr} → IsPath ts e → nest ts ≤ n → (left : List Token) → rank left < 8 → path inner (ts ++ left) ≡ Some (e, left)
  unfolding path
  path_read (grammar.IsPath.path_filter {ts = us} {us = vs} {e} {steps = ss} p q) small left h =
      let first = filter_read p (omega (arith, nest-left us vs)) (vs ++ left) (steps_rank q left h) in
      ap (λ x. path_at inner x (operand x)) (append_assoc us vs left)
      ∙ (ap (path_at inner (us ++ (vs ++ left))) first.is
      ∙ (first.by_filter (us ++ (vs ++ left))
      ∙ followed_at path_of (filtered inner first.which) (steps inner) (us ++ (vs ++ left)) (vs ++ left) left e ss first.reads (steps_read q (omega (arith, nest-right us vs)) left h)))
  path_read (grammar.IsPath.path_step {ts = us} {us = vs} {s} {steps = ss} p q) small left h =
      ap (λ x. path_at inner x (operand x)) (append_assoc us vs left)
      ∙ (ap (path_at inner (us ++ (vs ++ left))) (step_operand p (vs ++ left) (steps_rank q left h))
      ∙ followed_at steps_of (step inner) (steps inner) (us ++ (vs ++ left)) (vs ++ left) left s ss (step_read p (omega (arith, nest-left us vs)) (vs ++ left) (steps_rank q left h))
      (steps_read q (omega (arith, nest-right us vs)) left h))

  signs_read : (more : List Sign) (us : List Token) → begins_path us ≡ true → signs (map (λ s. Mark (sign_symbol s)) more ++ us) ≡ (more, us)
  signs_read [] us h = no_signs us h
  signs_read (sign.Plus ∷ more) us h = ap (with_sign sign.Plus) (signs_read more us h)
  signs_read (sign.Minus ∷ more) us h = ap (with_sign sign.Minus) (signs_read more us h)

  signed_read : {ts : List Token} {e : Expr} → IsSigned ts e → nest ts ≤ n → (left : List Token) → rank left < 8 → signed inner (ts ++ left) ≡ Some (e, left)
  unfolding signed
  signed_read (grammar.IsSigned.signed more {ts = us} {e} p) small left h =
      ap (signed inner) (append_assoc (map (λ s. Mark (sign_symbol s)) more) us left)
      ∙ (ap (signed_at inner) (signs_read more (us ++ left) (path_append us left (path_begins p)))
      ∙ ap (λ o. o >>= (λ e. let x : Option (Expr × List Token) = Some (signed_of more e.0, e.1) in x)) (path_read p (omega (arith, nest-right (map (λ s. Mark (sign_symbol s)) more) us)) left h))

  unions_read : {ts : List Token} {es : List Expr} → IsUnions ts es → nest ts ≤ n → (left : List Token) → rank left < 7 → unions inner (ts ++ left) ≡ Some (es, left)
  unfolding unions
  unions_read grammar.IsUnions.no_union small left h = items_stop (there union_op) (λ s. signed inner) put [] unions_shrink left (union_none left h)
  unions_read (grammar.IsUnions.bar {ts = us} {us = vs} {e} {es} p q) small left h =
      items_next (there union_op) (λ s. signed inner) put [] unions_shrink (Mark Bar ∷ ((us ++ vs) ++ left)) us vs left tt e es refl
      (signed_read p (omega (arith, nest-left us vs, nest-right (Mark Bar ∷ []) (us ++ vs))) (vs ++ left) (unions_rank q left h))
      (unions_read q (omega (arith, nest-right us vs, nest-right (Mark Bar ∷ []) (us ++ vs))) left h)
  unions_read (grammar.IsUnions.union_word {ts = us} {us = vs} {e} {es} p q) small left h =
      items_next (there union_op) (λ s. signed inner) put [] unions_shrink (Name (codes "union") ∷ ((us ++ vs) ++ left)) us vs left tt e es refl
      (signed_read p (omega (arith, nest-left us vs, nest-right (Name (codes "union") ∷ []) (us ++ vs))) (vs ++ left) (unions_rank q left h))
      (unions_read q (omega (arith, nest-right us vs, nest-right (Name (codes "union") ∷ []) (us ++ vs))) left h)

  union_read : {ts : List Token} {e : Expr} → IsUnion ts e → nest ts ≤ n → (left : List Token) → rank left < 7 → union inner (ts ++ left) ≡ Some (e, left)
  unfolding union
  union_read (grammar.IsUnion.union {ts = us} {us = vs} {e} {es} p q) small left h =
      followed_over union_of (signed inner) (unions inner) us vs left e es (signed_read p (omega (arith, nest-left us vs)) (vs ++ left) (unions_rank q left h)) (unions_read q (omega (arith, nest-right us vs)) left h)

  product_parts_read : {ts : List Token} {ps : List ProductPart} → IsProductParts ts ps → nest ts ≤ n → (left : List Token) → rank left < 6 → product_parts inner (ts ++ left) ≡ Some (ps, left)
  unfolding product_parts
  product_parts_read grammar.IsProductParts.no_product small left h = items_stop product_op (λ op. union inner) (λ op e ps. product_part op e ∷ ps) [] product_parts_shrink left (product_none left h)
  product_parts_read (grammar.IsProductParts.times {ts = us} {us = vs} {e} {ps} p q) small left h =
      items_next product_op (λ op. union inner) (λ op e ps. product_part op e ∷ ps) [] product_parts_shrink (Mark Star ∷ ((us ++ vs) ++ left)) us vs left Times e ps refl
      (union_read p (omega (arith, nest-left us vs, nest-right (Mark Star ∷ []) (us ++ vs))) (vs ++ left) (product_parts_rank q left h))
      (product_parts_read q (omega (arith, nest-right us vs, nest-right (Mark Star ∷ []) (us ++ vs))) left h)
  product_parts_read (grammar.IsProductParts.idiv {ts = us} {us = vs} {e} {ps} p q) small left h =
      items_next product_op (λ op. union inner) (λ op e ps. product_part op e ∷ ps) [] product_parts_shrink (Name (codes "idiv") ∷ ((us ++ vs) ++ left)) us vs left Idiv e ps refl
      (union_read p (omega (arith, nest-left us vs, nest-right (Name (codes "idiv") ∷ []) (us ++ vs))) (vs ++ left) (product_parts_rank q left h))
      (product_parts_read q (omega (arith, nest-right us vs, nest-right (Name (codes "idiv") ∷ []) (us ++ vs))) left h)
  product_parts_read (grammar.IsProductParts.mod_ {ts = us} {us = vs} {e} {ps} p q) small left h =
      items_next product_op (λ op. union inner) (λ op e ps. product_part op e ∷ ps) [] product_parts_shrink (Name (codes "mod") ∷ ((us ++ vs) ++ left)) us vs left Mod e ps refl
      (union_read p (omega (arith, nest-left us vs, nest-right (Name (codes "mod") ∷ []) (us ++ vs))) (vs ++ left) (product_parts_rank q left h))
      (product_parts_read q (omega (arith, nest-right us vs, nest-right (Name (codes "mod") ∷ []) (us ++ vs))) left h)

  product_read : {ts : List Token} {e : Expr} → IsProduct ts e → nest ts ≤ n → (left : List Token) → rank left < 6 → product inner (ts ++ left) ≡ Some (e, left)
  unfolding product
  product_read (grammar.IsProduct.product {ts = us} {us = vs} {e} {ps} p q) small left h =
      followed_over product_of (union inner) (product_parts inner) us vs left e ps (union_read p (omega (arith, nest-left us vs)) (vs ++ left) (product_parts_rank q left h))
      (product_parts_read q (omega (arith, nest-right us vs)) left h)

  sum_parts_read : {ts : List Token} {ps : List SumPart} → IsSumParts ts ps → nest ts ≤ n → (left : List Token) → rank left < 5 → sum_parts inner (ts ++ left) ≡ Some (ps, left)
  unfolding sum_parts
  sum_parts_read grammar.IsSumParts.no_sum small left h = items_stop sum_op (λ minus. product inner) (λ minus e ps. sum_part minus e ∷ ps) [] sum_parts_shrink left (sum_none left h)
  sum_parts_read (grammar.IsSumParts.plus {ts = us} {us = vs} {e} {ps} p q) small left h =
      items_next sum_op (λ minus. product inner) (λ minus e ps. sum_part minus e ∷ ps) [] sum_parts_shrink (Mark Plus ∷ ((us ++ vs) ++ left)) us vs left false e ps refl
      (product_read p (omega (arith, nest-left us vs, nest-right (Mark Plus ∷ []) (us ++ vs))) (vs ++ left) (sum_parts_rank q left h))
      (sum_parts_read q (omega (arith, nest-right us vs, nest-right (Mark Plus ∷ []) (us ++ vs))) left h)
  sum_parts_read (grammar.IsSumParts.minus {ts = us} {us = vs} {e} {ps} p q) small left h =
      items_next sum_op (λ minus. product inner) (λ minus e ps. sum_part minus e ∷ ps) [] sum_parts_shrink (Mark Minus ∷ ((us ++ vs) ++ left)) us vs left true e ps refl
      (product_read p (omega (arith, nest-left us vs, nest-right (Mark Minus ∷ []) (us ++ vs))) (vs ++ left) (sum_parts_rank q left h))
      (sum_parts_read q (omega (arith, nest-right us vs, nest-right (Mark Minus ∷ []) (us ++ vs))) left h)

  sum_read : {ts : List Token} {e : Expr} → IsSum ts e → nest ts ≤ n → (left : List Token) → rank left < 5 → sum inner (ts ++ left) ≡ Some (e, left)
  unfolding sum
  sum_read (grammar.IsSum.sum {ts = us} {us = vs} {e} {ps} p q) small left h =
      followed_over sum_of (product inner) (sum_parts inner) us vs left e ps (product_read p (omega (arith, nest-left us vs)) (vs ++ left) (sum_parts_rank q left h))
      (sum_parts_read q (omega (arith, nest-right us vs)) left h)

  range_read : {ts : List Token} {e : Expr} → IsRange ts e → nest ts ≤ n → (left : List Token) → rank left < 4 → range inner (ts ++ left) ≡ Some (e, left)
  unfolding range
  range_read (grammar.IsRange.no_range {ts = us} {e} p) small left h =
      paired_alone (there (word (codes "to"))) (λ l s h. expression.Range l h) (sum inner) (us ++ left) left e (sum_read p small left (omega arith)) (to_none left h)
  range_read (grammar.IsRange.range {ts = us} {us = vs} {l} {h = m} p q) small left h =
      paired_both (there (word (codes "to"))) (λ l s h. expression.Range l h) (sum inner) ((us ++ Name (codes "to") ∷ vs) ++ left) (Name (codes "to") ∷ (vs ++ left)) (vs ++ left) left l m tt
      (ap (sum inner) (append_assoc us (Name (codes "to") ∷ vs) left)
      ∙ sum_read p (omega (arith, nest-left us (Name (codes "to") ∷ vs))) (Name (codes "to") ∷ (vs ++ left)) (word_before (codes "to") 5 vs left (sum_starts q) (omega arith)))
      refl (sum_read q (omega (arith, nest-right us (Name (codes "to") ∷ vs), nest-right (Name (codes "to") ∷ []) vs)) left (omega arith))

  compare_reads : (op : CompareOp) (us : List Token) → compare_op (Mark (compare_symbol op) ∷ us) ≡ Some (op, us)
  compare_reads compare.Eq us = refl
  compare_reads compare.Ne us = refl
  compare_reads compare.Lt us = refl
  compare_reads compare.Le us = refl
  compare_reads compare.Gt us = refl
  compare_reads compare.Ge us = refl

  compare_rank : (op : CompareOp) (us : List Token) → rank (Mark (compare_symbol op) ∷ us) ≡ 3
  compare_rank compare.Eq us = refl
  compare_rank compare.Ne us = refl
  compare_rank compare.Lt us = refl
  compare_rank compare.Le us = refl
  compare_rank compare.Gt us = refl
  compare_rank compare.Ge us = refl

  comp_read : {ts : List Token} {e : Expr} → IsComp ts e → nest ts ≤ n → (left : List Token) → rank left < 3 → comp inner (ts ++ left) ≡ Some (e, left)
  unfolding comp
  comp_read (grammar.IsComp.no_comp {ts = us} {e} p) small left h =
      paired_alone compare_op expression.Compare (range inner) (us ++ left) left e (range_read p small left (omega arith)) (compare_none left h)
  comp_read (grammar.IsComp.comp {ts = us} {us = vs} {l} {r} op p q) small left h =
      paired_both compare_op expression.Compare (range inner) ((us ++ Mark (compare_symbol op) ∷ vs) ++ left) (Mark (compare_symbol op) ∷ (vs ++ left)) (vs ++ left) left l r op
      (ap (range inner) (append_assoc us (Mark (compare_symbol op) ∷ vs) left)
      ∙ range_read p (omega (arith, nest-left us (Mark (compare_symbol op) ∷ vs))) (Mark (compare_symbol op) ∷ (vs ++ left)) (omega (arith, compare_rank op (vs ++ left))))
      (compare_reads op (vs ++ left)) (range_read q (omega (arith, nest-right us (Mark (compare_symbol op) ∷ vs), nest-right (Mark (compare_symbol op) ∷ []) vs)) left (omega arith))

  ands_read : {ts : List Token} {es : List Expr} → IsAnds ts es → nest ts ≤ n → (left : List Token) → rank left < 2 → ands inner (ts ++ left) ≡ Some (es, left)
  unfolding ands
  ands_read grammar.IsAnds.no_and small left h = items_stop (there (word (codes "and"))) (λ s. comp inner) put [] ands_shrink left (and_none left h)
  ands_read (grammar.IsAnds.next_and {ts = us} {us = vs} {e} {es} p q) small left h =
      items_next (there (word (codes "and"))) (λ s. comp inner) put [] ands_shrink (Name (codes "and") ∷ ((us ++ vs) ++ left)) us vs left tt e es refl
      (comp_read p (omega (arith, nest-left us vs, nest-right (Name (codes "and") ∷ []) (us ++ vs))) (vs ++ left) (ands_rank q left h))
      (ands_read q (omega (arith, nest-right us vs, nest-right (Name (codes "and") ∷ []) (us ++ vs))) left h)

  and_read : {ts : List Token} {e : Expr} → IsAnd ts e → nest ts ≤ n → (left : List Token) → rank left < 2 → and inner (ts ++ left) ≡ Some (e, left)
  unfolding and
  and_read (grammar.IsAnd.and {ts = us} {us = vs} {e} {es} p q) small left h =
      followed_over and_of (comp inner) (ands inner) us vs left e es (comp_read p (omega (arith, nest-left us vs)) (vs ++ left) (ands_rank q left h)) (ands_read q (omega (arith, nest-right us vs)) left h)

  ors_read : {ts : List Token} {es : List Expr} → IsOrs ts es → nest ts ≤ n → (left : List Token) → rank left < 1 → ors inner (ts ++ left) ≡ Some (es, left)
  unfolding ors
  ors_read grammar.IsOrs.no_or small left h = items_stop (there (word (codes "or"))) (λ s. and inner) put [] ors_shrink left (or_none left h)
  ors_read (grammar.IsOrs.next_or {ts = us} {us = vs} {e} {es} p q) small left h =
      items_next (there (word (codes "or"))) (λ s. and inner) put [] ors_shrink (Name (codes "or") ∷ ((us ++ vs) ++ left)) us vs left tt e es refl
      (and_read p (omega (arith, nest-left us vs, nest-right (Name (codes "or") ∷ []) (us ++ vs))) (vs ++ left) (ors_rank q left h))
      (ors_read q (omega (arith, nest-right us vs, nest-right (Name (codes "or") ∷ []) (us ++ vs))) left h)

  -- each Or that is in the grammar and no deeper than n is read, where no operator goes on after it
  pub or_read : {ts : List Token} {e : Expr} → IsOr ts e → nest ts ≤ n → (left : List Token) → rank left < 1 → or inner (ts ++ left) ≡ Some (e, left)
  unfolding or
  or_read (grammar.IsOr.or {ts = us} {us = vs} {e} {es} p q) small left h =
      followed_over or_of (and inner) (ors inner) us vs left e es (and_read p (omega (arith, nest-left us vs)) (vs ++ left) (ors_rank q left h)) (ors_read q (omega (arith, nest-right us vs)) left h)
