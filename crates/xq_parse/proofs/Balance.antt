-- How deep the single expressions of a call stand in one another: no deeper than its brackets and the words that nest.
-- The tokens of each row are balanced, so what stands in brackets is less deep than what holds it.
use Rattle.std.proofs.Common.{◌≡◌, ℕ, suc, ◌+◌, ◌<◌, ◌≤◌, List, [], ◌∷◌, ◌++◌, map, refl, ap, ◌∙◌, arith}
use Rattle.std.specs.Prelude.{max, count_by, Option, None, Some}
use Rattle.std.proofs.Math.Nat.{le-max_left}
use Rattle.std.proofs.lemmas.List.Sums.{sum_by-append}
use Rattle.xq_ast.specs.declared.token.Token.{Token}
use Rattle.xq_ast.specs.declared.token.Token.TheVariants as token
use Rattle.xq_ast.specs.declared.token.Token.TheVariants.{Symbol as Mark}
use Rattle.xq_ast.specs.declared.token.Symbol.TheVariants.{OpenRound, CloseRound, OpenSquare, CloseSquare, OpenCurly, CloseCurly, Comma, Slash, SlashSlash, At, Dot, DotDot, ColonColon, Assign, Equal, NotEqual, Less, LessOrEqual, Greater, GreaterOrEqual, Plus, Minus, Star, Bar, Dollar}
use Rattle.xq_ast.specs.declared.step.Test.{Test}
use Rattle.xq_ast.specs.declared.tree.CompareOp.{CompareOp}
use Rattle.xq_ast.specs.declared.tree.CompareOp.TheVariants as compare
use Rattle.xq_ast.specs.declared.tree.Sign.{Sign}
use Rattle.xq_ast.specs.declared.tree.Sign.TheVariants as sign
use Rattle.xq_ast.specs.declared.tree.Expr.{Expr}
use Rattle.xq_ast.specs.declared.tree.Bind.{Bind}
use Rattle.xq_ast.specs.declared.tree.SortKey.{SortKey}
use Rattle.xq_ast.specs.declared.tree.SumPart.{SumPart}
use Rattle.xq_ast.specs.declared.tree.ProductPart.{ProductPart}
use Rattle.xq_ast.specs.declared.tree.Step.{Step}
use Rattle.xq_ast.specs.Grammar as grammar
use Rattle.xq_ast.specs.Grammar.{IsTest, IsExpr, IsList, IsCommas, IsContent, IsArguments, IsSingle, IsFlwor, IsClause, IsClauses, IsBind, IsBinds, IsLet, IsLets, IsWhere, IsOrder, IsKey, IsKeys, IsIf, IsOr, IsOrs, IsAnd, IsAnds, IsComp, IsRange, IsSum, IsSumParts, IsProduct, IsProductParts, IsUnion, IsUnions, IsSigned, IsPath, IsSteps, IsFilter, IsPreds, IsPrimary, IsStep}
use Rattle.xq_ast.specs.Parsed.{open_behind, most_open, is_nesting_word}

-- the words that nest
abbrev pub words : List Token → ℕ
words ts = count_by is_nesting_word ts

-- how deep what these tokens are may stand in itself
unfoldable pub nest : List Token → ℕ
nest ts = most_open 0 ts + words ts

-- ---- the most brackets that are open

-- what is open behind tokens, of `n` before them
abbrev opens : ℕ → List Token → ℕ
opens n [] = n
opens n (t ∷ ts) = opens (open_behind n t) ts

opens-append : (n : ℕ) (ts us : List Token) → opens n (ts ++ us) ≡ opens (opens n ts) us
opens-append n [] us = refl
opens-append n (t ∷ ts) us = opens-append (open_behind n t) ts us

most_open-least : (n : ℕ) (ts : List Token) → n ≤ most_open n ts
most_open-least n [] = omega arith
most_open-least n (t ∷ ts) = le-max_left n (most_open (open_behind n t) ts)

most_open-append : (n : ℕ) (ts us : List Token) → most_open n (ts ++ us) ≡ max (most_open n ts) (most_open (opens n ts) us)
most_open-append n [] us = let h = most_open-least n us in omega arith
most_open-append n (t ∷ ts) us = let h = most_open-append (open_behind n t) ts us in omega arith

open_behind-grows : (n m : ℕ) (t : Token) → n ≤ m → open_behind n t ≤ open_behind m t
open_behind-grows n m (token.Symbol OpenRound) h = omega arith
open_behind-grows n m (token.Symbol OpenSquare) h = omega arith
open_behind-grows n m (token.Symbol OpenCurly) h = omega arith
open_behind-grows n m (token.Symbol CloseRound) h = omega arith
open_behind-grows n m (token.Symbol CloseSquare) h = omega arith
open_behind-grows n m (token.Symbol CloseCurly) h = omega arith
open_behind-grows n m _ h = h

most_open-grows : (n m : ℕ) (ts : List Token) → n ≤ m → most_open n ts ≤ most_open m ts
most_open-grows n m [] h = h
most_open-grows n m (t ∷ ts) h = let k = most_open-grows (open_behind n t) (open_behind m t) ts (open_behind-grows n m t h) in omega arith

most_open-right : (n : ℕ) (ts us : List Token) → most_open 0 us ≤ most_open n (ts ++ us)
most_open-right n ts us = let a = most_open-append n ts us in let b = most_open-grows 0 (opens n ts) us (omega arith) in omega arith

most_open-left : (n : ℕ) (ts us : List Token) → most_open n ts ≤ most_open n (ts ++ us)
most_open-left n ts us = let a = most_open-append n ts us in omega arith

words-append : (ts us : List Token) → words (ts ++ us) ≡ words ts + words us
words-append ts us = sum_by-append _ ts us

-- ---- the measure

-- a front is no deeper than the whole
pub nest-left : (ts us : List Token) → nest ts ≤ nest (ts ++ us)
unfolding nest
nest-left ts us = omega (arith, most_open-left 0 ts us, words-append ts us)

-- what follows a front is no deeper than the whole
pub nest-right : (ts us : List Token) → nest us ≤ nest (ts ++ us)
unfolding nest
nest-right ts us = omega (arith, most_open-right 0 ts us, words-append ts us)

-- a front before a word that nests is less deep than the whole
pub nest-before_word : (ts us : List Token) → 0 < words us → suc (nest ts) ≤ nest (ts ++ us)
unfolding nest
nest-before_word ts us h = omega (arith, most_open-left 0 ts us, words-append ts us)

-- what follows a front with a word that nests is less deep than the whole
pub nest-behind_word : (ts us : List Token) → 0 < words ts → suc (nest us) ≤ nest (ts ++ us)
unfolding nest
nest-behind_word ts us h = omega (arith, most_open-right 0 ts us, words-append ts us)

-- words behind a front are words of the whole
pub words-right : (ts us : List Token) → words us ≤ words (ts ++ us)
words-right ts us = omega (arith, words-append ts us)

-- ---- balanced tokens

-- as many brackets are open behind the tokens as before them, and no more were closed in between
pub record Balanced (ts : List Token) : Type 0 where
  pub level : (n : ℕ) → opens n ts ≡ n
  pub lifts : (n : ℕ) → most_open (suc n) ts ≡ suc (most_open n ts)

none : Balanced []
none = record { level = λ n. refl; lifts = λ n. refl }

both : {ts us : List Token} → Balanced ts → Balanced us → Balanced (ts ++ us)
both {ts} {us} a b = record {
  level = λ n. opens-append n ts us ∙ (ap (λ k. opens k us) (a.level n) ∙ b.level n);
  lifts = λ n.
      let x : most_open (suc n) (ts ++ us) ≡ max (most_open (suc n) ts) (most_open (suc n) us) = most_open-append (suc n) ts us ∙ ap (λ k. max (most_open (suc n) ts) (most_open k us)) (a.level (suc n)) in
      let y : most_open n (ts ++ us) ≡ max (most_open n ts) (most_open n us) = most_open-append n ts us ∙ ap (λ k. max (most_open n ts) (most_open k us)) (a.level n) in
      omega (arith, x, y, a.lifts n, b.lifts n);
}

-- a token that is no bracket
plain : (t : Token) {ts : List Token} → ((n : ℕ) → open_behind n t ≡ n) → Balanced ts → Balanced (t ∷ ts)
plain t {ts} p a = record {
  level = λ n. ap (λ k. opens k ts) (p n) ∙ a.level n;
  lifts = λ n.
      let x : most_open (suc n) (t ∷ ts) ≡ max (suc n) (most_open (suc n) ts) = ap (λ k. max (suc n) (most_open k ts)) (p (suc n)) in
      let y : most_open n (t ∷ ts) ≡ max n (most_open n ts) = ap (λ k. max n (most_open k ts)) (p n) in
      omega (arith, x, y, a.lifts n);
}

-- brackets round balanced tokens, before balanced tokens
brackets : (o c : Token) {ts us : List Token} → ((n : ℕ) → open_behind n o ≡ suc n) → ((n : ℕ) → open_behind (suc n) c ≡ n)
    → Balanced ts → Balanced us → Balanced (o ∷ (ts ++ c ∷ us))
brackets o c {ts} {us} opened closed a b = record {
  level = λ n. ap (λ k. opens k (ts ++ c ∷ us)) (opened n) ∙ (opens-append (suc n) ts (c ∷ us) ∙ (ap (λ k. opens k (c ∷ us)) (a.level (suc n)) ∙ (ap (λ k. opens k us) (closed n) ∙ b.level n)));
  lifts = λ n.
      let turn : (k : ℕ) → most_open k (o ∷ (ts ++ c ∷ us)) ≡ max k (max (most_open (suc k) ts) (max (suc k) (most_open k us))) = λ k.
      ap (λ m. max k (most_open m (ts ++ c ∷ us))) (opened k)
      ∙ ap (λ m. max k m) (most_open-append (suc k) ts (c ∷ us) ∙ ap (λ m. max (most_open (suc k) ts) m) (ap (λ m. most_open m (c ∷ us)) (a.level (suc k)) ∙ ap (λ m. max (suc k) (most_open m us)) (closed k))) in
      omega (arith, turn n, turn (suc n), a.lifts n, a.lifts (suc n), b.lifts n);
}

word : {name : List ℕ} {ts : List Token} → Balanced ts → Balanced (token.Name name ∷ ts)
word {name} a = plain (token.Name name) (λ n. refl) a

dollar : {ts : List Token} → Balanced ts → Balanced (Mark Dollar ∷ ts)
dollar a = plain (Mark Dollar) (λ n. refl) a

round : {ts us : List Token} → Balanced ts → Balanced us → Balanced (Mark OpenRound ∷ (ts ++ Mark CloseRound ∷ us))
round a b = brackets (Mark OpenRound) (Mark CloseRound) (λ n. refl) (λ n. omega arith) a b

square : {ts us : List Token} → Balanced ts → Balanced us → Balanced (Mark OpenSquare ∷ (ts ++ Mark CloseSquare ∷ us))
square a b = brackets (Mark OpenSquare) (Mark CloseSquare) (λ n. refl) (λ n. omega arith) a b

curly : {ts us : List Token} → Balanced ts → Balanced us → Balanced (Mark OpenCurly ∷ (ts ++ Mark CloseCurly ∷ us))
curly a b = brackets (Mark OpenCurly) (Mark CloseCurly) (λ n. refl) (λ n. omega arith) a b

-- what stands in brackets is less deep than the whole
pub nest-inside : (o c : Token) (ts us : List Token) → ((n : ℕ) → open_behind n o ≡ suc n) → Balanced ts → suc (nest ts) ≤ nest (o ∷ (ts ++ c ∷ us))
unfolding nest
nest-inside o c ts us opened a =
    let x : most_open 0 (o ∷ (ts ++ c ∷ us)) ≡ max 0 (most_open 1 (ts ++ c ∷ us)) = ap (λ m. max 0 (most_open m (ts ++ c ∷ us))) (opened 0) in
    omega (arith, x, most_open-left 1 ts (c ∷ us), a.lifts 0, words-append (o ∷ []) (ts ++ c ∷ us), words-append ts (c ∷ us))

-- ---- the tokens of each row are balanced

test_balanced : {ts : List Token} {kind : Test} → IsTest ts kind → Balanced ts
test_balanced (grammar.IsTest.name_test (Some name)) = word none
test_balanced (grammar.IsTest.name_test None) = plain (Mark Star) (λ n. refl) none
test_balanced grammar.IsTest.node_test = word (round none none)
test_balanced grammar.IsTest.text_test = word (round none none)
test_balanced grammar.IsTest.pi_test = word (round none none)

compare_balanced : (op : CompareOp) {ts : List Token} → Balanced ts → Balanced (Mark (grammar.compare_symbol op) ∷ ts)
compare_balanced compare.Eq a = plain (Mark Equal) (λ n. refl) a
compare_balanced compare.Ne a = plain (Mark NotEqual) (λ n. refl) a
compare_balanced compare.Lt a = plain (Mark Less) (λ n. refl) a
compare_balanced compare.Le a = plain (Mark LessOrEqual) (λ n. refl) a
compare_balanced compare.Gt a = plain (Mark Greater) (λ n. refl) a
compare_balanced compare.Ge a = plain (Mark GreaterOrEqual) (λ n. refl) a

signs_balanced : (signs : List Sign) {ts : List Token} → Balanced ts → Balanced (map (λ s. Mark (grammar.sign_symbol s)) signs ++ ts)
signs_balanced [] a = a
signs_balanced (sign.Plus ∷ signs) a = plain (Mark Plus) (λ n. refl) (signs_balanced signs a)
signs_balanced (sign.Minus ∷ signs) a = plain (Mark Minus) (λ n. refl) (signs_balanced signs a)

name_balanced : (name : Option (List ℕ)) {ts : List Token} → Balanced ts → Balanced (grammar.name_token name ∷ ts)
name_balanced (Some name) a = word a
name_balanced None a = plain (Mark Star) (λ n. refl) a

mutual
  -- the tokens of an Expr are balanced
  pub expr_balanced : {ts : List Token} {e : Expr} → IsExpr ts e → Balanced ts
  expr_balanced (grammar.IsExpr.expr d) = list_balanced d

  -- the tokens of Single (, Single)* are balanced
  pub list_balanced : {ts : List Token} {es : List Expr} → IsList ts es → Balanced ts
  list_balanced (grammar.IsList.list p q) = both (single_balanced p) (commas_balanced q)

  commas_balanced : {ts : List Token} {es : List Expr} → IsCommas ts es → Balanced ts
  commas_balanced grammar.IsCommas.no_comma = none
  commas_balanced (grammar.IsCommas.comma p q) = plain (Mark Comma) (λ n. refl) (both (single_balanced p) (commas_balanced q))

  -- the tokens of [Expr] are balanced
  pub content_balanced : {ts : List Token} {o : Option Expr} → IsContent ts o → Balanced ts
  content_balanced grammar.IsContent.no_content = none
  content_balanced (grammar.IsContent.content d) = expr_balanced d

  -- the tokens of [Single (, Single)*] are balanced
  pub arguments_balanced : {ts : List Token} {es : List Expr} → IsArguments ts es → Balanced ts
  arguments_balanced grammar.IsArguments.no_argument = none
  arguments_balanced (grammar.IsArguments.arguments d) = list_balanced d

  -- the tokens of a Single are balanced
  pub single_balanced : {ts : List Token} {e : Expr} → IsSingle ts e → Balanced ts
  single_balanced (grammar.IsSingle.single_flwor d) = flwor_balanced d
  single_balanced (grammar.IsSingle.single_if d) = if_balanced d
  single_balanced (grammar.IsSingle.single_or h d) = or_balanced d

  flwor_balanced : {ts : List Token} {e : Expr} → IsFlwor ts e → Balanced ts
  flwor_balanced (grammar.IsFlwor.flwor a b c d e) =
      both (clause_balanced a) (both (clauses_balanced b) (both (where_balanced c) (both (order_balanced d) (word (single_balanced e)))))

  clause_balanced : {ts : List Token} {bs : List Bind} → IsClause ts bs → Balanced ts
  clause_balanced (grammar.IsClause.for_clause p q) = word (both (bind_balanced p) (binds_balanced q))
  clause_balanced (grammar.IsClause.let_clause p q) = word (both (let_balanced p) (lets_balanced q))

  clauses_balanced : {ts : List Token} {bs : List Bind} → IsClauses ts bs → Balanced ts
  clauses_balanced grammar.IsClauses.no_clause = none
  clauses_balanced (grammar.IsClauses.clause p q) = both (clause_balanced p) (clauses_balanced q)

  bind_balanced : {ts : List Token} {b : Bind} → IsBind ts b → Balanced ts
  bind_balanced (grammar.IsBind.bind d) = dollar (word (word (single_balanced d)))
  bind_balanced (grammar.IsBind.bind_at d) = dollar (word (word (dollar (word (word (single_balanced d))))))

  binds_balanced : {ts : List Token} {bs : List Bind} → IsBinds ts bs → Balanced ts
  binds_balanced grammar.IsBinds.no_bind = none
  binds_balanced (grammar.IsBinds.next_bind p q) = plain (Mark Comma) (λ n. refl) (both (bind_balanced p) (binds_balanced q))

  let_balanced : {ts : List Token} {b : Bind} → IsLet ts b → Balanced ts
  let_balanced (grammar.IsLet.let_bind d) = dollar (word (plain (Mark Assign) (λ n. refl) (single_balanced d)))

  lets_balanced : {ts : List Token} {bs : List Bind} → IsLets ts bs → Balanced ts
  lets_balanced grammar.IsLets.no_let = none
  lets_balanced (grammar.IsLets.next_let p q) = plain (Mark Comma) (λ n. refl) (both (let_balanced p) (lets_balanced q))

  where_balanced : {ts : List Token} {o : Option Expr} → IsWhere ts o → Balanced ts
  where_balanced grammar.IsWhere.no_where = none
  where_balanced (grammar.IsWhere.a_where d) = word (single_balanced d)

  order_balanced : {ts : List Token} {ks : List SortKey} → IsOrder ts ks → Balanced ts
  order_balanced grammar.IsOrder.no_order = none
  order_balanced (grammar.IsOrder.order p q) = word (word (both (key_balanced p) (keys_balanced q)))

  key_balanced : {ts : List Token} {k : SortKey} → IsKey ts k → Balanced ts
  key_balanced (grammar.IsKey.bare_key d) = single_balanced d
  key_balanced (grammar.IsKey.ascending d) = both (single_balanced d) (word none)
  key_balanced (grammar.IsKey.descending d) = both (single_balanced d) (word none)

  keys_balanced : {ts : List Token} {ks : List SortKey} → IsKeys ts ks → Balanced ts
  keys_balanced grammar.IsKeys.no_key = none
  keys_balanced (grammar.IsKeys.next_key p q) = plain (Mark Comma) (λ n. refl) (both (key_balanced p) (keys_balanced q))

  if_balanced : {ts : List Token} {e : Expr} → IsIf ts e → Balanced ts
  if_balanced (grammar.IsIf.an_if a b c) = word (round (expr_balanced a) (word (both (single_balanced b) (word (single_balanced c)))))

  or_balanced : {ts : List Token} {e : Expr} → IsOr ts e → Balanced ts
  or_balanced (grammar.IsOr.or p q) = both (and_balanced p) (ors_balanced q)

  ors_balanced : {ts : List Token} {es : List Expr} → IsOrs ts es → Balanced ts
  ors_balanced grammar.IsOrs.no_or = none
  ors_balanced (grammar.IsOrs.next_or p q) = word (both (and_balanced p) (ors_balanced q))

  and_balanced : {ts : List Token} {e : Expr} → IsAnd ts e → Balanced ts
  and_balanced (grammar.IsAnd.and p q) = both (comp_balanced p) (ands_balanced q)

  ands_balanced : {ts : List Token} {es : List Expr} → IsAnds ts es → Balanced ts
  ands_balanced grammar.IsAnds.no_and = none
  ands_balanced (grammar.IsAnds.next_and p q) = word (both (comp_balanced p) (ands_balanced q))

  comp_balanced : {ts : List Token} {e : Expr} → IsComp ts e → Balanced ts
  comp_balanced (grammar.IsComp.no_comp d) = range_balanced d
  comp_balanced (grammar.IsComp.comp op p q) = both (range_balanced p) (compare_balanced op (range_balanced q))

  range_balanced : {ts : List Token} {e : Expr} → IsRange ts e → Balanced ts
  range_balanced (grammar.IsRange.no_range d) = sum_balanced d
  range_balanced (grammar.IsRange.range p q) = both (sum_balanced p) (word (sum_balanced q))

  sum_balanced : {ts : List Token} {e : Expr} → IsSum ts e → Balanced ts
  sum_balanced (grammar.IsSum.sum p q) = both (product_balanced p) (sum_parts_balanced q)

  sum_parts_balanced : {ts : List Token} {ps : List SumPart} → IsSumParts ts ps → Balanced ts
  sum_parts_balanced grammar.IsSumParts.no_sum = none
  sum_parts_balanced (grammar.IsSumParts.plus p q) = plain (Mark Plus) (λ n. refl) (both (product_balanced p) (sum_parts_balanced q))
  sum_parts_balanced (grammar.IsSumParts.minus p q) = plain (Mark Minus) (λ n. refl) (both (product_balanced p) (sum_parts_balanced q))

  product_balanced : {ts : List Token} {e : Expr} → IsProduct ts e → Balanced ts
  product_balanced (grammar.IsProduct.product p q) = both (union_balanced p) (product_parts_balanced q)

  product_parts_balanced : {ts : List Token} {ps : List ProductPart} → IsProductParts ts ps → Balanced ts
  product_parts_balanced grammar.IsProductParts.no_product = none
  product_parts_balanced (grammar.IsProductParts.times p q) = plain (Mark Star) (λ n. refl) (both (union_balanced p) (product_parts_balanced q))
  product_parts_balanced (grammar.IsProductParts.idiv p q) = word (both (union_balanced p) (product_parts_balanced q))
  product_parts_balanced (grammar.IsProductParts.mod_ p q) = word (both (union_balanced p) (product_parts_balanced q))

  union_balanced : {ts : List Token} {e : Expr} → IsUnion ts e → Balanced ts
  union_balanced (grammar.IsUnion.union p q) = both (signed_balanced p) (unions_balanced q)

  unions_balanced : {ts : List Token} {es : List Expr} → IsUnions ts es → Balanced ts
  unions_balanced grammar.IsUnions.no_union = none
  unions_balanced (grammar.IsUnions.bar p q) = plain (Mark Bar) (λ n. refl) (both (signed_balanced p) (unions_balanced q))
  unions_balanced (grammar.IsUnions.union_word p q) = word (both (signed_balanced p) (unions_balanced q))

  signed_balanced : {ts : List Token} {e : Expr} → IsSigned ts e → Balanced ts
  signed_balanced (grammar.IsSigned.signed signs d) = signs_balanced signs (path_balanced d)

  path_balanced : {ts : List Token} {e : Expr} → IsPath ts e → Balanced ts
  path_balanced (grammar.IsPath.path_filter p q) = both (filter_balanced p) (steps_balanced q)
  path_balanced (grammar.IsPath.path_step p q) = both (step_balanced p) (steps_balanced q)

  steps_balanced : {ts : List Token} {ss : List Step} → IsSteps ts ss → Balanced ts
  steps_balanced grammar.IsSteps.no_step = none
  steps_balanced (grammar.IsSteps.slash p q) = plain (Mark Slash) (λ n. refl) (both (step_balanced p) (steps_balanced q))
  steps_balanced (grammar.IsSteps.slash_slash p q) = plain (Mark SlashSlash) (λ n. refl) (both (step_balanced p) (steps_balanced q))

  filter_balanced : {ts : List Token} {e : Expr} → IsFilter ts e → Balanced ts
  filter_balanced (grammar.IsFilter.filter p q) = both (primary_balanced p) (preds_balanced q)

  preds_balanced : {ts : List Token} {es : List Expr} → IsPreds ts es → Balanced ts
  preds_balanced grammar.IsPreds.no_pred = none
  preds_balanced (grammar.IsPreds.pred p q) = square (expr_balanced p) (preds_balanced q)

  primary_balanced : {ts : List Token} {e : Expr} → IsPrimary ts e → Balanced ts
  primary_balanced (grammar.IsPrimary.string {value}) = plain (token.Text value) (λ n. refl) none
  primary_balanced (grammar.IsPrimary.integer {value}) = plain (token.Int value) (λ n. refl) none
  primary_balanced grammar.IsPrimary.variable = dollar (word none)
  primary_balanced (grammar.IsPrimary.group d) = round (content_balanced d) none
  primary_balanced grammar.IsPrimary.context = plain (Mark Dot) (λ n. refl) none
  primary_balanced (grammar.IsPrimary.doc {name} h) = word (round (plain (token.Text name) (λ n. refl) none) none)
  primary_balanced (grammar.IsPrimary.function h d) = word (round (arguments_balanced d) none)
  primary_balanced (grammar.IsPrimary.element d) = word (word (curly (content_balanced d) none))
  primary_balanced (grammar.IsPrimary.attribute d) = word (word (curly (content_balanced d) none))
  primary_balanced (grammar.IsPrimary.text d) = word (curly (content_balanced d) none)

  step_balanced : {ts : List Token} {s : Step} → IsStep ts s → Balanced ts
  step_balanced (grammar.IsStep.at name d) = plain (Mark At) (λ n. refl) (name_balanced name (preds_balanced d))
  step_balanced (grammar.IsStep.parent d) = plain (Mark DotDot) (λ n. refl) (preds_balanced d)
  step_balanced (grammar.IsStep.along way p q) = word (plain (Mark ColonColon) (λ n. refl) (both (test_balanced p) (preds_balanced q)))
  step_balanced (grammar.IsStep.child p q) = both (test_balanced p) (preds_balanced q)
