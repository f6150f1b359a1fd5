-- What is read is in the grammar: each reading takes a front of the tokens that its row holds of.
use Rattle.std.proofs.Common.{◌≡◌, ℕ, zero, suc, Bool, true, false, ◌||◌, List, [], ◌∷◌, ◌++◌, map, Option, Some, None, inl, inr, refl, ap, sym, ◌∙◌, subst, append_assoc}
use Rattle.std.specs.Prelude.{bytes_eq, if◌then◌else◌, codes, ◌⊎◌}
use Rattle.std.proofs.lemmas.List.{append-nil}
use Rattle.xq_ast.specs.declared.token.Symbol.TheVariants.{OpenRound, CloseRound, OpenSquare, CloseSquare, OpenCurly, CloseCurly, Comma, At, Dot, DotDot, ColonColon, Assign, Plus, Minus, Star, Bar, Dollar}
use Rattle.xq_ast.specs.declared.token.Token.{Token}
use Rattle.xq_ast.specs.declared.token.Token.TheVariants.{Name, Text, Int, Symbol as Mark}
use Rattle.xq_ast.specs.declared.step.Axis.{Axis}
use Rattle.xq_ast.specs.declared.step.Axis.TheVariants as axis
use Rattle.xq_ast.specs.declared.step.Test.{Test}
use Rattle.xq_ast.specs.declared.step.Test.TheVariants as kind
use Rattle.xq_ast.specs.declared.tree.ProductOp.{ProductOp}
use Rattle.xq_ast.specs.declared.tree.ProductOp.TheVariants.{Times, Idiv, Mod}
use Rattle.xq_ast.specs.declared.tree.Expr.{Expr}
use Rattle.xq_ast.specs.declared.tree.Expr.TheVariants as expression
use Rattle.xq_ast.specs.declared.tree.Bind.{Bind}
use Rattle.xq_ast.specs.declared.tree.Bind.TheVariants as binding
use Rattle.xq_ast.specs.declared.tree.SortKey.{SortKey}
use Rattle.xq_ast.specs.declared.tree.SumPart.{SumPart}
use Rattle.xq_ast.specs.declared.tree.ProductPart.{ProductPart}
use Rattle.xq_ast.specs.declared.tree.Step.{Step}
use Rattle.xq_ast.specs.Tokens.{◌>>=◌}
use Rattle.xq_ast.specs.Grammar as grammar
use Rattle.xq_ast.specs.Grammar.{IsTest, IsExpr, IsList, IsCommas, IsContent, IsArguments, IsSingle, IsFlwor, IsClause, IsClauses, IsBind, IsBinds, IsLet, IsLets, IsWhere, IsOrder, IsKey, IsKeys, IsIf, IsOr, IsOrs, IsAnd, IsAnds, IsComp, IsRange, IsSum, IsSumParts, IsProduct, IsProductParts, IsUnion, IsUnions, IsSigned, IsPath, IsSteps, IsFilter, IsPreds, IsPrimary, IsStep, is_keyword, is_test_word, is_doc_word, is_function_word, plain, name_token, axis_word, compare_symbol, sign_symbol, sequence_of, group_of, or_of, and_of, sum_of, product_of, union_of, signed_of, filter_of, path_of, steps_of, key, sum_part, product_part, step_behind}
use Rattle.xq_ast.specs.Grammar.{step as step_with}
use Rattle.xq_ast.specs.Readings.{Reader, Behind, Operand, Begins, ClauseWord, comma, close_round, close_square, close_curly, open_square, assign, word, two_words, a_name, variable, compare_op, sum_op, product_op, union_op, slash, behind_name, followed, there, put, commas, list, expr, content_at, content, arguments_at, arguments, pred, preds, axis_of, kind_of, name_test, named_test, test, named_step, bare_step, step, steps, named_operand, operand, doc, primary, filtered, path_at, path, signs, signed, unions, union, product_parts, product, sum_parts, sum, range, comp, ands, and, ors, or, place, bind_in, bind, more_binds, binds, let_bind, more_lets, lets, clause_word, clause, more_clauses, first_clause, clauses, filter_at, filter, direction, key_at, sort_key, more_keys, sort_keys, order_at, order, flwor, an_if, named_begins, begins, single_at, single_over, single}
use Rattle.xq_parse.proofs.Taken.{same_bytes, Front, Takes, TakesToken, step_sound, last_sound, token_sound, end_sound, nothing_sound, stands_sound, under, followed_sound, items_sound, paired_sound, comma_takes, close_round_takes, close_square_takes, close_curly_takes, open_square_takes, assign_takes, choose, word_takes, two_words_take, there_takes, union_op_takes, slash_token, slash_takes, sum_token, sum_op_takes, product_token, product_op_takes, compare_op_takes, a_name_takes, variable_takes, clause_token, clause_word_takes, IsBehind, behind_is}
use Rattle.xq_parse.proofs.Options.{bind_some, some_is}

-- ---- tests and steps

-- the axis of a word has this word
axis_is : (w : List ℕ) (a : Axis) → axis_of w ≡ Some a → w ≡ axis_word a
axis_is w a e =
    choose (bytes_eq w (codes "child")) _ _ (Some a) e (λ same f. same_bytes w (codes "child") same ∙ ap axis_word (some_is f)) (λ other f.
    choose (bytes_eq w (codes "descendant")) _ _ (Some a) f (λ same f. same_bytes w (codes "descendant") same ∙ ap axis_word (some_is f)) (λ other f.
    choose (bytes_eq w (codes "descendant-or-self")) _ _ (Some a) f (λ same f. same_bytes w (codes "descendant-or-self") same ∙ ap axis_word (some_is f)) (λ other f.
    choose (bytes_eq w (codes "self")) _ _ (Some a) f (λ same f. same_bytes w (codes "self") same ∙ ap axis_word (some_is f)) (λ other f.
    choose (bytes_eq w (codes "attribute")) _ _ (Some a) f (λ same f. same_bytes w (codes "attribute") same ∙ ap axis_word (some_is f)) (λ other f.
    choose (bytes_eq w (codes "parent")) _ _ (Some a) f (λ same f. same_bytes w (codes "parent") same ∙ ap axis_word (some_is f)) (λ other f. cc))))))

-- the test of a word, with brackets
kind_is : (w : List ℕ) (t : Test) → kind_of w ≡ Some t → IsTest (Name w ∷ Mark OpenRound ∷ Mark CloseRound ∷ []) t
kind_is w t e =
    choose (bytes_eq w (codes "node")) _ _ (Some t) e (λ same f. go (codes "node") kind.AnyNode same f grammar.IsTest.node_test) (λ other f.
    choose (bytes_eq w (codes "text")) _ _ (Some t) f (λ same f. go (codes "text") kind.Text same f grammar.IsTest.text_test) (λ other f.
    choose (bytes_eq w (codes "processing-instruction")) _ _ (Some t) f (λ same f. go (codes "processing-instruction") kind.Pi same f grammar.IsTest.pi_test) (λ other f. cc)))
  where
    go : (v : List ℕ) (k : Test) → bytes_eq w v ≡ true → Some k ≡ Some t → IsTest (Name v ∷ Mark OpenRound ∷ Mark CloseRound ∷ []) k → IsTest (Name w ∷ Mark OpenRound ∷ Mark CloseRound ∷ []) t
    go v k same f d =
        subst (λ x. IsTest (Name x ∷ Mark OpenRound ∷ Mark CloseRound ∷ []) t) (sym (same_bytes w v same)) (subst (λ x. IsTest (Name v ∷ Mark OpenRound ∷ Mark CloseRound ∷ []) x) (some_is f) d)

-- a name test that is the name
name_sound : (w : List ℕ) (ts : List Token) (r : Test × List Token) → Some (kind.Name (Some w), ts) ≡ Some r → Front IsTest (Name w ∷ ts) r
name_sound w ts r e = stands_sound (Name w ∷ []) (kind.Name (Some w)) (Name w ∷ ts) ts r refl e (grammar.IsTest.name_test (Some w))

named_test_sound : (w : List ℕ) (ts : List Token) (b : Behind) → IsBehind b ts → (r : Test × List Token) → named_test w ts b ≡ Some r → Front IsTest (Name w ∷ ts) r
named_test_sound w ts (Behind.round us) is r e =
    let a = bind_some (kind_of w) (λ t. close_round us >>= (λ vs. let x : Option (Test × List Token) = Some (t, vs) in x)) r e in
    under (Name w ∷ Mark OpenRound ∷ []) (Name w ∷ ts) us r (ap (λ x. Name w ∷ x) is) (end_sound (Mark CloseRound) close_round a.0 us r close_round_takes a.2 (kind_is w a.0 a.1))
named_test_sound w ts (Behind.dollar us) is r e = name_sound w ts r e
named_test_sound w ts (Behind.curly us) is r e = name_sound w ts r e
named_test_sound w ts (Behind.name_curly name us) is r e = name_sound w ts r e
named_test_sound w ts (Behind.colons us) is r e = name_sound w ts r e
named_test_sound w ts Behind.other is r e = name_sound w ts r e

-- what is read as a Test is one
pub test_takes : Takes IsTest test
test_takes = record { takes = go }
  where
    go : (ts : List Token) (r : Test × List Token) → test ts ≡ Some r → Front IsTest ts r
    go (Name w ∷ ts) r e = named_test_sound w ts (behind_name ts) (behind_is ts) r e
    go (Mark Star ∷ ts) r e = stands_sound (Mark Star ∷ []) (kind.Name None) (Mark Star ∷ ts) ts r refl e (grammar.IsTest.name_test None)
    go _ r e = cc

name_test_takes : Takes (λ us n. us ≡ name_token n ∷ []) name_test
name_test_takes = record { takes = go }
  where
    go : (ts : List Token) (r : Option (List ℕ) × List Token) → name_test ts ≡ Some r → Front (λ us n. us ≡ name_token n ∷ []) ts r
    go (Name w ∷ ts) r e = stands_sound (Name w ∷ []) (Some w) _ ts r refl e refl
    go (Mark Star ∷ ts) r e = stands_sound (Mark Star ∷ []) None _ ts r refl e refl
    go _ r e = cc

-- a step without its predicates: with any it is a step
IsBare : List Token → Axis × Test → Type 0
IsBare ts s = (us : List Token) (preds : List Expr) → IsPreds us preds → IsStep (ts ++ us) (step_with s.0 s.1 preds)

child_sound : {ts : List Token} {t : Test} → IsTest ts t → IsBare ts (axis.Child, t)
unfolding IsBare
child_sound d = λ us preds p. grammar.IsStep.child d p

at_sound : (n : Option (List ℕ)) (us : List Token) → us ≡ name_token n ∷ [] → IsBare (Mark At ∷ us) (axis.Attribute, kind.Name n)
unfolding IsBare
at_sound n us e = subst (λ x. (ws : List Token) (preds : List Expr) → IsPreds ws preds → IsStep ((Mark At ∷ x) ++ ws) (step_with axis.Attribute (kind.Name n) preds)) (sym e) (λ ws preds p. grammar.IsStep.at n p)

parent_sound : IsBare (Mark DotDot ∷ []) (axis.Parent, kind.AnyNode)
unfolding IsBare
parent_sound = λ us preds p. grammar.IsStep.parent p

along_sound : (w : List ℕ) (a : Axis) → w ≡ axis_word a → {us : List Token} {t : Test} → IsTest us t → IsBare (Name w ∷ Mark ColonColon ∷ us) (a, t)
unfolding IsBare
along_sound w a e {us} {t} d =
    subst (λ x. (ws : List Token) (preds : List Expr) → IsPreds ws preds → IsStep ((Name x ∷ Mark ColonColon ∷ us) ++ ws) (step_with a t preds)) (sym e) (λ ws preds p. grammar.IsStep.along a d p)

named_step_sound : (w : List ℕ) (ts : List Token) (b : Behind) → IsBehind b ts → (r : (Axis × Test) × List Token) → named_step w ts b ≡ Some r → Front IsBare (Name w ∷ ts) r
named_step_sound w ts (Behind.colons us) is r e =
    let a = bind_some (axis_of w) (λ a. test us >>= (λ t. let x : Option ((Axis × Test) × List Token) = Some ((a, t.0), t.1) in x)) r e in
    under (Name w ∷ Mark ColonColon ∷ []) (Name w ∷ ts) us r (ap (λ x. Name w ∷ x) is)
    (last_sound (λ t. let x : Axis × Test = (a.0, t) in x) test us r test_takes a.2 (λ t vs d. along_sound w a.0 (axis_is w a.0 a.1) d))
named_step_sound w ts b is r e = go b is e
  where
    child : (o : Option (Test × List Token)) → ((t : Test × List Token) → o ≡ Some t → Front IsTest (Name w ∷ ts) t)
        → (o >>= (λ t. let x : Option ((Axis × Test) × List Token) = Some ((axis.Child, t.0), t.1) in x)) ≡ Some r → Front IsBare (Name w ∷ ts) r
    child None front f = cc
    child (Some t) front f =
        let first = front t refl in
        subst (λ x. Front IsBare (Name w ∷ ts) x) (some_is f) (record { used = first.used; holds = child_sound first.holds; whole = first.whole })

    go : (b : Behind) → IsBehind b ts → (named_test w ts b >>= (λ t. let x : Option ((Axis × Test) × List Token) = Some ((axis.Child, t.0), t.1) in x)) ≡ Some r → Front IsBare (Name w ∷ ts) r
    go b is f = child (named_test w ts b) (λ t g. named_test_sound w ts b is t g) f

bare_step_takes : Takes IsBare bare_step
unfolding bare_step
bare_step_takes = record { takes = go }
  where
    go : (ts : List Token) (r : (Axis × Test) × List Token) → bare_step ts ≡ Some r → Front IsBare ts r
    go (Mark At ∷ ts) r e =
        under (Mark At ∷ []) (Mark At ∷ ts) ts r refl
        (last_sound (λ n. let x : Axis × Test = (axis.Attribute, kind.Name n) in x) name_test ts r name_test_takes e (λ n us d. at_sound n us d))
    go (Mark DotDot ∷ ts) r e = stands_sound (Mark DotDot ∷ []) (axis.Parent, kind.AnyNode) _ ts r refl e parent_sound
    go (Mark Star ∷ ts) r e = stands_sound (Mark Star ∷ []) (axis.Child, kind.Name None) _ ts r refl e (child_sound (grammar.IsTest.name_test None))
    go (Name w ∷ ts) r e = named_step_sound w ts (behind_name ts) (behind_is ts) r e
    go _ r e = cc

-- ---- how operands and single expressions begin

IsOperand : Operand → List Token → Type 0
IsOperand (Operand.a_string value us) ts = ts ≡ Text value ∷ us
IsOperand (Operand.an_integer value us) ts = ts ≡ Int value ∷ us
IsOperand (Operand.a_variable us) ts = ts ≡ Mark Dollar ∷ us
IsOperand (Operand.a_group us) ts = ts ≡ Mark OpenRound ∷ us
IsOperand (Operand.the_context us) ts = ts ≡ Mark Dot ∷ us
IsOperand (Operand.a_doc us) ts = (w : List ℕ) × (is_doc_word w ≡ true) × (ts ≡ Name w ∷ Mark OpenRound ∷ us)
IsOperand (Operand.a_function w us) ts = (is_function_word w ≡ true) × (ts ≡ Name w ∷ Mark OpenRound ∷ us)
IsOperand (Operand.an_element name us) ts = ts ≡ Name (codes "element") ∷ Name name ∷ Mark OpenCurly ∷ us
IsOperand (Operand.an_attribute name us) ts = ts ≡ Name (codes "attribute") ∷ Name name ∷ Mark OpenCurly ∷ us
IsOperand (Operand.a_text_node us) ts = ts ≡ Name (codes "text") ∷ Mark OpenCurly ∷ us
IsOperand Operand.a_step ts = Unit {0}

named_operand_is : (w : List ℕ) (ts : List Token) (b : Behind) → IsBehind b ts → IsOperand (named_operand w b) (Name w ∷ ts)
unfolding IsOperand
named_operand_is w ts (Behind.round us) is = by_word (is_doc_word w) (is_test_word w) refl refl
  where
    by_word : (d t : Bool) → is_doc_word w ≡ d → is_test_word w ≡ t
        → IsOperand (if d then Operand.a_doc us else if t then Operand.a_step else Operand.a_function w us) (Name w ∷ ts)
    by_word true t p q = (w, p, ap (λ x. Name w ∷ x) is)
    by_word false true p q = tt
    by_word false false p q = (rw (p, q) refl, ap (λ x. Name w ∷ x) is)
named_operand_is w ts (Behind.name_curly name us) is = by_word (bytes_eq w (codes "element")) (bytes_eq w (codes "attribute")) refl refl
  where
    by_word : (e a : Bool) → bytes_eq w (codes "element") ≡ e → bytes_eq w (codes "attribute") ≡ a
        → IsOperand (if e then Operand.an_element name us else if a then Operand.an_attribute name us else Operand.a_step) (Name w ∷ ts)
    by_word true a p q = ap (λ x. Name x ∷ ts) (same_bytes w (codes "element") p) ∙ ap (λ x. Name (codes "element") ∷ x) is
    by_word false true p q = ap (λ x. Name x ∷ ts) (same_bytes w (codes "attribute") q) ∙ ap (λ x. Name (codes "attribute") ∷ x) is
    by_word false false p q = tt
named_operand_is w ts (Behind.curly us) is = by_word (bytes_eq w (codes "text")) refl
  where
    by_word : (t : Bool) → bytes_eq w (codes "text") ≡ t → IsOperand (if t then Operand.a_text_node us else Operand.a_step) (Name w ∷ ts)
    by_word true p = ap (λ x. Name x ∷ ts) (same_bytes w (codes "text") p) ∙ ap (λ x. Name (codes "text") ∷ x) is
    by_word false p = tt
named_operand_is w ts (Behind.dollar us) is = tt
named_operand_is w ts (Behind.colons us) is = tt
named_operand_is w ts Behind.other is = tt

operand_is : (ts : List Token) → IsOperand (operand ts) ts
unfolding IsOperand
operand_is (Text value ∷ ts) = refl
operand_is (Int value ∷ ts) = refl
operand_is (Mark Dollar ∷ ts) = refl
operand_is (Mark OpenRound ∷ ts) = refl
operand_is (Mark Dot ∷ ts) = refl
operand_is (Name w ∷ ts) = named_operand_is w ts (behind_name ts) (behind_is ts)
operand_is _ = tt

IsBegun : Begins → List Token → Type 0
IsBegun Begins.a_flwor ts = Unit {0}
IsBegun (Begins.an_if_behind us) ts = ts ≡ Name (codes "if") ∷ Mark OpenRound ∷ us
IsBegun Begins.an_or ts = is_keyword ts ≡ false

named_begins_is : (w : List ℕ) (ts : List Token) (b : Behind) → IsBehind b ts → IsBegun (named_begins w b) (Name w ∷ ts)
unfolding IsBegun
named_begins_is w ts (Behind.dollar us) is = by_word (bytes_eq w (codes "for") || bytes_eq w (codes "let")) refl
  where
    by_word : (b : Bool) → (bytes_eq w (codes "for") || bytes_eq w (codes "let")) ≡ b → IsBegun (if b then Begins.a_flwor else Begins.an_or) (Name w ∷ ts)
    by_word true same = tt
    by_word false other = ap (λ x. is_keyword (Name w ∷ x)) is ∙ other
named_begins_is w ts (Behind.round us) is = by_word (bytes_eq w (codes "if")) refl
  where
    by_word : (b : Bool) → bytes_eq w (codes "if") ≡ b → IsBegun (if b then Begins.an_if_behind us else Begins.an_or) (Name w ∷ ts)
    by_word true same = ap (λ x. Name x ∷ ts) (same_bytes w (codes "if") same) ∙ ap (λ x. Name (codes "if") ∷ x) is
    by_word false other = ap (λ x. is_keyword (Name w ∷ x)) is ∙ other
named_begins_is w ts (Behind.curly us) is = ap (λ x. is_keyword (Name w ∷ x)) is
named_begins_is w ts (Behind.name_curly name us) is = ap (λ x. is_keyword (Name w ∷ x)) is
named_begins_is w ts (Behind.colons us) is = ap (λ x. is_keyword (Name w ∷ x)) is
named_begins_is w ts Behind.other is = is w

begins_is : (ts : List Token) → IsBegun (begins ts) ts
unfolding IsBegun
begins_is (Name w ∷ ts) = named_begins_is w ts (behind_name ts) (behind_is ts)
begins_is _ = refl

-- ---- the signs before an operand

signs_take : (ts : List Token) → ts ≡ map (λ s. Mark (sign_symbol s)) (signs ts).0 ++ (signs ts).1
signs_take (Mark Plus ∷ ts) = ap (λ x. Mark Plus ∷ x) (signs_take ts)
signs_take (Mark Minus ∷ ts) = ap (λ x. Mark Minus ∷ x) (signs_take ts)
signs_take _ = refl

-- ---- the rows, over single expressions

-- a reading that began as it did takes a front, and then the rest is read
front_sound : {A C : Type 0} {P : List Token → A → Type 0} {Q : List Token → C → Type 0} (o : Option (A × List Token)) (f : A × List Token → Option (C × List Token))
    (ts : List Token) (r : C × List Token) → ((x : A × List Token) → o ≡ Some x → Front P ts x) → (o >>= f) ≡ Some r
    → ((x : A) (us rest : List Token) → P us x → f (x, rest) ≡ Some r → Front (λ vs c. Q (us ++ vs) c) rest r) → Front Q ts r
front_sound o f ts r front e more =
    let a = bind_some o f r e in
    let first = front a.0 a.1 in
    under first.used ts a.0.1 r first.whole (more a.0.0 first.used a.0.1 first.holds a.2)

-- what stands before a token that closes it
abbrev pub Enclosed : {A : Type 0} → Token → (List Token → A → Type 0) → List Token → A → Type 0
Enclosed t P us x = (vs : List Token) × P vs x × (us ≡ vs ++ t ∷ [])

-- the tokens of a place in a binding
abbrev place_tokens : Option (List ℕ) → List Token
place_tokens None = []
place_tokens (Some name) = Name (codes "at") ∷ Mark Dollar ∷ Name name ∷ []

abbrev IsPlaced : List Token → Option (List ℕ) × List Token → Type 0
IsPlaced ts p = ts ≡ place_tokens p.0 ++ p.1

place_take : (ts : List Token) → IsPlaced ts (place ts)
place_take (Name w ∷ Mark Dollar ∷ Name name ∷ ts) = by_word (bytes_eq w (codes "at")) refl
  where
    by_word : (b : Bool) → bytes_eq w (codes "at") ≡ b
        → IsPlaced (Name w ∷ Mark Dollar ∷ Name name ∷ ts) (if b then (Some name, ts) else (None, Name w ∷ Mark Dollar ∷ Name name ∷ ts))
    by_word true same = ap (λ x. Name x ∷ Mark Dollar ∷ Name name ∷ ts) (same_bytes w (codes "at") same)
    by_word false other = refl
place_take _ = refl

bind_joins : (name : List ℕ) (o : Option (List ℕ)) (us ws : List Token) (e : Expr) → us ≡ Mark Dollar ∷ Name name ∷ [] → IsSingle ws e
    → IsBind (us ++ (place_tokens o ++ Name (codes "in") ∷ ws)) (binding.For name o e)
bind_joins name None us ws e h d = subst (λ l. IsBind (l ++ Name (codes "in") ∷ ws) (binding.For name None e)) (sym h) (grammar.IsBind.bind d)
bind_joins name (Some at) us ws e h d =
    subst (λ l. IsBind (l ++ (Name (codes "at") ∷ Mark Dollar ∷ Name at ∷ Name (codes "in") ∷ ws)) (binding.For name (Some at) e)) (sym h) (grammar.IsBind.bind_at d)

key_joins : (us : List Token) (x : Expr) (left : List Token) (r : SortKey × List Token) → IsSingle us x → key_at x (direction left) ≡ Some r → Front (λ vs k. IsKey (us ++ vs) k) left r
key_joins us x (Name w ∷ ls) r d e = by_word (bytes_eq w (codes "ascending")) (bytes_eq w (codes "descending")) refl refl e
  where
    by_word : (a b : Bool) → bytes_eq w (codes "ascending") ≡ a → bytes_eq w (codes "descending") ≡ b
        → key_at x (if a then (false, ls) else if b then (true, ls) else (false, Name w ∷ ls)) ≡ Some r → Front (λ vs k. IsKey (us ++ vs) k) (Name w ∷ ls) r
    by_word true b p q f = stands_sound (Name (codes "ascending") ∷ []) (key false x) _ ls r (ap (λ y. Name y ∷ ls) (same_bytes w (codes "ascending") p)) f (grammar.IsKey.ascending d)
    by_word false true p q f = stands_sound (Name (codes "descending") ∷ []) (key true x) _ ls r (ap (λ y. Name y ∷ ls) (same_bytes w (codes "descending") q)) f (grammar.IsKey.descending d)
    by_word false false p q f = nothing_sound (key false x) (Name w ∷ ls) r f (subst (λ l. IsKey l (key false x)) (sym (append-nil us)) (grammar.IsKey.bare_key d))
key_joins us x _ r d e = nothing_sound (key false x) _ r e (subst (λ l. IsKey l (key false x)) (sym (append-nil us)) (grammar.IsKey.bare_key d))

-- the clauses of a FLWOR expression, of which the first is there
record AreClauses (us : List Token) (bs : List Bind) : Type 0 where
  pub first_tokens : List Token
  pub more_tokens : List Token
  pub first : List Bind
  pub more : List Bind
  pub first_is : IsClause first_tokens first
  pub more_are : IsClauses more_tokens more
  pub tokens_are : us ≡ first_tokens ++ more_tokens
  pub binds_are : bs ≡ first ++ more

flwor_joins : (us vs ws xs : List Token) (bs : List Bind) (f : Option Expr) (ks : List SortKey) (e : Expr) → AreClauses us bs → IsWhere vs f → IsOrder ws ks → IsSingle xs e
    → IsFlwor (us ++ (vs ++ (ws ++ Name (codes "return") ∷ xs))) (expression.Flwor bs f ks e)
flwor_joins us vs ws xs bs f ks e c p q d =
    let tail = vs ++ (ws ++ Name (codes "return") ∷ xs) in
    subst (λ x. IsFlwor (us ++ tail) (expression.Flwor x f ks e)) (sym c.binds_are)
    (subst (λ l. IsFlwor l (expression.Flwor (c.first ++ c.more) f ks e)) (sym (ap (λ l. l ++ tail) c.tokens_are ∙ append_assoc c.first_tokens c.more_tokens tail))
    (grammar.IsFlwor.flwor c.first_is c.more_are p q d))

-- a front of tokens that do not begin with a keyword does not begin with one
keyword_front : (us rest : List Token) → is_keyword (us ++ rest) ≡ false → is_keyword us ≡ false
keyword_front (Name w ∷ Mark Dollar ∷ us) rest h = h
keyword_front (Name w ∷ Mark OpenRound ∷ us) rest h = h
keyword_front _ rest h = refl

module _ (inner : Reader Expr) (inner_takes : Takes IsSingle inner) where
  commas_takes : Takes IsCommas (commas inner)
  unfolding commas
  commas_takes =
      items_sound (there comma) (λ s. inner) put [] (λ s. IsSingle) IsCommas (λ us s. us ≡ Mark Comma ∷ []) (there_takes (Mark Comma) comma comma_takes) (λ s. inner_takes)
      grammar.IsCommas.no_comma (λ s us vs ws x xs e p q. subst (λ l. IsCommas (l ++ (vs ++ ws)) (x ∷ xs)) (sym e) (grammar.IsCommas.comma p q))

  -- what is read as Single (, Single)* is that
  pub list_takes : Takes IsList (list inner)
  unfolding list
  list_takes = followed_sound (λ e es. e ∷ es) inner (commas inner) inner_takes commas_takes (λ x y us vs p q. grammar.IsList.list p q)

  -- what is read as an Expr is one
  pub expr_takes : Takes IsExpr (expr inner)
  unfolding expr
  expr_takes = record { takes = λ ts r e. last_sound sequence_of (list inner) ts r list_takes e (λ es us d. grammar.IsExpr.expr d) }

  -- what is read as [Expr] with the bracket that closes it is that
  pub content_takes : (t : Token) (close : List Token → Option (List Token)) → TakesToken t close → Takes (Enclosed t IsContent) (content close inner)
  unfolding content
  content_takes t close is = record { takes = λ ts r e. go ts r (close ts) refl e }
    where
      go : (ts : List Token) (r : Option Expr × List Token) (o : Option (List Token)) → close ts ≡ o → content_at close inner ts o ≡ Some r → Front (Enclosed t IsContent) ts r
      go ts r (Some us) some e = stands_sound (t ∷ []) None ts us r (is.takes ts us some) e ([], grammar.IsContent.no_content, refl)
      go ts r None none e =
          step_sound (expr inner) (λ e. close e.1 >>= (λ us. let x : Option (Option Expr × List Token) = Some (Some e.0, us) in x)) ts r expr_takes e
          (λ x us left d f. end_sound t close (Some x) left r is f (us, grammar.IsContent.content d, refl))

  -- what is read as [Single (, Single)*] with the bracket that closes it is that
  pub arguments_takes : Takes (Enclosed (Mark CloseRound) IsArguments) (arguments inner)
  unfolding arguments
  arguments_takes = record { takes = λ ts r e. go ts r (close_round ts) refl e }
    where
      go : (ts : List Token) (r : List Expr × List Token) (o : Option (List Token)) → close_round ts ≡ o → arguments_at inner ts o ≡ Some r → Front (Enclosed (Mark CloseRound) IsArguments) ts r
      go ts r (Some us) some e = stands_sound (Mark CloseRound ∷ []) [] ts us r (close_round_takes.takes ts us some) e ([], grammar.IsArguments.no_argument, refl)
      go ts r None none e =
          step_sound (list inner) (λ es. close_round es.1 >>= (λ us. let x : Option (List Expr × List Token) = Some (es.0, us) in x)) ts r list_takes e
          (λ x us left d f. end_sound (Mark CloseRound) close_round x left r close_round_takes f (us, grammar.IsArguments.arguments d, refl))

  -- what is read as Expr and the bracket that closes it is that
  pub pred_takes : Takes (Enclosed (Mark CloseSquare) IsExpr) (pred inner)
  unfolding pred
  pred_takes = record {
    takes = λ ts r e.
        step_sound (expr inner) (λ e. close_square e.1 >>= (λ us. let x : Option (Expr × List Token) = Some (e.0, us) in x)) ts r expr_takes e
        (λ x us left d f. end_sound (Mark CloseSquare) close_square x left r close_square_takes f (us, d, refl));
  }

  -- what is read as Pred* is that
  pub preds_takes : Takes IsPreds (preds inner)
  unfolding preds
  preds_takes =
      items_sound (there open_square) (λ s. pred inner) put [] (λ s. Enclosed (Mark CloseSquare) IsExpr) IsPreds (λ us s. us ≡ Mark OpenSquare ∷ [])
      (there_takes (Mark OpenSquare) open_square open_square_takes) (λ s. pred_takes) grammar.IsPreds.no_pred
      (λ s us vs ws x xs e p q. subst (λ l. IsPreds (l ++ (vs ++ ws)) (x ∷ xs)) (sym e) (subst (λ l. IsPreds (Mark OpenSquare ∷ l) (x ∷ xs))
      (sym (ap (λ l. l ++ ws) p.2 ∙ append_assoc p.0 (Mark CloseSquare ∷ []) ws)) (grammar.IsPreds.pred p.1 q)))

  -- what is read as a Step is one
  pub step_takes : Takes IsStep (step inner)
  unfolding step IsBare
  step_takes = followed_sound (λ s ps. step_with s.0 s.1 ps) bare_step (preds inner) bare_step_takes preds_takes (λ s ps us vs h p. h vs ps p)

  -- what is read as ((/ or //) Step)* is that
  pub steps_takes : Takes IsSteps (steps inner)
  unfolding steps
  steps_takes =
      items_sound slash (λ deep. step inner) (λ deep s more. step_behind deep s ∷ more) [] (λ s. IsStep) IsSteps (λ us deep. us ≡ slash_token deep ∷ []) slash_takes (λ s. step_takes)
      grammar.IsSteps.no_step (λ deep us vs ws x xs e p q. subst (λ l. IsSteps (l ++ (vs ++ ws)) (step_behind deep x ∷ xs)) (sym e) (go deep vs ws x xs p q))
    where
      go : (deep : Bool) (vs ws : List Token) (x : Step) (xs : List Step) → IsStep vs x → IsSteps ws xs → IsSteps (slash_token deep ∷ (vs ++ ws)) (step_behind deep x ∷ xs)
      go true vs ws x xs p q = grammar.IsSteps.slash_slash p q
      go false vs ws x xs p q = grammar.IsSteps.slash p q

  -- what stands in brackets of the content of a primary
  in_brackets : (t : Token) (close : List Token → Option (List Token)) (is : TakesToken t close) (used : List Token) (make : Option Expr → Expr) (ts us : List Token) (r : Expr × List Token)
      → ts ≡ used ++ us → (content close inner us >>= (λ o. let x : Option (Expr × List Token) = Some (make o.0, o.1) in x)) ≡ Some r
      → ((vs : List Token) (o : Option Expr) → IsContent vs o → IsPrimary (used ++ (vs ++ t ∷ [])) (make o)) → Front IsPrimary ts r
  in_brackets t close is used make ts us r whole e holds =
      under used ts us r whole (last_sound make (content close inner) us r (content_takes t close is) e (λ o vs d. subst (λ l. IsPrimary (used ++ l) (make o)) (sym d.2) (holds d.0 o d.1)))

  primary_sound : (o : Operand) (ts : List Token) (r : Expr × List Token) → IsOperand o ts → primary inner o ≡ Some r → Front IsPrimary ts r
  unfolding primary IsOperand
  primary_sound (Operand.a_string value us) ts r is e = stands_sound (Text value ∷ []) (expression.Text value) ts us r is e grammar.IsPrimary.string
  primary_sound (Operand.an_integer value us) ts r is e = stands_sound (Int value ∷ []) (expression.Int value) ts us r is e grammar.IsPrimary.integer
  primary_sound (Operand.a_variable us) ts r is e =
      under (Mark Dollar ∷ []) ts us r is (last_sound expression.Var a_name us r a_name_takes e (λ name vs h. subst (λ l. IsPrimary (Mark Dollar ∷ l) (expression.Var name)) (sym h) grammar.IsPrimary.variable))
  primary_sound (Operand.a_group us) ts r is e = in_brackets (Mark CloseRound) close_round close_round_takes (Mark OpenRound ∷ []) group_of ts us r is e (λ vs o d. grammar.IsPrimary.group d)
  primary_sound (Operand.the_context us) ts r is e = stands_sound (Mark Dot ∷ []) expression.Context ts us r is e grammar.IsPrimary.context
  primary_sound (Operand.a_doc us) ts r is e = named us is.2 e
    where
      named : (us : List Token) → ts ≡ Name is.0 ∷ Mark OpenRound ∷ us → doc us ≡ Some r → Front IsPrimary ts r
      named (Text name ∷ Mark CloseRound ∷ us) whole f =
          stands_sound (Name is.0 ∷ Mark OpenRound ∷ Text name ∷ Mark CloseRound ∷ []) (expression.Doc name) ts us r whole f (grammar.IsPrimary.doc is.1)
      named _ whole f = cc
  primary_sound (Operand.a_function w us) ts r is e =
      under (Name w ∷ Mark OpenRound ∷ []) ts us r is.1
      (last_sound (λ es. expression.Fun (plain w) es) (arguments inner) us r arguments_takes e
      (λ es vs d. subst (λ l. IsPrimary (Name w ∷ Mark OpenRound ∷ l) (expression.Fun (plain w) es)) (sym d.2) (grammar.IsPrimary.function is.0 d.1)))
  primary_sound (Operand.an_element name us) ts r is e =
      in_brackets (Mark CloseCurly) close_curly close_curly_takes (Name (codes "element") ∷ Name name ∷ Mark OpenCurly ∷ []) (λ o. expression.Element name o) ts us r is e
      (λ vs o d. grammar.IsPrimary.element d)
  primary_sound (Operand.an_attribute name us) ts r is e =
      in_brackets (Mark CloseCurly) close_curly close_curly_takes (Name (codes "attribute") ∷ Name name ∷ Mark OpenCurly ∷ []) (λ o. expression.Attribute name o) ts us r is e
      (λ vs o d. grammar.IsPrimary.attribute d)
  primary_sound (Operand.a_text_node us) ts r is e =
      in_brackets (Mark CloseCurly) close_curly close_curly_takes (Name (codes "text") ∷ Mark OpenCurly ∷ []) (λ o. expression.TextNode o) ts us r is e (λ vs o d. grammar.IsPrimary.text d)
  primary_sound Operand.a_step ts r is e = cc

  filtered_sound : (o : Operand) (ts : List Token) (r : Expr × List Token) → IsOperand o ts → filtered inner o ts ≡ Some r → Front IsFilter ts r
  unfolding filtered
  filtered_sound o ts r is e =
      front_sound (primary inner o) (λ f. preds inner f.1 >>= (λ r. let x : Option (Expr × List Token) = Some (filter_of f.0 r.0, r.1) in x)) ts r (λ x f. primary_sound o ts x is f) e
      (λ x us left p f. last_sound (λ y. filter_of x y) (preds inner) left r preds_takes f (λ y vs q. grammar.IsFilter.filter p q))

  path_by_filter : (o : Operand) (ts : List Token) (r : Expr × List Token) → IsOperand o ts → followed path_of (filtered inner o) (steps inner) ts ≡ Some r → Front IsPath ts r
  path_by_filter o ts r is e =
      front_sound (filtered inner o ts) (λ f. steps inner f.1 >>= (λ r. let x : Option (Expr × List Token) = Some (path_of f.0 r.0, r.1) in x)) ts r (λ x f. filtered_sound o ts x is f) e
      (λ x us left p f. last_sound (λ y. path_of x y) (steps inner) left r steps_takes f (λ y vs q. grammar.IsPath.path_filter p q))

  path_sound : (o : Operand) (ts : List Token) (r : Expr × List Token) → IsOperand o ts → path_at inner ts o ≡ Some r → Front IsPath ts r
  path_sound Operand.a_step ts r is e = (followed_sound steps_of (step inner) (steps inner) step_takes steps_takes (λ x y us vs p q. grammar.IsPath.path_step p q)).takes ts r e
  path_sound o ts r is e = path_by_filter o ts r is e

  path_takes : Takes IsPath (path inner)
  unfolding path
  path_takes = record { takes = λ ts r e. path_sound (operand ts) ts r (operand_is ts) e }

  -- what is read as a Signed is one
  pub signed_takes : Takes IsSigned (signed inner)
  unfolding signed
  signed_takes = record {
    takes = λ ts r e.
        under (map (λ s. Mark (sign_symbol s)) (signs ts).0) ts (signs ts).1 r (signs_take ts)
        (last_sound (λ x. signed_of (signs ts).0 x) (path inner) (signs ts).1 r path_takes e (λ x us d. grammar.IsSigned.signed (signs ts).0 d));
  }

  unions_takes : Takes IsUnions (unions inner)
  unfolding unions
  unions_takes =
      items_sound (there union_op) (λ s. signed inner) put [] (λ s. IsSigned) IsUnions (λ us s. (us ≡ Mark Bar ∷ []) ⊎ (us ≡ Name (codes "union") ∷ [])) union_op_takes (λ s. signed_takes)
      grammar.IsUnions.no_union (λ s us vs ws x xs e p q. go us vs ws x xs e p q)
    where
      go : (us vs ws : List Token) (x : Expr) (xs : List Expr) → (us ≡ Mark Bar ∷ []) ⊎ (us ≡ Name (codes "union") ∷ []) → IsSigned vs x → IsUnions ws xs → IsUnions (us ++ (vs ++ ws)) (x ∷ xs)
      go us vs ws x xs (inl e) p q = subst (λ l. IsUnions (l ++ (vs ++ ws)) (x ∷ xs)) (sym e) (grammar.IsUnions.bar p q)
      go us vs ws x xs (inr e) p q = subst (λ l. IsUnions (l ++ (vs ++ ws)) (x ∷ xs)) (sym e) (grammar.IsUnions.union_word p q)

  -- what is read as a Union is one
  pub union_takes : Takes IsUnion (union inner)
  unfolding union
  union_takes = followed_sound union_of (signed inner) (unions inner) signed_takes unions_takes (λ x y us vs p q. grammar.IsUnion.union p q)

  product_parts_take : Takes IsProductParts (product_parts inner)
  unfolding product_parts
  product_parts_take =
      items_sound product_op (λ op. union inner) (λ op e ps. product_part op e ∷ ps) [] (λ s. IsUnion) IsProductParts (λ us op. us ≡ product_token op ∷ []) product_op_takes (λ s. union_takes)
      grammar.IsProductParts.no_product (λ op us vs ws x xs e p q. subst (λ l. IsProductParts (l ++ (vs ++ ws)) (product_part op x ∷ xs)) (sym e) (go op vs ws x xs p q))
    where
      go : (op : ProductOp) (vs ws : List Token) (x : Expr) (xs : List ProductPart) → IsUnion vs x → IsProductParts ws xs → IsProductParts (product_token op ∷ (vs ++ ws)) (product_part op x ∷ xs)
      go Times vs ws x xs p q = grammar.IsProductParts.times p q
      go Idiv vs ws x xs p q = grammar.IsProductParts.idiv p q
      go Mod vs ws x xs p q = grammar.IsProductParts.mod_ p q

  -- what is read as a Product is one
  pub product_takes : Takes IsProduct (product inner)
  unfolding product
  product_takes = followed_sound product_of (union inner) (product_parts inner) union_takes product_parts_take (λ x y us vs p q. grammar.IsProduct.product p q)

  sum_parts_take : Takes IsSumParts (sum_parts inner)
  unfolding sum_parts
  sum_parts_take =
      items_sound sum_op (λ minus. product inner) (λ minus e ps. sum_part minus e ∷ ps) [] (λ s. IsProduct) IsSumParts (λ us minus. us ≡ sum_token minus ∷ []) sum_op_takes (λ s. product_takes)
      grammar.IsSumParts.no_sum (λ minus us vs ws x xs e p q. subst (λ l. IsSumParts (l ++ (vs ++ ws)) (sum_part minus x ∷ xs)) (sym e) (go minus vs ws x xs p q))
    where
      go : (minus : Bool) (vs ws : List Token) (x : Expr) (xs : List SumPart) → IsProduct vs x → IsSumParts ws xs → IsSumParts (sum_token minus ∷ (vs ++ ws)) (sum_part minus x ∷ xs)
      go true vs ws x xs p q = grammar.IsSumParts.minus p q
      go false vs ws x xs p q = grammar.IsSumParts.plus p q

  -- what is read as a Sum is one
  pub sum_takes : Takes IsSum (sum inner)
  unfolding sum
  sum_takes = followed_sound sum_of (product inner) (sum_parts inner) product_takes sum_parts_take (λ x y us vs p q. grammar.IsSum.sum p q)

  -- what is read as a Range is one
  pub range_takes : Takes IsRange (range inner)
  unfolding range
  range_takes =
      paired_sound (there (word (codes "to"))) (λ l s h. expression.Range l h) (sum inner) (there_takes (Name (codes "to")) (word (codes "to")) (word_takes (codes "to"))) sum_takes
      (λ x us d. grammar.IsRange.no_range d) (λ x y s us vs ws p e q. subst (λ l. IsRange (us ++ (l ++ ws)) (expression.Range x y)) (sym e) (grammar.IsRange.range p q))

  -- what is read as a Comp is one
  pub comp_takes : Takes IsComp (comp inner)
  unfolding comp
  comp_takes =
      paired_sound compare_op expression.Compare (range inner) compare_op_takes range_takes (λ x us d. grammar.IsComp.no_comp d)
      (λ x y s us vs ws p e q. subst (λ l. IsComp (us ++ (l ++ ws)) (expression.Compare x s y)) (sym e) (grammar.IsComp.comp s p q))

  ands_takes : Takes IsAnds (ands inner)
  unfolding ands
  ands_takes =
      items_sound (there (word (codes "and"))) (λ s. comp inner) put [] (λ s. IsComp) IsAnds (λ us s. us ≡ Name (codes "and") ∷ [])
      (there_takes (Name (codes "and")) (word (codes "and")) (word_takes (codes "and"))) (λ s. comp_takes) grammar.IsAnds.no_and
      (λ s us vs ws x xs e p q. subst (λ l. IsAnds (l ++ (vs ++ ws)) (x ∷ xs)) (sym e) (grammar.IsAnds.next_and p q))

  -- what is read as an And is one
  pub and_takes : Takes IsAnd (and inner)
  unfolding and
  and_takes = followed_sound and_of (comp inner) (ands inner) comp_takes ands_takes (λ x y us vs p q. grammar.IsAnd.and p q)

  ors_takes : Takes IsOrs (ors inner)
  unfolding ors
  ors_takes =
      items_sound (there (word (codes "or"))) (λ s. and inner) put [] (λ s. IsAnd) IsOrs (λ us s. us ≡ Name (codes "or") ∷ [])
      (there_takes (Name (codes "or")) (word (codes "or")) (word_takes (codes "or"))) (λ s. and_takes) grammar.IsOrs.no_or
      (λ s us vs ws x xs e p q. subst (λ l. IsOrs (l ++ (vs ++ ws)) (x ∷ xs)) (sym e) (grammar.IsOrs.next_or p q))

  -- what is read as an Or is one
  pub or_takes : Takes IsOr (or inner)
  unfolding or
  or_takes = followed_sound or_of (and inner) (ors inner) and_takes ors_takes (λ x y us vs p q. grammar.IsOr.or p q)

  -- what is read as a Bind is one
  pub bind_takes : Takes IsBind (bind inner)
  unfolding bind
  bind_takes = record {
    takes = λ ts r e.
        step_sound variable (λ v. bind_in inner v.0 (place v.1)) ts r variable_takes e
        (λ name us left h f. under (place_tokens (place left).0) left (place left).1 r (place_take left)
        (token_sound (Name (codes "in")) (word (codes "in")) (λ us. inner us >>= (λ e. let x : Option (Bind × List Token) = Some (binding.For name (place left).0 e.0, e.1) in x)) (place left).1 r (word_takes (codes "in")) f
        (λ vs g. last_sound (λ e. binding.For name (place left).0 e) inner vs r inner_takes g (λ e ws d. bind_joins name (place left).0 us ws e h d))));
  }

  more_binds_take : Takes IsBinds (more_binds inner)
  unfolding more_binds
  more_binds_take =
      items_sound (there comma) (λ s. bind inner) put [] (λ s. IsBind) IsBinds (λ us s. us ≡ Mark Comma ∷ []) (there_takes (Mark Comma) comma comma_takes) (λ s. bind_takes)
      grammar.IsBinds.no_bind (λ s us vs ws x xs e p q. subst (λ l. IsBinds (l ++ (vs ++ ws)) (x ∷ xs)) (sym e) (grammar.IsBinds.next_bind p q))

  -- what is read as $Name := Single is that
  pub let_takes : Takes IsLet (let_bind inner)
  unfolding let_bind
  let_takes = record {
    takes = λ ts r e.
        step_sound variable (λ v. assign v.1 >>= (λ us. inner us >>= (λ e. let x : Option (Bind × List Token) = Some (binding.Let v.0 e.0, e.1) in x))) ts r variable_takes e
        (λ name us left h f. token_sound (Mark Assign) assign (λ us. inner us >>= (λ e. let x : Option (Bind × List Token) = Some (binding.Let name e.0, e.1) in x)) left r assign_takes f
        (λ vs g. last_sound (λ e. binding.Let name e) inner vs r inner_takes g
        (λ e ws d. subst (λ l. IsLet (l ++ Mark Assign ∷ ws) (binding.Let name e)) (sym h) (grammar.IsLet.let_bind d))));
  }

  more_lets_take : Takes IsLets (more_lets inner)
  unfolding more_lets
  more_lets_take =
      items_sound (there comma) (λ s. let_bind inner) put [] (λ s. IsLet) IsLets (λ us s. us ≡ Mark Comma ∷ []) (there_takes (Mark Comma) comma comma_takes) (λ s. let_takes)
      grammar.IsLets.no_let (λ s us vs ws x xs e p q. subst (λ l. IsLets (l ++ (vs ++ ws)) (x ∷ xs)) (sym e) (grammar.IsLets.next_let p q))

  -- what is read after the word of a clause is, with this word, a For or a Let
  pub clause_takes : (w : ClauseWord) → Takes (λ us bs. IsClause (clause_token w ∷ us) bs) (clause inner w)
  unfolding clause binds lets
  clause_takes ClauseWord.for_word = followed_sound (λ b bs. b ∷ bs) (bind inner) (more_binds inner) bind_takes more_binds_take (λ x y us vs p q. grammar.IsClause.for_clause p q)
  clause_takes ClauseWord.let_word = followed_sound (λ b bs. b ∷ bs) (let_bind inner) (more_lets inner) let_takes more_lets_take (λ x y us vs p q. grammar.IsClause.let_clause p q)

  first_clause_takes : Takes IsClause (first_clause inner)
  unfolding first_clause
  first_clause_takes = record {
    takes = λ ts r e.
        step_sound clause_word (λ w. clause inner w.0 w.1) ts r clause_word_takes e
        (λ w us left h f. subst (λ l. Front (λ vs c. IsClause (l ++ vs) c) left r) (sym h) ((clause_takes w).takes left r f));
  }

  more_clauses_take : Takes IsClauses (more_clauses inner)
  unfolding more_clauses
  more_clauses_take =
      items_sound clause_word (clause inner) (λ w bs more. bs ++ more) [] (λ w us bs. IsClause (clause_token w ∷ us) bs) IsClauses (λ us w. us ≡ clause_token w ∷ []) clause_word_takes clause_takes
      grammar.IsClauses.no_clause (λ w us vs ws x xs e p q. subst (λ l. IsClauses (l ++ (vs ++ ws)) (x ++ xs)) (sym e) (grammar.IsClauses.clause p q))

  clauses_take : Takes AreClauses (clauses inner)
  unfolding clauses
  clauses_take =
      followed_sound (λ bs more. bs ++ more) (first_clause inner) (more_clauses inner) first_clause_takes more_clauses_take
      (λ x y us vs p q. record { first_tokens = us; more_tokens = vs; first = x; more = y; first_is = p; more_are = q; tokens_are = refl; binds_are = refl })

  -- what is read as [where Single] is that
  pub where_takes : Takes IsWhere (filter inner)
  unfolding filter
  where_takes = record { takes = λ ts r e. go ts r (word (codes "where") ts) refl e }
    where
      go : (ts : List Token) (r : Option Expr × List Token) (o : Option (List Token)) → word (codes "where") ts ≡ o → filter_at inner ts o ≡ Some r → Front IsWhere ts r
      go ts r None none e = nothing_sound None ts r e grammar.IsWhere.no_where
      go ts r (Some us) some e =
          under (Name (codes "where") ∷ []) ts us r ((word_takes (codes "where")).takes ts us some)
          (last_sound (λ x. let y : Option Expr = Some x in y) inner us r inner_takes e (λ x vs d. grammar.IsWhere.a_where d))

  -- what is read as a Key is one
  pub key_takes : Takes IsKey (sort_key inner)
  unfolding sort_key
  key_takes = record { takes = λ ts r e. step_sound inner (λ e. key_at e.0 (direction e.1)) ts r inner_takes e (λ x us left d f. key_joins us x left r d f) }

  more_keys_take : Takes IsKeys (more_keys inner)
  unfolding more_keys
  more_keys_take =
      items_sound (there comma) (λ s. sort_key inner) put [] (λ s. IsKey) IsKeys (λ us s. us ≡ Mark Comma ∷ []) (there_takes (Mark Comma) comma comma_takes) (λ s. key_takes)
      grammar.IsKeys.no_key (λ s us vs ws x xs e p q. subst (λ l. IsKeys (l ++ (vs ++ ws)) (x ∷ xs)) (sym e) (grammar.IsKeys.next_key p q))

  keys_take : Takes (λ us ks. IsOrder (Name (codes "order") ∷ Name (codes "by") ∷ us) ks) (sort_keys inner)
  unfolding sort_keys
  keys_take = followed_sound (λ k ks. k ∷ ks) (sort_key inner) (more_keys inner) key_takes more_keys_take (λ x y us vs p q. grammar.IsOrder.order p q)

  -- what is read as [order by Key (, Key)*] is that
  pub order_takes : Takes IsOrder (order inner)
  unfolding order
  order_takes = record { takes = λ ts r e. go ts r (two_words (codes "order") (codes "by") ts) refl e }
    where
      go : (ts : List Token) (r : List SortKey × List Token) (o : Option (List Token)) → two_words (codes "order") (codes "by") ts ≡ o → order_at inner ts o ≡ Some r → Front IsOrder ts r
      go ts r None none e = nothing_sound [] ts r e grammar.IsOrder.no_order
      go ts r (Some us) some e =
          under (Name (codes "order") ∷ Name (codes "by") ∷ []) ts us r (two_words_take (codes "order") (codes "by") ts us some) (keys_take.takes us r e)

  -- what is read as a Flwor is one
  pub flwor_takes : Takes IsFlwor (flwor inner)
  unfolding flwor
  flwor_takes = record {
    takes = λ ts r e.
        step_sound (clauses inner) _ ts r clauses_take e (λ bs us left c f.
        step_sound (filter inner) _ left r where_takes f (λ o vs left p f.
        step_sound (order inner) _ left r order_takes f (λ ks ws left q f.
        token_sound (Name (codes "return")) (word (codes "return")) _ left r (word_takes (codes "return")) f (λ left f.
        last_sound (λ x. expression.Flwor bs o ks x) inner left r inner_takes f (λ x xs d. flwor_joins us vs ws xs bs o ks x c p q d)))));
  }

  -- what is read after `if (` is, with these two tokens, an If
  pub if_takes : Takes (λ us e. IsIf (Name (codes "if") ∷ Mark OpenRound ∷ us) e) (an_if inner)
  unfolding an_if
  if_takes = record {
    takes = λ ts r e.
        step_sound (expr inner) _ ts r expr_takes e (λ c us left d f.
        token_sound (Mark CloseRound) close_round _ left r close_round_takes f (λ left f.
        token_sound (Name (codes "then")) (word (codes "then")) _ left r (word_takes (codes "then")) f (λ left f.
        step_sound inner _ left r inner_takes f (λ y vs left i f.
        token_sound (Name (codes "else")) (word (codes "else")) _ left r (word_takes (codes "else")) f (λ left f.
        last_sound (λ n. expression.If c y n) inner left r inner_takes f (λ n ws j. grammar.IsIf.an_if d i j))))));
  }

  single_sound : (ts : List Token) (r : Expr × List Token) (b : Begins) → IsBegun b ts → single_at inner ts b ≡ Some r → Front IsSingle ts r
  unfolding IsBegun
  single_sound ts r Begins.a_flwor is e =
      let front = flwor_takes.takes ts r e in record { used = front.used; holds = grammar.IsSingle.single_flwor front.holds; whole = front.whole }
  single_sound ts r (Begins.an_if_behind us) is e =
      let front = if_takes.takes us r e in
      record { used = Name (codes "if") ∷ Mark OpenRound ∷ front.used; holds = grammar.IsSingle.single_if front.holds; whole = is ∙ ap (λ x. Name (codes "if") ∷ Mark OpenRound ∷ x) front.whole }
  single_sound ts r Begins.an_or is e =
      let front = or_takes.takes ts r e in
      record { used = front.used; holds = grammar.IsSingle.single_or (keyword_front front.used r.1 (ap is_keyword (sym front.whole) ∙ is)) front.holds; whole = front.whole }

  single_over_takes : Takes IsSingle (single_over inner)
  unfolding single_over
  single_over_takes = record { takes = λ ts r e. single_sound ts r (begins ts) (begins_is ts) e }

-- what is read as a Single, with so many one in another at most, is one
pub single_takes : (n : ℕ) → Takes IsSingle (single n)
single_takes zero = record { takes = λ ts r e. cc }
single_takes (suc n) = record { takes = λ ts r e. (single_over_takes (single n) (single_takes n)).takes ts r e }
