-- What the methods of rows answer, from what their parts answer: over plain variables.
use Rattle.std.proofs.Common.{◌≡◌, ◌<◌, ℕ, Bool, true, false, List, [], ◌∷◌, ◌++◌, length, Option, Some, None, Result, Ok, Err, refl, ap, sym, ◌∙◌, subst, arith}
use Rattle.std.specs.Result.{IsErrAnd}
use Rattle.xq_ast.specs.declared.token.Token.{Token}
use Rattle.xq_ast.specs.declared.tree.Expr.{Expr}
use Rattle.xq_ast.specs.declared.tree.Expr.TheVariants as expression
use Rattle.xq_ast.specs.declared.call.Call.TheVariants as call
use Rattle.xq_ast.specs.Tokens.{◌>>=◌}
use Rattle.xq_ast.specs.Grammar.{group_of, plain, path_of}
use Rattle.xq_ast.specs.Readings as spec
use Rattle.xq_ast.specs.Readings.{Reader, there, followed, content, content_at, arguments, arguments_at, list, expr, close_round, close_curly, clause, binds, lets, path, path_at, operand, filtered, step, steps, primary}
use Rattle.xq_parse.specs.declared.answer.ParseEnd.{ParseEnd}
use Rattle.xq_parse.specs.declared.answer.ParseEnd.TheVariants.{TooLong, XPST0003, NestedTooDeep, BadName, XPST0017, XPST0008, NoMemory}
use Rattle.xq_parse.specs.declared.operand.Operand.{Operand}
use Rattle.xq_parse.specs.declared.operand.Operand.TheVariants.{Text, Int, Variable, Group, Context, Doc, Function, Element, Attribute, TextNode, Step}
use Rattle.xq_parse.specs.Operands.{group, operand_of}
use Rattle.xq_parse.specs.Reads.{Reads, Takes}
use Rattle.xq_parse.proofs.Loops.{Loop, behind, taken, not_taken}

-- where a part fails, so does the row
pub fails : {A B D : Type 0} (view : A → B) (result : Result A ParseEnd) (fault : ParseEnd) (part : Option D) (row : Option B)
    → IsErrAnd result (λ e. e ≡ fault) → Reads {A = D} {B = D} (λ x. x) (Err fault) part → (part ≡ None → row ≡ None) → Reads view result row
fails view (Ok x) fault part row failed is so = absurd failed
fails {D} view (Err e) fault part row failed is so = subst (λ x. Reads view (Err x) row) (sym failed) (by_fault fault is)
  where
    by_fault : (f : ParseEnd) → Reads {A = D} {B = D} (λ x. x) (Err f) part → Reads view (Err f) row
    by_fault XPST0003 h = so h
    by_fault NoMemory h = tt
    by_fault TooLong h = h
    by_fault NestedTooDeep h = h
    by_fault BadName h = h
    by_fault XPST0017 h = h
    by_fault XPST0008 h = h

-- what was read is also read by a row that is the same
pub reads_by : {A B : Type 0} (view : A → B) (result : Result A ParseEnd) (o p : Option B) → o ≡ p → Reads view result o → Reads view result p
reads_by view result o p e is = subst (Reads view result) e is

-- where what follows a first part fails, so does the row
pub followed_none : {A B C : Type 0} (make : A → B → C) (first : Reader A) (rest : Reader B) (ts us : List Token) (x : A)
    → first ts ≡ Some (x, us) → rest us ≡ None → followed make first rest ts ≡ None
followed_none {C} make first rest ts us x p q =
    ap (λ o. o >>= (λ f. rest f.1 >>= (λ r. let z : Option (C × List Token) = Some (make f.0 r.0, r.1) in z))) p
    ∙ ap (λ o. o >>= (λ r. let z : Option (C × List Token) = Some (make x r.0, r.1) in z)) q

-- a list that was begun with its first part is what stands before what follows
pub started : {A X : Type 0} (start : A → List X) (first : Reader A) (rest : Reader (List X)) (ts us : List Token) (x : A) (front : List X)
    → first ts ≡ Some (x, us) → front ≡ start x → followed (λ x more. start x ++ more) first rest ts ≡ behind front (rest us)
started {X} start first rest ts us x front p grown =
    ap (λ o. o >>= (λ f. rest f.1 >>= (λ r. let z : Option (List X × List Token) = Some (start f.0 ++ r.0, r.1) in z))) p
    ∙ ap (λ l. behind l (rest us)) (sym grown)

-- a turn of a loop that looks for a token, of which `seen` are the tokens that it looked at
module _ {A X : Type 0} (look : List Token → Option (List Token)) (item : Reader A) (part : A → List X) (row : Reader (List X)) (loop : Loop (there look) (λ s. item) (λ s. part) row)
    (b : Bool) (ts seen us : List Token) (o : Option (List Token)) (takes : Takes b ts us o) (same : seen ≡ ts) (looked : look seen ≡ o) where
  is_there : b ≡ true → there look ts ≡ Some (tt, us)
  is_there found = taken b ts us o (look ts) takes found (ap look (sym same) ∙ looked)

  -- it leaves fewer tokens
  pub turn_less : b ≡ true → (x : A) (vs : List Token) → item us ≡ Some (x, vs) → length vs < length ts
  turn_less found x vs it = loop.less ts us vs tt x (is_there found) it

  -- what was read, before what the rest reads, stays the same
  pub turn_kept : b ≡ true → (x : A) (vs : List Token) (front new : List X) (whole : Option (List X × List Token))
      → item us ≡ Some (x, vs) → new ≡ front ++ part x → behind front (row ts) ≡ whole → behind new (row vs) ≡ whole
  turn_kept found x vs front new whole it grown so_far = loop.kept ts us vs tt x front new whole (is_there found) it grown so_far

  -- where its item is not there nothing is read
  pub turn_failed : b ≡ true → (front : List X) (whole : Option (List X × List Token)) → item us ≡ None → behind front (row ts) ≡ whole → whole ≡ None
  turn_failed found front whole it so_far = loop.failed ts us tt front whole (is_there found) it so_far

  -- where the token is not there all was read
  pub turns_done : b ≡ false → (front : List X) (whole : Option (List X × List Token)) → behind front (row ts) ≡ whole → whole ≡ Some (front, us)
  turns_done found front whole so_far =
      let none = not_taken b ts us o (look ts) takes found (ap look (sym same) ∙ looked) in
      loop.done ts front whole none.0 so_far ∙ ap (λ l. let z : Option (List X × List Token) = Some (front, l) in z) (sym none.1)

-- ---- brackets

-- what was looked for and is not there
pub untaken : (b : Bool) (ts left : List Token) (o : Option (List Token)) → Takes b ts left o → b ≡ false → (o ≡ None) × (left ≡ ts)
untaken false ts left o takes found = takes
untaken true ts left o takes found = cc

-- a row in brackets that are not empty: `seen` are the tokens in which the closing one was first looked for
module _ (close : List Token → Option (List Token)) (inner : Reader Expr) (b : Bool) (ts seen left : List Token) (o : Option (List Token))
    (takes : Takes b ts left o) (same : seen ≡ ts) (looked : close seen ≡ o) (found : b ≡ false) where
  not_closed : close ts ≡ None
  not_closed = ap close (sym same) ∙ (looked ∙ (untaken b ts left o takes found).0)

  -- it is read just where its closing bracket is
  content_is : (e : Expr) (us : List Token) (end : Option (List Token)) → expr inner left ≡ Some (e, us) → close us ≡ end
      → content close inner ts ≡ (end >>= (λ more. let x : Option (Option Expr × List Token) = Some (Some e, more) in x))
  unfolding content
  content_is e us end reads closed =
      ap (content_at close inner ts) not_closed
      ∙ (ap (λ o. o >>= (λ e. close e.1 >>= (λ us. let x : Option (Option Expr × List Token) = Some (Some e.0, us) in x))) (ap (expr inner) (sym (untaken b ts left o takes found).1) ∙ reads)
      ∙ ap (λ o. o >>= (λ us. let x : Option (Option Expr × List Token) = Some (Some e, us) in x)) closed)

  -- with its closing bracket it is read
  pub content_some : (e : Expr) (us more : List Token) → expr inner left ≡ Some (e, us) → close us ≡ Some more → content close inner ts ≡ Some (Some e, more)
  content_some e us more reads closed = content_is e us (Some more) reads closed

  -- without its closing bracket it is not
  pub content_none : (e : Expr) (us : List Token) → expr inner left ≡ Some (e, us) → close us ≡ None → content close inner ts ≡ None
  content_none e us reads closed = content_is e us None reads closed

-- what stands in round brackets, of which the closing one was not found at once
module _ (inner : Reader Expr) (b : Bool) (ts seen left : List Token) (o : Option (List Token))
    (takes : Takes b ts left o) (same : seen ≡ ts) (looked : close_round seen ≡ o) (found : b ≡ false) where
  -- an expression in brackets is read with its closing one
  pub group_some : (e : Expr) (us more : List Token) → expr inner left ≡ Some (e, us) → close_round us ≡ Some more → group inner ts ≡ Some (e, more)
  unfolding group
  group_some e us more reads closed =
      ap (λ o. o >>= (λ o. let x : Option (Expr × List Token) = Some (group_of o.0, o.1) in x)) (content_some close_round inner b ts seen left o takes same looked found e us more reads closed)

  -- and is not without it
  pub group_none : (e : Expr) (us : List Token) → expr inner left ≡ Some (e, us) → close_round us ≡ None → group inner ts ≡ None
  unfolding group
  group_none e us reads closed =
      ap (λ o. o >>= (λ o. let x : Option (Expr × List Token) = Some (group_of o.0, o.1) in x)) (content_none close_round inner b ts seen left o takes same looked found e us reads closed)

  -- arguments in brackets are read with the closing one
  pub arguments_some : (es : List Expr) (us more : List Token) → list inner left ≡ Some (es, us) → close_round us ≡ Some more → arguments inner ts ≡ Some (es, more)
  unfolding arguments
  arguments_some es us more reads closed =
      ap (arguments_at inner ts) (not_closed close_round inner b ts seen left o takes same looked found)
      ∙ (ap (λ o. o >>= (λ es. close_round es.1 >>= (λ us. let x : Option (List Expr × List Token) = Some (es.0, us) in x))) (ap (list inner) (sym (untaken b ts left o takes found).1) ∙ reads)
      ∙ ap (λ o. o >>= (λ us. let x : Option (List Expr × List Token) = Some (es, us) in x)) closed)

  -- and are not without it
  pub arguments_none : (es : List Expr) (us : List Token) → list inner left ≡ Some (es, us) → close_round us ≡ None → arguments inner ts ≡ None
  unfolding arguments
  arguments_none es us reads closed =
      ap (arguments_at inner ts) (not_closed close_round inner b ts seen left o takes same looked found)
      ∙ (ap (λ o. o >>= (λ es. close_round es.1 >>= (λ us. let x : Option (List Expr × List Token) = Some (es.0, us) in x))) (ap (list inner) (sym (untaken b ts left o takes found).1) ∙ reads)
      ∙ ap (λ o. o >>= (λ us. let x : Option (List Expr × List Token) = Some (es, us) in x)) closed)

-- ---- rows that their first tokens tell

-- a clause behind `for` is bindings of items
pub clause_for : (inner : Reader Expr) (ts : List Token) → clause inner spec.ClauseWord.for_word ts ≡ binds inner ts
unfolding clause
clause_for inner ts = refl

-- a clause behind `let` is bindings of values
pub clause_let : (inner : Reader Expr) (ts : List Token) → clause inner spec.ClauseWord.let_word ts ≡ lets inner ts
unfolding clause
clause_let inner ts = refl

-- a path is read by its operand
pub path_by : (inner : Reader Expr) (ts seen : List Token) (o : Operand) → seen ≡ ts → operand_of o ≡ operand seen → path inner ts ≡ path_at inner ts (operand_of o)
unfolding path
path_by inner ts seen o same is = ap (path_at inner ts) (ap operand (sym same) ∙ sym is)

-- and that is by a filter, where the operand is no step
pub by_filter : (inner : Reader Expr) (ts : List Token) (o : Operand) → (o ≡ Step → ⊥) → path_at inner ts (operand_of o) ≡ followed path_of (filtered inner (operand_of o)) (steps inner) ts
by_filter inner ts Step other = absurd (other refl)
by_filter inner ts (Text value rest) other = refl
by_filter inner ts (Int value rest) other = refl
by_filter inner ts (Variable rest) other = refl
by_filter inner ts (Group rest) other = refl
by_filter inner ts (Context rest) other = refl
by_filter inner ts (Doc rest) other = refl
by_filter inner ts (Function word rest) other = refl
by_filter inner ts (Element name rest) other = refl
by_filter inner ts (Attribute name rest) other = refl
by_filter inner ts (TextNode rest) other = refl

-- a primary behind `(` is what stands in brackets
pub group_primary : (inner : Reader Expr) (ts : List Token) → primary inner (spec.Operand.a_group ts) ≡ group inner ts
unfolding primary group
group_primary inner ts = refl

-- a primary behind a name and `(` is the function of that name over its arguments
pub function_primary : (inner : Reader Expr) (word : List ℕ) (ts left : List Token) (args : List Expr) → arguments inner ts ≡ Some (args, left)
    → primary inner (spec.Operand.a_function word ts) ≡ Some (expression.Fun (plain word) args, left)
unfolding primary
function_primary inner word ts left args e = ap (λ o. o >>= (λ es. let x : Option (Expr × List Token) = Some (expression.Fun (plain word) es.0, es.1) in x)) e

-- a primary behind `element`, a name and `{` is an element with its content
pub element_primary : (inner : Reader Expr) (name : List ℕ) (ts left : List Token) (o : Option Expr) → content close_curly inner ts ≡ Some (o, left)
    → primary inner (spec.Operand.an_element name ts) ≡ Some (expression.Element name o, left)
unfolding primary
element_primary inner name ts left o e = ap (λ o. o >>= (λ o. let x : Option (Expr × List Token) = Some (expression.Element name o.0, o.1) in x)) e

-- a primary behind `attribute`, a name and `{` is an attribute with its content
pub attribute_primary : (inner : Reader Expr) (name : List ℕ) (ts left : List Token) (o : Option Expr) → content close_curly inner ts ≡ Some (o, left)
    → primary inner (spec.Operand.an_attribute name ts) ≡ Some (expression.Attribute name o, left)
unfolding primary
attribute_primary inner name ts left o e = ap (λ o. o >>= (λ o. let x : Option (Expr × List Token) = Some (expression.Attribute name o.0, o.1) in x)) e

-- a primary behind `text {` is a text node with its content
pub text_primary : (inner : Reader Expr) (ts left : List Token) (o : Option Expr) → content close_curly inner ts ≡ Some (o, left)
    → primary inner (spec.Operand.a_text_node ts) ≡ Some (expression.TextNode o, left)
unfolding primary
text_primary inner ts left o e = ap (λ o. o >>= (λ o. let x : Option (Expr × List Token) = Some (expression.TextNode o.0, o.1) in x)) e

-- a query is an expression with nothing behind it
pub query_alone : (inner : Reader Expr) (ts us seen left : List Token) (e : Expr) → us ≡ ts → expr inner us ≡ Some (e, left) → seen ≡ left → length seen < 1 → spec.query inner ts ≡ Some (call.Query e)
query_alone inner ts us seen left e same reads looked short =
    ap (λ o. o >>= spec.alone_at >>= (λ x. Some (call.Query x))) (ap (expr inner) (sym same) ∙ reads)
    ∙ (ap (λ l. spec.alone_at (e, l) >>= (λ x. Some (call.Query x))) (sym looked) ∙ by_rest seen short)
  where
    by_rest : (l : List Token) → length l < 1 → (spec.alone_at (e, l) >>= (λ x. Some (call.Query x))) ≡ Some (call.Query e)
    by_rest [] h = refl
    by_rest (t ∷ l) h = absurd (omega arith)
