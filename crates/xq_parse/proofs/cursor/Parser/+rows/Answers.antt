use Rattle.std.proofs.Common.{◌≡◌, List, [], ◌∷◌, ◌++◌, Option, Some, refl, ap, sym, ◌∙◌}
use Rattle.std.specs.Prelude.{codes}
use Rattle.xq_ast.specs.declared.token.Token.{Token}
use Rattle.xq_ast.specs.declared.tree.Bind.{Bind}
use Rattle.xq_ast.specs.declared.tree.Expr.{Expr}
use Rattle.xq_ast.specs.declared.tree.Expr.TheVariants as expression
use Rattle.xq_ast.specs.declared.tree.SumPart.{SumPart}
use Rattle.xq_ast.specs.declared.tree.ProductPart.{ProductPart}
use Rattle.xq_ast.specs.declared.tree.Step.{Step as StepTree}
use Rattle.xq_ast.specs.Tokens.{◌>>=◌}
use Rattle.xq_ast.specs.Grammar as grammar
use Rattle.xq_ast.specs.Grammar.{path_of, steps_of}
use Rattle.xq_ast.specs.Readings as spec
use Rattle.xq_ast.specs.Readings.{comma, open_square, union_op, word}
use Rattle.xq_parse.specs.declared.operand.Operand.TheVariants.{Step}
use Rattle.xq_parse.specs.Operands.{group, operand_of, clause_word_of}
use Rattle.xq_parse.proofs.Loops.{commas_loop, preds_loop, steps_loop, unions_loop, product_parts_loop, sum_parts_loop, ands_loop, ors_loop, more_binds_loop, more_lets_loop, more_keys_loop, more_clauses_loop}
use Rattle.xq_parse.proofs.Parts.{fails, reads_by, followed_none, started, turn_less, turn_kept, turn_failed, turns_done, content_some, content_none, group_some, group_none, arguments_some, arguments_none, clause_for, clause_let, path_by, by_filter, group_primary, function_primary, element_primary, attribute_primary, text_primary}
use Rattle.xq_parse.proofs.Turns.{followed_at, then_is}
use Rattle.xq_parse.proofs.cursor.Parser.+rows.Goals as goal

pub and-returns-in_err-comparison : goal.and-returns-in_err-comparison
unfolding spec.and
and-returns-in_err-comparison t c =
    fails _ c.from_residual-in_err-comparison.result c.in_err-comparison.field-0.0 _ _ c.from_residual-in_err-comparison.ensures.1 c.in_err-comparison.ensures (λ none. followed_none grammar.and_of (spec.comp (spec.single c.args.depth)) (spec.ands (spec.single c.args.depth)) c.args.self.now c.comparison.new.self c.in_ok-first.first c.in_ok-first.ensures (turn_failed (word (codes "and")) (spec.comp (spec.single c.args.depth)) (λ x. x ∷ []) (spec.ands (spec.single c.args.depth)) (ands_loop c.args.depth) c.takes.result c.parts.self c.left.result.now c.takes.new.self _ c.takes.ensures c.left.ensures c.word.ensures c.parts-test.true c.parts.rest _ none c.parts.invariant.1))

pub and-parts-smaller : goal.and-parts-smaller
and-parts-smaller t c =
    turn_less (word (codes "and")) (spec.comp (spec.single c.args.depth)) (λ x. x ∷ []) (spec.ands (spec.single c.args.depth)) (ands_loop c.args.depth) c.takes.result c.parts.self c.left.result.now c.takes.new.self _ c.takes.ensures c.left.ensures c.word.ensures c.parts-test.true _ _ c.in_ok-comparison.ensures

pub and-parts-preserved : goal.and-parts-preserved
and-parts-preserved t c =
    (c.parts.invariant.0, turn_kept (word (codes "and")) (spec.comp (spec.single c.args.depth)) (λ x. x ∷ []) (spec.ands (spec.single c.args.depth)) (ands_loop c.args.depth) c.takes.result c.parts.self c.left.result.now c.takes.new.self _ c.takes.ensures c.left.ensures c.word.ensures c.parts-test.true _ _ c.parts.rest c.push.new.self _ c.in_ok-comparison.ensures c.in_ok-push.ensures.ok c.parts.invariant.1)

pub and-returns : goal.and-returns
unfolding spec.and
and-returns t c =
    followed_at grammar.and_of (spec.comp (spec.single c.args.depth)) (spec.ands (spec.single c.args.depth)) c.args.self.now c.comparison.new.self c.takes.new.self c.in_ok-first.first c.parts.rest c.in_ok-first.ensures (turns_done (word (codes "and")) (spec.comp (spec.single c.args.depth)) (λ x. x ∷ []) (spec.ands (spec.single c.args.depth)) (ands_loop c.args.depth) c.takes.result c.parts.self c.left.result.now c.takes.new.self _ c.takes.ensures c.left.ensures c.word.ensures c.parts-test.false c.parts.rest _ c.parts.invariant.1)
    ∙ ap (λ e. let x : Option (Expr × List Token) = Some (e, c.takes.new.self) in x) (sym (c.in_ok-and_of.ensures ∙ ap (λ x. grammar.and_of x c.parts.rest) c.parts.invariant.0))

pub or-returns-in_err-and : goal.or-returns-in_err-and
unfolding spec.or
or-returns-in_err-and t c =
    fails _ c.from_residual-in_err-and.result c.in_err-and.field-0.0 _ _ c.from_residual-in_err-and.ensures.1 c.in_err-and.ensures (λ none. followed_none grammar.or_of (spec.and (spec.single c.args.depth)) (spec.ors (spec.single c.args.depth)) c.args.self.now c.and.new.self c.in_ok-first.first c.in_ok-first.ensures (turn_failed (word (codes "or")) (spec.and (spec.single c.args.depth)) (λ x. x ∷ []) (spec.ors (spec.single c.args.depth)) (ors_loop c.args.depth) c.takes.result c.parts.self c.left.result.now c.takes.new.self _ c.takes.ensures c.left.ensures c.word.ensures c.parts-test.true c.parts.rest _ none c.parts.invariant.1))

pub or-parts-smaller : goal.or-parts-smaller
or-parts-smaller t c =
    turn_less (word (codes "or")) (spec.and (spec.single c.args.depth)) (λ x. x ∷ []) (spec.ors (spec.single c.args.depth)) (ors_loop c.args.depth) c.takes.result c.parts.self c.left.result.now c.takes.new.self _ c.takes.ensures c.left.ensures c.word.ensures c.parts-test.true _ _ c.in_ok-and.ensures

pub or-parts-preserved : goal.or-parts-preserved
or-parts-preserved t c =
    (c.parts.invariant.0, turn_kept (word (codes "or")) (spec.and (spec.single c.args.depth)) (λ x. x ∷ []) (spec.ors (spec.single c.args.depth)) (ors_loop c.args.depth) c.takes.result c.parts.self c.left.result.now c.takes.new.self _ c.takes.ensures c.left.ensures c.word.ensures c.parts-test.true _ _ c.parts.rest c.push.new.self _ c.in_ok-and.ensures c.in_ok-push.ensures.ok c.parts.invariant.1)

pub or-returns : goal.or-returns
unfolding spec.or
or-returns t c =
    followed_at grammar.or_of (spec.and (spec.single c.args.depth)) (spec.ors (spec.single c.args.depth)) c.args.self.now c.and.new.self c.takes.new.self c.in_ok-first.first c.parts.rest c.in_ok-first.ensures (turns_done (word (codes "or")) (spec.and (spec.single c.args.depth)) (λ x. x ∷ []) (spec.ors (spec.single c.args.depth)) (ors_loop c.args.depth) c.takes.result c.parts.self c.left.result.now c.takes.new.self _ c.takes.ensures c.left.ensures c.word.ensures c.parts-test.false c.parts.rest _ c.parts.invariant.1)
    ∙ ap (λ e. let x : Option (Expr × List Token) = Some (e, c.takes.new.self) in x) (sym (c.in_ok-or_of.ensures ∙ ap (λ x. grammar.or_of x c.parts.rest) c.parts.invariant.0))

pub union-returns-in_err-signed : goal.union-returns-in_err-signed
unfolding spec.union
union-returns-in_err-signed t c =
    fails _ c.from_residual-in_err-signed.result c.in_err-signed.field-0.0 _ _ c.from_residual-in_err-signed.ensures.1 c.in_err-signed.ensures (λ none. followed_none grammar.union_of (spec.signed (spec.single c.args.depth)) (spec.unions (spec.single c.args.depth)) c.args.self.now c.signed.new.self c.in_ok-first.first c.in_ok-first.ensures (turn_failed (union_op) (spec.signed (spec.single c.args.depth)) (λ x. x ∷ []) (spec.unions (spec.single c.args.depth)) (unions_loop c.args.depth) c.takes.result c.parts.self c.left.result.now c.takes.new.self _ c.takes.ensures c.left.ensures c.union_op.ensures c.parts-test.true c.parts.rest _ none c.parts.invariant.1))

pub union-parts-smaller : goal.union-parts-smaller
union-parts-smaller t c =
    turn_less (union_op) (spec.signed (spec.single c.args.depth)) (λ x. x ∷ []) (spec.unions (spec.single c.args.depth)) (unions_loop c.args.depth) c.takes.result c.parts.self c.left.result.now c.takes.new.self _ c.takes.ensures c.left.ensures c.union_op.ensures c.parts-test.true _ _ c.in_ok-signed.ensures

pub union-parts-preserved : goal.union-parts-preserved
union-parts-preserved t c =
    (c.parts.invariant.0, turn_kept (union_op) (spec.signed (spec.single c.args.depth)) (λ x. x ∷ []) (spec.unions (spec.single c.args.depth)) (unions_loop c.args.depth) c.takes.result c.parts.self c.left.result.now c.takes.new.self _ c.takes.ensures c.left.ensures c.union_op.ensures c.parts-test.true _ _ c.parts.rest c.push.new.self _ c.in_ok-signed.ensures c.in_ok-push.ensures.ok c.parts.invariant.1)

pub union-returns : goal.union-returns
unfolding spec.union
union-returns t c =
    followed_at grammar.union_of (spec.signed (spec.single c.args.depth)) (spec.unions (spec.single c.args.depth)) c.args.self.now c.signed.new.self c.takes.new.self c.in_ok-first.first c.parts.rest c.in_ok-first.ensures (turns_done (union_op) (spec.signed (spec.single c.args.depth)) (λ x. x ∷ []) (spec.unions (spec.single c.args.depth)) (unions_loop c.args.depth) c.takes.result c.parts.self c.left.result.now c.takes.new.self _ c.takes.ensures c.left.ensures c.union_op.ensures c.parts-test.false c.parts.rest _ c.parts.invariant.1)
    ∙ ap (λ e. let x : Option (Expr × List Token) = Some (e, c.takes.new.self) in x) (sym (c.in_ok-union_of.ensures ∙ ap (λ x. grammar.union_of x c.parts.rest) c.parts.invariant.0))

pub list-returns-in_err-single-2 : goal.list-returns-in_err-single-2
unfolding spec.list
list-returns-in_err-single-2 t c =
    fails _ c.from_residual-in_err-single-2.result c.in_err-single-2.field-0.0 _ _ c.from_residual-in_err-single-2.ensures.1 c.in_err-single-2.ensures (λ none. started (λ x. x ∷ []) (spec.single c.args.depth) (spec.commas (spec.single c.args.depth)) c.args.self.now c.single.new.self c.in_ok-single.field-0 c.push.new.self c.in_ok-single.ensures (c.in_ok-push.ensures.ok ∙ ap (λ l. l ++ c.in_ok-single.field-0 ∷ []) c.new-parts.ensures) ∙ turn_failed (comma) (spec.single c.args.depth) (λ x. x ∷ []) (spec.commas (spec.single c.args.depth)) (commas_loop c.args.depth) c.takes.result c.parts.self c.left.result.now c.takes.new.self _ c.takes.ensures c.left.ensures c.comma.ensures c.parts-test.true c.parts.parts _ none c.parts.invariant)

pub list-parts-smaller : goal.list-parts-smaller
list-parts-smaller t c =
    turn_less (comma) (spec.single c.args.depth) (λ x. x ∷ []) (spec.commas (spec.single c.args.depth)) (commas_loop c.args.depth) c.takes.result c.parts.self c.left.result.now c.takes.new.self _ c.takes.ensures c.left.ensures c.comma.ensures c.parts-test.true _ _ c.in_ok-single-2.ensures

pub list-parts-preserved : goal.list-parts-preserved
list-parts-preserved t c =
    turn_kept (comma) (spec.single c.args.depth) (λ x. x ∷ []) (spec.commas (spec.single c.args.depth)) (commas_loop c.args.depth) c.takes.result c.parts.self c.left.result.now c.takes.new.self _ c.takes.ensures c.left.ensures c.comma.ensures c.parts-test.true _ _ c.parts.parts c.push-in-parts.new.self _ c.in_ok-single-2.ensures c.in_ok-push-2.ensures.ok c.parts.invariant

pub list-returns : goal.list-returns
unfolding spec.list
list-returns t c =
    started (λ x. x ∷ []) (spec.single c.args.depth) (spec.commas (spec.single c.args.depth)) c.args.self.now c.single.new.self c.in_ok-single.field-0 c.push.new.self c.in_ok-single.ensures (c.in_ok-push.ensures.ok ∙ ap (λ l. l ++ c.in_ok-single.field-0 ∷ []) c.new-parts.ensures)
    ∙ turns_done (comma) (spec.single c.args.depth) (λ x. x ∷ []) (spec.commas (spec.single c.args.depth)) (commas_loop c.args.depth) c.takes.result c.parts.self c.left.result.now c.takes.new.self _ c.takes.ensures c.left.ensures c.comma.ensures c.parts-test.false c.parts.parts _ c.parts.invariant

pub binds-returns-in_err-bind-2 : goal.binds-returns-in_err-bind-2
unfolding spec.binds
binds-returns-in_err-bind-2 t c =
    fails _ c.from_residual-in_err-bind-2.result c.in_err-bind-2.field-0.0 _ _ c.from_residual-in_err-bind-2.ensures.1 c.in_err-bind-2.ensures (λ none. started (λ x. x ∷ []) (spec.bind (spec.single c.args.depth)) (spec.more_binds (spec.single c.args.depth)) c.args.self.now c.bind.new.self c.in_ok-bind.field-0 c.push.new.self c.in_ok-bind.ensures (c.in_ok-push.ensures.ok ∙ ap (λ l. l ++ c.in_ok-bind.field-0 ∷ []) c.new-binds.ensures) ∙ turn_failed (comma) (spec.bind (spec.single c.args.depth)) (λ x. x ∷ []) (spec.more_binds (spec.single c.args.depth)) (more_binds_loop c.args.depth) c.takes.result c.binds.self c.left.result.now c.takes.new.self _ c.takes.ensures c.left.ensures c.comma.ensures c.binds-test.true c.binds.binds _ none c.binds.invariant)

pub binds-binds-smaller : goal.binds-binds-smaller
binds-binds-smaller t c =
    turn_less (comma) (spec.bind (spec.single c.args.depth)) (λ x. x ∷ []) (spec.more_binds (spec.single c.args.depth)) (more_binds_loop c.args.depth) c.takes.result c.binds.self c.left.result.now c.takes.new.self _ c.takes.ensures c.left.ensures c.comma.ensures c.binds-test.true _ _ c.in_ok-bind-2.ensures

pub binds-binds-preserved : goal.binds-binds-preserved
binds-binds-preserved t c =
    turn_kept (comma) (spec.bind (spec.single c.args.depth)) (λ x. x ∷ []) (spec.more_binds (spec.single c.args.depth)) (more_binds_loop c.args.depth) c.takes.result c.binds.self c.left.result.now c.takes.new.self _ c.takes.ensures c.left.ensures c.comma.ensures c.binds-test.true _ _ c.binds.binds c.push-in-binds.new.self _ c.in_ok-bind-2.ensures c.in_ok-push-2.ensures.ok c.binds.invariant

pub binds-returns : goal.binds-returns
unfolding spec.binds
binds-returns t c =
    started (λ x. x ∷ []) (spec.bind (spec.single c.args.depth)) (spec.more_binds (spec.single c.args.depth)) c.args.self.now c.bind.new.self c.in_ok-bind.field-0 c.push.new.self c.in_ok-bind.ensures (c.in_ok-push.ensures.ok ∙ ap (λ l. l ++ c.in_ok-bind.field-0 ∷ []) c.new-binds.ensures)
    ∙ turns_done (comma) (spec.bind (spec.single c.args.depth)) (λ x. x ∷ []) (spec.more_binds (spec.single c.args.depth)) (more_binds_loop c.args.depth) c.takes.result c.binds.self c.left.result.now c.takes.new.self _ c.takes.ensures c.left.ensures c.comma.ensures c.binds-test.false c.binds.binds _ c.binds.invariant

pub lets-returns-in_err-let_bind-2 : goal.lets-returns-in_err-let_bind-2
unfolding spec.lets
lets-returns-in_err-let_bind-2 t c =
    fails _ c.from_residual-in_err-let_bind-2.result c.in_err-let_bind-2.field-0.0 _ _ c.from_residual-in_err-let_bind-2.ensures.1 c.in_err-let_bind-2.ensures (λ none. started (λ x. x ∷ []) (spec.let_bind (spec.single c.args.depth)) (spec.more_lets (spec.single c.args.depth)) c.args.self.now c.let_bind.new.self c.in_ok-let_bind.field-0 c.push.new.self c.in_ok-let_bind.ensures (c.in_ok-push.ensures.ok ∙ ap (λ l. l ++ c.in_ok-let_bind.field-0 ∷ []) c.new-binds.ensures) ∙ turn_failed (comma) (spec.let_bind (spec.single c.args.depth)) (λ x. x ∷ []) (spec.more_lets (spec.single c.args.depth)) (more_lets_loop c.args.depth) c.takes.result c.binds.self c.left.result.now c.takes.new.self _ c.takes.ensures c.left.ensures c.comma.ensures c.binds-test.true c.binds.binds _ none c.binds.invariant)

pub lets-binds-smaller : goal.lets-binds-smaller
lets-binds-smaller t c =
    turn_less (comma) (spec.let_bind (spec.single c.args.depth)) (λ x. x ∷ []) (spec.more_lets (spec.single c.args.depth)) (more_lets_loop c.args.depth) c.takes.result c.binds.self c.left.result.now c.takes.new.self _ c.takes.ensures c.left.ensures c.comma.ensures c.binds-test.true _ _ c.in_ok-let_bind-2.ensures

pub lets-binds-preserved : goal.lets-binds-preserved
lets-binds-preserved t c =
    turn_kept (comma) (spec.let_bind (spec.single c.args.depth)) (λ x. x ∷ []) (spec.more_lets (spec.single c.args.depth)) (more_lets_loop c.args.depth) c.takes.result c.binds.self c.left.result.now c.takes.new.self _ c.takes.ensures c.left.ensures c.comma.ensures c.binds-test.true _ _ c.binds.binds c.push-in-binds.new.self _ c.in_ok-let_bind-2.ensures c.in_ok-push-2.ensures.ok c.binds.invariant

pub lets-returns : goal.lets-returns
unfolding spec.lets
lets-returns t c =
    started (λ x. x ∷ []) (spec.let_bind (spec.single c.args.depth)) (spec.more_lets (spec.single c.args.depth)) c.args.self.now c.let_bind.new.self c.in_ok-let_bind.field-0 c.push.new.self c.in_ok-let_bind.ensures (c.in_ok-push.ensures.ok ∙ ap (λ l. l ++ c.in_ok-let_bind.field-0 ∷ []) c.new-binds.ensures)
    ∙ turns_done (comma) (spec.let_bind (spec.single c.args.depth)) (λ x. x ∷ []) (spec.more_lets (spec.single c.args.depth)) (more_lets_loop c.args.depth) c.takes.result c.binds.self c.left.result.now c.takes.new.self _ c.takes.ensures c.left.ensures c.comma.ensures c.binds-test.false c.binds.binds _ c.binds.invariant

pub sort_keys-returns-in_err-sort_key-2 : goal.sort_keys-returns-in_err-sort_key-2
unfolding spec.sort_keys
sort_keys-returns-in_err-sort_key-2 t c =
    fails _ c.from_residual-in_err-sort_key-2.result c.in_err-sort_key-2.field-0.0 _ _ c.from_residual-in_err-sort_key-2.ensures.1 c.in_err-sort_key-2.ensures (λ none. started (λ x. x ∷ []) (spec.sort_key (spec.single c.args.depth)) (spec.more_keys (spec.single c.args.depth)) c.args.self.now c.sort_key.new.self c.in_ok-sort_key.field-0 c.push.new.self c.in_ok-sort_key.ensures (c.in_ok-push.ensures.ok ∙ ap (λ l. l ++ c.in_ok-sort_key.field-0 ∷ []) c.new-keys.ensures) ∙ turn_failed (comma) (spec.sort_key (spec.single c.args.depth)) (λ x. x ∷ []) (spec.more_keys (spec.single c.args.depth)) (more_keys_loop c.args.depth) c.takes.result c.keys.self c.left.result.now c.takes.new.self _ c.takes.ensures c.left.ensures c.comma.ensures c.keys-test.true c.keys.keys _ none c.keys.invariant)

pub sort_keys-keys-smaller : goal.sort_keys-keys-smaller
sort_keys-keys-smaller t c =
    turn_less (comma) (spec.sort_key (spec.single c.args.depth)) (λ x. x ∷ []) (spec.more_keys (spec.single c.args.depth)) (more_keys_loop c.args.depth) c.takes.result c.keys.self c.left.result.now c.takes.new.self _ c.takes.ensures c.left.ensures c.comma.ensures c.keys-test.true _ _ c.in_ok-sort_key-2.ensures

pub sort_keys-keys-preserved : goal.sort_keys-keys-preserved
sort_keys-keys-preserved t c =
    turn_kept (comma) (spec.sort_key (spec.single c.args.depth)) (λ x. x ∷ []) (spec.more_keys (spec.single c.args.depth)) (more_keys_loop c.args.depth) c.takes.result c.keys.self c.left.result.now c.takes.new.self _ c.takes.ensures c.left.ensures c.comma.ensures c.keys-test.true _ _ c.keys.keys c.push-in-keys.new.self _ c.in_ok-sort_key-2.ensures c.in_ok-push-2.ensures.ok c.keys.invariant

pub sort_keys-returns : goal.sort_keys-returns
unfolding spec.sort_keys
sort_keys-returns t c =
    started (λ x. x ∷ []) (spec.sort_key (spec.single c.args.depth)) (spec.more_keys (spec.single c.args.depth)) c.args.self.now c.sort_key.new.self c.in_ok-sort_key.field-0 c.push.new.self c.in_ok-sort_key.ensures (c.in_ok-push.ensures.ok ∙ ap (λ l. l ++ c.in_ok-sort_key.field-0 ∷ []) c.new-keys.ensures)
    ∙ turns_done (comma) (spec.sort_key (spec.single c.args.depth)) (λ x. x ∷ []) (spec.more_keys (spec.single c.args.depth)) (more_keys_loop c.args.depth) c.takes.result c.keys.self c.left.result.now c.takes.new.self _ c.takes.ensures c.left.ensures c.comma.ensures c.keys-test.false c.keys.keys _ c.keys.invariant

pub predicates-returns-in_err-predicate : goal.predicates-returns-in_err-predicate
predicates-returns-in_err-predicate t c =
    fails _ c.from_residual.result c.in_err-predicate.field-0.0 _ _ c.from_residual.ensures.1 c.in_err-predicate.ensures (λ none. turn_failed (open_square) (spec.pred (spec.single c.args.depth)) (λ x. x ∷ []) (spec.preds (spec.single c.args.depth)) (preds_loop c.args.depth) c.takes.result c.preds.self c.left.result.now c.takes.new.self _ c.takes.ensures c.left.ensures c.open_square.ensures c.preds-test.true c.preds.preds _ none c.preds.invariant)

pub predicates-preds-smaller : goal.predicates-preds-smaller
predicates-preds-smaller t c =
    turn_less (open_square) (spec.pred (spec.single c.args.depth)) (λ x. x ∷ []) (spec.preds (spec.single c.args.depth)) (preds_loop c.args.depth) c.takes.result c.preds.self c.left.result.now c.takes.new.self _ c.takes.ensures c.left.ensures c.open_square.ensures c.preds-test.true _ _ c.in_ok-predicate.ensures

pub predicates-preds-preserved : goal.predicates-preds-preserved
predicates-preds-preserved t c =
    turn_kept (open_square) (spec.pred (spec.single c.args.depth)) (λ x. x ∷ []) (spec.preds (spec.single c.args.depth)) (preds_loop c.args.depth) c.takes.result c.preds.self c.left.result.now c.takes.new.self _ c.takes.ensures c.left.ensures c.open_square.ensures c.preds-test.true _ _ c.preds.preds c.push.new.self _ c.in_ok-predicate.ensures c.in_ok-push.ensures.ok c.preds.invariant

pub predicates-returns : goal.predicates-returns
predicates-returns t c =
    turns_done (open_square) (spec.pred (spec.single c.args.depth)) (λ x. x ∷ []) (spec.preds (spec.single c.args.depth)) (preds_loop c.args.depth) c.takes.result c.preds.self c.left.result.now c.takes.new.self _ c.takes.ensures c.left.ensures c.open_square.ensures c.preds-test.false c.preds.preds _ c.preds.invariant

pub sum-returns-in_err-expr : goal.sum-returns-in_err-expr
unfolding spec.sum
sum-returns-in_err-expr t c =
    fails _ c.from_residual-in_err-expr.result c.in_err-expr.field-0.0 _ _ c.from_residual-in_err-expr.ensures.1 c.in_err-expr.ensures (λ none. followed_none grammar.sum_of (spec.product (spec.single c.args.depth)) (spec.sum_parts (spec.single c.args.depth)) c.args.self.now c.product.new.self c.in_ok-first.first c.in_ok-first.ensures ((sum_parts_loop c.args.depth).failed c.parts.self c.sum_op.new.self c.in-Some.minus c.parts.rest _ c.in-Some.ensures none c.parts.invariant.1))

pub sum-parts-smaller : goal.sum-parts-smaller
sum-parts-smaller t c =
    (sum_parts_loop c.args.depth).less c.parts.self c.sum_op.new.self c.product-in-Some.new.self c.in-Some.minus c.in_ok-expr.expr c.in-Some.ensures c.in_ok-expr.ensures

pub sum-parts-preserved : goal.sum-parts-preserved
sum-parts-preserved t c =
    (c.parts.invariant.0, (sum_parts_loop c.args.depth).kept c.parts.self c.sum_op.new.self c.product-in-Some.new.self c.in-Some.minus c.in_ok-expr.expr c.parts.rest c.push.new.self _ c.in-Some.ensures c.in_ok-expr.ensures c.in_ok-push.ensures.ok c.parts.invariant.1)

pub sum-returns : goal.sum-returns
unfolding spec.sum
sum-returns t c =
    followed_at grammar.sum_of (spec.product (spec.single c.args.depth)) (spec.sum_parts (spec.single c.args.depth)) c.args.self.now c.product.new.self c.sum_op.new.self c.in_ok-first.first c.parts.rest c.in_ok-first.ensures ((sum_parts_loop c.args.depth).done c.parts.self c.parts.rest _ c.in_default.ensures.0 c.parts.invariant.1 ∙ ap (λ l. let x : Option (List SumPart × List Token) = Some (c.parts.rest, l) in x) (sym c.in_default.ensures.1))
    ∙ ap (λ e. let x : Option (Expr × List Token) = Some (e, c.sum_op.new.self) in x) (sym (c.in_ok-sum_of.ensures ∙ ap (λ x. grammar.sum_of x c.parts.rest) c.parts.invariant.0))

pub product-returns-in_err-expr : goal.product-returns-in_err-expr
unfolding spec.product
product-returns-in_err-expr t c =
    fails _ c.from_residual-in_err-expr.result c.in_err-expr.field-0.0 _ _ c.from_residual-in_err-expr.ensures.1 c.in_err-expr.ensures (λ none. followed_none grammar.product_of (spec.union (spec.single c.args.depth)) (spec.product_parts (spec.single c.args.depth)) c.args.self.now c.union.new.self c.in_ok-first.first c.in_ok-first.ensures ((product_parts_loop c.args.depth).failed c.parts.self c.product_op.new.self c.in-Some.op c.parts.rest _ c.in-Some.ensures none c.parts.invariant.1))

pub product-parts-smaller : goal.product-parts-smaller
product-parts-smaller t c =
    (product_parts_loop c.args.depth).less c.parts.self c.product_op.new.self c.union-in-Some.new.self c.in-Some.op c.in_ok-expr.expr c.in-Some.ensures c.in_ok-expr.ensures

pub product-parts-preserved : goal.product-parts-preserved
product-parts-preserved t c =
    (c.parts.invariant.0, (product_parts_loop c.args.depth).kept c.parts.self c.product_op.new.self c.union-in-Some.new.self c.in-Some.op c.in_ok-expr.expr c.parts.rest c.push.new.self _ c.in-Some.ensures c.in_ok-expr.ensures c.in_ok-push.ensures.ok c.parts.invariant.1)

pub product-returns : goal.product-returns
unfolding spec.product
product-returns t c =
    followed_at grammar.product_of (spec.union (spec.single c.args.depth)) (spec.product_parts (spec.single c.args.depth)) c.args.self.now c.union.new.self c.product_op.new.self c.in_ok-first.first c.parts.rest c.in_ok-first.ensures ((product_parts_loop c.args.depth).done c.parts.self c.parts.rest _ c.in_default.ensures.0 c.parts.invariant.1 ∙ ap (λ l. let x : Option (List ProductPart × List Token) = Some (c.parts.rest, l) in x) (sym c.in_default.ensures.1))
    ∙ ap (λ e. let x : Option (Expr × List Token) = Some (e, c.product_op.new.self) in x) (sym (c.in_ok-product_of.ensures ∙ ap (λ x. grammar.product_of x c.parts.rest) c.parts.invariant.0))

pub steps-returns-in_err-step : goal.steps-returns-in_err-step
steps-returns-in_err-step t c =
    fails _ c.from_residual.result c.in_err-step.field-0.0 _ _ c.from_residual.ensures.1 c.in_err-step.ensures (λ none. (steps_loop c.args.depth).failed c.steps.self c.slash.new.self c.in-Some.deep c.steps.steps _ c.in-Some.ensures none c.steps.invariant)

pub steps-steps-smaller : goal.steps-steps-smaller
steps-steps-smaller t c =
    (steps_loop c.args.depth).less c.steps.self c.slash.new.self c.step.new.self c.in-Some.deep c.in_ok-step.step c.in-Some.ensures c.in_ok-step.ensures

pub steps-steps-preserved : goal.steps-steps-preserved
steps-steps-preserved t c =
    (steps_loop c.args.depth).kept c.steps.self c.slash.new.self c.step.new.self c.in-Some.deep c.in_ok-step.step c.steps.steps c.push.new.self _ c.in-Some.ensures c.in_ok-step.ensures (c.in_ok-push.ensures.ok ∙ ap (λ s. c.steps.steps ++ s ∷ []) c.step_behind.ensures) c.steps.invariant

pub steps-returns : goal.steps-returns
steps-returns t c =
    (steps_loop c.args.depth).done c.steps.self c.steps.steps _ c.in_default.ensures.0 c.steps.invariant ∙ ap (λ l. let x : Option (List StepTree × List Token) = Some (c.steps.steps, l) in x) (sym c.in_default.ensures.1)

pub clauses-returns-in_err-clause : goal.clauses-returns-in_err-clause
unfolding spec.clauses spec.first_clause
clauses-returns-in_err-clause t c =
    fails _ c.from_residual-in_err-clause.result c.in_err-clause.field-0.0 _ _ c.from_residual-in_err-clause.ensures.1 c.in_err-clause.ensures (λ none. started (λ bs. bs) (spec.first_clause (spec.single c.args.depth)) (spec.more_clauses (spec.single c.args.depth)) c.args.self.now c.clause.new.self c.in_ok-binds.binds c.in_ok-binds.binds (then_is (spec.clause_word c.args.self.now) (λ w. spec.clause (spec.single c.args.depth) w.0 w.1) (clause_word_of c.in-Some.first, c.clause_word.new.self) _ c.in-Some.ensures c.in_ok-binds.ensures) refl ∙ (more_clauses_loop c.args.depth).failed c.clauses.self c.clause_word-in-clauses.new.self (clause_word_of c.in-Some-clause_word.next) c.clauses.binds _ c.in-Some-clause_word.ensures none c.clauses.invariant)

pub clauses-clauses-smaller : goal.clauses-clauses-smaller
clauses-clauses-smaller t c =
    (more_clauses_loop c.args.depth).less c.clauses.self c.clause_word-in-clauses.new.self c.clause-in-Some-clause_word.new.self (clause_word_of c.in-Some-clause_word.next) c.in_ok-clause.field-0 c.in-Some-clause_word.ensures c.in_ok-clause.ensures

pub clauses-clauses-preserved : goal.clauses-clauses-preserved
clauses-clauses-preserved t c =
    (more_clauses_loop c.args.depth).kept c.clauses.self c.clause_word-in-clauses.new.self c.clause-in-Some-clause_word.new.self (clause_word_of c.in-Some-clause_word.next) c.in_ok-clause.field-0 c.clauses.binds c.append.new.self _ c.in-Some-clause_word.ensures c.in_ok-clause.ensures c.in_ok-append.ensures c.clauses.invariant

pub clauses-returns : goal.clauses-returns
unfolding spec.clauses spec.first_clause
clauses-returns t c =
    started (λ bs. bs) (spec.first_clause (spec.single c.args.depth)) (spec.more_clauses (spec.single c.args.depth)) c.args.self.now c.clause.new.self c.in_ok-binds.binds c.in_ok-binds.binds (then_is (spec.clause_word c.args.self.now) (λ w. spec.clause (spec.single c.args.depth) w.0 w.1) (clause_word_of c.in-Some.first, c.clause_word.new.self) _ c.in-Some.ensures c.in_ok-binds.ensures) refl
    ∙ ((more_clauses_loop c.args.depth).done c.clauses.self c.clauses.binds _ c.in_default-clause_word.ensures.0 c.clauses.invariant ∙ ap (λ l. let x : Option (List Bind × List Token) = Some (c.clauses.binds, l) in x) (sym c.in_default-clause_word.ensures.1))

pub arguments-returns-in_err-expect : goal.arguments-returns-in_err-expect
arguments-returns-in_err-expect t c =
    fails _ c.from_residual-in_err-expect.result c.in_err-expect.field-0.0 _ _ c.from_residual-in_err-expect.ensures.1 c.in_err-expect.ensures (λ none. arguments_none (spec.single c.args.depth) c.takes.result c.args.self.now c.left.result.now c.takes.new.self _ c.takes.ensures c.left.ensures c.close_round.ensures c.if-takes.false c.in_ok-args.args c.list.new.self c.in_ok-args.ensures (ap spec.close_round (sym c.left-2.ensures) ∙ (c.close_round-2.ensures ∙ none)))

pub arguments-returns : goal.arguments-returns
arguments-returns t c =
    arguments_some (spec.single c.args.depth) c.takes.result c.args.self.now c.left.result.now c.takes.new.self _ c.takes.ensures c.left.ensures c.close_round.ensures c.if-takes.false c.in_ok-args.args c.list.new.self c.expect.new.self c.in_ok-args.ensures (ap spec.close_round (sym c.left-2.ensures) ∙ (c.close_round-2.ensures ∙ c.in_ok-expect.ensures))

pub content-returns-in_err-expect : goal.content-returns-in_err-expect
content-returns-in_err-expect t c =
    fails _ c.from_residual-in_err-expect.result c.in_err-expect.field-0.0 _ _ c.from_residual-in_err-expect.ensures.1 c.in_err-expect.ensures (λ none. content_none spec.close_curly (spec.single c.args.depth) c.takes.result c.args.self.now c.left.result.now c.takes.new.self _ c.takes.ensures c.left.ensures c.close_curly.ensures c.if-takes.false c.in_ok-inner.inner c.expr.new.self c.in_ok-inner.ensures (ap spec.close_curly (sym c.left-2.ensures) ∙ (c.close_curly-2.ensures ∙ none)))

pub content-returns : goal.content-returns
content-returns t c =
    content_some spec.close_curly (spec.single c.args.depth) c.takes.result c.args.self.now c.left.result.now c.takes.new.self _ c.takes.ensures c.left.ensures c.close_curly.ensures c.if-takes.false c.in_ok-inner.inner c.expr.new.self c.expect.new.self c.in_ok-inner.ensures (ap spec.close_curly (sym c.left-2.ensures) ∙ (c.close_curly-2.ensures ∙ c.in_ok-expect.ensures))
    ∙ ap (λ e. let x : Option (Option Expr × List Token) = Some (Some e, c.expect.new.self) in x) (sym c.in_ok-new.ensures)

pub group-returns-in_err-expect : goal.group-returns-in_err-expect
group-returns-in_err-expect t c =
    fails _ c.from_residual-in_err-expect.result c.in_err-expect.field-0.0 _ _ c.from_residual-in_err-expect.ensures.1 c.in_err-expect.ensures (λ none. group_none (spec.single c.args.depth) c.takes.result c.args.self.now c.left.result.now c.takes.new.self _ c.takes.ensures c.left.ensures c.close_round.ensures c.if-takes.false c.in_ok-inner.inner c.expr.new.self c.in_ok-inner.ensures (ap spec.close_round (sym c.left-2.ensures) ∙ (c.close_round-2.ensures ∙ none)))

pub group-returns : goal.group-returns
group-returns t c =
    group_some (spec.single c.args.depth) c.takes.result c.args.self.now c.left.result.now c.takes.new.self _ c.takes.ensures c.left.ensures c.close_round.ensures c.if-takes.false c.in_ok-inner.inner c.expr.new.self c.expect.new.self c.in_ok-inner.ensures (ap spec.close_round (sym c.left-2.ensures) ∙ (c.close_round-2.ensures ∙ c.in_ok-expect.ensures))

pub clause-returns-in-For : goal.clause-returns-in-For
clause-returns-in-For t c =
    reads_by _ c.binds.result _ _ (sym (ap (λ w. spec.clause (spec.single c.args.depth) (clause_word_of w) c.args.self.now) c.in-For.is ∙ clause_for (spec.single c.args.depth) c.args.self.now)) c.binds.ensures

pub clause-returns-in-Let : goal.clause-returns-in-Let
clause-returns-in-Let t c =
    reads_by _ c.lets.result _ _ (sym (ap (λ w. spec.clause (spec.single c.args.depth) (clause_word_of w) c.args.self.now) c.in-Let.is ∙ clause_let (spec.single c.args.depth) c.args.self.now)) c.lets.ensures

pub path-returns-in_err-step-in-Step : goal.path-returns-in_err-step-in-Step
path-returns-in_err-step-in-Step t c =
    fails _ c.from_residual.result c.in_err-step-in-Step.field-0.0 _ _ c.from_residual.ensures.1 c.in_err-step-in-Step.ensures (λ none. path_by (spec.single c.args.depth) c.args.self.now c.left.result.now Step c.left.ensures c.in-Step.ensures ∙ ap (λ o. o >>= (λ f. spec.steps (spec.single c.args.depth) f.1 >>= (λ r. let x : Option (Expr × List Token) = Some (steps_of f.0 r.0, r.1) in x))) none)

pub path-returns-in_err-rest-in-Step : goal.path-returns-in_err-rest-in-Step
path-returns-in_err-rest-in-Step t c =
    fails _ c.from_residual-in_err-rest-in-Step.result c.in_err-rest-in-Step.field-0.0 _ _ c.from_residual-in_err-rest-in-Step.ensures.1 c.in_err-rest-in-Step.ensures (λ none. path_by (spec.single c.args.depth) c.args.self.now c.left.result.now Step c.left.ensures c.in-Step.ensures ∙ followed_none steps_of (spec.step (spec.single c.args.depth)) (spec.steps (spec.single c.args.depth)) c.args.self.now c.step.new.self c.in_ok-step-in-Step.step c.in_ok-step-in-Step.ensures none)

pub path-returns-in_ok-rest-in-Step : goal.path-returns-in_ok-rest-in-Step
path-returns-in_ok-rest-in-Step t c =
    path_by (spec.single c.args.depth) c.args.self.now c.left.result.now Step c.left.ensures c.in-Step.ensures
    ∙ followed_at steps_of (spec.step (spec.single c.args.depth)) (spec.steps (spec.single c.args.depth)) c.args.self.now c.step.new.self c.steps.new.self c.in_ok-step-in-Step.step c.in_ok-rest-in-Step.rest c.in_ok-step-in-Step.ensures c.in_ok-rest-in-Step.ensures

pub path-returns-in_err-filter-in_default : goal.path-returns-in_err-filter-in_default
path-returns-in_err-filter-in_default t c =
    fails _ c.from_residual-in_err-filter-in_default.result c.in_err-filter-in_default.field-0.0 _ _ c.from_residual-in_err-filter-in_default.ensures.1 c.in_err-filter-in_default.ensures (λ none. path_by (spec.single c.args.depth) c.args.self.now c.left.result.now c.operand_at.result c.left.ensures c.operand_at.ensures ∙ (by_filter (spec.single c.args.depth) c.args.self.now c.operand_at.result c.in_default.not-Step ∙ ap (λ o. o >>= (λ f. spec.steps (spec.single c.args.depth) f.1 >>= (λ r. let x : Option (Expr × List Token) = Some (path_of f.0 r.0, r.1) in x))) none))

pub path-returns-in_err-rest-in_default : goal.path-returns-in_err-rest-in_default
path-returns-in_err-rest-in_default t c =
    fails _ c.from_residual-in_err-rest-in_default.result c.in_err-rest-in_default.field-0.0 _ _ c.from_residual-in_err-rest-in_default.ensures.1 c.in_err-rest-in_default.ensures (λ none. path_by (spec.single c.args.depth) c.args.self.now c.left.result.now c.operand_at.result c.left.ensures c.operand_at.ensures ∙ (by_filter (spec.single c.args.depth) c.args.self.now c.operand_at.result c.in_default.not-Step ∙ followed_none path_of (spec.filtered (spec.single c.args.depth) (operand_of c.operand_at.result)) (spec.steps (spec.single c.args.depth)) c.args.self.now c.filtered.new.self c.in_ok-filter-in_default.filter c.in_ok-filter-in_default.ensures none))

pub path-returns-in_ok-path_of-in_default : goal.path-returns-in_ok-path_of-in_default
path-returns-in_ok-path_of-in_default t c =
    path_by (spec.single c.args.depth) c.args.self.now c.left.result.now c.operand_at.result c.left.ensures c.operand_at.ensures ∙ (by_filter (spec.single c.args.depth) c.args.self.now c.operand_at.result c.in_default.not-Step ∙ followed_at path_of (spec.filtered (spec.single c.args.depth) (operand_of c.operand_at.result)) (spec.steps (spec.single c.args.depth)) c.args.self.now c.filtered.new.self c.steps-in_default.new.self c.in_ok-filter-in_default.filter c.in_ok-rest-in_default.rest c.in_ok-filter-in_default.ensures c.in_ok-rest-in_default.ensures)
    ∙ ap (λ e. let x : Option (Expr × List Token) = Some (e, c.steps-in_default.new.self) in x) (sym c.in_ok-path_of-in_default.ensures)

pub primary-returns-in-Group : goal.primary-returns-in-Group
primary-returns-in-Group t c =
    let is : operand_of c.args.operand ≡ spec.Operand.a_group c.in-Group.rest.now = ap operand_of c.in-Group.is in
    reads_by _ c.group.result _ _ (ap (group (spec.single c.args.depth)) c.goes_on-in-Group.ensures ∙ (sym (group_primary (spec.single c.args.depth) c.in-Group.rest.now) ∙ ap (spec.primary (spec.single c.args.depth)) (sym is))) c.group.ensures

pub primary-returns-in_ok-plain-in-Function : goal.primary-returns-in_ok-plain-in-Function
primary-returns-in_ok-plain-in-Function t c =
    let is : operand_of c.args.operand ≡ spec.Operand.a_function c.in-Function.word.now c.in-Function.rest.now = ap operand_of c.in-Function.is in
    let name : c.in_ok-plain-in-Function.field-0 ≡ grammar.plain c.in-Function.word.now = c.in_ok-plain-in-Function.ensures ∙ ap grammar.plain c.as_str.ensures in
    ap (spec.primary (spec.single c.args.depth)) is ∙ (function_primary (spec.single c.args.depth) c.in-Function.word.now c.in-Function.rest.now c.arguments.new.self c.in_ok-args-in-Function.args (ap (spec.arguments (spec.single c.args.depth)) (sym c.goes_on-in-Function.ensures) ∙ c.in_ok-args-in-Function.ensures)
    ∙ ap (λ n. let x : Option (Expr × List Token) = Some (expression.Fun n c.in_ok-args-in-Function.args, c.arguments.new.self) in x) (sym name))

pub primary-returns-in_ok-copy-in-Element : goal.primary-returns-in_ok-copy-in-Element
primary-returns-in_ok-copy-in-Element t c =
    let is : operand_of c.args.operand ≡ spec.Operand.an_element c.in-Element.name.now c.in-Element.rest.now = ap operand_of c.in-Element.is in
    ap (spec.primary (spec.single c.args.depth)) is ∙ (element_primary (spec.single c.args.depth) c.in-Element.name.now c.in-Element.rest.now c.content.new.self c.in_ok-content-in-Element.content (ap (spec.content spec.close_curly (spec.single c.args.depth)) (sym c.goes_on-in-Element.ensures) ∙ c.in_ok-content-in-Element.ensures)
    ∙ ap (λ n. let x : Option (Expr × List Token) = Some (expression.Element n c.in_ok-content-in-Element.content, c.content.new.self) in x) (sym c.in_ok-copy-in-Element.ensures))

pub primary-returns-in_ok-copy-in-Attribute : goal.primary-returns-in_ok-copy-in-Attribute
primary-returns-in_ok-copy-in-Attribute t c =
    let is : operand_of c.args.operand ≡ spec.Operand.an_attribute c.in-Attribute.name.now c.in-Attribute.rest.now = ap operand_of c.in-Attribute.is in
    ap (spec.primary (spec.single c.args.depth)) is ∙ (attribute_primary (spec.single c.args.depth) c.in-Attribute.name.now c.in-Attribute.rest.now c.content-in-Attribute.new.self c.in_ok-content-in-Attribute.content (ap (spec.content spec.close_curly (spec.single c.args.depth)) (sym c.goes_on-in-Attribute.ensures) ∙ c.in_ok-content-in-Attribute.ensures)
    ∙ ap (λ n. let x : Option (Expr × List Token) = Some (expression.Attribute n c.in_ok-content-in-Attribute.content, c.content-in-Attribute.new.self) in x) (sym c.in_ok-copy-in-Attribute.ensures))

pub primary-returns-in_ok-content-in-TextNode : goal.primary-returns-in_ok-content-in-TextNode
primary-returns-in_ok-content-in-TextNode t c =
    let is : operand_of c.args.operand ≡ spec.Operand.a_text_node c.in-TextNode.rest.now = ap operand_of c.in-TextNode.is in
    ap (spec.primary (spec.single c.args.depth)) is ∙ text_primary (spec.single c.args.depth) c.in-TextNode.rest.now c.content-in-TextNode.new.self c.in_ok-content-in-TextNode.content (ap (spec.content spec.close_curly (spec.single c.args.depth)) (sym c.goes_on-in-TextNode.ensures) ∙ c.in_ok-content-in-TextNode.ensures)
