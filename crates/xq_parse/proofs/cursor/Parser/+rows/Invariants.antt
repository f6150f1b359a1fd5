use Rattle.std.proofs.Common.{◌≡◌, ◌+◌, ◌*◌, length}
use Rattle.xq_ast.specs.Readings as spec
use Rattle.xq_parse.proofs.Loops.{behind}
use Rattle.xq_parse.proofs.cursor.Parser.+rows.Given as goal

abbrev pub decreases-single : goal.decreases-single
decreases-single l = 32 * l.depth

abbrev pub decreases-list : goal.decreases-list
decreases-list l = 32 * l.depth + 1

abbrev pub decreases-bind : goal.decreases-bind
decreases-bind l = 32 * l.depth + 1

abbrev pub decreases-let_bind : goal.decreases-let_bind
decreases-let_bind l = 32 * l.depth + 1

abbrev pub decreases-filter : goal.decreases-filter
decreases-filter l = 32 * l.depth + 1

abbrev pub decreases-sort_key : goal.decreases-sort_key
decreases-sort_key l = 32 * l.depth + 1

abbrev pub decreases-expr : goal.decreases-expr
decreases-expr l = 32 * l.depth + 2

abbrev pub decreases-arguments : goal.decreases-arguments
decreases-arguments l = 32 * l.depth + 2

abbrev pub decreases-binds : goal.decreases-binds
decreases-binds l = 32 * l.depth + 2

abbrev pub decreases-lets : goal.decreases-lets
decreases-lets l = 32 * l.depth + 2

abbrev pub decreases-sort_keys : goal.decreases-sort_keys
decreases-sort_keys l = 32 * l.depth + 2

abbrev pub decreases-predicate : goal.decreases-predicate
decreases-predicate l = 32 * l.depth + 3

abbrev pub decreases-group : goal.decreases-group
decreases-group l = 32 * l.depth + 3

abbrev pub decreases-content : goal.decreases-content
decreases-content l = 32 * l.depth + 3

abbrev pub decreases-clause : goal.decreases-clause
decreases-clause l = 32 * l.depth + 3

abbrev pub decreases-order : goal.decreases-order
decreases-order l = 32 * l.depth + 3

abbrev pub decreases-conditional : goal.decreases-conditional
decreases-conditional l = 32 * l.depth + 3

abbrev pub decreases-predicates : goal.decreases-predicates
decreases-predicates l = 32 * l.depth + 4

abbrev pub decreases-primary : goal.decreases-primary
decreases-primary l = 32 * l.depth + 4

abbrev pub decreases-clauses : goal.decreases-clauses
decreases-clauses l = 32 * l.depth + 4

abbrev pub decreases-step : goal.decreases-step
decreases-step l = 32 * l.depth + 5

abbrev pub decreases-filtered : goal.decreases-filtered
decreases-filtered l = 32 * l.depth + 5

abbrev pub decreases-flwor : goal.decreases-flwor
decreases-flwor l = 32 * l.depth + 5

abbrev pub decreases-steps : goal.decreases-steps
decreases-steps l = 32 * l.depth + 6

abbrev pub decreases-path : goal.decreases-path
decreases-path l = 32 * l.depth + 7

abbrev pub decreases-signed : goal.decreases-signed
decreases-signed l = 32 * l.depth + 8

abbrev pub decreases-union : goal.decreases-union
decreases-union l = 32 * l.depth + 9

abbrev pub decreases-product : goal.decreases-product
decreases-product l = 32 * l.depth + 10

abbrev pub decreases-sum : goal.decreases-sum
decreases-sum l = 32 * l.depth + 11

abbrev pub decreases-range : goal.decreases-range
decreases-range l = 32 * l.depth + 12

abbrev pub decreases-comparison : goal.decreases-comparison
decreases-comparison l = 32 * l.depth + 13

abbrev pub decreases-and : goal.decreases-and
decreases-and l = 32 * l.depth + 14

abbrev pub decreases-or : goal.decreases-or
decreases-or l = 32 * l.depth + 15

abbrev pub invariant-or-parts : goal.invariant-or-parts
invariant-or-parts l = (l.first ≡ l.initial.first) × (behind l.rest (spec.ors (spec.single l.depth) l.self) ≡ spec.ors (spec.single l.depth) l.initial.self)

abbrev pub decreases-or-parts : goal.decreases-or-parts
decreases-or-parts l = length l.self

abbrev pub invariant-and-parts : goal.invariant-and-parts
invariant-and-parts l = (l.first ≡ l.initial.first) × (behind l.rest (spec.ands (spec.single l.depth) l.self) ≡ spec.ands (spec.single l.depth) l.initial.self)

abbrev pub decreases-and-parts : goal.decreases-and-parts
decreases-and-parts l = length l.self

abbrev pub invariant-union-parts : goal.invariant-union-parts
invariant-union-parts l = (l.first ≡ l.initial.first) × (behind l.rest (spec.unions (spec.single l.depth) l.self) ≡ spec.unions (spec.single l.depth) l.initial.self)

abbrev pub decreases-union-parts : goal.decreases-union-parts
decreases-union-parts l = length l.self

abbrev pub invariant-sum-parts : goal.invariant-sum-parts
invariant-sum-parts l = (l.first ≡ l.initial.first) × (behind l.rest (spec.sum_parts (spec.single l.depth) l.self) ≡ spec.sum_parts (spec.single l.depth) l.initial.self)

abbrev pub decreases-sum-parts : goal.decreases-sum-parts
decreases-sum-parts l = length l.self

abbrev pub invariant-product-parts : goal.invariant-product-parts
invariant-product-parts l = (l.first ≡ l.initial.first) × (behind l.rest (spec.product_parts (spec.single l.depth) l.self) ≡ spec.product_parts (spec.single l.depth) l.initial.self)

abbrev pub decreases-product-parts : goal.decreases-product-parts
decreases-product-parts l = length l.self

abbrev pub invariant-predicates-preds : goal.invariant-predicates-preds
invariant-predicates-preds l = behind l.preds (spec.preds (spec.single l.depth) l.self) ≡ spec.preds (spec.single l.depth) l.initial.self

abbrev pub decreases-predicates-preds : goal.decreases-predicates-preds
decreases-predicates-preds l = length l.self

abbrev pub invariant-steps-steps : goal.invariant-steps-steps
invariant-steps-steps l = behind l.steps (spec.steps (spec.single l.depth) l.self) ≡ spec.steps (spec.single l.depth) l.initial.self

abbrev pub decreases-steps-steps : goal.decreases-steps-steps
decreases-steps-steps l = length l.self

abbrev pub invariant-list-parts : goal.invariant-list-parts
invariant-list-parts l = behind l.parts (spec.commas (spec.single l.depth) l.self) ≡ behind l.initial.parts (spec.commas (spec.single l.depth) l.initial.self)

abbrev pub decreases-list-parts : goal.decreases-list-parts
decreases-list-parts l = length l.self

abbrev pub invariant-binds-binds : goal.invariant-binds-binds
invariant-binds-binds l = behind l.binds (spec.more_binds (spec.single l.depth) l.self) ≡ behind l.initial.binds (spec.more_binds (spec.single l.depth) l.initial.self)

abbrev pub decreases-binds-binds : goal.decreases-binds-binds
decreases-binds-binds l = length l.self

abbrev pub invariant-lets-binds : goal.invariant-lets-binds
invariant-lets-binds l = behind l.binds (spec.more_lets (spec.single l.depth) l.self) ≡ behind l.initial.binds (spec.more_lets (spec.single l.depth) l.initial.self)

abbrev pub decreases-lets-binds : goal.decreases-lets-binds
decreases-lets-binds l = length l.self

abbrev pub invariant-sort_keys-keys : goal.invariant-sort_keys-keys
invariant-sort_keys-keys l = behind l.keys (spec.more_keys (spec.single l.depth) l.self) ≡ behind l.initial.keys (spec.more_keys (spec.single l.depth) l.initial.self)

abbrev pub decreases-sort_keys-keys : goal.decreases-sort_keys-keys
decreases-sort_keys-keys l = length l.self

abbrev pub invariant-clauses-clauses : goal.invariant-clauses-clauses
invariant-clauses-clauses l = behind l.binds (spec.more_clauses (spec.single l.depth) l.self) ≡ behind l.initial.binds (spec.more_clauses (spec.single l.depth) l.initial.self)

abbrev pub decreases-clauses-clauses : goal.decreases-clauses-clauses
decreases-clauses-clauses l = length l.self
