use Rattle.std.proofs.Common.{◌≡◌, ◌++◌, drop, map}
use Rattle.xq_ast.specs.Documents.{joined, documents, bind_documents, key_documents, sum_documents, product_documents, step_documents}
use Rattle.xq_ast.proofs.+documents.Given as goal

abbrev pub invariant-documents::add_exprs-loop-expr : goal.invariant-documents::add_exprs-loop-expr
invariant-documents::add_exprs-loop-expr l = l.names ++ joined (map documents (drop l.expr-index l.expr-items)) ≡ l.initial.names ++ joined (map documents l.expr-items)

abbrev pub invariant-documents::add_binds-loop-bind : goal.invariant-documents::add_binds-loop-bind
invariant-documents::add_binds-loop-bind l = l.names ++ joined (map bind_documents (drop l.bind-index l.bind-items)) ≡ l.initial.names ++ joined (map bind_documents l.bind-items)

abbrev pub invariant-documents::add_keys-loop-key : goal.invariant-documents::add_keys-loop-key
invariant-documents::add_keys-loop-key l = l.names ++ joined (map key_documents (drop l.key-index l.key-items)) ≡ l.initial.names ++ joined (map key_documents l.key-items)

abbrev pub invariant-documents::add_sum_parts-loop-part : goal.invariant-documents::add_sum_parts-loop-part
invariant-documents::add_sum_parts-loop-part l = l.names ++ joined (map sum_documents (drop l.part-index l.part-items)) ≡ l.initial.names ++ joined (map sum_documents l.part-items)

abbrev pub invariant-documents::add_product_parts-loop-part : goal.invariant-documents::add_product_parts-loop-part
invariant-documents::add_product_parts-loop-part l = l.names ++ joined (map product_documents (drop l.part-index l.part-items)) ≡ l.initial.names ++ joined (map product_documents l.part-items)

abbrev pub invariant-documents::add_steps-loop-step : goal.invariant-documents::add_steps-loop-step
invariant-documents::add_steps-loop-step l = l.names ++ joined (map step_documents (drop l.step-index l.step-items)) ≡ l.initial.names ++ joined (map step_documents l.step-items)
