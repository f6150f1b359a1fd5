use Rattle.std.proofs.Common.{[], IsTrue, refl, sym, subst}
use Rattle.xq_ast.specs.Names.{is_document_name}
use Rattle.xml_model.specs.Document.{IsValid}
use Rattle.xml_model.proofs.ReadIsValid.{read_is_valid}
use Rattle.session_tests.proofs.session_core_calls.created.Goals as goal

pub insert-requires-clause-named : goal.insert-requires-clause-named
insert-requires-clause-named c = subst (λ name. IsTrue (is_document_name name)) (sym c.in_ok-d.ensures) refl

pub insert-requires-clause-valid : goal.insert-requires-clause-valid
insert-requires-clause-valid c = subst (λ kids. IsValid (record { kids = kids })) (sym c.new-kids.ensures) (read_is_valid [] (record { kids = [] }) refl)
