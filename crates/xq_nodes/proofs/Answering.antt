-- Answers of calls, as answers of the calls that make them.
use Rattle.std.proofs.Common.{◌≡◌, Result, Ok, Err, IfOk, IfErr, ap, sym, ◌∙◌}
use Rattle.xq_ast.specs.declared.code.Code.{Code}
use Rattle.xq_nodes.specs.Answers.{Looks, IsFault}
use Rattle.xq_nodes.specs.declared.end.EvalEnd.{EvalEnd}
use Rattle.xq_nodes.specs.declared.end.EvalEnd.TheVariants as ends

module _ {A B F : Type 0} (honest : Type 0) (passes : F → Type 0) (seen : A → B) where
  -- a fault of a call that meets no code ends any call
  pub ended_so : (e : EvalEnd F) (defined : Result B Code) → IsFault passes e → Looks honest passes seen (Err e) defined
  ended_so (ends.Code code) defined h = absurd h
  ended_so (ends.Nav fault) defined h = h
  ended_so ends.NoMemory defined h = tt

  -- a call that meets no code and gives what is defined
  pub looks_so : (r : Result A (EvalEnd F)) (d : B) → IfOk r (λ x. honest → seen x ≡ d) → IfErr r (IsFault passes) → Looks honest passes seen r (Ok d)
  looks_so (Ok x) d h f = λ b. ap Ok (sym (h b))
  looks_so (Err e) d h f = ended_so e (Ok d) f

  -- where the defined answer is the same, the answer is
  pub looks_same : (r : Result A (EvalEnd F)) (d e : Result B Code) → (honest → d ≡ e) → Looks honest passes seen r d → Looks honest passes seen r e
  looks_same (Ok x) d e same h = λ b. sym (same b) ∙ h b
  looks_same (Err (ends.Code code)) d e same h = λ b. sym (same b) ∙ h b
  looks_same (Err (ends.Nav fault)) d e same h = h
  looks_same (Err ends.NoMemory) d e same h = h
