-- Answers that stand for defined ones.
use Rattle.std.proofs.Common.{Result, Ok, Err, refl}
use Rattle.xq_ast.specs.declared.code.Code.{Code}
use Rattle.xq_edits.specs.Finds.{Finds}
use Rattle.xq_nodes.specs.Answers.{IsFault}
use Rattle.xq_nodes.specs.declared.end.EvalEnd.{EvalEnd}
use Rattle.xq_nodes.specs.declared.end.EvalEnd.TheVariants as ends

module _ {A B F : Type 0} (honest : Type 0) (passes : F → Type 0) (stands : A → B → Type 0) where
  -- what stands for the defined value is found
  pub found_so : (x : A) (d : B) → (honest → stands x d) → Finds honest passes stands (Ok x) (Ok d)
  found_so x d h = λ b. record { value = d; is = refl; stands_for = h b }

  -- a fault of a call that meets no code ends any call
  pub ended_so : (e : EvalEnd F) (defined : Result B Code) → IsFault passes e → Finds honest passes stands (Err e) defined
  ended_so (ends.Code code) defined h = absurd h
  ended_so (ends.Nav fault) defined h = h
  ended_so ends.NoMemory defined h = tt
