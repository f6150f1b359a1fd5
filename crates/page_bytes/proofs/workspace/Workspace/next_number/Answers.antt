use Rattle.std.proofs.Common.{ℕ}
use Rattle.page_bytes.proofs.Refusals.{fresh_refusal-head}
use Rattle.page_bytes.proofs.workspace.Workspace.next_number.Goals as goal

pub returns-in-Err-clause-refused : goal.returns-in-Err-clause-refused
returns-in-Err-clause-refused c = fresh_refusal-head ℕ c.args.self.now.now c.args.space c.in-Err.end c.in-Err.ensures.refusal
