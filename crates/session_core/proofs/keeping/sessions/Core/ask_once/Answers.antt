use Rattle.std.proofs.Common.{subst}
use Rattle.session_core.specs.Keeping.Kept.{AskEnds}
use Rattle.session_core.specs.Keeping.CoreCalls.{refused}
use Rattle.session_core.proofs.keeping.sessions.Core.ask_once.Goals as goal

pub returns-in-Err-Held-clause-asked : goal.returns-in-Err-Held-clause-asked
returns-in-Err-Held-clause-asked c =
    let end = subst (AskEnds c.args.session c.args.needs.now c.args.self.now c.ask.new.self) c.in-Err-Held.field-0-is c.in-Err-Held.ensures.refused in
    refused _ _ end.0 end.1
