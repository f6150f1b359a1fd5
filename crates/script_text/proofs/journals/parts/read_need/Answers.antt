use Rattle.std.proofs.Common.{Some, subst}
use Rattle.script_text.specs.JournalSteps.{ReadsQuoted}
use Rattle.script_text.proofs.Quoted.{no_mode}
use Rattle.script_text.proofs.journals.parts.read_need.Goals as goal

pub returns : goal.returns
returns c =
    let read : ReadsQuoted (Some c.in-Some.found) c.args.text.now = subst (λ o. ReadsQuoted o c.args.text.now) c.in-Some.is c.in_ok-found.ensures in
    no_mode c.in-Some.found.name c.in-Some.found.rest.now c.args.text.now read.1 read.2 c.in-None.ensures
