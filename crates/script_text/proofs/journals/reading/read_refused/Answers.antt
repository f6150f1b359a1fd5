use Rattle.std.proofs.Common.{Some, refl, subst}
use Rattle.script_text.specs.JournalSteps.{ReadsQuoted}
use Rattle.script_text.proofs.EventRows.{holder_missing, no_holder}
use Rattle.script_text.proofs.journals.reading.read_refused.Goals as goal

pub returns-in_default-behind : goal.returns-in_default-behind
returns-in_default-behind c =
    let read : ReadsQuoted (Some c.in-Some.found) c.args.rest.now = subst (λ o. ReadsQuoted o c.args.rest.now) c.in-Some.is c.in_ok-found.ensures in
    holder_missing c.args.session c.in-Some.found.name c.in-Some.found.rest.now c.args.rest.now read.1 read.2 c.in_default-behind.ensures

pub returns-in-None : goal.returns-in-None
returns-in-None c =
    let read : ReadsQuoted (Some c.in-Some.found) c.args.rest.now = subst (λ o. ReadsQuoted o c.args.rest.now) c.in-Some.is c.in_ok-found.ensures in
    no_holder c.args.session c.in-Some.found.name c.in-Some.found.rest.now c.in-Some-behind.digits.now c.args.rest.now read.1 read.2 c.in-Some-behind.ensures
    (c.in-None.ensures.none refl)
