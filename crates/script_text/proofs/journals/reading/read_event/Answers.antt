use Rattle.std.proofs.Common.{refl}
use Rattle.script_text.proofs.TextTells.{no_event_in_line, no_event_at_line, event_answered}
use Rattle.script_text.proofs.journals.reading.read_event.Goals as goal

pub returns-in_default : goal.returns-in_default
returns-in_default c = no_event_in_line c.args.text.now c.in_default.ensures

pub returns-in-Some-line_start : goal.returns-in-Some-line_start
returns-in-Some-line_start c =
    let start = c.in-Some-line_start.start in
    event_answered c.read_behind.result c.args.text.now c.in-Some.line.now c.in-Some.behind.now start.session start.row start.rest.now c.in-Some.ensures
    c.in-Some-line_start.ensures.session c.in-Some-line_start.ensures.found c.read_behind.ensures

pub returns-in-None : goal.returns-in-None
returns-in-None c = no_event_at_line c.args.text.now c.in-Some.line.now c.in-Some.behind.now c.in-Some.ensures (c.in-None.ensures.none refl)
