use Rattle.script_text.proofs.Quoted.{quoted_read}
use Rattle.script_text.proofs.journals.parts.read_quoted.Goals as goal

pub returns-in-Some : goal.returns-in-Some
returns-in-Some c = quoted_read c.read_name.result c.in-Some.rest.now c.args.text.now c.in-Some.ensures c.read_name.ensures
