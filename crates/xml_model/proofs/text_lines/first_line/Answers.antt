use Rattle.std.proofs.Common.{◌≢◌, [], rules}
use Rattle.xml_model.proofs.TextLines.{first_at_newline, first_of_one}
use Rattle.xml_model.proofs.text_lines.first_line.Goals as goal

pub returns-in-Some : goal.returns-in-Some
returns-in-Some c = first_at_newline _ _ _ c.in-Some.ensures

pub returns-in-None : goal.returns-in-None
returns-in-None c =
    let some : c.args.text.now ≢ [] = search rules in
    first_of_one _ some c.in-None.ensures
