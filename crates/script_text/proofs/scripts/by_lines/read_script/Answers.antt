use Rattle.xml_model.specs.Pyx.{split_lines}
use Rattle.script_text.proofs.Few.{few_sessions}
use Rattle.script_text.proofs.scripts.by_lines.read_script.Goals as goal

pub returns-in-Ok-clause-few : goal.returns-in-Ok-clause-few
returns-in-Ok-clause-few c = few_sessions (split_lines c.args.bytes.now) c.in-Ok.script c.in-Ok.ensures
