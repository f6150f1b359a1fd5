use Rattle.flat_doc.proofs.TextLines.{characters_utf8}
use Rattle.flat_doc.proofs.typed.characters.Goals as goal

pub returns : goal.returns
returns c = characters_utf8 c.args.value.now c.string.ensures
