use Rattle.redo_log.proofs.Texts.{name_is_text}
use Rattle.redo_log.proofs.names.text_of.Goals as goal

pub unreachable-requires : goal.unreachable-requires
unreachable-requires c = c.in-Err.ensures.cases.0 (name_is_text c.args.bytes.now c.requires)
