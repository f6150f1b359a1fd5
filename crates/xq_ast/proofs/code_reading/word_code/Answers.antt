use Rattle.xq_ast.proofs.Tables.{words-AreWords}
use Rattle.xq_ast.proofs.code_reading.word_code.Goals as goal

pub code_among-requires : goal.code_among-requires
code_among-requires c = words-AreWords
