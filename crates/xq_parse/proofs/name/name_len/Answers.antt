use Rattle.xq_parse.proofs.Steps.{name_of_both, take_rest}
use Rattle.xq_parse.proofs.name.name_len.Goals as goal

pub returns-clause-name : goal.returns-clause-name
returns-clause-name c = name_of_both c.args.bytes.now _ c.part_len-first.result c.second_len.result c.part_len-first.ensures.count
    (take_rest c.part_len-first.result c.args.bytes.now) c.second_len.ensures.second
