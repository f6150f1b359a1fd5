use Rattle.redo_log.proofs.OpensBy.{opens, opened_by, head_is_short}
use Rattle.redo_log.proofs.HeadTakes.{head_spelled}
use Rattle.redo_log.proofs.opening.opening_laws.Goals as goal

pub returns-clause-opens : goal.returns-clause-opens
returns-clause-opens c = opens

pub returns-clause-opened_by : goal.returns-clause-opened_by
returns-clause-opened_by c = opened_by

pub returns-clause-head : goal.returns-clause-head
returns-clause-head c = head_spelled

pub returns-clause-short : goal.returns-clause-short
returns-clause-short c = head_is_short
