use Rattle.redo_log.proofs.Opened.{records_taken, records_go_on, records_are_one, records_are_sure, names_are_short}
use Rattle.redo_log.proofs.laws.scan_laws.Goals as goal

pub returns-clause-taken : goal.returns-clause-taken
returns-clause-taken c = records_taken

pub returns-clause-goes_on : goal.returns-clause-goes_on
returns-clause-goes_on c = records_go_on

pub returns-clause-one : goal.returns-clause-one
returns-clause-one c = records_are_one

pub returns-clause-sure : goal.returns-clause-sure
returns-clause-sure c = records_are_sure

pub returns-clause-short : goal.returns-clause-short
returns-clause-short c = names_are_short
