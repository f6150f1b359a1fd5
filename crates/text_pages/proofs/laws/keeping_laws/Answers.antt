use Rattle.text_pages.proofs.Keepings.{put_keeps, remove_keeps, replace_keeps}
use Rattle.text_pages.proofs.laws.keeping_laws.Goals as goal

pub returns-clause-put : goal.returns-clause-put
returns-clause-put c = put_keeps

pub returns-clause-remove : goal.returns-clause-remove
returns-clause-remove c = remove_keeps

pub returns-clause-replace : goal.returns-clause-replace
returns-clause-replace c = replace_keeps
