use Rattle.redo_log.specs.Store.{no_image, whole_image}
use Rattle.redo_log.proofs.Alike.{store_pages, same_pages}
use Rattle.redo_log.proofs.Own.{spaces_stay_own}
use Rattle.redo_log.proofs.laws.page_laws.Goals as goal

pub returns-clause-store : goal.returns-clause-store
returns-clause-store c = store_pages

pub returns-clause-keys : goal.returns-clause-keys
returns-clause-keys c = same_pages no_image whole_image

pub returns-clause-own : goal.returns-clause-own
returns-clause-own c = spaces_stay_own
