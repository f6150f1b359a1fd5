use Rattle.slot_store.proofs.Naming.{used_named}
use Rattle.slot_store.proofs.Fits.{walk_tabled}
use Rattle.slot_store.proofs.slot_set.only_named.Goals as goal

pub returns : goal.returns
returns c = used_named c.args.state.now c.args.versions.now c.args.commit c.requires.newest c.exact.ensures
    (walk_tabled c.args.state.now c.args.versions.now c.args.commit c.requires.fits)
