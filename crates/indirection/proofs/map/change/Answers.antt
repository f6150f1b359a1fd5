use Rattle.std.proofs.Common.{◌<◌, ◌^◌, arith}
use Rattle.indirection.proofs.Ending.{change_means}
use Rattle.indirection.proofs.map.change.Goals as goal

pub returns-clause-meaning : goal.returns-clause-meaning
returns-clause-meaning c all numbers means =
    let to = c.args.to in let layer : to.layer < 2 ^ 56 = let most = c.requires.layer in omega (arith, most) in
    change_means c.args.work.now all c.args.space numbers means c.args.no.0 to c.set_address.ensures.fits.0 c.set_address.ensures.fits.1 layer c.requires.page
    c.set_address.result c.set_address.new.work c.set_address.ensures.pages
