use Rattle.std.proofs.Common.{◌<◌, ◌^◌, arith}
use Rattle.indirection.proofs.Giving.{add_means}
use Rattle.indirection.proofs.map.add.Goals as goal

pub returns-clause-meaning : goal.returns-clause-meaning
returns-clause-meaning c all numbers means =
    let to = c.args.to in let layer : to.layer < 2 ^ 56 = let most = c.requires.layer in omega (arith, most) in
    add_means c.args.work.now all c.args.space numbers means to c.give_number.ensures.fits.0 c.give_number.ensures.fits.1 layer c.requires.page
    c.give_number.result c.give_number.new.work c.give_number.ensures.pages
