use Rattle.std.proofs.Common.{inl, inr, Err}
use Rattle.flat_doc.proofs.Standing.{answers}
use Rattle.flat_doc.proofs.flat.get_flat.Goals as goal

pub returns-in-Ok-clause-meaning : goal.returns-in-Ok-clause-meaning
returns-in-Ok-clause-meaning g c all doc stands =
    answers (g.P.Pages.known c.args.pages.now) all c.args.space doc c.read_text.result stands c.read_text.ensures

pub returns-in-Err-clause-meaning : goal.returns-in-Err-clause-meaning
returns-in-Err-clause-meaning g c all doc stands =
    answers (g.P.Pages.known c.args.pages.now) all c.args.space doc (Err c.in-Err.end) stands (inr (inl c.in-Err.ensures.refused))
