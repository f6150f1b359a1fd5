use Rattle.std.proofs.Common.{◌≡◌, ◌++◌, ◌∷◌, [], List, ℕ, sym, subst}
use Rattle.pyx_text.specs.Ways.{Tied}
use Rattle.pyx_text.proofs.Ways.{twice_fits}
use Rattle.pyx_text.proofs.places.Places.put.Goals as goal

pub returns-in_default-clause-ok : goal.returns-in_default-clause-ok
returns-in_default-clause-ok c = λ a same. subst (λ (l : List ℕ). Tied (c.args.attrs.now ++ a ∷ []) c.args.self.now.heads l)
    (sym c.in_ok-extend_from_slice.ensures.items)
    (twice_fits c.args.attrs.now c.args.self.now.heads c.args.self.now.cells.items c.args.name.now c.requires.headed c.requires.tied
    (sym c.in_default.ensures.has) a same)
