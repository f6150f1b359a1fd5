use Rattle.std.proofs.Common.{◌≡◌, ◌<◌, ◌%◌, ◌-◌, ◌∙◌, length, sym, ap, subst, arith}
use Rattle.pyx_text.specs.Ways.{HoldsName}
use Rattle.pyx_text.proofs.Ways.{holds_name}
use Rattle.pyx_text.proofs.places.is_at.Goals as goal

pub returns-then-word-hash : goal.returns-then-word-hash
returns-then-word-hash c =
    let lt : c.number_in.result - 1 < length c.args.attrs.now = omega (arith, c.number_in.ensures, c.requires.some, c.requires.within) in
    subst (λ n. HoldsName c.eq.result c.args.attrs.now (n - 1) c.args.name.now) c.number_in.ensures
    (holds_name c.eq.result c.args.attrs.now (c.number_in.result - 1) c.index-attrs-number_in.result c.as_str.result.now c.args.name.now lt
    c.as_str.ensures (sym c.eq.ensures))
