use Rattle.std.proofs.Common.{◌≡◌, true, false, sym, ◌∙◌}
use Rattle.std.proofs.lemmas.Slice.Eq.{bytes_eq-Decides}
use Rattle.xq_ast.proofs.Codes.{no_second, second_part}
use Rattle.xq_ast.proofs.code_reading.behind_word.Goals as goal

pub returns-else-eq : goal.returns-else-eq
returns-else-eq c = λ rest e.
    let same : c.args.word.now ≡ c.in-Some.first.now =
    (second_part c.args.text.now c.in-Some.first.now c.in-Some.rest.now c.args.word.now rest c.in-Some.ensures c.requires (sym e)).0 in
    let tested = (bytes_eq-Decides c.in-Some.first.now c.args.word.now).1 (sym same) in
    let other : true ≡ false = sym tested ∙ (sym c.eq.ensures ∙ c.if-eq.false) in
    cc

pub returns-in-None : goal.returns-in-None
returns-in-None c = λ rest e. no_second c.args.text.now c.args.word.now rest c.in-None.ensures (sym e)
