use Rattle.std.proofs.Common.{◌≡◌, ◌+◌, ◌*◌, [], ◌∷◌, ◌++◌, length, vec_len, rules, sym, ap, ◌∙◌, arith}
use Rattle.flat_doc.specs.Putting.{flat_pages}
use Rattle.flat_doc.specs.Sink.{Written, with_length}
use Rattle.flat_doc.proofs.Running.{finished}
use Rattle.flat_doc.proofs.sink.FlatSink.finish.Goals as goal

pub returns-clause-pages : goal.returns-clause-pages
returns-clause-pages c =
    let i = c.self.inside in let n = c.in-Some.length in
    let len : vec_len i.full ≡ length i.full.items = search rules in
    let done = finished i.full.items i.page i.at n c.self.invariant (c.in-Some.ensures ∙ ap (λ l. l * 4095 + i.at) (c.len.ensures ∙ len)) in
    let items : c.push_reserved.new.self.items ≡ i.full.items ++ i.page ∷ [] =
    c.push_reserved.ensures.items ∙ ap (λ l. l ++ i.page ∷ []) c.reserve.ensures.items in
    c.set_length.ensures ∙ ap (λ l. with_length l n) items ∙ done.0 ∙ ap (λ (w : Written). flat_pages w.text) c.self.view_is

pub returns-clause-length : goal.returns-clause-length
returns-clause-length c =
    let i = c.self.inside in let n = c.in-Some.length in
    let len : vec_len i.full ≡ length i.full.items = search rules in
    let done = finished i.full.items i.page i.at n c.self.invariant (c.in-Some.ensures ∙ ap (λ l. l * 4095 + i.at) (c.len.ensures ∙ len)) in
    let text : length c.args.self.text ≡ n = ap (λ (w : Written). length w.text) (sym c.self.view_is) ∙ done.1 in
    omega (arith, text)
