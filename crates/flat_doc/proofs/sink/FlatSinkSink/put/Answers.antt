use Rattle.std.proofs.Common.{◌≡◌, ◌<◌, ◌+◌, ◌++◌, Some, length, take, drop, rules, sym, ap, ◌∙◌, subst, arith}
use Rattle.std.proofs.lemmas.List.{length-take-le, drop-append-le}
use Rattle.flat_doc.specs.Sink.{Written, IsWritten, running}
use Rattle.flat_doc.proofs.Running.{written}
use Rattle.flat_doc.proofs.sink.FlatSinkSink.put.Goals as goal

pub invariant_of-self-2 : goal.invariant_of-self-2
invariant_of-self-2 c =
    let room = c.in-Ok.ensures.ok in let full = c.make_room.new.full.items in let page = c.make_room.new.page in let at = c.make_room.new.at in
    let n = c.write_front-count.result in let more = take n c.args.bytes.now in
    let count : length more ≡ n = length-take-le n c.args.bytes.now c.write_front-count.ensures.within in
    let some : 0 < length c.args.bytes.now = search rules in
    let one = c.write_front-count.ensures.some some in let within = c.write_front-count.ensures.room in
    let done = written full page at more room.is_open (omega (arith, one, count)) (omega (arith, within, count)) in
    subst (λ m. IsWritten full c.write_front-count.new.page (at + m)) count
    (subst (λ p. IsWritten full p (at + length more)) (sym c.write_front-count.ensures.written) done.0)

pub returns-clause-appended : goal.returns-clause-appended
returns-clause-appended c =
    let room = c.in-Ok.ensures.ok in let full = c.make_room.new.full.items in let page = c.make_room.new.page in let at = c.make_room.new.at in
    let n = c.write_front-count.result in let more = take n c.args.bytes.now in
    let count : length more ≡ n = length-take-le n c.args.bytes.now c.write_front-count.ensures.within in
    let some : 0 < length c.args.bytes.now = search rules in
    let one = c.write_front-count.ensures.some some in let within = c.write_front-count.ensures.room in
    let done = written full page at more room.is_open (omega (arith, one, count)) (omega (arith, within, count)) in
    let runs : running full c.write_front-count.new.page (at + n) ≡ running full page at ++ more =
    (λ j. running full (c.write_front-count.ensures.written j) (at + sym count j)) ∙ done.1 in
    ap (λ l. Some (drop 8 l)) runs ∙ ap Some (drop-append-le 8 (running full page at) more room.is_open.has_length)
    ∙ ap (λ l. Some (drop 8 l ++ more)) room.kept ∙ ap (λ (w : Written). Some (w.text ++ more)) c.self.view_is
