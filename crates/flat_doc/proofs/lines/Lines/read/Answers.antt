use Rattle.std.proofs.Common.{◌∷◌, ◌++◌, Err, length, refl, ap, ◌∙◌, subst, arith}
use Rattle.std.proofs.lemmas.List.{length-append}
use Rattle.flat_doc.specs.Lines.{Reads}
use Rattle.flat_doc.proofs.LineByLine.{none_of_them, one_line_more, no_line_more, all_of_them}
use Rattle.flat_doc.proofs.lines.Lines.read.Goals as goal

pub loop-cut-init : goal.loop-cut-init
loop-cut-init c = record { space = refl; so_far = none_of_them c.args.bytes.now c.args.self.now.reader c.args.self.now.line.items }

pub returns-in-Err-clause-read : goal.returns-in-Err-clause-read
returns-in-Err-clause-read c text is =
    let l = c.loop-cut in let new = c.end_line.new.self.reader in let new_line = c.end_line.new.self.line.items in
    subst (λ s. Reads {T = Unit {0}} s (text ++ c.args.bytes.now) (Err c.in-Err.end) new new_line) l.invariant.space
    (no_line_more l.self.space text c.args.bytes.now l.rest.now c.in-Some.cut.line.now c.in-Some.cut.rest.now c.in-Err.end c.args.self.now.reader
    l.self.reader new c.args.self.now.line.items l.self.line.items new_line l.invariant.so_far c.in-Some.ensures is c.in-Err.ensures.read)

pub loop-cut-preserved : goal.loop-cut-preserved
loop-cut-preserved c =
    let l = c.loop-cut in
    record {
      space = c.in-Ok.ensures.space ∙ l.invariant.space;
      so_far = one_line_more c.args.bytes.now l.rest.now c.in-Some.cut.line.now c.in-Some.cut.rest.now c.args.self.now.reader l.self.reader
          c.end_line.new.self.reader c.args.self.now.line.items l.self.line.items c.end_line.new.self.line.items l.invariant.so_far
          c.in-Some.ensures c.in-Ok.ensures.read;
    }

pub loop-cut-smaller : goal.loop-cut-smaller
loop-cut-smaller c = omega (arith, ap length c.in-Some.ensures.whole, length-append c.in-Some.cut.line.now (10 ∷ c.in-Some.cut.rest.now))

pub returns-clause-read : goal.returns-clause-read
returns-clause-read c text is =
    let l = c.loop-cut in
    subst (λ s. Reads s (text ++ c.args.bytes.now) c.add.result c.add.new.self.reader c.add.new.self.line.items) l.invariant.space
    (all_of_them l.self.space text c.args.bytes.now l.rest.now c.add.result c.args.self.now.reader l.self.reader c.add.new.self.reader
    c.args.self.now.line.items l.self.line.items c.add.new.self.line.items l.invariant.so_far is c.add.ensures.read)
