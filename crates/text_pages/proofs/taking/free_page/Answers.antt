use Rattle.std.proofs.Common.{IsTrue, sym, subst}
use Rattle.page_bytes.specs.Head.{head_of}
use Rattle.page_bytes.specs.Known.{is_there}
use Rattle.page_bytes.specs.Work.{Work}
use Rattle.page_bytes.proofs.PageWrites.{head_there_without}
use Rattle.text_pages.proofs.taking.free_page.Goals as goal

pub write_first-requires : goal.write_first-requires
write_first-requires c =
    subst (λ (w : Work). IsTrue (is_there w.now (head_of c.args.space))) (sym c.in_ok-free.ensures.ok)
    (head_there_without c.args.work.now c.args.space c.args.number c.requires.beside c.in_ok-first.ensures.there)
