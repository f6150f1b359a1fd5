use Rattle.std.proofs.Common.{◌∙◌, sym, ap, subst, ◌++◌, ◌∷◌, [], List, drop, length, arith}
use Rattle.std.proofs.lemmas.List.{drop-append-le}
use Rattle.xml_model.specs.declared.node.Attr.{Attr}
use Rattle.pyx_text.specs.Ways.{Tied}
use Rattle.pyx_text.proofs.Tied.{few_more, to_end}
use Rattle.pyx_text.proofs.open_tag.OpenTag.add.Goals as goal

pub invariant_of-self-then-len-lt-FEW : goal.invariant_of-self-then-len-lt-FEW
invariant_of-self-then-len-lt-FEW c = record {
  tied = subst (λ (l : List Attr). Tied l c.args.self.now.places.heads c.args.self.now.places.cells.items)
      (sym (ap (drop 16) (c.push_in_room.ensures.items ∙ ap (λ l. l ++ c.args.attr ∷ []) c.in_ok-reserve.ensures.items)
      ∙ few_more 16 c.args.self.now.attrs.items c.args.attr (omega (arith, c.if-len-lt-FEW.true, c.len.ensures, ap length c.in_ok-reserve.ensures.items))))
      c.args.self.now.tied;
}

pub invariant_of-self-2 : goal.invariant_of-self-2
invariant_of-self-2 c = record {
  tied = subst (λ (l : List Attr). Tied l c.add.new.self.heads c.add.new.self.cells.items)
      (ap (λ l. l ++ c.args.attr ∷ []) (to_end 16 c.deref.result.now ∙ ap (drop 16) (c.deref.ensures.value ∙ c.in_ok-reserve.ensures.items))
      ∙ sym (ap (drop 16) (c.push_in_room-2.ensures.items ∙ ap (λ l. l ++ c.args.attr ∷ []) c.in_ok-reserve.ensures.items)
      ∙ drop-append-le 16 c.args.self.now.attrs.items (c.args.attr ∷ [])
      (omega (arith, c.if-len-lt-FEW.false, c.len.ensures, ap length c.in_ok-reserve.ensures.items))))
      (c.in_ok-add.ensures.ok c.args.attr (sym c.as_str.ensures));
}
