use Rattle.std.proofs.Common.{◌≡◌, ◌-◌, ◌++◌, Some, List, ℕ, length, take, drop, min, sym, ap, ◌∙◌, arith}
use Rattle.std.proofs.lemmas.List.{take_rest}
use Rattle.byte_edge.specs.Memory.{Supply}
use Rattle.byte_edge.proofs.Known.{handed_over}
use Rattle.byte_edge.proofs.mem_source.MemSourceSource.take.Goals as goal

pub returns-clause-taken : goal.returns-clause-taken
returns-clause-taken c =
    let held = c.self.inside.held.items in let at = c.self.inside.at in let count = c.copy_front-count.result in
    let all : take (length c.deref-2.result.now - at) (drop at c.deref-2.result.now) ≡ drop at held =
    take_rest c.deref-2.result.now at ∙ ap (drop at) c.deref-2.ensures.value in
    let few : count ≡ min (length c.args.into.now) (length (drop at held)) = c.copy_front-count.ensures.count
    ∙ ap (λ (l : List ℕ). min (length c.args.into.now) (length l)) all in
    let copied : c.copy_front-count.new.into ≡ take count (drop at held) ++ drop count c.args.into.now = c.copy_front-count.ensures.copied
    ∙ ap (λ (l : List ℕ). take count l ++ drop count c.args.into.now) all in
    ap Some (ap (λ (s : Supply). s.rest) (sym c.self.view_is) ∙ handed_over count at held c.args.into.now c.copy_front-count.new.into (omega arith) copied)
