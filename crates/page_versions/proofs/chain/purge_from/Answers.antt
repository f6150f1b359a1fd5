use Rattle.std.proofs.Common.{◌≡◌, ◌≤◌, ◌<◌, ◌++◌, [], ◌∙◌, ap, sym, refl, take, drop, length, remove, arith, List, ◌∷◌, ℕ, suc, zero}
use Rattle.std.proofs.lemmas.List.{drop_all, take_all, append-nil}
use Rattle.page_versions.specs.Purging.{purge_below}
use Rattle.page_versions.proofs.Chaining.{purge_keep, purge_drop}
use Rattle.page_versions.proofs.chain.purge_from.Goals as goal

length-remove : {X : Type 0} (xs : List X) (i : ℕ) → i < length xs → suc (length (remove xs i)) ≡ length xs
length-remove [] i within = absurd (omega arith)
length-remove (x ∷ xs) zero within = refl
length-remove (x ∷ xs) (suc i) within = let rest = length-remove xs i (omega arith) in omega arith

pub loop-place-preserved-then-is_seen : goal.loop-place-preserved-then-is_seen
loop-place-preserved-then-is_seen c = record {
  cut = purge_keep c.args.snapshots.now.slots c.loop-place.versions.items c.loop-place.place c.index.result.now c.loop-place.above (omega arith) c.index.ensures
      (sym c.is_seen.ensures ∙ c.if-is_seen.true) ∙ c.loop-place.invariant.cut;
  within = omega arith;
}

pub loop-place-preserved : goal.loop-place-preserved
loop-place-preserved c =
    let xs = c.loop-place.versions.items in let place = c.loop-place.place in let less : place < length xs = omega arith in record {
      cut = ap (λ ys. take place ys ++ purge_below c.args.snapshots.now.slots c.loop-place.above (drop place ys)) c.take_out.ensures
          ∙ purge_drop c.args.snapshots.now.slots xs place c.index.result.now c.loop-place.above less c.index.ensures (sym c.is_seen.ensures
          ∙ c.if-is_seen.false) ∙ c.loop-place.invariant.cut;
      within = let fewer = length-remove xs place less in let e = ap length c.take_out.ensures in omega arith;
    }

pub loop-place-smaller : goal.loop-place-smaller
loop-place-smaller c =
    let xs = c.loop-place.versions.items in let place = c.loop-place.place in let less : place < length xs = omega arith in
    let fewer = length-remove xs place less in let e = ap length c.take_out.ensures in omega arith

pub returns : goal.returns
returns c =
    let xs = c.loop-place.versions.items in let place = c.loop-place.place in let past : length xs ≤ place = omega arith in
    sym (append-nil xs) ∙ ap (λ ys. ys ++ []) (sym (take_all place xs past))
    ∙ ap (λ ys. take place xs ++ purge_below c.args.snapshots.now.slots c.loop-place.above ys) (sym (drop_all place xs past)) ∙ c.loop-place.invariant.cut
