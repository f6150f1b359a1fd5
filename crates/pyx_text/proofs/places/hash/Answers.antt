use Rattle.std.proofs.Common.{◌≡◌, ◌<◌, ◌∙◌, length, get_or, refl, sym, ap, arith}
use Rattle.std.proofs.lemmas.List.Sums.{fold_more}
use Rattle.pyx_text.specs.Ways.{hash_more, hash_of}
use Rattle.pyx_text.proofs.places.hash.Goals as goal

pub loop-byte-init : goal.loop-byte-init
unfolding hash_of
loop-byte-init c = record { so_far = refl; small = omega arith }

pub loop-byte-preserved : goal.loop-byte-preserved
unfolding hash_of
loop-byte-preserved c =
    let lt : c.loop-byte.byte-index < length c.args.name.now = omega arith in
    record {
      so_far = ap (λ h. hash_more h (get_or c.args.name.now c.loop-byte.byte-index 0)) c.loop-byte.invariant.so_far
          ∙ sym (fold_more hash_more 0 c.args.name.now c.loop-byte.byte-index 0 lt);
      small = omega arith;
    }
