-- Where a reading to the end stops early.
use Rattle.std.proofs.Common.{◌≡◌, ℕ, ◌+◌, ◌-◌, ◌<◌, ◌≤◌, Option, List, ◌++◌, length, take, Err, refl, arith, length-append, length-take}
use Rattle.std.specs.Io.KnownBytes.{prepend_known}
use Rattle.byte_edge.specs.declared.reading.ReadEnd.TheVariants.{TooLarge, NoMemory}
use Rattle.byte_edge.specs.Took.{Took}
use Rattle.byte_edge.proofs.Known.{prepend_more}

-- the bytes so far, and then a piece that a source hands over, within the limit and one more
module _ (limit len count : ℕ) (old now new : Option (List ℕ)) (bytes chunk : List ℕ) (counted : len ≡ length bytes) (within : len ≤ limit)
    (piece : count ≤ length chunk)
    (first : old ≡ prepend_known bytes now) (second : now ≡ prepend_known (take count chunk) new) where
  length-more : length (bytes ++ take count chunk) ≡ len + count
  length-more = omega (arith, length-append bytes (take count chunk), length-take count chunk)

  -- one byte more than the limit
  pub took_too_many : count ≤ (limit - len) + 1 → limit - len < count → Took limit old new (Err TooLarge)
  took_too_many most more = record {
    bytes = bytes ++ take count chunk;
    front = prepend_more old now new bytes (take count chunk) first second;
    at_most = omega (arith, length-more);
    too_large = (λ _. omega (arith, length-more), λ _. refl);
    answer = tt;
  }

  -- within the limit, and no memory for them
  pub took_in_vain : count ≤ limit - len → Took limit old new (Err NoMemory)
  took_in_vain le = record {
    bytes = bytes ++ take count chunk;
    front = prepend_more old now new bytes (take count chunk) first second;
    at_most = omega (arith, length-more);
    too_large = (λ is. absurd (cc is), λ lt. absurd (omega (arith, length-more)));
    answer = tt;
  }
