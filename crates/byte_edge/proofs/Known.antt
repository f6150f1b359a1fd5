-- Known bytes that are taken or appended in parts.
use Rattle.std.proofs.Common.{◌≡◌, ℕ, ◌+◌, ◌-◌, ◌≤◌, Option, Some, None, List, ◌++◌, length, take, drop, refl, sym, ap, ◌∙◌, arith, append_assoc, length-take, length-drop, take-append-drop}
use Rattle.std.proofs.lemmas.List.{take_at, take_rest, drop-drop}
use Rattle.std.proofs.Math.Seq.{take-add}
use Rattle.std.specs.Io.KnownBytes.{prepend_known, append_known}

-- appending two lists in turn appends both
pub append-append : (o : Option (List ℕ)) (xs ys : List ℕ) → append_known (append_known o xs) ys ≡ append_known o (xs ++ ys)
append-append None xs ys = refl
append-append (Some zs) xs ys = ap Some (append_assoc zs xs ys)

-- bytes before bytes before known ones
pub prepend-prepend : (xs ys : List ℕ) (o : Option (List ℕ)) → prepend_known xs (prepend_known ys o) ≡ prepend_known (xs ++ ys) o
prepend-prepend xs ys None = refl
prepend-prepend xs ys (Some zs) = ap Some (sym (append_assoc xs ys zs))

-- the first a bytes are appended, and then n more
pub append_more : (o now new : Option (List ℕ)) (bytes : List ℕ) (a n : ℕ) → now ≡ append_known o (take a bytes)
    → new ≡ append_known now (take n (take (length bytes - a) (drop a bytes)))
    → new ≡ append_known o (take (a + n) bytes)
append_more o now new bytes a n first second = second ∙ (ap (λ (k : Option (List ℕ)). append_known k (take n (take (length bytes - a) (drop a bytes)))) first
    ∙ (append-append o (take a bytes) (take n (take (length bytes - a) (drop a bytes)))
    ∙ ap (append_known o) (ap (λ (l : List ℕ). take a bytes ++ take n l) (take_rest bytes a) ∙ sym (take-add a n bytes))))

-- and there are so many
pub within_more : (bytes : List ℕ) (a n : ℕ) → a ≤ length bytes → n ≤ length (take (length bytes - a) (drop a bytes)) → a + n ≤ length bytes
within_more bytes a n le more = omega (arith, length-take (length bytes - a) (drop a bytes), length-drop a bytes)

-- n bytes that were copied to the front of a buffer stand there
pub front_of_copy : (n : ℕ) (bytes rest : List ℕ) → n ≤ length bytes → take n (take n bytes ++ rest) ≡ take n bytes
front_of_copy n bytes rest le = take_at (take n bytes) rest n (omega (arith, length-take n bytes))

-- what a source in memory hands over, and then what is left of its bytes
pub handed_over : (n at : ℕ) (held old now : List ℕ) → n ≤ length (drop at held) → now ≡ take n (drop at held) ++ drop n old
    → drop at held ≡ take n now ++ drop (at + n) held
handed_over n at held old now le copied = sym (ap (λ (l : List ℕ). take n l ++ drop (at + n) held) copied
    ∙ (ap (λ (l : List ℕ). l ++ drop (at + n) held) (front_of_copy n (drop at held) (drop n old) le)
    ∙ (ap (λ (l : List ℕ). take n (drop at held) ++ l) (sym (drop-drop n at held)) ∙ take-append-drop n (drop at held))))

-- bytes so far, and then a piece that a source hands over
pub prepend_more : (old now new : Option (List ℕ)) (xs ys : List ℕ) → old ≡ prepend_known xs now → now ≡ prepend_known ys new
    → old ≡ prepend_known (xs ++ ys) new
prepend_more old now new xs ys first second = first ∙ (ap (prepend_known xs) second ∙ prepend-prepend xs ys new)
