-- Closing a gate that is the first byte of a file.
use Rattle.std.proofs.Common.{◌≡◌, ℕ, ◌<◌, List, [], ◌∷◌, length, get_or, Bool, true, false, refl, sym, ap, ◌∙◌, subst, arith, rules}
use Rattle.page_device.specs.declared.device.Which.{Which}
use Rattle.page_device.specs.Image.{Image, bytes_of, with_bytes, SameOthers}
use Rattle.page_device.specs.Write.{overlay, Torn}
use Rattle.page_device.specs.Device.{FileIs}
use Rattle.page_device.specs.Gate.{IsSettled}
use Rattle.page_device.specs.Run.{Each, InPart}
use Rattle.page_device.proofs.Gate.{torn_gate}
use Rattle.page_device.proofs.Replay.{with_own}
use Rattle.page_device.proofs.Runs.{bytes_of-with_bytes}
use Rattle.slot_store.specs.Steps.{From, HasGate, GateMoved, IsClosed}

-- a list that is not empty begins with its first element
pub first_of : (l : List ℕ) → 0 < length l → (rest : List ℕ) × (l ≡ get_or l 0 0 ∷ rest)
first_of [] some = absurd (omega (arith, some))
first_of (x ∷ xs) some = (xs, refl)

-- a gate that is not touched
pub gate_still : (file : Which) (i : Image) → HasGate file i → GateMoved file i i
gate_still file i has = let first = first_of (bytes_of i file) has in record {
  others = with_own i file;
  before = get_or (bytes_of i file) 0 0;
  after = get_or (bytes_of i file) 0 0;
  rest = first.0;
  was_so = first.1;
  is = first.1;
  shut = λ one. one;
}

-- images from before, in which nothing was done
pub gates_still : (file : Which) (old : Image → Type 0) → Each old (HasGate file) → (i : Image) → old i → From (GateMoved file) old i
gates_still file old has i is = record { was = i; is_old = is; does = gate_still file i (has i is) }

-- a gate that is not 1 is closed
pub closed_so : (file : Which) (c : Image) (images : Image → Type 0) (sure : Bool) → sure ≡ false → HasGate file c → IsSettled file 0 c images sure
    → IsClosed file c images
closed_so file c images true is has settled = absurd (cc is)
closed_so file c images false is has settled = let first = first_of (bytes_of c file) has in record {
  synced = settled.synced;
  gate = get_or (bytes_of c file) 0 0;
  rest = first.0;
  is = first.1;
  shut = λ one. absurd (cc (settled.is_open.1 one));
}

-- a gate that is 1 stands before the rest
pub one_first : (file : Which) (c : Image) (images : Image → Type 0) (sure : Bool) → sure ≡ true → HasGate file c → IsSettled file 0 c images sure
    → (rest : List ℕ) × (bytes_of c file ≡ 1 ∷ rest)
one_first file c images false is has settled = absurd (cc is)
one_first file c images true is has settled = let first = first_of (bytes_of c file) has in
    (first.0, first.1 ∙ ap (λ (g : ℕ). g ∷ first.0) (settled.is_open.0 (search rules)))

-- a gate that is 1, and is written in part, was 1 before
module _ (file : Which) (c : Image) (rest : List ℕ) (is_one : bytes_of c file ≡ 1 ∷ rest) where
  pub moved_in_part : (old mid : Image → Type 0) → Each mid old → FileIs file (bytes_of c file) mid → (i : Image) → InPart file 0 1 mid i
      → From (GateMoved file) old i
  moved_in_part old mid from synced i part =
      let was_is : bytes_of part.was file ≡ 1 ∷ rest = synced part.was part.is_old ∙ is_one in record {
        was = part.was;
        is_old = from part.was part.is_old;
        does = record {
          others = part.torn.others;
          before = 1;
          after = get_or (bytes_of i file) 0 0;
          rest = rest;
          was_so = was_is;
          is = torn_gate [] 1 rest 0 refl (bytes_of i file) (subst (λ (l : List ℕ). Torn 0 1 l (bytes_of i file)) was_is part.torn.torn);
          shut = λ one. refl;
        };
      }

  -- what is read once it is written as 0
  pub zero_is : overlay (bytes_of c file) 0 (0 ∷ []) ≡ 0 ∷ rest
  zero_is = ap (λ (l : List ℕ). overlay l 0 (0 ∷ [])) is_one

  pub closed_now : (images : Image → Type 0) → FileIs file (overlay (bytes_of c file) 0 (0 ∷ [])) images
      → IsClosed file (with_bytes c file (overlay (bytes_of c file) 0 (0 ∷ []))) images
  closed_now images synced =
      let here = bytes_of-with_bytes c file (overlay (bytes_of c file) 0 (0 ∷ [])) in record {
        synced = λ i left. synced i left ∙ sym here;
        gate = 0;
        rest = rest;
        is = here ∙ zero_is;
        shut = λ one. absurd (omega (arith, one));
      }

  -- and the other files are as they were
  pub closed_others : SameOthers file c (with_bytes c file (overlay (bytes_of c file) 0 (0 ∷ [])))
  closed_others = ap (with_bytes c file) (sym (bytes_of-with_bytes c file (overlay (bytes_of c file) 0 (0 ∷ []))))
