-- Clauses that speak of the contents where the device tells them.
use Rattle.std.proofs.Common.{◌≡◌, Option, Some, None, refl, subst}
use Rattle.std.specs.Prelude.{IfSome, is_some}
use Rattle.page_device.specs.Image.{Image}

-- to show such a clause
pub if_told : (o : Option Image) (P : Image → Type 0) → ((c : Image) → o ≡ Some c → P c) → IfSome o P
if_told (Some c) P f = f c refl
if_told None P f = tt

-- to use one
pub told : (o : Option Image) (P : Image → Type 0) (c : Image) → o ≡ Some c → IfSome o P → P c
told o P c is h = subst (λ (z : Option Image). IfSome z P) is h

-- to show one after a call, which tells exactly where the device told before
pub if_still_told : (o p : Option Image) (P : Image → Type 0) → is_some p ≡ is_some o → ((c : Image) → o ≡ Some c → IfSome p P) → IfSome p P
if_still_told (Some c) p P same f = f c refl
if_still_told None (Some d) P same f = absurd (cc)
if_still_told None None P same f = tt
