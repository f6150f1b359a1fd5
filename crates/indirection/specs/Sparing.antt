-- Calls that have nothing to do with node numbers: what they keep off.
use Rattle.std.specs.Prelude.{◌≡◌, ℕ, false, IsTrue, slice_index}
use Rattle.page_bytes.specs.Frames.{Call, Keeps, before}
use Rattle.page_bytes.specs.Own.{HasNoField, AreBeside}
use Rattle.page_bytes.specs.Seen.{bytes}
use Rattle.indirection.specs.Forms.{LEAF_KIND, DIRECTORY_KIND}
use Rattle.indirection.specs.Owned.{is_number_kind}

-- The call keeps to its own, which has no page of the kinds of node numbers, no field of such a page, and nothing of the head's
-- kind and of node numbers' fields there.
pub record SparesNumbers (c : Call) : Type 0 where
  pub keeps : Keeps c
  pub leaf : c.own.is_kind LEAF_KIND ≡ false
  pub directory : c.own.is_kind DIRECTORY_KIND ≡ false
  pub untouched : (n : ℕ) → IsTrue (is_number_kind (slice_index (bytes (before c) n) 0)) → HasNoField c.own.fields n
  pub kind : AreBeside c.own.fields 0 0 1
  pub root : AreBeside c.own.fields 0 18 8
  pub first_free : AreBeside c.own.fields 0 34 4
  pub highest : AreBeside c.own.fields 0 38 4
