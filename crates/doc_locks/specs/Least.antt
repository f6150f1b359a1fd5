-- The least of some sessions that are looked at one after another.
use Rattle.std.specs.Prelude.{ℕ, Bool, Option, Some, None, if◌then◌else◌, nat_le}

-- the lesser of the least so far and a session, where that one is wanted
abbrev pub least_with : Option ℕ → ℕ → Bool → Option ℕ
least_with None holder wanted = if wanted then Some holder else None
least_with (Some least) holder wanted = if wanted then (if nat_le least holder then Some least else Some holder) else Some least
