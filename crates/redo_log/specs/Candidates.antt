-- Which log counts: those whose gate is 1 are candidates, and of two the one of the greater generation counts.
use Rattle.std.specs.Prelude.{ℕ, Bool, true, false, not, ◌==◌, ◌||◌, nat_le, List, [], ◌∷◌, length, take, drop, Result, Ok, Err}
use Rattle.std.specs.Str.{bytes_eq}
use Rattle.std.specs.Ordering.{nat_cmp}
use Rattle.std.specs.declared.cmp.Ordering.{Ordering}
use Rattle.std.specs.declared.cmp.Ordering.TheVariants.{Less, Equal, Greater}
use Rattle.page_device.specs.declared.device.Which.{Which}
use Rattle.page_device.specs.declared.device.Which.TheVariants.{LogA, LogB}
use Rattle.page_device.specs.Image.{Image}
use Rattle.redo_log.specs.Reading.{number_in}

-- why three files are no store: the file, and the place of its first field that is wrong or runs past the end
pub record NotAStore : Type 0 where
  pub file : Which
  pub at : ℕ

-- they are no store, by this place of this file
abbrev pub no_store : {A : Type 0} → Which → ℕ → Result A NotAStore
no_store file at = Err (record { file = file; at = at })

-- what comes after a test goes on from there, and the first refusal stays
infixl 10 ◌>>=◌
abbrev pub ◌>>=◌ : {A B : Type 0} → Result A NotAStore → (A → Result B NotAStore) → Result B NotAStore
(Ok x) >>= f = f x
(Err e) >>= f = Err e

-- what is right, or the place of what is wrong
abbrev pub need : Bool → Which → ℕ → Result (Unit {0}) NotAStore
need true file at = Ok tt
need false file at = no_store file at

-- the 8 bytes by which a log is known, `XDBLOG01`
abbrev pub magic : List ℕ
magic = 88 ∷ 68 ∷ 66 ∷ 76 ∷ 79 ∷ 71 ∷ 48 ∷ 49 ∷ []

-- a log is a candidate where its first byte is 1
abbrev pub is_candidate : List ℕ → Bool
is_candidate [] = false
is_candidate (gate ∷ rest) = gate == 1

-- the 8 bytes stand behind the gate
abbrev pub has_magic : List ℕ → Bool
has_magic bytes = bytes_eq (take 8 (drop 1 bytes)) magic

-- the log doesn't end before the end of its generation
abbrev pub has_generation : List ℕ → Bool
has_generation bytes = nat_le 17 (length bytes)

-- the generation, behind the 8 bytes
abbrev pub generation_of : List ℕ → ℕ
generation_of bytes = number_in (drop 9 bytes)

-- a log that is a candidate passes the test
abbrev pub if_candidate : (List ℕ → Bool) → List ℕ → Bool
if_candidate passes bytes = not (is_candidate bytes) || passes bytes

-- each candidate passes the test; the first that doesn't, LogA before LogB, is named with this place
abbrev pub each_candidate : (List ℕ → Bool) → ℕ → Image → Result (Unit {0}) NotAStore
each_candidate passes at c = do
  first ← need (if_candidate passes c.log_a) LogA at
  need (if_candidate passes c.log_b) LogB at

-- of two candidates that of the greater generation counts; two equal generations are no store
abbrev pub greater : Ordering → Result Which NotAStore
greater Less = Ok LogB
greater Equal = no_store LogB 9
greater Greater = Ok LogA

-- the only candidate counts, or the one of the greater generation; none is no store
abbrev pub newest : Bool → Bool → Ordering → Result Which NotAStore
newest true true generations = greater generations
newest true false generations = Ok LogA
newest false true generations = Ok LogB
newest false false generations = no_store LogA 0

-- The log that counts. Before a generation is looked at each candidate has its 8 bytes, and then its generation.
unfoldable pub counting : Image → Result Which NotAStore
counting c = do
  known ← each_candidate has_magic 1 c
  long ← each_candidate has_generation 9 c
  newest (is_candidate c.log_a) (is_candidate c.log_b) (nat_cmp (generation_of c.log_a) (generation_of c.log_b))
