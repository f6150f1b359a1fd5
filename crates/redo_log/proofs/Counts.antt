-- A log counts where its head begins so and the other yields, and nowhere else.
use Rattle.std.proofs.Common.{◌≡◌, inl, inr, ℕ, suc, ◌^◌, ◌<◌, ◌≤◌, Bool, true, false, ltb, List, [], ◌∷◌, ◌++◌, length, take, drop, Result, Ok, Err, refl, sym, ap, subst, ◌∙◌, arith}
use Rattle.std.specs.Prelude.{not, ◌||◌}
use Rattle.std.specs.Ordering.{nat_cmp, MatchOrdering}
use Rattle.std.specs.Cmp.{ranks, nat_cmp_is}
use Rattle.std.specs.declared.cmp.Ordering.{Ordering}
use Rattle.std.specs.declared.cmp.Ordering.TheVariants.{Less, Equal, Greater}
use Rattle.std.proofs.lemmas.Bool.{eqb-true, ltb-false, le-ltb, le-leb, leb-true}
use Rattle.std.proofs.lemmas.List.{take-append-drop, length-drop}
use Rattle.std.proofs.lemmas.Slice.Eq.{bytes_eq-Decides}
use Rattle.page_device.specs.declared.device.Which.{Which}
use Rattle.page_device.specs.declared.device.Which.TheVariants.{Slots, LogA, LogB}
use Rattle.page_device.specs.Image.{Image, bytes_of}
use Rattle.redo_log.specs.Record.{number}
use Rattle.redo_log.specs.Reading.{IsBytes, number_in, number_at}
use Rattle.redo_log.specs.Candidates.{◌>>=◌, NotAStore, need, magic, is_candidate, has_magic, has_generation, generation_of, if_candidate, each_candidate, greater, newest, counting}
use Rattle.redo_log.specs.Opens.{IsShut, Yields, OtherYields, HoldBytes}
use Rattle.redo_log.proofs.Takes.{guard_ok, number_takes, IsBytes-drop}
use Rattle.redo_log.proofs.Again.{number_again}

-- ---- a log that begins so

-- a log that is a candidate: it has its 8 bytes, and its generation
record IsCandidate (bytes : List ℕ) (generation : ℕ) : Type 0 where
  gate : is_candidate bytes ≡ true
  known : has_magic bytes ≡ true
  long : has_generation bytes ≡ true
  is : generation_of bytes ≡ generation

-- a number that is spelled before any bytes is the number in them, and there are eight bytes
number_here : (n : ℕ) (rest : List ℕ) → n < 2 ^ 64 → (number_in (number n ++ rest) ≡ n) × (8 ≤ length (number n ++ rest))
number_here n rest lt =
    let bytes = number n ++ rest in
    let g = guard_ok (ltb (length bytes) 8) (length bytes) (number_in bytes, drop 8 bytes) (n, rest) (number_again n rest lt) in
    (ap (λ (p : ℕ × List ℕ). p.0) g.1, long bytes g.0)
  where
    long : (bytes : List ℕ) → ltb (length bytes) 8 ≡ false → 8 ≤ length bytes
    long bytes e = ltb-false _ _ e

-- a log that begins with an open gate, its 8 bytes and a generation is a candidate of this generation
begins : (bytes : List ℕ) (generation : ℕ) (rest : List ℕ) → generation < 2 ^ 64 → bytes ≡ 1 ∷ (magic ++ (number generation ++ rest))
    → IsCandidate bytes generation
begins bytes generation rest lt is =
    let here = number_here generation rest lt in
    record {
      gate = ap is_candidate is;
      known = ap has_magic is ∙ (bytes_eq-Decides magic magic).1 refl;
      long = le-leb 17 (length bytes) (omega (arith, ap length is, here.1));
      is = ap generation_of is ∙ here.0;
    }

-- a log that is shut is no candidate
shut : (bytes : List ℕ) → IsShut bytes → is_candidate bytes ≡ false
shut bytes h = by_gate bytes (is_candidate bytes) refl h
  where
    by_gate : (bytes : List ℕ) (b : Bool) → is_candidate bytes ≡ b → IsShut bytes → is_candidate bytes ≡ false
    by_gate [] b e h = refl
    by_gate (gate ∷ rest) false e h = e
    by_gate (gate ∷ rest) true e h = absurd (h rest (ap (λ (g : ℕ). g ∷ rest) (eqb-true _ _ e)))

-- the later of two generations is the greater, in either order
later_first : (a b : ℕ) → b < a → nat_cmp a b ≡ Greater
later_first a b lt = sym (nat_cmp_is a b Greater lt)

later_last : (a b : ℕ) → a < b → nat_cmp a b ≡ Less
later_last a b lt = sym (nat_cmp_is a b Less lt)

module _ (c : Image) (generation : ℕ) where
  first_counts : IsCandidate c.log_a generation → Yields generation c.log_b → generation < 2 ^ 64 → counting c ≡ Ok LogA
  unfolding counting
  first_counts a (inl closed) lt = rw (a.gate, a.known, a.long, shut c.log_b closed) refl
  first_counts a (inr o) lt =
      let b = begins c.log_b o.older o.rest (omega (arith, o.below, lt)) o.is in
      let cmp : nat_cmp (generation_of c.log_a) (generation_of c.log_b) ≡ Greater =
      later_first (generation_of c.log_a) (generation_of c.log_b) (omega (arith, a.is, b.is, o.below)) in
      rw (a.gate, a.known, a.long, b.gate, b.known, b.long, cmp) refl

  second_counts : IsCandidate c.log_b generation → Yields generation c.log_a → generation < 2 ^ 64 → counting c ≡ Ok LogB
  unfolding counting
  second_counts b (inl closed) lt = rw (shut c.log_a closed, b.gate, b.known, b.long) refl
  second_counts b (inr o) lt =
      let a = begins c.log_a o.older o.rest (omega (arith, o.below, lt)) o.is in
      let cmp : nat_cmp (generation_of c.log_a) (generation_of c.log_b) ≡ Less =
      later_last (generation_of c.log_a) (generation_of c.log_b) (omega (arith, a.is, b.is, o.below)) in
      rw (a.gate, a.known, a.long, b.gate, b.known, b.long, cmp) refl

-- A log that begins so counts where the other yields.
pub counts : (c : Image) (file : Which) (generation : ℕ) (rest : List ℕ) → generation < 2 ^ 64
    → bytes_of c file ≡ 1 ∷ (magic ++ (number generation ++ rest)) → OtherYields c file generation → counting c ≡ Ok file
counts c Slots generation rest lt is other = absurd other
counts c LogA generation rest lt is other = first_counts c generation (begins c.log_a generation rest lt is) other lt
counts c LogB generation rest lt is other = second_counts c generation (begins c.log_b generation rest lt is) other lt

-- the generation of a log that begins so
pub generation_here : (bytes : List ℕ) (generation : ℕ) (rest : List ℕ) → generation < 2 ^ 64 → bytes ≡ 1 ∷ (magic ++ (number generation ++ rest))
    → generation_of bytes ≡ generation
generation_here bytes generation rest lt is = (begins bytes generation rest lt is).is

-- ---- a log that counts

-- the value of a step that did not fail
pub step_ok : {A B : Type 0} (r : Result A NotAStore) (f : A → Result B NotAStore) (y : B) → (r >>= f) ≡ Ok y → (x : A) × (r ≡ Ok x) × (f x ≡ Ok y)
step_ok (Ok x) f y e = (x, refl, e)
step_ok (Err d) f y e = absurd cc

-- a test that did not fail
need_ok : (b : Bool) (file : Which) (at : ℕ) (u : Unit {0}) → need b file at ≡ Ok u → b ≡ true
need_ok true file at u e = refl
need_ok false file at u e = absurd cc

-- each log passes a test of candidates that did not fail
each_ok : (passes : List ℕ → Bool) (at : ℕ) (c : Image) (u : Unit {0}) → each_candidate passes at c ≡ Ok u
    → (if_candidate passes c.log_a ≡ true) × (if_candidate passes c.log_b ≡ true)
each_ok passes at c u e =
    let first = step_ok (need (if_candidate passes c.log_a) LogA at) (λ first. need (if_candidate passes c.log_b) LogB at) u e in
    (need_ok _ LogA at first.0 first.1, need_ok _ LogB at u first.2)

-- a candidate passes what each candidate passes
passed : (a b : Bool) → a ≡ true → (not a || b) ≡ true → b ≡ true
passed true b e h = h
passed false b e h = absurd cc

-- a log that begins with an open gate, its 8 bytes and a generation, which is its own
abbrev Begins : List ℕ → Type 0
Begins bytes = (rest : List ℕ) × (bytes ≡ 1 ∷ (magic ++ (number (generation_of bytes) ++ rest)))

-- a candidate that passes both tests begins so
candidate_begins : (bytes : List ℕ) → IsBytes bytes → is_candidate bytes ≡ true → if_candidate has_magic bytes ≡ true
    → if_candidate has_generation bytes ≡ true → Begins bytes
candidate_begins [] fits gate known long = absurd cc
candidate_begins (g ∷ r) fits gate known long =
    let front : take 8 r ≡ magic = (bytes_eq-Decides (take 8 r) magic).0 (passed _ _ gate known) in
    let enough : 17 ≤ length (g ∷ r) = leb-true _ _ (passed _ _ gate long) in
    let behind = drop 8 r in
    let read : number_at behind ≡ Ok (number_in behind, drop 8 behind) = number_read behind (omega (arith, enough, length-drop 8 r)) in
    let t = number_takes behind (number_in behind) (drop 8 behind) (IsBytes-drop 8 r (λ i. fits (suc i))) read in (
      drop 8 behind,
      ap (λ (n : ℕ). n ∷ r) (eqb-true _ _ gate)
          ∙ ap (λ (l : List ℕ). 1 ∷ l) (sym (take-append-drop 8 r) ∙ (ap (λ (l : List ℕ). l ++ behind) front ∙ ap (λ (l : List ℕ). magic ++ l) t.parts)),
    )
  where
    number_read : (bytes : List ℕ) → 8 ≤ length bytes → number_at bytes ≡ Ok (number_in bytes, drop 8 bytes)
    number_read bytes long = rw (le-ltb _ _ long) refl

-- a log that is no candidate is shut
is_shut : (bytes : List ℕ) → is_candidate bytes ≡ false → IsShut bytes
is_shut bytes e rest is = cc (sym e ∙ ap is_candidate is)

-- what counts: it begins so, and the other yields
abbrev pub Counted : Image → Which → Type 0
Counted c file = Begins (bytes_of c file) × OtherYields c file (generation_of (bytes_of c file))

-- equal answers have equal files
same_file : (c : Image) (x y : Which) → ◌≡◌ {A = Result Which NotAStore} (Ok x) (Ok y) → Counted c x → Counted c y
same_file c x y e h = subst (Counted c) (file_is x y e) h
  where
    file_is : (x y : Which) → ◌≡◌ {A = Result Which NotAStore} (Ok x) (Ok y) → x ≡ y
    file_is x y e = cc e

module _ (c : Image) (file : Which) where
  -- of two candidates that begin so, the one of the greater generation counts
  of_two : (r : Ordering) → r ≡ nat_cmp (generation_of c.log_a) (generation_of c.log_b)
      → MatchOrdering r (generation_of c.log_a < generation_of c.log_b) (generation_of c.log_a ≡ generation_of c.log_b)
      (generation_of c.log_b < generation_of c.log_a) → Begins c.log_a → Begins c.log_b → greater r ≡ Ok file → Counted c file
  of_two Less is below a b e =
      same_file c LogB file e (b, inr (record { older = generation_of c.log_a; below = below; rest = a.0; is = a.1 }))
  of_two Equal is same a b e = absurd cc
  of_two Greater is below a b e =
      same_file c LogA file e (a, inr (record { older = generation_of c.log_b; below = below; rest = b.0; is = b.1 }))

  -- one of the candidates counts
  of_candidates : (a b : Bool) → is_candidate c.log_a ≡ a → is_candidate c.log_b ≡ b → (a ≡ true → Begins c.log_a) → (b ≡ true → Begins c.log_b)
      → newest a b (nat_cmp (generation_of c.log_a) (generation_of c.log_b)) ≡ Ok file → Counted c file
  of_candidates true true ea eb fa fb e =
      let a = generation_of c.log_a in
      let b = generation_of c.log_b in
      of_two (nat_cmp a b) refl (ranks a b) (fa refl) (fb refl) e
  of_candidates true false ea eb fa fb e = same_file c LogA file e (fa refl, inl (is_shut c.log_b eb))
  of_candidates false true ea eb fa fb e = same_file c LogB file e (fb refl, inl (is_shut c.log_a ea))
  of_candidates false false ea eb fa fb e = absurd cc

  -- A log that counts begins so, and the other yields.
  pub counted : HoldBytes c → counting c ≡ Ok file → Counted c file
  unfolding counting
  counted fits e =
      let order = nat_cmp (generation_of c.log_a) (generation_of c.log_b) in
      let last = newest (is_candidate c.log_a) (is_candidate c.log_b) order in
      let known = step_ok (each_candidate has_magic 1 c) (λ known. each_candidate has_generation 9 c >>= λ long. last) file e in
      let long = step_ok (each_candidate has_generation 9 c) (λ long. last) file known.2 in
      let m = each_ok has_magic 1 c known.0 known.1 in
      let g = each_ok has_generation 9 c long.0 long.1 in
      of_candidates (is_candidate c.log_a) (is_candidate c.log_b) refl refl (λ gate. candidate_begins c.log_a (fits LogA) gate m.0 g.0)
      (λ gate. candidate_begins c.log_b (fits LogB) gate m.1 g.1) long.2
