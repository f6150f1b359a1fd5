-- The least of some sessions that pass a test.
use Rattle.std.proofs.Common.{◌≡◌, ℕ, ◌≤◌, Bool, true, false, cond, List, [], ◌∷◌, Option, Some, None, refl, sym, ap, ◌∙◌, subst, true≢false, arith, nat_eq, nat_le, ◌||◌, is_some}
use Rattle.std.proofs.lemmas.Bool.Decides.{nat_tests}
use Rattle.std.specs.List.{list_any}
use Rattle.std.specs.Map.{lookup, keys_of}
use Rattle.doc_locks.specs.Least.{least_with}

-- only equal numbers tie
equal_numbers : (a b : ℕ) → nat_eq a b ≡ true → a ≡ b
equal_numbers a b is = grind (arith, nat_tests)

-- what a table has it has among its keys
pub among_keys : {X : Type 0} (q : ℕ) (es : List (ℕ × X)) → is_some (lookup (nat_eq q) es) ≡ list_any (nat_eq q) (keys_of es)
among_keys q [] = refl
among_keys q (e ∷ es) = first (nat_eq q e.0) e.1 (lookup (nat_eq q) es) (list_any (nat_eq q) (keys_of es)) (among_keys q es)
  where
    first : {X : Type 0} (b : Bool) (x : X) (o : Option X) (rest : Bool) → is_some o ≡ rest → is_some (cond b (Some x) o) ≡ (b || rest)
    first true x o rest is = refl
    first false x o rest is = is

module _ (test : ℕ → Bool) where
  -- the least of those so far and of what is left to be looked at
  abbrev pub least_in : List ℕ → Option ℕ → Option ℕ
  least_in [] least = least
  least_in (k ∷ ks) least = least_in ks (least_with least k (test k))

  -- none of these passes
  abbrev pub AllFail : List ℕ → Type 0
  AllFail [] = Unit {0}
  AllFail (k ∷ ks) = (test k ≡ false) × AllFail ks

  -- each of these that passes is at least this
  abbrev pub AllAbove : ℕ → List ℕ → Type 0
  AllAbove h [] = Unit {0}
  AllAbove h (k ∷ ks) = (test k ≡ true → h ≤ k) × AllAbove h ks

  with_none : (before : Option ℕ) (k : ℕ) (b : Bool) → least_with before k b ≡ None → (b ≡ false) × (before ≡ None)
  with_none None k true is = cc
  with_none None k false is = (refl, refl)
  with_none (Some l) k true is =
      elim (nat_le l k) as (λ v. cond v (Some l) (Some k) ≡ None → (true ≡ false) × (Some l ≡ None)) [ true ↦ λ e. cc | false ↦ λ e. cc ] is
  with_none (Some l) k false is = cc

  -- where none is found none passes
  pub none_passes : (ks : List ℕ) (before : Option ℕ) → least_in ks before ≡ None → (before ≡ None) × AllFail ks
  none_passes [] before is = (is, tt)
  none_passes (k ∷ ks) before is =
      let rest = none_passes ks (least_with before k (test k)) is in let first = with_none before k (test k) rest.0 in
      (first.1, (first.0, rest.1))

  with_passes : (before : Option ℕ) (k : ℕ) (b : Bool) → test k ≡ b → ((x : ℕ) → before ≡ Some x → test x ≡ true) → (x : ℕ) → least_with before k b ≡ Some x
      → test x ≡ true
  with_passes None k true is ok x e = let same : k ≡ x = cc in subst (λ y. test y ≡ true) same is
  with_passes None k false is ok x e = cc
  with_passes (Some l) k true is ok x e =
      elim (nat_le l k) as (λ v. cond v (Some l) (Some k) ≡ Some x → test x ≡ true) [
        | true ↦ ok x
        | false ↦ λ f. let same : k ≡ x = cc in subst (λ y. test y ≡ true) same is
      ] e
  with_passes (Some l) k false is ok x e = ok x e

  -- the one that is found passes
  pub found_passes : (ks : List ℕ) (before : Option ℕ) → ((x : ℕ) → before ≡ Some x → test x ≡ true) → (h : ℕ) → least_in ks before ≡ Some h → test h ≡ true
  found_passes [] before ok h is = ok h is
  found_passes (k ∷ ks) before ok h is = found_passes ks (least_with before k (test k)) (with_passes before k (test k) refl ok) h is

  with_least : (before : Option ℕ) (k : ℕ) (b : Bool) (h : ℕ) → ((x : ℕ) → least_with before k b ≡ Some x → h ≤ x)
      → ((x : ℕ) → before ≡ Some x → h ≤ x) × (b ≡ true → h ≤ k)
  with_least None k true h below = (λ x e. cc, λ _. below k refl)
  with_least None k false h below = (below, λ e. cc)
  with_least (Some l) k true h below =
      elim (nat_le l k) as (λ v. nat_le l k ≡ v → ((x : ℕ) → cond v (Some l) (Some k) ≡ Some x → h ≤ x)
      → ((x : ℕ) → Some l ≡ Some x → h ≤ x) × (true ≡ true → h ≤ k)) [
        | true ↦ λ v f. (f, λ _. let at_l : h ≤ l = f l refl in grind (arith, nat_tests))
        | false ↦ λ v f. (λ x e. let at_k : h ≤ k = f k refl in let same : l ≡ x = cc in subst (λ y. h ≤ y) same (grind (arith, nat_tests)), λ _. f k refl)
      ] refl below
  with_least (Some l) k false h below = (below, λ e. cc)

  -- and is the least
  pub found_least : (ks : List ℕ) (before : Option ℕ) (h : ℕ) → least_in ks before ≡ Some h → ((x : ℕ) → before ≡ Some x → h ≤ x) × AllAbove h ks
  found_least [] before h is = (λ x e. let same : h ≡ x = cc in subst (λ y. h ≤ y) same (omega arith), tt)
  found_least (k ∷ ks) before h is =
      let rest = found_least ks (least_with before k (test k)) h is in let first = with_least before k (test k) h rest.0 in
      (first.0, (first.1, rest.1))

  -- a session among those that fail fails
  fails_among : (ks : List ℕ) (h : ℕ) → AllFail ks → list_any (nat_eq h) ks ≡ true → test h ≡ false
  fails_among [] h all is = absurd (true≢false (sym is))
  fails_among (k ∷ ks) h all is =
      elim (nat_eq h k) as (λ v. nat_eq h k ≡ v → (v || list_any (nat_eq h) ks) ≡ true → test h ≡ false) [
        | true ↦ λ e _. ap test (equal_numbers h k e) ∙ all.0
        | false ↦ λ e rest. fails_among ks h all.1 rest
      ] refl is

  above_among : (ks : List ℕ) (g h : ℕ) → AllAbove g ks → list_any (nat_eq h) ks ≡ true → test h ≡ true → g ≤ h
  above_among [] g h all is passes = absurd (true≢false (sym is))
  above_among (k ∷ ks) g h all is passes =
      elim (nat_eq h k) as (λ v. nat_eq h k ≡ v → (v || list_any (nat_eq h) ks) ≡ true → g ≤ h) [
        | true ↦ λ e _. let same = equal_numbers h k e in subst (λ y. g ≤ y) (sym same) (all.0 (ap test (sym same) ∙ passes))
        | false ↦ λ e rest. above_among ks g h all.1 rest passes
      ] refl is

  -- where only sessions among these pass, the least of these is the least of all
  module _ (ks : List ℕ) (only : (h : ℕ) → test h ≡ true → list_any (nat_eq h) ks ≡ true) where
    -- where none is found, no session passes
    pub all_fail : least_in ks None ≡ None → (h : ℕ) → test h ≡ false
    all_fail is h = elim (test h) as (λ v. test h ≡ v → v ≡ false) [
      | true ↦ λ e. sym e ∙ fails_among ks h (none_passes ks None is).1 (only h e)
      | false ↦ λ _. refl
    ] refl

    -- the session that is found passes
    pub passes : (h : ℕ) → least_in ks None ≡ Some h → test h ≡ true
    passes h is = found_passes ks None (λ x e. cc) h is

    -- the session that is found is at most any other that passes
    pub is_least : (h : ℕ) → least_in ks None ≡ Some h → (other : ℕ) → test other ≡ true → h ≤ other
    is_least h is other there = above_among ks h other (found_least ks None h is).1 (only other there) there
