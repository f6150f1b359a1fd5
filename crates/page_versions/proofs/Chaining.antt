-- How a chain is cut: what stays is seen, and to cut it again changes nothing.
use Rattle.std.proofs.Common.{◌≡◌, ℕ, ◌+◌, ◌<◌, ◌≤◌, Bool, true, false, cond, ◌&&◌, ◌||◌, ◌==◌, nat_le, nat_lt, List, [], ◌∷◌, Option, Some, None, length, refl, sym, ap, ◌∙◌, subst, true≢false, arith, take, drop, remove, ◌++◌, get_or, add-one, append_assoc, drop-cons, slice_index_or, zero, suc}
use Rattle.std.proofs.lemmas.List.{take_more}
use Rattle.std.proofs.lemmas.Bool.Decides.{nat_tests}
use Rattle.std.specs.List.{list_any}
use Rattle.page_versions.specs.declared.version.Version.{Version}
use Rattle.page_versions.specs.Chains.{version_at, IsFalling, IsFallingBelow}
use Rattle.page_versions.specs.Purging.{has_staged, unstaged, base, is_between, purge_below, purged_base, purged, in_slot, newest_in_slot, with_slot}
use Rattle.page_versions.specs.Staging.{with_image}
use Rattle.page_versions.specs.declared.version.Image.{Image}
use Rattle.page_versions.specs.Inside.{AllSeen, IsSeen, IsBefore, IsLater}

-- a number is itself
pub same_number : (n : ℕ) → (n == n) ≡ true
same_number n = grind (arith, nat_tests)

-- a number below another is not that one
pub other_number : (m n : ℕ) → m < n → (m == n) ≡ false
other_number m n less = grind (arith, nat_tests)

-- a number above another is not that one
pub later_number : (m n : ℕ) → m < n → (n == m) ≡ false
later_number m n less = grind (arith, nat_tests)

-- each of these is of a commit below this
abbrev pub AllBelow : ℕ → List Version → Type 0
AllBelow n [] = Unit {0}
AllBelow n (v ∷ vs) = (v.commit < n) × AllBelow n vs

-- versions that fall below a commit are all of commits below any that is not less
pub falls_below : (a b : ℕ) (vs : List Version) → a ≤ b → IsFallingBelow a vs → AllBelow b vs
falls_below a b [] le falls = tt
falls_below a b (v ∷ vs) le falls = let first : v.commit < a = falls.0 in (omega arith, falls_below v.commit b vs (omega arith) falls.1)

-- versions that fall below a commit fall below any that is not less
pub falls_from : (a b : ℕ) (vs : List Version) → a ≤ b → IsFallingBelow a vs → IsFallingBelow b vs
falls_from a b [] le falls = tt
falls_from a b (v ∷ vs) le falls = let first : v.commit < a = falls.0 in (omega arith, falls.1)

-- where a snapshot is between two commits the first is below the second
between_less : (c a : ℕ) (slots : List (Option ℕ)) → list_any (is_between c a) slots ≡ true → c < a
between_less c a [] is = absurd (true≢false (sym is))
between_less c a (None ∷ slots) is = between_less c a slots is
between_less c a (Some s ∷ slots) is =
    elim (nat_le c s && nat_lt s a) as (λ b. (nat_le c s && nat_lt s a) ≡ b → (b || list_any (is_between c a) slots) ≡ true → c < a) [
      | true ↦ λ e _. both e
      | false ↦ λ _ rest. between_less c a slots rest
    ] refl is
  where
    both : (nat_le c s && nat_lt s a) ≡ true → c < a
    both e = elim (nat_le c s) as (λ b. nat_le c s ≡ b → (b && nat_lt s a) ≡ true → c < a) [
      | true ↦ λ f g. grind (arith, nat_tests)
      | false ↦ λ f g. absurd (true≢false (sym g))
    ] refl e

-- so versions that are seen fall
pub seen_falls : (slots : List (Option ℕ)) (a : ℕ) (vs : List Version) → AllSeen slots a vs → IsFallingBelow a vs
seen_falls slots a [] seen = tt
seen_falls slots a (v ∷ vs) seen = (between_less v.commit a slots seen.0, seen_falls slots v.commit vs seen.1)

-- the commits of a chain of which a snapshot sees all but the newest fall
pub seen_base_falls : (slots : List (Option ℕ)) (chain : List Version) → IsSeen slots chain → IsFalling chain
seen_base_falls slots [] seen = tt
seen_base_falls slots (v ∷ vs) seen = seen_falls slots v.commit vs seen

-- what is left of a cut is seen
pub purge_seen : (slots : List (Option ℕ)) (a : ℕ) (vs : List Version) → AllSeen slots a (purge_below slots a vs)
purge_seen slots a [] = tt
purge_seen slots a (v ∷ vs) =
    elim (list_any (is_between v.commit a) slots) as (λ b. list_any (is_between v.commit a) slots ≡ b
    → AllSeen slots a (cond b (v ∷ purge_below slots v.commit vs) (purge_below slots a vs))) [
      | true ↦ λ e. (e, purge_seen slots v.commit vs)
      | false ↦ λ _. purge_seen slots a vs
    ] refl

-- and what is seen is left
pub seen_purge : (slots : List (Option ℕ)) (a : ℕ) (vs : List Version) → AllSeen slots a vs → purge_below slots a vs ≡ vs
seen_purge slots a [] seen = refl
seen_purge slots a (v ∷ vs) seen =
    ap (λ b. cond b (v ∷ purge_below slots v.commit vs) (purge_below slots a vs)) seen.0 ∙ ap (λ xs. v ∷ xs) (seen_purge slots v.commit vs seen.1)

-- versions that open snapshots see are seen by others that are between the same commits
pub seen_more : (slots more : List (Option ℕ)) → ((c a : ℕ) → list_any (is_between c a) slots ≡ true → list_any (is_between c a) more ≡ true)
    → (a : ℕ) (vs : List Version) → AllSeen slots a vs → AllSeen more a vs
seen_more slots more keeps a [] seen = tt
seen_more slots more keeps a (v ∷ vs) seen = (keeps v.commit a seen.0, seen_more slots more keeps v.commit vs seen.1)

-- and a chain of which they see all but the newest is one for these others
pub seen_base_more : (slots more : List (Option ℕ)) → ((c a : ℕ) → list_any (is_between c a) slots ≡ true → list_any (is_between c a) more ≡ true)
    → (chain : List Version) → IsSeen slots chain → IsSeen more chain
seen_base_more slots more keeps [] seen = tt
seen_base_more slots more keeps (v ∷ vs) seen = seen_more slots more keeps v.commit vs seen

-- of a chain that was cut a snapshot sees all but the newest version
pub purged_base_seen : (slots : List (Option ℕ)) (chain : List Version) → IsSeen slots (purged_base slots chain)
purged_base_seen slots [] = tt
purged_base_seen slots (v ∷ vs) = purge_seen slots v.commit vs

-- a chain of which a snapshot sees all but the newest version is cut to itself
pub seen_purged_base : (slots : List (Option ℕ)) (chain : List Version) → IsSeen slots chain → purged_base slots chain ≡ chain
seen_purged_base slots [] seen = refl
seen_purged_base slots (v ∷ vs) seen = ap (λ xs. v ∷ xs) (seen_purge slots v.commit vs seen)

-- the cut is one of the published part
pub base-purged : (staged : Option ℕ) (slots : List (Option ℕ)) (chain : List Version)
    → base staged (purged staged slots chain) ≡ purged_base slots (base staged chain)
base-purged None slots chain = refl
base-purged (Some n) slots [] = refl
base-purged (Some n) slots (v ∷ vs) =
    elim (v.commit == n) as (λ b. (v.commit == n) ≡ b
    → unstaged n (cond b (v ∷ purged_base slots vs) (purged_base slots (v ∷ vs))) ≡ purged_base slots (cond b vs (v ∷ vs))) [
      | true ↦ λ e. ap (λ b. cond b (purged_base slots vs) (v ∷ purged_base slots vs)) e
      | false ↦ λ e. ap (λ b. cond b (purge_below slots v.commit vs) (purged_base slots (v ∷ vs))) e
    ] refl

-- where the published part is seen the cut changes nothing
pub purged-seen : (staged : Option ℕ) (slots : List (Option ℕ)) (chain : List Version) → IsSeen slots (base staged chain) → purged staged slots chain ≡ chain
purged-seen None slots chain seen = seen_purged_base slots chain seen
purged-seen (Some n) slots [] seen = refl
purged-seen (Some n) slots (v ∷ vs) seen =
    elim (v.commit == n) as (λ b. IsSeen slots (cond b vs (v ∷ vs)) → cond b (v ∷ purged_base slots vs) (purged_base slots (v ∷ vs)) ≡ v ∷ vs) [
      | true ↦ λ s. ap (λ xs. v ∷ xs) (seen_purged_base slots vs s)
      | false ↦ λ s. seen_purged_base slots (v ∷ vs) s
    ] seen

-- so to cut twice is to cut once
pub purged-purged : (staged : Option ℕ) (slots : List (Option ℕ)) (chain : List Version)
    → purged staged slots (purged staged slots chain) ≡ purged staged slots chain
purged-purged staged slots chain =
    purged-seen staged slots (purged staged slots chain)
    (subst (IsSeen slots) (sym (base-purged staged slots chain)) (purged_base_seen slots (base staged chain)))

-- one version alone is seen
pub short_seen : (slots : List (Option ℕ)) (chain : List Version) → length chain < 2 → IsSeen slots chain
short_seen slots [] short = tt
short_seen slots (v ∷ []) short = tt
short_seen slots (v ∷ w ∷ vs) short = absurd (omega arith)

-- a cut chain is no longer, and is not empty where the chain is not
pub length-purge_below : (slots : List (Option ℕ)) (a : ℕ) (vs : List Version) → length (purge_below slots a vs) ≤ length vs
length-purge_below slots a [] = omega arith
length-purge_below slots a (v ∷ vs) =
    elim (list_any (is_between v.commit a) slots) as (λ b. length (cond b (v ∷ purge_below slots v.commit vs) (purge_below slots a vs)) ≤ length (v ∷ vs)) [
      | true ↦ let rest = length-purge_below slots v.commit vs in omega arith
      | false ↦ let rest = length-purge_below slots a vs in omega arith
    ]

-- a chain that was cut is no longer than it was
pub length-purged_base : (slots : List (Option ℕ)) (chain : List Version) → length (purged_base slots chain) ≤ length chain
length-purged_base slots [] = omega arith
length-purged_base slots (v ∷ vs) = let rest = length-purge_below slots v.commit vs in omega arith

-- a chain with a version has one once it was cut
pub some-purged : (staged : Option ℕ) (slots : List (Option ℕ)) (chain : List Version) → 0 < length chain → 0 < length (purged staged slots chain)
some-purged None slots [] some = some
some-purged None slots (v ∷ vs) some = omega arith
some-purged (Some n) slots [] some = some
some-purged (Some n) slots (v ∷ vs) some =
    elim (v.commit == n) as (λ b. 0 < length (cond b (v ∷ purged_base slots vs) (purged_base slots (v ∷ vs)))) [ true ↦ omega arith | false ↦ omega arith ]

-- what is in front stays in front
pub later-purged : (staged : Option ℕ) (s : ℕ) (slots : List (Option ℕ)) (chain : List Version) → IsLater staged s chain
    → IsLater staged s (purged staged slots chain)
later-purged None s slots [] later = tt
later-purged None s slots (v ∷ vs) later = λ e. absurd (true≢false (sym e))
later-purged (Some n) s slots [] later = tt
later-purged (Some n) s slots (v ∷ vs) later =
    elim (v.commit == n) as (λ b. IsLater (Some n) s (cond b (v ∷ purged_base slots vs) (purged_base slots (v ∷ vs)))) [ true ↦ later | false ↦ later ]

-- a chain whose front is of an earlier commit has nothing staged
pub before_unstaged : (n : ℕ) (chain : List Version) → IsBefore (Some n) chain → unstaged n chain ≡ chain
before_unstaged n [] before = refl
before_unstaged n (v ∷ vs) before = ap (λ b. cond b vs (v ∷ vs)) (other_number v.commit n before)

-- a chain whose front is of an earlier commit has no version of the one to be staged in front
pub before_has_none : (n : ℕ) (chain : List Version) → IsBefore (Some n) chain → has_staged n chain ≡ false
before_has_none n [] before = refl
before_has_none n (v ∷ vs) before = other_number v.commit n before

-- the whole chain falls
pub chain_falls : (staged : Option ℕ) (slots : List (Option ℕ)) (chain : List Version) → IsBefore staged (base staged chain) → IsSeen slots (base staged chain)
    → IsFalling chain
chain_falls None slots chain before seen = seen_base_falls slots chain seen
chain_falls (Some n) slots [] before seen = tt
chain_falls (Some n) slots (v ∷ vs) before seen =
    elim (v.commit == n) as (λ b. (v.commit == n) ≡ b → IsBefore (Some n) (cond b vs (v ∷ vs)) → IsSeen slots (cond b vs (v ∷ vs))
    → IsFallingBelow v.commit vs) [
      | true ↦ λ e b s. let same : v.commit ≡ n = grind (arith, nat_tests) in subst (λ c. IsFallingBelow c vs) (sym same) (behind n slots vs b s)
      | false ↦ λ e b s. seen_falls slots v.commit vs s
    ] refl before seen
  where
    behind : (n : ℕ) (slots : List (Option ℕ)) (ws : List Version) → IsBefore (Some n) ws → IsSeen slots ws → IsFallingBelow n ws
    behind n slots [] b s = tt
    behind n slots (w ∷ ws) b s = (b, seen_falls slots w.commit ws s)

-- a version that is staged is not seen at earlier commits
pub version_at-base : (staged : Option ℕ) (s : ℕ) (chain : List Version) → IsLater staged s chain → version_at (base staged chain) s ≡ version_at chain s
version_at-base None s chain later = refl
version_at-base (Some n) s [] later = refl
version_at-base (Some n) s (v ∷ vs) later =
    elim (v.commit == n) as (λ b. (b ≡ true → s < v.commit) → version_at (cond b vs (v ∷ vs)) s ≡ version_at (v ∷ vs) s) [
      | true ↦ λ l. let after : s < v.commit = l refl in let hidden : nat_le v.commit s ≡ false = grind (arith, nat_tests) in
          ap (λ b. cond b (Some v) (version_at vs s)) (sym hidden)
      | false ↦ λ l. refl
    ] later

-- at an earlier commit the same version is seen with an image put in front
pub version_at-with_image : (n s : ℕ) (o : Option Image) (chain : List Version) → s < n → version_at (with_image n o chain) s ≡ version_at chain s
version_at-with_image n s None chain before = refl
version_at-with_image n s (Some image) chain before =
    let hidden : nat_le n s ≡ false = grind (arith, nat_tests) in ap (λ b. cond b (Some (record { commit = n; image = image })) (version_at chain s)) hidden

-- what is put in front is what is staged
pub unstaged-with_image : (n : ℕ) (o : Option Image) (chain : List Version) → IsBefore (Some n) chain → unstaged n (with_image n o chain) ≡ chain
unstaged-with_image n None chain before = before_unstaged n chain before
unstaged-with_image n (Some image) chain before = ap (λ b. cond b chain (record { commit = n; image = image } ∷ chain)) (same_number n)

-- an item of a list, and what is behind it
pub drop_at : {X : Type 0} (xs : List X) (i : ℕ) (x : X) → i < length xs → x ≡ get_or xs i x → drop i xs ≡ x ∷ drop (i + 1) xs
drop_at xs i x within is = drop-cons xs i x within ∙ (λ j. sym is j ∷ drop (sym (add-one i) j) xs)

-- the items up to one of a list are those before it, and it
pub take_at : {X : Type 0} (xs : List X) (i : ℕ) (x : X) → i < length xs → x ≡ get_or xs i x → take (i + 1) xs ≡ take i xs ++ x ∷ []
take_at xs i x within is = take_more xs i x within ∙ ap (λ y. take i xs ++ y ∷ []) (sym is)

-- a version that is after the commit is passed over
pub at_skip : (xs : List Version) (i : ℕ) (x : Version) (n : ℕ) → i < length xs → x ≡ get_or xs i x → n < x.commit
    → version_at (drop (i + 1) xs) n ≡ version_at (drop i xs) n
at_skip xs i x n within is after =
    let hidden : nat_le x.commit n ≡ false = grind (arith, nat_tests) in
    ap (λ b. cond b (Some x) (version_at (drop (i + 1) xs) n)) (sym hidden) ∙ ap (λ ys. version_at ys n) (sym (drop_at xs i x within is))

-- a version that is not after the commit is the one seen there, of those from it on
pub at_found : (xs : List Version) (i : ℕ) (x : Version) (n : ℕ) → i < length xs → x ≡ get_or xs i x → x.commit ≤ n → version_at (drop i xs) n ≡ Some x
at_found xs i x n within is le =
    let shows : nat_le x.commit n ≡ true = grind (arith, nat_tests) in
    ap (λ ys. version_at ys n) (drop_at xs i x within is) ∙ ap (λ b. cond b (Some x) (version_at (drop (i + 1) xs) n)) shows

-- a step of a cut, over a version that is seen
pub purge_keep : (slots : List (Option ℕ)) (xs : List Version) (i : ℕ) (x : Version) (above : ℕ) → i < length xs → x ≡ get_or xs i x
    → list_any (is_between x.commit above) slots ≡ true
    → take (i + 1) xs ++ purge_below slots x.commit (drop (i + 1) xs) ≡ take i xs ++ purge_below slots above (drop i xs)
purge_keep slots xs i x above within is seen =
    ap (λ ys. ys ++ purge_below slots x.commit (drop (i + 1) xs)) (take_at xs i x within is)
    ∙ append_assoc (take i xs) (x ∷ []) (purge_below slots x.commit (drop (i + 1) xs))
    ∙ ap (λ b. take i xs ++ cond b (x ∷ purge_below slots x.commit (drop (i + 1) xs)) (purge_below slots above (drop (i + 1) xs))) (sym seen)
    ∙ ap (λ ys. take i xs ++ purge_below slots above ys) (sym (drop_at xs i x within is))

-- and over one that is dropped
pub purge_drop : (slots : List (Option ℕ)) (xs : List Version) (i : ℕ) (x : Version) (above : ℕ) → i < length xs → x ≡ get_or xs i x
    → list_any (is_between x.commit above) slots ≡ false
    → take i (remove xs i) ++ purge_below slots above (drop i (remove xs i)) ≡ take i xs ++ purge_below slots above (drop i xs)
purge_drop slots [] i x above within is gone = absurd (omega arith)
purge_drop slots (y ∷ ys) zero x above within is gone =
    let same : list_any (is_between y.commit above) slots ≡ false = ap (λ v. list_any (is_between v.commit above) slots) (sym is) ∙ gone in
    ap (λ b. cond b (y ∷ purge_below slots y.commit ys) (purge_below slots above ys)) (sym same)
purge_drop slots (y ∷ ys) (suc i) x above within is gone = ap (λ zs. y ∷ zs) (purge_drop slots ys i x above (omega arith) is gone)

-- whether an open snapshot passes a test that nothing passes else
pub any_skip : (test : Option ℕ → Bool) (xs : List (Option ℕ)) (k : ℕ) → test None ≡ false → test (slice_index_or xs k None) ≡ false
    → list_any test (drop (suc k) xs) ≡ list_any test (drop k xs)
any_skip test [] zero none fails = refl
any_skip test [] (suc k) none fails = refl
any_skip test (x ∷ xs) zero none fails = ap (λ b. b || list_any test xs) (sym fails)
any_skip test (x ∷ xs) (suc k) none fails = any_skip test xs k none fails

-- a test that passes for what is under a key, and fails without a snapshot, passes for one from that key on
pub any_at : (test : Option ℕ → Bool) (xs : List (Option ℕ)) (k : ℕ) → test None ≡ false → test (slice_index_or xs k None) ≡ true
    → list_any test (drop k xs) ≡ true
any_at test [] zero none passes = absurd (true≢false (sym passes ∙ none))
any_at test [] (suc k) none passes = absurd (true≢false (sym passes ∙ none))
any_at test (x ∷ xs) zero none passes = ap (λ b. b || list_any test xs) passes
any_at test (x ∷ xs) (suc k) none passes = any_at test xs k none passes

-- a chain has at most one version more than its published part
pub length-base : (staged : Option ℕ) (chain : List Version) → length chain ≤ 1 + length (base staged chain)
length-base None chain = omega arith
length-base (Some n) [] = omega arith
length-base (Some n) (v ∷ vs) = elim (v.commit == n) as (λ b. length (v ∷ vs) ≤ 1 + length (cond b vs (v ∷ vs))) [ true ↦ omega arith | false ↦ omega arith ]

longer : {X : Type 0} (x : X) (xs : List X) → xs ≡ x ∷ xs → ⊥
longer x xs is = let e : length xs ≡ length (x ∷ xs) = ap length is in omega arith

-- where nothing is staged in front a cut leaves nothing staged in front
pub base-purged-unstaged : (staged : Option ℕ) (slots : List (Option ℕ)) (chain : List Version) → base staged chain ≡ chain
    → base staged (purged staged slots chain) ≡ purged staged slots chain
base-purged-unstaged None slots chain same = refl
base-purged-unstaged (Some n) slots [] same = refl
base-purged-unstaged (Some n) slots (v ∷ vs) same =
    elim (v.commit == n) as (λ b. (v.commit == n) ≡ b → cond b vs (v ∷ vs) ≡ v ∷ vs
    → unstaged n (cond b (v ∷ purged_base slots vs) (purged_base slots (v ∷ vs))) ≡ cond b (v ∷ purged_base slots vs) (purged_base slots (v ∷ vs))) [
      | true ↦ λ _ s. absurd (longer v vs s)
      | false ↦ λ e _. ap (λ b. cond b (purge_below slots v.commit vs) (purged_base slots (v ∷ vs))) e
    ] refl same

-- a slot in the place of the newest published image changes no commit
pub base-with_slot : (staged : Option ℕ) (slot : ℕ) (chain : List Version) → base staged (with_slot staged slot chain) ≡ newest_in_slot slot (base staged chain)
base-with_slot None slot chain = refl
base-with_slot (Some n) slot [] = refl
base-with_slot (Some n) slot (v ∷ vs) =
    elim (v.commit == n) as (λ b. (v.commit == n) ≡ b
    → unstaged n (cond b (v ∷ newest_in_slot slot vs) (in_slot slot v ∷ vs)) ≡ newest_in_slot slot (cond b vs (v ∷ vs))) [
      | true ↦ λ e. ap (λ b. cond b (newest_in_slot slot vs) (v ∷ newest_in_slot slot vs)) e
      | false ↦ λ e. ap (λ b. cond b vs (in_slot slot v ∷ vs)) e
    ] refl

-- the version in front is before what is staged where its image is a slot too
pub before-in_slot : (staged : Option ℕ) (slot : ℕ) (chain : List Version) → IsBefore staged chain → IsBefore staged (newest_in_slot slot chain)
before-in_slot None slot chain before = tt
before-in_slot (Some n) slot [] before = before
before-in_slot (Some n) slot (v ∷ vs) before = before

-- a snapshot sees all but the newest version where that one's image is a slot too
pub seen-in_slot : (slots : List (Option ℕ)) (slot : ℕ) (chain : List Version) → IsSeen slots chain → IsSeen slots (newest_in_slot slot chain)
seen-in_slot slots slot [] seen = seen
seen-in_slot slots slot (v ∷ vs) seen = seen

-- the chain with its newest version in a slot is as long as it was
pub length-in_slot : (slot : ℕ) (chain : List Version) → length (newest_in_slot slot chain) ≡ length chain
length-in_slot slot [] = refl
length-in_slot slot (v ∷ vs) = refl

-- a chain with a version has one where the newest published version has a slot
pub some-with_slot : (staged : Option ℕ) (slot : ℕ) (chain : List Version) → 0 < length chain → 0 < length (with_slot staged slot chain)
some-with_slot None slot [] some = some
some-with_slot None slot (v ∷ vs) some = omega arith
some-with_slot (Some n) slot [] some = some
some-with_slot (Some n) slot (v ∷ vs) some =
    elim (v.commit == n) as (λ b. 0 < length (cond b (v ∷ newest_in_slot slot vs) (in_slot slot v ∷ vs))) [ true ↦ omega arith | false ↦ omega arith ]

-- a snapshot before what is staged in front is before it where the newest published version has a slot
pub later-with_slot : (staged : Option ℕ) (s slot : ℕ) (chain : List Version) → IsLater staged s chain → IsLater staged s (with_slot staged slot chain)
later-with_slot None s slot [] later = tt
later-with_slot None s slot (v ∷ vs) later = later
later-with_slot (Some n) s slot [] later = tt
later-with_slot (Some n) s slot (v ∷ vs) later =
    elim (v.commit == n) as (λ b. IsLater (Some n) s (cond b (v ∷ newest_in_slot slot vs) (in_slot slot v ∷ vs))) [ true ↦ later | false ↦ later ]

-- a chain with nothing staged in front has nothing there where its newest version has a slot
pub unstaged-with_slot : (staged : Option ℕ) (slot : ℕ) (chain : List Version) → base staged chain ≡ chain
    → base staged (with_slot staged slot chain) ≡ with_slot staged slot chain
unstaged-with_slot None slot chain same = refl
unstaged-with_slot (Some n) slot [] same = refl
unstaged-with_slot (Some n) slot (v ∷ vs) same =
    elim (v.commit == n) as (λ b. (v.commit == n) ≡ b → cond b vs (v ∷ vs) ≡ v ∷ vs
    → unstaged n (cond b (v ∷ newest_in_slot slot vs) (in_slot slot v ∷ vs)) ≡ cond b (v ∷ newest_in_slot slot vs) (in_slot slot v ∷ vs)) [
      | true ↦ λ _ s. absurd (longer v vs s)
      | false ↦ λ e _. ap (λ b. cond b vs (in_slot slot v ∷ vs)) e
    ] refl same

-- a snapshot before the commit that is staged is before what is staged
pub later_staged : (n s : ℕ) (chain : List Version) → s < n → IsLater (Some n) s chain
later_staged n s [] less = tt
later_staged n s (v ∷ vs) less = λ e. let same : v.commit ≡ n = grind (arith, nat_tests) in omega arith

-- where nothing is staged every snapshot is before what is staged
pub later_none : (s : ℕ) (chain : List Version) → IsLater None s chain
later_none s [] = tt
later_none s (v ∷ vs) = λ e. absurd (true≢false (sym e))
