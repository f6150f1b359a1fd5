-- The versions of a chain that are needed are those that a cut leaves, and snapshots see the same in them.
use Rattle.std.proofs.Common.{◌≡◌, ℕ, ◌<◌, ◌≤◌, Bool, true, false, cond, not, ◌&&◌, ◌||◌, ◌==◌, nat_le, nat_lt, List, [], ◌∷◌, Option, Some, None, length, find, filter, All, Contains, slice_index_or, zero, suc, refl, sym, ap, ◌∙◌, true≢false, arith}
use Rattle.std.proofs.lemmas.Bool.Decides.{nat_tests}
use Rattle.std.proofs.lemmas.List.Elements.{recursion_from_All}
use Rattle.std.specs.List.{list_any, AllByRecursion}
use Rattle.page_versions.specs.declared.version.Version.{Version}
use Rattle.page_versions.specs.Chains.{version_at, IsFalling, IsFallingBelow, is_staged, published, newest, is_version, is_seen_by, is_needed, needed}
use Rattle.page_versions.specs.Kept.{IsKnownAt}
use Rattle.page_versions.specs.Purging.{base, is_between, purge_below, purged_base, purged}
use Rattle.page_versions.specs.Inside.{IsBefore, IsLater}
use Rattle.page_versions.proofs.Chaining.{same_number, other_number, later_number, AllBelow, falls_below, falls_from}

-- two tests that agree on the elements filter alike
abbrev AgreeOn : {X : Type 0} (p q : X → Bool) → List X → Type 0
AgreeOn p q [] = Unit {0}
AgreeOn p q (x ∷ xs) = (p x ≡ q x) × AgreeOn p q xs

filter-agree : {X : Type 0} (p q : X → Bool) (xs : List X) → AgreeOn p q xs → filter p xs ≡ filter q xs
filter-agree p q [] h = refl
filter-agree p q (x ∷ xs) h = (λ i. cond (h.0 i) (x ∷ filter-agree p q xs h.1 i) (filter-agree p q xs h.1 i))

any-agree : {X : Type 0} (p q : X → Bool) → ((x : X) → p x ≡ q x) → (xs : List X) → list_any p xs ≡ list_any q xs
any-agree p q h [] = refl
any-agree p q h (x ∷ xs) = (λ i. h x i || any-agree p q h xs i)

no_and : (b : Bool) → (b && false) ≡ false
no_and true = refl
no_and false = refl

and_yes : (b : Bool) → (b && true) ≡ b
and_yes true = refl
and_yes false = refl

or_yes : (b : Bool) → (b || true) ≡ true
or_yes true = refl
or_yes false = refl

-- a version that is newer than all of these is none that is seen among them
none_of : (v : Version) (vs : List Version) (s : ℕ) → AllBelow v.commit vs → is_version (version_at vs s) v ≡ false
none_of v [] s below = refl
none_of v (w ∷ ws) s below =
    elim (nat_le w.commit s) as (λ b. is_version (cond b (Some w) (version_at ws s)) v ≡ false) [
      | true ↦ other_number w.commit v.commit below.0
      | false ↦ none_of v ws s below.1
    ]

-- whether a snapshot before the commit `above` sees the version
abbrev sees : ℕ → List Version → Version → Option ℕ → Bool
sees above vs w None = false
sees above vs w (Some s) = nat_lt s above && is_version (version_at vs s) w

abbrev seen_below : List (Option ℕ) → ℕ → List Version → Version → Bool
seen_below slots above vs w = list_any (sees above vs w) slots

-- a version behind another one is seen before that one's commit
sees_behind : (above : ℕ) (v : Version) (vs : List Version) (w : Version) → v.commit ≤ above → w.commit < v.commit → (slot : Option ℕ)
    → sees above (v ∷ vs) w slot ≡ sees v.commit vs w slot
sees_behind above v vs w le less None = refl
sees_behind above v vs w le less (Some s) =
    elim (nat_le v.commit s) as (λ b. nat_le v.commit s ≡ b
    → (nat_lt s above && is_version (cond b (Some v) (version_at vs s)) w) ≡ (nat_lt s v.commit && is_version (version_at vs s) w)) [
      | true ↦ λ e. let past : nat_lt s v.commit ≡ false = grind (arith, nat_tests) in
          ap (λ b. nat_lt s above && b) (later_number w.commit v.commit less) ∙ no_and (nat_lt s above)
          ∙ ap (λ b. b && is_version (version_at vs s) w) (sym past)
      | false ↦ λ e. let before : nat_lt s v.commit ≡ true = grind (arith, nat_tests) in let also : nat_lt s above ≡ true = grind (arith, nat_tests) in
          ap (λ b. b && is_version (version_at vs s) w) (also ∙ sym before)
    ] refl

seen_behind : (v : Version) (vs : List Version) (w : Version) → w.commit < v.commit → (slot : Option ℕ) → is_seen_by (v ∷ vs) w slot ≡ sees v.commit vs w slot
seen_behind v vs w less None = refl
seen_behind v vs w less (Some s) =
    elim (nat_le v.commit s) as (λ b. nat_le v.commit s ≡ b
    → is_version (cond b (Some v) (version_at vs s)) w ≡ (nat_lt s v.commit && is_version (version_at vs s) w)) [
      | true ↦ λ e. let past : nat_lt s v.commit ≡ false = grind (arith, nat_tests) in
          later_number w.commit v.commit less ∙ ap (λ b. b && is_version (version_at vs s) w) (sym past)
      | false ↦ λ e. let before : nat_lt s v.commit ≡ true = grind (arith, nat_tests) in ap (λ b. b && is_version (version_at vs s) w) (sym before)
    ] refl

-- the version in front is seen from its own commit on
sees_front : (above : ℕ) (v : Version) (vs : List Version) → AllBelow v.commit vs → (slot : Option ℕ)
    → sees above (v ∷ vs) v slot ≡ is_between v.commit above slot
sees_front above v vs below None = refl
sees_front above v vs below (Some s) =
    elim (nat_le v.commit s) as (λ b. (nat_lt s above && is_version (cond b (Some v) (version_at vs s)) v) ≡ (b && nat_lt s above)) [
      | true ↦ ap (λ b. nat_lt s above && b) (same_number v.commit) ∙ and_yes (nat_lt s above)
      | false ↦ ap (λ b. nat_lt s above && b) (none_of v vs s below) ∙ no_and (nat_lt s above)
    ]

all_behind : (slots : List (Option ℕ)) (above : ℕ) (v : Version) (vs ws : List Version) → v.commit ≤ above → AllBelow v.commit ws
    → AgreeOn (seen_below slots above (v ∷ vs)) (seen_below slots v.commit vs) ws
all_behind slots above v vs [] le below = tt
all_behind slots above v vs (w ∷ ws) le below =
    (any-agree (sees above (v ∷ vs) w) (sees v.commit vs w) (sees_behind above v vs w le below.0) slots, all_behind slots above v vs ws le below.1)

-- where no snapshot is between two commits, those before one are those before the other
none_between : (c a : ℕ) (vs : List Version) (w : Version) → c ≤ a → (slots : List (Option ℕ)) → list_any (is_between c a) slots ≡ false
    → seen_below slots c vs w ≡ seen_below slots a vs w
none_between c a vs w le [] none = refl
none_between c a vs w le (None ∷ slots) none = none_between c a vs w le slots none
none_between c a vs w le (Some s ∷ slots) none =
    elim (nat_le c s && nat_lt s a) as (λ b. (nat_le c s && nat_lt s a) ≡ b → (b || list_any (is_between c a) slots) ≡ false
    → ((nat_lt s c && is_version (version_at vs s) w) || seen_below slots c vs w)
    ≡ ((nat_lt s a && is_version (version_at vs s) w) || seen_below slots a vs w)) [
      | true ↦ λ _ e. absurd (true≢false e)
      | false ↦ λ out rest. (λ i. (alike out i && is_version (version_at vs s) w) || none_between c a vs w le slots rest i)
    ] refl none
  where
    alike : (nat_le c s && nat_lt s a) ≡ false → nat_lt s c ≡ nat_lt s a
    alike out = elim (nat_le c s) as (λ b. nat_le c s ≡ b → (b && nat_lt s a) ≡ false → nat_lt s c ≡ nat_lt s a) [
      | true ↦ λ f g. let at : nat_lt s c ≡ false = grind (arith, nat_tests) in at ∙ sym g
      | false ↦ λ f g. let at : nat_lt s c ≡ true = grind (arith, nat_tests) in let also : nat_lt s a ≡ true = grind (arith, nat_tests) in at ∙ sym also
    ] refl out

all_between : (slots : List (Option ℕ)) (c a : ℕ) (vs ws : List Version) → c ≤ a → list_any (is_between c a) slots ≡ false
    → AgreeOn (seen_below slots c vs) (seen_below slots a vs) ws
all_between slots c a vs [] le none = tt
all_between slots c a vs (w ∷ ws) le none = (none_between c a vs w le slots none, all_between slots c a vs ws le none)

-- a cut leaves what is seen
purge-is : (slots : List (Option ℕ)) (a : ℕ) (vs : List Version) → IsFallingBelow a vs → filter (seen_below slots a vs) vs ≡ purge_below slots a vs
purge-is slots a [] falls = refl
purge-is slots a (v ∷ vs) falls =
    let front : seen_below slots a (v ∷ vs) v ≡ list_any (is_between v.commit a) slots =
    any-agree (sees a (v ∷ vs) v) (is_between v.commit a) (sees_front a v vs (falls_below v.commit v.commit vs (omega arith) falls.1)) slots in
    let le : v.commit ≤ a = let less : v.commit < a = falls.0 in omega arith in
    let rest : filter (seen_below slots a (v ∷ vs)) vs ≡ filter (seen_below slots v.commit vs) vs =
    filter-agree (seen_below slots a (v ∷ vs)) (seen_below slots v.commit vs) vs
    (all_behind slots a v vs vs le (falls_below v.commit v.commit vs (omega arith) falls.1)) in
    (λ i. cond (front i) (v ∷ rest i) (rest i))
    ∙ elim (list_any (is_between v.commit a) slots) as (λ b. list_any (is_between v.commit a) slots ≡ b
    → cond b (v ∷ filter (seen_below slots v.commit vs) vs) (filter (seen_below slots v.commit vs) vs)
    ≡ cond b (v ∷ purge_below slots v.commit vs) (purge_below slots a vs)) [
      | true ↦ λ _. ap (λ xs. v ∷ xs) (purge-is slots v.commit vs falls.1)
      | false ↦ λ none. filter-agree (seen_below slots v.commit vs) (seen_below slots a vs) vs (all_between slots v.commit a vs vs le none)
          ∙ purge-is slots a vs (falls_from v.commit a vs le falls.1)
    ] refl

-- behind the newest version, what is needed is what is seen before it
behind_newest : (slots : List (Option ℕ)) (v : Version) (vs ws : List Version) → AllBelow v.commit ws
    → AgreeOn (is_needed None slots (v ∷ vs)) (seen_below slots v.commit vs) ws
behind_newest slots v vs [] below = tt
behind_newest slots v vs (w ∷ ws) below = (
  ap (λ b. b || list_any (is_seen_by (v ∷ vs) w) slots) (later_number w.commit v.commit below.0)
      ∙ any-agree (is_seen_by (v ∷ vs) w) (sees v.commit vs w) (seen_behind v vs w below.0) slots,
  behind_newest slots v vs ws below.1,
)

-- what is needed where nothing is staged
needed-none : (slots : List (Option ℕ)) (chain : List Version) → IsFalling chain → needed None slots chain ≡ purged_base slots chain
needed-none slots [] falls = refl
needed-none slots (v ∷ vs) falls =
    ap (λ b. cond (b || list_any (is_seen_by (v ∷ vs) v) slots) (v ∷ filter (is_needed None slots (v ∷ vs)) vs) (filter (is_needed None slots (v ∷ vs)) vs))
    (same_number v.commit)
    ∙ ap (λ xs. v ∷ xs) (filter-agree (is_needed None slots (v ∷ vs)) (seen_below slots v.commit vs) vs
    (behind_newest slots v vs vs (falls_below v.commit v.commit vs (omega arith) falls)) ∙ purge-is slots v.commit vs falls)

-- where all versions are of earlier commits all are published
pub all_published : (n : ℕ) (vs : List Version) → AllBelow n vs → published (Some n) vs ≡ vs
all_published n [] below = refl
all_published n (v ∷ vs) below = ap (λ b. cond (not b) (v ∷ published (Some n) vs) (published (Some n) vs)) (other_number v.commit n below.0)
    ∙ ap (λ xs. v ∷ xs) (all_published n vs below.1)

none_staged : (n : ℕ) (slots : List (Option ℕ)) (chain vs : List Version) → published (Some n) chain ≡ chain → AllBelow n vs
    → AgreeOn (is_needed (Some n) slots chain) (is_needed None slots chain) vs
none_staged n slots chain [] same below = tt
none_staged n slots chain (v ∷ vs) same below = (
  (λ i. other_number v.commit n below.0 i || (is_version (newest (same i)) v || list_any (is_seen_by chain v) slots)),
  none_staged n slots chain vs same
      below.1,
)

-- behind what is staged and the newest published version, what is needed is what is seen before that one
behind_staged : (n : ℕ) (slots : List (Option ℕ)) (v u : Version) (us ws : List Version) → u.commit ≤ v.commit
    → newest (published (Some n) (v ∷ u ∷ us)) ≡ Some u
    → AllBelow n ws → AllBelow u.commit ws → AllBelow v.commit ws → AgreeOn (is_needed (Some n) slots (v ∷ u ∷ us)) (seen_below slots u.commit us) ws
behind_staged n slots v u us [] le front below under less = tt
behind_staged n slots v u us (w ∷ ws) le front below under less = (
  (λ i. other_number w.commit n below.0 i || (is_version (front i) w || list_any (is_seen_by (v ∷ u ∷ us) w) slots))
      ∙ ap (λ b. b || list_any (is_seen_by (v ∷ u ∷ us) w) slots) (later_number w.commit u.commit under.0)
      ∙ any-agree (is_seen_by (v ∷ u ∷ us) w) (sees v.commit (u ∷ us) w) (seen_behind v (u ∷ us) w less.0) slots
      ∙ any-agree (sees v.commit (u ∷ us) w) (sees u.commit us w) (sees_behind v.commit u us w le under.0) slots,
  behind_staged n slots v u us ws le front below.1 under.1 less.1,
)

-- what is needed behind a staged version
needed-staged : (n : ℕ) (slots : List (Option ℕ)) (v : Version) (vs : List Version) → v.commit ≡ n → IsFallingBelow v.commit vs
    → needed (Some n) slots (v ∷ vs) ≡ v ∷ purged_base slots vs
needed-staged n slots v vs same falls =
    let is : (v.commit == n) ≡ true = ap (λ c. c == n) same ∙ same_number n in
    ap (λ b. cond (b || (is_version (newest (published (Some n) (v ∷ vs))) v || list_any (is_seen_by (v ∷ vs) v) slots))
    (v ∷ filter (is_needed (Some n) slots (v ∷ vs)) vs) (filter (is_needed (Some n) slots (v ∷ vs)) vs)) is
    ∙ ap (λ xs. v ∷ xs) (rest vs is falls)
  where
    rest : (us : List Version) → (v.commit == n) ≡ true → IsFallingBelow v.commit us → filter (is_needed (Some n) slots (v ∷ us)) us ≡ purged_base slots us
    rest [] is f = refl
    rest (u ∷ us) is f =
        let under_n : AllBelow n (u ∷ us) = falls_below v.commit n (u ∷ us) (let e : v.commit ≡ n = same in omega arith) f in
        let under_u = falls_below u.commit u.commit us (omega arith) f.1 in
        let le : u.commit ≤ v.commit = let less : u.commit < v.commit = f.0 in omega arith in
        let front : newest (published (Some n) (v ∷ u ∷ us)) ≡ Some u =
        ap (λ b. newest (cond (not b) (v ∷ published (Some n) (u ∷ us)) (published (Some n) (u ∷ us)))) is ∙ ap newest (all_published n (u ∷ us) under_n) in
        (λ i. cond (other_number u.commit n under_n.0 i || (is_version (front i) u || list_any (is_seen_by (v ∷ u ∷ us) u) slots))
        (u ∷ filter (is_needed (Some n) slots (v ∷ u ∷ us)) us) (filter (is_needed (Some n) slots (v ∷ u ∷ us)) us))
        ∙ ap (λ b. cond (b || list_any (is_seen_by (v ∷ u ∷ us) u) slots) (u ∷ filter (is_needed (Some n) slots (v ∷ u ∷ us)) us)
        (filter (is_needed (Some n) slots (v ∷ u ∷ us)) us)) (same_number u.commit)
        ∙ ap (λ xs. u ∷ xs) (filter-agree (is_needed (Some n) slots (v ∷ u ∷ us)) (seen_below slots u.commit us) us
        (behind_staged n slots v u us us le front under_n.1 under_u (falls_below u.commit v.commit us le f.1))
        ∙ purge-is slots u.commit us f.1)

-- what is needed is what a cut leaves
pub needed-is : (staged : Option ℕ) (slots : List (Option ℕ)) (chain : List Version) → IsBefore staged (base staged chain) → IsFalling chain
    → needed staged slots chain ≡ purged staged slots chain
needed-is None slots chain before falls = needed-none slots chain falls
needed-is (Some n) slots [] before falls = refl
needed-is (Some n) slots (v ∷ vs) before falls =
    elim (v.commit == n) as (λ b. (v.commit == n) ≡ b → IsBefore (Some n) (cond b vs (v ∷ vs))
    → needed (Some n) slots (v ∷ vs) ≡ cond b (v ∷ purged_base slots vs) (purged_base slots (v ∷ vs))) [
      | true ↦ λ e _. let same : v.commit ≡ n = grind (arith, nat_tests) in needed-staged n slots v vs same falls
      | false ↦ λ _ less. let under : AllBelow n (v ∷ vs) = (less, falls_below v.commit n vs (omega arith) falls) in
          filter-agree (is_needed (Some n) slots (v ∷ vs)) (is_needed None slots (v ∷ vs)) (v ∷ vs)
          (none_staged n slots (v ∷ vs) (v ∷ vs) (all_published n (v ∷ vs) under) under)
          ∙ needed-none slots (v ∷ vs) falls
    ] refl before

-- what is published is the chain without what is staged in front
pub published-base : (staged : Option ℕ) (chain : List Version) → IsBefore staged (base staged chain) → IsFalling chain
    → published staged chain ≡ base staged chain
published-base None chain before falls = refl
published-base (Some n) [] before falls = refl
published-base (Some n) (v ∷ vs) before falls =
    elim (v.commit == n) as (λ b. (v.commit == n) ≡ b → IsBefore (Some n) (cond b vs (v ∷ vs))
    → cond (not b) (v ∷ published (Some n) vs) (published (Some n) vs) ≡ cond b vs (v ∷ vs)) [
      | true ↦ λ e _. let same : v.commit ≡ n = grind (arith, nat_tests) in all_published n vs (falls_below v.commit n vs (omega arith) falls)
      | false ↦ λ _ less. ap (λ xs. v ∷ xs) (all_published n vs (falls_below v.commit n vs (omega arith) falls))
    ] refl before

-- the first that passes a test stays where it is kept
find-filter : {X : Type 0} (p q : X → Bool) (xs : List X) → ((x : X) → find p xs ≡ Some x → q x ≡ true) → find p (filter q xs) ≡ find p xs
find-filter p q [] keeps = refl
find-filter p q (x ∷ xs) keeps =
    elim (p x) as (λ b. p x ≡ b → ((y : _) → cond b (Some x) (find p xs) ≡ Some y → q y ≡ true)
    → find p (cond (q x) (x ∷ filter q xs) (filter q xs)) ≡ cond b (Some x) (find p xs)) [
      | true ↦ λ e k. ap (λ b. find p (cond b (x ∷ filter q xs) (filter q xs))) (k x refl) ∙ ap (λ b. cond b (Some x) (find p (filter q xs))) e
      | false ↦ λ e k. elim (q x) as (λ b. find p (cond b (x ∷ filter q xs) (filter q xs)) ≡ find p xs) [
        | true ↦ ap (λ b. cond b (Some x) (find p (filter q xs))) e ∙ find-filter p q xs k
        | false ↦ find-filter p q xs k
      ]
    ] refl keeps

-- an open snapshot is among the slots
pub any_open : (test : Option ℕ → Bool) (slots : List (Option ℕ)) (s : ℕ) → Contains slots (Some s) → test (Some s) ≡ true → list_any test slots ≡ true
any_open test slots s there is = go slots there.0 there.1 there.2
  where
    go : (xs : List (Option ℕ)) (k : ℕ) → k < length xs → slice_index_or xs k (Some s) ≡ Some s → list_any test xs ≡ true
    go [] k less at = absurd (omega arith)
    go (x ∷ xs) zero less at = ap (λ b. b || list_any test xs) (ap test at ∙ is)
    go (x ∷ xs) (suc k) less at = ap (λ b. test x || b) (go xs k (omega arith) at) ∙ or_yes (test x)

-- it sees what it saw in what is needed
pub needed-seen : (staged : Option ℕ) (slots : List (Option ℕ)) (chain : List Version) (s : ℕ) → Contains slots (Some s)
    → version_at (needed staged slots chain) s ≡ version_at chain s
needed-seen staged slots chain s there = find-filter (λ v. nat_le v.commit s) (is_needed staged slots chain) chain (λ v is.
    ap (λ b. is_staged staged v || (is_version (newest (published staged chain)) v || b))
    (any_open (is_seen_by chain v) slots s there (ap (λ o. is_version o v) is ∙ same_number v.commit))
    ∙ ap (λ b. is_staged staged v || b) (or_yes (is_version (newest (published staged chain)) v)) ∙ or_yes (is_staged staged v))

-- the newest published version is the one at the newest commit
newest_at : (staged : Option ℕ) (n : ℕ) (chain : List Version) → AllByRecursion (IsKnownAt staged n) chain → (v : Version) → version_at chain n ≡ Some v
    → is_version (newest (published staged chain)) v ≡ true
newest_at None n [] known v is = cc
newest_at None n (w ∷ ws) known v is =
    let le : w.commit ≤ n = known.0.0 refl in let shows : nat_le w.commit n ≡ true = grind (arith, nat_tests) in
    let same : Some w ≡ Some v = sym (ap (λ b. cond b (Some w) (version_at ws n)) shows) ∙ is in
    ap (λ o. is_version o v) same ∙ same_number v.commit
newest_at (Some m) n [] known v is = cc
newest_at (Some m) n (w ∷ ws) known v is =
    elim (w.commit == m) as (λ b. (b ≡ false → w.commit ≤ n) → (b ≡ true → n < w.commit)
    → is_version (newest (cond (not b) (w ∷ published (Some m) ws) (published (Some m) ws))) v ≡ true) [
      | true ↦ λ _ after. let less : n < w.commit = after refl in let hidden : nat_le w.commit n ≡ false = grind (arith, nat_tests) in
          newest_at (Some m) n ws known.1 v (sym (ap (λ b. cond b (Some w) (version_at ws n)) hidden) ∙ is)
      | false ↦ λ upto _. let le : w.commit ≤ n = upto refl in let shows : nat_le w.commit n ≡ true = grind (arith, nat_tests) in
          ap (λ o. is_version o v) (sym (ap (λ b. cond b (Some w) (version_at ws n)) shows) ∙ is) ∙ same_number v.commit
    ] known.0.0 known.0.1

-- at a commit where a chain is known, the same version is seen in the chain with only what is needed
pub needed-newest : (staged : Option ℕ) (slots : List (Option ℕ)) (chain : List Version) (n : ℕ) → All (IsKnownAt staged n) chain
    → version_at (needed staged slots chain) n ≡ version_at chain n
needed-newest staged slots chain n known = find-filter (λ v. nat_le v.commit n) (is_needed staged slots chain) chain (λ v is.
    ap (λ b. is_staged staged v || (b || list_any (is_seen_by chain v) slots)) (newest_at staged n chain (recursion_from_All _ chain known) v is)
    ∙ or_yes (is_staged staged v))

-- what is known at a commit is later there
pub known_later : (staged : Option ℕ) (n : ℕ) (chain : List Version) → All (IsKnownAt staged n) chain → IsLater staged n chain
known_later staged n [] known = tt
known_later staged n (v ∷ vs) known = (known 0 v (omega arith)).1
