-- What `Versions` keeps of its fields, call by call.
use Rattle.std.proofs.Common.{◌≡◌, ◌≢◌, ℕ, ◌<◌, ◌≤◌, Bool, true, false, cond, ◌||◌, ◌==◌, List, [], ◌∷◌, Option, Some, None, Result, Ok, Err, IfSome, unwrap_or, OnOk, OnErr, All, Contains, slice_index_or, slice_set, length, refl, sym, ap, ◌∙◌, subst, true≢false, arith, zero, suc}
use Rattle.std.proofs.lemmas.Bool.Decides.{nat_tests}
use Rattle.std.specs.List.{list_any}
use Rattle.std.specs.FinMap as map
use Rattle.page_bytes.specs.declared.ids.PageId.{PageId}
use Rattle.page_versions.specs.declared.version.Version.{Version}
use Rattle.page_versions.specs.ChainMap.{ChainMap, chain_in}
use Rattle.page_versions.specs.Chains.{version_at, needed, published, IsFalling}
use Rattle.page_versions.specs.Kept.{IsKnownAt}
use Rattle.page_versions.specs.Purging.{base, unstaged, is_between, purged, purged_base, with_slot}
use Rattle.page_versions.specs.Inside.{IsSound, IsBefore, IsSeen, IsLater, NoneEmpty, is_listed, is_page, StagesUnder}
use Rattle.page_versions.proofs.Chaining.{purged-seen, short_seen, seen_base_more, purged_base_seen, seen_purged_base, base-purged, base-purged-unstaged, length-purged_base, length-base, later-purged, later_none, later_staged, chain_falls, before_unstaged, version_at-base, base-with_slot, before-in_slot, seen-in_slot, length-in_slot, some-with_slot, later-with_slot, unstaged-with_slot}
use Rattle.page_versions.proofs.Needing.{needed-is, published-base, known_later}
use Rattle.page_versions.proofs.Paging.{chain_in-insert, filled-insert, page-is, same_table, chain_in-empty}
use Rattle.page_bytes.specs.Order.{page_cmp}

-- a number is above one, or below two
above_one : (n : ℕ) {P : Type 0} → (1 < n → P) → (n < 2 → P) → P
above_one zero many few = few (omega arith)
above_one (suc zero) many few = few (omega arith)
above_one (suc (suc n)) many few = many (omega arith)

-- to take away twice what is staged is to do it once
pub base-base : (staged : Option ℕ) (chain : List Version) → IsBefore staged (base staged chain) → base staged (base staged chain) ≡ base staged chain
base-base None chain before = refl
base-base (Some n) chain before = before_unstaged n (unstaged n chain) before

module _ (m : ChainMap) (slots : List (Option ℕ)) (staged : Option ℕ) (touched older : List PageId) (used capacity : ℕ)
    (sound : IsSound m slots staged touched older used capacity) where
  -- the commits of each chain fall
  pub falls : (q : PageId) → IsFalling (chain_in m q)
  falls q = chain_falls staged slots (chain_in m q) (sound.before q) (sound.seen q)

  -- what is needed is what a cut leaves
  pub needed_of : (open' : List (Option ℕ)) (q : PageId) → needed staged open' (chain_in m q) ≡ purged staged open' (chain_in m q)
  needed_of open' q = needed-is staged open' (chain_in m q) (sound.before q) (falls q)

  -- each chain has exactly the versions that are needed
  pub exact : (q : PageId) → needed staged slots (chain_in m q) ≡ chain_in m q
  exact q = needed_of slots q ∙ purged-seen staged slots (chain_in m q) (sound.seen q)

  -- a page that isn't noted has at most one published version
  few : (q : PageId) → is_listed older q ≡ false → length (base staged (chain_in m q)) < 2
  few q out = above_one (length (base staged (chain_in m q))) (λ many. absurd (true≢false (sym (sound.long q many) ∙ out))) (λ less. less)

  -- an ended snapshot
  module _ (n : ChainMap) (open' : List (Option ℕ)) (done : (q : PageId)
      → chain_in n q ≡ cond (is_listed older q) (purged staged open' (chain_in m q)) (chain_in m q)) where
    end_is : (q : PageId) → chain_in n q ≡ purged staged open' (chain_in m q)
    end_is q = done q ∙ elim (is_listed older q) as (λ b. is_listed older q ≡ b
        → cond b (purged staged open' (chain_in m q)) (chain_in m q) ≡ purged staged open' (chain_in m q)) [
          | true ↦ λ _. refl
          | false ↦ λ out. sym (purged-seen staged open' (chain_in m q) (short_seen open' (base staged (chain_in m q)) (few q out)))
        ] refl

    -- where the noted pages are cut for the snapshots left, each chain has exactly what is needed of it
    pub end_chains : (q : PageId) → chain_in n q ≡ needed staged open' (chain_in m q)
    end_chains q = end_is q ∙ sym (needed_of open' q)

    -- the fields stay sound, if those left were open, each page that still has several published versions is noted,
    -- and no chain is empty
    pub end_sound : (noted : List PageId) (now room : ℕ) → NoneEmpty n → ((s : ℕ) → Contains open' (Some s) → Contains slots (Some s))
        → ((q : PageId) → is_listed older q ≡ true → 1 < length (base staged (chain_in n q)) → is_listed noted q ≡ true) → now ≤ room
        → IsSound n open' staged touched noted now room
    end_sound noted now room filled opened kept fits = record {
      before = λ q. subst (IsBefore staged) (sym (base_is q)) (before-purged_base staged (base staged (chain_in m q)) (sound.before q));
      seen = λ q. subst (IsSeen open') (sym (base_is q)) (purged_base_seen open' (base staged (chain_in m q)));
      front = λ q out. subst (λ c. base staged c ≡ c) (sym (end_is q)) (base-purged-unstaged staged open' (chain_in m q) (sound.front q out));
      long = λ q many. kept q (sound.long q (let shorter = length-purged_base open' (base staged (chain_in m q)) in
          let same : length (base staged (chain_in n q)) ≡ length (purged_base open' (base staged (chain_in m q))) = ap length (base_is q) in omega arith))
          many;
      filled = filled;
      later = λ s there q. subst (IsLater staged s) (sym (end_is q)) (later-purged staged s open' (chain_in m q) (sound.later s (opened s there) q));
      room = fits;
    }
      where
        base_is : (q : PageId) → base staged (chain_in n q) ≡ purged_base open' (base staged (chain_in m q))
        base_is q = ap (base staged) (end_is q) ∙ base-purged staged open' (chain_in m q)

        before-purged_base : (st : Option ℕ) (c : List Version) → IsBefore st c → IsBefore st (purged_base open' c)
        before-purged_base None c b = tt
        before-purged_base (Some k) [] b = b
        before-purged_base (Some k) (v ∷ vs) b = b

  -- what is staged is published
  module _ (n : ChainMap) (done : (q : PageId) → chain_in n q ≡ cond (is_listed touched q) (purged_base slots (chain_in m q)) (chain_in m q)) where
    publish_is : (q : PageId) → chain_in n q ≡ purged_base slots (chain_in m q)
    publish_is q = done q ∙ elim (is_listed touched q) as (λ b. is_listed touched q ≡ b
        → cond b (purged_base slots (chain_in m q)) (chain_in m q) ≡ purged_base slots (chain_in m q)) [
          | true ↦ λ _. refl
          | false ↦ λ out. sym (seen_purged_base slots (chain_in m q) (subst (IsSeen slots) (sound.front q out) (sound.seen q)))
        ] refl

    -- where the listed pages are cut with what is staged as published, each chain has exactly what is needed
    pub publish_chains : (q : PageId) → chain_in n q ≡ needed None slots (chain_in m q)
    publish_chains q = publish_is q ∙ sym (needed-is None slots (chain_in m q) tt (falls q))

    -- the fields stay sound with nothing staged, if each page that has several versions is noted and no chain is empty
    pub publish_sound : (noted : List PageId) (now room : ℕ) → NoneEmpty n
        → ((q : PageId) → is_listed touched q ≡ true → 1 < length (chain_in n q) → is_listed noted q ≡ true)
        → ((q : PageId) → is_listed older q ≡ true → is_listed noted q ≡ true) → now ≤ room → (rest : List PageId) → IsSound n slots None rest noted now room
    publish_sound noted now room filled long kept fits rest = record {
      before = λ q. tt;
      seen = λ q. subst (IsSeen slots) (sym (publish_is q)) (purged_base_seen slots (chain_in m q));
      front = λ q out. refl;
      long = λ q many. elim (is_listed touched q) as (λ b. is_listed touched q ≡ b → is_listed noted q ≡ true) [
        | true ↦ λ e. long q e many
        | false ↦ λ e. let same : chain_in n q ≡ base staged (chain_in m q) = done q ∙ ap (λ b. cond b (purged_base slots (chain_in m q)) (chain_in m q)) e
            ∙ sym (sound.front q e) in
            kept q (sound.long q (subst (λ c. 1 < length c) same many))
      ] refl;
      filled = filled;
      later = λ s there q. later_none s (chain_in n q);
      room = fits;
    }

  -- a page with more than two versions is noted
  pub long_noted : (q : PageId) → 2 < length (chain_in m q) → is_listed older q ≡ true
  long_noted q many = sound.long q (let more = length-base staged (chain_in m q) in omega arith)

  -- what is staged is taken back
  module _ (n : ChainMap) (done : (q : PageId) → chain_in n q ≡ cond (is_listed touched q) (base staged (chain_in m q)) (chain_in m q)) where
    retract_is : (q : PageId) → chain_in n q ≡ base staged (chain_in m q)
    retract_is q = done q ∙ elim (is_listed touched q) as (λ b. is_listed touched q ≡ b
        → cond b (base staged (chain_in m q)) (chain_in m q) ≡ base staged (chain_in m q)) [
          | true ↦ λ _. refl
          | false ↦ λ out. sym (sound.front q out)
        ] refl

    -- where what is staged is taken off the listed pages, each chain has exactly its published versions
    pub retract_chains : (q : PageId) → chain_in n q ≡ published staged (chain_in m q)
    retract_chains q = retract_is q ∙ sym (published-base staged (chain_in m q) (sound.before q) (falls q))

    -- at a commit before what is staged each page has the version that it had
    pub retract_seen : (s : ℕ) (q : PageId) → IsLater staged s (chain_in m q) → version_at (chain_in n q) s ≡ version_at (chain_in m q) s
    retract_seen s q later = ap (λ c. version_at c s) (retract_is q) ∙ version_at-base staged s (chain_in m q) later

    -- the fields stay sound with nothing staged, if no chain is empty
    pub retract_sound : (now room : ℕ) → NoneEmpty n → now ≤ room → (rest : List PageId) → IsSound n slots None rest older now room
    retract_sound now room filled fits rest = record {
      before = λ q. tt;
      seen = λ q. subst (IsSeen slots) (sym (retract_is q)) (sound.seen q);
      front = λ q out. refl;
      long = λ q many. sound.long q (subst (λ c. 1 < length c) (retract_is q) many);
      filled = filled;
      later = λ s there q. later_none s (chain_in n q);
      room = fits;
    }

  -- a snapshot is opened
  pub open_sound : (open' : List (Option ℕ)) → ((c a : ℕ) → list_any (is_between c a) slots ≡ true → list_any (is_between c a) open' ≡ true)
      → ((s : ℕ) → Contains open' (Some s) → (q : PageId) → IsLater staged s (chain_in m q)) → IsSound m open' staged touched older used capacity
  open_sound open' more later = record {
    before = sound.before;
    seen = λ q. seen_base_more slots open' more (base staged (chain_in m q)) (sound.seen q);
    front = sound.front;
    long = sound.long;
    filled = sound.filled;
    later = later;
    room = sound.room;
  }

  -- an image is in a slot now
  pub slot_sound : (id : PageId) (c : List Version) (slot : ℕ) → map.get m id ≡ Some c
      → IsSound (map.insert m id (with_slot staged slot c)) slots staged touched older used capacity
  slot_sound id c slot there = record {
    before = λ q. at (λ x. IsBefore staged (base staged x)) q (sound.before q)
        (λ b. subst (IsBefore staged) (sym (base-with_slot staged slot c)) (before-in_slot staged slot (base staged c) b));
    seen = λ q. at (λ x. IsSeen slots (base staged x)) q (sound.seen q)
        (λ s. subst (IsSeen slots) (sym (base-with_slot staged slot c)) (seen-in_slot slots slot (base staged c) s));
    front = λ q out. at (λ x. base staged x ≡ x) q (sound.front q out) (unstaged-with_slot staged slot c);
    long = λ q. at (λ x. 1 < length (base staged x) → is_listed older q ≡ true) q (sound.long q)
        (λ l many. l (subst (λ k. 1 < k) (ap length (base-with_slot staged slot c) ∙ length-in_slot slot (base staged c)) many));
    filled = filled-insert m id (with_slot staged slot c) sound.filled
        (some-with_slot staged slot c (subst (λ o. IfSome o (λ x. 0 < length x)) there (sound.filled id)));
    later = λ s open' q. at (IsLater staged s) q (sound.later s open' q) (later-with_slot staged s slot c);
    room = sound.room;
  }
    where
      at : (P : List Version → Type 0) (q : PageId) → P (chain_in m q) → (P c → P (with_slot staged slot c))
          → P (chain_in (map.insert m id (with_slot staged slot c)) q)
      at P q now then = subst P (sym (chain_in-insert m id (with_slot staged slot c) q))
          (elim (is_page q id) as (λ b. is_page q id ≡ b → P (cond b (with_slot staged slot c) (chain_in m q))) [
            | true ↦ λ e. then (subst P (ap (chain_in m) (page-is q id e) ∙ ap (λ o. unwrap_or o []) there) now)
            | false ↦ λ _. now
          ] refl)

-- a commit is staged on what is published
module _ (m n : ChainMap) (slots : List (Option ℕ)) (touched noted older : List PageId) (used capacity k : ℕ)
    (sound : IsSound m slots None touched older used capacity)
    (past : (q : PageId) → IsBefore (Some k) (chain_in m q)) (under : StagesUnder k m n touched noted) where
  -- without what is staged in front, each chain is the one that was there
  pub stage_under : (q : PageId) → unstaged k (chain_in n q) ≡ chain_in m q
  stage_under q = under.under q ∙ before_unstaged k (chain_in m q) (past q)

  -- the fields are sound with the commit staged, if all open snapshots are before it
  pub stage_sound : (later : (s : ℕ) → Contains slots (Some s) → s < k) (now room : ℕ) → now ≤ room → IsSound n slots (Some k) noted older now room
  stage_sound later now room fits = record {
    before = λ q. subst (IsBefore (Some k)) (sym (stage_under q)) (past q);
    seen = λ q. subst (IsSeen slots) (sym (stage_under q)) (sound.seen q);
    front = λ q out. stage_under q ∙ sym (under.others q out);
    long = λ q many. sound.long q (subst (λ c. 1 < length c) (stage_under q) many);
    filled = under.filled;
    later = λ s there q. later_staged k s (chain_in n q) (later s there);
    room = fits;
  }

  -- with what is staged taken off once there is nothing more to take off
  pub stage_once : (q : PageId) → unstaged k (unstaged k (chain_in n q)) ≡ unstaged k (chain_in n q)
  stage_once q = ap (unstaged k) (stage_under q) ∙ sym (under.under q)

  -- and taken back again
  pub stage_back : (back : ChainMap) → NoneEmpty back → ((q : PageId) → chain_in back q ≡ cond (is_listed noted q) (unstaged k (chain_in n q)) (chain_in n q))
      → back ≡ m
  stage_back back filled done =
      same_table back m filled sound.filled (λ q. done q
      ∙ elim (is_listed noted q) as (λ b. is_listed noted q ≡ b → cond b (unstaged k (chain_in n q)) (chain_in n q) ≡ chain_in m q) [
        | true ↦ λ _. stage_under q
        | false ↦ λ out. under.others q out
      ] refl)

-- a chain of earlier versions begins with one
pub past_before : (k : ℕ) (chain : List Version) → All (λ v. v.commit < k) chain → IsBefore (Some k) chain
past_before k [] all = tt
past_before k (v ∷ vs) all = all 0 v (omega arith)

-- what is open under one key is open
any_true : (test : Option ℕ → Bool) → test None ≡ false → (xs : List (Option ℕ)) → list_any test xs ≡ true
    → (k : ℕ) × (s : ℕ) × (slice_index_or xs k None ≡ Some s) × (test (Some s) ≡ true)
any_true test none [] is = absurd (true≢false (sym is))
any_true test none (None ∷ xs) is =
    let rest = any_true test none xs (ap (λ b. b || list_any test xs) (sym none) ∙ is) in (suc rest.0, rest.1, rest.2, rest.3)
any_true test none (Some s ∷ xs) is =
    elim (test (Some s)) as (λ b. test (Some s) ≡ b → (b || list_any test xs) ≡ true
    → (k : ℕ) × (t : ℕ) × (slice_index_or (Some s ∷ xs) k None ≡ Some t) × (test (Some t) ≡ true)) [
      | true ↦ λ e _. (zero, s, refl, e)
      | false ↦ λ _ more. let rest = any_true test none xs more in (suc rest.0, rest.1, rest.2, rest.3)
    ] refl is

or_yes : (b : Bool) → (b || true) ≡ true
or_yes true = refl
or_yes false = refl

any_there : (test : Option ℕ → Bool) (xs : List (Option ℕ)) (k s : ℕ) → slice_index_or xs k None ≡ Some s → test (Some s) ≡ true → list_any test xs ≡ true
any_there test [] zero s at is = cc
any_there test [] (suc k) s at is = cc
any_there test (x ∷ xs) zero s at is = ap (λ b. b || list_any test xs) (ap test at ∙ is)
any_there test (x ∷ xs) (suc k) s at is = ap (λ b. test x || b) (any_there test xs k s at is) ∙ or_yes (test x)

-- where each open snapshot stays open
pub any_more : (test : Option ℕ → Bool) → test None ≡ false → (xs ys : List (Option ℕ))
    → ((k s : ℕ) → slice_index_or xs k None ≡ Some s → slice_index_or ys k None ≡ Some s) → list_any test xs ≡ true → list_any test ys ≡ true
any_more test none xs ys keeps is = let found = any_true test none xs is in any_there test ys found.0 found.1 (keeps found.0 found.1 found.2) found.3

-- a snapshot under a key is one of the snapshots
pub contains_there : (xs : List (Option ℕ)) (k s : ℕ) → slice_index_or xs k None ≡ Some s → Contains xs (Some s)
contains_there [] zero s at = cc
contains_there [] (suc k) s at = cc
contains_there (x ∷ xs) zero s at = (zero, omega arith, at)
contains_there (x ∷ xs) (suc k) s at = let rest = contains_there xs k s at in (suc rest.0, let less = rest.1 in omega arith, rest.2)

there_of : (xs : List (Option ℕ)) (k s : ℕ) → k < length xs → slice_index_or xs k (Some s) ≡ Some s → slice_index_or xs k None ≡ Some s
there_of [] k s less at = absurd (omega arith)
there_of (x ∷ xs) zero s less at = at
there_of (x ∷ xs) (suc k) s less at = there_of xs k s (omega arith) at

-- each of the snapshots is under a key
pub key_of : (xs : List (Option ℕ)) (s : ℕ) → Contains xs (Some s) → (k : ℕ) × (slice_index_or xs k None ≡ Some s)
key_of xs s there = (there.0, there_of xs there.0 s there.1 there.2)

set_there : (xs : List (Option ℕ)) (i k s : ℕ) → slice_index_or (slice_set xs i None) k None ≡ Some s → slice_index_or xs k None ≡ Some s
set_there [] zero zero s at = cc
set_there [] zero (suc k) s at = cc
set_there [] (suc i) zero s at = cc
set_there [] (suc i) (suc k) s at = cc
set_there (x ∷ xs) zero zero s at = cc
set_there (x ∷ xs) zero (suc k) s at = at
set_there (x ∷ xs) (suc i) zero s at = at
set_there (x ∷ xs) (suc i) (suc k) s at = set_there xs i k s at

-- a snapshot that is open after another has ended was open before
pub ended_open : (xs : List (Option ℕ)) (i s : ℕ) → Contains (slice_set xs i None) (Some s) → Contains xs (Some s)
ended_open xs i s there = let key = key_of (slice_set xs i None) s there in contains_there xs key.0 s (set_there xs i key.0 s key.1)

-- a snapshot more
pub opened_keeps : (xs ys : List (Option ℕ)) (key : ℕ) → slice_index_or xs key None ≡ None
    → ((k : ℕ) → k ≢ key → slice_index_or ys k None ≡ slice_index_or xs k None)
    → (k s : ℕ) → slice_index_or xs k None ≡ Some s → slice_index_or ys k None ≡ Some s
opened_keeps xs ys key vacant others k s at =
    others k (λ same. let none : slice_index_or xs k None ≡ None = ap (λ j. slice_index_or xs j None) same ∙ vacant in let both : Some s ≡ None = sym at
    ∙ none in cc) ∙ at

-- a snapshot opened at a commit where all chains are known is before what is staged, if the others are
pub opened_later : (staged : Option ℕ) (m : ChainMap) (xs ys : List (Option ℕ)) (key n : ℕ) → ((q : PageId) → All (IsKnownAt staged n) (chain_in m q))
    → ((s : ℕ) → Contains xs (Some s) → (q : PageId) → IsLater staged s (chain_in m q))
    → slice_index_or ys key None ≡ Some n → ((k : ℕ) → k ≢ key → slice_index_or ys k None ≡ slice_index_or xs k None) → (s : ℕ) → Contains ys (Some s)
    → (q : PageId) → IsLater staged s (chain_in m q)
opened_later staged m xs ys key n known later changed others s there q =
    let at = key_of ys s there in
    elim (at.0 == key) as (λ b. (at.0 == key) ≡ b → IsLater staged s (chain_in m q)) [
      | true ↦ λ e. let same : at.0 ≡ key = grind (arith, nat_tests) in let both : Some n ≡ Some s = sym changed ∙ ap (λ k. slice_index_or ys k None) (sym same)
          ∙ at.1 in
          let number : n ≡ s = cc in subst (λ t. IsLater staged t (chain_in m q)) number (known_later staged n (chain_in m q) (known q))
      | false ↦ λ e. later s (contains_there xs at.0 s
          (sym (others at.0 (λ same. let is : (at.0 == key) ≡ true = grind (arith, nat_tests) in true≢false (sym is ∙ e))) ∙ at.1)) q
    ] refl

-- nothing is kept at first
pub empty_sound : (m : ChainMap) (slots : List (Option ℕ)) (touched older : List PageId) (used capacity : ℕ) → m ≡ map.empty → used ≤ capacity
    → IsSound m slots None touched older used capacity
empty_sound m slots touched older used capacity is fits = record {
  before = λ q. tt;
  seen = λ q. subst (IsSeen slots) (sym (none q)) tt;
  front = λ q out. refl;
  long = λ q many. let zero_is : length (chain_in m q) ≡ 0 = ap length (none q) in absurd (omega arith);
  filled = λ q. subst (λ o. IfSome o (λ c. 0 < length c)) (sym (ap (λ t. map.get t q) is ∙ map.get-empty page_cmp q)) tt;
  later = λ s there q. later_none s (chain_in m q);
  room = fits;
}
  where
    none : (q : PageId) → chain_in m q ≡ []
    none q = ap (λ t. chain_in t q) is ∙ chain_in-empty q

-- a chain of one version is started
pub start_sound : (m : ChainMap) (slots : List (Option ℕ)) (touched older : List PageId) (used capacity : ℕ) (id : PageId) (v : Version)
    → IsSound m slots None touched older used capacity
    → IsSound (map.insert m id (v ∷ [])) slots None touched older used capacity
start_sound m slots touched older used capacity id v sound = record {
  before = λ q. tt;
  seen = λ q. at (IsSeen slots) q (sound.seen q) tt;
  front = λ q out. refl;
  long = λ q. at (λ c. 1 < length c → is_listed older q ≡ true) q (sound.long q) (λ many. absurd (omega arith));
  filled = filled-insert m id (v ∷ []) sound.filled (omega arith);
  later = λ s there q. later_none s (chain_in (map.insert m id (v ∷ [])) q);
  room = sound.room;
}
  where
    at : (P : List Version → Type 0) (q : PageId) → P (chain_in m q) → P (v ∷ []) → P (chain_in (map.insert m id (v ∷ [])) q)
    at P q now one = subst P (sym (chain_in-insert m id (v ∷ []) q)) (pick (is_page q id))
      where
        pick : (b : Bool) → P (cond b (v ∷ []) (chain_in m q))
        pick true = one
        pick false = now

-- by what a call answered
pub by_result : {T E : Type 0} (r : Result T E) (P : ChainMap → Type 0) (m n more : ChainMap) → OnOk r (n ≡ more) → OnErr r (n ≡ m) → P more → P m → P n
by_result (Ok x) P m n more ok err done left = subst P (sym ok) done
by_result (Err e) P m n more ok err done left = subst P (sym err) left
