-- Reading names, and pages, one after the other, as a loop does.
use Rattle.std.proofs.Common.{◌≡◌, ℕ, suc, ◌-◌, ◌+◌, ◌≤◌, ◌<◌, List, [], ◌∷◌, ◌++◌, Ok, refl, arith}
use Rattle.page_bytes.specs.declared.lists.PageChange.{PageChange}
use Rattle.redo_log.specs.declared.change.LogName.{LogName}
use Rattle.redo_log.specs.declared.store.Store.{Store}
use Rattle.redo_log.specs.declared.fault.ReadEnd.{ReadEnd}
use Rattle.redo_log.specs.declared.fault.ReadEnd.TheVariants as ends
use Rattle.redo_log.specs.Gives.{Fails}
use Rattle.redo_log.specs.Store.{after_name, after_names}
use Rattle.redo_log.specs.Reading.{name_at, names_at, page_at, pages_at}

module _ (commit count i : ℕ) (done : List LogName) (s : Store) (bytes : List ℕ) where
  -- with names left, and one read now, what is left is to read one fewer after this one
  pub name_more : (n : LogName) (rest : List ℕ) → i < count → name_at commit done s bytes ≡ Ok (n, rest)
      → names_at commit (count - i) done s bytes ≡ names_at commit (count - (i + 1)) (done ++ n ∷ []) (after_name n s) rest
  unfolding names_at
  name_more n rest lt h = let k : count - i ≡ suc (count - (i + 1)) = omega arith in rw (k, h) refl

  -- with names left, reading them fails where the first of them fails, as it does
  pub name_fails : (e : ReadEnd) → i < count → Fails e (name_at commit done s bytes) → Fails e (names_at commit (count - i) done s bytes)
  unfolding names_at
  name_fails (ends.Wrong left) lt h = let k : count - i ≡ suc (count - (i + 1)) = omega arith in rw (k, h) refl
  name_fails ends.NoMemory lt h = tt

  -- with no names left, those that are done are the answer, and all the bytes are left
  pub names_end : count ≤ i → names_at commit (count - i) done s bytes ≡ Ok (done, bytes)
  unfolding names_at
  names_end le = let k : count - i ≡ 0 = omega arith in rw k refl

module _ (count i : ℕ) (done : List PageChange) (s : Store) (bytes : List ℕ) where
  -- with pages left, and one read now, what is left is to read one fewer after this one
  pub page_more : (c : PageChange) (rest : List ℕ) → i < count → page_at done s bytes ≡ Ok (c, rest)
      → pages_at (count - i) done s bytes ≡ pages_at (count - (i + 1)) (done ++ c ∷ []) s rest
  unfolding pages_at
  page_more c rest lt h = let k : count - i ≡ suc (count - (i + 1)) = omega arith in rw (k, h) refl

  -- with pages left, reading them fails where the first of them fails, as it does
  pub page_fails : (e : ReadEnd) → i < count → Fails e (page_at done s bytes) → Fails e (pages_at (count - i) done s bytes)
  unfolding pages_at
  page_fails (ends.Wrong left) lt h = let k : count - i ≡ suc (count - (i + 1)) = omega arith in rw (k, h) refl
  page_fails ends.NoMemory lt h = tt

  -- with no pages left, those that are done are the answer, and all the bytes are left
  pub pages_end : count ≤ i → pages_at (count - i) done s bytes ≡ Ok (done, bytes)
  unfolding pages_at
  pages_end le = let k : count - i ≡ 0 = omega arith in rw k refl

-- the store after one name more is that after the others, changed by this name
pub after_names-more : (done : List LogName) (n : LogName) (s : Store) → after_names (done ++ n ∷ []) s ≡ after_name n (after_names done s)
after_names-more [] n s = refl
after_names-more (d ∷ done) n s = after_names-more done n (after_name d s)
