-- What a table holds of sessions that aren't in it, and of one that is written to.
use Rattle.std.proofs.Common.{◌≡◌, ℕ, Bool, true, false, not, ◌&&◌, ◌==◌, List, Option, Some, None, IfNone, IfSome, IsSomeAnd, All, slice_get, take, drop, length, ◌∷◌, ◌+◌, ◌<◌, refl, sym, ap, subst, ◌∙◌, is_some, is_eq, nat_eq, unwrap_or, true≢false, add-one, drop-cons, cond}
use Rattle.std.proofs.lemmas.Option.{slice_get_within, get_or_from_slice_get}
use Rattle.std.specs.declared.cmp.Ordering.{Ordering}
use Rattle.std.specs.declared.cmp.Ordering.TheVariants.{Less, Equal, Greater}
use Rattle.std.specs.Cmp.{nat_cmp_total}
use Rattle.std.specs.FinMap.{nat_cmp-IsAntisymmetric}
use Rattle.std.specs.Ordering.{nat_cmp}
use Rattle.std.specs.Cmp.Lexicographic.{slice_cmp}
use Rattle.std.specs.FinMap as fin
use Rattle.std.specs.List.{list_any}
use Rattle.std.specs.Map.{keys_of}
use Rattle.xq_ast.specs.declared.need.Need.{Need}
use Rattle.doc_locks.specs.Names.{Names, Locks}
use Rattle.doc_locks.specs.Locks.{is_blocked_by, IsFree, IsLeastHolder, IsFirstConflict}
use Rattle.xq_ast.specs.Modes.{conflicts}
use Rattle.doc_locks.specs.Refusal.{IsRefusal, NamesConflict}
use Rattle.doc_locks.specs.declared.end.AskEnd.{AskEnd}
use Rattle.doc_locks.specs.declared.end.AskEnd.TheVariants.{Held, NoMemory}
use Rattle.doc_locks.specs.Least.{least_with}
use Rattle.doc_locks.proofs.Entries.{map_of, get-map_of}
use Rattle.doc_locks.proofs.Leasts.{among_keys, least_in, all_fail, passes, is_least}

never : (b : Bool) → (b && false) ≡ false
never true = refl
never false = refl

-- who isn't in the table holds nothing
holds_nothing : (o : Option Names) (b : Bool) (need : Need) → (b && conflicts (fin.get (unwrap_or o fin.empty) need.name) need.mode) ≡ true → is_some o ≡ true
holds_nothing None b need is =
    absurd (true≢false (sym is ∙ ap (λ m. b && conflicts m need.mode) (fin.get-empty (slice_cmp nat_cmp) need.name) ∙ never b))
holds_nothing (Some names) b need is = refl

-- so who holds a lock in conflict is among the sessions of the table
pub blocked_among : (es : List (ℕ × Names)) (session : ℕ) (need : Need) (h : ℕ) → is_blocked_by (map_of es) session need h ≡ true
    → list_any (nat_eq h) (keys_of es) ≡ true
blocked_among es session need h is =
    sym (among_keys h es) ∙ ap is_some (sym (get-map_of es h)) ∙ holds_nothing (fin.get (map_of es) h) (not (h == session)) need is

-- a place in a list that has an item
pub drop-at : {X : Type 0} (xs : List X) (i : ℕ) (x : X) → slice_get xs i ≡ Some x → drop i xs ≡ x ∷ drop (i + 1) xs
drop-at xs i x is =
    let within = slice_get_within xs i x is in
    drop-cons xs i x within ∙ (λ j. get_or_from_slice_get xs i x x is j ∷ drop (sym (add-one i) j) xs)

module _ (es : List (ℕ × Names)) (session : ℕ) (need : Need) where
  -- this session holds a lock of another's that is in conflict with the need
  abbrev pub blocked : ℕ → Bool
  blocked = is_blocked_by (map_of es) session need

  -- a session is looked at
  pub looked : (place : ℕ) (least : Option ℕ) (holder : ℕ) (held : Names) (b : Bool) → slice_get es place ≡ Some (holder, held)
      → fin.get (map_of es) holder ≡ Some held
      → b ≡ (not (holder == session) && conflicts (fin.get held need.name) need.mode)
      → least_in blocked (keys_of (drop (place + 1) es)) (least_with least holder b) ≡ least_in blocked (keys_of (drop place es)) least
  looked place least holder held b there has is =
      let same : b ≡ blocked holder = is ∙ ap (λ o. not (holder == session) && conflicts (fin.get (unwrap_or o fin.empty) need.name) need.mode) (sym has) in
      ap (λ c. least_in blocked (keys_of (drop (place + 1) es)) (least_with least holder c)) same
      ∙ ap (λ ks. least_in blocked (keys_of ks) least) (sym (drop-at es place (holder, held) there))

  -- at the end none is found, and no session holds a lock in conflict
  pub free_end : (least : Option ℕ) → least ≡ least_in blocked (keys_of es) None → IfNone least (IsFree (map_of es) session need)
  free_end None is = all_fail blocked (keys_of es) (blocked_among es session need) (sym is)
  free_end (Some h) is = tt

  -- or the least that does
  pub least_end : (least : Option ℕ) → least ≡ least_in blocked (keys_of es) None → IfSome least (IsLeastHolder (map_of es) session need)
  least_end None is = tt
  least_end (Some h) is = record {
    holds = passes blocked (keys_of es) (blocked_among es session need) h (sym is);
    least = is_least blocked (keys_of es) (blocked_among es session need) h (sym is);
  }

-- a need that is in conflict, after free ones
pub first_conflict : (t : Locks) (session : ℕ) (needs : List Need) (place holder : ℕ) (need : Need) → slice_get needs place ≡ Some need
    → All (IsFree t session) (take place needs) → IsLeastHolder t session need holder → IsFirstConflict t session needs place holder
first_conflict t session needs place holder need is before least =
    record { before = before; there = subst (λ o. IsSomeAnd o (λ n. IsLeastHolder t session n holder)) (sym is) least }

-- is what a refusal says
pub refused : (t : Locks) (session : ℕ) (needs : List Need) (place holder : ℕ) (r : AskEnd) → IsFirstConflict t session needs place holder
    → NamesConflict needs place holder r
    → IsRefusal t session needs r
refused t session needs place holder (Held name by) first names = (place, holder, first, names)
refused t session needs place holder NoMemory first names = tt

within_some : {X : Type 0} (xs : List X) (i : ℕ) (o : Option X) (P : X → Type 0) → slice_get xs i ≡ o → IsSomeAnd o P → i < length xs
within_some xs i None P is p = absurd p
within_some xs i (Some x) P is p = slice_get_within xs i x is

-- its place is one of the needs
pub conflict_within : (t : Locks) (session : ℕ) (needs : List Need) (place holder : ℕ) → IsFirstConflict t session needs place holder → place < length needs
conflict_within t session needs place holder first = within_some needs place (slice_get needs place) (λ n. IsLeastHolder t session n holder) refl first.there

-- what is there, put in again, changes nothing
pub insert-same : {X : Type 0} (m : fin.FinMap nat_cmp X) (k : ℕ) (x : X) → fin.get m k ≡ Some x → fin.insert m k x ≡ m
insert-same m k x is = fin.same_map nat_cmp_total nat_cmp-IsAntisymmetric _ _ (λ q. fin.get-insert nat_cmp_total m k x q ∙ at (nat_cmp q k) q refl)
  where
    at : (o : Ordering) (q : ℕ) → nat_cmp q k ≡ o → cond (is_eq o) (Some x) (fin.get m q) ≡ fin.get m q
    at Less q e = refl
    at Equal q e = sym is ∙ ap (fin.get m) (sym (nat_cmp-IsAntisymmetric q k e))
    at Greater q e = refl
