-- What the lock table grants and refuses is what the journal does.
use Rattle.std.proofs.Common.{◌≡◌, ℕ, zero, suc, ◌≤◌, ◌<◌, ◌==◌, Bool, true, false, not, ◌&&◌, true≢false, List, [], ◌∷◌, ◌++◌, length, take, slice_get, All, Option, None, Some, IsSomeAnd, IfSome, refl, sym, ap, subst, ◌∙◌, arith}
use Rattle.std.proofs.lemmas.Bool.{eq-eqb, ne_eqb}
use Rattle.xq_ast.specs.declared.call.Call.{Call}
use Rattle.xq_ast.specs.declared.call.Call.TheVariants.{Create, Drop, Load, Export, Update, Query}
use Rattle.xq_ast.specs.declared.need.LockMode.{LockMode}
use Rattle.xq_ast.specs.declared.need.LockMode.TheVariants.{S, X}
use Rattle.xq_ast.specs.declared.need.Need.{Need}
use Rattle.xml_model.specs.Needs.{needs as needs_of}
use Rattle.doc_locks.specs.Names.{Locks}
use Rattle.doc_locks.specs.Locks as table
use Rattle.doc_locks.specs.Locks.{mode_held, is_blocked_by, IsLeastHolder, IsFirstConflict}
use Rattle.doc_locks.specs.Refusal.{IsRefusal}
use Rattle.doc_locks.specs.declared.end.AskEnd.TheVariants.{Held}
use Rattle.session_core.specs.declared.history.event.State.TheVariants.{Updating}
use Rattle.session_core.specs.declared.history.event.Event.{Event}
use Rattle.session_core.specs.History.States.{state, blocks}
use Rattle.xq_ast.specs.Modes.{conflicts}
use Rattle.session_core.specs.History.Refusals.{refused_in, work_of}
use Rattle.session_core.specs.History.Locks.{IsFree, AllFree, IsGranted, IsRefused}
use Rattle.session_core.proofs.Holding.{and_parts}
use Rattle.session_core.proofs.Tying.{LocksAre}

-- the needs before a place, the one there, and those behind
record Parted (asked : List Need) (place : ℕ) (P Q : Need → Type 0) : Type 0 where
  there : Need
  behind : List Need
  are : asked ≡ take place asked ++ there ∷ behind
  first : P there
  second : Q there

parted : (P Q : Need → Type 0) (asked : List Need) (place : ℕ) → IsSomeAnd (slice_get asked place) P → IfSome (slice_get asked place) Q → Parted asked place P Q
parted P Q [] zero p q = absurd p
parted P Q [] (suc place) p q = absurd p
parted P Q (n ∷ more) zero p q = record { there = n; behind = more; are = refl; first = p; second = q }
parted P Q (n ∷ more) (suc place) p q =
    let rest = parted P Q more place p q in
    record { there = rest.there; behind = rest.behind; are = ap (λ l. n ∷ l) rest.are; first = rest.first; second = rest.second }

-- a call that needs locks passes the test of an updating transaction
some_passes : (call : Call) (asked : List Need) → needs_of call ≡ asked → (asked ≡ [] → ⊥) → refused_in Updating (work_of call) ≡ None
some_passes (Create name) asked are some = refl
some_passes (Drop name) asked are some = refl
some_passes (Load name pyx_lines) asked are some = refl
some_passes (Export name) asked are some = refl
some_passes (Update what) asked are some = refl
some_passes (Query expr) asked are some = refl
some_passes call asked are some = absurd (some (sym are))

not_empty : (front : List Need) (n : Need) (behind asked : List Need) → asked ≡ front ++ n ∷ behind → asked ≡ [] → ⊥
not_empty [] n behind asked are none = let e : n ∷ behind ≡ [] = sym are ∙ none in cc
not_empty (m ∷ front) n behind asked are none = let e : m ∷ front ++ n ∷ behind ≡ [] = sym are ∙ none in cc

module _ (past : List Event) (locks : Locks) (are : LocksAre locks past) (s : ℕ) where
  -- who is another blocks in the table what it blocks in the journal
  blocked_is : (t : ℕ) (n : Need) → (t ≡ s → ⊥) → is_blocked_by locks s n t ≡ blocks t n past
  blocked_is t n other = ap (λ b. not b && conflicts (mode_held locks t n.name) n.mode) (ne_eqb t s other) ∙ ap (λ m. conflicts m n.mode) (are t n.name)

  free : (n : Need) → table.IsFree locks s n → IsFree s n past
  free n is t other = sym (blocked_is t n other) ∙ is t

  -- what is free in the table of locks is free in the journal
  pub all_free : (asked : List Need) → All (table.IsFree locks s) asked → AllFree s asked past
  all_free [] all = tt
  all_free (n ∷ more) all = (free n (all 0 n (omega arith)), all_free more (λ k d within. all (suc k) d (omega arith)))

  not_itself : (t : ℕ) (n : Need) → is_blocked_by locks s n t ≡ true → t ≡ s → ⊥
  not_itself t n is same = true≢false (sym (and_parts (not (t == s)) _ is).0 ∙ ap not (eq-eqb t s same))

  least_here : (n : Need) (holder : ℕ) → IsLeastHolder locks s n holder → (t : ℕ) → t < holder → (t ≡ s → ⊥) → blocks t n past ≡ false
  least_here n holder is t below other = by_test (blocks t n past) refl
    where
      too_low : holder ≤ t → ⊥
      too_low above = omega arith

      by_test : (b : Bool) → blocks t n past ≡ b → b ≡ false
      by_test true blocked = absurd (too_low (is.least t (blocked_is t n other ∙ blocked)))
      by_test false not_blocked = refl

  -- a call's locks that the table refuses are refused in the journal, for the same name and the same holder
  pub refused : (asked : List Need) (name : List ℕ) (holder : ℕ) → state s past ≡ Updating → (call : Call) → needs_of call ≡ asked
      → IsRefusal locks s asked (Held name holder) → IsRefused s name holder asked past
  refused asked name by updating call needs_are is =
      let place = is.0 in let holder = is.1 in
      let parts = parted (λ n. IsLeastHolder locks s n holder) (λ n. name ≡ n.name) asked place is.2.there is.3.0 in
      let least = subst (λ h. IsLeastHolder locks s parts.there h) (sym is.3.1) parts.first in record {
        updating = updating;
        call = call;
        needs_are = needs_are;
        passes = some_passes call asked needs_are (not_empty (take place asked) parts.there parts.behind asked parts.are);
        before = take place asked;
        blocked = parts.there;
        behind = parts.behind;
        asked_are = parts.are;
        before_free = all_free (take place asked) is.2.before;
        name_is = parts.second;
        other = not_itself by parts.there least.holds;
        holds = sym (blocked_is by parts.there (not_itself by parts.there least.holds)) ∙ least.holds;
        least = least_here parts.there by least;
      }

-- the locks are granted
pub is_granted : (past : List Event) (locks : Locks) → LocksAre locks past → (s : ℕ) (asked : List Need) → state s past ≡ Updating → 0 < length asked
    → (call : Call) → needs_of call ≡ asked → All (table.IsFree locks s) asked → IsGranted s asked past
is_granted past locks are s asked updating some call needs_are free =
    record { updating = updating; call = call; needs_are = needs_are; some = some; free = all_free past locks are s asked free }
