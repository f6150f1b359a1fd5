-- The locks of open updating transactions: what they cover, and that those of two sessions do not conflict.
use Rattle.std.proofs.Common.{◌≡◌, ℕ, ◌==◌, Bool, true, false, ◌&&◌, ◌||◌, true≢false, List, [], ◌∷◌, ◌++◌, Option, None, Some, refl, sym, ap, subst, ◌∙◌}
use Rattle.std.specs.Prelude.{if◌then◌else◌}
use mathlib.Core.Logic.{◌⊎◌, inl, inr}
use Rattle.std.proofs.lemmas.Bool.{eqb-true, ne_eqb}
use Rattle.std.proofs.lemmas.Slice.Eq.{bytes_eq-Decides}
use Rattle.std.specs.Str.{bytes_eq}
use Rattle.xq_ast.specs.declared.need.LockMode.{LockMode}
use Rattle.xq_ast.specs.declared.need.LockMode.TheVariants.{S, X}
use Rattle.xq_ast.specs.declared.need.Need.{Need}
use Rattle.xml_model.specs.Needs.{has_exclusive}
use Rattle.session_core.specs.declared.history.event.BeginKind.{BeginKind}
use Rattle.session_core.specs.declared.history.event.BeginKind.TheVariants as kinds
use Rattle.session_core.specs.declared.history.event.Reply.{Reply}
use Rattle.session_core.specs.declared.history.event.Event.{Event}
use Rattle.session_core.specs.declared.history.event.Event.TheVariants.{Began, Granted, Refused, Answered, Committed, Ended, RolledBack, Doubt, Settled, Left}
use Rattle.session_core.specs.History.Transactions.{Transaction, open_of, open_behind, with_locks, with_reply, with_doubt, begun}
use Rattle.session_core.specs.History.States.{strongest, held_with, held_in}
use Rattle.xq_ast.specs.Modes.{stronger, conflicts, is_exclusive}
use Rattle.session_core.specs.History.Locks.{IsFree, AllFree, LocksAt}
use Rattle.session_core.specs.History.{AtEach}

-- ---- a name in a list of needs

-- the name stands in the list, with any mode
abbrev pub has_name : List ℕ → List Need → Bool
has_name name [] = false
has_name name (n ∷ more) = bytes_eq n.name name || has_name name more

-- X where the name stands there with X, S where it stands there at all, and else no mode
abbrev pub mode_by : Bool → Bool → Option LockMode
mode_by true there = Some X
mode_by false true = Some S
mode_by false false = None

-- the strongest mode by whether the name stands there, and whether it does with X
first_mode : (mode : LockMode) (same exclusive there : Bool) (rest : Option LockMode) → rest ≡ mode_by exclusive there
    → (if same then Some (stronger mode rest) else rest) ≡ mode_by ((is_exclusive mode && same) || exclusive) (same || there)
first_mode S true true there rest e = ap (λ r. Some (stronger S r)) e
first_mode S true false true rest e = ap (λ r. Some (stronger S r)) e
first_mode S true false false rest e = ap (λ r. Some (stronger S r)) e
first_mode S false exclusive there rest e = e
first_mode X true exclusive there rest e = refl
first_mode X false exclusive there rest e = e

-- the strongest mode of a name in a list is told by whether it stands there, and whether it does with X
pub strongest_is : (name : List ℕ) (locks : List Need) → strongest name locks ≡ mode_by (has_exclusive name locks) (has_name name locks)
strongest_is name [] = refl
strongest_is name (n ∷ more) =
    first_mode n.mode (bytes_eq n.name name) (has_exclusive name more) (has_name name more) (strongest name more) (strongest_is name more)

or_assoc : (a b c : Bool) → ((a || b) || c) ≡ (a || (b || c))
or_assoc true b c = refl
or_assoc false b c = refl

-- a name stands in two lists together where it stands in one of them
pub has_name-append : (name : List ℕ) (xs ys : List Need) → has_name name (xs ++ ys) ≡ (has_name name xs || has_name name ys)
has_name-append name [] ys = refl
has_name-append name (n ∷ xs) ys = ap (λ b. bytes_eq n.name name || b) (has_name-append name xs ys)
    ∙ sym (or_assoc (bytes_eq n.name name) (has_name name xs) (has_name name ys))

-- a name stands with X in two lists together where it does in one of them
pub has_exclusive-append : (name : List ℕ) (xs ys : List Need) → has_exclusive name (xs ++ ys) ≡ (has_exclusive name xs || has_exclusive name ys)
has_exclusive-append name [] ys = refl
has_exclusive-append name (n ∷ xs) ys = ap (λ b. (is_exclusive n.mode && bytes_eq n.name name) || b) (has_exclusive-append name xs ys)
    ∙ sym (or_assoc (is_exclusive n.mode && bytes_eq n.name name) (has_exclusive name xs) (has_exclusive name ys))

or_cases : (a b : Bool) → (a || b) ≡ true → (a ≡ true) ⊎ (b ≡ true)
or_cases true b e = inl refl
or_cases false b e = inr e

-- ---- the locks of an open updating transaction

-- the locks of a transaction of this kind: a read-only one has none
abbrev pub locks_by : Transaction → BeginKind → List Need
locks_by t kinds.Updating = t.locks
locks_by t (kinds.Reading n) = []

-- the locks of an open updating transaction, and none where there is no such
abbrev pub locks_in : Option Transaction → List Need
locks_in None = []
locks_in (Some t) = locks_by t t.kind

-- the locks that a session holds after the events
abbrev pub locks_of : ℕ → List Event → List Need
locks_of s past = locks_in (open_of s past)

held_by : (name : List ℕ) (t : Transaction) (kind : BeginKind) → held_in name t kind ≡ strongest name (locks_by t kind)
held_by name t kinds.Updating = refl
held_by name t (kinds.Reading n) = refl

-- the mode held on a name is told by whether it stands among the locks, and whether it does with X
pub held_is : (name : List ℕ) (o : Option Transaction) → held_with name o ≡ mode_by (has_exclusive name (locks_in o)) (has_name name (locks_in o))
held_is name None = refl
held_is name (Some t) = held_by name t t.kind ∙ strongest_is name (locks_by t t.kind)

locked_with : (more : List Need) (t : Transaction) (kind : BeginKind)
    → (locks_by (record t { locks = t.locks ++ more }) kind ≡ locks_by t kind ++ more) ⊎ (locks_by (record t { locks = t.locks ++ more }) kind ≡ [])
locked_with more t kinds.Updating = inl refl
locked_with more t (kinds.Reading n) = inr refl

-- with more locks granted, a session's locks are those before and these, or none where it has no updating transaction
pub locks-with_locks : (more : List Need) (o : Option Transaction) → (locks_in (with_locks more o) ≡ locks_in o ++ more) ⊎ (locks_in (with_locks more o) ≡ [])
locks-with_locks more None = inr refl
locks-with_locks more (Some t) = locked_with more t t.kind

replied : (t u : Transaction) (kind : BeginKind) → t.locks ≡ u.locks → locks_by t kind ≡ locks_by u kind
replied t u kinds.Updating same = same
replied t u (kinds.Reading n) same = refl

locks-with_reply : (r : Reply) (o : Option Transaction) → locks_in (with_reply r o) ≡ locks_in o
locks-with_reply r None = refl
locks-with_reply r (Some t) = replied (record t { replies = t.replies ++ r ∷ [] }) t t.kind refl

locks-with_doubt : (o : Option Transaction) → locks_in (with_doubt o) ≡ locks_in o
locks-with_doubt None = refl
locks-with_doubt (Some t) = replied (record t { in_doubt = true }) t t.kind refl

locks-begun : (kind : BeginKind) → locks_in (Some (begun kind)) ≡ []
locks-begun kinds.Updating = refl
locks-begun (kinds.Reading n) = refl

-- an event that grants nothing to the session leaves its locks, or takes them all
abbrev pub StaysOrGoes : Option Transaction → Option Transaction → Type 0
StaysOrGoes old new = (locks_in new ≡ locks_in old) ⊎ (locks_in new ≡ [])

by_if : (b : Bool) (old new : Option Transaction) → StaysOrGoes old new → StaysOrGoes old (if b then new else old)
by_if true old new fact = fact
by_if false old new fact = inl refl

-- the event grants no locks
abbrev pub IsNoGrant : Event → Type 0
IsNoGrant (Granted s asked) = ⊥
IsNoGrant _ = Unit {0}

-- an event that grants no locks leaves those of a session, or takes them all
pub stays_or_goes : (s : ℕ) (e : Event) (old : Option Transaction) → IsNoGrant e → StaysOrGoes old (open_behind s e old)
stays_or_goes s (Began t kind) old is = by_if (t == s) old _ (inr (locks-begun kind))
stays_or_goes s (Granted t asked) old is = absurd is
stays_or_goes s (Refused t name holder asked) old is = inl refl
stays_or_goes s (Answered t r) old is = by_if (t == s) old _ (inl (locks-with_reply r old))
stays_or_goes s (Committed t n) old is = by_if (t == s) old _ (inr refl)
stays_or_goes s (Ended t) old is = by_if (t == s) old _ (inr refl)
stays_or_goes s (RolledBack t) old is = by_if (t == s) old _ (inr refl)
stays_or_goes s (Doubt t n mark) old is = by_if (t == s) old _ (inl (locks-with_doubt old))
stays_or_goes s (Settled by t stands) old is = by_if (t == s) old _ (inr refl)
stays_or_goes s (Left t) old is = by_if (t == s) old _ (inr refl)

-- ---- no conflict

-- what one session holds with X, another does not hold
abbrev pub AreApart : List Event → Type 0
AreApart past = (s t : ℕ) → (s ≡ t → ⊥) → (name : List ℕ) → has_exclusive name (locks_of s past) ≡ true → has_name name (locks_of t past) ≡ false

gone : (name : List ℕ) (locks : List Need) → locks ≡ [] → has_name name locks ≡ false
gone name locks none = ap (has_name name) none

none_exclusive : (name : List ℕ) (locks : List Need) → locks ≡ [] → has_exclusive name locks ≡ true → ⊥
none_exclusive name locks none is = true≢false (sym is ∙ ap (has_exclusive name) none)

fewer : (name : List ℕ) (old new : Option Transaction) → StaysOrGoes old new → has_name name (locks_in old) ≡ false → has_name name (locks_in new) ≡ false
fewer name old new (inl same) e = ap (has_name name) same ∙ e
fewer name old new (inr none) e = gone name (locks_in new) none

no_more : (name : List ℕ) (old new : Option Transaction) → StaysOrGoes old new → has_exclusive name (locks_in new) ≡ true
    → has_exclusive name (locks_in old) ≡ true
no_more name old new (inl same) e = ap (has_exclusive name) (sym same) ∙ e
no_more name old new (inr none) e = absurd (none_exclusive name (locks_in new) none e)

apart_behind : (e : Event) (past : List Event) → IsNoGrant e → AreApart past → AreApart (e ∷ past)
apart_behind e past is apart s t other name exclusive =
    fewer name (open_of t past) (open_behind t e (open_of t past)) (stays_or_goes t e (open_of t past) is)
    (apart s t other name (no_more name (open_of s past) (open_behind s e (open_of s past)) (stays_or_goes s e (open_of s past) is) exclusive))

-- where a need is free, no other session holds its name with X, nor at all where the need is exclusive
free_of : (s : ℕ) (n : Need) (past : List Event) → IsFree s n past → (t : ℕ) → (t ≡ s → ⊥)
    → conflicts (mode_by (has_exclusive n.name (locks_of t past)) (has_name n.name (locks_of t past))) n.mode ≡ false
free_of s n past free t other = ap (λ mode. conflicts mode n.mode) (sym (held_is n.name (open_of t past))) ∙ free t other

not_exclusive : (exclusive there : Bool) (mode : LockMode) → conflicts (mode_by exclusive there) mode ≡ false → exclusive ≡ false
not_exclusive true there mode e = absurd (true≢false e)
not_exclusive false there mode e = refl

not_there : (exclusive there : Bool) → conflicts (mode_by exclusive there) X ≡ false → there ≡ false
not_there true there e = absurd (true≢false e)
not_there false true e = absurd (true≢false e)
not_there false false e = refl

exclusive_not_there : (mode : LockMode) (exclusive there : Bool) → is_exclusive mode ≡ true → conflicts (mode_by exclusive there) mode ≡ false → there ≡ false
exclusive_not_there S exclusive there is e = absurd (true≢false (sym is))
exclusive_not_there X exclusive there is e = not_there exclusive there e

-- of two tests that hold together each holds
pub and_parts : (a b : Bool) → (a && b) ≡ true → (a ≡ true) × (b ≡ true)
and_parts true b e = (refl, e)
and_parts false b e = absurd (true≢false (sym e))

-- names with the same bytes are one name
pub same_name : (a b : List ℕ) → bytes_eq a b ≡ true → a ≡ b
same_name a b e = (bytes_eq-Decides a b).0 e

-- a name that is asked for with X is not held by another session
asked_free : (s : ℕ) (asked : List Need) (past : List Event) → AllFree s asked past → (t : ℕ) → (t ≡ s → ⊥) → (name : List ℕ)
    → has_exclusive name asked ≡ true → has_name name (locks_of t past) ≡ false
asked_free s [] past free t other name is = absurd (true≢false (sym is))
asked_free s (n ∷ more) past free t other name is = by_place (asked_free s more past free.1 t other name) (or_cases _ _ is)
  where
    here : (is_exclusive n.mode ≡ true) × (bytes_eq n.name name ≡ true) → has_name name (locks_of t past) ≡ false
    here both = subst (λ z. has_name z (locks_of t past) ≡ false) (same_name n.name name both.1)
        (exclusive_not_there n.mode (has_exclusive n.name (locks_of t past)) (has_name n.name (locks_of t past)) both.0 (free_of s n past free.0 t other))

    by_place : (has_exclusive name more ≡ true → has_name name (locks_of t past) ≡ false)
        → ((is_exclusive n.mode && bytes_eq n.name name) ≡ true) ⊎ (has_exclusive name more ≡ true) → has_name name (locks_of t past) ≡ false
    by_place behind (inl first) = here (and_parts (is_exclusive n.mode) (bytes_eq n.name name) first)
    by_place behind (inr rest) = behind rest

-- a name that another session holds with X is not asked for
not_asked : (s : ℕ) (asked : List Need) (past : List Event) → AllFree s asked past → (t : ℕ) → (t ≡ s → ⊥) → (name : List ℕ)
    → has_exclusive name (locks_of t past) ≡ true → has_name name asked ≡ false
not_asked s [] past free t other name is = refl
not_asked s (n ∷ more) past free t other name is =
    elim (bytes_eq n.name name) as (λ b. bytes_eq n.name name ≡ b → (b || has_name name more) ≡ false) [
      | true ↦ λ same. absurd (true≢false (sym is ∙ subst (λ z. has_exclusive z (locks_of t past) ≡ false) (same_name n.name name same)
          (not_exclusive (has_exclusive n.name (locks_of t past)) (has_name n.name (locks_of t past)) n.mode (free_of s n past free.0 t other))))
      | false ↦ λ differ. not_asked s more past free.1 t other name is
    ] refl

either_false : (a b : Bool) → a ≡ false → b ≡ false → (a || b) ≡ false
either_false a b x y = ap (λ c. c || b) x ∙ y

-- what a grant adds to the one session leaves all apart
more_apart : (s : ℕ) (asked : List Need) (past : List Event) → AllFree s asked past → AreApart past → (t : ℕ) → (s ≡ t → ⊥) → (name : List ℕ)
    → has_exclusive name (locks_in (with_locks asked (open_of s past))) ≡ true → has_name name (locks_of t past) ≡ false
more_apart s asked past free apart t other name is = by_locks (locks-with_locks asked (open_of s past))
  where
    by_part : (has_exclusive name (locks_of s past) ≡ true) ⊎ (has_exclusive name asked ≡ true) → has_name name (locks_of t past) ≡ false
    by_part (inl old) = apart s t other name old
    by_part (inr new) = asked_free s asked past free t (λ same. other (sym same)) name new

    by_locks : (locks_in (with_locks asked (open_of s past)) ≡ locks_of s past ++ asked) ⊎ (locks_in (with_locks asked (open_of s past)) ≡ [])
        → has_name name (locks_of t past) ≡ false
    by_locks (inl more) = by_part (or_cases _ _ (sym (has_exclusive-append name (locks_of s past) asked) ∙ ap (has_exclusive name) (sym more) ∙ is))
    by_locks (inr none) = absurd (none_exclusive name _ none is)

still_apart : (s : ℕ) (asked : List Need) (past : List Event) → AllFree s asked past → AreApart past → (t : ℕ) → (t ≡ s → ⊥) → (name : List ℕ)
    → has_exclusive name (locks_of t past) ≡ true → has_name name (locks_in (with_locks asked (open_of s past))) ≡ false
still_apart s asked past free apart t other name is = by_locks (locks-with_locks asked (open_of s past))
  where
    by_locks : (locks_in (with_locks asked (open_of s past)) ≡ locks_of s past ++ asked) ⊎ (locks_in (with_locks asked (open_of s past)) ≡ [])
        → has_name name (locks_in (with_locks asked (open_of s past))) ≡ false
    by_locks (inl more) = ap (has_name name) more ∙ has_name-append name (locks_of s past) asked
        ∙ either_false _ _ (apart t s other name is) (not_asked s asked past free t other name is)
    by_locks (inr none) = gone name _ none

apart_granted : (who : ℕ) (asked : List Need) (past : List Event) → AllFree who asked past → AreApart past → AreApart (Granted who asked ∷ past)
apart_granted who asked past free apart s t other name is = by_first (who == s) refl is
  where
    by_second : (b : Bool) → (who == t) ≡ b → has_exclusive name (locks_of s past) ≡ true
        → has_name name (locks_in (if b then with_locks asked (open_of t past) else open_of t past)) ≡ false
    by_second true same old = subst (λ z. has_name name (locks_in (with_locks asked (open_of z past))) ≡ false) (eqb-true who t same)
        (still_apart who asked past free apart s (λ e. other (e ∙ eqb-true who t same)) name old)
    by_second false differ old = apart s t other name old

    first_grants : who ≡ s → has_exclusive name (locks_in (with_locks asked (open_of s past))) ≡ true → has_name name (locks_of t past) ≡ false
    first_grants same more = more_apart who asked past free apart t (λ e. other (sym same ∙ e)) name
        (subst (λ z. has_exclusive name (locks_in (with_locks asked (open_of z past))) ≡ true) (sym same) more)

    not_second : who ≡ s → has_name name (locks_of t past) ≡ false
        → has_name name (locks_in (if who == t then with_locks asked (open_of t past) else open_of t past)) ≡ false
    not_second same e = ap (λ b. has_name name (locks_in (if b then with_locks asked (open_of t past) else open_of t past)))
        (ne_eqb who t (λ z. other (sym same ∙ z))) ∙ e

    by_first : (b : Bool) → (who == s) ≡ b → has_exclusive name (locks_in (if b then with_locks asked (open_of s past) else open_of s past)) ≡ true
        → has_name name (locks_in (if who == t then with_locks asked (open_of t past) else open_of t past)) ≡ false
    by_first true same more = not_second (eqb-true who s same) (first_grants (eqb-true who s same) more)
    by_first false differ old = by_second (who == t) refl old

-- in a journal whose locks are legal, all sessions are apart
pub all_apart : (past : List Event) → AtEach LocksAt past → AreApart past
all_apart [] locks = λ s t other name is. absurd (true≢false (sym is))
all_apart (Granted s asked ∷ past) locks = apart_granted s asked past locks.0.0.free (all_apart past locks.1)
all_apart (Began s kind ∷ past) locks = apart_behind (Began s kind) past tt (all_apart past locks.1)
all_apart (Refused s name holder asked ∷ past) locks = apart_behind (Refused s name holder asked) past tt (all_apart past locks.1)
all_apart (Answered s r ∷ past) locks = apart_behind (Answered s r) past tt (all_apart past locks.1)
all_apart (Committed s n ∷ past) locks = apart_behind (Committed s n) past tt (all_apart past locks.1)
all_apart (Ended s ∷ past) locks = apart_behind (Ended s) past tt (all_apart past locks.1)
all_apart (RolledBack s ∷ past) locks = apart_behind (RolledBack s) past tt (all_apart past locks.1)
all_apart (Doubt s n mark ∷ past) locks = apart_behind (Doubt s n mark) past tt (all_apart past locks.1)
all_apart (Settled by s stands ∷ past) locks = apart_behind (Settled by s stands) past tt (all_apart past locks.1)
all_apart (Left s ∷ past) locks = apart_behind (Left s) past tt (all_apart past locks.1)
