-- What runs in an open updating transaction has its locks.
use Rattle.std.proofs.Common.{◌≡◌, ℕ, ◌==◌, Bool, true, false, not, ◌&&◌, ◌||◌, true≢false, List, [], ◌∷◌, ◌++◌, Option, None, Some, IsTrue, refl, sym, ap, subst, ◌∙◌}
use Rattle.std.specs.Prelude.{if◌then◌else◌}
use mathlib.Core.Logic.{◌⊎◌, inl, inr}
use Rattle.std.proofs.lemmas.Bool.{eqb-true, eq-eqb}
use Rattle.std.proofs.lemmas.Slice.Eq.{bytes_eq-Decides}
use Rattle.std.specs.Str.{bytes_eq}
use Rattle.xq_ast.specs.declared.call.Call.{Call}
use Rattle.xq_ast.specs.declared.call.Call.TheVariants.{ShowDocuments}
use Rattle.xq_ast.specs.declared.code.Code.{Code}
use Rattle.xq_ast.specs.declared.code.Code.TheVariants as codes
use Rattle.xq_ast.specs.declared.need.Need.{Need}
use Rattle.xml_model.specs.Needs.{needs, has_exclusive}
use Rattle.xq_ast.specs.Modes.{is_exclusive}
use Rattle.xml_model.specs.Statement.{is_statement}
use Rattle.session_core.specs.declared.history.event.BeginKind.{BeginKind}
use Rattle.session_core.specs.declared.history.event.BeginKind.TheVariants as kinds
use Rattle.session_core.specs.declared.history.event.Reply.{Reply}
use Rattle.session_core.specs.declared.history.event.Says.{Says}
use Rattle.session_core.specs.declared.history.event.Says.TheVariants as says
use Rattle.session_core.specs.declared.history.event.State.{State}
use Rattle.session_core.specs.declared.history.event.State.TheVariants.{Updating, InDoubt}
use Rattle.session_core.specs.declared.history.event.Event.{Event}
use Rattle.session_core.specs.declared.history.event.Event.TheVariants.{Began, Granted, Refused, Answered, Committed, Ended, RolledBack, Doubt, Settled, Left}
use Rattle.session_core.specs.History.{AtEach, session_of, last_of}
use Rattle.session_core.specs.History.Transactions.{Transaction, Ran, open_of, open_behind, with_locks, with_reply, with_doubt, begun, is_without_run, says_run, ran_by, ran, ran_all}
use Rattle.session_core.specs.History.States.{state, state_with, state_in}
use Rattle.session_core.specs.History.Locks.{LocksAt, IsAnsweredWithLocks, AreGranted, RanGranted}
use Rattle.session_core.specs.History.Refusals.{RefusalsAt, IsBehindSettling, is_apart}
use Rattle.session_core.proofs.Holding.{has_name, has_name-append, has_exclusive-append}

-- ---- needs that some locks cover

-- the locks have the name of the need, and with X if the need is X
abbrev pub IsHeld : Need → List Need → Type 0
IsHeld n locks = (has_name n.name locks ≡ true) × (is_exclusive n.mode ≡ true → has_exclusive n.name locks ≡ true)

-- the locks have each of the needs
abbrev pub AreHeld : List Need → List Need → Type 0
AreHeld [] locks = Unit {0}
AreHeld (n ∷ more) locks = IsHeld n locks × AreHeld more locks

-- the second list has every name of the first, and with X where the first has X
abbrev pub Covers : List Need → List Need → Type 0
Covers locks asked = ((name : List ℕ) → has_name name asked ≡ true → has_name name locks ≡ true)
    × ((name : List ℕ) → has_exclusive name asked ≡ true → has_exclusive name locks ≡ true)

itself : (name : List ℕ) → bytes_eq name name ≡ true
itself name = (bytes_eq-Decides name name).1 refl

first_true : (a b : Bool) → a ≡ true → (a || b) ≡ true
first_true a b e = ap (λ c. c || b) e

second_true : (a b : Bool) → b ≡ true → (a || b) ≡ true
second_true true b e = refl
second_true false b e = e

both_true : (a b : Bool) → a ≡ true → b ≡ true → (a && b) ≡ true
both_true a b x y = ap (λ c. c && b) x ∙ y

-- locks that cover some needs have each of them
pub held_if : (asked locks : List Need) → Covers locks asked → AreHeld asked locks
held_if [] locks covers = tt
held_if (n ∷ more) locks covers = (
  (covers.0 n.name (first_true _ _ (itself n.name)), λ exclusive. covers.1 n.name (first_true _ _ (both_true _ _ exclusive (itself n.name)))),
  held_if more locks ((λ name is. covers.0 name (second_true _ _ is)), (λ name is. covers.1 name (second_true _ _ is))),
)

covers-more : (old asked : List Need) → Covers (old ++ asked) asked
covers-more old asked = (
  (λ name is. has_name-append name old asked ∙ second_true _ _ is),
  (λ name is. has_exclusive-append name old asked ∙ second_true _ _ is),
)

covers-old : (old asked : List Need) → Covers (old ++ asked) old
covers-old old asked = (
  (λ name is. has_name-append name old asked ∙ first_true _ _ is),
  (λ name is. has_exclusive-append name old asked ∙ first_true _ _ is),
)

held_by_more : (asked old locks : List Need) → Covers locks old → AreHeld asked old → AreHeld asked locks
held_by_more [] old locks covers held = tt
held_by_more (n ∷ more) old locks covers held =
    ((covers.0 n.name held.0.0, λ exclusive. covers.1 n.name (held.0.1 exclusive)), held_by_more more old locks covers held.1)

-- ---- calls that ran

-- the call is no SHOW DOCUMENTS, and the locks cover its needs
abbrev pub IsCovered : List Need → Ran → Type 0
IsCovered locks r = (r.call ≡ ShowDocuments → ⊥) × AreHeld (needs r.call) locks

-- no call is SHOW DOCUMENTS, and the locks cover the needs of each
abbrev pub AllCovered : List Need → List Ran → Type 0
AllCovered locks [] = Unit {0}
AllCovered locks (r ∷ more) = IsCovered locks r × AllCovered locks more

covered-append : (locks : List Need) (xs ys : List Ran) → AllCovered locks xs → AllCovered locks ys → AllCovered locks (xs ++ ys)
covered-append locks [] ys front behind = behind
covered-append locks (x ∷ xs) ys front behind = (front.0, covered-append locks xs ys front.1 behind)

covered_by_more : (old locks : List Need) (rs : List Ran) → Covers locks old → AllCovered old rs → AllCovered locks rs
covered_by_more old locks [] covers all = tt
covered_by_more old locks (r ∷ rs) covers all = ((all.0.0, held_by_more (needs r.call) old locks covers all.0.1), covered_by_more old locks rs covers all.1)

append_assoc : {A : Type 0} (xs ys zs : List A) → (xs ++ ys) ++ zs ≡ xs ++ (ys ++ zs)
append_assoc [] ys zs = refl
append_assoc (x ∷ xs) ys zs = ap (λ l. x ∷ l) (append_assoc xs ys zs)

-- the calls that ran of two lists of replies are those of the first and then those of the second
pub ran_all-append : (rs ts : List Reply) → ran_all (rs ++ ts) ≡ ran_all rs ++ ran_all ts
ran_all-append [] ts = refl
ran_all-append (r ∷ rs) ts = ap (λ l. ran r ++ l) (ran_all-append rs ts) ∙ sym (append_assoc (ran r) (ran_all rs) (ran_all ts))

append_none : {A : Type 0} (xs : List A) → xs ++ [] ≡ xs
append_none [] = refl
append_none (x ∷ xs) = ap (λ l. x ∷ l) (append_none xs)

-- with one reply more, its call, if it ran, comes at the end of the calls that ran
pub ran_all-one : (rs : List Reply) (r : Reply) → ran_all (rs ++ r ∷ []) ≡ ran_all rs ++ ran r
ran_all-one rs r = ran_all-append rs (r ∷ []) ∙ ap (λ l. ran_all rs ++ l) (append_none (ran r))

-- ---- an open updating transaction

-- the locks of an updating transaction cover all calls that ran in it; of a read-only one nothing is said
abbrev pub CoveredBy : Transaction → BeginKind → Type 0
CoveredBy t kinds.Updating = AllCovered t.locks (ran_all t.replies)
CoveredBy t (kinds.Reading n) = Unit {0}

-- the locks of an open transaction, if it is an updating one, cover all calls that ran in it
abbrev pub CoveredIn : Option Transaction → Type 0
CoveredIn None = Unit {0}
CoveredIn (Some t) = CoveredBy t t.kind

-- the locks of an updating transaction cover the needs; of a read-only one nothing is said
abbrev pub LastHeldBy : List Need → Transaction → BeginKind → Type 0
LastHeldBy asked t kinds.Updating = AreHeld asked t.locks
LastHeldBy asked t (kinds.Reading n) = Unit {0}

-- the locks cover a list of needs, where there is such a transaction
abbrev pub LastHeldIn : List Need → Option Transaction → Type 0
LastHeldIn asked None = Unit {0}
LastHeldIn asked (Some t) = LastHeldBy asked t t.kind

granted_by : (asked : List Need) (t : Transaction) (kind : BeginKind) → LastHeldBy asked (record t { locks = t.locks ++ asked }) kind
granted_by asked t kinds.Updating = held_if asked (t.locks ++ asked) (covers-more t.locks asked)
granted_by asked t (kinds.Reading n) = tt

granted_in : (asked : List Need) (o : Option Transaction) → LastHeldIn asked (with_locks asked o)
granted_in asked None = tt
granted_in asked (Some t) = granted_by asked t t.kind

abbrev unwrapped : {A : Type 0} → A → Option A → A
unwrapped other None = other
unwrapped other (Some z) = z

some_same : {A : Type 0} (x y : A) → ◌≡◌ {A = Option A} (Some x) (Some y) → x ≡ y
some_same x y e = ap (unwrapped x) e

-- an event of another session leaves the transaction, or ends it
other_event : (s : ℕ) (asked : List Need) (e : Event) (old : Option Transaction) → (session_of e == s) ≡ false → LastHeldIn asked old
    → LastHeldIn asked (open_behind s e old)
other_event s asked (Began t kind) old other held = subst (λ b. LastHeldIn asked (if b then Some (begun kind) else old)) (sym other) held
other_event s asked (Granted t more) old other held = subst (λ b. LastHeldIn asked (if b then with_locks more old else old)) (sym other) held
other_event s asked (Refused t name holder more) old other held = held
other_event s asked (Answered t r) old other held = subst (λ b. LastHeldIn asked (if b then with_reply r old else old)) (sym other) held
other_event s asked (Committed t n) old other held = subst (λ b. LastHeldIn asked (if b then None else old)) (sym other) held
other_event s asked (Ended t) old other held = subst (λ b. LastHeldIn asked (if b then None else old)) (sym other) held
other_event s asked (RolledBack t) old other held = subst (λ b. LastHeldIn asked (if b then None else old)) (sym other) held
other_event s asked (Doubt t n mark) old other held = subst (λ b. LastHeldIn asked (if b then with_doubt old else old)) (sym other) held
other_event s asked (Left t) old other held = subst (λ b. LastHeldIn asked (if b then None else old)) (sym other) held
other_event s asked (Settled by t stands) old other held = ended (t == s)
  where
    ended : (b : Bool) → LastHeldIn asked (if b then None else old)
    ended true = tt
    ended false = held

-- the session's newest event grants these needs: its locks cover them
pub last_held : (past : List Event) (s : ℕ) (asked : List Need) → last_of s past ≡ Some (Granted s asked) → LastHeldIn asked (open_of s past)
last_held [] s asked is = tt
last_held (e ∷ past) s asked is = by_whose (last_held past s asked) (session_of e == s) refl is
  where
    granted_here : e ≡ Granted s asked → LastHeldIn asked (open_behind s e (open_of s past))
    granted_here same = subst (λ z. LastHeldIn asked (open_behind s z (open_of s past))) (sym same)
        (subst (λ b. LastHeldIn asked (if b then with_locks asked (open_of s past) else open_of s past)) (sym (eq-eqb s s refl))
        (granted_in asked (open_of s past)))

    by_whose : (last_of s past ≡ Some (Granted s asked) → LastHeldIn asked (open_of s past)) → (b : Bool) → (session_of e == s) ≡ b
        → (if b then Some e else last_of s past) ≡ Some (Granted s asked) → LastHeldIn asked (open_behind s e (open_of s past))
    by_whose before true same is = granted_here (some_same e (Granted s asked) is)
    by_whose before false other is = other_event s asked e (open_of s past) other (before is)

-- ---- answers of calls that did not run

apart_code : (code : Code) → is_apart (says.Error code) ≡ true → is_without_run code ≡ true
apart_code codes.XPST0003 e = absurd (true≢false (sym e))
apart_code codes.XPST0008 e = absurd (true≢false (sym e))
apart_code codes.XPST0017 e = absurd (true≢false (sym e))
apart_code codes.XPDY0002 e = absurd (true≢false (sym e))
apart_code codes.XPTY0004 e = absurd (true≢false (sym e))
apart_code codes.XPTY0019 e = absurd (true≢false (sym e))
apart_code codes.XPTY0020 e = absurd (true≢false (sym e))
apart_code codes.XQTY0024 e = absurd (true≢false (sym e))
apart_code codes.XQDY0025 e = absurd (true≢false (sym e))
apart_code codes.FOAR0001 e = absurd (true≢false (sym e))
apart_code codes.FOAR0002 e = absurd (true≢false (sym e))
apart_code codes.FODC0002 e = absurd (true≢false (sym e))
apart_code codes.FORG0001 e = absurd (true≢false (sym e))
apart_code codes.FORG0006 e = absurd (true≢false (sym e))
apart_code codes.TooLong e = absurd (true≢false (sym e))
apart_code codes.NestedTooDeep e = absurd (true≢false (sym e))
apart_code codes.BadName e = absurd (true≢false (sym e))
apart_code codes.NoTransaction e = absurd (true≢false (sym e))
apart_code codes.InTransaction e = absurd (true≢false (sym e))
apart_code codes.ReadOnly e = absurd (true≢false (sym e))
apart_code codes.Updating e = absurd (true≢false (sym e))
apart_code codes.Exists e = absurd (true≢false (sym e))
apart_code codes.TooDeep e = absurd (true≢false (sym e))
apart_code codes.TooManyNodes e = absurd (true≢false (sym e))
apart_code codes.TooMuchText e = absurd (true≢false (sym e))
apart_code codes.TooManyItems e = absurd (true≢false (sym e))
apart_code codes.ReplyTooLong e = absurd (true≢false (sym e))
apart_code codes.NoMemory e = refl
apart_code (codes.Failed mark) e = refl
apart_code (codes.InDoubt mark) e = absurd (true≢false (sym e))
apart_code (codes.Pyx why line) e = absurd (true≢false (sym e))
apart_code (codes.Spent kind number) e = absurd (true≢false (sym e))
apart_code (codes.Damaged commit ordinal page) e = absurd (true≢false (sym e))

-- want of memory and a failing device say that the call did not run
pub apart_not_run : (answer : Says) → is_apart answer ≡ true → says_run answer ≡ false
apart_not_run (says.Error code) e = ap not (apart_code code e)
apart_not_run says.Done e = absurd (true≢false (sym e))
apart_not_run (says.Lines all) e = absurd (true≢false (sym e))
apart_not_run (says.Began kind) e = absurd (true≢false (sym e))
apart_not_run (says.LockHeld name holder) e = absurd (true≢false (sym e))
apart_not_run (says.Committed n) e = absurd (true≢false (sym e))
apart_not_run says.Ended e = absurd (true≢false (sym e))
apart_not_run says.RolledBack e = absurd (true≢false (sym e))
apart_not_run (says.Doubt n) e = absurd (true≢false (sym e))

-- a call without names is refused in an updating transaction, or does not run
shown_not_run : (answer : Says) → (IsTrue (is_apart answer)) ⊎ IsBehindSettling Updating (Some ShowDocuments) answer → says_run answer ≡ false
shown_not_run answer (inl apart) = apart_not_run answer apart
shown_not_run answer (inr refused) = ap says_run refused

-- the call, where it is a statement and ran
abbrev ran_if : Call → Says → Bool → Bool → List Ran
ran_if call answer b c = if b then (if c then record { call = call; says = answer } ∷ [] else []) else []

-- a call whose answer says that it did not run is none that ran
pub none_ran : (call : Option Call) (answer : Says) → says_run answer ≡ false → ran_by call answer ≡ []
none_ran None answer e = refl
none_ran (Some call) answer e = elim (is_statement call) as (λ b. ran_if call answer b (says_run answer) ≡ []) [
  | true ↦ ap (ran_if call answer true) e
  | false ↦ refl
]

held_granted : (s : ℕ) (asked : List Need) (past : List Event) (locks : List Need) → AreGranted s asked past
    → ((all : List Need) → last_of s past ≡ Some (Granted s all) → AreHeld all locks) → AreHeld asked locks
held_granted s [] past locks granted held = tt
held_granted s (n ∷ more) past locks granted held = held (n ∷ more) granted

-- what ran in an updating transaction, directly behind its grant, is covered
ran_covered : (s : ℕ) (past : List Event) (locks : List Need) (call : Option Call) (answer : Says) → RanGranted s (ran_by call answer) past
    → (IsTrue (is_apart answer)) ⊎ IsBehindSettling Updating call answer
    → ((all : List Need) → last_of s past ≡ Some (Granted s all) → AreHeld all locks) → AllCovered locks (ran_by call answer)
ran_covered s past locks None answer granted order held = tt
ran_covered s past locks (Some call) answer granted order held = by_statement (is_statement call) (says_run answer) refl granted
  where
    not_shown : says_run answer ≡ true → call ≡ ShowDocuments → ⊥
    not_shown runs same = true≢false (sym runs
        ∙ shown_not_run answer (subst (λ c. (IsTrue (is_apart answer)) ⊎ IsBehindSettling Updating (Some c) answer) same order))

    by_statement : (b c : Bool) → says_run answer ≡ c → RanGranted s (ran_if call answer b c) past → AllCovered locks (ran_if call answer b c)
    by_statement true true runs those_granted = ((not_shown runs, held_granted s (needs call) past locks those_granted.0 held), tt)
    by_statement true false runs those_granted = tt
    by_statement false c runs those_granted = tt

-- ---- events keep open updating transactions covered

begun_covered : (kind : BeginKind) → CoveredIn (Some (begun kind))
begun_covered kinds.Updating = tt
begun_covered (kinds.Reading n) = tt

more_locks_by : (more : List Need) (t : Transaction) (kind : BeginKind) → CoveredBy t kind → CoveredBy (record t { locks = t.locks ++ more }) kind
more_locks_by more t kinds.Updating all = covered_by_more t.locks (t.locks ++ more) (ran_all t.replies) (covers-old t.locks more) all
more_locks_by more t (kinds.Reading n) all = tt

more_locks : (more : List Need) (o : Option Transaction) → CoveredIn o → CoveredIn (with_locks more o)
more_locks more None all = tt
more_locks more (Some t) all = more_locks_by more t t.kind all

doubted_by : (t : Transaction) (kind : BeginKind) → CoveredBy t kind → CoveredBy (record t { in_doubt = true }) kind
doubted_by t kinds.Updating all = all
doubted_by t (kinds.Reading n) all = tt

doubted : (o : Option Transaction) → CoveredIn o → CoveredIn (with_doubt o)
doubted None all = tt
doubted (Some t) all = doubted_by t t.kind all

more_ran : (locks : List Need) (rs : List Reply) (r : Reply) → AllCovered locks (ran_all rs) → AllCovered locks (ran r)
    → AllCovered locks (ran_all (rs ++ r ∷ []))
more_ran locks rs r front behind = subst (AllCovered locks) (sym (ran_all-one rs r)) (covered-append locks (ran_all rs) (ran r) front behind)

abbrev state_by : Bool → BeginKind → State
state_by doubt kind = if doubt then InDoubt else state_in kind

replied_by : (s : ℕ) (past : List Event) (r : Reply) (t : Transaction) (kind : BeginKind) (doubt : Bool) → CoveredBy t kind
    → IsAnsweredWithLocks (state_by doubt kind) s r past → (IsTrue (is_apart r.says)) ⊎ IsBehindSettling (state_by doubt kind) r.call r.says
    → ((all : List Need) → last_of s past ≡ Some (Granted s all) → LastHeldBy all t kind) → CoveredBy (record t { replies = t.replies ++ r ∷ [] }) kind
replied_by s past r t (kinds.Reading n) doubt all locks order held = tt
replied_by s past r t kinds.Updating true all locks (inr never) held = absurd never
replied_by s past r t kinds.Updating true all locks (inl apart) held =
    more_ran t.locks t.replies r all (subst (AllCovered t.locks) (sym (none_ran r.call r.says (apart_not_run r.says apart))) tt)
replied_by s past r t kinds.Updating false all locks order held = more_ran t.locks t.replies r all (ran_covered s past t.locks r.call r.says locks.0 order held)

replied_in : (s : ℕ) (past : List Event) (r : Reply) (o : Option Transaction) → CoveredIn o
    → IsAnsweredWithLocks (state_with o) s r past → (IsTrue (is_apart r.says)) ⊎ IsBehindSettling (state_with o) r.call r.says
    → ((all : List Need) → last_of s past ≡ Some (Granted s all) → LastHeldIn all o) → CoveredIn (with_reply r o)
replied_in s past r None all locks order held = tt
replied_in s past r (Some t) all locks order held = replied_by s past r t t.kind t.in_doubt all locks order held

covered_if : (b : Bool) (old new : Option Transaction) → CoveredIn old → CoveredIn new → CoveredIn (if b then new else old)
covered_if true old new before behind = behind
covered_if false old new before behind = before

covered_if_same : (who s : ℕ) (old new : Option Transaction) → CoveredIn old → (who ≡ s → CoveredIn new) → CoveredIn (if who == s then new else old)
covered_if_same who s old new before behind = by_test (who == s) refl
  where
    by_test : (b : Bool) → (who == s) ≡ b → CoveredIn (if b then new else old)
    by_test true same = behind (eqb-true who s same)
    by_test false other = before

answered_covered : (who s : ℕ) (past : List Event) (r : Reply) → who ≡ s → CoveredIn (open_of s past)
    → IsAnsweredWithLocks (state who past) who r past → (IsTrue (is_apart r.says)) ⊎ IsBehindSettling (state who past) r.call r.says
    → CoveredIn (with_reply r (open_of s past))
answered_covered who s past r same all locks order = replied_in s past r (open_of s past) all
    (subst (λ z. IsAnsweredWithLocks (state z past) z r past) same locks)
    (subst (λ z. (IsTrue (is_apart r.says)) ⊎ IsBehindSettling (state z past) r.call r.says) same order)
    (λ needs_all is. last_held past s needs_all is)

-- in a journal whose locks and refusals are legal, the locks of each open updating transaction cover what ran in it
pub covered : (past : List Event) → AtEach LocksAt past → AtEach RefusalsAt past → (s : ℕ) → CoveredIn (open_of s past)
covered [] locks refusals s = tt
covered (Began t kind ∷ past) locks refusals s = covered_if (t == s) (open_of s past) _ (covered past locks.1 refusals.1 s) (begun_covered kind)
covered (Granted t more ∷ past) locks refusals s =
    covered_if (t == s) (open_of s past) _ (covered past locks.1 refusals.1 s) (more_locks more (open_of s past) (covered past locks.1 refusals.1 s))
covered (Refused t name holder asked ∷ past) locks refusals s = covered past locks.1 refusals.1 s
covered (Answered t r ∷ past) locks refusals s = covered_if_same t s (open_of s past) _ (covered past locks.1 refusals.1 s)
    (λ same. answered_covered t s past r same (covered past locks.1 refusals.1 s) locks.0.0 refusals.0)
covered (Committed t n ∷ past) locks refusals s = covered_if (t == s) (open_of s past) None (covered past locks.1 refusals.1 s) tt
covered (Ended t ∷ past) locks refusals s = covered_if (t == s) (open_of s past) None (covered past locks.1 refusals.1 s) tt
covered (RolledBack t ∷ past) locks refusals s = covered_if (t == s) (open_of s past) None (covered past locks.1 refusals.1 s) tt
covered (Doubt t n mark ∷ past) locks refusals s =
    covered_if (t == s) (open_of s past) _ (covered past locks.1 refusals.1 s) (doubted (open_of s past) (covered past locks.1 refusals.1 s))
covered (Settled by t stands ∷ past) locks refusals s = covered_if (t == s) (open_of s past) None (covered past locks.1 refusals.1 s) tt
covered (Left t ∷ past) locks refusals s = covered_if (t == s) (open_of s past) None (covered past locks.1 refusals.1 s) tt
