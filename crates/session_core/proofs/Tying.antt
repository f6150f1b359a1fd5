-- What one event more does to states, locks, forests and the commit in doubt.
use Rattle.std.proofs.Common.{◌≡◌, ℕ, zero, suc, ◌+◌, ◌==◌, Bool, true, false, cond, List, [], ◌∷◌, ◌++◌, length, take, slice_get, Option, None, Some, refl, sym, ap, subst, ◌∙◌, arith, append-nil, unwrap_or}
use Rattle.std.specs.Prelude.{if◌then◌else◌}
use Rattle.std.specs.Ordering.{nat_cmp, eq_by_cmp}
use Rattle.std.specs.Cmp.{nat_cmp_total, unsigned_tied, eq_by_cmp_equiv}
use Rattle.std.specs.Cmp.Lexicographic.{slice_cmp}
use Rattle.std.specs.FinMap as fin
use Rattle.std.specs.Str.{bytes_eq}
use Rattle.std.proofs.lemmas.Bool.{eqb-true, eq-eqb, ne_eqb}
use Rattle.std.proofs.lemmas.Cmp.{nat_list_cmp_total}
use Rattle.std.proofs.lemmas.Map.Text.{is_eq-slice_cmp}
use Rattle.std.proofs.Math.Seq.{take-length}
use Rattle.xq_ast.specs.declared.need.LockMode.{LockMode}
use Rattle.xq_ast.specs.declared.need.LockMode.TheVariants.{S, X}
use Rattle.xq_ast.specs.declared.need.Need.{Need}
use Rattle.xml_model.specs.Forest.{Forest}
use Rattle.doc_locks.specs.Names.{Names, Locks}
use Rattle.doc_locks.specs.Locks.{names_of, mode_held, with_need, with_needs, granted}
use Rattle.session_core.specs.declared.history.event.BeginKind.{BeginKind}
use Rattle.session_core.specs.declared.history.event.BeginKind.TheVariants as kinds
use Rattle.session_core.specs.declared.history.event.State.{State}
use Rattle.session_core.specs.declared.history.event.State.TheVariants.{Idle, Updating, Reading, InDoubt}
use Rattle.session_core.specs.declared.history.event.Event.{Event}
use Rattle.session_core.specs.History.Transactions.{Base, Transaction, open_of, updating, where_updating, with_locks, commits, committed_by, ran_all, run_calls, serial, newest}
use Rattle.session_core.specs.History.States.{state_in, state_with, state, strongest, held_with, held_in, held}
use Rattle.xq_ast.specs.Modes.{stronger}
use Rattle.session_core.specs.Keeping.Table.{States, entry_of, state_at}
use Rattle.session_core.specs.Keeping.Ties.{forests_of}
use Rattle.session_core.proofs.Holding.{same_name}

-- ---- sessions as keys

-- two sessions are the same by their test just where they are by their order
pub tied : (t s : ℕ) → (t == s) ≡ eq_by_cmp nat_cmp s t
tied t s = sym (unsigned_tied t s) ∙ (eq_by_cmp_equiv nat_cmp_total).symm t s

-- what an event of the session t leaves of another's transaction
pub elsewhere : {A : Type 0} (t s : ℕ) (old new : A) → (t ≡ s → ⊥) → (if t == s then new else old) ≡ old
elsewhere t s old new other = ap (λ b. if b then new else old) (ne_eqb t s other)

-- what an event of a session leaves of its own transaction
pub here : {A : Type 0} (s : ℕ) (old new : A) → (if s == s then new else old) ≡ new
here s old new = ap (λ b. if b then new else old) (eq-eqb s s refl)

-- ---- states

-- the table has for each session the entry of its state
abbrev pub StatesAre : States → List Event → Type 0
StatesAre states past = (s : ℕ) → fin.get states s ≡ entry_of (state s past)

-- a state is told by its entry in the table
pub state_at-entry : (x : State) → state_at (entry_of x) ≡ x
state_at-entry Idle = refl
state_at-entry Updating = refl
state_at-entry (Reading n) = refl
state_at-entry InDoubt = refl

-- the events give the session t the transaction f, and the table this entry
changed : (past : List Event) (states : States) (t : ℕ) (x : Option State) (f : Option Transaction → Option Transaction) → StatesAre states past
    → entry_of (state_with (f (open_of t past))) ≡ x → (s : ℕ)
    → cond (eq_by_cmp nat_cmp s t) x (fin.get states s) ≡ entry_of (state_with (if t == s then f (open_of s past) else open_of s past))
changed past states t x f are is s = ap (λ b. cond b x (fin.get states s)) (sym (tied t s)) ∙ by_test (t == s) refl
  where
    by_test : (b : Bool) → (t == s) ≡ b → cond b x (fin.get states s) ≡ entry_of (state_with (if b then f (open_of s past) else open_of s past))
    by_test true same = subst (λ z. x ≡ entry_of (state_with (f (open_of z past)))) (eqb-true t s same) (sym is)
    by_test false other = are s

-- with one state set, the table has each session's entry, if it is the state of that session's new transaction
pub states_set : (past : List Event) (states : States) (t : ℕ) (x : State) (f : Option Transaction → Option Transaction) → StatesAre states past
    → entry_of (state_with (f (open_of t past))) ≡ Some x → (s : ℕ)
    → fin.get (fin.insert states t x) s ≡ entry_of (state_with (if t == s then f (open_of s past) else open_of s past))
states_set past states t x f are is s = fin.get-insert nat_cmp_total states t x s ∙ changed past states t (Some x) f are is s

-- with one session taken out, the table has each session's entry, where that session's transaction is gone
pub states_gone : (past : List Event) (states : States) (t : ℕ) → StatesAre states past → (s : ℕ)
    → fin.get (fin.remove states t) s ≡ entry_of (state_with (if t == s then None else open_of s past))
states_gone past states t are s = fin.get-remove nat_cmp_total states t s ∙ changed past states t None (λ o. None) are refl s

-- or a transaction of the same state
pub states_same : (past : List Event) (states : States) (t : ℕ) (f : Option Transaction → Option Transaction) → StatesAre states past
    → ((o : Option Transaction) → state_with (f o) ≡ state_with o) → (s : ℕ)
    → fin.get states s ≡ entry_of (state_with (if t == s then f (open_of s past) else open_of s past))
states_same past states t f are same s = are s ∙ ap entry_of (by_test (t == s))
  where
    by_test : (b : Bool) → state_with (open_of s past) ≡ state_with (if b then f (open_of s past) else open_of s past)
    by_test true = sym (same (open_of s past))
    by_test false = refl

-- more locks leave the state of a session as it is
pub state-with_locks : (more : List Need) (o : Option Transaction) → state_with (with_locks more o) ≡ state_with o
state-with_locks more None = refl
state-with_locks more (Some t) = refl

-- ---- what a state tells of a transaction

abbrev state_by : Bool → BeginKind → State
state_by doubt kind = if doubt then InDoubt else state_in kind

-- an idle session has no open transaction
pub idle_none : (o : Option Transaction) → state_with o ≡ Idle → o ≡ None
idle_none None is = refl
idle_none (Some t) is = absurd (by_parts t.in_doubt t.kind is)
  where
    by_parts : (doubt : Bool) (kind : BeginKind) → state_by doubt kind ≡ Idle → ⊥
    by_parts true kind e = cc
    by_parts false kinds.Updating e = cc
    by_parts false (kinds.Reading n) e = cc

-- an updating transaction that isn't in doubt
pub record IsOpened (o : Option Transaction) : Type 0 where
  pub transaction : Transaction
  pub is : o ≡ Some transaction
  pub kind_is : transaction.kind ≡ kinds.Updating
  pub sound : transaction.in_doubt ≡ false

opened_parts : (doubt : Bool) (kind : BeginKind) → state_by doubt kind ≡ Updating → (kind ≡ kinds.Updating) × (doubt ≡ false)
opened_parts true kind e = cc
opened_parts false kinds.Updating e = (refl, refl)
opened_parts false (kinds.Reading n) e = cc

-- a session in the state of updating has an open updating transaction that is not in doubt
pub opened : (o : Option Transaction) → state_with o ≡ Updating → IsOpened o
opened None is = cc
opened (Some t) is = record { transaction = t; is = refl; kind_is = (opened_parts t.in_doubt t.kind is).0; sound = (opened_parts t.in_doubt t.kind is).1 }

-- an open updating transaction is the one updating transaction
pub updating_is : (o : Option Transaction) (t : Transaction) → o ≡ Some t → t.kind ≡ kinds.Updating → updating o ≡ t ∷ []
updating_is o t is kind_is = ap updating is ∙ ap (where_updating t) kind_is

-- ---- locks

-- the table of locks has for each session and name the mode that the events tell
abbrev pub LocksAre : Locks → List Event → Type 0
LocksAre locks past = (s : ℕ) (name : List ℕ) → mode_held locks s name ≡ held s name past

-- the session's transaction holds what it held
pub locks_same : (past : List Event) (locks : Locks) (t : ℕ) (f : Option Transaction → Option Transaction) → LocksAre locks past
    → ((name : List ℕ) → held_with name (f (open_of t past)) ≡ held_with name (open_of t past)) → (s : ℕ) (name : List ℕ)
    → mode_held locks s name ≡ held_with name (if t == s then f (open_of s past) else open_of s past)
locks_same past locks t f are same s name = are s name ∙ by_test (t == s) refl
  where
    by_test : (b : Bool) → (t == s) ≡ b → held_with name (open_of s past) ≡ held_with name (if b then f (open_of s past) else open_of s past)
    by_test true is = subst (λ z. held_with name (open_of z past) ≡ held_with name (f (open_of z past))) (eqb-true t s is) (sym (same name))
    by_test false other = refl

nothing_held : (name : List ℕ) (o : Option Names) → o ≡ None → fin.get (unwrap_or o fin.empty) name ≡ None
nothing_held name None is = fin.get-empty (slice_cmp nat_cmp) name
nothing_held name (Some names) is = cc

-- with one session's locks taken out, the table has each session's modes, where that session's transaction is gone
pub locks_gone : (past : List Event) (locks : Locks) (t : ℕ) → LocksAre locks past → (s : ℕ) (name : List ℕ)
    → mode_held (fin.remove locks t) s name ≡ held_with name (if t == s then None else open_of s past)
locks_gone past locks t are s name =
    ap (λ o. fin.get (unwrap_or o fin.empty) name) (fin.get-remove nat_cmp_total locks t s ∙ ap (λ b. cond b None (fin.get locks s)) (sym (tied t s)))
    ∙ by_test (t == s)
  where
    by_test : (b : Bool) → fin.get (unwrap_or (cond b None (fin.get locks s)) fin.empty) name ≡ held_with name (if b then None else open_of s past)
    by_test true = nothing_held name None refl
    by_test false = are s name

-- the stronger of two modes, where either is held
abbrev both : Option LockMode → Option LockMode → Option LockMode
both old None = old
both old (Some mode) = Some (stronger mode old)

both_none : (new : Option LockMode) → both None new ≡ new
both_none None = refl
both_none (Some S) = refl
both_none (Some X) = refl

more_held : (old : Option LockMode) (mode : LockMode) (new : Option LockMode) → both (Some (stronger mode old)) new ≡ both old (Some (stronger mode new))
more_held None S None = refl
more_held None S (Some S) = refl
more_held None S (Some X) = refl
more_held None X None = refl
more_held None X (Some S) = refl
more_held None X (Some X) = refl
more_held (Some S) S None = refl
more_held (Some S) S (Some S) = refl
more_held (Some S) S (Some X) = refl
more_held (Some S) X None = refl
more_held (Some S) X (Some S) = refl
more_held (Some S) X (Some X) = refl
more_held (Some X) S None = refl
more_held (Some X) S (Some S) = refl
more_held (Some X) S (Some X) = refl
more_held (Some X) X None = refl
more_held (Some X) X (Some S) = refl
more_held (Some X) X (Some X) = refl

both_more : (mode : LockMode) (old new : Option LockMode) → Some (stronger mode (both old new)) ≡ both (Some (stronger mode old)) new
both_more S None None = refl
both_more S None (Some S) = refl
both_more S None (Some X) = refl
both_more S (Some S) None = refl
both_more S (Some S) (Some S) = refl
both_more S (Some S) (Some X) = refl
both_more S (Some X) None = refl
both_more S (Some X) (Some S) = refl
both_more S (Some X) (Some X) = refl
both_more X None None = refl
both_more X None (Some S) = refl
both_more X None (Some X) = refl
both_more X (Some S) None = refl
both_more X (Some S) (Some S) = refl
both_more X (Some S) (Some X) = refl
both_more X (Some X) None = refl
both_more X (Some X) (Some S) = refl
both_more X (Some X) (Some X) = refl

strongest-append : (name : List ℕ) (xs ys : List Need) → strongest name (xs ++ ys) ≡ both (strongest name xs) (strongest name ys)
strongest-append name [] ys = sym (both_none (strongest name ys))
strongest-append name (n ∷ xs) ys = by_test (bytes_eq n.name name) (strongest-append name xs ys)
  where
    by_test : (b : Bool) → strongest name (xs ++ ys) ≡ both (strongest name xs) (strongest name ys)
        → (if b then Some (stronger n.mode (strongest name (xs ++ ys))) else strongest name (xs ++ ys))
        ≡ both (if b then Some (stronger n.mode (strongest name xs)) else strongest name xs) (strongest name ys)
    by_test true is = ap (λ o. Some (stronger n.mode o)) is ∙ both_more n.mode (strongest name xs) (strongest name ys)
    by_test false is = is

-- names with needs hold the stronger mode of both
with_needs-held : (name : List ℕ) (asked : List Need) (names : Names) → fin.get (with_needs asked names) name ≡ both (fin.get names name) (strongest name asked)
with_needs-held name [] names = refl
with_needs-held name (n ∷ more) names =
    with_needs-held name more (with_need names n)
    ∙ ap (λ o. both o (strongest name more)) (fin.get-insert nat_list_cmp_total names n.name (stronger n.mode (fin.get names n.name)) name
    ∙ ap (λ b. cond b (Some (stronger n.mode (fin.get names n.name))) (fin.get names name)) (back n.name name))
    ∙ by_test (bytes_eq n.name name) refl
  where
    back : (a b : List ℕ) → eq_by_cmp (slice_cmp nat_cmp) b a ≡ bytes_eq a b
    back a b = (eq_by_cmp_equiv nat_list_cmp_total).symm b a ∙ is_eq-slice_cmp a b

    by_test : (b : Bool) → bytes_eq n.name name ≡ b → both (cond b (Some (stronger n.mode (fin.get names n.name))) (fin.get names name)) (strongest name more)
        ≡ both (fin.get names name) (if b then Some (stronger n.mode (strongest name more)) else strongest name more)
    by_test true same = ap (λ z. both (Some (stronger n.mode (fin.get names z))) (strongest name more)) (same_name n.name name same)
        ∙ more_held (fin.get names name) n.mode (strongest name more)
    by_test false other = refl

-- with the needs granted to one updating session, the table has each session's modes, where its transaction has them
pub locks_granted : (past : List Event) (locks : Locks) (t : ℕ) (asked : List Need) → LocksAre locks past → state t past ≡ Updating → (s : ℕ) (name : List ℕ)
    → mode_held (granted locks t asked) s name ≡ held_with name (if t == s then with_locks asked (open_of s past) else open_of s past)
locks_granted past locks t asked are updating s name =
    ap (λ o. fin.get (unwrap_or o fin.empty) name) (fin.get-insert nat_cmp_total locks t (with_needs asked (names_of locks t)) s
    ∙ ap (λ b. cond b (Some (with_needs asked (names_of locks t))) (fin.get locks s)) (sym (tied t s)))
    ∙ by_test (t == s) refl
  where
    grants : (o : Option Transaction) → state_with o ≡ Updating → both (held_with name o) (strongest name asked) ≡ held_with name (with_locks asked o)
    grants None is = cc
    grants (Some u) is = by_kind u.kind (opened_parts u.in_doubt u.kind is).0
      where
        by_kind : (kind : BeginKind) → kind ≡ kinds.Updating
            → both (held_in name u kind) (strongest name asked) ≡ held_in name (record u { locks = u.locks ++ asked }) kind
        by_kind kinds.Updating is = sym (strongest-append name u.locks asked)
        by_kind (kinds.Reading n) is = cc

    by_test : (b : Bool) → (t == s) ≡ b → fin.get (unwrap_or (cond b (Some (with_needs asked (names_of locks t))) (fin.get locks s)) fin.empty) name
        ≡ held_with name (if b then with_locks asked (open_of s past) else open_of s past)
    by_test true same = with_needs-held name asked (names_of locks t) ∙ ap (λ o. both o (strongest name asked)) (are t name) ∙ grants (open_of t past) updating
        ∙ ap (λ z. held_with name (with_locks asked (open_of z past))) (eqb-true t s same)
    by_test false other = are s name

-- ---- forests

-- an event that commits nothing leaves the committed transactions as they are
pub commits_same : (e : Event) (past : List Event) → committed_by e past ≡ [] → commits (e ∷ past) ≡ commits past
commits_same e past none = ap (λ l. commits past ++ l) none ∙ append-nil (commits past)

-- with one transaction more, the forest after it comes to the forests
pub forests_of-more : (F : Forest) (ts : List Transaction) (t : Transaction)
    → forests_of F (ts ++ t ∷ []) ≡ forests_of F ts ++ run_calls (serial F ts) (ran_all t.replies) ∷ []
forests_of-more F [] t = refl
forests_of-more F (u ∷ ts) t = ap (λ l. F ∷ l) (forests_of-more (run_calls F (ran_all u.replies)) ts t)

-- there is one forest more than transactions
pub length-forests_of : (F : Forest) (ts : List Transaction) → length (forests_of F ts) ≡ length ts + 1
length-forests_of F [] = refl
length-forests_of F (t ∷ ts) = let rest = length-forests_of (run_calls F (ran_all t.replies)) ts in omega (arith, rest)

-- the forest at k is the one after the first k transactions
pub forests_of-at : (F : Forest) (ts : List Transaction) (k : ℕ) (G : Forest) → slice_get (forests_of F ts) k ≡ Some G → G ≡ serial F (take k ts)
forests_of-at F [] zero G is = cc
forests_of-at F [] (suc k) G is = cc
forests_of-at F (t ∷ ts) zero G is = cc
forests_of-at F (t ∷ ts) (suc k) G is = forests_of-at (run_calls F (ran_all t.replies)) ts k G is

-- the newest forest is the one after all committed transactions
pub newest_is : (B : Base) (past : List Event) → newest B past ≡ serial B.forest (commits past)
newest_is B past = ap (serial B.forest) (take-length (commits past))
