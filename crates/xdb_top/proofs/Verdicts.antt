-- What a session's call brings next is told by its state and by the events before: one event alone, or one of a few
-- that exclude one another.
use Rattle.std.proofs.Common.{◌≡◌, ◌⊎◌, inl, inr, ℕ, ◌+◌, ◌-◌, ◌<◌, true, false, true≢false, IsTrue, List, [], ◌∷◌, ◌++◌, length, Option, None, Some, refl, sym, ap, subst, ◌∙◌, arith}
use Rattle.xq_ast.specs.declared.call.Call.{Call}
use Rattle.xq_ast.specs.declared.call.Call.TheVariants.{Begin, BeginRead, Commit, Rollback, Checkpoint, ShowDocuments, Create, Drop, Load, Export, Update, Query}
use Rattle.xq_ast.specs.declared.code.Code.{Code}
use Rattle.xq_ast.specs.declared.code.Code.TheVariants as codes
use Rattle.xq_ast.specs.declared.code.SpentKind.TheVariants as spent
use Rattle.xq_ast.specs.declared.need.Need.{Need}
use Rattle.xml_model.specs.Needs.{needs}
use Rattle.xml_model.specs.Statement.{is_statement, stmt}
use Rattle.session_core.specs.declared.history.event.BeginKind.TheVariants as kinds
use Rattle.session_core.specs.declared.history.event.State.{State}
use Rattle.session_core.specs.declared.history.event.State.TheVariants.{Idle, Updating, Reading, InDoubt}
use Rattle.session_core.specs.declared.history.event.Says.{Says}
use Rattle.session_core.specs.declared.history.event.Says.TheVariants as says
use Rattle.session_core.specs.declared.history.event.Event.{Event}
use Rattle.session_core.specs.declared.history.event.Event.TheVariants.{Began, Granted, Refused, Answered, Committed, Ended, RolledBack}
use Rattle.session_core.specs.History.{last_of}
use Rattle.session_core.specs.History.Transactions.{Base, commit_count, after, says_of}
use Rattle.session_core.specs.History.States.{state, is_open, is_reading, blocks}
use Rattle.session_core.specs.History.Locks.{IsFree, AllFree, IsRefused, AreGranted, IsBehindGrant, IsAnsweredWithLocks}
use Rattle.session_core.specs.History.Refusals.{refused_in, work_of}
use Rattle.session_core.specs.History.Settling.{last_number, HasNoCommitLeft}
use Rattle.session_core.specs.Keeping.Kept.{forest_behind}
use Rattle.session_core.specs.History.Answering.{AnswersInOrder, IsToldBy, is_of_device, lacks_memory, refuses_call, makes_checkpoint, finds_no_number, runs_updating, runs_reading, fails, finds_no_page, finds_damage}
use Rattle.session_core.proofs.Answering.{told_by}
use Rattle.session_run.specs.Calls.{IsAnswerInMemory}
use Rattle.session_run.proofs.Memory.{undamaged}

-- no test holds and does not
pub never : {A : Type 0} → false ≡ true → A
never is = absurd (true≢false (sym is))

-- ---- what comes next

-- one event alone; a commit, or the answer that no number is left; or what a statement in an updating transaction brings
pub data Verdict : Type 0 where
  only : Event → Verdict
  commits : Verdict
  runs : Verdict

-- the event that answers this call of a session so
abbrev pub answered : ℕ → Call → Says → Event
answered s call answer = Answered s (record { call = Some call; says = answer })

-- outside of a transaction a BEGIN begins one, and any other call is done
abbrev pub in_idle : Base → ℕ → List Event → Call → Verdict
in_idle B s past Begin = only (Began s kinds.Updating)
in_idle B s past BeginRead = only (Began s (kinds.Reading (B.numbers.commit + commit_count past)))
in_idle B s past call = only (answered s call says.Done)

-- in an updating transaction a COMMIT commits, a ROLLBACK rolls back, and a statement runs
abbrev pub in_updating : ℕ → Call → Verdict
in_updating s Commit = commits
in_updating s Rollback = only (RolledBack s)
in_updating s call = runs

-- in a reading transaction a COMMIT ends it, a ROLLBACK rolls back, and a statement is answered on the documents of its commit
abbrev pub in_reading : Base → ℕ → List Event → ℕ → Call → Verdict
in_reading B s past n Commit = only (Ended s)
in_reading B s past n Rollback = only (RolledBack s)
in_reading B s past n call = only (answered s call (says_of (stmt (after B past (n - B.numbers.commit)) call).says))

-- of a call that the state lets pass; in doubt there is none
abbrev pub passing : Base → ℕ → List Event → Call → State → Verdict
passing B s past call Idle = in_idle B s past call
passing B s past call Updating = in_updating s call
passing B s past call (Reading n) = in_reading B s past n call
passing B s past call InDoubt = runs

-- what the state refuses is answered by its code, and what it lets pass as the state says
abbrev pub by_refusal : Base → ℕ → List Event → Call → State → Option Code → Verdict
by_refusal B s past call x None = passing B s past call x
by_refusal B s past call x (Some code) = only (answered s call (says.Error code))

-- a statement's locks are granted
pub record Grants (s : ℕ) (call : Call) (e : Event) (past : List Event) : Type 0 where
  pub is : e ≡ Granted s (needs call)
  pub some : 0 < length (needs call)
  pub free : AllFree s (needs call) past
  pub first : IsBehindGrant (last_of s past) (Granted s (needs call))

-- they are refused
pub record Refuses (s : ℕ) (call : Call) (e : Event) (past : List Event) : Type 0 where
  pub name : List ℕ
  pub holder : ℕ
  pub is : e ≡ Refused s name holder (needs call)
  pub refused : IsRefused s name holder (needs call) past

-- it is answered
pub record Runs (B : Base) (s : ℕ) (call : Call) (e : Event) (past : List Event) : Type 0 where
  pub is : e ≡ answered s call (says_of (stmt (forest_behind B s past) call).says)
  pub granted : AreGranted s (needs call) past
  pub free : AllFree s (needs call) past

-- the transaction is committed, or no number is left for it
abbrev pub Commits : Base → ℕ → Event → List Event → Type 0
Commits B s e past = ((e ≡ Committed s (B.numbers.commit + (commit_count past + 1))) × (HasNoCommitLeft B.numbers past → ⊥))
    ⊎ ((e ≡ answered s Commit (says.Error (codes.Spent spent.Commit last_number))) × HasNoCommitLeft B.numbers past)

-- the event is one of these
abbrev pub Is : Base → ℕ → List Event → Call → Verdict → Event → Type 0
Is B s past call (only f) e = e ≡ f
Is B s past call commits e = Commits B s e past
Is B s past call runs e = Grants s call e past ⊎ (Refuses s call e past ⊎ Runs B s call e past)

-- the event is what the session's call brings in this state
abbrev pub IsTold : Base → ℕ → List Event → Call → State → Event → Type 0
IsTold B s past call x e = Is B s past call (by_refusal B s past call x (refused_in x (work_of call))) e

-- ---- each event is told

module _ (B : Base) (s : ℕ) (past : List Event) where
  -- a call is told where it is known which call it is, and in which state
  pub told_where : (call found : Call) (x y : State) (e : Event) → call ≡ found → x ≡ y → IsTold B s past found y e → IsTold B s past call x e
  told_where call found x y e same state_is told = subst (λ c. IsTold B s past c x e) (sym same) (subst (λ z. IsTold B s past found z e) (sym state_is) told)

  -- in a reading transaction COMMIT is told: it ends
  pub ended : (x : State) → IsTrue (is_reading x) → IsTold B s past Commit x (Ended s)
  ended Idle is = never is
  ended Updating is = never is
  ended (Reading n) is = refl
  ended InDoubt is = never is

  -- in an open transaction ROLLBACK is told: it rolls back
  pub rolled_back : (x : State) → IsTrue (is_open x) → IsTold B s past Rollback x (RolledBack s)
  rolled_back Idle is = never is
  rolled_back Updating is = refl
  rolled_back (Reading n) is = refl
  rolled_back InDoubt is = never is

  none_needed : {A : Type 0} → 0 < 0 → A
  none_needed some = absurd (omega arith)

  -- a call that needs locks
  pub needing : (call : Call) (e : Event) → 0 < length (needs call) → Grants s call e past ⊎ (Refuses s call e past ⊎ Runs B s call e past)
      → IsTold B s past call Updating e
  needing Begin e some is = none_needed some
  needing BeginRead e some is = none_needed some
  needing Commit e some is = none_needed some
  needing Rollback e some is = none_needed some
  needing Checkpoint e some is = none_needed some
  needing ShowDocuments e some is = none_needed some
  needing (Create name) e some is = is
  needing (Drop name) e some is = is
  needing (Load name pyx) e some is = is
  needing (Export name) e some is = is
  needing (Update what) e some is = is
  needing (Query expr) e some is = is

  running : (call : Call) (e : Event) → IsTrue (is_statement call) → refused_in Updating (work_of call) ≡ None → Runs B s call e past
      → IsTold B s past call Updating e
  running Begin e statement passes is = never statement
  running BeginRead e statement passes is = never statement
  running Commit e statement passes is = never statement
  running Rollback e statement passes is = never statement
  running Checkpoint e statement passes is = never statement
  running ShowDocuments e statement passes is = cc
  running (Create name) e statement passes is = inr (inr is)
  running (Drop name) e statement passes is = inr (inr is)
  running (Load name pyx) e statement passes is = inr (inr is)
  running (Export name) e statement passes is = inr (inr is)
  running (Update what) e statement passes is = inr (inr is)
  running (Query expr) e statement passes is = inr (inr is)

  reading : (call : Call) (n : ℕ) (answer : Says) → IsTrue (is_statement call) → refused_in (Reading n) (work_of call) ≡ None
      → answer ≡ says_of (stmt (after B past (n - B.numbers.commit)) call).says
      → IsTold B s past call (Reading n) (answered s call answer)
  reading Begin n answer statement passes is = never statement
  reading BeginRead n answer statement passes is = never statement
  reading Commit n answer statement passes is = never statement
  reading Rollback n answer statement passes is = never statement
  reading Checkpoint n answer statement passes is = never statement
  reading ShowDocuments n answer statement passes is = ap (answered s ShowDocuments) is
  reading (Create name) n answer statement passes is = cc
  reading (Drop name) n answer statement passes is = cc
  reading (Load name pyx) n answer statement passes is = cc
  reading (Export name) n answer statement passes is = ap (answered s (Export name)) is
  reading (Update what) n answer statement passes is = cc
  reading (Query expr) n answer statement passes is = ap (answered s (Query expr)) is

  by_step : (call : Call) (answer : Says) → AnswersInOrder B.numbers s past (Some call) answer → IsToldBy B s past (Some call) answer
      → is_of_device answer ≡ false → (answer ≡ says.Error codes.NoMemory → ⊥)
      → IsAnsweredWithLocks (state s past) s (record { call = Some call; says = answer }) past → IsTold B s past call (state s past) (answered s call answer)
  by_step call _ lacks_memory by here no_want locks = absurd (no_want refl)
  by_step call answer (refuses_call r) by here no_want locks =
      subst (λ o. Is B s past call (by_refusal B s past call (state s past) o) (answered s call answer)) (sym r.refused) (ap (answered s call) r.says_so)
  by_step call answer (makes_checkpoint m) by here no_want locks =
      told_where call Checkpoint (state s past) Idle (answered s call answer) m.is m.idle (ap (λ c. answered s c answer) m.is
      ∙ ap (answered s Checkpoint) m.says_so)
  by_step call answer (finds_no_number f) by here no_want locks =
      told_where call Commit (state s past) Updating (answered s call answer) f.is f.updating
      (inr (ap (λ c. answered s c answer) f.is ∙ ap (answered s Commit) f.says_so, f.none_left))
  by_step call answer (runs_updating r) by here no_want locks =
      let with_locks = subst (λ x. IsAnsweredWithLocks x s (record { call = Some call; says = answer }) past) r.updating locks in
      told_where call call (state s past) Updating (answered s call answer) refl r.updating
      (running call (answered s call answer) r.statement r.passes
      (record {
        is = ap (answered s call) (told_by B s past Updating call answer r.updating r.statement r.told by);
        granted = r.granted;
        free =
            with_locks.1 r.passes no_want;
      }))
  by_step call answer (runs_reading r) by here no_want locks = told_where call call (state s past) (Reading r.number) (answered s call answer) refl r.reading
      (reading call r.number answer r.statement r.passes (told_by B s past (Reading r.number) call answer r.reading r.statement r.told by))
  by_step call answer (fails f) by here no_want locks = never (sym here ∙ ap is_of_device f.says_so)
  by_step call answer (finds_no_page f) by here no_want locks = never (sym here ∙ ap is_of_device f.says_so)
  by_step call answer (finds_damage f) by here no_want locks = never (sym (undamaged answer here) ∙ f.damaged)

  -- an answer in which no device takes part is told
  pub right_told : (call : Call) (answer : Says) → IsAnswerInMemory B s past (Some call) answer → (answer ≡ says.Error codes.NoMemory → ⊥)
      → IsAnsweredWithLocks (state s past) s (record { call = Some call; says = answer }) past → IsTold B s past call (state s past) (answered s call answer)
  right_told call answer right no_want locks = by_step call answer right.0.in_order right.0.by_documents right.1 no_want locks

-- ---- what is told is told once

module _ (s : ℕ) (past : List Event) where
  -- another session holds a lock that conflicts with the need
  abbrev IsTaken : Need → Type 0
  IsTaken n = (t : ℕ) × (t ≡ s → ⊥) × (blocks t n past ≡ true)

  not_free : (n : Need) → IsTaken n → IsFree s n past → ⊥
  not_free n taken free = true≢false (sym taken.2 ∙ free taken.0 taken.1)

  -- the first need that is taken
  first_taken : (before other : List Need) (n m : Need) (behind rest : List Need) → AllFree s before past → AllFree s other past
      → before ++ n ∷ behind ≡ other ++ m ∷ rest → IsTaken n → IsTaken m → n ≡ m
  first_taken [] [] n m behind rest free free' same taken taken' = cc
  first_taken [] (k ∷ other) n m behind rest free free' same taken taken' = let first : k ≡ n = cc in
      absurd (not_free n taken (subst (λ x. IsFree s x past) first free'.0))
  first_taken (k ∷ before) [] n m behind rest free free' same taken taken' = let first : k ≡ m = cc in
      absurd (not_free m taken' (subst (λ x. IsFree s x past) first free.0))
  first_taken (k ∷ before) (l ∷ other) n m behind rest free free' same taken taken' =
      let more : before ++ n ∷ behind ≡ other ++ m ∷ rest = cc in first_taken before other n m behind rest free.1 free'.1 more taken taken'

  all_free : (before : List Need) (n : Need) (behind : List Need) → AllFree s (before ++ n ∷ behind) past → IsFree s n past
  all_free [] n behind free = free.0
  all_free (k ∷ before) n behind free = all_free before n behind free.1

  taken_of : (name : List ℕ) (holder : ℕ) (asked : List Need) (r : IsRefused s name holder asked past) → IsTaken r.blocked
  taken_of name holder asked r = (holder, r.other, r.holds)

  -- locks are not both refused and free
  not_both : {A : Type 0} (name : List ℕ) (holder : ℕ) (asked : List Need) → IsRefused s name holder asked past → AllFree s asked past → A
  not_both name holder asked r free =
      absurd (not_free r.blocked (taken_of name holder asked r) (all_free r.before r.blocked r.behind (subst (λ n. AllFree s n past) r.asked_are free)))

  least_holder : (n : Need) (h k : ℕ) → (h ≡ s → ⊥) → (k ≡ s → ⊥) → blocks h n past ≡ true → blocks k n past ≡ true
      → ((t : ℕ) → t < h → (t ≡ s → ⊥) → blocks t n past ≡ false) → ((t : ℕ) → t < k → (t ≡ s → ⊥) → blocks t n past ≡ false) → h ≡ k
  least_holder n h k other other' holds holds' least least' =
      let not_below : h < k → ⊥ = λ below. true≢false (sym holds ∙ least' h below other) in
      let not_above : k < h → ⊥ = λ above. true≢false (sym holds' ∙ least k above other') in
      omega (arith, not_below, not_above)

  refused_once : (name name' : List ℕ) (holder holder' : ℕ) (asked : List Need) → IsRefused s name holder asked past → IsRefused s name' holder' asked past
      → (name ≡ name') × (holder ≡ holder')
  refused_once name name' holder holder' asked r q =
      let same : r.blocked ≡ q.blocked =
      first_taken r.before q.before r.blocked q.blocked r.behind q.behind r.before_free q.before_free (sym r.asked_are ∙ q.asked_are)
      (taken_of name holder asked r) (taken_of name' holder' asked q) in (
        r.name_is ∙ ap (λ n. n.name) same ∙ sym q.name_is,
        least_holder r.blocked holder holder' r.other q.other r.holds (subst (λ n. blocks holder' n past ≡ true) (sym same) q.holds) r.least
            (subst (λ n. (t : ℕ) → t < holder' → (t ≡ s → ⊥) → blocks t n past ≡ false) (sym same) q.least),
      )

  -- locks are granted once for a call
  granted_once : {A : Type 0} (asked : List Need) → 0 < length asked → IsBehindGrant (last_of s past) (Granted s asked) → AreGranted s asked past → A
  granted_once [] some first granted = absurd (omega arith)
  granted_once (n ∷ more) some first granted = absurd (subst (λ last. IsBehindGrant last (Granted s (n ∷ more))) granted first)

  refuses_same : (call : Call) (e f : Event) → Refuses s call e past → Refuses s call f past → e ≡ f
  refuses_same call e f r q =
      let same = refused_once r.name q.name r.holder q.holder (needs call) r.refused q.refused in
      r.is ∙ ap (λ name. Refused s name r.holder (needs call)) same.0 ∙ ap (λ holder. Refused s q.name holder (needs call)) same.1 ∙ sym q.is

  runs_same : (B : Base) (call : Call) (e f : Event) → Is B s past call runs e → Is B s past call runs f → e ≡ f
  runs_same B call e f (inl a) (inl b) = a.is ∙ sym b.is
  runs_same B call e f (inl a) (inr (inl b)) = not_both b.name b.holder (needs call) b.refused a.free
  runs_same B call e f (inl a) (inr (inr b)) = granted_once (needs call) a.some a.first b.granted
  runs_same B call e f (inr (inl a)) (inl b) = not_both a.name a.holder (needs call) a.refused b.free
  runs_same B call e f (inr (inl a)) (inr (inl b)) = refuses_same call e f a b
  runs_same B call e f (inr (inl a)) (inr (inr b)) = not_both a.name a.holder (needs call) a.refused b.free
  runs_same B call e f (inr (inr a)) (inl b) = granted_once (needs call) b.some b.first a.granted
  runs_same B call e f (inr (inr a)) (inr (inl b)) = not_both b.name b.holder (needs call) b.refused a.free
  runs_same B call e f (inr (inr a)) (inr (inr b)) = a.is ∙ sym b.is

  commits_same : (B : Base) (e f : Event) → Commits B s e past → Commits B s f past → e ≡ f
  commits_same B e f (inl a) (inl b) = a.0 ∙ sym b.0
  commits_same B e f (inl a) (inr b) = absurd (a.1 b.1)
  commits_same B e f (inr a) (inl b) = absurd (b.1 a.1)
  commits_same B e f (inr a) (inr b) = a.0 ∙ sym b.0

  same_of : (B : Base) (call : Call) (v : Verdict) (e f : Event) → Is B s past call v e → Is B s past call v f → e ≡ f
  same_of B call (only g) e f a b = a ∙ sym b
  same_of B call commits e f a b = commits_same B e f a b
  same_of B call runs e f a b = runs_same B call e f a b

  -- two events that a call brings at one place are the same
  pub told_once : (B : Base) (call : Call) (x : State) (e f : Event) → IsTold B s past call x e → IsTold B s past call x f → e ≡ f
  told_once B call x e f a b = same_of B call (by_refusal B s past call x (refused_in x (work_of call))) e f a b
