-- Right answers keep a journal legal so far: each meets its own clauses.
use Rattle.std.proofs.Common.{◌≡◌, ℕ, ◌-◌, Bool, true, false, not, ◌||◌, true≢false, List, [], ◌∷◌, Option, None, Some, IfSome, IsTrue, Result, Ok, Err, refl, sym, ap, subst, ◌∙◌}
use Rattle.std.specs.Prelude.{if◌then◌else◌, nat_lt, length}
use Rattle.std.specs.FinMap as forests
use mathlib.Core.Logic.{inl, inr}
use Rattle.xq_ast.specs.declared.call.Call.{Call}
use Rattle.xq_ast.specs.declared.call.Call.TheVariants.{Begin, BeginRead, Commit, Rollback, Checkpoint, ShowDocuments, Create, Drop, Load, Export, Update, Query}
use Rattle.xq_ast.specs.declared.code.Code.{Code}
use Rattle.xq_ast.specs.declared.code.Code.TheVariants as codes
use Rattle.xq_ast.specs.declared.code.SpentKind.TheVariants as spent
use Rattle.xq_ast.specs.declared.need.LockMode.{LockMode}
use Rattle.xq_ast.specs.declared.need.LockMode.TheVariants.{S, X}
use Rattle.xq_ast.specs.declared.need.Need.{Need}
use Rattle.xml_model.specs.declared.limits.TheConstants.{REPLY_BYTES_MAX}
use Rattle.xml_model.specs.declared.node.Doc.{Doc}
use Rattle.xml_model.specs.declared.node.RefusedLine.{RefusedLine}
use Rattle.xml_model.specs.Forest.{Forest}
use Rattle.xml_model.specs.Needs.{needs, has_exclusive}
use Rattle.xml_model.specs.Pyx.{Line, read, pyx, text_of}
use Rattle.xml_model.specs.Items.{Documents, Items, Made}
use Rattle.xml_model.specs.Edits.{updated}
use Rattle.xml_model.specs.Evaluation.{eval}
use Rattle.xml_model.specs.ItemLines.{lines_of}
use Rattle.xml_model.specs.QueryCodes.{is_query_code}
use Rattle.xml_model.proofs.QueryTrees.{ends_coded}
use Rattle.xml_model.proofs.UpdateCodes.{update_ends_coded}
use Rattle.xml_model.specs.Statement.{name_lines, said_by, is_statement, stmt, error, lines, answer_of, added_where_free, dropped, exported, changed}
use Rattle.session_core.specs.declared.history.event.BeginKind.{BeginKind}
use Rattle.session_core.specs.declared.history.event.BeginKind.TheVariants as kinds
use Rattle.session_core.specs.declared.history.event.State.{State}
use Rattle.session_core.specs.declared.history.event.State.TheVariants.{Idle, Updating, Reading, InDoubt}
use Rattle.session_core.specs.declared.history.event.Reply.{Reply}
use Rattle.session_core.specs.declared.history.event.Says.{Says}
use Rattle.session_core.specs.declared.history.event.Says.TheVariants as says
use Rattle.session_core.specs.declared.history.event.Event.{Event}
use Rattle.session_core.specs.declared.history.event.Event.TheVariants.{Granted, Answered}
use Rattle.session_core.specs.History.{AtEach, past_of, last_of}
use Rattle.session_core.specs.History.Transactions.{Base, Transaction, Ran, open_of, updating, where_updating, ran, ran_by, ran_all, run_calls, serial, after, newest, says_of, says_run, is_without_run, AnsweredInTurn, AnsweredAt}
use Rattle.session_core.specs.History.States.{state, state_with, state_in, blocks}
use Rattle.xq_ast.specs.Modes.{conflicts, is_exclusive}
use Rattle.session_core.specs.History.Locks.{AllFree, AreGranted, RanGranted, MeetsNoConflict, IsAnsweredWithLocks, LocksAt}
use Rattle.session_core.specs.History.Replies.{AnsweredFrom}
use Rattle.session_core.specs.History.Refusals.{Work, begins, ends, checkpoints, reads, shows, changes, work_of, refused_in, passes_with, answers_statement, is_text_refusal, is_state_refusal, IsByTable, IsBehindSettling, RefusalsAt}
use Rattle.session_core.specs.History.Settling.{last_number, makes_pages, IsSettledForCheckpoint, SettlingOfAnswer}
use Rattle.session_core.specs.History.Marks.{IsNextMark, mark_in, FailsRightly}
use Rattle.session_core.specs.History.Steps.{IsNextReply, IsStep}
use Rattle.session_core.specs.Keeping.Kept.{Follows}
use Rattle.session_core.specs.History.Answering.{is_of_store, is_told, is_damaged, RefusesText, RefusesCall, MakesCheckpoint, FindsNoNumber, RunsUpdating, RunsReading, HasItsLocks, FailsOnDevice, FindsNoPage, FindsDamage, AnswersInOrder, forest_for, IsSaidOf, IsToldBy, IsRightAnswer, AnswersKeepLegal}
use Rattle.session_core.specs.History.Answering.AnswersInOrder.{lacks_memory, refuses_text, refuses_call, makes_checkpoint, finds_no_number, runs_updating, runs_reading, fails, finds_no_page, finds_damage}
use Rattle.session_core.proofs.CallOrder.{in_order}
use Rattle.session_core.proofs.Holding.{has_name, locks_by, locks_in, locks_of, mode_by, held_is, all_apart}
use Rattle.session_core.proofs.Covering.{AreHeld, LastHeldBy, LastHeldIn, last_held, none_ran}
use Rattle.session_core.proofs.Growing.{grows}
use Rattle.session_core.proofs.Tying.{opened, updating_is}

abbrev replied : Option Call → Says → Reply
replied call answer = record { call = call; says = answer }

-- ---- codes

-- the codes that neither settling nor marks have rules for
abbrev is_plain : Code → Bool
is_plain (codes.Failed mark) = false
is_plain (codes.InDoubt mark) = false
is_plain (codes.Spent kind number) = false
is_plain (codes.Damaged commit ordinal page) = false
is_plain _ = true

text_plain : (code : Code) → is_text_refusal code ≡ true → is_plain code ≡ true
text_plain (codes.Failed mark) is = absurd (true≢false (sym is))
text_plain (codes.InDoubt mark) is = absurd (true≢false (sym is))
text_plain (codes.Spent kind number) is = absurd (true≢false (sym is))
text_plain (codes.Damaged commit ordinal page) is = absurd (true≢false (sym is))
text_plain code is = refl

state_plain : (code : Code) → is_state_refusal code ≡ true → is_plain code ≡ true
state_plain (codes.Failed mark) is = absurd (true≢false (sym is))
state_plain (codes.InDoubt mark) is = absurd (true≢false (sym is))
state_plain (codes.Spent kind number) is = absurd (true≢false (sym is))
state_plain (codes.Damaged commit ordinal page) is = absurd (true≢false (sym is))
state_plain code is = refl

-- a call that its state refuses does not run
pub state_unrun : (code : Code) → is_state_refusal code ≡ true → is_without_run code ≡ true
state_unrun codes.NoTransaction is = refl
state_unrun codes.InTransaction is = refl
state_unrun codes.ReadOnly is = refl
state_unrun codes.Updating is = refl
state_unrun code is = absurd (true≢false (sym is))

plain_settles : (B : Base) (x : State) (call : Option Call) (code : Code) (past : List Event) → is_plain code ≡ true
    → SettlingOfAnswer B.numbers x call (says.Error code) past
plain_settles B x call (codes.Failed mark) past is = absurd (true≢false (sym is))
plain_settles B x call (codes.InDoubt mark) past is = absurd (true≢false (sym is))
plain_settles B x call (codes.Spent kind number) past is = absurd (true≢false (sym is))
plain_settles B x call (codes.Damaged commit ordinal page) past is = absurd (true≢false (sym is))
plain_settles B x call code past is = tt

abbrev AreMarksOf : State → Option Call → Says → List Event → Type 0
AreMarksOf x call answer past = IfSome (mark_in answer) (IsNextMark past) × FailsRightly x call answer

plain_marks : (x : State) (call : Option Call) (code : Code) (past : List Event) → is_plain code ≡ true → AreMarksOf x call (says.Error code) past
plain_marks x call (codes.Failed mark) past is = absurd (true≢false (sym is))
plain_marks x call (codes.InDoubt mark) past is = absurd (true≢false (sym is))
plain_marks x call (codes.Spent kind number) past is = absurd (true≢false (sym is))
plain_marks x call (codes.Damaged commit ordinal page) past is = absurd (true≢false (sym is))
plain_marks x call code past is = (tt, tt)

-- ---- what a statement says

abbrev tells_code : Code → Bool
tells_code codes.Exists = true
tells_code codes.ReplyTooLong = true
tells_code (codes.Pyx why line) = true
tells_code code = is_query_code code

abbrev tells : Says → Bool
tells says.Done = true
tells (says.Lines all) = true
tells (says.Error code) = tells_code code
tells _ = false

added_tells : (o : Option Doc) (name : List ℕ) (made : Result Doc RefusedLine) (F : Forest) → tells (says_of (added_where_free o name made F).says) ≡ true
added_tells (Some there) name made F = refl
added_tells None name (Ok doc) F = refl
added_tells None name (Err refused) F = refl

dropped_tells : (o : Option Doc) (name : List ℕ) (F : Forest) → tells (says_of (dropped o name F).says) ≡ true
dropped_tells (Some there) name F = refl
dropped_tells None name F = refl

lines_tell : (all : List Line) → tells (says_of (answer_of all)) ≡ true
lines_tell all = elim (nat_lt REPLY_BYTES_MAX (length (text_of all))) as
    (λ b. tells (says_of (if b then error codes.ReplyTooLong else lines all)) ≡ true) [ true ↦ refl | false ↦ refl ]

exported_tells : (o : Option Doc) → tells (says_of (exported o)) ≡ true
exported_tells (Some doc) = lines_tell (pyx doc)
exported_tells None = refl

-- a code with which a query ends is one of them
query_code_tells : (code : Code) → IsTrue (is_query_code code) → tells_code code ≡ true
query_code_tells codes.Exists is = refl
query_code_tells codes.ReplyTooLong is = refl
query_code_tells (codes.Pyx why line) is = refl
query_code_tells code is = is

said_tells : (docs : Documents) (r : Result (Items × Made) Code) → ((code : Code) → r ≡ Err code → IsTrue (is_query_code code))
    → tells (says_of (said_by docs r)) ≡ true
said_tells docs (Ok found) coded = lines_tell (lines_of docs found.1 found.0)
said_tells docs (Err code) coded = query_code_tells code (coded code refl)

-- an update is done, or ends with such a code
changed_tells : (r : Result Forest Code) (F : Forest) → ((code : Code) → r ≡ Err code → IsTrue (is_query_code code)) → tells (says_of (changed r F).says) ≡ true
changed_tells (Ok G) F coded = refl
changed_tells (Err code) F coded = query_code_tells code (coded code refl)

-- a statement's answer is done, lines or one of the codes that the documents decide
pub stmt_tells : (F : Forest) (call : Call) → tells (says_of (stmt F call).says) ≡ true
stmt_tells F Begin = refl
stmt_tells F BeginRead = refl
stmt_tells F Commit = refl
stmt_tells F Rollback = refl
stmt_tells F Checkpoint = refl
stmt_tells F ShowDocuments = lines_tell (name_lines F)
stmt_tells F (Create name) = added_tells (forests.get F name) name (Ok (record { kids = [] })) F
stmt_tells F (Drop name) = dropped_tells (forests.get F name) name F
stmt_tells F (Load name pyx_lines) = added_tells (forests.get F name) name (read pyx_lines) F
stmt_tells F (Export name) = exported_tells (forests.get F name)
stmt_tells F (Update what) = changed_tells (updated F what) F (update_ends_coded F what)
stmt_tells F (Query expr) = said_tells (forests.get F) (eval F expr) (ends_coded F expr)

-- a code with which a query ends may be told by the documents
query_code_told : (code : Code) → is_query_code code ≡ true → is_told (says.Error code) ≡ true
query_code_told codes.XPDY0002 is = refl
query_code_told codes.XPTY0004 is = refl
query_code_told codes.XPTY0019 is = refl
query_code_told codes.XPTY0020 is = refl
query_code_told codes.XQTY0024 is = refl
query_code_told codes.XQDY0025 is = refl
query_code_told codes.FOAR0001 is = refl
query_code_told codes.FOAR0002 is = refl
query_code_told codes.FODC0002 is = refl
query_code_told codes.FORG0001 is = refl
query_code_told codes.FORG0006 is = refl
query_code_told codes.TooDeep is = refl
query_code_told codes.TooManyNodes is = refl
query_code_told codes.TooMuchText is = refl
query_code_told codes.TooManyItems is = refl
query_code_told code is = absurd (true≢false (sym is))

-- and such an answer the documents may tell
tells_told : (answer : Says) → tells answer ≡ true → is_told answer ≡ true
tells_told says.Done is = refl
tells_told (says.Lines all) is = refl
tells_told (says.Error code) is = by_code code is
  where
    by_code : (code : Code) → tells_code code ≡ true → is_told (says.Error code) ≡ true
    by_code codes.Exists is = refl
    by_code codes.ReplyTooLong is = refl
    by_code (codes.Pyx why line) is = refl
    by_code code is = query_code_told code is
tells_told answer is = absurd (true≢false (sym is))

-- what a statement answers is something that the documents may tell
pub stmt_told : (F : Forest) (call : Call) → is_told (says_of (stmt F call).says) ≡ true
stmt_told F call = tells_told (says_of (stmt F call).says) (stmt_tells F call)

code_runs : (code : Code) → is_told (says.Error code) ≡ true → not (is_without_run code) ≡ true
code_runs codes.NoTransaction is = absurd (true≢false (sym is))
code_runs codes.InTransaction is = absurd (true≢false (sym is))
code_runs codes.ReadOnly is = absurd (true≢false (sym is))
code_runs codes.Updating is = absurd (true≢false (sym is))
code_runs codes.NoMemory is = absurd (true≢false (sym is))
code_runs (codes.Failed mark) is = absurd (true≢false (sym is))
code_runs (codes.Spent kind number) is = absurd (true≢false (sym is))
code_runs (codes.Damaged commit ordinal page) is = absurd (true≢false (sym is))
code_runs code is = refl

-- an answer that the documents may tell is one of a call that ran
pub told_runs : (answer : Says) → is_told answer ≡ true → says_run answer ≡ true
told_runs says.Done is = refl
told_runs (says.Lines all) is = refl
told_runs (says.Error code) is = code_runs code is
told_runs answer is = absurd (true≢false (sym is))

neither : (a b c : Bool) → not (a || (b || c)) ≡ true → not (a || b) ≡ true
neither true b c is = is
neither false true c is = is
neither false false c is = refl

told_answers : (answer : Says) → is_told answer ≡ true → answers_statement answer ≡ true
told_answers says.Done is = refl
told_answers (says.Lines all) is = refl
told_answers (says.Error code) is = neither (is_text_refusal code) (is_state_refusal code) (is_of_store code) is
told_answers answer is = absurd (true≢false (sym is))

code_plain : (code : Code) → is_told (says.Error code) ≡ true → is_plain code ≡ true
code_plain (codes.Failed mark) is = absurd (true≢false (sym is))
code_plain (codes.InDoubt mark) is = absurd (true≢false (sym is))
code_plain (codes.Spent kind number) is = absurd (true≢false (sym is))
code_plain (codes.Damaged commit ordinal page) is = absurd (true≢false (sym is))
code_plain code is = refl

no_checkpoint : (call : Call) (past : List Event) → is_statement call ≡ true → IsSettledForCheckpoint (Some call) past
no_checkpoint Checkpoint past is = absurd (true≢false (sym is))
no_checkpoint call past is = tt

told_settles : (B : Base) (x : State) (call : Call) (answer : Says) (past : List Event) → is_statement call ≡ true → is_told answer ≡ true
    → SettlingOfAnswer B.numbers x (Some call) answer past
told_settles B x call says.Done past statement is = no_checkpoint call past statement
told_settles B x call (says.Lines all) past statement is = tt
told_settles B x call (says.Error code) past statement is = plain_settles B x (Some call) code past (code_plain code is)
told_settles B x call answer past statement is = absurd (true≢false (sym is))

told_marks : (x : State) (call : Option Call) (answer : Says) (past : List Event) → is_told answer ≡ true → AreMarksOf x call answer past
told_marks x call says.Done past is = (tt, tt)
told_marks x call (says.Lines all) past is = (tt, tt)
told_marks x call (says.Error code) past is = plain_marks x call code past (code_plain code is)
told_marks x call answer past is = absurd (true≢false (sym is))

-- ---- the table

abbrev are_state_refusals : Option Code → Bool
are_state_refusals None = true
are_state_refusals (Some code) = is_state_refusal code

table_refuses : (x : State) (work : Work) → are_state_refusals (refused_in x work) ≡ true
table_refuses Idle begins = refl
table_refuses Idle ends = refl
table_refuses Idle checkpoints = refl
table_refuses Idle reads = refl
table_refuses Idle shows = refl
table_refuses Idle changes = refl
table_refuses Updating begins = refl
table_refuses Updating ends = refl
table_refuses Updating checkpoints = refl
table_refuses Updating reads = refl
table_refuses Updating shows = refl
table_refuses Updating changes = refl
table_refuses (Reading n) begins = refl
table_refuses (Reading n) ends = refl
table_refuses (Reading n) checkpoints = refl
table_refuses (Reading n) reads = refl
table_refuses (Reading n) shows = refl
table_refuses (Reading n) changes = refl
table_refuses InDoubt work = refl

-- a state refuses with the codes of states alone
pub refused_code : (x : State) (work : Work) (code : Code) → refused_in x work ≡ Some code → is_state_refusal code ≡ true
refused_code x work code is = ap are_state_refusals (sym is) ∙ table_refuses x work

-- a call that an updating transaction refuses needs no locks
pub refused_needs : (call : Call) (code : Code) → refused_in Updating (work_of call) ≡ Some code → needs call ≡ []
refused_needs (Create name) code is = cc
refused_needs (Drop name) code is = cc
refused_needs (Load name pyx_lines) code is = cc
refused_needs (Export name) code is = cc
refused_needs (Update what) code is = cc
refused_needs (Query expr) code is = cc
refused_needs call code is = refl

by_table : (x : State) (call : Call) (code : Code) → refused_in x (work_of call) ≡ Some code → IsBehindSettling x (Some call) (says.Error code)
by_table Idle call code is = subst (λ o. IsByTable o (work_of call) (says.Error code)) (sym is) refl
by_table Updating call code is = subst (λ o. IsByTable o (work_of call) (says.Error code)) (sym is) refl
by_table (Reading n) call code is = subst (λ o. IsByTable o (work_of call) (says.Error code)) (sym is) refl
by_table InDoubt call code is = cc

passing : (call : Call) (answer : Says) → is_statement call ≡ true → answers_statement answer ≡ true → IsTrue (passes_with (work_of call) answer)
passing ShowDocuments answer statement is = is
passing (Create name) answer statement is = is
passing (Drop name) answer statement is = is
passing (Load name pyx_lines) answer statement is = is
passing (Export name) answer statement is = is
passing (Update what) answer statement is = is
passing (Query expr) answer statement is = is
passing call answer statement is = absurd (true≢false (sym statement))

passes_table : (call : Call) (answer : Says) (refusal : Option Code) → refusal ≡ None → is_statement call ≡ true → answers_statement answer ≡ true
    → IsByTable refusal (work_of call) answer
passes_table call answer refusal passes statement is = subst (λ o. IsByTable o (work_of call) answer) (sym passes) (passing call answer statement is)

-- ---- locks

free_by : (mode : LockMode) (exclusive there : Bool) → exclusive ≡ false → (is_exclusive mode ≡ true → there ≡ false)
    → conflicts (mode_by exclusive there) mode ≡ false
free_by mode true there none not_there = absurd (true≢false none)
free_by S false true none not_there = refl
free_by S false false none not_there = refl
free_by X false true none not_there = absurd (true≢false (not_there refl))
free_by X false false none not_there = refl

-- what a session's locks cover, no other session keeps from it
pub free_where_held : (past : List Event) → AtEach LocksAt past → (s : ℕ) (asked : List Need) → AreHeld asked (locks_of s past) → AllFree s asked past
free_where_held past locks s [] held = tt
free_where_held past locks s (n ∷ more) held = (free, free_where_held past locks s more held.1)
  where
    not_exclusive : (t : ℕ) → (t ≡ s → ⊥) → (b : Bool) → has_exclusive n.name (locks_of t past) ≡ b → b ≡ false
    not_exclusive t other true is = absurd (true≢false (sym held.0.0 ∙ all_apart past locks t s other n.name is))
    not_exclusive t other false is = refl

    not_there : (t : ℕ) → (t ≡ s → ⊥) → is_exclusive n.mode ≡ true → has_name n.name (locks_of t past) ≡ false
    not_there t other exclusive = all_apart past locks s t (λ same. other (sym same)) n.name (held.0.1 exclusive)

    free : (t : ℕ) → (t ≡ s → ⊥) → blocks t n past ≡ false
    free t other = ap (λ mode. conflicts mode n.mode) (held_is n.name (open_of t past))
        ∙ free_by n.mode (has_exclusive n.name (locks_of t past)) (has_name n.name (locks_of t past)) (not_exclusive t other _ refl) (not_there t other)

held_by_last : (asked : List Need) (t : Transaction) (kind : BeginKind) → kind ≡ kinds.Updating → LastHeldBy asked t kind → AreHeld asked (locks_by t kind)
held_by_last asked t kinds.Updating is held = held
held_by_last asked t (kinds.Reading n) is held = cc

-- a session directly behind its grant holds what was granted
pub held_behind_grant : (past : List Event) (s : ℕ) (asked : List Need) → state s past ≡ Updating → last_of s past ≡ Some (Granted s asked)
    → AreHeld asked (locks_of s past)
held_behind_grant past s asked updating granted = let o = opened (open_of s past) updating in
    subst (λ z. LastHeldIn asked z → AreHeld asked (locks_in z)) (sym o.is) (held_by_last asked o.transaction o.transaction.kind o.kind_is)
    (last_held past s asked granted)

-- the grant itself is one, also of a call without needs
pub granted_as : (s : ℕ) (asked : List Need) (past : List Event) → last_of s past ≡ Some (Granted s asked) → AreGranted s asked past
granted_as s [] past is = tt
granted_as s (n ∷ more) past is = is

-- what a call needs is held where its locks were granted
pub held_where_granted : (past : List Event) (s : ℕ) (asked : List Need) → state s past ≡ Updating → AreGranted s asked past → AreHeld asked (locks_of s past)
held_where_granted past s [] updating granted = tt
held_where_granted past s (n ∷ more) updating granted = held_behind_grant past s (n ∷ more) updating granted

-- ---- calls that did not run

nothing_next : (F : Forest) (ts : List Transaction) (r : Reply) → ran r ≡ [] → IsNextReply F ts r
nothing_next F [] r none = tt
nothing_next F (t ∷ more) r none = (subst (AnsweredInTurn (run_calls F (ran_all t.replies))) (sym none) tt, nothing_next F more r none)

nothing_seen : (B : Base) (x : State) (calls : List Ran) (past : List Event) → calls ≡ [] → AnsweredFrom B x calls past
nothing_seen B Idle calls past none = tt
nothing_seen B Updating calls past none = tt
nothing_seen B (Reading n) calls past none = subst (AnsweredAt (after B past (n - B.numbers.commit))) (sym none) tt
nothing_seen B InDoubt calls past none = tt

no_locks : (x : State) (s : ℕ) (r : Reply) (past : List Event) → ran r ≡ [] → (x ≡ Updating → MeetsNoConflict s r.call r.says past)
    → IsAnsweredWithLocks x s r past
no_locks Idle s r past none meets = tt
no_locks Updating s r past none meets = (subst (λ calls. RanGranted s calls past) (sym none) tt, meets refl)
no_locks (Reading n) s r past none meets = tt
no_locks InDoubt s r past none meets = tt

no_memory_meets : (s : ℕ) (call : Option Call) (past : List Event) → MeetsNoConflict s call (says.Error codes.NoMemory) past
no_memory_meets s None past = tt
no_memory_meets s (Some call) past = λ passes other. absurd (other refl)

none_asked : (s : ℕ) (asked : List Need) (past : List Event) → asked ≡ [] → AllFree s asked past
none_asked s asked past none = subst (λ l. AllFree s l past) (sym none) tt

-- an answered call of an updating transaction meets no conflict, also one that the state refuses
pub meets_none : (s : ℕ) (call : Call) (answer : Says) (past : List Event) → MeetsNoConflict s (Some call) answer past
    → (answer ≡ says.Error codes.NoMemory → ⊥) → AllFree s (needs call) past
meets_none s call answer past meets other = by_refusal (refused_in Updating (work_of call)) refl
  where
    by_refusal : (refusal : Option Code) → refused_in Updating (work_of call) ≡ refusal → AllFree s (needs call) past
    by_refusal None passes = meets passes other
    by_refusal (Some code) refused = none_asked s (needs call) past (refused_needs call code refused)

text_in_order : (x : State) (code : Code) → is_text_refusal code ≡ true → (x ≡ InDoubt → ⊥) → IsBehindSettling x None (says.Error code)
text_in_order Idle code is sound = is
text_in_order Updating code is sound = is
text_in_order (Reading n) code is sound = is
text_in_order InDoubt code is sound = sound refl

-- ---- calls that ran

abbrev ran_if : Call → Says → Bool → Bool → List Ran
ran_if call answer b c = if b then (if c then record { call = call; says = answer } ∷ [] else []) else []

-- a statement whose answer says that it ran is the one call that ran
pub one_ran : (call : Call) (answer : Says) → is_statement call ≡ true → says_run answer ≡ true
    → ran_by (Some call) answer ≡ record { call = call; says = answer } ∷ []
one_ran call answer statement runs = ap (λ b. ran_if call answer b (says_run answer)) statement ∙ ap (ran_if call answer true) runs

next_one : (F : Forest) (ts : List Transaction) (t : Transaction) (call : Call) (answer : Says) → ts ≡ t ∷ []
    → ran (replied (Some call) answer) ≡ record { call = call; says = answer } ∷ []
    → answer ≡ says_of (stmt (serial F ts) call).says → IsNextReply F ts (replied (Some call) answer)
next_one F ts t call answer are runs so =
    subst (λ us. answer ≡ says_of (stmt (serial F us) call).says → IsNextReply F us (replied (Some call) answer)) (sym are)
    (λ it. (subst (AnsweredInTurn (run_calls F (ran_all t.replies))) (sym runs) (it, tt), tt)) so

abbrev state_by : Bool → BeginKind → State
state_by doubt kind = if doubt then InDoubt else state_in kind

reading_not_updating : (o : Option Transaction) (n : ℕ) → state_with o ≡ Reading n → updating o ≡ []
reading_not_updating None n is = refl
reading_not_updating (Some t) n is = by_parts t.in_doubt t.kind is
  where
    by_parts : (doubt : Bool) (kind : BeginKind) → state_by doubt kind ≡ Reading n → where_updating t kind ≡ []
    by_parts true kind e = cc
    by_parts false kinds.Updating e = cc
    by_parts false (kinds.Reading m) e = refl

-- ---- what the documents tell

said_one : (F : Forest) (call : Call) (answer : Says) → ran_by (Some call) answer ≡ record { call = call; says = answer } ∷ []
    → IsSaidOf F (ran_by (Some call) answer) → answer ≡ says_of (stmt F call).says
said_one F call answer runs said = (subst (IsSaidOf F) runs said).0

-- a call that ran is answered as on the documents that its session sees
pub told_by : (B : Base) (s : ℕ) (past : List Event) (x : State) (call : Call) (answer : Says) → state s past ≡ x → is_statement call ≡ true
    → is_told answer ≡ true
    → IsToldBy B s past (Some call) answer → answer ≡ says_of (stmt (forest_for B s past x) call).says
told_by B s past x call answer is statement told by =
    said_one (forest_for B s past x) call answer (one_ran call answer statement (told_runs answer told))
    (subst (λ y. IsSaidOf (forest_for B s past y) (ran_by (Some call) answer)) is by)

-- and nothing is told of one that did not run
pub nothing_told : (B : Base) (s : ℕ) (past : List Event) (call : Option Call) (answer : Says) → ran_by call answer ≡ [] → IsToldBy B s past call answer
nothing_told B s past call answer none = subst (IsSaidOf (forest_for B s past (state s past))) (sym none) tt

-- ---- right answers made

module _ (B : Base) (s : ℕ) (past : List Event) where
  -- an answer by the order of refusals to what did not run is right
  pub right_unrun : (call : Option Call) (answer : Says) → AnswersInOrder B.numbers s past call answer → ran_by call answer ≡ []
      → IsRightAnswer B s past call answer
  right_unrun call answer order none = record { in_order = order; by_documents = nothing_told B s past call answer none }

  -- want of memory is a right answer to any call
  pub right_lacking : (call : Option Call) → IsRightAnswer B s past call (says.Error codes.NoMemory)
  right_lacking call = right_unrun call (says.Error codes.NoMemory) lacks_memory (none_ran call (says.Error codes.NoMemory) refl)

  -- a statement that ran, on the documents of its session's state
  pub right_ran : (x : State) (call : Call) (answer : Says) → state s past ≡ x → IsTrue (is_statement call)
      → (is_told answer ≡ true → AnswersInOrder B.numbers s past (Some call) answer)
      → answer ≡ says_of (stmt (forest_for B s past x) call).says → IsRightAnswer B s past (Some call) answer
  right_ran x call answer is statement order so =
      let told : is_told answer ≡ true = ap is_told so ∙ stmt_told (forest_for B s past x) call in
      let runs = one_ran call answer statement (told_runs answer told) in record {
        in_order = order told;
        by_documents = subst (λ y. IsSaidOf (forest_for B s past y) (ran_by (Some call) answer)) (sym is)
            (subst (IsSaidOf (forest_for B s past x)) (sym runs) (so, tt));
      }

-- ---- each right answer

module _ (B : Base) (past : List Event) (s : ℕ) where
  unrun : (call : Option Call) (answer : Says) → ran_by call answer ≡ [] → (state s past ≡ Updating → MeetsNoConflict s call answer past)
      → RefusalsAt (Answered s (replied call answer)) past → SettlingOfAnswer B.numbers (state s past) call answer past
      → AreMarksOf (state s past) call answer past
      → Follows (Answered s (replied call answer)) past → IsStep B (Answered s (replied call answer)) past
  unrun call answer none meets refusals settling marks follows = record {
    in_order = in_order (Answered s (replied call answer)) past follows;
    locks = (no_locks (state s past) s (replied call answer) past none meets, follows.0);
    serial = tt;
    snapshots = nothing_seen B (state s past) (ran_by call answer) past none;
    unfinished = tt;
    refusals = refusals;
    settling = (settling, follows.1);
    marks = marks;
    next = nothing_next (newest B past) (updating (open_of s past)) (replied call answer) none;
  }

  abbrev Keeps : Option Call → Says → Type 0
  Keeps call answer = Follows (Answered s (replied call answer)) past → IsStep B (Answered s (replied call answer)) past

  lacking : (call : Option Call) → Keeps call (says.Error codes.NoMemory)
  lacking call follows = unrun call (says.Error codes.NoMemory) (none_ran call (says.Error codes.NoMemory) refl) (λ updating. no_memory_meets s call past)
      (inl refl) tt (tt, tt) follows

  refusing_text : (answer : Says) → RefusesText s answer past → Keeps None answer
  refusing_text answer is = subst (Keeps None) (sym is.says_so) (λ follows. unrun None (says.Error is.code) refl (λ updating. tt)
      (inr (text_in_order (state s past) is.code is.refusal is.not_in_doubt)) (plain_settles B (state s past) None is.code past (text_plain is.code is.refusal))
      (plain_marks (state s past) None is.code past (text_plain is.code is.refusal)) follows)

  refusing_call : (call : Call) (answer : Says) → RefusesCall s call answer past → Keeps (Some call) answer
  refusing_call call answer is =
      let by_state = refused_code (state s past) (work_of call) is.code is.refused in
      subst (Keeps (Some call)) (sym is.says_so)
      (λ follows. unrun (Some call) (says.Error is.code) (none_ran (Some call) (says.Error is.code) (ap not (state_unrun is.code by_state)))
      (λ updating passes other. none_asked s (needs call) past (refused_needs call is.code (ap (λ x. refused_in x (work_of call)) (sym updating) ∙ is.refused)))
      (inr (by_table (state s past) call is.code is.refused)) (plain_settles B (state s past) (Some call) is.code past (state_plain is.code by_state))
      (plain_marks (state s past) (Some call) is.code past (state_plain is.code by_state)) follows)

  checkpoint_order : (x : State) → x ≡ Idle → IsBehindSettling x (Some Checkpoint) says.Done
  checkpoint_order Idle is = refl
  checkpoint_order Updating is = cc
  checkpoint_order (Reading n) is = cc
  checkpoint_order InDoubt is = cc

  making_checkpoint : (call : Call) (answer : Says) → MakesCheckpoint s call answer past → Keeps (Some call) answer
  making_checkpoint call answer is = subst (λ c. Keeps (Some c) answer) (sym is.is) (subst (Keeps (Some Checkpoint)) (sym is.says_so)
      (λ follows. unrun (Some Checkpoint) says.Done refl (λ updating passes other. tt) (inr (checkpoint_order (state s past) is.idle)) is.settled
      (tt, tt) follows))

  commit_order : (x : State) → x ≡ Updating → IsBehindSettling x (Some Commit) (says.Error (codes.Spent spent.Commit last_number))
  commit_order Idle is = cc
  commit_order Updating is = refl
  commit_order (Reading n) is = cc
  commit_order InDoubt is = cc

  finding_no_number : (call : Call) (answer : Says) → FindsNoNumber B.numbers s call answer past → Keeps (Some call) answer
  finding_no_number call answer is = subst (λ c. Keeps (Some c) answer) (sym is.is) (subst (Keeps (Some Commit)) (sym is.says_so)
      (λ follows. unrun (Some Commit) (says.Error (codes.Spent spent.Commit last_number)) refl (λ updating passes other. tt)
      (inr (commit_order (state s past) is.updating))
      (subst (λ x. SettlingOfAnswer B.numbers x (Some Commit) (says.Error (codes.Spent spent.Commit last_number)) past) (sym is.updating)
      (refl, (refl, is.none_left))) (tt, tt) follows))

  -- what a call needs is free where its locks were granted
  meets_where_locked : AtEach LocksAt past → (call : Option Call) (answer : Says) → state s past ≡ Updating → HasItsLocks s call past
      → MeetsNoConflict s call answer past
  meets_where_locked locks None answer updating locked = tt
  meets_where_locked locks (Some call) answer updating locked =
      λ passes other. free_where_held past locks s (needs call) (held_where_granted past s (needs call) updating locked)

  running_updating : AtEach LocksAt past → (call : Call) (answer : Says) → RunsUpdating s call answer past → IsToldBy B s past (Some call) answer
      → Keeps (Some call) answer
  running_updating locks call answer is by follows =
      let runs = one_ran call answer is.statement (told_runs answer is.told) in
      let o = opened (open_of s past) is.updating in record {
        in_order = in_order (Answered s (replied (Some call) answer)) past follows;
        locks = (
          subst (λ x. IsAnsweredWithLocks x s (replied (Some call) answer) past) (sym is.updating) (
            subst (λ calls. RanGranted s calls past) (sym runs) (is.granted, tt),
            meets_where_locked locks (Some call) answer is.updating is.granted,
          ),
          follows.0,
        );
        serial = tt;
        snapshots = subst (λ x. AnsweredFrom B x (ran_by (Some call) answer) past) (sym is.updating) tt;
        unfinished = tt;
        refusals = inr (subst (λ x. IsBehindSettling x (Some call) answer) (sym is.updating)
            (passes_table call answer _ is.passes is.statement (told_answers answer is.told)));
        settling = (told_settles B (state s past) call answer past is.statement is.told, follows.1);
        marks = told_marks (state s past) (Some call) answer past is.told;
        next = next_one (newest B past) (updating (open_of s past)) o.transaction call answer (updating_is (open_of s past) o.transaction o.is o.kind_is) runs
            (told_by B s past Updating call answer is.updating is.statement is.told by);
      }

  running_reading : (call : Call) (answer : Says) → RunsReading s call answer past → IsToldBy B s past (Some call) answer → Keeps (Some call) answer
  running_reading call answer is by follows =
      let runs = one_ran call answer is.statement (told_runs answer is.told) in record {
        in_order = in_order (Answered s (replied (Some call) answer)) past follows;
        locks = (subst (λ x. IsAnsweredWithLocks x s (replied (Some call) answer) past) (sym is.reading) tt, follows.0);
        serial = tt;
        snapshots = subst (λ x. AnsweredFrom B x (ran_by (Some call) answer) past) (sym is.reading)
            (subst (AnsweredAt (after B past (is.number - B.numbers.commit))) (sym runs)
            (told_by B s past (Reading is.number) call answer is.reading is.statement is.told by, tt));
        unfinished = tt;
        refusals = inr (subst (λ x. IsBehindSettling x (Some call) answer) (sym is.reading)
            (passes_table call answer _ is.passes is.statement (told_answers answer is.told)));
        settling = (told_settles B (state s past) call answer past is.statement is.told, follows.1);
        marks = told_marks (state s past) (Some call) answer past is.told;
        next = subst (λ ts. IsNextReply (newest B past) ts (replied (Some call) answer)) (sym (reading_not_updating (open_of s past) is.number is.reading)) tt;
      }

  failing : AtEach LocksAt past → (call : Option Call) (answer : Says) → FailsOnDevice B.numbers s call answer past → Keeps call answer
  failing locks call answer is =
      subst (Keeps call) (sym is.says_so) (λ follows. unrun call (says.Error (codes.Failed is.mark)) (none_ran call (says.Error (codes.Failed is.mark)) refl)
      (λ updating. meets_where_locked locks call (says.Error (codes.Failed is.mark)) updating (is.locked updating)) (inl refl) is.settles
      (is.next, is.may) follows)

  page_order : (call : Call) → makes_pages call ≡ true → IsBehindSettling Updating (Some call) (says.Error (codes.Spent spent.Page last_number))
  page_order (Create name) is = refl
  page_order (Load name pyx_lines) is = refl
  page_order (Update what) is = refl
  page_order call is = absurd (true≢false (sym is))

  finding_no_page : AtEach LocksAt past → (call : Call) (answer : Says) → FindsNoPage s call answer past → Keeps (Some call) answer
  finding_no_page locks call answer is =
      subst (Keeps (Some call)) (sym is.says_so)
      (λ follows. unrun (Some call) (says.Error (codes.Spent spent.Page last_number))
      (none_ran (Some call) (says.Error (codes.Spent spent.Page last_number)) refl)
      (λ updating. meets_where_locked locks (Some call) (says.Error (codes.Spent spent.Page last_number)) updating is.granted)
      (inr (subst (λ x. IsBehindSettling x (Some call) (says.Error (codes.Spent spent.Page last_number))) (sym is.updating) (page_order call is.makes)))
      (subst (λ x. SettlingOfAnswer B.numbers x (Some call) (says.Error (codes.Spent spent.Page last_number)) past) (sym is.updating) (refl, is.makes))
      (tt, tt) follows)

  -- a right answer that tells of no damage, and that its session's last event lets follow, meets its own clauses
  pub right_step : AtEach LocksAt past → (call : Option Call) (answer : Says) → AnswersInOrder B.numbers s past call answer → IsToldBy B s past call answer
      → is_damaged answer ≡ false
      → Follows (Answered s (replied call answer)) past → IsStep B (Answered s (replied call answer)) past
  right_step locks call _ lacks_memory by sound follows = lacking call follows
  right_step locks _ answer (refuses_text is) by sound follows = refusing_text answer is follows
  right_step locks _ answer (refuses_call {call = call} is) by sound follows = refusing_call call answer is follows
  right_step locks _ answer (makes_checkpoint {call = call} is) by sound follows = making_checkpoint call answer is follows
  right_step locks _ answer (finds_no_number {call = call} is) by sound follows = finding_no_number call answer is follows
  right_step locks _ answer (runs_updating {call = call} is) by sound follows = running_updating locks call answer is by follows
  right_step locks _ answer (runs_reading {call = call} is) by sound follows = running_reading call answer is by follows
  right_step locks call answer (fails is) by sound follows = failing locks call answer is follows
  right_step locks _ answer (finds_no_page {call = call} is) by sound follows = finding_no_page locks call answer is follows
  right_step locks _ answer (finds_damage is) by sound follows = absurd (true≢false (sym is.damaged ∙ sound))

-- right answers keep a journal legal so far
pub answers_keep_legal : AnswersKeepLegal
answers_keep_legal B journal s reply so_far right sound follows =
    grows B journal (Answered s reply) so_far
    (right_step B (past_of journal) s so_far.locks reply.call reply.says right.in_order right.by_documents sound follows)
