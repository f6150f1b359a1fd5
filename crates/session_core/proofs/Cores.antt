-- A core with one event more: what its fields are, and that it keeps what its type keeps.
use Rattle.std.proofs.Common.{◌≡◌, ℕ, ◌+◌, ◌-◌, ◌≤◌, ◌<◌, Bool, true, false, List, [], ◌∷◌, ◌++◌, length, Option, None, Some, is_some, unwrap_or, IsTrue, refl, sym, ap, subst, ◌∙◌, arith, length-append}
use Rattle.std.specs.Prelude.{if◌then◌else◌}
use Rattle.std.specs.Ordering.{nat_cmp}
use Rattle.std.specs.Cmp.Lexicographic.{slice_cmp}
use Rattle.std.specs.FinMap as fin
use Rattle.xq_ast.specs.declared.code.Mark.{Mark}
use Rattle.xq_ast.specs.declared.need.Need.{Need}
use Rattle.xml_model.specs.Forest.{Forest, IsForest}
use Rattle.doc_locks.specs.Names.{Locks}
use Rattle.doc_locks.specs.Locks.{granted}
use Rattle.session_core.specs.declared.history.event.BeginKind.TheVariants as kinds
use Rattle.session_core.specs.declared.history.event.State.{State}
use Rattle.session_core.specs.declared.history.event.State.TheVariants.{Idle, Updating, Reading, InDoubt}
use Rattle.session_core.specs.declared.history.event.Reply.{Reply}
use Rattle.session_core.specs.declared.history.event.Event.{Event}
use Rattle.session_core.specs.declared.history.event.Event.TheVariants.{Began, Granted, Refused, Answered, Committed, Ended, RolledBack, Doubt, Settled, Left}
use Rattle.session_core.specs.History.{AtEach, past_of}
use Rattle.session_core.specs.History.Transactions.{Base, commit_count, newest_number, next_number}
use Rattle.session_core.specs.History.States.{state, state_with, is_open, is_reading, in_doubt}
use Rattle.session_core.specs.History.Locks.{IsGranted, IsRefused}
use Rattle.session_core.specs.History.Refusals.{RefusalsAt}
use Rattle.session_core.specs.History.Settling.{MaySettle, HasCommitLeft}
use Rattle.session_core.specs.History.Marks.{IsNextMark}
use Rattle.session_core.specs.History.Legal.{SoFar}
use Rattle.session_core.specs.Keeping.Table.{States, entry_of}
use Rattle.session_core.specs.Keeping.Kept.{Follows, forest_behind}
use Rattle.session_core.specs.Keeping.Ties.{holding, AllForests, DoubtIsForest, IsDoubt, DoubtIs, Ties, IsCore}
use Rattle.session_core.proofs.Growing.{past-more, grows, begins}
use Rattle.session_core.proofs.Tying.{opened as opened_by}
use Rattle.session_core.proofs.Stepping.{count_same, count_one, ties_began, ties_granted, ties_refused, ties_ended, ties_rolled_back, ties_left, ties_committed, ties_doubted, ties_settled_yes, ties_settled_no}
use Rattle.session_core.proofs.Adding.{all_more, step_began_update, step_began_read, step_granted, step_refused, step_committed, step_doubted, step_settled, step_ended, step_rolled_back, step_left, open_of_reading, ties_answered, core_more, len-begun, len-kept, len-gone, some_open, in_table}

module _ (B : Base) (journal : List Event) (capacity : ℕ) (states : States) (opened number : ℕ) (locks : Locks) (forests : List Forest)
    (doubt : Option (ℕ × Forest)) (core : IsCore B (holding journal capacity states opened number locks forests doubt)) where
  abbrev past : List Event
  past = past_of journal

  same_count : (e : Event) → commit_count (e ∷ past) ≡ commit_count past → number ≡ B.numbers.commit + commit_count (e ∷ past)
  same_count e same = core.number_is ∙ ap (λ n. B.numbers.commit + n) (sym same)

  no_entry : (t : ℕ) → state t past ≡ Idle → fin.get states t ≡ None
  no_entry t idle = core.ties.states_are t ∙ ap entry_of idle

  entry : (t : ℕ) → IsTrue (is_open (state t past)) → is_some (fin.get states t) ≡ true
  entry t is = ap is_some (core.ties.states_are t) ∙ in_table (state t past) is

  -- an open transaction is counted, and there is room for the event that ends it
  pub open_counted : (t : ℕ) → IsTrue (is_open (state t past)) → 1 ≤ opened
  open_counted t is = let some = some_open states t (entry t is) in let same = core.opened_is in omega arith

  -- where a transaction is open there is room for one event more
  pub open_room : (t : ℕ) → IsTrue (is_open (state t past)) → length journal < capacity
  open_room t is = let some = open_counted t is in let room = core.room in omega arith

  begun_count : (t : ℕ) (x : State) (states' : States) → state t past ≡ Idle → states' ≡ fin.insert states t x → opened + 1 ≡ fin.len states'
  begun_count t x states' idle is = ap (λ n. n + 1) core.opened_is ∙ sym (len-begun states t x (no_entry t idle)) ∙ ap fin.len (sym is)

  gone_count : (t : ℕ) (states' : States) → is_some (fin.get states t) ≡ true → states' ≡ fin.remove states t → opened - 1 ≡ fin.len states'
  gone_count t states' some is = ap (λ n. n - 1) core.opened_is ∙ sym (len-gone states t some) ∙ ap fin.len (sym is)

  one_longer : (e : Event) (journal' : List Event) → journal' ≡ journal ++ e ∷ [] → length journal' ≡ length journal + 1
  one_longer e journal' more = ap length more ∙ length-append journal (e ∷ [])

  gone_room : (e : Event) (journal' : List Event) (capacity' : ℕ) → journal' ≡ journal ++ e ∷ [] → capacity' ≡ capacity → 1 ≤ opened
      → length journal' + (opened - 1) ≤ capacity'
  gone_room e journal' capacity' more same some = let longer = one_longer e journal' more in let room = core.room in omega arith

  updating_open : (t : ℕ) → state t past ≡ Updating → IsTrue (is_open (state t past))
  updating_open t is = ap is_open is

  -- a core stays one where an idle session begins an updating transaction: its event, its state and the count follow
  pub core_began_update : (t : ℕ) → state t past ≡ Idle → Follows (Began t kinds.Updating) past → (journal' : List Event) (capacity' : ℕ) (states' : States)
      → journal' ≡ journal ++ Began t kinds.Updating ∷ [] → states' ≡ fin.insert states t Updating → length journal' + (opened + 1) ≤ capacity'
      → IsCore B (holding journal' capacity' states' (opened + 1) number locks forests doubt)
  core_began_update t idle follows journal' capacity' states' more set room =
      core_more B journal journal' (Began t kinds.Updating) capacity' states' (opened + 1) number locks forests doubt more
      (grows B journal (Began t kinds.Updating) core.legal (step_began_update B past t idle follows))
      (subst (λ m. Ties B (Began t kinds.Updating ∷ past) m locks forests doubt) (sym set)
      (ties_began B past states locks forests doubt core.ties t kinds.Updating idle))
      (begun_count t Updating states' idle set) room
      (same_count (Began t kinds.Updating) (count_same (Began t kinds.Updating) past refl)) core.valid core.doubt_valid

  -- a core stays one where an idle session begins to read at the newest commit
  pub core_began_read : (t : ℕ) → state t past ≡ Idle → Follows (Began t (kinds.Reading (newest_number B.numbers past))) past
      → (journal' : List Event) (capacity' : ℕ) (states' : States)
      → journal' ≡ journal ++ Began t (kinds.Reading number) ∷ [] → states' ≡ fin.insert states t (Reading number) → length journal' + (opened + 1) ≤ capacity'
      → IsCore B (holding journal' capacity' states' (opened + 1) number locks forests doubt)
  core_began_read t idle follows journal' capacity' states' more set room =
      core_more B journal journal' (Began t (kinds.Reading number)) capacity' states' (opened + 1) number locks forests doubt more
      (grows B journal (Began t (kinds.Reading number)) core.legal
      (step_began_read B past t number idle core.number_is (subst (λ n. Follows (Began t (kinds.Reading n)) past) (sym core.number_is) follows)))
      (subst (λ m. Ties B (Began t (kinds.Reading number) ∷ past) m locks forests doubt) (sym set)
      (ties_began B past states locks forests doubt core.ties t (kinds.Reading number) idle))
      (begun_count t (Reading number) states' idle set) room
      (same_count (Began t (kinds.Reading number)) (count_same (Began t (kinds.Reading number)) past refl)) core.valid core.doubt_valid

  -- the table and the locks behind the end of a transaction
  both_gone : (e : Event) (t : ℕ) (states' : States) (locks' : Locks) → states' ≡ fin.remove states t → locks' ≡ fin.remove locks t
      → (fs : List Forest) (d : Option (ℕ × Forest)) → Ties B (e ∷ past) (fin.remove states t) (fin.remove locks t) fs d → Ties B (e ∷ past) states' locks' fs d
  both_gone e t states' locks' out released fs d ties =
      subst (λ m. Ties B (e ∷ past) m locks' fs d) (sym out) (subst (λ l. Ties B (e ∷ past) (fin.remove states t) l fs d) (sym released) ties)

  -- a core stays one where a read-only transaction ends: its state and its locks go
  pub core_ended : (t : ℕ) → IsTrue (is_reading (state t past)) → Follows (Ended t) past
      → (journal' : List Event) (capacity' : ℕ) (states' : States) (locks' : Locks)
      → journal' ≡ journal ++ Ended t ∷ [] → capacity' ≡ capacity → states' ≡ fin.remove states t → locks' ≡ fin.remove locks t
      → IsCore B (holding journal' capacity' states' (opened - 1) number locks' forests doubt)
  core_ended t reading follows journal' capacity' states' locks' more same out released = let is = open_of_reading (state t past) reading in
      core_more B journal journal' (Ended t) capacity' states' (opened - 1) number locks' forests doubt more
      (grows B journal (Ended t) core.legal (step_ended B past t reading follows))
      (both_gone (Ended t) t states' locks' out released forests doubt (ties_ended B past states locks forests doubt core.ties t is))
      (gone_count t states' (entry t is) out) (gone_room (Ended t) journal' capacity' more same (open_counted t is))
      (same_count (Ended t) (count_same (Ended t) past refl)) core.valid core.doubt_valid

  -- a core stays one where an open transaction is rolled back: its state and its locks go
  pub core_rolled_back : (t : ℕ) → IsTrue (is_open (state t past)) → Follows (RolledBack t) past
      → (journal' : List Event) (capacity' : ℕ) (states' : States) (locks' : Locks)
      → journal' ≡ journal ++ RolledBack t ∷ [] → capacity' ≡ capacity → states' ≡ fin.remove states t → locks' ≡ fin.remove locks t
      → IsCore B (holding journal' capacity' states' (opened - 1) number locks' forests doubt)
  core_rolled_back t is follows journal' capacity' states' locks' more same out released =
      core_more B journal journal' (RolledBack t) capacity' states' (opened - 1) number locks' forests doubt more
      (grows B journal (RolledBack t) core.legal (step_rolled_back B past t is (core.legal.unfinished.at_end t) follows))
      (both_gone (RolledBack t) t states' locks' out released forests doubt (ties_rolled_back B past states locks forests doubt core.ties t is))
      (gone_count t states' (entry t is) out) (gone_room (RolledBack t) journal' capacity' more same (open_counted t is))
      (same_count (RolledBack t) (count_same (RolledBack t) past refl)) core.valid core.doubt_valid

  -- a core stays one where a session with an open transaction leaves: its state and its locks go
  pub core_left : (t : ℕ) → IsTrue (is_open (state t past)) → Follows (Left t) past
      → (journal' : List Event) (capacity' : ℕ) (states' : States) (locks' : Locks)
      → journal' ≡ journal ++ Left t ∷ [] → capacity' ≡ capacity → states' ≡ fin.remove states t → locks' ≡ fin.remove locks t
      → IsCore B (holding journal' capacity' states' (opened - 1) number locks' forests doubt)
  core_left t is follows journal' capacity' states' locks' more same out released =
      core_more B journal journal' (Left t) capacity' states' (opened - 1) number locks' forests doubt more
      (grows B journal (Left t) core.legal (step_left B past t is (core.legal.unfinished.at_end t) follows))
      (both_gone (Left t) t states' locks' out released forests doubt (ties_left B past states locks forests doubt core.ties t is))
      (gone_count t states' (entry t is) out) (gone_room (Left t) journal' capacity' more same (open_counted t is))
      (same_count (Left t) (count_same (Left t) past refl)) core.valid core.doubt_valid

  -- a core stays one where free locks are granted: they come to those of the session
  pub core_granted : (t : ℕ) (asked : List Need) → IsGranted t asked past → Follows (Granted t asked) past
      → (journal' : List Event) (capacity' : ℕ) (locks' : Locks)
      → journal' ≡ journal ++ Granted t asked ∷ [] → locks' ≡ granted locks t asked → length journal' + opened ≤ capacity'
      → IsCore B (holding journal' capacity' states opened number locks' forests doubt)
  core_granted t asked is follows journal' capacity' locks' more given room =
      core_more B journal journal' (Granted t asked) capacity' states opened number locks' forests doubt more
      (grows B journal (Granted t asked) core.legal (step_granted B past t asked is follows))
      (subst (λ l. Ties B (Granted t asked ∷ past) states l forests doubt) (sym given)
      (ties_granted B past states locks forests doubt core.ties t asked is.updating))
      core.opened_is room (same_count (Granted t asked) (count_same (Granted t asked) past refl)) core.valid core.doubt_valid

  -- a core stays one where locks are refused: the event comes, and all else is as it was
  pub core_refused : (t : ℕ) (name : List ℕ) (holder : ℕ) (asked : List Need) → IsRefused t name holder asked past → Follows (Refused t name holder asked) past
      → (journal' : List Event) (capacity' : ℕ) (locks' : Locks)
      → journal' ≡ journal ++ Refused t name holder asked ∷ [] → locks' ≡ locks → length journal' + opened ≤ capacity'
      → IsCore B (holding journal' capacity' states opened number locks' forests doubt)
  core_refused t name holder asked is follows journal' capacity' locks' more same room =
      core_more B journal journal' (Refused t name holder asked) capacity' states opened number locks' forests doubt more
      (grows B journal (Refused t name holder asked) core.legal (step_refused B past t name holder asked is follows))
      (subst (λ l. Ties B (Refused t name holder asked ∷ past) states l forests doubt) (sym same)
      (ties_refused B past states locks forests doubt core.ties t name holder asked is.updating))
      core.opened_is room (same_count (Refused t name holder asked) (count_same (Refused t name holder asked) past refl)) core.valid core.doubt_valid

  -- a core stays one with an answer that keeps the journal legal
  pub core_answered : (t : ℕ) (r : Reply) → SoFar B (journal ++ Answered t r ∷ []) → (journal' : List Event) (capacity' : ℕ)
      → journal' ≡ journal ++ Answered t r ∷ [] → length journal' + opened ≤ capacity'
      → IsCore B (holding journal' capacity' states opened number locks forests doubt)
  core_answered t r legal journal' capacity' more room =
      let refusals = subst (AtEach RefusalsAt) (past-more journal (Answered t r)) legal.refusals in
      core_more B journal journal' (Answered t r) capacity' states opened number locks forests doubt more legal
      (ties_answered B past t r refusals.0 states locks forests doubt core.ties)
      core.opened_is room (same_count (Answered t r) (count_same (Answered t r) past refl)) core.valid core.doubt_valid

  none_in_doubt : (d : Option (ℕ × Forest)) → DoubtIs B past d → in_doubt past ≡ None → d ≡ None
  none_in_doubt None is none = refl
  none_in_doubt (Some d) is none = let e : ◌≡◌ {A = Option ℕ} (Some d.0) None = sym is.in_doubt_is ∙ none in cc

  next_is : number + 1 ≡ next_number B.numbers past
  next_is = let is = core.number_is in omega arith

  more_number : (e : Event) → commit_count (e ∷ past) ≡ commit_count past + 1 → number + 1 ≡ B.numbers.commit + commit_count (e ∷ past)
  more_number e more = let is = core.number_is in omega arith

  -- a core stays one where an updating transaction commits: its forest comes and the number rises,
  -- if nothing is in doubt, a number is left and the forest is valid and the one after the transaction
  pub core_committed : (t : ℕ) (F : Forest) → IsForest F → state t past ≡ Updating → in_doubt past ≡ None → HasCommitLeft B.numbers past
      → F ≡ forest_behind B t past → Follows (Committed t (next_number B.numbers past)) past
      → (journal' : List Event) (capacity' : ℕ) (states' : States) (locks' : Locks) (forests' : List Forest)
      → journal' ≡ journal ++ Committed t (number + 1) ∷ [] → capacity' ≡ capacity → states' ≡ fin.remove states t → locks' ≡ fin.remove locks t
      → forests' ≡ forests ++ F ∷ []
      → IsCore B (holding journal' capacity' states' (opened - 1) (number + 1) locks' forests' doubt)
  core_committed t F valid updating settled left is follows journal' capacity' states' locks' forests' more same out released kept =
      let n = number + 1 in let e = Committed t n in let o = opened_by _ updating in let none = none_in_doubt doubt core.ties.doubt_is settled in
      core_more B journal journal' e capacity' states' (opened - 1) n locks' forests' doubt more
      (grows B journal e core.legal
      (step_committed B past t n updating settled left next_is (core.legal.unfinished.at_end t)
      (subst (λ m. Follows (Committed t m) past) (sym next_is) follows)))
      (subst (λ d. Ties B (e ∷ past) states' locks' forests' d) (sym none) (subst (λ fs. Ties B (e ∷ past) states' locks' fs None) (sym kept)
      (both_gone e t states' locks' out released (forests ++ F ∷ []) None
      (ties_committed B past states locks forests doubt core.ties t n F updating settled none is))))
      (gone_count t states' (entry t (updating_open t updating)) out) (gone_room e journal' capacity' more same (open_counted t (updating_open t updating)))
      (more_number e (count_one B past states locks forests doubt core.ties e t o.transaction refl o.is o.kind_is))
      (subst AllForests (sym kept) (all_more forests F core.valid valid)) core.doubt_valid

  -- a core stays one where the commit of an updating transaction comes into doubt: its forest is kept apart,
  -- if nothing was in doubt, a number is left and the forest is valid and the one after the transaction
  pub core_doubted : (t : ℕ) (F : Forest) (mark : Mark) → IsForest F → state t past ≡ Updating → in_doubt past ≡ None → HasCommitLeft B.numbers past
      → F ≡ forest_behind B t past → IsNextMark past mark → Follows (Doubt t (next_number B.numbers past) mark) past
      → (journal' : List Event) (capacity' : ℕ) (states' : States)
      → journal' ≡ journal ++ Doubt t (number + 1) mark ∷ [] → states' ≡ fin.insert states t InDoubt → length journal' + opened ≤ capacity'
      → IsCore B (holding journal' capacity' states' opened number locks forests (Some (t, F)))
  core_doubted t F mark valid updating settled left is next_mark follows journal' capacity' states' more set room =
      let n = number + 1 in let e = Doubt t n mark in
      core_more B journal journal' e capacity' states' opened number locks forests (Some (t, F)) more
      (grows B journal e core.legal
      (step_doubted B past t n mark updating settled left next_is next_mark (subst (λ m. Follows (Doubt t m mark) past) (sym next_is) follows)))
      (subst (λ m. Ties B (e ∷ past) m locks forests (Some (t, F))) (sym set)
      (ties_doubted B past states locks forests doubt core.ties t n mark F updating left is))
      (core.opened_is ∙ sym (len-kept states t InDoubt (entry t (updating_open t updating))) ∙ ap fin.len (sym set)) room
      (same_count e (count_same e past refl)) core.valid valid

  -- a session in doubt is in the table
  pub doubt_state : (s : ℕ) (F : Forest) → IsDoubt B past s F → state s past ≡ InDoubt
  doubt_state s F is = ap state_with is.open_is ∙ ap (λ b. state_with (Some (record is.transaction { in_doubt = b }))) is.marked

  -- the session whose commit is in doubt stands in the table
  pub doubt_entry : (s : ℕ) (F : Forest) → IsDoubt B past s F → is_some (fin.get states s) ≡ true
  doubt_entry s F is = ap is_some (core.ties.states_are s ∙ ap entry_of (doubt_state s F is))

  -- the transaction whose commit is in doubt is counted as an open one
  pub doubt_counted : (s : ℕ) (F : Forest) → IsDoubt B past s F → 1 ≤ opened
  doubt_counted s F is = let some = some_open states s (doubt_entry s F is) in let same = core.opened_is in omega arith

  -- where a commit is in doubt there is room for the event that settles it
  pub doubt_room : (s : ℕ) (F : Forest) → IsDoubt B past s F → length journal < capacity
  doubt_room s F is = let some = doubt_counted s F is in let room = core.room in omega arith

  -- a core stays one where the commit in doubt is settled with yes: its forest comes and the number rises
  pub core_settled_yes : (by s : ℕ) (F : Forest) → IsForest F → IsDoubt B past s F → MaySettle by s (state by past) → Follows (Settled by s true) past
      → (journal' : List Event) (capacity' : ℕ) (states' : States) (locks' : Locks) (forests' : List Forest)
      → journal' ≡ journal ++ Settled by s true ∷ [] → capacity' ≡ capacity → states' ≡ fin.remove states s → locks' ≡ fin.remove locks s
      → forests' ≡ forests ++ F ∷ []
      → IsCore B (holding journal' capacity' states' (opened - 1) (number + 1) locks' forests' None)
  core_settled_yes by s F valid is may follows journal' capacity' states' locks' forests' more same out released kept =
      let e = Settled by s true in
      core_more B journal journal' e capacity' states' (opened - 1) (number + 1) locks' forests' None more
      (grows B journal e core.legal (step_settled B past by s true (doubt_state s F is) may (core.legal.unfinished.at_end s) follows))
      (subst (λ fs. Ties B (e ∷ past) states' locks' fs None) (sym kept)
      (both_gone e s states' locks' out released (forests ++ F ∷ []) None (ties_settled_yes B past states locks forests doubt core.ties by s F is)))
      (gone_count s states' (doubt_entry s F is) out) (gone_room e journal' capacity' more same (doubt_counted s F is))
      (more_number e (count_one B past states locks forests doubt core.ties e s is.transaction refl is.open_is is.kind_is))
      (subst AllForests (sym kept) (all_more forests F core.valid valid)) tt

  -- a core stays one where the commit in doubt is settled with no: the forests and the number are as they were
  pub core_settled_no : (by s : ℕ) (F : Forest) → IsForest F → IsDoubt B past s F → MaySettle by s (state by past) → Follows (Settled by s false) past
      → (journal' : List Event) (capacity' : ℕ) (states' : States) (locks' : Locks)
      → journal' ≡ journal ++ Settled by s false ∷ [] → capacity' ≡ capacity → states' ≡ fin.remove states s → locks' ≡ fin.remove locks s
      → IsCore B (holding journal' capacity' states' (opened - 1) number locks' forests None)
  core_settled_no by s F valid is may follows journal' capacity' states' locks' more same out released =
      let e = Settled by s false in
      core_more B journal journal' e capacity' states' (opened - 1) number locks' forests None more
      (grows B journal e core.legal (step_settled B past by s false (doubt_state s F is) may (core.legal.unfinished.at_end s) follows))
      (both_gone e s states' locks' out released forests None (ties_settled_no B past states locks forests doubt core.ties by s F is))
      (gone_count s states' (doubt_entry s F is) out) (gone_room e journal' capacity' more same (doubt_counted s F is))
      (same_count e (count_same e past refl)) core.valid tt

  settled_by : (by s : ℕ) (stands : Bool) (F : Forest) → IsForest F → IsDoubt B past s F → MaySettle by s (state by past) → Follows (Settled by s stands) past
      → (journal' : List Event) (capacity' : ℕ) (states' : States) (number' : ℕ) (locks' : Locks) (forests' : List Forest)
      → journal' ≡ journal ++ Settled by s stands ∷ [] → capacity' ≡ capacity → states' ≡ fin.remove states s → locks' ≡ fin.remove locks s
      → forests' ≡ (if stands then forests ++ F ∷ [] else forests) → number' ≡ (if stands then number + 1 else number)
      → IsCore B (holding journal' capacity' states' (opened - 1) number' locks' forests' None)
  settled_by by s true F valid is may follows journal' capacity' states' number' locks' forests' more same out released kept count =
      subst (λ n. IsCore B (holding journal' capacity' states' (opened - 1) n locks' forests' None)) (sym count)
      (core_settled_yes by s F valid is may follows journal' capacity' states' locks' forests' more same out released kept)
  settled_by by s false F valid is may follows journal' capacity' states' number' locks' forests' more same out released kept count =
      subst (λ n. IsCore B (holding journal' capacity' states' (opened - 1) n locks' forests' None)) (sym count)
      (subst (λ fs. IsCore B (holding journal' capacity' states' (opened - 1) number locks' fs None)) (sym kept)
      (core_settled_no by s F valid is may follows journal' capacity' states' locks' more same out released))

  -- a core stays one where the commit in doubt is settled, with yes or no
  pub core_settled : (by s : ℕ) (stands : Bool) (F : Forest) → IsForest F → IsDoubt B past s F → MaySettle by s (state by past)
      → Follows (Settled by s stands) past
      → (journal' : List Event) (capacity' : ℕ) (states' : States) (number' : ℕ) (locks' : Locks) (forests' : List Forest) (doubt' : Option (ℕ × Forest))
      → journal' ≡ journal ++ Settled by s stands ∷ [] → capacity' ≡ capacity → states' ≡ fin.remove states s → locks' ≡ fin.remove locks s
      → forests' ≡ (if stands then forests ++ F ∷ [] else forests) → number' ≡ (if stands then number + 1 else number) → doubt' ≡ None
      → IsCore B (holding journal' capacity' states' (opened - 1) number' locks' forests' doubt')
  core_settled by s stands F valid is may follows journal' capacity' states' number' locks' forests' doubt' more same out released kept count none =
      subst (λ d. IsCore B (holding journal' capacity' states' (opened - 1) number' locks' forests' d)) (sym none)
      (settled_by by s stands F valid is may follows journal' capacity' states' number' locks' forests' more same out released kept count)

-- a core without events
pub core_new : (B : Base) (capacity : ℕ) (forests : List Forest) (journal : List Event) (states : States) (locks : Locks) → journal ≡ [] → states ≡ fin.empty
    → locks ≡ fin.empty → forests ≡ B.forest ∷ [] → IsForest B.forest → IsCore B (holding journal capacity states 0 B.numbers.commit locks forests None)
core_new B capacity forests journal states locks none empty free is valid = record {
  legal = subst (SoFar B) (sym none) (begins B);
  ties = subst (λ l. Ties B (past_of l) states locks forests None) (sym none) (record {
    states_are = λ s. ap (λ m. fin.get m s) empty ∙ fin.get-empty nat_cmp s;
    locks_are = λ s name. ap (λ o. fin.get (unwrap_or o fin.empty) name) (ap (λ m. fin.get m s) free ∙ fin.get-empty nat_cmp s)
        ∙ fin.get-empty (slice_cmp nat_cmp) name;
    forests_are = is;
    doubt_is = refl;
  });
  opened_is = sym (ap fin.len empty ∙ fin.len-empty nat_cmp State);
  room = subst (λ (l : List Event). length l + 0 ≤ capacity) (sym none) (omega arith);
  number_is = subst (λ l. B.numbers.commit ≡ B.numbers.commit + commit_count (past_of l)) (sym none) (omega arith);
  valid = subst AllForests (sym is) (valid, tt);
  doubt_valid = tt;
}
