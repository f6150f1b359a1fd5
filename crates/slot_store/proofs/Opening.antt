-- What a step on an image leaves of what it opens to.
use Rattle.std.proofs.Common.{◌≡◌, inl, ⊎_elim, ℕ, ◌<◌, ◌≤◌, List, [], ◌∷◌, ◌++◌, length, map, get_or, true, false, ◌==◌, Option, Some, None, refl, sym, ap, ◌∙◌, subst, arith, append_assoc}
use Rattle.std.specs.Prelude.{IfSome, IfNone}
use Rattle.std.specs.List.{list_any, AllByRecursion, flat_map}
use Rattle.std.specs.FinMap as finite
use Rattle.std.proofs.lemmas.Bool.{or_from, or_left, or_right, or_cases, cases_eq, ne_eqb, eq-eqb, eqb-true, both_ways}
use Rattle.page_bytes.specs.Known.{PageMap}
use Rattle.page_device.specs.declared.device.Which.TheVariants.{Slots}
use Rattle.page_device.specs.Image.{Image, bytes_of, SameOthers}
use Rattle.redo_log.specs.declared.change.LogName.{LogName}
use Rattle.redo_log.specs.declared.store.Store.{Store}
use Rattle.redo_log.specs.Record.{number}
use Rattle.redo_log.specs.Store.{after_names, after_name}
use Rattle.slot_store.specs.declared.table.Row.{Row}
use Rattle.slot_store.specs.declared.state.Log.{Log}
use Rattle.slot_store.specs.declared.state.Log.TheVariants.{A, B}
use Rattle.slot_store.specs.declared.state.SlotState.{SlotState}
use Rattle.slot_store.specs.declared.planning.Placed.{Placed}
use Rattle.slot_store.specs.Slots.{slot_in, IsInside}
use Rattle.slot_store.specs.Logs.{file_of, other_log, other_file}
use Rattle.slot_store.specs.Head.{Head, magic, document_bytes, row_bytes, head_bytes, names_with, with_rows}
use Rattle.slot_store.specs.Opens.{Opened, OpensBy, Yields, IsShut, store_of_head, pages_after_all}
use Rattle.slot_store.specs.Planned.{is_in_table, IsPlaced, IsPlacedIn, written_slots, slot_if, row_of, image_in, with_placed}
use Rattle.slot_store.specs.Steps.{SlotsWritten, GateMoved, BehindGate, HasGate}
use Rattle.slot_store.specs.Checkpoint.{IsAt}

-- what holds of each, where one thing follows from another
pub all_so : {X : Type 0} (P Q : X → Type 0) → ((x : X) → P x → Q x) → (xs : List X) → AllByRecursion P xs → AllByRecursion Q xs
all_so P Q f [] all = tt
all_so P Q f (x ∷ xs) all = (f x all.0, all_so P Q f xs all.1)

-- the same of two things
pub all_both : {X : Type 0} (P Q R : X → Type 0) → ((x : X) → P x → Q x → R x) → (xs : List X) → AllByRecursion P xs → AllByRecursion Q xs
    → AllByRecursion R xs
all_both P Q R f [] all more = tt
all_both P Q R f (x ∷ xs) all more = (f x all.0 more.0, all_both P Q R f xs all.1 more.1)

-- the counting log is as it was where the slot file changes
pub same_log : (log : Log) (a b : Image) → SameOthers Slots a b → bytes_of b (file_of log) ≡ bytes_of a (file_of log)
same_log A a b same = ap (λ (z : Image). z.log_a) same
same_log B a b same = ap (λ (z : Image). z.log_b) same

-- and where the other log changes
pub same_log_beside : (log : Log) (a b : Image) → SameOthers (other_file log) a b → bytes_of b (file_of log) ≡ bytes_of a (file_of log)
same_log_beside A a b same = ap (λ (z : Image). z.log_a) same
same_log_beside B a b same = ap (λ (z : Image). z.log_b) same

-- the slot file is as it was where a log changes
pub same_slots : (log : Log) (a b : Image) → SameOthers (file_of log) a b → b.slots ≡ a.slots
same_slots A a b same = ap (λ (z : Image). z.slots) same
same_slots B a b same = ap (λ (z : Image). z.slots) same

-- the other log of the other log
pub other_twice : (log : Log) → other_file (other_log log) ≡ file_of log
other_twice A = refl
other_twice B = refl

-- the pages of rows whose slots have the same bytes
pub same_rows : (a b : List ℕ) (rows : List Row) → AllByRecursion (λ (r : Row). slot_in b r.slot ≡ slot_in a r.slot) rows → (pages : PageMap)
    → with_rows b rows pages ≡ with_rows a rows pages
same_rows a b [] all pages = refl
same_rows a b (r ∷ rs) all pages =
    ap (λ (page : List ℕ). with_rows b rs (finite.insert pages r.id page)) all.0 ∙ same_rows a b rs all.1 (finite.insert pages r.id (slot_in a r.slot))

-- what opens stays so where the counting log, the slots of its head and the other log's place behind it stay
pub opens_on : (log : Log) (head : Head) (o : Opened) (a b : Image) → bytes_of b (file_of log) ≡ bytes_of a (file_of log)
    → Yields head.generation (bytes_of b (other_file log)) → length a.slots ≤ length b.slots
    → AllByRecursion (λ (r : Row). slot_in b.slots r.slot ≡ slot_in a.slots r.slot) head.rows → OpensBy log head o a → OpensBy log head o b
opens_on log head o a b same yields longer slots was = record {
  rest = was.rest;
  is = same ∙ was.is;
  right = was.right;
  inside = all_so (λ (r : Row). IsInside a.slots r.slot) (λ (r : Row). IsInside b.slots r.slot)
      (λ r inside. omega (arith, inside, longer)) head.rows was.inside;
  other = yields;
  changes = was.changes;
  end = was.end;
  records = was.records;
  commit = was.commit;
  names = was.names;
  pages = was.pages
      ∙ ap (pages_after_all was.changes (store_of_head head)) (sym (same_rows a.slots b.slots head.rows slots finite.empty));
}

-- each row of a table is in it
pub in_table : (rows : List Row) → AllByRecursion (λ (r : Row). is_in_table rows r.slot ≡ true) rows
in_table [] = tt
in_table (r ∷ rs) = (
  or_left (r.slot == r.slot) (is_in_table rs r.slot) (eq-eqb r.slot r.slot refl),
  all_so (λ (x : Row). is_in_table rs x.slot ≡ true) (λ (x : Row). is_in_table (r ∷ rs) x.slot ≡ true)
      (λ x is. or_right (r.slot == x.slot) (is_in_table rs x.slot) is) rs (in_table rs),
)

-- a slot of a table whose slots all are so is so
pub of_table : (P : ℕ → Type 0) (rows : List Row) (s : ℕ) → AllByRecursion (λ (r : Row). P r.slot) rows → is_in_table rows s ≡ true → P s
of_table P [] s all is = absurd (cc is)
of_table P (r ∷ rs) s all is =
    ⊎_elim (λ here. subst P (eqb-true r.slot s here) all.0) (λ later. of_table P rs s all.1 later) (or_cases (r.slot == s) (is_in_table rs s) is)

-- what is written goes to no slot of the table
pub unwritten : (table : List Row) (s : ℕ) → is_in_table table s ≡ true → (placed : List Placed) → AllByRecursion (IsPlacedIn table) placed
    → list_any (λ t. t == s) (written_slots placed) ≡ false
unwritten table s is [] all = refl
unwritten table s is (p ∷ ps) all = one p.slot p.page (written_slots ps) all.0 (unwritten table s is ps all.1)
  where
    one : (slot : ℕ) (page : Option (List ℕ)) (ss : List ℕ) → IsPlaced table slot page → list_any (λ t. t == s) ss ≡ false
        → list_any (λ t. t == s) (slot_if slot page ss) ≡ false
    one slot None ss is_placed none = none
    one slot (Some page) ss is_placed none =
        or_from (slot == s) (list_any (λ t. t == s) ss)
        (ne_eqb slot s (λ same. both_ways (is_in_table table s) (subst (λ (t : ℕ). is_in_table table t ≡ false) same is_placed.0) is)) none

-- the state's head counts still where free slots are written
module _ (state : SlotState) (placed : List Placed) (ok : AllByRecursion (IsPlacedIn state.table) placed) (o : Opened) where
  pub at_slots : (a b : Image) → SlotsWritten (written_slots placed) a b → IsAt state o a → IsAt state o b
  at_slots a b step was = record {
    head = was.head;
    generation = was.generation;
    rows = was.rows;
    opens = opens_on state.log was.head o a b (same_log state.log a b step.others)
        (subst (Yields was.head.generation) (sym (same_log (other_log state.log) a b step.others)) was.opens.other) step.slots.longer
        (all_both (λ (r : Row). is_in_table state.table r.slot ≡ true) (λ (r : Row). IsInside a.slots r.slot)
        (λ (r : Row). slot_in b.slots r.slot ≡ slot_in a.slots r.slot)
        (λ r is inside. step.slots.stand r.slot (unwritten state.table r.slot is placed ok) inside) was.head.rows
        (subst (λ (rs : List Row). AllByRecursion (λ (r : Row). is_in_table state.table r.slot ≡ true) rs) (sym was.rows) (in_table state.table))
        was.opens.inside) was.opens;
    gate = subst (λ (b : List ℕ). 0 < length b) (sym (same_log (other_log state.log) a b step.others)) was.gate;
  }

-- a log whose first byte is not 1 is no candidate
pub is_shut : (g : ℕ) (rest bytes : List ℕ) → bytes ≡ g ∷ rest → (g ≡ 1 → ⊥) → IsShut bytes
is_shut g rest bytes is shut more one = shut (ap (λ (l : List ℕ). get_or l 0 0) (sym is ∙ one))

-- the state's head counts still where the other log changes and its first byte is not 1, or only its first byte changes
module _ (state : SlotState) (o : Opened) where
  at_beside : (a b : Image) → SameOthers (other_file state.log) a b → ((generation : ℕ) → Yields generation (bytes_of a (other_file state.log))
      → Yields generation (bytes_of b (other_file state.log))) → HasGate (other_file state.log) b → IsAt state o a → IsAt state o b
  at_beside a b same yields gate was = record {
    head = was.head;
    generation = was.generation;
    rows = was.rows;
    opens = let slots = same_slots (other_log state.log) a b same in
        opens_on state.log was.head o a b (same_log_beside state.log a b same) (yields was.head.generation was.opens.other) (omega (arith, ap length slots))
        (all_so (λ (r : Row). IsInside a.slots r.slot) (λ (r : Row). slot_in b.slots r.slot ≡ slot_in a.slots r.slot)
        (λ r inside. ap (λ (l : List ℕ). slot_in l r.slot) slots) was.head.rows was.opens.inside) was.opens;
    gate = gate;
  }

  pub at_gate : (a b : Image) → GateMoved (other_file state.log) a b → IsAt state o a → IsAt state o b
  at_gate a b step was = at_beside a b step.others yields (omega (arith, ap length step.is)) was
    where
      yields : (generation : ℕ) → Yields generation (bytes_of a (other_file state.log)) → Yields generation (bytes_of b (other_file state.log))
      yields generation y = ⊎_elim
          (λ one. subst (Yields generation)
          (step.was_so ∙ (ap (λ (g : ℕ). g ∷ step.rest) (step.shut one ∙ sym one) ∙ sym step.is)) y)
          (λ other. inl (is_shut step.after step.rest (bytes_of b (other_file state.log)) step.is other)) (cases_eq step.after 1)

  pub at_behind : (a b : Image) (g : ℕ) (rest : List ℕ) → bytes_of a (other_file state.log) ≡ g ∷ rest → (g ≡ 1 → ⊥) → BehindGate (other_file state.log) a b
      → IsAt state o a → IsAt state o b
  at_behind a b g rest is shut step was = let now = step.gate g rest is in
      at_beside a b step.others (λ generation y. inl (is_shut g now.0 (bytes_of b (other_file state.log)) now.1 shut)) (omega (arith, ap length now.1)) was

-- changes of names leave the commit
pub commit_of_names : (ns : List LogName) (s : Store) → (after_names ns s).commit ≡ s.commit
commit_of_names [] s = refl
commit_of_names (n ∷ ns) s = commit_of_names ns (after_name n s)

-- the catalogue of a head is that of the store that it begins with
pub names_of_names : (ns : List LogName) (s : Store) → names_with ns s.names ≡ (after_names ns s).names
names_of_names [] s = refl
names_of_names (n ∷ ns) s = names_of_names ns (after_name n s)

-- the pages of a plan are those of its rows, once each image stands in its slot
pub placed_rows : (c d : List ℕ) (placed : List Placed) → AllByRecursion (λ (p : Placed). image_in c p.slot p.page ≡ slot_in d p.slot) placed
    → (pages : PageMap) → with_placed c placed pages ≡ with_rows d (map row_of placed) pages
placed_rows c d [] all pages = refl
placed_rows c d (p ∷ ps) all pages =
    ap (λ (page : List ℕ). with_placed c ps (finite.insert pages p.id page)) all.0 ∙ placed_rows c d ps all.1 (finite.insert pages p.id (slot_in d p.slot))

-- a placed page's image is in its slot
pub placed_image : (c d : List ℕ) (slot : ℕ) (page : Option (List ℕ)) → IfNone page (slot_in d slot ≡ slot_in c slot)
    → IfSome page (λ (g : List ℕ). (slot_in d slot ≡ g) × IsInside d slot) → image_in c slot page ≡ slot_in d slot
placed_image c d slot None stands has = sym stands
placed_image c d slot (Some g) stands has = sym has.0

-- the head's bytes begin with those by which a log is known, and its generation
pub begins : (h : Head) (rest : List ℕ) → (more : List ℕ) × (head_bytes h ++ rest ≡ magic ++ number h.generation ++ more)
begins h rest =
    let docs = flat_map document_bytes h.entries in let rows = flat_map row_bytes h.rows in
    let counts = number h.commit ++ number (length h.entries) ++ number (length h.rows) ++ docs in
    (counts ++ (rows ++ rest), simp append_assoc refl)

-- the rows of placed pages, each by its page
pub all_rows : (P : Row → Type 0) (placed : List Placed) → AllByRecursion (λ (p : Placed). P (row_of p)) placed → AllByRecursion P (map row_of placed)
all_rows P [] all = tt
all_rows P (p ∷ ps) all = (all.0, all_rows P ps all.1)

-- a page whose slot is in the table lies inside, and one that is written too
pub placed_inside : (table : List Row) (bytes : List ℕ) (slot : ℕ) (page : Option (List ℕ)) → AllByRecursion (λ (r : Row). IsInside bytes r.slot) table
    → IsPlaced table slot page → IfSome page (λ (g : List ℕ). (slot_in bytes slot ≡ g) × IsInside bytes slot) → IsInside bytes slot
placed_inside table bytes slot None all is has = of_table (IsInside bytes) table slot all is
placed_inside table bytes slot (Some g) all is has = has.1
