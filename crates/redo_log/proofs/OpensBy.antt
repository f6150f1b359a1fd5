-- What three files open to is what their bytes spell: a log that counts, with a head that is taken and records behind it.
use Rattle.std.proofs.Common.{◌≡◌, ℕ, List, [], ◌∷◌, ◌++◌, length, drop, Result, Ok, Err, refl, sym, ap, subst, ◌∙◌, append_assoc}
use Rattle.std.specs.Prelude.{All}
use Rattle.std.specs.List.{flat_map}
use Rattle.page_device.specs.declared.device.Which.{Which}
use Rattle.page_device.specs.Image.{Image, bytes_of}
use Rattle.redo_log.specs.declared.change.Change.{Change}
use Rattle.redo_log.specs.declared.store.Store.{Store}
use Rattle.redo_log.specs.Record.{number}
use Rattle.redo_log.specs.Reading.{IsBytes, IsClosed, AreRecords}
use Rattle.redo_log.specs.Head.{Head, head_at}
use Rattle.redo_log.specs.HeadBytes.{document_bytes, row_bytes, head_bytes, IsHeadTaken}
use Rattle.redo_log.specs.HeadAndRecords.{Log, store_of_head, log_at}
use Rattle.redo_log.specs.Candidates.{◌>>=◌, NotAStore, magic, generation_of, counting}
use Rattle.redo_log.specs.Opened.{Opened, placed, store_in, opened}
use Rattle.redo_log.specs.Opens.{HoldBytes, OtherYields, OpensBy, Opens}
use Rattle.redo_log.proofs.Takes.{IsBytes-drop}
use Rattle.redo_log.proofs.HeadAgain.{head_again, opens_again}
use Rattle.redo_log.proofs.HeadTakes.{IsShort, head_reads}
use Rattle.redo_log.proofs.LogTakes.{log_reads}
use Rattle.redo_log.proofs.Counts.{counts, generation_here, step_ok, Counted, counted}

-- what stands in a head after its generation
abbrev after_generation : Head → List ℕ → List ℕ
after_generation h rest =
    number h.commit ++ (number (length h.entries) ++ (number (length h.rows) ++ (flat_map document_bytes h.entries ++ (flat_map row_bytes h.rows ++ rest))))

-- a head begins with its generation
generation_first : (h : Head) (rest : List ℕ) → head_bytes h ++ rest ≡ number h.generation ++ after_generation h rest
generation_first h rest = simp append_assoc

-- a log that begins with a head begins with the head's generation
begins_with : (bytes : List ℕ) (h : Head) (rest : List ℕ) → bytes ≡ 1 ∷ (magic ++ (head_bytes h ++ rest))
    → bytes ≡ 1 ∷ (magic ++ (number h.generation ++ after_generation h rest))
begins_with bytes h rest is = is ∙ ap (λ (l : List ℕ). 1 ∷ (magic ++ l)) (generation_first h rest)

-- records begin at a gate
begin_at_gate : (s : Store) (cs : List Change) (bytes end : List ℕ) → AreRecords s cs bytes end → (gate : ℕ) × (rest : List ℕ) × (bytes ≡ gate ∷ rest)
begin_at_gate s [] [] end r = absurd (subst IsClosed (sym r.0) r.1)
begin_at_gate s [] (gate ∷ rest) end r = (gate, rest, refl)
begin_at_gate s (c ∷ cs) bytes end r = (1, r.0, r.2)

-- a log whose head is taken and whose records begin at a gate
opens_at : (c : Image) (file : Which) (log : Log) (gate : ℕ) (rest : List ℕ) → log.behind ≡ gate ∷ rest → counting c ≡ Ok file
    → bytes_of c file ≡ 1 ∷ (magic ++ (head_bytes log.head ++ log.behind)) → IsHeadTaken (length c.slots) log.head
    → AreRecords (store_of_head log.head) log.changes log.behind log.end → opened c ≡ Ok (store_in c.slots log)
opens_at c file log gate rest begins count spelled taken records =
    opens_again c file log.head log.changes gate rest log.end count
    (spelled ∙ ap (λ (l : List ℕ). 1 ∷ (magic ++ (head_bytes log.head ++ l))) begins) taken
    (subst (λ (l : List ℕ). AreRecords (store_of_head log.head) log.changes l log.end) begins records)
    ∙ ap (λ (l : List ℕ). Ok (store_in c.slots (record { head = log.head; changes = log.changes; behind = l; end = log.end }))) (sym begins)

-- Three files that open to something by what is spelled in them open to it.
pub opens : (c : Image) (file : Which) (o : Opened) → OpensBy c file o → opened c ≡ Ok o
opens c file o by =
    let log = by.log in
    let gate = begin_at_gate (store_of_head log.head) log.changes log.behind log.end by.records in
    let count = counts c file log.head.generation (after_generation log.head log.behind) by.taken.generation
    (begins_with (bytes_of c file) log.head log.behind by.spelled) by.other in
    opens_at c file log gate.0 gate.1 gate.2 count by.spelled by.taken by.records ∙ ap (λ (p : Opened). Ok p) (sym by.is)

-- a log that was read is right, wherever it stands
placed_ok : {A : Type 0} (file : Which) (long : ℕ) (r : Result A ℕ) (x : A) → placed file long r ≡ Ok x → r ≡ Ok x
placed_ok file long (Ok y) x e = again y x e
  where
    again : {A : Type 0} (y x : A) → ◌≡◌ {A = Result A NotAStore} (Ok y) (Ok x) → ◌≡◌ {A = Result A ℕ} (Ok y) (Ok x)
    again y x e = cc e
placed_ok file long (Err left) x e = absurd cc

-- equal answers have equal stores
store_is : (o p : Opened) → ◌≡◌ {A = Result Opened NotAStore} (Ok o) (Ok p) → o ≡ p
store_is o p e = cc e

module _ (c : Image) (o : Opened) (fits : HoldBytes c) where
  -- the log that counts is read to a store
  by_file : (file : Which) → Counted c file → (log : Log) → log_at (length c.slots) (drop 9 (bytes_of c file)) ≡ Ok log → store_in c.slots log ≡ o
      → OpensBy c file o
  by_file file count log read is =
      let bytes = bytes_of c file in
      let r = log_reads (length c.slots) (drop 9 bytes) log (IsBytes-drop 9 bytes (fits file)) read in
      let front : drop 9 bytes ≡ number (generation_of bytes) ++ count.0.0 = ap (drop 9) count.0.1 in
      let spelled : bytes ≡ 1 ∷ (magic ++ (head_bytes log.head ++ log.behind)) =
      count.0.1 ∙ ap (λ (l : List ℕ). 1 ∷ (magic ++ l)) (sym front ∙ r.head.takes.parts) in
      let same : generation_of bytes ≡ log.head.generation = generation_here bytes log.head.generation (after_generation log.head log.behind)
      r.head.taken.generation (begins_with bytes log.head log.behind spelled) in
      record {
        log = log;
        spelled = spelled;
        taken = r.head.taken;
        other = subst (OtherYields c file) same count.1;
        records = r.records;
        is = sym is;
      }

  -- Three files that open to something do so by what is spelled in them.
  pub opened_by : opened c ≡ Ok o → Opens c o
  unfolding opened
  opened_by e =
      let read : Which → Result Log NotAStore = λ (file : Which). placed file (length (bytes_of c file)) (log_at (length c.slots) (drop 9 (bytes_of c file))) in
      let made : Log → Result Opened NotAStore = λ (log : Log). Ok (store_in c.slots log) in
      let file = step_ok (counting c) (λ (file : Which). read file >>= made) o e in
      let log = step_ok (read file.0) made o file.2 in
      let is = store_is (store_in c.slots log.0) o log.2 in
      let found = placed_ok file.0 (length (bytes_of c file.0)) (log_at (length c.slots) (drop 9 (bytes_of c file.0))) log.0 log.1 in
      (file.0, by_file file.0 (counted c file.0 fits file.1) log.0 found is)

-- The names of the head are short where the files hold bytes.
pub head_is_short : (c : Image) (file : Which) (o : Opened) → HoldBytes c → (by : OpensBy c file o) → All IsShort by.log.head.entries
head_is_short c file o fits by =
    let log = by.log in
    let spelled = head_bytes log.head ++ log.behind in
    let bytes : IsBytes spelled = subst IsBytes (ap (drop 9) by.spelled) (IsBytes-drop 9 (bytes_of c file) (fits file)) in
    let gate = begin_at_gate (store_of_head log.head) log.changes log.behind log.end by.records in
    let again : head_at (length c.slots) (head_bytes log.head ++ gate.0 ∷ gate.1) ≡ Ok (log.head, gate.0 ∷ gate.1) =
    head_again (length c.slots) log.head gate.0 gate.1 by.taken in
    let read : head_at (length c.slots) spelled ≡ Ok (log.head, log.behind) =
    subst (λ (l : List ℕ). head_at (length c.slots) (head_bytes log.head ++ l) ≡ Ok (log.head, l)) (sym gate.2) again in
    (head_reads (length c.slots) spelled (log.head, log.behind) bytes read).short
