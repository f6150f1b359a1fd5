-- What a reader took of a log is its head, as it is spelled, and the records behind it.
use Rattle.std.proofs.Common.{◌≡◌, ℕ, List, length, Result, Ok, subst, arith}
use Rattle.redo_log.specs.declared.change.Change.{Change}
use Rattle.redo_log.specs.Reading.{◌>>=◌, IsBytes, AreRecords}
use Rattle.redo_log.specs.Head.{Head, head_at}
use Rattle.redo_log.specs.HeadAndRecords.{Log, store_of_head, records_at, log_at}
use Rattle.redo_log.proofs.Takes.{bind_ok, ok_is}
use Rattle.redo_log.proofs.RecordsFound.{Finds, finds}
use Rattle.redo_log.proofs.HeadTakes.{ReadHead, head_reads}

-- a log that is read, from its generation on: its head is read, and its records stand behind it
pub record ReadLog (held : ℕ) (bytes : List ℕ) (log : Log) : Type 0 where
  pub head : ReadHead held bytes (log.head, log.behind)
  pub records : AreRecords (store_of_head log.head) log.changes log.behind log.end

module _ (held : ℕ) (bytes : List ℕ) where
  abbrev log_made : Head × List ℕ → List Change × List ℕ → Log
  log_made head records = record { head = head.0; changes = records.0; behind = head.1; end = records.1 }

  abbrev log_1 : Head × List ℕ → Result Log ℕ
  log_1 head = records_at (length head.1) (store_of_head head.0) head.1 >>= λ records. Ok (log_made head records)

  -- a log that is read has a head that is read, and records that stand behind it
  pub log_reads : (log : Log) → IsBytes bytes → log_at held bytes ≡ Ok log → ReadLog held bytes log
  unfolding log_at
  log_reads log fits e =
      let head = bind_ok (head_at held bytes) log_1 log e in
      let found = records_at (length head.0.1) (store_of_head head.0.0) head.0.1 in
      let records = bind_ok found (λ (records : List Change × List ℕ). Ok (log_made head.0 records)) log head.2 in
      let stand : Finds (store_of_head head.0.0) head.0.1 (Ok records.0) =
      subst (Finds (store_of_head head.0.0) head.0.1) records.1 (finds (length head.0.1) (store_of_head head.0.0) head.0.1 (omega arith)) in
      subst (ReadLog held bytes) (ok_is (log_made head.0 records.0) log records.2)
      record { head = head_reads held bytes head.0 fits head.1; records = stand }
