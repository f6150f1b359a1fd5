-- What a scan found is what the contents of the file have.
use Rattle.std.proofs.Common.{◌≡◌, ℕ, ◌+◌, ◌-◌, List, ◌++◌, length, drop, sym, ap, ◌∙◌, subst}
use Rattle.std.specs.List.{flat_map}
use Rattle.std.proofs.lemmas.List.{drop-drop}
use Rattle.page_device.specs.declared.device.Which.{Which}
use Rattle.page_device.specs.Image.{Image, bytes_of}
use Rattle.redo_log.specs.declared.end.LogEnd.{LogEnd}
use Rattle.redo_log.specs.declared.scanning.LogBase.{LogBase}
use Rattle.redo_log.specs.declared.scanning.Scanned.{Scanned}
use Rattle.redo_log.specs.Record.{record_of}
use Rattle.redo_log.specs.Reading.{AreRecords}
use Rattle.redo_log.specs.Taken.{AreTaken}
use Rattle.redo_log.specs.Scan.{Scans, store_before}
use Rattle.redo_log.proofs.Takes.{rest_is}

-- the place at this byte of this file
abbrev pub place_of : Which → ℕ → LogEnd
place_of file at = record { file = file; at = at }

-- Records that were read from a place on, spelled so and taken, with the end where the bytes that are left begin, are what a scan answers.
pub scans : (file : Which) (at : ℕ) (base : LogBase) (c : Image) (s : Scanned) (bytes rest : List ℕ) → bytes ≡ drop at (bytes_of c file)
    → s.end ≡ place_of file (at + (length bytes - length rest))
    → AreRecords (store_before base) s.changes bytes rest → bytes ≡ flat_map record_of s.changes ++ rest → AreTaken (store_before base) s.changes
    → Scans file at base c s
scans file at base c s bytes rest is end records spelled taken =
    let left : drop s.end.at (bytes_of c file) ≡ rest =
    ap (λ (e : LogEnd). drop e.at (bytes_of c file)) end
    ∙ (sym (drop-drop (length bytes - length rest) at (bytes_of c file))
    ∙ (ap (drop (length bytes - length rest)) (sym is) ∙ rest_is bytes (flat_map record_of s.changes) rest spelled)) in record {
      file_is = ap (λ (e : LogEnd). e.file) end;
      records = subst (λ (z : List ℕ × List ℕ). AreRecords (store_before base) s.changes z.0 z.1) (λ k. (is k, sym left k)) records;
      taken = taken;
      spelled = sym is ∙ (spelled ∙ ap (λ (l : List ℕ). flat_map record_of s.changes ++ l) (sym left));
    }
