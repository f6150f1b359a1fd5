-- A catalogue as a finite map: the document under each name, by the bytes of names.
use Rattle.std.specs.Prelude.{ℕ, List, map, String, string_bytes}
use Rattle.std.specs.Coded.{Coded, coded_list, coded_ℕ}
use Rattle.std.specs.Ordering.{nat_cmp}
use Rattle.std.specs.Cmp.Lexicographic.{slice_cmp}
use Rattle.std.specs.FinMap as finite
use Rattle.page_bytes.specs.declared.ids.DocEntry.{DocEntry}
use Rattle.page_bytes.specs.contracts.ids.DocEntry as the_entry

-- documents' entries by the bytes of their names
abbrev pub Names : Type 0
Names = finite.FinMap (slice_cmp nat_cmp) DocEntry

-- how a catalogue is stored
abbrev pub names_code : Coded Names
names_code = finite.code (coded_list coded_ℕ) the_entry.the_row.coded

-- entries by texts, as entries by the bytes of these
abbrev pub by_bytes : {A : Type 0} → List (String A × DocEntry) → List (List ℕ × DocEntry)
by_bytes entries = map (λ e. (string_bytes e.0, e.1)) entries
