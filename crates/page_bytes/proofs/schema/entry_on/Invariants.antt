use Rattle.std.proofs.Common.{◌≡◌, ◌-◌, ◌≤◌}
use Rattle.page_bytes.specs.Schema.{entry_count, entry_among}
use Rattle.page_bytes.proofs.schema.entry_on.Given as goal

abbrev pub invariant-loop-entry : goal.invariant-loop-entry
invariant-loop-entry l =
    record {
      left : entry_among l.id.space l.id.number (l._entry-end - l._entry) l.at l.page l.wanted
          ≡ entry_among l.id.space l.id.number (entry_count l.page) 16 l.page l.wanted;
      inside : l.at ≤ 4096;
      counted : l._entry ≤ l._entry-end;
    }
