use Rattle.std.proofs.Common.{◌≡◌, ◌+◌, ◌-◌, ◌++◌, ℕ, List, length, drop, sym, ap, ◌∙◌, subst}
use Rattle.std.specs.List.{flat_map}
use Rattle.page_device.specs.Image.{bytes_of}
use Rattle.page_device.proofs.Told.{if_told, told}
use Rattle.redo_log.specs.declared.change.Change.{Change}
use Rattle.redo_log.specs.declared.store.Store.{Store}
use Rattle.redo_log.specs.Record.{record_of}
use Rattle.redo_log.specs.Store.{store_of}
use Rattle.redo_log.specs.Reading.{AreRecords}
use Rattle.redo_log.specs.Scan.{store_before}
use Rattle.redo_log.specs.Taken.{AreTaken}
use Rattle.redo_log.proofs.Found.{place_of, scans}
use Rattle.redo_log.proofs.scanning.scan.Goals as goal

pub returns-in-Ok-records_at-clause-found : goal.returns-in-Ok-records_at-clause-found
returns-in-Ok-records_at-clause-found g c =
    let base = c.args.base.now in let items = c.in_ok-bytes.bytes.items in let rest = c.in-Ok-records_at.rest.now in let s = c.found_from.result in
    let store : c.in-Ok.store ≡ store_before base = c.in-Ok.ensures ∙ (λ k. store_of base.commit (c.as_slice.ensures k) (c.as_slice-2.ensures k)) in
    let changes : c.in-Ok-records_at.changes.items ≡ s.changes = sym c.found_from.ensures.changes in
    let end : s.end ≡ place_of c.args.file (c.args.at + (length items - length rest)) =
    c.found_from.ensures.end ∙ ap (λ (l : List ℕ). place_of c.args.file (c.args.at + (length l - length rest))) c.as_slice-in-Ok-records_at.ensures.value in
    let found : AreRecords c.in-Ok.store c.in-Ok-records_at.changes.items items rest =
    subst (λ (l : List ℕ). AreRecords c.in-Ok.store c.in-Ok-records_at.changes.items l rest) c.as_slice-3.ensures.value c.in-Ok-records_at.ensures.found in
    let spelled : items ≡ flat_map record_of c.in-Ok-records_at.changes.items ++ rest = sym c.as_slice-3.ensures.value ∙ c.in-Ok-records_at.ensures.spelled in
    if_told (g.D.Device.contents c.args.device.now) _ (λ i is.
    scans c.args.file c.args.at base i s items rest
    (told (g.D.Device.contents c.args.device.now) (λ k. items ≡ drop c.args.at (bytes_of k c.args.file)) i is c.in_ok-bytes.ensures.bytes) end
    (subst (λ (cs : List Change). AreRecords (store_before base) cs items rest) changes
    (subst (λ (z : Store). AreRecords z c.in-Ok-records_at.changes.items items rest) store found))
    (spelled ∙ ap (λ (cs : List Change). flat_map record_of cs ++ rest) changes)
    (subst (λ (cs : List Change). AreTaken (store_before base) cs) changes
    (subst (λ (z : Store). AreTaken z c.in-Ok-records_at.changes.items) store c.in-Ok-records_at.ensures.taken)))
