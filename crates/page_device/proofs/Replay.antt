-- What one call adds to a record that is replayed.
use Rattle.std.proofs.Common.{◌≡◌, ◌⊎◌, inl, inr, ℕ, zero, suc, ◌+◌, ◌≤◌, max, Option, Some, List, [], ◌∷◌, ◌++◌, length, refl, sym, ap, ◌∙◌, subst, arith, length-append, Result, Ok, Err}
use Rattle.std.specs.Prelude.{OnOk, OnErr}
use Rattle.std.proofs.lemmas.List.{take-append-le, take_all}
use Rattle.std.proofs.Math.Decide.{dec_le}
use mathlib.Core.Logic.{dite}
use Rattle.page_device.specs.declared.device.TheConstants.{LONGEST}
use Rattle.page_device.specs.declared.device.Which.{Which}
use Rattle.page_device.specs.declared.device.Which.TheVariants.{Slots, LogA, LogB}
use Rattle.page_device.specs.declared.memory.Done.{Done}
use Rattle.page_device.specs.declared.memory.Done.TheVariants.{Wrote, Synced}
use Rattle.page_device.specs.Image.{Image, bytes_of, with_bytes, SameOthers, IsBounded}
use Rattle.page_device.specs.Write.{overlay, grown}
use Rattle.page_device.specs.Device.{TornIn, TornImage, Follows, Shrinks, Same, KeepsOthers, FileIs, Elapses}
use Rattle.page_device.specs.Memory.{Disk, step, run, disk_after, after_write, after_sync, now_of, synced_of, ones_of, held_by, held_after_write, held_after_sync, Reaches, IsImage, WasImage, Writes}
use Rattle.page_device.specs.MemoryLaws.{torn_same, torn_overlay, marked-push, reaches_less, IsWholeDisk, whole_after, run-append}

-- the disk after one call more
run_more : (d : Disk) (ms : List Done) (m : Done) → run d (ms ++ m ∷ []) ≡ step (run d ms) m
run_more d ms m = run-append d ms (m ∷ [])

-- a record with one write more makes the disk after that write
pub disk_wrote : (first : Image) (ms ms' : List Done) (file : Which) (at : ℕ) (bytes : List ℕ) → Writes file at bytes ms ms'
    → disk_after first ms' ≡ after_write (disk_after first ms) file at bytes
disk_wrote first ms ms' file at bytes w = ap (disk_after first) w.joined
    ∙ (run_more _ ms (Wrote file at w.copy) ∙ ap (after_write (disk_after first ms) file at) w.same)

-- a record with one sync more makes the disk after that sync
pub disk_synced : (first : Image) (ms ms' : List Done) (file : Which) → ms' ≡ ms ++ Synced file ∷ []
    → disk_after first ms' ≡ after_sync (disk_after first ms) file
disk_synced first ms ms' file joined = ap (disk_after first) joined ∙ run_more _ ms (Synced file)

-- the versions of a disk after a write and after a sync
pub held_by-after_write : (d : Disk) (file : Which) (at : ℕ) (bytes : List ℕ)
    → held_by (after_write d file at bytes) ≡ held_after_write (held_by d) file at bytes
held_by-after_write d Slots at bytes =
    ap (λ (l : List ℕ). record { now = now_of (after_write d Slots at bytes); synced = synced_of d; ones = with_bytes (ones_of d) Slots l })
    (marked-push d.slots.synced d.slots.writes _)
held_by-after_write d LogA at bytes =
    ap (λ (l : List ℕ). record { now = now_of (after_write d LogA at bytes); synced = synced_of d; ones = with_bytes (ones_of d) LogA l })
    (marked-push d.log_a.synced d.log_a.writes _)
held_by-after_write d LogB at bytes =
    ap (λ (l : List ℕ). record { now = now_of (after_write d LogB at bytes); synced = synced_of d; ones = with_bytes (ones_of d) LogB l })
    (marked-push d.log_b.synced d.log_b.writes _)

-- the versions of a disk after a sync are the versions before it, after that sync
pub held_by-after_sync : (d : Disk) (file : Which) → held_by (after_sync d file) ≡ held_after_sync (held_by d) file
held_by-after_sync d Slots = refl
held_by-after_sync d LogA = refl
held_by-after_sync d LogB = refl

-- no file becomes longer than a place can be
grown_le : (long at n : ℕ) → grown long at n ≤ max long (at + n)
grown_le long at zero = omega arith
grown_le long at (suc n) = omega arith

overlay_bounded : (old : List ℕ) (at : ℕ) (bytes : List ℕ) → at + length bytes ≤ LONGEST → length old ≤ LONGEST → length (overlay old at bytes) ≤ LONGEST
overlay_bounded old at bytes fits le = omega (arith, (torn_overlay old at bytes).no_longer, grown_le (length old) at (length bytes))

-- no file becomes too long by a write that ends within the longest length
pub bounded_wrote : (d : Disk) (file : Which) (at : ℕ) (bytes : List ℕ) → at + length bytes ≤ LONGEST → IsBounded (now_of d)
    → IsBounded (now_of (after_write d file at bytes))
bounded_wrote d Slots at bytes fits b Slots = overlay_bounded d.slots.now at bytes fits (b Slots)
bounded_wrote d Slots at bytes fits b LogA = b LogA
bounded_wrote d Slots at bytes fits b LogB = b LogB
bounded_wrote d LogA at bytes fits b Slots = b Slots
bounded_wrote d LogA at bytes fits b LogA = overlay_bounded d.log_a.now at bytes fits (b LogA)
bounded_wrote d LogA at bytes fits b LogB = b LogB
bounded_wrote d LogB at bytes fits b Slots = b Slots
bounded_wrote d LogB at bytes fits b LogA = b LogA
bounded_wrote d LogB at bytes fits b LogB = overlay_bounded d.log_b.now at bytes fits (b LogB)

-- a sync does not change what is read
pub now_synced : (d : Disk) (file : Which) → now_of (after_sync d file) ≡ now_of d
now_synced d Slots = refl
now_synced d LogA = refl
now_synced d LogB = refl

-- an image stays the same when a file is given the bytes that it has
pub with_own : (c : Image) (file : Which) → c ≡ with_bytes c file (bytes_of c file)
with_own c Slots = refl
with_own c LogA = refl
with_own c LogB = refl

-- an image of which nothing more is written
pub torn_stays : (file : Which) (at n : ℕ) (c : Image) → TornIn file at n c c
torn_stays file at n c = record { torn = torn_same at n (bytes_of c file); others = with_own c file }

-- what a write and a sync make of the contents and the images of a disk
pub now_wrote : (d : Disk) (file : Which) (at : ℕ) (bytes : List ℕ)
    → now_of (after_write d file at bytes) ≡ with_bytes (now_of d) file (overlay (bytes_of (now_of d) file) at bytes)
now_wrote d Slots at bytes = refl
now_wrote d LogA at bytes = refl
now_wrote d LogB at bytes = refl

crash_wrote : (d : Disk) (file : Which) (at : ℕ) (bytes : List ℕ)
    → Follows (TornImage file at (length bytes) (Some (now_of (after_write d file at bytes)))) (IsImage d) (IsImage (after_write d file at bytes))
crash_wrote d Slots at bytes c is = let t = reaches_less d.slots.synced d.slots.writes _ c.slots is.slots in (
  with_bytes c Slots t.0,
  record { slots = t.1; log_a = is.log_a; log_b = is.log_b },
  record {
    write = record { torn = t.2.torn; others = refl };
    long =
        t.2.long;
  },
)
crash_wrote d LogA at bytes c is = let t = reaches_less d.log_a.synced d.log_a.writes _ c.log_a is.log_a in (
  with_bytes c LogA t.0,
  record { slots = is.slots; log_a = t.1; log_b = is.log_b },
  record {
    write = record { torn = t.2.torn; others = refl };
    long =
        t.2.long;
  },
)
crash_wrote d LogB at bytes c is = let t = reaches_less d.log_b.synced d.log_b.writes _ c.log_b is.log_b in (
  with_bytes c LogB t.0,
  record { slots = is.slots; log_a = is.log_a; log_b = t.1 },
  record {
    write = record { torn = t.2.torn; others = refl };
    long =
        t.2.long;
  },
)

others_wrote : (d : Disk) (file : Which) (at : ℕ) (bytes : List ℕ) → IsWholeDisk (after_write d file at bytes)
    → KeepsOthers file (IsImage d) (IsImage (after_write d file at bytes))
others_wrote d Slots at bytes w c is =
    (with_bytes c Slots (overlay d.slots.now at bytes), record { slots = w.slots.now; log_a = is.log_a; log_b = is.log_b }, refl)
others_wrote d LogA at bytes w c is =
    (with_bytes c LogA (overlay d.log_a.now at bytes), record { slots = is.slots; log_a = w.log_a.now; log_b = is.log_b }, refl)
others_wrote d LogB at bytes w c is =
    (with_bytes c LogB (overlay d.log_b.now at bytes), record { slots = is.slots; log_a = is.log_a; log_b = w.log_b.now }, refl)

crash_synced : (d : Disk) (file : Which) → IsWholeDisk d → Shrinks (IsImage d) (IsImage (after_sync d file))
crash_synced d Slots w c is =
    record { slots = subst (λ (b : List ℕ). Reaches d.slots.synced d.slots.writes b) (sym is.slots) w.slots.now; log_a = is.log_a; log_b = is.log_b }
crash_synced d LogA w c is =
    record { slots = is.slots; log_a = subst (λ (b : List ℕ). Reaches d.log_a.synced d.log_a.writes b) (sym is.log_a) w.log_a.now; log_b = is.log_b }
crash_synced d LogB w c is =
    record { slots = is.slots; log_a = is.log_a; log_b = subst (λ (b : List ℕ). Reaches d.log_b.synced d.log_b.writes b) (sym is.log_b) w.log_b.now }

others_synced : (d : Disk) (file : Which) → KeepsOthers file (IsImage d) (IsImage (after_sync d file))
others_synced d Slots c is = (with_bytes c Slots d.slots.now, record { slots = refl; log_a = is.log_a; log_b = is.log_b }, refl)
others_synced d LogA c is = (with_bytes c LogA d.log_a.now, record { slots = is.slots; log_a = refl; log_b = is.log_b }, refl)
others_synced d LogB c is = (with_bytes c LogB d.log_b.now, record { slots = is.slots; log_a = is.log_a; log_b = refl }, refl)

durable_synced : (d : Disk) (file : Which) → FileIs file (bytes_of (now_of d) file) (IsImage (after_sync d file))
durable_synced d Slots c is = is.slots
durable_synced d LogA c is = is.log_a
durable_synced d LogB c is = is.log_b

-- the clock, where one entry joins the record
module _ (f : Image) (ms : List Done) (m : Done) where
  abbrev more : List Done
  more = ms ++ m ∷ []

  elapses_more : Elapses (length ms) (length more) (WasImage f ms) (WasImage f more) (IsImage (disk_after f more))
  elapses_more = record {
    later = omega (arith, length-append ms (m ∷ []));
    nothing_else = λ t c le w. let to : w.moment ≤ length more = w.to in dite (dec_le w.moment (length ms))
        (λ before. inl record {
          moment = w.moment;
          from = w.from;
          to = before;
          is =
              subst (λ (l : List Done). IsImage (disk_after f l) c) (take-append-le w.moment ms (m ∷ []) before) w.is;
        })
        (λ after. inr (subst (λ (l : List Done). IsImage (disk_after f l) c) (take_all w.moment more (omega (arith, length-append ms (m ∷ [])))) w.is));
    keeps = λ t c le w. let to : w.moment ≤ length ms = w.to in
        record {
          moment = w.moment;
          from = w.from;
          to = omega (arith, length-append ms (m ∷ []));
          is =
              subst (λ (l : List Done). IsImage (disk_after f l) c) (sym (take-append-le w.moment ms (m ∷ []) to)) w.is;
        };
  }

elapses_same : (f : Image) (ms : List Done) (P : Image → Type 0) → Elapses (length ms) (length ms) (WasImage f ms) (WasImage f ms) P
elapses_same f ms P = record { later = omega arith; nothing_else = λ t c le left. inl left; keeps = λ t c le left. left }

-- after a write that joined the record
module _ (file : Which) (at : ℕ) (bytes : List ℕ) (f f' : Image) (ms ms' : List Done) (first : f' ≡ f) (w : Writes file at bytes ms ms') where
  -- the disk is the one from before, after this write
  pub wrote_disk : disk_after f' ms' ≡ after_write (disk_after f ms) file at bytes
  wrote_disk = ap (λ (z : Image). disk_after z ms') first ∙ disk_wrote f ms ms' file at bytes w

  -- what is read is as before, with the bytes written over the file
  pub wrote_now : now_of (disk_after f' ms') ≡ with_bytes (now_of (disk_after f ms)) file (overlay (bytes_of (now_of (disk_after f ms)) file) at bytes)
  wrote_now = ap now_of wrote_disk ∙ now_wrote (disk_after f ms) file at bytes

  -- each image is one from before, with this write done in part, and as long as before or as it is read
  pub wrote_crash : Follows (TornImage file at (length bytes) (Some (now_of (disk_after f' ms')))) (IsImage (disk_after f ms)) (IsImage (disk_after f' ms'))
  wrote_crash = subst (λ (d : Disk). Follows (TornImage file at (length bytes) (Some (now_of d))) (IsImage (disk_after f ms)) (IsImage d)) (sym wrote_disk)
      (crash_wrote (disk_after f ms) file at bytes)

  -- what a crash could leave of the other files, it can leave still
  pub wrote_others : KeepsOthers file (IsImage (disk_after f ms)) (IsImage (disk_after f' ms'))
  wrote_others = subst (λ (d : Disk). KeepsOthers file (IsImage (disk_after f ms)) (IsImage d)) (sym wrote_disk)
      (others_wrote (disk_after f ms) file at bytes (subst IsWholeDisk wrote_disk (whole_after f' ms')))

  -- a crash since any earlier moment leaves what it left before the write, or an image from after it
  pub wrote_time : Elapses (length ms) (length ms') (WasImage f ms) (WasImage f' ms') (IsImage (disk_after f' ms'))
  wrote_time = subst (λ (z : Image × List Done). Elapses (length ms) (length z.1) (WasImage f ms) (WasImage z.0 z.1) (IsImage (disk_after z.0 z.1)))
      (λ i. (sym first i, sym w.joined i)) (elapses_more f ms (Wrote file at w.copy))

-- after a sync that joined it
module _ (file : Which) (f f' : Image) (ms ms' : List Done) (first : f' ≡ f) (joined : ms' ≡ ms ++ Synced file ∷ []) where
  -- the disk is the one from before, after this sync
  pub synced_disk : disk_after f' ms' ≡ after_sync (disk_after f ms) file
  synced_disk = ap (λ (z : Image). disk_after z ms') first ∙ disk_synced f ms ms' file joined

  -- what is read is as before
  pub synced_now : now_of (disk_after f' ms') ≡ now_of (disk_after f ms)
  synced_now = ap now_of synced_disk ∙ now_synced (disk_after f ms) file

  -- each image was one before the sync
  pub synced_crash : Shrinks (IsImage (disk_after f ms)) (IsImage (disk_after f' ms'))
  synced_crash = subst (λ (d : Disk). Shrinks (IsImage (disk_after f ms)) (IsImage d)) (sym synced_disk)
      (crash_synced (disk_after f ms) file (whole_after f ms))

  -- what a crash could leave of the other files, it can leave still
  pub synced_others : KeepsOthers file (IsImage (disk_after f ms)) (IsImage (disk_after f' ms'))
  synced_others = subst (λ (d : Disk). KeepsOthers file (IsImage (disk_after f ms)) (IsImage d)) (sym synced_disk) (others_synced (disk_after f ms) file)

  -- each image has the file as it is read
  pub synced_durable : FileIs file (bytes_of (now_of (disk_after f ms)) file) (IsImage (disk_after f' ms'))
  synced_durable = subst (λ (d : Disk). FileIs file (bytes_of (now_of (disk_after f ms)) file) (IsImage d)) (sym synced_disk)
      (durable_synced (disk_after f ms) file)

  -- a crash since any earlier moment leaves what it left before the sync, or an image from after it
  pub synced_time : Elapses (length ms) (length ms') (WasImage f ms) (WasImage f' ms') (IsImage (disk_after f' ms'))
  synced_time = subst (λ (z : Image × List Done). Elapses (length ms) (length z.1) (WasImage f ms) (WasImage z.0 z.1) (IsImage (disk_after z.0 z.1)))
      (λ i. (sym first i, sym joined i)) (elapses_more f ms (Synced file))

-- after a call that changed nothing
module _ (f f' : Image) (ms ms' : List Done) (first : f' ≡ f) (calls : ms' ≡ ms) where
  -- the disk is the one from before
  pub same_disk : disk_after f' ms' ≡ disk_after f ms
  same_disk = ap (λ (z : Image × List Done). disk_after z.0 z.1) (λ i. (first i, calls i))

  -- what is read is as before
  pub same_now : now_of (disk_after f' ms') ≡ now_of (disk_after f ms)
  same_now = ap now_of same_disk

  -- the images are those from before
  pub same_images : Same (IsImage (disk_after f ms)) (IsImage (disk_after f' ms'))
  same_images = subst (λ (d : Disk). Same (IsImage (disk_after f ms)) (IsImage d)) (sym same_disk) (λ c is. is, λ c is. is)

  -- a crash since any earlier moment leaves what it left before the call
  pub same_time : Elapses (length ms) (length ms') (WasImage f ms) (WasImage f' ms') (IsImage (disk_after f' ms'))
  same_time = subst (λ (z : Image × List Done). Elapses (length ms) (length z.1) (WasImage f ms) (WasImage z.0 z.1) (IsImage (disk_after f' ms')))
      (λ i. (sym first i, sym calls i)) (elapses_same f ms (IsImage (disk_after f' ms')))

  -- what a crash could leave of the other files, it can leave still
  pub same_others : (file : Which) → KeepsOthers file (IsImage (disk_after f ms)) (IsImage (disk_after f' ms'))
  same_others file = subst (λ (d : Disk). KeepsOthers file (IsImage (disk_after f ms)) (IsImage d)) (sym same_disk) (λ c is. (c, is, with_own c file))

  -- each image is one from before in which a write was done in part: here, not at all
  pub same_crash : (file : Which) (at n : ℕ)
      → Follows (TornImage file at n (Some (now_of (disk_after f' ms')))) (IsImage (disk_after f ms)) (IsImage (disk_after f' ms'))
  same_crash file at n = subst (λ (d : Disk). Follows (TornImage file at n (Some (now_of d))) (IsImage (disk_after f ms)) (IsImage d)) (sym same_disk)
      (λ c is. (c, is, record { write = torn_stays file at n c; long = inl refl }))

  -- what is read is what was read before, with a write done in part: here, not at all
  pub same_torn : (file : Which) (at n : ℕ)
      → (d : Image) × (◌≡◌ {A = Option Image} (Some (now_of (disk_after f' ms'))) (Some d)) × TornIn file at n (now_of (disk_after f ms)) d
  same_torn file at n = (
    now_of (disk_after f' ms'),
    refl,
    subst (λ (d : Image). TornIn file at n (now_of (disk_after f ms)) d) (sym same_now)
        (torn_stays file at n (now_of (disk_after f ms))),
  )

  -- in what is read the other files are as before
  pub same_file : (file : Which)
      → (d : Image) × (◌≡◌ {A = Option Image} (Some (now_of (disk_after f' ms'))) (Some d)) × SameOthers file (now_of (disk_after f ms)) d
  same_file file = (
    now_of (disk_after f' ms'),
    refl,
    subst (λ (d : Image). SameOthers file (now_of (disk_after f ms)) d) (sym same_now)
        (with_own (now_of (disk_after f ms)) file),
  )

-- one of the two, by the answer
pub either : {T E : Type 0} (r : Result T E) (A B : Type 0) → OnOk r A → OnErr r B → A ⊎ B
either (Ok v) A B ok err = inl ok
either (Err e) A B ok err = inr err

-- what follows from A holds of each Ok answer, where A does
pub on_ok : {T E : Type 0} (r : Result T E) (A C : Type 0) → (A → C) → OnOk r A → OnOk r C
on_ok (Ok v) A C f ok = f ok
on_ok (Err e) A C f ok = tt

-- what follows from B holds of each Err answer, where B does
pub on_err : {T E : Type 0} (r : Result T E) (B C : Type 0) → (B → C) → OnErr r B → OnErr r C
on_err (Ok v) B C f err = tt
on_err (Err e) B C f err = f err
