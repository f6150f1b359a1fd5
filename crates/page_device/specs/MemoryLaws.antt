-- The laws of a device, for one whose record is replayed.
use Rattle.std.proofs.Common.{◌≡◌, inl, inr, ⊎_elim, ℕ, zero, suc, ◌+◌, ◌-◌, ◌≤◌, min, max, Some, List, [], ◌∷◌, ◌++◌, length, take, drop, replicate, refl, sym, ap, ◌∙◌, subst, arith, length-append, length-take, length-drop}
use Rattle.std.proofs.lemmas.List.{take_all, drop_at, length-replicate, take-append-le, take-append-drop}
use Rattle.page_device.specs.declared.device.Which.{Which}
use Rattle.page_device.specs.declared.device.Which.TheVariants.{Slots, LogA, LogB}
use Rattle.page_device.specs.declared.memory.Done.{Done}
use Rattle.page_device.specs.declared.memory.Pick.{Pick}
use Rattle.page_device.specs.declared.memory.Pick.TheVariants.{Old, New, Ones}
use Rattle.page_device.specs.declared.memory.Done.TheVariants.{Wrote, Synced}
use Rattle.page_device.specs.Image.{Image, bytes_of, IsBounded}
use Rattle.page_device.specs.Write.{overlay, filled, grown, Torn}
use Rattle.page_device.specs.Memory.{Extent, Kept, Disk, at_rest, wrote, opened, step, run, disk_after, now_of, Tears, Reaches, IsImage, WasImage, marked, picked}

take-take-le : (m n : ℕ) (xs : List ℕ) → m ≤ n → take m (take n xs) ≡ take m xs
take-take-le zero n xs le = refl
take-take-le (suc m) zero xs le = absurd (omega arith)
take-take-le (suc m) (suc n) [] le = refl
take-take-le (suc m) (suc n) (x ∷ xs) le = ap (λ (l : List ℕ). x ∷ l) (take-take-le m n xs (omega arith))

-- a file of which nothing is written
pub torn_same : (at n : ℕ) (b : List ℕ) → Torn at n b b
torn_same at zero b = record { before = refl; after = refl; no_shorter = omega arith; no_longer = omega arith }
torn_same at (suc n) b = record { before = refl; after = refl; no_shorter = omega arith; no_longer = omega arith }

-- n bytes written, and this byte in the gap before them
module _ (old : List ℕ) (at gap : ℕ) (bytes : List ℕ) (n : ℕ) (same : length bytes ≡ n) where
  abbrev padded : List ℕ
  padded = old ++ replicate (at - length old) gap

  abbrev spliced : List ℕ
  spliced = take at padded ++ bytes ++ drop (at + n) old

  length-padded : length padded ≡ max at (length old)
  length-padded = omega (arith, length-append old (replicate (at - length old) gap), length-replicate {A = ℕ} (at - length old) gap)

  length-front : length (take at padded) ≡ at
  length-front = omega (arith, length-take at padded, length-padded)

  length-spliced : length spliced ≡ max (length old) (at + n)
  length-spliced = omega (
    arith,
    same,
    length-append (take at padded ++ bytes) (drop (at + n) old),
    length-append
        (take at padded) bytes,
    length-front,
    length-drop (at + n) old,
  )

  before_spliced : take (min at (length old)) spliced ≡ take (min at (length old)) old
  before_spliced = let m : ℕ = min at (length old) in
      take-append-le m (take at padded ++ bytes) (drop (at + n) old) (omega (arith, length-append (take at padded) bytes, length-front))
      ∙ (take-append-le m (take at padded) bytes (omega (arith, length-front))
      ∙ (take-take-le m at padded (omega arith)
      ∙ take-append-le m old (replicate (at - length old) gap) (omega arith)))

  after_spliced : drop (at + n) spliced ≡ drop (at + n) old
  after_spliced = drop_at (take at padded ++ bytes) (drop (at + n) old) (at + n) (omega (arith, same, length-append (take at padded) bytes, length-front))

-- a write makes the file as long as `grown` says
pub length-overlay : (old : List ℕ) (at : ℕ) (bytes : List ℕ) → length (overlay old at bytes) ≡ grown (length old) at (length bytes)
length-overlay old at [] = refl
length-overlay old at (b ∷ bs) = length-spliced old at 0 (b ∷ bs) (length (b ∷ bs)) refl

-- a write that is done is one of its torn outcomes
pub torn_overlay : (old : List ℕ) (at : ℕ) (bytes : List ℕ) → Torn at (length bytes) old (overlay old at bytes)
torn_overlay old at [] = torn_same at 0 old
torn_overlay old at (b ∷ bs) = record {
  before = before_spliced old at 0 (b ∷ bs) (length (b ∷ bs)) refl;
  after = after_spliced old at 0 (b ∷ bs) (length (b ∷ bs)) refl;
  no_shorter = omega (arith, length-spliced old at 0 (b ∷ bs) (length (b ∷ bs)) refl);
  no_longer = omega (arith, length-spliced old at 0 (b ∷ bs) (length (b ∷ bs)) refl);
}

length-filled : (old : List ℕ) (at n : ℕ) → length (filled old at n) ≡ grown (length old) at n
length-filled old at zero = refl
length-filled old at (suc n) = length-spliced old at 255 (replicate (suc n) 255) (suc n) (length-replicate {A = ℕ} (suc n) 255)

torn_filled : (old : List ℕ) (at n : ℕ) → Torn at n old (filled old at n)
torn_filled old at zero = torn_same at 0 old
torn_filled old at (suc n) = let same : length (replicate {A = ℕ} (suc n) 255) ≡ suc n = length-replicate {A = ℕ} (suc n) 255 in record {
  before = before_spliced old at 255 (replicate (suc n) 255) (suc n) same;
  after = after_spliced old at 255 (replicate (suc n) 255) (suc n) same;
  no_shorter = omega (arith, length-spliced old at 255 (replicate (suc n) 255) (suc n) same);
  no_longer = omega (arith, length-spliced old at 255 (replicate (suc n) 255) (suc n) same);
}

-- one write more
pub reaches_more : (base : List ℕ) (ws : List Extent) (w : Extent) (mid c : List ℕ) → Reaches base ws mid → Tears w mid c → Reaches base (ws ++ w ∷ []) c
reaches_more base [] w mid c is tears = (c, subst (λ (b : List ℕ). Tears w b c) is tears, refl)
reaches_more base (v ∷ ws) w mid c r tears = (r.0, r.1, reaches_more r.0 ws w mid c r.2 tears)

-- what these writes and one more can leave, the last write can leave of what the others did
pub reaches_less : (base : List ℕ) (ws : List Extent) (w : Extent) (c : List ℕ) → Reaches base (ws ++ w ∷ []) c
    → (mid : List ℕ) × Reaches base ws mid × Tears w mid c
reaches_less base [] w c r = (base, refl, subst (λ (d : List ℕ). Tears w base d) (sym r.2) r.1)
reaches_less base (v ∷ ws) w c r = let t = reaches_less r.0 ws w c r.2 in (t.0, (r.0, r.1, t.1), t.2)

-- one write more fills its range with bytes 255
pub marked-push : (base : List ℕ) (ws : List Extent) (w : Extent) → marked base (ws ++ w ∷ []) ≡ filled (marked base ws) w.at w.count
marked-push base [] w = refl
marked-push base (v ∷ ws) w = marked-push (filled base v.at v.count) ws w

-- each content that can be picked is one that a crash may leave, and none is longer than what is read
pub record IsWhole (k : Kept) : Type 0 where
  pub old : Reaches k.synced k.writes k.synced
  pub now : Reaches k.synced k.writes k.now
  pub ones : Reaches k.synced k.writes (marked k.synced k.writes)
  pub long : length (marked k.synced k.writes) ≡ length k.now
  pub no_longer : (c : List ℕ) → Reaches k.synced k.writes c → length c ≤ length k.now

whole_at_rest : (b : List ℕ) → IsWhole (at_rest b)
whole_at_rest b = record { old = refl; now = refl; ones = refl; long = refl; no_longer = λ c is. omega (arith, ap length is) }

module _ (k : Kept) (at : ℕ) (bytes : List ℕ) (whole : IsWhole k) where
  abbrev next : List ℕ
  next = overlay k.now at bytes

  abbrev extent : Extent
  extent = record { at = at; count = length bytes; long = length next }

  length-next : length next ≡ grown (length k.now) at (length bytes)
  length-next = length-overlay k.now at bytes

  long_marks : length (filled (marked k.synced k.writes) at (length bytes)) ≡ length next
  long_marks = length-filled (marked k.synced k.writes) at (length bytes) ∙ (ap (λ (n : ℕ). grown n at (length bytes)) whole.long ∙ sym length-next)

  no_longer_wrote : (c : List ℕ) → Reaches k.synced (k.writes ++ extent ∷ []) c → length c ≤ length next
  no_longer_wrote c r = let t = reaches_less k.synced k.writes extent c r in
      let mid : length t.0 ≤ length k.now = whole.no_longer t.0 t.1 in
      let more : length k.now ≤ length next = (torn_overlay k.now at bytes).no_shorter in
      ⊎_elim (λ same. omega (arith, mid, more, same)) (λ same. omega (arith, same)) t.2.long

  whole_wrote : IsWhole (wrote k at bytes)
  whole_wrote = record {
    old = reaches_more k.synced k.writes extent k.synced k.synced whole.old record { torn = torn_same at (length bytes) k.synced; long = inl refl };
    now = reaches_more k.synced k.writes extent k.now next whole.now record { torn = torn_overlay k.now at bytes; long = inr refl };
    ones = subst (λ (b : List ℕ). Reaches k.synced (k.writes ++ extent ∷ []) b) (sym (marked-push k.synced k.writes extent))
        (reaches_more k.synced k.writes extent (marked k.synced k.writes) _ whole.ones record {
          torn =
              torn_filled (marked k.synced k.writes) at (length bytes);
          long = inr long_marks;
        });
    long = ap length (marked-push k.synced k.writes extent) ∙ long_marks;
    no_longer = no_longer_wrote;
  }

-- each of the three files is whole
pub record IsWholeDisk (d : Disk) : Type 0 where
  pub slots : IsWhole d.slots
  pub log_a : IsWhole d.log_a
  pub log_b : IsWhole d.log_b

whole_step : (d : Disk) (m : Done) → IsWholeDisk d → IsWholeDisk (step d m)
whole_step d (Wrote Slots at b) w = record { slots = whole_wrote d.slots at b.items w.slots; log_a = w.log_a; log_b = w.log_b }
whole_step d (Wrote LogA at b) w = record { slots = w.slots; log_a = whole_wrote d.log_a at b.items w.log_a; log_b = w.log_b }
whole_step d (Wrote LogB at b) w = record { slots = w.slots; log_a = w.log_a; log_b = whole_wrote d.log_b at b.items w.log_b }
whole_step d (Synced Slots) w = record { slots = whole_at_rest d.slots.now; log_a = w.log_a; log_b = w.log_b }
whole_step d (Synced LogA) w = record { slots = w.slots; log_a = whole_at_rest d.log_a.now; log_b = w.log_b }
whole_step d (Synced LogB) w = record { slots = w.slots; log_a = w.log_a; log_b = whole_at_rest d.log_b.now }

whole_run : (d : Disk) (ms : List Done) → IsWholeDisk d → IsWholeDisk (run d ms)
whole_run d [] w = w
whole_run d (m ∷ ms) w = whole_run (step d m) ms (whole_step d m w)

-- each disk that is made by a record of calls is whole
pub whole_after : (first : Image) (ms : List Done) → IsWholeDisk (disk_after first ms)
whole_after first ms = whole_run (opened first) ms record {
  slots = whole_at_rest first.slots;
  log_a = whole_at_rest first.log_a;
  log_b =
      whole_at_rest first.log_b;
}

-- what is read is an image
pub now_image : (first : Image) (ms : List Done) → IsImage (disk_after first ms) (now_of (disk_after first ms))
now_image first ms = let w = whole_after first ms in record { slots = w.slots.now; log_a = w.log_a.now; log_b = w.log_b.now }

-- and so is each version that can be picked
pub picked_image : (first : Image) (ms : List Done) (pick : Pick) → IsImage (disk_after first ms) (picked (disk_after first ms) pick)
picked_image first ms Old = let w = whole_after first ms in record { slots = w.slots.old; log_a = w.log_a.old; log_b = w.log_b.old }
picked_image first ms New = now_image first ms
picked_image first ms Ones = let w = whole_after first ms in record { slots = w.slots.ones; log_a = w.log_a.ones; log_b = w.log_b.ones }

-- no image is longer than what is read
pub image_no_longer : (d : Disk) (c : Image) → IsWholeDisk d → IsImage d c → (file : Which) → length (bytes_of c file) ≤ length (bytes_of (now_of d) file)
image_no_longer d c w is Slots = w.slots.no_longer c.slots is.slots
image_no_longer d c w is LogA = w.log_a.no_longer c.log_a is.log_a
image_no_longer d c w is LogB = w.log_b.no_longer c.log_b is.log_b

-- no file becomes shorter
record Grows (d e : Disk) : Type 0 where
  slots : length d.slots.now ≤ length e.slots.now
  log_a : length d.log_a.now ≤ length e.log_a.now
  log_b : length d.log_b.now ≤ length e.log_b.now

grows_step : (d : Disk) (m : Done) → Grows d (step d m)
grows_step d (Wrote Slots at b) = record { slots = (torn_overlay d.slots.now at b.items).no_shorter; log_a = omega arith; log_b = omega arith }
grows_step d (Wrote LogA at b) = record { slots = omega arith; log_a = (torn_overlay d.log_a.now at b.items).no_shorter; log_b = omega arith }
grows_step d (Wrote LogB at b) = record { slots = omega arith; log_a = omega arith; log_b = (torn_overlay d.log_b.now at b.items).no_shorter }
grows_step d (Synced Slots) = record { slots = omega arith; log_a = omega arith; log_b = omega arith }
grows_step d (Synced LogA) = record { slots = omega arith; log_a = omega arith; log_b = omega arith }
grows_step d (Synced LogB) = record { slots = omega arith; log_a = omega arith; log_b = omega arith }

grows_run : (d : Disk) (ms : List Done) → Grows d (run d ms)
grows_run d [] = record { slots = omega arith; log_a = omega arith; log_b = omega arith }
grows_run d (m ∷ ms) = let one = grows_step d m in let more = grows_run (step d m) ms in
    record { slots = omega (arith, one.slots, more.slots); log_a = omega (arith, one.log_a, more.log_a); log_b = omega (arith, one.log_b, more.log_b) }

-- two lists of calls in turn make the disk that both together make
pub run-append : (d : Disk) (ms ns : List Done) → run d (ms ++ ns) ≡ run (run d ms) ns
run-append d [] ns = refl
run-append d (m ∷ ms) ns = run-append (step d m) ms ns

-- the contents that are told are an image
pub told_image : (first : Image) (ms : List Done) (c : Image) → Some (now_of (disk_after first ms)) ≡ Some c → IsImage (disk_after first ms) c
told_image first ms c is = let same : now_of (disk_after first ms) ≡ c = cc is in subst (IsImage (disk_after first ms)) same (now_image first ms)

-- an image of now is an image since any moment so far
pub counts_now_of : (first : Image) (ms : List Done) (t : ℕ) (c : Image) → t ≤ length ms → IsImage (disk_after first ms) c → WasImage first ms t c
counts_now_of first ms t c le is =
    record {
      moment = length ms;
      from = le;
      to = omega arith;
      is =
          subst (λ (l : List Done). IsImage (disk_after first l) c) (sym (take_all (length ms) ms (omega arith))) is;
    }

-- an image since the last moment is an image of now
pub only_now_of : (first : Image) (ms : List Done) (c : Image) → WasImage first ms (length ms) c → IsImage (disk_after first ms) c
only_now_of first ms c w = let a : length ms ≤ w.moment = w.from in subst (λ (l : List Done). IsImage (disk_after first l) c) (take_all w.moment ms a) w.is

-- an image since a later moment is an image since an earlier one
pub later_less_of : (first : Image) (ms : List Done) (t u : ℕ) (c : Image) → t ≤ u → WasImage first ms u c → WasImage first ms t c
later_less_of first ms t u c le w = let a : u ≤ w.moment = w.from in record { moment = w.moment; from = omega (arith, le, a); to = w.to; is = w.is }

bounded_by : (d e : Disk) (c : Image) → Grows d e → ((file : Which) → length (bytes_of c file) ≤ length (bytes_of (now_of d) file)) → IsBounded (now_of e)
    → IsBounded c
bounded_by d e c g le b Slots = omega (arith, g.slots, le Slots, b Slots)
bounded_by d e c g le b LogA = omega (arith, g.log_a, le LogA, b LogA)
bounded_by d e c g le b LogB = omega (arith, g.log_b, le LogB, b LogB)

-- no image since any moment is too long, where what is read now is not
pub bounded_of : (first : Image) (ms : List Done) (t : ℕ) (c : Image) → IsBounded (now_of (disk_after first ms)) → WasImage first ms t c → IsBounded c
bounded_of first ms t c b w =
    let early = take w.moment ms in
    let later : run (disk_after first early) (drop w.moment ms) ≡ disk_after first ms = sym (run-append (opened first) early (drop w.moment ms))
    ∙ ap (disk_after first) (take-append-drop w.moment ms) in
    bounded_by (disk_after first early) (disk_after first ms) c
    (subst (Grows (disk_after first early)) later (grows_run (disk_after first early) (drop w.moment ms)))
    (image_no_longer (disk_after first early) c (whole_after first early) w.is) b
