-- Steps on images: one after another, and what a write makes of an image.
use Rattle.std.proofs.Common.{◌≡◌, ℕ, ◌*◌, ◌≤◌, min, List, [], ◌∷◌, length, take, get_or, false, ◌==◌, Some, None, refl, sym, ap, ◌∙◌, subst, arith}
use Rattle.std.specs.Prelude.{IfSome}
use Rattle.std.specs.List.{list_any}
use Rattle.std.proofs.lemmas.List.{take-take}
use Rattle.page_device.specs.declared.device.Which.{Which}
use Rattle.page_device.specs.declared.device.Which.TheVariants.{Slots}
use Rattle.page_device.specs.Image.{Image, bytes_of, with_bytes, SameOthers}
use Rattle.page_device.specs.Write.{overlay, Torn}
use Rattle.page_device.specs.Device.{TornIn}
use Rattle.page_device.specs.Run.{Each, InPart}
use Rattle.page_device.proofs.Runs.{same_others-twice}
use Rattle.page_device.proofs.Replay.{with_own}
use Rattle.slot_store.specs.declared.planning.Placed.{Placed}
use Rattle.slot_store.specs.Slots.{slot_in, IsInside}
use Rattle.slot_store.specs.Planned.{written_slots, slot_if}
use Rattle.slot_store.specs.Steps.{From, SlotsStand, SlotsWritten, HasImages, BehindGate}
use Rattle.slot_store.proofs.Slots.{torn_slot, written_slot, written_inside, written_torn, not_only}

module _ (step : Image → Image → Type 0) where
  -- an image that a step leaves as it is
  pub from_itself : ((i : Image) → step i i) → (old : Image → Type 0) (i : Image) → old i → From step old i
  from_itself same old i is = record { was = i; is_old = is; does = same i }

  -- two such steps are one
  pub from_twice : ((a b c : Image) → step a b → step b c → step a c) → (old mid : Image → Type 0) → Each mid (From step old) → (i : Image) → From step mid i
      → From step old i
  from_twice both old mid all i f = let was = all f.was f.is_old in
      record { was = was.was; is_old = was.is_old; does = both was.was f.was i was.does f.does }

  -- what a step is, another is
  pub from_weaker : (wider : Image → Image → Type 0) → ((a b : Image) → step a b → wider a b) → (old : Image → Type 0) (i : Image) → From step old i
      → From wider old i
  from_weaker wider f old i s = record { was = s.was; is_old = s.is_old; does = f s.was i s.does }

  -- what a write in part leads to, where each such write is a step
  pub from_part : (file : Which) (at n : ℕ) → ((a b : Image) → TornIn file at n a b → step a b) → (old : Image → Type 0) (i : Image) → InPart file at n old i
      → From step old i
  from_part file at n f old i part = record { was = part.was; is_old = part.is_old; does = f part.was i part.torn }

-- the slots stand where nothing is done
pub stand_still : (written : List ℕ) (i : Image) → SlotsStand written i i
stand_still written i = record { longer = omega arith; stand = λ s none inside. refl }

pub slots_still : (written : List ℕ) (i : Image) → SlotsWritten written i i
slots_still written i = record { others = with_own i Slots; slots = stand_still written i }

-- what stands over two steps stands over both
pub stand_twice : (written : List ℕ) (a b c : Image) → SlotsStand written a b → SlotsStand written b c → SlotsStand written a c
stand_twice written a b c first second = record {
  longer = omega (arith, first.longer, second.longer);
  stand = λ s none inside. second.stand s none (omega (arith, inside, first.longer)) ∙ first.stand s none inside;
}

pub slots_twice : (written : List ℕ) (a b c : Image) → SlotsWritten written a b → SlotsWritten written b c → SlotsWritten written a c
slots_twice written a b c first second = record {
  others = same_others-twice Slots a b c first.others second.others;
  slots = stand_twice written a b c first.slots second.slots;
}

-- a step that writes some of these slots is one that writes these
pub slots_more : (some written : List ℕ) → ((s : ℕ) → list_any (λ t. t == s) written ≡ false → list_any (λ t. t == s) some ≡ false)
    → (a b : Image) → SlotsWritten some a b → SlotsWritten written a b
slots_more some written less a b step = record {
  others = step.others;
  slots = record { longer = step.slots.longer; stand = λ s none inside. step.slots.stand s (less s none) inside };
}

-- a write of a slot in part
pub slot_torn : (slot : ℕ) (a b : Image) → TornIn Slots (slot * 4096) 4096 a b → SlotsWritten (slot ∷ []) a b
slot_torn slot a b torn = record {
  others = torn.others;
  slots = record {
    longer = torn.torn.no_shorter;
    stand = λ s none inside. torn_slot slot s a.slots b.slots torn.torn (not_only slot s none) inside;
  };
}

-- a write of a placed page in part
pub one_torn : (p : Placed) (page : List ℕ) (n : ℕ) → p.page ≡ Some page → n ≡ 4096 → (a b : Image) → TornIn Slots (p.slot * 4096) n a b
    → SlotsWritten (written_slots (p ∷ [])) a b
one_torn p page n is long a b torn =
    subst (λ (ss : List ℕ). SlotsWritten ss a b) (ap (λ o. slot_if p.slot o []) (sym is))
    (slot_torn p.slot a b (subst (λ (m : ℕ). TornIn Slots (p.slot * 4096) m a b) long torn))

-- the write of a page to its slot
pub one_written : (p : Placed) (page : List ℕ) (c d : Image) → p.page ≡ Some page → length page ≡ 4096
    → d ≡ with_bytes c Slots (overlay c.slots (p.slot * 4096) page) → HasImages (p ∷ []) c d
one_written p page c d is long made =
    let slots : d.slots ≡ overlay c.slots (p.slot * 4096) page = ap (λ (z : Image). z.slots) made in
    let others : SameOthers Slots c d = made ∙ ap (with_bytes c Slots) (sym slots) in
    let torn : Torn (p.slot * 4096) 4096 c.slots d.slots = subst (Torn (p.slot * 4096) 4096 c.slots) (sym slots) (written_torn c.slots p.slot page long) in
    record {
      step = subst (λ (ss : List ℕ). SlotsWritten ss c d) (ap (λ o. slot_if p.slot o []) (sym is))
          (slot_torn p.slot c d (record { torn = torn; others = others }));
      each = (
        subst (λ o. IfSome o (λ (g : List ℕ). (slot_in d.slots p.slot ≡ g) × IsInside d.slots p.slot)) (sym is) (
          ap (λ (b : List ℕ). slot_in b p.slot) slots ∙ written_slot c.slots p.slot page long,
          subst (λ (b : List ℕ). IsInside b p.slot) (sym slots) (written_inside c.slots p.slot page long),
        ),
        tt,
      );
    }

-- a page that nothing is written for
pub none_written : (p : Placed) (c : Image) → p.page ≡ None → HasImages (p ∷ []) c c
none_written p c is = record {
  step = slots_still (written_slots (p ∷ [])) c;
  each = (subst (λ o. IfSome o (λ (g : List ℕ). (slot_in c.slots p.slot ≡ g) × IsInside c.slots p.slot)) (sym is) tt, tt);
}

-- a write behind the first byte leaves it
pub torn_behind_gate : (file : Which) (at n : ℕ) (a b : Image) → 1 ≤ at → TornIn file at n a b → BehindGate file a b
torn_behind_gate file at n a b behind torn = record {
  others = torn.others;
  gate = λ g rest is. first g rest (bytes_of b file)
      (front (bytes_of b file) (bytes_of a file) (min at (length (bytes_of a file)))
      (omega (arith, behind, ap length is)) torn.torn.before) is;
}
  where
    front : (xs ys : List ℕ) (m : ℕ) → 1 ≤ m → take m xs ≡ take m ys → take 1 xs ≡ take 1 ys
    front xs ys m le same = sym (take-take 1 m xs le) ∙ (ap (take 1) same ∙ take-take 1 m ys le)

    first : (g : ℕ) (rest now : List ℕ) → take 1 now ≡ take 1 (bytes_of a file) → bytes_of a file ≡ g ∷ rest → (more : List ℕ) × (now ≡ g ∷ more)
    first g rest [] same is = absurd (cc (same ∙ ap (take 1) is))
    first g rest (h ∷ more) same is = (more, ap (λ (l : List ℕ). get_or l 0 0 ∷ more) (same ∙ ap (take 1) is))

pub behind_twice : (file : Which) (a b c : Image) → BehindGate file a b → BehindGate file b c → BehindGate file a c
behind_twice file a b c first second = record {
  others = same_others-twice file a b c first.others second.others;
  gate = λ g rest is. let mid = first.gate g rest is in second.gate g mid.0 mid.1;
}

pub behind_still : (file : Which) (i : Image) → BehindGate file i i
behind_still file i = record { others = with_own i file; gate = λ g rest is. (rest, is) }
