-- Writes of a plan, one after another: its images to their slots, its head behind the gate.
use Rattle.std.proofs.Common.{◌≡◌, ℕ, zero, suc, ◌+◌, ◌-◌, ◌*◌, ◌<◌, ◌≤◌, List, [], ◌∷◌, ◌++◌, length, map, take, drop, get_or, false, ◌==◌, Option, Some, None, refl, sym, ap, ◌∙◌, subst, arith, length-append}
use Rattle.std.specs.Prelude.{IfSome, Result, Ok, Err, OnOk}
use Rattle.std.specs.List.{list_any, AllByRecursion, flat_map}
use Rattle.std.proofs.lemmas.Bool.{or_parts, or_from, ne_eqb}
use Rattle.std.proofs.lemmas.List.{length-map, take_all, take_at, drop-drop, drop_at, drop-take, take-take, take-append-drop}
use Rattle.std.proofs.lemmas.List.Concat.{flat_map-append}
use Rattle.redo_log.specs.Record.{number}
use Rattle.redo_log.proofs.Bodies.{length-number}
use Rattle.page_device.specs.Run.{Each}
use Rattle.slot_store.specs.declared.table.Row.{Row}
use Rattle.page_device.specs.declared.device.Which.{Which}
use Rattle.page_device.specs.Image.{Image, bytes_of, with_bytes}
use Rattle.page_device.specs.Write.{overlay}
use Rattle.page_device.proofs.Bytes.{overlay-inside}
use Rattle.page_device.proofs.Runs.{same_others-twice, bytes_of-with_bytes}
use Rattle.slot_store.specs.declared.planning.Placed.{Placed}
use Rattle.slot_store.specs.Slots.{slot_in, IsInside}
use Rattle.slot_store.specs.Head.{EachPair, row_bytes}
use Rattle.slot_store.specs.Planned.{written_slots, slot_if, AreApart, placed_bytes, row_of}
use Rattle.slot_store.specs.Steps.{From, BehindGate, SlotsWritten, HasImage, HasImages, BeginsWith}
use Rattle.slot_store.proofs.Steps.{slots_twice, slots_more, from_weaker, from_twice, behind_twice}

-- what holds of each holds of one
pub all_at : {X : Type 0} (P : X → Type 0) (xs : List X) (k : ℕ) (d : X) → AllByRecursion P xs → k < length xs → P (get_or xs k d)
all_at P [] k d all less = absurd (omega (arith, less))
all_at P (x ∷ xs) zero d all less = all.0
all_at P (x ∷ xs) (suc k) d all less = all_at P xs k d all.1 (omega (arith, less))

-- each one before a place is related to the one there
pub pairs_at : {X : Type 0} (R : X → X → Type 0) (xs : List X) (k : ℕ) (d : X) → EachPair R xs → k < length xs
    → AllByRecursion (λ (x : X). R x (get_or xs k d)) (take k xs)
pairs_at R [] k d all less = absurd (omega (arith, less))
pairs_at R (x ∷ xs) zero d all less = tt
pairs_at R (x ∷ xs) (suc k) d all less = (all_at (R x) xs k d all.0 (omega (arith, less)), pairs_at R xs k d all.1 (omega (arith, less)))

-- one more at the end
pub all_snoc : {X : Type 0} (P : X → Type 0) (xs : List X) (x : X) → AllByRecursion P xs → P x → AllByRecursion P (xs ++ x ∷ [])
all_snoc P [] x all one = (one, tt)
all_snoc P (y ∷ ys) x all one = (all.0, all_snoc P ys x all.1 one)

behind_if : (s slot : ℕ) (page : Option (List ℕ)) (ss : List ℕ) → list_any (λ t. t == s) (slot_if slot page ss) ≡ false
    → (list_any (λ t. t == s) ss ≡ false) × (list_any (λ t. t == s) (slot_if slot page []) ≡ false)
behind_if s slot None ss none = (none, refl)
behind_if s slot (Some page) ss none = let parts = or_parts (slot == s) (list_any (λ t. t == s) ss) none in (parts.1, or_from (slot == s) false parts.0 refl)

-- a slot that none of these pages writes isn't written by one of them
pub not_by_one : (placed : List Placed) (k : ℕ) (d : Placed) → k < length placed → (s : ℕ) → list_any (λ t. t == s) (written_slots placed) ≡ false
    → list_any (λ t. t == s) (written_slots (get_or placed k d ∷ [])) ≡ false
not_by_one [] k d less s none = absurd (omega (arith, less))
not_by_one (p ∷ ps) zero d less s none = (behind_if s p.slot p.page (written_slots ps) none).1
not_by_one (p ∷ ps) (suc k) d less s none = not_by_one ps k d (omega (arith, less)) s (behind_if s p.slot p.page (written_slots ps) none).0

-- what is read has the images of those pages that are done
pub record WroteSome (placed done : List Placed) (c : Image) (now : Option Image) : Type 0 where
  pub image : Image
  pub told : now ≡ Some image
  pub step : SlotsWritten (written_slots placed) c image
  pub each : AllByRecursion (HasImage image.slots) done

-- an image stays where a page with another slot is written
image_stays : (a b : Image) (p q : Placed) → SlotsWritten (written_slots (p ∷ [])) a b → AreApart q p → HasImage a.slots q → HasImage b.slots q
image_stays a b p q step apart has = one q.page has
  where
    other : (page : Option (List ℕ)) → list_any (λ t. t == q.slot) (slot_if p.slot page []) ≡ false
    other None = refl
    other (Some page) = or_from (p.slot == q.slot) false (ne_eqb p.slot q.slot (λ same. apart (sym same))) refl

    one : (page : Option (List ℕ)) → IfSome page (λ (g : List ℕ). (slot_in a.slots q.slot ≡ g) × IsInside a.slots q.slot)
        → IfSome page (λ (g : List ℕ). (slot_in b.slots q.slot ≡ g) × IsInside b.slots q.slot)
    one None h = tt
    one (Some g) h = (step.slots.stand q.slot (other p.page) h.1 ∙ h.0, omega (arith, h.1, step.slots.longer))

images_stay : (a b : Image) (p : Placed) (qs : List Placed) → SlotsWritten (written_slots (p ∷ [])) a b → AllByRecursion (λ (q : Placed). AreApart q p) qs
    → AllByRecursion (HasImage a.slots) qs → AllByRecursion (HasImage b.slots) qs
images_stay a b p [] step apart has = tt
images_stay a b p (q ∷ qs) step apart has = (image_stays a b p q step apart.0 has.0, images_stay a b p qs step apart.1 has.1)

-- one page more
pub wrote_more : (placed : List Placed) (k : ℕ) (p : Placed) (c : Image) (now next : Option Image) → EachPair AreApart placed → k < length placed
    → p ≡ get_or placed k p → WroteSome placed (take k placed) c now
    → ((a : Image) → now ≡ Some a → (b : Image) × (next ≡ Some b) × HasImages (p ∷ []) a b) → WroteSome placed (take k placed ++ p ∷ []) c next
wrote_more placed k p c now next apart less is was step =
    let a = was.image in let found = step a was.told in let b = found.0 in let has = found.2 in
    let others : AllByRecursion (λ (q : Placed). AreApart q p) (take k placed) =
    subst (λ (x : Placed). AllByRecursion (λ (q : Placed). AreApart q x) (take k placed)) (sym is) (pairs_at AreApart placed k p apart less) in
    record {
      image = b;
      told = found.1;
      step = slots_twice (written_slots placed) c a b was.step
          (slots_more (written_slots (p ∷ [])) (written_slots placed)
          (λ s none. subst (λ (x : Placed). list_any (λ t. t == s) (written_slots (x ∷ [])) ≡ false) (sym is) (not_by_one placed k p less s none))
          a b has.step);
      each = all_snoc (HasImage b.slots) (take k placed) p (images_stay a b p (take k placed) has.step others was.each) has.each.0;
    }

-- a write behind a front leaves the front, and its bytes stand there
pub on_front : (front rest bytes : List ℕ) (at : ℕ) → length front ≡ at → overlay (front ++ rest) at bytes ≡ (front ++ bytes) ++ drop (length bytes) rest
on_front front rest bytes at long =
    overlay-inside (front ++ rest) at bytes (omega (arith, long, length-append front rest))
    ∙ (ap (λ (l : List ℕ). l ++ bytes ++ drop (at + length bytes) (front ++ rest)) (take_at front rest at long)
    ∙ ap (λ (l : List ℕ). front ++ bytes ++ l) (sym (drop-drop (length bytes) at (front ++ rest)) ∙ ap (drop (length bytes)) (drop_at front rest at long)))

-- what is read after such a write
pub begins_more : (file : Which) (front rest bytes : List ℕ) (at : ℕ) (c : Image) (now : Option Image) → length front ≡ at → bytes_of c file ≡ front ++ rest
    → now ≡ Some (with_bytes c file (overlay (bytes_of c file) at bytes)) → BeginsWith file (front ++ bytes) c now
begins_more file front rest bytes at c now long is told =
    let new = overlay (bytes_of c file) at bytes in record {
      image = with_bytes c file new;
      told = told;
      others = ap (with_bytes c file) (sym (bytes_of-with_bytes c file new));
      rest = drop (length bytes) rest;
      is = bytes_of-with_bytes c file new ∙ (ap (λ (l : List ℕ). overlay l at bytes) is ∙ on_front front rest bytes at long);
    }

-- two such writes, one behind the other
pub begins_twice : (file : Which) (one two : List ℕ) (c : Image) (now next : Option Image) → (first : BeginsWith file one c now)
    → BeginsWith file two first.image next → BeginsWith file two c next
begins_twice file one two c now next first second = record {
  image = second.image;
  told = second.told;
  others = same_others-twice file c first.image second.image first.others second.others;
  rest = second.rest;
  is = second.is;
}

-- all pages are done
pub images_of_some : (placed : List Placed) (k : ℕ) (c : Image) (now : Option Image) → length placed ≤ k → WroteSome placed (take k placed) c now
    → (d : Image) × (now ≡ Some d) × HasImages placed c d
images_of_some placed k c now done some = (
  some.image,
  some.told,
  record {
    step = some.step;
    each = subst (AllByRecursion (HasImage some.image.slots)) (take_all k placed done) some.each;
  },
)

-- an image that comes from the write of one of the pages comes from a write of these pages
pub one_of_many : (placed : List Placed) (k : ℕ) (p : Placed) → k < length placed → p ≡ get_or placed k p → (old : Image → Type 0) (i : Image)
    → From (SlotsWritten (written_slots (p ∷ []))) old i → From (SlotsWritten (written_slots placed)) old i
one_of_many placed k p less is old i from =
    from_weaker (SlotsWritten (written_slots (p ∷ []))) (SlotsWritten (written_slots placed))
    (slots_more (written_slots (p ∷ [])) (written_slots placed)
    (λ s none. subst (λ (x : Placed). list_any (λ t. t == s) (written_slots (x ∷ [])) ≡ false) (sym is) (not_by_one placed k p less s none))) old i from

-- and three
pub begins_thrice : (file : Which) (one two three : List ℕ) (c : Image) (now next last : Option Image) → (first : BeginsWith file one c now)
    → (second : BeginsWith file two first.image next) → BeginsWith file three second.image last → BeginsWith file three c last
begins_thrice file one two three c now next last first second third = record {
  image = third.image;
  told = third.told;
  others = same_others-twice file c second.image third.image (same_others-twice file c first.image second.image first.others second.others) third.others;
  rest = third.rest;
  is = third.is;
}

-- an image that comes from a write behind the gate, and one from such an image
pub behind_again : (file : Which) (old mid : Image → Type 0) → Each mid (From (BehindGate file) old) → (i : Image) → From (BehindGate file) mid i
    → From (BehindGate file) old i
behind_again file old mid all i from = from_twice (BehindGate file) (behind_twice file) old mid all i from

-- the same of all such images
pub behind_all : (file : Which) (old mid new : Image → Type 0) → Each mid (From (BehindGate file) old) → Each new (From (BehindGate file) mid)
    → Each new (From (BehindGate file) old)
behind_all file old mid new all more i left = behind_again file old mid all i (more i left)

-- the first of some pages, and those whose rows are written next
pub rows_more : (rows : List Placed) (place next : ℕ) → place ≤ next
    → flat_map placed_bytes (take next rows) ≡ flat_map placed_bytes (take place rows) ++ flat_map placed_bytes (take (next - place) (drop place rows))
rows_more rows place next le =
    ap (λ (n : ℕ). flat_map placed_bytes (take n rows)) (omega arith)
    ∙ (ap (flat_map placed_bytes) (take_parts rows place (next - place)) ∙ flat_map-append placed_bytes (take place rows) (take (next - place) (drop place rows)))
  where
    take_parts : (xs : List Placed) (k n : ℕ) → take (k + n) xs ≡ take k xs ++ take n (drop k xs)
    take_parts xs k n =
        let front = ap (λ l. l ++ drop k (take (k + n) xs)) (take-take k (k + n) xs (omega arith)) in
        sym (take-append-drop k (take (k + n) xs)) ∙ (front ∙ ap (λ l. take k xs ++ l) (drop-take k n xs))

-- how many bytes some rows have
pub length-rows : (rows : List Row) → length (flat_map row_bytes rows) ≡ length rows * 32
length-rows [] = refl
length-rows (r ∷ rs) = omega (arith, length-append (row_bytes r) (flat_map row_bytes rs), length-row r, length-rows rs)
  where
    length-row : (r : Row) → length (row_bytes r) ≡ 32
    length-row r = omega (
      arith,
      length-append ((number r.id.space.commit ++ number r.id.space.ordinal) ++ number r.id.number) (number r.slot),
      length-append (number r.id.space.commit ++ number r.id.space.ordinal) (number r.id.number),
      length-append (number r.id.space.commit) (number r.id.space.ordinal),
      length-number r.id.space.commit,
      length-number r.id.space.ordinal,
      length-number r.id.number,
      length-number r.slot,
    )

-- the rows of some pages have the same bytes
pub bytes_placed : (placed : List Placed) → flat_map placed_bytes placed ≡ flat_map row_bytes (map row_of placed)
bytes_placed [] = refl
bytes_placed (p ∷ ps) = ap (λ (l : List ℕ). placed_bytes p ++ l) (bytes_placed ps)

-- how many these are
pub length-placed : (placed : List Placed) → length (flat_map placed_bytes placed) ≡ length placed * 32
length-placed placed = ap length (bytes_placed placed) ∙ length-rows (map row_of placed) ∙ ap (λ (n : ℕ). n * 32) (length-map placed row_of)

-- of two things that hold after Ok
pub both_ok : {T E : Type 0} (r : Result T E) (A B C : Type 0) → (A → B → C) → OnOk r A → OnOk r B → OnOk r C
both_ok (Ok x) A B C f a b = f a b
both_ok (Err e) A B C f a b = tt
