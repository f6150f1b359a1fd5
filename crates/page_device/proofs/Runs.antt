-- How a run of calls goes on, and what a write and a sync of a file leave in it, which may differ from image to image.
use Rattle.std.proofs.Common.{◌≡◌, inl, inr, ⊎_elim, ℕ, Option, List, refl, ap, ◌∙◌, subst, arith}
use Rattle.page_device.specs.declared.device.Which.{Which}
use Rattle.page_device.specs.declared.device.Which.TheVariants.{Slots, LogA, LogB}
use Rattle.page_device.specs.Image.{Image, bytes_of, with_bytes, SameOthers}
use Rattle.page_device.specs.Write.{Torn}
use Rattle.page_device.specs.Device.{TornImage, Follows, Shrinks, KeepsOthers, FileIs, Elapses}
use Rattle.page_device.specs.Run.{Each, LeavesOnly, OthersFrom, InPart}
use Rattle.page_device.proofs.Replay.{torn_stays}

-- a file is what was put into the image
pub bytes_of-with_bytes : (c : Image) (file : Which) (b : List ℕ) → bytes_of (with_bytes c file b) file ≡ b
bytes_of-with_bytes c Slots b = refl
bytes_of-with_bytes c LogA b = refl
bytes_of-with_bytes c LogB b = refl

-- of two changes of one file the second stands
pub with_bytes-twice : (c : Image) (file : Which) (a b : List ℕ) → with_bytes (with_bytes c file a) file b ≡ with_bytes c file b
with_bytes-twice c Slots a b = refl
with_bytes-twice c LogA a b = refl
with_bytes-twice c LogB a b = refl

module _ {D : Type 0} (moment : D → ℕ) (left_since : D → ℕ → Image → Type 0) where
  -- before the first call
  pub started : (old : D) (P : Image → Type 0) → ((c : Image) → left_since old (moment old) c → P c) → LeavesOnly moment left_since old old P
  started old P here = record { later = omega arith; each = here; before = λ t c le left. inl left }

  -- one call more, after which a crash leaves what has P
  pub goes_on : (old mid new : D) (P may_leave : Image → Type 0) → LeavesOnly moment left_since old mid P
      → Elapses (moment mid) (moment new) (left_since mid) (left_since new) may_leave
      → ((c : Image) → may_leave c → P c) → LeavesOnly moment left_since old new P
  goes_on old mid new P may_leave so_far time here = record {
    later = omega (arith, so_far.later, time.later);
    each = λ c left. ⊎_elim (so_far.each c) (here c) (time.nothing_else (moment old) c so_far.later left);
    before = λ t c le left. ⊎_elim (so_far.before t c le) (λ now. inr (here c now)) (time.nothing_else t c (omega (arith, le, so_far.later)) left);
  }

  -- what has P has R
  pub weaker : (old new : D) (P R : Image → Type 0) → LeavesOnly moment left_since old new P → ((c : Image) → P c → R c)
      → LeavesOnly moment left_since old new R
  weaker old new P R run f =
      record { later = run.later; each = λ c left. f c (run.each c left); before = λ t c le left. ⊎_elim inl (λ is. inr (f c is)) (run.before t c le left) }

  -- a second part of a run
  pub joined : (old mid new : D) (P Q R : Image → Type 0) → LeavesOnly moment left_since old mid P → LeavesOnly moment left_since mid new Q
      → ((c : Image) → P c → R c) → ((c : Image) → Q c → R c)
      → LeavesOnly moment left_since old new R
  joined old mid new P Q R first second p q = record {
    later = omega (arith, first.later, second.later);
    each = λ c left. ⊎_elim (λ was. p c (first.each c was)) (q c) (second.before (moment old) c first.later left);
    before = λ t c le left. ⊎_elim (λ was. ⊎_elim inl (λ is. inr (p c is)) (first.before t c le was)) (λ is. inr (q c is))
        (second.before t c (omega (arith, le, first.later)) left);
  }

-- what is left of a write is left of two that the file took
pub same_others-twice : (file : Which) (c d e : Image) → SameOthers file c d → SameOthers file d e → SameOthers file c e
same_others-twice file c d e first second = second
    ∙ (ap (λ (z : Image). with_bytes z file (bytes_of e file)) first ∙ with_bytes-twice c file (bytes_of d file) (bytes_of e file))

-- what a crash can leave of the other files stays over two steps that each keep it
pub keeps_others-twice : (file : Which) (old mid new : Image → Type 0) → KeepsOthers file old mid → KeepsOthers file mid new → KeepsOthers file old new
keeps_others-twice file old mid new first second c is = let d = first c is in let e = second d.0 d.1 in (e.0, e.1, same_others-twice file c d.0 e.0 d.2 e.2)

-- an image with a write done in part has its other files from an image from before
pub others_from : (file : Which) (at n : ℕ) (old : Image → Type 0) (i : Image) → InPart file at n old i → OthersFrom file old i
others_from file at n old i part = record { was = part.was; is_old = part.is_old; same = part.torn.others }

-- the other files of an image that come from the images in between, each with a write done in part, come from those before
pub others_from-twice : (file : Which) (at n : ℕ) (old mid : Image → Type 0) → Each mid (InPart file at n old) → (i : Image) → OthersFrom file mid i
    → OthersFrom file old i
others_from-twice file at n old mid all i o = let part = all o.was o.is_old in
    record { was = part.was; is_old = part.is_old; same = same_others-twice file part.was o.was i part.torn.others o.same }

-- of a file that each image has as it is read, what is left is that file with the write done in part
pub torn_from : (file : Which) (at n : ℕ) (bytes : List ℕ) (old : Image → Type 0) → FileIs file bytes old → (i : Image) → InPart file at n old i
    → Torn at n bytes (bytes_of i file)
torn_from file at n bytes old synced i part = subst (λ (b : List ℕ). Torn at n b (bytes_of i file)) (synced part.was part.is_old) part.torn.torn

module _ (file : Which) (at n : ℕ) (old : Image → Type 0) where
  -- an image from before the write
  pub still : (i : Image) → old i → InPart file at n old i
  still i is = record { was = i; is_old = is; torn = torn_stays file at n i }

  -- one from after it
  pub written : (told : Option Image) (new : Image → Type 0) → Follows (TornImage file at n told) old new → Each new (InPart file at n old)
  written told new follows i is = let from = follows i is in record { was = from.0; is_old = from.1; torn = from.2.write }

-- the run of a write, and of a sync after it
module _ {D : Type 0} (moment : D → ℕ) (left_since : D → ℕ → Image → Type 0) (may_leave : D → Image → Type 0) (only_now : (d : D) (c : Image)
    → left_since d (moment d) c → may_leave d c)
    (file : Which) (at n : ℕ) (old : D) where
  -- a run of one write leaves only images from before, in which that write was done in part or not at all
  pub after_a_write : (told : Option Image) (new : D) → Follows (TornImage file at n told) (may_leave old) (may_leave new)
      → Elapses (moment old) (moment new) (left_since old) (left_since new) (may_leave new)
      → LeavesOnly moment left_since old new (InPart file at n (may_leave old))
  after_a_write told new follows time = goes_on moment left_since old old new (InPart file at n (may_leave old)) (may_leave new)
      (started moment left_since old (InPart file at n (may_leave old)) (λ i left. still file at n (may_leave old) i (only_now old i left))) time
      (written file at n (may_leave old) told (may_leave new) follows)

  -- a run of a write and then a sync leaves only images from before, in which that write was done in part or not at all
  pub after_both : (told : Option Image) (mid new : D) → Follows (TornImage file at n told) (may_leave old) (may_leave mid)
      → Elapses (moment old) (moment mid) (left_since old) (left_since mid) (may_leave mid)
      → Shrinks (may_leave mid) (may_leave new) → Elapses (moment mid) (moment new) (left_since mid) (left_since new) (may_leave new)
      → LeavesOnly moment left_since old new (InPart file at n (may_leave old))
  after_both told mid new follows time shrinks time' =
      goes_on moment left_since old mid new (InPart file at n (may_leave old)) (may_leave new) (after_a_write told mid follows time) time'
      (λ i left. written file at n (may_leave old) told (may_leave mid) follows i (shrinks i left))
