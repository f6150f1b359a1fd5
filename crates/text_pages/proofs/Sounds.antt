-- Text pages stay sound where a piece is put in, and where one of several is taken out.
use Rattle.std.proofs.Common.{◌≡◌, ◌≢◌, ℕ, zero, suc, ◌+◌, ◌<◌, ◌≤◌, ◌==◌, ◌&&◌, inl, inr, Bool, true, false, not, nat_lt, nat_eq, List, length, refl, sym, ◌∙◌, subst, eq-eqb, true≢false, if◌then◌else◌, arith}
use Rattle.std.proofs.lemmas.Bool.{eqb-true}
use Rattle.page_bytes.specs.declared.texts.TextRef.{TextRef}
use Rattle.page_bytes.specs.Texts.{slot_count, piece_at, piece_length}
use Rattle.text_pages.specs.declared.forms.Place.{Place}
use Rattle.text_pages.specs.Slots.{lowest, with_piece, hole_of, closed}
use Rattle.text_pages.specs.Meaning.{HasPiece, AreApart, IsSound}
use Rattle.text_pages.proofs.PageWithPiece.{IsPlace, long_new, new_count, new_lowest, new_at, new_length, same_at, same_length}
use Rattle.text_pages.proofs.PageWithoutPiece as out
use Rattle.text_pages.proofs.Ranges.{split}

-- a number is another one, or not
pub same_or_not : (s t : ℕ) {P : Type 0} → (s ≡ t → P) → (s ≢ t → P) → P
same_or_not s t {P = P} same other = at (nat_eq s t) refl
  where
    at : (b : Bool) → nat_eq s t ≡ b → P
    at true is = same (eqb-true s t is)
    at false is = other (λ one. true≢false (sym (eq-eqb s t one) ∙ is))

-- a page whose pieces lie right, if it has any
pub record IsOpen (page : List ℕ) : Type 0 where
  pub long : length page ≡ 4096
  pub inside : (s : ℕ) → HasPiece page s → (11 ≤ piece_length s page) × (piece_at s page + piece_length s page ≤ 4096)
  pub apart : (s t : ℕ) → HasPiece page s → HasPiece page t → s ≢ t → AreApart page s t

-- the pieces of a sound page lie right
pub open_page : (page : List ℕ) → IsSound page → IsOpen page
open_page page s = record { long = s.long; inside = λ t has. ((s.inside t has).1, (s.inside t has).2); apart = s.apart }

module _ (page : List ℕ) (place : Place) (next : TextRef) (text : List ℕ) (o : IsOpen page) (p : IsPlace page place (10 + length text))
    (some : 0 < length text) where
  abbrev new : List ℕ
  new = with_piece place next text page

  at_is : piece_at place.slot new ≡ place.at
  at_is = new_at page place next text o.long p

  length_is : piece_length place.slot new ≡ 10 + length text
  length_is = new_length page place next text o.long p

  count_is : slot_count new ≡ place.count
  count_is = new_count page place next text o.long p

  low_is : lowest new ≡ place.at
  low_is = new_lowest page place next text o.long p

  -- another slot's piece was there
  record IsOld (s : ℕ) : Type 0 where
    has : HasPiece page s
    at : piece_at s new ≡ piece_at s page
    size : piece_length s new ≡ piece_length s page

  old : (s : ℕ) → HasPiece new s → s ≢ place.slot → IsOld s
  old s has differ =
      let inside : s < place.count = let count = count_is in let within = has.0 in omega (arith, count, within) in
      let at = same_at page place next text o.long p s inside differ in let positive = has.1 in
      record { has = (p.old s inside differ, omega (arith, at, positive)); at = at; size = same_length page place next text o.long p s inside differ }

  inside_new : (s : ℕ) → HasPiece new s → (lowest new ≤ piece_at s new) × (11 ≤ piece_length s new) × (piece_at s new + piece_length s new ≤ 4096)
  inside_new s has = same_or_not s place.slot
      (λ same. let low = low_is in let at = at_is in let size = length_is in let within = p.inside in
      subst (λ s. (lowest new ≤ piece_at s new) × (11 ≤ piece_length s new) × (piece_at s new + piece_length s new ≤ 4096)) (sym same)
      (omega (arith, low, at), omega (arith, size, some), omega (arith, at, size, within)))
      (λ differ. let was = old s has differ in let above = p.above s was.has in let low = low_is in let inside = o.inside s was.has in let at = was.at in
      let size = was.size in
      (omega (arith, above, low, at), omega (arith, inside, size), omega (arith, inside, at, size)))

  apart_new : (s t : ℕ) → HasPiece new s → HasPiece new t → s ≢ t → AreApart new s t
  apart_new s t has has' differ = same_or_not s place.slot
      (λ same. let other : t ≢ place.slot = λ is. differ (same ∙ sym is) in
      let was = old t has' other in let above = p.above t was.has in let at = at_is in let size = length_is in let at' = was.at in
      subst (λ s. AreApart new s t) (sym same) (inl (omega (arith, above, at, size, at'))))
      (λ apart_s. same_or_not t place.slot
      (λ same. let was = old s has apart_s in let above = p.above s was.has in let at = at_is in let size = length_is in let at' = was.at in
      subst (λ t. AreApart new s t) (sym same) (inr (omega (arith, above, at, size, at'))))
      (λ apart_t. let one = old s has apart_s in let two = old t has' apart_t in
      let at = one.at in let size = one.size in let at' = two.at in let size' = two.size in
      split (o.apart s t one.has two.has differ) (λ l. inl (omega (arith, l, at, size, at'))) (λ r. inr (omega (arith, r, at, at', size')))))

  -- the page has a piece in the slot of the place
  pub has_new : HasPiece (with_piece place next text page) place.slot
  has_new = let count = count_is in let behind = p.behind in let slot = p.slot in let at = at_is in (omega (arith, count, slot), omega (arith, at, behind))

  -- the page is sound once the piece is put in, if it has a byte of text
  pub sound_with : IsSound (with_piece place next text page)
  sound_with =
      let count = count_is in let low = low_is in let behind = p.behind in let within = p.inside in let slot = p.slot in let at = at_is in
      record {
        long = long_new page place next text o.long p;
        slots = omega (arith, count, low, behind);
        low = omega (arith, low, within);
        inside = inside_new;
        apart = apart_new;
        some = (place.slot, has_new);
      }

-- a piece is taken out, and another one is there
module _ (page : List ℕ) (slot : ℕ) (sound : IsSound page) (has : HasPiece page slot) (t : ℕ) (other : HasPiece page t) (apart : t ≢ slot) where
  abbrev left : List ℕ
  left = closed (hole_of slot page) page

  -- a piece that is left was there
  pub was_there : (s : ℕ) → HasPiece left s → HasPiece page s × (s ≢ slot)
  was_there s is =
      let count = out.new_count page slot sound has in let within = is.0 in let inside : s < slot_count page = omega (arith, count, within) in
      let differ : s ≢ slot = λ same. let free = out.slot_free page slot sound has in let some = subst (λ s. 0 < piece_at s left) same is.1 in
      absurd (omega (arith, free, some)) in
      ((inside, positive (piece_at s page) (out.slot_moved page slot sound has s inside differ) is.1), differ)
    where
      positive : (n : ℕ) → piece_at s left ≡ (if not (n == 0) && nat_lt n (piece_at slot page) then n + piece_length slot page else n) → 0 < piece_at s left
          → 0 < n
      positive zero same some = absurd (omega (arith, same, some))
      positive (suc n) same some = omega arith

  inside_left : (s : ℕ) → HasPiece left s → (lowest left ≤ piece_at s left) × (11 ≤ piece_length s left) × (piece_at s left + piece_length s left ≤ 4096)
  inside_left s is =
      let was = was_there s is in let there = was.0 in let differ = was.1 in
      let low = out.new_lowest page slot sound has in let size = out.length_stays page slot sound has s there.0 differ in
      let within = sound.inside s there in let hole = sound.inside slot has in
      split (out.either_place page slot sound has s there differ)
      (λ (m : out.IsMoved page slot sound has s there differ). let at = m.at in let before = m.before in
      (omega (arith, at, low, within), omega (arith, size, within), omega (arith, at, size, before, hole)))
      (λ (m : out.IsStill page slot sound has s there differ). let at = m.at in let behind = m.behind in
      (omega (arith, at, low, behind, hole), omega (arith, size, within), omega (arith, at, size, within)))

  apart_left : (s u : ℕ) → HasPiece left s → HasPiece left u → s ≢ u → AreApart left s u
  apart_left s u is is' differ =
      let was = was_there s is in let was' = was_there u is' in
      let size = out.length_stays page slot sound has s was.0.0 was.1 in let size' = out.length_stays page slot sound has u was'.0.0 was'.1 in
      split (out.either_place page slot sound has s was.0 was.1)
      (λ (m : out.IsMoved page slot sound has s was.0 was.1). let at = m.at in let before = m.before in
      split (out.either_place page slot sound has u was'.0 was'.1)
      (λ (m' : out.IsMoved page slot sound has u was'.0 was'.1). let at' = m'.at in
      split (sound.apart s u was.0 was'.0 differ) (λ l. inl (omega (arith, l, at, at', size))) (λ r. inr (omega (arith, r, at, at', size'))))
      (λ (m' : out.IsStill page slot sound has u was'.0 was'.1). let at' = m'.at in let behind = m'.behind in
      inl (omega (arith, at, at', before, behind, size))))
      (λ (m : out.IsStill page slot sound has s was.0 was.1). let at = m.at in let behind = m.behind in
      split (out.either_place page slot sound has u was'.0 was'.1)
      (λ (m' : out.IsMoved page slot sound has u was'.0 was'.1). let at' = m'.at in let before = m'.before in
      inr (omega (arith, at, at', before, behind, size')))
      (λ (m' : out.IsStill page slot sound has u was'.0 was'.1). let at' = m'.at in
      split (sound.apart s u was.0 was'.0 differ) (λ l. inl (omega (arith, l, at, at', size))) (λ r. inr (omega (arith, r, at, at', size')))))

  -- the page is sound once the piece is taken out
  pub sound_without : IsSound (closed (hole_of slot page) page)
  sound_without =
      let count = out.new_count page slot sound has in let low = out.new_lowest page slot sound has in let slots = sound.slots in let hole =
      sound.inside slot has in
      record {
        long = out.long_new page slot sound has;
        slots = omega (arith, count, low, slots);
        low = omega (arith, low, hole);
        inside = inside_left;
        apart = apart_left;
        some = (t, out.still_has page slot sound has t other apart);
      }
