-- Where a piece is placed, there is room for it and a free slot.
use Rattle.std.proofs.Common.{◌≡◌, ◌≢◌, ℕ, zero, suc, ◌+◌, ◌-◌, ◌<◌, ◌≤◌, ◌==◌, Bool, true, false, nat_le, nat_eq, List, [], ◌∷◌, length, slice_index, Option, Some, None, refl, sym, ap, ◌∙◌, subst, true≢false, if◌then◌else◌, arith, lit≤}
use Rattle.std.proofs.lemmas.Bool.{eqb-true, leb-true}
use Rattle.page_bytes.specs.Fields.{with_bytes, field}
use Rattle.page_bytes.specs.Texts.{TEXT_KIND, slot_at, slot_count, piece_at}
use Rattle.page_bytes.specs.Work.{zeros}
use Rattle.page_bytes.proofs.FieldLaws.{length-with_bytes, bytes_at-written, slice_index-bytes_at}
use Rattle.text_pages.specs.declared.forms.Place.{Place}
use Rattle.text_pages.specs.Slots.{lowest, free_from, free_slot, slots_then, place_for, only_place}
use Rattle.text_pages.specs.Meaning.{HasPiece, IsSound}
use Rattle.text_pages.proofs.PageWithPiece.{IsPlace}
use Rattle.text_pages.proofs.Sounds.{IsOpen}

-- the first free slot is one of those that were looked at, and free, or the one behind them
pub free_from-is : (n slot : ℕ) (page : List ℕ)
    → (free_from n slot page ≤ slot + n) × (free_from n slot page < slot + n → piece_at (free_from n slot page) page ≡ 0)
free_from-is zero slot page = (omega arith, λ less. absurd (omega (arith, less)))
free_from-is (suc n) slot page = at (piece_at slot page == 0) refl (free_from-is n (slot + 1) page)
  where
    at : (b : Bool) → (piece_at slot page == 0) ≡ b
        → (free_from n (slot + 1) page ≤ (slot + 1) + n) × (free_from n (slot + 1) page < (slot + 1) + n → piece_at (free_from n (slot + 1) page) page ≡ 0)
        → ((if b then slot else free_from n (slot + 1) page) ≤ slot + suc n)
        × ((if b then slot else free_from n (slot + 1) page) < slot + suc n → piece_at (if b then slot else free_from n (slot + 1) page) page ≡ 0)
    at true is rest = (omega arith, λ less. eqb-true (piece_at slot page) 0 is)
    at false is rest = (let up = rest.0 in omega (arith, up), λ less. rest.1 (omega (arith, less)))

one_place : (p q : Place) → (let o : Option Place = Some p in o ≡ Some q) → p ≡ q
one_place p q is = cc

module _ (page : List ℕ) where
  slot_is : (free_slot page ≤ slot_count page) × (free_slot page < slot_count page → piece_at (free_slot page) page ≡ 0)
  slot_is = let all = free_from-is (slot_count page) 0 page in (let up = all.0 in omega (arith, up), λ less. all.1 (omega (arith, less)))

  -- with one slot more, or as many
  record IsCount (count : ℕ) : Type 0 where
    slot : free_slot page < count
    old : (s : ℕ) → s < count → s ≢ free_slot page → s < slot_count page
    kept : slot_count page ≤ count

  count_is : IsCount (slots_then page)
  count_is = at (nat_eq (free_slot page) (slot_count page)) refl
    where
      at : (b : Bool) → nat_eq (free_slot page) (slot_count page) ≡ b → IsCount (if b then slot_count page + 1 else slot_count page)
      at true is =
          let same = eqb-true (free_slot page) (slot_count page) is in
          record { slot = omega (arith, same); old = λ s inside differ. behind s same inside differ; kept = omega arith }
        where
          behind : (s : ℕ) → free_slot page ≡ slot_count page → s < slot_count page + 1 → s ≢ free_slot page → s < slot_count page
          behind s same inside differ = omega (arith, same, inside, differ)
      at false is =
          let up = slot_is.0 in
          record { slot = less up; old = λ s inside differ. inside; kept = omega arith }
        where
          less : free_slot page ≤ slot_count page → free_slot page < slot_count page
          less up = let differ : free_slot page ≢ slot_count page =
              λ one. true≢false (sym (ap (λ n. nat_eq n (slot_count page)) one ∙ itself (slot_count page)) ∙ is) in omega (arith, up, differ)
            where
              itself : (n : ℕ) → nat_eq n n ≡ true
              itself n = grind arith

  -- a place is behind the page's first byte and inside it
  pub place_within : (k : ℕ) (place : Place) → lowest page ≤ 4096 → 10 ≤ k → place_for k page ≡ Some place
      → (place.slot < 1022) × (1 ≤ place.at) × (place.at + k ≤ 4096)
  place_within k place low some is = at (nat_le (slot_at (slots_then page) + k) (lowest page)) refl is
    where
      found : slot_at (slots_then page) + k ≤ lowest page → (free_slot page < 1022) × (1 ≤ lowest page - k) × (lowest page - k + k ≤ 4096)
      found fits = let count = count_is in let slot = count.slot in (omega (arith, slot, fits, low, some), omega (arith, fits), omega (arith, fits, low))

      at : (b : Bool) → nat_le (slot_at (slots_then page) + k) (lowest page) ≡ b
          → (if b then Some (record { slot = free_slot page; count = slots_then page; at = lowest page - k }) else None) ≡ Some place
          → (place.slot < 1022) × (1 ≤ place.at) × (place.at + k ≤ 4096)
      at true fits is = subst (λ (p : Place). (p.slot < 1022) × (1 ≤ p.at) × (p.at + k ≤ 4096)) (one_place _ _ is)
          (found (leb-true (slot_at (slots_then page) + k) (lowest page) fits))
      at false fits is = cc

  module _ (sound : IsSound page) (k : ℕ) where
    -- a place found for k bytes on a sound page is below all its pieces, past its slots, and in a free slot
    pub place_is : (place : Place) → place_for k page ≡ Some place → IsPlace page place k
    place_is place is = at (nat_le (slot_at (slots_then page) + k) (lowest page)) refl is
      where
        found : slot_at (slots_then page) + k ≤ lowest page → IsPlace page (record { slot = free_slot page; count = slots_then page; at = lowest page - k }) k
        found fits =
            let count = count_is in let low = sound.low in
            record {
              slot = count.slot;
              count = omega (arith, fits, low);
              behind = omega (arith, fits);
              inside = omega (arith, fits, low);
              old = count.old;
              kept = λ s inside. let more = count.kept in omega (arith, more, inside);
              free = λ has. let none = slot_is.1 has.0 in let some = has.1 in absurd (omega (arith, none, some));
              above = λ s has. let within = (sound.inside s has).0 in omega (arith, fits, within);
            }

        at : (b : Bool) → nat_le (slot_at (slots_then page) + k) (lowest page) ≡ b
            → (if b then Some (record { slot = free_slot page; count = slots_then page; at = lowest page - k }) else None) ≡ Some place → IsPlace page place k
        at true fits is = subst (λ (p : Place). IsPlace page p k) (one_place _ _ is) (found (leb-true (slot_at (slots_then page) + k) (lowest page) fits))
        at false fits is = cc

-- a page of zeros but for its kind has no slot
abbrev pub blank : List ℕ
blank = with_bytes zeros 0 (TEXT_KIND ∷ [])

-- this page is a text page
pub blank_kind : slice_index blank 0 ≡ TEXT_KIND
blank_kind = sym (slice_index-bytes_at blank 0) ∙ ap (λ l. slice_index l 0) (bytes_at-written zeros 0 (TEXT_KIND ∷ []) (omega arith))

-- this page has 4,096 bytes
pub blank_long : length blank ≡ 4096
blank_long = length-with_bytes zeros 0 (TEXT_KIND ∷ []) (lit≤ tt)

-- this page has no slot
pub blank_count : slot_count blank ≡ 0
unfolding field
blank_count = refl

-- the pieces of this page, of which there are none, lie right
pub blank_open : IsOpen blank
blank_open =
    let none : (s : ℕ) → HasPiece blank s → ⊥ = λ s has. let inside = has.0 in let count = blank_count in absurd (omega (arith, inside, count)) in
    record { long = blank_long; inside = λ s has. absurd (none s has); apart = λ s t has has' differ. absurd (none s has) }

-- on this page a text of at most 4,074 bytes has its place: slot 0, at the page's end
pub blank_place : (text : List ℕ) → length text ≤ 4074 → IsPlace blank (only_place text) (10 + length text)
blank_place text short =
    let none : (s : ℕ) → s < slot_count blank → ⊥ = λ s inside. let count = blank_count in absurd (omega (arith, inside, count)) in
    record {
      slot = omega arith;
      count = omega arith;
      behind = omega (arith, short);
      inside = omega (arith, short);
      old = λ s inside differ. absurd (differ (omega (arith, inside)));
      kept = λ s inside. absurd (none s inside);
      free = λ has. none 0 has.0;
      above = λ s has. absurd (none s has.0);
    }
