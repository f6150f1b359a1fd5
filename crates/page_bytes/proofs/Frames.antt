-- What calls keep that keep to their own: pages that they have nothing to do with, and the texts and the schema entries there.
use Rattle.std.proofs.Common.{◌≡◌, ℕ, zero, suc, ◌+◌, ◌<◌, ◌==◌, ◌&&◌, ⊎_elim, inl, inr, Bool, true, false, not, nat_le, List, [], ◌∷◌, length, slice_index, Option, Some, None, Result, Ok, Err, refl, sym, ap, ◌∙◌, subst, unwrap_or, IsTrue, true≢false, if◌then◌else◌, arith}
use Rattle.std.proofs.lemmas.Bool.{eqb-true}
use Rattle.std.proofs.lemmas.Bool.Decides.{nat_tests}
use Rattle.std.proofs.lemmas.List.{take_all}
use Rattle.std.specs.FinMap as map
use Rattle.page_bytes.specs.declared.ids.Space.{Space}
use Rattle.page_bytes.specs.declared.ids.PageId.{PageId}
use Rattle.page_bytes.specs.declared.ids.Addr.{Addr}
use Rattle.page_bytes.specs.declared.texts.TextRef.{TextRef}
use Rattle.page_bytes.specs.declared.end.PageEnd.{PageEnd}
use Rattle.page_bytes.specs.declared.end.PageEnd.TheVariants.{Damaged}
use Rattle.page_bytes.specs.Fields.{field, bytes_at}
use Rattle.page_bytes.specs.Head.{head_of, is_head, next_page, head_in}
use Rattle.page_bytes.specs.Known.{is_unknown}
use Rattle.page_bytes.specs.Links.{page_in, and_then, asked, tested}
use Rattle.page_bytes.specs.Own.{PageField, HasOwnPage, HasNoField, AreBeside, HasFieldWrite, KeepsPage}
use Rattle.page_bytes.specs.Seen.{bytes, next_of}
use Rattle.page_bytes.specs.Schema.{SCHEMA_KIND, first_schema_page, entry_count, next_schema_page, entry_id, entry_end, is_entry, entry_among, schema_page, Looked, Next, Found, looked_at, looked_on_page, looked_on, first_in, looked, IsSchemaEntry}
use Rattle.page_bytes.specs.Texts.{TEXT_KIND, slot_count, slot_at, is_readable, has_piece, is_piece, piece_page, Joined, with_piece, joined_more, joined, IsTextAt}
use Rattle.page_bytes.specs.Frames.{Call, Keeps, before, behind, IsSpared, SparesText, entry_place, SparesEntries, SparesSchema}
use Rattle.page_bytes.proofs.Askings.{both_gave, test_passed, asked_there, there_asked, one_value, first_true}
use Rattle.page_bytes.proofs.FieldLaws.{field-bytes_at, slice_index-bytes_at}
use Rattle.page_bytes.proofs.Works.{there_is_known}

-- a page that has none of the fields has nothing of them
none_beside : (fields : List PageField) (n at m : ℕ) → HasNoField fields n → AreBeside fields n at m
none_beside [] n at m none = tt
none_beside (field ∷ fields) n at m none = (inl none.0, none_beside fields n at m none.1)

no_write : (fields : List PageField) (n : ℕ) (old new : Option (List ℕ)) → HasNoField fields n → HasFieldWrite fields n old new → new ≡ old
no_write fields n None new none wrote = absurd wrote
no_write fields n (Some old) None none wrote = absurd wrote
no_write fields n (Some old) (Some new) none wrote =
    let long = wrote.long in
    let all : new ≡ old =
    sym (take_all (length old) new (omega (arith, long))) ∙ wrote.beside 0 (length old) (none_beside fields n 0 (length old) none)
    ∙ take_all (length old) old (omega arith) in
    ap (λ (b : List ℕ). Some b) all

-- a page that the call has nothing to do with stays
pub page_stays : (c : Call) (n : ℕ) → Keeps c → IsSpared c n → behind c n ≡ before c n
page_stays c n keeps s = from (keeps.pages n s.beside)
  where
    from : KeepsPage c.own (before c) (behind c) n → behind c n ≡ before c n
    from (inl same) = same
    from (inr (inl changed)) = absurd (⊎_elim (λ is. s.foreign is) (λ new. let early = s.earlier in omega (arith, new.0, early)) changed.0)
    from (inr (inr wrote)) = no_write c.own.fields n (before c n) (behind c n) s.untouched wrote

module _ (c : Call) (keeps : Keeps c) where
  abbrev id_of : ℕ → PageId
  id_of n = page_in c.space n

  -- a page that is there is seen as it is
  seen_there : (n : ℕ) (b : List ℕ) → map.get c.old.now.pages (id_of n) ≡ Some b → before c n ≡ Some b
  seen_there n b is = ap (λ u. if u then c.all (id_of n) else map.get c.old.now.pages (id_of n)) (there_is_known c.old.now (id_of n) b is) ∙ is

  -- and isn't unknown after the call
  still_known : (n : ℕ) (b : List ℕ) → map.get c.old.now.pages (id_of n) ≡ Some b → is_unknown c.new.now (id_of n) ≡ false
  still_known n b is = at (is_unknown c.new.now (id_of n)) refl
    where
      at : (u : Bool) → is_unknown c.new.now (id_of n) ≡ u → is_unknown c.new.now (id_of n) ≡ false
      at true unknown = absurd (true≢false (sym (keeps.known (id_of n) unknown) ∙ there_is_known c.old.now (id_of n) b is))
      at false known = known

  -- so what is seen of it then is what it is asked for
  asked_then : (from : PageId) (n : ℕ) (b b' : List ℕ) → map.get c.old.now.pages (id_of n) ≡ Some b → behind c n ≡ Some b'
      → asked c.new.now from (id_of n) ≡ Ok b'
  asked_then from n b b' is then_is =
      let known = still_known n b is in
      there_asked c.new.now from (id_of n) b' known (sym (ap (λ u. if u then c.all (id_of n) else map.get c.new.now.pages (id_of n)) known) ∙ then_is)

  -- a page of a foreign kind
  foreign_kind : (n kind : ℕ) (b : List ℕ) → map.get c.old.now.pages (id_of n) ≡ Some b → slice_index b 0 ≡ kind → c.own.is_kind kind ≡ false
      → HasOwnPage c.own (before c n) → ⊥
  foreign_kind n kind b is same foreign mine =
      let own : IsTrue (c.own.is_kind (slice_index b 0)) = subst (HasOwnPage c.own) (seen_there n b is) mine in
      true≢false (sym own ∙ ap c.own.is_kind same ∙ foreign)

-- ---- texts

module _ (c : Call) (at : TextRef) (spares : SparesText c at) where
  -- a piece's page is given as before
  piece_stays : (from : ℕ) (piece : TextRef) (page : List ℕ) → 0 < piece.page → HasNoField c.own.fields piece.page → piece.page < next_of (before c)
      → piece_page c.old.now c.space from piece ≡ Ok page → piece_page c.new.now c.space from piece ≡ Ok page
  piece_stays from piece page positive untouched early is =
      let id = page_in c.space piece.page in let source = page_in c.space from in
      let rest : List ℕ → Result (List ℕ) PageEnd = λ bytes.
      and_then (tested id (is_readable bytes) bytes)
      (λ page. and_then (tested source (has_piece piece.slot page) page) (λ page. tested id (is_piece piece.slot page) page)) in
      let asked_is = both_gave (asked c.old.now source id) rest page is in let b = asked_is.0 in
      let tested_is = both_gave (tested id (is_readable b) b)
      (λ page. and_then (tested source (has_piece piece.slot page) page) (λ page. tested id (is_piece piece.slot page) page)) page asked_is.1.1 in
      let kind : slice_index b 0 ≡ TEXT_KIND = eqb-true (slice_index b 0) 5
      (first_true (slice_index b 0 == 5) (nat_le (slot_at (slot_count b)) 4096) (test_passed id (is_readable b) b tested_is.0 tested_is.1.0).0) in
      let here = asked_there c.old.now source id b asked_is.1.0 in
      let same = page_stays c piece.page spares.keeps (record {
        beside = positive;
        foreign = foreign_kind c spares.keeps piece.page TEXT_KIND b here kind spares.kind;
        untouched = untouched;
        earlier = early;
      }) in
      ap (λ r. and_then r rest) (asked_then c spares.keeps source piece.page b b here (same ∙ seen_there c spares.keeps piece.page b here)) ∙ asked_is.1.1

  more_stays : (n : ℕ) (j r : Joined) → joined c.old.now c.space at n ≡ Ok j → joined_more c.old.now c.space j ≡ Ok r → joined_more c.new.now c.space j ≡ Ok r
  more_stays n j r is more = on (j.at.page == 0) refl more
    where
      past : (p : ℕ) → (p == 0) ≡ false → 0 < p
      past zero none = absurd (true≢false none)
      past (suc p) none = omega arith

      on : (b : Bool) → (j.at.page == 0) ≡ b
          → (if b then Ok j else and_then (piece_page c.old.now c.space j.from j.at) (λ page. Ok (with_piece j page))) ≡ Ok r
          → (if b then Ok j else and_then (piece_page c.new.now c.space j.from j.at) (λ page. Ok (with_piece j page))) ≡ Ok r
      on true none gave = gave
      on false some gave =
          let positive = past j.at.page some in
          let piece = both_gave (piece_page c.old.now c.space j.from j.at) (λ page. Ok (with_piece j page)) r gave in
          ap (λ p. and_then p (λ page. Ok (with_piece j page)))
          (piece_stays j.from j.at piece.0 positive (spares.untouched n j is positive) (spares.earlier n j is positive) piece.1.0) ∙ piece.1.1

  joined_stays : (n : ℕ) (r : Joined) → joined c.old.now c.space at n ≡ Ok r → joined c.new.now c.space at n ≡ Ok r
  joined_stays zero r is = is
  joined_stays (suc n) r is =
      let one = both_gave (joined c.old.now c.space at n) (joined_more c.old.now c.space) r is in
      ap (λ j. and_then j (joined_more c.new.now c.space)) (joined_stays n one.0 one.1.0) ∙ more_stays n one.0 r one.1.0 one.1.1

-- a text that the call has nothing to do with stays
pub text_stays : (c : Call) (at : TextRef) (text : List ℕ) → SparesText c at → IsTextAt c.old.now c.space at (Ok text) → IsTextAt c.new.now c.space at (Ok text)
text_stays c at text spares is = (is.0, (is.1.0, (joined_stays c at spares is.0 is.1.0 is.1.1.0, is.1.1.1, is.1.1.2)))

-- ---- schema entries

-- a search among entries reads the id and the name's length of each, and nothing else
module _ (space : Space) (number id : ℕ) (old new : List ℕ) (count : ℕ)
    (ids : (j : ℕ) → j < count → entry_id (entry_place j old) new ≡ entry_id (entry_place j old) old)
    (names : (j : ℕ) → j < count → slice_index new (entry_place j old + 25) ≡ slice_index old (entry_place j old + 25)) where
  end_same : (j : ℕ) → j < count → entry_end (entry_place j old) new ≡ entry_end (entry_place j old) old
  end_same j below = ap (λ length. entry_place j old + 26 + length) (names j below)

  entry_same : (j : ℕ) → j < count → is_entry (entry_place j old) new ≡ is_entry (entry_place j old) old
  entry_same j below =
      let at = entry_place j old in let end = end_same j below in let same = ids j below in
      λ i. nat_le (at + 26) 4096 && (nat_le (end i) 4096 && not (same i == 0))

  among_same : (j left : ℕ) → j + left ≡ count
      → entry_among space number left (entry_place j old) new id ≡ entry_among space number left (entry_place j old) old id
  among_same j zero all = refl
  among_same j (suc left) all =
      let below : j < count = omega (arith, all) in let at = entry_place j old in
      let entry = entry_same j below in let same = ids j below in let end = end_same j below in
      let rest : entry_among space number left (entry_end at new) new id ≡ entry_among space number left (entry_end at old) old id =
      ap (λ at. entry_among space number left at new id) end ∙ among_same (suc j) left (omega (arith, all)) in
      λ i. if not (entry i) then Err (Damaged (page_in space number)) else if same i == id then Ok (Some at) else rest i

module _ (c : Call) (id : ℕ) (spares : SparesSchema c id) where
  -- what is read of a page that stays but for fields beside it
  field_same : (fields : List PageField) (n k at : ℕ) (old new : List ℕ) → HasFieldWrite fields n (Some old) (Some new) → AreBeside fields n at k
      → field k at new ≡ field k at old
  field_same fields n k at old new wrote apart = field-bytes_at k at old new (wrote.beside at k apart)

  byte_same : (fields : List PageField) (n at : ℕ) (old new : List ℕ) → HasFieldWrite fields n (Some old) (Some new) → AreBeside fields n at 1
      → slice_index new at ≡ slice_index old at
  byte_same fields n at old new wrote apart =
      sym (slice_index-bytes_at new at) ∙ ap (λ l. slice_index l 0) (wrote.beside at 1 apart) ∙ slice_index-bytes_at old at

  abbrev Reads : ℕ → List ℕ → Result Looked PageEnd
  Reads number page = and_then (entry_among c.space number (entry_count page) 16 page id) (λ found. Ok (looked_at number page found))

  -- a schema page that has only such fields written is searched as before
  searched : (number : ℕ) (old new : List ℕ) → SparesEntries c.own.fields number old → HasFieldWrite c.own.fields number (Some old) (Some new)
      → Reads number new ≡ Reads number old
  searched number old new spared wrote =
      let count = field_same c.own.fields number 2 2 old new wrote spared.count in
      let next = field_same c.own.fields number 8 8 old new wrote spared.next in
      let among : entry_among c.space number (entry_count old) 16 new id ≡ entry_among c.space number (entry_count old) 16 old id =
      among_same c.space number id old new (entry_count old)
      (λ j below. field_same c.own.fields number 4 (entry_place j old) old new wrote (spared.id j below))
      (λ j below. byte_same c.own.fields number (entry_place j old + 25) old new wrote (spared.name j below))
      0 (entry_count old) (omega arith) in
      let counted : entry_among c.space number (entry_count new) 16 new id ≡ entry_among c.space number (entry_count old) 16 old id =
      ap (λ m. entry_among c.space number m 16 new id) count ∙ among in
      ap (λ r. and_then r (λ found. Ok (looked_at number new found))) counted ∙ noted (entry_among c.space number (entry_count old) 16 old id) next
    where
      looked_same : next_schema_page new ≡ next_schema_page old → (found : Option ℕ) → looked_at number new found ≡ looked_at number old found
      looked_same next None = ap (Next number) next
      looked_same next (Some at) = refl

      noted : (r : Result (Option ℕ) PageEnd) → next_schema_page new ≡ next_schema_page old
          → and_then r (λ found. Ok (looked_at number new found)) ≡ and_then r (λ found. Ok (looked_at number old found))
      noted (Ok found) next = ap (λ l. Ok l) (looked_same next found)
      noted (Err end) next = refl

  -- what a schema page is after the call: it is there, of its kind, and searched as before
  abbrev StaysSearched : ℕ → List ℕ → List ℕ → Type 0
  StaysSearched number old new = (behind c number ≡ Some new) × (slice_index new 0 ≡ slice_index old 0) × (Reads number new ≡ Reads number old)

  page_after : (number : ℕ) (b : List ℕ) → 0 < number → before c number ≡ Some b → (HasOwnPage c.own (before c number) → ⊥) → number < next_of (before c)
      → SparesEntries c.own.fields number b → (new : List ℕ) × StaysSearched number b new
  page_after number b positive was foreign early spared = from (spares.keeps.pages number positive)
    where
      wrote_is : (o : Option (List ℕ)) → behind c number ≡ o → HasFieldWrite c.own.fields number (Some b) o → (new : List ℕ) × StaysSearched number b new
      wrote_is None is wrote = absurd wrote
      wrote_is (Some new) is wrote = (new, (is, wrote.kind, searched number b new spared wrote))

      from : KeepsPage c.own (before c) (behind c) number → (new : List ℕ) × StaysSearched number b new
      from (inl same) = (b, (same ∙ was, refl, refl))
      from (inr (inl changed)) = absurd (⊎_elim (λ is. foreign is) (λ new. omega (arith, new.0, early)) changed.0)
      from (inr (inr wrote)) = wrote_is (behind c number) refl (subst (λ o. HasFieldWrite c.own.fields number o (behind c number)) was wrote)

  -- one page more is looked at as before
  on_page_stays : (n from number : ℕ) (l : Looked) → looked c.old.now c.space id n ≡ Ok (Next from number) → 0 < number
      → looked_on_page c.old.now c.space id from number ≡ Ok l → looked_on_page c.new.now c.space id from number ≡ Ok l
  unfolding bytes
  on_page_stays n from number l at positive is =
      let here = page_in c.space number in let source = page_in c.space from in
      let tests : List ℕ → Result (List ℕ) PageEnd = λ bytes. tested here (slice_index bytes 0 == SCHEMA_KIND) bytes in
      let page = both_gave (schema_page c.old.now c.space from number) (Reads number) l is in
      let asked_is = both_gave (asked c.old.now source here) tests page.0 page.1.0 in let b = asked_is.0 in
      let passed = test_passed here (slice_index b 0 == SCHEMA_KIND) b page.0 asked_is.1.1 in
      let kind : slice_index b 0 ≡ SCHEMA_KIND = eqb-true (slice_index b 0) 3 passed.0 in
      let there = asked_there c.old.now source here b asked_is.1.0 in
      let was = seen_there c spares.keeps number b there in
      let spared : SparesEntries c.own.fields number b =
      subst (λ (o : Option (List ℕ)). SparesEntries c.own.fields number (unwrap_or o [])) was (spares.entries n from number at positive) in
      let after = page_after number b positive was (foreign_kind c spares.keeps number SCHEMA_KIND b there kind spares.kind)
      (spares.earlier n from number at positive) spared in
      let new = after.0 in
      let gave : schema_page c.new.now c.space from number ≡ Ok new =
      ap (λ r. and_then r tests) (asked_then c spares.keeps source number b new there after.1.0)
      ∙ ap (λ k. tested here (k == SCHEMA_KIND) new) after.1.1 ∙ ap (λ passes. tested here passes new) passed.0 in
      ap (λ r. and_then r (Reads number)) gave ∙ after.1.2 ∙ ap (Reads number) passed.1 ∙ page.1.1

  -- the head's first schema page stays
  first_stays : (first : ℕ) → first_in c.old.now c.space ≡ Ok first → first_in c.new.now c.space ≡ Ok first
  unfolding bytes
  first_stays first is =
      let here = head_of c.space in
      let tests : List ℕ → Result (List ℕ) PageEnd = λ head. tested here (is_head head) head in
      let head = both_gave (head_in c.old.now c.space) (λ head. Ok (first_schema_page head)) first is in
      let asked_is = both_gave (asked c.old.now here here) tests head.0 head.1.0 in let b = asked_is.0 in
      let passed = test_passed here (is_head b) b head.0 asked_is.1.1 in
      let there = asked_there c.old.now here here b asked_is.1.0 in
      let was : before c 0 ≡ Some b = seen_there c spares.keeps 0 b there in
      let old_is : bytes (before c) 0 ≡ b = ap (λ o. unwrap_or o []) was in
      after (behind c 0) refl b there old_is passed.0
      (ap first_schema_page passed.1 ∙ one_value (first_schema_page head.0) first head.1.1)
    where
      two_is : (l : List ℕ) → slice_index l 0 ≡ 2 → 0 < length l
      two_is [] is = let none : 0 ≡ 2 = is in absurd (omega (arith, none))
      two_is (x ∷ xs) is = omega arith

      test_is : (k n : ℕ) → k ≡ 2 → 0 < n → (k == 2 && not (n == 0)) ≡ true
      test_is k n two some = grind (arith, nat_tests)

      next_some : (k n : ℕ) → (k == 2 && not (n == 0)) ≡ true → (k ≡ 2) × (0 < n)
      next_some k zero is = absurd (true≢false (sym is ∙ never (k == 2)))
        where
          never : (b : Bool) → (b && false) ≡ false
          never true = refl
          never false = refl
      next_some k (suc n) is = (eqb-true k 2 (first_true (k == 2) (not (suc n == 0)) is), omega arith)

      after : (o : Option (List ℕ)) → behind c 0 ≡ o → (b : List ℕ) → map.get c.old.now.pages (head_of c.space) ≡ Some b → bytes (before c) 0 ≡ b
          → is_head b ≡ true → first_schema_page b ≡ first
          → first_in c.new.now c.space ≡ Ok first
      after None is b there old test same =
          let two = (next_some (slice_index b 0) (next_page b) test).0 in let long = two_is b two in
          let none : length (bytes (behind c) 0) ≡ 0 = ap (λ o. length (unwrap_or o [])) is in
          let count = spares.keeps.long in let was = ap length old in absurd (omega (arith, none, count, was, long))
      after (Some new) is b there old test same =
          let passed = next_some (slice_index b 0) (next_page b) test in
          let now : bytes (behind c) 0 ≡ new = ap (λ o. unwrap_or o []) is in
          let kind : slice_index new 0 ≡ slice_index b 0 =
          sym (slice_index-bytes_at new 0) ∙ ap (λ l. slice_index (bytes_at 0 1 l) 0) (sym now)
          ∙ ap (λ l. slice_index l 0) (spares.keeps.head 0 1 spares.head (inl (omega arith))) ∙ ap (λ l. slice_index (bytes_at 0 1 l) 0) old
          ∙ slice_index-bytes_at b 0 in
          let place : first_schema_page new ≡ first_schema_page b =
          ap first_schema_page (sym now)
          ∙ field-bytes_at 8 10 (bytes (before c) 0) (bytes (behind c) 0) (spares.keeps.head 10 8 spares.first (inr (omega arith)))
          ∙ ap first_schema_page old in
          let next_then = ap next_page now in let next_was = ap next_page old in let raised = spares.keeps.raised in let some = passed.1 in
          let test_then : is_head new ≡ true =
          test_is (slice_index new 0) (next_page new) (kind ∙ passed.0) (omega (arith, next_then, next_was, raised, some)) in
          let here = head_of c.space in
          ap (λ r. and_then (and_then r (λ head. tested here (is_head head) head)) (λ head. Ok (first_schema_page head)))
          (asked_then c spares.keeps here 0 b new there is)
          ∙ ap (λ passes. and_then (tested here passes new) (λ head. Ok (first_schema_page head))) test_then
          ∙ ap (λ (n : ℕ). Ok n) (place ∙ same)

  more_looked : (n : ℕ) (l m : Looked) → looked c.old.now c.space id n ≡ Ok l → looked_on c.old.now c.space id l ≡ Ok m
      → looked_on c.new.now c.space id l ≡ Ok m
  more_looked n (Found number at) m is more = more
  more_looked n (Next from number) m is more = on (number == 0) refl more
    where
      past : (p : ℕ) → (p == 0) ≡ false → 0 < p
      past zero none = absurd (true≢false none)
      past (suc p) none = omega arith

      on : (b : Bool) → (number == 0) ≡ b → (if b then Ok (Next from number) else looked_on_page c.old.now c.space id from number) ≡ Ok m
          → (if b then Ok (Next from number) else looked_on_page c.new.now c.space id from number) ≡ Ok m
      on true none gave = gave
      on false some gave = on_page_stays n from number m is (past number some) gave

  looked_stays : (n : ℕ) (l : Looked) → looked c.old.now c.space id n ≡ Ok l → looked c.new.now c.space id n ≡ Ok l
  looked_stays zero l is =
      let first = both_gave (first_in c.old.now c.space) (λ first. Ok (Next 0 first)) l is in
      ap (λ r. and_then r (λ first. Ok (Next 0 first))) (first_stays first.0 first.1.0) ∙ first.1.1
  looked_stays (suc n) l is =
      let one = both_gave (looked c.old.now c.space id n) (looked_on c.old.now c.space id) l is in
      ap (λ r. and_then r (looked_on c.new.now c.space id)) (looked_stays n one.0 one.1.0) ∙ more_looked n one.0 l one.1.0 one.1.1

-- the place of a schema entry stays where the call keeps off the search for it
pub schema_stays : (c : Call) (id : ℕ) (place : Option Addr) → SparesSchema c id → IsSchemaEntry c.old.now c.space id (Ok place)
    → IsSchemaEntry c.new.now c.space id (Ok place)
schema_stays c id (Some place) spares is = (is.0, looked_stays c id spares is.0 _ is.1)
schema_stays c id None spares is = (is.0, (is.1.0, looked_stays c id spares is.0 _ is.1.1))
