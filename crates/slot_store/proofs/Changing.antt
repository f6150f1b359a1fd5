-- The table of a plan is the old one with the rows of what is written, and without those of what is gone.
use Rattle.std.proofs.Common.{◌≡◌, ℕ, Bool, true, false, ◌||◌, ◌&&◌, List, [], ◌∷◌, ◌++◌, map, Option, Some, None, refl, sym, ap, ◌∙◌, subst, true≢false, append_assoc}
use Rattle.std.specs.List.{list_any, AllByRecursion}
use Rattle.std.specs.Option.{option_map}
use Rattle.std.specs.declared.cmp.Ordering.{Ordering}
use Rattle.std.specs.declared.cmp.Ordering.TheVariants.{Less, Equal, Greater}
use Rattle.std.specs.Ordering.{ordering_reverse, is_eq}
use Rattle.page_bytes.specs.declared.ids.PageId.{PageId}
use Rattle.page_bytes.specs.Order.{page_cmp}
use Rattle.page_bytes.proofs.Orders.{page_cmp-total, page_cmp-exact}
use Rattle.page_versions.specs.declared.version.Version.{Version}
use Rattle.page_versions.specs.declared.version.Image.{Image as PageImage}
use Rattle.page_versions.specs.declared.version.Image.TheVariants.{Resident, Slot, Absent}
use Rattle.page_versions.specs.Chains.{version_at}
use Rattle.slot_store.specs.declared.table.Row.{Row}
use Rattle.slot_store.specs.declared.planning.Placed.{Placed}
use Rattle.slot_store.specs.Head.{IsRowBefore}
use Rattle.slot_store.specs.Table.{Rise, set_by, with_row, without_row, slot_by, slot_of}
use Rattle.slot_store.specs.Planned.{newest_images, with_version, with_image, before_of, image_before, row_of, image_at, is_bytes, is_image, cut_gone, without_gone, put_if, with_written}
use Rattle.page_versions.specs.Kept.{Kept}
use Rattle.std.specs.Cmp.{eq_by_cmp_equiv}
use Rattle.slot_store.proofs.Places.{slot_none, before_all, remove_there, rise_without}
use Rattle.slot_store.proofs.Fitting.{all_before}

-- a page with its versions
abbrev pub Entry : Type 0
Entry = PageId × List Version

-- the pages of these entries are behind a page
abbrev pub KeysAfter : PageId → List Entry → Type 0
KeysAfter k es = AllByRecursion (λ (e : Entry). page_cmp k e.0 ≡ Less) es

-- the entries are in rising order of pages
abbrev pub Sorted : List Entry → Type 0
Sorted [] = Unit {0}
Sorted (e ∷ es) = KeysAfter e.0 es × Sorted es

-- whether a version has an image
abbrev pub has_bytes : Option Version → Bool
has_bytes v = is_image (option_map (λ w. w.image) v)

-- whether a page has an entry with an image at the commit
abbrev pub has_key : ℕ → PageId → List Entry → Bool
has_key commit id es = list_any (λ (e : Entry). is_eq (page_cmp id e.0) && has_bytes (version_at e.1 commit)) es

-- each page with a row has an image
abbrev pub Covered : ℕ → List Entry → List Row → Type 0
Covered commit es rows = AllByRecursion (λ (r : Row). has_key commit r.id es ≡ true) rows

-- the pages of these rows are behind a page
abbrev pub RowsAfter : PageId → List Row → Type 0
RowsAfter k rows = AllByRecursion (λ (r : Row). page_cmp k r.id ≡ Less) rows

-- where a page's image at the commit is in a slot, its row has that slot
abbrev pub IsKnown : Option Version → PageId → List Row → Type 0
IsKnown v id rows = (s : ℕ) → option_map (λ w. w.image) v ≡ Some (Slot s) → slot_of id rows ≡ Some s

abbrev pub AllKnown : ℕ → List Entry → List Row → Type 0
AllKnown commit es rows = AllByRecursion (λ (e : Entry). IsKnown (version_at e.1 commit) e.0 rows) es

turned : (x y : PageId) → page_cmp x y ≡ Less → page_cmp y x ≡ Greater
turned x y less = page_cmp-total.antisymm y x ∙ ap ordering_reverse less

no_key : (commit : ℕ) (id : PageId) (es : List Entry) → KeysAfter id es → has_key commit id es ≡ false
no_key commit id [] keys = refl
no_key commit id (e ∷ es) keys =
    ap (λ o. is_eq o && has_bytes (version_at e.1 commit) || has_key commit id es) keys.0 ∙ no_key commit id es keys.1

earlier_key : (id k : PageId) (es : List Entry) → page_cmp id k ≡ Less → KeysAfter k es → KeysAfter id es
earlier_key id k [] less keys = tt
earlier_key id k (e ∷ es) less keys = (page_cmp-total.trans id k e.0 less keys.0, earlier_key id k es less keys.1)

cover_less : (commit : ℕ) (e : Entry) (es : List Entry) (rows : List Row) → RowsAfter e.0 rows → Covered commit (e ∷ es) rows → Covered commit es rows
cover_less commit e es [] after cover = tt
cover_less commit e es (r ∷ rs) after cover = (
  sym (ap (λ o. is_eq o && has_bytes (version_at e.1 commit) || has_key commit r.id es) (turned e.0 r.id after.0)) ∙ cover.0,
  cover_less commit e es rs after.1 cover.1,
)

not_key : (a b : Bool) → b ≡ false → (a && b) ≡ false
not_key true b is = is
not_key false b is = refl

-- an entry without an image covers nothing
cover_gone : (commit : ℕ) (e : Entry) (es : List Entry) (rows : List Row) → has_bytes (version_at e.1 commit) ≡ false → Covered commit (e ∷ es) rows
    → Covered commit es rows
cover_gone commit e es [] none cover = tt
cover_gone commit e es (r ∷ rs) none cover = (
  sym (ap (λ b. b || has_key commit r.id es) (not_key (is_eq (page_cmp r.id e.0)) (has_bytes (version_at e.1 commit)) none)) ∙ cover.0,
  cover_gone commit e es rs none cover.1,
)

-- a row before the keys is no row of theirs
known_less : (commit : ℕ) (q : Row) (es : List Entry) (rows : List Row) → KeysAfter q.id es → AllKnown commit es (q ∷ rows) → AllKnown commit es rows
known_less commit q [] rows keys known = tt
known_less commit q (e ∷ es) rows keys known = (
  (λ s is. sym (ap (λ o. slot_by o q (slot_of e.0 rows)) (turned q.id e.0 keys.0)) ∙ known.0 s is),
  known_less commit q es rows keys.1 known.1,
)

put_skip : (q : Row) (page : Option (List ℕ)) (r : Row) (rows : List Row) → page_cmp q.id r.id ≡ Less → put_if page r (q ∷ rows) ≡ q ∷ put_if page r rows
put_skip q None r rows less = refl
put_skip q (Some page) r rows less = ap (λ o. set_by o r q rows (with_row r rows)) (turned q.id r.id less)

-- what is written behind a row leaves the row
skip_written : (q : Row) (ps : List Placed) (rows : List Row) → AllByRecursion (λ (p : Placed). page_cmp q.id p.id ≡ Less) ps
    → with_written ps (q ∷ rows) ≡ q ∷ with_written ps rows
skip_written q [] rows after = refl
skip_written q (p ∷ ps) rows after =
    ap (with_written ps) (put_skip q p.page (row_of p) rows after.0) ∙ skip_written q ps (put_if p.page (row_of p) rows) after.1

-- the pages of the newest images are behind a page where all keys are
images_after : (commit : ℕ) (k : PageId) (es : List Entry) → KeysAfter k es
    → AllByRecursion (λ (x : PageId × PageImage). page_cmp k x.0 ≡ Less) (newest_images commit es)
images_after commit k [] keys = tt
images_after commit k (e ∷ es) keys = by (version_at e.1 commit) (images_after commit k es keys.1)
  where
    AreAfter : List (PageId × PageImage) → Type 0
    AreAfter xs = AllByRecursion (λ (x : PageId × PageImage). page_cmp k x.0 ≡ Less) xs

    one : (image : PageImage) → AreAfter (newest_images commit es) → AreAfter (with_image e.0 image (newest_images commit es))
    one (Resident page) more = (keys.0, more)
    one (Slot slot) more = (keys.0, more)
    one Absent more = more

    by : (v : Option Version) → AreAfter (newest_images commit es) → AreAfter (with_version e.0 v (newest_images commit es))
    by None more = more
    by (Some v) more = one v.image more

placed_after : (commit : ℕ) (k : PageId) (es : List Entry) (ps : List Placed) → KeysAfter k es → map before_of ps ≡ newest_images commit es
    → AllByRecursion (λ (p : Placed). page_cmp k p.id ≡ Less) ps
placed_after commit k es ps keys is =
    all_before (λ (x : PageId × PageImage). page_cmp k x.0 ≡ Less) ps
    (subst (AllByRecursion (λ (x : PageId × PageImage). page_cmp k x.0 ≡ Less)) (sym is) (images_after commit k es keys))

-- a row before all others is put in front of them
front_row : (r : Row) (rows : List Row) → RowsAfter r.id rows → with_row r rows ≡ r ∷ rows
front_row r [] after = refl
front_row r (q ∷ qs) after = ap (λ o. set_by o r q qs (with_row r qs)) after.0

-- what is left of the rows behind the first entry's page
pub record Rest (commit : ℕ) (e : Entry) (es : List Entry) (all : List Row) : Type 0 where
  pub rows : List Row
  pub rise : Rise rows
  pub cover : Covered commit es rows
  pub known : AllKnown commit es rows
  pub slot : (s : ℕ) → slot_of e.0 all ≡ Some s → all ≡ record { id = e.0; slot = s } ∷ rows
  pub put : (r : Row) → r.id ≡ e.0 → with_row r all ≡ r ∷ rows

same_some : (s t : ℕ) → Some s ≡ Some t → s ≡ t
same_some s t is = cc is

rest_of : (commit : ℕ) (e : Entry) (es : List Entry) (all : List Row) → KeysAfter e.0 es → Rise all → Covered commit (e ∷ es) all → AllKnown commit es all
    → Rest commit e es all
rest_of commit e es [] keys rise cover known = record {
  rows = [];
  rise = tt;
  cover = tt;
  known = known;
  slot = λ s is. absurd (cc is);
  put = λ r same. refl;
}
rest_of commit e es (q ∷ qs) keys rise cover known = by (page_cmp e.0 q.id) refl
  where
    by : (o : Ordering) → page_cmp e.0 q.id ≡ o → Rest commit e es (q ∷ qs)
    by Less is = let after : RowsAfter e.0 (q ∷ qs) = (is, before_all e.0 q qs is rise.0) in record {
      rows = q ∷ qs;
      rise = rise;
      cover = cover_less commit e es (q ∷ qs) after cover;
      known = known;
      slot = λ s is. absurd (cc (sym (slot_none e.0 (q ∷ qs) after) ∙ is));
      put = λ r same. front_row r (q ∷ qs) (subst (λ k. RowsAfter k (q ∷ qs)) (sym same) after);
    }
    by Equal is =
        let one : e.0 ≡ q.id = page_cmp-exact e.0 q.id is in
        let behind : RowsAfter e.0 qs = subst (λ k. RowsAfter k qs) (sym one) rise.0 in
        let keys_q : KeysAfter q.id es = subst (λ k. KeysAfter k es) one keys in
        record {
          rows = qs;
          rise = rise.1;
          cover = cover_less commit e es qs behind cover.1;
          known = known_less commit q es qs keys_q known;
          slot = λ s there. let slot_is : q.slot ≡ s = same_some q.slot s (sym (ap (λ o. slot_by o q (slot_of e.0 qs)) is) ∙ there) in
              ap (λ (k : PageId). record { id = k; slot = q.slot } ∷ qs) (sym one) ∙ ap (λ (n : ℕ). record { id = e.0; slot = n } ∷ qs) slot_is;
          put = λ r same. ap (λ o. set_by o r q qs (with_row r qs)) (subst (λ k. page_cmp k q.id ≡ Equal) (sym same) is);
        }
    by Greater is =
        let less : page_cmp q.id e.0 ≡ Less = page_cmp-total.antisymm q.id e.0 ∙ ap ordering_reverse is in
        absurd (true≢false (sym cover.0 ∙ no_key commit q.id (e ∷ es) (less, earlier_key q.id e.0 es less keys)))

head_is : {A : Type 0} (x y : A) (xs ys : List A) → x ∷ xs ≡ y ∷ ys → x ≡ y
head_is x y xs ys is = cc is

tail_is : {A : Type 0} (x y : A) (xs ys : List A) → x ∷ xs ≡ y ∷ ys → xs ≡ ys
tail_is x y xs ys is = cc is

no_page : {A : Type 0} (x : A) (xs : List A) → [] ≡ x ∷ xs → ⊥
no_page x xs is = cc is

kept_slot : (slot s : ℕ) (page : Option (List ℕ)) → image_before slot page ≡ Slot s → (page ≡ None) × (slot ≡ s)
kept_slot slot s None is = (refl, cc is)
kept_slot slot s (Some page) is = absurd (cc is)

given_page : (slot : ℕ) (page : Option (List ℕ)) (image : List ℕ) (r : Row) (rows : List Row) → image_before slot page ≡ Resident image
    → put_if page r rows ≡ with_row r rows
given_page slot None image r rows is = absurd (cc is)
given_page slot (Some page) image r rows is = refl

-- what an entry's page adds, where it is known what the others make
module _ (commit : ℕ) (e : Entry) (es : List Entry) (rows : List Row) (keys : KeysAfter e.0 es) (rest : Rest commit e es rows)
    (later : (qs : List Placed) → map before_of qs ≡ newest_images commit es → with_written qs rest.rows ≡ map row_of qs) where
  stays : (s : ℕ) (qs : List Placed) → slot_of e.0 rows ≡ Some s → map before_of qs ≡ (e.0, Slot s) ∷ newest_images commit es
      → with_written qs rows ≡ map row_of qs
  stays s [] there same = absurd (no_page _ _ same)
  stays s (q ∷ qs) there same =
      let first = head_is (before_of q) (e.0, Slot s) (map before_of qs) (newest_images commit es) same in
      let more = tail_is (before_of q) (e.0, Slot s) (map before_of qs) (newest_images commit es) same in
      let id_is : q.id ≡ e.0 = ap (λ x. x.0) first in
      let kept = kept_slot q.slot s q.page (ap (λ x. x.1) first) in
      let row : Row = record { id = e.0; slot = s } in
      let row_is : row ≡ row_of q = ap (λ (k : PageId). record { id = k; slot = s }) (sym id_is) ∙ ap (λ (n : ℕ). record { id = q.id; slot = n }) (sym kept.1) in
      ap (λ page. with_written qs (put_if page (row_of q) rows)) kept.0
      ∙ (ap (with_written qs) (rest.slot s there)
      ∙ (skip_written row qs rest.rows (placed_after commit e.0 es qs keys more)
      ∙ (ap (λ l. row ∷ l) (later qs more) ∙ ap (λ (r : Row). r ∷ map row_of qs) row_is)))

  comes : (image : List ℕ) (qs : List Placed) → map before_of qs ≡ (e.0, Resident image) ∷ newest_images commit es
      → with_written qs rows ≡ map row_of qs
  comes image [] same = absurd (no_page _ _ same)
  comes image (q ∷ qs) same =
      let first = head_is (before_of q) (e.0, Resident image) (map before_of qs) (newest_images commit es) same in
      let more = tail_is (before_of q) (e.0, Resident image) (map before_of qs) (newest_images commit es) same in
      let id_is : q.id ≡ e.0 = ap (λ x. x.0) first in
      ap (with_written qs) (given_page q.slot q.page image (row_of q) rows (ap (λ x. x.1) first) ∙ rest.put (row_of q) id_is)
      ∙ (skip_written (row_of q) qs rest.rows
      (subst (λ k. AllByRecursion (λ (p : Placed). page_cmp k p.id ≡ Less) qs) (sym id_is) (placed_after commit e.0 es qs keys more))
      ∙ ap (λ l. row_of q ∷ l) (later qs more))

  -- the page has an image
  pub added : (image : PageImage) → is_bytes image ≡ true → ((s : ℕ) → Some image ≡ Some (Slot s) → slot_of e.0 rows ≡ Some s) → (qs : List Placed)
      → map before_of qs ≡ with_image e.0 image (newest_images commit es) → with_written qs rows ≡ map row_of qs
  added (Resident page) is there qs same = comes page qs same
  added (Slot slot) is there qs same = stays slot qs (there slot refl) same
  added Absent is there qs same = absurd (cc is)

-- the rows of pages with images, and those that are written: the table of the plan
pub changed : (commit : ℕ) (es : List Entry) (ps : List Placed) (rows : List Row) → Sorted es → Rise rows → Covered commit es rows → AllKnown commit es rows
    → map before_of ps ≡ newest_images commit es → with_written ps rows ≡ map row_of ps
changed commit [] [] [] sorted rise cover known is = refl
changed commit [] [] (r ∷ rs) sorted rise cover known is = absurd (cc cover.0)
changed commit [] (p ∷ ps) rows sorted rise cover known is = absurd (cc is)
changed commit (e ∷ es) ps rows sorted rise cover known is =
    let rest = rest_of commit e es rows sorted.0 rise cover known.1 in
    by (version_at e.1 commit) refl known.0 is
    (λ none. changed commit es ps rows sorted.1 rise (cover_gone commit e es rows none cover) known.1)
    (added commit e es rows sorted.0 rest (λ qs same. changed commit es qs rest.rows sorted.1 rest.rise rest.cover rest.known same))
  where
    Is : List (PageId × PageImage) → Type 0
    Is images = map before_of ps ≡ images

    of_image : (image : PageImage) → (has_bytes (version_at e.1 commit) ≡ is_bytes image) → ((s : ℕ) → Some image ≡ Some (Slot s) → slot_of e.0 rows ≡ Some s)
        → Is (with_image e.0 image (newest_images commit es))
        → (has_bytes (version_at e.1 commit) ≡ false → Is (newest_images commit es) → with_written ps rows ≡ map row_of ps)
        → ((image : PageImage) → is_bytes image ≡ true → ((s : ℕ) → Some image ≡ Some (Slot s) → slot_of e.0 rows ≡ Some s) → (qs : List Placed)
        → map before_of qs ≡ with_image e.0 image (newest_images commit es) → with_written qs rows ≡ map row_of qs)
        → with_written ps rows ≡ map row_of ps
    of_image (Resident page) has there same gone here = here (Resident page) refl there ps same
    of_image (Slot slot) has there same gone here = here (Slot slot) refl there ps same
    of_image Absent has there same gone here = gone has same

    by : (v : Option Version) → version_at e.1 commit ≡ v → IsKnown v e.0 rows → Is (with_version e.0 v (newest_images commit es))
        → (has_bytes (version_at e.1 commit) ≡ false → Is (newest_images commit es) → with_written ps rows ≡ map row_of ps)
        → ((image : PageImage) → is_bytes image ≡ true → ((s : ℕ) → Some image ≡ Some (Slot s) → slot_of e.0 rows ≡ Some s) → (qs : List Placed)
        → map before_of qs ≡ with_image e.0 image (newest_images commit es) → with_written qs rows ≡ map row_of qs)
        → with_written ps rows ≡ map row_of ps
    by None is there same gone here = gone (ap has_bytes is) same
    by (Some v) is there same gone here = of_image v.image (ap has_bytes is) there same gone here

-- the rows of a branch's pages, one side after the other
pub gone_parts : (kept : Kept) (commit : ℕ) (xs : List Row) (m : Row) (ys table : List Row)
    → without_gone kept commit (xs ++ m ∷ ys) table
    ≡ without_gone kept commit ys (cut_gone (is_image (image_at kept commit m.id)) m.id (without_gone kept commit xs table))
gone_parts kept commit [] m ys table = refl
gone_parts kept commit (x ∷ xs) m ys table = gone_parts kept commit xs m ys (cut_gone (is_image (image_at kept commit x.id)) x.id table)

-- a row and others, if it stays
abbrev pub stay_by : Bool → Row → List Row → List Row
stay_by true r rows = r ∷ rows
stay_by false r rows = rows

-- the rows of pages that have an image at the commit
abbrev pub staying : Kept → ℕ → List Row → List Row
staying kept commit [] = []
staying kept commit (r ∷ rs) = stay_by (is_image (image_at kept commit r.id)) r (staying kept commit rs)

pub tied : (id : PageId) → page_cmp id id ≡ Equal
tied id = equal (page_cmp id id) ((eq_by_cmp_equiv page_cmp-total).refl id)
  where
    equal : (o : Ordering) → is_eq o ≡ true → o ≡ Equal
    equal Less is = absurd (cc is)
    equal Equal is = refl
    equal Greater is = absurd (cc is)

gone_behind : (kept : Kept) (commit : ℕ) (done rows : List Row) → Rise (done ++ rows) → without_gone kept commit rows (done ++ rows) ≡ done ++ staying kept commit rows
gone_behind kept commit done [] rise = refl
gone_behind kept commit done (r ∷ rs) rise =
    by (is_image (image_at kept commit r.id))
    (λ (up : Rise ((done ++ r ∷ []) ++ rs)). gone_behind kept commit (done ++ r ∷ []) rs up) (λ (up : Rise (done ++ rs)). gone_behind kept commit done rs up)
  where
    cut : without_row r.id (done ++ r ∷ rs) ≡ done ++ rs
    cut = remove_there r.id r done rs rise (tied r.id)

    parts : (xs : List Row) → (done ++ r ∷ []) ++ xs ≡ done ++ r ∷ xs
    parts xs = append_assoc done (r ∷ []) xs

    by : (b : Bool)
        → (Rise ((done ++ r ∷ []) ++ rs) → without_gone kept commit rs ((done ++ r ∷ []) ++ rs) ≡ (done ++ r ∷ []) ++ staying kept commit rs)
        → (Rise (done ++ rs) → without_gone kept commit rs (done ++ rs) ≡ done ++ staying kept commit rs)
        → without_gone kept commit rs (cut_gone b r.id (done ++ r ∷ rs)) ≡ done ++ stay_by b r (staying kept commit rs)
    by true stays goes = ap (without_gone kept commit rs) (sym (parts rs)) ∙ (stays (subst Rise (sym (parts rs)) rise) ∙ parts (staying kept commit rs))
    by false stays goes = ap (without_gone kept commit rs) cut ∙ goes (subst Rise cut (rise_without r.id (done ++ r ∷ rs) rise))

-- the table without what is gone has the rows that stay
pub gone_all : (kept : Kept) (commit : ℕ) (rows : List Row) → Rise rows → without_gone kept commit rows rows ≡ staying kept commit rows
gone_all kept commit rows rise = gone_behind kept commit [] rows rise

stay_all : (P : Row → Type 0) (kept : Kept) (commit : ℕ) (rows : List Row) → AllByRecursion P rows → AllByRecursion P (staying kept commit rows)
stay_all P kept commit [] all = tt
stay_all P kept commit (r ∷ rs) all = by (is_image (image_at kept commit r.id)) (stay_all P kept commit rs all.1)
  where
    by : (b : Bool) → AllByRecursion P (staying kept commit rs) → AllByRecursion P (stay_by b r (staying kept commit rs))
    by true more = (all.0, more)
    by false more = more

pub stay_rise : (kept : Kept) (commit : ℕ) (rows : List Row) → Rise rows → Rise (staying kept commit rows)
stay_rise kept commit [] rise = tt
stay_rise kept commit (r ∷ rs) rise =
    by (is_image (image_at kept commit r.id)) (stay_all (IsRowBefore r) kept commit rs rise.0) (stay_rise kept commit rs rise.1)
  where
    by : (b : Bool) → AllByRecursion (IsRowBefore r) (staying kept commit rs) → Rise (staying kept commit rs) → Rise (stay_by b r (staying kept commit rs))
    by true all more = (all, more)
    by false all more = more

-- each row that stays is of a page that has an image
pub stay_images : (kept : Kept) (commit : ℕ) (rows : List Row) → AllByRecursion (λ (r : Row). is_image (image_at kept commit r.id) ≡ true) (staying kept commit rows)
stay_images kept commit [] = tt
stay_images kept commit (r ∷ rs) = by (is_image (image_at kept commit r.id)) refl (stay_images kept commit rs)
  where
    by : (b : Bool) → is_image (image_at kept commit r.id) ≡ b → AllByRecursion (λ (q : Row). is_image (image_at kept commit q.id) ≡ true) (staying kept commit rs)
        → AllByRecursion (λ (q : Row). is_image (image_at kept commit q.id) ≡ true) (stay_by b r (staying kept commit rs))
    by true is more = (is, more)
    by false is more = more

-- a page that has an image keeps its slot
pub stay_slot : (kept : Kept) (commit : ℕ) (id : PageId) (rows : List Row) → is_image (image_at kept commit id) ≡ true
    → slot_of id (staying kept commit rows) ≡ slot_of id rows
stay_slot kept commit id [] has = refl
stay_slot kept commit id (q ∷ qs) has = by (page_cmp id q.id) refl (is_image (image_at kept commit q.id)) refl (stay_slot kept commit id qs has)
  where
    rest : List Row
    rest = staying kept commit qs

    by : (o : Ordering) → page_cmp id q.id ≡ o → (b : Bool) → is_image (image_at kept commit q.id) ≡ b → slot_of id rest ≡ slot_of id qs
        → slot_of id (stay_by b q rest) ≡ slot_by o q (slot_of id qs)
    by Less is true stays more = ap (λ o. slot_by o q (slot_of id rest)) is ∙ more
    by Less is false stays more = more
    by Equal is true stays more = ap (λ o. slot_by o q (slot_of id rest)) is
    by Equal is false stays more =
        absurd (true≢false (sym has ∙ ap (λ k. is_image (image_at kept commit k)) (page_cmp-exact id q.id is) ∙ stays))
    by Greater is true stays more = ap (λ o. slot_by o q (slot_of id rest)) is ∙ more
    by Greater is false stays more = more
