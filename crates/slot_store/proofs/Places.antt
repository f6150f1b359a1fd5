-- Where a row stands among rising rows, and what an insert and a removal do there.
use Rattle.std.proofs.Common.{◌≡◌, ℕ, List, [], ◌∷◌, ◌++◌, Option, Some, None, refl, ap, ◌∙◌}
use Rattle.std.specs.List.{AllByRecursion}
use Rattle.std.specs.declared.cmp.Ordering.{Ordering}
use Rattle.std.specs.declared.cmp.Ordering.TheVariants.{Less, Equal, Greater}
use Rattle.std.specs.Ordering.{ordering_reverse}
use Rattle.page_bytes.specs.declared.ids.PageId.{PageId}
use Rattle.page_bytes.specs.Order.{page_cmp}
use Rattle.page_bytes.proofs.Orders.{page_cmp-total}
use Rattle.slot_store.specs.declared.table.Row.{Row}
use Rattle.slot_store.specs.Head.{IsRowBefore}
use Rattle.slot_store.specs.Table.{Rise, set_by, with_row, cut_by, without_row, slot_by, slot_of, later_rows}

-- what holds of all of a list holds of its front
pub all_front : (P : Row → Type 0) (xs ys : List Row) → AllByRecursion P (xs ++ ys) → AllByRecursion P xs
all_front P [] ys all = tt
all_front P (x ∷ xs) ys all = (all.0, all_front P xs ys all.1)

-- and of its end
pub all_end : (P : Row → Type 0) (xs ys : List Row) → AllByRecursion P (xs ++ ys) → AllByRecursion P ys
all_end P [] ys all = all
all_end P (x ∷ xs) ys all = all_end P xs ys all.1

-- the front of rising rows rises
pub rise_front : (xs ys : List Row) → Rise (xs ++ ys) → Rise xs
rise_front [] ys rise = tt
rise_front (x ∷ xs) ys rise = (all_front (IsRowBefore x) xs ys rise.0, rise_front xs ys rise.1)

-- and so does their end
pub rise_end : (xs ys : List Row) → Rise (xs ++ ys) → Rise ys
rise_end [] ys rise = rise
rise_end (x ∷ xs) ys rise = rise_end xs ys rise.1

-- the rows in front of one are before it
pub before_it : (xs : List Row) (m : Row) (ys : List Row) → Rise (xs ++ m ∷ ys) → AllByRecursion (λ q. IsRowBefore q m) xs
before_it [] m ys rise = tt
before_it (x ∷ xs) m ys rise = ((all_end (IsRowBefore x) xs (m ∷ ys) rise.0).0, before_it xs m ys rise.1)

-- a page is past all these rows
abbrev pub IsPast : PageId → List Row → Type 0
IsPast id rows = AllByRecursion (λ q. page_cmp id q.id ≡ Greater) rows

-- the page of a row is past what is before it
pub past_before : (m : Row) (xs : List Row) (id : PageId) → page_cmp id m.id ≡ Equal → AllByRecursion (λ q. IsRowBefore q m) xs → IsPast id xs
past_before m [] id same all = tt
past_before m (x ∷ xs) id same all =
    (page_cmp-total.congr id m.id x.id same ∙ (page_cmp-total.antisymm m.id x.id ∙ ap ordering_reverse all.0), past_before m xs id same all.1)

-- a page past a row is past what is before it
pub past_all : (m : Row) (xs : List Row) (id : PageId) → page_cmp id m.id ≡ Greater → AllByRecursion (λ q. IsRowBefore q m) xs → IsPast id xs
past_all m [] id past all = tt
past_all m (x ∷ xs) id past all = (
  page_cmp-total.antisymm id x.id ∙ ap ordering_reverse (page_cmp-total.trans x.id m.id id all.0 (page_cmp-total.antisymm m.id id ∙ ap ordering_reverse past)),
  past_all m xs id past all.1,
)

-- a row past the front goes into the rest
pub insert_past : (r : Row) (xs ys : List Row) → IsPast r.id xs → with_row r (xs ++ ys) ≡ xs ++ with_row r ys
insert_past r [] ys past = refl
insert_past r (x ∷ xs) ys past = ap (λ o. set_by o r x (xs ++ ys) (with_row r (xs ++ ys))) past.0 ∙ ap (λ l. x ∷ l) (insert_past r xs ys past.1)

-- so does a removal
pub remove_past : (id : PageId) (xs ys : List Row) → IsPast id xs → without_row id (xs ++ ys) ≡ xs ++ without_row id ys
remove_past id [] ys past = refl
remove_past id (x ∷ xs) ys past = ap (λ o. cut_by o x (xs ++ ys) (without_row id (xs ++ ys))) past.0 ∙ ap (λ l. x ∷ l) (remove_past id xs ys past.1)

-- what an insert makes of a front is in front of what stands behind it
insert_step : (o : Ordering) (r x : Row) (xs ys rest rest' : List Row) → rest ≡ rest' ++ ys → set_by o r x (xs ++ ys) rest ≡ set_by o r x xs rest' ++ ys
insert_step Less r x xs ys rest rest' is = refl
insert_step Equal r x xs ys rest rest' is = refl
insert_step Greater r x xs ys rest rest' is = ap (λ l. x ∷ l) is

-- a row before another one goes into what is in front of that
pub insert_before : (r m : Row) (xs ys : List Row) → page_cmp r.id m.id ≡ Less → with_row r (xs ++ m ∷ ys) ≡ with_row r xs ++ m ∷ ys
insert_before r m [] ys less = ap (λ o. set_by o r m ys (with_row r ys)) less
insert_before r m (x ∷ xs) ys less = insert_step (page_cmp r.id x.id) r x xs (m ∷ ys) (with_row r (xs ++ m ∷ ys)) (with_row r xs) (insert_before r m xs ys less)

-- a row of the page of another takes its place
pub insert_there : (r m : Row) (xs ys : List Row) → Rise (xs ++ m ∷ ys) → page_cmp r.id m.id ≡ Equal → with_row r (xs ++ m ∷ ys) ≡ xs ++ r ∷ ys
insert_there r m xs ys rise same =
    insert_past r xs (m ∷ ys) (past_before m xs r.id same (before_it xs m ys rise)) ∙ ap (λ o. xs ++ set_by o r m ys (with_row r ys)) same

-- a row past another goes into what is behind that
pub insert_behind : (r m : Row) (xs ys : List Row) → Rise (xs ++ m ∷ ys) → page_cmp r.id m.id ≡ Greater → with_row r (xs ++ m ∷ ys) ≡ xs ++ m ∷ with_row r ys
insert_behind r m xs ys rise past =
    insert_past r xs (m ∷ ys) (past_all m xs r.id past (before_it xs m ys rise)) ∙ ap (λ o. xs ++ set_by o r m ys (with_row r ys)) past

-- what a removal leaves of a front is in front of what stands behind it
remove_step : (o : Ordering) (x : Row) (xs ys rest rest' : List Row) → rest ≡ rest' ++ ys → cut_by o x (xs ++ ys) rest ≡ cut_by o x xs rest' ++ ys
remove_step Less x xs ys rest rest' is = refl
remove_step Equal x xs ys rest rest' is = refl
remove_step Greater x xs ys rest rest' is = ap (λ l. x ∷ l) is

-- the row of a page before another row goes from what is in front of that
pub remove_before : (id : PageId) (m : Row) (xs ys : List Row) → page_cmp id m.id ≡ Less → without_row id (xs ++ m ∷ ys) ≡ without_row id xs ++ m ∷ ys
remove_before id m [] ys less = ap (λ o. cut_by o m ys (without_row id ys)) less
remove_before id m (x ∷ xs) ys less = remove_step (page_cmp id x.id) x xs (m ∷ ys) (without_row id (xs ++ m ∷ ys)) (without_row id xs) (remove_before id m xs ys less)

-- the row of the page itself goes
pub remove_there : (id : PageId) (m : Row) (xs ys : List Row) → Rise (xs ++ m ∷ ys) → page_cmp id m.id ≡ Equal → without_row id (xs ++ m ∷ ys) ≡ xs ++ ys
remove_there id m xs ys rise same =
    remove_past id xs (m ∷ ys) (past_before m xs id same (before_it xs m ys rise)) ∙ ap (λ o. xs ++ cut_by o m ys (without_row id ys)) same

-- the row of a page past another row goes from what is behind that
pub remove_behind : (id : PageId) (m : Row) (xs ys : List Row) → Rise (xs ++ m ∷ ys) → page_cmp id m.id ≡ Greater → without_row id (xs ++ m ∷ ys) ≡ xs ++ m ∷ without_row id ys
remove_behind id m xs ys rise past =
    remove_past id xs (m ∷ ys) (past_all m xs id past (before_it xs m ys rise)) ∙ ap (λ o. xs ++ cut_by o m ys (without_row id ys)) past

-- what stands behind the first of some rows, and then others
pub later_front : (xs : List Row) (m : Row) (ys zs : List Row) → later_rows ((xs ++ m ∷ ys) ++ zs) ≡ later_rows (xs ++ m ∷ ys) ++ zs
later_front [] m ys zs = refl
later_front (x ∷ xs) m ys zs = refl

-- what holds of a row and of all others holds of all with it
all_with : (P : Row → Type 0) (r : Row) (rows : List Row) → P r → AllByRecursion P rows → AllByRecursion P (with_row r rows)
all_with P r [] one all = (one, tt)
all_with P r (q ∷ qs) one all = by (page_cmp r.id q.id) (all_with P r qs one all.1)
  where
    by : (o : Ordering) → AllByRecursion P (with_row r qs) → AllByRecursion P (set_by o r q qs (with_row r qs))
    by Less more = (one, all)
    by Equal more = (one, all.1)
    by Greater more = (all.0, more)

-- what holds of all rows holds of all but one
pub all_without : (P : Row → Type 0) (id : PageId) (rows : List Row) → AllByRecursion P rows → AllByRecursion P (without_row id rows)
all_without P id [] all = tt
all_without P id (q ∷ qs) all = by (page_cmp id q.id) (all_without P id qs all.1)
  where
    by : (o : Ordering) → AllByRecursion P (without_row id qs) → AllByRecursion P (cut_by o q qs (without_row id qs))
    by Less more = all
    by Equal more = all.1
    by Greater more = (all.0, more)

-- what is behind a row is behind each row before it
behind_all : (r q : Row) (rows : List Row) → page_cmp r.id q.id ≡ Less → AllByRecursion (IsRowBefore q) rows → AllByRecursion (IsRowBefore r) rows
behind_all r q [] less all = tt
behind_all r q (x ∷ xs) less all = (page_cmp-total.trans r.id q.id x.id less all.0, behind_all r q xs less all.1)

-- and behind each row of its page
pub behind_same : (r q : Row) (rows : List Row) → page_cmp r.id q.id ≡ Equal → AllByRecursion (IsRowBefore q) rows → AllByRecursion (IsRowBefore r) rows
behind_same r q [] same all = tt
behind_same r q (x ∷ xs) same all = (page_cmp-total.congr r.id q.id x.id same ∙ all.0, behind_same r q xs same all.1)

-- rising rows with one more rise
pub rise_with : (r : Row) (rows : List Row) → Rise rows → Rise (with_row r rows)
rise_with r [] rise = (tt, tt)
rise_with r (q ∷ qs) rise = by (page_cmp r.id q.id) refl (rise_with r qs rise.1)
  where
    by : (o : Ordering) → page_cmp r.id q.id ≡ o → Rise (with_row r qs) → Rise (set_by o r q qs (with_row r qs))
    by Less is more = ((is, behind_all r q qs is rise.0), rise)
    by Equal is more = (behind_same r q qs is rise.0, rise.1)
    by Greater is more = (all_with (IsRowBefore q) r qs (page_cmp-total.antisymm q.id r.id ∙ ap ordering_reverse is) rise.0, more)

-- and so do they with one less
pub rise_without : (id : PageId) (rows : List Row) → Rise rows → Rise (without_row id rows)
rise_without id [] rise = tt
rise_without id (q ∷ qs) rise = by (page_cmp id q.id) (rise_without id qs rise.1)
  where
    by : (o : Ordering) → Rise (without_row id qs) → Rise (cut_by o q qs (without_row id qs))
    by Less more = rise
    by Equal more = rise.1
    by Greater more = (all_without (IsRowBefore q) id qs rise.0, more)

-- a row behind all others is put at the end
pub insert_last : (r : Row) (rows : List Row) → AllByRecursion (λ q. IsRowBefore q r) rows → with_row r rows ≡ rows ++ r ∷ []
insert_last r [] all = refl
insert_last r (q ∷ qs) all =
    ap (λ o. set_by o r q qs (with_row r qs)) (page_cmp-total.antisymm r.id q.id ∙ ap ordering_reverse all.0) ∙ ap (λ l. q ∷ l) (insert_last r qs all.1)

-- no row is of a page that is before all
pub slot_none : (id : PageId) (rows : List Row) → AllByRecursion (λ q. page_cmp id q.id ≡ Less) rows → slot_of id rows ≡ None
slot_none id [] all = refl
slot_none id (q ∷ qs) all = ap (λ o. slot_by o q (slot_of id qs)) all.0 ∙ slot_none id qs all.1

-- a page before a row is before what is behind it
pub before_all : (id : PageId) (m : Row) (rows : List Row) → page_cmp id m.id ≡ Less → AllByRecursion (IsRowBefore m) rows → AllByRecursion (λ q. page_cmp id q.id ≡ Less) rows
before_all id m [] less all = tt
before_all id m (q ∷ qs) less all = (page_cmp-total.trans id m.id q.id less all.0, before_all id m qs less all.1)

slot_step : (o : Ordering) (q : Row) (a b : Option ℕ) → a ≡ b → slot_by o q a ≡ slot_by o q b
slot_step o q a b is = ap (slot_by o q) is

-- the slot of a page before a row is that of what is in front of it
pub slot_before : (id : PageId) (m : Row) (xs ys : List Row) → Rise (xs ++ m ∷ ys) → page_cmp id m.id ≡ Less → slot_of id (xs ++ m ∷ ys) ≡ slot_of id xs
slot_before id m [] ys rise less = slot_none id (m ∷ ys) (less, before_all id m ys less rise.0)
slot_before id m (x ∷ xs) ys rise less = slot_step (page_cmp id x.id) x _ _ (slot_before id m xs ys rise.1 less)

-- rows that a page is past don't count
slot_past : (id : PageId) (xs ys : List Row) → IsPast id xs → slot_of id (xs ++ ys) ≡ slot_of id ys
slot_past id [] ys past = refl
slot_past id (x ∷ xs) ys past = ap (λ o. slot_by o x (slot_of id (xs ++ ys))) past.0 ∙ slot_past id xs ys past.1

-- the slot of a row's page is that of the row
pub slot_there : (id : PageId) (m : Row) (xs ys : List Row) → Rise (xs ++ m ∷ ys) → page_cmp id m.id ≡ Equal → slot_of id (xs ++ m ∷ ys) ≡ Some m.slot
slot_there id m xs ys rise same =
    slot_past id xs (m ∷ ys) (past_before m xs id same (before_it xs m ys rise)) ∙ ap (λ o. slot_by o m (slot_of id ys)) same

-- the slot of a page past a row is that of what is behind it
pub slot_behind : (id : PageId) (m : Row) (xs ys : List Row) → Rise (xs ++ m ∷ ys) → page_cmp id m.id ≡ Greater → slot_of id (xs ++ m ∷ ys) ≡ slot_of id ys
slot_behind id m xs ys rise past =
    slot_past id xs (m ∷ ys) (past_all m xs id past (before_it xs m ys rise)) ∙ ap (λ o. slot_by o m (slot_of id ys)) past

-- where a page has no row, nothing goes
pub none_cut : (id : PageId) (rows : List Row) → slot_of id rows ≡ None → without_row id rows ≡ rows
none_cut id [] none = refl
none_cut id (q ∷ qs) none = by (page_cmp id q.id) none (none_cut id qs)
  where
    by : (o : Ordering) → slot_by o q (slot_of id qs) ≡ None → (slot_of id qs ≡ None → without_row id qs ≡ qs) → cut_by o q qs (without_row id qs) ≡ q ∷ qs
    by Less is more = refl
    by Equal is more = absurd (cc is)
    by Greater is more = ap (λ l. q ∷ l) (more is)
