-- What was read can be carried on: a store takes the records that it reads, and reads no others.
use Rattle.std.proofs.Common.{◌≡◌, ◌⊎◌, ⊎_elim, ℕ, zero, suc, ◌+◌, ◌-◌, ◌<◌, ◌≤◌, ◌^◌, Bool, true, false, ltb, List, [], ◌∷◌, ◌++◌, length, take, drop, get_or, Option, Some, None, Ok, Err, refl, sym, ap, subst, ◌∙◌, append_assoc, arith}
use Rattle.std.specs.Prelude.{nat_lt, ◌==◌, ◌&&◌, ◌||◌, is_some, IsTrue, All}
use Rattle.std.specs.FinMap as map
use Rattle.std.specs.List.{list_all}
use Rattle.std.specs.Int.{w64, from_be_bytes}
use Rattle.std.proofs.lemmas.Bool.{eqb-true}
use Rattle.std.proofs.lemmas.List.{append-nil, length-append}
use Rattle.xq_ast.specs.declared.limits.TheConstants.{DOCUMENT_NAME_BYTES_MAX}
use Rattle.page_bytes.specs.declared.ids.DocEntry.{DocEntry}
use Rattle.page_bytes.specs.declared.ids.PageId.{PageId}
use Rattle.page_bytes.specs.declared.lists.PageChange.{PageChange}
use Rattle.page_bytes.specs.Known.{PageIds, Spaces}
use Rattle.redo_log.specs.declared.change.LogName.{LogName}
use Rattle.redo_log.specs.declared.change.Change.{Change}
use Rattle.redo_log.specs.declared.store.Store.{Store}
use Rattle.redo_log.specs.Record.{name_change, page_change, body_of}
use Rattle.redo_log.specs.Store.{entry_of, has_space, has_commit, after_name, after_names, with_images, no_image, after, after_all}
use Rattle.redo_log.specs.Reading.{IsBytes, last_in, check, is_name, is_next_name, is_commit_of, is_space_of, is_next_commit, is_next_space, is_next_page, has_home, is_no_head, names_housed, pages_housed, names_length, all_housed, number_in, number_at, byte_at, bytes_at, entry_at, entry_if, name_at, names_at, id_at, image_if, page_at, pages_at, body_at, record_at, IsClosed, AreRecords, IsRefused}
use Rattle.redo_log.specs.Taken.{IsEntryTaken, IsNameTaken, AreNamesTaken, IsImageTaken, IsPageTaken, ArePagesTaken, IsTaken, AreTaken}
use Rattle.redo_log.proofs.Scans.{byte_is}
use Rattle.redo_log.proofs.Again.{first_true, second_true}
use Rattle.redo_log.proofs.Takes.{bind_ok, check_ok, guard_ok, ok_is, number_takes, byte_takes, bytes_take, space_in, entry_1, entry_2, entry_3, entry_4, entry_5, name_1, name_2, name_3, name_4, name_5, name_6, name_7, name_8, name_takes, id_in, id_1, id_2, id_3, id_4, id_5, is_own, id_takes, page_1, page_2, page_3, page_4, page_5, page_takes, body_1, body_2, body_3, body_4, body_5, body_6, body_takes, record_1, record_2, record_3, record_4, record_takes}

-- ---- fields

bytes_small : (bytes : List ℕ) → IsBytes bytes → from_be_bytes w64 bytes < 2 ^ 64
bytes_small bytes fits = omega (arith, fits 0, fits 1, fits 2, fits 3, fits 4, fits 5, fits 6, fits 7)

-- a number that was read has eight bytes
pub number_small : (bytes : List ℕ) (x : ℕ × List ℕ) → IsBytes bytes → number_at bytes ≡ Ok x → x.0 < 2 ^ 64
unfolding number_in
number_small bytes x fits e =
    let g = guard_ok (ltb (length bytes) 8) (length bytes) (from_be_bytes w64 (take 8 bytes), drop 8 bytes) x e in
    subst (λ (n : ℕ). n < 2 ^ 64) (ap (λ (p : ℕ × List ℕ). p.0) g.1) (bytes_small (take 8 bytes) (IsBytes-front 8 bytes fits))
  where
    IsBytes-front : (n : ℕ) (bytes : List ℕ) → IsBytes bytes → IsBytes (take n bytes)
    IsBytes-front zero bytes fits i = omega arith
    IsBytes-front (suc n) [] fits i = omega arith
    IsBytes-front (suc n) (b ∷ bytes) fits zero = fits 0
    IsBytes-front (suc n) (b ∷ bytes) fits (suc i) = IsBytes-front n bytes (λ k. fits (suc k)) i

-- a byte that was read is one
pub byte_small : (bytes : List ℕ) (x : ℕ × List ℕ) → IsBytes bytes → byte_at bytes ≡ Ok x → x.0 < 256
byte_small bytes x fits e = subst (λ (l : List ℕ). get_or l 0 0 < 256) (byte_is bytes x.0 x.1 e) (fits 0)

-- ---- names

module _ (commit : ℕ) (s : Store) (name bytes : List ℕ) where
  entry_taken : (x : DocEntry × List ℕ) → IsBytes bytes → entry_at commit s name bytes ≡ Ok x → IsEntryTaken commit s name (Some x.0)
  unfolding entry_at
  entry_taken x fits e =
      let c = bind_ok (number_at bytes) (entry_5 commit s name bytes) x e in
      let came = bind_ok (check (is_commit_of (entry_of name s.names) commit c.0.0) (length bytes)) (λ came. entry_4 commit s name bytes c.0) x c.2 in
      let o = bind_ok (number_at c.0.1) (entry_3 commit s name bytes c.0) x came.2 in
      let own = bind_ok (check (is_space_of (entry_of name s.names) s.spaces (space_in commit s name bytes c.0 o.0)) (length bytes))
      (λ own. entry_2 commit s name bytes c.0 o.0) x o.2 in
      let form = bind_ok (byte_at o.0.1) (entry_1 commit s name bytes c.0 o.0) x own.2 in
      let made : DocEntry × List ℕ = (record { space = space_in commit s name bytes c.0 o.0; clustered = form.0.0 == 1 }, form.0.1) in
      let known = bind_ok (check (nat_lt form.0.0 2) (length o.0.1)) (λ known. Ok made) x form.2 in
      let t0 = number_takes bytes c.0.0 c.0.1 fits c.1 in
      subst (λ (y : DocEntry × List ℕ). IsEntryTaken commit s name (Some y.0)) (ok_is made x known.2) (
        number_small bytes c.0 fits c.1,
        number_small c.0.1 o.0 t0.rest_fits o.1,
        check_ok _ (length bytes) came.0 came.1,
        check_ok _ (length bytes) own.0 own.1,
      )

entry_if_taken : (sets : Bool) (commit : ℕ) (s : Store) (name bytes : List ℕ) (x : Option DocEntry × List ℕ) → IsBytes bytes
    → (sets || is_some (entry_of name s.names)) ≡ true → entry_if sets commit s name bytes ≡ Ok x
    → (is_some x.0 ≡ sets) × IsEntryTaken commit s name x.0
entry_if_taken false commit s name bytes x fits there e =
    subst (λ (y : Option DocEntry × List ℕ). (is_some y.0 ≡ false) × IsEntryTaken commit s name y.0) (ok_is (None, bytes) x e) (refl, there)
entry_if_taken true commit s name bytes x fits there e =
    let d = bind_ok (entry_at commit s name bytes) (λ (d : DocEntry × List ℕ). Ok (Some d.0, d.1)) x e in
    subst (λ (y : Option DocEntry × List ℕ). (is_some y.0 ≡ true) × IsEntryTaken commit s name y.0) (ok_is (Some d.0.0, d.0.1) x d.2)
    (refl, entry_taken commit s name bytes d.0 fits d.1)

module _ (commit : ℕ) (before : List LogName) (s : Store) (bytes : List ℕ) where
  name_taken : (x : LogName × List ℕ) → IsBytes bytes → name_at commit before s bytes ≡ Ok x → IsNameTaken commit before s x.0
  unfolding name_at
  name_taken x fits e =
      let kind = bind_ok (byte_at bytes) (name_8 commit before s bytes) x e in
      let known = bind_ok (check (nat_lt kind.0.0 2) (length bytes)) (λ known. name_7 commit before s bytes kind.0) x kind.2 in
      let long = bind_ok (byte_at kind.0.1) (name_6 commit before s bytes kind.0) x known.2 in
      let name = bind_ok (bytes_at long.0.0 long.0.1) (name_5 commit before s bytes kind.0) x long.2 in
      let good = bind_ok (check (is_name name.0.0) (length kind.0.1)) (λ good. name_4 commit before s bytes kind.0 name.0) x name.2 in
      let next = bind_ok (check (is_next_name (last_in before) (kind.0.0 == 1) name.0.0) (length kind.0.1))
      (λ next. name_3 commit before s bytes kind.0 name.0) x good.2 in
      let there = bind_ok (check (kind.0.0 == 1 || is_some (entry_of name.0.0 s.names)) (length kind.0.1))
      (λ there. name_2 commit before s bytes kind.0 name.0) x next.2 in
      let entry = bind_ok (entry_if (kind.0.0 == 1) commit s name.0.0 name.0.1) (name_1 commit before s bytes kind.0 name.0) x there.2 in
      let t0 = byte_takes bytes kind.0.0 kind.0.1 fits kind.1 in
      let t1 = byte_takes kind.0.1 long.0.0 long.0.1 t0.rest_fits long.1 in
      let t2 = bytes_take long.0.0 long.0.1 name.0.0 name.0.1 t1.rest_fits name.1 in
      let taken = entry_if_taken (kind.0.0 == 1) commit s name.0.0 name.0.1 entry.0 t2.0.rest_fits (check_ok _ (length kind.0.1) there.0 there.1) entry.1 in
      let made : LogName × List ℕ = (record { name = name.0.0; entry = entry.0.0 }, entry.0.1) in
      subst (λ (y : LogName × List ℕ). IsNameTaken commit before s y.0) (ok_is made x entry.2) record {
        name = check_ok _ (length kind.0.1) good.0 good.1;
        long = let lt = byte_small kind.0.1 long.0 t0.rest_fits long.1 in omega (arith, t2.1, lt);
        next = subst (λ (b : Bool). IsTrue (is_next_name (last_in before) b name.0.0)) (sym taken.0) (check_ok _ (length kind.0.1) next.0 next.1);
        entry = taken.1;
      }

names_taken : (commit n : ℕ) (done : List LogName) (s : Store) (bytes : List ℕ) (x : List LogName × List ℕ) → IsBytes bytes
    → names_at commit n done s bytes ≡ Ok x
    → (more : List LogName) × (x.0 ≡ done ++ more) × (length more ≡ n) × AreNamesTaken commit done s more × IsBytes x.1
unfolding names_at
names_taken commit zero done s bytes x fits e =
    subst (λ (y : List LogName × List ℕ). (more : List LogName) × (y.0 ≡ done ++ more) × (length more ≡ 0) × AreNamesTaken commit done s more × IsBytes y.1)
    (ok_is (done, bytes) x e)
    ([], sym (append-nil done), refl, tt, fits)
names_taken commit (suc n) done s bytes x fits e =
    let first = bind_ok (name_at commit done s bytes) (λ (f : LogName × List ℕ). names_at commit n (done ++ f.0 ∷ []) (after_name f.0 s) f.1) x e in
    let t = name_takes commit done s bytes first.0 fits first.1 in
    let rest = names_taken commit n (done ++ first.0.0 ∷ []) (after_name first.0.0 s) first.0.1 x t.rest_fits first.2 in (
      first.0.0 ∷ rest.0,
      rest.1
          ∙ append_assoc done (first.0.0 ∷ []) rest.0,
      ap suc rest.2,
      (name_taken commit done s bytes first.0 fits first.1, rest.3),
      rest.4,
    )

-- ---- pages

-- a page's place after the last page: its numbers fit, its space is a document's, and it comes next
pub record IsIdTaken (last : Option PageChange) (spaces : Spaces) (id : PageId) : Type 0 where
  pub commit : id.space.commit < 2 ^ 64
  pub ordinal : id.space.ordinal < 2 ^ 64
  pub number : id.number < 2 ^ 64
  pub from : IsTrue (is_next_commit last id.space.commit && has_commit spaces id.space.commit)
  pub own : IsTrue (is_next_space last id.space && has_space spaces id.space)
  pub next : IsTrue (is_next_page last id)

module _ (last : Option PageChange) (spaces : Spaces) (bytes : List ℕ) where
  -- a page's place that is read is one that the store takes
  pub id_taken : (x : PageId × List ℕ) → IsBytes bytes → id_at last spaces bytes ≡ Ok x → IsIdTaken last spaces x.0
  unfolding id_at
  id_taken x fits e =
      let c = bind_ok (number_at bytes) (id_5 last spaces bytes) x e in
      let came = bind_ok (check (is_next_commit last c.0.0 && has_commit spaces c.0.0) (length bytes)) (λ came. id_4 last spaces bytes c.0) x c.2 in
      let o = bind_ok (number_at c.0.1) (id_3 last spaces bytes c.0) x came.2 in
      let own = bind_ok (check (is_own last spaces bytes c.0 o.0) (length bytes)) (λ own. id_2 last spaces bytes c.0 o.0) x o.2 in
      let n = bind_ok (number_at o.0.1) (id_1 last spaces bytes c.0 o.0) x own.2 in
      let made : PageId × List ℕ = (id_in last spaces bytes c.0 o.0 n.0, n.0.1) in
      let next = bind_ok (check (is_next_page last made.0) (length bytes)) (λ next. Ok made) x n.2 in
      let t0 = number_takes bytes c.0.0 c.0.1 fits c.1 in
      let t1 = number_takes c.0.1 o.0.0 o.0.1 t0.rest_fits o.1 in
      subst (λ (y : PageId × List ℕ). IsIdTaken last spaces y.0) (ok_is made x next.2) record {
        commit = number_small bytes c.0 fits c.1;
        ordinal = number_small c.0.1 o.0 t0.rest_fits o.1;
        number = number_small o.0.1 n.0 t1.rest_fits n.1;
        from = check_ok _ (length bytes) came.0 came.1;
        own = check_ok _ (length bytes) own.0 own.1;
        next = check_ok _ (length bytes) next.0 next.1;
      }

image_taken : (there : Bool) (s : Store) (id : PageId) (bytes : List ℕ) (x : Option (List ℕ) × List ℕ) → IsBytes bytes
    → (there || map.contains_key s.pages id) ≡ true → image_if there bytes ≡ Ok x → IsImageTaken s id x.0
image_taken false s id bytes x fits known e = subst (λ (y : Option (List ℕ) × List ℕ). IsImageTaken s id y.0) (ok_is (None, bytes) x e) known
image_taken true s id bytes x fits known e =
    let d = bind_ok (bytes_at 4096 bytes) (λ (d : List ℕ × List ℕ). Ok (Some d.0, d.1)) x e in
    subst (λ (y : Option (List ℕ) × List ℕ). IsImageTaken s id y.0) (ok_is (Some d.0.0, d.0.1) x d.2) (bytes_take 4096 bytes d.0.0 d.0.1 fits d.1).1

module _ (before : List PageChange) (s : Store) (bytes : List ℕ) where
  page_taken : (x : PageChange × List ℕ) → IsBytes bytes → page_at before s bytes ≡ Ok x → IsPageTaken before s x.0
  unfolding page_at
  page_taken x fits e =
      let id = bind_ok (id_at (last_in before) s.spaces bytes) (page_5 before s bytes) x e in
      let kind = bind_ok (byte_at id.0.1) (page_4 before s bytes id.0) x id.2 in
      let known = bind_ok (check (nat_lt kind.0.0 2) (length id.0.1)) (λ known. page_3 before s bytes id.0 kind.0) x kind.2 in
      let there = bind_ok (check (kind.0.0 == 1 || map.contains_key s.pages id.0.0) (length bytes)) (λ there. page_2 before s bytes id.0 kind.0) x known.2 in
      let image = bind_ok (image_if (kind.0.0 == 1) kind.0.1) (page_1 before s bytes id.0) x there.2 in
      let t0 = id_takes (last_in before) s.spaces bytes id.0 fits id.1 in
      let t1 = byte_takes id.0.1 kind.0.0 kind.0.1 t0.rest_fits kind.1 in
      let taken = id_taken (last_in before) s.spaces bytes id.0 fits id.1 in
      let made : PageChange × List ℕ = (record { id = id.0.0; page = image.0.0 }, image.0.1) in
      subst (λ (y : PageChange × List ℕ). IsPageTaken before s y.0) (ok_is made x image.2) record {
        commit = taken.commit;
        ordinal = taken.ordinal;
        number = taken.number;
        from = (first_true _ _ taken.from, second_true _ _ taken.from);
        own = (first_true _ _ taken.own, second_true _ _ taken.own);
        next = taken.next;
        image = image_taken (kind.0.0 == 1) s id.0.0 kind.0.1 image.0 t1.rest_fits (check_ok _ (length bytes) there.0 there.1) image.1;
      }

pages_taken : (n : ℕ) (done : List PageChange) (s : Store) (bytes : List ℕ) (x : List PageChange × List ℕ) → IsBytes bytes → pages_at n done s bytes ≡ Ok x
    → (more : List PageChange) × (x.0 ≡ done ++ more) × (length more ≡ n) × ArePagesTaken done s more
unfolding pages_at
pages_taken zero done s bytes x fits e =
    subst (λ (y : List PageChange × List ℕ). (more : List PageChange) × (y.0 ≡ done ++ more) × (length more ≡ 0) × ArePagesTaken done s more)
    (ok_is (done, bytes) x e)
    ([], sym (append-nil done), refl, tt)
pages_taken (suc n) done s bytes x fits e =
    let first = bind_ok (page_at done s bytes) (λ (f : PageChange × List ℕ). pages_at n (done ++ f.0 ∷ []) s f.1) x e in
    let t = page_takes done s bytes first.0 fits first.1 in
    let rest = pages_taken n (done ++ first.0.0 ∷ []) s first.0.1 x t.rest_fits first.2 in
    (first.0.0 ∷ rest.0, rest.1 ∙ append_assoc done (first.0.0 ∷ []) rest.0, ap suc rest.2, (page_taken done s bytes first.0 fits first.1, rest.3))

-- ---- records

record IsBodyTaken (s : Store) (c : Change) : Type 0 where
  commit : c.commit ≡ s.commit + 1
  fits : c.commit < 2 ^ 64
  names_fit : length c.names < 2 ^ 64
  names : AreNamesTaken c.commit [] s c.names
  pages_fit : length c.pages < 2 ^ 64
  pages : ArePagesTaken [] (after_names c.names s) c.pages

module _ (s : Store) (bytes : List ℕ) where
  body_taken : (x : Change × List ℕ) → IsBytes bytes → body_at s bytes ≡ Ok x → IsBodyTaken s x.0
  unfolding body_at
  body_taken x fits e =
      let commit = bind_ok (number_at bytes) (body_6 s bytes) x e in
      let next = bind_ok (check (commit.0.0 == s.commit + 1) (length bytes)) (λ next. body_5 s bytes commit.0) x commit.2 in
      let named = bind_ok (number_at commit.0.1) (body_4 s bytes commit.0) x next.2 in
      let names = bind_ok (names_at commit.0.0 named.0.0 [] s named.0.1) (body_3 s bytes commit.0) x named.2 in
      let paged = bind_ok (number_at names.0.1) (body_2 s bytes commit.0 names.0) x names.2 in
      let pages = bind_ok (pages_at paged.0.0 [] (after_names names.0.0 s) paged.0.1) (body_1 s bytes commit.0 names.0) x paged.2 in
      let t0 = number_takes bytes commit.0.0 commit.0.1 fits commit.1 in
      let t1 = number_takes commit.0.1 named.0.0 named.0.1 t0.rest_fits named.1 in
      let n = names_taken commit.0.0 named.0.0 [] s named.0.1 names.0 t1.rest_fits names.1 in
      let t3 = number_takes names.0.1 paged.0.0 paged.0.1 n.4 paged.1 in
      let p = pages_taken paged.0.0 [] (after_names names.0.0 s) paged.0.1 pages.0 t3.rest_fits pages.1 in
      let made : Change × List ℕ = (record { commit = commit.0.0; names = names.0.0; pages = pages.0.0 }, pages.0.1) in
      subst (λ (y : Change × List ℕ). IsBodyTaken s y.0) (ok_is made x pages.2) record {
        commit = eqb-true _ _ (check_ok _ (length bytes) next.0 next.1);
        fits = number_small bytes commit.0 fits commit.1;
        names_fit = let lt = number_small commit.0.1 named.0 t0.rest_fits named.1 in omega (arith, ap length n.1, n.2, lt);
        names = subst (AreNamesTaken commit.0.0 [] s) (sym n.1) n.3;
        pages_fit = let lt = number_small names.0.1 paged.0 n.4 paged.1 in omega (arith, ap length p.1, p.2, lt);
        pages = subst (ArePagesTaken [] (after_names names.0.0 s)) (sym p.1) p.3;
      }

-- both hold, and so does one and the other
pub both_true : (a b : Bool) → a ≡ true → b ≡ true → (a && b) ≡ true
both_true true b e h = h
both_true false b e h = e

all_named : (pages : PageIds) (ns : List LogName) (left : ℕ) (u : Unit {0}) → names_housed pages ns left ≡ Ok u
    → IsTrue (list_all (λ n. has_home pages n.entry) ns)
all_named pages [] left u e = refl
all_named pages (n ∷ ns) left u e =
    let h = bind_ok (check (has_home pages n.entry) (left - 1)) (λ housed. names_housed pages ns (left - length (name_change n))) u e in
    both_true _ _ (check_ok _ (left - 1) h.0 h.1) (all_named pages ns (left - length (name_change n)) u h.2)

all_paged : (cs : List PageChange) (left : ℕ) (u : Unit {0}) → pages_housed cs left ≡ Ok u → IsTrue (list_all is_no_head cs)
all_paged [] left u e = refl
all_paged (c ∷ cs) left u e =
    let h = bind_ok (check (is_no_head c) left) (λ housed. pages_housed cs (left - length (page_change c))) u e in
    both_true _ _ (check_ok _ left h.0 h.1) (all_paged cs (left - length (page_change c)) u h.2)

-- a record that was read is one that the store takes
pub record_taken : (s : Store) (bytes : List ℕ) (x : Change × List ℕ) → IsBytes bytes → record_at s bytes ≡ Ok x → IsTaken s x.0
unfolding record_at
record_taken s bytes x fits e =
    let long = bind_ok (number_at bytes) (record_4 s bytes) x e in
    let body = bind_ok (body_at s long.0.1) (record_3 s bytes long.0) x long.2 in
    let gate = bind_ok (check (nat_lt 0 (length body.0.1)) 0) (λ gate. record_2 s bytes long.0 body.0) x body.2 in
    let exact = bind_ok (check (long.0.0 + length body.0.1 == length long.0.1) (length bytes)) (λ exact. record_1 s bytes long.0 body.0) x gate.2 in
    let pages = (after_names body.0.0.names s).pages in
    let housed = bind_ok (all_housed body.0.0 pages (length long.0.1)) (λ housed. Ok body.0) x exact.2 in
    let named = bind_ok (names_housed (with_images no_image body.0.0.pages pages) body.0.0.names (length long.0.1 - 16))
    (λ named. pages_housed body.0.0.pages (length long.0.1 - 24 - names_length body.0.0.names)) housed.0 housed.1 in
    let t0 = number_takes bytes long.0.0 long.0.1 fits long.1 in
    let t1 = body_takes s long.0.1 body.0 t0.rest_fits body.1 in
    let b = body_taken s long.0.1 body.0 t0.rest_fits body.1 in
    let count : long.0.0 + length body.0.1 ≡ length long.0.1 = eqb-true _ _ (check_ok _ (length bytes) exact.0 exact.1) in
    subst (λ (y : Change × List ℕ). IsTaken s y.0) (ok_is body.0 x housed.2) record {
      commit = b.commit;
      fits = b.fits;
      names_fit = b.names_fit;
      names = b.names;
      pages_fit = b.pages_fit;
      pages = b.pages;
      long = let lt = number_small bytes long.0 fits long.1 in omega (arith, count, lt, ap length t1.parts, length-append (body_of body.0.0) body.0.1);
      names_housed = all_named _ body.0.0.names (length long.0.1 - 16) named.0 named.1;
      pages_housed = all_paged body.0.0.pages (length long.0.1 - 24 - names_length body.0.0.names) housed.0 named.2;
    }

-- and so are records that were read one after the other
pub records_taken : (cs : List Change) (s : Store) (bytes end : List ℕ) → IsBytes bytes → AreRecords s cs bytes end → AreTaken s cs
records_taken [] s bytes end fits r = tt
records_taken (c ∷ cs) s bytes end fits r =
    let behind = subst IsBytes r.2 fits in
    let t = record_takes s r.0 (c, r.1) (λ i. behind (suc i)) r.3 in
    (record_taken s r.0 (c, r.1) (λ i. behind (suc i)) r.3, records_taken cs (after c s) r.1 end t.0.rest_fits r.4)

-- one record more may be made after records that were
pub records_go_on : (cs : List Change) (s : Store) (c : Change) → AreTaken s cs → IsTaken (after_all cs s) c → AreTaken s (cs ++ c ∷ [])
records_go_on [] s c t one = (one, tt)
records_go_on (d ∷ cs) s c t one = (t.0, records_go_on cs (after d s) c t.1 one)

-- ---- no other records

not_open : (end rest : List ℕ) → IsClosed end → end ≡ 1 ∷ rest → ⊥
not_open end rest shut is = (subst IsClosed is shut) refl

not_empty : (end : List ℕ) → IsClosed end → end ≡ [] → ⊥
not_empty end shut is = subst IsClosed is shut

behind_open : (bytes rest other : List ℕ) → bytes ≡ 1 ∷ rest → bytes ≡ 1 ∷ other → rest ≡ other
behind_open bytes rest other e f = ap (drop 1) (sym e ∙ f)

-- what the bytes are records of is one list of changes, with one end
pub records_are_one : (cs ds : List Change) (s : Store) (bytes end fin : List ℕ) → AreRecords s cs bytes end → AreRecords s ds bytes fin
    → (cs ≡ ds) × (end ≡ fin)
records_are_one [] [] s bytes end fin r q = (refl, sym r.0 ∙ q.0)
records_are_one [] (d ∷ ds) s bytes end fin r q = absurd (not_open end q.0 r.1 (sym r.0 ∙ q.2))
records_are_one (c ∷ cs) [] s bytes end fin r q = absurd (not_open fin r.0 q.1 (sym q.0 ∙ r.2))
records_are_one (c ∷ cs) (d ∷ ds) s bytes end fin r q =
    let same = behind_open bytes r.0 q.0 r.2 q.2 in
    let read : (c, r.1) ≡ (d, q.1) = ok_is (c, r.1) (d, q.1) (sym r.3 ∙ (ap (record_at s) same ∙ q.3)) in
    let more = records_are_one cs ds (after c s) r.1 end fin r.4 (subst (λ (y : Change × List ℕ). AreRecords (after y.0 s) ds y.1 fin) (sym read) q.4) in
    (λ i. (read i).0 ∷ more.0 i, more.1)

no_wrong : (s : Store) (bytes rest next : List ℕ) (c : Change) (left : ℕ) → bytes ≡ 1 ∷ rest → record_at s rest ≡ Ok (c, next)
    → ((bytes ≡ []) × (left ≡ 0)) ⊎ ((other : List ℕ) × (bytes ≡ 1 ∷ other) × (record_at s other ≡ Err left)) → ⊥
no_wrong s bytes rest next c left is read wrong =
    ⊎_elim (λ none. cc (sym is ∙ none.0)) (λ w. cc (sym read ∙ (ap (record_at s) (behind_open bytes rest w.0 is w.1) ∙ w.2))) wrong

-- bytes that are records are refused nowhere
pub records_are_sure : (cs ds : List Change) (s : Store) (bytes end : List ℕ) (left : ℕ) → AreRecords s cs bytes end → IsRefused s ds bytes left → ⊥
records_are_sure [] [] s bytes end left r q = ⊎_elim (λ none. not_empty end r.1 (sym r.0 ∙ none.0)) (λ w. not_open end w.0 r.1 (sym r.0 ∙ w.1)) q
records_are_sure [] (d ∷ ds) s bytes end left r q = not_open end q.0 r.1 (sym r.0 ∙ q.2)
records_are_sure (c ∷ cs) [] s bytes end left r q = no_wrong s bytes r.0 r.1 c left r.2 r.3 q
records_are_sure (c ∷ cs) (d ∷ ds) s bytes end left r q =
    let same = behind_open bytes r.0 q.0 r.2 q.2 in
    let read : (c, r.1) ≡ (d, q.1) = ok_is (c, r.1) (d, q.1) (sym r.3 ∙ (ap (record_at s) same ∙ q.3)) in
    records_are_sure cs ds (after c s) r.1 end left r.4 (subst (λ (y : Change × List ℕ). IsRefused (after y.0 s) ds y.1 left) (sym read) q.4)

-- ---- names

all_short : (commit : ℕ) (done : List LogName) (s : Store) (ns : List LogName) → AreNamesTaken commit done s ns
    → All (λ n. length n.name ≤ DOCUMENT_NAME_BYTES_MAX) ns
all_short commit done s [] t k d lt = absurd (omega arith)
all_short commit done s (n ∷ ns) t zero d lt = t.0.long
all_short commit done s (n ∷ ns) t (suc k) d lt = all_short commit (done ++ n ∷ []) (after_name n s) ns t.1 k d (omega arith)

-- a name that is taken is short
pub names_are_short : (s : Store) (c : Change) → IsTaken s c → All (λ n. length n.name ≤ DOCUMENT_NAME_BYTES_MAX) c.names
names_are_short s c t = all_short c.commit [] s c.names t.names
