-- What a reader took from the front of bytes is what the record's bytes say: what is read is spelled so.
use Rattle.std.proofs.Common.{◌≡◌, ℕ, zero, suc, ◌+◌, ◌-◌, ◌<◌, ◌≤◌, Bool, true, false, cond, ltb, List, [], ◌∷◌, ◌++◌, length, take, drop, Option, Some, None, Result, Ok, Err, refl, sym, ap, subst, ◌∙◌, append_assoc, arith, inl, inr}
use Rattle.std.specs.Prelude.{nat_lt, ◌==◌, ◌&&◌, ◌||◌, is_some}
use Rattle.std.specs.FinMap as map
use Rattle.page_bytes.specs.declared.ids.Space.{Space}
use Rattle.std.specs.List.{flat_map}
use Rattle.std.specs.Int.{w64, from_be_bytes, to_be_bytes}
use Rattle.std.proofs.lemmas.Bool.{cases_lt, ltb-false, ltb-true, eqb-true}
use Rattle.std.proofs.lemmas.List.{drop_at, take-append-drop, length-append, length-take, get_or-drop, get_or-take, get_or_past, append-nil}
use Rattle.std.proofs.lemmas.Nat.{be_bytes_8}
use Rattle.page_bytes.specs.declared.ids.DocEntry.{DocEntry}
use Rattle.page_bytes.specs.declared.ids.PageId.{PageId}
use Rattle.page_bytes.specs.declared.lists.PageChange.{PageChange}
use Rattle.page_bytes.specs.Known.{Spaces}
use Rattle.redo_log.specs.declared.change.LogName.{LogName}
use Rattle.redo_log.specs.declared.change.Change.{Change}
use Rattle.redo_log.specs.declared.store.Store.{Store}
use Rattle.redo_log.specs.Record.{number, space_bytes, form_byte, name_bytes, named_bytes, name_change, image_bytes, page_change, body_of, record_of}
use Rattle.redo_log.specs.Store.{entry_of, has_space, has_commit, after_name, after_names, after}
use Rattle.redo_log.specs.Reading.{◌>>=◌, IsBytes, last_in, check, is_name, is_next_name, is_commit_of, is_space_of, is_next_commit, is_next_space, is_next_page, all_housed, number_in, number_at, byte_at, bytes_at, entry_at, entry_if, name_at, names_at, id_at, image_if, page_at, pages_at, body_at, record_at, AreRecords}
use Rattle.redo_log.proofs.Scans.{byte_is}

-- what is left of bytes is bytes
pub IsBytes-drop : (n : ℕ) (bytes : List ℕ) → IsBytes bytes → IsBytes (drop n bytes)
IsBytes-drop n bytes h i = rw get_or-drop (h (n + i))

IsBytes-take : (n : ℕ) (bytes : List ℕ) → IsBytes bytes → IsBytes (take n bytes)
IsBytes-take n bytes h i =
    elim (cases_lt i n) [
      | inl lt ↦ rw (get_or-take n bytes i 0 lt) (h i)
      | inr le ↦ rw (get_or_past (take n bytes) i 0 (omega (arith, length-take n bytes))) (omega arith)
    ]

-- the value of a step that did not fail
pub bind_ok : {A B : Type 0} (r : Result A ℕ) (f : A → Result B ℕ) (y : B) → (r >>= f) ≡ Ok y → (x : A) × (r ≡ Ok x) × (f x ≡ Ok y)
bind_ok (Ok x) f y e = (x, refl, e)
bind_ok (Err d) f y e = absurd cc

-- a test that did not fail
pub check_ok : (b : Bool) (n : ℕ) (u : Unit {0}) → check b n ≡ Ok u → b ≡ true
check_ok true n u e = refl
check_ok false n u e = absurd cc

-- a test that gave an answer was false, and the answer is what it guards
pub guard_ok : {A : Type 0} (b : Bool) (d : ℕ) (x y : A) → cond b (Err d) (Ok x) ≡ Ok y → (b ≡ false) × (x ≡ y)
guard_ok true d x y e = absurd cc
guard_ok false d x y e = (refl, cc)

abbrev done : {A : Type 0} → A → Result A ℕ
done x = Ok x

-- equal answers have equal values
pub ok_is : {A : Type 0} (x y : A) → done x ≡ done y → x ≡ y
ok_is x y e = cc

-- what a reader took from the front
pub record Takes (bytes text rest : List ℕ) : Type 0 where
  pub parts : bytes ≡ text ++ rest
  pub rest_fits : IsBytes rest

-- what two readers take in turn is taken together
pub takes-then : (a x b y c : List ℕ) → Takes a x b → Takes b y c → Takes a (x ++ y) c
takes-then a x b y c p q = record { parts = p.parts ∙ ap (λ (t : List ℕ). x ++ t) q.parts ∙ sym (append_assoc x y c); rest_fits = q.rest_fits }

-- ---- fields

-- a number that is read is spelled in the eight bytes that were taken
pub number_takes : (bytes : List ℕ) (n : ℕ) (rest : List ℕ) → IsBytes bytes → number_at bytes ≡ Ok (n, rest) → Takes bytes (number n) rest
unfolding number number_in
number_takes bytes n rest fits e =
    let g = guard_ok (ltb (length bytes) 8) (length bytes) (from_be_bytes w64 (take 8 bytes), drop 8 bytes) (n, rest) e in
    let long : 8 ≤ length bytes = ltb-false _ _ g.0 in
    let n-is : from_be_bytes w64 (take 8 bytes) ≡ n = ap (λ (p : ℕ × List ℕ). p.0) g.1 in
    let rest-is : drop 8 bytes ≡ rest = ap (λ (p : ℕ × List ℕ). p.1) g.1 in
    let front : to_be_bytes w64 n ≡ take 8 bytes = be_bytes_8 (take 8 bytes) n (omega (arith, length-take 8 bytes)) (IsBytes-take 8 bytes fits) (sym n-is) in
    record {
      parts = sym (take-append-drop 8 bytes)
          ∙ (ap (λ (l : List ℕ). l ++ drop 8 bytes) (sym front) ∙ ap (λ (l : List ℕ). to_be_bytes w64 n ++ l) rest-is);
      rest_fits =
          subst IsBytes rest-is (IsBytes-drop 8 bytes fits);
    }

-- a byte that is read is the byte that was taken
pub byte_takes : (bytes : List ℕ) (b : ℕ) (rest : List ℕ) → IsBytes bytes → byte_at bytes ≡ Ok (b, rest) → Takes bytes (b ∷ []) rest
byte_takes bytes b rest fits e = let is = byte_is bytes b rest e in record { parts = is; rest_fits = λ i. subst IsBytes is fits (suc i) }

-- where n bytes are read, they are the n bytes that were taken
pub bytes_take : (n : ℕ) (bytes text rest : List ℕ) → IsBytes bytes → bytes_at n bytes ≡ Ok (text, rest) → Takes bytes text rest × (length text ≡ n)
bytes_take n bytes text rest fits e =
    let g = guard_ok (ltb (length bytes) n) (length bytes) (take n bytes, drop n bytes) (text, rest) e in
    let long : n ≤ length bytes = ltb-false _ _ g.0 in
    let text-is : take n bytes ≡ text = ap (λ (p : List ℕ × List ℕ). p.0) g.1 in
    let rest-is : drop n bytes ≡ rest = ap (λ (p : List ℕ × List ℕ). p.1) g.1 in (
      record {
        parts = sym (take-append-drop n bytes) ∙ (ap (λ (l : List ℕ). l ++ drop n bytes) text-is ∙ ap (λ (l : List ℕ). text ++ l) rest-is);
        rest_fits =
            subst IsBytes rest-is (IsBytes-drop n bytes fits);
      },
      ap length (sym text-is) ∙ omega (arith, length-take n bytes),
    )

-- ---- names

-- a byte below 2 is the form that it stands for
pub form_is : (b : ℕ) → nat_lt b 2 ≡ true → form_byte (b == 1) ≡ b
form_is zero lt = refl
form_is (suc zero) lt = refl
form_is (suc (suc b)) lt = absurd (omega (arith, ltb-true _ _ lt))

module _ (commit : ℕ) (s : Store) (name bytes : List ℕ) where
  -- the space of a commit and an ordinal that were read
  abbrev pub space_in : ℕ × List ℕ → ℕ × List ℕ → Space
  space_in c o = record { commit = c.0; ordinal = o.0 }

  -- a set's entry once its form is read: the form is 0 or 1
  abbrev pub entry_1 : ℕ × List ℕ → ℕ × List ℕ → ℕ × List ℕ → Result (DocEntry × List ℕ) ℕ
  entry_1 c o form = check (nat_lt form.0 2) (length o.1) >>= λ known. Ok (record { space = space_in c o; clustered = form.0 == 1 }, form.1)

  -- a set's entry from its form on
  abbrev pub entry_2 : ℕ × List ℕ → ℕ × List ℕ → Result (DocEntry × List ℕ) ℕ
  entry_2 c o = byte_at o.1 >>= entry_1 c o

  -- a set's entry once its ordinal is read: the space is the name's own, or new
  abbrev pub entry_3 : ℕ × List ℕ → ℕ × List ℕ → Result (DocEntry × List ℕ) ℕ
  entry_3 c o = check (is_space_of (entry_of name s.names) s.spaces (space_in c o)) (length bytes) >>= λ own. entry_2 c o

  -- a set's entry from its ordinal on
  abbrev pub entry_4 : ℕ × List ℕ → Result (DocEntry × List ℕ) ℕ
  entry_4 c = number_at c.1 >>= entry_3 c

  -- a set's entry once its commit is read: it is the record's, or the one that the name's space has
  abbrev pub entry_5 : ℕ × List ℕ → Result (DocEntry × List ℕ) ℕ
  entry_5 c = check (is_commit_of (entry_of name s.names) commit c.0) (length bytes) >>= λ came. entry_4 c

  -- an entry that is read is spelled in what was taken: its space, and its form
  pub entry_takes : (x : DocEntry × List ℕ) → IsBytes bytes → entry_at commit s name bytes ≡ Ok x
      → Takes bytes (space_bytes x.0.space ++ form_byte x.0.clustered ∷ []) x.1
  unfolding entry_at
  entry_takes x fits e =
      let c = bind_ok (number_at bytes) entry_5 x e in
      let came = bind_ok (check (is_commit_of (entry_of name s.names) commit c.0.0) (length bytes)) (λ came. entry_4 c.0) x c.2 in
      let o = bind_ok (number_at c.0.1) (entry_3 c.0) x came.2 in
      let own = bind_ok (check (is_space_of (entry_of name s.names) s.spaces (space_in c.0 o.0)) (length bytes)) (λ own. entry_2 c.0 o.0) x o.2 in
      let form = bind_ok (byte_at o.0.1) (entry_1 c.0 o.0) x own.2 in
      let known = bind_ok (check (nat_lt form.0.0 2) (length o.0.1))
      (λ known. Ok (record { space = space_in c.0 o.0; clustered = form.0.0 == 1 }, form.0.1)) x form.2 in
      let t0 = number_takes bytes c.0.0 c.0.1 fits c.1 in
      let t1 = number_takes c.0.1 o.0.0 o.0.1 t0.rest_fits o.1 in
      let t2 = byte_takes o.0.1 form.0.0 form.0.1 t1.rest_fits form.1 in
      let spaced = takes-then bytes (number c.0.0) c.0.1 (number o.0.0) o.0.1 t0 t1 in
      let all = takes-then bytes (number c.0.0 ++ number o.0.0) o.0.1 (form.0.0 ∷ []) form.0.1 spaced t2 in
      let made : DocEntry × List ℕ = (record { space = space_in c.0 o.0; clustered = form.0.0 == 1 }, form.0.1) in
      subst (λ (y : DocEntry × List ℕ). Takes bytes (space_bytes y.0.space ++ form_byte y.0.clustered ∷ []) y.1) (ok_is made x known.2)
      (subst (λ (b : ℕ). Takes bytes ((number c.0.0 ++ number o.0.0) ++ b ∷ []) form.0.1)
      (sym (form_is form.0.0 (check_ok (nat_lt form.0.0 2) (length o.0.1) known.0 known.1))) all)

entry_if_takes : (sets : Bool) (commit : ℕ) (s : Store) (name bytes : List ℕ) (x : Option DocEntry × List ℕ) → IsBytes bytes
    → entry_if sets commit s name bytes ≡ Ok x
    → (behind : List ℕ) × Takes bytes behind x.1 × (named_bytes name x.0 ≡ form_byte sets ∷ (name_bytes name ++ behind))
entry_if_takes false commit s name bytes x fits e =
    subst (λ (y : Option DocEntry × List ℕ). (behind : List ℕ) × Takes bytes behind y.1 × (named_bytes name y.0 ≡ 0 ∷ (name_bytes name ++ behind)))
    (ok_is (None, bytes) x e)
    ([], record { parts = refl; rest_fits = fits }, ap (λ (l : List ℕ). 0 ∷ l) (sym (append-nil (name_bytes name))))
entry_if_takes true commit s name bytes x fits e =
    let d = bind_ok (entry_at commit s name bytes) (λ (d : DocEntry × List ℕ). Ok (Some d.0, d.1)) x e in
    let t = entry_takes commit s name bytes d.0 fits d.1 in
    subst (λ (y : Option DocEntry × List ℕ). (behind : List ℕ) × Takes bytes behind y.1 × (named_bytes name y.0 ≡ 1 ∷ (name_bytes name ++ behind)))
    (ok_is (Some d.0.0, d.0.1) x d.2) (
      space_bytes d.0.0.space ++ form_byte d.0.0.clustered ∷ [],
      t,
      ap (λ (l : List ℕ). 1 ∷ l)
          (append_assoc (name_bytes name) (space_bytes d.0.0.space) (form_byte d.0.0.clustered ∷ [])),
    )

module _ (commit : ℕ) (before : List LogName) (s : Store) (bytes : List ℕ) where
  -- a change of a name once its entry is read
  abbrev pub name_1 : ℕ × List ℕ → List ℕ × List ℕ → Option DocEntry × List ℕ → Result (LogName × List ℕ) ℕ
  name_1 kind name entry = Ok (record { name = name.0; entry = entry.0 }, entry.1)

  -- a change of a name from its entry on
  abbrev pub name_2 : ℕ × List ℕ → List ℕ × List ℕ → Result (LogName × List ℕ) ℕ
  name_2 kind name = entry_if (kind.0 == 1) commit s name.0 name.1 >>= name_1 kind name

  -- a change of a name once the name is in order: a name that is dropped is there
  abbrev pub name_3 : ℕ × List ℕ → List ℕ × List ℕ → Result (LogName × List ℕ) ℕ
  name_3 kind name = check (kind.0 == 1 || is_some (entry_of name.0 s.names)) (length kind.1) >>= λ there. name_2 kind name

  -- a change of a name once its text is right: it comes after the one before it
  abbrev pub name_4 : ℕ × List ℕ → List ℕ × List ℕ → Result (LogName × List ℕ) ℕ
  name_4 kind name = check (is_next_name (last_in before) (kind.0 == 1) name.0) (length kind.1) >>= λ next. name_3 kind name

  -- a change of a name once its bytes are read: they are a name
  abbrev pub name_5 : ℕ × List ℕ → List ℕ × List ℕ → Result (LogName × List ℕ) ℕ
  name_5 kind name = check (is_name name.0) (length kind.1) >>= λ good. name_4 kind name

  -- a change of a name once its length is read: so many bytes follow
  abbrev pub name_6 : ℕ × List ℕ → ℕ × List ℕ → Result (LogName × List ℕ) ℕ
  name_6 kind long = bytes_at long.0 long.1 >>= name_5 kind

  -- a change of a name from its length on
  abbrev pub name_7 : ℕ × List ℕ → Result (LogName × List ℕ) ℕ
  name_7 kind = byte_at kind.1 >>= name_6 kind

  -- a change of a name once its kind is read: it is 0 or 1
  abbrev pub name_8 : ℕ × List ℕ → Result (LogName × List ℕ) ℕ
  name_8 kind = check (nat_lt kind.0 2) (length bytes) >>= λ known. name_7 kind

  -- a change of a name that is read is spelled in what was taken
  pub name_takes : (x : LogName × List ℕ) → IsBytes bytes → name_at commit before s bytes ≡ Ok x → Takes bytes (name_change x.0) x.1
  unfolding name_at
  name_takes x fits e =
      let kind = bind_ok (byte_at bytes) name_8 x e in
      let known = bind_ok (check (nat_lt kind.0.0 2) (length bytes)) (λ known. name_7 kind.0) x kind.2 in
      let long = bind_ok (byte_at kind.0.1) (name_6 kind.0) x known.2 in
      let name = bind_ok (bytes_at long.0.0 long.0.1) (name_5 kind.0) x long.2 in
      let good = bind_ok (check (is_name name.0.0) (length kind.0.1)) (λ good. name_4 kind.0 name.0) x name.2 in
      let next = bind_ok (check (is_next_name (last_in before) (kind.0.0 == 1) name.0.0) (length kind.0.1)) (λ next. name_3 kind.0 name.0) x good.2 in
      let there = bind_ok (check (kind.0.0 == 1 || is_some (entry_of name.0.0 s.names)) (length kind.0.1)) (λ there. name_2 kind.0 name.0) x next.2 in
      let entry = bind_ok (entry_if (kind.0.0 == 1) commit s name.0.0 name.0.1) (name_1 kind.0 name.0) x there.2 in
      let t0 = byte_takes bytes kind.0.0 kind.0.1 fits kind.1 in
      let t1 = byte_takes kind.0.1 long.0.0 long.0.1 t0.rest_fits long.1 in
      let t2 = bytes_take long.0.0 long.0.1 name.0.0 name.0.1 t1.rest_fits name.1 in
      let t3 = entry_if_takes (kind.0.0 == 1) commit s name.0.0 name.0.1 entry.0 t2.0.rest_fits entry.1 in
      let named = takes-then kind.0.1 (long.0.0 ∷ []) long.0.1 name.0.0 name.0.1 t1 t2.0 in
      let sized : Takes kind.0.1 (name_bytes name.0.0) name.0.1 = subst (λ (n : ℕ). Takes kind.0.1 (n ∷ name.0.0) name.0.1) (sym t2.1) named in
      let behind = takes-then kind.0.1 (name_bytes name.0.0) name.0.1 t3.0 entry.0.1 sized t3.1 in
      let all = takes-then bytes (kind.0.0 ∷ []) kind.0.1 (name_bytes name.0.0 ++ t3.0) entry.0.1 t0 behind in
      let made : LogName × List ℕ = (record { name = name.0.0; entry = entry.0.0 }, entry.0.1) in
      subst (λ (y : LogName × List ℕ). Takes bytes (name_change y.0) y.1) (ok_is made x entry.2)
      (subst (λ (l : List ℕ). Takes bytes l entry.0.1)
      (ap (λ (k : ℕ). k ∷ (name_bytes name.0.0 ++ t3.0)) (sym (form_is kind.0.0 (check_ok (nat_lt kind.0.0 2) (length bytes) known.0 known.1)))
      ∙ sym t3.2) all)

-- n changes of names that are read, after those that were done, are spelled in what was taken
pub names_take : (commit n : ℕ) (done : List LogName) (s : Store) (bytes : List ℕ) (x : List LogName × List ℕ) → IsBytes bytes
    → names_at commit n done s bytes ≡ Ok x
    → (more : List LogName) × (x.0 ≡ done ++ more) × (length more ≡ n) × Takes bytes (flat_map name_change more) x.1
unfolding names_at
names_take commit zero done s bytes x fits e =
    subst (λ (y : List LogName × List ℕ). (more : List LogName) × (y.0 ≡ done ++ more) × (length more ≡ 0) × Takes bytes (flat_map name_change more) y.1)
    (ok_is (done, bytes) x e)
    ([], sym (append-nil done), refl, record { parts = refl; rest_fits = fits })
names_take commit (suc n) done s bytes x fits e =
    let first = bind_ok (name_at commit done s bytes) (λ (f : LogName × List ℕ). names_at commit n (done ++ f.0 ∷ []) (after_name f.0 s) f.1) x e in
    let t = name_takes commit done s bytes first.0 fits first.1 in
    let rest = names_take commit n (done ++ first.0.0 ∷ []) (after_name first.0.0 s) first.0.1 x t.rest_fits first.2 in (
      first.0.0 ∷ rest.0,
      rest.1
          ∙ append_assoc done (first.0.0 ∷ []) rest.0,
      ap suc rest.2,
      takes-then bytes (name_change first.0.0) first.0.1
          (flat_map name_change rest.0) x.1 t rest.3,
    )

-- ---- pages

module _ (last : Option PageChange) (spaces : Spaces) (bytes : List ℕ) where
  -- the place of a commit, an ordinal and a number that were read
  abbrev pub id_in : ℕ × List ℕ → ℕ × List ℕ → ℕ × List ℕ → PageId
  id_in c o n = record { space = record { commit = c.0; ordinal = o.0 }; number = n.0 }

  -- a page's place once its number is read: it is above the one before it
  abbrev pub id_1 : ℕ × List ℕ → ℕ × List ℕ → ℕ × List ℕ → Result (PageId × List ℕ) ℕ
  id_1 c o n = check (is_next_page last (id_in c o n)) (length bytes) >>= λ next. Ok (id_in c o n, n.1)

  -- a page's place from its number on
  abbrev pub id_2 : ℕ × List ℕ → ℕ × List ℕ → Result (PageId × List ℕ) ℕ
  id_2 c o = number_at o.1 >>= id_1 c o

  -- the space is not below that of the page before, and is a document's
  abbrev pub is_own : ℕ × List ℕ → ℕ × List ℕ → Bool
  is_own c o = is_next_space last (record { commit = c.0; ordinal = o.0 }) && has_space spaces (record { commit = c.0; ordinal = o.0 })

  -- a page's place once its ordinal is read: its space is in order and a document's
  abbrev pub id_3 : ℕ × List ℕ → ℕ × List ℕ → Result (PageId × List ℕ) ℕ
  id_3 c o = check (is_own c o) (length bytes) >>= λ own. id_2 c o

  -- a page's place from its ordinal on
  abbrev pub id_4 : ℕ × List ℕ → Result (PageId × List ℕ) ℕ
  id_4 c = number_at c.1 >>= id_3 c

  -- a page's place once its commit is read: it is in order, and some document's space has it
  abbrev pub id_5 : ℕ × List ℕ → Result (PageId × List ℕ) ℕ
  id_5 c = check (is_next_commit last c.0 && has_commit spaces c.0) (length bytes) >>= λ came. id_4 c

  -- a page's place that is read is spelled in what was taken
  pub id_takes : (x : PageId × List ℕ) → IsBytes bytes → id_at last spaces bytes ≡ Ok x → Takes bytes (space_bytes x.0.space ++ number x.0.number) x.1
  unfolding id_at
  id_takes x fits e =
      let c = bind_ok (number_at bytes) id_5 x e in
      let came = bind_ok (check (is_next_commit last c.0.0 && has_commit spaces c.0.0) (length bytes)) (λ came. id_4 c.0) x c.2 in
      let o = bind_ok (number_at c.0.1) (id_3 c.0) x came.2 in
      let own = bind_ok (check (is_own c.0 o.0) (length bytes)) (λ own. id_2 c.0 o.0) x o.2 in
      let n = bind_ok (number_at o.0.1) (id_1 c.0 o.0) x own.2 in
      let next = bind_ok (check (is_next_page last (id_in c.0 o.0 n.0)) (length bytes)) (λ next. Ok (id_in c.0 o.0 n.0, n.0.1)) x n.2 in
      let t0 = number_takes bytes c.0.0 c.0.1 fits c.1 in
      let t1 = number_takes c.0.1 o.0.0 o.0.1 t0.rest_fits o.1 in
      let t2 = number_takes o.0.1 n.0.0 n.0.1 t1.rest_fits n.1 in
      let spaced = takes-then bytes (number c.0.0) c.0.1 (number o.0.0) o.0.1 t0 t1 in
      let all = takes-then bytes (number c.0.0 ++ number o.0.0) o.0.1 (number n.0.0) n.0.1 spaced t2 in
      subst (λ (y : PageId × List ℕ). Takes bytes (space_bytes y.0.space ++ number y.0.number) y.1) (ok_is (id_in c.0 o.0 n.0, n.0.1) x next.2) all

image_takes : (there : Bool) (bytes : List ℕ) (x : Option (List ℕ) × List ℕ) → IsBytes bytes → image_if there bytes ≡ Ok x
    → (behind : List ℕ) × Takes bytes behind x.1 × (image_bytes x.0 ≡ form_byte there ∷ behind)
image_takes false bytes x fits e =
    subst (λ (y : Option (List ℕ) × List ℕ). (behind : List ℕ) × Takes bytes behind y.1 × (image_bytes y.0 ≡ 0 ∷ behind)) (ok_is (None, bytes) x e)
    ([], record { parts = refl; rest_fits = fits }, refl)
image_takes true bytes x fits e =
    let d = bind_ok (bytes_at 4096 bytes) (λ (d : List ℕ × List ℕ). Ok (Some d.0, d.1)) x e in
    subst (λ (y : Option (List ℕ) × List ℕ). (behind : List ℕ) × Takes bytes behind y.1 × (image_bytes y.0 ≡ 1 ∷ behind)) (ok_is (Some d.0.0, d.0.1) x d.2)
    (d.0.0, (bytes_take 4096 bytes d.0.0 d.0.1 fits d.1).0, refl)

module _ (before : List PageChange) (s : Store) (bytes : List ℕ) where
  -- a change of a page once its image is read
  abbrev pub page_1 : PageId × List ℕ → Option (List ℕ) × List ℕ → Result (PageChange × List ℕ) ℕ
  page_1 id image = Ok (record { id = id.0; page = image.0 }, image.1)

  -- a change of a page from its image on
  abbrev pub page_2 : PageId × List ℕ → ℕ × List ℕ → Result (PageChange × List ℕ) ℕ
  page_2 id kind = image_if (kind.0 == 1) kind.1 >>= page_1 id

  -- a change of a page once its kind is known: a page that is gone was there
  abbrev pub page_3 : PageId × List ℕ → ℕ × List ℕ → Result (PageChange × List ℕ) ℕ
  page_3 id kind = check (kind.0 == 1 || map.contains_key s.pages id.0) (length bytes) >>= λ there. page_2 id kind

  -- a change of a page once its kind is read: it is 0 or 1
  abbrev pub page_4 : PageId × List ℕ → ℕ × List ℕ → Result (PageChange × List ℕ) ℕ
  page_4 id kind = check (nat_lt kind.0 2) (length id.1) >>= λ known. page_3 id kind

  -- a change of a page from its kind on
  abbrev pub page_5 : PageId × List ℕ → Result (PageChange × List ℕ) ℕ
  page_5 id = byte_at id.1 >>= page_4 id

  -- a change of a page that is read is spelled in what was taken
  pub page_takes : (x : PageChange × List ℕ) → IsBytes bytes → page_at before s bytes ≡ Ok x → Takes bytes (page_change x.0) x.1
  unfolding page_at
  page_takes x fits e =
      let id = bind_ok (id_at (last_in before) s.spaces bytes) page_5 x e in
      let kind = bind_ok (byte_at id.0.1) (page_4 id.0) x id.2 in
      let known = bind_ok (check (nat_lt kind.0.0 2) (length id.0.1)) (λ known. page_3 id.0 kind.0) x kind.2 in
      let there = bind_ok (check (kind.0.0 == 1 || map.contains_key s.pages id.0.0) (length bytes)) (λ there. page_2 id.0 kind.0) x known.2 in
      let image = bind_ok (image_if (kind.0.0 == 1) kind.0.1) (page_1 id.0) x there.2 in
      let t0 = id_takes (last_in before) s.spaces bytes id.0 fits id.1 in
      let t1 = byte_takes id.0.1 kind.0.0 kind.0.1 t0.rest_fits kind.1 in
      let t2 = image_takes (kind.0.0 == 1) kind.0.1 image.0 t1.rest_fits image.1 in
      let behind = takes-then id.0.1 (kind.0.0 ∷ []) kind.0.1 t2.0 image.0.1 t1 t2.1 in
      let shown : Takes id.0.1 (image_bytes image.0.0) image.0.1 =
      subst (λ (l : List ℕ). Takes id.0.1 l image.0.1)
      (ap (λ (k : ℕ). k ∷ t2.0) (sym (form_is kind.0.0 (check_ok (nat_lt kind.0.0 2) (length id.0.1) known.0 known.1))) ∙ sym t2.2) behind in
      let all = takes-then bytes (space_bytes id.0.0.space ++ number id.0.0.number) id.0.1 (image_bytes image.0.0) image.0.1 t0 shown in
      let made : PageChange × List ℕ = (record { id = id.0.0; page = image.0.0 }, image.0.1) in
      subst (λ (y : PageChange × List ℕ). Takes bytes (page_change y.0) y.1) (ok_is made x image.2) all

-- n changes of pages that are read, after those that were done, are spelled in what was taken
pub pages_take : (n : ℕ) (done : List PageChange) (s : Store) (bytes : List ℕ) (x : List PageChange × List ℕ) → IsBytes bytes → pages_at n done s bytes ≡ Ok x
    → (more : List PageChange) × (x.0 ≡ done ++ more) × (length more ≡ n) × Takes bytes (flat_map page_change more) x.1
unfolding pages_at
pages_take zero done s bytes x fits e =
    subst (λ (y : List PageChange × List ℕ). (more : List PageChange) × (y.0 ≡ done ++ more) × (length more ≡ 0) × Takes bytes (flat_map page_change more) y.1)
    (ok_is (done, bytes) x e)
    ([], sym (append-nil done), refl, record { parts = refl; rest_fits = fits })
pages_take (suc n) done s bytes x fits e =
    let first = bind_ok (page_at done s bytes) (λ (f : PageChange × List ℕ). pages_at n (done ++ f.0 ∷ []) s f.1) x e in
    let t = page_takes done s bytes first.0 fits first.1 in
    let rest = pages_take n (done ++ first.0.0 ∷ []) s first.0.1 x t.rest_fits first.2 in (
      first.0.0 ∷ rest.0,
      rest.1
          ∙ append_assoc done (first.0.0 ∷ []) rest.0,
      ap suc rest.2,
      takes-then bytes (page_change first.0.0) first.0.1
          (flat_map page_change rest.0) x.1 t rest.3,
    )

-- ---- records

module _ (s : Store) (bytes : List ℕ) where
  -- a body once its pages are read
  abbrev pub body_1 : ℕ × List ℕ → List LogName × List ℕ → List PageChange × List ℕ → Result (Change × List ℕ) ℕ
  body_1 commit names pages = Ok (record { commit = commit.0; names = names.0; pages = pages.0 }, pages.1)

  -- a body from its pages on
  abbrev pub body_2 : ℕ × List ℕ → List LogName × List ℕ → ℕ × List ℕ → Result (Change × List ℕ) ℕ
  body_2 commit names paged = pages_at paged.0 [] (after_names names.0 s) paged.1 >>= body_1 commit names

  -- a body from the count of its pages on
  abbrev pub body_3 : ℕ × List ℕ → List LogName × List ℕ → Result (Change × List ℕ) ℕ
  body_3 commit names = number_at names.1 >>= body_2 commit names

  -- a body from its names on
  abbrev pub body_4 : ℕ × List ℕ → ℕ × List ℕ → Result (Change × List ℕ) ℕ
  body_4 commit named = names_at commit.0 named.0 [] s named.1 >>= body_3 commit

  -- a body from the count of its names on
  abbrev pub body_5 : ℕ × List ℕ → Result (Change × List ℕ) ℕ
  body_5 commit = number_at commit.1 >>= body_4 commit

  -- a body once its commit is read: it is the next one
  abbrev pub body_6 : ℕ × List ℕ → Result (Change × List ℕ) ℕ
  body_6 commit = check (commit.0 == s.commit + 1) (length bytes) >>= λ next. body_5 commit

  -- a body that is read is spelled in what was taken
  pub body_takes : (x : Change × List ℕ) → IsBytes bytes → body_at s bytes ≡ Ok x → Takes bytes (body_of x.0) x.1
  unfolding body_at
  body_takes x fits e =
      let commit = bind_ok (number_at bytes) body_6 x e in
      let next = bind_ok (check (commit.0.0 == s.commit + 1) (length bytes)) (λ next. body_5 commit.0) x commit.2 in
      let named = bind_ok (number_at commit.0.1) (body_4 commit.0) x next.2 in
      let names = bind_ok (names_at commit.0.0 named.0.0 [] s named.0.1) (body_3 commit.0) x named.2 in
      let paged = bind_ok (number_at names.0.1) (body_2 commit.0 names.0) x names.2 in
      let pages = bind_ok (pages_at paged.0.0 [] (after_names names.0.0 s) paged.0.1) (body_1 commit.0 names.0) x paged.2 in
      let t0 = number_takes bytes commit.0.0 commit.0.1 fits commit.1 in
      let t1 = number_takes commit.0.1 named.0.0 named.0.1 t0.rest_fits named.1 in
      let t2 = names_take commit.0.0 named.0.0 [] s named.0.1 names.0 t1.rest_fits names.1 in
      let t3 = number_takes names.0.1 paged.0.0 paged.0.1 t2.3.rest_fits paged.1 in
      let t4 = pages_take paged.0.0 [] (after_names names.0.0 s) paged.0.1 pages.0 t3.rest_fits pages.1 in
      let u1 = takes-then bytes (number commit.0.0) commit.0.1 (number named.0.0) named.0.1 t0 t1 in
      let u2 = takes-then bytes (number commit.0.0 ++ number named.0.0) named.0.1 (flat_map name_change t2.0) names.0.1 u1 t2.3 in
      let u3 = takes-then bytes ((number commit.0.0 ++ number named.0.0) ++ flat_map name_change t2.0) names.0.1 (number paged.0.0) paged.0.1 u2 t3 in
      let u4 = takes-then bytes (((number commit.0.0 ++ number named.0.0) ++ flat_map name_change t2.0) ++ number paged.0.0) paged.0.1
      (flat_map page_change t4.0) pages.0.1 u3 t4.3 in
      let made : Change × List ℕ = (record { commit = commit.0.0; names = names.0.0; pages = pages.0.0 }, pages.0.1) in
      let counted : Takes bytes (body_of (record { commit = commit.0.0; names = t2.0; pages = t4.0 })) pages.0.1 =
      subst (λ (z : ℕ × ℕ). Takes bytes
      ((((number commit.0.0 ++ number z.0) ++ flat_map name_change t2.0) ++ number z.1) ++ flat_map page_change t4.0) pages.0.1)
      (λ k. (sym t2.2 k, sym t4.2 k)) u4 in
      subst (λ (y : Change × List ℕ). Takes bytes (body_of y.0) y.1) (ok_is made x pages.2)
      (subst (λ (z : List LogName × List PageChange). Takes bytes (body_of (record { commit = commit.0.0; names = z.0; pages = z.1 })) pages.0.1)
      (λ k. (sym t2.1 k, sym t4.1 k)) counted)

-- what is read is spelled so, and a gate stands after it
module _ (s : Store) (bytes : List ℕ) where
  -- a record once its length is right: each document has its page 0
  abbrev pub record_1 : ℕ × List ℕ → Change × List ℕ → Result (Change × List ℕ) ℕ
  record_1 long body = all_housed body.0 (after_names body.0.names s).pages (length long.1) >>= λ housed. Ok body

  -- a record once a gate follows: the length is the body's
  abbrev pub record_2 : ℕ × List ℕ → Change × List ℕ → Result (Change × List ℕ) ℕ
  record_2 long body = check (long.0 + length body.1 == length long.1) (length bytes) >>= λ exact. record_1 long body

  -- a record once its body is read: a gate follows
  abbrev pub record_3 : ℕ × List ℕ → Change × List ℕ → Result (Change × List ℕ) ℕ
  record_3 long body = check (nat_lt 0 (length body.1)) 0 >>= λ gate. record_2 long body

  -- a record from its body on
  abbrev pub record_4 : ℕ × List ℕ → Result (Change × List ℕ) ℕ
  record_4 long = body_at s long.1 >>= record_3 long

  -- a record that is read is spelled in what was taken, its length first, and something is left after it
  pub record_takes : (x : Change × List ℕ) → IsBytes bytes → record_at s bytes ≡ Ok x
      → Takes bytes (number (length (body_of x.0)) ++ body_of x.0) x.1 × (0 < length x.1)
  unfolding record_at
  record_takes x fits e =
      let long = bind_ok (number_at bytes) record_4 x e in
      let body = bind_ok (body_at s long.0.1) (record_3 long.0) x long.2 in
      let gate = bind_ok (check (nat_lt 0 (length body.0.1)) 0) (λ gate. record_2 long.0 body.0) x body.2 in
      let exact = bind_ok (check (long.0.0 + length body.0.1 == length long.0.1) (length bytes)) (λ exact. record_1 long.0 body.0) x gate.2 in
      let housed = bind_ok (all_housed body.0.0 (after_names body.0.0.names s).pages (length long.0.1)) (λ housed. Ok body.0) x exact.2 in
      let t0 = number_takes bytes long.0.0 long.0.1 fits long.1 in
      let t1 = body_takes s long.0.1 body.0 t0.rest_fits body.1 in
      let all = takes-then bytes (number long.0.0) long.0.1 (body_of body.0.0) body.0.1 t0 t1 in
      let count : long.0.0 + length body.0.1 ≡ length long.0.1 =
      eqb-true _ _ (check_ok (long.0.0 + length body.0.1 == length long.0.1) (length bytes) exact.0 exact.1) in
      let same : long.0.0 ≡ length (body_of body.0.0) = omega (arith, count, ap length t1.parts, length-append (body_of body.0.0) body.0.1) in
      subst (λ (y : Change × List ℕ). Takes bytes (number (length (body_of y.0)) ++ body_of y.0) y.1 × (0 < length y.1)) (ok_is body.0 x housed.2)
      (subst (λ (n : ℕ). Takes bytes (number n ++ body_of body.0.0) body.0.1) same all, ltb-true _ _ (check_ok (nat_lt 0 (length body.0.1)) 0 gate.0 gate.1))

-- what was read is the records that are spelled so
pub records_take : (cs : List Change) (s : Store) (bytes end : List ℕ) → IsBytes bytes → AreRecords s cs bytes end → bytes ≡ flat_map record_of cs ++ end
records_take [] s bytes end fits r = r.0
records_take (c ∷ cs) s bytes end fits r =
    let behind = subst IsBytes r.2 fits in
    let t = record_takes s r.0 (c, r.1) (λ i. behind (suc i)) r.3 in
    let rest = records_take cs (after c s) r.1 end t.0.rest_fits r.4 in
    r.2 ∙ (ap (λ (l : List ℕ). 1 ∷ l) (t.0.parts ∙ ap (λ (l : List ℕ). (number (length (body_of c)) ++ body_of c) ++ l) rest)
    ∙ sym (append_assoc (record_of c) (flat_map record_of cs) end))

-- how far the rest is
pub rest_is : (bytes front rest : List ℕ) → bytes ≡ front ++ rest → drop (length bytes - length rest) bytes ≡ rest
rest_is bytes front rest is = ap (drop (length bytes - length rest)) is
    ∙ drop_at front rest (length bytes - length rest) (omega (arith, ap length is, length-append front rest))

-- a record that is read behind an open gate is spelled there, and the rest stands after it
pub record_spelled : (s : Store) (bytes : List ℕ) (c : Change) (rest : List ℕ) → IsBytes bytes → record_at s bytes ≡ Ok (c, rest)
    → 1 ∷ bytes ≡ record_of c ++ rest
record_spelled s bytes c rest fits e = ap (λ (l : List ℕ). 1 ∷ l) (record_takes s bytes (c, rest) fits e).0.parts
