-- What a reader took of a head is what the head's bytes say, and it is a head that is taken.
use Rattle.std.proofs.Common.{◌≡◌, ℕ, zero, suc, ◌-◌, ◌<◌, ◌≤◌, ◌^◌, List, [], ◌∷◌, ◌++◌, length, Some, Result, Ok, refl, sym, ap, subst, ◌∙◌, append_assoc, arith}
use Rattle.std.specs.Prelude.{nat_lt, nat_le, not, true, ◌==◌, ◌&&◌, IsTrue, All}
use Rattle.std.specs.List.{flat_map, list_all}
use Rattle.std.specs.FinMap as finite
use Rattle.std.proofs.lemmas.Bool.{ltb-true}
use Rattle.std.proofs.lemmas.List.{append-nil}
use Rattle.xq_ast.specs.declared.limits.TheConstants.{DOCUMENT_NAME_BYTES_MAX}
use Rattle.page_bytes.specs.declared.ids.Space.{Space}
use Rattle.page_bytes.specs.declared.ids.DocEntry.{DocEntry}
use Rattle.page_bytes.specs.declared.ids.PageId.{PageId}
use Rattle.page_bytes.specs.Known.{PageIds, Spaces}
use Rattle.redo_log.specs.declared.change.LogName.{LogName}
use Rattle.redo_log.specs.declared.store.Store.{Store}
use Rattle.redo_log.specs.Record.{number, name_bytes, entry_bytes, id_bytes}
use Rattle.redo_log.specs.Store.{has_space, after_name, with_ids}
use Rattle.redo_log.specs.Reading.{◌>>=◌, IsBytes, check, number_at, byte_at, bytes_at, is_name, last_in, is_next_name, id_at, has_home}
use Rattle.redo_log.specs.Head.{Head, Row, last_page, ids_of, document_entry_at, document_at, documents_at, document_length, is_inside, is_unnamed, row_at, rows_at, documents_housed, documents_of, head_at}
use Rattle.redo_log.specs.HeadBytes.{document_bytes, row_bytes, head_bytes, IsDocumentTaken, AreDocumentsTaken, IsRowTaken, AreRowsTaken, IsHeadTaken, SpellHead}
use Rattle.redo_log.proofs.Takes.{bind_ok, check_ok, ok_is, form_is, Takes, takes-then, number_takes, byte_takes, bytes_take, id_takes}
use Rattle.redo_log.proofs.Opened.{number_small, byte_small, id_taken, both_true}

-- ---- documents

-- a document's space and form: the numbers fit, the space is its own and of a commit up to the head's
record IsPlaceTaken (commit : ℕ) (spaces : Spaces) (e : DocEntry) : Type 0 where
  commit_fits : e.space.commit < 2 ^ 64
  ordinal_fits : e.space.ordinal < 2 ^ 64
  from : IsTrue (nat_lt 0 e.space.commit && nat_le e.space.commit commit)
  own : IsTrue (not (has_space spaces e.space))

-- the space of a commit and an ordinal that were read
abbrev space_read : ℕ × List ℕ → ℕ × List ℕ → Space
space_read c o = record { commit = c.0; ordinal = o.0 }

-- an entry of a commit, an ordinal and a form that were read
abbrev entry_read : ℕ × List ℕ → ℕ × List ℕ → ℕ × List ℕ → DocEntry × List ℕ
entry_read c o form = (record { space = space_read c o; clustered = form.0 == 1 }, form.1)

module _ (commit : ℕ) (spaces : Spaces) (bytes : List ℕ) where
  -- an entry once its form is read, and then from ever earlier fields on
  abbrev entry_1 : ℕ × List ℕ → ℕ × List ℕ → ℕ × List ℕ → Result (DocEntry × List ℕ) ℕ
  entry_1 c o form = check (nat_lt form.0 2) (length o.1) >>= λ known. Ok (entry_read c o form)

  abbrev entry_2 : ℕ × List ℕ → ℕ × List ℕ → Result (DocEntry × List ℕ) ℕ
  entry_2 c o = byte_at o.1 >>= entry_1 c o

  abbrev entry_3 : ℕ × List ℕ → ℕ × List ℕ → Result (DocEntry × List ℕ) ℕ
  entry_3 c o = check (not (has_space spaces (space_read c o))) (length bytes) >>= λ own. entry_2 c o

  abbrev entry_4 : ℕ × List ℕ → Result (DocEntry × List ℕ) ℕ
  entry_4 c = number_at c.1 >>= entry_3 c

  abbrev entry_5 : ℕ × List ℕ → Result (DocEntry × List ℕ) ℕ
  entry_5 c = check (nat_lt 0 c.0 && nat_le c.0 commit) (length bytes) >>= λ came. entry_4 c

  -- an entry that is read is spelled in what was taken, and is taken
  entry_reads : (x : DocEntry × List ℕ) → IsBytes bytes → document_entry_at commit spaces bytes ≡ Ok x
      → Takes bytes (entry_bytes x.0) x.1 × IsPlaceTaken commit spaces x.0
  unfolding document_entry_at
  entry_reads x fits e =
      let c = bind_ok (number_at bytes) entry_5 x e in
      let came = bind_ok (check (nat_lt 0 c.0.0 && nat_le c.0.0 commit) (length bytes)) (λ came. entry_4 c.0) x c.2 in
      let o = bind_ok (number_at c.0.1) (entry_3 c.0) x came.2 in
      let own = bind_ok (check (not (has_space spaces (space_read c.0 o.0))) (length bytes)) (λ own. entry_2 c.0 o.0) x o.2 in
      let form = bind_ok (byte_at o.0.1) (entry_1 c.0 o.0) x own.2 in
      let known = bind_ok (check (nat_lt form.0.0 2) (length o.0.1)) (λ known. Ok (entry_read c.0 o.0 form.0)) x form.2 in
      let t0 = number_takes bytes c.0.0 c.0.1 fits c.1 in
      let t1 = number_takes c.0.1 o.0.0 o.0.1 t0.rest_fits o.1 in
      let t2 = byte_takes o.0.1 form.0.0 form.0.1 t1.rest_fits form.1 in
      let spaced = takes-then bytes (number c.0.0) c.0.1 (number o.0.0) o.0.1 t0 t1 in
      let all = takes-then bytes (number c.0.0 ++ number o.0.0) o.0.1 (form.0.0 ∷ []) form.0.1 spaced t2 in
      subst (λ (y : DocEntry × List ℕ). Takes bytes (entry_bytes y.0) y.1 × IsPlaceTaken commit spaces y.0) (ok_is (entry_read c.0 o.0 form.0) x known.2) (
        subst (λ (b : ℕ). Takes bytes ((number c.0.0 ++ number o.0.0) ++ b ∷ []) form.0.1)
            (sym (form_is form.0.0 (check_ok (nat_lt form.0.0 2) (length o.0.1) known.0 known.1))) all,
        record {
          commit_fits = number_small bytes c.0 fits c.1;
          ordinal_fits = number_small c.0.1 o.0 t0.rest_fits o.1;
          from = check_ok _ (length bytes) came.0 came.1;
          own = check_ok _ (length bytes) own.0 own.1;
        },
      )

-- a name's length is a byte
abbrev pub IsShort : LogName → Type 0
IsShort n = length n.name ≤ DOCUMENT_NAME_BYTES_MAX

-- the first is short, and so are the others
all_short : (n : LogName) (ns : List LogName) → IsShort n → All IsShort ns → All IsShort (n ∷ ns)
all_short n ns one more zero d lt = one
all_short n ns one more (suc k) d lt = more k d (omega arith)

module _ (commit : ℕ) (done : List LogName) (spaces : Spaces) (bytes : List ℕ) where
  -- a document once its entry is read, and then from ever earlier fields on
  abbrev document_1 : List ℕ × List ℕ → DocEntry × List ℕ → Result (LogName × List ℕ) ℕ
  document_1 name entry = Ok (record { name = name.0; entry = Some entry.0 }, entry.1)

  abbrev document_2 : List ℕ × List ℕ → Result (LogName × List ℕ) ℕ
  document_2 name = document_entry_at commit spaces name.1 >>= document_1 name

  abbrev document_3 : List ℕ × List ℕ → Result (LogName × List ℕ) ℕ
  document_3 name = check (is_next_name (last_in done) true name.0) (length bytes) >>= λ next. document_2 name

  abbrev document_4 : List ℕ × List ℕ → Result (LogName × List ℕ) ℕ
  document_4 name = check (is_name name.0) (length bytes) >>= λ good. document_3 name

  abbrev document_5 : ℕ × List ℕ → Result (LogName × List ℕ) ℕ
  document_5 long = bytes_at long.0 long.1 >>= document_4

  -- a document that is read is spelled in what was taken, and is taken; its name is short
  document_reads : (x : LogName × List ℕ) → IsBytes bytes → document_at commit done spaces bytes ≡ Ok x
      → Takes bytes (document_bytes x.0) x.1 × IsDocumentTaken commit done spaces x.0 × IsShort x.0
  unfolding document_at
  document_reads x fits e =
      let long = bind_ok (byte_at bytes) document_5 x e in
      let name = bind_ok (bytes_at long.0.0 long.0.1) document_4 x long.2 in
      let good = bind_ok (check (is_name name.0.0) (length bytes)) (λ good. document_3 name.0) x name.2 in
      let next = bind_ok (check (is_next_name (last_in done) true name.0.0) (length bytes)) (λ next. document_2 name.0) x good.2 in
      let entry = bind_ok (document_entry_at commit spaces name.0.1) (document_1 name.0) x next.2 in
      let t0 = byte_takes bytes long.0.0 long.0.1 fits long.1 in
      let t1 = bytes_take long.0.0 long.0.1 name.0.0 name.0.1 t0.rest_fits name.1 in
      let named = takes-then bytes (long.0.0 ∷ []) long.0.1 name.0.0 name.0.1 t0 t1.0 in
      let sized : Takes bytes (name_bytes name.0.0) name.0.1 = subst (λ (n : ℕ). Takes bytes (n ∷ name.0.0) name.0.1) (sym t1.1) named in
      let t2 = entry_reads commit spaces name.0.1 entry.0 t1.0.rest_fits entry.1 in
      let all = takes-then bytes (name_bytes name.0.0) name.0.1 (entry_bytes entry.0.0) entry.0.1 sized t2.0 in
      let made : LogName × List ℕ = (record { name = name.0.0; entry = Some entry.0.0 }, entry.0.1) in
      subst (λ (y : LogName × List ℕ). Takes bytes (document_bytes y.0) y.1 × IsDocumentTaken commit done spaces y.0 × IsShort y.0) (ok_is made x entry.2) (
        all,
        record {
          name = check_ok _ (length bytes) good.0 good.1;
          next = check_ok _ (length bytes) next.0 next.1;
          entry = entry.0.0;
          is = refl;
          commit_fits = t2.1.commit_fits;
          ordinal_fits = t2.1.ordinal_fits;
          from = t2.1.from;
          own = t2.1.own;
        },
        let lt = byte_small bytes long.0 fits long.1 in omega (arith, t1.1, lt),
      )

-- documents that are read, after those that were done, are spelled in what was taken, and each is taken
record ReadDocuments (commit n : ℕ) (done : List LogName) (s : Store) (bytes : List ℕ) (x : List LogName × List ℕ) : Type 0 where
  more : List LogName
  are : x.0 ≡ done ++ more
  count : length more ≡ n
  takes : Takes bytes (flat_map document_bytes more) x.1
  taken : AreDocumentsTaken commit done s more
  short : All IsShort more

documents_read : (commit n : ℕ) (done : List LogName) (s : Store) (bytes : List ℕ) (x : List LogName × List ℕ) → IsBytes bytes
    → documents_at commit n done s bytes ≡ Ok x → ReadDocuments commit n done s bytes x
unfolding documents_at
documents_read commit zero done s bytes x fits e =
    subst (ReadDocuments commit 0 done s bytes) (ok_is (done, bytes) x e)
    record {
      more = [];
      are = sym (append-nil done);
      count = refl;
      takes = record { parts = refl; rest_fits = fits };
      taken = tt;
      short = λ k d lt. absurd (omega (arith, lt));
    }
documents_read commit (suc n) done s bytes x fits e =
    let first = bind_ok (document_at commit done s.spaces bytes)
    (λ (f : LogName × List ℕ). documents_at commit n (done ++ f.0 ∷ []) (after_name f.0 s) f.1) x e in
    let one = document_reads commit done s.spaces bytes first.0 fits first.1 in
    let rest = documents_read commit n (done ++ first.0.0 ∷ []) (after_name first.0.0 s) first.0.1 x one.0.rest_fits first.2 in
    record {
      more = first.0.0 ∷ rest.more;
      are = rest.are ∙ append_assoc done (first.0.0 ∷ []) rest.more;
      count = ap suc rest.count;
      takes = takes-then bytes (document_bytes first.0.0) first.0.1 (flat_map document_bytes rest.more) x.1 one.0 rest.takes;
      taken = (one.1, rest.taken);
      short = all_short first.0.0 rest.more one.2 rest.short;
    }

-- ---- pages

module _ (held : ℕ) (done : List Row) (spaces : Spaces) (bytes : List ℕ) where
  -- a page once its slot is read, and then from ever earlier fields on
  abbrev row_1 : PageId × List ℕ → ℕ × List ℕ → Result (Row × List ℕ) ℕ
  row_1 id slot = check (is_inside held slot.0 && is_unnamed slot.0 done) (length id.1) >>= λ own. Ok (record { id = id.0; slot = slot.0 }, slot.1)

  abbrev row_2 : PageId × List ℕ → Result (Row × List ℕ) ℕ
  row_2 id = number_at id.1 >>= row_1 id

  -- a page that is read is spelled in what was taken, and is taken
  row_reads : (x : Row × List ℕ) → IsBytes bytes → row_at held done spaces bytes ≡ Ok x → Takes bytes (row_bytes x.0) x.1 × IsRowTaken held done spaces x.0
  unfolding row_at
  row_reads x fits e =
      let id = bind_ok (id_at (last_page done) spaces bytes) row_2 x e in
      let slot = bind_ok (number_at id.0.1) (row_1 id.0) x id.2 in
      let made : Row × List ℕ = (record { id = id.0.0; slot = slot.0.0 }, slot.0.1) in
      let own = bind_ok (check (is_inside held slot.0.0 && is_unnamed slot.0.0 done) (length id.0.1)) (λ own. Ok made) x slot.2 in
      let t0 = id_takes (last_page done) spaces bytes id.0 fits id.1 in
      let t1 = number_takes id.0.1 slot.0.0 slot.0.1 t0.rest_fits slot.1 in
      let taken = id_taken (last_page done) spaces bytes id.0 fits id.1 in
      subst (λ (y : Row × List ℕ). Takes bytes (row_bytes y.0) y.1 × IsRowTaken held done spaces y.0) (ok_is made x own.2) (
        takes-then bytes (id_bytes id.0.0) id.0.1 (number slot.0.0) slot.0.1 t0 t1,
        record {
          commit = taken.commit;
          ordinal = taken.ordinal;
          number = taken.number;
          slot = number_small id.0.1 slot.0 t0.rest_fits slot.1;
          from = taken.from;
          own = taken.own;
          next = taken.next;
          place = check_ok _ (length id.0.1) own.0 own.1;
        },
      )

-- pages that are read, after those that were done, are spelled in what was taken, and each is taken
record ReadRows (held n : ℕ) (done : List Row) (spaces : Spaces) (bytes : List ℕ) (x : List Row × List ℕ) : Type 0 where
  more : List Row
  are : x.0 ≡ done ++ more
  count : length more ≡ n
  takes : Takes bytes (flat_map row_bytes more) x.1
  taken : AreRowsTaken held done spaces more

rows_read : (held n : ℕ) (done : List Row) (spaces : Spaces) (bytes : List ℕ) (x : List Row × List ℕ) → IsBytes bytes
    → rows_at held n done spaces bytes ≡ Ok x → ReadRows held n done spaces bytes x
unfolding rows_at
rows_read held zero done spaces bytes x fits e =
    subst (ReadRows held 0 done spaces bytes) (ok_is (done, bytes) x e)
    record { more = []; are = sym (append-nil done); count = refl; takes = record { parts = refl; rest_fits = fits }; taken = tt }
rows_read held (suc n) done spaces bytes x fits e =
    let first = bind_ok (row_at held done spaces bytes) (λ (f : Row × List ℕ). rows_at held n (done ++ f.0 ∷ []) spaces f.1) x e in
    let one = row_reads held done spaces bytes first.0 fits first.1 in
    let rest = rows_read held n (done ++ first.0.0 ∷ []) spaces first.0.1 x one.0.rest_fits first.2 in
    record {
      more = first.0.0 ∷ rest.more;
      are = rest.are ∙ append_assoc done (first.0.0 ∷ []) rest.more;
      count = ap suc rest.count;
      takes = takes-then bytes (row_bytes first.0.0) first.0.1 (flat_map row_bytes rest.more) x.1 one.0 rest.takes;
      taken = (one.1, rest.taken);
    }

-- ---- heads

were_housed : (pages : PageIds) (ns : List LogName) (left : ℕ) (u : Unit {0}) → documents_housed pages ns left ≡ Ok u
    → IsTrue (list_all (λ n. has_home pages n.entry) ns)
were_housed pages [] left u e = refl
were_housed pages (n ∷ ns) left u e =
    let h = bind_ok (check (has_home pages n.entry) left) (λ housed. documents_housed pages ns (left - document_length n)) u e in
    both_true _ _ (check_ok _ left h.0 h.1) (were_housed pages ns (left - document_length n) u h.2)

-- a head that is read: it is spelled in what was taken, it is taken, the gate of the first record follows, and names are short
pub record ReadHead (held : ℕ) (bytes : List ℕ) (x : Head × List ℕ) : Type 0 where
  pub takes : Takes bytes (head_bytes x.0) x.1
  pub taken : IsHeadTaken held x.0
  pub gate : 0 < length x.1
  pub short : All IsShort x.0.entries

-- what a head is made of, as it was read
abbrev head_read : ℕ × List ℕ → ℕ × List ℕ → List LogName × List ℕ → List Row × List ℕ → Head × List ℕ
head_read g c es rs = (record { generation = g.0; commit = c.0; entries = es.0; rows = rs.0 }, rs.1)

module _ (held : ℕ) (bytes : List ℕ) where
  -- a head once its gate is there, and then from ever earlier fields on
  abbrev head_1 : ℕ × List ℕ → ℕ × List ℕ → ℕ × List ℕ → List LogName × List ℕ → List Row × List ℕ → Result (Head × List ℕ) ℕ
  head_1 g c p es rs = documents_housed (with_ids (ids_of rs.0) finite.empty) es.0 (length p.1) >>= λ housed. Ok (head_read g c es rs)

  abbrev head_2 : ℕ × List ℕ → ℕ × List ℕ → ℕ × List ℕ → List LogName × List ℕ → List Row × List ℕ → Result (Head × List ℕ) ℕ
  head_2 g c p es rs = check (nat_lt 0 (length rs.1)) 0 >>= λ gate. head_1 g c p es rs

  abbrev head_3 : ℕ × List ℕ → ℕ × List ℕ → ℕ × List ℕ → List LogName × List ℕ → Result (Head × List ℕ) ℕ
  head_3 g c p es = rows_at held p.0 [] (documents_of c.0 es.0).spaces es.1 >>= head_2 g c p es

  abbrev head_4 : ℕ × List ℕ → ℕ × List ℕ → ℕ × List ℕ → ℕ × List ℕ → Result (Head × List ℕ) ℕ
  head_4 g c n p = documents_at c.0 n.0 [] (documents_of c.0 []) p.1 >>= head_3 g c p

  abbrev head_5 : ℕ × List ℕ → ℕ × List ℕ → ℕ × List ℕ → Result (Head × List ℕ) ℕ
  head_5 g c n = number_at n.1 >>= head_4 g c n

  abbrev head_6 : ℕ × List ℕ → ℕ × List ℕ → Result (Head × List ℕ) ℕ
  head_6 g c = number_at c.1 >>= head_5 g c

  abbrev head_7 : ℕ × List ℕ → Result (Head × List ℕ) ℕ
  head_7 g = number_at g.1 >>= head_6 g

  -- A head that is read is spelled in what was taken, and is taken.
  pub head_reads : (x : Head × List ℕ) → IsBytes bytes → head_at held bytes ≡ Ok x → ReadHead held bytes x
  unfolding head_at
  head_reads x fits e =
      let g = bind_ok (number_at bytes) head_7 x e in
      let c = bind_ok (number_at g.0.1) (head_6 g.0) x g.2 in
      let n = bind_ok (number_at c.0.1) (head_5 g.0 c.0) x c.2 in
      let p = bind_ok (number_at n.0.1) (head_4 g.0 c.0 n.0) x n.2 in
      let es = bind_ok (documents_at c.0.0 n.0.0 [] (documents_of c.0.0 []) p.0.1) (head_3 g.0 c.0 p.0) x p.2 in
      let rs = bind_ok (rows_at held p.0.0 [] (documents_of c.0.0 es.0.0).spaces es.0.1) (head_2 g.0 c.0 p.0 es.0) x es.2 in
      let gate = bind_ok (check (nat_lt 0 (length rs.0.1)) 0) (λ gate. head_1 g.0 c.0 p.0 es.0 rs.0) x rs.2 in
      let made = head_read g.0 c.0 es.0 rs.0 in
      let pages = with_ids (ids_of rs.0.0) finite.empty in
      let housed = bind_ok (documents_housed pages es.0.0 (length p.0.1)) (λ housed. Ok made) x gate.2 in
      let t0 = number_takes bytes g.0.0 g.0.1 fits g.1 in
      let t1 = number_takes g.0.1 c.0.0 c.0.1 t0.rest_fits c.1 in
      let t2 = number_takes c.0.1 n.0.0 n.0.1 t1.rest_fits n.1 in
      let t3 = number_takes n.0.1 p.0.0 p.0.1 t2.rest_fits p.1 in
      let d = documents_read c.0.0 n.0.0 [] (documents_of c.0.0 []) p.0.1 es.0 t3.rest_fits es.1 in
      let r = rows_read held p.0.0 [] (documents_of c.0.0 es.0.0).spaces es.0.1 rs.0 d.takes.rest_fits rs.1 in
      let u1 = takes-then bytes (number g.0.0) g.0.1 (number c.0.0) c.0.1 t0 t1 in
      let u2 = takes-then bytes (number g.0.0 ++ number c.0.0) c.0.1 (number n.0.0) n.0.1 u1 t2 in
      let u3 = takes-then bytes ((number g.0.0 ++ number c.0.0) ++ number n.0.0) n.0.1 (number p.0.0) p.0.1 u2 t3 in
      let front = ((number g.0.0 ++ number c.0.0) ++ number n.0.0) ++ number p.0.0 in
      let u4 = takes-then bytes front p.0.1 (flat_map document_bytes d.more) es.0.1 u3 d.takes in
      let u5 = takes-then bytes (front ++ flat_map document_bytes d.more) es.0.1 (flat_map row_bytes r.more) rs.0.1 u4 r.takes in
      let counted : Takes bytes (head_bytes (record { generation = g.0.0; commit = c.0.0; entries = d.more; rows = r.more })) rs.0.1 =
      subst (λ (z : ℕ × ℕ). Takes bytes
      (((((number g.0.0 ++ number c.0.0) ++ number z.0) ++ number z.1) ++ flat_map document_bytes d.more) ++ flat_map row_bytes r.more) rs.0.1)
      (λ k. (sym d.count k, sym r.count k)) u5 in
      subst (ReadHead held bytes) (ok_is made x housed.2) record {
        takes = subst (λ (z : List LogName × List Row). Takes bytes
            (head_bytes (record { generation = g.0.0; commit = c.0.0; entries = z.0; rows = z.1 })) rs.0.1) (λ k. (sym d.are k, sym r.are k)) counted;
        taken = record {
          generation = number_small bytes g.0 fits g.1;
          commit = number_small g.0.1 c.0 t0.rest_fits c.1;
          entries_fit = let lt = number_small c.0.1 n.0 t1.rest_fits n.1 in omega (arith, ap length d.are, d.count, lt);
          rows_fit = let lt = number_small n.0.1 p.0 t2.rest_fits p.1 in omega (arith, ap length r.are, r.count, lt);
          documents = subst (AreDocumentsTaken c.0.0 [] (documents_of c.0.0 [])) (sym d.are) d.taken;
          pages = subst (AreRowsTaken held [] (documents_of c.0.0 es.0.0).spaces) (sym r.are) r.taken;
          housed = were_housed pages es.0.0 (length p.0.1) housed.0 housed.1;
        };
        gate = ltb-true _ _ (check_ok (nat_lt 0 (length rs.0.1)) 0 gate.0 gate.1);
        short = subst (All IsShort) (sym d.are) d.short;
      }

-- A head that is read is spelled so, each byte of it, and is taken.
pub head_spelled : (held : ℕ) (bytes : List ℕ) (h : Head) (rest : List ℕ) → IsBytes bytes → head_at held bytes ≡ Ok (h, rest)
    → SpellHead held h bytes rest
head_spelled held bytes h rest fits e = let r = head_reads held bytes (h, rest) fits e in (r.takes.parts, r.taken)
