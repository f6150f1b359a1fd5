-- A head that is taken is read again as it is spelled, and the three files open to it and to the records behind it.
use Rattle.std.proofs.Common.{◌≡◌, ℕ, suc, ◌-◌, ◌^◌, ◌<◌, List, [], ◌∷◌, ◌++◌, length, map, Option, Some, None, Ok, refl, sym, ap, subst, ◌∙◌, append_assoc, arith}
use Rattle.std.specs.Prelude.{nat_lt, nat_le, not, ◌&&◌, IsTrue}
use Rattle.std.specs.List.{flat_map, list_all}
use Rattle.std.specs.FinMap as finite
use Rattle.std.proofs.lemmas.Bool.{lt-ltb}
use Rattle.std.proofs.lemmas.List.{append-nil}
use Rattle.page_bytes.specs.declared.ids.DocEntry.{DocEntry}
use Rattle.page_bytes.specs.Known.{PageIds, Spaces}
use Rattle.redo_log.specs.declared.change.LogName.{LogName}
use Rattle.redo_log.specs.declared.store.Store.{Store}
use Rattle.redo_log.specs.Record.{number, form_byte, space_bytes, entry_bytes}
use Rattle.redo_log.specs.Store.{has_space, after_name, with_ids}
use Rattle.redo_log.specs.Reading.{check, has_home, AreRecords}
use Rattle.redo_log.specs.Head.{Head, Row, as_change, ids_of, document_at, document_entry_at, documents_at, document_length, row_at, rows_at, documents_housed, documents_of, head_at}
use Rattle.redo_log.specs.HeadBytes.{document_bytes, row_bytes, head_bytes, IsDocumentTaken, AreDocumentsTaken, IsRowTaken, AreRowsTaken, IsHeadTaken}
use Rattle.page_device.specs.declared.device.Which.{Which}
use Rattle.page_device.specs.Image.{Image, bytes_of}
use Rattle.redo_log.specs.declared.change.Change.{Change}
use Rattle.redo_log.specs.Candidates.{magic, counting}
use Rattle.redo_log.specs.HeadAndRecords.{store_of_head, log_at}
use Rattle.redo_log.specs.Opened.{store_in, opened}
use Rattle.redo_log.proofs.RecordsFound.{found_again}
use Rattle.redo_log.proofs.Again.{bind_is, check_is, number_again, bytes_again, form_small, form_back, id_again, first_true, second_true}

module _ (commit : ℕ) (done : List LogName) (spaces : Spaces) (name : List ℕ) (e : DocEntry) (rest : List ℕ) where
  -- the fields of a document are read one after the other
  fields_again : IsDocumentTaken commit done spaces (record { name = name; entry = Some e })
      → IsTrue (nat_lt 0 e.space.commit && nat_le e.space.commit commit) → IsTrue (not (has_space spaces e.space)) → e.space.commit < 2 ^ 64
      → e.space.ordinal < 2 ^ 64
      → document_at commit done spaces (length name ∷ (name ++ (number e.space.commit ++ (number e.space.ordinal ++ (form_byte e.clustered ∷ rest)))))
      ≡ Ok (record { name = name; entry = Some e }, rest)
  unfolding document_at document_entry_at
  fields_again h from own commit_fits ordinal_fits =
      let r2 = form_byte e.clustered ∷ rest in let r1 = number e.space.ordinal ++ r2 in
      rw (
        bytes_again (length name) name (number e.space.commit ++ r1) refl,
        h.name,
        h.next,
        number_again e.space.commit r1 commit_fits,
        from,
        number_again e.space.ordinal r2 ordinal_fits,
        own,
        form_small e.clustered,
        form_back e.clustered,
      ) refl

document_again : (commit : ℕ) (done : List LogName) (spaces : Spaces) (name : List ℕ) (entry : Option DocEntry) (rest : List ℕ)
    → IsDocumentTaken commit done spaces (record { name = name; entry = entry })
    → document_at commit done spaces (document_bytes (record { name = name; entry = entry }) ++ rest) ≡ Ok (record { name = name; entry = entry }, rest)
document_again commit done spaces name None rest h = absurd (cc (h.is))
document_again commit done spaces name (Some e) rest h =
    let same : h.entry ≡ e = some_is h.entry e h.is in
    let regrouped : document_bytes (record { name = name; entry = Some e }) ++ rest
    ≡ length name ∷ (name ++ (number e.space.commit ++ (number e.space.ordinal ++ (form_byte e.clustered ∷ rest)))) =
    ap (λ (l : List ℕ). length name ∷ l) (append_assoc name (entry_bytes e) rest ∙ ap (λ (l : List ℕ). name ++ l)
    (append_assoc (space_bytes e.space) (form_byte e.clustered ∷ []) rest
    ∙ append_assoc (number e.space.commit) (number e.space.ordinal) (form_byte e.clustered ∷ rest))) in
    ap (document_at commit done spaces) regrouped
    ∙ fields_again commit done spaces name e rest h
    (subst (λ (d : DocEntry). IsTrue (nat_lt 0 d.space.commit && nat_le d.space.commit commit)) same h.from)
    (subst (λ (d : DocEntry). IsTrue (not (has_space spaces d.space))) same h.own)
    (subst (λ (d : DocEntry). d.space.commit < 2 ^ 64) same h.commit_fits) (subst (λ (d : DocEntry). d.space.ordinal < 2 ^ 64) same h.ordinal_fits)
  where
    some_is : (a b : DocEntry) → ◌≡◌ {A = Option DocEntry} (Some b) (Some a) → a ≡ b
    some_is a b e = cc e

documents_again : (ns : List LogName) (commit : ℕ) (done : List LogName) (s : Store) (rest : List ℕ) → AreDocumentsTaken commit done s ns
    → documents_at commit (length ns) done s (flat_map document_bytes ns ++ rest) ≡ Ok (done ++ ns, rest)
unfolding documents_at
documents_again [] commit done s rest h = ap (λ (l : List LogName). Ok (l, rest)) (sym (append-nil done))
documents_again (n ∷ ns) commit done s rest h =
    let behind = flat_map document_bytes ns ++ rest in
    ap (documents_at commit (suc (length ns)) done s) (append_assoc (document_bytes n) (flat_map document_bytes ns) rest)
    ∙ (bind_is (document_at commit done s.spaces (document_bytes n ++ behind))
    (λ (f : LogName × List ℕ). documents_at commit (length ns) (done ++ f.0 ∷ []) (after_name f.0 s) f.1) (n, behind)
    (document_again commit done s.spaces n.name n.entry behind h.0)
    ∙ (documents_again ns commit (done ++ n ∷ []) (after_name n s) rest h.1 ∙ ap (λ (l : List LogName). Ok (l, rest)) (append_assoc done (n ∷ []) ns)))

row_again : (held : ℕ) (done : List Row) (s : Store) (r : Row) (rest : List ℕ) → IsRowTaken held done s.spaces r
    → row_at held done s.spaces (row_bytes r ++ rest) ≡ Ok (r, rest)
unfolding row_at
row_again held done s r rest h =
    let behind = number r.slot ++ rest in
    let regrouped : row_bytes r ++ rest ≡ number r.id.space.commit ++ (number r.id.space.ordinal ++ (number r.id.number ++ behind)) = simp append_assoc in
    ap (row_at held done s.spaces) regrouped
    ∙ rw (id_again (map as_change done) s r.id behind h.commit h.ordinal h.number h.from h.own h.next, number_again r.slot rest h.slot, h.place) refl

rows_again : (rs : List Row) (held : ℕ) (done : List Row) (s : Store) (rest : List ℕ) → AreRowsTaken held done s.spaces rs
    → rows_at held (length rs) done s.spaces (flat_map row_bytes rs ++ rest) ≡ Ok (done ++ rs, rest)
unfolding rows_at
rows_again [] held done s rest h = ap (λ (l : List Row). Ok (l, rest)) (sym (append-nil done))
rows_again (r ∷ rs) held done s rest h =
    let behind = flat_map row_bytes rs ++ rest in
    ap (rows_at held (suc (length rs)) done s.spaces) (append_assoc (row_bytes r) (flat_map row_bytes rs) rest)
    ∙ (bind_is (row_at held done s.spaces (row_bytes r ++ behind)) (λ (f : Row × List ℕ). rows_at held (length rs) (done ++ f.0 ∷ []) s.spaces f.1) (r, behind)
    (row_again held done s r behind h.0)
    ∙ (rows_again rs held (done ++ r ∷ []) s rest h.1 ∙ ap (λ (l : List Row). Ok (l, rest)) (append_assoc done (r ∷ []) rs)))

are_housed : (pages : PageIds) (ns : List LogName) (left : ℕ) → IsTrue (list_all (λ n. has_home pages n.entry) ns) → documents_housed pages ns left ≡ Ok tt
are_housed pages [] left h = refl
are_housed pages (n ∷ ns) left h =
    bind_is (check (has_home pages n.entry) left) (λ housed. documents_housed pages ns (left - document_length n)) tt (check_is _ _ (first_true _ _ h))
    ∙ are_housed pages ns (left - document_length n) (second_true _ _ h)

-- A head that is taken, spelled before a gate, is read again from its generation on, up to that gate.
pub head_again : (held : ℕ) (h : Head) (gate : ℕ) (rest : List ℕ) → IsHeadTaken held h → head_at held (head_bytes h ++ gate ∷ rest) ≡ Ok (h, gate ∷ rest)
unfolding head_at
head_again held h gate rest t =
    let end = gate ∷ rest in let r5 = flat_map row_bytes h.rows ++ end in let r4 = flat_map document_bytes h.entries ++ r5 in
    let r3 = number (length h.rows) ++ r4 in let r2 = number (length h.entries) ++ r3 in let r1 = number h.commit ++ r2 in
    let regrouped : head_bytes h ++ end ≡ number h.generation ++ r1 = simp append_assoc in
    ap (head_at held) regrouped
    ∙ rw (
      number_again h.generation r1 t.generation,
      number_again h.commit r2 t.commit,
      number_again (length h.entries) r3 t.entries_fit,
      number_again (length h.rows) r4 t.rows_fit,
      documents_again h.entries h.commit [] (documents_of h.commit []) r5 t.documents,
      rows_again h.rows held [] (documents_of h.commit h.entries) end t.pages,
      are_housed (with_ids (ids_of h.rows) finite.empty) h.entries (length r4) t.housed,
      lt-ltb 0 (length end) (omega arith),
    ) refl

-- Where the log that counts has a head that is taken, as it is spelled, and then records up to a closed gate, the files open to what these say.
pub opens_again : (c : Image) (file : Which) (h : Head) (changes : List Change) (gate : ℕ) (rest end : List ℕ) → counting c ≡ Ok file
    → bytes_of c file ≡ 1 ∷ (magic ++ (head_bytes h ++ gate ∷ rest)) → IsHeadTaken (length c.slots) h
    → AreRecords (store_of_head h) changes (gate ∷ rest) end
    → opened c ≡ Ok (store_in c.slots (record { head = h; changes = changes; behind = gate ∷ rest; end = end }))
unfolding opened log_at
opens_again c file h changes gate rest end counts is taken records =
    rw (
      counts,
      is,
      head_again (length c.slots) h gate rest taken,
      found_again (length (gate ∷ rest)) (store_of_head h) changes (gate ∷ rest) end (omega arith) records,
    ) refl
