-- What is spelled is read again, whatever stands after it.
use Rattle.std.proofs.Common.{◌≡◌, ℕ, suc, ◌+◌, ◌-◌, ◌^◌, ◌<◌, Bool, true, false, cond, ltb, List, [], ◌∷◌, ◌++◌, length, take, drop, Option, Some, None, Result, Ok, Err, refl, sym, ap, subst, ◌∙◌, append_assoc, arith}
use Rattle.std.specs.Prelude.{nat_lt, ◌==◌, ◌&&◌, ◌||◌, is_some, IsTrue}
use Rattle.std.specs.FinMap as map
use Rattle.std.specs.List.{flat_map, list_all}
use Rattle.std.specs.Int.{w64, from_be_bytes, to_be_bytes}
use Rattle.std.proofs.lemmas.Bool.{le-ltb, lt-ltb}
use Rattle.std.proofs.Common.{eq-eqb}
use Rattle.std.proofs.lemmas.List.{take_at, drop_at, length-append, append-nil}
use Rattle.std.proofs.lemmas.Nat.{from_be_bytes-to_be_bytes_8}
use Rattle.page_bytes.specs.declared.ids.DocEntry.{DocEntry}
use Rattle.page_bytes.specs.declared.ids.PageId.{PageId}
use Rattle.page_bytes.specs.declared.lists.PageChange.{PageChange}
use Rattle.page_bytes.specs.Known.{PageIds}
use Rattle.redo_log.specs.declared.change.LogName.{LogName}
use Rattle.redo_log.specs.declared.change.Change.{Change}
use Rattle.redo_log.specs.declared.store.Store.{Store}
use Rattle.redo_log.specs.Record.{number, space_bytes, form_byte, named_bytes, name_change, image_bytes, page_change, body_of, record_of}
use Rattle.redo_log.specs.Store.{entry_of, has_space, has_commit, after_name, after_names, with_images, no_image, after}
use Rattle.redo_log.specs.Reading.{◌>>=◌, last_in, check, is_name, is_next_name, is_commit_of, is_space_of, is_next_commit, is_next_space, is_next_page, has_home, is_no_head, names_housed, pages_housed, names_length, all_housed, number_in, number_at, bytes_at, entry_at, entry_if, name_at, names_at, id_at, image_if, page_at, pages_at, body_at, record_at, IsClosed, AreRecords}
use Rattle.redo_log.specs.Taken.{IsEntryTaken, AreNamesTaken, IsPageTaken, ArePagesTaken, IsTaken, AreTaken}
use Rattle.redo_log.proofs.Takes.{entry_2, entry_3, entry_4, entry_5, name_1, name_2, name_3, name_4, name_5, name_7, id_1, id_2, id_3, id_4, id_5, page_1, page_2, page_3, page_5, body_1, body_2, body_3, body_4, body_5, body_6, record_1, record_2, record_3, record_4}

-- a step goes on with the value of the first part, where that is known
pub bind_is : {A B : Type 0} (r : Result A ℕ) (f : A → Result B ℕ) (x : A) → r ≡ Ok x → (r >>= f) ≡ f x
bind_is {A = A} {B = B} r f x e = ap (λ (z : Result A ℕ). z >>= f) e

-- a test that holds lets what follows go on
pub check_is : (b : Bool) (n : ℕ) → b ≡ true → check b n ≡ Ok tt
check_is b n e = ap (λ (z : Bool). check z n) e

both_true : (a b : Bool) → a ≡ true → b ≡ true → (a && b) ≡ true
both_true true b e h = h
both_true false b e h = e

-- ---- fields

text_number : (text : List ℕ) (n : ℕ) (rest : List ℕ) → length text ≡ 8 → from_be_bytes w64 text ≡ n
    → cond {A = Result (ℕ × List ℕ) ℕ} (ltb (length (text ++ rest)) 8) (Err (length (text ++ rest)))
    (Ok (from_be_bytes w64 (take 8 (text ++ rest)), drop 8 (text ++ rest))) ≡ Ok (n, rest)
text_number text n rest long is =
    let enough : ltb (length (text ++ rest)) 8 ≡ false = le-ltb _ _ (omega (arith, long, length-append text rest)) in
    rw (enough, take_at text rest 8 long, drop_at text rest 8 long, is) refl

-- a number of 64 bits, spelled before any bytes, is read again
pub number_again : (n : ℕ) (rest : List ℕ) → n < 2 ^ 64 → number_at (number n ++ rest) ≡ Ok (n, rest)
unfolding number number_in
number_again n rest lt = text_number (to_be_bytes w64 n) n rest refl (from_be_bytes-to_be_bytes_8 n lt)

-- so many bytes, before any others, are read again
pub bytes_again : (n : ℕ) (text rest : List ℕ) → length text ≡ n → bytes_at n (text ++ rest) ≡ Ok (text, rest)
bytes_again n text rest long =
    let enough : ltb (length (text ++ rest)) n ≡ false = le-ltb _ _ (omega (arith, long, length-append text rest)) in
    rw (enough, take_at text rest n long, drop_at text rest n long) refl

-- ---- names

-- a form is spelled as 0 or 1
pub form_small : (b : Bool) → nat_lt (form_byte b) 2 ≡ true
form_small true = refl
form_small false = refl

-- a form that is spelled is known again
pub form_back : (b : Bool) → (form_byte b == 1) ≡ b
form_back true = refl
form_back false = refl

module _ (commit : ℕ) (s : Store) (name : List ℕ) where
  entry_again : (e : DocEntry) (rest : List ℕ) → IsEntryTaken commit s name (Some e)
      → entry_at commit s name (number e.space.commit ++ (number e.space.ordinal ++ (form_byte e.clustered ∷ rest))) ≡ Ok (e, rest)
  unfolding entry_at
  entry_again e rest h =
      let r2 = form_byte e.clustered ∷ rest in let r1 = number e.space.ordinal ++ r2 in let bytes = number e.space.commit ++ r1 in
      bind_is (number_at bytes) (entry_5 commit s name bytes) (e.space.commit, r1) (number_again e.space.commit r1 h.0)
      ∙ (bind_is (check (is_commit_of (entry_of name s.names) commit e.space.commit) (length bytes))
      (λ came. entry_4 commit s name bytes (e.space.commit, r1)) tt (check_is _ _ h.2)
      ∙ (bind_is (number_at r1) (entry_3 commit s name bytes (e.space.commit, r1)) (e.space.ordinal, r2) (number_again e.space.ordinal r2 h.1)
      ∙ (bind_is (check (is_space_of (entry_of name s.names) s.spaces e.space) (length bytes))
      (λ own. entry_2 commit s name bytes (e.space.commit, r1) (e.space.ordinal, r2)) tt (check_is _ _ h.3)
      ∙ (bind_is (check (nat_lt (form_byte e.clustered) 2) (length r2))
      (λ known. Ok (record { space = e.space; clustered = form_byte e.clustered == 1 }, rest)) tt (check_is _ _ (form_small e.clustered))
      ∙ ap (λ (b : Bool). Ok (record { space = e.space; clustered = b }, rest)) (form_back e.clustered)))))

  module _ (before : List LogName) where
    -- a name after its kind and its length
    behind_kind : (sets : Bool) (entry : Option DocEntry) (text rest : List ℕ) → IsTrue (is_name name) → IsTrue (is_next_name (last_in before) sets name)
        → (sets || is_some (entry_of name s.names)) ≡ true
        → entry_if sets commit s name text ≡ Ok (entry, rest)
        → name_at commit before s (form_byte sets ∷ (length name ∷ (name ++ text))) ≡ Ok (record { name = name; entry = entry }, rest)
    unfolding name_at
    behind_kind sets entry text rest named next there read =
        let t0 = name ++ text in let t1 = length name ∷ t0 in let bytes = form_byte sets ∷ t1 in let kind : ℕ × List ℕ = (form_byte sets, t1) in
        let is : (form_byte sets == 1) ≡ sets = form_back sets in
        bind_is (check (nat_lt (form_byte sets) 2) (length bytes)) (λ known. name_7 commit before s bytes kind) tt (check_is _ _ (form_small sets))
        ∙ (bind_is (bytes_at (length name) t0) (name_5 commit before s bytes kind) (name, text) (bytes_again (length name) name text refl)
        ∙ (bind_is (check (is_name name) (length t1)) (λ good. name_4 commit before s bytes kind (name, text)) tt (check_is _ _ named)
        ∙ (bind_is (check (is_next_name (last_in before) (form_byte sets == 1) name) (length t1)) (λ next. name_3 commit before s bytes kind (name, text)) tt
        (check_is _ _ (ap (λ (b : Bool). is_next_name (last_in before) b name) is ∙ next))
        ∙ (bind_is (check (form_byte sets == 1 || is_some (entry_of name s.names)) (length t1)) (λ there. name_2 commit before s bytes kind (name, text)) tt
        (check_is _ _ (ap (λ (b : Bool). b || is_some (entry_of name s.names)) is ∙ there))
        ∙ bind_is (entry_if (form_byte sets == 1) commit s name text) (name_1 commit before s bytes kind (name, text)) (entry, rest)
        (ap (λ (b : Bool). entry_if b commit s name text) is ∙ read)))))

    name_again : (entry : Option DocEntry) (rest : List ℕ) → IsTrue (is_name name) → IsTrue (is_next_name (last_in before) (is_some entry) name)
        → IsEntryTaken commit s name entry
        → name_at commit before s (named_bytes name entry ++ rest) ≡ Ok (record { name = name; entry = entry }, rest)
    name_again None rest named next h = behind_kind false None rest rest named next h refl
    name_again (Some e) rest named next h =
        let text = number e.space.commit ++ (number e.space.ordinal ++ (form_byte e.clustered ∷ rest)) in
        let regrouped : named_bytes name (Some e) ++ rest ≡ 1 ∷ (length name ∷ (name ++ text)) = simp append_assoc in
        ap (name_at commit before s) regrouped
        ∙ behind_kind true (Some e) text rest named next refl
        (bind_is (entry_at commit s name text) (λ (d : DocEntry × List ℕ). Ok (Some d.0, d.1)) (e, rest) (entry_again e rest h))

names_again : (ns : List LogName) (commit : ℕ) (done : List LogName) (s : Store) (rest : List ℕ) → AreNamesTaken commit done s ns
    → names_at commit (length ns) done s (flat_map name_change ns ++ rest) ≡ Ok (done ++ ns, rest)
unfolding names_at
names_again [] commit done s rest h = ap (λ (l : List LogName). Ok (l, rest)) (sym (append-nil done))
names_again (n ∷ ns) commit done s rest h =
    let behind = flat_map name_change ns ++ rest in
    ap (names_at commit (suc (length ns)) done s) (append_assoc (name_change n) (flat_map name_change ns) rest)
    ∙ (bind_is (name_at commit done s (name_change n ++ behind))
    (λ (f : LogName × List ℕ). names_at commit (length ns) (done ++ f.0 ∷ []) (after_name f.0 s) f.1) (n, behind)
    (name_again commit s n.name done n.entry behind h.0.name h.0.next h.0.entry)
    ∙ (names_again ns commit (done ++ n ∷ []) (after_name n s) rest h.1 ∙ ap (λ (l : List LogName). Ok (l, rest)) (append_assoc done (n ∷ []) ns)))

-- ---- pages

module _ (before : List PageChange) (s : Store) where
  -- a page's place that may come next, in a document's space, is read again as it is spelled
  pub id_again : (id : PageId) (rest : List ℕ) → id.space.commit < 2 ^ 64 → id.space.ordinal < 2 ^ 64 → id.number < 2 ^ 64
      → (is_next_commit (last_in before) id.space.commit && has_commit s.spaces id.space.commit) ≡ true
      → (is_next_space (last_in before) id.space && has_space s.spaces id.space) ≡ true → is_next_page (last_in before) id ≡ true
      → id_at (last_in before) s.spaces (number id.space.commit ++ (number id.space.ordinal ++ (number id.number ++ rest))) ≡ Ok (id, rest)
  unfolding id_at
  id_again id rest c_fits o_fits n_fits came own next =
      let r2 = number id.number ++ rest in let r1 = number id.space.ordinal ++ r2 in let bytes = number id.space.commit ++ r1 in let last = last_in before in
      let c : ℕ × List ℕ = (id.space.commit, r1) in let o : ℕ × List ℕ = (id.space.ordinal, r2) in
      bind_is (number_at bytes) (id_5 last s.spaces bytes) c (number_again id.space.commit r1 c_fits)
      ∙ (bind_is (check (is_next_commit last id.space.commit && has_commit s.spaces id.space.commit) (length bytes)) (λ came. id_4 last s.spaces bytes c) tt
      (check_is _ _ came)
      ∙ (bind_is (number_at r1) (id_3 last s.spaces bytes c) o (number_again id.space.ordinal r2 o_fits)
      ∙ (bind_is (check (is_next_space last id.space && has_space s.spaces id.space) (length bytes)) (λ own. id_2 last s.spaces bytes c o) tt (check_is _ _ own)
      ∙ (bind_is (number_at r2) (id_1 last s.spaces bytes c o) (id.number, rest) (number_again id.number rest n_fits)
      ∙ bind_is (check (is_next_page last id) (length bytes)) (λ next. Ok (id, rest)) tt (check_is _ _ next)))))

  behind_id : (there : Bool) (c : PageChange) (text rest : List ℕ) → IsPageTaken before s c → (there || map.contains_key s.pages c.id) ≡ true
      → image_if there text ≡ Ok (c.page, rest)
      → page_at before s (number c.id.space.commit ++ (number c.id.space.ordinal ++ (number c.id.number ++ (form_byte there ∷ text)))) ≡ Ok (c, rest)
  unfolding page_at
  behind_id there c text rest h is_there read =
      let t0 = form_byte there ∷ text in let bytes = number c.id.space.commit ++ (number c.id.space.ordinal ++ (number c.id.number ++ t0)) in
      let id : PageId × List ℕ = (c.id, t0) in let kind : ℕ × List ℕ = (form_byte there, text) in
      let is : (form_byte there == 1) ≡ there = form_back there in
      bind_is (id_at (last_in before) s.spaces bytes) (page_5 before s bytes) id
      (id_again c.id t0 h.commit h.ordinal h.number (both_true _ _ h.from.0 h.from.1) (both_true _ _ h.own.0 h.own.1) h.next)
      ∙ (bind_is (check (nat_lt (form_byte there) 2) (length t0)) (λ known. page_3 before s bytes id kind) tt (check_is _ _ (form_small there))
      ∙ (bind_is (check (form_byte there == 1 || map.contains_key s.pages c.id) (length bytes)) (λ there. page_2 before s bytes id kind) tt
      (check_is _ _ (ap (λ (b : Bool). b || map.contains_key s.pages c.id) is ∙ is_there))
      ∙ bind_is (image_if (form_byte there == 1) text) (page_1 before s bytes id) (c.page, rest) (ap (λ (b : Bool). image_if b text) is ∙ read)))

  page_again : (id : PageId) (page : Option (List ℕ)) (rest : List ℕ) → IsPageTaken before s (record { id = id; page = page })
      → page_at before s ((space_bytes id.space ++ number id.number ++ image_bytes page) ++ rest) ≡ Ok (record { id = id; page = page }, rest)
  page_again id None rest h =
      let regrouped : (space_bytes id.space ++ number id.number ++ image_bytes None) ++ rest
      ≡ number id.space.commit ++ (number id.space.ordinal ++ (number id.number ++ (0 ∷ rest))) = simp append_assoc in
      ap (page_at before s) regrouped ∙ behind_id false (record { id = id; page = None }) rest rest h h.image refl
  page_again id (Some page) rest h =
      let regrouped : (space_bytes id.space ++ number id.number ++ image_bytes (Some page)) ++ rest
      ≡ number id.space.commit ++ (number id.space.ordinal ++ (number id.number ++ (1 ∷ (page ++ rest)))) = simp append_assoc in
      ap (page_at before s) regrouped
      ∙ behind_id true (record { id = id; page = Some page }) (page ++ rest) rest h refl
      (bind_is (bytes_at 4096 (page ++ rest)) (λ (d : List ℕ × List ℕ). Ok (Some d.0, d.1)) (page, rest) (bytes_again 4096 page rest h.image))

pages_again : (cs : List PageChange) (done : List PageChange) (s : Store) (rest : List ℕ) → ArePagesTaken done s cs
    → pages_at (length cs) done s (flat_map page_change cs ++ rest) ≡ Ok (done ++ cs, rest)
unfolding pages_at
pages_again [] done s rest h = ap (λ (l : List PageChange). Ok (l, rest)) (sym (append-nil done))
pages_again (c ∷ cs) done s rest h =
    let behind = flat_map page_change cs ++ rest in
    ap (pages_at (suc (length cs)) done s) (append_assoc (page_change c) (flat_map page_change cs) rest)
    ∙ (bind_is (page_at done s (page_change c ++ behind)) (λ (f : PageChange × List ℕ). pages_at (length cs) (done ++ f.0 ∷ []) s f.1) (c, behind)
    (page_again done s c.id c.page behind h.0)
    ∙ (pages_again cs (done ++ c ∷ []) s rest h.1 ∙ ap (λ (l : List PageChange). Ok (l, rest)) (append_assoc done (c ∷ []) cs)))

-- ---- records

module _ (s : Store) (c : Change) (t : IsTaken s c) where
  body_again : (rest : List ℕ) → body_at s (body_of c ++ rest) ≡ Ok (c, rest)
  unfolding body_at
  body_again rest =
      let r4 = flat_map page_change c.pages ++ rest in let r3 = number (length c.pages) ++ r4 in let r2 = flat_map name_change c.names ++ r3 in let r1 =
      number (length c.names) ++ r2 in let bytes = number c.commit ++ r1 in
      let regrouped : body_of c ++ rest ≡ bytes = simp append_assoc in
      let commit : ℕ × List ℕ = (c.commit, r1) in let named : ℕ × List ℕ = (length c.names, r2) in let names : List LogName × List ℕ = (c.names, r3) in
      let paged : ℕ × List ℕ = (length c.pages, r4) in
      ap (body_at s) regrouped
      ∙ (bind_is (number_at bytes) (body_6 s bytes) commit (number_again c.commit r1 t.fits)
      ∙ (bind_is (check (c.commit == s.commit + 1) (length bytes)) (λ next. body_5 s bytes commit) tt (check_is _ _ (eq-eqb _ _ t.commit))
      ∙ (bind_is (number_at r1) (body_4 s bytes commit) named (number_again (length c.names) r2 t.names_fit)
      ∙ (bind_is (names_at c.commit (length c.names) [] s r2) (body_3 s bytes commit) names (names_again c.names c.commit [] s r3 t.names)
      ∙ (bind_is (number_at r3) (body_2 s bytes commit names) paged (number_again (length c.pages) r4 t.pages_fit)
      ∙ bind_is (pages_at (length c.pages) [] (after_names c.names s) r4) (body_1 s bytes commit names) (c.pages, rest)
      (pages_again c.pages [] (after_names c.names s) rest t.pages))))))

-- where both tests hold, the first does
pub first_true : (a b : Bool) → (a && b) ≡ true → a ≡ true
first_true true b e = refl
first_true false b e = e

-- where both tests hold, the second does
pub second_true : (a b : Bool) → (a && b) ≡ true → b ≡ true
second_true true b e = e
second_true false b e = absurd cc

names_are_housed : (pages : PageIds) (ns : List LogName) (left : ℕ) → IsTrue (list_all (λ n. has_home pages n.entry) ns) → names_housed pages ns left ≡ Ok tt
names_are_housed pages [] left h = refl
names_are_housed pages (n ∷ ns) left h =
    bind_is (check (has_home pages n.entry) (left - 1)) (λ housed. names_housed pages ns (left - length (name_change n))) tt (check_is _ _ (first_true _ _ h))
    ∙ names_are_housed pages ns (left - length (name_change n)) (second_true _ _ h)

pages_are_housed : (cs : List PageChange) (left : ℕ) → IsTrue (list_all is_no_head cs) → pages_housed cs left ≡ Ok tt
pages_are_housed [] left h = refl
pages_are_housed (c ∷ cs) left h =
    bind_is (check (is_no_head c) left) (λ housed. pages_housed cs (left - length (page_change c))) tt (check_is _ _ (first_true _ _ h))
    ∙ pages_are_housed cs (left - length (page_change c)) (second_true _ _ h)

-- a change that the store takes, spelled as a record before some gate, is read again from its length on, up to that gate
pub record_again : (s : Store) (c : Change) (gate : ℕ) (rest : List ℕ) → IsTaken s c → record_at s (drop 1 (record_of c) ++ gate ∷ rest) ≡ Ok (c, gate ∷ rest)
unfolding record_at
record_again s c gate rest t =
    let end = gate ∷ rest in let body = body_of c in let r1 = body ++ end in let bytes = number (length body) ++ r1 in
    let regrouped : (number (length body) ++ body) ++ end ≡ bytes = append_assoc (number (length body)) body end in
    let long : ℕ × List ℕ = (length body, r1) in let read : Change × List ℕ = (c, end) in
    let count : (length body + length end == length r1) ≡ true = eq-eqb _ _ (sym (length-append body end)) in
    let pages = (after_names c.names s).pages in
    ap (record_at s) regrouped
    ∙ (bind_is (number_at bytes) (record_4 s bytes) long (number_again (length body) r1 t.long)
    ∙ (bind_is (body_at s r1) (record_3 s bytes long) read (body_again s c t end)
    ∙ (bind_is (check (nat_lt 0 (length end)) 0) (λ gate. record_2 s bytes long read) tt (check_is _ _ (lt-ltb 0 (length end) (omega arith)))
    ∙ (bind_is (check (length body + length end == length r1) (length bytes)) (λ exact. record_1 s bytes long read) tt (check_is _ _ count)
    ∙ bind_is (all_housed c pages (length r1)) (λ housed. Ok read) tt
    (bind_is (names_housed (with_images no_image c.pages pages) c.names (length r1 - 16))
    (λ named. pages_housed c.pages (length r1 - 24 - names_length c.names)) tt
    (names_are_housed (with_images no_image c.pages pages) c.names (length r1 - 16) t.names_housed)
    ∙ pages_are_housed c.pages (length r1 - 24 - names_length c.names) t.pages_housed)))))

-- after a record stands a gate
gate_behind : (cs : List Change) (end : List ℕ) → IsClosed end → (gate : ℕ) × (rest : List ℕ) × (flat_map record_of cs ++ end ≡ gate ∷ rest)
gate_behind [] [] shut = absurd shut
gate_behind [] (gate ∷ rest) shut = (gate, rest, refl)
gate_behind (c ∷ cs) end shut = (1, ((number (length (body_of c)) ++ body_of c) ++ flat_map record_of cs) ++ end, refl)

-- changes that follow each other, spelled as records up to a closed gate, are these records
pub records_again : (cs : List Change) (s : Store) (end : List ℕ) → AreTaken s cs → IsClosed end → AreRecords s cs (flat_map record_of cs ++ end) end
records_again [] s end t shut = (refl, shut)
records_again (c ∷ cs) s end t shut =
    let next = flat_map record_of cs ++ end in let gate = gate_behind cs end shut in let text = drop 1 (record_of c) in (
      text ++ next,
      next,
      ap (λ (l : List ℕ). 1 ∷ l) (append_assoc text (flat_map record_of cs) end),
      subst (λ (l : List ℕ). record_at s (text ++ l) ≡ Ok (c, l)) (sym gate.2) (record_again s c gate.0 gate.1 t.0),
      records_again cs (after c s) end t.1 shut,
    )
