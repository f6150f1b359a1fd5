-- Reading records one after the other, as a loop does.
use Rattle.std.proofs.Common.{◌≡◌, inl, inr, ℕ, List, [], ◌∷◌, ◌++◌, Result, Ok, Err, refl, sym, ap, ◌∙◌, subst, append_assoc}
use Rattle.std.proofs.lemmas.List.{append-nil}
use Rattle.redo_log.specs.declared.change.Change.{Change}
use Rattle.redo_log.specs.declared.store.Store.{Store}
use Rattle.redo_log.specs.declared.fault.ReadEnd.{ReadEnd}
use Rattle.redo_log.specs.declared.fault.ReadEnd.TheVariants as ends
use Rattle.redo_log.specs.Gives.{Fails}
use Rattle.redo_log.specs.Store.{after}
use Rattle.redo_log.specs.Reading.{byte_at, record_at, IsClosed, AreRecords, IsRefused}
use Rattle.redo_log.specs.Scan.{Refuses}

joined : Result (ℕ × List ℕ) ℕ → List ℕ
joined (Ok x) = x.0 ∷ x.1
joined (Err n) = []

-- a byte that was read stands before what is after it
pub byte_is : (bytes : List ℕ) (b : ℕ) (rest : List ℕ) → byte_at bytes ≡ Ok (b, rest) → bytes ≡ b ∷ rest
unfolding joined
byte_is [] b rest e = absurd (cc)
byte_is (x ∷ xs) b rest e = ap joined e

-- there is no byte only where the bytes end
pub no_byte : (bytes : List ℕ) (left : ℕ) → byte_at bytes ≡ Err left → (bytes ≡ []) × (left ≡ 0)
no_byte [] left e = (refl, cc)
no_byte (x ∷ xs) left e = absurd (cc)

module _ (first : Store) (bytes : List ℕ) where
  -- whatever records follow in the rest, they and those that are done are the records of all the bytes
  abbrev pub Follow : Store → List ℕ → List Change → Type 0
  Follow s rest done = (cs : List Change) (end : List ℕ) → AreRecords s cs rest end → AreRecords first (done ++ cs) bytes end

  -- whatever records stand in the rest before a wrong field, they and those that are done stand in all the bytes before it
  abbrev pub Refuse : Store → List ℕ → List Change → Type 0
  Refuse s rest done = (cs : List Change) (left : ℕ) → IsRefused s cs rest left → IsRefused first (done ++ cs) bytes left

  module _ (s : Store) (rest : List ℕ) (done : List Change) where
    -- a record more
    pub follows : (gate : ℕ) (behind : List ℕ) (c : Change) (next : List ℕ) (t : Store) (now : List Change) → Follow s rest done → rest ≡ gate ∷ behind
        → gate ≡ 1 → record_at s behind ≡ Ok (c, next) → t ≡ after c s → now ≡ done ++ c ∷ []
        → Follow t next now
    follows gate behind c next t now so_far is open_gate read moved more cs end h =
        subst (λ (l : List Change). AreRecords first l bytes end) (sym (ap (λ (l : List Change). l ++ cs) more ∙ append_assoc done (c ∷ []) cs))
        (so_far (c ∷ cs) end (behind, next, is ∙ ap (λ (g : ℕ). g ∷ behind) open_gate, read, subst (λ (z : Store). AreRecords z cs next end) moved h))

    -- with one record more done, what is refused after it is refused in all the bytes
    pub refuses : (gate : ℕ) (behind : List ℕ) (c : Change) (next : List ℕ) (t : Store) (now : List Change) → Refuse s rest done → rest ≡ gate ∷ behind
        → gate ≡ 1 → record_at s behind ≡ Ok (c, next) → t ≡ after c s → now ≡ done ++ c ∷ []
        → Refuse t next now
    refuses gate behind c next t now so_far is open_gate read moved more cs left h =
        subst (λ (l : List Change). IsRefused first l bytes left) (sym (ap (λ (l : List Change). l ++ cs) more ∙ append_assoc done (c ∷ []) cs))
        (so_far (c ∷ cs) left (behind, next, is ∙ ap (λ (g : ℕ). g ∷ behind) open_gate, read, subst (λ (z : Store). IsRefused z cs next left) moved h))

    -- a closed gate ends them
    pub ends_at : (gate : ℕ) (behind : List ℕ) → Follow s rest done → rest ≡ gate ∷ behind → (gate ≡ 1 → ⊥) → AreRecords first done bytes rest
    ends_at gate behind so_far is shut =
        subst (λ (l : List Change). AreRecords first l bytes rest) (append-nil done) (so_far [] rest (refl, subst IsClosed (sym is) shut))

    -- where no gate can be read in the rest, all the bytes are refused there
    pub gate_fails : (e : ReadEnd) → Refuse s rest done → Fails e (byte_at rest) → Refuses first bytes e
    gate_fails (ends.Wrong left) so_far h = (done ++ [], so_far [] left (inl (no_byte rest left h)))
    gate_fails ends.NoMemory so_far h = tt

    -- where the record behind an open gate fails, all the bytes are refused at its wrong field
    pub record_fails : (e : ReadEnd) (gate : ℕ) (behind : List ℕ) → Refuse s rest done → rest ≡ gate ∷ behind → gate ≡ 1 → Fails e (record_at s behind)
        → Refuses first bytes e
    record_fails (ends.Wrong left) gate behind so_far is open_gate h = (done ++ [], so_far [] left (inr (behind, is ∙ ap (λ (g : ℕ). g ∷ behind) open_gate, h)))
    record_fails ends.NoMemory gate behind so_far is open_gate h = tt
