-- How schema pages are looked through.
use Rattle.std.proofs.Common.{◌≡◌, ◌≢◌, ℕ, zero, suc, ◌<◌, ◌==◌, true, false, not, List, [], ◌∷◌, ◌++◌, Some, Result, Ok, Err, refl, sym, ap, ◌∙◌, subst, if◌then◌else◌, arith}
use Rattle.std.proofs.lemmas.Bool.Decides.{nat_tests}
use Rattle.std.proofs.lemmas.List.Elements.{All-append, All-contains}
use Rattle.std.specs.List.{All, Contains}
use Rattle.page_bytes.specs.declared.ids.Space.{Space}
use Rattle.page_bytes.specs.declared.end.PageEnd.{PageEnd}
use Rattle.page_bytes.specs.declared.end.PageEnd.TheVariants.{Damaged}
use Rattle.page_bytes.specs.Known.{Known}
use Rattle.page_bytes.specs.Links.{page_in, and_then}
use Rattle.page_bytes.specs.Schema.{entry_id, entry_end, is_entry, entry_among, Looked, Next, looked_on_page, looked_on, first_in, looked, SchemaLeadsBack}

-- an entry that passes its test and has another id is passed
pub entry_passed : (space : Space) (number left n at : ℕ) (page : List ℕ) (id : ℕ) → left ≡ suc n → is_entry at page ≡ true → entry_id at page ≢ id
    → entry_among space number left at page id ≡ entry_among space number n (entry_end at page) page id
entry_passed space number left n at page id count passes differ =
    ap (λ m. entry_among space number m at page id) count
    ∙ ap (λ b. if not b then Err (Damaged (page_in space number)) else if entry_id at page == id then Ok (Some at) else entry_among space number n
    (entry_end at page) page id) passes
    ∙ ap (λ b. if b then Ok (Some at) else entry_among space number n (entry_end at page) page id) (apart (entry_id at page) id differ)
  where
    apart : (a b : ℕ) → a ≢ b → (a == b) ≡ false
    apart a b differ = grind (arith, nat_tests)

module _ (k : Known) (space : Space) (id : ℕ) where
  -- a page that was looked at before n pages were
  abbrev pub IsPassed : ℕ → ℕ → Type 0
  IsPassed n number = (m : ℕ) × ((from : ℕ) × ((m < n) × (looked k space id m ≡ Ok (Next from number))))

  -- the pages are looked through as far as one, and those that were passed are listed
  abbrev pub HasLooked : ℕ → ℕ → List ℕ → Type 0
  HasLooked from number passed = (n : ℕ) × ((looked k space id n ≡ Ok (Next from number)) × All (IsPassed n) passed)

  -- at the start, before the head's first schema page, no page is passed and none is listed
  pub looked_start : (first : ℕ) → first_in k space ≡ Ok first → HasLooked 0 first []
  looked_start first is = (0, (ap (λ r. and_then r (λ first. Ok (Next 0 first))) is, λ k d less. absurd (omega (arith, less))))

  after : (n from number : ℕ) (r : Result Looked PageEnd) → looked k space id n ≡ Ok (Next from number) → 0 < number → looked_on_page k space id from number ≡ r
      → looked k space id (suc n) ≡ r
  after n from number r is some on =
      ap (λ l. and_then l (looked_on k space id)) is
      ∙ ap (λ b. if b then Ok (Next from number) else looked_on_page k space id from number) (past number some)
      ∙ on
    where
      past : (n : ℕ) → 0 < n → (n == 0) ≡ false
      past n some = grind (arith, nat_tests)

  longer : (n : ℕ) (passed : List ℕ) → All (IsPassed n) passed → All (IsPassed (suc n)) passed
  longer n passed all = λ k d less. let p = all k d less in (p.0, (p.1.0, ((let before = p.1.1.0 in omega (arith, before)), p.1.1.1)))

  single : (n from number : ℕ) → looked k space id n ≡ Ok (Next from number) → All (IsPassed (suc n)) (number ∷ [])
  single n from number is zero d less = (n, (from, (omega arith, is)))
  single n from number is (suc i) d less = absurd (omega (arith, less))

  -- a page more is passed
  pub looked_next : (from number next : ℕ) (passed more : List ℕ) → HasLooked from number passed → 0 < number
      → looked_on_page k space id from number ≡ Ok (Next number next) → more ≡ passed ++ number ∷ []
      → HasLooked number next more
  looked_next from number next passed more h some on is =
      let n = h.0 in (
        suc n,
        (
          after n from number (Ok (Next number next)) h.1.0 some on,
          subst (All (IsPassed (suc n))) (sym is)
              (All-append (IsPassed (suc n)) passed (number ∷ []) (longer n passed h.1.1) (single n from number h.1.0)),
        ),
      )

  -- what the last look gave
  pub looked_last : (from number : ℕ) (passed : List ℕ) (r : Result Looked PageEnd) → HasLooked from number passed → 0 < number
      → looked_on_page k space id from number ≡ r → (n : ℕ) × (looked k space id n ≡ r)
  looked_last from number passed r h some on = (suc h.0, after h.0 from number r h.1.0 some on)

  -- a page that was passed before
  pub looked_back : (from number : ℕ) (passed : List ℕ) → HasLooked from number passed → 0 < number → Contains passed number
      → SchemaLeadsBack k space id (Damaged (page_in space from))
  looked_back from number passed h some there =
      let before = All-contains (IsPassed h.0) passed number h.1.1 there in
      (before.0, (h.0, (number, (before.1.0, (from, (before.1.1.0, before.1.1.1, h.1.0, some, refl))))))
