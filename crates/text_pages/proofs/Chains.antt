-- Chains of pieces, and what a piece more or less does to them.
use Rattle.std.proofs.Common.{◌≡◌, ◌≢◌, ℕ, ◌<◌, ◌==◌, ◌&&◌, ◌||◌, Bool, true, false, List, [], ◌∷◌, ◌++◌, Option, Some, IsSome, refl, sym, ap, ◌∙◌, subst, true≢false, eq-eqb, arith}
use Rattle.std.proofs.lemmas.Bool.{eqb-true}
use Rattle.std.specs.FinMap as map
use Rattle.page_bytes.specs.declared.texts.TextRef.{TextRef}
use Rattle.text_pages.specs.Meaning.{IsForm, IsPiece, next_at, bytes_of, IsChain, joined_bytes, is_listed, IsOnceEach, TextMap, AreTexts}
use Rattle.text_pages.specs.Keeping.{IsSame}
use Rattle.page_bytes.proofs.Askings.{first_true, second_true}

-- pages by their numbers
abbrev pub Pages : Type 0
Pages = ℕ → Option (List ℕ)

-- a piece is put, and all others are as they were
pub record Puts (pages new : Pages) (r next : TextRef) (text : List ℕ) : Type 0 where
  pub fresh : IsPiece pages r → ⊥
  pub made : IsPiece new r
  pub leads : next_at new r ≡ next
  pub has : bytes_of new r ≡ text
  pub kept : (q : TextRef) → IsPiece pages q → IsSame pages new q
  pub form : IsForm new

-- a piece is taken away, and all others are as they were
pub record Takes (pages new : Pages) (r : TextRef) : Type 0 where
  pub kept : (q : TextRef) → IsPiece pages q → q ≢ r → IsSame pages new q
  pub form : IsForm new

-- some texts, and beside them the pieces of another one from a reference on
pub record Loose (pages : Pages) (texts : TextMap) (at : TextRef) (text : List ℕ) : Type 0 where
  pub means : AreTexts pages texts
  pub pieces : List TextRef
  pub leads : IsChain pages at pieces
  pub joins : text ≡ joined_bytes pages pieces
  pub once : IsOnceEach pieces
  pub apart : (other r : TextRef) → IsSome (map.get texts other) → is_listed (means.chain other) r ≡ true → is_listed pieces r ≡ true → ⊥

-- two references are one where their pages and their slots are
pub same_ref : (r x : TextRef) → (r.page == x.page && r.slot == x.slot) ≡ true → r ≡ x
same_ref r x is =
    let page = eqb-true r.page x.page (first_true (r.page == x.page) (r.slot == x.slot) is) in
    let slot = eqb-true r.slot x.slot (second_true (r.page == x.page) (r.slot == x.slot) is) in
    λ i. record { page = page i; slot = slot i }

-- a reference has its own page and its own slot
pub same_as_itself : (r : TextRef) → (r.page == r.page && r.slot == r.slot) ≡ true
same_as_itself r = (λ i. eq-eqb r.page r.page refl i && eq-eqb r.slot r.slot refl i)

-- one of a list's references is the first, or one of the others
pub listed_cases : (x : TextRef) (xs : List TextRef) (r : TextRef) {P : Type 0} → is_listed (x ∷ xs) r ≡ true → (r ≡ x → P) → (is_listed xs r ≡ true → P) → P
listed_cases x xs r {P = P} is first later = at (r.page == x.page && r.slot == x.slot) refl is
  where
    at : (b : Bool) → (r.page == x.page && r.slot == x.slot) ≡ b → (b || is_listed xs r) ≡ true → P
    at true same is = first (same_ref r x same)
    at false same is = later is

-- the first reference of a list is in it
pub listed_first : (x : TextRef) (xs : List TextRef) → is_listed (x ∷ xs) x ≡ true
listed_first x xs = ap (λ b. b || is_listed xs x) (same_as_itself x)

-- what is in the rest of a list is in the list
pub listed_later : (x : TextRef) (xs : List TextRef) (r : TextRef) → is_listed xs r ≡ true → is_listed (x ∷ xs) r ≡ true
listed_later x xs r is = at (r.page == x.page && r.slot == x.slot)
  where
    at : (b : Bool) → (b || is_listed xs r) ≡ true
    at true = refl
    at false = is

module _ (pages : Pages) where
  -- all references of a chain lead to pieces
  pub chain_pieces : (rs : List TextRef) (at q : TextRef) → IsChain pages at rs → is_listed rs q ≡ true → IsPiece pages q
  chain_pieces [] at q chain is = absurd (true≢false (sym is))
  chain_pieces (r ∷ rs) at q chain is =
      listed_cases r rs q is (λ same. subst (IsPiece pages) (sym same) chain.1) (λ later. chain_pieces rs (next_at pages r) q chain.2 later)

  module _ (new : Pages) where
    -- a chain whose pieces are as they were is one
    pub chain_stays : (rs : List TextRef) (at : TextRef) → IsChain pages at rs → ((q : TextRef) → is_listed rs q ≡ true → IsSame pages new q)
        → IsChain new at rs
    chain_stays [] at chain same = chain
    chain_stays (r ∷ rs) at chain same =
        let here = same r (listed_first r rs) in
        (chain.0, here.0, subst (λ next. IsChain new next rs) (sym here.1) (chain_stays rs (next_at pages r) chain.2 (λ q is. same q (listed_later r rs q is))))

    -- pieces that are all as they were have the same joined bytes
    pub joined_stays : (rs : List TextRef) → ((q : TextRef) → is_listed rs q ≡ true → IsSame pages new q) → joined_bytes new rs ≡ joined_bytes pages rs
    joined_stays [] same = refl
    joined_stays (r ∷ rs) same =
        let here = same r (listed_first r rs) in let rest = joined_stays rs (λ q is. same q (listed_later r rs q is)) in λ i. here.2 i ++ rest i

    -- texts whose pieces are as they were are there
    pub texts_stay : (texts : TextMap) (m : AreTexts pages texts) → IsForm new
        → ((at q : TextRef) → IsSome (map.get texts at) → is_listed (m.chain at) q ≡ true → IsSame pages new q) → AreTexts new texts
    texts_stay texts m form same = record {
      form = form;
      chain = m.chain;
      leads = λ at there. chain_stays (m.chain at) at (m.leads at there) (λ q is. same at q there is);
      joins = λ at text there. ((m.joins at text there).0 ∙ sym (joined_stays (m.chain at) (λ q is. same at q (some there) is)), (m.joins at text there).1);
      once = m.once;
      apart = m.apart;
    }
      where
        some : {o : Option (List ℕ)} {text : List ℕ} → o ≡ Some text → IsSome o
        some is = subst IsSome (sym is) refl

-- a piece is put before a text
pub loose_put : (pages new : Pages) (texts : TextMap) (r next : TextRef) (text rest : List ℕ) → Loose pages texts next rest → Puts pages new r next text
    → Loose new texts r (text ++ rest)
unfolding texts_stay
loose_put pages new texts r next text rest l p = record {
  means = texts_stay pages new texts l.means p.form (λ at q there is. p.kept q (chain_pieces pages (l.means.chain at) at q (l.means.leads at there) is));
  pieces = r ∷ l.pieces;
  leads = (refl, p.made, subst (λ next. IsChain new next l.pieces) (sym p.leads) (chain_stays pages new l.pieces next l.leads old));
  joins = let has = sym p.has in let rest_is = l.joins ∙ sym (joined_stays pages new l.pieces old) in λ i. has i ++ rest_is i;
  once = (none (is_listed l.pieces r) refl, l.once);
  apart = λ other q there is listed. listed_cases r l.pieces q listed
      (λ same. p.fresh (subst (IsPiece pages) same (chain_pieces pages (l.means.chain other) other q (l.means.leads other there) is)))
      (λ later. l.apart other q there is later);
}
  where
    old : (q : TextRef) → is_listed l.pieces q ≡ true → IsSame pages new q
    old q is = p.kept q (chain_pieces pages l.pieces next q l.leads is)

    none : (b : Bool) → is_listed l.pieces r ≡ b → is_listed l.pieces r ≡ false
    none true is = absurd (p.fresh (chain_pieces pages l.pieces next r l.leads is))
    none false is = is

-- a text's first piece is taken away
pub loose_taken : (pages new : Pages) (texts : TextMap) (at : TextRef) (text : List ℕ) → (l : Loose pages texts at text) → 0 < at.page → Takes pages new at
    → (rest : List ℕ) × Loose new texts (next_at pages at) rest
unfolding texts_stay
loose_taken pages new texts at text l past t = from l.pieces refl l.leads l.once
  where
    from : (rs : List TextRef) → l.pieces ≡ rs → IsChain pages at rs → IsOnceEach rs → (rest : List ℕ) × Loose new texts (next_at pages at) rest
    from [] is chain once = absurd (omega (arith, chain, past))
    from (x ∷ rs) is chain once =
        let listed_at : is_listed l.pieces at ≡ true =
        subst (λ xs. is_listed xs at ≡ true) (sym is) (subst (λ y. is_listed (x ∷ rs) y ≡ true) (sym chain.0) (listed_first x rs)) in
        let old : (q : TextRef) → is_listed rs q ≡ true → IsSame pages new q = λ q listed.
        t.kept q (chain_pieces pages rs (next_at pages x) q chain.2 listed) (λ same. true≢false (sym listed ∙ ap (is_listed rs) (same ∙ chain.0) ∙ once.0)) in (
          joined_bytes pages rs,
          record {
            means = texts_stay pages new texts l.means t.form
                (λ other q there listed. t.kept q (chain_pieces pages (l.means.chain other) other q (l.means.leads other there) listed)
                (λ same. l.apart other at there (subst (λ y. is_listed (l.means.chain other) y ≡ true) same listed) listed_at));
            pieces = rs;
            leads = chain_stays pages new rs (next_at pages at) (subst (λ y. IsChain pages (next_at pages y) rs) (sym chain.0) chain.2) old;
            joins = sym (joined_stays pages new rs old);
            once = once.1;
            apart = λ other q there is_there listed. l.apart other q there is_there (subst (λ xs. is_listed xs q ≡ true) (sym is) (listed_later x rs q listed));
          },
        )
