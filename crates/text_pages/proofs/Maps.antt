-- How a text comes into the map of texts, and how it leaves it.
use Rattle.std.proofs.Common.{◌≡◌, ◌≢◌, ℕ, ◌<◌, ◌==◌, ◌&&◌, Bool, true, false, List, [], ◌∷◌, length, Option, Some, None, IsSome, refl, sym, ap, ◌∙◌, cond, is_some, subst, true≢false, if◌then◌else◌, arith}
use Rattle.std.specs.declared.cmp.Ordering.{Ordering}
use Rattle.std.specs.declared.cmp.Ordering.TheVariants.{Less, Equal, Greater}
use Rattle.std.specs.Ordering.{nat_cmp, eq_by_cmp, is_eq, ordering_then}
use Rattle.std.specs.Cmp.{IsTotalOrder, nat_cmp_total, on_total, then_total, unsigned_tied}
use Rattle.std.specs.FinMap as map
use Rattle.page_bytes.specs.declared.texts.TextRef.{TextRef}
use Rattle.page_bytes.specs.Seen.{bytes}
use Rattle.text_pages.specs.Meaning.{IsTextPage, IsForm, IsPiece, IsChain, joined_bytes, is_listed, IsOnceEach, ref_cmp, TextMap, AreTexts, with_text, IsNew}
use Rattle.text_pages.proofs.Chains.{Pages, Loose, same_ref, same_as_itself, listed_first}
use Rattle.text_pages.proofs.PageSteps.{head_is_none}

-- references have a total order, by page and then by slot
pub ref_cmp-total : IsTotalOrder ref_cmp
ref_cmp-total = then_total (on_total (λ (r : TextRef). r.page) nat_cmp_total) (on_total (λ (r : TextRef). r.slot) nat_cmp_total)

both_tied : (o p : Ordering) → is_eq (ordering_then o p) ≡ (is_eq o && is_eq p)
both_tied Less p = refl
both_tied Equal p = refl
both_tied Greater p = refl

-- whether two references are one
abbrev pub is_same : TextRef → TextRef → Bool
is_same q r = q.page == r.page && q.slot == r.slot

-- two references are tied in this order where they are one
pub tied_is_same : (q r : TextRef) → eq_by_cmp ref_cmp q r ≡ is_same q r
tied_is_same q r = both_tied (nat_cmp q.page r.page) (nat_cmp q.slot r.slot) ∙ (λ i. unsigned_tied q.page r.page i && unsigned_tied q.slot r.slot i)

-- the reference of a text that was put has this text, and every other what it had
pub get-with : (texts : TextMap) (at q : TextRef) (text : List ℕ) → map.get (map.insert texts at text) q ≡ cond (is_same q at) (Some text) (map.get texts q)
get-with texts at q text = map.get-insert ref_cmp-total texts at text q ∙ ap (λ b. cond b (Some text) (map.get texts q)) (tied_is_same q at)

-- the reference of a text that was taken out has none, and every other what it had
pub get-without : (texts : TextMap) (at q : TextRef) → map.get (map.remove texts at) q ≡ cond (is_same q at) None (map.get texts q)
get-without texts at q = map.get-remove ref_cmp-total texts at q ∙ ap (λ b. cond b None (map.get texts q)) (tied_is_same q at)

-- a text of the map that is left is another one, and was there
pub left_is : (texts : TextMap) (at q : TextRef) (text : List ℕ) → map.get (map.remove texts at) q ≡ Some text → (map.get texts q ≡ Some text) × (q ≢ at)
left_is texts at q text is = here (is_same q at) refl (sym (get-without texts at q) ∙ is)
  where
    here : (b : Bool) → is_same q at ≡ b → cond b None (map.get texts q) ≡ Some text → (map.get texts q ≡ Some text) × (q ≢ at)
    here true same is = cc
    here false differ is = (is, λ one. true≢false (sym (ap (λ r. is_same r at) one ∙ same_as_itself at) ∙ differ))

-- what is there is some value
pub some_is : {X : Type 0} (o : Option X) → IsSome o → (x : X) × (o ≡ Some x)
some_is None is = absurd (true≢false (sym is))
some_is (Some x) is = (x, refl)

-- a value that is there is there
pub is_some_of : {X : Type 0} (o : Option X) (x : X) → o ≡ Some x → IsSome o
is_some_of o x is = ap is_some is

-- without a text the pages mean the others
pub means_without : (pages : Pages) (texts : TextMap) (at : TextRef) → AreTexts pages texts → AreTexts pages (map.remove texts at)
means_without pages texts at m = record {
  form = m.form;
  chain = m.chain;
  leads = λ q is. m.leads q (was q is);
  joins = λ q text is. m.joins q text (left_is texts at q text is).0;
  once = λ q is. m.once q (was q is);
  apart = λ q other r is is' listed listed'. m.apart q other r (was q is) (was other is') listed listed';
}
  where
    was : (q : TextRef) → IsSome (map.get (map.remove texts at) q) → IsSome (map.get texts q)
    was q is = let there = some_is (map.get (map.remove texts at) q) is in is_some_of (map.get texts q) there.0 (left_is texts at q there.0 there.1).0

-- no piece is on page 0
pub piece_past : (pages : Pages) (r : TextRef) → IsForm pages → IsPiece pages r → r.page ≢ 0
piece_past pages r form is zero_is = head_is_none (bytes pages 0) form.head (subst (IsTextPage pages) zero_is is.0)

-- the empty text stands beside all texts
pub loose_empty : (pages : Pages) (texts : TextMap) (at : TextRef) → at.page ≡ 0 → AreTexts pages texts → Loose pages texts at []
loose_empty pages texts at none m =
    record { means = m; pieces = []; leads = none; joins = refl; once = tt; apart = λ other r is listed nothing. true≢false (sym nothing) }

-- and a text of the map beside the others
pub loose_text : (pages : Pages) (texts : TextMap) (at : TextRef) (text : List ℕ) → map.get texts at ≡ Some text → AreTexts pages texts
    → Loose pages (map.remove texts at) at text
unfolding means_without
loose_text pages texts at text is m = record {
  means = means_without pages texts at m;
  pieces = m.chain at;
  leads = m.leads at (is_some_of (map.get texts at) text is);
  joins = (m.joins at text is).0;
  once = m.once at (is_some_of (map.get texts at) text is);
  apart = λ other r there listed listed'.
      let was = some_is (map.get (map.remove texts at) other) there in let old = left_is texts at other was.0 was.1 in
      old.1 (m.apart other at r (is_some_of (map.get texts other) was.0 old.0) (is_some_of (map.get texts at) text is) listed listed');
}

-- a text that has a byte has a piece
pub first_piece : (pages : Pages) (texts : TextMap) (at : TextRef) (text : List ℕ) → (l : Loose pages texts at text) → at.page ≢ 0
    → IsPiece pages at × (is_listed l.pieces at ≡ true)
first_piece pages texts at text l past = from l.pieces l.leads
  where
    from : (rs : List TextRef) → IsChain pages at rs → IsPiece pages at × (is_listed rs at ≡ true)
    from [] chain = absurd (past chain)
    from (r ∷ rs) chain = (subst (IsPiece pages) (sym chain.0) chain.1, subst (λ x. is_listed (r ∷ rs) x ≡ true) (sym chain.0) (listed_first r rs))

-- the reference of a text that has a byte is not on page 0
pub some_page : (pages : Pages) (texts : TextMap) (at : TextRef) (b : ℕ) (bs : List ℕ) → Loose pages texts at (b ∷ bs) → at.page ≢ 0
some_page pages texts at b bs l = from l.pieces l.leads l.joins
  where
    from : (rs : List TextRef) → IsChain pages at rs → (b ∷ bs) ≡ joined_bytes pages rs → at.page ≢ 0
    from [] chain joins = let none : 0 < 0 = subst (λ n. 0 < n) (ap length joins) (omega arith) in absurd (omega (arith, none))
    from (r ∷ rs) chain joins = subst (λ (x : TextRef). x.page ≢ 0) (sym chain.0) (piece_past pages r l.means.form chain.1)

-- a text is put, and these pages alone mean the texts with it
abbrev pub PutAlone : Pages → TextMap → List ℕ → TextRef → Type 0
PutAlone pages texts text at = IsNew texts text at × AreTexts pages (with_text texts at text)

-- a text beside the others comes into the map
module _ (pages : Pages) (texts : TextMap) (at : TextRef) (b : ℕ) (bs : List ℕ) (l : Loose pages texts at (b ∷ bs)) where
  abbrev text : List ℕ
  text = b ∷ bs

  abbrev more : TextMap
  more = map.insert texts at text

  -- no text of the map has this reference
  pub is_new : map.get texts at ≡ None
  is_new = from (map.get texts at) refl
    where
      from : (o : Option (List ℕ)) → map.get texts at ≡ o → map.get texts at ≡ None
      from None is = is
      from (Some old) is =
          let there = is_some_of (map.get texts at) old is in
          absurd (l.apart at at there (chain_has (l.means.chain at) (l.means.leads at there))
          (first_piece pages texts at text l (some_page pages texts at b bs l)).1)
        where
          chain_has : (rs : List TextRef) → IsChain pages at rs → is_listed rs at ≡ true
          chain_has [] chain = absurd (some_page pages texts at b bs l chain)
          chain_has (r ∷ rs) chain = subst (λ x. is_listed (r ∷ rs) x ≡ true) (sym chain.0) (listed_first r rs)

  abbrev chains : TextRef → List TextRef
  chains q = if is_same q at then l.pieces else l.means.chain q

  -- an entry of the larger map is the new text, or was there
  at_more : (q : TextRef) {P : Type 0} → IsSome (map.get more q) → (q ≡ at → is_same q at ≡ true → P) → (is_same q at ≡ false → IsSome (map.get texts q) → P)
      → P
  at_more q {P = P} is here there = at_bool (is_same q at) refl (sym (ap is_some (get-with texts at q text)) ∙ is)
    where
      at_bool : (c : Bool) → is_same q at ≡ c → is_some (cond c (Some text) (map.get texts q)) ≡ true → P
      at_bool true same is = here (same_ref q at same) same
      at_bool false differ is = there differ is

  leads_more : (q : TextRef) → IsSome (map.get more q) → IsChain pages q (chains q)
  leads_more q is = at_more q is
      (λ one same. subst (λ c. IsChain pages q (if c then l.pieces else l.means.chain q)) (sym same) (subst (λ x. IsChain pages x l.pieces) (sym one) l.leads))
      (λ differ there. subst (λ c. IsChain pages q (if c then l.pieces else l.means.chain q)) (sym differ) (l.means.leads q there))

  joins_more : (q : TextRef) (t : List ℕ) → map.get more q ≡ Some t → (t ≡ joined_bytes pages (chains q)) × (0 < length t)
  joins_more q t is = at_bool (is_same q at) refl (sym (get-with texts at q text) ∙ is)
    where
      at_bool : (c : Bool) → is_same q at ≡ c → cond c (Some text) (map.get texts q) ≡ Some t
          → (t ≡ joined_bytes pages (if is_same q at then l.pieces else l.means.chain q)) × (0 < length t)
      at_bool true same is = subst (λ c. (t ≡ joined_bytes pages (if c then l.pieces else l.means.chain q)) × (0 < length t)) (sym same)
          (subst (λ t. (t ≡ joined_bytes pages l.pieces) × (0 < length t)) (inner text t is) (l.joins, omega arith))
        where
          inner : (x y : List ℕ) → (let o : Option (List ℕ) = Some x in o ≡ Some y) → x ≡ y
          inner x y is = cc
      at_bool false differ is =
          subst (λ c. (t ≡ joined_bytes pages (if c then l.pieces else l.means.chain q)) × (0 < length t)) (sym differ) (l.means.joins q t is)

  once_more : (q : TextRef) → IsSome (map.get more q) → IsOnceEach (chains q)
  once_more q is = at_more q is
      (λ one same. subst (λ c. IsOnceEach (if c then l.pieces else l.means.chain q)) (sym same) l.once)
      (λ differ there. subst (λ c. IsOnceEach (if c then l.pieces else l.means.chain q)) (sym differ) (l.means.once q there))

  apart_more : (q other r : TextRef) → IsSome (map.get more q) → IsSome (map.get more other) → is_listed (chains q) r ≡ true → is_listed (chains other) r ≡ true
      → q ≡ other
  apart_more q other r is is' listed listed' = at_more q is
      (λ one same. at_more other is'
      (λ one' same'. one ∙ sym one')
      (λ differ' there'. absurd (l.apart other r there' (new_or_old other false differ' listed') (new_or_old q true same listed))))
      (λ differ there. at_more other is'
      (λ one' same'. absurd (l.apart q r there (new_or_old q false differ listed) (new_or_old other true same' listed')))
      (λ differ' there'. l.means.apart q other r there there' (new_or_old q false differ listed) (new_or_old other false differ' listed')))
    where
      new_or_old : (q : TextRef) (c : Bool) → is_same q at ≡ c → is_listed (if is_same q at then l.pieces else l.means.chain q) r ≡ true
          → is_listed (if c then l.pieces else l.means.chain q) r ≡ true
      new_or_old q c same listed = subst (λ c. is_listed (if c then l.pieces else l.means.chain q) r ≡ true) same listed

  -- these pages alone mean the texts with this one more
  pub means_more : AreTexts pages (map.insert texts at (b ∷ bs))
  means_more = record { form = l.means.form; chain = chains; leads = leads_more; joins = joins_more; once = once_more; apart = apart_more }

  -- the text is put: its reference is past page 0 and new, and these pages alone mean the texts with it
  pub text_put : PutAlone pages texts (b ∷ bs) at
  text_put = let past = some_page pages texts at b bs l in ((omega (arith, past), is_new), means_more)
