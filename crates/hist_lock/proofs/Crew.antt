-- What the list says of workers once all were joined.
use Rattle.std.proofs.Common.{All, ◌≡◌, ℕ, zero, suc, Bool, true, false, ◌+◌, ◌-◌, ◌<◌, List, [], ◌∷◌, ◌++◌, map, length, get_or, refl, sym, ap, ◌∙◌, subst, arith, append_assoc}
use Rattle.std.proofs.lemmas.List.{length-map, append-nil}
use Rattle.std.specs.Prelude.{MatchBool, if◌then◌else◌}
use mathlib.Core.Option.{some, some-ne-none, some-injective}
use lib.ListN.{get_elem?}
use Rattle.atomic_table.specs.Seated.{TableId}
use Rattle.atomic_table.proofs.Lists.{at_map}
use Rattle.hist_lock.specs.declared.view.Kept.{Kept}
use Rattle.hist_lock.specs.Story.{Begins, events_of}
use Rattle.hist_lock.specs.Passes.{Known, joining_pass, AllJoined, ClosedAs}
use Rattle.hist_lock.specs.Crew.{Hand, Ready, AllReady, kept_by, Tells}
use Rattle.hist_lock.proofs.Lists.{begins_on}

-- who stands at a place of a row
there : {A : Type 0} (xs : List A) (k : ℕ) → k < length xs → (x : A) × (get_elem? xs k ≡ some x) × ((d : A) → get_or xs k d ≡ x)
there [] k h = absurd (omega arith)
there (x ∷ xs) zero h = (x, refl, λ d. refl)
there (x ∷ xs) (suc k) h = there xs k (omega arith)

mapped : {A B : Type 0} (f : A → B) (xs : List A) (k : ℕ) (x : A) (d : B) → get_elem? xs k ≡ some x → get_or (map f xs) k d ≡ f x
mapped f [] k x d e = absurd (some-ne-none x (sym e))
mapped f (y ∷ ys) zero x d e = ap f (some-injective y x e)
mapped f (y ∷ ys) (suc k) x d e = mapped f ys k x d e

-- a section adds its event, or nothing
pub adds_one : {E : Type 0} (b : Bool) (old now mine after : List E) (e : E) → MatchBool b (now ≡ old ++ e ∷ []) (now ≡ old)
    → ((new : List E) → now ≡ old ++ new → after ≡ mine ++ new) → after ≡ (if b then mine ++ e ∷ [] else mine)
adds_one true old now mine after e is told = told (e ∷ []) is
adds_one false old now mine after e is told = told [] (is ∙ sym (append-nil old)) ∙ append-nil mine

-- one more of what a loop by value has moved from the items that are left
pub moves_one : {A B : Type 0} (f : A → B) (so_far now : List B) (left after : List A) (x : A) (all : List B) → so_far ++ map f left ≡ all → left ≡ x ∷ after
    → now ≡ so_far ++ f x ∷ [] → now ++ map f after ≡ all
moves_one f so_far now left after x all is items more =
    ap (λ (l : List _). l ++ map f after) more ∙ (append_assoc so_far (f x ∷ []) (map f after) ∙ (ap (λ (l : List _). so_far ++ map f l) (sym items) ∙ is))

-- what holds of all the items of a list holds of all but the first
pub All_rest : {A : Type 0} (P : A → Type 0) (left after : List A) (x : A) → left ≡ x ∷ after → All P left → All P after
All_rest P left after x items all k d inside = subst (λ (l : List _). All P l) items all (suc k) d (omega arith)

-- one more worker
pub ready_snoc : {W E O : Type 0} (seen_as : W → Hand E O) (lock : TableId) (ws : List W) (w : W) → AllReady seen_as lock ws → Ready seen_as lock (length ws) w
    → AllReady seen_as lock (ws ++ w ∷ [])
ready_snoc seen_as lock ws w all last = snoc (Ready seen_as lock) ws w all last
  where
    snoc : {W : Type 0} (P : ℕ → W → Type 0) (ws : List W) (w : W) → ((k : ℕ) (d : W) → k < length ws → P k (get_or ws k d)) → P (length ws) w
        → (k : ℕ) (d : W) → k < length (ws ++ w ∷ []) → P k (get_or (ws ++ w ∷ []) k d)
    snoc P [] w all last zero d h = last
    snoc P [] w all last (suc k) d h = absurd (omega arith)
    snoc P (x ∷ ws) w all last zero d h = all zero d (omega arith)
    snoc P (x ∷ ws) w all last (suc k) d h = snoc (λ k. P (suc k)) ws w (λ k d h. all (suc k) d (omega arith)) last k d (omega arith)

-- the opener after one more pass was joined
pub still_opener : {E O : Type 0} (first mid new q : Known E O) → mid ≡ record first { seen = mid.seen; kept = mid.kept } → new ≡ joining_pass mid q
    → new ≡ record first { seen = new.seen; kept = new.kept }
still_opener {E} {O} first mid new q is j =
    let after = joining_pass mid q in
    j ∙ (ap (λ (m : Known E O). record m { seen = after.seen; kept = after.kept }) is
    ∙ ap (λ (m : Known E O). record first { seen = m.seen; kept = m.kept }) (sym j))

-- a crew whose workers hand over a page each
module _ {W R E O : Type 0} (seen_as : W → Hand E O) (page : W → R) (told found : R → List E) (same : (w : W)
    → ((seen_as w).told ≡ told (page w)) × ((seen_as w).found ≡ found (page w)))
    (lock : TableId) (ws : List W) (ready : AllReady seen_as lock ws) (p : Known E O) (kept : p.kept ≡ map (λ w. kept_by (seen_as w).pass) ws)
    (made : p.made ≡ length ws) where
  ready_at : (k : ℕ) → k < length ws → (w : W) × (get_elem? ws k ≡ some w) × Ready seen_as lock k w
  ready_at k h = let t = there ws k h in (t.0, t.1, subst (Ready seen_as lock k) (t.2 t.0) (ready k t.0 h))

  kept_at : (k : ℕ) (w : W) → get_elem? ws k ≡ some w → get_elem? p.kept k ≡ some (kept_by (seen_as w).pass)
  kept_at k w e = ap (λ (l : List (Kept E)). get_elem? l k) kept ∙ at_map (λ w. kept_by (seen_as w).pass) ws k w e

  -- each pass that was made was joined
  pub all_joined : AllJoined p
  all_joined k above below = let t = ready_at (k - 1) (omega arith) in (k - 1, kept_by (seen_as t.0).pass, kept_at (k - 1) t.0 t.1, t.2.id ∙ back k above)
    where
      back : (k : ℕ) → 0 < k → (k - 1) + 1 ≡ k
      back k above = omega arith

  record Page (rs : List R) (k : ℕ) (d : R) : Type 0 where
    worker : W
    stands : get_elem? ws k ≡ some worker
    is_ready : Ready seen_as lock k worker
    is_page : get_or rs k d ≡ page worker

  page_at : (rs : List R) → rs ≡ map page ws → (k : ℕ) (d : R) → k < length rs → Page rs k d
  page_at rs is k d h =
      let long : length rs ≡ length ws = ap length is ∙ length-map ws page in
      let t = ready_at k (omega arith) in
      record { worker = t.0; stands = t.1; is_ready = t.2; is_page = ap (λ (l : List R). get_or l k d) is ∙ mapped page ws k t.0 d t.1 }

  -- and the list says the same as the pages
  pub all_told : (session : E → ℕ) (log : List E) (rs : List R) → rs ≡ map page ws → p.mine ≡ [] → ClosedAs session log p → Tells told found session log rs
  all_told session log rs is none_own c = record {
    own = λ k d h. let t = page_at rs is k d h in let pass = (seen_as t.worker).pass in
        ap (λ (n : ℕ). events_of session n log) (sym t.is_ready.id)
        ∙ (c.joined k (kept_by pass) (kept_at k t.worker t.stands) ∙ (t.is_ready.told ∙ ((same t.worker).0 ∙ ap told (sym t.is_page))));
    begins = λ k d h. let t = page_at rs is k d h in let pass = (seen_as t.worker).pass in
        subst (Begins log) ((same t.worker).1 ∙ ap found (sym t.is_page))
        (begins_on log pass.seen (seen_as t.worker).found (c.saw k (kept_by pass) (kept_at k t.worker t.stands)) t.is_ready.found);
    opener = c.own ∙ none_own;
    no_other = λ by h. let long : length rs ≡ length ws = ap length is ∙ length-map ws page in c.no_other by (omega arith);
  }
