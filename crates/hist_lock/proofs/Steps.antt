-- Each step keeps the rule.
use Rattle.std.proofs.Common.{◌≡◌, ◌≢◌, ℕ, zero, suc, ◌+◌, ◌%◌, ◌^◌, ◌<◌, ◌≤◌, eqb, Bool, true, false, true≢false, Option, Some, None, List, [], ◌∷◌, ◌++◌, length, get_or, set, sym, refl, ap, ◌∙◌, subst, ⊎_elim, arith, length-append}
use Rattle.std.specs.Prelude.{◌⊎◌, nat_lt, if◌then◌else◌}
use Rattle.std.proofs.lemmas.List.{append-nil}
use mathlib.Core.Logic.{inl, inr}
use mathlib.Core.Option.{some, none, some-injective, some-ne-none}
use lib.ListN.{get_elem?}
use prog.Atomic.{either}
use Rattle.atomic_table.specs.Table.{State, Me, Step, step, keeps, takes, gives, stepped, opening, put_back, rest, Allows, Splits, Joins, Final, Seen}
use Rattle.atomic_table.specs.Seated.{TableId}
use Rattle.hist_lock.specs.Passes.{Known, known_of, AllJoined, ClosedAs}
use Rattle.atomic_table.proofs.Lists.{at_set, set_again, set_else, at_longer, at_snoc}
use Rattle.hist_lock.specs.declared.view.Kept.{Kept}
use Rattle.hist_lock.specs.declared.view.View.{View}
use Rattle.hist_lock.specs.Story.{Begins, events_of, AllOf, longer}
use Rattle.hist_lock.specs.Views.{opener, entered, added, left, parted, newcomer, kept_of, joined, gone}
use Rattle.hist_lock.specs.Turns.{Keeps, Knows, IsFree, IsHeld, IsKept, taken, raised, looked, freed}
use Rattle.hist_lock.proofs.Lists.{begins_same, begins_more, events_of-append, events_of_own, events_of_same}

-- who stands in a list with one more stood there before, or is the last
snoc_place : {A : Type 0} (vs : List A) (w u : A) (j : ℕ) → get_elem? (vs ++ w ∷ []) j ≡ some u → (get_elem? vs j ≡ some u) ⊎ ((j ≡ length vs) × (w ≡ u))
snoc_place [] w u zero e = inr (refl, some-injective w u e)
snoc_place [] w u (suc j) e = absurd (some-ne-none u (sym e))
snoc_place {A} (x ∷ xs) w u zero e = inl e
snoc_place {A} (x ∷ xs) w u (suc j) e =
    ⊎_elim (λ (old : get_elem? xs j ≡ some u). inl old) (λ (t : (j ≡ length xs) × (w ≡ u)). inr (ap suc t.0, t.1)) (snoc_place xs w u j e)

-- the two tries: one takes a turn that is free, the other also says that it waits
pub one_held : (n : ℕ) → either (eqb n 0) 1 n ≡ 0 → ⊥
one_held n e = by_test (eqb n 0) (λ no is. true≢false (sym (ap (λ (m : ℕ). eqb m 0) is) ∙ no)) e
  where
    by_test : (b : Bool) → (b ≡ false → n ≡ 0 → ⊥) → either b 1 n ≡ 0 → ⊥
    by_test true f is = absurd (omega (arith, is))
    by_test false f is = f refl is

-- 2 is not 0, whatever the word held
pub one_waits : (n : ℕ) → ◌≡◌ {A = ℕ} 2 0 → ⊥
one_waits n e = absurd (omega (arith, e))

module _ {T E O : Type 0} (events : T → List E) (session : E → ℕ) (origin : T → O) (o : O) where
  abbrev St : Type 0
  St = State (Option T) (View E O)

  abbrev M : Type 0
  M = Me (Option T) (View E O)

  abbrev Rule : St → Type 0
  Rule = IsKept events session origin o

  -- what is kept of a pass stays true while the list goes on with another's events
  keeps_more : (log new more : List E) (made : ℕ) (x : Kept E) → more ≡ log ++ new → events_of session x.id more ≡ events_of session x.id log
      → Keeps session log made x → Keeps session more made x
  keeps_more log new more made x is same k =
      record { own = k.own ∙ sym same; begun = subst (λ (z : List E). Begins z x.seen) (sym is) (begins_more log x.seen new k.begun); numbered = k.numbered }

  -- and while one more pass is made
  keeps_later : (log : List E) (made : ℕ) (x : Kept E) → Keeps session log made x → Keeps session log (made + 1) x
  keeps_later log made x k = record { own = k.own; begun = k.begun; numbered = let n = k.numbered in omega arith }

  -- the view that stood there before, of the same pass
  record Was (vs : List (View E O)) (j : ℕ) (u : View E O) : Type 0 where
    old : View E O
    there : get_elem? vs j ≡ some old
    live : old.live ≡ u.live
    id : old.id ≡ u.id
    kept : old.kept ≡ u.kept

  was : (vs : List (View E O)) (id : ℕ) (v w : View E O) → get_elem? vs id ≡ some v → v.live ≡ w.live → v.id ≡ w.id → v.kept ≡ w.kept → (j : ℕ) (u : View E O)
      → get_elem? (set vs id w) j ≡ some u → Was vs j u
  was vs id v w at a b c j u e = ⊎_elim
      (λ (t : (j ≡ id) × (w ≡ u)). record {
        old = v;
        there = ap (get_elem? vs) t.0 ∙ at;
        live = a ∙ ap (λ (x : View E O). x.live) t.1;
        id = b ∙ ap (λ (x : View E O). x.id) t.1;
        kept = c ∙ ap (λ (x : View E O). x.kept) t.1;
      })
      (λ (t : (j ≢ id) × (get_elem? vs j ≡ some u)). record { old = u; there = t.1; live = refl; id = refl; kept = refl })
      (at_set vs id j w u e)

  -- what holds of each view holds after one has changed
  each_set : (P : ℕ → View E O → Type 0) (vs : List (View E O)) (id : ℕ) (w : View E O) → P id w
      → ((j : ℕ) (u : View E O) → j ≢ id → get_elem? vs j ≡ some u → P j u)
      → (j : ℕ) (u : View E O) → get_elem? (set vs id w) j ≡ some u → P j u
  each_set P vs id w mine others j u e = ⊎_elim
      (λ (t : (j ≡ id) × (w ≡ u)). subst (λ (x : ℕ × View E O). P x.0 x.1) (λ i. (sym t.0 i, t.1 i)) mine)
      (λ (t : (j ≢ id) × (get_elem? vs j ≡ some u)). others j u t.0 t.1)
      (at_set vs id j w u e)

  -- the start
  pub starts : (x : T) → events x ≡ [] → origin x ≡ o → Rule (opening (0 ∷ 0 ∷ []) (Some x ∷ []) (opener o))
  starts x none_yet from = record {
    log = [];
    made = 0;
    small = omega arith;
    no_other = λ by l. refl;
    each = λ j v e l. subst (Knows session o [] 0) (only j v e) record {
      from = refl;
      begun = ([], refl);
      own = refl;
      numbered = omega arith;
      opens = λ _. refl;
      others = λ i x e. absurd (some-ne-none x (sym e));
      once = λ i k x y e f q. absurd (some-ne-none x (sym e));
      sole = λ _. refl;
      now = λ e. absurd (true≢false (sym e));
    };
    apart = λ j k v w e f _ _ _. first j v e ∙ sym (first k w f);
    kept_apart = λ j k i v w x e f _ _ g. absurd (some-ne-none x (sym (ap (λ (y : View E O). get_elem? y.kept i) (only j v e) ∙ g)));
    phase = inl record {
      value = x;
      at_home = refl;
      list = none_yet;
      from = from;
      words = refl;
      nobody = λ j v e l. sym (ap (λ (y : View E O). y.inside) (only j v e));
    };
  }
    where
      only : (j : ℕ) (v : View E O) → get_elem? (opener {E = E} o ∷ []) j ≡ some v → opener o ≡ v
      only zero v e = some-injective _ _ e
      only (suc j) v e = absurd (some-ne-none v (sym e))

      first : (j : ℕ) (v : View E O) → get_elem? (opener {E = E} o ∷ []) j ≡ some v → j ≡ 0
      first zero v e = refl
      first (suc j) v e = absurd (some-ne-none v (sym e))

  -- a step of the seat id, whose list may go on with events of its own
  moved : (s : St) (r : Rule s) (ws : List ℕ) (hs : List _) (id : ℕ) (v w : View E O) (new log : List E) → log ≡ r.log ++ new → get_elem? s.views id ≡ some v
      → v.live ≡ true → v.live ≡ w.live → v.id ≡ w.id → v.kept ≡ w.kept
      → length log < 2 ^ 64 → AllOf session v.id new
      → Knows session o log r.made w
      → ((j : ℕ) (u : View E O) → j ≢ id → get_elem? s.views j ≡ some u → u.live ≡ true → u.inside ≡ true → u.seen ≡ log)
      → (IsFree events session origin o log record { words = ws; homes = hs; views = set s.views id w }
      ⊎ IsHeld events session origin log record { words = ws; homes = hs; views = set s.views id w })
      → Rule record { words = ws; homes = hs; views = set s.views id w }
  moved s r ws hs id v w new log is at lives a b c small all mine others phase =
      let back = was s.views id v w at a b c in
      let me = r.each id v at lives in
      let same_of = λ (by : ℕ) (n : by ≡ v.id → ⊥). ap (events_of session by) is ∙ events_of_same session by v.id r.log new all n in record {
        log = log;
        made = r.made;
        small = small;
        no_other = λ by l. same_of by (λ e. let n = me.numbered in omega arith) ∙ r.no_other by l;
        each = each_set (λ j u. u.live ≡ true → Knows session o log r.made u) s.views id w (λ _. mine)
            (λ j u n e l. let k = r.each j u e l in record {
              from = k.from;
              begun = subst (λ (z : List E). Begins z u.seen) (sym is) (begins_more r.log u.seen new k.begun);
              own = k.own ∙ sym (same_of u.id (λ same. n (r.apart j id u v e at l lives same)));
              numbered = k.numbered;
              opens = k.opens;
              others = λ i x f. keeps_more r.log new log r.made x is (same_of x.id (r.kept_apart j id i u v x e at l lives f)) (k.others i x f);
              once = k.once;
              sole = k.sole;
              now = others j u n e l;
            });
        apart = λ j k x y e f l m same. let p = back j x e in let q = back k y f in
            r.apart j k p.old q.old p.there q.there (p.live ∙ l) (q.live ∙ m) (p.id ∙ (same ∙ sym q.id));
        kept_apart = λ j k i x y z e f l m g same. let p = back j x e in let q = back k y f in
            r.kept_apart j k i p.old q.old z p.there q.there (p.live ∙ l) (q.live ∙ m) (ap (λ (h : List (Kept E)). get_elem? h i) p.kept ∙ g) (same ∙ sym q.id);
        phase = phase;
      }

  -- a try to take the turn, which leaves a word that is not 0, by what it was
  module _ (next : ℕ → ℕ) (busy : (n : ℕ) → next n ≡ 0 → ⊥) where
    -- where the turn is free
    takes_free : (s : St) (r : Rule s) (f : IsFree events session origin o r.log s) (id : ℕ) (v : View E O) (cs : List (ℕ × Option T))
        → get_elem? s.views id ≡ some v → v.live ≡ true
        → Rule (stepped s 1 (next (get_or s.words 1 0)) id cs (entered v (events f.value)) (takes 0 (Some f.value)))
    takes_free s r f id v cs at l =
        let w = entered v (events f.value) in let me = r.each id v at l in
        let small : length (events f.value) < 2 ^ 64 = subst (λ (z : List E). length z < 2 ^ 64) (sym f.list) r.small in
        moved s r _ _ id v w [] (events f.value) (f.list ∙ sym (append-nil r.log)) at l refl refl refl small tt
        record {
          from = me.from;
          begun = begins_same (events f.value);
          own = me.own ∙ ap (events_of session v.id) (sym f.list);
          numbered = me.numbered;
          opens =
              me.opens;
          others = λ i x g. subst (λ (z : List E). Keeps session z r.made x) (sym f.list) (me.others i x g);
          once = me.once;
          sole = me.sole;
          now =
              λ _. refl;
        }
        (λ j u n e m is_in. absurd (true≢false (sym is_in ∙ f.nobody j u e m)))
        (inr record {
          away = ap (λ (h : List _). set h 0 none) f.at_home;
          turn = next 0;
          busy = busy 0;
          words = ap (λ (z : List ℕ). set z 1 (next (get_or z 1 0))) f.words ∙ ap (λ (z : List E). length z ∷ next 0 ∷ []) (sym f.list);
          holder = id;
          view = w;
          there = put_at s.views id v w at;
          is_live = l;
          is_in = refl;
          alone = each_set (λ j u. u.live ≡ true → u.inside ≡ true → j ≡ id) s.views id w (λ _ _. refl)
              (λ j u n e m is_in. absurd (true≢false (sym is_in ∙ f.nobody j u e m)));
        })
      where
        put_at : (vs : List (View E O)) (i : ℕ) (v w : View E O) → get_elem? vs i ≡ some v → get_elem? (set vs i w) i ≡ some w
        put_at [] i v w e = absurd (some-ne-none v (sym e))
        put_at (x ∷ xs) zero v w e = refl
        put_at (x ∷ xs) (suc i) v w e = put_at xs i v w e

    -- where it is held
    stays_held : (s : St) (r : Rule s) (h : IsHeld events session origin r.log s) (id : ℕ) (me : M) → get_elem? s.views id ≡ some me.0
        → Rule (stepped s 1 (next (get_or s.words 1 0)) id me.1 me.0 keeps)
    stays_held s r h id me at =
        let ws : List ℕ = set s.words 1 (next (get_or s.words 1 0)) in
        let held : Rule record { words = ws; homes = s.homes; views = s.views } = record {
          log = r.log;
          made = r.made;
          small = r.small;
          no_other = r.no_other;
          each = r.each;
          apart = r.apart;
          kept_apart = r.kept_apart;
          phase = inr record {
            away = h.away;
            turn = next h.turn;
            busy = busy h.turn;
            words = ap (λ (z : List ℕ). set z 1 (next (get_or z 1 0))) h.words;
            holder = h.holder;
            view = h.view;
            there = h.there;
            is_live = h.is_live;
            is_in = h.is_in;
            alone = h.alone;
          };
        } in
        subst (λ (z : List (View E O)). Rule record { words = ws; homes = s.homes; views = z }) (sym (set_again s.views id me.0 at)) held

    -- a live pass with empty hands may try to take the turn: then the value with the whole list is in its hands, or nothing has changed for it
    pub takes_turn : (slots id : ℕ) (me : M) (st : Step (Option T)) → me.0.live ≡ true → me.1 ≡ []
        → Allows Rule slots id me 1 next (taken events session origin st me)
    takes_turn slots id me st l none_held s r long at small = ⊎_elim
        (λ (f : IsFree events session origin o r.log s).
        let know = r.each id me.0 at l in let none_out : get_or s.words 1 0 ≡ 0 = ap (λ (z : List ℕ). get_or z 1 0) f.words in (
          entered me.0 (events f.value),
          takes 0 (Some f.value),
          ap (λ (h : List _). get_elem? h 0) f.at_home,
          takes_free s r f id me.0 me.1 at l,
          (
            (λ _. (
              f.value,
              refl,
              ap (λ (c : List (ℕ × Option T)). (0, Some f.value) ∷ c) none_held,
              record {
                begun =
                    subst (λ (z : List E). Begins z me.0.seen) (sym f.list) know.begun;
                own = know.own ∙ ap (events_of session me.0.id) (sym f.list);
                from = f.from
                    ∙ sym know.from;
                small = subst (λ (z : List E). length z < 2 ^ 64) (sym f.list) r.small;
              },
            )),
            (λ n. absurd (n none_out)),
          ),
        ))
        (λ (h : IsHeld events session origin r.log s).
        let out : get_or s.words 1 0 ≡ h.turn = ap (λ (z : List ℕ). get_or z 1 0) h.words in (
          me.0,
          keeps,
          tt,
          stays_held s r h id me at,
          ((λ e. absurd (h.busy (sym out ∙ e))), (λ _. refl)),
        ))
        r.phase

  -- the value in the first of the slots that are held
  abbrev inner_or : T → Option T → T
  inner_or d (Some y) = y
  inner_or d None = d

  abbrev inner : T → List (ℕ × Option T) → T
  inner d [] = d
  inner d (c ∷ cs) = inner_or d c.1

  -- the holder, known by its view
  held_by : (s : St) (r : Rule s) (id : ℕ) (v : View E O) → get_elem? s.views id ≡ some v → v.live ≡ true → v.inside ≡ true
      → IsHeld events session origin r.log s
  held_by s r id v at l is_in =
      ⊎_elim (λ (f : IsFree events session origin o r.log s). absurd (true≢false (sym is_in ∙ f.nobody id v at l)))
      (λ (h : IsHeld events session origin r.log s). h) r.phase

  set_at : (vs : List (View E O)) (i : ℕ) (v w : View E O) → get_elem? vs i ≡ some v → get_elem? (set vs i w) i ≡ some w
  set_at [] i v w e = absurd (some-ne-none v (sym e))
  set_at (x ∷ xs) zero v w e = refl
  set_at (x ∷ xs) (suc i) v w e = set_at xs i v w e

  -- a pass that is inside with its value, to which k new events of its own were added, may add k to the count of events
  pub raises_count : (slots id : ℕ) (me : M) (x : T) (new : List E) (k : ℕ) → me.0.live ≡ true → me.0.inside ≡ true → me.1 ≡ (0, Some x) ∷ []
      → events x ≡ me.0.seen ++ new → AllOf session me.0.id new
      → length (events x) < 2 ^ 64 → k ≡ length new
      → Allows Rule slots id me 0 (λ n. (n + k) % 2 ^ 64) (raised events session origin (step slots 0 k 0 none) me)
  raises_count slots id me x new k l is_in has list all small is s r long at word =
      let h = held_by s r id me.0 at l is_in in let know = r.each id me.0 at l in
      let grown : events x ≡ r.log ++ new = list ∙ ap (λ (z : List E). z ++ new) (know.now is_in) in
      let mine : id ≡ h.holder = h.alone id me.0 at l is_in in
      let w = added me.0 (events x) (events_of session me.0.id (events x)) in
      let total : (length r.log + k) % 2 ^ 64 ≡ length (events x) = counted r.log new (events x) k grown is small in (
        w,
        keeps,
        tt,
        moved s r _ _ id me.0 w new (events x) grown at l refl refl refl small all
            record {
              from = know.from;
              begun = begins_same (events x);
              own = refl;
              numbered = know.numbered;
              opens = know.opens;
              others = λ i y g. keeps_more r.log new (events x) r.made y grown (ap (events_of session y.id) grown
                  ∙ events_of_same session y.id me.0.id r.log new all (r.kept_apart id id i me.0 me.0 y at at l l g)) (know.others i y g);
              once = know.once;
              sole = know.sole;
              now = λ _. refl;
            }
            (λ j u n e m u_in. absurd (n (h.alone j u e m u_in ∙ sym mine)))
            (inr record {
              away = h.away;
              turn = h.turn;
              busy = h.busy;
              words = ap (λ (z : List ℕ). set z 0 ((get_or z 0 0 + k) % 2 ^ 64)) h.words ∙ ap (λ (n : ℕ). n ∷ h.turn ∷ []) total;
              holder = id;
              view = w;
              there = set_at s.views id me.0 w at;
              is_live = l;
              is_in = is_in;
              alone = each_set (λ j u. u.live ≡ true → u.inside ≡ true → j ≡ id) s.views id w (λ _ _. refl) (λ j u n e m u_in. h.alone j u e m u_in ∙ sym mine);
            }),
        (λ y more has' list' all'. let same : x ≡ y = ap (inner x) (sym has ∙ has') in
            ap (λ (z : T). (added me.0 (events z) (events_of session me.0.id (events z)), me.1)) same
            ∙ ap (λ (z : List E). (added me.0 (events y) z, me.1)) (ap (events_of session me.0.id) (list' ∙ ap (λ (z : List E). z ++ more) (know.now is_in))
            ∙ (events_of-append session me.0.id r.log more ∙ (λ i. sym know.own i ++ events_of_own session me.0.id more all' i)))),
      )
    where
      counted : (log new all : List E) (k : ℕ) → all ≡ log ++ new → k ≡ length new → length all < 2 ^ 64 → (length log + k) % 2 ^ 64 ≡ length all
      counted log new all k grown is small = let e : length all ≡ length log + k = ap length grown
          ∙ (length-append log new ∙ ap (λ (n : ℕ). length log + n) (sym is)) in omega arith

  -- a pass that is inside may give its value back, once it has seen all the events of it
  pub frees_turn : (slots id : ℕ) (me : M) (x : T) → me.0.live ≡ true → me.0.inside ≡ true → me.1 ≡ (0, Some x) ∷ [] → events x ≡ me.0.seen
      → origin x ≡ me.0.origin
      → Allows Rule slots id me 1 (λ _. 0) (freed events session origin (step slots 1 0 0 none) me)
  frees_turn slots id me x l is_in has list from s r long at word =
      let h = held_by s r id me.0 at l is_in in let know = r.each id me.0 at l in
      let mine : id ≡ h.holder = h.alone id me.0 at l is_in in
      let w = left me.0 in (
        w,
        gives,
        tt,
        moved s r _ _ id me.0 w [] r.log (sym (append-nil r.log)) at l refl refl refl r.small tt
            record {
              from = know.from;
              begun = know.begun;
              own = know.own;
              numbered = know.numbered;
              opens = know.opens;
              others = know.others;
              once =
                  know.once;
              sole = know.sole;
              now = λ e. absurd (true≢false (sym e));
            }
            (λ j u n e m u_in. absurd (n (h.alone j u e m u_in ∙ sym mine)))
            (inl record {
              value = x;
              at_home = ap (put_back s.homes) has ∙ ap (λ (z : List _). set z 0 (some (Some x))) h.away;
              list = list ∙ know.now is_in;
              from = from ∙ know.from;
              words = ap (λ (z : List ℕ). set z 1 0) h.words;
              nobody = each_set (λ j u. u.live ≡ true → u.inside ≡ false) s.views id w (λ _. refl)
                  (λ j u n e m. off u.inside (λ u_in. n (h.alone j u e m u_in ∙ sym mine)));
            }),
        ap (λ (c : List (ℕ × Option T)). (left me.0, rest c)) has,
      )
    where
      off : (b : Bool) → (b ≡ true → ⊥) → b ≡ false
      off true n = absurd (n refl)
      off false n = refl

  -- what holds of each view and of a new one after them
  each_snoc : (P : ℕ → View E O → Type 0) (vs : List (View E O)) (w : View E O) → ((j : ℕ) → P j w) → ((j : ℕ) (u : View E O) → get_elem? vs j ≡ some u → P j u)
      → (j : ℕ) (u : View E O) → get_elem? (vs ++ w ∷ []) j ≡ some u → P j u
  each_snoc P vs w new old j u e = ⊎_elim (old j u) (λ (t : w ≡ u). subst (P j) t (new j)) (at_snoc vs w u j e)

  -- no event that the opener has seen has the number of the next pass
  pub looks_on : (slots id : ℕ) (me : M) → me.0.live ≡ true → me.0.id ≡ 0
      → Allows Rule slots id me 0 (λ n. n) (looked events session origin (step slots 0 0 0 none) me)
  looks_on slots id me l first s r long at small =
      let know = r.each id me.0 at l in
      let log_is : r.log ≡ me.0.seen ++ know.begun.0 = know.begun.1 in
      let made_is : me.0.made ≡ r.made = know.opens first in (
        me.0,
        keeps,
        tt,
        subst (λ (z : List ℕ × List (View E O)). Rule record { words = z.0; homes = s.homes; views = z.1 })
            (λ i. (sym (same_words s r) i, sym (set_again s.views id me.0 at) i)) r,
        (
          refl,
          nothing (events_of session (me.0.made + 1) me.0.seen) (events_of session (me.0.made + 1) know.begun.0)
              (sym (events_of-append session (me.0.made + 1) me.0.seen know.begun.0)
              ∙ (ap (events_of session (me.0.made + 1)) (sym log_is) ∙ r.no_other (me.0.made + 1) (omega arith))),
        ),
      )
    where
      nothing : (xs ys : List E) → xs ++ ys ≡ [] → xs ≡ []
      nothing [] ys e = refl
      nothing (x ∷ xs) ys e = absurd (cc e)

      same_words : (s : St) (r : Rule s) → set s.words 0 (get_or s.words 0 0) ≡ s.words
      same_words s r = ⊎_elim
          (λ (f : IsFree events session origin o r.log s). ap (λ (z : List ℕ). set z 0 (get_or z 0 0)) f.words ∙ sym f.words)
          (λ (h : IsHeld events session origin r.log s). ap (λ (z : List ℕ). set z 0 (get_or z 0 0)) h.words ∙ sym h.words)
          r.phase

  -- the opener's pass may be split while it is outside, and the rule holds of both halves
  pub splits_pass : (id : ℕ) (v : View E O) → v.live ≡ true → v.id ≡ 0 → v.inside ≡ false → Splits Rule id v (parted v) (newcomer v)
  splits_pass id v l first out s r at =
      let me = r.each id v at l in
      let vs : List (View E O) = set s.views id (parted v) in
      let back = was s.views id v (parted v) at refl refl refl in
      let made_is : v.made ≡ r.made = me.opens first in
      record {
        log = r.log;
        made = r.made + 1;
        small = r.small;
        no_other = λ by n. r.no_other by (omega arith);
        each = each_snoc (λ j u. u.live ≡ true → Knows session o r.log (r.made + 1) u) vs (newcomer v)
            (λ j _. record {
              from = me.from;
              begun = me.begun;
              own = sym (r.no_other (v.made + 1) (omega arith));
              numbered = omega arith;
              opens = λ e. absurd (omega arith);
              others = λ i x e. absurd (some-ne-none x (sym e));
              once = λ i k x y e f q. absurd (some-ne-none x (sym e));
              sole = λ _. refl;
              now = λ e. absurd (true≢false (sym e));
            })
            (each_set (λ j u. u.live ≡ true → Knows session o r.log (r.made + 1) u) s.views id (parted v)
            (λ _. record {
              from = me.from;
              begun = me.begun;
              own = me.own;
              numbered = let n = me.numbered in omega arith;
              opens = λ _. omega arith;
              others = λ i x e. keeps_later r.log r.made x (me.others i x e);
              once = me.once;
              sole = me.sole;
              now = me.now;
            })
            (λ j u n e m. let k = r.each j u e m in record {
              from = k.from;
              begun = k.begun;
              own = k.own;
              numbered = let n = k.numbered in omega arith;
              opens = λ z. absurd (n (r.apart j id u v e at m l (z ∙ sym first)));
              others = λ i x e. keeps_later r.log r.made x (k.others i x e);
              once = k.once;
              sole = k.sole;
              now = k.now;
            }));
        apart = λ j k x y e f a b same. ⊎_elim
            (λ (e' : get_elem? vs j ≡ some x). ⊎_elim
            (λ (f' : get_elem? vs k ≡ some y). let p = back j x e' in let q = back k y f' in
            r.apart j k p.old q.old p.there q.there (p.live ∙ a) (q.live ∙ b) (p.id ∙ (same ∙ sym q.id)))
            (λ (t : (k ≡ length vs) × (newcomer v ≡ y)). absurd (new_id j x e' a (same ∙ ap (λ (z : View E O). z.id) (sym t.1))))
            (snoc_place vs (newcomer v) y k f))
            (λ (t : (j ≡ length vs) × (newcomer v ≡ x)). ⊎_elim
            (λ (f' : get_elem? vs k ≡ some y). absurd (new_id k y f' b (sym same ∙ ap (λ (z : View E O). z.id) (sym t.1))))
            (λ (u : (k ≡ length vs) × (newcomer v ≡ y)). t.0 ∙ sym u.0)
            (snoc_place vs (newcomer v) y k f))
            (snoc_place vs (newcomer v) x j e);
        kept_apart = λ j k i x y z e f a b g same. ⊎_elim
            (λ (e' : get_elem? vs j ≡ some x). let p = back j x e' in let g' : get_elem? p.old.kept i ≡ some z =
            ap (λ (h : List (Kept E)). get_elem? h i) p.kept ∙ g in ⊎_elim
            (λ (f' : get_elem? vs k ≡ some y). let q = back k y f' in
            r.kept_apart j k i p.old q.old z p.there q.there (p.live ∙ a) (q.live ∙ b) g' (same ∙ sym q.id))
            (λ (t : (k ≡ length vs) × (newcomer v ≡ y)). let n = ((r.each j p.old p.there (p.live ∙ a)).others i z g').numbered in let is : z.id ≡ v.made + 1 =
            same ∙ ap (λ (z : View E O). z.id) (sym t.1) in omega arith)
            (snoc_place vs (newcomer v) y k f))
            (λ (t : (j ≡ length vs) × (newcomer v ≡ x)). some-ne-none z (sym (ap (λ (h : View E O). get_elem? h.kept i) t.1 ∙ g)))
            (snoc_place vs (newcomer v) x j e);
        phase = ⊎_elim
            (λ (f : IsFree events session origin o r.log s). inl record {
              value = f.value;
              at_home = f.at_home;
              list = f.list;
              from = f.from;
              words = f.words;
              nobody = each_snoc (λ j u. u.live ≡ true → u.inside ≡ false) vs (newcomer v) (λ j _. refl)
                  (each_set (λ j u. u.live ≡ true → u.inside ≡ false) s.views id (parted v) (λ _. out) (λ j u _ e m. f.nobody j u e m));
            })
            (λ (h : IsHeld events session origin r.log s).
            let other : h.holder ≢ id =
            λ e. true≢false (sym h.is_in ∙ (ap (λ (z : View E O). z.inside) (some-injective _ _ (sym h.there ∙ (ap (get_elem? s.views) e ∙ at))) ∙ out)) in
            inr record {
              away = h.away;
              turn = h.turn;
              busy = h.busy;
              words = h.words;
              holder = h.holder;
              view = h.view;
              there = at_longer vs (newcomer v ∷ []) h.holder h.view (set_else s.views id h.holder (parted v) other ∙ h.there);
              is_live = h.is_live;
              is_in = h.is_in;
              alone = each_snoc (λ j u. u.live ≡ true → u.inside ≡ true → j ≡ h.holder) vs (newcomer v) (λ j _ e. absurd (true≢false (sym e)))
                  (each_set (λ j u. u.live ≡ true → u.inside ≡ true → j ≡ h.holder) s.views id (parted v) (λ _ e. absurd (true≢false (sym e ∙ out)))
                  (λ j u _ e m i. h.alone j u e m i));
            })
            r.phase;
      }
    where
      new_id : (j : ℕ) (u : View E O) → get_elem? (set s.views id (parted v)) j ≡ some u → u.live ≡ true → u.id ≡ v.made + 1 → ⊥
      new_id j u e m is = let p = was s.views id v (parted v) at refl refl refl j u e in let n : p.old.id ≤ r.made =
          (r.each j p.old p.there (p.live ∙ m)).numbered in let same : p.old.id ≡ u.id = p.id in let made_is : v.made ≡ r.made =
          (r.each id v at l).opens first in omega arith

  begins_longer : (log xs ys : List E) → Begins log xs → Begins log ys → Begins log (longer xs ys)
  begins_longer log xs ys a b = pick (nat_lt (length xs) (length ys))
    where
      pick : (c : Bool) → Begins log (if c then ys else xs)
      pick true = b
      pick false = a

  -- a live view after a join stood there before, as the other did not; what it keeps is what it kept, and the other's for the opener
  record Stood (vs : List (View E O)) (other : ℕ) (w : View E O) (j : ℕ) (u : View E O) : Type 0 where
    old : View E O
    there : get_elem? vs j ≡ some old
    live : old.live ≡ true
    same : old.id ≡ u.id
    not_other : j ≡ other → ⊥
    kept : (i : ℕ) (z : Kept E) → get_elem? u.kept i ≡ some z → (get_elem? old.kept i ≡ some z) ⊎ (kept_of w ≡ z)

  live_there : (vs : List (View E O)) (id other : ℕ) (v w : View E O) (nowhere : O) → get_elem? vs id ≡ some v → ¬ (other ≡ id) → (j : ℕ) (u : View E O)
      → get_elem? (set (set vs id (joined v w)) other (gone nowhere)) j ≡ some u → u.live ≡ true → Stood vs other w j u
  live_there vs id other v w nowhere at n j u e m = ⊎_elim
      (λ (t : (j ≡ other) × (gone nowhere ≡ u)). absurd (true≢false (sym m ∙ ap (λ (z : View E O). z.live) (sym t.1))))
      (λ (t : (j ≢ other) × (get_elem? (set vs id (joined v w)) j ≡ some u)). ⊎_elim
      (λ (q : (j ≡ id) × (joined v w ≡ u)). record {
        old = v;
        there = ap (get_elem? vs) q.0 ∙ at;
        live = ap (λ (z : View E O). z.live) q.1 ∙ m;
        same = ap (λ (z : View E O). z.id) q.1;
        not_other = t.0;
        kept = λ i z g. at_snoc v.kept (kept_of w) z i (ap (λ (h : View E O). get_elem? h.kept i) q.1 ∙ g);
      })
      (λ (q : (j ≢ id) × (get_elem? vs j ≡ some u)). record { old = u; there = q.1; live = m; same = refl; not_other = t.0; kept = λ i z g. inl g })
      (at_set vs id j (joined v w) u t.1))
      (at_set (set vs id (joined v w)) other j (gone nowhere) u e)

  -- the opener's pass may be joined with another while both are outside, and the rule holds of what is left
  pub joins_pass : (id : ℕ) (v : View E O) (other : ℕ) (w : View E O) (nowhere : O) → v.live ≡ true → w.live ≡ true → v.id ≡ 0 → v.inside ≡ false
      → w.inside ≡ false
      → Joins Rule id v other w (joined v w) (gone nowhere)
  joins_pass id v other w nowhere l lw first out out' s r at n there =
      let both = joined v w in
      let at_w : get_elem? s.views other ≡ some w = sym (set_else s.views id other both n) ∙ there in
      let me = r.each id v at l in let them = r.each other w at_w lw in
      let vs : List (View E O) = set s.views id both in
      let last : List (View E O) = set vs other (gone nowhere) in
      let joined_knows : Knows session o r.log r.made both = record {
        from = me.from;
        begun = begins_longer r.log v.seen w.seen me.begun them.begun;
        own = me.own;
        numbered = me.numbered;
        opens = me.opens;
        others = λ i x e. ⊎_elim (me.others i x)
            (λ (t : kept_of w ≡ x). subst (Keeps session r.log r.made) t record { own = them.own; begun = them.begun; numbered = them.numbered })
            (at_snoc v.kept (kept_of w) x i e);
        once = λ i k x y e f q. ⊎_elim
            (λ (e' : get_elem? v.kept i ≡ some x). ⊎_elim
            (λ (f' : get_elem? v.kept k ≡ some y). me.once i k x y e' f' q)
            (λ (t : (k ≡ length v.kept) × (kept_of w ≡ y)). absurd (r.kept_apart id other i v w x at at_w l lw e' (q ∙ ap (λ (z : Kept E). z.id) (sym t.1))))
            (snoc_place v.kept (kept_of w) y k f))
            (λ (t : (i ≡ length v.kept) × (kept_of w ≡ x)). ⊎_elim
            (λ (f' : get_elem? v.kept k ≡ some y). absurd (r.kept_apart id other k v w y at at_w l lw f' (sym q ∙ ap (λ (z : Kept E). z.id) (sym t.1))))
            (λ (u : (k ≡ length v.kept) × (kept_of w ≡ y)). t.0 ∙ sym u.0)
            (snoc_place v.kept (kept_of w) y k f))
            (snoc_place v.kept (kept_of w) x i e);
        sole = λ n. absurd (n first);
        now = λ e. absurd (true≢false (sym e ∙ out));
      } in
      -- a live view that stands there now stood there, or is the opener's
      let place = λ (j : ℕ) (u : View E O) (e : get_elem? last j ≡ some u) (m : u.live ≡ true). live_there s.views id other v w nowhere at n j u e m in
      record {
        log = r.log;
        made = r.made;
        small = r.small;
        no_other = r.no_other;
        each = each_set (λ j u. u.live ≡ true → Knows session o r.log r.made u) vs other (gone nowhere) (λ e. absurd (true≢false (sym e)))
            (λ j u _. each_set (λ j u. u.live ≡ true → Knows session o r.log r.made u) s.views id both (λ _. joined_knows) (λ j u _. r.each j u) j u);
        apart = λ j k x y e f a b same. let p = place j x e a in let q = place k y f b in
            r.apart j k p.old q.old p.there q.there p.live q.live (p.same ∙ (same ∙ sym q.same));
        kept_apart = λ j k i x y z e f a b g same. let p = place j x e a in let q = place k y f b in ⊎_elim
            (λ (was_kept : get_elem? p.old.kept i ≡ some z). r.kept_apart j k i p.old q.old z p.there q.there p.live q.live was_kept (same ∙ sym q.same))
            (λ (is_w : kept_of w ≡ z). q.not_other
            (r.apart k other q.old w q.there at_w q.live lw (q.same ∙ (sym same ∙ ap (λ (h : Kept E). h.id) (sym is_w)))))
            (p.kept i z g);
        phase = ⊎_elim
            (λ (f : IsFree events session origin o r.log s). inl record {
              value = f.value;
              at_home = f.at_home;
              list = f.list;
              from = f.from;
              words = f.words;
              nobody = each_set (λ j u. u.live ≡ true → u.inside ≡ false) vs other (gone nowhere) (λ _. refl)
                  (λ j u _. each_set (λ j u. u.live ≡ true → u.inside ≡ false) s.views id both (λ _. out) (λ j u _. f.nobody j u) j u);
            })
            (λ (h : IsHeld events session origin r.log s).
            let not_me : h.holder ≢ id =
            λ e. true≢false (sym h.is_in ∙ (ap (λ (z : View E O). z.inside) (some-injective _ _ (sym h.there ∙ (ap (get_elem? s.views) e ∙ at))) ∙ out)) in
            let not_them : h.holder ≢ other =
            λ e. true≢false (sym h.is_in
            ∙ (ap (λ (z : View E O). z.inside) (some-injective _ _ (sym h.there ∙ (ap (get_elem? s.views) e ∙ at_w))) ∙ out')) in inr record {
              away = h.away;
              turn = h.turn;
              busy = h.busy;
              words = h.words;
              holder = h.holder;
              view = h.view;
              there = set_else vs other h.holder (gone nowhere) not_them ∙ (set_else s.views id h.holder both not_me ∙ h.there);
              is_live = h.is_live;
              is_in = h.is_in;
              alone = each_set (λ j u. u.live ≡ true → u.inside ≡ true → j ≡ h.holder) vs other (gone nowhere) (λ e. absurd (true≢false (sym e)))
                  (λ j u _. each_set (λ j u. u.live ≡ true → u.inside ≡ true → j ≡ h.holder) s.views id both (λ _ e. absurd (true≢false (sym e ∙ out)))
                  (λ j u _. h.alone j u) j u);
            })
            r.phase;
      }

  -- the opener closes the lock: the value is at home, since whoever had it would not have been joined
  pub closes_lock : (lock : TableId) (id : ℕ) (v : View E O) (ws : List ℕ) (xs : List (Option T)) → v.live ≡ true → v.id ≡ 0 → v.inside ≡ false
      → AllJoined (known_of lock v) → Final (Seen Rule id v) ws xs
      → (x : T) × (get_elem? xs 0 ≡ some (Some x)) × (origin x ≡ v.origin) × ClosedAs session (events x) (known_of lock v)
  closes_lock lock id v ws xs l first out all final =
      let s = final.0 in let r : Rule s = final.1.0 in let at = final.1.1 in let me = r.each id v at l in
      let made_is : v.made ≡ r.made = me.opens first in ⊎_elim
      (λ (f : IsFree events session origin o r.log s). (
        f.value,
        final.4 0 (Some f.value) (ap (λ (h : List _). get_elem? h 0) f.at_home),
        f.from ∙ sym me.from,
        record {
          begins = subst (λ (z : List E). Begins z v.seen) (sym f.list) me.begun;
          own = ap (events_of session 0) f.list ∙ (ap (λ (n : ℕ). events_of session n r.log) (sym first) ∙ sym me.own);
          joined = λ i y e. ap (events_of session y.id) f.list ∙ sym (me.others i y e).own;
          saw = λ i y e. subst (λ (z : List E). Begins z y.seen) (sym f.list) (me.others i y e).begun;
          no_other = λ by n. ap (events_of session by) f.list ∙ r.no_other by (omega arith);
        },
      ))
      (λ (h : IsHeld events session origin r.log s).
      let not_me : h.holder ≢ id =
      λ e. true≢false (sym h.is_in ∙ (ap (λ (z : View E O). z.inside) (some-injective _ _ (sym h.there ∙ (ap (get_elem? s.views) e ∙ at))) ∙ out)) in
      let k = r.each h.holder h.view h.there h.is_live in
      let some_id : h.view.id ≢ 0 = λ e. not_me (r.apart h.holder id h.view v h.there at h.is_live l (e ∙ sym first)) in
      let numbered : h.view.id ≤ r.made = k.numbered in
      let t = all h.view.id (omega arith) (omega arith) in
      absurd (r.kept_apart id h.holder t.0 v h.view t.1 at h.there l h.is_live t.2 t.3))
      r.phase

  -- the steps that give the value back, one after another
  pub left_as : (old : View E O) (x : T) (new : List E) (a b c : M) → a ≡ (old, (0, Some x) ∷ []) → b ≡ (added a.0 (events x) (a.0.mine ++ new), a.1)
      → c ≡ (left b.0, [])
      → c ≡ (left (added old (events x) (old.mine ++ new)), [])
  left_as old x new a b c p q r = r ∙ ap (λ (m : M). (left m.0, [])) (q ∙ ap (λ (m : M). (added m.0 (events x) (m.0.mine ++ new), m.1)) p)

-- what contracts see of a pass that has left
pub left_known : {E O : Type 0} (lock lock' : TableId) (p : Known E O) (v w : View E O) (log own : List E) → known_of lock v ≡ p → lock' ≡ lock
    → w ≡ left (added v log own)
    → known_of lock' w ≡ record p { inside = false; seen = log; mine = w.mine }
left_known {E} {O} lock lock' p v w log own known same is =
    (λ i. known_of (same i) (is i))
    ∙ (ap (λ (k : Known E O). record k { inside = false; seen = log; mine = own }) known
    ∙ ap (λ (z : List E). record p { inside = false; seen = log; mine = z }) (sym (ap (λ (u : View E O). u.mine) is)))
