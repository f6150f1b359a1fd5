-- Calls whose locks keep others out are answered alike before and behind what the others do.
use Rattle.std.proofs.Common.{◌≡◌, ℕ, Bool, true, false, ◌&&◌, ◌||◌, true≢false, List, [], ◌∷◌, Option, None, Some, refl, sym, ap, subst, ◌∙◌}
use Rattle.std.specs.FinMap as forests
use mathlib.Core.Logic.{◌⊎◌, inl, inr}
use Rattle.std.proofs.lemmas.Slice.Eq.{bytes_eq-Decides}
use Rattle.std.specs.Str.{bytes_eq}
use Rattle.xq_ast.specs.declared.need.Need.{Need}
use Rattle.xml_model.specs.Forest.{Forest}
use Rattle.xml_model.specs.Needs.{needs, has_exclusive, AgreeAt}
use Rattle.xq_ast.specs.Modes.{is_exclusive}
use Rattle.xml_model.specs.Statement.{stmt}
use Rattle.xml_model.proofs.CallFrame.{keeps}
use Rattle.session_core.specs.declared.history.event.BeginKind.{BeginKind}
use Rattle.session_core.specs.declared.history.event.BeginKind.TheVariants as kinds
use Rattle.session_core.specs.History.Transactions.{Transaction, Ran, run_calls, ran_all, serial, updating, where_updating, says_of, AnsweredInTurn}
use Rattle.session_core.specs.History.Replies.{AllInTurn}
use Rattle.session_core.proofs.Holding.{has_name, locks_by, locks_in, and_parts}
use Rattle.session_core.proofs.Covering.{AreHeld, IsCovered, AllCovered, CoveredBy, CoveredIn}

false_or_true : (b : Bool) → (b ≡ true) ⊎ (b ≡ false)
false_or_true true = inl refl
false_or_true false = inr refl

no_part : (a b : Bool) → ((a ≡ true) × (b ≡ true) → ⊥) → (a && b) ≡ false
no_part true true none = absurd (none (refl, refl))
no_part true false none = refl
no_part false b none = refl

neither : (a b : Bool) → a ≡ false → b ≡ false → (a || b) ≡ false
neither a b x y = ap (λ c. c || b) x ∙ y

same_name : (a b : List ℕ) → bytes_eq a b ≡ true → a ≡ b
same_name a b e = (bytes_eq-Decides a b).0 e

-- what the locks do not have with X, no covered need has with X
not_exclusive_in : (asked locks : List Need) → AreHeld asked locks → (name : List ℕ) → has_exclusive name locks ≡ false → has_exclusive name asked ≡ false
not_exclusive_in [] locks held name none = refl
not_exclusive_in (n ∷ more) locks held name none = neither _ _
    (no_part (is_exclusive n.mode) (bytes_eq n.name name)
    (λ both. true≢false (sym (subst (λ z. has_exclusive z locks ≡ true) (same_name n.name name both.1) (held.0.1 both.0)) ∙ none)))
    (not_exclusive_in more locks held.1 name none)

-- calls change documents at names that their locks have with X alone
pub stays_elsewhere : (rs : List Ran) (locks : List Need) (F : Forest) → AllCovered locks rs → (name : List ℕ) → has_exclusive name locks ≡ false
    → forests.get (run_calls F rs) name ≡ forests.get F name
stays_elsewhere [] locks F all name none = refl
stays_elsewhere (r ∷ rs) locks F all name none = stays_elsewhere rs locks (stmt F r.call).forest all.1 name none
    ∙ (keeps r.call all.0.0).elsewhere F name (not_exclusive_in (needs r.call) locks all.0.1 name none)

-- two forests have the same documents at the names of the locks
abbrev pub Agree : List Need → Forest → Forest → Type 0
Agree locks F G = (name : List ℕ) → has_name name locks ≡ true → forests.get F name ≡ forests.get G name

-- forests that agree at the names of some locks agree at the needs that these locks have
pub agree_needs : (asked locks : List Need) (F G : Forest) → AreHeld asked locks → Agree locks F G → AgreeAt asked F G
agree_needs [] locks F G held agree = tt
agree_needs (n ∷ more) locks F G held agree = (agree n.name held.0.0, agree_needs more locks F G held.1 agree)

at_exclusive : (asked : List Need) (F G : Forest) (name : List ℕ) → AgreeAt asked F G → has_exclusive name asked ≡ true
    → forests.get F name ≡ forests.get G name
at_exclusive [] F G name agree is = absurd (true≢false (sym is))
at_exclusive (n ∷ more) F G name agree is = by_place (is_exclusive n.mode && bytes_eq n.name name) refl (at_exclusive more F G name agree.1) is
  where
    by_place : (b : Bool) → (is_exclusive n.mode && bytes_eq n.name name) ≡ b → (has_exclusive name more ≡ true → forests.get F name ≡ forests.get G name)
        → (b || has_exclusive name more) ≡ true → forests.get F name ≡ forests.get G name
    by_place true here rest is =
        subst (λ z. forests.get F z ≡ forests.get G z) (same_name n.name name (and_parts (is_exclusive n.mode) (bytes_eq n.name name) here).1) agree.0
    by_place false here rest is = rest is

-- they still have behind a call that the locks cover
agree_behind : (r : Ran) (locks : List Need) (F G : Forest) → IsCovered locks r → Agree locks F G → Agree locks (stmt F r.call).forest (stmt G r.call).forest
agree_behind r locks F G covered agree name there = by_mode (false_or_true (has_exclusive name (needs r.call)))
  where
    by_mode : (has_exclusive name (needs r.call) ≡ true) ⊎ (has_exclusive name (needs r.call) ≡ false)
        → forests.get (stmt F r.call).forest name ≡ forests.get (stmt G r.call).forest name
    by_mode (inl is) = at_exclusive (needs r.call) (stmt F r.call).forest (stmt G r.call).forest name
        ((keeps r.call covered.0).after F G (agree_needs (needs r.call) locks F G covered.1 agree)) is
    by_mode (inr none) = (keeps r.call covered.0).elsewhere F name none ∙ agree name there ∙ sym ((keeps r.call covered.0).elsewhere G name none)

-- so the calls are answered alike on both
pub turned : (rs : List Ran) (locks : List Need) (F G : Forest) → AllCovered locks rs → Agree locks F G → AnsweredInTurn F rs → AnsweredInTurn G rs
turned [] locks F G all agree answered = tt
turned (r ∷ rs) locks F G all agree answered = (
  answered.0 ∙ ap says_of ((keeps r.call all.0.0).says F G (agree_needs (needs r.call) locks F G all.0.1 agree)),
  turned rs locks (stmt F r.call).forest (stmt G r.call).forest all.1 (agree_behind r locks F G all.0 agree) answered.1,
)

-- ---- one transaction beside another that commits

-- what the second session's locks have, the first's do not have with X
abbrev pub AreApartLocks : List Need → List Need → Type 0
AreApartLocks first second = (name : List ℕ) → has_name name second ≡ true → has_exclusive name first ≡ false

turned_by : (F : Forest) (s t : Transaction) (ks kt : BeginKind) → CoveredBy s ks → CoveredBy t kt → AreApartLocks (locks_by s ks) (locks_by t kt)
    → AllInTurn F (where_updating t kt) → AllInTurn (serial F (where_updating s ks)) (where_updating t kt)
turned_by F s t ks (kinds.Reading n) first second apart answered = tt
turned_by F s t (kinds.Reading m) kinds.Updating first second apart answered = answered
turned_by F s t kinds.Updating kinds.Updating first second apart answered = (
  turned (ran_all t.replies) t.locks F (run_calls F (ran_all s.replies)) second
      (λ name there. sym (stays_elsewhere (ran_all s.replies) s.locks F first name (apart name there))) answered.0,
  tt,
)

-- a session's open transaction is answered alike behind the commit of another's
pub beside_commit : (F : Forest) (s t : Option Transaction) → CoveredIn s → CoveredIn t → AreApartLocks (locks_in s) (locks_in t)
    → AllInTurn F (updating t) → AllInTurn (serial F (updating s)) (updating t)
beside_commit F s None first second apart answered = tt
beside_commit F None (Some t) first second apart answered = answered
beside_commit F (Some s) (Some t) first second apart answered = turned_by F s t s.kind t.kind first second apart answered
