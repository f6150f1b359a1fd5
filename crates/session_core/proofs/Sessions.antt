-- Facts of each place of a journal, and of each session of one in which two sessions act.
use Rattle.std.proofs.Common.{◌≡◌, ℕ, ◌==◌, None, true, false, List, refl, sym, ap, subst}
use Rattle.std.proofs.lemmas.Bool.{eqb-true}
use Rattle.xq_ast.specs.declared.need.Need.{Need}
use Rattle.session_core.specs.declared.history.event.Event.{Event}
use Rattle.session_core.specs.History.Transactions.{open_of}
use Rattle.session_core.specs.History.States.{blocks, held_with}
use Rattle.xq_ast.specs.Modes.{conflicts}
use Rattle.session_core.specs.History.Locks.{IsFree}

-- the fact of the newest event, and those of the events before it
infixr 5 ◌⊳◌
abbrev pub ◌⊳◌ : {A B : Type 0} → A → B → A × B
x ⊳ y = (x, y)

-- a fact of session 1, of session 2 and of each other session is one of every session
pub by_session : (Fact : ℕ → Type 0) → Fact 1 → Fact 2 → ((s : ℕ) → (1 == s) ≡ false → (2 == s) ≡ false → Fact s) → (s : ℕ) → Fact s
by_session Fact one two others s =
    elim (1 == s) as (λ b. (1 == s) ≡ b → Fact s) [
      | true ↦ λ first. subst Fact (eqb-true 1 s first) one
      | false ↦ λ not_first. elim (2 == s) as (λ b. (2 == s) ≡ b → Fact s) [
        | true ↦ λ second. subst Fact (eqb-true 2 s second) two
        | false ↦ λ not_second. others s not_first not_second
      ] refl
    ] refl

-- where no other session has a transaction that holds the name, the need is free
pub free_from : (s : ℕ) (n : Need) (past : List Event) → ((t : ℕ) → (s == t) ≡ false → blocks t n past ≡ false) → IsFree s n past
free_from s n past apart t other =
    elim (s == t) as (λ b. (s == t) ≡ b → blocks t n past ≡ false) [
      | true ↦ λ same. absurd (other (sym (eqb-true s t same)))
      | false ↦ λ differ. apart t differ
    ] refl

-- where no other session has an open transaction, any need is free
pub free_where_none : (s : ℕ) (n : Need) (past : List Event) → ((t : ℕ) → (s == t) ≡ false → open_of t past ≡ None) → IsFree s n past
free_where_none s n past none = free_from s n past (λ t apart. ap (λ o. conflicts (held_with n.name o) n.mode) (none t apart))
