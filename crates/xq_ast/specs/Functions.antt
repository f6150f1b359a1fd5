-- Which functions there are, and how many arguments each takes.
use Rattle.std.specs.Prelude.{ℕ, Bool, true, false, ◌&&◌, if◌then◌else◌, nat_le, bytes_eq, codes, List, [], ◌∷◌, Option, None, Some}
use Rattle.xq_ast.specs.declared.tree.Expr.{Expr}
use Rattle.xq_ast.specs.declared.update.Update.{Update}
use Rattle.xq_ast.specs.declared.update.Update.TheVariants as update
use Rattle.xq_ast.specs.declared.call.Call.{Call}
use Rattle.xq_ast.specs.declared.call.Call.TheVariants as call
use Rattle.xq_ast.specs.Everywhere.{Tests, everywhere}

-- a function's name without the prefix `fn:`, and the least and the greatest number of its arguments; with None there
-- may be any number more
pub record Function : Type 0 where
  pub name : List ℕ
  pub least : ℕ
  pub most : Option ℕ

-- a function of this name, by the least and the greatest number of its arguments
abbrev pub takes : List ℕ → ℕ → Option ℕ → Function
takes name least most = record { name = name; least = least; most = most }

-- the functions; `doc` is none of them, since its call is an expression of its own
abbrev pub functions : List Function
functions =
    takes (codes "count") 1 (Some 1) ∷ takes (codes "empty") 1 (Some 1) ∷ takes (codes "exists") 1 (Some 1)
    ∷ takes (codes "not") 1 (Some 1) ∷ takes (codes "true") 0 (Some 0) ∷ takes (codes "false") 0 (Some 0)
    ∷ takes (codes "string") 0 (Some 1) ∷ takes (codes "name") 0 (Some 1)
    ∷ takes (codes "contains") 2 (Some 2) ∷ takes (codes "starts-with") 2 (Some 2)
    ∷ takes (codes "string-length") 0 (Some 1) ∷ takes (codes "concat") 2 None
    ∷ takes (codes "sum") 1 (Some 1) ∷ takes (codes "position") 0 (Some 0) ∷ takes (codes "last") 0 (Some 0) ∷ []

-- the number is not above the greatest one, if there is a greatest
abbrev pub is_at_most : ℕ → Option ℕ → Bool
is_at_most n None = true
is_at_most n (Some most) = nat_le n most

-- the function of this name is there and takes this number of arguments
abbrev pub is_among : List Function → List ℕ → ℕ → Bool
is_among [] name arguments = false
is_among (f ∷ more) name arguments =
    if bytes_eq name f.name then nat_le f.least arguments && is_at_most arguments f.most else is_among more name arguments

-- there is a function of this name that takes this number of arguments
abbrev pub is_function : List ℕ → ℕ → Bool
is_function = is_among functions

-- functions are known, and nothing is asked of names
abbrev pub calling : Tests
calling = record { made = λ name. true; called = is_function }

-- each function in the expressions of an update is there and takes so many arguments
abbrev pub are_known_in_update : Update → Bool
are_known_in_update (update.Into source target) = everywhere calling source && everywhere calling target
are_known_in_update (update.Preceding source target) = everywhere calling source && everywhere calling target
are_known_in_update (update.Following source target) = everywhere calling source && everywhere calling target
are_known_in_update (update.Delete target) = everywhere calling target
are_known_in_update (update.DeleteUndeep target) = everywhere calling target
are_known_in_update (update.Replace name target by) = everywhere calling target && everywhere calling by
are_known_in_update (update.Rename target name) = everywhere calling target

-- each function that a call names is there and takes so many arguments
abbrev pub has_known_functions : Call → Bool
has_known_functions call.Begin = true
has_known_functions call.BeginRead = true
has_known_functions call.Commit = true
has_known_functions call.Rollback = true
has_known_functions call.Checkpoint = true
has_known_functions call.ShowDocuments = true
has_known_functions (call.Create name) = true
has_known_functions (call.Drop name) = true
has_known_functions (call.Load name pyx) = true
has_known_functions (call.Export name) = true
has_known_functions (call.Update what) = are_known_in_update what
has_known_functions (call.Query expr) = everywhere calling expr
