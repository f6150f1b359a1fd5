-- The tuples of a FLWOR expression (XQuery 1.0, section 3.8): what each binding binds, which tuples stay, and their
-- order. One tuple after another is made, tested and given its keys, before the next one is made.
use Rattle.std.specs.Prelude.{ℕ, Bool, true, false, if◌then◌else◌, List, [], ◌∷◌, ◌++◌, map, Option, Some, None, Result, Ok, Err}
use Rattle.std.specs.Ordering.{nat_cmp, int_cmp, bool_cmp, is_lt, ordering_then, ordering_reverse}
use Rattle.std.specs.declared.cmp.Ordering.{Ordering}
use Rattle.std.specs.declared.cmp.Ordering.TheVariants.{Less, Equal, Greater}
use Rattle.xq_ast.specs.declared.code.Code.{Code}
use Rattle.xq_ast.specs.declared.code.Code.TheVariants.{XPTY0004}
use Rattle.xml_model.specs.declared.value.Key.{Key}
use Rattle.xml_model.specs.declared.value.Key.TheVariants as key
use Rattle.xml_model.specs.declared.value.KeyType.{KeyType}
use Rattle.xml_model.specs.declared.value.KeyType.TheVariants as types
use Rattle.xml_model.specs.Items.{Documents, Items, Making, give, plain, look, ◌>>=◌}
use Rattle.xml_model.specs.declared.value.Atom.TheVariants as atom
use Rattle.xml_model.specs.Atoms.{Atoms, text_cmp, effective_boolean}
use Rattle.xml_model.specs.Nodes.{atomized}
use Rattle.xml_model.specs.FunctionAnswers.{Context}

-- a variable and its value
pub record Variable : Type 0 where
  pub name : List ℕ
  pub value : Items

-- the variables that are bound, the innermost last
abbrev pub Bindings : Type 0
Bindings = List Variable

-- what an expression means where variables are bound and there is a context, or none
abbrev pub Means : Type 0
Means = Bindings → Context → Making Items

-- what a binding means: what it binds, one tuple after another
abbrev pub BindMeans : Type 0
BindMeans = Bindings → Context → Making (List Bindings)

-- a key of `order by`, and whether it descends
pub record KeyMeans : Type 0 where
  pub value : Means
  pub descending : Bool

-- ---- keys

-- an untyped value is ordered as a string
abbrev pub key_of : Atoms → Result Key Code
key_of [] = Ok key.Empty
key_of (atom.Untyped text ∷ []) = Ok (key.Text text)
key_of (atom.Text text ∷ []) = Ok (key.Text text)
key_of (atom.Int n ∷ []) = Ok (key.Int n)
key_of (atom.Truth b ∷ []) = Ok (key.Truth b)
key_of (value ∷ other ∷ values) = Err XPTY0004

-- its type
abbrev pub type_of : Key → KeyType
type_of key.Empty = types.Unknown
type_of (key.Text text) = types.Text
type_of (key.Int n) = types.Int
type_of (key.Truth b) = types.Truth

-- the type at a place with one more key, which must have that of the earlier ones
abbrev pub joined_type : KeyType → KeyType → Result KeyType Code
joined_type types.Unknown t = Ok t
joined_type types.Text types.Unknown = Ok types.Text
joined_type types.Text types.Text = Ok types.Text
joined_type types.Text types.Int = Err XPTY0004
joined_type types.Text types.Truth = Err XPTY0004
joined_type types.Int types.Unknown = Ok types.Int
joined_type types.Int types.Text = Err XPTY0004
joined_type types.Int types.Int = Ok types.Int
joined_type types.Int types.Truth = Err XPTY0004
joined_type types.Truth types.Unknown = Ok types.Truth
joined_type types.Truth types.Text = Err XPTY0004
joined_type types.Truth types.Int = Err XPTY0004
joined_type types.Truth types.Truth = Ok types.Truth

-- An empty key is least. Keys of two types have been refused before; their order here is of no consequence.
abbrev pub type_rank : KeyType → ℕ
type_rank types.Unknown = 0
type_rank types.Text = 1
type_rank types.Int = 2
type_rank types.Truth = 3

-- the order of two keys of one type
abbrev pub value_cmp : Key → Key → Ordering
value_cmp key.Empty k = Equal
value_cmp (key.Text a) key.Empty = Equal
value_cmp (key.Text a) (key.Text b) = text_cmp a b
value_cmp (key.Text a) (key.Int b) = Equal
value_cmp (key.Text a) (key.Truth b) = Equal
value_cmp (key.Int a) key.Empty = Equal
value_cmp (key.Int a) (key.Text b) = Equal
value_cmp (key.Int a) (key.Int b) = int_cmp a b
value_cmp (key.Int a) (key.Truth b) = Equal
value_cmp (key.Truth a) key.Empty = Equal
value_cmp (key.Truth a) (key.Text b) = Equal
value_cmp (key.Truth a) (key.Int b) = Equal
value_cmp (key.Truth a) (key.Truth b) = bool_cmp a b

-- by type, and then by value
abbrev pub key_cmp : Key → Key → Ordering
key_cmp a b = ordering_then (nat_cmp (type_rank (type_of a)) (type_rank (type_of b))) (value_cmp a b)

-- a descending key turns its order round
abbrev pub turned : Bool → Ordering → Ordering
turned false o = o
turned true o = ordering_reverse o

-- the first key that differs decides; the first argument says which descend. All tuples have as many keys.
abbrev pub keys_cmp : List Bool → List Key → List Key → Ordering
keys_cmp descends [] [] = Equal
keys_cmp descends [] (b ∷ bs) = Less
keys_cmp descends (a ∷ more) [] = Greater
keys_cmp [] (a ∷ more) (b ∷ bs) = ordering_then (key_cmp a b) (keys_cmp [] more bs)
keys_cmp (d ∷ ds) (a ∷ more) (b ∷ bs) = ordering_then (turned d (key_cmp a b)) (keys_cmp ds more bs)

-- ---- tuples

-- a tuple that stays: its keys and its variables
pub record Row : Type 0 where
  pub keys : List Key
  pub bindings : Bindings

-- the tuples so far, and the types of their keys
pub record Tuples : Type 0 where
  pub types : List KeyType
  pub rows : List Row

abbrev pub no_tuples : Tuples
no_tuples = record { types = []; rows = [] }

-- the keys of one tuple so far, and the types at their places
pub record Keyed : Type 0 where
  pub keys : List Key
  pub types : List KeyType

abbrev pub no_keys : Keyed
no_keys = record { keys = []; types = [] }

abbrev pub first_type : List KeyType → KeyType
first_type [] = types.Unknown
first_type (t ∷ ts) = t

abbrev pub other_types : List KeyType → List KeyType
other_types [] = []
other_types (t ∷ ts) = ts

abbrev pub with_key : Keyed → Key → KeyType → Keyed
with_key all key type = record { keys = all.keys ++ key ∷ []; types = all.types ++ type ∷ [] }

abbrev pub with_row : Tuples → Bindings → Keyed → Tuples
with_row all env keyed = record { types = keyed.types; rows = all.rows ++ record { keys = keyed.keys; bindings = env } ∷ [] }

module _ (docs : Documents) where
  -- the keys in order, after those that are there; the types are those of earlier tuples at the places from here on
  abbrev pub keyed : List KeyMeans → Bindings → Context → List KeyType → Keyed → Making Keyed
  keyed [] env cx types all = give all
  keyed (k ∷ ks) env cx types all =
      k.value env cx >>= (λ value. look (λ made. key_of (atomized docs made value))) >>= (λ key.
      plain (joined_type (first_type types) (type_of key)) >>= (λ type. keyed ks env cx (other_types types) (with_key all key type)))

  -- whether `where` lets a tuple stay
  abbrev pub stays : Option Means → Bindings → Context → Making Bool
  stays None env cx = give true
  stays (Some filter) env cx = filter env cx >>= (λ value. plain (effective_boolean value))

  -- one tuple more, where it stays
  abbrev pub tuple : Option Means → List KeyMeans → Bindings → Context → Tuples → Making Tuples
  tuple filter keys env cx all =
      stays filter env cx >>= (λ b. if b then keyed keys env cx all.types no_keys >>= (λ k. give (with_row all env k)) else give all)

  -- for each of the values of a binding
  abbrev pub each : (Bindings → Context → Tuples → Making Tuples) → Bindings → Context → List Bindings → Tuples → Making Tuples
  each go env cx [] all = give all
  each go env cx (bound ∷ more) all = go (env ++ bound) cx all >>= each go env cx more

  -- all tuples of the bindings
  abbrev pub tuples : List BindMeans → Option Means → List KeyMeans → Bindings → Context → Tuples → Making Tuples
  tuples [] filter keys env cx all = tuple filter keys env cx all
  tuples (bind ∷ binds) filter keys env cx all = bind env cx >>= (λ values. each (tuples binds filter keys) env cx values all)

-- ---- their order

abbrev pub is_before : List Bool → Row → Row → Bool
is_before descends a b = is_lt (keys_cmp descends a.keys b.keys)

-- after all that it is not before: ties keep their order
abbrev pub row_placed : List Bool → Row → List Row → List Row
row_placed descends row [] = row ∷ []
row_placed descends row (other ∷ rows) = if is_before descends row other then row ∷ other ∷ rows else other ∷ row_placed descends row rows

abbrev pub rows_placed : List Bool → List Row → List Row → List Row
rows_placed descends [] done = done
rows_placed descends (row ∷ rows) done = rows_placed descends rows (row_placed descends row done)

-- the tuples in the order of their keys
abbrev pub sorted : List KeyMeans → List Row → List Row
sorted keys rows = rows_placed (map (λ k. k.descending) keys) rows []

-- what the tuples give, in their order
abbrev pub returned : Means → Context → List Row → Making Items
returned result cx [] = give []
returned result cx (row ∷ rows) = result row.bindings cx >>= (λ items. returned result cx rows >>= (λ more. give (items ++ more)))
