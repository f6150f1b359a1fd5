-- The names of functions.
use Rattle.std.specs.Prelude.{ℕ, List, codes}
use Rattle.xq_functions.specs.declared.function.Function.{Function}
use Rattle.xq_functions.specs.declared.function.Function.TheVariants as function

abbrev pub name_of : Function → List ℕ
name_of function.Count = codes "count"
name_of function.Empty = codes "empty"
name_of function.Exists = codes "exists"
name_of function.Not = codes "not"
name_of function.True = codes "true"
name_of function.False = codes "false"
name_of function.Text = codes "string"
name_of function.Name = codes "name"
name_of function.Contains = codes "contains"
name_of function.StartsWith = codes "starts-with"
name_of function.TextLength = codes "string-length"
name_of function.Concat = codes "concat"
name_of function.Sum = codes "sum"
name_of function.Position = codes "position"
name_of function.Last = codes "last"
