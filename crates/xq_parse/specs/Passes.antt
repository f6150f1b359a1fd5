-- What each pass over a call tests.
use Rattle.xq_ast.specs.Everywhere.{Tests}
use Rattle.xq_ast.specs.GoodNames.{naming}
use Rattle.xq_ast.specs.Functions.{calling}
use Rattle.xq_parse.specs.declared.everywhere.Pass.{Pass}
use Rattle.xq_parse.specs.declared.everywhere.Pass.TheVariants.{Names, Functions}

-- the tests of a pass: of names, or of functions
abbrev pub tests_of : Pass → Tests
tests_of Names = naming
tests_of Functions = calling
