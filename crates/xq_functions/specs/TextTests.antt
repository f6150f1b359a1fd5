-- Tests of two texts.
use Rattle.std.specs.Prelude.{ℕ, List, Bool, Result, Ok, Err}
use Rattle.xq_ast.specs.declared.code.Code.{Code}
use Rattle.xml_model.specs.FunctionAnswers.{has_within, begins_with, boolean_answer}
use Rattle.xml_model.specs.Items.{Items}
use Rattle.xq_functions.specs.declared.text_tests.TextTest.{TextTest}
use Rattle.xq_functions.specs.declared.text_tests.TextTest.TheVariants as tests

abbrev pub holds_of : TextTest → List ℕ → List ℕ → Bool
holds_of tests.Within = has_within
holds_of tests.Begins = begins_with

-- a truth value, or the code, as an answer
abbrev pub test_flag : Result Bool Code → Result Items Code
test_flag (Ok b) = boolean_answer b
test_flag (Err code) = Err code
