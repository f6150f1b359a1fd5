-- Texts of values, one after another.
use Rattle.std.specs.Prelude.{ℕ, ◌+◌, if◌then◌else◌, Bool, true, false, List, [], ◌∷◌, ◌++◌, Result, Ok}
use Rattle.std.specs.Fmt.{is_char_start}
use Rattle.xq_ast.specs.declared.code.Code.{Code}
use Rattle.xml_model.specs.declared.value.Atom.{Atom}
use Rattle.xml_model.specs.Items.{◌>>?◌}
use Rattle.xml_model.specs.Atoms.{Atoms, atom_text}
use Rattle.xml_model.specs.FunctionAnswers.{concat_argument}

-- the text of a value, with a space before it where it is not the first
abbrev pub word : Bool → Atom → List ℕ
word false a = atom_text a
word true a = 32 ∷ atom_text a

-- all of them; the first argument says whether another stands before
abbrev pub all_words : Bool → Atoms → List ℕ
all_words later [] = []
all_words later (a ∷ more) = word later a ++ all_words true more

-- the arguments of `concat` behind a text
abbrev pub concat_onto : List ℕ → List Atoms → Result (List ℕ) Code
concat_onto all [] = Ok all
concat_onto all (a ∷ more) = (concat_argument a >>? (λ text. Ok (all ++ text))) >>? (λ longer. concat_onto longer more)

-- how many characters a text has
abbrev pub chars_of : List ℕ → ℕ
chars_of [] = 0
chars_of (b ∷ text) = (if is_char_start b then 1 else 0) + chars_of text
