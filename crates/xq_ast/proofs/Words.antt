-- Codes whose text is one word.
use Rattle.std.proofs.Common.{◌≡◌, ℕ, refl}
use Rattle.xq_ast.specs.CodeWords.{IsWord}
use Rattle.xq_ast.specs.declared.refusal.PyxRefusal.{PyxRefusal}
use Rattle.xq_ast.specs.declared.code.SpentKind.{SpentKind}
use Rattle.xq_ast.specs.declared.code.Code.{Code}
use Rattle.xq_ast.specs.declared.code.Code.TheVariants.{Pyx, Spent, Damaged}

-- a code without numbers is one word
pub word_of_the_rest : (code : Code) → ((why : PyxRefusal) (line : ℕ) → code ≡ Pyx why line → ⊥)
    → ((kind : SpentKind) (number : ℕ) → code ≡ Spent kind number → ⊥)
    → ((commit ordinal page : ℕ) → code ≡ Damaged commit ordinal page → ⊥) → IsWord code
word_of_the_rest (Pyx why line) p s d = p why line refl
word_of_the_rest (Spent kind number) p s d = s kind number refl
word_of_the_rest (Damaged commit ordinal page) p s d = d commit ordinal page refl
word_of_the_rest _ p s d = tt
