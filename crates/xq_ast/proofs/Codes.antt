-- Codes with numbers, and their texts.
use Rattle.std.proofs.Common.{◌≡◌, ◌≢◌, ℕ, ◌<◌, ◌^◌, true, false, List, ◌∷◌, ◌++◌, refl, ap, sym, ◌∙◌}
use Rattle.std.specs.Prelude.{codes}
use Rattle.std.specs.Fmt.{decimal}
use Rattle.std.proofs.lemmas.List.{append_cancel_left}
use Rattle.xq_ast.specs.CodeText.{code_text, refusal_name, kind_name, InRange}
use Rattle.xq_ast.specs.CodeWords.{IsWord, IsCut, has_space}
use Rattle.xq_ast.proofs.Cuts.{cut_once, space_inside}
use Rattle.xq_ast.proofs.Numbers.{has_space-decimal}
use Rattle.xq_ast.specs.declared.refusal.PyxRefusal.{PyxRefusal}
use Rattle.xq_ast.specs.declared.refusal.PyxRefusal.TheVariants as refusals
use Rattle.xq_ast.specs.declared.code.SpentKind.{SpentKind}
use Rattle.xq_ast.specs.declared.code.SpentKind.TheVariants as kinds
use Rattle.xq_ast.specs.declared.code.Code.{Code}
use Rattle.xq_ast.specs.declared.code.Code.TheVariants.{Pyx, Spent, Damaged}

-- no name has a space
pub has_space-refusal_name : (why : PyxRefusal) → has_space (refusal_name why) ≡ false
has_space-refusal_name refusals.BadLine = refl
has_space-refusal_name refusals.BadName = refl
has_space-refusal_name refusals.EndMismatch = refl
has_space-refusal_name refusals.AttributeLate = refl
has_space-refusal_name refusals.AttributeTwice = refl
has_space-refusal_name refusals.TooDeep = refl
has_space-refusal_name refusals.TooManyNodes = refl
has_space-refusal_name refusals.TooMuchText = refl
has_space-refusal_name refusals.Unclosed = refl

-- no name of a kind of number has a space
pub has_space-kind_name : (kind : SpentKind) → has_space (kind_name kind) ≡ false
has_space-kind_name kinds.Commit = refl
has_space-kind_name kinds.Generation = refl
has_space-kind_name kinds.Page = refl
has_space-kind_name kinds.Slot = refl
has_space-kind_name kinds.Log = refl

-- a text that does not begin with a word and a space is none that does
pub other_head : (text word tail : List ℕ) → ((rest : List ℕ) → text ≢ word ++ 32 ∷ rest) → word ++ 32 ∷ tail ≢ text
other_head text word tail none e = none tail (sym e)

-- what stands behind a word in one spelling stands there in each
pub same_tail : (text word tail rest : List ℕ) → text ≡ word ++ 32 ∷ rest → word ++ 32 ∷ tail ≡ text → tail ≡ rest
same_tail text word tail rest t e = let both : 32 ∷ tail ≡ 32 ∷ rest = append_cancel_left word (32 ∷ tail) (32 ∷ rest) (e ∙ t) in cc

-- behind the word stands another tail
pub other_tail : (text word tail rest : List ℕ) → text ≡ word ++ 32 ∷ rest → tail ≢ rest → word ++ 32 ∷ tail ≢ text
other_tail text word tail rest t ne e = ne (same_tail text word tail rest t e)

-- behind the word stands another name
pub other_name : (text word rest name mine k n : List ℕ) → text ≡ word ++ 32 ∷ rest → rest ≡ name ++ 32 ∷ k → has_space name ≡ false → has_space mine ≡ false
    → mine ≢ name
    → word ++ 32 ∷ (mine ++ 32 ∷ n) ≢ text
other_name text word rest name mine k n t r p q ne e = ne (cut_once mine name n k q p (same_tail text word (mine ++ 32 ∷ n) rest t e ∙ r)).0

-- a text that was taken apart
pub put_together : (text word rest name mine k : List ℕ) → text ≡ word ++ 32 ∷ rest → rest ≡ name ++ 32 ∷ k → mine ≡ name → word ++ 32 ∷ (mine ++ 32 ∷ k) ≡ text
put_together text word rest name mine k t r m = ap (λ x. word ++ 32 ∷ (x ++ 32 ∷ k)) m ∙ (ap (λ x. word ++ 32 ∷ x) (sym r) ∙ sym t)

-- what has no space is not two words
pub no_second : (rest first second : List ℕ) → has_space rest ≡ false → first ++ 32 ∷ second ≢ rest
no_second rest first second none e = let some : has_space rest ≡ true = ap has_space (sym e) ∙ space_inside first second in cc

-- what is cut is cut there
pub second_part : (rest before behind first second : List ℕ) → IsCut rest before behind → has_space first ≡ false → first ++ 32 ∷ second ≡ rest
    → (first ≡ before) × (second ≡ behind)
second_part rest before behind first second cut plain e = cut_once first before second behind plain cut.first (e ∙ cut.whole)

-- a text that is none of a word, a PYX refusal, a spent number or a damaged page is no code's
pub no_code : (text : List ℕ) → ((c : Code) → IsWord c → code_text c ≢ text) → ((why : PyxRefusal) (line : ℕ) → line < 2 ^ 64 → code_text (Pyx why line) ≢ text)
    → ((kind : SpentKind) (number : ℕ) → number < 2 ^ 64 → code_text (Spent kind number) ≢ text)
    → ((commit ordinal page : ℕ) → commit < 2 ^ 64 → ordinal < 2 ^ 64 → page < 2 ^ 64 → code_text (Damaged commit ordinal page) ≢ text) → (c : Code) → InRange c
    → code_text c ≢ text
no_code text w p s d (Pyx why line) small = p why line small
no_code text w p s d (Spent kind number) small = s kind number small
no_code text w p s d (Damaged commit ordinal page) small = d commit ordinal page small.0 small.1 small.2
no_code text w p s d c small = w c tt

-- the parts of a damaged page's text, where the text was cut behind its first word
pub damaged_parts : (text rest before behind : List ℕ) → text ≡ codes "Damaged" ++ 32 ∷ rest → IsCut rest before behind → (commit ordinal page : ℕ)
    → commit < 2 ^ 64
    → code_text (Damaged commit ordinal page) ≡ text → (decimal commit ≡ before) × (decimal ordinal ++ 32 ∷ decimal page ≡ behind)
damaged_parts text rest before behind t cut commit ordinal page small e =
    let tail = decimal ordinal ++ 32 ∷ decimal page in
    second_part rest before behind (decimal commit) tail cut (has_space-decimal commit small)
    (same_tail text (codes "Damaged") (decimal commit ++ 32 ∷ tail) rest t e)
