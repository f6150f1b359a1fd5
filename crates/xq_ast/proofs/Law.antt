-- A text determines its code, but for a mark.
use Rattle.std.proofs.Common.{◌≡◌, ℕ, ◌<◌, ◌^◌, Bool, true, false, ◌&&◌, cond, List, [], ◌∷◌, ◌++◌, Option, None, Some, nat_eq, refl, ap, sym, ◌∙◌, arith}
use Rattle.std.specs.Prelude.{codes}
use Rattle.std.specs.Fmt.{decimal}
use Rattle.std.proofs.lemmas.Fmt.{decimal_injective}
use Rattle.std.proofs.lemmas.List.{append_cancel_left}
use Rattle.xq_ast.specs.CodeText.{code_text, refusal_name, kind_name, InRange, without_mark}
use Rattle.xq_ast.specs.CodeWords.{IsWord}
use Rattle.xq_ast.proofs.Cuts.{cut_once}
use Rattle.xq_ast.proofs.Numbers.{has_space-decimal}
use Rattle.xq_ast.proofs.Codes.{has_space-refusal_name, has_space-kind_name}
use Rattle.xq_ast.specs.declared.code_reading.TheConstants.{WORDS, REFUSALS, KINDS}
use Rattle.xq_ast.specs.declared.refusal.PyxRefusal.{PyxRefusal}
use Rattle.xq_ast.specs.declared.refusal.PyxRefusal.TheVariants as refusals
use Rattle.xq_ast.specs.declared.code.SpentKind.{SpentKind}
use Rattle.xq_ast.specs.declared.code.SpentKind.TheVariants as kinds
use Rattle.xq_ast.specs.declared.code.Code.{Code}
use Rattle.xq_ast.specs.declared.code.Code.TheVariants.{XPST0003, XPST0008, XPST0017, XPDY0002, XPTY0004, XPTY0019, XPTY0020, XQTY0024, XQDY0025, FOAR0001, FOAR0002, FODC0002, FORG0001, FORG0006, TooLong, NestedTooDeep, BadName, NoTransaction, InTransaction, ReadOnly, Updating, Exists, TooDeep, TooManyNodes, TooMuchText, TooManyItems, ReplyTooLong, NoMemory, Failed, InDoubt, Pyx, Spent, Damaged}

abbrev same_bytes : List ℕ → List ℕ → Bool
same_bytes [] [] = true
same_bytes [] (y ∷ ys) = false
same_bytes (x ∷ xs) [] = false
same_bytes (x ∷ xs) (y ∷ ys) = nat_eq x y && same_bytes xs ys

-- the first item with this name
abbrev named : {A : Type 0} → (A → List ℕ) → List A → List ℕ → Option A
named name [] text = None
named name (x ∷ xs) text = cond (same_bytes (name x) text) (Some x) (named name xs text)

-- the table finds each of its items by its name
word_named : (c : Code) → IsWord c → named code_text WORDS (code_text c) ≡ Some (without_mark c)
word_named XPST0003 is = refl
word_named XPST0008 is = refl
word_named XPST0017 is = refl
word_named XPDY0002 is = refl
word_named XPTY0004 is = refl
word_named XPTY0019 is = refl
word_named XPTY0020 is = refl
word_named XQTY0024 is = refl
word_named XQDY0025 is = refl
word_named FOAR0001 is = refl
word_named FOAR0002 is = refl
word_named FODC0002 is = refl
word_named FORG0001 is = refl
word_named FORG0006 is = refl
word_named TooLong is = refl
word_named NestedTooDeep is = refl
word_named BadName is = refl
word_named NoTransaction is = refl
word_named InTransaction is = refl
word_named ReadOnly is = refl
word_named Updating is = refl
word_named Exists is = refl
word_named TooDeep is = refl
word_named TooManyNodes is = refl
word_named TooMuchText is = refl
word_named TooManyItems is = refl
word_named ReplyTooLong is = refl
word_named NoMemory is = refl
word_named (Failed mark) is = refl
word_named (InDoubt mark) is = refl
word_named (Pyx why line) is = absurd is
word_named (Spent kind number) is = absurd is
word_named (Damaged commit ordinal page) is = absurd is

refusal_named : (why : PyxRefusal) → named refusal_name REFUSALS (refusal_name why) ≡ Some why
refusal_named refusals.BadLine = refl
refusal_named refusals.BadName = refl
refusal_named refusals.EndMismatch = refl
refusal_named refusals.AttributeLate = refl
refusal_named refusals.AttributeTwice = refl
refusal_named refusals.TooDeep = refl
refusal_named refusals.TooManyNodes = refl
refusal_named refusals.TooMuchText = refl
refusal_named refusals.Unclosed = refl

kind_named : (kind : SpentKind) → named kind_name KINDS (kind_name kind) ≡ Some kind
kind_named kinds.Commit = refl
kind_named kinds.Generation = refl
kind_named kinds.Page = refl
kind_named kinds.Slot = refl
kind_named kinds.Log = refl

-- equal names in a table where each is found by its name
same_item : {A : Type 0} (name : A → List ℕ) (table : List A) → ((x : A) → named name table (name x) ≡ Some x) → (x y : A) → name x ≡ name y → x ≡ y
same_item name table finds x y e = let found : Some x ≡ Some y = sym (finds x) ∙ (ap (named name table) e ∙ finds y) in cc

-- a code is one word, or has numbers
data Form : Code → Type 0 where
  word : (c : Code) → IsWord c → Form c
  pyx : (why : PyxRefusal) (line : ℕ) → Form (Pyx why line)
  spent : (kind : SpentKind) (number : ℕ) → Form (Spent kind number)
  damaged : (commit ordinal page : ℕ) → Form (Damaged commit ordinal page)

form : (c : Code) → Form c
form (Pyx why line) = pyx why line
form (Spent kind number) = spent kind number
form (Damaged commit ordinal page) = damaged commit ordinal page
form c = word c tt

-- no word is the text of a code with numbers, since none begins with its letter
word_or_none : (c d : Code) → IsWord c → named code_text WORDS (code_text d) ≡ None → code_text c ≡ code_text d → ⊥
word_or_none c d is none e = let found : Some (without_mark c) ≡ None = sym (word_named c is) ∙ (ap (named code_text WORDS) e ∙ none) in cc

-- texts that begin with different letters
other_letter : (x y : ℕ) (xs ys : List ℕ) → nat_eq x y ≡ false → x ∷ xs ≡ y ∷ ys → ⊥
other_letter x y xs ys ne e = let first : x ≡ y = cc in grind (arith, first, ne)

same_pyx : (w v : PyxRefusal) (k n : ℕ) → k < 2 ^ 64 → n < 2 ^ 64 → code_text (Pyx w k) ≡ code_text (Pyx v n) → Pyx w k ≡ Pyx v n
same_pyx w v k n small few e =
    let tails = append_cancel_left (codes "Pyx ") (refusal_name w ++ 32 ∷ decimal k) (refusal_name v ++ 32 ∷ decimal n) e in
    let parts = cut_once (refusal_name w) (refusal_name v) (decimal k) (decimal n) (has_space-refusal_name w) (has_space-refusal_name v) tails in
    let why : w ≡ v = same_item refusal_name REFUSALS refusal_named w v parts.0 in
    let line : k ≡ n = decimal_injective k n small few parts.1 in
    cc

same_spent : (w v : SpentKind) (k n : ℕ) → k < 2 ^ 64 → n < 2 ^ 64 → code_text (Spent w k) ≡ code_text (Spent v n) → Spent w k ≡ Spent v n
same_spent w v k n small few e =
    let tails = append_cancel_left (codes "Spent ") (kind_name w ++ 32 ∷ decimal k) (kind_name v ++ 32 ∷ decimal n) e in
    let parts = cut_once (kind_name w) (kind_name v) (decimal k) (decimal n) (has_space-kind_name w) (has_space-kind_name v) tails in
    let kind : w ≡ v = same_item kind_name KINDS kind_named w v parts.0 in
    let number : k ≡ n = decimal_injective k n small few parts.1 in
    cc

same_damaged : (c o p c' o' p' : ℕ) → InRange (Damaged c o p) → InRange (Damaged c' o' p') → code_text (Damaged c o p) ≡ code_text (Damaged c' o' p')
    → Damaged c o p ≡ Damaged c' o' p'
same_damaged c o p c' o' p' r s e =
    let tails = append_cancel_left (codes "Damaged ") (decimal c ++ 32 ∷ (decimal o ++ 32 ∷ decimal p))
    (decimal c' ++ 32 ∷ (decimal o' ++ 32 ∷ decimal p')) e in
    let first = cut_once (decimal c) (decimal c') (decimal o ++ 32 ∷ decimal p) (decimal o' ++ 32 ∷ decimal p') (has_space-decimal c r.0)
    (has_space-decimal c' s.0) tails in
    let second = cut_once (decimal o) (decimal o') (decimal p) (decimal p') (has_space-decimal o r.1) (has_space-decimal o' s.1) first.1 in
    let commit : c ≡ c' = decimal_injective c c' r.0 s.0 first.0 in
    let ordinal : o ≡ o' = decimal_injective o o' r.1 s.1 second.0 in
    let page : p ≡ p' = decimal_injective p p' r.2 s.2 second.1 in
    cc

by_form : {a b : Code} → Form a → Form b → InRange a → InRange b → code_text a ≡ code_text b → without_mark a ≡ without_mark b
by_form (word a p) (word b q) r s e = let found : Some (without_mark a) ≡ Some (without_mark b) = sym (word_named a p)
    ∙ (ap (named code_text WORDS) e ∙ word_named b q) in cc
by_form (word a p) (pyx v n) r s e = absurd (word_or_none a (Pyx v n) p refl e)
by_form (word a p) (spent v n) r s e = absurd (word_or_none a (Spent v n) p refl e)
by_form (word a p) (damaged c o n) r s e = absurd (word_or_none a (Damaged c o n) p refl e)
by_form (pyx w k) (word b q) r s e = absurd (word_or_none b (Pyx w k) q refl (sym e))
by_form (pyx w k) (pyx v n) r s e = same_pyx w v k n r s e
by_form (pyx w k) (spent v n) r s e = absurd (other_letter 80 83 _ _ refl e)
by_form (pyx w k) (damaged c o n) r s e = absurd (other_letter 80 68 _ _ refl e)
by_form (spent w k) (word b q) r s e = absurd (word_or_none b (Spent w k) q refl (sym e))
by_form (spent w k) (pyx v n) r s e = absurd (other_letter 83 80 _ _ refl e)
by_form (spent w k) (spent v n) r s e = same_spent w v k n r s e
by_form (spent w k) (damaged c o n) r s e = absurd (other_letter 83 68 _ _ refl e)
by_form (damaged c o p) (word b q) r s e = absurd (word_or_none b (Damaged c o p) q refl (sym e))
by_form (damaged c o p) (pyx v n) r s e = absurd (other_letter 68 80 _ _ refl e)
by_form (damaged c o p) (spent v n) r s e = absurd (other_letter 68 83 _ _ refl e)
by_form (damaged c o p) (damaged c' o' p') r s e = same_damaged c o p c' o' p' r s e

-- codes with one text are the same but for a mark
pub same_code : (a b : Code) → InRange a → InRange b → code_text a ≡ code_text b → without_mark a ≡ without_mark b
same_code a b r s e = by_form (form a) (form b) r s e
