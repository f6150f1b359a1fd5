-- The numbers of an order.
use Rattle.std.proofs.Common.{◌≡◌, ◌≢◌, ℕ, zero, suc, ◌<◌, ◌≤◌, ◌^◌, ◌||◌, Bool, true, false, if◌then◌else◌, List, [], ◌∷◌, ◌++◌, Option, None, Some, Result, Ok, Err, nat_eq, refl, ap, sym, ◌∙◌, arith, append_assoc}
use Rattle.std.specs.Fmt.{decimal}
use Rattle.std.specs.Str.{bytes_eq}
use Rattle.std.proofs.lemmas.Fmt.{decimal_injective}
use Rattle.std.proofs.lemmas.Slice.Eq.{bytes_eq-Decides}
use Rattle.xq_ast.specs.CodeWords.{IsCut, has_space}
use Rattle.xml_model.specs.Pyx.{in_front}
use Rattle.script_text.specs.Scripts.{number_named, numbers, both, split_words}
use Rattle.script_text.specs.declared.scripts.fault.Stop.{Stop}
use Rattle.script_text.specs.declared.scripts.fault.Stop.TheVariants as stops
use Rattle.script_text.specs.ScriptEnds.{with_more, Lists}

-- neither holds where not one of two holds
pub neither : (a b : Bool) → (a || b) ≡ false → (a ≡ false) × (b ≡ false)
neither false b e = (refl, e)
neither true b e = cc

cut_words : (before behind : List ℕ) → has_space before ≡ false → split_words (before ++ 32 ∷ behind) ≡ before ∷ split_words behind
cut_words [] behind none = refl
cut_words (b ∷ bs) behind none = let parts = neither (nat_eq b 32) (has_space bs) none in rw parts.0 (ap (in_front b) (cut_words bs behind parts.1))

-- a word before the first space
pub split_words-cut : (text before behind : List ℕ) → IsCut text before behind → split_words text ≡ before ∷ split_words behind
split_words-cut text before behind cut = ap split_words cut.whole ∙ cut_words before behind cut.first

-- a last word
pub split_words-one : (text : List ℕ) → has_space text ≡ false → split_words text ≡ text ∷ []
split_words-one [] none = refl
split_words-one (b ∷ bs) none = let parts = neither (nat_eq b 32) (has_space bs) none in rw parts.0 (ap (in_front b) (split_words-one bs parts.1))

-- what is not true is false
pub not_true : (t : Bool) → (t ≡ true → ⊥) → t ≡ false
not_true true no_way = absurd (no_way refl)
not_true false no_way = refl

other_bytes : (xs ys : List ℕ) → xs ≢ ys → bytes_eq xs ys ≡ false
other_bytes xs ys ne = not_true (bytes_eq xs ys) (λ e. ne ((bytes_eq-Decides xs ys).0 e))

below_it : (m n : ℕ) → n ≤ suc m → (n ≡ suc m → ⊥) → n ≤ m
below_it m n within other = omega arith

-- a number that is written so is found
pub named_found : (most n : ℕ) (word : List ℕ) → most < 2 ^ 64 → decimal n ≡ word → 0 < n → n ≤ most → number_named most word ≡ Some n
named_found zero n word small e some within = absurd (omega arith)
named_found (suc m) n word small e some within =
    by_test (bytes_eq (decimal (suc m)) word) refl (λ less. let few : m < 2 ^ 64 = omega arith in named_found m n word few e some less)
  where
    by_test : (t : Bool) → bytes_eq (decimal (suc m)) word ≡ t → (n ≤ m → number_named m word ≡ Some n)
        → (if t then Some (suc m) else number_named m word) ≡ Some n
    by_test true test below = let few : n < 2 ^ 64 = omega arith in
        ap Some (decimal_injective (suc m) n small few ((bytes_eq-Decides (decimal (suc m)) word).0 test ∙ sym e))
    by_test false test below =
        let other : n ≡ suc m → ⊥ = λ same. let found = (bytes_eq-Decides (decimal (suc m)) word).1 (ap decimal (sym same) ∙ e) in let clash : true ≡ false =
        sym found ∙ test in cc in
        below (below_it m n within other)

-- what no number up to the last is written as is not found
named_none : (most : ℕ) (word : List ℕ) → ((n : ℕ) → 0 < n → n ≤ most → decimal n ≢ word) → number_named most word ≡ None
named_none zero word none = refl
named_none (suc m) word none =
    rw (other_bytes (decimal (suc m)) word (none (suc m) (omega arith) (omega arith)))
    (named_none m word (λ n some within. let less : n ≤ suc m = omega arith in none n some less))

-- a word that no number is written as names none
pub no_number_named : (most : ℕ) (word : List ℕ) → most < 2 ^ 64 → ((n : ℕ) → n < 2 ^ 64 → decimal n ≢ word) → number_named most word ≡ None
no_number_named most word small none = named_none most word (λ n some within. let few : n < 2 ^ 64 = omega arith in none n few)

-- a word that is written as 0 names none
pub zero_named : (most n : ℕ) (word : List ℕ) → most < 2 ^ 64 → decimal n ≡ word → n ≡ 0 → number_named most word ≡ None
zero_named most n word small e is =
    named_none most word (λ m some within written.
    let same : m ≡ n = decimal_injective m n (omega arith) (omega arith) (written ∙ sym e) in absurd (omega arith))

-- a word that is written as a number past the last names none
pub past_named : (most n : ℕ) (word : List ℕ) → most < 2 ^ 64 → n < 2 ^ 64 → decimal n ≡ word → most < n → number_named most word ≡ None
past_named most n word small few e past =
    named_none most word (λ m some within written.
    let same : m ≡ n = decimal_injective m n (omega arith) few (written ∙ sym e) in absurd (omega arith))

-- a word names the number that it is written as, and none where it is no number, 0 or past the last
pub ruleset number_laws = (named_found, no_number_named, zero_named, past_named)

both-next : (a b : List ℕ) (o : Option ℕ) (ns : Option (List ℕ)) → with_more a (both o (Some [])) ≡ Some b → with_more a (both o ns) ≡ with_more b ns
both-next a b None ns e = cc
both-next a b (Some n) None e = refl
both-next a b (Some n) (Some ns) e = let one : a ++ n ∷ [] ≡ b = cc in ap Some (sym (append_assoc a (n ∷ []) ns) ∙ ap (λ l. l ++ ns) one)

-- one number, and then the others
pub with_more-next : (a b : List ℕ) (most : ℕ) (word : List ℕ) (words : List (List ℕ)) → with_more a (numbers most (word ∷ [])) ≡ Some b
    → with_more a (numbers most (word ∷ words)) ≡ with_more b (numbers most words)
with_more-next a b most word words e = both-next a b (number_named most word) (numbers most words) e

both-none : (o : Option ℕ) (ns : Option (List ℕ)) → both o (Some []) ≡ None → both o ns ≡ None
both-none None ns e = refl
both-none (Some n) ns e = cc

-- no number
pub numbers-none : (most : ℕ) (word : List ℕ) (words : List (List ℕ)) → numbers most (word ∷ []) ≡ None → numbers most (word ∷ words) ≡ None
numbers-none most word words e = both-none (number_named most word) (numbers most words) e

-- where a number is missing, so it is in the whole
pub with_more-none : (a b : List ℕ) (given whole : Option (List ℕ)) → given ≡ None → with_more a given ≡ with_more b whole → whole ≡ None
with_more-none a b given None none e = refl
with_more-none a b given (Some ns) none e = let found : with_more a None ≡ Some (b ++ ns) = ap (with_more a) (sym none) ∙ e in cc

-- what is said of the words that are left is said of all
pub lists_as : {T : Type 0} (r : Result T Stop) (a orig new : List ℕ) (given whole : Option (List ℕ)) → with_more a given ≡ with_more orig whole
    → Lists r a new given → Lists r orig new whole
lists_as (Ok x) a orig new given whole e l = sym e ∙ l
lists_as (Err (stops.Refused why)) a orig new given whole e l = (with_more-none a orig given whole l.0 e, l.1)
lists_as (Err stops.NoMemory) a orig new given whole e l = tt

-- a first word that is no number
pub lists_stop : (T : Type 0) (stop : Stop) (a new : List ℕ) (most : ℕ) (word : List ℕ) (words : List (List ℕ))
    → Lists {T = T} (Err stop) a new (numbers most (word ∷ [])) → Lists {T = T} (Err stop) a new (numbers most (word ∷ words))
lists_stop T (stops.Refused why) a new most word words l = (numbers-none most word words l.0, l.1)
lists_stop T stops.NoMemory a new most word words l = tt
