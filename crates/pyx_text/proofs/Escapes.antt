-- Escapes, at the first byte that has one.
use Rattle.std.proofs.Common.{◌≡◌, ◌≢◌, ℕ, false, List, [], ◌∷◌, ◌++◌, nat_eq, refl, ap, sym, ◌∙◌, arith}
use Rattle.xml_model.specs.Values.{escaped, escaped_byte, unescaped, behind_backslash}
use Rattle.pyx_text.specs.Replacing.{replaced, tab, line_or_tab}
use Rattle.pyx_text.specs.Cuts.{Lacks, IsCut}
use Rattle.pyx_text.proofs.Replaced.{lacks_first, lacks_rest, replaced-cut, replaced-itself, replaced-lacking}

-- a test of two numbers that differ
pub nat_eq-differ : (a b : ℕ) → a ≢ b → nat_eq a b ≡ false
nat_eq-differ a b ne = grind (arith, ne)

-- a backslash before no letter of an escape stands for itself
pub stands_for_itself : (bs : List ℕ) → ((rest : List ℕ) → bs ≢ 110 ∷ rest) → ((rest : List ℕ) → bs ≢ 116 ∷ rest) → ((rest : List ℕ) → bs ≢ 92 ∷ rest)
    → behind_backslash bs ≡ 92 ∷ unescaped bs
stands_for_itself [] n t s = refl
stands_for_itself (b ∷ bs) n t s =
    let not_n : nat_eq b 110 ≡ false = nat_eq-differ b 110 (λ e. n bs (ap (λ x. x ∷ bs) e)) in
    let not_t : nat_eq b 116 ≡ false = nat_eq-differ b 116 (λ e. t bs (ap (λ x. x ∷ bs) e)) in
    let not_s : nat_eq b 92 ≡ false = nat_eq-differ b 92 (λ e. s bs (ap (λ x. x ∷ bs) e)) in
    rw (not_n, not_t, not_s) refl

-- what has no backslash is as it is spelled
pub unescaped-lacking : (xs ys : List ℕ) → Lacks 92 xs → unescaped (xs ++ ys) ≡ xs ++ unescaped ys
unescaped-lacking [] ys lacks = refl
unescaped-lacking (x ∷ xs) ys lacks =
    let plain : nat_eq x 92 ≡ false = nat_eq-differ x 92 (lacks_first 92 x xs lacks) in
    rw plain (ap (λ r. x ∷ r) (unescaped-lacking xs ys (lacks_rest 92 x xs lacks)))

-- what stands before the first backslash is as it is spelled, and then comes what the backslash and what is after it spell
pub unescaped-cut : (bytes before behind : List ℕ) → IsCut 92 bytes before behind → unescaped bytes ≡ before ++ behind_backslash behind
unescaped-cut bytes before behind cut = ap unescaped cut.whole ∙ unescaped-lacking before (92 ∷ behind) cut.first

-- escaping replaces each byte by its own spelling
pub escaped-replaced : (bs : List ℕ) → escaped bs ≡ replaced escaped_byte bs
escaped-replaced [] = refl
escaped-replaced (b ∷ bs) = ap (λ r. escaped_byte b ++ r) (escaped-replaced bs)

-- the three replacings differ at one byte each
pub tab-other : (b : ℕ) → b ≢ 9 → tab b ≡ b ∷ []
tab-other b ne = rw (nat_eq-differ b 9 ne) refl

-- a byte that is no newline is replaced as by the tabs' replacing
pub line-other : (b : ℕ) → b ≢ 10 → line_or_tab b ≡ tab b
line-other b ne = rw (nat_eq-differ b 10 ne) refl

-- a byte that is no backslash is replaced as by the newlines' and tabs' replacing
pub escaped-other : (b : ℕ) → b ≢ 92 → escaped_byte b ≡ line_or_tab b
escaped-other b ne = rw (nat_eq-differ b 92 ne) refl

-- tabs are replaced at the first tab: what stands before it stays, and the rest is replaced in its turn
pub tabs-cut : (bytes before behind : List ℕ) → IsCut 9 bytes before behind → replaced tab bytes ≡ before ++ (92 ∷ 116 ∷ replaced tab behind)
tabs-cut bytes before behind cut =
    replaced-cut tab (λ b. b ∷ []) 9 tab-other bytes before behind cut ∙ ap (λ r. r ++ (92 ∷ 116 ∷ replaced tab behind)) (replaced-itself before)

-- bytes without a tab stay when tabs are replaced
pub tabs-lacking : (bytes : List ℕ) → Lacks 9 bytes → replaced tab bytes ≡ bytes
tabs-lacking bytes lacks = replaced-lacking tab (λ b. b ∷ []) 9 tab-other bytes lacks ∙ replaced-itself bytes

-- newlines and tabs are replaced at the first newline: only tabs before it, and the rest in its turn
pub lines-cut : (bytes before behind : List ℕ) → IsCut 10 bytes before behind
    → replaced line_or_tab bytes ≡ replaced tab before ++ (92 ∷ 110 ∷ replaced line_or_tab behind)
lines-cut bytes before behind cut = replaced-cut line_or_tab tab 10 line-other bytes before behind cut

-- of bytes without a newline only the tabs are replaced
pub lines-lacking : (bytes : List ℕ) → Lacks 10 bytes → replaced line_or_tab bytes ≡ replaced tab bytes
lines-lacking bytes lacks = replaced-lacking line_or_tab tab 10 line-other bytes lacks

-- bytes are escaped at the first backslash: only newlines and tabs before it, and the rest in its turn
pub escaped-cut : (bytes before behind : List ℕ) → IsCut 92 bytes before behind → escaped bytes ≡ replaced line_or_tab before ++ (92 ∷ 92 ∷ escaped behind)
escaped-cut bytes before behind cut =
    escaped-replaced bytes ∙ (replaced-cut escaped_byte line_or_tab 92 escaped-other bytes before behind cut
    ∙ ap (λ r. replaced line_or_tab before ++ (92 ∷ 92 ∷ r)) (sym (escaped-replaced behind)))

-- of bytes without a backslash only the newlines and tabs are escaped
pub escaped-lacking : (bytes : List ℕ) → Lacks 92 bytes → escaped bytes ≡ replaced line_or_tab bytes
escaped-lacking bytes lacks = escaped-replaced bytes ∙ replaced-lacking escaped_byte line_or_tab 92 escaped-other bytes lacks

-- bytes without a backslash are as they are spelled
pub unescaped-plain : (bytes : List ℕ) → Lacks 92 bytes → unescaped bytes ≡ bytes
unescaped-plain [] lacks = refl
unescaped-plain (x ∷ xs) lacks =
    let plain : nat_eq x 92 ≡ false = nat_eq-differ x 92 (lacks_first 92 x xs lacks) in
    rw plain (ap (λ r. x ∷ r) (unescaped-plain xs (lacks_rest 92 x xs lacks)))
