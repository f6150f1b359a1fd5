-- Replacing goes item by item.
use Rattle.std.proofs.Common.{◌≡◌, ◌≢◌, ℕ, suc, ◌<◌, List, [], ◌∷◌, ◌++◌, length, refl, ap, sym, ◌∙◌, append_assoc, arith}
use Rattle.pyx_text.specs.Replacing.{replaced}
use Rattle.pyx_text.specs.Cuts.{Lacks, IsCut}

-- the first of a list that lacks c is not c
pub lacks_first : (c b : ℕ) (bs : List ℕ) → Lacks c (b ∷ bs) → b ≢ c
lacks_first c b bs lacks = lacks 0 (omega arith)

-- and the rest lacks it
pub lacks_rest : (c b : ℕ) (bs : List ℕ) → Lacks c (b ∷ bs) → Lacks c bs
lacks_rest c b bs lacks i h = let less : suc i < length (b ∷ bs) = omega arith in lacks (suc i) less

-- two lists in a row are replaced one by one
pub replaced-append : (f : ℕ → List ℕ) (xs ys : List ℕ) → replaced f (xs ++ ys) ≡ replaced f xs ++ replaced f ys
replaced-append f [] ys = refl
replaced-append f (x ∷ xs) ys = ap (λ r. f x ++ r) (replaced-append f xs ys) ∙ sym (append_assoc (f x) (replaced f xs) (replaced f ys))

-- two replacings that differ at c alone do the same to a list that lacks c
pub replaced-lacking : (f g : ℕ → List ℕ) (c : ℕ) → ((b : ℕ) → b ≢ c → f b ≡ g b) → (xs : List ℕ) → Lacks c xs → replaced f xs ≡ replaced g xs
replaced-lacking f g c same [] lacks = refl
replaced-lacking f g c same (x ∷ xs) lacks =
    ap (λ r. r ++ replaced f xs) (same x (lacks_first c x xs lacks)) ∙ ap (λ r. g x ++ r) (replaced-lacking f g c same xs (lacks_rest c x xs lacks))

-- replacing each item by itself
pub replaced-itself : (xs : List ℕ) → replaced (λ b. b ∷ []) xs ≡ xs
replaced-itself [] = refl
replaced-itself (x ∷ xs) = ap (λ r. x ∷ r) (replaced-itself xs)

-- what a cut list is replaced by: what stands before c by g, then c, then what stands after it
pub replaced-cut : (f g : ℕ → List ℕ) (c : ℕ) → ((b : ℕ) → b ≢ c → f b ≡ g b) → (bytes before behind : List ℕ) → IsCut c bytes before behind
    → replaced f bytes ≡ replaced g before ++ (f c ++ replaced f behind)
replaced-cut f g c same bytes before behind cut =
    ap (replaced f) cut.whole ∙ (replaced-append f before (c ∷ behind) ∙ ap (λ r. r ++ replaced f (c ∷ behind)) (replaced-lacking f g c same before cut.first))

-- one turn of a loop that writes what stands before a mark, then the mark's own text, with the rest still to come
pub turn : (line first second whole before mark rest all : List ℕ) → first ≡ line ++ before → second ≡ first ++ mark → whole ≡ before ++ (mark ++ rest)
    → line ++ whole ≡ all
    → second ++ rest ≡ all
turn line first second whole before mark rest all wrote marked cut so_far =
    ap (λ s. s ++ rest) (marked ∙ ap (λ s. s ++ mark) wrote)
    ∙ (append_assoc (line ++ before) mark rest ∙ (append_assoc line before (mark ++ rest) ∙ (ap (λ w. line ++ w) (sym cut) ∙ so_far)))

-- the last turn
pub last_turn : (line new whole rest all : List ℕ) → new ≡ line ++ rest → whole ≡ rest → line ++ whole ≡ all → new ≡ all
last_turn line new whole rest all wrote plain so_far = wrote ∙ (ap (λ w. line ++ w) (sym plain) ∙ so_far)
