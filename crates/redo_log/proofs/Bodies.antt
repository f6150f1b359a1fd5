-- A body between its length and the next gate.
use Rattle.std.proofs.Common.{◌≡◌, ℕ, ◌+◌, ◌-◌, List, [], ◌∷◌, ◌++◌, length, take, drop, refl, sym, ap, ◌∙◌, arith, append_assoc, length-append}
use Rattle.std.proofs.lemmas.List.{take_at, drop_at}
use Rattle.redo_log.specs.Record.{number, tail_of}
use Rattle.redo_log.specs.Body.{body_in, IsTail}

-- a number has eight bytes
pub length-number : (x : ℕ) → length (number x) ≡ 8
unfolding number
length-number x = refl

-- the length before a body and the gate after it take nine bytes
pub length-tail_of : (body : List ℕ) → length (tail_of body) ≡ length body + 9
length-tail_of body = simp length-append (omega (arith, length-number (length body)))

-- the body in what was made of a body is that body
pub body_in-tail_of : (body : List ℕ) → body_in (tail_of body) ≡ body
body_in-tail_of body =
    ap (λ (l : List ℕ). take (length (tail_of body) - 9) (drop 8 l)) (append_assoc (number (length body)) body (0 ∷ []))
    ∙ (ap (take (length (tail_of body) - 9)) (drop_at (number (length body)) (body ++ 0 ∷ []) 8 (length-number (length body)))
    ∙ take_at body (0 ∷ []) (length (tail_of body) - 9) (omega (arith, length-tail_of body)))

-- what was made of an empty length and a body
pub made : (tail body : List ℕ) (long : ℕ) → long ≡ length body → tail ≡ (number long ++ drop 8 (number 0 ++ body)) ++ 0 ∷ [] → tail ≡ tail_of body
made tail body long same is =
    is ∙ (ap (λ (l : List ℕ). (number long ++ l) ++ 0 ∷ []) (drop_at (number 0) body 8 (length-number 0))
    ∙ ap (λ (n : ℕ). (number n ++ body) ++ 0 ∷ []) same)

-- what was made of a body has that body between its length and the next gate
pub is_tail : (tail body : List ℕ) → tail ≡ tail_of body → IsTail tail
is_tail tail body is = is ∙ ap tail_of (sym (ap body_in is ∙ body_in-tail_of body))

-- the body in bytes that were made of a body is that body
pub body_is : (tail body : List ℕ) → tail ≡ tail_of body → body_in tail ≡ body
body_is tail body is = ap body_in is ∙ body_in-tail_of body
