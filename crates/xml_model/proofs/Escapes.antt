-- What is escaped is spelled by its escapes.
use Rattle.std.proofs.Common.{◌≡◌, ℕ, Bool, true, false, List, [], ◌∷◌, ◌++◌, ◌==◌, refl, ap, sym, ◌∙◌}
use Rattle.std.proofs.lemmas.Bool.{eqb-true}
use Rattle.xml_model.specs.Values.{escaped, escaped_byte, unescaped}

-- an escaped byte, be it a newline, a tab, a backslash or any other, spells that byte
byte_again : (b : ℕ) (bs : List ℕ) (newline tab backslash : Bool) → (b == 10) ≡ newline → (b == 9) ≡ tab → (b == 92) ≡ backslash
    → unescaped (escaped_byte b ++ bs) ≡ b ∷ unescaped bs
byte_again b bs true tab backslash e f g = rw e (ap (λ x. x ∷ unescaped bs) (sym (eqb-true b 10 e)))
byte_again b bs false true backslash e f g = rw (e, f) (ap (λ x. x ∷ unescaped bs) (sym (eqb-true b 9 f)))
byte_again b bs false false true e f g = rw (e, f, g) (ap (λ x. x ∷ unescaped bs) (sym (eqb-true b 92 g)))
byte_again b bs false false false e f g = rw (e, f, g, g) refl

-- the value of an escaped value is that value
pub escaped_again : (value : List ℕ) → unescaped (escaped value) ≡ value
escaped_again [] = refl
escaped_again (b ∷ bs) = byte_again b (escaped bs) (b == 10) (b == 9) (b == 92) refl refl refl ∙ ap (λ r. b ∷ r) (escaped_again bs)
