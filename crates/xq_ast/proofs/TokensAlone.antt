-- The tokens of a text without the lengths of their spellings.
use Rattle.std.specs.Prelude.{◌≡◌, ℕ, zero, suc, ◌-◌, List, [], ◌∷◌, length, map, Option, None, Some, option_map, refl}
use Rattle.std.proofs.Common.{ap, ◌∙◌}
use Rattle.xq_ast.specs.declared.token.Token.{Token}
use Rattle.xq_ast.specs.Tokens.{◌>>=◌, Piece, Spelled, piece, with_piece, pieces, tokens}

abbrev token_of : Spelled → Token
token_of s = s.token

abbrev with_token : Piece → List Token → List Token
with_token None more = more
with_token (Some t) more = t ∷ more

-- the reading of tokens alone
abbrev pub bare : ℕ → List ℕ → Option (List Token)
bare n [] = Some []
bare zero (b ∷ bytes) = None
bare (suc n) (b ∷ bytes) = piece (b ∷ bytes) >>= (λ r. bare n r.1 >>= (λ more. Some (with_token r.0 more)))

token_first : (p : Piece) (k : ℕ) (more : List Spelled) → with_token p (map token_of more) ≡ map token_of (with_piece p k more)
token_first None k more = refl
token_first (Some t) k more = refl

rest_same : (p : Piece) (k : ℕ) (o : Option (List Spelled))
    → (option_map (map token_of) o >>= (λ more. let x : Option (List Token) = Some (with_token p more) in x))
    ≡ option_map (map token_of) (o >>= (λ more. let x : Option (List Spelled) = Some (with_piece p k more) in x))
rest_same p k None = refl
rest_same p k (Some more) = ap Some (token_first p k more)

turn_same : (n b : ℕ) (bytes : List ℕ) (o : Option (Piece × List ℕ)) → ((rest : List ℕ) → bare n rest ≡ option_map (map token_of) (pieces n rest))
    → (o >>= (λ r. bare n r.1 >>= (λ more. let x : Option (List Token) = Some (with_token r.0 more) in x)))
    ≡ option_map (map token_of)
    (o >>= (λ r. pieces n r.1 >>= (λ more. let x : Option (List Spelled) = Some (with_piece r.0 (length (b ∷ bytes) - length r.1) more) in x)))
turn_same n b bytes None same = refl
turn_same n b bytes (Some r) same =
    ap (λ o. o >>= (λ more. let x : Option (List Token) = Some (with_token r.0 more) in x)) (same r.1)
    ∙ rest_same r.0 (length (b ∷ bytes) - length r.1) (pieces n r.1)

-- the lengths change nothing of the tokens
pub bare_pieces : (n : ℕ) (bytes : List ℕ) → bare n bytes ≡ option_map (map token_of) (pieces n bytes)
bare_pieces n [] = refl
bare_pieces zero (b ∷ bytes) = refl
bare_pieces (suc n) (b ∷ bytes) = turn_same n b bytes (piece (b ∷ bytes)) (bare_pieces n)

-- the reading of tokens alone gives the tokens of a text
pub bare_tokens : (bytes : List ℕ) → bare (length bytes) bytes ≡ tokens bytes
bare_tokens bytes = bare_pieces (length bytes) bytes
