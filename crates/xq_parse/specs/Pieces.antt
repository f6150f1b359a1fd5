-- The parser's own types, as the definitions of tokens see them.
use Rattle.std.specs.Prelude.{ℕ, List, [], ◌∷◌, length, Option, None, Some, pos}
use Rattle.xq_ast.specs.Tokens as spec
use Rattle.xq_ast.specs.Tokens.{◌>>=◌}
use Rattle.xq_ast.specs.declared.token.Token.TheVariants as token
use Rattle.xq_parse.specs.declared.comment.CommentTurn.{CommentTurn}
use Rattle.xq_parse.specs.declared.piece.Piece.{Piece}
use Rattle.xq_parse.specs.declared.string.StringPart.{StringPart}
use Rattle.xq_parse.specs.declared.string.StringPart.TheVariants.{Holds, Ends, Fault}

-- a piece with the bytes behind it
abbrev pub piece_of : Piece → spec.Piece × List ℕ
piece_of p = (p.token, p.rest.now)

-- how a string goes on
abbrev pub part_of : StringPart → spec.StringPart
part_of (Holds byte rest) = spec.StringPart.holds (byte ∷ []) rest.now
part_of (Ends rest) = spec.StringPart.ends rest.now
part_of Fault = spec.StringPart.fault

-- the token of an integer
abbrev pub integer_token : List ℕ → Option (spec.Piece × List ℕ)
integer_token bytes = spec.integer bytes >>= spec.a_token (λ n. token.Int (pos n))

-- the token of a string, behind its opening quote
abbrev pub string_token : ℕ → List ℕ → Option (spec.Piece × List ℕ)
string_token quote bytes = spec.string (length bytes) quote bytes >>= spec.a_token token.Text

-- a comment that goes on, or not, behind a turn
abbrev pub turned : Option CommentTurn → (ℕ → List ℕ → Option (List ℕ)) → Option (List ℕ)
turned None more = None
turned (Some t) more = more t.opened t.rest.now
