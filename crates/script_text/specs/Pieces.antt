-- The parts that a line of a journal is put together of.
use Rattle.std.specs.Prelude.{ℕ, List, [], ◌∷◌, ◌++◌, codes}
use Rattle.std.specs.Fmt.{decimal}
use Rattle.script_text.specs.declared.journals.pieces.Piece.{Piece}
use Rattle.script_text.specs.declared.journals.pieces.Piece.TheVariants.{Words, Number, Doubled}
use Rattle.xq_ast.specs.declared.need.Need.{Need}
use Rattle.script_text.specs.JournalText.{doubled, need_text}

-- a part as it is written: words as they stand, a number in decimal digits, and words with each quote twice
abbrev pub piece_text : Piece → List ℕ
piece_text (Words words) = words.now
piece_text (Number n) = decimal n
piece_text (Doubled words) = doubled words.now

-- the parts one after another
abbrev pub pieces_text : List Piece → List ℕ
pieces_text [] = []
pieces_text (p ∷ ps) = piece_text p ++ pieces_text ps

-- needs that stand after a first one
abbrev pub others_text : List Need → List ℕ
others_text [] = []
others_text (n ∷ ns) = (codes ", " ++ need_text n) ++ others_text ns
