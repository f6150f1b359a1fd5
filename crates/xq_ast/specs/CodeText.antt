-- The texts of codes, as a journal prints them.
use Rattle.std.specs.Prelude.{◌≡◌, ℕ, ◌<◌, ◌^◌, List, ◌++◌, codes}
use Rattle.std.specs.Fmt.{decimal}
use Rattle.xq_ast.specs.declared.refusal.PyxRefusal.{PyxRefusal}
use Rattle.xq_ast.specs.declared.refusal.PyxRefusal.TheVariants.{BadLine, BadName as BadPyxName, EndMismatch, AttributeLate, AttributeTwice, TooDeep as PyxTooDeep, TooManyNodes as PyxTooManyNodes, TooMuchText as PyxTooMuchText, Unclosed}
use Rattle.xq_ast.specs.declared.code.Mark.{Mark}
use Rattle.xq_ast.specs.declared.code.SpentKind.{SpentKind}
use Rattle.xq_ast.specs.declared.code.SpentKind.TheVariants.{Commit, Generation, Page, Slot, Log}
use Rattle.xq_ast.specs.declared.code.Code.{Code}
use Rattle.xq_ast.specs.declared.code.Code.TheVariants.{XPST0003, XPST0008, XPST0017, XPDY0002, XPTY0004, XPTY0019, XPTY0020, XQTY0024, XQDY0025, FOAR0001, FOAR0002, FODC0002, FORG0001, FORG0006, TooLong, NestedTooDeep, BadName, NoTransaction, InTransaction, ReadOnly, Updating, Exists, TooDeep, TooManyNodes, TooMuchText, TooManyItems, ReplyTooLong, NoMemory, Failed, InDoubt, Pyx, Spent, Damaged}

-- the name of a refusal of a PYX line
abbrev pub refusal_name : PyxRefusal → List ℕ
refusal_name BadLine = codes "BadLine"
refusal_name BadPyxName = codes "BadName"
refusal_name EndMismatch = codes "EndMismatch"
refusal_name AttributeLate = codes "AttributeLate"
refusal_name AttributeTwice = codes "AttributeTwice"
refusal_name PyxTooDeep = codes "TooDeep"
refusal_name PyxTooManyNodes = codes "TooManyNodes"
refusal_name PyxTooMuchText = codes "TooMuchText"
refusal_name Unclosed = codes "Unclosed"

-- the word for what is spent
abbrev pub kind_name : SpentKind → List ℕ
kind_name Commit = codes "commit"
kind_name Generation = codes "generation"
kind_name Page = codes "page"
kind_name Slot = codes "slot"
kind_name Log = codes "log"

-- the text of a code; a mark is not in it
abbrev pub code_text : Code → List ℕ
code_text XPST0003 = codes "XPST0003"
code_text XPST0008 = codes "XPST0008"
code_text XPST0017 = codes "XPST0017"
code_text XPDY0002 = codes "XPDY0002"
code_text XPTY0004 = codes "XPTY0004"
code_text XPTY0019 = codes "XPTY0019"
code_text XPTY0020 = codes "XPTY0020"
code_text XQTY0024 = codes "XQTY0024"
code_text XQDY0025 = codes "XQDY0025"
code_text FOAR0001 = codes "FOAR0001"
code_text FOAR0002 = codes "FOAR0002"
code_text FODC0002 = codes "FODC0002"
code_text FORG0001 = codes "FORG0001"
code_text FORG0006 = codes "FORG0006"
code_text TooLong = codes "TooLong"
code_text NestedTooDeep = codes "NestedTooDeep"
code_text BadName = codes "BadName"
code_text NoTransaction = codes "NoTransaction"
code_text InTransaction = codes "InTransaction"
code_text ReadOnly = codes "ReadOnly"
code_text Updating = codes "Updating"
code_text Exists = codes "Exists"
code_text TooDeep = codes "TooDeep"
code_text TooManyNodes = codes "TooManyNodes"
code_text TooMuchText = codes "TooMuchText"
code_text TooManyItems = codes "TooManyItems"
code_text ReplyTooLong = codes "ReplyTooLong"
code_text NoMemory = codes "NoMemory"
code_text (Failed mark) = codes "Failed"
code_text (InDoubt mark) = codes "InDoubt"
code_text (Pyx why line) = codes "Pyx " ++ (refusal_name why ++ (codes " " ++ decimal line))
code_text (Spent kind number) = codes "Spent " ++ (kind_name kind ++ (codes " " ++ decimal number))
code_text (Damaged commit ordinal page) = codes "Damaged " ++ (decimal commit ++ (codes " " ++ (decimal ordinal ++ (codes " " ++ decimal page))))

-- the numbers of a code are 64 bits wide
abbrev pub InRange : Code → Type 0
InRange (Failed mark) = (mark.before < 2 ^ 64) × (mark.after < 2 ^ 64)
InRange (InDoubt mark) = (mark.before < 2 ^ 64) × (mark.after < 2 ^ 64)
InRange (Pyx why line) = line < 2 ^ 64
InRange (Spent kind number) = number < 2 ^ 64
InRange (Damaged commit ordinal page) = (commit < 2 ^ 64) × (ordinal < 2 ^ 64) × (page < 2 ^ 64)
InRange _ = Unit {0}

-- a mark that goes from 0 to 0
abbrev pub no_mark : Mark
no_mark = record { before = 0; after = 0 }

-- a mark in the code goes from 0 to 0
abbrev pub HasNoMark : Code → Type 0
HasNoMark (Failed mark) = mark ≡ no_mark
HasNoMark (InDoubt mark) = mark ≡ no_mark
HasNoMark _ = Unit {0}

-- the code, a mark in it going from 0 to 0
abbrev pub without_mark : Code → Code
without_mark (Failed mark) = Failed no_mark
without_mark (InDoubt mark) = InDoubt no_mark
without_mark code = code
