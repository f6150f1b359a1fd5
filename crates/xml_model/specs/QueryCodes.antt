-- The codes with which the evaluation of a query may end: those that the standard gives it, and the limits of values and of
-- constructed trees.
use Rattle.std.specs.Prelude.{Bool, true, false}
use Rattle.xq_ast.specs.declared.code.Code.{Code}
use Rattle.xq_ast.specs.declared.code.Code.TheVariants.{XPST0003, XPST0008, XPST0017, XPDY0002, XPTY0004, XPTY0019, XPTY0020, XQTY0024, XQDY0025, FOAR0001, FOAR0002, FODC0002, FORG0001, FORG0006, TooLong, NestedTooDeep, BadName, NoTransaction, InTransaction, ReadOnly, Updating, Exists, TooDeep, TooManyNodes, TooMuchText, TooManyItems, ReplyTooLong, NoMemory, Failed, InDoubt, Pyx, Spent, Damaged}

-- evaluation may end with the code; each row says its own, so that a new code cannot pass unseen
abbrev pub is_query_code : Code → Bool
is_query_code XPST0003 = false
is_query_code XPST0008 = false
is_query_code XPST0017 = false
is_query_code XPDY0002 = true
is_query_code XPTY0004 = true
is_query_code XPTY0019 = true
is_query_code XPTY0020 = true
is_query_code XQTY0024 = true
is_query_code XQDY0025 = true
is_query_code FOAR0001 = true
is_query_code FOAR0002 = true
is_query_code FODC0002 = true
is_query_code FORG0001 = true
is_query_code FORG0006 = true
is_query_code TooLong = false
is_query_code NestedTooDeep = false
is_query_code BadName = false
is_query_code NoTransaction = false
is_query_code InTransaction = false
is_query_code ReadOnly = false
is_query_code Updating = false
is_query_code Exists = false
is_query_code TooDeep = true
is_query_code TooManyNodes = true
is_query_code TooMuchText = true
is_query_code TooManyItems = true
is_query_code ReplyTooLong = false
is_query_code NoMemory = false
is_query_code (Failed mark) = false
is_query_code (InDoubt mark) = false
is_query_code (Pyx why line) = false
is_query_code (Spent kind number) = false
is_query_code (Damaged commit ordinal page) = false
