-- The room that lines leave.
use Rattle.std.specs.Prelude.{ℕ, ◌-◌, List, [], ◌∷◌, ◌++◌, length, nat_le, if◌then◌else◌, Option, Some, None, Result, Ok, Err}
use Rattle.xq_ast.specs.declared.code.Code.{Code}
use Rattle.xq_ast.specs.declared.code.Code.TheVariants.{ReplyTooLong}
use Rattle.xml_model.specs.declared.limits.TheConstants.{REPLY_BYTES_MAX}
use Rattle.xml_model.specs.Items.{◌>>?◌}
use Rattle.xml_model.specs.Pyx.{Line, text_of}
use Rattle.xq_functions.specs.declared.reply.Reply.{Reply}

-- the room behind so many bytes, where they fit
abbrev pub room_behind : ℕ → ℕ → Option ℕ
room_behind room bytes = if nat_le bytes room then Some (room - bytes) else None

-- the reply with more lines, where these and their newlines fit
abbrev pub with_lines : Reply → List Line → Result Reply Code
with_lines reply more =
    if nat_le (length (text_of more)) reply.room
    then Ok (record { lines = reply.lines ++ more; room = reply.room - length (text_of more) })
    else Err ReplyTooLong

-- the reply with all these, one after another
abbrev pub replied : Reply → List (List Line) → Result Reply Code
replied reply [] = Ok reply
replied reply (more ∷ rest) = with_lines reply more >>? (λ next. replied next rest)

-- a reply without lines
abbrev pub no_lines : Reply
no_lines = record { lines = []; room = REPLY_BYTES_MAX }
