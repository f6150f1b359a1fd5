-- What the parts of a command say, as what the whole says.
use Rattle.std.proofs.Common.{◌≡◌, ℕ, List, Option, None, Some, Result, Ok, Err, refl}
use Rattle.std.specs.Io.KnownBytes.{append_known}
use Rattle.byte_edge.specs.Took.{AppendedPrefix}
use Rattle.xdb_top.specs.declared.fault.InputFault.{InputFault}
use Rattle.xdb_top.specs.declared.fault.TopFault.{TopFault}
use Rattle.xdb_top.specs.declared.fault.TopFault.TheVariants.{BadWords, BadInput, TooLarge, ReadFault, WriteFault, NoMemory}
use Rattle.xdb_top.specs.Parts.{Reads, IsRead}
use Rattle.xdb_top.specs.Tool.{Answers, IsAnswered, IsWhole}

module _ {X : Type 0} (spells : List ℕ → Result X InputFault) (IsText : X → List ℕ → Type 0) (Lacks : List ℕ → Option (List ℕ) → Type 0) where
  answers_reading : (input : List ℕ) (rest written : Option (List ℕ)) (fault : TopFault) → ((input : List ℕ) → Lacks input rest)
      → Reads spells input rest (Err fault) → Answers spells IsText Lacks input rest written written (Some fault)
  answers_reading input rest written BadWords lacks reads = elim reads [ ]
  answers_reading input rest written (BadInput line why) lacks reads = (reads.0, reads.1, refl)
  answers_reading input rest written TooLarge lacks reads = (reads, refl)
  answers_reading input rest written ReadFault lacks reads = (reads, refl)
  answers_reading input rest written WriteFault lacks reads = elim reads [ ]
  answers_reading input rest written NoMemory lacks reads = (refl, lacks input)

  -- where reading answers a fault, nothing is written
  pub answered_reading : (before after written : Option (List ℕ)) (fault : TopFault) → ((input : List ℕ) → Lacks input after)
      → IsRead spells before after (Err fault) → IsAnswered spells IsText Lacks before after written written (Some fault)
  answered_reading before after written fault lacks read =
      record { input = read.input; taken = read.taken; at_most = read.at_most; answer = answers_reading read.input after written fault lacks read.reads }

  -- where what was read was written whole
  pub answered_done : (before after written new : Option (List ℕ)) (what : X) (text : List ℕ)
      → IsRead spells before after (Ok what) → IsText what text → new ≡ append_known written text → IsAnswered spells IsText Lacks before after written new None
  answered_done before after written new what text read is appended = record {
    input = read.input;
    taken = read.taken;
    at_most = read.at_most;
    answer = (read.reads.0, record { what = what; is = read.reads.1; text = text; text_is = is; appended = appended });
  }

  -- where what was read was written in part, since the sink failed
  pub answered_partly : (before after written new : Option (List ℕ)) (what : X) (text : List ℕ)
      → IsRead spells before after (Ok what) → IsText what text → AppendedPrefix text written new
      → IsAnswered spells IsText Lacks before after written new (Some WriteFault)
  answered_partly before after written new what text read is prefix = record {
    input = read.input;
    taken = read.taken;
    at_most = read.at_most;
    answer = (read.reads.0, record { what = what; is = read.reads.1; text = text; text_is = is; prefix = prefix });
  }

  -- where memory ran out after the reading
  pub answered_lacking : (before after written : Option (List ℕ)) (what : X)
      → IsRead spells before after (Ok what) → ((input : List ℕ) → IsWhole input after → spells input ≡ Ok what → Lacks input after)
      → IsAnswered spells IsText Lacks before after written written (Some NoMemory)
  answered_lacking before after written what read lacks =
      record { input = read.input; taken = read.taken; at_most = read.at_most; answer = (refl, lacks read.input read.reads.0 read.reads.1) }

-- what a command answers: a fault of reading, all written, a part of it written, or want of memory
pub ruleset answer_laws = (answered_reading, answered_done, answered_partly, answered_lacking)
