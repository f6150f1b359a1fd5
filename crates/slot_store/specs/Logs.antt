-- The two logs: the head of one counts, and a checkpoint writes that of the other.
use Rattle.page_device.specs.declared.device.Which.{Which}
use Rattle.page_device.specs.declared.device.Which.TheVariants as file
use Rattle.slot_store.specs.declared.state.Log.{Log}
use Rattle.slot_store.specs.declared.state.Log.TheVariants.{A, B}

-- the file of a log
abbrev pub file_of : Log → Which
file_of A = file.LogA
file_of B = file.LogB

-- the other log
abbrev pub other_log : Log → Log
other_log A = B
other_log B = A

-- the file of the other log
abbrev pub other_file : Log → Which
other_file log = file_of (other_log log)
