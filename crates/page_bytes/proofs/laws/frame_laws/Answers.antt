use Rattle.page_bytes.proofs.Frames.{page_stays, text_stays, schema_stays}
use Rattle.page_bytes.proofs.laws.frame_laws.Goals as goal

pub returns : goal.returns
returns c = record { page = page_stays; text = text_stays; schema_entry = schema_stays }
