use Rattle.page_bytes.proofs.FieldLaws.{length-with_bytes, bytes_at-written, bytes_at-before, bytes_at-behind, field-written, field-bytes_at, with_field-bytes, length-big_bytes, slice_index-bytes_at}
use Rattle.page_bytes.proofs.fields.field_laws.Goals as goal

pub returns : goal.returns
returns c = record {
  read_back = field-written;
  bytes_back = bytes_at-written;
  before = bytes_at-before;
  behind = bytes_at-behind;
  kept = field-bytes_at;
  written = with_field-bytes;
  count = length-big_bytes;
  byte = slice_index-bytes_at;
  same_length = length-with_bytes;
}
