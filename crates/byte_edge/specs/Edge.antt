-- What the adapters over std hold.
use Rattle.std.specs.Prelude.{ℕ}
use Rattle.byte_edge.specs.declared.std_edge.StdSource.{StdSource}
use Rattle.byte_edge.specs.declared.std_edge.StdSink.{StdSink}

-- the reader of a source
abbrev pub reader_of : {R : Type 0} → StdSource R → R
reader_of s = s.reader

-- how often a source has failed
abbrev pub source_faults : {R : Type 0} → StdSource R → ℕ
source_faults s = s.failed

-- the writer of a sink
abbrev pub writer_of : {W : Type 0} → StdSink W → W
writer_of s = s.writer

-- how often a sink has failed
abbrev pub sink_faults : {W : Type 0} → StdSink W → ℕ
sink_faults s = s.failed
