-- What the ends in memory are told to do, and how far they have come.
use Rattle.std.specs.Prelude.{ℕ, List, max}
use Rattle.outside.specs.declared.memory.MemSource.{MemSource}
use Rattle.outside.specs.declared.memory.MemSink.{MemSink}

-- the bytes that a source has left
abbrev pub unread : MemSource → List ℕ
unread s = s.left

-- how often a source has failed
abbrev pub read_faults : MemSource → ℕ
read_faults s = s.faults

-- how many reads there have been, which is the number of the next one
abbrev pub reads_done : MemSource → ℕ
reads_done s = s.reads

-- the numbers of the reads that are to fail
abbrev pub failing_reads : MemSource → List ℕ
failing_reads s = s.failing

-- how many bytes a read gives at most
abbrev pub most_given : MemSource → ℕ
most_given s = max s.most 1

-- the bytes that a sink holds
abbrev pub held_bytes : MemSink → List ℕ
held_bytes s = s.held

-- how often a sink has failed
abbrev pub write_faults : MemSink → ℕ
write_faults s = s.faults

-- how many writes there have been, which is the number of the next one
abbrev pub writes_done : MemSink → ℕ
writes_done s = s.writes

-- the numbers of the writes that are to fail
abbrev pub failing_writes : MemSink → List ℕ
failing_writes s = s.failing

-- how many bytes a write takes at most
abbrev pub most_taken : MemSink → ℕ
most_taken s = max s.most 1
