-- Counts of calls on files that failed.
use Rattle.std.specs.Prelude.{ℕ, ◌+◌, ◌-◌, ◌^◌, ◌==◌, Result, Ok, Err, if◌then◌else◌}
use Rattle.tool_files.specs.declared.counts.FileCounts.{FileCounts}
use Rattle.tool_files.specs.declared.traits.FileFault.{FileFault}
use Rattle.tool_files.specs.declared.traits.FileFault.TheVariants.{Missing, Failed, NoMemory}
use Rattle.tool_files.specs.declared.traits.WriteFailed.{WriteFailed}
use Rattle.tool_files.specs.declared.traits.SinkFailed.{SinkFailed}

-- a count after one more, where 2^64 - 1 is the last
abbrev pub raised : ℕ → ℕ
raised n = if n == 2 ^ 64 - 1 then n else n + 1

abbrev pub no_counts : FileCounts
no_counts = record { misses = 0; read_faults = 0; write_faults = 0 }

-- the counts after a read with this answer
abbrev pub counts_after_read : FileCounts → Result (Unit {0}) FileFault → FileCounts
counts_after_read c (Ok _) = c
counts_after_read c (Err Missing) = record c { misses = raised c.misses }
counts_after_read c (Err Failed) = record c { read_faults = raised c.read_faults }
counts_after_read c (Err NoMemory) = c

-- the counts after a write with this answer
abbrev pub counts_after_write : FileCounts → Result (Unit {0}) WriteFailed → FileCounts
counts_after_write c (Ok _) = c
counts_after_write c (Err _) = record c { write_faults = raised c.write_faults }

-- the count of puts that failed after a put with this answer
abbrev pub faults_after_put : ℕ → Result (Unit {0}) SinkFailed → ℕ
faults_after_put n (Ok _) = n
faults_after_put n (Err _) = raised n
