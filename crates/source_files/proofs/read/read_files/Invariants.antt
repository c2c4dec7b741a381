use Rattle.std.proofs.Common.{◌≡◌, ◌≤◌, map}
use Rattle.std.specs.String.{string_bytes}
use Rattle.source_files.proofs.Reading.{Reading}
use Rattle.source_files.proofs.read.read_files.Given as goal

abbrev pub invariant-loop-number : goal.invariant-loop-number
invariant-loop-number g l =
    Reading (g.F.Files.holds l.initial.files) (map string_bytes l.names) l.number l.bytes l.texts
    × (g.F.Files.holds l.files ≡ g.F.Files.holds l.initial.files)
    × (g.F.Files.misses l.initial.files ≤ g.F.Files.misses l.files)
    × (g.F.Files.read_faults l.initial.files ≤ g.F.Files.read_faults l.files)
    × (g.F.Files.write_faults l.initial.files ≤ g.F.Files.write_faults l.files)
