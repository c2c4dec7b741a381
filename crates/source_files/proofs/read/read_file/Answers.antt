use Rattle.std.proofs.Common.{arith}
use Rattle.source_files.proofs.Reading.{read_whole, read_large}
use Rattle.source_files.proofs.read.read_file.Goals as goal

pub returns-in-Ok-clause-read : goal.returns-in-Ok-clause-read
returns-in-Ok-clause-read g c = read_large (g.F.Files.holds c.args.files.now) c.args.name.now _ _ c.new-text.ensures.items c.in-Ok.ensures.ok (omega arith)

pub returns-in-Ok-2-clause-read : goal.returns-in-Ok-2-clause-read
returns-in-Ok-2-clause-read g c = (_, read_whole (g.F.Files.holds c.args.files.now) c.args.name.now _ _ c.new-text.ensures.items c.in-Ok-2.ensures.ok (omega arith), omega arith, omega arith)

pub returns-clause-read : goal.returns-clause-read
returns-clause-read g c =
    rw c.from_vec.ensures
    (read_whole (g.F.Files.holds c.args.files.now) c.args.name.now _ _ c.new-text.ensures.items c.in-Ok-3.ensures.ok (omega arith), (omega arith, omega arith))
