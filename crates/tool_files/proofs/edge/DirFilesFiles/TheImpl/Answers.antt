use Rattle.std.proofs.Common.{refl, arith}
use Rattle.tool_files.proofs.Tells.{raised-rose, misses-read, read_faults-read, write_faults-read, misses-write, read_faults-write, write_faults-write, write_faults-failed, OnOk-always, OnErr-always}
use Rattle.tool_files.proofs.edge.DirFilesFiles.TheImpl.Goals as goal

pub read-tells : goal.read-tells
read-tells g c =
    let counts = c.args.self.now in
    let r = c.result in
    rw c.ensures.counted (record {
      kept = refl;
      misses_grow = misses-read counts r;
      reads_grow = read_faults-read counts r;
      writes_grow = omega (arith, write_faults-read counts r);
      ok = c.ensures.ok;
      err = c.ensures.err;
      missing = λ e. rw e (raised-rose counts.misses);
      absent = tt;
      failed = λ e. rw e (raised-rose counts.read_faults);
    })

pub write-tells : goal.write-tells
write-tells g c =
    let counts = c.args.self.now in
    let r = c.result in
    rw c.ensures.counted (record {
      misses_grow = omega (arith, misses-write counts r);
      reads_grow = omega (arith, read_faults-write counts r);
      writes_grow = write_faults-write counts r;
      ok = OnOk-always r _ tt;
      err = OnErr-always r _ tt;
      failed = write_faults-failed counts r;
    })
