use Rattle.std.proofs.Common.{refl, inl, arith}
use Rattle.tool_files.proofs.Tells.{raised-rose, misses-read, read_faults-read, write_faults-read, misses-write, read_faults-write, write_faults-write, write_faults-failed, counts-write, write-ok, write-err}
use Rattle.tool_files.proofs.mem.MemFilesFiles.TheImpl.Goals as goal

pub read-tells : goal.read-tells
read-tells c =
    let counts = c.args.self.now.counts in
    let r = c.result in
    rw c.ensures.after (record {
      kept = refl;
      misses_grow = misses-read counts r;
      reads_grow = read_faults-read counts r;
      writes_grow = omega (arith, write_faults-read counts r);
      ok = c.ensures.ok;
      err = c.ensures.err;
      missing = λ e. rw e (raised-rose counts.misses);
      absent = (λ e. c.ensures.missing.0 e, λ none. inl (c.ensures.missing.1 none));
      failed = λ e. rw e (raised-rose counts.read_faults);
    })

pub write-tells : goal.write-tells
write-tells c =
    let s = c.args.self.now in
    let name = c.args.name.now in
    let bytes = c.args.bytes.now in
    let r = c.result in
    rw (c.ensures.after, counts-write s name bytes r) (record {
      misses_grow = omega (arith, misses-write s.counts r);
      reads_grow = omega (arith, read_faults-write s.counts r);
      writes_grow = write_faults-write s.counts r;
      ok = write-ok s name bytes r;
      err = write-err s name bytes r;
      failed = write_faults-failed s.counts r;
    })
