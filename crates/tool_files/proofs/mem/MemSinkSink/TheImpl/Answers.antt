use Rattle.tool_files.proofs.Tells.{faults-put, put-ok, put-err, put-failed}
use Rattle.tool_files.proofs.mem.MemSinkSink.TheImpl.Goals as goal

pub put-tells : goal.put-tells
put-tells c =
    let s = c.args.self.now in
    let bytes = c.args.bytes.now in
    let r = c.result in
    rw c.ensures.after (record {
      faults_grow = faults-put s bytes r;
      ok = put-ok s bytes r;
      err = put-err s bytes r;
      failed = put-failed s bytes r;
    })
