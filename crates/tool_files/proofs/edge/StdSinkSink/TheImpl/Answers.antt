use Rattle.tool_files.proofs.Tells.{faults-after, faults-failed, OnOk-always, OnErr-always}
use Rattle.tool_files.proofs.edge.StdSinkSink.TheImpl.Goals as goal

pub put-tells : goal.put-tells
put-tells g c =
    let r = c.result in
    rw c.ensures.counted (record {
      faults_grow = faults-after c.args.self.now r;
      ok = OnOk-always r _ tt;
      err = OnErr-always r _ (0, tt);
      failed = faults-failed c.args.self.now r;
    })
