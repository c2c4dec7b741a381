use Rattle.refactor_app.proofs.Answering.{says}
use Rattle.refactor_app.specs.declared.status.Status.TheVariants as s
use Rattle.refactor_app.proofs.call.refactor.Goals as goal

pub returns : goal.returns
returns g c =
    let h = c.run.ensures in
    record {
      done = λ e. says _ _ _ _ s.Done h e;
      refused = λ e. says _ _ _ _ s.Refused h e;
      usage = λ e. says _ _ _ _ s.Usage h e;
      missing = λ e. (says _ _ _ _ s.Missing h e).1;
      missed = λ e. (says _ _ _ _ s.Missing h e).0;
      read_fault = λ e. (says _ _ _ _ s.ReadFault h e).1;
      unread = λ e. (says _ _ _ _ s.ReadFault h e).0;
      write_fault = λ e. (says _ _ _ _ s.WriteFault h e).1;
      unwritten = λ e. (says _ _ _ _ s.WriteFault h e).0;
      out_fault = λ e. (says _ _ _ _ s.OutFault h e).1;
      cut = λ e. (says _ _ _ _ s.OutFault h e).0;
      no_memory = λ e. says _ _ _ _ s.NoMemory h e;
      threw = λ e. says _ _ _ _ s.Threw h e;
      bound = λ e. says _ _ _ _ s.Bound h e;
    }
