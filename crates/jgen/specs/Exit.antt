-- The exit status of a call's end.
use Rattle.std.specs.Prelude.{ℕ}
use Rattle.refactor_app.specs.declared.status.Status.{Status}
use Rattle.refactor_app.specs.declared.status.Status.TheVariants as s

abbrev pub exit_status : Status → ℕ
exit_status s.Done = 0
exit_status s.Refused = 1
exit_status s.Usage = 2
exit_status s.Missing = 3
exit_status s.ReadFault = 4
exit_status s.WriteFault = 5
exit_status s.OutFault = 6
exit_status s.NoMemory = 7
exit_status s.Threw = 10
exit_status s.Bound = 11
