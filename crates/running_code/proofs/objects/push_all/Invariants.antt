use Rattle.std.proofs.Common.{◌≡◌, ◌++◌, drop}
use Rattle.running_code.proofs.objects.push_all.Given as goal

abbrev pub invariant-loop-field : goal.invariant-loop-field
invariant-loop-field l = l.out ++ drop l.field-index l.held ≡ l.fn.out ++ l.held
