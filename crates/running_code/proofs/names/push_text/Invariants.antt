use Rattle.std.proofs.Common.{◌≡◌, ◌++◌, drop}
use Rattle.running_code.proofs.names.push_text.Given as goal

abbrev pub invariant-loop-byte : goal.invariant-loop-byte
invariant-loop-byte l = l.out ++ drop l.byte-index l.text ≡ l.fn.out ++ l.text
