use Rattle.std.proofs.Common.{◌≡◌, ◌++◌, drop}
use Rattle.interface_text.specs.Names as spec
use Rattle.interface_text.proofs.names.push_dotted.Given as goal

abbrev pub invariant-loop-name : goal.invariant-loop-name
invariant-loop-name l = l.out.items ++ spec.dotted l.names (drop l.name-index l.path) ≡ l.fn.out.items ++ spec.dotted l.names l.path
