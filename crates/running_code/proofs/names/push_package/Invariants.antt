use Rattle.std.proofs.Common.{◌≡◌, ◌++◌, drop}
use Rattle.running_code.specs.Names as spec
use Rattle.running_code.proofs.names.push_package.Given as goal

abbrev pub invariant-loop-part : goal.invariant-loop-part
invariant-loop-part l = l.out ++ spec.package_in l.names (drop l.part-index l.parts) ≡ l.fn.out ++ spec.package_in l.names l.parts
