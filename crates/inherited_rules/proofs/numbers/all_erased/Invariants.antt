use Rattle.std.proofs.Common.{◌≡◌, map}
use Rattle.std.specs.Prelude.{take}
use Rattle.class_world.specs.Types.{erased}
use Rattle.inherited_rules.proofs.numbers.all_erased.Given as goal

abbrev pub invariant-loop-t : goal.invariant-loop-t
invariant-loop-t l = l.erasures ≡ map erased (take l.t-index l.types)
