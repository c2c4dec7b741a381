use Rattle.std.proofs.Common.{nat_eq, take}
use Rattle.std.specs.HashSet.{contains}
use Rattle.type_names.specs.Tables.{AreSame, HoldsDemands}
use Rattle.type_names.proofs.files.on_demand_of.Given as goal

abbrev pub invariant-loop-import : goal.invariant-loop-import
invariant-loop-import l = HoldsDemands l.packages l.fn.java (take l.import-index l.imports) l.numbers.items × AreSame (contains nat_eq l.seen) l.numbers.items
