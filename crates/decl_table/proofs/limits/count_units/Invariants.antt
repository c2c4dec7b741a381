use Rattle.std.proofs.Common.{◌≡◌, ◌+◌, ◌≤◌, ◌-◌, ◌^◌, min, map, drop}
use Rattle.java_tree.specs.View.{unit_plain}
use Rattle.decl_rules.specs.DeclaredRules.{declared_types, declared_methods}
use Rattle.decl_table.specs.Program.{sum}
use Rattle.decl_table.proofs.limits.count_units.Given as goal

abbrev pub invariant-loop-unit : goal.invariant-loop-unit
invariant-loop-unit l = record {
  types : min (l.counts.types + sum declared_types (map unit_plain (drop l.unit-index l.units))) (2 ^ 64 - 1) ≡ min (l.fn.counts.types + sum declared_types (map unit_plain l.units)) (2 ^ 64 - 1);
  methods : min (l.counts.methods + sum declared_methods (map unit_plain (drop l.unit-index l.units))) (2 ^ 64 - 1) ≡ min (l.fn.counts.methods + sum declared_methods (map unit_plain l.units)) (2 ^ 64 - 1);
  few_types : l.counts.types ≤ 2 ^ 64 - 1;
  few_methods : l.counts.methods ≤ 2 ^ 64 - 1;
}
