use Rattle.std.proofs.Common.{◌≡◌, take}
use Rattle.std.specs.List.{position_from}
use Rattle.type_names.specs.declared.firsts.TypeKey.{TypeKey}
use Rattle.type_names.specs.Tables.{fits, first_at}
use Rattle.type_names.proofs.firsts.FirstTypes.of.Given as goal

abbrev pub invariant-loop-at : goal.invariant-loop-at
invariant-loop-at l = (q : TypeKey) → first_at l.table q ≡ position_from (fits q) 0 (take l.at l.types)
