use Rattle.std.proofs.Common.{◌≡◌, List, length}
use Rattle.type_names.specs.declared.known.JavaNames.{JavaNames}
use Rattle.type_names.specs.Known.{File}
use Rattle.super_rules.specs.Looks.{HasEntries, IsDrawn}
use Rattle.super_rules.proofs.Edged.{DrawnBelow}
use Rattle.super_rules.proofs.rows.graph_of.Given as goal

abbrev pub invariant-loop-number : goal.invariant-loop-number
invariant-loop-number l = record {
  size : length l.graph ≡ l.number;
  drawn : (java : JavaNames) (fs : List File) → HasEntries java fs l.types l.entries → DrawnBelow (IsDrawn java fs l.types l.edges) l.graph l.number;
}
