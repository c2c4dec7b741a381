use Rattle.method_groups.specs.Groups.{AreReady, KeepsLists}
use Rattle.method_groups.proofs.made.Made.make_all.Given as goal

abbrev pub invariant-loop-label : goal.invariant-loop-label
invariant-loop-label l = record {
  ready : AreReady l.w l.labels.rows.items l.self;
  kept : KeepsLists l.fn.self.groups.items l.self.groups.items;
}
