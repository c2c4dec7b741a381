use Rattle.std.proofs.Common.{sym, subst}
use Rattle.type_constraints.specs.Asked.{AreTies}
use Rattle.type_places.specs.Changing.{IsChange}
use Rattle.generalize_declared.proofs.Targets.{is_main}
use Rattle.generalize_declared.proofs.tried.try_change.Goals as goal

pub returns : goal.returns
returns c =
    λ fs are.
    let s = c.args.source.now in
    let p = c.args.place.now in
    let changes = c.in_ok-changes.changes in
    let first = are 0 c.requires.some in
    record {
      changes = subst (λ w. IsChange w p.old p.declared c.args.target changes) (sym first.world) c.in_ok-changes.ensures;
      unmet = record {
        main = c.find-main.result;
        is_main = is_main s.names.now c.find-main.result c.find-main.ensures.found c.find-main.ensures.absent;
        first = λ t ties. c.in_ok-unmet.ensures (fs 0) first t (subst (λ w. AreTies w t) first.world ties);
      };
    }
