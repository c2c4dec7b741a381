use Rattle.overrides.proofs.Edges.{all_ties}
use Rattle.overrides.proofs.at_once.all_at_once.Goals as goal

pub returns : goal.returns
returns c =
    let declared = c.in_ok-add_declared.ensures in
    let inherited = c.in_ok-add_inherited.ensures in
    all_ties c.args.w.now c.add_inherited.new.table inherited.table (λ own m k takes are. inherited.kept m k (declared.all own m k takes are)) inherited.all
