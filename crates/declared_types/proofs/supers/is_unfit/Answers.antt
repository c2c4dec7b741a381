use Rattle.declared_types.proofs.Steps.{unfit_type}
use Rattle.declared_types.proofs.supers.is_unfit.Goals as goal

pub returns-in-Type : goal.returns-in-Type
returns-in-Type c = λ p at.
    unfit_type c.args.scope.now.types.now p c.args.wants_class c.args.x.now c.head_named.result c.in-Type.number c.is_empty.result c.is_unfit_type.result (c.head_named.ensures p at) c.in-Type.is
    c.is_empty.ensures c.is_unfit_type.ensures
