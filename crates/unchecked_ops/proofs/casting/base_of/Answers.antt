use Rattle.unchecked_ops.proofs.casting.base_of.Goals as goal

pub returns : goal.returns
returns c = c.parameterization.ensures c.args.w.now c.args.t.now c.args.h (c.in_ok-super_of.ensures.is.0 c.requires.ty)
