use Rattle.counted_methods.specs.Table.{kept_at}
use Rattle.counted_methods.proofs.Keeping.{get_told}
use Rattle.counted_methods.proofs.CountedMethods.get.Goals as goal

pub returns : goal.returns
returns c = λ w holds counted known.
    let t = c.args.self.now in
    get_told w c.args.owner c.args.name c.args.arity (kept_at t c.args.owner c.args.name c.args.arity) c.listed.result.now (c.listed.ensures w holds) (counted c.args.owner known c.args.name c.args.arity)
