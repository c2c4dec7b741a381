use Rattle.std.proofs.Common.{sym, subst}
use Rattle.std.specs.Prelude.{IsTrue, ◌↔◌}
use Rattle.std.specs.List.{Contains}
use Rattle.counted_methods.proofs.Firsts.{among_told}
use Rattle.counted_methods.proofs.lists.is_among.Goals as goal

pub returns : goal.returns
returns c =
    subst (λ r. IsTrue r ↔ Contains c.args.xs.now c.args.x) (sym c.is_ok.ensures.value)
    (among_told c.args.xs.now c.args.x c.binary_search.result c.requires c.binary_search.ensures.position)
