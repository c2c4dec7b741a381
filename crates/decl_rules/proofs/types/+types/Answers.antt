use Rattle.std.proofs.Common.{arith}
use Rattle.decl_rules.proofs.Measures.{type_in}
use Rattle.decl_rules.proofs.types.+types.Goals as goal

pub walk_types-walk_type-first-requires : goal.walk_types-walk_type-first-requires
walk_types-walk_type-first-requires g t c = λ ends within.
    let inside = type_in c.args.xs.now c.loop-x.x-index c.x-item.result (rw (← c.as_slice-x-items.ensures) c.loop-x-test.true) (rw (← c.as_slice-x-items.ensures) c.x-item.is) in
    (rw (← c.decreases) (omega (arith, inside)), within)
