use Rattle.std.proofs.Common.{ℕ, refl, subst}
use Rattle.std.specs.Prelude.{IfNone}
use Rattle.class_world.specs.Ordered.{IsSingleClass}
use Rattle.class_world.specs.Sorts.{IsSorted}
use Rattle.class_world.proofs.Orders.{class_supers}
use Rattle.class_world.proofs.Transports.{sound_there}
use Rattle.class_world.proofs.order_table.with_order.Goals as goal

pub sort-requires-clause-supers : goal.sort-requires-clause-supers
sort-requires-clause-supers c = class_supers c.args.w c.requires.supers

pub first_doubled-requires-clause-supers : goal.first_doubled-requires-clause-supers
first_doubled-requires-clause-supers c = class_supers c.args.w c.requires.supers

pub returns : goal.returns
returns c =
    let sequence = subst (IsSorted c.args.w) c.in-Sequence.is c.in_ok-c.ensures in
    let singles = subst (λ o. IfNone o ((k : ℕ) → IsSingleClass c.args.w k)) c.in_default.is c.in_ok-c-2.ensures.single in
    (sound_there c.args.w _ refl c.in-Sequence.listed.items c.in_ok-rows.rows.items c.requires.supers sequence c.in_ok-rows.ensures singles c.from_vec.ensures, (refl, refl, refl, refl))
