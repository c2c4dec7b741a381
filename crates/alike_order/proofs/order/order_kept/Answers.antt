use Rattle.std.proofs.Common.{◌≡◌, ◌<◌, ◌^◌, ◌↔◌, length, arith}
use Rattle.std.specs.Prelude.{IsTrue}
use Rattle.alike_order.specs.Order.{KeepsOrder}
use Rattle.alike_order.proofs.Orders.{classes_told, order_told}
use Rattle.alike_order.proofs.order.order_kept.Goals as goal

pub returns-then-goes-clause-is : goal.returns-then-goes-clause-is
returns-then-goes-clause-is c =
    let few : length c.args.old.now.types < 2 ^ 32 = omega arith in
    let to : length c.args.types.now.to ≡ length c.args.old.now.types = omega arith in
    let back : length c.args.types.now.back ≡ length c.args.new.now.types = omega arith in
    classes_told c.args.old.now c.args.new.now c.args.types.now c.are_pairs_kept.result c.in-Ok.count c.requires.old c.requires.new few to back (c.goes.ensures.0 c.if-goes.true) (omega arith) c.are_pairs_kept.ensures

pub returns-then-goes-clause-told : goal.returns-then-goes-clause-told
returns-then-goes-clause-told c h =
    let few : length c.args.old.now.types < 2 ^ 32 = omega arith in
    let to : length c.args.types.now.to ≡ length c.args.old.now.types = omega arith in
    let back : length c.args.types.now.back ≡ length c.args.new.now.types = omega arith in
    let is : IsTrue c.are_pairs_kept.result ↔ KeepsOrder c.args.types.now c.args.old.now c.args.new.now =
    classes_told c.args.old.now c.args.new.now c.args.types.now c.are_pairs_kept.result c.in-Ok.count c.requires.old c.requires.new few to back (c.goes.ensures.0 c.if-goes.true) (omega arith) c.are_pairs_kept.ensures
    in
    order_told c.args.old.now c.args.new.now c.args.types.now (is.0 h)
