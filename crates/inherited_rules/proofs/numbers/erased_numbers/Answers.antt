use Rattle.std.proofs.Common.{sym, ap, ◌∙◌, subst, map, length, arith}
use Rattle.class_world.specs.Types.{erased}
use Rattle.class_world.proofs.Collected.{item_at}
use Rattle.signature_numbers.specs.Numbers.{number_in}
use Rattle.inherited_rules.proofs.Numbering.{AreFirst, none_first, next_first, all_first}
use Rattle.inherited_rules.proofs.numbers.erased_numbers.Goals as goal

pub loop-info-init : goal.loop-info-init
loop-info-init c = subst (λ xs. AreFirst c.args.w.now c.new-table.result xs 0) (sym c.new-numbers.ensures.items) (none_first c.args.w.now c.new-table.result c.new-table.ensures.none)

pub loop-info-preserved : goal.loop-info-preserved
loop-info-preserved c =
    let info = c.info-item.result in
    let same = c.as_slice-in-loop-info.ensures ∙ c.in_ok-params.ensures ∙ ap (map erased) c.as_slice.ensures in
    let number = ap (number_in c.number.new.self info.name) (sym same) ∙ c.in_ok-number.ensures.number in
    next_first c.args.w.now c.loop-info.table c.number.new.self c.loop-info.numbers.items c.push.new.self.items c.loop-info.info-index c.in_ok-number.number info
    (item_at _ _ _ _ c.as_slice-info-items.ensures c.loop-info-test.true c.info-item.is) number c.in_ok-number.ensures.kept c.in_ok-number.ensures.apart c.in_ok-push.ensures.items c.loop-info.invariant

pub returns : goal.returns
returns c =
    all_first c.args.w.now c.loop-info.table c.loop-info.numbers.items c.loop-info.info-index (let all = ap length c.as_slice-info-items.ensures in omega (arith, c.loop-info-test.false, c.loop-info.auto.info-index-end, all))
    c.loop-info.invariant
