use Rattle.std.proofs.Common.{◌∙◌, ap, sym, Some}
use Rattle.std.specs.Option.{option_map}
use Rattle.class_world.specs.declared.world.World.{World}
use Rattle.check_stmt.specs.Pieces.{cast_item, walked, walked_by}
use Rattle.check_stmt.proofs.each.walked_item.Goals as goal

pub returns-in_ok-cast_item-in-Some-2 : goal.returns-in_ok-cast_item-in-Some-2
returns-in_ok-cast_item-in-Some-2 c = λ f d.
    let made = ap (λ x. Some x) (c.in_ok-cast_item-in-Some-2.ensures f d) in
    let above = sym c.in-Some-2.is ∙ c.in_ok-super_as.ensures f d in
    made
    ∙ ap (λ r. option_map (cast_item f) (walked r)) above
    ∙ sym (ap (λ o. option_map (cast_item f) (walked_by f o c.args.t.now)) c.in-Some.is)
    ∙ sym (ap (λ (w : World). option_map (cast_item f) (walked_by f w.walk c.args.t.now)) d.world)
