use Rattle.std.proofs.Common.{List, Some, ap, sym, ◌∙◌}
use Rattle.std.specs.Option.{option_map}
use Rattle.class_world.specs.declared.world.JavaType.{JavaType}
use Rattle.class_world.specs.Types.{substitute}
use Rattle.class_world.specs.Signatures.{IsSeenWith}
use Rattle.seen_methods.proofs.Tells.{some_of, none_of, result_told, no_result}
use Rattle.seen_methods.proofs.seen.seen_result.Goals as goal

pub returns-in_default-2 : goal.returns-in_default-2
returns-in_default-2 c =
    no_result c.args.w.now c.args.c c.args.m c.in-Some.info.now c.in-Some.ensures.some
    (none_of c.in_ok-args.field-0 ((xs : List JavaType) → IsSeenWith c.args.w.now c.args.c c.in-Some.info.now.owner xs → ⊥) c.in_default-2.is c.in_ok-args.ensures.none)

pub returns : goal.returns
returns c =
    let info = c.in-Some.info.now in
    let made = c.in_ok-t-in-Some-result.ensures ∙ ap (λ xs. substitute xs c.in-Some-result.t) c.as_slice.ensures in
    result_told c.args.w.now c.requires c.args.c c.args.m info c.in-Some-2.args (Some c.in_ok-t-in-Some-result.t) c.in-Some.ensures.some
    (some_of c.in_ok-args.field-0 c.in-Some-2.args (IsSeenWith c.args.w.now c.args.c info.owner) c.in-Some-2.is c.in_ok-args.ensures.some)
    (ap (λ t. Some t) made ∙ ap (option_map (substitute c.in-Some-2.args)) (sym c.in-Some-result.is))
