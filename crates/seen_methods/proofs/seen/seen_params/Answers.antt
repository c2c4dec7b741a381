use Rattle.std.proofs.Common.{List, map, ap, ◌∙◌}
use Rattle.class_world.specs.declared.world.JavaType.{JavaType}
use Rattle.class_world.specs.Types.{substitute}
use Rattle.class_world.specs.Signatures.{IsSeenWith}
use Rattle.seen_methods.proofs.Tells.{some_of, none_of, params_told, no_params}
use Rattle.seen_methods.proofs.seen.seen_params.Goals as goal

pub returns-in_default-2 : goal.returns-in_default-2
returns-in_default-2 c =
    no_params c.args.w.now c.args.c c.args.m c.in-Some.info.now c.in-Some.ensures.some
    (none_of c.in_ok-args.field-0 ((xs : List JavaType) → IsSeenWith c.args.w.now c.args.c c.in-Some.info.now.owner xs → ⊥) c.in_default-2.is c.in_ok-args.ensures.none)

pub returns : goal.returns
returns c =
    let info = c.in-Some.info.now in
    params_told c.args.w.now c.requires c.args.c c.args.m info c.in-Some-2.args c.in_ok-params.params c.in-Some.ensures.some
    (some_of c.in_ok-args.field-0 c.in-Some-2.args (IsSeenWith c.args.w.now c.args.c info.owner) c.in-Some-2.is c.in_ok-args.ensures.some)
    (c.in_ok-params.ensures ∙ ap (λ xs. map (substitute xs) c.as_slice-2.result.now) c.as_slice.ensures ∙ ap (map (substitute c.in-Some-2.args)) c.as_slice-2.ensures)
