use Rattle.std.proofs.Common.{◌≡◌, ap, subst}
use Rattle.std.specs.Prelude.{slice_get}
use Rattle.class_world.specs.declared.world.TypeInfo.{TypeInfo}
use Rattle.class_world.specs.declared.world.MethodInfo.{MethodInfo}
use Rattle.seen_methods.specs.Scopes.{AreOver}
use Rattle.seen_methods.proofs.scopes.is_scoped.Goals as goal

pub returns-in-Some-get : goal.returns-in-Some-get
returns-in-Some-get c h info owner at at_owner =
    let mine = c.in-Some.info.now in
    let own = c.in-Some-get.owner.now in
    let same_info : mine ≡ info = cc (c.in-Some.ensures.value, at) in
    let same_place = ap (λ (i : MethodInfo). slice_get c.args.w.now.types i.owner) same_info in
    let same_owner : own ≡ owner = cc (c.in-Some-get.ensures.value, at_owner, same_place) in
    subst (λ (o : TypeInfo). AreOver o.params info.params) same_owner
    (subst (λ (i : MethodInfo). AreOver own.params i.params) same_info (subst (AreOver own.params) c.as_slice.ensures (c.are_over.ensures h)))
