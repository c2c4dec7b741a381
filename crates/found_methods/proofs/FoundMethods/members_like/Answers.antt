use Rattle.std.proofs.Common.{◌≡◌, Some, refl, sym, ap, ◌∙◌, length, arith}
use Rattle.std.specs.Prelude.{slice_get}
use Rattle.std.proofs.lemmas.Option.{slice_get_read, slice_get_within}
use Rattle.class_world.proofs.Substs.{there_is}
use Rattle.overrides.proofs.Belows.{overriding_within}
use Rattle.found_methods.proofs.Shapes.{overriders_named}
use Rattle.found_methods.proofs.FoundMethods.members_like.Goals as goal

pub returns-in-Some : goal.returns-in-Some
returns-in-Some c w h lists =
    let t = c.args.self.now in
    let xs = c.deref.result.now in
    let x = c.in-Some.callee.now in
    let read = c.in-Some.ensures.lookup in
    let at : slice_get t.callees.items c.args.m ≡ Some x = ap (λ ys. slice_get ys c.args.m) (sym c.deref.ensures.value) ∙ slice_get_read xs (length xs) c.args.m x refl read.3.0 read.1 in
    let lt = slice_get_within t.callees.items c.args.m x at in
    let info = there_is w.methods c.args.m (omega (arith, lt, h.callees.size)) in
    let called = h.callees.called c.args.m x info.0 at info.1 in
    overriders_named w c.args.object c.args.m info.0 x.name x.arity c.named.result.now info.1 called.0 called.1 (c.named.ensures w lists)

pub returns-in-None : goal.returns-in-None
returns-in-None c w h lists = (
  λ t has. absurd (let lt = has.1 in omega (arith, lt)),
  λ t member over.
      let past = c.in-None.ensures.lookup.3 in
      let same = ap length c.deref.ensures.value in
      let lt = (overriding_within over).1 in
      absurd (omega (arith, lt, past, same, h.callees.size)),
)
