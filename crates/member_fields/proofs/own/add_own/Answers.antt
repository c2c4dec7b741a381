use Rattle.std.proofs.Common.{◌≡◌, ◌∙◌, ◌<◌, [], ◌∷◌, ◌++◌, ap, Some, length, refl, arith}
use Rattle.std.specs.Prelude.{slice_get}
use Rattle.std.proofs.lemmas.List.{length_push}
use Rattle.std.proofs.lemmas.Option.{slice_get_read}
use Rattle.member_fields.proofs.Owners.{added_own, empty_more, then_iff}
use Rattle.member_fields.proofs.own.add_own.Goals as goal

pub loop-preserved : goal.loop-preserved
loop-preserved c =
    let items = c.in_ok-push.ensures.items in
    let size = ap length items ∙ length_push c.loop.own.items c.new.result in
    record {
      size = omega (arith, size, c.loop.invariant.size);
      grows = omega (arith, c.loop.invariant.grows);
      same = λ d g. then_iff (empty_more c.loop.own.items c.push.new.self.items (items ∙ ap (λ x. c.loop.own.items ++ x ∷ []) c.new.ensures) d g) (c.loop.invariant.same d g);
    }

pub returns-clause-added : goal.returns-clause-added
returns-clause-added c =
    let items = c.loop.own.items in
    let lt : c.args.owner < length items = omega (arith, c.loop.invariant.size, c.loop-test.false) in
    let row : slice_get items c.args.owner ≡ Some c.index_mut.result.now = slice_get_read items (length items) c.args.owner c.index_mut.result.now refl lt c.index_mut.ensures.value in
    added_own c.args.own.now.items items c.args.owner c.args.f c.index_mut.result.now c.push-2.new.self row c.in_ok-push-2.ensures.ok c.loop.invariant.same
