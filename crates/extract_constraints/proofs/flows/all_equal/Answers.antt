use Rattle.std.proofs.Common.{ap, drop, length, ◌∙◌}
use Rattle.std.proofs.lemmas.List.{length_push}
use Rattle.std.proofs.lemmas.Slice.Zip.{zip_end, zip_turn}
use Rattle.kept_places.specs.declared.links.Kind.TheVariants as kind
use Rattle.class_places.proofs.Steps.{pair}
use Rattle.extract_constraints.specs.Flows as fl
use Rattle.extract_constraints.proofs.EqualArguments.{equal_ended, equal_step}
use Rattle.extract_constraints.proofs.flows.all_equal.Goals as goal

pub loop-x-preserved : goal.loop-x-preserved
loop-x-preserved c =
    let xs = c.args.xs.now in
    let ys = c.args.ys.now in
    let i = length c.loop-x.yielded in
    let t = zip_turn xs ys c.loop-x.yielded c.into_iter-x-iterator.result c.loop-x.x-iterator c.next.new.self c.next.result (cc) (cc) c.loop-x.yielded_by (c.in-Some.x, c.in-Some.y) c.in-Some.is c.next.ensures.steps in
    ap (λ j. fl.all_equal (drop j xs) (drop j ys) c.args.node c.in_ok-links.links) (length_push c.loop-x.yielded (c.in-Some.x, c.in-Some.y))
    ∙ equal_step xs ys i c.args.node c.in-Some.x.now c.in-Some.y.now c.loop-x.links c.in_ok-links.links _ t.0 t.1 (t.2 c.in-Some.x.now) (t.3 c.in-Some.y.now)
    (c.in_ok-links.ensures ∙ pair (λ o q. fl.equal o q c.args.node kind.Argument c.loop-x.links) _ _ _ _ c.own_mark.ensures c.own_mark-in-loop-x.ensures) c.loop-x.invariant

pub returns : goal.returns
returns c =
    let xs = c.args.xs.now in
    let ys = c.args.ys.now in
    equal_ended xs ys (length c.loop-x.yielded) c.args.node c.loop-x.links _
    (zip_end xs ys c.loop-x.yielded c.into_iter-x-iterator.result c.loop-x.x-iterator c.next.new.self c.next.result (cc) (cc) c.loop-x.yielded_by c.in-None.is c.next.ensures.steps) c.loop-x.invariant
