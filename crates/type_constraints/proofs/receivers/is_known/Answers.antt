use Rattle.std.proofs.Common.{◌+◌, drop, refl, sym, ◌∙◌}
use Rattle.std.specs.Prelude.{slice_index_or as get_or}
use Rattle.std.specs.List.{list_any}
use Rattle.type_constraints.specs.Asked.{asked}
use Rattle.type_constraints.specs.Uses as us
use Rattle.type_constraints.proofs.Steps.{front, some_end, some_hit, some_next}
use Rattle.type_constraints.proofs.receivers.is_known.Goals as goal

pub returns-then-stands_for : goal.returns-then-stands_for
returns-then-stands_for c =
    λ f are ts ties.
    let a = asked c.args.at.now f ts in
    some_hit (us.stands_for a c.args.k) (list_any (us.stands_for a c.args.k)) (λ x xs. refl) (drop c.loop-j.j-index c.args.old.now) (drop (c.loop-j.j-index + 1) c.args.old.now) (get_or c.args.old.now c.loop-j.j-index 0) _ (front c.args.old.now c.loop-j.j-index c.loop-j-test.true) (sym (c.stands_for.ensures f are ts ties) ∙ c.if-stands_for.true) (c.loop-j.invariant f are ts ties)

pub loop-j-preserved : goal.loop-j-preserved
loop-j-preserved c =
    λ f are ts ties.
    let a = asked c.args.at.now f ts in
    some_next (us.stands_for a c.args.k) (list_any (us.stands_for a c.args.k)) (λ x xs. refl) (drop c.loop-j.j-index c.args.old.now) (drop (c.loop-j.j-index + 1) c.args.old.now) (get_or c.args.old.now c.loop-j.j-index 0) _ (front c.args.old.now c.loop-j.j-index c.loop-j-test.true) (sym (c.stands_for.ensures f are ts ties) ∙ c.if-stands_for.false) (c.loop-j.invariant f are ts ties)

pub returns : goal.returns
returns c =
    λ f are ts ties.
    let a = asked c.args.at.now f ts in
    some_end (list_any (us.stands_for a c.args.k)) refl c.args.old.now c.loop-j.j-index _ c.loop-j-test.false (c.loop-j.invariant f are ts ties)
