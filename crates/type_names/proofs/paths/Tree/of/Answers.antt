use Rattle.std.proofs.Common.{◌≡◌, ◌∙◌, ◌∷◌, [], ◌++◌, sym, ap, subst, length, take, arith, rules}
use Rattle.std.proofs.lemmas.List.{take_all, take_more, length-take-le}
use Rattle.type_names.specs.Paths.{IsTree}
use Rattle.type_names.proofs.Trees.{tree_none}
use Rattle.type_names.proofs.paths.Tree.of.Goals as goal

pub loop-place-init : goal.loop-place-init
loop-place-init c = tree_none _ c.new.ensures.empty (λ n. search rules)

pub loop-place-preserved : goal.loop-place-preserved
loop-place-preserved c =
    let place = c.loop-place.place in
    let path = c.index-paths-place.result in
    let size : length (take place c.args.paths.now) ≡ place = length-take-le place c.args.paths.now (omega arith) in
    let more = c.in_ok-note.ensures (take place c.args.paths.now) size c.loop-place.invariant in
    subst (λ ps. IsTree ps c.note.new.self)
    (ap (λ p. take place c.args.paths.now ++ p ∷ []) (c.as_slice.ensures ∙ c.index-paths-place.is) ∙ sym (take_more c.args.paths.now place path c.loop-place-test.true)) more

pub returns : goal.returns
returns c = subst (λ ps. IsTree ps c.loop-place.tree) (take_all c.loop-place.place c.args.paths.now c.loop-place-test.false) c.loop-place.invariant
