use Rattle.std.proofs.Common.{◌≡◌, ◌∙◌, length, sym, ap, subst}
use Rattle.std.specs.Prelude.{slice_get}
use Rattle.shared_maps.specs.Trees.{Grows, IsArena}
use Rattle.shared_maps.proofs.Nodes.{arena_more, at_last, grows_one}
use Rattle.shared_maps.proofs.trees.add.Goals as goal

pub returns-clause-arena : goal.returns-clause-arena
returns-clause-arena c = subst IsArena (sym c.in_ok-push.ensures.ok) (arena_more c.args.nodes.now c.args.node c.requires.arena c.requires.inside)

pub returns-clause-grows : goal.returns-clause-grows
returns-clause-grows c = subst (Grows c.args.nodes.now) (sym c.in_ok-push.ensures.ok) (grows_one c.args.nodes.now c.args.node)

pub returns-clause-added : goal.returns-clause-added
returns-clause-added c =
    let number : c.in-Ok.number ≡ length c.args.nodes.now = c.in-Ok.ensures.1 ∙ c.len.ensures in
    ap (slice_get c.push.new.self) number ∙ ap (λ ns. slice_get ns (length c.args.nodes.now)) c.in_ok-push.ensures.ok ∙ at_last c.args.nodes.now c.args.node
