use Rattle.std.proofs.Common.{sym, ◌∙◌}
use Rattle.member_methods.proofs.Members.{making_none}
use Rattle.member_methods.proofs.made.nothing_made.Goals as goal

pub returns : goal.returns
returns c = λ w keyed size. making_none w keyed c.args.limit _ c.empty-empty.result (c.in_ok-vec.ensures.items_if_clones_equal (λ y e. e)) (c.in_ok-vec-2.ensures.items_if_clones_equal (λ y e. e)) (c.in_ok-vec-3.ensures.items_if_clones_equal (λ y e. e)) (c.in_ok-vec-4.ensures.items_if_clones_equal (λ y e. e)) (c.in_ok-tables.ensures ∙ sym size)
    c.empty-empty.ensures.good c.empty-empty.ensures.none
