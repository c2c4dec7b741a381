use Rattle.std.proofs.Common.{◌≡◌, ◌∙◌, length, sym, subst, arith}
use Rattle.found_methods.specs.Own.{LowestBelow}
use Rattle.found_methods.proofs.Owns.{groups_begin}
use Rattle.found_methods.proofs.own.Own.empty.Goals as goal

pub returns : goal.returns
returns c labels =
    let w = c.args.w.now in
    let all : c.loop.counter ≡ length w.methods = omega (arith, c.loop-test.false, c.loop.auto.counter-end, c.requires.count) in
    record {
      rows = c.in_ok-table.ensures.rows ∙ c.len.ensures;
      keys = c.in_ok-table.ensures.keys ∙ c.requires.count;
      lowest = λ l d. subst (LowestBelow w labels 0 l d) (sym (c.in_ok-table.ensures.none d l)) (λ k lt own. absurd (omega (arith, lt)));
      groups = groups_begin w labels c.loop.groups.items c.loop.counter c.loop.invariant all;
    }
