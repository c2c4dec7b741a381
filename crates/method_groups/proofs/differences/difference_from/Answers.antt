use Rattle.std.proofs.Common.{◌≡◌, ◌++◌, ◌∷◌, [], inl, inr, ap, ◌∙◌, length, arith}
use Rattle.std.specs.Prelude.{slice_get}
use Rattle.class_world.proofs.Ends.{at_last}
use Rattle.method_groups.proofs.Firsts.{some_told}
use Rattle.method_groups.proofs.differences.difference_from.Goals as goal

pub returns-clause-made : goal.returns-clause-made
returns-clause-made c =
    let old = c.args.added.now.items in
    let list = c.in_ok-list.list.items in
    let place : c.in-Ok.place ≡ length old = omega (arith, c.in-Ok.ensures, c.len.ensures, c.args.added.now.ok.0) in
    let others = c.methods_of-others.ensures.has (some_told c.args.before _ c.in-Some.before c.requires.members c.in-Some.is) in
    let left = c.in_ok-list.ensures in
    record {
      list = list;
      at = ap (slice_get c.push.new.self.items) place ∙ ap (λ l. slice_get l (length old)) (c.in_ok-push.ensures.items ∙ ap (λ l. old ++ l ∷ []) c.from_vec.ensures) ∙ at_last old list;
      only = λ k has. let its = left.only k has in (its.0, λ beside. its.1 ((others k).1 beside));
      all = λ k has. elim (left.all k has) [ inl more ↦ inl more | inr there ↦ inr ((others k).0 there) ];
    }
