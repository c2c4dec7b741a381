use Rattle.std.proofs.Common.{◌∙◌, Some, sym, ap, refl}
use Rattle.std.proofs.lemmas.List.{take_all}
use Rattle.java_tree.specs.declared.tree.Name.{Name}
use Rattle.type_names.specs.Paths.{next_in, reached}
use Rattle.type_names.proofs.Trees.{path_more}
use Rattle.type_names.proofs.paths.add_path.Goals as goal

pub loop-name-init : goal.loop-name-init
loop-name-init c = (c.requires, λ k n e. e, refl)

pub loop-name-preserved : goal.loop-name-preserved
loop-name-preserved c =
    let d : Name = record { 0 = 0 } in (
      c.in_ok-end.ensures.good,
      λ k n e. c.in_ok-end.ensures.kept k n (c.loop-name.invariant.1 k n e),
      path_more c.loop-name.steps.entries c.add_step.new.steps.entries c.in_ok-end.ensures.kept c.args.path.now c.loop-name.name-index d c.loop-name.end c.in_ok-end.end c.loop-name-test.true
          c.loop-name.invariant.2 c.in_ok-end.ensures.found,
    )

pub returns-clause-found : goal.returns-clause-found
returns-clause-found c =
    sym (ap (reached (next_in c.loop-name.steps.entries) (Some 0)) (take_all c.loop-name.name-index c.args.path.now c.loop-name-test.false)) ∙ c.loop-name.invariant.2
