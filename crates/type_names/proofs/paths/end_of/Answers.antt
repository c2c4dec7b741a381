use Rattle.std.proofs.Common.{◌∙◌, Some, sym, ap}
use Rattle.std.proofs.lemmas.List.{drop_all}
use Rattle.java_tree.specs.declared.tree.Name.{Name}
use Rattle.type_names.specs.Paths.{next_in, reached}
use Rattle.type_names.proofs.Trees.{reached_next, reached_stop}
use Rattle.type_names.proofs.paths.end_of.Goals as goal

pub returns-in_err-end : goal.returns-in_err-end
returns-in_err-end c =
    let d : Name = record { 0 = 0 } in
    c.from_residual.ensures
    ∙ reached_stop (next_in c.args.steps.now.entries) c.args.path.now c.loop-name.name-index d c.loop-name.end c.loop-name-test.true (sym c.find_step.ensures ∙ c.in_err-end.was)
    ∙ c.loop-name.invariant

pub loop-name-preserved : goal.loop-name-preserved
loop-name-preserved c =
    let d : Name = record { 0 = 0 } in
    reached_next (next_in c.args.steps.now.entries) c.args.path.now c.loop-name.name-index d c.loop-name.end c.in_ok-end.end c.loop-name-test.true (sym c.find_step.ensures ∙ c.in_ok-end.was)
    ∙ c.loop-name.invariant

pub returns : goal.returns
returns c = sym (ap (reached (next_in c.args.steps.now.entries) (Some c.loop-name.end)) (drop_all c.loop-name.name-index c.args.path.now c.loop-name-test.false)) ∙ c.loop-name.invariant
