use Rattle.std.proofs.Common.{None, map, sym, ap, ◌∙◌}
use Rattle.std.specs.Prelude.{take}
use Rattle.std.proofs.lemmas.List.{take-map}
use Rattle.class_world.specs.declared.world.World.{World}
use Rattle.java_core.specs.View.{file_plain}
use Rattle.thrown_exceptions.proofs.Steps.{ok_as}
use Rattle.type_constraints.specs.Asked.{Asked}
use Rattle.type_constraints.specs.Constraints as co
use Rattle.type_constraints.proofs.program.first_unmet.Goals as goal

pub returns : goal.returns
returns c =
    λ f are t ties.
    let change = c.args.change.now in
    let files = c.args.core.now.files in
    let a : World → Asked = λ w. record { world = w; facts = f; ties = t; change = change; main = c.args.main; class = 0; method = None } in
    ok_as c.in_files.result _ _
    (ap (λ xs. co.in_files (a c.args.q.now.world.now) (map file_plain xs) None) (c.first_files.ensures ∙ ap (take c.args.users) c.as_slice.ensures)
    ∙ ap (λ xs. co.in_files (a c.args.q.now.world.now) xs None) (sym (take-map file_plain c.args.users files))
    ∙ ap (λ w. co.in_files (a w) (take c.args.users (map file_plain files)) None) (sym are.world))
    (c.in_files.ensures f are t ties)
