use Rattle.std.proofs.Common.{◌≡◌, None, sym, ap, ◌∙◌, ◌+◌, length}
use Rattle.std.specs.Option.{option_copied, is_some}
use Rattle.std.specs.Prelude.{if◌then◌else◌}
use Rattle.type_names.specs.declared.paths.Step.{Step}
use Rattle.type_names.specs.Paths.{found_in}
use Rattle.type_names.proofs.Trees.{added_has}
use Rattle.type_names.proofs.paths.add_step.Goals as goal

pub returns-clause-good : goal.returns-clause-good
returns-clause-good c =
    let old = c.args.steps.now.entries in
    let key : Step = record { after = c.args.after; name = c.args.name } in
    let none : found_in old key ≡ None = sym c.get.ensures.value ∙ ap option_copied c.in_default.is in
    let node : c.in-Ok.node ≡ length old + 1 = c.in-Ok.ensures.1 ∙ ap (λ n. n + 1) c.len.ensures.len in
    added_has old c.insert.new.self.entries key c.in-Ok.node c.in_ok-insert.ensures.updates.0 node c.requires
    (c.in_ok-insert.ensures.len ∙ ap (λ o. length old + (if is_some o then 0 else 1)) (c.in_ok-insert.ensures.old ∙ none))
