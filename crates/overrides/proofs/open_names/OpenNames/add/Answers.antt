use Rattle.overrides.proofs.open_names.OpenNames.add.Goals as goal

pub returns-then-has_closed_params-clause-added : goal.returns-then-has_closed_params-clause-added
returns-then-has_closed_params-clause-added c info is closed = c.has_closed_params.ensures.0 c.if-has_closed_params.true info is
