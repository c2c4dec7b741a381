use Rattle.std.proofs.Common.{inl}
use Rattle.inherited_rules.proofs.results.may_meet_namesake.Goals as goal

pub returns-then-has_closed_params : goal.returns-then-has_closed_params
returns-then-has_closed_params c never = inl (c.has_closed_params.ensures.0 c.if-has_closed_params.true)
