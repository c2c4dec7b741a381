use Rattle.std.proofs.Common.{ap, ◌∙◌}
use Rattle.extract_constraints.proofs.flows.new_fits.Goals as goal

pub returns : goal.returns
returns c = λ k told. c.fits.ensures k told ∙ ap (λ n. k.facts.fits n c.args.t.now) c.in_ok-new.ensures
