use Rattle.std.proofs.Common.{ap, ◌∙◌}
use Rattle.type_constraints.proofs.changed.new_fits.Goals as goal

pub returns : goal.returns
returns c =
    λ f are ts ties.
    c.fits.ensures f are ts ties ∙ ap (λ n. f.fits n c.args.t.now) c.in_ok-new.ensures
