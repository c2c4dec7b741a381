use Rattle.std.proofs.Common.{sym, ap, ◌∙◌}
use Rattle.std.specs.Prelude.{◌||◌}
use Rattle.type_places.specs.Changes.{raised}
use Rattle.type_constraints.proofs.flows.new_meets.Goals as goal

pub returns-then-fits : goal.returns-then-fits
returns-then-fits c =
    λ f are ts ties.
    ap (λ b. b || f.fits c.args.t.now (raised c.args.at.now.change.now c.args.s.now)) (sym c.if-fits.true ∙ c.fits.ensures f are ts ties ∙ ap (λ n. f.fits n c.args.t.now) c.in_ok-new.ensures)

pub returns : goal.returns
returns c =
    λ f are ts ties.
    c.fits-2.ensures f are ts ties ∙ ap (λ n. f.fits c.args.t.now n) c.in_ok-new.ensures
    ∙ ap (λ b. b || f.fits c.args.t.now (raised c.args.at.now.change.now c.args.s.now)) (sym c.if-fits.false ∙ c.fits.ensures f are ts ties ∙ ap (λ n. f.fits n c.args.t.now) c.in_ok-new.ensures)
