use Rattle.std.proofs.Common.{sym, ◌∙◌, ap}
use Rattle.type_facts.specs.Members as spec
use Rattle.type_facts.proofs.seen.seen_by.Goals as goal

pub returns : goal.returns
returns c = λ f are.
    c.through.ensures
    ∙ ap (λ up. spec.through up c.params_of.result) (c.in_ok-up.ensures f are)
    ∙ ap (spec.through (f.super_as c.args.t.now c.args.o)) (c.params_of.ensures ∙ ap (λ w. spec.params_at w c.args.o) (sym are.world))
    ∙ ap (spec.seen_by f c.args.t.now c.args.o) (sym c.if-is_static.false)
