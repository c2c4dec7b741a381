use Rattle.std.proofs.Common.{sym, ap, ◌∙◌}
use Rattle.std.specs.Prelude.{◌&&◌, ◌||◌, not}
use Rattle.extract_constraints.specs.Groups.{is_among}
use Rattle.extract_constraints.specs.Told.{where_of}
use Rattle.extract_constraints.specs.Receivers as spec
use Rattle.extract_constraints.proofs.receivers.answers_info.Goals as goal

pub returns-then-is_static : goal.returns-then-is_static
returns-then-is_static c =
    λ k told.
    let a = where_of c.args.at.now in
    ap (λ b. not b && (is_among c.args.at.now.methods.now c.args.m || spec.is_of_object k a c.args.m)) (sym c.if-is_static.true ∙ c.is_static.ensures)

pub returns-then-is_among : goal.returns-then-is_among
returns-then-is_among c =
    λ k told.
    let a = where_of c.args.at.now in
    ap (λ b. b || spec.is_of_object k a c.args.m) (sym c.if-is_among.true ∙ c.is_among.ensures)
    ∙ ap (λ b. not b && (is_among c.args.at.now.methods.now c.args.m || spec.is_of_object k a c.args.m)) (sym c.if-is_static.false ∙ c.is_static.ensures)

pub returns : goal.returns
returns c =
    λ k told.
    let a = where_of c.args.at.now in
    c.is_of_object.ensures k told ∙ ap (λ b. b || spec.is_of_object k a c.args.m) (sym c.if-is_among.false ∙ c.is_among.ensures)
    ∙ ap (λ b. not b && (is_among c.args.at.now.methods.now c.args.m || spec.is_of_object k a c.args.m)) (sym c.if-is_static.false ∙ c.is_static.ensures)
