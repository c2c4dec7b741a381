use Rattle.std.proofs.Common.{◌≡◌, Bool, false, IfOk, subst, sym, ◌∙◌}
use Rattle.std.specs.Prelude.{if◌then◌else◌}
use Rattle.operator_rules.specs.Operators as spec
use Rattle.operator_rules.proofs.conditionals.joined.Goals as goal

pub returns-else-is_one_primitive : goal.returns-else-is_one_primitive
returns-else-is_one_primitive c = λ f facts.
    let none : spec.is_one_primitive c.args.s.now c.args.t.now ≡ false = sym c.is_one_primitive.ensures ∙ c.if-is_one_primitive.false in
    subst (λ (b : Bool). IfOk c.larger.result (λ r. r ≡ (if b then spec.joined_primitives c.args.s.now c.args.t.now else spec.larger f c.args.s.now c.args.t.now)))
    (sym none) (c.larger.ensures f facts)
