use Rattle.std.proofs.Common.{Some, ap, refl, sym, ◌∙◌}
use Rattle.std.specs.Prelude.{not, ◌||◌}
use Rattle.extract_constraints.proofs.Numbers.{none_of, some_of}
use Rattle.extract_constraints.specs.Arguments as ar
use Rattle.extract_constraints.proofs.arguments.as_argument.Goals as goal

pub returns-then-is_empty : goal.returns-then-is_empty
returns-then-is_empty c =
    λ k told.
    sym (none_of (λ xs. ar.as_argument k c.args.before c.args.s.now c.args.place (Some c.in-Some.class) xs) c.args.args.now (sym c.if-is_empty.true ∙ c.is_empty.ensures)) ∙ sym (ap (λ o. ar.as_argument k c.args.before c.args.s.now c.args.place o c.args.args.now) c.in-Some.is)

pub returns-in_ok-up-in-Some : goal.returns-in_ok-up-in-Some
returns-in_ok-up-in-Some c =
    λ k told.
    c.is_kept.ensures ∙ ap (λ o. not c.args.before || not (ar.has_place c.args.place o)) (c.in_ok-up-in-Some.ensures k told)
    ∙ sym (some_of (λ xs. ar.as_argument k c.args.before c.args.s.now c.args.place (Some c.in-Some.class) xs) (not c.args.before || not (ar.has_place c.args.place (k.facts.super_as c.args.s.now c.in-Some.class))) (λ q qs. refl) c.args.args.now (sym c.if-is_empty.false ∙ c.is_empty.ensures)) ∙ sym (ap (λ o. ar.as_argument k c.args.before c.args.s.now c.args.place o c.args.args.now) c.in-Some.is)
