use Rattle.std.proofs.Common.{sym, ap, ◌∙◌}
use Rattle.class_world.proofs.Orders.{widens}
use Rattle.class_world.proofs.Decides.{char_widens, int_widens, int_widens_on, long_widens, boolean_widens, widens_told}
use Rattle.class_world.proofs.subtypes.widens.Goals as goal

pub returns-in-Char : goal.returns-in-Char
returns-in-Char c = λ w sound. widens_told w sound _ _ _ (c.ne.ensures ∙ char_widens c.args.q ∙ ap (λ p. widens p c.args.q) (sym c.in-Char.is))

pub returns-then-eq : goal.returns-then-eq
returns-then-eq c = λ w sound. widens_told w sound _ _ _ (c.if-eq.true ∙ sym (int_widens c.args.q (sym c.if-eq.ensures)) ∙ ap (λ p. widens p c.args.q) (sym c.in-Int.is))

pub returns-else-eq : goal.returns-else-eq
returns-else-eq c = λ w sound. widens_told w sound _ _ _ (c.eq-else-eq.ensures ∙ int_widens_on c.args.q (sym c.if-eq.ensures) ∙ ap (λ p. widens p c.args.q) (sym c.in-Int.is))

pub returns-in-Long : goal.returns-in-Long
returns-in-Long c = λ w sound. widens_told w sound _ _ _ (c.eq-in-Long.ensures ∙ long_widens c.args.q ∙ ap (λ p. widens p c.args.q) (sym c.in-Long.is))

pub returns-in-Boolean : goal.returns-in-Boolean
returns-in-Boolean c = λ w sound. widens_told w sound _ _ _ (c.eq-in-Boolean.ensures ∙ boolean_widens c.args.q ∙ ap (λ p. widens p c.args.q) (sym c.in-Boolean.is))
