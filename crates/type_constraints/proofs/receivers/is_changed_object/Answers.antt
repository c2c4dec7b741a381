use Rattle.std.proofs.Common.{sym, ap, ◌∙◌}
use Rattle.std.specs.Prelude.{◌&&◌, not, is_some}
use Rattle.java_core.specs.View.{plain}
use Rattle.type_kinds.specs.Kinds.{element, ty_of}
use Rattle.thrown_exceptions.proofs.Forms.{ty_at}
use Rattle.type_constraints.proofs.receivers.is_changed_object.Goals as goal

pub returns-then-branch : goal.returns-then-branch
returns-then-branch c =
    λ f are ts ties.
    ap not (c.is_array.ensures ∙ ap (λ u. is_some (element u)) (ty_at c.args.x.now)) ∙ ap (λ b. b && not (is_some (element (ty_of (plain c.args.x.now))))) (sym c.if-branch.true ∙ c.in_ok-changed.ensures f are ts ties)

pub returns : goal.returns
returns c =
    λ f are ts ties.
    ap (λ b. b && not (is_some (element (ty_of (plain c.args.x.now))))) (sym c.if-branch.false ∙ c.in_ok-changed.ensures f are ts ties)
