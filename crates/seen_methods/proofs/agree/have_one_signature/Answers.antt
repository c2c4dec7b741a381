use Rattle.std.proofs.Common.{subst, sym, ◌∙◌}
use Rattle.seen_methods.specs.Seen.{TellsParams}
use Rattle.seen_methods.proofs.Tells.{signature_told}
use Rattle.seen_methods.proofs.agree.have_one_signature.Goals as goal

pub returns-in_default : goal.returns-in_default
returns-in_default c =
    let none = subst (TellsParams c.args.w.now c.args.c c.args.m) c.in_default.is c.in_ok-xs.ensures in
    (λ e. absurd (cc e), λ h. absurd (none h.1.0 h.1.1))

pub returns-in_default-2 : goal.returns-in_default-2
returns-in_default-2 c =
    let none = subst (TellsParams c.args.w.now c.args.c c.args.k) c.in_default-2.is c.in_ok-ys.ensures in
    (λ e. absurd (cc e), λ h. absurd (none h.1.0 h.1.2))

pub returns : goal.returns
returns c =
    let told = signature_told c.args.w.now c.args.c c.args.m c.args.k c.in-Some.xs c.in-Some-2.ys (c.have_one_name.ensures.0 c.if-not-have_one_name.false)
    (subst (TellsParams c.args.w.now c.args.c c.args.m) c.in-Some.is c.in_ok-xs.ensures) (subst (TellsParams c.args.w.now c.args.c c.args.k) c.in-Some-2.is c.in_ok-ys.ensures) in (
      λ e. told.0 (sym c.as_slice.ensures ∙ c.are_same.ensures.0 e ∙ c.as_slice-2.ensures),
      λ h. c.are_same.ensures.1 (c.as_slice.ensures ∙ told.1 h ∙ sym c.as_slice-2.ensures),
    )
