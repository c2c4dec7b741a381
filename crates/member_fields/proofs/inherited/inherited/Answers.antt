use Rattle.std.proofs.Common.{subst}
use Rattle.std.specs.Prelude.{Contains}
use Rattle.member_fields.proofs.Adding.{sums_alike}
use Rattle.member_fields.proofs.Heights.{handed_alike}
use Rattle.member_fields.proofs.Steps.{if_ok}
use Rattle.member_fields.proofs.inherited.inherited.Goals as goal

pub merged_all-requires : goal.merged_all-requires
merged_all-requires c = λ s has. c.requires.above s ((c.in_ok-above.ensures s).0 (subst (λ xs. Contains xs s) c.deref.ensures.value has))

pub returns-clause-inherits : goal.returns-clause-inherits
returns-clause-inherits c =
    if_ok _ c.merged_all.ensures.sums (λ r h. sums_alike (handed_alike c.args.w.now c.args.c c.deref.result.now c.in_ok-above.above.items c.deref.ensures.value c.in_ok-above.ensures) h)
