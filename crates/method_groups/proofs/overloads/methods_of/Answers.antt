use Rattle.std.proofs.Common.{◌≡◌, Some, sym, ap, ◌∙◌, subst}
use Rattle.std.specs.Prelude.{slice_get}
use Rattle.std.specs.Option.{option_copied}
use Rattle.member_methods.specs.Methods.{AreNamed}
use Rattle.method_groups.proofs.Beside.{list_told}
use Rattle.method_groups.proofs.overloads.methods_of.Goals as goal

pub returns-in-Some-clause-has : goal.returns-in-Some-clause-has
returns-in-Some-clause-has c = λ its.
    let w = c.args.w.now in
    let info = c.in-Some.info.now in
    let at : slice_get w.methods c.args.x.method ≡ Some info = sym c.get.ensures.value ∙ ap option_copied c.in-Some.is in
    let named = subst (λ n. AreNamed w c.args.x.member_of info.name n c.named.result.now) c.len.ensures (c.named.ensures w c.requires) in
    list_told w c.args.x.member_of c.args.x.method info c.named.result.now at named its

pub returns-in-Some-clause-ascending : goal.returns-in-Some-clause-ascending
returns-in-Some-clause-ascending c = (c.named.ensures c.args.w.now c.requires).1
