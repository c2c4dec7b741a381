use Rattle.std.proofs.Common.{List, sym, ap, ◌∙◌, subst}
use Rattle.shared_maps.specs.declared.Map.{Map}
use Rattle.member_methods.specs.Methods.{AreInheritable, listed_in}
use Rattle.member_methods.proofs.MethodLists.inheritable.Goals as goal

pub returns : goal.returns
returns c = λ w holds.
    let t = c.args.self.now in
    let is = c.listed.ensures ∙ ap (λ (maps : List Map). listed_in t maps c.args.owner c.args.name c.args.arity) c.as_slice.ensures.value in
    subst (AreInheritable w c.args.owner c.args.name c.args.arity) (sym is) (holds.inheritable c.args.owner c.args.name c.args.arity)
