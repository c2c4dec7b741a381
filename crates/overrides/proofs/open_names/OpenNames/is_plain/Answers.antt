use Rattle.std.proofs.Common.{◌≡◌, false, sym, ap, ◌∙◌, subst}
use Rattle.std.proofs.lemmas.Bool.{not-true}
use Rattle.class_world.specs.declared.world.MethodInfo.{MethodInfo}
use Rattle.seen_methods.proofs.Tells.{one_method}
use Rattle.overrides.specs.Scopes.{is_open}
use Rattle.overrides.proofs.open_names.OpenNames.is_plain.Goals as goal

pub returns-in-Some : goal.returns-in-Some
returns-in-Some c h k i j is_m is_k name =
    let mine = c.in-Some.info.now in
    let same = one_method c.args.w.now c.args.m mine i c.in-Some.ensures.some is_m in
    let one = ap (λ (x : MethodInfo). x.name) same ∙ name in
    c.requires k j is_k (subst (λ n. is_open c.args.self.now n ≡ false) one (sym c.contains.ensures ∙ not-true c.contains.result h))
