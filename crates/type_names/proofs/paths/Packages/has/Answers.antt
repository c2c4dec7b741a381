use Rattle.std.proofs.Common.{◌≡◌, ◌↔◌, true, subst, rules}
use Rattle.std.specs.Option.{is_some}
use Rattle.type_names.specs.Paths.{HasPath}
use Rattle.type_names.proofs.Trees.{has_told}
use Rattle.type_names.proofs.paths.Packages.has.Goals as goal

pub returns : goal.returns
returns c =
    let test : is_some c.number_of.result ≡ c.is_some.result = search rules in
    subst (λ b. (b ≡ true) ↔ HasPath c.args.self.now c.args.path.now) test (has_told c.args.self.now c.args.path.now c.number_of.result c.number_of.ensures)
