use Rattle.std.proofs.Common.{◌≡◌, ◌↔◌, true, subst, rules}
use Rattle.std.specs.Prelude.{is_none}
use Rattle.type_names.specs.Rules.{NamesNoType}
use Rattle.type_names.proofs.Tested.{no_type}
use Rattle.type_names.proofs.imports.names_no_type.Goals as goal

pub returns-in-Some : goal.returns-in-Some
returns-in-Some c = λ ts f holds home is.
    let test : is_none c.type_in.result ≡ c.is_none.result = search rules in
    subst (λ b. (b ≡ true) ↔ NamesNoType ts f c.args.path.now) test
    (no_type ts f c.args.path.now c.in-Some.«package».now c.in-Some.name.now c.type_in.result c.in-Some.ensures.cases.0 (c.type_in.ensures ts f holds home is))
