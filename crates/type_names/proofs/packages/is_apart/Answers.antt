use Rattle.std.proofs.Common.{◌≡◌, ◌∙◌, ap, not}
use Rattle.type_names.specs.Sees.{same_path}
use Rattle.type_names.proofs.Tested.{apart_is}
use Rattle.type_names.proofs.packages.is_apart.Goals as goal

pub returns-in-Some : goal.returns-in-Some
returns-in-Some c =
    let test : c.ne.result ≡ not (same_path c.args.path.now c.in-Some.first.now.«package») = c.ne.ensures ∙ ap (λ p. not (same_path c.args.path.now p)) c.as_slice.ensures in
    apart_is c.args.units.now c.in-Some.first.now c.args.path.now c.ne.result c.in-Some.ensures.value test
