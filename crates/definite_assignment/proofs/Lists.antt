-- Lists of variables, put together.
use Rattle.std.proofs.Common.{◌≡◌, List, [], ◌∷◌, ◌++◌, refl}
use Rattle.definite_assignment.specs.declared.state.Variable.{Variable}
use Rattle.definite_assignment.specs.Variables.{either, with_one}

pub either_append : (xs ys zs : List Variable) → either xs (ys ++ zs) ≡ either (either xs ys) zs
either_append xs [] zs = refl
either_append xs (y ∷ ys) zs = either_append (with_one xs y) ys zs
