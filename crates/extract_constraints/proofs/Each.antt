-- What holds whatever tells the program.
use Rattle.std.proofs.Common.{◌≡◌, sym, ap}
use Rattle.java_core.specs.declared.expr.CoreExpr.{CoreExpr}
use Rattle.java_core.specs.View.{plain}
use Rattle.java_core.proofs.Views.{plain_at}
use Rattle.type_kinds.specs.Kinds.{ty_of}
use Rattle.extract_constraints.specs.declared.place.Place.{Place}
use Rattle.extract_constraints.specs.Told.{AreTold, Told, Where, where_of}

abbrev pub Each : Place → (Told → Where → Type 0) → Type 0
Each p P = (k : Told) → AreTold p.reader.q k → P k (where_of p)

pub ty_at : (x : CoreExpr) → x.ty ≡ ty_of (plain x)
ty_at x = sym (ap ty_of (plain_at x))
