-- Parts of declarations.
use Rattle.std.proofs.Common.{◌≡◌, ℕ, List, map}
use Rattle.std.specs.Prelude.{slice_get}
use Rattle.std.specs.Option.{option_map}
use Rattle.std.proofs.lemmas.Option.{slice_get-map}
use Rattle.java_core.specs.declared.stmt.CoreParam.{CoreParam}
use Rattle.java_core.specs.View.{param_plain}

pub param_at : (xs : List CoreParam) (i : ℕ) → slice_get (map param_plain xs) i ≡ option_map param_plain (slice_get xs i)
param_at xs i = slice_get-map param_plain xs i
