-- Written types by their parts.
use Rattle.std.proofs.Common.{◌≡◌, ap}
use Rattle.java_core.specs.declared.written.CoreType.{CoreType, out-CoreType}
use Rattle.java_core.specs.View.{written}
use Rattle.java_core.proofs.Views.{type_out}
use Rattle.interface_text.specs.Types.{levels, said}

pub levels_said : (x : CoreType) → levels (said (written x)) ≡ levels (out-CoreType x).ty
levels_said x = ap (λ w. levels (said w)) (type_out x)
