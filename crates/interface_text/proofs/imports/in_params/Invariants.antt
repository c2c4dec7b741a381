use Rattle.std.proofs.Common.{◌≡◌, map, drop}
use Rattle.java_core.specs.View.{param_plain}
use Rattle.interface_text.specs.Imports as spec
use Rattle.interface_text.proofs.imports.in_params.Given as goal

abbrev pub invariant-loop-param : goal.invariant-loop-param
invariant-loop-param l = spec.in_params l.q (map param_plain (drop l.param-index l.params)) l.found ≡ spec.in_params l.q (map param_plain l.params) l.fn.found
