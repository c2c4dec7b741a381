use Rattle.std.proofs.Common.{◌≡◌, ◌++◌, map, drop}
use Rattle.java_core.specs.View.{param_plain}
use Rattle.interface_text.specs.Text as spec
use Rattle.interface_text.proofs.methods.push_params.Given as goal

abbrev pub invariant-loop-param : goal.invariant-loop-param
invariant-loop-param l = l.out.items ++ spec.params_behind l.q l.before (map param_plain (drop l.param-index l.params)) ≡ l.fn.out.items ++ spec.params_text l.q (map param_plain l.params)
