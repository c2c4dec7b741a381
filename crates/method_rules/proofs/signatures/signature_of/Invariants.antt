use Rattle.std.proofs.Common.{◌≡◌, take}
use Rattle.std.specs.Prelude.{flat_map}
use Rattle.method_rules.specs.Signatures.{parts}
use Rattle.method_rules.proofs.signatures.signature_of.Given as goal

abbrev pub invariant-loop-t : goal.invariant-loop-t
invariant-loop-t l = l.params.items ≡ flat_map parts (take l.t-index l.t-items)
