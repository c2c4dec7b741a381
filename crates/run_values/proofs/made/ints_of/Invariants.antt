-- The ints so far are those before the value.
use Rattle.std.proofs.Common.{◌≡◌, ◌++◌, drop}
use Rattle.std.specs.Option.{option_map}
use Rattle.core_meaning.specs.Expressions.{ints_of}
use Rattle.run_values.proofs.made.ints_of.Given as goal

abbrev pub invariant-loop-value : goal.invariant-loop-value
invariant-loop-value l = ints_of l.values ≡ option_map (λ more. l.ints ++ more) (ints_of (drop l.value-index l.values))
