-- The characters so far are those before the item.
use Rattle.std.proofs.Common.{◌≡◌, ◌++◌, drop}
use Rattle.std.specs.Option.{option_map}
use Rattle.core_meaning.specs.Members.{chars_of}
use Rattle.run_state.proofs.texts.chars_in.Given as goal

abbrev pub invariant-loop-item : goal.invariant-loop-item
invariant-loop-item l = chars_of l.items ≡ option_map (λ more. l.chars ++ more) (chars_of (drop l.item-index l.items))
