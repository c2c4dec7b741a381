use Rattle.std.proofs.Common.{◌≡◌, false, take}
use Rattle.std.specs.List.{list_any}
use Rattle.type_names.specs.Known.{is_public_mod}
use Rattle.program_world.proofs.members.is_public.Given as goal

abbrev pub invariant-loop-modifier : goal.invariant-loop-modifier
invariant-loop-modifier l = list_any is_public_mod (take l.modifier-index l.modifier-items) ≡ false
