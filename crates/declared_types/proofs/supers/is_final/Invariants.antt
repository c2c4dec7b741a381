use Rattle.std.proofs.Common.{◌≡◌, false, take}
use Rattle.std.specs.List.{list_any}
use Rattle.declared_types.specs.Looks.{is_final_mod}
use Rattle.declared_types.proofs.supers.is_final.Given as goal

abbrev pub invariant-loop-modifier : goal.invariant-loop-modifier
invariant-loop-modifier l = list_any is_final_mod (take l.modifier-index l.mods) ≡ false
