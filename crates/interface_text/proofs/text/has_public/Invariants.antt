use Rattle.std.proofs.Common.{◌≡◌, false, take}
use Rattle.std.specs.List.{list_any}
use Rattle.interface_text.specs.Text as spec
use Rattle.interface_text.proofs.text.has_public.Given as goal

abbrev pub invariant-loop-modifier : goal.invariant-loop-modifier
invariant-loop-modifier l = list_any spec.is_public_mod (take l.modifier-index l.mods) ≡ false
