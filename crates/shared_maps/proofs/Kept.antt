-- Memories one after another, for callers. `value_within` of Views says that a key with a value is below the limit.
use Rattle.std.proofs.Common.{refl, ◌∙◌}
use Rattle.shared_maps.specs.Trees.{Memory}
use Rattle.shared_maps.specs.Maps.{KeepsMaps}

pub keeps_itself : (m : Memory) → KeepsMaps m m
keeps_itself m = record { keys = refl; map = λ map is. is; value = λ map is key. refl }

pub keeps_both : {a b c : Memory} → KeepsMaps a b → KeepsMaps b c → KeepsMaps a c
keeps_both first second = record {
  keys = second.keys ∙ first.keys;
  map = λ map is. second.map map (first.map map is);
  value = λ map is key. second.value map (first.map map is) key ∙ first.value map is key;
}
