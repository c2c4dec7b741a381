-- What is compared, as the definitions of program_maps have it.
use Rattle.std.specs.Prelude.{ℕ, ◌<◌, ◌^◌, length}
use Rattle.class_world.specs.Sound.{IsSound}
use Rattle.program_maps.specs.Ways.{ways}
use Rattle.program_maps.specs.Pairs.{Pair}
use Rattle.alike_trees.specs.declared.sides.Sides.{Sides}

abbrev pub pair : Sides → Pair
pair s = record { ways = ways s.map.now; others = s.others.now; world = s.world.now; strict = s.strict }

-- the new world's order can be asked for, and each of its types has a number of 32 bits
pub record IsReady (s : Sides) : Type 0 where
  pub sound : IsSound s.world.now
  pub few : length s.world.now.types < 2 ^ 32
