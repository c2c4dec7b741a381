-- Types whose variables are seen through the arguments of the classes on the way up.
use Rattle.class_world.specs.declared.world.JavaType.{JavaType}
use Rattle.class_world.specs.declared.seen.Seen.{Seen, Itself, Through'}
use Rattle.class_world.specs.Types.{substitute}

-- the type as it is seen: its variables stand for the arguments, and the variables of these for what is seen further down
abbrev pub seen_as : Seen → JavaType → JavaType
seen_as Itself t = t
seen_as (Through' args p seen) t = seen_as seen (substitute args.now t)
