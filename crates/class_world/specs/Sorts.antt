-- What the sorting of the classes answers.
use Rattle.class_world.specs.declared.world.World.{World}
use Rattle.class_world.specs.declared.sequence.Sorted.{Sorted}
use Rattle.class_world.specs.declared.sequence.Sorted.TheVariants as answer
use Rattle.class_world.specs.Merged.{IsAboveItself}
use Rattle.class_world.specs.Sequences.{IsSequence}

abbrev pub IsSorted : World → Sorted → Type 0
IsSorted w (answer.Sequence v) = IsSequence w v.items
IsSorted w (answer.AboveItself c) = IsAboveItself w c
