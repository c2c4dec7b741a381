use Rattle.std.proofs.Common.{◌≡◌, ◌≤◌, take}
use Rattle.command_words.specs.Names.{folder_of}
use Rattle.command_words.proofs.names.folder.Given as goal

abbrev pub invariant-loop-at : goal.invariant-loop-at
invariant-loop-at l = (l.end ≤ l.at) × (take l.end l.name ≡ folder_of (take l.at l.name))
