use Rattle.std.proofs.Common.{◌≡◌, drop}
use Rattle.changed_files.specs.FileEdits.{semicolon_end}
use Rattle.changed_files.proofs.import.semicolon_end.Given as goal

-- none so far
abbrev pub invariant-loop-token : goal.invariant-loop-token
invariant-loop-token l = semicolon_end l.text (drop l.token-index l.tokens) ≡ semicolon_end l.text l.tokens
