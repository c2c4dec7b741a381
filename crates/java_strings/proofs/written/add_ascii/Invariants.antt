use Rattle.std.proofs.Common.{◌≡◌, ◌++◌, take}
use Rattle.java_strings.proofs.written.add_ascii.Given as goal

abbrev pub invariant-loop-code : goal.invariant-loop-code
invariant-loop-code l = l.to ≡ l.initial.to ++ take l.code-index l.text
