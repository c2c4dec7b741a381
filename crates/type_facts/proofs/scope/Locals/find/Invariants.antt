use Rattle.std.proofs.Common.{◌≡◌, drop}
use Rattle.std.specs.Option.{option_copied}
use Rattle.type_facts.specs.Scopes.{find_from, find_local}
use Rattle.type_facts.proofs.scope.Locals.find.Given as goal

abbrev pub invariant-loop-local : goal.invariant-loop-local
invariant-loop-local l = find_from (option_copied l.found) (drop l.local-index l.self) l.name ≡ find_local l.self l.name
