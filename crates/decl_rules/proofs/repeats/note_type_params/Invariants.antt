use Rattle.std.proofs.Common.{map, drop, ◌≡◌, ◌++◌}
use Rattle.decl_rules.specs.DeclaredLooks as spec
use Rattle.decl_rules.proofs.repeats.note_type_params.Given as goal

abbrev pub invariant-loop-name : goal.invariant-loop-name
invariant-loop-name l = l.list.items ++ map (spec.named_at l.node) (drop l.name-index l.params) ≡ map (spec.named_at l.node) l.params
