use Rattle.std.proofs.Common.{drop, ◌≡◌, []}
use Rattle.decl_rules.specs.DeclaredLooks as spec
use Rattle.decl_rules.proofs.repeats.note_again.Given as goal

abbrev pub invariant-loop-item : goal.invariant-loop-item
invariant-loop-item l = spec.again l.rule l.seen.keys (drop l.item-index l.items) l.first ≡ spec.again l.rule [] l.items l.fn.first
