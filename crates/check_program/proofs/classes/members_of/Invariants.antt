use Rattle.std.proofs.Common.{◌≡◌, ◌+◌, ◌++◌, ℕ, map, drop, take, length}
use Rattle.java_tree.specs.View as view
use Rattle.checked.specs.Checked.{behind}
use Rattle.type_facts.specs.Facts.{AreFacts, Facts}
use Rattle.java_core.specs.View.{member_plain}
use Rattle.check_program.specs.Classes as spec
use Rattle.check_program.proofs.classes.members_of.Given as goal

abbrev pub invariant-loop-m : goal.invariant-loop-m
invariant-loop-m l = (f : Facts) → AreFacts l.q f → behind (map member_plain l.done) (spec.members_of f l.place l.interface l.field l.method (map view.member_plain (drop l.m-index l.ms))) ≡ spec.members_of f l.place l.interface l.initial.field l.initial.method (map view.member_plain l.ms)
