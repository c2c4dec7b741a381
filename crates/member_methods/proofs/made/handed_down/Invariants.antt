use Rattle.member_methods.specs.Tables.{IsMapOf}
use Rattle.member_methods.specs.Made.{Lists}
use Rattle.member_methods.proofs.Taken.{IsOpenFirst}
use Rattle.member_methods.proofs.made.handed_down.Given as goal

abbrev pub invariant-loop-group : goal.invariant-loop-group
invariant-loop-group l = IsMapOf l.fn.tables l.tables l.map (IsOpenFirst l.fn.w l.fn.groups l.group-index (Lists l.fn.tables l.fn.members))
