use Rattle.member_methods.specs.Keys.{found_in}
use Rattle.member_methods.proofs.Numbers.{AreBefore}
use Rattle.member_methods.proofs.keys.keyed.Given as goal

abbrev pub invariant-loop-info : goal.invariant-loop-info
invariant-loop-info l = AreBefore l.w (found_in l.keys) l.keyed.items l.info-index
