use Rattle.std.proofs.Common.{◌≡◌, length}
use Rattle.overrides.specs.declared.links.Link.{Link}
use Rattle.overrides.specs.Rounds.{AreTaken, IsFollowed}
use Rattle.overrides.proofs.Gains.{AtPlace, IsPass}
use Rattle.overrides.proofs.rounds.add_round.Given as goal

abbrev pub invariant-loop-i : goal.invariant-loop-i
invariant-loop-i l = record {
  pass : IsPass l.w l.fn.table l.table l.added (AtPlace l.links (λ t (x : Link). IsFollowed l.w t x.lower x.upper)) l.i;
  size : length l.taken.items ≡ length l.links;
  taken : AreTaken l.w l.table l.links l.taken.items;
}
