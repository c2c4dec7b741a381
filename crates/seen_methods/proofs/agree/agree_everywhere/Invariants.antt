use Rattle.std.proofs.Common.{ℕ, ◌<◌}
use Rattle.seen_methods.proofs.Tells.{AgreeAt}
use Rattle.seen_methods.proofs.agree.agree_everywhere.Given as goal

abbrev pub invariant-loop-c : goal.invariant-loop-c
invariant-loop-c l = (d : ℕ) → d < l.c → AgreeAt l.w l.m l.k d
