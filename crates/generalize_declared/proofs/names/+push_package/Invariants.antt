use Rattle.std.proofs.Common.{length}
use Rattle.generalize_declared.proofs.names.+push_package.Given as goal

abbrev pub decreases-push_package : goal.decreases-push_package
decreases-push_package l = length l.home.now
