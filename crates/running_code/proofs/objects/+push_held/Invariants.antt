use Rattle.running_code.proofs.objects.+push_held.Given as goal

abbrev pub decreases-push_held : goal.decreases-push_held
decreases-push_held l = l.n
