use Rattle.std.proofs.Common.{◌≡◌, Some, nat_eq, refl, sym, inr}
use Rattle.std.specs.HashMap.{get}
use Rattle.counted_methods.proofs.chosen.add_better.Goals as goal
use Rattle.counted_methods.proofs.chosen.add_better.Goals.{in-Some, in-None}

pub returns-else-is_better : goal.returns-else-is_better
returns-else-is_better c = elim c.match-get.branch [
  | in-Some v ↦
      let at : get nat_eq c.args.best.now c.args.sign ≡ Some v.in-Some.k.now = sym v.in-Some.ensures.value in
      record {
        others = λ n other. refl;
        here = inr (v.in-Some.k.now, at, at, λ less. let yes = v.is_preferred-is_better.ensures.1 less in absurd (cc (yes, v.is_better-is, c.if-is_better.false)));
      }
  | in-None v ↦ absurd (cc (v.is_better-is, c.if-is_better.false))
]
