use Rattle.std.proofs.Common.{◌≡◌, ◌≢◌, ℕ, List, ◌++◌}
use Rattle.std.proofs.lemmas.Bool.Decides.{Decides-eqb}
use Rattle.std.proofs.lemmas.Slice.Eq.{strip_prefix_is}
use Rattle.command_words.proofs.Options.{match_some, match_none}
use Rattle.command_words.proofs.rules.behind.Goals as goal

pub returns-clause-some : goal.returns-clause-some
returns-clause-some c =
    match_some c.strip_prefix.result ((rest : List ℕ) → c.args.name.now ≢ c.args.front.now ++ rest) (λ rest. c.args.name.now ≡ c.args.front.now ++ rest.now)
    (strip_prefix_is Decides-eqb c.args.name.now c.args.front.now c.strip_prefix.result c.strip_prefix.ensures.cases)

pub returns-clause-none : goal.returns-clause-none
returns-clause-none c =
    match_none c.strip_prefix.result ((rest : List ℕ) → c.args.name.now ≢ c.args.front.now ++ rest) (λ rest. c.args.name.now ≡ c.args.front.now ++ rest.now)
    (strip_prefix_is Decides-eqb c.args.name.now c.args.front.now c.strip_prefix.result c.strip_prefix.ensures.cases)
