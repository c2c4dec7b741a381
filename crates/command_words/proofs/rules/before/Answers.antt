use Rattle.std.proofs.Common.{◌≡◌, ◌≢◌, ℕ, List, ◌++◌}
use Rattle.std.proofs.lemmas.Bool.Decides.{Decides-eqb}
use Rattle.std.proofs.lemmas.Slice.Eq.{strip_suffix_is}
use Rattle.command_words.proofs.Options.{match_some, match_none}
use Rattle.command_words.proofs.rules.before.Goals as goal

pub returns-clause-some : goal.returns-clause-some
returns-clause-some c =
    match_some c.strip_suffix.result ((rest : List ℕ) → c.args.name.now ≢ rest ++ c.args.end.now) (λ rest. c.args.name.now ≡ rest.now ++ c.args.end.now)
    (strip_suffix_is Decides-eqb c.args.name.now c.args.end.now c.strip_suffix.result c.strip_suffix.ensures.cases)

pub returns-clause-none : goal.returns-clause-none
returns-clause-none c =
    match_none c.strip_suffix.result ((rest : List ℕ) → c.args.name.now ≢ rest ++ c.args.end.now) (λ rest. c.args.name.now ≡ rest.now ++ c.args.end.now)
    (strip_suffix_is Decides-eqb c.args.name.now c.args.end.now c.strip_suffix.result c.strip_suffix.ensures.cases)
