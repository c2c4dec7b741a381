-- No literal so far has these units.
use Rattle.std.proofs.Common.{◌≡◌, drop}
use Rattle.std.specs.List.{find}
use Rattle.core_meaning.specs.Texts.{is_text}
use Rattle.run_state.proofs.texts.find_literal.Given as goal

abbrev pub invariant-loop-text : goal.invariant-loop-text
invariant-loop-text l =
    find (is_text l.units l.state.texts) l.state.literals ≡ find (is_text l.units l.state.texts) (drop l.text-index l.state.literals)
