use Rattle.std.proofs.Common.{◌≡◌, [], take, drop}
use Rattle.report_reading.specs.Reading as spec
use Rattle.report_reading.proofs.words.seek.Given as goal

abbrev pub invariant-loop-at : goal.invariant-loop-at
invariant-loop-at l = spec.seek l.end [] l.text ≡ spec.seek l.end (take l.at l.text) (drop l.at l.text)
