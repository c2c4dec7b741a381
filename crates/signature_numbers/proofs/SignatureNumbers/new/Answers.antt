use Rattle.signature_numbers.proofs.Whole.{none_numbered}
use Rattle.signature_numbers.proofs.SignatureNumbers.new.Goals as goal

pub returns : goal.returns
returns c = record { none = λ a ps. none_numbered c.new.result.entries c.new.ensures.empty a ps }
