use Rattle.std.proofs.Common.{◌≡◌, length, arith}
use Rattle.signature_numbers.proofs.Whole.{numbers_below}
use Rattle.signature_numbers.proofs.SignatureNumbers.limit.Goals as goal

pub returns : goal.returns
returns c = λ a ps n is.
    let t = c.self.inside.steps.entries in
    let low = numbers_below t c.self.invariant a ps n (rw (← c.self.view_is) at is) in
    let len : c.len.result ≡ length t = c.len.ensures.len in
    omega (arith, low, len)
