use Rattle.std.proofs.Common.{arith}
use Rattle.command_words.proofs.RuleLemmas.{read_at}
use Rattle.command_words.proofs.request.Request.allowed.Goals as goal

pub returns-in_err-place_number-in-Allowed-len3-clause-none : goal.returns-in_err-place_number-in-Allowed-len3-clause-none
returns-in_err-place_number-in-Allowed-len3-clause-none c =
    rw c.from_residual.ensures (λ e s h.
    let f = h 1 c.as_str-in-Allowed-len3.result.now (read_at c.args.self.now.own.now 1 c.line-item.result c.as_str-in-Allowed-len3.result.now (omega (arith, c.in-Allowed-len3.len_at_least)) c.line-item.is c.as_str-in-Allowed-len3.ensures.value) in
    c.in_err-place_number-in-Allowed-len3.ensures.none f.0 f.1 f.2)

pub returns-in_err-place_number-in-Allowed-len3-2-clause-none : goal.returns-in_err-place_number-in-Allowed-len3-2-clause-none
returns-in_err-place_number-in-Allowed-len3-2-clause-none c =
    rw c.from_residual-in_err-place_number-in-Allowed-len3-2.ensures (λ e s h.
    let f = h 2 c.as_str-in-Allowed-len3-2.result.now (read_at c.args.self.now.own.now 2 c.col-item.result c.as_str-in-Allowed-len3-2.result.now (omega (arith, c.in-Allowed-len3.len_at_least)) c.col-item.is c.as_str-in-Allowed-len3-2.ensures.value) in
    c.in_err-place_number-in-Allowed-len3-2.ensures.none f.0 f.1 f.2)
