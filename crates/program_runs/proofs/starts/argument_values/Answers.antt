use Rattle.std.proofs.Common.{arith, ◌≡◌, suc, ◌+◌, [], ◌∷◌, ◌++◌, sym, ap, ◌∙◌, append_assoc, append-nil}
use Rattle.core_meaning.specs.declared.values.Value.TheVariants as v
use Rattle.core_meaning.specs.Runs.{arguments}
use Rattle.program_runs.proofs.starts.argument_values.Goals as goal

pub loop-number-preserved : goal.loop-number-preserved
loop-number-preserved c rest e =
    let n = c.loop-number.number in
    let f : suc rest + n ≡ c.args.count = omega (arith, e) in
    ap (λ xs. xs ++ arguments (n + 1) rest) c.in_ok-push.ensures.ok ∙ append_assoc c.loop-number.values (v.Text n ∷ []) (arguments (n + 1) rest) ∙ c.loop-number.invariant (suc rest) f

pub returns : goal.returns
returns c =
    let f : 0 + c.loop-number.number ≡ c.args.count = omega (arith, c.loop-number-test.false, c.loop-number.auto.number-end) in
    sym (append-nil c.loop-number.values) ∙ c.loop-number.invariant 0 f
