use Rattle.std.proofs.Common.{◌≡◌, suc, ◌-◌, ◌+◌, ◌∷◌, length, sym, ◌∙◌, ap, subst, arith}
use Rattle.edit_writer.specs.Places.{place_from, place_at}
use Rattle.edit_writer.proofs.Lines.{one_on, step_small}
use Rattle.edit_writer.proofs.places.place_at.Goals as goal

pub bytes-preserved : goal.bytes-preserved
bytes-preserved c =
    let split : c.bytes.rest.now ≡ c.in-Some.byte.now ∷ c.in-Some.behind.now = c.in-Some.ensures.cases.0 in
    let longer : length c.bytes.rest.now ≡ length c.in-Some.behind.now + 1 = ap length split ∙ omega arith in
    let less : c.bytes.left ≡ suc (c.bytes.left - 1) = omega (arith, c.if-left-eq0.false) in
    let here = subst (λ n. place_from c.bytes.at.line c.bytes.at.col c.bytes.rest.now n ≡ place_at c.args.text.now c.args.offset) less c.bytes.invariant.same in
    let turn = subst (λ xs. place_from c.bytes.at.line c.bytes.at.col xs (suc (c.bytes.left - 1)) ≡ place_at c.args.text.now c.args.offset) split here in
    let small = step_small c.bytes.at.line c.bytes.at.col c.in-Some.byte.now c.in-Some.behind.now c.step-at.result (length c.args.text.now + 1 - length c.bytes.rest.now) c.step-at.ensures (omega (arith, c.bytes.invariant.line)) (omega (arith, c.bytes.invariant.col)) in
    record {
      same = sym (one_on c.bytes.at.line c.bytes.at.col c.in-Some.byte.now c.in-Some.behind.now (c.bytes.left - 1) c.step-at.result c.step-at.ensures) ∙ turn;
      within = omega (arith, c.bytes.invariant.within, longer);
      line = omega (arith, small.0, longer, c.bytes.invariant.line);
      col = omega (arith, small.1, longer, c.bytes.invariant.col);
    }
