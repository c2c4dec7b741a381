use Rattle.std.proofs.Common.{rules, arith}
use Rattle.command_words.specs.Names.{IsPart, IsPath}
use Rattle.command_words.proofs.Paths.{halves_shorter, halves_true, halves_false, path_at_end}
use Rattle.command_words.proofs.names.is_path.Goals as goal

pub loop-part-smaller : goal.loop-part-smaller
loop-part-smaller c =
    let h = c.in-Some.ensures.byte (omega arith) (λ w o f. f) in
    halves_shorter c.loop-part.tail.now c.in-Some.part.now c.in-Some.rest.now (record { front = h.0; back = h.1; has = h.2 })

pub loop-part-preserved : goal.loop-part-preserved
loop-part-preserved c =
    let h = c.in-Some.ensures.byte (omega arith) (λ w o f. f) in
    let part : IsPart c.in-Some.part.now = search rules in
    record {
      same = halves_true c.loop-part.tail.now c.in-Some.part.now c.in-Some.rest.now (IsPath c.args.name.now) (record { front = h.0; back = h.1; has = h.2 }) part c.loop-part.invariant.same;
      text = search rules;
    }

pub returns-then-not-is_part : goal.returns-then-not-is_part
returns-then-not-is_part c =
    let h = c.in-Some.ensures.byte (omega arith) (λ w o f. f) in
    let lacks : IsPart c.in-Some.part.now → ⊥ = search rules in
    (λ t. absurd (cc), λ p. absurd (halves_false c.loop-part.tail.now c.in-Some.part.now c.in-Some.rest.now (IsPath c.args.name.now) (record { front = h.0; back = h.1; has = h.2 }) lacks c.loop-part.invariant.same p))

pub returns : goal.returns
returns c =
    let h = c.in_default.ensures.byte (omega arith) (λ w o f. f) in
    let end = path_at_end c.loop-part.tail.now h in
    (λ t. c.loop-part.invariant.same.0 (end.0 (c.is_part-2.ensures.0 t)), λ p. c.is_part-2.ensures.1 (end.1 (c.loop-part.invariant.same.1 p)))
