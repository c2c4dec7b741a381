use Rattle.std.proofs.Common.{rules, ◌≡◌, ◌<◌, sym, ◌∙◌, Some, None, arith, subst, take, ap}
use Rattle.java_lexer.specs.Values.{in_u64, written}
use Rattle.java_lexer.proofs.ValueLemmas.{escape_small, some_same, in_u64_some}
use Rattle.java_lexer.proofs.values.escape_unit.Goals as goal

pub overflow_cast-result : goal.overflow_cast-result
overflow_cast-result c =
    let e : in_u64 (written 8 0 c.split_at.result.0.now) ≡ Some c.in-Some.n = sym c.written.ensures ∙ c.in-Some.is in
    let n = some_same (written 8 0 c.split_at.result.0.now) c.in-Some.n e in
    let f = c.split_at.ensures.front ∙ ap (λ k. take k c.args.text.now) c.octal_len.ensures.value in
    let small = escape_small c.args.text.now in
    let m : c.in-Some.n < 65536 = subst (λ k. k < 65536) (ap (written 8 0) (sym f) ∙ n) small in
    search rules

pub unreachable-requires : goal.unreachable-requires
unreachable-requires c =
    let e : in_u64 (written 8 0 c.split_at.result.0.now) ≡ None = sym c.written.ensures ∙ c.in-None.is in
    let f = c.split_at.ensures.front ∙ ap (λ k. take k c.args.text.now) c.octal_len.ensures.value in
    let small = escape_small c.args.text.now in
    let m : written 8 0 c.split_at.result.0.now < 65536 = subst (λ k. k < 65536) (ap (written 8 0) (sym f)) small in
    let s = in_u64_some (written 8 0 c.split_at.result.0.now) (omega arith) in
    cc (sym e ∙ s)
