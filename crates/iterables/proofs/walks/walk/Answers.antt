use Rattle.std.proofs.Common.{refl, sym, ◌∙◌, arith}
use Rattle.std.proofs.lemmas.Option.{slice_get_within}
use Rattle.iterables.proofs.Calling.{next_none}
use Rattle.iterables.proofs.walks.walk.Goals as goal

pub loop-c-preserved : goal.loop-c-preserved
loop-c-preserved c =
    next_none c.args.names.now c.args.w.now c.loop-c.c c.in_ok-found.found (sym c.is_some.ensures ∙ c.if-is_some.false) c.in_ok-found.ensures c.loop-c.invariant

pub returns : goal.returns
returns c = λ v h.
    let it = h.iterable in
    let within = slice_get_within c.args.w.now.types v.iterable it.0 it.1 in
    c.loop-c.invariant v.iterable (omega (arith, within, c.loop-c-test.false, c.len-c-end.ensures)) v (h, refl)
