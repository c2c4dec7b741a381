use Rattle.std.proofs.Common.{get_or, inl, inr, arith}
use Rattle.std.proofs.lemmas.List.Elements.{Contains-get_or}
use Rattle.std.proofs.lemmas.Option.{slice_get-get_or}
use Rattle.method_groups.proofs.Firsts.{among_all, among_contains}
use Rattle.method_groups.proofs.Takers.{keeps_none, keeps_both, takes_none, takes_next}
use Rattle.method_groups.proofs.taking.take_all.Goals as goal

pub loop-m-init : goal.loop-m-init
loop-m-init c = record {
  taken = c.requires.taken;
  adds = takes_none c.args.taken.now.items c.args.methods.now;
  kept = keeps_none c.args.takers.now.items c.args.label;
}

pub take-requires-clause-within : goal.take-requires-clause-within
take-requires-clause-within c =
    let methods = c.args.methods.now in
    let i = c.loop-m.m-index in
    let lt = c.requires.within (get_or methods i 0) (Contains-get_or methods i 0 c.loop-m-test.true) in
    let size = c.loop-m.invariant.kept.size in
    omega (arith, lt, size)

pub loop-m-preserved : goal.loop-m-preserved
loop-m-preserved c =
    let methods = c.args.methods.now in
    let i = c.loop-m.m-index in
    let h = c.loop-m.invariant in
    let one = c.in_ok-take.ensures in
    record {
      taken = one.taken;
      adds = takes_next c.args.taken.now.items c.loop-m.taken.items c.take.new.taken.items methods i (get_or methods i 0) (slice_get-get_or methods i 0 c.loop-m-test.true) one.adds h.adds;
      kept = keeps_both c.args.takers.now.items c.loop-m.takers.items c.take.new.takers.items c.args.label h.kept one.kept;
    }

pub returns-clause-adds : goal.returns-clause-adds
returns-clause-adds c k =
    let methods = c.args.methods.now in
    let i = c.loop-m.m-index in
    let adds = c.loop-m.invariant.adds k in (
      λ has. elim (adds.0 has) [ inl old ↦ inl old | inr among ↦ inr (among_contains methods i k among) ],
      λ is. adds.1 (elim is [ inl old ↦ inl old | inr listed ↦ inr (among_all methods i k c.loop-m-test.false listed) ]),
    )
