use Rattle.std.proofs.Common.{inl, get_or}
use Rattle.std.proofs.lemmas.Option.{slice_get-get_or}
use Rattle.std.proofs.lemmas.List.Elements.{Contains-get_or}
use Rattle.class_world.specs.Overriding.{AreInstanceMethods}
use Rattle.overrides.specs.AtOnce.{IsTied}
use Rattle.overrides.proofs.Places.{items_more, items_all}
use Rattle.overrides.proofs.Edges.{declared_is, ties_written, ties_kept, tied_here}
use Rattle.overrides.proofs.at_once.add_replaced.Goals as goal
use Rattle.overrides.proofs.at_once.add_replaced.Goals.{then-are_instance+in_ok-set, else-are_instance}

pub loop-k-preserved : goal.loop-k-preserved
loop-k-preserved c =
    let replaced = c.args.replaced.now in
    let i = c.loop-k.k-index in
    let k = get_or replaced i 0 in
    let h = c.loop-k.invariant in
    let at = slice_get-get_or replaced i 0 c.loop-k-test.true in
    elim c.if-are_instance.branch [
      | then-are_instance+in_ok-set w ↦
          let are = c.are_instance.ensures.0 w.if-are_instance.true in
          let takes = (c.requires.replaced.0 k).0 (Contains-get_or replaced i 0 c.loop-k-test.true) in
          let old = c.loop-k.table in
          let new = w.set.new.self in
          let set = w.in_ok-set.ensures in
          let kept = ties_kept c.args.w.now old new c.args.m k c.args.tie h.ties set.size set.written (inl c.requires.tie.tied) in
          rw w.table-is (record {
            ties = ties_written c.args.w.now old new c.args.m k c.args.tie h.ties set.size set.written (declared_is c.args.w.now takes.0 c.args.m k c.args.tie c.requires.tie takes.1 are);
            kept = λ a b tied. kept a b (h.kept a b tied);
            all = items_more (λ x. AreInstanceMethods c.args.w.now c.args.m x → IsTied new c.args.m x) replaced i k (λ j x lt is both. kept c.args.m x (h.all j x lt is both)) at
                (λ both. tied_here c.args.w.now old new c.args.m k c.args.tie h.ties set.size set.written c.requires.tie.tied);
          })
      | else-are_instance w ↦ rw w.table-is (record {
        ties = h.ties;
        kept = h.kept;
        all = items_more (λ x. AreInstanceMethods c.args.w.now c.args.m x → IsTied c.loop-k.table c.args.m x) replaced i k h.all at
            (λ both. let yes = c.are_instance.ensures.1 both in absurd (cc (yes, w.if-are_instance.false)));
      })
    ]

pub returns-clause-all : goal.returns-clause-all
returns-clause-all c own k takes =
    items_all (λ x. AreInstanceMethods c.args.w.now c.args.m x → IsTied c.loop-k.table c.args.m x) c.args.replaced.now c.loop-k.k-index c.loop-k.invariant.all c.loop-k-test.false k
    ((c.requires.replaced.0 k).1 (own, takes))
