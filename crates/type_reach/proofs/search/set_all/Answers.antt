use Rattle.std.proofs.Common.{◌≡◌, ℕ, ◌+◌, ◌<◌, ◌≤◌, List, inl, inr, length, take, get_or, sym, subst, refl, ap, ◌∙◌, arith}
use Rattle.std.specs.Prelude.{slice_get, slice_set, Contains}
use Rattle.std.proofs.lemmas.List.{take_all, length-set}
use Rattle.type_reach.specs.declared.search.Stage.{Stage}
use Rattle.type_reach.specs.declared.search.Stage.TheVariants as stage
use Rattle.type_reach.specs.Paths.{IsSet}
use Rattle.type_reach.proofs.Lists.{same_or_other, set_here, set_there}
use Rattle.type_reach.proofs.Turned.{taken_more, taken_still, taken_here}
use Rattle.type_reach.proofs.search.set_all.Goals as goal
use Rattle.type_reach.proofs.search.set_all.Goals.{then-node-len, else-node-len}

module _ (old now : List Stage) (x : Stage) (ns : List ℕ) (i n : ℕ) (lt : i < length ns) (is : get_or ns i 0 ≡ n) (h : IsSet old now x (take i ns)) where
  set_more : IsSet old (slice_set now n x) x (take (i + 1) ns)
  set_more = record {
    size = length-set now n x ∙ h.size;
    set = λ a has short. elim (same_or_other n a) [
      | inl same ↦ ap (slice_get (slice_set now n x)) (sym same) ∙ set_here now n x (let size = h.size in omega (arith, short, same, size))
      | inr other ↦ elim (taken_more ns i n a lt is has) [ inl was ↦ set_there now n a x other ∙ h.set a was short | inr same ↦ absurd (other same) ]
    ];
    kept = λ a not.
        set_there now n a x (λ same. not (subst (λ y. Contains (take (i + 1) ns) y) same (taken_here ns i n lt is)))
        ∙ h.kept a (λ was. not (taken_still ns i a lt was));
  }

  set_nowhere : length now ≤ n → IsSet old now x (take (i + 1) ns)
  set_nowhere past = record {
    size = h.size;
    set = λ a has short. elim (taken_more ns i n a lt is has) [ inl was ↦ h.set a was short | inr same ↦ absurd (let size = h.size in omega (arith, past, same, short, size)) ];
    kept = λ a not. h.kept a (λ was. not (taken_still ns i a lt was));
  }

pub loop-node-preserved : goal.loop-node-preserved
loop-node-preserved c =
    let old = c.args.stages.now.items in
    let now = c.loop-node.stages.items in
    let x = stage.Done c.args.on_cycle in
    elim c.if-node-len.branch [
      | then-node-len w ↦ rw w.stages-is (set_more old now x c.args.nodes.now c.loop-node.node-index _ c.loop-node-test.true refl c.loop-node.invariant)
      | else-node-len w ↦
          rw w.stages-is (set_nowhere old now x c.args.nodes.now c.loop-node.node-index _ c.loop-node-test.true refl c.loop-node.invariant (omega (arith, w.if-node-len.false, c.len.ensures, c.loop-node.stages.ok.0)))
    ]

pub returns : goal.returns
returns c = subst (IsSet c.args.stages.now.items c.loop-node.stages.items (stage.Done c.args.on_cycle)) (take_all c.loop-node.node-index c.args.nodes.now c.loop-node-test.false) c.loop-node.invariant
