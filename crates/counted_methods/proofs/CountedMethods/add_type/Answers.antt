use Rattle.std.proofs.Common.{ℕ, Vec, Global, Result, get_or, sym, subst, arith}
use Rattle.std.specs.Prelude.{IfOk}
use Rattle.std.proofs.lemmas.Option.{slice_get-get_or}
use Rattle.java_tree.specs.declared.fault.NoMemory.{NoMemory}
use Rattle.member_methods.specs.Methods.{AreMembers}
use Rattle.counted_methods.proofs.Making.{above_stays, base_of, next_added, type_done}
use Rattle.counted_methods.proofs.CountedMethods.add_type.Goals as goal

pub loop-m-preserved : goal.loop-m-preserved
loop-m-preserved c =
    let w = c.args.w.now in
    let sound = c.requires.sound in
    let old = c.args.self.now in
    let t = c.loop-m.self in
    let new = c.add_named.new.self in
    let above = c.in_ok-above.above in
    let tells = c.in_ok-above.ensures in
    let vs = c.as_slice-m-items.result.now in
    let i = c.loop-m.m-index in
    let at = slice_get-get_or vs i 0 c.loop-m-test.true in
    let inv = c.loop-m.invariant.added in
    let base = base_of w c.args.c old above tells c.requires.above in
    record {
      orderly = (c.in_ok-add_named.ensures base.counted (above_stays w sound c.args.c base.counted vs i old t above tells (inv base.counted base.told) base.told)).orderly;
      added = λ counted is.
          next_added w c.args.c counted vs i (get_or vs i 0) old t new at (inv counted is)
          (c.in_ok-add_named.ensures counted (above_stays w sound c.args.c counted vs i old t above tells (inv counted is) is));
    }

pub returns-clause-done : goal.returns-clause-done
returns-clause-done c =
    let w = c.args.w.now in
    let old = c.args.self.now in
    let above = c.in_ok-above.above in
    let vs = c.as_slice-m-items.result.now in
    let base = base_of w c.args.c old above c.in_ok-above.ensures c.requires.above in
    let members : AreMembers w c.args.c c.in_ok-members.members.items =
    subst (λ (r : Result (Vec ℕ Global) NoMemory). IfOk r (λ (u : Vec ℕ Global). AreMembers w c.args.c u.items)) c.in_ok-members.was (c.all.ensures w c.requires.lists) in
    let are = subst (AreMembers w c.args.c) (sym c.as_slice-m-items.ensures.value) members in
    type_done w c.args.c c.loop-m.self old c.args.lists.now vs c.loop-m.m-index above base c.requires.lists are (omega (arith, c.loop-m-test.false)) (c.loop-m.invariant.added base.counted base.told)

pub returns-clause-others : goal.returns-clause-others
returns-clause-others c =
    let base = base_of c.args.w.now c.args.c c.args.self.now c.in_ok-above.above c.in_ok-above.ensures c.requires.above in
    (c.loop-m.invariant.added base.counted base.told).others
