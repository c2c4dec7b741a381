use Rattle.std.proofs.Common.{map, take, sym, subst}
use Rattle.std.proofs.lemmas.List.{take_all}
use Rattle.java_tree.specs.View.{type_plain, member_plain}
use Rattle.rule_order.specs.Noted.{At, SomeOf, Adds}
use Rattle.rule_order.proofs.Adding.{adds_nothing}
use Rattle.rule_order.proofs.Lists.{some_none}
use Rattle.written_types.specs.Breaks.{node_of}
use Rattle.super_rules.specs.Rules.{IsNoThrowable, ThrowsBreaches}
use Rattle.super_rules.proofs.Files.{taken_next}
use Rattle.super_rules.proofs.Thrown.{some_push}
use Rattle.super_rules.proofs.throwing.note_members.Goals as goal
use Rattle.super_rules.proofs.throwing.note_members.Goals.{in-Field, in-Method}

pub loop-m-init : goal.loop-m-init
loop-m-init c = λ java fs types x at set. some_none (ThrowsBreaches java fs types x) c.args.first

pub loop-m-preserved : goal.loop-m-preserved
loop-m-preserved c = λ java fs types x at set.
    let F = ThrowsBreaches java fs types x in
    let ms = c.args.members.now in
    let i = c.loop-m.m-index in
    let m = c.m-item.result in
    let so_far = c.loop-m.invariant java fs types x at set in
    subst (λ l. Adds (SomeOf l F) c.args.first c.match-m.first) (sym (taken_next member_plain ms i m c.loop-m-test.true c.m-item.is))
    (elim c.match-m.branch [
      | in-Field w ↦
          rw w.first-is (some_push F (map member_plain (take i ms)) (member_plain m) c.args.first c.loop-m.first c.loop-m.first so_far
          (adds_nothing (F (member_plain m)) c.loop-m.first (λ b h. subst (λ k. F (member_plain k) b) w.in-Field.is h)))
      | in-Method w ↦
          let thrown = subst (λ ys. Adds (SomeOf (map type_plain ys) (λ y. At 2 (node_of y) (IsNoThrowable java fs types x y))) c.loop-m.first w.note_throws-first.result) w.as_slice.ensures
          (w.note_throws-first.ensures java fs types x at set) in
          rw w.first-is (some_push F (map member_plain (take i ms)) (member_plain m) c.args.first c.loop-m.first w.note_throws-first.result so_far
          (subst (λ k. Adds (F (member_plain k)) c.loop-m.first w.note_throws-first.result) (sym w.in-Method.is) thrown))
    ])

pub returns : goal.returns
returns c = λ java fs types x at set.
    subst (λ ms. Adds (SomeOf (map member_plain ms) (ThrowsBreaches java fs types x)) c.args.first c.loop-m.first) (take_all c.loop-m.m-index c.args.members.now c.loop-m-test.false)
    (c.loop-m.invariant java fs types x at set)
