use Rattle.std.proofs.Common.{List, map, take, sym, subst}
use Rattle.std.proofs.lemmas.List.{take_all}
use Rattle.java_tree.specs.Plain.{TypeExpr}
use Rattle.java_tree.specs.View.{type_plain}
use Rattle.class_world.specs.declared.world.TypeInfo.{TypeInfo}
use Rattle.rule_order.specs.First.{Breaches}
use Rattle.rule_order.specs.Noted.{At, SomeOf, Adds}
use Rattle.rule_order.proofs.Lists.{some_none}
use Rattle.type_names.specs.declared.known.JavaNames.{JavaNames}
use Rattle.type_names.specs.Known.{File}
use Rattle.written_types.specs.Breaks.{node_of}
use Rattle.type_headers.specs.Declared.{Declaration}
use Rattle.super_rules.specs.Rules.{IsNoThrowable}
use Rattle.super_rules.proofs.Files.{taken_next}
use Rattle.super_rules.proofs.Thrown.{some_push, noted_type}
use Rattle.super_rules.proofs.throwing.note_throws.Goals as goal

abbrev Throws : JavaNames → List File → List TypeInfo → Declaration → TypeExpr → Breaches
Throws java fs types x y = At 2 (node_of y) (IsNoThrowable java fs types x y)

pub loop-y-init : goal.loop-y-init
loop-y-init c = λ java fs types x at set. some_none (Throws java fs types x) c.args.first

pub loop-y-preserved : goal.loop-y-preserved
loop-y-preserved c = λ java fs types x at set.
    let F = Throws java fs types x in
    let ys = c.args.throws.now in
    let i = c.loop-y.y-index in
    let y = c.y-item.result in
    subst (λ l. Adds (SomeOf l F) c.args.first c.noted-first.result) (sym (taken_next type_plain ys i y c.loop-y-test.true c.y-item.is))
    (some_push F (map type_plain (take i ys)) (type_plain y) c.args.first c.loop-y.first c.noted-first.result (c.loop-y.invariant java fs types x at set)
    (noted_type 2 y (IsNoThrowable java fs types x (type_plain y)) c.is_no_throwable.result c.loop-y.first c.noted-first.result (c.is_no_throwable.ensures java fs types x at set) c.noted-first.ensures))

pub returns : goal.returns
returns c = λ java fs types x at set.
    subst (λ ys. Adds (SomeOf (map type_plain ys) (Throws java fs types x)) c.args.first c.loop-y.first) (take_all c.loop-y.y-index c.args.throws.now c.loop-y-test.false) (c.loop-y.invariant java fs types x at set)
