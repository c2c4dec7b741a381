use Rattle.std.specs.Prelude.{OnOk}
use Rattle.std.proofs.Common.{◌≡◌, rules, false, List, ◌∙◌, ap, sym, subst, arith, map}
use Rattle.std.specs.Option.{option_map}
use Rattle.java_tree.specs.View as view
use Rattle.java_tree.specs.Plain as tree
use Rattle.java_tree.specs.declared.tree.Stmt.{Stmt}
use Rattle.java_tree.specs.declared.tree.Expr.{Expr}
use Rattle.java_tree.specs.declared.tree.Group.{Group, out-Group}
use Rattle.java_tree.specs.declared.tree.Catch.{out-Catch}
use Rattle.java_tree.proofs.Views.{plain_for, plain_for_each, plain_switch}
use Rattle.java_core.specs.View as core
use Rattle.java_core.specs.View.{stmt_plain}
use Rattle.checked.specs.Checked.{Meets, Stops, behind, same}
use Rattle.operator_rules.specs.declared.uses.Use.TheVariants as use_
use Rattle.operator_rules.specs.Writtens.{written}
use Rattle.check_expr.specs.Typed.{typed}
use Rattle.check_stmt.specs.declared.jumps.Jumps.{Jumps}
use Rattle.check_stmt.specs.declared.scopes.Spot.{Spot}
use Rattle.check_stmt.specs.Labels.{labels}
use Rattle.check_stmt.specs.Pieces as piece
use Rattle.check_stmt.specs.Pieces.{in_loop, with_one}
use Rattle.check_stmt.specs.Statements.{after, after_all, groups, loop_of, typed_stmt, typed_stmts}
use Rattle.type_facts.specs.declared.scope.LocalVar.{LocalVar}
use Rattle.check_stmt.specs.Fronts.{IsFront}
use Rattle.check_stmt.specs.Heights.{stmts_height}
use Rattle.check_stmt.proofs.Fronts.{front_same, front_then}
use Rattle.check_stmt.proofs.Trees.{catch_at}
use Rattle.check_stmt.proofs.Steps.{behind_none, for_loop, group_stop, labels_stop, stop_behind, lower_stmt, lower_group, lower_catch, stmts_step, after_step, groups_turn, catches_step}
use Rattle.check_stmt.proofs.stmts.+check_stmt.Goals as goal
use Rattle.check_stmt.proofs.stmts.+check_stmt.Goals.{check_for-in-Err, check_for-in-Ok}

pub check_row-check_stmt-requires : goal.check_row-check_stmt-requires
check_row-check_stmt-requires t c =
    let low = lower_stmt c.args.ss.now c.loop-s.s-index c.s-item.result c.loop-s-test.true c.s-item.is in
    (rw (← c.decreases) (omega (arith, low)), c.requires.ready)

pub check_row-loop-s-preserved : goal.check_row-loop-s-preserved
check_row-loop-s-preserved t c =
    let s = view.stmt_plain c.s-item.result in
    record {
      rest = λ f d.
          stmts_step f c.args.place.now c.args.jumps c.args.first c.loop-s.locals c.declare_stmt.new.locals c.args.ss.now c.loop-s.s-index c.s-item.result
          c.loop-s.done c.push.new.self c.in_ok-check_stmt.field-0 _ c.loop-s-test.true c.s-item.is (c.in_ok-check_stmt.ensures.meets f d) c.in_ok-push.ensures.ok
          (c.in_ok-declare_stmt.ensures.scope f d ∙ ap (λ ls. after f c.args.place.now ls s) c.check_stmt.ensures.kept) (c.loop-s.invariant.rest f d);
      scope = λ f d.
          after_step f c.args.place.now c.loop-s.locals c.declare_stmt.new.locals _ c.args.ss.now c.loop-s.s-index c.s-item.result
          c.loop-s-test.true c.s-item.is (c.in_ok-declare_stmt.ensures.scope f d ∙ ap (λ ls. after f c.args.place.now ls s) c.check_stmt.ensures.kept) (c.loop-s.invariant.scope f d);
      front = front_then _ _ _ c.loop-s.invariant.front (subst (λ (ls : List LocalVar). IsFront ls c.declare_stmt.new.locals) c.check_stmt.ensures.kept c.declare_stmt.ensures.front);
    }

pub check_catches-check_catch-requires : goal.check_catches-check_catch-requires
check_catches-check_catch-requires t c =
    let low = lower_catch c.args.catches.now c.loop-catch.catch-index c.catch-item.result c.loop-catch-test.true c.catch-item.is in
    (rw (← c.decreases) (omega (arith, low)), c.requires.ready)

pub check_catches-loop-catch-preserved : goal.check_catches-loop-catch-preserved
check_catches-loop-catch-preserved t c = record {
  rest = λ f d.
      catches_step f c.args.place.now c.args.jumps c.loop-catch.locals c.check_catch.new.locals c.args.catches.now c.loop-catch.catch-index c.catch-item.result
      c.loop-catch.done c.push.new.self c.in_ok-check_catch.field-0 _ c.loop-catch-test.true c.catch-item.is (c.in_ok-check_catch.ensures.meets f d) c.in_ok-push.ensures.ok
      c.check_catch.ensures.kept (c.loop-catch.invariant.rest f d);
  kept = c.check_catch.ensures.kept ∙ c.loop-catch.invariant.kept;
}

pub check_each_group-check_row-body-requires : goal.check_each_group-check_row-body-requires
check_each_group-check_row-body-requires t c =
    let low = lower_group c.args.groups.now c.loop-group.group-index c.group-item.result c.loop-group-test.true c.group-item.is in
    (rw (← c.decreases) (omega (arith, low, ap (λ ss. stmts_height (view.stmts_plain ss)) c.as_slice-in-loop-group.ensures)), c.requires.ready)

pub check_each_group-loop-group-preserved : goal.check_each_group-loop-group-preserved
check_each_group-loop-group-preserved t c = record {
  rest = λ f d.
      groups_turn f c.args.place.now c.args.jumps c.in_switch.result c.args.on_char c.loop-group.locals c.check_row-body.new.locals c.loop-group.seen c.group_of.new.seen
      c.args.groups.now c.loop-group.group-index c.group-item.result c.as_slice.result.now c.as_slice-in-loop-group.result.now c.in_ok-labels.labels c.as_slice-in-loop-group-2.result.now c.check_row-body.result
      c.loop-group.done c.push.new.self c.in_ok-group_of.field-0 _ c.loop-group-test.true c.group-item.is c.as_slice.ensures c.in_ok-labels.ensures c.in_switch.ensures c.as_slice-in-loop-group.ensures
      (c.check_row-body.ensures.meets f d) (c.check_row-body.ensures.scope f d) c.as_slice-in-loop-group-2.ensures c.in_ok-group_of.ensures.meets c.in_ok-group_of.ensures.seen c.in_ok-push.ensures.ok
      (c.loop-group.invariant.rest f d);
  front = front_then _ _ _ c.loop-group.invariant.front c.check_row-body.ensures.front;
}

pub check_catch-returns-clause-meets : goal.check_catch-returns-clause-meets
check_catch-returns-clause-meets t c = λ f d.
    let g = c.args.place.now in
    let ls = c.args.locals.now in
    let x = out-Catch c.args.catch.now in
    let a = written f g (view.type_plain x.param.ty) in
    let scope = with_one ls x.param.is_final x.param.dims x.param.name a in
    let b = λ (s : Stmt). typed_stmt f g c.args.jumps false scope (view.stmt_plain s) in
    let inner : Meets stmt_plain c.check_within.result (b c.get.result.now) = c.check_within.ensures.meets f d a (c.written-ty.ensures f d) in
    let made = c.catch_of.ensures f d a (b c.get.result.now) (c.written-ty.ensures f d) (c.boxed_stmt-body.ensures (b c.get.result.now) inner) in
    rw (catch_at c.args.catch.now)
    (subst (λ (s : Spot). Meets core.catch_plain c.catch_of.result (piece.catch_of f s x.node (view.param_plain x.param) a (b x.body))) c.in_ok-spot.ensures
    (subst (λ (s : Stmt). Meets core.catch_plain c.catch_of.result (piece.catch_of f c.in_ok-spot.spot x.node (view.param_plain x.param) a (b s))) c.get.ensures made))

pub check_each-returns-clause-meets : goal.check_each-returns-clause-meets
check_each-returns-clause-meets t c = λ f d jumps first.
    let g = c.args.place.now in
    let ls = c.args.locals.now in
    let a = written f g (view.type_plain c.args.ty.now) in
    let over = typed f g ls use_.Read (view.plain c.args.over.now) in
    let scope = with_one ls c.args.is_final 0 c.args.name a in
    let b = λ (j : Jumps). typed_stmt f g j false scope (view.stmt_plain c.args.body.now) in
    let inner : Meets stmt_plain c.check_within.result (b in_loop) =
    subst (λ j. Meets stmt_plain c.check_within.result (b j)) c.in_loop.ensures (c.check_within.ensures.meets f d a (c.written-ty.ensures f d)) in
    let made = c.foreach.ensures f d a over (b in_loop) (c.written-ty.ensures f d) (c.check-over.ensures f d) (c.boxed_stmt-body.ensures (b in_loop) inner) in
    subst (λ (s : Spot). Meets stmt_plain c.foreach.result (piece.foreach f c.args.node c.args.is_final c.args.name s a over (b in_loop))) c.in_ok-spot.ensures made

pub check_each_group-loop-group-init : goal.check_each_group-loop-group-init
check_each_group-loop-group-init t c =
    let g = c.args.place.now in
    let ls = c.args.locals.now in
    let gs = view.group_row (map view.group_plain c.args.groups.now) in record {
      rest = λ f d.
          ap (λ ds. behind (map core.group_plain ds) (groups f g c.args.jumps ls c.args.on_char c.new-seen.result gs)) c.new-done.ensures
          ∙ behind_none (groups f g c.args.jumps ls c.args.on_char c.new-seen.result gs)
          ∙ ap (λ seen. groups f g c.args.jumps ls c.args.on_char seen gs) c.new-seen.ensures;
      front = front_same ls;
    }

pub check_each_group-returns-in_err-labels-clause-meets : goal.check_each_group-returns-in_err-labels-clause-meets
check_each_group-returns-in_err-labels-clause-meets t c = λ f d.
    let e = c.in_err-labels.field-0.0 in
    let read : Stops e (labels (map (option_map view.plain) c.as_slice.result.now)) =
    subst (λ r. Meets same r (labels (map (option_map view.plain) c.as_slice.result.now))) c.in_err-labels.was c.labels.ensures in
    let stops = labels_stop f c.args.place.now c.args.jumps c.args.on_char c.loop-group.locals c.loop-group.seen c.args.groups.now c.loop-group.group-index c.group-item.result c.as_slice.result.now e
    c.loop-group-test.true c.group-item.is c.as_slice.ensures read in
    let all = stop_behind e (map core.group_plain c.loop-group.done) _ _ stops (c.loop-group.invariant.rest f d) in
    search rules

pub check_each_group-returns-in_err-group_of-clause-meets : goal.check_each_group-returns-in_err-group_of-clause-meets
check_each_group-returns-in_err-group_of-clause-meets t c = λ f d.
    let e = c.in_err-group_of.field-0.0 in
    let body = typed_stmts f c.args.place.now c.in_switch.result false c.loop-group.locals (view.stmts_plain c.as_slice-in-loop-group.result.now) in
    let made : Stops e (piece.group_of (out-Group c.group-item.result).node c.as_slice-in-loop-group-2.result.now c.args.on_char c.loop-group.seen body) =
    subst (λ r. Meets core.group_plain r (piece.group_of (out-Group c.group-item.result).node c.as_slice-in-loop-group-2.result.now c.args.on_char c.loop-group.seen body)) c.in_err-group_of.was
    (c.group_of.ensures.meets body (c.check_row-body.ensures.meets f d)) in
    let stops = group_stop f c.args.place.now c.args.jumps c.in_switch.result c.args.on_char c.loop-group.locals c.loop-group.seen c.args.groups.now c.loop-group.group-index c.group-item.result
    c.as_slice.result.now c.as_slice-in-loop-group.result.now c.in_ok-labels.labels c.as_slice-in-loop-group-2.result.now e
    c.loop-group-test.true c.group-item.is c.as_slice.ensures c.in_ok-labels.ensures c.in_switch.ensures c.as_slice-in-loop-group.ensures c.as_slice-in-loop-group-2.ensures made in
    let all = stop_behind e (map core.group_plain c.loop-group.done) _ _ stops (c.loop-group.invariant.rest f d) in
    search rules

pub check_for-returns-clause-meets : goal.check_for-returns-clause-meets
check_for-returns-clause-meets t c = λ f d first.
    let g = c.args.place.now in
    let ls = c.args.locals.now in
    let ss = view.stmts_plain c.args.init.now in
    let o = option_map view.plain c.args.test.now in
    let es = view.plains c.args.step.now in
    let a = view.stmt_plain c.args.body.now in
    let xs = typed_stmts f g c.args.jumps false ls ss in
    subst (λ x. Meets stmt_plain c.match-declare_all.made x) (sym (for_loop f g c.args.jumps first ls c.args.node ss o es a))
    (elim c.match-declare_all.branch [
      | check_for-in-Err w ↦ subst (λ r. Meets stmt_plain r (loop_of f g (after_all f g ls ss) c.args.node xs o es a)) (sym w.made-is) tt
      | check_for-in-Ok w ↦
          let grown : c.declare_all.new.locals ≡ after_all f g c.check_stmts-first.new.locals ss =
          subst (λ r. OnOk r (c.declare_all.new.locals ≡ after_all f g c.check_stmts-first.new.locals ss)) w.in-Ok.is (c.declare_all.ensures.scope f d) in
          let kept = ap (λ (l : List LocalVar). after_all f g l ss) c.check_stmts-first.ensures.kept in
          subst (λ r. Meets stmt_plain r (loop_of f g (after_all f g ls ss) c.args.node xs o es a)) (sym w.made-is)
          (subst (λ (l : List LocalVar). Meets stmt_plain w.check_loop-made.result (loop_of f g l c.args.node xs o es a)) (grown ∙ kept)
          (w.check_loop-made.ensures.meets f d xs (c.check_stmts-first.ensures.meets f d)))
    ])

pub check_stmt-returns-in-For-clause-meets : goal.check_stmt-returns-in-For-clause-meets
check_stmt-returns-in-For-clause-meets t c = λ f d.
    let s = c.args.s.now in
    let P = λ (i : List Stmt) (e : List Expr) (b : Stmt). Meets stmt_plain c.check_for.result (typed_stmt f c.args.place.now c.args.jumps c.args.first c.args.locals.now
    (tree.For s.node (view.stmts_plain i) (option_map view.plain c.in-For.test) (view.plains e) (view.stmt_plain b))) in
    rw (plain_for s c.in-For.body c.in-For.init c.in-For.test c.in-For.step c.in-For.is)
    (subst (λ i. P i c.in-For.step c.in-For.body) c.as_slice-in-For.ensures
    (subst (λ e. P c.as_slice-in-For.result.now e c.in-For.body) c.as_slice-in-For-2.ensures
    (subst (λ b. P c.as_slice-in-For.result.now c.as_slice-in-For-2.result.now b) c.get-in-For.ensures (c.check_for.ensures.meets f d c.args.first))))

pub check_stmt-returns-in-ForEach-clause-meets : goal.check_stmt-returns-in-ForEach-clause-meets
check_stmt-returns-in-ForEach-clause-meets t c = λ f d.
    let s = c.args.s.now in
    let x = c.in-ForEach in
    let P = λ (b : Stmt). Meets stmt_plain c.check_each.result (typed_stmt f c.args.place.now c.args.jumps c.args.first c.args.locals.now
    (tree.ForEach s.node x.is_final (view.type_plain x.ty) x.name (view.plain x.over) (view.stmt_plain b))) in
    rw (plain_for_each s x.body x.is_final x.ty x.name x.over x.is)
    (subst P c.get-in-ForEach.ensures (c.check_each.ensures.meets f d c.args.jumps c.args.first))

pub check_stmt-returns-in-Switch-clause-meets : goal.check_stmt-returns-in-Switch-clause-meets
check_stmt-returns-in-Switch-clause-meets t c = λ f d.
    let s = c.args.s.now in
    let P = λ (gs : List Group). Meets stmt_plain c.check_switch.result (typed_stmt f c.args.place.now c.args.jumps c.args.first c.args.locals.now
    (tree.Switch s.node (view.plain c.in-Switch.on) (view.group_row (map view.group_plain gs)))) in
    rw (plain_switch s c.in-Switch.on c.in-Switch.groups c.in-Switch.is)
    (subst P c.as_slice-in-Switch.ensures (c.check_switch.ensures.meets f d c.args.first))
