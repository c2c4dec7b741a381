use Rattle.std.proofs.Common.{◌≡◌, ◌↔◌, ◌∙◌, map, Some, true, sym, ap, subst, arith}
use Rattle.std.specs.Prelude.{slice_get}
use Rattle.std.proofs.lemmas.Result.{IfOk-weaker}
use Rattle.type_reach.specs.Reach.{Leads}
use Rattle.type_reach.specs.Paths.{is_on_cycle}
use Rattle.type_reach.proofs.Ends.{search_ends}
use Rattle.type_reach.proofs.cycles.on_cycles.Goals as goal

pub returns-clause-cycles : goal.returns-clause-cycles
returns-clause-cycles c =
    let g = c.args.graph.now in
    let s = c.loop-node.search in
    let h = c.loop-node.invariant in
    IfOk-weaker c.answers_of.result _ _ (λ r is a.
    subst (λ bs. (slice_get bs a ≡ Some true) ↔ Leads g a a) (sym (is ∙ ap (map is_on_cycle) c.as_slice.ensures.value))
    (search_ends g s.stages.items s.path.items s.targets.items s.parts.items h.rests h.search (λ b lt. h.met b (omega (arith, lt, c.loop-node-test.false, c.len-node-end.ensures))) a)) c.answers_of.ensures
