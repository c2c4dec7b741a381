use Rattle.std.proofs.Common.{◌≡◌, ◌<◌, ◌∙◌, Some, inl, inr, sym, ap, subst, length, arith}
use Rattle.std.specs.Prelude.{slice_get}
use Rattle.std.proofs.lemmas.Option.{slice_get_within}
use Rattle.type_reach.specs.declared.search.Stage.TheVariants as stage
use Rattle.type_reach.proofs.Lists.{there_is, set_here}
use Rattle.type_reach.proofs.Steps as by
use Rattle.type_reach.proofs.search.Search.visit.Goals as goal

pub loop-part-init : goal.loop-part-init
loop-part-init c =
    let g = c.args.graph.now in
    let s = c.args.self.now in
    let a = c.args.node in
    let new = by.not_past s.stages.items a c.stage_of.result stage.New c.stage_of.ensures c.in-New.is (λ e. cc e) in
    let lt = slice_get_within s.stages.items a stage.New new in
    let row = there_is g a (subst (λ n. a < n) c.requires.search.size lt) in
    let after = by.search_starts g s.stages.items s.path.items s.targets.items row.0 a s.parts.items c.requires.rests c.requires.search new row.1 in
    let is = c.in_ok-enter.ensures in
    record {
      search = rw (is.stages, is.path, is.targets row.0 row.1, is.parts) after;
      kept = rw is.stages (λ b e. by.opened_kept s.stages.items a (length s.path.items) b e lt);
      met = λ e. let never : Some (stage.Open (length s.path.items)) ≡ Some stage.New = sym (set_here s.stages.items a (stage.Open (length s.path.items)) lt) ∙ ap (λ xs. slice_get xs a) (sym is.stages) ∙ e in cc never;
    }

pub returns-in_default : goal.returns-in_default
returns-in_default c = record {
  search = c.requires.search;
  rests = c.requires.rests;
  kept = λ a e. e;
  met = λ e. elim c.stage_of.ensures [
    | inl is ↦ let same : Some c.stage_of.result ≡ Some stage.New = sym is ∙ e in c.in_default.not-New (cc same)
    | inr past ↦ let lt = slice_get_within c.args.self.now.stages.items c.args.node stage.New e in let le = past.0 in omega (arith, lt, le)
  ];
}
