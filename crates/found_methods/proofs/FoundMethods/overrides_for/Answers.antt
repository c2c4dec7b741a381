use Rattle.std.proofs.Common.{refl, sym, ◌∙◌, get_or}
use Rattle.std.proofs.lemmas.Bool.{true≢false}
use Rattle.std.proofs.lemmas.List.Elements.{Contains-get_or}
use Rattle.std.proofs.lemmas.Option.{slice_get-get_or}
use Rattle.class_world.specs.Overriding.{Overriding}
use Rattle.method_ties.proofs.Firsts.{none_next, among_all}
use Rattle.found_methods.proofs.FoundMethods.overrides_for.Goals as goal
use Rattle.found_methods.proofs.FoundMethods.overrides_for.Goals.{else-overrides-via-then-overrides+else-overrides-2, else-overrides-via-else-overrides}

pub loop-t-preserved : goal.loop-t-preserved
loop-t-preserved c w o =
    let items = c.members_like-t-items.result.now in
    let i = c.loop-t.t-index in
    none_next (λ t. Overriding w t c.args.m × Overriding w c.args.k t) items i (get_or items i 0) (c.loop-t.invariant w o) (slice_get-get_or items i 0 c.loop-t-test.true)
    (λ both. elim c.else-overrides.branch [
      | else-overrides-via-then-overrides+else-overrides-2 v ↦ true≢false (sym ((v.overrides-then-overrides.ensures w o).1 both.1) ∙ v.if-overrides-2.false)
      | else-overrides-via-else-overrides v ↦ true≢false (sym ((c.overrides.ensures w o).1 both.0) ∙ v.if-overrides.false)
    ])

pub returns-then-overrides-2 : goal.returns-then-overrides-2
returns-then-overrides-2 c w h o lists = (
  λ is.
      let items = c.members_like-t-items.result.now in
      let t = get_or items c.loop-t.t-index 0 in
      let member = (c.members_like-t-items.ensures w h lists).0 t (Contains-get_or items c.loop-t.t-index 0 c.loop-t-test.true) in
      (t, member, (c.overrides.ensures w o).0 c.if-overrides.true, (c.overrides-then-overrides.ensures w o).0 c.if-overrides-2.true),
  λ for. refl,
)

pub returns : goal.returns
returns c w h o lists = (
  λ is. absurd (true≢false (sym is)),
  λ for.
      let items = c.members_like-t-items.result.now in
      let has = (c.members_like-t-items.ensures w h lists).1 for.0 for.1 for.2 in
      absurd (c.loop-t.invariant w o for.0 (among_all items c.loop-t.t-index for.0 c.loop-t-test.false has) (for.2, for.3)),
)
