use Rattle.std.proofs.Common.{◌≡◌, Some, refl, sym, ◌∙◌, length, arith}
use Rattle.std.specs.Prelude.{slice_get}
use Rattle.std.proofs.lemmas.Option.{slice_get_read}
use Rattle.method_groups.proofs.Takers.{keeps_next, more_has, taken_next}
use Rattle.method_groups.proofs.taking.take.Goals as goal
use Rattle.method_groups.proofs.taking.take.Goals.{After-index_mut}

untaken : (c : After-index_mut) → slice_get c.args.takers.now.items c.args.m ≡ Some c.args.label → ⊥
untaken c at =
    let takers = c.args.takers.now.items in
    let both : Some c.index.result.now ≡ Some c.args.label = sym (slice_get_read takers (length takers) c.args.m c.index.result.now refl c.requires.within c.index.ensures) ∙ at in
    let same : c.index.result.now ≡ c.args.label = cc both in
    absurd (omega (arith, same, c.if-index-label.false))

pub returns-clause-taken : goal.returns-clause-taken
returns-clause-taken c =
    taken_next c.args.takers.now.items _ c.args.label c.args.m c.requires.within refl c.args.taken.now.items c.push.new.self.items c.requires.taken c.in_ok-push.ensures.items (untaken ((goal.at.returns-clause-taken c).After-index_mut))

pub returns-clause-adds : goal.returns-clause-adds
returns-clause-adds c =
    more_has c.args.takers.now.items _ c.args.label c.args.m c.requires.within refl c.args.taken.now.items c.push.new.self.items c.requires.taken c.in_ok-push.ensures.items (untaken ((goal.at.returns-clause-adds c).After-index_mut))

pub returns-clause-kept : goal.returns-clause-kept
returns-clause-kept c = keeps_next c.args.takers.now.items _ c.args.label c.args.m c.requires.within refl
