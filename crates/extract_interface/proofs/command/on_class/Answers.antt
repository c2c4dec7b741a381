use Rattle.std.proofs.Common.{ℕ, List, refl, sym, subst, ◌∙◌}
use Rattle.std.proofs.lemmas.Bool.{true≢false}
use Rattle.extract_interface.specs.Asked.{HasAll}
use Rattle.extract_interface.specs.Plans.{words_of}
use Rattle.extract_interface.proofs.command.on_class.Goals as goal

pub returns-then-not-has_all : goal.returns-then-not-has_all
returns-then-not-has_all c =
    let Has = λ (ms : List ℕ). HasAll c.args.q.now.world.now c.args.source.now.names.now ms (words_of c.args.wish.now) in (
      c.args.class.now.number,
      c.args.class.now.info.now,
      c.requires.clean,
      c.requires.class,
      λ all. true≢false (sym (c.has_all.ensures.1 (subst Has (sym c.as_slice-own.ensures) all)) ∙ c.if-not-has_all.true),
      refl,
    )

pub returns-then-is_taken : goal.returns-then-is_taken
returns-then-is_taken c =
    let Has = λ (ms : List ℕ). HasAll c.args.q.now.world.now c.args.source.now.names.now ms (words_of c.args.wish.now) in (
      c.args.class.now.number,
      c.args.class.now.info.now,
      record { clean = c.requires.clean; class = c.requires.class; all = subst Has c.as_slice-own.ensures (c.has_all.ensures.0 c.if-not-has_all.false) },
      c.is_taken.ensures.0 c.if-is_taken.true,
      refl,
    )

pub on_free-requires-clause-found : goal.on_free-requires-clause-found
on_free-requires-clause-found c =
    let Has = λ (ms : List ℕ). HasAll c.args.q.now.world.now c.args.source.now.names.now ms (words_of c.args.wish.now) in
    record { clean = c.requires.clean; class = c.requires.class; all = subst Has c.as_slice-own.ensures (c.has_all.ensures.0 c.if-not-has_all.false) }
