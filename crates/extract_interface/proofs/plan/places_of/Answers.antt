use Rattle.std.proofs.Common.{◌≡◌, ◌++◌, append-nil, map, sym, ap, subst, ◌∙◌}
use Rattle.std.specs.List.Sorted.{IsStrictlyIncreasing}
use Rattle.std.proofs.lemmas.List.{drop_all}
use Rattle.extract_interface.specs.Plans.{place_of}
use Rattle.extract_interface.proofs.Kept.{ascending}
use Rattle.extract_interface.proofs.plan.places_of.Goals as goal

places : (c : goal.After-loop-it) → c.loop-it.places ≡ map place_of c.args.kept.now
places c =
    let none = ap (λ ks. c.loop-it.places ++ map place_of ks) (drop_all c.loop-it.it-index c.args.kept.now c.loop-it-test.false) in
    sym (append-nil c.loop-it.places) ∙ sym none ∙ c.loop-it.invariant

pub returns-clause-places : goal.returns-clause-places
returns-clause-places c = places c

pub returns-clause-ascending : goal.returns-clause-ascending
returns-clause-ascending c = subst IsStrictlyIncreasing (sym (places c)) (ascending c.args.kept.now c.requires)
