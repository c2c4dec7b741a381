use Rattle.std.proofs.Common.{◌∙◌, Some, sym, ap, cond, nat_eq, refl}
use Rattle.type_names.specs.Paths.{place_at}
use Rattle.type_names.proofs.Trees.{tree_put, tree_same, none_there, some_there}
use Rattle.type_names.proofs.paths.Tree.note.Goals as goal

pub returns-in_ok-insert : goal.returns-in_ok-insert
returns-in_ok-insert c = λ ps len tree.
    let old = c.args.self.now in
    let end = c.in_ok-end.end in
    tree_put ps c.args.path.now old _ end tree c.in_ok-end.ensures.good c.in_ok-end.ensures.kept c.in_ok-end.ensures.found (none_there (place_at old end) (sym c.contains_key.ensures ∙ c.if-not-contains_key.true))
    (λ n. c.in_ok-insert.ensures.updates.0 n ∙ ap (λ k. cond (nat_eq end n) (Some k) (place_at old n)) (sym len))

pub returns-else-not-contains_key : goal.returns-else-not-contains_key
returns-else-not-contains_key c = λ ps len tree.
    let old = c.args.self.now in
    let end = c.in_ok-end.end in
    let there = some_there (place_at old end) (sym c.contains_key.ensures ∙ c.if-not-contains_key.false) in
    tree_same ps c.args.path.now old _ end tree c.in_ok-end.ensures.good c.in_ok-end.ensures.kept c.in_ok-end.ensures.found there.0 there.1 (λ n. refl)
