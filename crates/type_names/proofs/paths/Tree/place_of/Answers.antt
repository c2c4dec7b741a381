use Rattle.std.proofs.Common.{◌≡◌, ◌∙◌, sym, rules}
use Rattle.type_names.specs.Paths.{place_at}
use Rattle.type_names.proofs.Trees.{no_end, at_end}
use Rattle.type_names.proofs.paths.Tree.place_of.Goals as goal

pub returns-in_err-end : goal.returns-in_err-end
returns-in_err-end c = λ ps tree. c.from_residual.ensures ∙ no_end ps c.args.self.now c.args.path.now tree (sym c.end_of.ensures ∙ c.in_err-end.was)

pub returns : goal.returns
returns c = λ ps tree.
    let here : c.copied.result ≡ place_at c.args.self.now c.in_ok-end.end = search rules in
    here ∙ at_end ps c.args.self.now c.args.path.now c.in_ok-end.end tree (sym c.end_of.ensures ∙ c.in_ok-end.was)
