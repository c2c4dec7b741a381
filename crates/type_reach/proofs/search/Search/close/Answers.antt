use Rattle.std.proofs.Common.{◌≡◌, ◌-◌, ◌∙◌, ap, sym, subst, length, take, drop, true, ◌↔◌, arith}
use Rattle.std.proofs.lemmas.List.{take_rest}
use Rattle.type_reach.specs.declared.search.Stage.TheVariants as stage
use Rattle.type_reach.specs.Paths.{IsSearch, IsSet, IsCycle}
use Rattle.type_reach.proofs.Ends as by
use Rattle.type_reach.proofs.search.Search.close.Goals as goal

nodes_are : (c : goal.After-truncate) → take (length c.deref.result.now - c.args.part.node) (drop c.args.part.node c.deref.result.now) ≡ drop c.args.part.node c.args.self.now.path.items
nodes_are c = take_rest c.deref.result.now c.args.part.node ∙ ap (drop c.args.part.node) c.deref.ensures.value

set_is : (c : goal.After-truncate) → IsSet c.args.self.now.stages.items c.set_all.new.stages.items (stage.Done c.is_cycle-on_cycle.result) (drop c.args.part.node c.args.self.now.path.items)
set_is c = subst (IsSet c.args.self.now.stages.items c.set_all.new.stages.items (stage.Done c.is_cycle-on_cycle.result)) (nodes_are c) c.set_all.ensures

pub returns-clause-search : goal.returns-clause-search
returns-clause-search c =
    let s = c.args.self.now in
    let says : (c.is_cycle-on_cycle.result ≡ true) ↔ IsCycle c.args.graph.now (drop c.args.part.node s.path.items) =
    subst (λ nodes. (c.is_cycle-on_cycle.result ≡ true) ↔ IsCycle c.args.graph.now nodes) (nodes_are c) c.is_cycle-on_cycle.ensures in
    subst (λ path. IsSearch c.args.graph.now c.set_all.new.stages.items path s.targets.items s.parts.items) (sym c.truncate.ensures.items)
    (by.search_closes c.args.graph.now s.stages.items c.set_all.new.stages.items s.path.items s.targets.items s.parts.items c.args.part c.is_cycle-on_cycle.result c.requires.search c.requires.followed (set_is c) says)

pub returns-clause-kept : goal.returns-clause-kept
returns-clause-kept c =
    let s = c.args.self.now in
    by.closes_kept c.args.graph.now s.stages.items c.set_all.new.stages.items s.path.items s.targets.items s.parts.items c.args.part c.is_cycle-on_cycle.result c.requires.search c.requires.followed (set_is c)

pub returns-clause-less : goal.returns-clause-less
returns-clause-less c =
    let s = c.args.self.now in
    let less = by.closes_less c.args.graph.now s.stages.items c.set_all.new.stages.items s.path.items s.targets.items s.parts.items c.args.part c.is_cycle-on_cycle.result c.requires.search c.requires.followed (set_is c) in
    omega (arith, less)
