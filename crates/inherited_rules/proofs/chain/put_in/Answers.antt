use Rattle.std.proofs.Common.{Option, List, sym, subst}
use Rattle.std.specs.List.{Contains}
use Rattle.class_world.specs.declared.world.JavaType.{JavaType}
use Rattle.inherited_rules.specs.Chains.{AreResults, HasApart, IsBetween, IsChain, IsPlace}
use Rattle.inherited_rules.proofs.Chained.{put_at, put_nowhere, put_there}
use Rattle.inherited_rules.proofs.chain.put_in.Goals as goal

pub place_in-requires-clause-results : goal.place_in-requires-clause-results
place_in-requires-clause-results c = subst (AreResults c.args.w.now) (sym c.as_slice.ensures.value) c.requires.results

pub place_in-requires-clause-chain : goal.place_in-requires-clause-chain
place_in-requires-clause-chain c = subst (IsChain c.args.w.now) (sym c.as_slice.ensures.value) c.requires.chain

pub returns-in-There : goal.returns-in-There
returns-in-There c =
    let has = subst (IsPlace c.args.w.now c.as_slice.result.now c.args.r) c.in-There.is c.place_in.ensures in
    put_there c.args.w.now c.args.chain.now.items c.args.r c.requires.chain (subst (λ (l : List (Option JavaType)). Contains l c.args.r) c.as_slice.ensures.value has)

pub returns-in_ok-insert-in-At : goal.returns-in_ok-insert-in-At
returns-in_ok-insert-in-At c =
    let between = subst (IsPlace c.args.w.now c.as_slice.result.now c.args.r) c.in-At.is c.place_in.ensures in
    put_at c.args.w.now c.args.chain.now.items c.insert.new.self.items c.args.r c.in-At.at c.requires.chain
    (subst (λ (l : List (Option JavaType)). IsBetween c.args.w.now l c.args.r c.in-At.at) c.as_slice.ensures.value between) c.in_ok-insert-in-At.ensures.items

pub returns-in-Nowhere : goal.returns-in-Nowhere
returns-in-Nowhere c =
    let found = subst (IsPlace c.args.w.now c.as_slice.result.now c.args.r) c.in-Nowhere.is c.place_in.ensures in
    put_nowhere c.args.w.now c.args.chain.now.items c.args.r (subst (λ (l : List (Option JavaType)). HasApart c.args.w.now l c.args.r) c.as_slice.ensures.value found)
