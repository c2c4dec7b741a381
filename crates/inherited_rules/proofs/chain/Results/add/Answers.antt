use Rattle.std.proofs.Common.{refl}
use Rattle.inherited_rules.specs.declared.chain.Results.{Results}
use Rattle.inherited_rules.specs.Chains.{IsAdded, IsPut}
use Rattle.inherited_rules.proofs.Sorts.{added_bare, added_other, told_on}
use Rattle.inherited_rules.proofs.chain.Results.add.Goals as goal

pub returns-then-is_bare : goal.returns-then-is_bare
returns-then-is_bare c =
    let w = c.args.w.now in
    let r = c.args.r in
    let old = c.args.self.now in
    let new : Results = record { bare = c.put_in.new.chain; others = old.others } in
    told_on w c.requires.sound (IsPut w old.bare.items new.bare.items r) (IsAdded w old new r) c.put_in.result
    (λ u put. added_bare w c.requires.sound old new r u c.requires.kept c.requires.result (c.is_bare.ensures.0 c.if-is_bare.true) refl put) c.put_in.ensures

pub returns-else-is_bare : goal.returns-else-is_bare
returns-else-is_bare c =
    let w = c.args.w.now in
    let r = c.args.r in
    let old = c.args.self.now in
    let new : Results = record { bare = old.bare; others = c.put_in-else-is_bare.new.chain } in
    told_on w c.requires.sound (IsPut w old.others.items new.others.items r) (IsAdded w old new r) c.put_in-else-is_bare.result
    (λ u put. added_other w c.requires.sound old new r u c.requires.kept c.requires.result (λ bare. let yes = c.is_bare.ensures.1 bare in cc (yes, c.if-is_bare.false)) refl put) c.put_in-else-is_bare.ensures
