use Rattle.std.proofs.Common.{◌≡◌, ◌++◌, ℕ, sym, subst}
use Rattle.std.specs.List.{Contains}
use Rattle.member_methods.specs.Signed.{AreOwnNamed}
use Rattle.member_methods.proofs.Maps.{if_ok, map_says}
use Rattle.member_methods.proofs.Taken.{with_group_says}
use Rattle.member_methods.proofs.made.with_group.Goals as goal

pub returns : goal.returns
returns c =
    let old = c.args.tables.now in
    let g = c.args.group.now in
    let above = c.listed.result.now in
    let own = c.as_slice-methods.result.now in
    let all : c.extend_from_slice.new.self.items ≡ c.in_ok-members.members.items ++ own = c.in_ok-extend_from_slice.ensures.items in
    if_ok c.put.result _ _ (λ r put t is named.
    let here : (m : ℕ) → Contains above m → AreOwnNamed c.args.w.now t own m = λ m h. subst (λ l. AreOwnNamed c.args.w.now t l m) (sym c.as_slice-methods.ensures) (named m (subst (λ l. Contains l m) c.listed.ensures h)) in
    map_says old c.put.new.self r _ _
    (with_group_says c.args.w.now t g old c.args.map above own c.in_ok-members.members.items c.extend_from_slice.new.self.items c.listed.ensures c.as_slice-methods.ensures all (c.in_ok-members.ensures t is here)) put)
    c.put.ensures
