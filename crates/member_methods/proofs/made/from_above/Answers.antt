use Rattle.std.proofs.Common.{◌≡◌, ◌++◌, refl, sym, ap, ◌∙◌, subst}
use Rattle.member_methods.specs.Made.{IsListedIn}
use Rattle.member_methods.specs.Tables.{IsMapOf}
use Rattle.member_methods.specs.TypesAbove.{all_above}
use Rattle.member_methods.proofs.Maps.{keeps_both, map_later}
use Rattle.member_methods.proofs.Taken.{have_left, have_right, listed_halves}
use Rattle.member_methods.proofs.made.from_above.Goals as goal

pub inherited-requires : goal.inherited-requires
inherited-requires c =
    let above = c.args.above.now in
    rw c.as_slice.ensures.value (have_left c.args.tables.now c.args.handed.now (all_above above) above.interfaces.items above.others.items refl c.requires)

pub inherited-requires-2 : goal.inherited-requires-2
inherited-requires-2 c =
    let above = c.args.above.now in
    rw c.as_slice-2.ensures.value (have_right c.args.tables.now c.inherited.new.tables c.args.handed.now (all_above above) above.interfaces.items above.others.items refl c.in_ok-interfaces.ensures.keeps c.requires)

pub joined-requires : goal.joined-requires
joined-requires c = (c.in_ok-others.ensures.keeps.good c.in_ok-interfaces.interfaces c.in_ok-interfaces.ensures.good, c.in_ok-others.ensures.good)

pub returns-clause-interfaces : goal.returns-clause-interfaces
returns-clause-interfaces c =
    let old = c.args.tables.now in
    let one = c.inherited.new.tables in
    let new = c.joined.new.self in
    let found = subst (λ l. IsMapOf old one c.in_ok-interfaces.interfaces (IsListedIn old c.args.handed.now l)) c.as_slice.ensures.value c.in_ok-interfaces.ensures in
    map_later old one new c.in_ok-interfaces.interfaces (IsListedIn old c.args.handed.now c.args.above.now.interfaces.items) found (keeps_both one c.inherited-2.new.tables new c.in_ok-others.ensures.keeps c.in_ok-all.ensures.keeps)

pub returns-clause-all : goal.returns-clause-all
returns-clause-all c =
    let above = c.args.above.now in
    let left = c.as_slice.result.now in
    let right = c.as_slice-2.result.now in
    let is : all_above above ≡ left ++ right = sym (ap (λ l. l ++ right) c.as_slice.ensures.value ∙ ap (λ l. above.interfaces.items ++ l) c.as_slice-2.ensures.value) in
    listed_halves c.args.tables.now c.inherited.new.tables c.inherited-2.new.tables c.joined.new.self c.args.handed.now (all_above above) left right c.in_ok-interfaces.interfaces c.in_ok-others.others c.in_ok-all.all is c.requires
    c.in_ok-interfaces.ensures c.in_ok-others.ensures c.in_ok-all.ensures
