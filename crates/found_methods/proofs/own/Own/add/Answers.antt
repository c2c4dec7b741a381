use Rattle.std.proofs.Common.{◌∙◌, ◌<◌, refl, sym, ap, subst, length, get_or, arith}
use Rattle.std.specs.Prelude.{slice_set}
use Rattle.std.specs.Vec.{with_item}
use Rattle.std.proofs.lemmas.Bool.{true≢false}
use Rattle.std.proofs.lemmas.Option.{slice_get_read, slice_get_within, slice_get-get_or}
use Rattle.class_world.specs.Overriding.{IsClass}
use Rattle.overrides.specs.Tables.{value_at}
use Rattle.found_methods.specs.declared.own.Own.{Own}
use Rattle.found_methods.specs.Own.{IsOwn}
use Rattle.found_methods.proofs.Owns.{own_skip, own_next, owner_is, lowest_within}
use Rattle.found_methods.proofs.own.Own.add.Goals as goal

pub returns-in_default : goal.returns-in_default
returns-in_default c = own_skip c.args.w.now c.args.labels.now c.args.m c.args.self.now (λ l d own. let declared = own.1 in c.in_default.ensures.none declared.0 declared.1) c.requires.holds

pub returns-then-not-is_class : goal.returns-then-not-is_class
returns-then-not-is_class c =
    let w = c.args.w.now in
    own_skip w c.args.labels.now c.args.m c.args.self.now
    (λ l d own.
    let owner = owner_is w c.args.labels.now c.args.m d c.in-Some.info.now c.in-Some.ensures.some own.1 in
    true≢false (sym (c.is_class.ensures.1 (subst (IsClass w) (sym owner) own.0)) ∙ c.if-not-is_class.true)) c.requires.holds

pub get_or_set-requires-clause-row : goal.get_or_set-requires-clause-row
get_or_set-requires-clause-row c =
    let w = c.args.w.now in
    let class = c.is_class.ensures.0 c.if-not-is_class.false in
    let lt = slice_get_within w.types c.in-Some.info.now.owner class.0 class.1 in
    let same = c.requires.holds.rows in
    omega (arith, lt, same)

pub get_or_set-requires-clause-key : goal.get_or_set-requires-clause-key
get_or_set-requires-clause-key c =
    let labels = c.args.labels.now in
    let size = c.requires.labels.size in
    let at = slice_get-get_or labels c.args.m 0 (omega (arith, c.requires.method, size)) in
    let lt = c.requires.labels.within c.args.m (get_or labels c.args.m 0) at in
    let keys = c.requires.holds.keys in
    omega (arith, lt, size, keys)

pub index_mut-requires : goal.index_mut-requires
index_mut-requires c =
    let w = c.args.w.now in
    let labels = c.args.labels.now in
    let size = c.requires.labels.size in
    let owner = c.in-Some.info.now.owner in
    let label = get_or labels c.args.m 0 in
    let at = slice_get-get_or labels c.args.m 0 (omega (arith, c.requires.method, size)) in
    let own : IsOwn w labels label owner c.args.m = (c.is_class.ensures.0 c.if-not-is_class.false, (c.in-Some.info.now, c.in-Some.ensures.some, refl), at) in
    let lt = lowest_within w labels c.args.m label owner c.in_ok-lowest.lowest (value_at c.args.self.now.table owner label) (c.requires.holds.lowest label owner) own c.in_ok-lowest.ensures.value in
    let groups = c.requires.holds.groups.size in
    omega (arith, lt, groups, c.args.self.now.groups.ok.0)

pub returns : goal.returns
returns c =
    let w = c.args.w.now in
    let labels = c.args.labels.now in
    let old = c.args.self.now in
    let size = c.requires.labels.size in
    let owner = c.in-Some.info.now.owner in
    let label = get_or labels c.args.m 0 in
    let k = c.in_ok-lowest.lowest in
    let at = slice_get-get_or labels c.args.m 0 (omega (arith, c.requires.method, size)) in
    let own : IsOwn w labels label owner c.args.m = (c.is_class.ensures.0 c.if-not-is_class.false, (c.in-Some.info.now, c.in-Some.ensures.some, refl), at) in
    let lt : k < length old.groups.items =
    (let low = lowest_within w labels c.args.m label owner k (value_at old.table owner label) (c.requires.holds.lowest label owner) own c.in_ok-lowest.ensures.value in let groups = c.requires.holds.groups.size in omega (arith, low, groups)) in
    let row = slice_get_read old.groups.items (length old.groups.items) k c.index_mut.result.now refl lt c.index_mut.ensures.value in
    let new : Own = record { table = c.get_or_set.new.self; groups = with_item old.groups k c.push.new.self } in
    own_next w labels c.args.m label owner k old new c.index_mut.result.now c.requires.holds own c.in_ok-lowest.ensures.size c.in_ok-lowest.ensures.value c.in_ok-lowest.ensures.written row
    (ap (slice_set old.groups.items k) c.in_ok-push.ensures.ok)
