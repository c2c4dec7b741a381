use Rattle.std.proofs.Common.{◌≡◌, ℕ, Some, None, cond, nat_eq, refl, sym, ap, ◌∙◌, subst, length, arith}
use Rattle.std.specs.Prelude.{slice_get}
use Rattle.std.specs.HashMap.{get}
use Rattle.std.proofs.lemmas.Option.{slice_get_within, slice_get_read}
use Rattle.member_methods.specs.declared.own.Group.{Group}
use Rattle.member_methods.proofs.Groups.{placed_set, has_set, keys_set, placed_push, has_push, keys_push}
use Rattle.member_methods.proofs.own.add_to_group.Goals as goal

pub index_mut-requires : goal.index_mut-requires
index_mut-requires c =
    let found : get nat_eq c.args.places.now c.args.key ≡ Some c.in-Some.place = sym c.get.ensures.value ∙ sym c.copied.ensures ∙ c.in-Some.is in
    let g = (c.requires c.args.key c.in-Some.place).0 found in
    let lt = slice_get_within c.args.groups.now.items c.in-Some.place g.0 g.1 in
    omega (arith, lt, c.args.groups.now.ok.0)

there : (c : goal.In_ok-push-in-Some) → (slice_get c.args.groups.now.items c.in-Some.place ≡ Some c.index_mut.result.now) × (c.index_mut.result.now.key ≡ c.args.key)
there c =
    let found : get nat_eq c.args.places.now c.args.key ≡ Some c.in-Some.place = sym c.get.ensures.value ∙ sym c.copied.ensures ∙ c.in-Some.is in
    let g = (c.requires c.args.key c.in-Some.place).0 found in
    let items = c.args.groups.now.items in
    let at : slice_get items c.in-Some.place ≡ Some c.index_mut.result.now = slice_get_read items (length items) c.in-Some.place c.index_mut.result.now refl (slice_get_within items c.in-Some.place g.0 g.1) c.index_mut.ensures.value in
    let is : g.0 ≡ c.index_mut.result.now = let both : Some g.0 ≡ Some c.index_mut.result.now = sym g.1 ∙ at in cc both in
    (at, ap (λ (x : Group). x.key) (sym is) ∙ g.2)

pub returns-in_ok-push-in-Some-clause-places : goal.returns-in_ok-push-in-Some-clause-places
returns-in_ok-push-in-Some-clause-places c =
    let t = there c in
    placed_set (get nat_eq c.args.places.now) c.args.groups.now.items _ c.in-Some.place c.args.key c.args.m c.index_mut.result.now _ c.requires t.0 t.1 refl refl c.in_ok-push-in-Some.ensures.ok

pub returns-in_ok-push-in-Some-clause-has : goal.returns-in_ok-push-in-Some-clause-has
returns-in_ok-push-in-Some-clause-has c =
    let t = there c in
    has_set (get nat_eq c.args.places.now) c.args.groups.now.items _ c.in-Some.place c.args.key c.args.m c.index_mut.result.now _ c.requires t.0 t.1 refl refl c.in_ok-push-in-Some.ensures.ok

pub returns-in_ok-push-in-Some-clause-keys : goal.returns-in_ok-push-in-Some-clause-keys
returns-in_ok-push-in-Some-clause-keys c =
    let t = there c in
    keys_set (get nat_eq c.args.places.now) c.args.groups.now.items _ c.in-Some.place c.args.key c.args.m c.index_mut.result.now _ c.requires t.0 t.1 refl refl c.in_ok-push-in-Some.ensures.ok

module _ (c : goal.In_ok-push-in-None) where
  none : get nat_eq c.args.places.now c.args.key ≡ None
  none = sym c.get.ensures.value ∙ sym c.copied.ensures ∙ c.in-None.is

  puts : (q : ℕ) → get nat_eq c.insert.new.self q ≡ cond (nat_eq c.args.key q) (Some (length c.args.groups.now.items)) (get nat_eq c.args.places.now q)
  puts q =
      let size : c.len.result ≡ length c.args.groups.now.items = omega (arith, c.len.ensures, c.args.groups.now.ok.0) in
      subst (λ n. get nat_eq c.insert.new.self q ≡ cond (nat_eq c.args.key q) (Some n) (get nat_eq c.args.places.now q)) size (c.in_ok-insert-in-None.ensures.updates.0 q)

pub returns-in_ok-push-in-None-clause-places : goal.returns-in_ok-push-in-None-clause-places
returns-in_ok-push-in-None-clause-places c =
    placed_push (get nat_eq c.args.places.now) (get nat_eq c.insert.new.self) c.args.groups.now.items _ c.args.key c.args.m _ c.requires (none c) (puts c) c.in_ok-push-in-None.ensures.items refl c.in_ok-one-in-None.ensures

pub returns-in_ok-push-in-None-clause-has : goal.returns-in_ok-push-in-None-clause-has
returns-in_ok-push-in-None-clause-has c =
    has_push (get nat_eq c.args.places.now) (get nat_eq c.insert.new.self) c.args.groups.now.items _ c.args.key c.args.m _ c.requires (none c) (puts c) c.in_ok-push-in-None.ensures.items refl c.in_ok-one-in-None.ensures

pub returns-in_ok-push-in-None-clause-keys : goal.returns-in_ok-push-in-None-clause-keys
returns-in_ok-push-in-None-clause-keys c =
    keys_push (get nat_eq c.args.places.now) (get nat_eq c.insert.new.self) c.args.groups.now.items _ c.args.key c.args.m _ c.requires (none c) (puts c) c.in_ok-push-in-None.ensures.items refl c.in_ok-one-in-None.ensures
