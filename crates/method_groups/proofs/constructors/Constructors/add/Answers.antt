use Rattle.std.proofs.Common.{◌≡◌, ℕ, List, ◌++◌, ◌∷◌, [], Some, None, cond, refl, sym, ap, ◌∙◌, length, arith}
use Rattle.std.specs.Prelude.{slice_get, slice_set}
use Rattle.std.proofs.lemmas.Option.{slice_get_within, slice_get_read}
use Rattle.method_groups.specs.declared.constructors.Shape.{Shape}
use Rattle.method_groups.specs.Constructors.{found_in, same_shape}
use Rattle.method_groups.proofs.Shapes.{lists_set, has_set, lists_push, has_push}
use Rattle.method_groups.proofs.constructors.Constructors.add.Goals as goal

pub index_mut-requires : goal.index_mut-requires
index_mut-requires c =
    let found : found_in c.args.self.now.places c.args.shape ≡ Some c.in-Some.place = sym c.get.ensures.value ∙ sym c.copied.ensures ∙ c.in-Some.is in
    let row = c.requires.lists.there c.args.shape c.in-Some.place found in
    let lt = slice_get_within c.args.self.now.lists.items c.in-Some.place row.0 row.1 in
    omega (arith, lt, c.args.self.now.lists.ok.0)

module _ (c : goal.In_ok-push-in-Some) where
  found : found_in c.args.self.now.places c.args.shape ≡ Some c.in-Some.place
  found = sym c.get.ensures.value ∙ sym c.copied.ensures ∙ c.in-Some.is

  row_at : slice_get c.args.self.now.lists.items c.in-Some.place ≡ Some c.index_mut.result.now
  row_at =
      let lists = c.args.self.now.lists.items in
      let row = c.requires.lists.there c.args.shape c.in-Some.place found in
      slice_get_read lists (length lists) c.in-Some.place c.index_mut.result.now refl (slice_get_within lists c.in-Some.place row.0 row.1) c.index_mut.ensures.value

pub returns-in_ok-push-in-Some-clause-lists : goal.returns-in_ok-push-in-Some-clause-lists
returns-in_ok-push-in-Some-clause-lists c =
    let lists = c.args.self.now.lists.items in
    lists_set (found_in c.args.self.now.places) lists _ c.args.shape c.in-Some.place c.args.m c.index_mut.result.now c.requires.lists c.requires.above (found c) (row_at c)
    (ap (slice_set lists c.in-Some.place) c.in_ok-push-in-Some.ensures.ok)

pub returns-in_ok-push-in-Some-clause-has : goal.returns-in_ok-push-in-Some-clause-has
returns-in_ok-push-in-Some-clause-has c =
    let lists = c.args.self.now.lists.items in
    has_set (found_in c.args.self.now.places) lists _ c.args.shape c.in-Some.place c.args.m c.index_mut.result.now c.requires.lists c.requires.above (found c) (row_at c)
    (ap (slice_set lists c.in-Some.place) c.in_ok-push-in-Some.ensures.ok)

module _ (c : goal.In_ok-push-in-None) where
  none : found_in c.args.self.now.places c.args.shape ≡ None
  none = sym c.get.ensures.value ∙ sym c.copied.ensures ∙ c.in-None.is

  place : c.in-Ok.place ≡ length c.args.self.now.lists.items
  place = omega (arith, c.in-Ok.ensures, c.len.ensures, c.args.self.now.lists.ok.0)

  puts : (q : Shape) → found_in c.insert.new.self q ≡ cond (same_shape c.args.shape q) (Some c.in-Ok.place) (found_in c.args.self.now.places q)
  puts q = c.in_ok-insert-in-None.ensures.updates.0 q

  made : c.push-in-None.new.self.items ≡ c.args.self.now.lists.items ++ (c.args.m ∷ []) ∷ []
  made = c.in_ok-push-in-None.ensures.items ∙ ap (λ (xs : List ℕ). c.args.self.now.lists.items ++ xs ∷ []) c.in_ok-one-in-None.ensures

pub returns-in_ok-push-in-None-clause-lists : goal.returns-in_ok-push-in-None-clause-lists
returns-in_ok-push-in-None-clause-lists c =
    lists_push (found_in c.args.self.now.places) (found_in c.insert.new.self) c.args.self.now.lists.items _ c.args.shape c.in-Ok.place c.args.m c.requires.lists (none c) (place c) (puts c)
    (made c)

pub returns-in_ok-push-in-None-clause-has : goal.returns-in_ok-push-in-None-clause-has
returns-in_ok-push-in-None-clause-has c =
    has_push (found_in c.args.self.now.places) (found_in c.insert.new.self) c.args.self.now.lists.items _ c.args.shape c.in-Ok.place c.args.m c.requires.lists (none c) (place c) (puts c)
    (made c)
