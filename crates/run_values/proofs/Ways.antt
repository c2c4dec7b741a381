-- What is done with references, by what was asked of them, and with items, by what was found.
use Rattle.std.proofs.Common.{◌≡◌, ℕ, ℤ, Bool, true, false, List, [], ◌∷◌, length, Option, Some, None, refl, sym, ap, ◌∙◌}
use Rattle.std.specs.Option.{option_map}
use Rattle.std.specs.Prelude.{option_and_then, replicate}
use Rattle.std.specs.Borrow.{Bor}
use Rattle.java_tree.specs.declared.tree.Primitive.{Primitive}
use Rattle.class_world.specs.declared.world.FieldInfo.{FieldInfo}
use Rattle.class_world.specs.declared.world.JavaType.{JavaType}
use Rattle.java_core.specs.declared.expr.CoreExpr.{CoreExpr}
use Rattle.java_core.specs.View.{plains}
use Rattle.type_kinds.specs.Kinds.{primitive}
use Rattle.type_kinds.specs.Members.{field_at}
use Rattle.core_meaning.specs.declared.values.Value.{Value}
use Rattle.core_meaning.specs.declared.values.Value.TheVariants as v
use Rattle.core_meaning.specs.declared.values.State.{State}
use Rattle.core_meaning.specs.declared.values.Variable.TheVariants as var
use Rattle.core_meaning.specs.State.{element_of, in_static, item_count, with_static, with_thing}
use Rattle.core_meaning.specs.declared.values.Thing.TheVariants.{Array}
use Rattle.core_meaning.specs.BuiltIns.{array_index_exception, array_store_exception, negative_array_size_exception}
use Rattle.core_meaning.specs.Texts.{number_units}
use Rattle.core_meaning.specs.Outcome.{Outcome, Gives, and_then, throws_plain, throws_saying, with_some, with_int, choose}
use Rattle.core_meaning.specs.Code.{Code, default_value, is_constant}
use Rattle.core_meaning.specs.Variables as variables
use Rattle.core_meaning.specs.Variables.{Place, at_item, at_place, cast_or, index_in, instance_of, is_below, may_hold, read, ready, ready_by, storable, store}
use Rattle.core_meaning.specs.Classes.{type_of}
use Rattle.core_meaning.specs.Expressions.{array_with, count, unless_negative, values}
use Rattle.run_frames.specs.declared.focus.Answer.{Answer}
use Rattle.run_frames.specs.declared.run.Run.{Run}
use Rattle.run_frames.specs.Runs.{comes, place_of}
use Rattle.run_frames.specs.Frames.{all_valued, and_nothing, and_values, nothing, on_nothing, on_values, valued}
use Rattle.run_frames.specs.declared.waits.ForNothing.TheVariants.{ReadStatic, StoreStatic}
use Rattle.run_frames.specs.declared.waits.ForValues.TheVariants.{Filled}
use Rattle.run_frames.proofs.Outcomes.{two_ways}
use Rattle.run_values.specs.Tests as tests
use Rattle.run_values.specs.Tests.{by_test, held_as, instance, may_store, passed}
use Rattle.run_values.specs.Arrays.{filled, with_firsts}
use Rattle.run_values.specs.declared.items.Found.{Found}
use Rattle.run_values.specs.declared.items.Found.TheVariants.{Outside}
use Rattle.run_values.specs.Found.{by_found, counted, found_at, placed}

mapped : {A B : Type 0} (x : Option A) (f : A → B) (s : State) (go : B → Outcome Value) → with_some (option_map f x) s go ≡ with_some x s (λ a. go (f a))
mapped None f s go = refl
mapped (Some a) f s go = refl

-- ---- casts

cast_tested : (p : Place) (t : JavaType) (a : Value) (s : State) (otherwise : State → Outcome Value)
    → passed (held_as p.code t a s) a otherwise s ≡ cast_or p t a s otherwise
cast_tested p t v.Null s otherwise = refl
cast_tested p t (v.Int z) s otherwise = refl
cast_tested p t (v.Long z) s otherwise = refl
cast_tested p t (v.Char c) s otherwise = refl
cast_tested p t (v.Truth b) s otherwise = refl
cast_tested p t (v.Text k) s otherwise = refl
cast_tested p t (v.Ref r) s otherwise = mapped (type_of (v.Ref r) s) (λ u. is_below p.code u t) s (λ b. choose b (λ s. Gives (v.Ref r) s) otherwise s)

pub cast_as : (p : Place) (t : JavaType) (a : Value) (s : State) (otherwise : State → Outcome Value) (x : Option Bool) → x ≡ held_as p.code t a s
    → passed x a otherwise s ≡ cast_or p t a s otherwise
cast_as p t a s otherwise x e = ap (λ y. passed y a otherwise s) e ∙ cast_tested p t a s otherwise

instance_tested : (p : Place) (t : JavaType) (a : Value) (s : State) → with_some (instance p.code t a s) s (λ b. Gives (v.Truth b) s) ≡ instance_of p t a s
instance_tested p t v.Null s = refl
instance_tested p t (v.Int z) s = refl
instance_tested p t (v.Long z) s = refl
instance_tested p t (v.Char c) s = refl
instance_tested p t (v.Truth b) s = refl
instance_tested p t (v.Text k) s = refl
instance_tested p t (v.Ref r) s = mapped (type_of (v.Ref r) s) (λ u. is_below p.code u t) s (λ b. Gives (v.Truth b) s)

pub instance_as : (p : Place) (t : JavaType) (a : Value) (s : State) (x : Option Bool) → x ≡ instance p.code t a s
    → with_some x s (λ b. Gives (v.Truth b) s) ≡ instance_of p t a s
instance_as p t a s x e = ap (λ y. with_some y s (λ b. Gives (v.Truth b) s)) e ∙ instance_tested p t a s

-- ---- the store test

hold_tested : (c : Code) (t : JavaType) (a : Value) (s : State) (go : State → Outcome Value)
    → by_test (held_as c t a s) go (throws_plain array_store_exception) s ≡ may_hold c t a s go
hold_tested c t v.Null s go = refl
hold_tested c t (v.Int z) s go = refl
hold_tested c t (v.Long z) s go = refl
hold_tested c t (v.Char x) s go = refl
hold_tested c t (v.Truth b) s go = refl
hold_tested c t (v.Text k) s go = refl
hold_tested c t (v.Ref r) s go = mapped (type_of (v.Ref r) s) (λ u. is_below c u t) s (λ b. choose b go (throws_plain array_store_exception) s)

store_by : (q : Option Primitive) (c : Code) (t : JavaType) (a : Value) (s : State) (go : State → Outcome Value)
    → by_test (tests.storable_by q c t a s) go (throws_plain array_store_exception) s ≡ variables.storable_by q c t a s go
store_by None c t a s go = hold_tested c t a s go
store_by (Some q) c t a s go = refl

store_tested : (u : Option JavaType) (c : Code) (a : Value) (s : State) (go : State → Outcome Value)
    → by_test (option_and_then (λ t. tests.storable_by (primitive t) c t a s) u) go (throws_plain array_store_exception) s
    ≡ with_some u s (λ t. storable c t a s go)
store_tested None c a s go = refl
store_tested (Some t) c a s go = store_by (primitive t) c t a s go

pub store_as : (c : Code) (r : ℕ) (a : Value) (s : State) (go : State → Outcome Value) (x : Option Bool) → x ≡ may_store c r a s
    → by_test x go (throws_plain array_store_exception) s ≡ with_some (element_of r s) s (λ t. storable c t a s go)
store_as c r a s go x e = ap (λ y. by_test y go (throws_plain array_store_exception) s) e ∙ store_tested (element_of r s) c a s go

-- ---- items

place_found : (r : ℕ) (k : Option ℕ) (z : ℤ) (s : State) (f : ℕ → ℕ → Outcome Value) → by_found (placed r k z) s f ≡ at_place k z s (f r)
place_found r None z s f = refl
place_found r (Some k) z s f = refl

count_found : (r : ℕ) (n : Option ℕ) (i : Value) (s : State) (f : ℕ → ℕ → Outcome Value)
    → by_found (counted r n i) s f ≡ with_some n s (λ n. with_int i s (λ z. at_place (index_in z n) z s (f r)))
count_found r None i s f = refl
count_found r (Some n) (v.Int z) s f = place_found r (index_in z n) z s f
count_found r (Some n) v.Null s f = refl
count_found r (Some n) (v.Long z) s f = refl
count_found r (Some n) (v.Char c) s f = refl
count_found r (Some n) (v.Truth b) s f = refl
count_found r (Some n) (v.Text k) s f = refl
count_found r (Some n) (v.Ref k) s f = refl

item_found : (of at : Value) (s : State) (f : ℕ → ℕ → Outcome Value) → by_found (found_at of at s) s f ≡ at_item of at s f
item_found v.Null i s f = refl
item_found (v.Int z) i s f = refl
item_found (v.Long z) i s f = refl
item_found (v.Char c) i s f = refl
item_found (v.Truth b) i s f = refl
item_found (v.Text k) i s f = refl
item_found (v.Ref r) i s f = count_found r (item_count r s) i s f

pub item_as : (of at : Value) (s : State) (f : ℕ → ℕ → Outcome Value) (x : Found) → x ≡ found_at of at s → by_found x s f ≡ at_item of at s f
item_as of at s f x e = ap (λ y. by_found y s f) e ∙ item_found of at s f

-- with an index of which there is no item
pub outside_as : (x : Found) (z y : ℤ) (s : State) (f : ℕ → ℕ → Outcome Value) → x ≡ Outside z → y ≡ z
    → throws_saying {A = Answer} array_index_exception (number_units y) s ≡ valued (by_found x s f)
outside_as x z y s f e i = ap (λ n. throws_saying {A = Answer} array_index_exception (number_units n) s) i ∙ ap (λ o. valued (by_found o s f)) (sym e)

-- with a size below zero
pub negative_as : (x : Option ℤ) (z y : ℤ) (s : State) (go : State → Outcome Value) → Some z ≡ x → y ≡ z
    → throws_saying {A = Answer} negative_array_size_exception (number_units y) s ≡ valued (unless_negative x go s)
negative_as x z y s go e i = ap (λ n. throws_saying {A = Answer} negative_array_size_exception (number_units n) s) i ∙ ap (λ o. valued (unless_negative o go s)) e

-- ---- static fields, behind the initialisation of their type

owned : (i : Option FieldInfo) (k : ℕ) (s : State) (go : ℕ → Outcome (Unit {0})) → Some k ≡ option_map (λ (i : FieldInfo). i.owner) i → go k ≡ with_some i s (λ (i : FieldInfo). go i.owner)
owned None k s go e = cc
owned (Some i) k s go e = cc

module _ (p : Place) (f : ℕ) (s : State) where
  ready_constant : true ≡ is_constant p.code f → Gives tt s ≡ ready p f s
  ready_constant e = ap (λ b. ready_by b p f s) e

  ready_owned : (k : ℕ) → false ≡ is_constant p.code f → Some k ≡ option_map (λ (i : FieldInfo). i.owner) (field_at p.code.world f) → p.initialise k s ≡ ready p f s
  ready_owned k e i = owned (field_at p.code.world f) k s (λ k. p.initialise k s) i ∙ ap (λ b. ready_by b p f s) e

  -- what is then read
  pub read_owned : (k : ℕ) → false ≡ is_constant p.code f → Some k ≡ option_map (λ (i : FieldInfo). i.owner) (field_at p.code.world f)
      → and_nothing (nothing (p.initialise k s)) (on_nothing p (ReadStatic f)) ≡ valued (read p (var.Static f) s)
  read_owned k e i =
      two_ways (p.initialise k s) _ _ _ _ (λ u s. refl)
      ∙ ap (λ o. valued (and_then o (λ u s. with_some (in_static f s) s (λ a. Gives a s)))) (ready_owned k e i)

  -- and what is stored
  pub store_constant : (a : Value) → true ≡ is_constant p.code f
      → valued (with_some (in_static f s) s (λ old. Gives a (with_static f a s))) ≡ valued (store p (var.Static f) a s)
  store_constant a e = ap (λ o. valued (and_then o (λ u s. with_some (in_static f s) s (λ old. Gives a (with_static f a s))))) (ready_constant e)

  pub store_owned : (a : Value) (k : ℕ) → false ≡ is_constant p.code f → Some k ≡ option_map (λ (i : FieldInfo). i.owner) (field_at p.code.world f)
      → and_nothing (nothing (p.initialise k s)) (on_nothing p (StoreStatic f a)) ≡ valued (store p (var.Static f) a s)
  store_owned a k e i =
      two_ways (p.initialise k s) _ _ _ _ (λ u s. refl)
      ∙ ap (λ o. valued (and_then o (λ u s. with_some (in_static f s) s (λ old. Gives a (with_static f a s))))) (ready_owned k e i)

-- ---- arrays

-- as many plain items as items
count_all : (xs : List CoreExpr) → count (plains xs) ≡ length xs
count_all [] = refl
count_all (x ∷ xs) = let e = count_all xs in cc

-- an array is there before its items are evaluated, and has them then
fill_as : (p : Place) (t : Bor JavaType) (xs : List CoreExpr) (s : State)
    → and_values (all_valued (values p (plains xs) (with_thing (Array t.now (replicate (length xs) (default_value t.now))) s))) (on_values p (Filled (length s.heap) t))
    ≡ valued (array_with t.now (count (plains xs)) (values p (plains xs)) s)
fill_as p t xs s =
    let made = with_thing (Array t.now (replicate (length xs) (default_value t.now))) s in
    two_ways (values p (plains xs) made) _ _ _ _ (λ ys s. refl)
    ∙ ap (λ n. valued (array_with t.now n (values p (plains xs)) s)) (sym (count_all xs))

-- what comes of a run in which the array is there, and its items are evaluated for it
pub filled_run : (k : Code) (old made : Run) (t : Bor JavaType) (xs : List CoreExpr) (r : ℕ) → r ≡ length old.state.heap
    → made ≡ with_firsts (length xs) t.now old
    → comes k made (and_values (all_valued (values (place_of k made) (plains xs) made.state)) (on_values (place_of k made) (Filled r t)))
    ≡ comes k old (valued (filled (place_of k old) t.now xs old.state))
filled_run k old made t xs r number after =
    ap (λ m. comes k m (and_values (all_valued (values (place_of k m) (plains xs) m.state)) (on_values (place_of k m) (Filled r t)))) after
    ∙ ap (λ n. comes k old (and_values (all_valued (values (place_of k old) (plains xs) (with_thing (Array t.now (replicate (length xs) (default_value t.now))) old.state))) (on_values (place_of k old) (Filled n t)))) number
    ∙ ap (comes k old) (fill_as (place_of k old) t xs old.state)
