-- What of a state differs in the new program, and that it goes on to correspond as states change.
use Rattle.std.proofs.Common.{◌≡◌, ℕ, zero, suc, ◌+◌, ◌<◌, Bool, true, false, ◌==◌, List, [], ◌∷◌, ◌++◌, map, length, Option, Some, None, refl, sym, ap, ◌∙◌, subst, arith}
use Rattle.std.specs.Prelude.{slice_get, slice_set, option_and_then, if◌then◌else◌}
use Rattle.std.specs.List.{find}
use Rattle.std.specs.Option.{option_map}
use Rattle.class_world.specs.declared.world.JavaType.{JavaType}
use Rattle.class_world.specs.declared.world.JavaType.TheVariants as ty
use Rattle.class_world.specs.Types.{erased}
use Rattle.core_meaning.specs.declared.values.Value.{Value}
use Rattle.core_meaning.specs.declared.values.Value.TheVariants as v
use Rattle.core_meaning.specs.declared.values.Held.{Held}
use Rattle.core_meaning.specs.declared.values.Progress.{Progress}
use Rattle.core_meaning.specs.declared.values.State.{State}
use Rattle.core_meaning.specs.declared.values.Thing.{Thing}
use Rattle.core_meaning.specs.declared.values.Thing.TheVariants.{Object, Array}
use Rattle.core_meaning.specs.BuiltIns.{object_class}
use Rattle.core_meaning.specs.State.{held, with_value, with_held, thing_field, thing_message, thing_items, thing_element, thing_with, thing_saying, thing_item, changed, joined}
use Rattle.core_meaning.specs.Classes.{class_of_thing, type_of_thing}
use Rattle.program_maps.specs.Ways.{Ways, IsOneToOne, moved}
use Rattle.program_maps.specs.Correspond.{ThingAlike}
use Rattle.class_world.proofs.Substs.{erased_class, erased_array}
use Rattle.alike_laws.proofs.Types.{moved_class, moved_array}

-- ---- numbers

pub same_test : (a b c d : ℕ) → (a ≡ b → c ≡ d) → (c ≡ d → a ≡ b) → (a == b) ≡ (c == d)
same_test a b c d h k = grind (arith, h, k)

same_number : (a : ℕ) → (a == a) ≡ true
same_number a = grind arith

other_number : (a b : ℕ) → (a ≡ b → ⊥) → (a == b) ≡ false
other_number a b h = grind (arith, h)

-- ---- lists

-- what a place of a list has after another one took a value
abbrev put_if : {A : Type 0} → Bool → A → Option A → Option A
put_if true a o = option_map (λ b. a) o
put_if false a o = o

none_put : {A : Type 0} (b : Bool) (a : A) → None ≡ put_if b a None
none_put true a = refl
none_put false a = refl

pub get_set : {A : Type 0} (xs : List A) (i j : ℕ) (a : A) → slice_get (slice_set xs i a) j ≡ put_if (i == j) a (slice_get xs j)
get_set [] i zero a = none_put (i == 0) a
get_set [] i (suc j) a = none_put (i == suc j) a
get_set (x ∷ xs) zero zero a = ap (λ b. put_if b a (Some x)) (sym (same_number 0))
get_set (x ∷ xs) zero (suc j) a = ap (λ b. put_if b a (slice_get xs j)) (sym (other_number 0 (suc j) (omega arith)))
get_set (x ∷ xs) (suc i) zero a = ap (λ b. put_if b a (Some x)) (sym (other_number (suc i) 0 (omega arith)))
get_set (x ∷ xs) (suc i) (suc j) a = get_set xs i j a ∙ ap (λ b. put_if b a (slice_get xs j)) (same_test i j (suc i) (suc j) (ap suc) (λ e. omega (arith, e)))

pub length_set : {A : Type 0} (xs : List A) (i : ℕ) (a : A) → length (slice_set xs i a) ≡ length xs
length_set [] i a = refl
length_set (x ∷ xs) zero a = refl
length_set (x ∷ xs) (suc i) a = ap suc (length_set xs i a)

-- two lists that are the same through a map that is one to one, after one place took a value
pub set_moved : {A : Type 0} (f : ℕ → ℕ) → IsOneToOne f → (xs ys : List A) → ((k : ℕ) → slice_get ys (f k) ≡ slice_get xs k) → (i : ℕ) (a : A) (k : ℕ)
    → slice_get (slice_set ys (f i) a) (f k) ≡ slice_get (slice_set xs i a) k
set_moved f one xs ys h i a k =
    get_set ys (f i) (f k) a
    ∙ ap (λ b. put_if b a (slice_get ys (f k))) (same_test (f i) (f k) i k (one i k) (ap f))
    ∙ ap (put_if (i == k) a) (h k)
    ∙ sym (get_set xs i k a)

-- ---- fields

held_step : (f k : ℕ) (a : Value) (h : Held) (hs : List Held) → held f (with_held k a hs) ≡ put_if (k == f) a (held f hs)
    → held f (with_held k a (h ∷ hs)) ≡ put_if (k == f) a (held f (h ∷ hs))
held_step f k a h hs w = at (h.field == f) (h.field == k) (k == f) refl refl refl
  where
    at : (b c d : Bool) → (h.field == f) ≡ b → (h.field == k) ≡ c → (k == f) ≡ d
        → option_map (λ (x : Held). x.value) (if b then Some (with_value k a h) else find (λ x. x.field == f) (with_held k a hs))
        ≡ put_if d a (option_map (λ (x : Held). x.value) (if b then Some h else find (λ x. x.field == f) hs))
    at true true true e g i = ap (λ c. Some (if c then a else h.value)) g
    at true false false e g i = ap (λ c. Some (if c then a else h.value)) g
    at true true false e g i = absurd (grind (arith, e, g, i))
    at true false true e g i = absurd (grind (arith, e, g, i))
    at false c d e g i = w ∙ ap (λ d. put_if d a (held f hs)) i

pub held_with : (f k : ℕ) (a : Value) (hs : List Held) → held f (with_held k a hs) ≡ put_if (k == f) a (held f hs)
held_with f k a [] = none_put (k == f) a
held_with f k a (h ∷ hs) = held_step f k a h hs (held_with f k a hs)

pub held_moved : (f : ℕ → ℕ) → IsOneToOne f → (hs hs' : List Held) → ((k : ℕ) → held (f k) hs' ≡ held k hs) → (i : ℕ) (a : Value) (k : ℕ)
    → held (f k) (with_held (f i) a hs') ≡ held k (with_held i a hs)
held_moved f one hs hs' h i a k =
    held_with (f k) (f i) a hs'
    ∙ ap (λ b. put_if b a (held (f k) hs')) (same_test (f i) (f k) i k (one i k) (ap f))
    ∙ ap (put_if (i == k) a) (h k)
    ∙ sym (held_with k i a hs)

-- ---- things

abbrev pub ThingsAlike : Ways → List Thing → List Thing → Type 0
ThingsAlike φ [] [] = Unit {0}
ThingsAlike φ (x ∷ xs) (y ∷ ys) = ThingAlike φ x y × ThingsAlike φ xs ys
ThingsAlike φ _ _ = ⊥

abbrev pub OptThingAlike : Ways → Option Thing → Option Thing → Type 0
OptThingAlike φ None None = Unit {0}
OptThingAlike φ (Some x) (Some y) = ThingAlike φ x y
OptThingAlike φ _ _ = ⊥

module _ (φ : Ways) where
  pub things_length : (xs ys : List Thing) → ThingsAlike φ xs ys → length ys ≡ length xs
  things_length [] [] h = refl
  things_length (x ∷ xs) (y ∷ ys) h = ap suc (things_length xs ys h.1)
  things_length [] (y ∷ ys) h = absurd h
  things_length (x ∷ xs) [] h = absurd h

  pub things_at : (xs ys : List Thing) (r : ℕ) → ThingsAlike φ xs ys → OptThingAlike φ (slice_get xs r) (slice_get ys r)
  things_at [] [] zero h = tt
  things_at [] [] (suc r) h = tt
  things_at (x ∷ xs) (y ∷ ys) zero h = h.0
  things_at (x ∷ xs) (y ∷ ys) (suc r) h = things_at xs ys r h.1
  things_at [] (y ∷ ys) r h = absurd h
  things_at (x ∷ xs) [] r h = absurd h

  pub things_pushed : (xs ys : List Thing) (x y : Thing) → ThingsAlike φ xs ys → ThingAlike φ x y → ThingsAlike φ (xs ++ x ∷ []) (ys ++ y ∷ [])
  things_pushed [] [] x y h k = (k, tt)
  things_pushed (a ∷ xs) (b ∷ ys) x y h k = (h.0, things_pushed xs ys x y h.1 k)
  things_pushed [] (b ∷ ys) x y h k = absurd h
  things_pushed (a ∷ xs) [] x y h k = absurd h

  pub things_changed : (f g : Thing → Thing) → ((x y : Thing) → ThingAlike φ x y → ThingAlike φ (f x) (g y)) → (r : ℕ) (xs ys : List Thing) → ThingsAlike φ xs ys
      → ThingsAlike φ (changed f r xs) (changed g r ys)
  things_changed f g k r [] [] h = tt
  things_changed f g k zero (x ∷ xs) (y ∷ ys) h = (k x y h.0, h.1)
  things_changed f g k (suc r) (x ∷ xs) (y ∷ ys) h = (h.0, things_changed f g k r xs ys h.1)
  things_changed f g k r [] (y ∷ ys) h = absurd h
  things_changed f g k r (x ∷ xs) [] h = absurd h

  pub things_set : (x y : Thing) → ThingAlike φ x y → (r : ℕ) (xs ys : List Thing) → ThingsAlike φ xs ys → ThingsAlike φ (slice_set xs r x) (slice_set ys r y)
  things_set x y k r [] [] h = tt
  things_set x y k zero (a ∷ xs) (b ∷ ys) h = (k, h.1)
  things_set x y k (suc r) (a ∷ xs) (b ∷ ys) h = (h.0, things_set x y k r xs ys h.1)
  things_set x y k r [] (b ∷ ys) h = absurd h
  things_set x y k r (a ∷ xs) [] h = absurd h

  -- ---- one of them

  pub with_alike : IsOneToOne φ.fields → (f : ℕ) (a : Value) (x y : Thing) → ThingAlike φ x y → ThingAlike φ (thing_with f a x) (thing_with (φ.fields f) a y)
  with_alike one f a (Object k hs m) (Object k' hs' m') h = (h.0, h.1, held_moved φ.fields one hs hs' h.2 f a)
  with_alike one f a (Array t xs) (Array t' xs') h = h
  with_alike one f a (Object k hs m) (Array t' xs') h = absurd h
  with_alike one f a (Array t xs) (Object k' hs' m') h = absurd h

  pub saying_alike : (a : Value) (x y : Thing) → ThingAlike φ x y → ThingAlike φ (thing_saying a x) (thing_saying a y)
  saying_alike a (Object k hs m) (Object k' hs' m') h = (h.0, refl, h.2)
  saying_alike a (Array t xs) (Array t' xs') h = h
  saying_alike a (Object k hs m) (Array t' xs') h = absurd h
  saying_alike a (Array t xs) (Object k' hs' m') h = absurd h

  pub item_alike : (k : ℕ) (a : Value) (x y : Thing) → ThingAlike φ x y → ThingAlike φ (thing_item k a x) (thing_item k a y)
  item_alike k a (Object c hs m) (Object c' hs' m') h = h
  item_alike k a (Array t xs) (Array t' xs') h = (h.0, h.1, ap (λ xs. slice_set xs k a) h.2)
  item_alike k a (Object c hs m) (Array t' xs') h = absurd h
  item_alike k a (Array t xs) (Object c' hs' m') h = absurd h

  pub field_alike : (f : ℕ) (o o' : Option Thing) → OptThingAlike φ o o' → option_and_then (thing_field (φ.fields f)) o' ≡ option_and_then (thing_field f) o
  field_alike f None None h = refl
  field_alike f (Some (Object k hs m)) (Some (Object k' hs' m')) h = h.2 f
  field_alike f (Some (Array t xs)) (Some (Array t' xs')) h = refl
  field_alike f (Some (Object k hs m)) (Some (Array t' xs')) h = absurd h
  field_alike f (Some (Array t xs)) (Some (Object k' hs' m')) h = absurd h
  field_alike f None (Some y) h = absurd h
  field_alike f (Some x) None h = absurd h

  pub message_alike : (o o' : Option Thing) → OptThingAlike φ o o' → option_and_then thing_message o' ≡ option_and_then thing_message o
  message_alike None None h = refl
  message_alike (Some (Object k hs m)) (Some (Object k' hs' m')) h = ap Some h.1
  message_alike (Some (Array t xs)) (Some (Array t' xs')) h = refl
  message_alike (Some (Object k hs m)) (Some (Array t' xs')) h = absurd h
  message_alike (Some (Array t xs)) (Some (Object k' hs' m')) h = absurd h
  message_alike None (Some y) h = absurd h
  message_alike (Some x) None h = absurd h

  pub items_alike : (o o' : Option Thing) → OptThingAlike φ o o' → option_and_then thing_items o' ≡ option_and_then thing_items o
  items_alike None None h = refl
  items_alike (Some (Object k hs m)) (Some (Object k' hs' m')) h = refl
  items_alike (Some (Array t xs)) (Some (Array t' xs')) h = ap Some h.2
  items_alike (Some (Object k hs m)) (Some (Array t' xs')) h = absurd h
  items_alike (Some (Array t xs)) (Some (Object k' hs' m')) h = absurd h
  items_alike None (Some y) h = absurd h
  items_alike (Some x) None h = absurd h

  pub element_alike : (o o' : Option Thing) → OptThingAlike φ o o' → option_and_then thing_element o' ≡ option_map (moved φ.types) (option_and_then thing_element o)
  element_alike None None h = refl
  element_alike (Some (Object k hs m)) (Some (Object k' hs' m')) h = refl
  element_alike (Some (Array t xs)) (Some (Array t' xs')) h = ap Some h.1
  element_alike (Some (Object k hs m)) (Some (Array t' xs')) h = absurd h
  element_alike (Some (Array t xs)) (Some (Object k' hs' m')) h = absurd h
  element_alike None (Some y) h = absurd h
  element_alike (Some x) None h = absurd h

  pub element_erased : (o o' : Option Thing) → OptThingAlike φ o o' → (t : JavaType) → option_and_then thing_element o ≡ Some t → erased t ≡ t
  element_erased None o' h t e = absurd (cc e)
  element_erased (Some (Object k hs m)) o' h t e = absurd (cc e)
  element_erased (Some (Array u xs)) (Some (Array u' xs')) h t e = subst (λ t. erased t ≡ t) (same e) h.0
    where
      same : Some u ≡ Some t → u ≡ t
      same e = cc e
  element_erased (Some (Array u xs)) (Some (Object k' hs' m')) h t e = absurd h
  element_erased (Some (Array u xs)) None h t e = absurd h

  pub class_alike : φ.types object_class ≡ object_class → (o o' : Option Thing) → OptThingAlike φ o o'
      → option_map class_of_thing o' ≡ option_map φ.types (option_map class_of_thing o)
  class_alike top None None h = refl
  class_alike top (Some (Object k hs m)) (Some (Object k' hs' m')) h = ap Some h.0
  class_alike top (Some (Array t xs)) (Some (Array t' xs')) h = ap Some (sym top)
  class_alike top (Some (Object k hs m)) (Some (Array t' xs')) h = absurd h
  class_alike top (Some (Array t xs)) (Some (Object k' hs' m')) h = absurd h
  class_alike top None (Some y) h = absurd h
  class_alike top (Some x) None h = absurd h

  pub type_alike : (o o' : Option Thing) → OptThingAlike φ o o' → option_map type_of_thing o' ≡ option_map (moved φ.types) (option_map type_of_thing o)
  type_alike None None h = refl
  type_alike (Some (Object k hs m)) (Some (Object k' hs' m')) h = ap (λ k. Some (ty.Class k [])) h.0 ∙ ap Some (sym (moved_class φ.types k []))
  type_alike (Some (Array t xs)) (Some (Array t' xs')) h = ap (λ t. Some (ty.Array t)) h.1 ∙ ap Some (sym (moved_array φ.types t))
  type_alike (Some (Object k hs m)) (Some (Array t' xs')) h = absurd h
  type_alike (Some (Array t xs)) (Some (Object k' hs' m')) h = absurd h
  type_alike None (Some y) h = absurd h
  type_alike (Some x) None h = absurd h

  pub type_erased : (o o' : Option Thing) → OptThingAlike φ o o' → (t : JavaType) → option_map type_of_thing o ≡ Some t → erased t ≡ t
  type_erased None o' h t e = absurd (cc e)
  type_erased (Some (Object k hs m)) o' h t e = subst (λ t. erased t ≡ t) (same e) (erased_class k [])
    where
      same : Some (ty.Class k []) ≡ Some t → ty.Class k [] ≡ t
      same e = cc e
  type_erased (Some (Array u xs)) (Some (Array u' xs')) h t e = subst (λ t. erased t ≡ t) (same e) (erased_array u ∙ ap ty.Array h.0)
    where
      same : Some (ty.Array u) ≡ Some t → ty.Array u ≡ t
      same e = cc e
  type_erased (Some (Array u xs)) (Some (Object k' hs' m')) h t e = absurd h
  type_erased (Some (Array u xs)) None h t e = absurd h

-- ---- states

-- what of a state the map changes, as the new program has it, but for the entered methods
pub record Other : Type 0 where
  pub heap : List Thing
  pub statics : List (Option Value)
  pub progress : List Progress

-- the same of the old program, and whether its run has gone wrong
pub record Key : Type 0 where
  pub heap : List Thing
  pub statics : List (Option Value)
  pub progress : List Progress
  pub wrong : Bool

abbrev pub key : State → Key
key s = record { heap = s.heap; statics = s.statics; progress = s.progress; wrong = s.wrong }

pub record OtherOf (φ : Ways) (s : Key) (x : Other) : Type 0 where
  pub heap : ThingsAlike φ s.heap x.heap
  pub statics : (f : ℕ) → slice_get x.statics (φ.fields f) ≡ slice_get s.statics f
  pub progress : (k : ℕ) → slice_get x.progress (φ.types k) ≡ slice_get s.progress k

-- the state of the new program
abbrev pub image : Ways → State → Other → State
image φ s x = record {
  left = s.left;
  heap = x.heap;
  texts = s.texts;
  literals = s.literals;
  statics = x.statics;
  progress = x.progress;
  frame = s.frame;
  printed = s.printed;
  entered = map φ.methods s.entered;
  wrong = s.wrong;
}
