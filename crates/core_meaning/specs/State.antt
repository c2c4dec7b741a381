-- What a state holds, and how it changes.
use Rattle.std.specs.Prelude.{ℕ, zero, suc, ◌==◌, true, if◌then◌else◌, List, [], ◌∷◌, ◌++◌, map, Option, Some, None, slice_get, slice_set, length, option_and_then}
use Rattle.std.specs.List.{find}
use Rattle.std.specs.Option.{option_map}
use Rattle.class_world.specs.declared.world.JavaType.{JavaType}
use Rattle.core_meaning.specs.declared.values.Value.{Value}
use Rattle.core_meaning.specs.declared.values.Progress.{Progress}
use Rattle.core_meaning.specs.declared.values.Held.{Held}
use Rattle.core_meaning.specs.declared.values.Thing.{Thing}
use Rattle.core_meaning.specs.declared.values.Thing.TheVariants.{Object, Array}
use Rattle.core_meaning.specs.declared.values.Frame.{Frame}
use Rattle.core_meaning.specs.declared.values.State.{State}

-- ---- fields

-- what a field holds
abbrev pub held : ℕ → List Held → Option Value
held k hs = option_map (λ h. h.value) (find (λ h. h.field == k) hs)

abbrev pub with_value : ℕ → Value → Held → Held
with_value k a h = record { field = h.field; value = if h.field == k then a else h.value }

-- the fields with this value in one of them
abbrev pub with_held : ℕ → Value → List Held → List Held
with_held k a hs = map (with_value k a) hs

-- ---- objects and arrays

-- a thing's field, where it is an object that has one
abbrev pub thing_field : ℕ → Thing → Option Value
thing_field f (Object c hs m) = held f hs
thing_field f (Array t xs) = None

-- the message of an object
abbrev pub thing_message : Thing → Option Value
thing_message (Object c hs m) = Some m
thing_message (Array t xs) = None

abbrev pub thing_items : Thing → Option (List Value)
thing_items (Object c hs m) = None
thing_items (Array t xs) = Some xs

abbrev pub thing_element : Thing → Option JavaType
thing_element (Object c hs m) = None
thing_element (Array t xs) = Some t

-- a field takes a value
abbrev pub thing_with : ℕ → Value → Thing → Thing
thing_with f a (Object c hs m) = Object c (with_held f a hs) m
thing_with f a (Array t xs) = Array t xs

abbrev pub thing_saying : Value → Thing → Thing
thing_saying a (Object c hs m) = Object c hs a
thing_saying a (Array t xs) = Array t xs

-- an item takes a value
abbrev pub thing_item : ℕ → Value → Thing → Thing
thing_item k a (Object c hs m) = Object c hs m
thing_item k a (Array t xs) = Array t (slice_set xs k a)

abbrev pub thing_at : ℕ → State → Option Thing
thing_at r s = slice_get s.heap r

-- what a field of an object holds
abbrev pub field_of : (r f : ℕ) → State → Option Value
field_of r f s = option_and_then (thing_field f) (thing_at r s)

abbrev pub message_of : ℕ → State → Option Value
message_of r s = option_and_then thing_message (thing_at r s)

-- the items of an array, and the type of its elements
abbrev pub items_of : ℕ → State → Option (List Value)
items_of r s = option_and_then thing_items (thing_at r s)

abbrev pub element_of : ℕ → State → Option JavaType
element_of r s = option_and_then thing_element (thing_at r s)

-- how many items an array has
abbrev pub item_count : ℕ → State → Option ℕ
item_count r s = option_map length (items_of r s)

-- an item of an array, where there is an array and such an item
abbrev pub item_of : (r k : ℕ) → State → Option Value
item_of r k s = option_and_then (λ xs. slice_get xs k) (items_of r s)

-- ---- parameters and locals

abbrev pub joined : {A : Type 0} → Option (Option A) → Option A
joined None = None
joined (Some x) = x

-- what a static field holds
abbrev pub in_static : ℕ → State → Option Value
in_static k s = joined (slice_get s.statics k)

-- what a parameter or local holds, where it holds something
abbrev pub in_slot : ℕ → Frame → Option Value
in_slot k f = joined (slice_get f.slots k)

-- the slots with this value in one of them; a new one before it holds nothing
abbrev pub with_slot : ℕ → Value → List (Option Value) → List (Option Value)
with_slot zero a [] = Some a ∷ []
with_slot zero a (x ∷ xs) = Some a ∷ xs
with_slot (suc k) a [] = None ∷ with_slot k a []
with_slot (suc k) a (x ∷ xs) = x ∷ with_slot k a xs

-- ---- changes

abbrev pub with_frame : Frame → State → State
with_frame f s = record s { frame = f }

abbrev pub with_local : ℕ → Value → State → State
with_local k a s = record s { frame = record { this = s.frame.this; slots = with_slot k a s.frame.slots } }

abbrev pub with_static : ℕ → Value → State → State
with_static k a s = record s { statics = slice_set s.statics k (Some a) }

-- the heap with a change of one thing in it
abbrev pub changed : (Thing → Thing) → ℕ → List Thing → List Thing
changed f r [] = []
changed f zero (x ∷ xs) = f x ∷ xs
changed f (suc r) (x ∷ xs) = x ∷ changed f r xs

abbrev pub with_changed : (Thing → Thing) → ℕ → State → State
with_changed f r s = record s { heap = changed f r s.heap }

abbrev pub with_field : (r f : ℕ) → Value → State → State
with_field r f a s = with_changed (thing_with f a) r s

abbrev pub with_message : ℕ → Value → State → State
with_message r a s = with_changed (thing_saying a) r s

abbrev pub with_item : (r k : ℕ) → Value → State → State
with_item r k a s = with_changed (thing_item k a) r s

-- an array in the place of what has this number
abbrev pub with_array : ℕ → JavaType → List Value → State → State
with_array r t xs s = record s { heap = slice_set s.heap r (Array t xs) }

-- a new object or array; its number is that of those before it
abbrev pub with_thing : Thing → State → State
with_thing x s = record s { heap = s.heap ++ x ∷ [] }

-- a new string; its identity is the number of those before it
abbrev pub with_text : List ℕ → State → State
with_text units s = record s { texts = s.texts ++ units ∷ [] }

-- the same, and it is that of a literal
abbrev pub with_literal : List ℕ → State → State
with_literal units s = record s { texts = s.texts ++ units ∷ []; literals = s.literals ++ length s.texts ∷ [] }

abbrev pub with_progress : ℕ → Progress → State → State
with_progress c x s = record s { progress = slice_set s.progress c x }

abbrev pub with_printed : List ℕ → State → State
with_printed bytes s = record s { printed = s.printed ++ bytes }

abbrev pub with_entered : ℕ → State → State
with_entered m s = record s { entered = s.entered ++ m ∷ [] }

-- the run has gone wrong
abbrev pub gone_wrong : State → State
gone_wrong s = record s { wrong = true }
