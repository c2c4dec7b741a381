-- From what was compared to how the programs run.
use Rattle.std.proofs.Common.{◌≡◌, ℕ, zero, suc, ◌+◌, ◌<◌, ◌≤◌, ◌⊎◌, inl, inr, Bool, List, [], ◌∷◌, ◌++◌, flat_map, length, Option, Some, None, refl, sym, ap, ◌∙◌, subst, arith}
use Rattle.std.specs.Prelude.{◌==◌, slice_get, option_and_then, if◌then◌else◌}
use Rattle.std.specs.List.{find}
use Rattle.std.specs.Option.{option_map}
use Rattle.std.proofs.lemmas.Option.{slice_get_past, slice_get_within}
use Rattle.class_world.specs.declared.world.MethodInfo.{MethodInfo}
use Rattle.java_core.specs.Plain as e
use Rattle.core_meaning.specs.Code.{Code, classes_of, class_at, class_fields}
use Rattle.running_code.specs.declared.running.Running.{Running}
use Rattle.running_code.specs.Running.{IsCode}
use Rattle.program_maps.specs.declared.numbers.Numbers.{Numbers}
use Rattle.program_maps.specs.declared.numbers.Map.{Map}
use Rattle.program_maps.specs.Ways.{Ways, goes_to, or_behind, ways}
use Rattle.program_maps.specs.Pairs.{Pair}
use Rattle.program_maps.specs.Trees.{FieldsAlike}
use Rattle.program_maps.specs.Correspond.{method_owner}
use Rattle.alike_laws.proofs.Runs.{corresponding_alike}
use Rattle.alike_order.specs.Order.{KeepsOrder, KeepsOrderTold}
use Rattle.alike_lookups.specs.Lookups.{CallsFoundTold}
use Rattle.alike_tables.specs.Tables.{AreAlikeTold}
use Rattle.alike_programs.specs.Known.{AreKnown, AreKnownIn}
use Rattle.alike_programs.proofs.Below.{low_or_high}
use Rattle.alike_programs.specs.Alike.{AlikeTold, AllFieldsTold, AreBodiesBelow, AreFieldsBelow, KnowsClasses}

-- ---- classes that are not there

none_of : (n k : ℕ) (xs : List e.Class) → AreKnown n xs → n ≤ k → find (λ (x : e.Class). x.number == k) xs ≡ None
none_of n k [] h low = refl
none_of n k (x ∷ xs) h low = at (x.number == k) refl (none_of n k xs h.1 low)
  where
    at : (b : Bool) → (x.number == k) ≡ b → find (λ (x : e.Class). x.number == k) xs ≡ None
        → (if b then Some x else find (λ (x : e.Class). x.number == k) xs) ≡ None
    at b is rest = grind (arith, is, rest, h.0, low)

known_more : (n : ℕ) (xs ys : List e.Class) → AreKnown n xs → AreKnown n ys → AreKnown n (xs ++ ys)
known_more n [] ys h k = k
known_more n (x ∷ xs) ys h k = (h.0, known_more n xs ys h.1 k)

all_known : (n : ℕ) (fs : List e.File) → AreKnownIn n fs → AreKnown n (classes_of fs)
all_known n [] h = tt
all_known n (f ∷ fs) h = known_more n f.classes (classes_of fs) h.0 (all_known n fs h.1)

class_missing : (g : Running) (c : Code) → IsCode g c → KnowsClasses g → (k : ℕ) → length g.world.now.types ≤ k → class_at c k ≡ None
class_missing g c is known k low = ap (λ (x : e.Program). find (λ (y : e.Class). y.number == k) (classes_of x.files)) is.core ∙ none_of _ k _ (all_known _ _ known) low

-- a number of no type goes to one of no type
goes_past : (x : Numbers) (n m : ℕ) → length x.to ≡ n → length x.back ≡ m → (k : ℕ) → n ≤ k → m ≤ goes_to x k
goes_past x n m to back k low =
    let far = ap (or_behind (length x.back + k)) (slice_get_past x.to k (omega (arith, to, low))) in omega (arith, far, back)

-- ---- the two programs

module _ (g g' : Running) (p : Pair) (map : Map) (ways_are : p.ways ≡ ways map) (world : p.world ≡ g'.world.now) (tables : AreAlikeTold g g' map) (known : KnowsClasses g) (known' : KnowsClasses g')
    (order : KeepsOrder map.types g.world.now g'.world.now) (ordered : KeepsOrderTold map.types g.world.now g'.world.now)
    (calls : CallsFoundTold g g' map p.others p.strict) (bodies : AreBodiesBelow p g g' (length g.world.now.methods))
    (fields : AreFieldsBelow p g g' (length g.world.now.types)) (all : AllFieldsTold p g g') where
  past : (k : ℕ) → length g.world.now.types ≤ k → length g'.world.now.types ≤ p.ways.types k
  past k high = subst (λ (w : Ways). length g'.world.now.types ≤ w.types k) (sym ways_are) (goes_past map.types _ _ order.to order.back k high)

  class_fields_alike : (c c' : Code) → IsCode g c → IsCode g' c' → (k : ℕ)
      → FieldsAlike p (class_fields (class_at c k)) (class_fields (class_at c' (p.ways.types k)))
  class_fields_alike c c' is is' k = elim (low_or_high k (length g.world.now.types)) [
    | inl low ↦ fields k low c c' is is'
    | inr high ↦ rw (class_missing g c is known k high, class_missing g' c' is' known' (p.ways.types k) (past k high)) tt
  ]

  pub alike_told : AlikeTold g g' p.ways p.strict
  alike_told c c' is is' =
      let told = tables p ways_are c c' is is' in
      corresponding_alike p c c' (record {
        world = world ∙ sym is'.world;
        told = is'.told;
        types = told.types;
        fields = told.fields;
        built_in = told.built_in;
        tables = told.tables;
        order = ordered p c c' (ap (λ (w : Ways). w.types) ways_are) is.world is'.world is.told is'.told;
        calls = calls c c' is is' p ways_are refl refl;
        bodies = λ m k owner. bodies m (method_low c is m k owner) c c' is is' k owner;
        class_fields = class_fields_alike c c' is is';
        all_fields = all c c' is is';
      })
    where
      method_low : (c : Code) → IsCode g c → (m k : ℕ) → method_owner c m ≡ Some k → m < length g.world.now.methods
      method_low c is m k owner = subst (λ w. m < length w.methods) is.world (low (slice_get c.world.methods m) refl owner)
        where
          low : (o : Option MethodInfo) → slice_get c.world.methods m ≡ o → option_map (λ (i : MethodInfo). i.owner) o ≡ Some k → m < length c.world.methods
          low None e w = absurd (cc w)
          low (Some i) e w = slice_get_within c.world.methods m i e
