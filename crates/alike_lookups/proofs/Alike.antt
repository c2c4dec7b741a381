-- Methods that find alike on objects of every class.
use Rattle.std.proofs.Common.{◌≡◌, ℕ, ◌+◌, ◌<◌, ◌≤◌, ◌⊎◌, Bool, List, Option, Some, None, inl, inr, sym, ap, ◌∙◌, subst, length, arith}
use Rattle.std.specs.Prelude.{slice_get}
use Rattle.std.specs.Option.{option_map}
use Rattle.std.proofs.lemmas.Bool.{cases_lt}
use Rattle.std.proofs.lemmas.Option.{slice_get_past}
use Rattle.class_world.specs.Overriding.{IsFixed, FoundIs}
use Rattle.core_meaning.specs.Code.{Code}
use Rattle.running_code.specs.declared.running.Running.{Running}
use Rattle.running_code.proofs.Lookups.{same_found}
use Rattle.program_maps.specs.declared.numbers.Numbers.{Numbers}
use Rattle.program_maps.specs.declared.numbers.Map.{Map}
use Rattle.program_maps.specs.Ways.{Ways, goes_to, or_behind, ways}
use Rattle.alike_lookups.specs.Lookups.{Sides, sides, to_type, to_method, LedBy, FindsOn, FindsAlike, IsWhole, AllFindAlike, OthersFindAlike, CallsFoundTold}
use Rattle.alike_lookups.proofs.Found.{fixed_found, none_found, past_free}

-- what one look-up in each world says
pub looked_up : (x : Sides) (m n k : ℕ) (before after : Option ℕ) → FoundIs x.old m k before → FoundIs x.new n (to_type x k) after → LedBy x.strict (to_method x) before after → FindsOn x m n k
looked_up x m n k before after was is led single single_new o p h i =
    let first = same_found x.old single m k before o was h in
    let second = same_found x.new single_new n (to_type x k) after p is i in
    subst (λ o. LedBy x.strict (to_method x) o p) first (subst (LedBy x.strict (to_method x) before) second led)

-- fixed methods are themselves
pub fixed_alike : (x : Sides) (m n : ℕ) → IsFixed x.old m → IsFixed x.new n → n ≡ to_method x m → FindsAlike x m n
fixed_alike x m n was is same k single single_new o p h i =
    let first : o ≡ Some m = fixed_found x.old m k o was h in
    let second : p ≡ Some n = fixed_found x.new n (to_type x k) p is i in
    inl (second ∙ ap (λ j. Some j) same ∙ sym (ap (option_map (to_method x)) first))

pub goes_behind : (x : Numbers) (k : ℕ) → length x.to ≤ k → goes_to x k ≡ length x.back + k
goes_behind x k past = ap (or_behind (length x.back + k)) (slice_get_past x.to k past)

none_led : (strict : Bool) (f : ℕ → ℕ) (o p : Option ℕ) → o ≡ None → p ≡ None → LedBy strict f o p
none_led strict f o p first second = inl (second ∙ sym (ap (option_map f) first))

-- other methods find alike where they do on objects of each class
pub free_alike : (x : Sides) (m n : ℕ) → IsWhole x.old x.new x.map → (IsFixed x.old m → ⊥) → (IsFixed x.new n → ⊥) → ((k : ℕ) → k < length x.map.types.to → FindsOn x m n k) → FindsAlike x m n
free_alike x m n whole free free_new each k single single_new o p h i = elim (cases_lt k (length x.map.types.to)) [
  | inl low ↦ each k low single single_new o p h i
  | inr past ↦
      let behind = goes_behind x.map.types k past in
      let known = whole.types in
      let known_new = whole.types_back in
      none_led x.strict (to_method x) o p (none_found x.old m k o free (inl (omega (arith, past, known))) h)
      (none_found x.new n (to_type x k) p free_new (inl (omega (arith, behind, known_new))) i)
]

-- numbers of no method find nothing
pub past_alike : (x : Sides) (m : ℕ) → IsWhole x.old x.new x.map → length x.map.methods.to ≤ m → FindsAlike x m (to_method x m)
past_alike x m whole past k single single_new o p h i =
    let behind = goes_behind x.map.methods m past in
    let known = whole.methods in
    let known_new = whole.methods_back in
    let over : length x.old.methods ≤ m = omega (arith, past, known) in
    let over_new : length x.new.methods ≤ to_method x m = omega (arith, behind, known_new) in
    none_led x.strict (to_method x) o p (none_found x.old m k o (past_free x.old m over) (inr over) h)
    (none_found x.new (to_method x m) (to_type x k) p (past_free x.new (to_method x m) over_new) (inr over_new) i)

pub every_alike : (x : Sides) → IsWhole x.old x.new x.map → AllFindAlike x → (m : ℕ) → FindsAlike x m (to_method x m)
every_alike x whole all m = elim (cases_lt m (length x.map.methods.to)) [ inl low ↦ all m low | inr past ↦ past_alike x m whole past ]

-- what is found of calls, for a map, other methods and strictness by themselves
abbrev Found : (c d : Code) → Ways → List (Option ℕ) → Bool → Type 0
Found c d f others strict =
    (m n : ℕ) → (n ≡ f.methods m) ⊎ (slice_get others m ≡ Some (Some n)) → (k : ℕ) → LedBy strict f.methods (c.found m k) (d.found n (f.types k))

pub calls_told : (g h : Running) (map : Map) (others : List (Option ℕ)) (strict : Bool) → IsWhole g.world.now h.world.now map → AllFindAlike (sides g h map strict) → OthersFindAlike (sides g h map strict) others
    → CallsFoundTold g h map others strict
calls_told g h map others strict whole all rest c d code code_new p same_ways same_others same_strict =
    subst (λ f. Found c d f p.others p.strict) (sym same_ways) (subst (λ l. Found c d (ways map) l p.strict) (sym same_others) (subst (Found c d (ways map) others) (sym same_strict) found))
  where
    alike : (m n : ℕ) → (n ≡ goes_to map.methods m) ⊎ (slice_get others m ≡ Some (Some n)) → FindsAlike (sides g h map strict) m n
    alike m n (inl same) = subst (FindsAlike (sides g h map strict) m) (sym same) (every_alike (sides g h map strict) whole all m)
    alike m n (inr other) = rest m n other

    found : Found c d (ways map) others strict
    found m n call k =
        alike m n call k code.single code_new.single (c.found m k) (d.found n (goes_to map.types k))
        (subst (λ w. FoundIs w m k (c.found m k)) code.world (code.told.found m k))
        (subst (λ w. FoundIs w n (goes_to map.types k) (d.found n (goes_to map.types k))) code_new.world (code_new.told.found n (goes_to map.types k)))
