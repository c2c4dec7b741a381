-- Looks in lists by number.
use Rattle.std.proofs.Common.{◌≡◌, ℕ, ◌+◌, zero, suc, Bool, true, false, List, [], ◌∷◌, ◌++◌, Option, Some, None, Bor, IfSome, map, refl, sym, ap, ◌∙◌, subst, add-one, arith}
use Rattle.std.specs.Prelude.{◌==◌, slice_get, option_and_then, if◌then◌else◌, is_some, ◌||◌, ◌&&◌}
use Rattle.std.specs.Option.{option_copied, option_map}
use Rattle.std.specs.List.{All, find}
use Rattle.java_core.specs.Plain as e
use Rattle.java_core.specs.View.{method_plain}
use Rattle.java_core.specs.declared.program.CoreMethod.{CoreMethod}
use Rattle.core_meaning.specs.Code as code
use Rattle.running_code.specs.Bodies.{method_in}
use Rattle.running_code.specs.declared.entries.Entry.{Entry}
use Rattle.running_code.specs.declared.entries.Classes.{Classes}
use Rattle.running_code.specs.Places.{place, place_in}
use Rattle.running_code.specs.Entries.{AreClasses, AreEntries, IsEntry, class_in, class_of, constants_in}

-- an item of a list whose items are seen as others
pub get_seen : {A B : Type 0} (f : A → B) (xs : List A) (k : ℕ) → slice_get (map f xs) k ≡ option_map f (slice_get xs k)
get_seen f [] k = refl
get_seen f (x ∷ xs) zero = refl
get_seen f (x ∷ xs) (suc k) = get_seen f xs k

at_next : {A : Type 0} (x : A) (xs : List A) (o : Option ℕ) → option_and_then (slice_get xs) o ≡ option_and_then (slice_get (x ∷ xs)) (option_map (λ i. i + 1) o)
at_next x xs None = refl
at_next x xs (Some i) = ap (slice_get (x ∷ xs)) (sym (add-one i))

found_by : {A : Type 0} (b : Bool) (x : A) (xs : List A) (o : Option ℕ) (p : Option A) → p ≡ option_and_then (slice_get xs) o
    → (if b then Some x else p) ≡ option_and_then (slice_get (x ∷ xs)) (if b then Some 0 else option_map (λ i. i + 1) o)
found_by true x xs o p is = refl
found_by false x xs o p is = is ∙ at_next x xs o

-- the first item with a number stands at the first place of that number
pub found_at : {A : Type 0} (number : A → ℕ) (k : ℕ) (xs : List A) → find (λ x. number x == k) xs ≡ option_and_then (slice_get xs) (place_in k (map number xs))
found_at number k [] = refl
found_at number k (x ∷ xs) = found_by (number x == k) x xs (place_in k (map number xs)) (find (λ x. number x == k) xs) (found_at number k xs)

seen_by : {A B : Type 0} (f : A → B) (b : Bool) (x : A) (o : Option A) (p : Option B) → p ≡ option_map f o → (if b then Some (f x) else p) ≡ option_map f (if b then Some x else o)
seen_by f true x o p is = refl
seen_by f false x o p is = is

-- the first of a list whose items are seen as others
pub find_seen : {A B : Type 0} (f : A → B) (test : B → Bool) (xs : List A) → find test (map f xs) ≡ option_map f (find (λ x. test (f x)) xs)
find_seen f test [] = refl
find_seen f test (x ∷ xs) = seen_by f (test (f x)) x (find (λ x. test (f x)) xs) (find test (map f xs)) (find_seen f test xs)

class_at_place : (p : e.Program) (t : Classes) (k : ℕ) → AreClasses p t → class_in p k ≡ option_map class_of (option_and_then (slice_get t.entries) (place t.places k))
class_at_place p t k h =
    ap (find (λ (x : e.Class). x.number == k)) (sym h.classes) ∙ find_seen class_of (λ x. x.number == k) t.entries
    ∙ ap (option_map class_of) (found_at (λ x. (class_of x).number) k t.entries ∙ ap (option_and_then (slice_get t.entries)) (sym (h.places k)))

pub class_found : (p : e.Program) (t : Classes) (k at : ℕ) (o : Option (Bor Entry)) → AreClasses p t → Some at ≡ place t.places k → option_copied o ≡ slice_get t.entries at
    → option_map class_of (option_copied o) ≡ class_in p k
class_found p t k at o h is found = ap (option_map class_of) (found ∙ ap (option_and_then (slice_get t.entries)) is) ∙ sym (class_at_place p t k h)

pub class_missing : (p : e.Program) (t : Classes) (k : ℕ) → AreClasses p t → None ≡ place t.places k → None ≡ class_in p k
class_missing p t k h is = ap (λ o. option_map class_of (option_and_then (slice_get t.entries) o)) is ∙ sym (class_at_place p t k h)

all_at : {A : Type 0} (P : A → Type 0) (xs : List A) (k : ℕ) (x : A) → All P xs → Some x ≡ slice_get xs k → P x
all_at P [] k x all is = absurd (cc is)
all_at P (y ∷ ys) zero x all is = let same : x ≡ y = cc is in subst P (sym same) (all 0 x (omega arith))
all_at P (y ∷ ys) (suc k) x all is = all_at P ys k x (λ i d low. all (suc i) d (omega (arith, low))) is

pub entry_is : (t : List Entry) (at : ℕ) (o : Option (Bor Entry)) → AreEntries t → option_copied o ≡ slice_get t at → IfSome o (λ x. IsEntry x.now)
entry_is t at None all is = tt
entry_is t at (Some x) all is = all_at IsEntry t at x.now all is

some_next : (o : Option ℕ) → is_some (option_map (λ i. i + 1) o) ≡ is_some o
some_next None = refl
some_next (Some i) = refl

constant_by : (a b : Bool) (o : Option ℕ) (p : Bool) → p ≡ is_some o → ((a && b) || p) ≡ is_some (if b then (if a then Some 0 else option_map (λ i. i + 1) o) else o)
constant_by true true o p is = refl
constant_by false true o p is = is ∙ sym (some_next o)
constant_by true false o p is = is
constant_by false false o p is = is

place_by : (b : Bool) (f x : ℕ) (xs : List ℕ)
    → (if b then (if x == f then Some 0 else option_map (λ i. i + 1) (place_in f xs)) else place_in f xs) ≡ place_in f (if b then x ∷ xs else xs)
place_by true f x xs = refl
place_by false f x xs = refl

-- the fields of one number that have the value of a constant field
pub constant_at : (f : ℕ) (xs : List e.FieldVar) → code.has_constant f xs ≡ is_some (place_in f (constants_in xs))
constant_at f [] = refl
constant_at f (x ∷ xs) =
    constant_by (x.field == f) (code.is_constant_value x.init) (place_in f (constants_in xs)) (code.has_constant f xs) (constant_at f xs)
    ∙ ap is_some (place_by (code.is_constant_value x.init) f x.field (constants_in xs))

pub constant_told : (x : Entry) (c : Option e.Class) (f : ℕ) → IsEntry x → Some (class_of x) ≡ c
    → is_some (place x.constants f) ≡ code.has_constant f (code.class_fields c)
constant_told x c f h is =
    ap is_some (h.constants f) ∙ sym (constant_at f (code.class_fields (Some (class_of x)))) ∙ ap (λ c. code.has_constant f (code.class_fields c)) is

all_more : {A : Type 0} (P : A → Type 0) (xs : List A) (x : A) → All P xs → P x → All P (xs ++ x ∷ [])
all_more P [] x all is zero d low = is
all_more P [] x all is (suc k) d low = absurd (omega (arith, low))
all_more P (y ∷ ys) x all is zero d low = all 0 d (omega arith)
all_more P (y ∷ ys) x all is (suc k) d low = all_more P ys x (λ i e under. all (suc i) e (omega (arith, under))) is k d (omega (arith, low))

-- one more class
pub more_entries : (xs new : List Entry) (x : Entry) → AreEntries xs → IsEntry x → new ≡ xs ++ x ∷ [] → AreEntries new
more_entries xs new x all is made = subst AreEntries (sym made) (all_more IsEntry xs x all is)

method_at_place : (x : Entry) (m : ℕ) → IsEntry x → method_in m (class_of x) ≡ option_map (λ (y : Bor CoreMethod). method_plain y.now) (option_and_then (slice_get x.methods) (place x.places m))
method_at_place x m h =
    ap (find (λ (y : e.Method). y.method == m)) (sym h.methods) ∙ find_seen (λ (y : Bor CoreMethod). method_plain y.now) (λ y. y.method == m) x.methods
    ∙ ap (option_map (λ (y : Bor CoreMethod). method_plain y.now)) (found_at (λ (y : Bor CoreMethod). y.now.method) m x.methods ∙ ap (option_and_then (slice_get x.methods)) (sym (h.places m)))

seen_now : (o : Option (Bor CoreMethod)) → option_map method_plain (option_copied o) ≡ option_map (λ (y : Bor CoreMethod). method_plain y.now) o
seen_now None = refl
seen_now (Some y) = refl

pub method_found : (x : Entry) (m at : ℕ) (o : Option (Bor CoreMethod)) → IsEntry x → Some at ≡ place x.places m → o ≡ slice_get x.methods at
    → option_map method_plain (option_copied o) ≡ method_in m (class_of x)
method_found x m at o h is found =
    seen_now o ∙ ap (option_map (λ (y : Bor CoreMethod). method_plain y.now)) (found ∙ ap (option_and_then (slice_get x.methods)) is) ∙ sym (method_at_place x m h)

pub method_missing : (x : Entry) (m : ℕ) → IsEntry x → None ≡ place x.places m → None ≡ method_in m (class_of x)
method_missing x m h is = ap (λ o. option_map (λ (y : Bor CoreMethod). method_plain y.now) (option_and_then (slice_get x.methods) o)) is ∙ sym (method_at_place x m h)
