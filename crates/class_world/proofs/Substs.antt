-- Arguments put for variables, and erasure, form by form.
use Rattle.std.proofs.Common.{◌≡◌, ℕ, ◌+◌, ◌<◌, ◌≤◌, zero, suc, List, [], ◌∷◌, Option, Some, None, ◌↔◌, Bool, Result, Ok, Err, map, refl, sym, ap, ◌∙◌, subst, length, arith}
use Rattle.std.specs.Prelude.{slice_get, slice_index_or as get_or, unwrap_or, IsTrue, IfOk, take, ◌++◌}
use Rattle.java_tree.specs.declared.fault.NoMemory.{NoMemory}
use Rattle.std.specs.Option.{option_map}
use Rattle.std.proofs.lemmas.Option.{slice_get-map, slice_get_read, slice_get_past}
use Rattle.java_tree.specs.declared.tree.Primitive.{Primitive}
use Rattle.class_world.specs.declared.world.World.{World}
use Rattle.class_world.specs.declared.world.JavaType.{JavaType}
use Rattle.class_world.specs.declared.world.JavaType.TheVariants as ty
use Rattle.class_world.specs.declared.world.JavaType.TheFolds.{fold_out-JavaType, map-JavaType}
use Rattle.class_world.specs.Types.{object_type, put, substitute, without_arguments, erased, variables, with_own, IsReference, of_class, of_variable, of_array, AreReferences, IsTypeOver, a_primitive, the_null, a_class, a_variable, an_array}

pub put_primitive : (args : List JavaType) (p : Primitive) → substitute args (ty.Prim p) ≡ ty.Prim p
put_primitive args p = fold_out-JavaType JavaType (put args) (ty.Prim p) ∙ ap (λ L. put args (map-JavaType JavaType JavaType (substitute args) L)) (ty.outs-Prim p)

pub put_null : (args : List JavaType) → substitute args ty.Null ≡ ty.Null
put_null args = fold_out-JavaType JavaType (put args) ty.Null ∙ ap (λ L. put args (map-JavaType JavaType JavaType (substitute args) L)) ty.outs-Null

pub put_class : (args : List JavaType) (c : ℕ) (xs : List JavaType) → substitute args (ty.Class c xs) ≡ ty.Class c (map (substitute args) xs)
put_class args c xs = fold_out-JavaType JavaType (put args) (ty.Class c xs) ∙ ap (λ L. put args (map-JavaType JavaType JavaType (substitute args) L)) (ty.outs-Class c xs)

pub put_variable : (args : List JavaType) (k : ℕ) → substitute args (ty.Var k) ≡ unwrap_or (slice_get args k) (ty.Var k)
put_variable args k = fold_out-JavaType JavaType (put args) (ty.Var k) ∙ ap (λ L. put args (map-JavaType JavaType JavaType (substitute args) L)) (ty.outs-Var k)

pub put_array : (args : List JavaType) (x : JavaType) → substitute args (ty.Array x) ≡ ty.Array (substitute args x)
put_array args x = fold_out-JavaType JavaType (put args) (ty.Array x) ∙ ap (λ L. put args (map-JavaType JavaType JavaType (substitute args) L)) (ty.outs-Array x)

pub erased_primitive : (p : Primitive) → erased (ty.Prim p) ≡ ty.Prim p
erased_primitive p = fold_out-JavaType JavaType without_arguments (ty.Prim p) ∙ ap (λ L. without_arguments (map-JavaType JavaType JavaType erased L)) (ty.outs-Prim p)

pub erased_null : erased ty.Null ≡ ty.Null
erased_null = fold_out-JavaType JavaType without_arguments ty.Null ∙ ap (λ L. without_arguments (map-JavaType JavaType JavaType erased L)) ty.outs-Null

pub erased_class : (c : ℕ) (xs : List JavaType) → erased (ty.Class c xs) ≡ ty.Class c []
erased_class c xs = fold_out-JavaType JavaType without_arguments (ty.Class c xs) ∙ ap (λ L. without_arguments (map-JavaType JavaType JavaType erased L)) (ty.outs-Class c xs)

pub erased_variable : (k : ℕ) → erased (ty.Var k) ≡ object_type
erased_variable k = fold_out-JavaType JavaType without_arguments (ty.Var k) ∙ ap (λ L. without_arguments (map-JavaType JavaType JavaType erased L)) (ty.outs-Var k)

pub erased_array : (x : JavaType) → erased (ty.Array x) ≡ ty.Array (erased x)
erased_array x = fold_out-JavaType JavaType without_arguments (ty.Array x) ∙ ap (λ L. without_arguments (map-JavaType JavaType JavaType erased L)) (ty.outs-Array x)

-- maps of a list

pub length_map : {A B : Type 0} (v : A → B) (xs : List A) → length (map v xs) ≡ length xs
length_map v [] = refl
length_map v (x ∷ xs) = ap suc (length_map v xs)

pub none_left : {A B : Type 0} (v : A → B) (xs : List A) → map v xs ≡ [] → xs ≡ []
none_left v [] e = refl
none_left v (x ∷ xs) e = absurd (cc e)

-- what is said of each element of two lists of one length makes the lists equal
pub map_alike : {A B C : Type 0} (v : B → C) (u : A → B) (z : A → C) (xs : List A) → ((k : ℕ) (x : A) → slice_get xs k ≡ Some x → v (u x) ≡ z x) → map v (map u xs) ≡ map z xs
map_alike v u z [] h = refl
map_alike v u z (x ∷ xs) h =
    let first : v (u x) ≡ z x = h zero x refl in
    let rest : map v (map u xs) ≡ map z xs = map_alike v u z xs (λ k y e. h (suc k) y e) in
    cc (first, rest)

pub map_same : {A : Type 0} (v : A → A) (xs : List A) → ((k : ℕ) (x : A) → slice_get xs k ≡ Some x → v x ≡ x) → map v xs ≡ xs
map_same v [] h = refl
map_same v (x ∷ xs) h =
    let first : v x ≡ x = h zero x refl in
    let rest : map v xs ≡ xs = map_same v xs (λ k y e. h (suc k) y e) in
    cc (first, rest)

-- an element of a mapped list is one of the list, mapped
pub mapped_at : {A B : Type 0} (v : A → B) (xs : List A) (k : ℕ) (y : B) → slice_get (map v xs) k ≡ Some y → (x : A) × (slice_get xs k ≡ Some x) × (y ≡ v x)
mapped_at v [] k y e = absurd (cc e)
mapped_at v (x ∷ xs) zero y e = let h : v x ≡ y = cc e in (x, refl, sym h)
mapped_at v (x ∷ xs) (suc k) y e = mapped_at v xs k y e

-- within a list there is an element
pub there_is : {A : Type 0} (xs : List A) (k : ℕ) → k < length xs → (x : A) × (slice_get xs k ≡ Some x)
there_is [] k lt = absurd (omega (arith, lt))
there_is (x ∷ xs) zero lt = (x, refl)
there_is (x ∷ xs) (suc k) lt = there_is xs k (omega (arith, lt))

-- what stands where a variable is
pub put_at : (args : List JavaType) (k : ℕ) (a : JavaType) → slice_get args k ≡ Some a → substitute args (ty.Var k) ≡ a
put_at args k a e = put_variable args k ∙ ap (λ o. unwrap_or o (ty.Var k)) e

-- a type without variables stays as it is
pub put_closed : (w : World) (args : List JavaType) (t : JavaType) → IsTypeOver w 0 t → substitute args t ≡ t
put_closed w args t (a_primitive p) = put_primitive args p
put_closed w args t the_null = put_null args
put_closed w args t (a_class {c = c} {args = xs} at counts refs parts) = put_class args c xs ∙ ap (λ xs. ty.Class c xs) (map_same (substitute args) xs (λ k x e. put_closed w args x (parts k x e)))
put_closed w args t (a_variable lt) = absurd (omega (arith, lt))
put_closed w args t (an_array {element = x} some part) = put_array args x ∙ ap ty.Array (put_closed w args x part)

-- putting arguments twice
pub put_twice : (w : World) (n : ℕ) (args xs : List JavaType) (t : JavaType) → length xs ≡ n → IsTypeOver w n t
    → substitute args (substitute xs t) ≡ substitute (map (substitute args) xs) t
put_twice w n args xs t len (a_primitive p) = ap (substitute args) (put_primitive xs p) ∙ put_primitive args p ∙ sym (put_primitive _ p)
put_twice w n args xs t len the_null = ap (substitute args) (put_null xs) ∙ put_null args ∙ sym (put_null _)
put_twice w n args xs t len (a_class {c = c} {args = ts} at counts refs parts) =
    ap (substitute args) (put_class xs c ts) ∙ put_class args c (map (substitute xs) ts)
    ∙ ap (λ us. ty.Class c us) (map_alike (substitute args) (substitute xs) (substitute (map (substitute args) xs)) ts (λ k x e. put_twice w n args xs x len (parts k x e)))
    ∙ sym (put_class (map (substitute args) xs) c ts)
put_twice w n args xs t len (a_variable {k = k} lt) =
    let at = there_is xs k (omega (arith, lt, len)) in
    let there : slice_get (map (substitute args) xs) k ≡ Some (substitute args at.0) = slice_get-map (substitute args) xs k ∙ ap (option_map (substitute args)) at.1 in
    ap (substitute args) (put_at xs k at.0 at.1) ∙ sym (put_at (map (substitute args) xs) k (substitute args at.0) there)
put_twice w n args xs t len (an_array {element = x} some part) =
    ap (substitute args) (put_array xs x) ∙ put_array args (substitute xs x) ∙ ap ty.Array (put_twice w n args xs x len part) ∙ sym (put_array _ x)

-- a class's own variables

pub variables_length : (k n : ℕ) → length (variables k n) ≡ n
variables_length k zero = refl
variables_length k (suc n) = ap suc (variables_length (k + 1) n)

pub variables_at : (k n i : ℕ) (t : JavaType) → slice_get (variables k n) i ≡ Some t → (t ≡ ty.Var (k + i)) × (i < n)
variables_at k zero i t e = absurd (cc e)
variables_at k (suc n) zero t e =
    let h : ty.Var k ≡ t = cc e in
    let same : k ≡ k + 0 = omega arith in
    (sym h ∙ ap ty.Var same, omega arith)
variables_at k (suc n) (suc i) t e =
    let h = variables_at (k + 1) n i t e in
    let same : k + 1 + i ≡ k + suc i = omega arith in
    (h.0 ∙ ap ty.Var same, omega (arith, h.1))

pub variables_last : (j n : ℕ) → variables j (suc n) ≡ variables j n ++ ty.Var (j + n) ∷ []
variables_last j zero = let e : j ≡ j + 0 = omega arith in ap (λ k. ty.Var k ∷ []) e
variables_last j (suc n) =
    let e : j + 1 + n ≡ j + suc n = omega arith in
    ap (λ l. ty.Var j ∷ l) (variables_last (j + 1) n ∙ ap (λ k. variables (j + 1) n ++ ty.Var k ∷ []) e)

pub next_variable : (n : ℕ) (vs new : List JavaType) → vs ≡ variables 0 n → new ≡ vs ++ ty.Var n ∷ [] → new ≡ variables 0 (n + 1)
next_variable n vs new before made =
    let zero_first : 0 + n ≡ n = omega arith in
    let e : n + 1 ≡ suc n = omega arith in
    made ∙ ap (λ l. l ++ ty.Var n ∷ []) before ∙ ap (λ k. variables 0 n ++ ty.Var k ∷ []) (sym zero_first) ∙ sym (variables_last 0 n) ∙ ap (variables 0) (sym e)

-- the arguments from the k-th on, put for the variables from k on
own_from : (args xs : List JavaType) (k n : ℕ) → length xs ≡ n → ((i : ℕ) → slice_get args (k + i) ≡ slice_get xs i) → map (substitute args) (variables k n) ≡ xs
own_from args [] k zero len at = refl
own_from args [] k (suc n) len at = absurd (omega (arith, len))
own_from args (x ∷ xs) k zero len at = absurd (omega (arith, len))
own_from args (x ∷ xs) k (suc n) len at =
    let here : k + 0 ≡ k = omega arith in
    let first : substitute args (ty.Var k) ≡ x = put_at args k x (ap (slice_get args) (sym here) ∙ at zero) in
    let next : (i : ℕ) → slice_get args (k + 1 + i) ≡ slice_get xs i = λ i. let e : k + 1 + i ≡ k + suc i = omega arith in ap (slice_get args) e ∙ at (suc i) in
    let rest : map (substitute args) (variables (k + 1) n) ≡ xs = own_from args xs (k + 1) n (omega (arith, len)) next in
    cc (first, rest)

-- a class with its own variables, and arguments put for them, is the class with these arguments
pub put_own : (args : List JavaType) (c n : ℕ) → length args ≡ n → substitute args (with_own c n) ≡ ty.Class c args
put_own args c n len = put_class args c (variables 0 n) ∙ ap (λ xs. ty.Class c xs) (own_from args args 0 n len (λ i. let e : 0 + i ≡ i = omega arith in ap (slice_get args) e))

-- reference types stay reference types
pub put_refers : (args : List JavaType) (t : JavaType) → AreReferences args → IsReference t → IsReference (substitute args t)
put_refers args t refs (of_class c xs) = subst IsReference (sym (put_class args c xs)) (of_class _ _)
put_refers args t refs (of_variable k) = at (slice_get args k) refl
  where
    at : (o : Option JavaType) → slice_get args k ≡ o → IsReference (substitute args (ty.Var k))
    at None e = subst IsReference (sym (put_variable args k ∙ ap (λ o. unwrap_or o (ty.Var k)) e)) (of_variable k)
    at (Some a) e = subst IsReference (sym (put_at args k a e)) (refs k a e)
put_refers args t refs (of_array x) = subst IsReference (sym (put_array args x)) (of_array _)

pub mapped_refer : (args xs : List JavaType) → AreReferences args → AreReferences xs → AreReferences (map (substitute args) xs)
mapped_refer args xs refs all k y e =
    let at = mapped_at (substitute args) xs k y e in
    subst IsReference (sym at.2) (put_refers args at.0 refs (all k at.0 at.1))

-- what arguments make of a variable, as a lookup among them tells

pub put_known : (args : List JavaType) (s a : JavaType) (k : ℕ) → s ≡ ty.Var k → k < length args → a ≡ get_or args k a → substitute args s ≡ a
put_known args s a k e lt h = ap (substitute args) e ∙ put_at args k a (slice_get_read args (length args) k a refl lt h)

pub put_unknown : (args : List JavaType) (s : JavaType) (k : ℕ) → s ≡ ty.Var k → length args ≤ k → substitute args s ≡ s
put_unknown args s k e le = ap (substitute args) e ∙ put_variable args k ∙ ap (λ o. unwrap_or o (ty.Var k)) (slice_get_past args k le) ∙ sym e

pub told_as : (r : Bool) (x y t : JavaType) → x ≡ y → IsTrue r ↔ (y ≡ t) → IsTrue r ↔ (x ≡ t)
told_as r x y t e h = (λ i. e ∙ h.0 i, λ i. h.1 (sym e ∙ i))

-- the types up to the next one, with the arguments put
pub next_put : (v : JavaType → JavaType) (xs ys zs : List JavaType) (k : ℕ) (x y : JavaType) → ys ≡ map v (take k xs) → k < length xs → x ≡ get_or xs k x → y ≡ v x
    → zs ≡ ys ++ y ∷ [] → zs ≡ map v (take (k + 1) xs)
next_put v [] ys zs k x y done lt at made all = absurd (omega (arith, lt))
next_put v (u ∷ us) ys zs zero x y done lt at made all = all ∙ ap (λ l. l ++ y ∷ []) done ∙ ap (λ z. z ∷ []) (made ∙ ap v at)
next_put v (u ∷ us) ys zs (suc k) x y done lt at made all =
    let rest = next_put v us (map v (take k us)) (map v (take k us) ++ y ∷ []) k x y refl (omega (arith, lt)) at made refl in
    let step : suc k + 1 ≡ suc (k + 1) = omega arith in
    all ∙ ap (λ l. l ++ y ∷ []) done ∙ ap (λ l. v u ∷ l) rest ∙ ap (λ n. map v (take n (u ∷ us))) (sym step)

pub made_as : (r : Result JavaType NoMemory) (x y : JavaType) → x ≡ y → IfOk r (λ z. z ≡ y) → IfOk r (λ z. z ≡ x)
made_as (Ok z) x y e h = h ∙ sym e
made_as (Err z) x y e h = tt
