-- Types that arguments leave as they are, and a class's own variables.
use Rattle.std.proofs.Common.{◌≡◌, ℕ, ◌+◌, zero, suc, List, [], ◌∷◌, ◌++◌, Result, Ok, Err, map, refl, sym, ap, ◌∙◌, subst, arith}
use Rattle.std.specs.Prelude.{IfOk}
use Rattle.java_tree.specs.declared.fault.NoMemory.{NoMemory}
use Rattle.java_tree.specs.declared.tree.Primitive.{Primitive}
use Rattle.class_world.specs.declared.world.JavaType.{JavaType, roll-JavaType}
use Rattle.class_world.specs.declared.world.JavaType.TheVariants as ty
use Rattle.class_world.specs.declared.world.JavaType.TheOpen as f
use Rattle.class_world.specs.declared.world.JavaType.TheFolds.{fold-roll-JavaType, ind-JavaType, map-JavaType}
use Rattle.class_world.specs.Types.{put, substitute, variables}
use Rattle.class_world.proofs.Substs.{put_primitive, put_null, put_class, put_array}
use Rattle.seen_methods.specs.Closed.{IsClosed, AreClosed}

-- the first k variables and the next one

variables_last : (j n : ℕ) → variables j (suc n) ≡ variables j n ++ ty.Var (j + n) ∷ []
variables_last j zero = let e : j ≡ j + 0 = omega arith in ap (λ k. ty.Var k ∷ []) e
variables_last j (suc n) =
    let e : j + 1 + n ≡ j + suc n = omega arith in
    ap (λ l. ty.Var j ∷ l) (variables_last (j + 1) n ∙ ap (λ k. variables (j + 1) n ++ ty.Var k ∷ []) e)

pub next_variable : (n : ℕ) (vs new : List JavaType) → vs ≡ variables 0 n → new ≡ vs ++ ty.Var n ∷ [] → new ≡ variables 0 (n + 1)
next_variable n vs new before made =
    let zero_first : 0 + n ≡ n = omega arith in
    let e : n + 1 ≡ suc n = omega arith in
    made ∙ ap (λ l. l ++ ty.Var n ∷ []) before ∙ ap (λ k. variables 0 n ++ ty.Var k ∷ []) (sym zero_first) ∙ sym (variables_last 0 n) ∙ ap (variables 0) (sym e)

-- no arguments leave a type as it is

abbrev IsLeft : JavaType → Type 0
IsLeft t = substitute [] t ≡ t

left_in : (xs : List ((t : JavaType) × IsLeft t)) → map (substitute []) (map (λ e. e.0) xs) ≡ map (λ e. e.0) xs
left_in [] = refl
left_in (x ∷ xs) = let first : substitute [] x.0 ≡ x.0 = x.1 in let rest = left_in xs in cc (first, rest)

left_layer : (y : f.JavaType-F ((t : JavaType) × IsLeft t)) → put [] (map-JavaType JavaType JavaType (substitute []) (map-JavaType ((t : JavaType) × IsLeft t) JavaType (λ e. e.0) y)) ≡ roll-JavaType (map-JavaType ((t : JavaType) × IsLeft t) JavaType (λ e. e.0) y)
left_layer (f.Prim p) = sym (ty.rolls-Prim p)
left_layer f.Null = sym ty.rolls-Null
left_layer (f.Class c xs) = ap (ty.Class c) (left_in xs) ∙ sym (ty.rolls-Class c _)
left_layer (f.Var k) = sym (ty.rolls-Var k)
left_layer (f.Array x) = ap ty.Array x.1 ∙ sym (ty.rolls-Array x.0)

pub left_alone : (t : JavaType) → substitute [] t ≡ t
left_alone = ind-JavaType IsLeft (λ x y is.
    subst (λ z. substitute [] (roll-JavaType z) ≡ roll-JavaType z) is (fold-roll-JavaType JavaType (put []) _ ∙ left_layer y))

-- what is put where a variable stands
pub put_there : (args : List JavaType) (t a : JavaType) (k : ℕ) (r : Result JavaType NoMemory) → substitute args t ≡ a → IfOk r (λ z. z ≡ substitute [] a) → IfOk r (λ z. z ≡ substitute args t)
put_there args t a k (Ok z) e made = made ∙ left_alone a ∙ sym e
put_there args t a k (Err z) e made = tt

-- types without variables

pub closed_class : (t : JavaType) (c : ℕ) (xs ys : List JavaType) → t ≡ ty.Class c xs → ys ≡ xs → AreClosed ys → IsClosed t
closed_class t c xs ys shape is closed args =
    let parts : map (substitute args) xs ≡ xs = ap (map (substitute args)) (sym is) ∙ closed args ∙ is in
    ap (substitute args) shape ∙ put_class args c xs ∙ ap (ty.Class c) parts ∙ sym shape

pub closed_array : (t x y : JavaType) → t ≡ ty.Array x → y ≡ x → IsClosed y → IsClosed t
closed_array t x y shape is closed args =
    let part : substitute args x ≡ x = ap (substitute args) (sym is) ∙ closed args ∙ is in
    ap (substitute args) shape ∙ put_array args x ∙ ap ty.Array part ∙ sym shape

pub closed_primitive : (t : JavaType) (p : Primitive) → t ≡ ty.Prim p → IsClosed t
closed_primitive t p shape args = ap (substitute args) shape ∙ put_primitive args p ∙ sym shape

pub closed_null : (t : JavaType) → t ≡ ty.Null → IsClosed t
closed_null t shape args = ap (substitute args) shape ∙ put_null args ∙ sym shape

pub closed_front : (ts : List JavaType) (x : JavaType) (xs : List JavaType) → ts ≡ x ∷ xs → IsClosed x → AreClosed xs → AreClosed ts
closed_front ts x xs is first rest args =
    let a : substitute args x ≡ x = first args in
    let b : map (substitute args) xs ≡ xs = rest args in
    let both : map (substitute args) (x ∷ xs) ≡ x ∷ xs = cc (a, b) in
    ap (map (substitute args)) is ∙ both ∙ sym is
