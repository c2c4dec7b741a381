-- Direct supertypes.
use Rattle.std.proofs.Common.{◌≡◌, ◌⊎◌, inl, inr, ℕ, Bool, true, false, List, [], ◌∷◌, map, refl, sym, ap, ◌∙◌}
use Rattle.std.specs.List.{list_all}
use Rattle.java_tree.specs.declared.tree.TypeExpr.{TypeExpr}
use Rattle.java_tree.specs.View.{type_plain}
use Rattle.class_world.specs.Types.{object_type}
use Rattle.java_tree.specs.declared.tree.Primitive.{Primitive}
use Rattle.class_world.specs.declared.world.JavaType.{JavaType}
use Rattle.class_world.specs.declared.world.JavaType.TheVariants as ty
use Rattle.class_world.specs.declared.world.JavaType.TheFolds.{fold_out-JavaType, map-JavaType}
use Rattle.program_world.specs.ProgramWorld.{Argument, passes, as_argument, argument, implied_super}

-- ---- arguments, form by form

pub argument_primitive : (p : Primitive) → argument (ty.Prim p) ≡ record { reference = false; whole = true }
argument_primitive p = fold_out-JavaType Argument as_argument (ty.Prim p) ∙ ap (λ L. as_argument (map-JavaType JavaType Argument argument L)) (ty.outs-Prim p)

pub argument_null : argument ty.Null ≡ record { reference = false; whole = false }
argument_null = fold_out-JavaType Argument as_argument ty.Null ∙ ap (λ L. as_argument (map-JavaType JavaType Argument argument L)) ty.outs-Null

pub argument_class : (c : ℕ) (xs : List JavaType) → argument (ty.Class c xs) ≡ record { reference = true; whole = list_all passes (map argument xs) }
argument_class c xs = fold_out-JavaType Argument as_argument (ty.Class c xs) ∙ ap (λ L. as_argument (map-JavaType JavaType Argument argument L)) (ty.outs-Class c xs)

pub argument_variable : (k : ℕ) → argument (ty.Var k) ≡ record { reference = true; whole = true }
argument_variable k = fold_out-JavaType Argument as_argument (ty.Var k) ∙ ap (λ L. as_argument (map-JavaType JavaType Argument argument L)) (ty.outs-Var k)

pub argument_array : (x : JavaType) → argument (ty.Array x) ≡ record { reference = true; whole = (argument x).whole }
argument_array x = fold_out-JavaType Argument as_argument (ty.Array x) ∙ ap (λ L. as_argument (map-JavaType JavaType Argument argument L)) (ty.outs-Array x)

-- ---- what the code's tests tell

pub primitive_whole : (t : JavaType) (p : Primitive) → t ≡ ty.Prim p → true ≡ (argument t).whole
primitive_whole t p e = sym (ap (λ (x : JavaType). (argument x).whole) e ∙ ap (λ (a : Argument). a.whole) (argument_primitive p))

pub null_whole : (t : JavaType) → t ≡ ty.Null → false ≡ (argument t).whole
null_whole t e = sym (ap (λ (x : JavaType). (argument x).whole) e ∙ ap (λ (a : Argument). a.whole) argument_null)

pub variable_whole : (t : JavaType) (k : ℕ) → t ≡ ty.Var k → true ≡ (argument t).whole
variable_whole t k e = sym (ap (λ (x : JavaType). (argument x).whole) e ∙ ap (λ (a : Argument). a.whole) (argument_variable k))

pub class_whole : (t : JavaType) (c : ℕ) (xs ys : List JavaType) (r : Bool) → t ≡ ty.Class c xs → ys ≡ xs → r ≡ list_all passes (map argument ys) → r ≡ (argument t).whole
class_whole t c xs ys r e same told =
    told ∙ ap (λ (zs : List JavaType). list_all passes (map argument zs)) same ∙ sym (ap (λ (x : JavaType). (argument x).whole) e ∙ ap (λ (a : Argument). a.whole) (argument_class c xs))

pub array_whole : (t x y : JavaType) (r : Bool) → t ≡ ty.Array x → y ≡ x → r ≡ (argument y).whole → r ≡ (argument t).whole
array_whole t x y r e same told =
    told ∙ ap (λ (z : JavaType). (argument z).whole) same ∙ sym (ap (λ (x : JavaType). (argument x).whole) e ∙ ap (λ (a : Argument). a.whole) (argument_array x))

pub primitive_refers : (t : JavaType) (p : Primitive) → t ≡ ty.Prim p → false ≡ (argument t).reference
primitive_refers t p e = sym (ap (λ (x : JavaType). (argument x).reference) e ∙ ap (λ (a : Argument). a.reference) (argument_primitive p))

pub null_refers : (t : JavaType) → t ≡ ty.Null → false ≡ (argument t).reference
null_refers t e = sym (ap (λ (x : JavaType). (argument x).reference) e ∙ ap (λ (a : Argument). a.reference) argument_null)

pub class_refers : (t : JavaType) (c : ℕ) (xs : List JavaType) → t ≡ ty.Class c xs → true ≡ (argument t).reference
class_refers t c xs e = sym (ap (λ (x : JavaType). (argument x).reference) e ∙ ap (λ (a : Argument). a.reference) (argument_class c xs))

pub variable_refers : (t : JavaType) (k : ℕ) → t ≡ ty.Var k → true ≡ (argument t).reference
variable_refers t k e = sym (ap (λ (x : JavaType). (argument x).reference) e ∙ ap (λ (a : Argument). a.reference) (argument_variable k))

pub array_refers : (t x : JavaType) → t ≡ ty.Array x → true ≡ (argument t).reference
array_refers t x e = sym (ap (λ (x : JavaType). (argument x).reference) e ∙ ap (λ (a : Argument). a.reference) (argument_array x))

-- ---- supertypes

pub none_implied : (interface : Bool) (xs : List TypeExpr) → (interface ≡ true) ⊎ (xs ≡ [] → ⊥) → implied_super interface (map type_plain xs) ≡ []
none_implied true xs h = refl
none_implied false [] (inl e) = absurd (cc e)
none_implied false [] (inr some) = absurd (some refl)
none_implied false (x ∷ xs) h = refl

pub implied : (interface : Bool) (xs : List TypeExpr) → interface ≡ false → xs ≡ [] → implied_super interface (map type_plain xs) ≡ object_type ∷ []
implied true xs i e = absurd (cc i)
implied false [] i e = refl
implied false (x ∷ xs) i e = absurd (cc e)
