-- Types with the numbers of their classes in another program, form by form.
use Rattle.std.proofs.Common.{◌≡◌, ℕ, List, [], ◌∷◌, ◌++◌, Option, Some, None, map, refl, sym, ap, ◌∙◌, subst}
use Rattle.std.specs.Prelude.{codes}
use Rattle.std.specs.Option.{option_map}
use Rattle.java_tree.specs.declared.tree.Primitive.{Primitive}
use Rattle.java_tree.specs.declared.tree.Primitive.TheVariants as prim
use Rattle.class_world.specs.declared.world.JavaType.{JavaType, out-JavaType, roll-JavaType}
use Rattle.class_world.specs.declared.world.JavaType.TheVariants as ty
use Rattle.class_world.specs.declared.world.JavaType.TheOpen as form
use Rattle.class_world.specs.declared.world.JavaType.TheOpen.{JavaType-F}
use Rattle.class_world.specs.declared.world.JavaType.TheFolds.{fold-JavaType, fold_out-JavaType, map-JavaType, ind-JavaType}
use Rattle.class_world.specs.Types.{erased}
use Rattle.class_world.proofs.Forms.{same_element}
use Rattle.class_world.proofs.Substs.{erased_primitive, erased_null, erased_class, erased_variable, erased_array}
use Rattle.type_kinds.specs.Kinds.{primitive, primitive_form, element, element_form, class_number, class_form}
use Rattle.core_meaning.specs.BuiltIns.{object_class}
use Rattle.core_meaning.specs.Code.{Code, default_value, first_value}
use Rattle.core_meaning.specs.Classes.{element_name, full_name, array_name}
use Rattle.program_maps.specs.Ways.{moved, moved_form}

-- ---- a layer

-- what holds of each type that is made of its parts holds of all
by_layers : (P : JavaType → Type 0) → ((y : JavaType-F ((t : JavaType) × P t)) → P (roll-JavaType (map-JavaType ((t : JavaType) × P t) JavaType (λ e. e.0) y)))
    → (t : JavaType) → P t
by_layers P h = ind-JavaType P (λ x y is. subst (λ z. P (roll-JavaType z)) is (h y))

-- what holds of each form holds of all types, the parts of arrays first
by_forms : (P : JavaType → Type 0) → ((q : Primitive) → P (ty.Prim q)) → P ty.Null → ((c : ℕ) (xs : List JavaType) → P (ty.Class c xs)) → ((k : ℕ) → P (ty.Var k))
    → ((x : JavaType) → P x → P (ty.Array x)) → (t : JavaType) → P t
by_forms P p n c v a = by_layers P layer
  where
    layer : (y : JavaType-F ((t : JavaType) × P t)) → P (roll-JavaType (map-JavaType ((t : JavaType) × P t) JavaType (λ e. e.0) y))
    layer (form.Prim q) = subst P (sym (ty.rolls-Prim q)) (p q)
    layer form.Null = subst P (sym ty.rolls-Null) n
    layer (form.Class k ys) = subst P (sym (ty.rolls-Class k (map (λ e. e.0) ys))) (c k (map (λ e. e.0) ys))
    layer (form.Var k) = subst P (sym (ty.rolls-Var k)) (v k)
    layer (form.Array y) = subst P (sym (ty.rolls-Array y.0)) (a y.0 y.1)

-- ---- moved

module _ (f : ℕ → ℕ) where
  pub moved_primitive : (q : Primitive) → moved f (ty.Prim q) ≡ ty.Prim q
  moved_primitive q = fold_out-JavaType JavaType (moved_form f) (ty.Prim q) ∙ ap (λ L. moved_form f (map-JavaType JavaType JavaType (moved f) L)) (ty.outs-Prim q)

  pub moved_null : moved f ty.Null ≡ ty.Null
  moved_null = fold_out-JavaType JavaType (moved_form f) ty.Null ∙ ap (λ L. moved_form f (map-JavaType JavaType JavaType (moved f) L)) ty.outs-Null

  pub moved_class : (c : ℕ) (xs : List JavaType) → moved f (ty.Class c xs) ≡ ty.Class (f c) (map (moved f) xs)
  moved_class c xs = fold_out-JavaType JavaType (moved_form f) (ty.Class c xs) ∙ ap (λ L. moved_form f (map-JavaType JavaType JavaType (moved f) L)) (ty.outs-Class c xs)

  pub moved_variable : (k : ℕ) → moved f (ty.Var k) ≡ ty.Var k
  moved_variable k = fold_out-JavaType JavaType (moved_form f) (ty.Var k) ∙ ap (λ L. moved_form f (map-JavaType JavaType JavaType (moved f) L)) (ty.outs-Var k)

  pub moved_array : (x : JavaType) → moved f (ty.Array x) ≡ ty.Array (moved f x)
  moved_array x = fold_out-JavaType JavaType (moved_form f) (ty.Array x) ∙ ap (λ L. moved_form f (map-JavaType JavaType JavaType (moved f) L)) (ty.outs-Array x)

-- ---- what primitives and elements are

primitive_of : (q : Primitive) → primitive (ty.Prim q) ≡ Some q
primitive_of q = ap primitive_form (ty.outs-Prim q)

no_primitive_null : primitive ty.Null ≡ None
no_primitive_null = ap primitive_form ty.outs-Null

no_primitive_class : (c : ℕ) (xs : List JavaType) → primitive (ty.Class c xs) ≡ None
no_primitive_class c xs = ap primitive_form (ty.outs-Class c xs)

no_primitive_variable : (k : ℕ) → primitive (ty.Var k) ≡ None
no_primitive_variable k = ap primitive_form (ty.outs-Var k)

no_primitive_array : (x : JavaType) → primitive (ty.Array x) ≡ None
no_primitive_array x = ap primitive_form (ty.outs-Array x)

pub primitive_moved : (f : ℕ → ℕ) (t : JavaType) → primitive (moved f t) ≡ primitive t
primitive_moved f = by_forms (λ t. primitive (moved f t) ≡ primitive t)
    (λ q. ap primitive (moved_primitive f q))
    (ap primitive (moved_null f))
    (λ c xs. ap primitive (moved_class f c xs) ∙ no_primitive_class (f c) (map (moved f) xs) ∙ sym (no_primitive_class c xs))
    (λ k. ap primitive (moved_variable f k))
    (λ x h. ap primitive (moved_array f x) ∙ no_primitive_array (moved f x) ∙ sym (no_primitive_array x))

pub primitive_erased : (t : JavaType) → primitive (erased t) ≡ primitive t
primitive_erased = by_forms (λ t. primitive (erased t) ≡ primitive t)
    (λ q. ap primitive (erased_primitive q))
    (ap primitive erased_null)
    (λ c xs. ap primitive (erased_class c xs) ∙ no_primitive_class c [] ∙ sym (no_primitive_class c xs))
    (λ k. ap primitive (erased_variable k) ∙ no_primitive_class 0 [] ∙ sym (no_primitive_variable k))
    (λ x h. ap primitive (erased_array x) ∙ no_primitive_array (erased x) ∙ sym (no_primitive_array x))

pub default_moved : (f : ℕ → ℕ) (t : JavaType) → default_value (moved f t) ≡ default_value t
default_moved f t = ap first_value (primitive_moved f t)

pub erased_twice : (t : JavaType) → erased (erased t) ≡ erased t
erased_twice = by_forms (λ t. erased (erased t) ≡ erased t)
    (λ q. ap erased (erased_primitive q))
    (ap erased erased_null)
    (λ c xs. ap erased (erased_class c xs) ∙ erased_class c [] ∙ sym (erased_class c xs))
    (λ k. ap erased (erased_variable k) ∙ erased_class 0 [] ∙ sym (erased_variable k))
    (λ x h. ap erased (erased_array x) ∙ erased_array (erased x) ∙ ap ty.Array h ∙ sym (erased_array x))

pub erased_moved : (f : ℕ → ℕ) → f object_class ≡ object_class → (t : JavaType) → erased (moved f t) ≡ moved f (erased t)
erased_moved f top = by_forms (λ t. erased (moved f t) ≡ moved f (erased t))
    (λ q. ap erased (moved_primitive f q) ∙ erased_primitive q ∙ sym (ap (moved f) (erased_primitive q) ∙ moved_primitive f q))
    (ap erased (moved_null f) ∙ erased_null ∙ sym (ap (moved f) erased_null ∙ moved_null f))
    (λ c xs. ap erased (moved_class f c xs) ∙ erased_class (f c) (map (moved f) xs) ∙ sym (ap (moved f) (erased_class c xs) ∙ moved_class f c []))
    (λ k. ap erased (moved_variable f k) ∙ erased_variable k ∙ ap (λ c. ty.Class c []) (sym top) ∙ sym (ap (moved f) (erased_variable k) ∙ moved_class f 0 []))
    (λ x h. ap erased (moved_array f x) ∙ erased_array (moved f x) ∙ ap ty.Array h ∙ sym (ap (moved f) (erased_array x) ∙ moved_array f (erased x)))

element_of_array : (x : JavaType) → element (ty.Array x) ≡ Some x
element_of_array x = ap element_form (ty.outs-Array x)

element_of_class : (c : ℕ) (xs : List JavaType) → element (ty.Class c xs) ≡ None
element_of_class c xs = ap element_form (ty.outs-Class c xs)

pub element_moved : (f : ℕ → ℕ) (t : JavaType) → element (moved f t) ≡ option_map (moved f) (element t)
element_moved f = by_forms (λ t. element (moved f t) ≡ option_map (moved f) (element t))
    (λ q. ap element (moved_primitive f q) ∙ none (ap element_form (ty.outs-Prim q)))
    (ap element (moved_null f) ∙ none (ap element_form ty.outs-Null))
    (λ c xs. ap element (moved_class f c xs) ∙ element_of_class (f c) (map (moved f) xs) ∙ sym (ap (option_map (moved f)) (element_of_class c xs)))
    (λ k. ap element (moved_variable f k) ∙ none (ap element_form (ty.outs-Var k)))
    (λ x h. ap element (moved_array f x) ∙ element_of_array (moved f x) ∙ sym (ap (option_map (moved f)) (element_of_array x)))
  where
    none : {o : Option JavaType} → o ≡ None → o ≡ option_map (moved f) o
    none e = e ∙ sym (ap (option_map (moved f)) e)

-- the element of an erased array is erased
pub element_erased : (t u : JavaType) → erased t ≡ t → element t ≡ Some u → erased u ≡ u
element_erased = by_forms (λ t. (u : JavaType) → erased t ≡ t → element t ≡ Some u → erased u ≡ u)
    (λ q u e h. no u (ap element_form (ty.outs-Prim q)) h)
    (λ u e h. no u (ap element_form ty.outs-Null) h)
    (λ c xs u e h. no u (element_of_class c xs) h)
    (λ k u e h. no u (ap element_form (ty.outs-Var k)) h)
    (λ x i u e h. let a = same_element (erased x) x (sym (erased_array x) ∙ e) in let b : x ≡ u = same (sym (element_of_array x) ∙ h) in subst (λ u. erased u ≡ u) b a)
  where
    no : {o : Option JavaType} (u : JavaType) → o ≡ None → o ≡ Some u → erased u ≡ u
    no u e h = absurd (cc (e, h))

    same : {x u : JavaType} → Some x ≡ Some u → x ≡ u
    same e = cc e

-- ---- names

module _ (c c' : Code) (f : ℕ → ℕ) (names : (k : ℕ) → full_name c' (f k) ≡ full_name c k) (top : f object_class ≡ object_class) where
  name_of_type : Code → JavaType → List ℕ
  name_of_type c t = fold-JavaType (List ℕ) (element_name c) t

  abbrev pub NamedAlike : JavaType → Type 0
  NamedAlike t = fold-JavaType (List ℕ) (element_name c') (moved f t) ≡ fold-JavaType (List ℕ) (element_name c) t

  layer_of : (c : Code) (t : JavaType) → fold-JavaType (List ℕ) (element_name c) t
      ≡ element_name c (map-JavaType JavaType (List ℕ) (fold-JavaType (List ℕ) (element_name c)) (out-JavaType t))
  layer_of c t = fold_out-JavaType (List ℕ) (element_name c) t

  told : (c : Code) (t : JavaType) (L : JavaType-F JavaType) → out-JavaType t ≡ L
      → fold-JavaType (List ℕ) (element_name c) t ≡ element_name c (map-JavaType JavaType (List ℕ) (fold-JavaType (List ℕ) (element_name c)) L)
  told c t L e = layer_of c t ∙ ap (λ L. element_name c (map-JavaType JavaType (List ℕ) (fold-JavaType (List ℕ) (element_name c)) L)) e

  object_named : full_name c' object_class ≡ full_name c object_class
  object_named = ap (full_name c') (sym top) ∙ names object_class

  pub named_alike : (t : JavaType) → NamedAlike t
  named_alike = by_forms NamedAlike
      (λ q. ap (fold-JavaType (List ℕ) (element_name c')) (moved_primitive f q) ∙ told c' (ty.Prim q) _ (ty.outs-Prim q) ∙ letter q ∙ sym (told c (ty.Prim q) _ (ty.outs-Prim q)))
      (ap (fold-JavaType (List ℕ) (element_name c')) (moved_null f) ∙ told c' ty.Null _ ty.outs-Null ∙ of_name object_named ∙ sym (told c ty.Null _ ty.outs-Null))
      (λ k xs. ap (fold-JavaType (List ℕ) (element_name c')) (moved_class f k xs) ∙ told c' (ty.Class (f k) (map (moved f) xs)) _ (ty.outs-Class (f k) (map (moved f) xs))
      ∙ of_name (names k) ∙ sym (told c (ty.Class k xs) _ (ty.outs-Class k xs)))
      (λ k. ap (fold-JavaType (List ℕ) (element_name c')) (moved_variable f k) ∙ told c' (ty.Var k) _ (ty.outs-Var k) ∙ of_name object_named
      ∙ sym (told c (ty.Var k) _ (ty.outs-Var k)))
      (λ x h. ap (fold-JavaType (List ℕ) (element_name c')) (moved_array f x) ∙ told c' (ty.Array (moved f x)) _ (ty.outs-Array (moved f x))
      ∙ ap (λ n. codes "[" ++ n) h ∙ sym (told c (ty.Array x) _ (ty.outs-Array x)))
    where
      of_name : {xs ys : List ℕ} → xs ≡ ys → codes "L" ++ xs ++ codes ";" ≡ codes "L" ++ ys ++ codes ";"
      of_name e = ap (λ n. codes "L" ++ n ++ codes ";") e

      letter : (q : Primitive) → element_name c' (form.Prim q) ≡ element_name c (form.Prim q)
      letter prim.Int = refl
      letter prim.Long = refl
      letter prim.Char = refl
      letter prim.Boolean = refl

  pub array_alike : (t : JavaType) → array_name c' (moved f t) ≡ array_name c t
  array_alike t = ap (λ n. codes "[" ++ n) (named_alike t)
