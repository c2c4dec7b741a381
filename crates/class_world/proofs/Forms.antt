-- The forms of a type told apart, and what each holds.
use Rattle.std.proofs.Common.{◌≡◌, ℕ, List, sym, ap, ◌∙◌}
use Rattle.java_tree.specs.declared.tree.Primitive.{Primitive}
use Rattle.class_world.specs.declared.world.JavaType.{JavaType, out-JavaType}
use Rattle.class_world.specs.declared.world.JavaType.TheVariants as ty
use Rattle.class_world.specs.declared.world.JavaType.TheOpen as f
use Rattle.class_world.specs.Types.{IsReference, of_class, of_variable, of_array}

pub data Kind : Type 0 where
  APrimitive : Kind
  ANull : Kind
  AClass : Kind
  AVariable : Kind
  AnArray : Kind

layer_kind : f.JavaType-F JavaType → Kind
layer_kind (f.Prim p) = APrimitive
layer_kind f.Null = ANull
layer_kind (f.Class c xs) = AClass
layer_kind (f.Var k) = AVariable
layer_kind (f.Array x) = AnArray

pub kind : JavaType → Kind
kind t = layer_kind (out-JavaType t)

pub primitive_kind : (p : Primitive) → kind (ty.Prim p) ≡ APrimitive
unfolding kind layer_kind
primitive_kind p = ap layer_kind (ty.outs-Prim p)

pub null_kind : kind ty.Null ≡ ANull
unfolding kind layer_kind
null_kind = ap layer_kind ty.outs-Null

pub class_kind : (c : ℕ) (xs : List JavaType) → kind (ty.Class c xs) ≡ AClass
unfolding kind layer_kind
class_kind c xs = ap layer_kind (ty.outs-Class c xs)

pub variable_kind : (k : ℕ) → kind (ty.Var k) ≡ AVariable
unfolding kind layer_kind
variable_kind k = ap layer_kind (ty.outs-Var k)

pub array_kind : (x : JavaType) → kind (ty.Array x) ≡ AnArray
unfolding kind layer_kind
array_kind x = ap layer_kind (ty.outs-Array x)

-- two equal types of one form hold the same

pub same_primitive : (p q : Primitive) → ty.Prim p ≡ ty.Prim q → p ≡ q
same_primitive p q e = let h : f.Prim p ≡ f.Prim q = sym (ty.outs-Prim p) ∙ ap out-JavaType e ∙ ty.outs-Prim q in cc h

pub same_variable : (j k : ℕ) → ty.Var j ≡ ty.Var k → j ≡ k
same_variable j k e = let h : f.Var j ≡ f.Var k = sym (ty.outs-Var j) ∙ ap out-JavaType e ∙ ty.outs-Var k in cc h

pub same_element : (x y : JavaType) → ty.Array x ≡ ty.Array y → x ≡ y
same_element x y e = let h : f.Array x ≡ f.Array y = sym (ty.outs-Array x) ∙ ap out-JavaType e ∙ ty.outs-Array y in cc h

pub same_class : (c d : ℕ) (xs ys : List JavaType) → ty.Class c xs ≡ ty.Class d ys → (c ≡ d) × (xs ≡ ys)
same_class c d xs ys e =
    let h : f.Class c xs ≡ f.Class d ys = sym (ty.outs-Class c xs) ∙ ap out-JavaType e ∙ ty.outs-Class d ys in
    (cc h, cc h)

-- a primitive type and the null type are no reference types

pub primitive_refers_not : (t : JavaType) (p : Primitive) → IsReference t → t ≡ ty.Prim p → ⊥
primitive_refers_not t p (of_class c xs) e = absurd (cc (class_kind c xs, primitive_kind p, e))
primitive_refers_not t p (of_variable k) e = absurd (cc (variable_kind k, primitive_kind p, e))
primitive_refers_not t p (of_array x) e = absurd (cc (array_kind x, primitive_kind p, e))

pub null_refers_not : (t : JavaType) → IsReference t → t ≡ ty.Null → ⊥
null_refers_not t (of_class c xs) e = absurd (cc (class_kind c xs, null_kind, e))
null_refers_not t (of_variable k) e = absurd (cc (variable_kind k, null_kind, e))
null_refers_not t (of_array x) e = absurd (cc (array_kind x, null_kind, e))
