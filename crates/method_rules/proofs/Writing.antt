-- Erased types are written alike exactly where they are the same.
use Rattle.std.proofs.Common.{◌≡◌, ℕ, zero, suc, ◌+◌, ◌<◌, List, [], ◌∷◌, ◌++◌, map, flat_map, ◌↔◌, refl, sym, ap, ◌∙◌, arith}
use Rattle.java_tree.specs.declared.tree.Primitive.{Primitive}
use Rattle.java_tree.specs.declared.tree.Primitive.TheVariants as prim
use Rattle.class_world.specs.declared.world.JavaType.{JavaType, out-JavaType}
use Rattle.class_world.specs.declared.world.JavaType.TheVariants as ty
use Rattle.class_world.specs.declared.world.JavaType.TheOpen as form
use Rattle.class_world.specs.declared.world.JavaType.TheOpen.{JavaType-F}
use Rattle.class_world.specs.declared.world.JavaType.TheFolds.{fold_out-JavaType, map-JavaType}
use Rattle.class_world.specs.Types.{erased, without_arguments}
use Rattle.class_world.proofs.Weights.{weigh, weight}
use Rattle.method_rules.specs.declared.signatures.Part.{Part}
use Rattle.method_rules.specs.declared.signatures.Part.TheVariants as part
use Rattle.method_rules.specs.Signatures.{primitive, written, parts}

-- ---- a type by its form

erased_by : (t : JavaType) (L : JavaType-F JavaType) → out-JavaType t ≡ L → erased t ≡ without_arguments (map-JavaType JavaType JavaType erased L)
erased_by t L e = fold_out-JavaType JavaType without_arguments t ∙ ap (λ L. without_arguments (map-JavaType JavaType JavaType erased L)) e

parts_by : (t : JavaType) (L : JavaType-F JavaType) → out-JavaType t ≡ L → parts t ≡ written (map-JavaType JavaType (List Part) parts L)
parts_by t L e = fold_out-JavaType (List Part) written t ∙ ap (λ L. written (map-JavaType JavaType (List Part) parts L)) e

weight_by : (t : JavaType) (L : JavaType-F JavaType) → out-JavaType t ≡ L → weight t ≡ weigh (map-JavaType JavaType ℕ weight L)
weight_by t L e = fold_out-JavaType ℕ weigh t ∙ ap (λ L. weigh (map-JavaType JavaType ℕ weight L)) e

-- ---- a type is written as its erasure is

abbrev IsWrittenErased : JavaType → Type 0
IsWrittenErased t = parts (erased t) ≡ parts t

written_erased : (n : ℕ) (t : JavaType) → weight t < n → IsWrittenErased t
written_erased zero t lt = absurd (omega (arith, lt))
written_erased (suc n) t lt = by (written_erased n) (out-JavaType t) refl
  where
    by : ((x : JavaType) → weight x < n → IsWrittenErased x) → (L : JavaType-F JavaType) → out-JavaType t ≡ L → IsWrittenErased t
    by below (form.Prim p) e = ap parts (erased_by t _ e) ∙ parts_by (ty.Prim p) _ (ty.outs-Prim p) ∙ sym (parts_by t _ e)
    by below form.Null e = ap parts (erased_by t _ e) ∙ parts_by ty.Null _ ty.outs-Null ∙ sym (parts_by t _ e)
    by below (form.Class c xs) e = ap parts (erased_by t _ e) ∙ parts_by (ty.Class c []) _ (ty.outs-Class c []) ∙ sym (parts_by t _ e)
    by below (form.Var k) e = ap parts (erased_by t _ e) ∙ parts_by (ty.Class 0 []) _ (ty.outs-Class 0 []) ∙ sym (parts_by t _ e)
    by below (form.Array x) e =
        let heavy : weight t ≡ weight x + 1 = weight_by t _ e in
        ap parts (erased_by t _ e) ∙ parts_by (ty.Array (erased x)) _ (ty.outs-Array (erased x)) ∙ ap (λ ps. part.Level ∷ ps) (below x (omega (arith, lt, heavy))) ∙ sym (parts_by t _ e)

all_erased : (ts : List JavaType) → flat_map parts (map erased ts) ≡ flat_map parts ts
all_erased [] = refl
all_erased (t ∷ ts) =
    let first : parts (erased t) ≡ parts t = written_erased (weight t + 1) t (omega arith) in
    let rest : flat_map parts (map erased ts) ≡ flat_map parts ts = all_erased ts in
    cc (first, rest)

-- ---- what is written is read again

abbrev arrays : ℕ → JavaType → JavaType
arrays zero t = t
arrays (suc n) t = arrays n (ty.Array t)

-- the types that are written, under n levels of an array
abbrev again : ℕ → List Part → List JavaType
again n [] = []
again n (part.Level ∷ ps) = again (suc n) ps
again n (part.Int ∷ ps) = arrays n (ty.Prim prim.Int) ∷ again 0 ps
again n (part.Long ∷ ps) = arrays n (ty.Prim prim.Long) ∷ again 0 ps
again n (part.Char ∷ ps) = arrays n (ty.Prim prim.Char) ∷ again 0 ps
again n (part.Boolean ∷ ps) = arrays n (ty.Prim prim.Boolean) ∷ again 0 ps
again n (part.Null ∷ ps) = arrays n ty.Null ∷ again 0 ps
again n (part.Class c ∷ ps) = arrays n (ty.Class c []) ∷ again 0 ps

primitive_again : (n : ℕ) (p : Primitive) (ps : List Part) → again n (primitive p ∷ ps) ≡ arrays n (ty.Prim p) ∷ again 0 ps
primitive_again n prim.Int ps = refl
primitive_again n prim.Long ps = refl
primitive_again n prim.Char ps = refl
primitive_again n prim.Boolean ps = refl

abbrev IsReadAgain : ℕ → JavaType → List Part → Type 0
IsReadAgain n t ps = again n (parts t ++ ps) ≡ arrays n (erased t) ∷ again 0 ps

one_again : (h n : ℕ) (t : JavaType) (ps : List Part) → weight t < h → IsReadAgain n t ps
one_again zero n t ps lt = absurd (omega (arith, lt))
one_again (suc h) n t ps lt = by (λ x. one_again h (suc n) x ps) (out-JavaType t) refl
  where
    told : (qs : List Part) (u : JavaType) → parts t ≡ qs → erased t ≡ u → again n (qs ++ ps) ≡ arrays n u ∷ again 0 ps → IsReadAgain n t ps
    told qs u is same read = ap (λ qs. again n (qs ++ ps)) is ∙ read ∙ ap (λ u. arrays n u ∷ again 0 ps) (sym same)

    by : ((x : JavaType) → weight x < h → IsReadAgain (suc n) x ps) → (L : JavaType-F JavaType) → out-JavaType t ≡ L → IsReadAgain n t ps
    by below (form.Prim p) e = told (primitive p ∷ []) (ty.Prim p) (parts_by t _ e) (erased_by t _ e) (primitive_again n p ps)
    by below form.Null e = told (part.Null ∷ []) ty.Null (parts_by t _ e) (erased_by t _ e) refl
    by below (form.Class c xs) e = told (part.Class c ∷ []) (ty.Class c []) (parts_by t _ e) (erased_by t _ e) refl
    by below (form.Var k) e = told (part.Class 0 ∷ []) (ty.Class 0 []) (parts_by t _ e) (erased_by t _ e) refl
    by below (form.Array x) e =
        let heavy : weight t ≡ weight x + 1 = weight_by t _ e in
        told (part.Level ∷ parts x) (ty.Array (erased x)) (parts_by t _ e) (erased_by t _ e) (below x (omega (arith, lt, heavy)))

all_again : (ts : List JavaType) → again 0 (flat_map parts ts) ≡ map erased ts
all_again [] = refl
all_again (t ∷ ts) = one_again (weight t + 1) 0 t (flat_map parts ts) (omega arith) ∙ ap (λ us. erased t ∷ us) (all_again ts)

pub written_alike : (ts us : List JavaType) → (flat_map parts ts ≡ flat_map parts us) ↔ (map erased ts ≡ map erased us)
written_alike ts us = (
  λ e. sym (all_again ts) ∙ ap (again 0) e ∙ all_again us,
  λ e. sym (all_erased ts) ∙ ap (flat_map parts) e ∙ all_erased us,
)
