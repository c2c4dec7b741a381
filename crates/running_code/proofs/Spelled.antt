-- Names of classes, by their parts.
use Rattle.std.proofs.Common.{◌≡◌, ℕ, List, ◌++◌, Option, Some, None, refl, sym, ap, ◌∙◌, append_assoc}
use Rattle.std.specs.Prelude.{slice_get, codes}
use Rattle.java_tree.specs.declared.tree.Primitive.{Primitive}
use Rattle.class_world.specs.declared.world.World.{World}
use Rattle.class_world.specs.declared.world.TypeInfo.{TypeInfo}
use Rattle.class_world.specs.declared.world.JavaType.{JavaType}
use Rattle.class_world.specs.declared.world.JavaType.TheVariants as ty
use Rattle.class_world.specs.declared.world.JavaType.TheOpen as form
use Rattle.class_world.specs.declared.world.JavaType.TheOpen.{JavaType-F}
use Rattle.class_world.specs.declared.world.JavaType.TheFolds.{fold_out-JavaType, map-JavaType}
use Rattle.core_meaning.specs.Code.{Code}
use Rattle.core_meaning.specs.Classes.{element_name, full_name, full_name_of}
use Rattle.running_code.specs.Names.{element_name_of, info_name, name_in}

info_told : (c : Code) (o : Option TypeInfo) → info_name c.names o ≡ full_name_of c o
info_told c None = refl
info_told c (Some i) = refl

-- the name of a class by the world and the names of a code
pub name_told : (c : Code) (names : List (List ℕ)) (w : World) (k : ℕ) → c.world ≡ w → c.names ≡ names → name_in names w k ≡ full_name c k
name_told c names w k world text =
    ap (λ ns. name_in ns w k) (sym text) ∙ ap (λ (w : World). name_in c.names w k) (sym world) ∙ info_told c (slice_get c.world.types k)

abbrev level : Code → JavaType-F JavaType → List ℕ
level c L = element_name c (map-JavaType JavaType (List ℕ) (element_name_of c) L)

pub of_primitive : (c : Code) (t : JavaType) (p : Primitive) → t ≡ ty.Prim p → element_name_of c t ≡ element_name c (form.Prim p)
of_primitive c t p is = ap (element_name_of c) is ∙ fold_out-JavaType (List ℕ) (element_name c) (ty.Prim p) ∙ ap (level c) (ty.outs-Prim p)

pub of_array : (c : Code) (t x : JavaType) → t ≡ ty.Array x → element_name_of c t ≡ codes "[" ++ element_name_of c x
of_array c t x is = ap (element_name_of c) is ∙ fold_out-JavaType (List ℕ) (element_name c) (ty.Array x) ∙ ap (level c) (ty.outs-Array x)

-- three texts behind others
pub three : (out one two xs ys zs : List ℕ) → one ≡ out ++ xs → two ≡ one ++ ys → two ++ zs ≡ out ++ (xs ++ (ys ++ zs))
three out one two xs ys zs first second =
    ap (λ l. l ++ zs) (second ∙ ap (λ l. l ++ ys) first) ∙ append_assoc (out ++ xs) ys zs ∙ append_assoc out xs (ys ++ zs)

pub two : (out one xs ys : List ℕ) → one ≡ out ++ xs → one ++ ys ≡ out ++ (xs ++ ys)
two out one xs ys first = ap (λ l. l ++ ys) first ∙ append_assoc out xs ys
