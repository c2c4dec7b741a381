-- The parts of types, form by form, and that types can be read back from them.
use Rattle.std.proofs.Common.{◌≡◌, Bool, true, false, ℕ, zero, suc, ◌+◌, ◌<◌, List, [], ◌∷◌, ◌++◌, map, length, refl, sym, ap, ◌∙◌, append_assoc, arith}
use Rattle.std.specs.List.{flat_map}
use Rattle.java_tree.specs.declared.tree.Name.{Name}
use Rattle.java_tree.specs.declared.tree.Primitive.{Primitive}
use Rattle.java_tree.specs.declared.tree.Primitive.TheVariants as prim
use Rattle.class_world.specs.declared.world.JavaType.{JavaType, out-JavaType, roll-JavaType, roll-out-JavaType}
use Rattle.class_world.specs.declared.world.JavaType.TheVariants as ty
use Rattle.class_world.specs.declared.world.JavaType.TheOpen as form
use Rattle.class_world.specs.declared.world.JavaType.TheOpen.{JavaType-F}
use Rattle.class_world.specs.declared.world.JavaType.TheFolds.{fold_out-JavaType, map-JavaType}
use Rattle.class_world.proofs.Weights.{weigh, weight, weights}
use Rattle.class_world.proofs.Substs.{length_map}
use Rattle.signature_numbers.specs.declared.codes.Part.{Part}
use Rattle.signature_numbers.specs.declared.codes.Part.TheVariants as part
use Rattle.signature_numbers.specs.Codes.{primitive, written, parts, code}

-- ---- a type by its form

parts_by : (t : JavaType) (L : JavaType-F JavaType) → out-JavaType t ≡ L → parts t ≡ written (map-JavaType JavaType (List Part) parts L)
parts_by t L e = fold_out-JavaType (List Part) written t ∙ ap (λ L. written (map-JavaType JavaType (List Part) parts L)) e

weight_by : (t : JavaType) (L : JavaType-F JavaType) → out-JavaType t ≡ L → weight t ≡ weigh (map-JavaType JavaType ℕ weight L)
weight_by t L e = fold_out-JavaType ℕ weigh t ∙ ap (λ L. weigh (map-JavaType JavaType ℕ weight L)) e

type_by : (t u : JavaType) → out-JavaType t ≡ out-JavaType u → t ≡ u
type_by t u e = sym (roll-out-JavaType t) ∙ ap roll-JavaType e ∙ roll-out-JavaType u

flat : (xs : List JavaType) → flat_map (λ x. x) (map parts xs) ≡ flat_map parts xs
flat [] = refl
flat (x ∷ xs) = ap (λ ps. parts x ++ ps) (flat xs)

class_parts : (c : ℕ) (xs : List JavaType) → written (form.Class c (map parts xs)) ≡ part.Class c (length xs) ∷ flat_map parts xs
class_parts c xs = let len : length (map parts xs) ≡ length xs = length_map parts xs in let all = flat xs in cc (len, all)

pub parts_class : (t : JavaType) (c : ℕ) (xs : List JavaType) → t ≡ ty.Class c xs → parts t ≡ part.Class c (length xs) ∷ flat_map parts xs
parts_class t c xs e = parts_by t (form.Class c xs) (ap out-JavaType e ∙ ty.outs-Class c xs) ∙ class_parts c xs

pub parts_array : (t x : JavaType) → t ≡ ty.Array x → parts t ≡ part.Level ∷ parts x
parts_array t x e = parts_by t (form.Array x) (ap out-JavaType e ∙ ty.outs-Array x)

-- ---- what is written is read back

abbrev is_primitive : Part → Bool
is_primitive part.Int = true
is_primitive part.Long = true
is_primitive part.Char = true
is_primitive part.Boolean = true
is_primitive _ = false

of_primitive : (p : Primitive) → is_primitive (primitive p) ≡ true
of_primitive prim.Int = refl
of_primitive prim.Long = refl
of_primitive prim.Char = refl
of_primitive prim.Boolean = refl

alien : (p : Primitive) (x : Part) → x ≡ primitive p → is_primitive x ≡ true
alien p x e = ap is_primitive e ∙ of_primitive p

abbrev Front : JavaType → JavaType → List Part → List Part → Type 0
Front t u r s = parts t ++ r ≡ parts u ++ s → (t ≡ u) × (r ≡ s)

abbrev AreFront : List JavaType → List JavaType → List Part → List Part → Type 0
AreFront xs ys r s = length xs ≡ length ys → flat_map parts xs ++ r ≡ flat_map parts ys ++ s → (xs ≡ ys) × (r ≡ s)

all_front : (n : ℕ) → ((t u : JavaType) (r s : List Part) → weight t < n → Front t u r s) → (xs ys : List JavaType) (r s : List Part) → weights xs < n → AreFront xs ys r s
all_front n front [] [] r s low len e = (refl, e)
all_front n front [] (y ∷ ys) r s low len e = absurd (omega (arith, len))
all_front n front (x ∷ xs) [] r s low len e = absurd (omega (arith, len))
all_front n front (x ∷ xs) (y ∷ ys) r s low len e =
    let apart : parts x ++ (flat_map parts xs ++ r) ≡ parts y ++ (flat_map parts ys ++ s) = sym (append_assoc (parts x) (flat_map parts xs) r) ∙ e ∙ append_assoc (parts y) (flat_map parts ys) s in
    let first = front x y (flat_map parts xs ++ r) (flat_map parts ys ++ s) (omega (arith, low)) apart in
    let rest = all_front n front xs ys r s (omega (arith, low)) (omega (arith, len)) first.1 in
    let head = first.0 in
    let tail = rest.0 in
    (cc (head, tail), rest.1)

front : (n : ℕ) (t u : JavaType) (r s : List Part) → weight t < n → Front t u r s
front zero t u r s low e = absurd (omega (arith, low))
front (suc n) t u r s low e = by (front n) (out-JavaType t) (out-JavaType u) refl refl (ap (λ ps. ps ++ r) (sym (parts_by t _ refl)) ∙ e ∙ ap (λ ps. ps ++ s) (parts_by u _ refl))
  where
    by : ((x y : JavaType) (p q : List Part) → weight x < n → Front x y p q) → (L M : JavaType-F JavaType) → out-JavaType t ≡ L → out-JavaType u ≡ M
        → written (map-JavaType JavaType (List Part) parts L) ++ r ≡ written (map-JavaType JavaType (List Part) parts M) ++ s → (t ≡ u) × (r ≡ s)
    by below (form.Prim prim.Int) (form.Prim prim.Int) a b h = (type_by t u (a ∙ sym b), cc h)
    by below (form.Prim prim.Long) (form.Prim prim.Long) a b h = (type_by t u (a ∙ sym b), cc h)
    by below (form.Prim prim.Char) (form.Prim prim.Char) a b h = (type_by t u (a ∙ sym b), cc h)
    by below (form.Prim prim.Boolean) (form.Prim prim.Boolean) a b h = (type_by t u (a ∙ sym b), cc h)
    by below form.Null form.Null a b h = (type_by t u (a ∙ sym b), cc h)
    by below (form.Class c xs) (form.Class d ys) a b h =
        let lists : part.Class c (length xs) ∷ (flat_map parts xs ++ r) ≡ part.Class d (length ys) ∷ (flat_map parts ys ++ s) =
        ap (λ ps. ps ++ r) (sym (class_parts c xs)) ∙ h ∙ ap (λ ps. ps ++ s) (class_parts d ys) in
        let classes : c ≡ d = cc lists in
        let counts : length xs ≡ length ys = cc lists in
        let rest : flat_map parts xs ++ r ≡ flat_map parts ys ++ s = cc lists in
        let heavy : weight t ≡ weights xs + 1 = weight_by t _ a in
        let both = all_front n below xs ys r s (omega (arith, low, heavy)) counts rest in
        let args = both.0 in
        let same : out-JavaType t ≡ out-JavaType u = cc (a, b, classes, args) in
        (type_by t u same, both.1)
    by below (form.Var j) (form.Var k) a b h =
        let same_k : j ≡ k = cc h in
        let same : out-JavaType t ≡ out-JavaType u = cc (a, b, same_k) in
        (type_by t u same, cc h)
    by below (form.Array x) (form.Array y) a b h =
        let heavy : weight t ≡ weight x + 1 = weight_by t _ a in
        let rest : parts x ++ r ≡ parts y ++ s = cc h in
        let both = below x y r s (omega (arith, low, heavy)) rest in
        let element = both.0 in
        let same : out-JavaType t ≡ out-JavaType u = cc (a, b, element) in
        (type_by t u same, both.1)
    by below form.Null (form.Prim p) a b h = let e : part.Null ≡ primitive p = cc h in let f = alien p part.Null e in absurd (cc f)
    by below (form.Class c xs) (form.Prim p) a b h = let e : part.Class c (length (map parts xs)) ≡ primitive p = cc h in let f = alien p _ e in absurd (cc f)
    by below (form.Var k) (form.Prim p) a b h = let e : part.Var k ≡ primitive p = cc h in let f = alien p _ e in absurd (cc f)
    by below (form.Array x) (form.Prim p) a b h = let e : part.Level ≡ primitive p = cc h in let f = alien p part.Level e in absurd (cc f)
    by below _ _ a b h = absurd (cc h)

-- a type has a part at least
some_part : (t : JavaType) → parts t ≡ [] → ⊥
some_part t e = by (out-JavaType t) (sym (parts_by t _ refl) ∙ e)
  where
    by : (L : JavaType-F JavaType) → written (map-JavaType JavaType (List Part) parts L) ≡ [] → ⊥
    by (form.Prim p) h = absurd (cc h)
    by form.Null h = absurd (cc h)
    by (form.Class c xs) h = absurd (cc h)
    by (form.Var k) h = absurd (cc h)
    by (form.Array x) h = absurd (cc h)

no_parts : (t : JavaType) (ps : List Part) → parts t ++ ps ≡ [] → ⊥
no_parts t ps e = go (parts t) refl e
  where
    go : (qs : List Part) → parts t ≡ qs → qs ++ ps ≡ [] → ⊥
    go [] is h = some_part t is
    go (q ∷ qs) is h = absurd (cc h)

all_back : (xs ys : List JavaType) → flat_map parts xs ≡ flat_map parts ys → xs ≡ ys
all_back [] [] e = refl
all_back [] (y ∷ ys) e = absurd (no_parts y (flat_map parts ys) (sym e))
all_back (x ∷ xs) [] e = absurd (no_parts x (flat_map parts xs) e)
all_back (x ∷ xs) (y ∷ ys) e =
    let first = front (weight x + 1) x y (flat_map parts xs) (flat_map parts ys) (omega arith) e in
    let head = first.0 in
    let tail : xs ≡ ys = all_back xs ys first.1 in
    cc (head, tail)

pub code_back : (a b : Name) (ps qs : List JavaType) → code a ps ≡ code b qs → (a ≡ b) × (ps ≡ qs)
code_back a b ps qs e =
    let names : a.0 ≡ b.0 = cc e in
    let rest : flat_map parts ps ≡ flat_map parts qs = cc e in
    (ap named names, all_back ps qs rest)
  where
    named : ℕ → Name
    named x = record { 0 = x }
