-- Types as they are seen through the arguments on the way up, form by form.
use Rattle.std.proofs.Common.{◌≡◌, ℕ, ◌+◌, Bool, ◌↔◌, List, map, refl, sym, ap, ◌∙◌, length}
use Rattle.std.specs.Prelude.{IsTrue}
use Rattle.java_tree.specs.declared.tree.Primitive.{Primitive}
use Rattle.class_world.specs.declared.world.World.{World}
use Rattle.class_world.specs.declared.world.JavaType.{JavaType}
use Rattle.class_world.specs.declared.world.JavaType.TheVariants as ty
use Rattle.class_world.specs.declared.seen.Seen.{Seen, Itself, Through'}
use Rattle.class_world.specs.Types.{substitute, IsTypeOver}
use Rattle.class_world.specs.Seen.{seen_as}
use Rattle.class_world.proofs.Forms.{same_class, same_element}
use Rattle.class_world.proofs.Substs.{put_primitive, put_null, put_class, put_array, put_twice, map_alike, map_same, length_map}

pub seen_primitive : (s : Seen) (p : Primitive) → seen_as s (ty.Prim p) ≡ ty.Prim p
seen_primitive Itself p = refl
seen_primitive (Through' args q s) p = ap (seen_as s) (put_primitive args.now p) ∙ seen_primitive s p

pub seen_null : (s : Seen) → seen_as s ty.Null ≡ ty.Null
seen_null Itself = refl
seen_null (Through' args q s) = ap (seen_as s) (put_null args.now) ∙ seen_null s

pub seen_type : (s : Seen) (c : ℕ) (xs : List JavaType) → seen_as s (ty.Class c xs) ≡ ty.Class c (map (seen_as s) xs)
seen_type Itself c xs = ap (λ xs. ty.Class c xs) (sym (map_same (seen_as Itself) xs (λ k x e. refl)))
seen_type (Through' args q s) c xs =
    ap (seen_as s) (put_class args.now c xs) ∙ seen_type s c (map (substitute args.now) xs)
    ∙ ap (λ xs. ty.Class c xs) (map_alike (seen_as s) (substitute args.now) (seen_as (Through' args q s)) xs (λ k x e. refl))

pub seen_array : (s : Seen) (x : JavaType) → seen_as s (ty.Array x) ≡ ty.Array (seen_as s x)
seen_array Itself x = refl
seen_array (Through' args q s) x = ap (seen_as s) (put_array args.now x) ∙ seen_array s (substitute args.now x)

-- types that are seen as themselves
pub seen_alike : (xs : List JavaType) → map (seen_as Itself) xs ≡ xs
seen_alike xs = map_same (seen_as Itself) xs (λ k x e. refl)

-- arguments that are put, and seen then, are put as they are seen
pub seen_put : (w : World) (n : ℕ) (s : Seen) (args : List JavaType) (t : JavaType) → length args ≡ n → IsTypeOver w n t → seen_as s (substitute args t) ≡ substitute (map (seen_as s) args) t
seen_put w n Itself args t len over = ap (λ xs. substitute xs t) (sym (map_same (seen_as Itself) args (λ k x e. refl)))
seen_put w n (Through' zs q s) args t len over =
    ap (seen_as s) (put_twice w n zs.now args t len over) ∙ seen_put w n s (map (substitute zs.now) args) t (length_map (substitute zs.now) args ∙ len) over
    ∙ ap (λ xs. substitute xs t) (map_alike (seen_as s) (substitute zs.now) (seen_as (Through' zs q s)) args (λ k x e. refl))

-- what tests of the parts come to

pub class_seen : (r : Bool) (seen : Seen) (s t : JavaType) (c d : ℕ) (xs ys us vs : List JavaType) → s ≡ ty.Class c xs → t ≡ ty.Class d ys → c ≡ d → us ≡ xs → vs ≡ ys → IsTrue r ↔ (map (seen_as seen) us ≡ vs)
    → IsTrue r ↔ (seen_as seen s ≡ t)
class_seen r seen s t c d xs ys us vs is_s is_t number same_xs same_ys told =
    let made : seen_as seen s ≡ ty.Class c (map (seen_as seen) xs) = ap (seen_as seen) is_s ∙ seen_type seen c xs in (
      λ h. made ∙ ap (λ us. ty.Class c (map (seen_as seen) us)) (sym same_xs) ∙ ap (λ zs. ty.Class c zs) (told.0 h ∙ same_ys) ∙ ap (λ c. ty.Class c ys) number ∙ sym is_t,
      λ h. told.1 (ap (map (seen_as seen)) same_xs ∙ (same_class c d (map (seen_as seen) xs) ys (sym made ∙ h ∙ is_t)).1 ∙ sym same_ys),
    )

pub other_class_seen : (seen : Seen) (s t : JavaType) (c d : ℕ) (xs ys : List JavaType) → s ≡ ty.Class c xs → t ≡ ty.Class d ys → seen_as seen s ≡ t → c ≡ d
other_class_seen seen s t c d xs ys is_s is_t h = (same_class c d (map (seen_as seen) xs) ys (sym (ap (seen_as seen) is_s ∙ seen_type seen c xs) ∙ h ∙ is_t)).0

pub array_seen : (r : Bool) (seen : Seen) (s t x y u v : JavaType) → s ≡ ty.Array x → t ≡ ty.Array y → u ≡ x → v ≡ y → IsTrue r ↔ (seen_as seen u ≡ v) → IsTrue r ↔ (seen_as seen s ≡ t)
array_seen r seen s t x y u v is_s is_t same_x same_y told =
    let made : seen_as seen s ≡ ty.Array (seen_as seen x) = ap (seen_as seen) is_s ∙ seen_array seen x in (
      λ h. made ∙ ap (λ u. ty.Array (seen_as seen u)) (sym same_x) ∙ ap ty.Array (told.0 h ∙ same_y) ∙ sym is_t,
      λ h. told.1 (ap (seen_as seen) same_x ∙ same_element (seen_as seen x) y (sym made ∙ h ∙ is_t) ∙ sym same_y),
    )

-- how many arguments the variables are seen through
abbrev pub frames : Seen → ℕ
frames Itself = 0
frames (Through' args q s) = frames s + 1
