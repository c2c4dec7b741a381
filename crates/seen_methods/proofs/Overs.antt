-- Arguments put twice, and the same put at once.
use Rattle.std.proofs.Common.{◌≡◌, ℕ, ◌<◌, List, ◌∷◌, Some, map, sym, ap, ◌∙◌, arith}
use Rattle.std.specs.Prelude.{slice_get}
use Rattle.std.specs.Option.{option_map}
use Rattle.std.proofs.lemmas.Option.{slice_get-map}
use Rattle.class_world.specs.declared.world.JavaType.{JavaType}
use Rattle.class_world.specs.declared.world.JavaType.TheVariants as ty
use Rattle.class_world.specs.Types.{substitute}
use Rattle.class_world.proofs.Substs.{put_class, put_array, put_at, there_is}
use Rattle.seen_methods.specs.Scopes.{IsOver, AreOver}

pub over_class : (n : ℕ) (t : JavaType) (c : ℕ) (ts us : List JavaType) → t ≡ ty.Class c ts → us ≡ ts → AreOver n us → IsOver n t
over_class n t c ts us is same over xs args len =
    let zs : List JavaType = map (substitute xs) args in
    let parts : map (substitute xs) (map (substitute args) ts) ≡ map (substitute zs) ts =
    ap (λ vs. map (substitute xs) (map (substitute args) vs)) (sym same) ∙ over xs args len ∙ ap (map (substitute zs)) same in
    ap (λ u. substitute xs (substitute args u)) is ∙ ap (substitute xs) (put_class args c ts) ∙ put_class xs c (map (substitute args) ts) ∙ ap (ty.Class c) parts ∙ sym (put_class zs c ts)
    ∙ ap (substitute zs) (sym is)

pub over_variable : (n : ℕ) (t : JavaType) (k : ℕ) → t ≡ ty.Var k → k < n → IsOver n t
over_variable n t k is lt xs args len =
    let at = there_is args k (omega (arith, lt, len)) in
    let there : slice_get (map (substitute xs) args) k ≡ Some (substitute xs at.0) = slice_get-map (substitute xs) args k ∙ ap (option_map (substitute xs)) at.1 in
    ap (λ u. substitute xs (substitute args u)) is ∙ ap (substitute xs) (put_at args k at.0 at.1) ∙ sym (put_at (map (substitute xs) args) k (substitute xs at.0) there)
    ∙ ap (substitute (map (substitute xs) args)) (sym is)

pub over_array : (n : ℕ) (t x y : JavaType) → t ≡ ty.Array x → y ≡ x → IsOver n y → IsOver n t
over_array n t x y is same over xs args len =
    let zs : List JavaType = map (substitute xs) args in
    let part : substitute xs (substitute args x) ≡ substitute zs x = ap (λ u. substitute xs (substitute args u)) (sym same) ∙ over xs args len ∙ ap (substitute zs) same in
    ap (λ u. substitute xs (substitute args u)) is ∙ ap (substitute xs) (put_array args x) ∙ put_array xs (substitute args x) ∙ ap ty.Array part ∙ sym (put_array zs x)
    ∙ ap (substitute zs) (sym is)

pub over_front : (n : ℕ) (ts : List JavaType) (t : JavaType) (rest : List JavaType) → ts ≡ t ∷ rest → IsOver n t → AreOver n rest → AreOver n ts
over_front n ts t rest is first others xs args len =
    let zs : List JavaType = map (substitute xs) args in
    let a : substitute xs (substitute args t) ≡ substitute zs t = first xs args len in
    let b : map (substitute xs) (map (substitute args) rest) ≡ map (substitute zs) rest = others xs args len in
    let both : map (substitute xs) (map (substitute args) (t ∷ rest)) ≡ map (substitute zs) (t ∷ rest) = cc (a, b) in
    ap (λ us. map (substitute xs) (map (substitute args) us)) is ∙ both ∙ ap (map (substitute zs)) (sym is)
