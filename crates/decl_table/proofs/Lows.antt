-- No built-in type is below a parameterized type.
use Rattle.std.proofs.Common.{◌≡◌, ℕ, ◌<◌, List, [], Some, inl, inr, refl, sym, ap, ◌∙◌, subst, arith}
use Rattle.std.specs.Prelude.{slice_get}
use Rattle.class_world.specs.declared.world.World.{World}
use Rattle.class_world.specs.declared.world.TypeInfo.{TypeInfo}
use Rattle.class_world.specs.declared.world.JavaType.{JavaType}
use Rattle.class_world.specs.declared.world.JavaType.TheVariants as ty
use Rattle.class_world.specs.Types.{substitute, with_own}
use Rattle.class_world.specs.Subtypes.{Subtype, same, through, declared, object, raw, null, arrays, char_int, int_long, IsSeenAs}
use Rattle.class_world.specs.Ordered.{IsClassBelowTwo}
use Rattle.class_world.proofs.Forms.{class_kind, array_kind, same_class}
use Rattle.class_world.proofs.Substs.{put_class}
use Rattle.decl_table.specs.Bases.{AreBases}
use Rattle.decl_table.proofs.Fitting.{get_there}
use Rattle.decl_table.proofs.Facts.{one_there}

-- the built-in types come first in the world
abbrev pub BeginsWith : List TypeInfo → World → Type 0
BeginsWith built w = (c : ℕ) (info : TypeInfo) → slice_get built c ≡ Some info → slice_get w.types c ≡ Some info

abbrev IsLow : JavaType → Type 0
IsLow t = (p : ℕ) × (p < 19) × (t ≡ ty.Class p [])

-- what a base's declared supertype is seen as
seen_low : (n : ℕ) (d t : JavaType) → n ≡ 0 → IsLow d → IsSeenAs n [] d t → IsLow t
seen_low n d t none low (inr (bare, some, is)) = absurd (omega (arith, none, some))
seen_low n d t none low (inl (count, is)) = (low.0, low.1, is ∙ ap (substitute []) low.2 ∙ put_class [] low.0 [])

up_low : (built : List TypeInfo) (w : World) → AreBases built → BeginsWith built w → (s t : JavaType) → Subtype w s t → (c : ℕ) → c < 19 → s ≡ ty.Class c [] → IsLow t
up_low built w bases front s t same c lt e = (c, lt, e)
up_low built w bases front s t (through {m = m} first rest) c lt e =
    let mid = up_low built w bases front s m first c lt e in
    up_low built w bases front m t rest mid.0 mid.1 mid.2
up_low built w bases front s t (declared {c = d} {args = args} (info, at, sup, k, there, seen)) c lt e =
    let is = same_class d c args [] e in
    let base = get_there built c (omega (arith, lt, bases.count)) in
    let own = bases.each c base.0 base.1 in
    let one : info ≡ base.0 = one_there (slice_get w.types c) info base.0 (subst (λ n. slice_get w.types n ≡ Some info) is.0 at) (front c base.0 base.1) in
    let low = own.1 k sup (ap (λ (i : TypeInfo). slice_get i.supers k) (sym one) ∙ there) in
    seen_low info.params sup t (ap (λ (i : TypeInfo). i.params) one ∙ own.0) (low.0, omega (arith, low.1, lt), low.2) (subst (λ xs. IsSeenAs info.params xs sup t) is.1 seen)
up_low built w bases front s t (object refers) c lt e = (0, omega arith, refl)
up_low built w bases front s t (raw d args) c lt e = let is = same_class d c args [] e in (d, omega (arith, is.0, lt), refl)
up_low built w bases front s t (null refers) c lt e = absurd (cc e)
up_low built w bases front s t (arrays {s = x} f g h) c lt e = absurd (cc (array_kind x, class_kind c [], e))
up_low built w bases front s t char_int c lt e = absurd (cc e)
up_low built w bases front s t int_long c lt e = absurd (cc e)

pub not_below_two : (built : List TypeInfo) (w : World) → AreBases built → BeginsWith built w → (c : ℕ) → c < 19 → IsClassBelowTwo w c → ⊥
not_below_two built w bases front c lt (info, at, g, (t, u, (args, is, some), other, up, below, apart)) =
    let base = get_there built c (omega (arith, lt, bases.count)) in
    let one : info ≡ base.0 = one_there (slice_get w.types c) info base.0 at (front c base.0 base.1) in
    let none : info.params ≡ 0 = ap (λ (i : TypeInfo). i.params) one ∙ (bases.each c base.0 base.1).0 in
    let low = up_low built w bases front (with_own c info.params) t up c lt (ap (with_own c) none) in
    some (sym (same_class low.0 g [] args (sym low.2 ∙ is)).1)
