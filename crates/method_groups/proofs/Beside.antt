-- What stands beside what, and groups.
use Rattle.std.proofs.Common.{◌≡◌, ℕ, ◌<◌, true, false, Some, ◌⊎◌, inl, inr, ◌↔◌, List, refl, sym, ap, ◌∙◌, subst, length}
use Rattle.std.specs.Prelude.{slice_get}
use Rattle.std.specs.List.{Contains}
use Rattle.std.proofs.lemmas.Option.{slice_get_within}
use Rattle.java_tree.specs.declared.tree.Name.{Name}
use Rattle.class_world.specs.declared.world.World.{World}
use Rattle.class_world.specs.declared.world.MethodInfo.{MethodInfo}
use Rattle.class_world.specs.Signatures.{IsMethod}
use Rattle.class_world.specs.Inheritance.{IsMemberMethod, declared, inherited, IsMethodNamed, IsGrouped, itself, beside, constructors}
use Rattle.class_world.specs.Inheritance.{IsDirectlyAbove}
use Rattle.member_methods.specs.Methods.{AreNamed}
use Rattle.method_groups.specs.declared.constructors.Shape.{Shape}
use Rattle.method_groups.specs.Beside.{AreBeside, AreAlike}
use Rattle.method_groups.specs.Constructors.{IsConstructor, shape_of}

-- a method's entry is one
pub one_info : (w : World) (m : ℕ) (i j : MethodInfo) → slice_get w.methods m ≡ Some i → slice_get w.methods m ≡ Some j → i ≡ j
one_info w m i j at is = let both : Some i ≡ Some j = sym at ∙ is in cc both

-- the name and the number of parameters are the method's
named_so : (w : World) (c m : ℕ) (n : Name) (arity : ℕ) (info : MethodInfo) → IsMethodNamed w c n arity m → slice_get w.methods m ≡ Some info → (info.name ≡ n) × (length info.params ≡ arity)
named_so w c m n arity info h at =
    let same = one_info w m info h.1.0 at h.1.1.0 in (ap (λ (i : MethodInfo). i.name) same ∙ h.1.2, ap (λ (i : MethodInfo). length i.params) same ∙ h.1.3)

pub member_first : (w : World) (c m k : ℕ) → AreBeside w c m k → IsMemberMethod w c m
member_first w c m k h = h.2.0

pub beside_self : (w : World) (c m : ℕ) (info : MethodInfo) → IsMemberMethod w c m → IsMethod w m info → AreBeside w c m m
beside_self w c m info member is = let named : IsMethodNamed w c info.name (length info.params) m = (member, (info, is, refl, refl)) in (info.name, length info.params, named, named)

pub beside_first : (w : World) (c m k : ℕ) → AreBeside w c m k → AreBeside w c m m
beside_first w c m k h = (h.0, h.1, h.2, h.2)

pub beside_turned : (w : World) (c m k : ℕ) → AreBeside w c m k → AreBeside w c k m
beside_turned w c m k h = (h.0, h.1, h.3, h.2)

-- two beside a third
pub beside_both : (w : World) (c f m k : ℕ) → AreBeside w c f m → AreBeside w c f k → AreBeside w c m k
beside_both w c f m k g h =
    let its = g.2.1 in
    let one = named_so w c f g.0 g.1 its.0 g.2 its.1.0 in
    let two = named_so w c f h.0 h.1 its.0 h.2 its.1.0 in
    let name : h.0 ≡ g.0 = sym two.0 ∙ one.0 in
    let arity : h.1 ≡ g.1 = sym two.1 ∙ one.1 in
    (g.0, g.1, g.3, subst (λ n. IsMethodNamed w c n g.1 k) name (subst (λ a. IsMethodNamed w c h.0 a k) arity h.3))

pub beside_grouped : (w : World) (c f m k : ℕ) → AreBeside w c f m → AreBeside w c f k → IsGrouped w m k
beside_grouped w c f m k g h = let both = beside_both w c f m k g h in beside both.2 both.3

-- members that are alike
pub alike_beside : (w : World) (c m k : ℕ) (i : MethodInfo) → IsMemberMethod w c m → IsMethod w m i → AreAlike w m k → AreBeside w c k k → AreBeside w c m k
alike_beside w c m k i member is alike its =
    let here = one_info w m i alike.0 is.0 alike.2 in
    let there = named_so w c k its.0 its.1 alike.1 its.2 alike.3 in
    let name : i.name ≡ its.0 = ap (λ (x : MethodInfo). x.name) here ∙ alike.4 ∙ there.0 in
    let arity : length i.params ≡ its.1 = ap (λ (x : MethodInfo). length x.params) here ∙ alike.5 ∙ there.1 in
    (its.0, its.1, (member, (i, is, name, arity)), its.2)

-- each member is a method
pub member_is : (w : World) (c m : ℕ) → IsMemberMethod w c m → (info : MethodInfo) × IsMethod w m info
member_is w c m (declared d) = (d.0, d.1)
member_is w c m (inherited above member public kept) = member_is w _ m member

pub member_beside : (w : World) (c m : ℕ) → IsMemberMethod w c m → AreBeside w c m m
member_beside w c m member = let is = member_is w c m member in beside_self w c m is.0 member is.1

pub beside_within : (w : World) (c m k : ℕ) → AreBeside w c m k → k < length w.methods
beside_within w c m k h = slice_get_within w.methods k h.3.1.0 h.3.1.1.0

-- the list of a method's name and number of parameters
pub list_told : (w : World) (c f : ℕ) (info : MethodInfo) (list : List ℕ) → slice_get w.methods f ≡ Some info → AreNamed w c info.name (length info.params) list → AreBeside w c f f
    → (k : ℕ) → Contains list k ↔ AreBeside w c f k
list_told w c f info list at named its k =
    let one = named_so w c f its.0 its.1 info its.2 at in
    let here : IsMethodNamed w c info.name (length info.params) f = subst (λ n. IsMethodNamed w c n (length info.params) f) (sym one.0) (subst (λ a. IsMethodNamed w c its.0 a f) (sym one.1) its.2) in (
      λ h. (info.name, length info.params, here, (named.0 k).0 h),
      λ h.
          let two = named_so w c f h.0 h.1 info h.2 at in
          (named.0 k).1 (subst (λ n. IsMethodNamed w c n (length info.params) k) (sym two.0) (subst (λ a. IsMethodNamed w c h.0 a k) (sym two.1) h.3)),
    )

-- a method's group: itself, and what is beside it
pub grouped_cases : (w : World) (m k : ℕ) (info : MethodInfo) → IsMethod w m info → IsGrouped w m k → (c : ℕ) × AreBeside w c m k
grouped_cases w m k info is itself = (info.owner, beside_self w info.owner m info (declared (info, is, refl)) is)
grouped_cases w m k info is (beside {c = c} {arity = arity} {n = n} here there) = (c, (n, arity, here, there))
grouped_cases w m k info is (constructors at there makes also owner arity) =
    let same = one_info w m _ info at is.0 in
    let never : true ≡ false = sym makes ∙ ap (λ (i : MethodInfo). i.constructor) same ∙ is.1 in
    absurd (cc never)

-- a constructor's group

shape_same : (i j : MethodInfo) → i.owner ≡ j.owner → length i.params ≡ length j.params → shape_of i ≡ shape_of j
shape_same i j owner arity =
    ap (λ x. (λ (r : Shape). r) (record { owner = x; arity = length i.params })) owner ∙ ap (λ x. (λ (r : Shape). r) (record { owner = j.owner; arity = x })) arity

pub constructor_group : (w : World) (m k : ℕ) (info : MethodInfo) → slice_get w.methods m ≡ Some info → info.constructor ≡ true → IsConstructor w (shape_of info) k ↔ IsGrouped w m k
constructor_group w m k info at makes = (λ h. to h, λ h. from k h)
  where
    to : IsConstructor w (shape_of info) k → IsGrouped w m k
    to h = constructors at h.1 makes h.2 (ap (λ s. s.owner) (sym h.3)) (ap (λ s. s.arity) (sym h.3))

    from : (k : ℕ) → IsGrouped w m k → IsConstructor w (shape_of info) k
    from k itself = (info, at, makes, refl)
    from k (beside here there) =
        let same = one_info w m info here.1.0 at here.1.1.0 in
        let never : true ≡ false = sym makes ∙ ap (λ (i : MethodInfo). i.constructor) same ∙ here.1.1.1 in
        absurd (cc never)
    from k (constructors {i = i} {j = j} is there one also owner arity) =
        let same = one_info w m i info is at in
        (j, there, also, shape_same j info (sym owner ∙ ap (λ (x : MethodInfo). x.owner) same) (sym arity ∙ ap (λ (x : MethodInfo). length x.params) same))

-- where a type has members, it is one of the world, or a method's owner
pub holder_known : (w : World) (c m : ℕ) → IsMemberMethod w c m → (c < length w.types) ⊎ ((info : MethodInfo) × (slice_get w.methods m ≡ Some info) × (info.owner ≡ c))
holder_known w c m (declared d) = inr (d.0, d.1.0, d.2)
holder_known w c m (inherited above member public kept) = inl (known above)
  where
    known : {s : ℕ} → IsDirectlyAbove w c s → c < length w.types
    known (inl d) = slice_get_within w.types c d.1.0 d.1.1
    known (inr o) = slice_get_within w.types c o.1.0 o.1.1
