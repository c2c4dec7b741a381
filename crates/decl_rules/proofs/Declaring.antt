-- The looks at declarations find the first of what breaks a DR rule.
use Rattle.std.proofs.Common.{◌≡◌, ℕ, ◌⊎◌, inl, inr, Bool, true, false, not, ◌&&◌, List, [], ◌∷◌, map, Option, Some, None, slice_get, refl, sym, ap, subst}
use Rattle.std.specs.Prelude.{◌≢◌, Contains, Decides, is_some, is_none, nat_eq, if◌then◌else◌}
use Rattle.std.proofs.lemmas.Bool.Decides.{Decides-and, Decides-or, Decides-not, Decides-like}
use Rattle.java_tree.specs.declared.tree.Name.{Name}
use Rattle.java_tree.specs.declared.tree.Mod.{Mod}
use Rattle.java_tree.specs.declared.tree.Mod.TheVariants as mods
use Rattle.java_tree.specs.Plain as t
use Rattle.rule_order.specs.declared.Breach.{Breach}
use Rattle.rule_order.specs.First.{Breaches, Either, IsFirst}
use Rattle.rule_order.specs.Noted.{At, SomeOf}
use Rattle.decl_rules.specs.Parts.{IsRepeat}
use Rattle.decl_rules.specs.DeclaredRules.{field_vars, RepeatsField, RepeatsTypeParameter, RepeatsParameter, IsMisnamed, type_mods, field_mods, member_mods, AreContradictory, AreWrong, HasWrongMods, IsWrongMember, IsAbstract, HasWrongBody, BreaksBody, LacksInit, TypeIsWrong, MemberIsWrong, BreaksDeclared}
use Rattle.rule_order.specs.Noted.{Adds, noted}
use Rattle.decl_rules.specs.Looks as look
use Rattle.decl_rules.specs.DeclaredLooks as spec
use Rattle.rule_order.proofs.Adding.{adds_nothing, adds_both, adds_alike, adds_noted, first_from_none}
use Rattle.rule_order.proofs.Lists.{in_none, in_first, in_rest, in_cases, some_none, some_more}
use Rattle.decl_rules.proofs.Deciding.{truth, falsity, name_decides, has_decides}
use Rattle.decl_rules.proofs.Repeating.{repeats_add, repeats_decide}

-- ---- modifiers

both_decides : (a b : Mod) (ms : List Mod) → Decides (spec.both a b ms) (Contains ms a × Contains ms b)
both_decides a b ms = Decides-and (look.has a ms) (look.has b ms) (has_decides a ms) (has_decides b ms)

contradict_decides : (ms : List Mod) → Decides (spec.contradict ms) (AreContradictory ms)
contradict_decides ms =
    Decides-or _ _ (both_decides mods.Public mods.Protected ms) (Decides-or _ _ (both_decides mods.Public mods.Private ms) (Decides-or _ _ (both_decides mods.Protected mods.Private ms)
    (Decides-or _ _ (both_decides mods.Abstract mods.Final ms) (Decides-or _ _ (both_decides mods.Abstract mods.Private ms) (both_decides mods.Abstract mods.Static ms)))))

other_decides : (allowed ms : List Mod) → Decides (spec.has_other allowed ms) ((m : Mod) × Contains ms m × (Contains allowed m → ⊥))
other_decides allowed [] = (λ e. absurd (cc e), λ h. absurd (in_none h.0 h.1))
other_decides allowed (m ∷ ms) =
    Decides-like _ to from (Decides-or (not (look.has m allowed)) (spec.has_other allowed ms) (Decides-not (look.has m allowed) (has_decides m allowed)) (other_decides allowed ms))
  where
    to : (Contains allowed m → ⊥) ⊎ ((x : Mod) × Contains ms x × (Contains allowed x → ⊥)) → (x : Mod) × Contains (m ∷ ms) x × (Contains allowed x → ⊥)
    to (inl u) = (m, in_first m ms, u)
    to (inr u) = (u.0, in_rest m u.0 ms u.1, u.2)

    from : (x : Mod) × Contains (m ∷ ms) x × (Contains allowed x → ⊥) → (Contains allowed m → ⊥) ⊎ ((x : Mod) × Contains ms x × (Contains allowed x → ⊥))
    from h = elim (in_cases m h.0 ms h.1) [ inl e ↦ inl (λ k. h.2 (subst (Contains allowed) (sym e) k)) | inr u ↦ inr (h.0, u, h.2) ]

wrong_decides : (allowed ms : List Mod) → Decides (spec.are_wrong allowed ms) (AreWrong allowed ms)
wrong_decides allowed ms = Decides-or (spec.repeats ms) _ (repeats_decide ms) (Decides-or (spec.contradict ms) (spec.has_other allowed ms) (contradict_decides ms) (other_decides allowed ms))

-- ---- bodies

there_decides : {A : Type 0} (o : Option A) → Decides (is_some o) (o ≢ None)
there_decides None = (λ e. absurd (cc e), λ f. absurd (f refl))
there_decides (Some x) = (λ e f. cc f, λ f. refl)

missing_decides : {A : Type 0} (o : Option A) → Decides (not (is_some o)) (o ≡ None)
missing_decides None = (λ e. refl, λ e. refl)
missing_decides (Some x) = (λ e. absurd (cc e), λ e. absurd (cc e))

none_decides : {A : Type 0} (o : Option A) → Decides (is_none o) (o ≡ None)
none_decides None = (λ e. refl, λ e. refl)
none_decides (Some x) = (λ e. absurd (cc e), λ e. absurd (cc e))

-- DR10 of the body o in an interface or not, of a method that is abstract if A holds, in a class that is abstract if N does
abbrev WrongBody : Bool → Type 0 → Type 0 → Option t.Stmt → Type 0
WrongBody i A N o =
    ((i ≡ true) × (o ≢ None)) ⊎ ((i ≡ false) × A × (o ≢ None)) ⊎ ((i ≡ false) × (A → ⊥) × (o ≡ None)) ⊎ ((i ≡ false) × A × (N → ⊥))

wrong_body : (A N : Type 0) (o : Option t.Stmt) (i n a : Bool) → Decides a A → Decides n N → Decides (spec.wrong_body i n a (is_some o)) (WrongBody i A N o)
wrong_body A N o true n a da dn = Decides-like _ to from (there_decides o)
  where
    to : (o ≢ None) → WrongBody true A N o
    to h = inl (refl, h)

    from : WrongBody true A N o → (o ≢ None)
    from (inl u) = u.1
    from (inr (inl u)) = absurd (let e = u.0 in cc e)
    from (inr (inr (inl u))) = absurd (let e = u.0 in cc e)
    from (inr (inr (inr u))) = absurd (let e = u.0 in cc e)
wrong_body A N o false n true da dn = Decides-like _ to from (Decides-or (is_some o) (not n) (there_decides o) (Decides-not n dn))
  where
    is : A
    is = da.0 refl

    to : (o ≢ None) ⊎ (N → ⊥) → WrongBody false A N o
    to (inl u) = inr (inl (refl, is, u))
    to (inr u) = inr (inr (inr (refl, is, u)))

    from : WrongBody false A N o → (o ≢ None) ⊎ (N → ⊥)
    from (inl u) = absurd (let e = u.0 in cc e)
    from (inr (inl u)) = inl u.2
    from (inr (inr (inl u))) = absurd (u.1 is)
    from (inr (inr (inr u))) = inr u.2
wrong_body A N o false n false da dn = Decides-like _ to from (missing_decides o)
  where
    is_not : A → ⊥
    is_not h = let e = da.1 h in cc e

    to : (o ≡ None) → WrongBody false A N o
    to h = inr (inr (inl (refl, is_not, h)))

    from : WrongBody false A N o → (o ≡ None)
    from (inl u) = absurd (let e = u.0 in cc e)
    from (inr (inl u)) = absurd (is_not u.1)
    from (inr (inr (inl u))) = u.2
    from (inr (inr (inr u))) = absurd (is_not u.1)

body_decides : (d : t.TypeDecl) (m : t.MethodDecl) → Decides (spec.wrong_body d.interface (look.has mods.Abstract d.mods) (spec.is_abstract m) (is_some m.body)) (HasWrongBody d m)
body_decides d m =
    wrong_body (IsAbstract m) (Contains d.mods mods.Abstract) m.body d.interface (look.has mods.Abstract d.mods) (spec.is_abstract m)
    (Decides-and (not m.constructor) (look.has mods.Abstract m.mods) (falsity m.constructor) (has_decides mods.Abstract m.mods)) (has_decides mods.Abstract d.mods)

-- ---- names

misnamed_decides : (d : t.TypeDecl) (m : t.MethodDecl) → Decides (m.constructor && not (nat_eq m.name.0 d.name.0)) ((m.constructor ≡ true) × (m.name ≢ d.name))
misnamed_decides d m = Decides-and m.constructor _ (truth m.constructor) (Decides-not (nat_eq m.name.0 d.name.0) (name_decides m.name d.name))

map_same : {A : Type 0} (xs : List A) → map (λ x. x) xs ≡ xs
map_same [] = refl
map_same (x ∷ xs) = ap (λ l. x ∷ l) (map_same xs)

type_parameters : (d : t.TypeDecl) (a : Option Breach) → Adds (RepeatsTypeParameter d) a (spec.again 8 [] (map (spec.named_at d.node) d.params) a)
type_parameters d a =
    adds_alike (λ b. (j : ℕ) × (x : Name) × (slice_get d.params j ≡ Some x) × At 8 d.node (IsRepeat (map (λ x. x) d.params) j) b) (RepeatsTypeParameter d) a _ (λ b. (to b, from b))
    (repeats_add (λ (x : Name). x) (λ (x : Name). d.node) 8 d.params a)
  where
    to : (b : Breach) → (j : ℕ) × (x : Name) × (slice_get d.params j ≡ Some x) × At 8 d.node (IsRepeat (map (λ x. x) d.params) j) b → RepeatsTypeParameter d b
    to b h = (h.3.0, h.3.1, (h.0, subst (λ (l : List Name). IsRepeat l h.0) (map_same d.params) h.3.2))

    from : (b : Breach) → RepeatsTypeParameter d b → (j : ℕ) × (x : Name) × (slice_get d.params j ≡ Some x) × At 8 d.node (IsRepeat (map (λ x. x) d.params) j) b
    from b h = (h.2.0, h.2.1.1, h.2.1.4, (h.0, h.1, subst (λ (l : List Name). IsRepeat l h.2.0) (sym (map_same d.params)) h.2.1))

-- ---- DR12, on fields

abbrev Lacking : Type 0 → t.Var → Breaches
Lacking I v = At 12 v.node (I × (v.init ≡ None))

lacking_vars : (I : Type 0) → I → (vs : List t.Var) (a : Option Breach) → Adds (SomeOf vs (Lacking I)) a (spec.lacking_vars vs a)
lacking_vars I is [] a = some_none (Lacking I) a
lacking_vars I is (v ∷ vs) a =
    let m = noted a 12 v.node (is_none v.init) in
    some_more (Lacking I) v vs a m (spec.lacking_vars vs m)
    (adds_noted 12 v.node _ (is_none v.init) a (Decides-like _ (λ e. (is, e)) (λ h. h.1) (none_decides v.init))) (lacking_vars I is vs m)

lacking : (I : Type 0) (i : Bool) → Decides i I → (vs : List t.Var) (a : Option Breach) → Adds (SomeOf vs (Lacking I)) a (if i then spec.lacking_vars vs a else a)
lacking I true d vs a = lacking_vars I (d.0 refl) vs a
lacking I false d vs a = adds_nothing (SomeOf vs (Lacking I)) a (λ b h. absurd (let e = d.1 h.2.2.0 in cc e))

-- ---- members, types, files

member_adds : (d : t.TypeDecl) (m : t.Member) (a : Option Breach) → Adds (MemberIsWrong d m) a (spec.wrong_member d m a)
member_adds d (t.AField f) a =
    let m = t.AField f in
    let i = noted a 9 f.node (spec.are_wrong (field_mods d.interface) f.mods) in
    let r = if d.interface then spec.lacking_vars f.vars i else i in
    adds_both (RepeatsParameter m) (Either (IsWrongMember d m) (Either (BreaksBody d m) (Either (IsMisnamed d m) (LacksInit d m)))) a a r (adds_nothing (RepeatsParameter m) a (λ b h. h))
    (adds_both (IsWrongMember d m) (Either (BreaksBody d m) (Either (IsMisnamed d m) (LacksInit d m))) a i r (adds_noted 9 f.node _ _ a (wrong_decides (field_mods d.interface) f.mods))
    (adds_both (BreaksBody d m) (Either (IsMisnamed d m) (LacksInit d m)) i i r (adds_nothing (BreaksBody d m) i (λ b h. h))
    (adds_both (IsMisnamed d m) (LacksInit d m) i i r (adds_nothing (IsMisnamed d m) i (λ b h. h)) (lacking (d.interface ≡ true) d.interface (truth d.interface) f.vars i))))
member_adds d (t.AMethod x) a =
    let m = t.AMethod x in
    let i = spec.again 8 [] (map spec.named_param x.params) a in
    let j = noted i 9 x.node (spec.are_wrong (member_mods d.interface m) x.mods) in
    let k = noted j 10 x.node (spec.wrong_body d.interface (look.has mods.Abstract d.mods) (spec.is_abstract x) (is_some x.body)) in
    let r = noted k 11 x.node (x.constructor && not (nat_eq x.name.0 d.name.0)) in
    adds_both (RepeatsParameter m) (Either (IsWrongMember d m) (Either (BreaksBody d m) (Either (IsMisnamed d m) (LacksInit d m)))) a i r
    (repeats_add (λ (p : t.Param). p.name) (λ (p : t.Param). p.node) 8 x.params a)
    (adds_both (IsWrongMember d m) (Either (BreaksBody d m) (Either (IsMisnamed d m) (LacksInit d m))) i j r (adds_noted 9 x.node _ _ i (wrong_decides (member_mods d.interface m) x.mods))
    (adds_both (BreaksBody d m) (Either (IsMisnamed d m) (LacksInit d m)) j k r (adds_noted 10 x.node _ _ j (body_decides d x))
    (adds_both (IsMisnamed d m) (LacksInit d m) k r r (adds_noted 11 x.node _ _ k (misnamed_decides d x)) (adds_nothing (LacksInit d m) r (λ b h. h)))))

members_add : (d : t.TypeDecl) (ms : List t.Member) (a : Option Breach) → Adds (SomeOf ms (MemberIsWrong d)) a (spec.wrong_members d ms a)
members_add d [] a = some_none (MemberIsWrong d) a
members_add d (m ∷ ms) a =
    let i = spec.wrong_member d m a in
    some_more (MemberIsWrong d) m ms a i (spec.wrong_members d ms i) (member_adds d m a) (members_add d ms i)

abbrev Wrong : t.TypeDecl → Breaches
Wrong d = Either (TypeIsWrong d) (SomeOf d.members (MemberIsWrong d))

type_adds : (d : t.TypeDecl) (a : Option Breach) → Adds (Wrong d) a (spec.wrong_type d a)
type_adds d a =
    let i = spec.again 5 [] (map spec.named_var (field_vars d.members)) a in
    let j = spec.again 8 [] (map (spec.named_at d.node) d.params) i in
    let k = noted j 9 d.node (spec.are_wrong (type_mods d.interface) d.mods) in
    adds_both (TypeIsWrong d) (SomeOf d.members (MemberIsWrong d)) a k (spec.wrong_members d d.members k)
    (adds_both (RepeatsField d) (Either (RepeatsTypeParameter d) (HasWrongMods d)) a i k
    (repeats_add (λ (v : t.Var). v.name) (λ (v : t.Var). v.node) 5 (field_vars d.members) a)
    (adds_both (RepeatsTypeParameter d) (HasWrongMods d) i j k (type_parameters d i) (adds_noted 9 d.node _ _ j (wrong_decides (type_mods d.interface) d.mods))))
    (members_add d d.members k)

types_add : (ds : List t.TypeDecl) (a : Option Breach) → Adds (SomeOf ds Wrong) a (spec.wrong_types ds a)
types_add [] a = some_none Wrong a
types_add (d ∷ ds) a =
    let i = spec.wrong_type d a in
    some_more Wrong d ds a i (spec.wrong_types ds i) (type_adds d a) (types_add ds i)

pub declared_first : (u : t.SourceUnit) (r : Option Breach) → r ≡ spec.wrong_types u.types None → IsFirst (BreaksDeclared u) r
declared_first u r is = subst (IsFirst (BreaksDeclared u)) (sym is) (first_from_none (BreaksDeclared u) (spec.wrong_types u.types None) (types_add u.types None))
