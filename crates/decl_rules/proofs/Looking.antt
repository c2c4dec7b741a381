-- The looks at declarations find the first of what they break.
use Rattle.std.proofs.Common.{◌≡◌, ℕ, Bool, true, false, not, ◌&&◌, ◌||◌, List, [], ◌∷◌, Option, Some, None, refl}
use Rattle.std.specs.Prelude.{◌≢◌, Contains, Decides, if◌then◌else◌}
use Rattle.std.proofs.lemmas.Bool.Decides.{Decides-and, Decides-or}
use Rattle.java_tree.specs.declared.tree.Name.{Name}
use Rattle.java_tree.specs.declared.tree.Mod.{Mod}
use Rattle.java_tree.specs.declared.tree.Mod.TheVariants as mods
use Rattle.java_tree.specs.Plain as t
use Rattle.rule_order.specs.declared.Breach.{Breach}
use Rattle.rule_order.specs.First.{Breaches, Either, IsFirst}
use Rattle.rule_order.specs.Noted.{At, SomeOf}
use Rattle.decl_rules.specs.PlainRules.{TypeBreaks, IsProtected, TakesName, MemberBreaks, WrittenBreaks, BreaksPlain}
use Rattle.rule_order.specs.Noted.{Adds, noted}
use Rattle.decl_rules.specs.Walk as walk
use Rattle.decl_rules.specs.Looks as spec
use Rattle.rule_order.proofs.Adding.{adds_nothing, adds_both, adds_noted, first_from_none}
use Rattle.rule_order.proofs.Lists.{some_none, some_more}
use Rattle.decl_rules.proofs.Walking.{file_adds}
use Rattle.decl_rules.proofs.Deciding.{truth, falsity, some_decides, has_decides, takes_decides}

protected_decides : (user : Bool) (ms : List Mod) → Decides (not user && spec.has mods.Protected ms) ((user ≡ false) × Contains ms mods.Protected)
protected_decides user ms = Decides-and (not user) (spec.has mods.Protected ms) (falsity user) (has_decides mods.Protected ms)

plain_member_adds : (user : Bool) (names : List (List ℕ)) (d : t.TypeDecl) (m : t.Member) (a : Option Breach) → Adds (MemberBreaks user names d m) a (spec.plain_member user names d m a)
plain_member_adds user names d (t.AField f) a =
    let member = t.AField f in
    let j = noted a 18 f.node (not user && spec.has mods.Protected f.mods) in
    adds_both (IsProtected user member) (TakesName names member) a j j (adds_noted 18 f.node _ _ a (protected_decides user f.mods)) (adds_nothing (TakesName names member) j (λ b h. h))
plain_member_adds user names d (t.AMethod m) a =
    let member = t.AMethod m in
    let i = noted a 18 m.node (not user && spec.has mods.Protected m.mods) in
    let j = noted i 19 m.node (spec.takes_name names m) in
    adds_both (IsProtected user member) (TakesName names member) a i j (adds_noted 18 m.node _ _ a (protected_decides user m.mods))
    (adds_noted 19 m.node _ (spec.takes_name names m) i (takes_decides names m))

plain_members_add : (user : Bool) (names : List (List ℕ)) (d : t.TypeDecl) (ms : List t.Member) (a : Option Breach)
    → Adds (SomeOf ms (MemberBreaks user names d)) a (spec.plain_members user names d ms a)
plain_members_add user names d [] a = some_none (MemberBreaks user names d) a
plain_members_add user names d (m ∷ ms) a =
    let i = spec.plain_member user names d m a in
    some_more (MemberBreaks user names d) m ms a i (spec.plain_members user names d ms i) (plain_member_adds user names d m a) (plain_members_add user names d ms i)

abbrev PlainOf : (user : Bool) → List (List ℕ) → t.TypeDecl → Breaches
PlainOf user names d = Either (TypeBreaks user d) (SomeOf d.members (MemberBreaks user names d))

plain_type_adds : (user : Bool) (names : List (List ℕ)) (d : t.TypeDecl) (a : Option Breach) → Adds (PlainOf user names d) a (spec.plain_type user names d a)
plain_type_adds user names d a =
    let i = noted a 10 d.node (user && not (spec.is_nil d.params)) in
    let j = noted i 18 d.node (not user && spec.has mods.Protected d.mods) in
    let generic = At 10 d.node ((user ≡ true) × (d.params ≢ [])) in
    let protected = At 18 d.node ((user ≡ false) × Contains d.mods mods.Protected) in
    adds_both (TypeBreaks user d) (SomeOf d.members (MemberBreaks user names d)) a j (spec.plain_members user names d d.members j)
    (adds_both generic protected a i j
    (adds_noted 10 d.node _ _ a (Decides-and user (not (spec.is_nil d.params)) (truth user) (some_decides d.params)))
    (adds_noted 18 d.node _ _ i (protected_decides user d.mods)))
    (plain_members_add user names d d.members j)

plain_types_add : (user : Bool) (names : List (List ℕ)) (ds : List t.TypeDecl) (a : Option Breach) → Adds (SomeOf ds (PlainOf user names)) a (spec.plain_types user names ds a)
plain_types_add user names [] a = some_none (PlainOf user names) a
plain_types_add user names (d ∷ ds) a =
    let i = spec.plain_type user names d a in
    some_more (PlainOf user names) d ds a i (spec.plain_types user names ds i) (plain_type_adds user names d a) (plain_types_add user names ds i)

-- the walk, and then the looks
pub plain_first : (u : t.SourceUnit) (user : Bool) (names : List (List ℕ)) (generic : Name → Bool)
    → IsFirst (BreaksPlain u user names generic) (spec.plain_types user names u.types (walk.decls generic u.types None))
plain_first u user names generic =
    let i = walk.decls generic u.types None in
    let r = spec.plain_types user names u.types i in
    first_from_none (BreaksPlain u user names generic) r
    (adds_both (WrittenBreaks u generic) (SomeOf u.types (PlainOf user names)) None i r (file_adds generic u None) (plain_types_add user names u.types i))
