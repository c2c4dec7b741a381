-- What the looks at declarations answer for the S rules, likewise: the first broken rule so far goes in, and the first one behind the declaration comes out.
use Rattle.std.specs.Prelude.{ℕ, Bool, true, false, not, ◌&&◌, ◌||◌, List, [], ◌∷◌, Option, Some, None, codes, slice_get, if◌then◌else◌}
use Rattle.std.specs.List.{list_any}
use Rattle.std.specs.Str.{bytes_eq}
use Rattle.java_tree.specs.declared.tree.Mod.{Mod}
use Rattle.java_tree.specs.declared.tree.Mod.TheVariants as mods
use Rattle.java_tree.specs.Plain as t
use Rattle.java_tree.specs.Plain.{TypeDecl, MethodDecl, Member}
use Rattle.decl_rules.specs.PlainRules.{left_out_names}
use Rattle.rule_order.specs.Noted.{noted}
use Rattle.decl_rules.specs.Walk.{Walk}

abbrev pub same : Mod → Mod → Bool
same mods.Public mods.Public = true
same mods.Protected mods.Protected = true
same mods.Private mods.Private = true
same mods.Static mods.Static = true
same mods.Abstract mods.Abstract = true
same mods.Final mods.Final = true
same _ _ = false

abbrev pub has : Mod → List Mod → Bool
has m xs = list_any (λ x. same x m) xs

abbrev pub is_nil : {A : Type 0} → List A → Bool
is_nil [] = true
is_nil (x ∷ xs) = false

-- ---- S19

abbrev pub is_left_out : (alone : Bool) → Option (List ℕ) → Bool
is_left_out alone None = false
is_left_out alone (Some text) = bytes_eq text (codes "wait") || (alone && list_any (bytes_eq text) left_out_names)

abbrev pub takes_name : List (List ℕ) → MethodDecl → Bool
takes_name names m = not m.constructor && is_left_out (is_nil m.params) (slice_get names m.name.0)

-- ---- S10, S18, S19

abbrev pub plain_member : (user : Bool) → List (List ℕ) → TypeDecl → Walk Member
plain_member user names d (t.AField f) a = noted a 18 f.node (not user && has mods.Protected f.mods)
plain_member user names d (t.AMethod m) a = noted (noted a 18 m.node (not user && has mods.Protected m.mods)) 19 m.node (takes_name names m)

abbrev pub plain_members : (user : Bool) → List (List ℕ) → TypeDecl → Walk (List Member)
plain_members user names d [] a = a
plain_members user names d (m ∷ ms) a = plain_members user names d ms (plain_member user names d m a)

abbrev pub plain_type : (user : Bool) → List (List ℕ) → Walk TypeDecl
plain_type user names d a =
    plain_members user names d d.members (noted (noted a 10 d.node (user && not (is_nil d.params))) 18 d.node (not user && has mods.Protected d.mods))

abbrev pub plain_types : (user : Bool) → List (List ℕ) → Walk (List TypeDecl)
plain_types user names [] a = a
plain_types user names (d ∷ ds) a = plain_types user names ds (plain_type user names d a)
