-- What the looks at declarations answer for the DR rules, likewise.
use Rattle.std.specs.Prelude.{ℕ, Bool, false, not, ◌&&◌, ◌||◌, List, [], ◌∷◌, map, is_some, is_none, nat_eq, if◌then◌else◌}
use Rattle.std.specs.List.{list_any}
use Rattle.indexmap.specs.IndexSet.{insert_key}
use Rattle.java_tree.specs.declared.tree.Name.{Name}
use Rattle.java_tree.specs.declared.tree.Node.{Node}
use Rattle.java_tree.specs.declared.tree.Mod.{Mod}
use Rattle.java_tree.specs.declared.tree.Mod.TheVariants as mods
use Rattle.java_tree.specs.Plain as t
use Rattle.java_tree.specs.Plain.{TypeDecl, MethodDecl, Member, Var, Param}
use Rattle.decl_rules.specs.declared.repeats.Named.{Named}
use Rattle.decl_rules.specs.DeclaredRules.{field_vars, type_mods, field_mods, member_mods}
use Rattle.rule_order.specs.Noted.{noted}
use Rattle.decl_rules.specs.Walk.{Walk}
use Rattle.decl_rules.specs.Looks.{has}

-- ---- names

abbrev pub named_var : Var → Named
named_var v = record { name = v.name; node = v.node }

abbrev pub named_param : Param → Named
named_param p = record { name = p.name; node = p.node }

abbrev pub named_at : Node → Name → Named
named_at node x = record { name = x; node = node }

-- the rule is broken at each name that is among those seen
abbrev pub again : (rule : ℕ) → (seen : List ℕ) → Walk (List Named)
again rule seen [] a = a
again rule seen (x ∷ xs) a = again rule (insert_key nat_eq seen x.name.0) xs (noted a rule x.node (list_any (nat_eq x.name.0) seen))

-- ---- modifiers

abbrev pub repeats : List Mod → Bool
repeats [] = false
repeats (m ∷ ms) = has m ms || repeats ms

abbrev pub both : Mod → Mod → List Mod → Bool
both a b ms = has a ms && has b ms

abbrev pub contradict : List Mod → Bool
contradict ms =
    both mods.Public mods.Protected ms || (both mods.Public mods.Private ms || (both mods.Protected mods.Private ms
    || (both mods.Abstract mods.Final ms || (both mods.Abstract mods.Private ms || both mods.Abstract mods.Static ms))))

abbrev pub has_other : (allowed : List Mod) → List Mod → Bool
has_other allowed [] = false
has_other allowed (m ∷ ms) = not (has m allowed) || has_other allowed ms

abbrev pub are_wrong : (allowed : List Mod) → List Mod → Bool
are_wrong allowed ms = repeats ms || (contradict ms || has_other allowed ms)

-- ---- bodies

abbrev pub is_abstract : MethodDecl → Bool
is_abstract m = not m.constructor && has mods.Abstract m.mods

-- whether a body breaks DR10: in an interface, in a class that is abstract, of an abstract method, there
abbrev pub wrong_body : (interface in_abstract abstract there : Bool) → Bool
wrong_body interface in_abstract abstract there = if interface then there else (if abstract then there || not in_abstract else not there)

abbrev pub lacking_vars : Walk (List Var)
lacking_vars [] a = a
lacking_vars (v ∷ vs) a = lacking_vars vs (noted a 12 v.node (is_none v.init))

-- ---- members, types and files

abbrev pub wrong_member : TypeDecl → Walk Member
wrong_member d (t.AField f) a =
    (if d.interface then lacking_vars f.vars (noted a 9 f.node (are_wrong (field_mods d.interface) f.mods)) else noted a 9 f.node (are_wrong (field_mods d.interface) f.mods))
wrong_member d (t.AMethod m) a =
    noted
    (noted (noted (again 8 [] (map named_param m.params) a) 9 m.node (are_wrong (member_mods d.interface (t.AMethod m)) m.mods)) 10 m.node
    (wrong_body d.interface (has mods.Abstract d.mods) (is_abstract m) (is_some m.body)))
    11 m.node (m.constructor && not (nat_eq m.name.0 d.name.0))

abbrev pub wrong_members : TypeDecl → Walk (List Member)
wrong_members d [] a = a
wrong_members d (m ∷ ms) a = wrong_members d ms (wrong_member d m a)

abbrev pub wrong_type : Walk TypeDecl
wrong_type d a =
    wrong_members d d.members
    (noted (again 8 [] (map (named_at d.node) d.params) (again 5 [] (map named_var (field_vars d.members)) a)) 9 d.node (are_wrong (type_mods d.interface) d.mods))

abbrev pub wrong_types : Walk (List TypeDecl)
wrong_types [] a = a
wrong_types (d ∷ ds) a = wrong_types ds (wrong_type d a)
