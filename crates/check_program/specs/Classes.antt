-- The typing of classes and their members (JLS 8, 9): the core of a class, or the first rule that it breaks.
use Rattle.std.specs.Prelude.{ℕ, zero, suc, ◌+◌, Bool, true, false, ◌&&◌, ◌||◌, not, List, [], ◌∷◌, ◌++◌, map, filter, length, Option, Some, None, is_none, slice_get, option_and_then, option_to_list, nat_eq, if◌then◌else◌}
use Rattle.std.specs.List.{list_any}
use Rattle.java_tree.specs.declared.tree.Node.{Node}
use Rattle.java_tree.specs.declared.tree.Mod.{Mod}
use Rattle.java_tree.specs.declared.tree.Mod.TheVariants as mods
use Rattle.java_tree.specs.Plain as t
use Rattle.class_world.specs.declared.world.World.{World}
use Rattle.class_world.specs.declared.world.TypeInfo.{TypeInfo}
use Rattle.class_world.specs.declared.world.MethodInfo.{MethodInfo}
use Rattle.class_world.specs.declared.world.JavaType.{JavaType}
use Rattle.java_core.specs.declared.program.Implied.{Implied}
use Rattle.java_core.specs.Plain as p
use Rattle.checked.specs.Checked.{Checked, Fine, Broken, and_then, under, with_some, also}
use Rattle.type_kinds.specs.Kinds.{ty_of, has, converted}
use Rattle.type_facts.specs.Facts.{Facts}
use Rattle.type_facts.specs.declared.scope.LocalVar.{LocalVar}
use Rattle.type_facts.specs.declared.scope.Place.{Place}
use Rattle.written_types.specs.Types.{arrays}
use Rattle.member_uses.specs.Targets.{superclass, constructor}
use Rattle.operator_rules.specs.Writtens.{type_said, written}
use Rattle.check_expr.specs.Typed.{initial}
use Rattle.check_stmt.specs.declared.jumps.Jumps.{Jumps}
use Rattle.check_program.specs.declared.circles.Link.{Link}
use Rattle.check_stmt.specs.Pieces.{declared}
use Rattle.check_stmt.specs.Statements.{block, typed_stmts}

-- ---- parts of declarations

abbrev pub all_written : Facts → Place → List t.TypeExpr → Checked (List p.Written)
all_written f g [] = Fine []
all_written f g (x ∷ xs) = and_then (written f g x) (λ y. also y (all_written f g xs))

abbrev pub maybe_written : Facts → Place → Option t.TypeExpr → Checked (Option p.Written)
maybe_written f g None = Fine None
maybe_written f g (Some x) = and_then (written f g x) (λ y. Fine (Some y))

-- a parameter's slot is its position
abbrev pub param_made : t.Param → (slot : ℕ) → p.Written → p.Param
param_made x k w = record { node = x.node; is_final = x.is_final; name = x.name; slot = k; ty = arrays x.dims (type_said w); written = w }

abbrev pub params_from : Facts → Place → (slot : ℕ) → List t.Param → Checked (List p.Param)
params_from f g k [] = Fine []
params_from f g k (x ∷ xs) = and_then (written f g x.ty) (λ w. also (param_made x k w) (params_from f g (k + 1) xs))

abbrev pub in_scope : p.Param → LocalVar
in_scope x = record { name = x.name; slot = x.slot; ty = x.ty; is_final = x.is_final }

-- ---- fields

-- T4
abbrev pub field_set : Facts → Node → (field : ℕ) → JavaType → Checked p.Expr → Checked p.FieldVar
field_set f n k ty a = and_then a (λ x. under (f.fits (ty_of x) ty) n.id 4 (Fine (record { node = n; field = k; init = Some (converted ty x) })))

abbrev pub field_of : Facts → Place → (field : ℕ) → JavaType → t.Var → Option t.Expr → Checked p.FieldVar
field_of f g k ty v None = Fine (record { node = v.node; field = k; init = None })
field_of f g k ty v (Some e) = field_set f v.node k ty (initial f g [] ty e)

-- `k` is the number of the first
abbrev pub fields_of : Facts → Place → (field : ℕ) → JavaType → List t.Var → Checked (List p.FieldVar)
fields_of f g k ty [] = Fine []
fields_of f g k ty (v ∷ vs) = and_then (field_of f g k (arrays v.dims ty) v v.init) (λ x. also x (fields_of f g (k + 1) ty vs))

abbrev pub field_member : Facts → Place → (field : ℕ) → Node → t.TypeExpr → List t.Var → Checked p.Member
field_member f g k n ty vars = and_then (written f g ty) (λ w. and_then (fields_of f g k (type_said w) vars) (λ vs. Fine (p.Fields n w vs)))

-- ---- methods and constructors

-- the constructor of the class above that runs first where none is called: T39
abbrev pub implied_super : Facts → Place → Node → Checked (Option Implied)
implied_super f g n = with_some (superclass f.world g.class) n.id 39 (λ t. with_some (constructor f g t []) n.id 39 (λ c. Fine (Some (record { node = n; constructor = c.method }))))

pub data Beginning : Type 0 where
  WithThis : Beginning
  WithSuper : Beginning
  WithNeither : Beginning

abbrev pub begins_stmts : t.Stmts → Beginning
begins_stmts (t.Then (t.ThisCall n es) ss) = WithThis
begins_stmts (t.Then (t.SuperCall n es) ss) = WithSuper
begins_stmts _ = WithNeither

abbrev pub begins_stmt : t.Stmt → Beginning
begins_stmt (t.Block n ss) = begins_stmts ss
begins_stmt _ = WithNeither

abbrev pub begins : Option t.Stmt → Beginning
begins None = WithNeither
begins (Some s) = begins_stmt s

abbrev pub implied_by : Facts → Place → Node → Beginning → Checked (Option Implied)
implied_by f g n WithThis = Fine None
implied_by f g n WithSuper = Fine None
implied_by f g n WithNeither = implied_super f g n

abbrev pub implied_of : Facts → Place → (constructor : Bool) → Node → Beginning → Checked (Option Implied)
implied_of f g false n b = Fine None
implied_of f g true n b = implied_by f g n b

-- whether statements directly in the body may give blank final fields their values
abbrev pub may_fill : (constructor : Bool) → Beginning → Bool
may_fill true WithThis = false
may_fill true _ = true
may_fill false b = false

abbrev pub no_jumps : Jumps
no_jumps = record { breaks = false; continues = false }

abbrev pub body_stmt : Facts → Place → (first : Bool) → List LocalVar → t.Stmt → Checked (Option p.Stmt)
body_stmt f g first ls (t.Block n ss) = and_then (block f g n (typed_stmts f g no_jumps first ls ss)) (λ x. Fine (Some x))
body_stmt f g first ls _ = Fine None

abbrev pub body_of : Facts → Place → (first : Bool) → List LocalVar → Option t.Stmt → Checked (Option p.Stmt)
body_of f g first ls None = Fine None
body_of f g first ls (Some s) = body_stmt f g first ls s

abbrev pub method_made : Node → (method : ℕ) → Option Implied → Option p.Written → List p.Param → List p.Written → Option p.Stmt → p.Method
method_made n k i r ps ts b = record { node = n; method = k; result = r; params = ps; throws = ts; implied = i; body = b }

-- the body, behind all before it; `g` is the place in the method
abbrev pub method_behind : Facts → Place → (method : ℕ) → Node → (constructor : Bool) → Option Implied → Option p.Written → List p.Param → List p.Written → Option t.Stmt → Checked p.Method
method_behind f g k n constructor i r ps ts body =
    and_then (body_of f g (may_fill constructor (begins body)) (map in_scope ps) body) (λ b. Fine (method_made n k i r ps ts b))

abbrev pub method_with : Facts → Place → (method : ℕ) → Node → (constructor : Bool) → Option Implied → Option p.Written → List t.Param → List t.TypeExpr → Option t.Stmt → Checked p.Method
method_with f g k n constructor i r params throws body =
    and_then (params_from f g 0 params) (λ ps. and_then (all_written f g throws) (λ ts. method_behind f g k n constructor i r ps ts body))

abbrev pub method_in : Facts → Place → (method : ℕ) → Node → (constructor : Bool) → Option t.TypeExpr → List t.Param → List t.TypeExpr → Option t.Stmt → Checked p.Method
method_in f g k n constructor result params throws body =
    and_then (implied_of f g constructor n (begins body)) (λ i. and_then (maybe_written f g result) (λ r. method_with f g k n constructor i r params throws body))

-- ---- classes

-- in a member that is static or not; the class of `g` stays
abbrev pub in_member : Place → (is_static : Bool) → Option JavaType → Place
in_member g is_static result = record g { is_static = is_static; in_static = is_static; result = result }

abbrev pub is_static_member : (interface : Bool) → List Mod → Bool
is_static_member interface ms = interface || has mods.Static ms

abbrev pub given_by : Option MethodInfo → Option JavaType
given_by None = None
given_by (Some m) = m.result

abbrev pub result_at : World → (method : ℕ) → Option JavaType
result_at w k = given_by (slice_get w.methods k)

abbrev pub method_member : Facts → Place → (is_static : Bool) → (method : ℕ) → Node → (constructor : Bool) → Option t.TypeExpr → List t.Param → List t.TypeExpr → Option t.Stmt → Checked p.Member
method_member f g is_static k n constructor result params throws body =
    and_then (method_in f (in_member g is_static (result_at f.world k)) k n constructor result params throws body) (λ y. Fine (p.AMethod y))

-- `k` is the number of its first field and `m` its number as a method
abbrev pub member_in : Facts → Place → (interface : Bool) → (field method : ℕ) → t.Member → Checked p.Member
member_in f g interface k m (t.AField x) = field_member f (in_member g (is_static_member interface x.mods) None) k x.node x.ty x.vars
member_in f g interface k m (t.AMethod x) = method_member f g (has mods.Static x.mods) m x.node x.constructor x.result x.params x.throws x.body

-- the numbers of the first field and method behind a member
abbrev pub next_field : ℕ → t.Member → ℕ
next_field k (t.AField x) = k + length x.vars
next_field k (t.AMethod x) = k

abbrev pub next_method : ℕ → t.Member → ℕ
next_method m (t.AField x) = m
next_method m (t.AMethod x) = m + 1

abbrev pub members_of : Facts → Place → (interface : Bool) → (field method : ℕ) → List t.Member → Checked (List p.Member)
members_of f g interface k m [] = Fine []
members_of f g interface k m (x ∷ xs) = and_then (member_in f g interface k m x) (λ y. also y (members_of f g interface (next_field k x) (next_method m x) xs))

abbrev pub is_constructor : t.Member → Bool
is_constructor (t.AField x) = false
is_constructor (t.AMethod x) = x.constructor

-- what the default constructor of a class calls, at the class (8.8.9)
abbrev pub default_of : Facts → Place → t.TypeDecl → Checked (Option Implied)
default_of f g d = if d.interface || list_any is_constructor d.members then Fine None else implied_super f g d.node

-- what stands before the members: what the default constructor calls, and the supertypes as they are written
pub record Heading : Type 0 where
  pub default : Option Implied
  pub extends : List p.Written
  pub implements : List p.Written

abbrev pub heading : Facts → Place → t.TypeDecl → Checked Heading
heading f g d = and_then (default_of f g d) (λ i. and_then (all_written f g d.extends) (λ es. and_then (all_written f g d.implements) (λ is.
    Fine (record { default = i; extends = es; implements = is }))))

abbrev pub class_made : t.TypeDecl → (number : ℕ) → Heading → List p.Member → p.Class
class_made d c h ms = record { node = d.node; number = c; name_end = d.name_end; extends = h.extends; implements = h.implements; members = ms; default = h.default }

-- the number of a class's first method, and of its first field, where it has one
abbrev pub first_of : List ℕ → ℕ
first_of [] = 0
first_of (k ∷ ks) = k

-- ---- a constructor that calls itself (8.8.7): the second part of T39, asked where all else in the class is fine

-- the call by this(..) with which a body begins
abbrev pub link_in : ℕ → p.Stmts → Option Link
link_in k (p.Then (p.ThisCall n c xs) ss) = Some (record { from = k; to = c; node = n.id })
link_in k _ = None

abbrev pub link_of_stmt : ℕ → p.Stmt → Option Link
link_of_stmt k (p.Block n ss) = link_in k ss
link_of_stmt k _ = None

abbrev pub link_of_body : ℕ → Option p.Stmt → Option Link
link_of_body k None = None
link_of_body k (Some s) = link_of_stmt k s

abbrev pub link_of : p.Member → Option Link
link_of (p.Fields n w xs) = None
link_of (p.AMethod m) = link_of_body m.method m.body

abbrev pub links_of : List p.Member → List Link
links_of [] = []
links_of (m ∷ ms) = option_to_list (link_of m) ++ links_of ms

abbrev pub linked : List Link → ℕ → Option ℕ
linked [] k = None
linked (l ∷ ls) k = if nat_eq l.from k then Some l.to else linked ls k

-- whether as many calls or fewer lead from a constructor to k
abbrev pub leads : List Link → (calls : ℕ) → ℕ → Option ℕ → Bool
leads ls zero k x = false
leads ls (suc n) k None = false
leads ls (suc n) k (Some c) = if nat_eq c k then true else leads ls n k (linked ls c)

abbrev pub circular : List Link → List Link → Option ℕ
circular ls [] = None
circular ls (l ∷ rest) = if leads ls (length ls) l.from (Some l.to) then Some l.node else circular ls rest

abbrev pub unless_circular : Option ℕ → p.Class → Checked p.Class
unless_circular None x = Fine x
unless_circular (Some n) x = Broken n 39

abbrev pub without_circle : t.TypeDecl → (number : ℕ) → Heading → List p.Member → Checked p.Class
without_circle d c h ms = unless_circular (circular (links_of ms) (links_of ms)) (class_made d c h ms)

abbrev pub class_in : Facts → Place → TypeInfo → t.TypeDecl → Checked p.Class
class_in f g info d = and_then (heading f g d) (λ h.
    and_then (members_of f g d.interface (first_of info.fields) (first_of info.methods) d.members) (λ ms. without_circle d g.class h ms))

-- ---- the place of a class

-- the final instance fields without a value, by number
abbrev pub blank_vars : (field : ℕ) → List t.Var → List ℕ
blank_vars k [] = []
blank_vars k (v ∷ vs) = if is_none v.init then k ∷ blank_vars (k + 1) vs else blank_vars (k + 1) vs

abbrev pub is_blank : (interface : Bool) → List Mod → Bool
is_blank interface ms = not (is_static_member interface ms) && has mods.Final ms

abbrev pub blanks_in : (interface : Bool) → (field : ℕ) → t.Member → List ℕ
blanks_in interface k (t.AField x) = if is_blank interface x.mods then blank_vars k x.vars else []
blanks_in interface k (t.AMethod x) = []

abbrev pub blanks_of : (interface : Bool) → (field : ℕ) → List t.Member → List ℕ
blanks_of interface k [] = []
blanks_of interface k (x ∷ xs) = blanks_in interface k x ++ blanks_of interface (next_field k x) xs

abbrev pub place_of : (number : ℕ) → TypeInfo → t.TypeDecl → Place
place_of c info d = record { class = c; vars = d.params; is_static = false; in_static = false; blanks = blanks_of d.interface (first_of info.fields) d.members; result = None }

-- the type of number c, which the declaration declares
abbrev pub class_of : Facts → (number : ℕ) → t.TypeDecl → Option TypeInfo → Checked p.Class
class_of f c d None = Broken d.node.id 1
class_of f c d (Some info) = class_in f (place_of c info d) info d
