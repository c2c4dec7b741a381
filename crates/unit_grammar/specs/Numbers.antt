-- Node numbers in preorder, as those of statements: each function gives the numbered tree and the next number.
use Rattle.std.specs.Prelude.{ℕ, ◌+◌, List, [], ◌∷◌, Option, Some, None}
use Rattle.java_tree.specs.declared.tree.Import.{Import}
use Rattle.java_tree.specs.Plain as t
use Rattle.java_tree.specs.Plain.{TypeExpr, Param, Stmt, FieldDecl, MethodDecl, Member, TypeDecl, SourceUnit}
use Rattle.tree_numbers.specs.Numbers as numbers
use Rattle.tree_numbers.specs.Numbers.{Numbering, at}

abbrev pub type_list : Numbering (List TypeExpr)
type_list [] k = ([], k)
type_list (x ∷ xs) k = ((numbers.type x k).0 ∷ (type_list xs (numbers.type x k).1).0, (type_list xs (numbers.type x k).1).1)

abbrev pub result : Numbering (Option TypeExpr)
result None k = (None, k)
result (Some x) k = (Some (numbers.type x k).0, (numbers.type x k).1)

abbrev pub params : Numbering (List Param)
params [] k = ([], k)
params (x ∷ xs) k = ((numbers.param x k).0 ∷ (params xs (numbers.param x k).1).0, (params xs (numbers.param x k).1).1)

abbrev pub body : Numbering (Option Stmt)
body None k = (None, k)
body (Some x) k = (Some (numbers.stmt x k).0, (numbers.stmt x k).1)

abbrev pub field : Numbering FieldDecl
field x k = (
  record {
    node = at k x.node;
    mods = x.mods;
    ty = (numbers.type x.ty (k + 1)).0;
    vars = (numbers.vars x.vars (numbers.type x.ty (k + 1)).1).0;
  },
  (numbers.vars x.vars (numbers.type x.ty (k + 1)).1).1,
)

-- the numbers behind the parts of a method
abbrev pub after_result : MethodDecl → ℕ → ℕ
after_result x k = (result x.result (k + 1)).1

abbrev pub after_params : MethodDecl → ℕ → ℕ
after_params x k = (params x.params (after_result x k)).1

abbrev pub after_throws : MethodDecl → ℕ → ℕ
after_throws x k = (type_list x.throws (after_params x k)).1

abbrev pub method : Numbering MethodDecl
method x k = (
  record {
    node = at k x.node;
    mods = x.mods;
    result = (result x.result (k + 1)).0;
    constructor = x.constructor;
    name = x.name;
    params = (params x.params (after_result x k)).0;
    throws = (type_list x.throws (after_params x k)).0;
    body = (body x.body (after_throws x k)).0;
  },
  (body x.body (after_throws x k)).1,
)

abbrev pub member : Numbering Member
member (t.AField x) k = (t.AField (field x k).0, (field x k).1)
member (t.AMethod x) k = (t.AMethod (method x k).0, (method x k).1)

abbrev pub members : Numbering (List Member)
members [] k = ([], k)
members (x ∷ xs) k = ((member x k).0 ∷ (members xs (member x k).1).0, (members xs (member x k).1).1)

-- the numbers behind the types above a type
abbrev pub after_extends : TypeDecl → ℕ → ℕ
after_extends x k = (type_list x.extends (k + 1)).1

abbrev pub after_implements : TypeDecl → ℕ → ℕ
after_implements x k = (type_list x.implements (after_extends x k)).1

abbrev pub decl : Numbering TypeDecl
decl x k = (
  record {
    node = at k x.node;
    mods = x.mods;
    interface = x.interface;
    name = x.name;
    name_end = x.name_end;
    params = x.params;
    extends = (type_list x.extends (k + 1)).0;
    implements = (type_list x.implements (after_extends x k)).0;
    members = (members x.members (after_implements x k)).0;
  },
  (members x.members (after_implements x k)).1,
)

abbrev pub decls : Numbering (List TypeDecl)
decls [] k = ([], k)
decls (x ∷ xs) k = ((decl x k).0 ∷ (decls xs (decl x k).1).0, (decls xs (decl x k).1).1)

abbrev pub imported : Numbering Import
imported x k = (record { node = at k x.node; path = x.path; all = x.all }, k + 1)

abbrev pub imports : Numbering (List Import)
imports [] k = ([], k)
imports (x ∷ xs) k = ((imported x k).0 ∷ (imports xs (k + 1)).0, (imports xs (k + 1)).1)

abbrev pub unit : Numbering SourceUnit
unit x k = (
  record {
    node = at k x.node;
    «package» = x.«package»;
    imports = (imports x.imports (k + 1)).0;
    types = (decls x.types (imports x.imports (k + 1)).1).0;
  },
  (decls x.types (imports x.imports (k + 1)).1).1,
)
