-- How many nodes a declaration has, its own among them.
use Rattle.std.specs.Prelude.{ℕ, ◌+◌, List, [], ◌∷◌, length, Option, Some, None}
use Rattle.java_tree.specs.Plain as t
use Rattle.java_tree.specs.Plain.{TypeExpr, Param, Stmt, FieldDecl, MethodDecl, Member, TypeDecl, SourceUnit}
use Rattle.tree_numbers.specs.Sizes as size

abbrev pub type_list : List TypeExpr → ℕ
type_list [] = 0
type_list (x ∷ xs) = size.type x + type_list xs

abbrev pub result : Option TypeExpr → ℕ
result None = 0
result (Some x) = size.type x

abbrev pub params : List Param → ℕ
params [] = 0
params (x ∷ xs) = size.param x + params xs

abbrev pub body : Option Stmt → ℕ
body None = 0
body (Some x) = size.stmt x

abbrev pub field : FieldDecl → ℕ
field x = size.type x.ty + size.vars x.vars + 1

abbrev pub method : MethodDecl → ℕ
method x = result x.result + params x.params + type_list x.throws + body x.body + 1

abbrev pub member : Member → ℕ
member (t.AField x) = field x
member (t.AMethod x) = method x

abbrev pub members : List Member → ℕ
members [] = 0
members (x ∷ xs) = member x + members xs

abbrev pub decl : TypeDecl → ℕ
decl x = type_list x.extends + type_list x.implements + members x.members + 1

abbrev pub decls : List TypeDecl → ℕ
decls [] = 0
decls (x ∷ xs) = decl x + decls xs

abbrev pub unit : SourceUnit → ℕ
unit x = length x.imports + decls x.types + 1
