-- How deep a declaration goes below its own node, which has the depth 0. Names and modifiers are no nodes.
use Rattle.std.specs.Prelude.{ℕ, ◌+◌, max, List, [], ◌∷◌, Option, Some, None}
use Rattle.java_tree.specs.declared.tree.Import.{Import}
use Rattle.java_tree.specs.Plain as t
use Rattle.java_tree.specs.Plain.{TypeExpr, Param, Stmt, FieldDecl, MethodDecl, Member, TypeDecl, SourceUnit}
use Rattle.java_grammar.specs.Heights.{type_depth, below_vars, param_depth, stmt_depth}

-- `.._depth` is that of a tree, `below_..` that of what holds these trees as children

abbrev pub below_list : List TypeExpr → ℕ
below_list [] = 0
below_list (x ∷ xs) = max (type_depth x + 1) (below_list xs)

abbrev pub below_result : Option TypeExpr → ℕ
below_result None = 0
below_result (Some x) = type_depth x + 1

abbrev pub below_params : List Param → ℕ
below_params [] = 0
below_params (x ∷ xs) = max (param_depth x + 1) (below_params xs)

abbrev pub below_body : Option Stmt → ℕ
below_body None = 0
below_body (Some x) = stmt_depth x + 1

abbrev pub field_depth : FieldDecl → ℕ
field_depth x = max (type_depth x.ty + 1) (below_vars x.vars)

abbrev pub method_depth : MethodDecl → ℕ
method_depth x = max (max (below_result x.result) (below_params x.params)) (max (below_list x.throws) (below_body x.body))

abbrev pub member_depth : Member → ℕ
member_depth (t.AField x) = field_depth x
member_depth (t.AMethod x) = method_depth x

abbrev pub below_members : List Member → ℕ
below_members [] = 0
below_members (x ∷ xs) = max (member_depth x + 1) (below_members xs)

abbrev pub decl_depth : TypeDecl → ℕ
decl_depth x = max (max (below_list x.extends) (below_list x.implements)) (below_members x.members)

abbrev pub below_decls : List TypeDecl → ℕ
below_decls [] = 0
below_decls (x ∷ xs) = max (decl_depth x + 1) (below_decls xs)

abbrev pub below_imports : List Import → ℕ
below_imports [] = 0
below_imports (x ∷ xs) = 1

abbrev pub unit_depth : SourceUnit → ℕ
unit_depth x = max (below_imports x.imports) (below_decls x.types)
