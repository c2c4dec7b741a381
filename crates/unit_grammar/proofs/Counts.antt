-- The numbers given are as many as the nodes.
use Rattle.std.proofs.Common.{◌≡◌, ℕ, ◌+◌, List, [], ◌∷◌, length, Option, None, Some, arith}
use Rattle.java_tree.specs.declared.tree.Import.{Import}
use Rattle.java_tree.specs.Plain as t
use Rattle.java_tree.specs.Plain.{TypeExpr, Param, Stmt, FieldDecl, MethodDecl, Member, TypeDecl, SourceUnit}
use Rattle.tree_numbers.specs.Numbers as below
use Rattle.tree_numbers.proofs.Counts.{type_count, vars_count, param_count, stmt_count}
use Rattle.unit_grammar.specs.Numbers as numbers
use Rattle.unit_grammar.specs.Numbers.{after_result, after_params, after_throws, after_extends, after_implements}
use Rattle.unit_grammar.specs.Sizes as size

pub type_list_count : (xs : List TypeExpr) (k : ℕ) → (numbers.type_list xs k).1 ≡ k + size.type_list xs
type_list_count [] k = omega arith
type_list_count (x ∷ xs) k = omega (arith, type_count x k, type_list_count xs (below.type x k).1)

pub result_count : (x : Option TypeExpr) (k : ℕ) → (numbers.result x k).1 ≡ k + size.result x
result_count None k = omega arith
result_count (Some x) k = type_count x k

pub params_count : (xs : List Param) (k : ℕ) → (numbers.params xs k).1 ≡ k + size.params xs
params_count [] k = omega arith
params_count (x ∷ xs) k = omega (arith, param_count x k, params_count xs (below.param x k).1)

pub body_count : (x : Option Stmt) (k : ℕ) → (numbers.body x k).1 ≡ k + size.body x
body_count None k = omega arith
body_count (Some x) k = stmt_count x k

field_count : (x : FieldDecl) (k : ℕ) → (numbers.field x k).1 ≡ k + size.field x
field_count x k = omega (arith, type_count x.ty (k + 1), vars_count x.vars (below.type x.ty (k + 1)).1)

method_count : (x : MethodDecl) (k : ℕ) → (numbers.method x k).1 ≡ k + size.method x
method_count x k =
    let result = result_count x.result (k + 1) in
    let params = params_count x.params (after_result x k) in
    let throws = type_list_count x.throws (after_params x k) in
    let body = body_count x.body (after_throws x k) in
    omega arith

pub member_count : (x : Member) (k : ℕ) → (numbers.member x k).1 ≡ k + size.member x
member_count (t.AField x) k = field_count x k
member_count (t.AMethod x) k = method_count x k

pub members_count : (xs : List Member) (k : ℕ) → (numbers.members xs k).1 ≡ k + size.members xs
members_count [] k = omega arith
members_count (x ∷ xs) k = omega (arith, member_count x k, members_count xs (numbers.member x k).1)

pub decl_count : (x : TypeDecl) (k : ℕ) → (numbers.decl x k).1 ≡ k + size.decl x
decl_count x k =
    let extends = type_list_count x.extends (k + 1) in
    let implements = type_list_count x.implements (after_extends x k) in
    let members = members_count x.members (after_implements x k) in
    omega arith

pub decls_count : (xs : List TypeDecl) (k : ℕ) → (numbers.decls xs k).1 ≡ k + size.decls xs
decls_count [] k = omega arith
decls_count (x ∷ xs) k = omega (arith, decl_count x k, decls_count xs (numbers.decl x k).1)

pub imports_count : (xs : List Import) (k : ℕ) → (numbers.imports xs k).1 ≡ k + length xs
imports_count [] k = omega arith
imports_count (x ∷ xs) k = omega (arith, imports_count xs (k + 1))

pub unit_count : (x : SourceUnit) (k : ℕ) → (numbers.unit x k).1 ≡ k + size.unit x
unit_count x k = omega (arith, imports_count x.imports (k + 1), decls_count x.types (numbers.imports x.imports (k + 1)).1)
