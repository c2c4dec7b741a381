-- A declaration has at most as many nodes as tokens.
use Rattle.std.proofs.Common.{◌≤◌, ◌<◌, ℕ, zero, suc, ◌+◌, Bool, true, false, List, [], ◌∷◌, length, Option, Some, None, arith}
use Rattle.java_tree.specs.declared.tree.Name.{Name}
use Rattle.java_tree.specs.declared.tree.Mod.{Mod}
use Rattle.java_tree.specs.declared.tree.Import.{Import}
use Rattle.java_tree.specs.Plain as t
use Rattle.java_tree.specs.Plain.{TypeExpr, Param, Stmt, FieldDecl, MethodDecl, Member, TypeDecl, SourceUnit}
use Rattle.java_grammar.specs.declared.token.Tok.{Tok}
use Rattle.java_grammar.specs.declared.token.Keyword.{Keyword}
use Rattle.java_grammar.specs.declared.token.Keyword.TheVariants as word
use Rattle.java_grammar.proofs.Extents.{path_rises, type_spans, vars_span, param_spans, stmt_spans}
use Rattle.unit_grammar.specs.Sizes as size
use Rattle.unit_grammar.specs.Declarations as g

module _ (text : List ℕ) (ts : List Tok) where
  -- ---- parts of declarations

  pub mods_rise : (xs : List Mod) (i j : ℕ) → g.AreMods text ts xs i j → i ≤ j
  mods_rise [] i j e = omega arith
  mods_rise (x ∷ xs) i j (is, rest) = let r = mods_rise xs (i + 1) j rest in omega arith

  pub ids_rise : (xs : List Name) (i j : ℕ) → g.AreIds text ts xs i j → i < j
  ids_rise [] i j h = absurd h
  ids_rise (x ∷ []) i j (id, e) = omega arith
  ids_rise (x ∷ y ∷ ys) i j (id, comma, rest) = let r = ids_rise (y ∷ ys) (i + 2) j rest in omega arith

  pub type_params_rise : (xs : List Name) (i j : ℕ) → g.AreTypeParams text ts xs i j → i ≤ j
  type_params_rise [] i j e = omega arith
  type_params_rise (x ∷ xs) i j (less, a, ids, greater, e) = let r = ids_rise (x ∷ xs) (i + 1) a ids in omega arith

  pub refs_span : (xs : List TypeExpr) (i j : ℕ) → g.AreRefs text ts xs i j → i + size.type_list xs ≤ j
  refs_span [] i j h = absurd h
  refs_span (x ∷ []) i j (class, p) = let r = type_spans text ts x i j p in omega arith
  refs_span (x ∷ y ∷ ys) i j (a, (class, p), comma, rest) =
      let r = type_spans text ts x i a p in
      let u = refs_span (y ∷ ys) (a + 1) j rest in
      omega arith

  pub behind_spans : (w : Keyword) (xs : List TypeExpr) (i j : ℕ) → g.AreBehind text ts w xs i j → i + size.type_list xs ≤ j
  behind_spans w [] i j e = omega arith
  behind_spans w (x ∷ xs) i j (is, refs) = let r = refs_span (x ∷ xs) (i + 1) j refs in omega arith

  -- ---- members

  pub more_params_span : (xs : List Param) (i j : ℕ) → g.AreMoreParams text ts xs i j → i + size.params xs + 1 ≤ j
  more_params_span [] i j (closes, e) = omega arith
  more_params_span (x ∷ xs) i j (comma, a, p, rest) =
      let r = param_spans text ts x (i + 1) a p in
      let u = more_params_span xs a j rest in
      omega arith

  pub params_span : (xs : List Param) (i j : ℕ) → g.AreParams text ts xs i j → i + size.params xs + 1 ≤ j
  params_span [] i j (closes, e) = omega arith
  params_span (x ∷ xs) i j (a, p, rest) =
      let r = param_spans text ts x i a p in
      let u = more_params_span xs a j rest in
      omega arith

  pub result_spans : (constructor : Bool) (x : Option TypeExpr) (i j : ℕ) → g.IsResult text ts constructor x i j → i + size.result x ≤ j
  result_spans true None i j e = omega arith
  result_spans true (Some x) i j h = absurd h
  result_spans false None i j (void, e) = omega arith
  result_spans false (Some x) i j p = type_spans text ts x i j p

  pub body_spans : (constructor : Bool) (x : Option Stmt) (i j : ℕ) → g.IsBody text ts constructor x i j → i + size.body x ≤ j
  body_spans constructor None i j (method, semicolon, e) = omega arith
  body_spans constructor (Some x) i j (block, calls, p) = stmt_spans text ts false x i j p

  pub field_spans : (x : FieldDecl) (i j : ℕ) → g.IsField text ts x i j → i + size.field x ≤ j
  field_spans x i j p =
      let r = mods_rise x.mods i p.type_at p.mods in
      let u = type_spans text ts x.ty p.type_at p.vars_at p.type in
      let v = vars_span text ts x.vars p.vars_at p.end p.vars in
      let e = p.next in
      omega arith

  pub method_spans : (x : MethodDecl) (i j : ℕ) → g.IsMethod text ts x i j → i + size.method x ≤ j
  method_spans x i j p =
      let r = mods_rise x.mods i p.result_at p.mods in
      let u = result_spans x.constructor x.result p.result_at p.name_at p.result in
      let v = params_span x.params (p.name_at + 2) p.throws_at p.params in
      let w = behind_spans word.Throws x.throws p.throws_at p.body_at p.throws in
      let y = body_spans x.constructor x.body p.body_at j p.body in
      omega arith

  pub member_spans : (x : Member) (i j : ℕ) → g.IsMember text ts x i j → i + size.member x ≤ j
  member_spans (t.AField x) i j p = field_spans x i j p
  member_spans (t.AMethod x) i j p = method_spans x i j p

  -- ---- types

  pub semicolons_rise : (n i j : ℕ) → g.AreSemicolons text ts n i j → i ≤ j
  semicolons_rise zero i j e = omega arith
  semicolons_rise (suc n) i j (semicolon, rest) = let r = semicolons_rise n (i + 1) j rest in omega arith

  pub members_span : (xs : List Member) (i j : ℕ) → g.AreMembers text ts xs i j → i + size.members xs ≤ j
  members_span [] i j (n, p) = let r = semicolons_rise n i j p in omega arith
  members_span (x ∷ xs) i j (n, a, p, b, q, rest) =
      let r = semicolons_rise n i a p in
      let u = member_spans x a b q in
      let v = members_span xs b j rest in
      omega arith

  pub above_spans : (interface : Bool) (extends implements : List TypeExpr) (i j : ℕ) → g.AreAbove text ts interface extends implements i j
      → i + size.type_list extends + size.type_list implements ≤ j
  above_spans true extends [] i j p = let r = behind_spans word.Extends extends i j p in omega arith
  above_spans true extends (y ∷ ys) i j h = absurd h
  above_spans false [] implements i j (a, p, q) =
      let r = behind_spans word.Extends [] i a p in
      let u = behind_spans word.Implements implements a j q in
      omega arith
  above_spans false (x ∷ []) implements i j (a, p, q) =
      let r = behind_spans word.Extends (x ∷ []) i a p in
      let u = behind_spans word.Implements implements a j q in
      omega arith
  above_spans false (x ∷ y ∷ ys) implements i j h = absurd h

  pub decl_spans : (x : TypeDecl) (i j : ℕ) → g.IsDecl text ts x i j → i + size.decl x ≤ j
  decl_spans x i j p =
      let r = mods_rise x.mods i p.word_at p.mods in
      let u = type_params_rise x.params (p.word_at + 2) p.above_at p.params in
      let v = above_spans x.interface x.extends x.implements p.above_at p.brace_at p.above in
      let w = members_span x.members (p.brace_at + 1) p.end p.members in
      let e = p.next in
      omega arith

  -- ---- files

  pub decls_span : (xs : List TypeDecl) (i j : ℕ) → g.AreDecls text ts xs i j → i + size.decls xs ≤ j
  decls_span [] i j (n, p) = let r = semicolons_rise n i j p in omega arith
  decls_span (x ∷ xs) i j (n, a, p, b, q, rest) =
      let r = semicolons_rise n i a p in
      let u = decl_spans x a b q in
      let v = decls_span xs b j rest in
      omega arith

  pub package_rises : (xs : List Name) (i j : ℕ) → g.IsPackage text ts xs i j → i ≤ j
  package_rises [] i j e = omega arith
  package_rises (x ∷ xs) i j (is, a, path, semicolon, e) = let r = path_rises text ts (x ∷ xs) (i + 1) a path in omega arith

  pub all_rises : (all : Bool) (i j : ℕ) → g.IsAll text ts all i j → i ≤ j
  all_rises true i j (dot, star, e) = omega arith
  all_rises false i j e = omega arith

  pub import_rises : (x : Import) (i j : ℕ) → g.IsImport text ts x i j → i < j
  import_rises x i j p =
      let r = path_rises text ts x.path (i + 1) p.path_end p.path in
      let u = all_rises x.all p.path_end p.end p.all in
      let e = p.next in
      omega arith

  pub imports_span : (xs : List Import) (i j : ℕ) → g.AreImports text ts xs i j → i + length xs ≤ j
  imports_span [] i j e = omega arith
  imports_span (x ∷ xs) i j (a, p, rest) =
      let r = import_rises x i a p in
      let u = imports_span xs a j rest in
      omega arith

  pub unit_spans : (x : SourceUnit) → g.SpellsUnit text ts x → size.unit x ≤ length ts + 1
  unit_spans x p =
      let u = imports_span x.imports p.imports_at p.types_at p.imports in
      let v = decls_span x.types p.types_at (length ts) p.types in
      omega arith
