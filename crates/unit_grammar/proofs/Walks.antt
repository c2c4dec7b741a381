-- Lists in declarations, numbered item by item.
use Rattle.std.proofs.lemmas.List.{map-id}
use Rattle.std.proofs.Common.{◌≡◌, ◌≤◌, ℕ, ◌+◌, List, [], ◌∷◌, Some, length, map, slice_get, slice_set, arith, refl, ap, ◌∙◌, sym}
use Rattle.java_tree.specs.declared.tree.TypeExpr.{TypeExpr}
use Rattle.java_tree.specs.declared.tree.Param.{Param}
use Rattle.java_tree.specs.declared.tree.Member.{Member}
use Rattle.java_tree.specs.declared.tree.TypeDecl.{TypeDecl}
use Rattle.java_tree.specs.declared.tree.Import.{Import}
use Rattle.java_tree.specs.Plain as t
use Rattle.java_tree.specs.View.{type_plain, param_plain, member_plain, decl_plain}
use Rattle.tree_numbers.specs.Numbers as below
use Rattle.tree_numbers.specs.Sizes as size_below
use Rattle.tree_numbers.proofs.Counts as counts_below
use Rattle.tree_numbers.proofs.Lists.{each, total, Walk, walk_at, walk_goes_on, walk_ends}
use Rattle.unit_grammar.specs.Numbers as numbers
use Rattle.unit_grammar.specs.Sizes as size
use Rattle.unit_grammar.proofs.Counts as counts

-- ---- types

abbrev pub type_number : TypeExpr → ℕ → t.TypeExpr × ℕ
type_number x = below.type (type_plain x)

abbrev pub type_size : TypeExpr → ℕ
type_size x = size_below.type (type_plain x)

each_type : (xs : List TypeExpr) (k : ℕ) → numbers.type_list (map type_plain xs) k ≡ each type_number xs k
each_type [] k = refl
each_type (x ∷ xs) k = ap (λ r. ((type_number x k).0 ∷ r.0, r.1)) (each_type xs (type_number x k).1)

total_type_list : (xs : List TypeExpr) → size.type_list (map type_plain xs) ≡ total type_size xs
total_type_list [] = refl
total_type_list (x ∷ xs) = ap (λ n. type_size x + n) (total_type_list xs)

abbrev pub TypesWalk : ℕ → List TypeExpr → ℕ → List TypeExpr → ℕ → Type 0
TypesWalk = Walk type_plain type_number type_size

pub type_at : (first : ℕ) (old : List TypeExpr) (i : ℕ) (xs : List TypeExpr) (next : ℕ) (x : TypeExpr) → TypesWalk first old i xs next → slice_get xs i ≡ Some x
    → next + type_size x ≤ first + size.type_list (map type_plain old)
type_at first old i xs next x w g = rw (total_type_list old) (walk_at _ _ _ first old i xs next x w g).0

pub types_go_on : (first : ℕ) (old : List TypeExpr) (i : ℕ) (xs : List TypeExpr) (next : ℕ) (x y : TypeExpr) (m : ℕ)
    → TypesWalk first old i xs next → slice_get xs i ≡ Some x → (type_plain y, m) ≡ type_number x next → TypesWalk first old (i + 1) (slice_set xs i y) m
types_go_on first old i xs next x y m w g e = walk_goes_on _ _ _ first old i xs next x y m w g e (counts_below.type_count (type_plain x) next)

pub types_end : (first : ℕ) (old : List TypeExpr) (i : ℕ) (xs : List TypeExpr) (next : ℕ) → TypesWalk first old i xs next → length old ≤ i
    → (map type_plain xs, next) ≡ numbers.type_list (map type_plain old) first
types_end first old i xs next w past = walk_ends _ _ _ first old i xs next w past ∙ sym (each_type old first)

pub types_counted : (first : ℕ) (old : List TypeExpr) (i : ℕ) (xs : List TypeExpr) (next : ℕ) → TypesWalk first old i xs next → length old ≤ i
    → next ≡ first + size.type_list (map type_plain old)
types_counted first old i xs next w past = ap (λ r. r.1) (types_end first old i xs next w past) ∙ counts.type_list_count (map type_plain old) first

-- ---- parameters

abbrev pub param_number : Param → ℕ → t.Param × ℕ
param_number x = below.param (param_plain x)

abbrev pub param_size : Param → ℕ
param_size x = size_below.param (param_plain x)

each_param : (xs : List Param) (k : ℕ) → numbers.params (map param_plain xs) k ≡ each param_number xs k
each_param [] k = refl
each_param (x ∷ xs) k = ap (λ r. ((param_number x k).0 ∷ r.0, r.1)) (each_param xs (param_number x k).1)

total_params : (xs : List Param) → size.params (map param_plain xs) ≡ total param_size xs
total_params [] = refl
total_params (x ∷ xs) = ap (λ n. param_size x + n) (total_params xs)

abbrev pub ParamsWalk : ℕ → List Param → ℕ → List Param → ℕ → Type 0
ParamsWalk = Walk param_plain param_number param_size

pub param_at : (first : ℕ) (old : List Param) (i : ℕ) (xs : List Param) (next : ℕ) (x : Param) → ParamsWalk first old i xs next → slice_get xs i ≡ Some x
    → next + param_size x ≤ first + size.params (map param_plain old)
param_at first old i xs next x w g = rw (total_params old) (walk_at _ _ _ first old i xs next x w g).0

pub params_go_on : (first : ℕ) (old : List Param) (i : ℕ) (xs : List Param) (next : ℕ) (x y : Param) (m : ℕ)
    → ParamsWalk first old i xs next → slice_get xs i ≡ Some x → (param_plain y, m) ≡ param_number x next → ParamsWalk first old (i + 1) (slice_set xs i y) m
params_go_on first old i xs next x y m w g e = walk_goes_on _ _ _ first old i xs next x y m w g e (counts_below.param_count (param_plain x) next)

pub params_end : (first : ℕ) (old : List Param) (i : ℕ) (xs : List Param) (next : ℕ) → ParamsWalk first old i xs next → length old ≤ i
    → (map param_plain xs, next) ≡ numbers.params (map param_plain old) first
params_end first old i xs next w past = walk_ends _ _ _ first old i xs next w past ∙ sym (each_param old first)

pub params_counted : (first : ℕ) (old : List Param) (i : ℕ) (xs : List Param) (next : ℕ) → ParamsWalk first old i xs next → length old ≤ i
    → next ≡ first + size.params (map param_plain old)
params_counted first old i xs next w past = ap (λ r. r.1) (params_end first old i xs next w past) ∙ counts.params_count (map param_plain old) first

-- ---- members

abbrev pub member_number : Member → ℕ → t.Member × ℕ
member_number x = numbers.member (member_plain x)

abbrev pub member_size : Member → ℕ
member_size x = size.member (member_plain x)

each_member : (xs : List Member) (k : ℕ) → numbers.members (map member_plain xs) k ≡ each member_number xs k
each_member [] k = refl
each_member (x ∷ xs) k = ap (λ r. ((member_number x k).0 ∷ r.0, r.1)) (each_member xs (member_number x k).1)

total_members : (xs : List Member) → size.members (map member_plain xs) ≡ total member_size xs
total_members [] = refl
total_members (x ∷ xs) = ap (λ n. member_size x + n) (total_members xs)

abbrev pub MembersWalk : ℕ → List Member → ℕ → List Member → ℕ → Type 0
MembersWalk = Walk member_plain member_number member_size

pub member_at : (first : ℕ) (old : List Member) (i : ℕ) (xs : List Member) (next : ℕ) (x : Member) → MembersWalk first old i xs next → slice_get xs i ≡ Some x
    → next + member_size x ≤ first + size.members (map member_plain old)
member_at first old i xs next x w g = rw (total_members old) (walk_at _ _ _ first old i xs next x w g).0

pub members_go_on : (first : ℕ) (old : List Member) (i : ℕ) (xs : List Member) (next : ℕ) (x y : Member) (m : ℕ)
    → MembersWalk first old i xs next → slice_get xs i ≡ Some x → (member_plain y, m) ≡ member_number x next → MembersWalk first old (i + 1) (slice_set xs i y) m
members_go_on first old i xs next x y m w g e = walk_goes_on _ _ _ first old i xs next x y m w g e (counts.member_count (member_plain x) next)

pub members_end : (first : ℕ) (old : List Member) (i : ℕ) (xs : List Member) (next : ℕ) → MembersWalk first old i xs next → length old ≤ i
    → (map member_plain xs, next) ≡ numbers.members (map member_plain old) first
members_end first old i xs next w past = walk_ends _ _ _ first old i xs next w past ∙ sym (each_member old first)

pub members_counted : (first : ℕ) (old : List Member) (i : ℕ) (xs : List Member) (next : ℕ) → MembersWalk first old i xs next → length old ≤ i
    → next ≡ first + size.members (map member_plain old)
members_counted first old i xs next w past = ap (λ r. r.1) (members_end first old i xs next w past) ∙ counts.members_count (map member_plain old) first

-- ---- types of a file

abbrev pub decl_number : TypeDecl → ℕ → t.TypeDecl × ℕ
decl_number x = numbers.decl (decl_plain x)

abbrev pub decl_size : TypeDecl → ℕ
decl_size x = size.decl (decl_plain x)

each_decl : (xs : List TypeDecl) (k : ℕ) → numbers.decls (map decl_plain xs) k ≡ each decl_number xs k
each_decl [] k = refl
each_decl (x ∷ xs) k = ap (λ r. ((decl_number x k).0 ∷ r.0, r.1)) (each_decl xs (decl_number x k).1)

total_decls : (xs : List TypeDecl) → size.decls (map decl_plain xs) ≡ total decl_size xs
total_decls [] = refl
total_decls (x ∷ xs) = ap (λ n. decl_size x + n) (total_decls xs)

abbrev pub DeclsWalk : ℕ → List TypeDecl → ℕ → List TypeDecl → ℕ → Type 0
DeclsWalk = Walk decl_plain decl_number decl_size

pub decl_at : (first : ℕ) (old : List TypeDecl) (i : ℕ) (xs : List TypeDecl) (next : ℕ) (x : TypeDecl) → DeclsWalk first old i xs next → slice_get xs i ≡ Some x
    → next + decl_size x ≤ first + size.decls (map decl_plain old)
decl_at first old i xs next x w g = rw (total_decls old) (walk_at _ _ _ first old i xs next x w g).0

pub decls_go_on : (first : ℕ) (old : List TypeDecl) (i : ℕ) (xs : List TypeDecl) (next : ℕ) (x y : TypeDecl) (m : ℕ)
    → DeclsWalk first old i xs next → slice_get xs i ≡ Some x → (decl_plain y, m) ≡ decl_number x next → DeclsWalk first old (i + 1) (slice_set xs i y) m
decls_go_on first old i xs next x y m w g e = walk_goes_on _ _ _ first old i xs next x y m w g e (counts.decl_count (decl_plain x) next)

pub decls_end : (first : ℕ) (old : List TypeDecl) (i : ℕ) (xs : List TypeDecl) (next : ℕ) → DeclsWalk first old i xs next → length old ≤ i
    → (map decl_plain xs, next) ≡ numbers.decls (map decl_plain old) first
decls_end first old i xs next w past = walk_ends _ _ _ first old i xs next w past ∙ sym (each_decl old first)

pub decls_counted : (first : ℕ) (old : List TypeDecl) (i : ℕ) (xs : List TypeDecl) (next : ℕ) → DeclsWalk first old i xs next → length old ≤ i
    → next ≡ first + size.decls (map decl_plain old)
decls_counted first old i xs next w past = ap (λ r. r.1) (decls_end first old i xs next w past) ∙ counts.decls_count (map decl_plain old) first

-- ---- imports

abbrev import_size : Import → ℕ
import_size x = 1

each_import : (xs : List Import) (k : ℕ) → numbers.imports xs k ≡ each numbers.imported xs k
each_import [] k = refl
each_import (x ∷ xs) k = ap (λ r. ((numbers.imported x k).0 ∷ r.0, r.1)) (each_import xs (k + 1))

total_imports : (xs : List Import) → length xs ≡ total import_size xs
total_imports [] = refl
total_imports (x ∷ xs) = omega (arith, total_imports xs)

abbrev pub ImportsWalk : ℕ → List Import → ℕ → List Import → ℕ → Type 0
ImportsWalk = Walk (λ x. x) numbers.imported import_size

pub import_at : (first : ℕ) (old : List Import) (i : ℕ) (xs : List Import) (next : ℕ) (x : Import) → ImportsWalk first old i xs next → slice_get xs i ≡ Some x
    → next + 1 ≤ first + length old
import_at first old i xs next x w g = rw (total_imports old) (walk_at _ _ _ first old i xs next x w g).0

pub imports_go_on : (first : ℕ) (old : List Import) (i : ℕ) (xs : List Import) (next : ℕ) (x : Import)
    → ImportsWalk first old i xs next → slice_get xs i ≡ Some x → ImportsWalk first old (i + 1) (slice_set xs i (numbers.imported x next).0) (next + 1)
imports_go_on first old i xs next x w g = walk_goes_on _ _ _ first old i xs next x (numbers.imported x next).0 (next + 1) w g refl refl

pub imports_end : (first : ℕ) (old : List Import) (i : ℕ) (xs : List Import) (next : ℕ) → ImportsWalk first old i xs next → length old ≤ i
    → (xs, next) ≡ numbers.imports old first
imports_end first old i xs next w past =
    ap (λ ys. (ys, next)) (sym (map-id xs)) ∙ walk_ends _ _ _ first old i xs next w past ∙ sym (each_import old first)

pub imports_counted : (first : ℕ) (old : List Import) (i : ℕ) (xs : List Import) (next : ℕ) → ImportsWalk first old i xs next → length old ≤ i
    → next ≡ first + length old
imports_counted first old i xs next w past = ap (λ r. r.1) (imports_end first old i xs next w past) ∙ counts.imports_count old first
