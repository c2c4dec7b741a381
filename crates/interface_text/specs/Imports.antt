-- The imports that the new file has: one for each type in it that it does not see by itself (JLS 7.5.1, 7.5.3).
use Rattle.std.specs.Prelude.{ℕ, Bool, ◌||◌, List, [], ◌∷◌, ◌++◌, Option, Some, None, flat_map, if◌then◌else◌, codes}
use Rattle.std.specs.Ordering.{nat_cmp}
use Rattle.std.specs.declared.cmp.Ordering.{Ordering}
use Rattle.std.specs.Cmp.Lexicographic.{slice_cmp}
use Rattle.std.specs.declared.cmp.Ordering.TheVariants as order
use Rattle.java_core.specs.Plain as p
use Rattle.interface_text.specs.declared.extraction.Extraction.{Extraction}
use Rattle.interface_text.specs.Names.{full_name, is_same_path, package_of}
use Rattle.interface_text.specs.Types.{head_class, is_among}

-- ---- ascending names

-- before the first name, in its place, or behind it in the rest
abbrev pub put_by : Ordering → (name first : List ℕ) → (names rest : List (List ℕ)) → List (List ℕ)
put_by order.Less x y ys rest = x ∷ y ∷ ys
put_by order.Equal x y ys rest = y ∷ ys
put_by order.Greater x y ys rest = y ∷ rest

-- ascending names, by their bytes, with one more; none stands twice
abbrev pub put : (name : List ℕ) → List (List ℕ) → List (List ℕ)
put x [] = x ∷ []
put x (y ∷ ys) = put_by (slice_cmp nat_cmp x y) x y ys (put x ys)

-- ---- types

-- of the class's package, or of that of Object, which has the number 0: java.lang
abbrev pub sees : Extraction → (type : ℕ) → Bool
sees q k = is_same_path (package_of q.world.now k) (package_of q.world.now q.class) || is_same_path (package_of q.world.now k) (package_of q.world.now 0)

abbrev pub with_head : Extraction → Option ℕ → List (List ℕ) → List (List ℕ)
with_head q None found = found
with_head q (Some k) found = if sees q k then found else put (full_name q.world.now q.names.now k) found

abbrev mutual
  -- the names of what is written, put to those that are found before
  pub in_type : Extraction → p.Written → List (List ℕ) → List (List ℕ)
  in_type q (p.AType n h ty xs) found = in_types q xs (with_head q (head_class ty) found)

  pub in_types : Extraction → p.Writtens → List (List ℕ) → List (List ℕ)
  in_types q p.NoTypes found = found
  in_types q (p.AndType x xs) found = in_types q xs (in_type q x found)

-- ---- methods

abbrev pub in_result : Extraction → Option p.Written → List (List ℕ) → List (List ℕ)
in_result q None found = found
in_result q (Some x) found = in_type q x found

abbrev pub in_params : Extraction → List p.Param → List (List ℕ) → List (List ℕ)
in_params q [] found = found
in_params q (x ∷ xs) found = in_params q xs (in_type q x.written found)

abbrev pub in_throws : Extraction → List p.Written → List (List ℕ) → List (List ℕ)
in_throws q [] found = found
in_throws q (x ∷ xs) found = in_throws q xs (in_type q x found)

abbrev pub in_method : Extraction → p.Method → List (List ℕ) → List (List ℕ)
in_method q m found = in_throws q m.throws (in_params q m.params (in_result q m.result found))

abbrev pub in_member : Extraction → p.Member → List (List ℕ) → List (List ℕ)
in_member q (p.Fields n t xs) found = found
in_member q (p.AMethod m) found = if is_among q.methods.now m.method then in_method q m found else found

abbrev pub in_members : Extraction → List p.Member → List (List ℕ) → List (List ℕ)
in_members q [] found = found
in_members q (x ∷ xs) found = in_members q xs (in_member q x found)

-- ---- lines

abbrev pub import_line : (name : List ℕ) → List ℕ
import_line name = codes "import " ++ (name ++ (59 ∷ 10 ∷ []))

abbrev pub blank : List (List ℕ) → List ℕ
blank [] = []
blank (x ∷ xs) = 10 ∷ []

-- with an empty line behind, where there are any
abbrev pub imports_text : List (List ℕ) → List ℕ
imports_text xs = flat_map import_line xs ++ blank xs
