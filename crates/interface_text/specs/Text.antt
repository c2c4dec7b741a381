-- The text of a file with an interface that has methods of a class.
use Rattle.std.specs.Prelude.{ℕ, Bool, true, false, List, [], ◌∷◌, ◌++◌, Option, Some, None, slice_get, flat_map, if◌then◌else◌, codes}
use Rattle.std.specs.List.{list_any}
use Rattle.java_tree.specs.declared.tree.Mod.{Mod}
use Rattle.java_tree.specs.declared.tree.Mod.TheVariants as mods
use Rattle.java_tree.specs.declared.tree.Name.{Name}
use Rattle.class_world.specs.declared.world.World.{World}
use Rattle.class_world.specs.declared.world.TypeInfo.{TypeInfo}
use Rattle.java_core.specs.Plain as p
use Rattle.interface_text.specs.declared.extraction.Extraction.{Extraction}
use Rattle.interface_text.specs.Names.{method_name, package_of, path_text, text_of}
use Rattle.interface_text.specs.Types.{bare_text, is_among, levels, thrown_name, type_text}
use Rattle.interface_text.specs.Imports.{imports_text, in_members}

-- ---- methods

abbrev pub result_text : Extraction → Option p.Written → List ℕ
result_text q None = codes "void"
result_text q (Some x) = type_text q x

-- the array levels are those of the parameter, which may stand behind its name too
abbrev pub param_text : Extraction → p.Param → List ℕ
param_text q x = bare_text q x.written ++ (levels x.ty ++ (32 ∷ text_of q.names.now x.name))

-- with `, ` between, and other bytes before
abbrev pub params_behind : Extraction → (before : List ℕ) → List p.Param → List ℕ
params_behind q before [] = []
params_behind q before (x ∷ xs) = before ++ (param_text q x ++ params_behind q (codes ", ") xs)

abbrev pub params_text : Extraction → List p.Param → List ℕ
params_text q xs = params_behind q [] xs

abbrev pub throws_behind : Extraction → (before : List ℕ) → List p.Written → List ℕ
throws_behind q before [] = []
throws_behind q before (x ∷ xs) = before ++ (thrown_name q x ++ throws_behind q (codes ", ") xs)

abbrev pub throws_text : Extraction → List p.Written → List ℕ
throws_text q xs = throws_behind q (codes " throws ") xs

-- the result of a method and its name
abbrev pub front : Extraction → p.Method → List ℕ
front q m = codes "    " ++ (result_text q m.result ++ (32 ∷ method_name q.world.now q.names.now m.method))

-- its parameters and its throws clause
abbrev pub rest : Extraction → p.Method → List ℕ
rest q m = 40 ∷ (params_text q m.params ++ (41 ∷ throws_text q m.throws))

abbrev pub method_line : Extraction → p.Method → List ℕ
method_line q m = front q m ++ (rest q m ++ (59 ∷ 10 ∷ []))

-- a method that is extracted has a line, and nothing else has one
abbrev pub member_text : Extraction → p.Member → List ℕ
member_text q (p.Fields n t xs) = []
member_text q (p.AMethod m) = if is_among q.methods.now m.method then method_line q m else []

-- ---- the file

abbrev pub package_line : (names : List (List ℕ)) → List Name → List ℕ
package_line names [] = []
package_line names (x ∷ xs) = codes "package " ++ (path_text names (x ∷ xs) ++ (59 ∷ 10 ∷ 10 ∷ []))

abbrev pub package_text : Extraction → List ℕ
package_text q = package_line q.names.now (package_of q.world.now q.class)

abbrev pub is_public_mod : Mod → Bool
is_public_mod mods.Public = true
is_public_mod _ = false

abbrev pub is_public_type : Option TypeInfo → Bool
is_public_type None = false
is_public_type (Some i) = list_any is_public_mod i.mods

abbrev pub is_public : World → (type : ℕ) → Bool
is_public w k = is_public_type (slice_get w.types k)

abbrev pub public_word : World → (type : ℕ) → List ℕ
public_word w k = if is_public w k then codes "public " else []

abbrev pub header : Extraction → List ℕ
header q = public_word q.world.now q.class ++ (codes "interface " ++ (q.new_name.now ++ (32 ∷ 123 ∷ 10 ∷ [])))

-- the interface with the methods of a class that are extracted, in the order of the class
abbrev pub declaration : Extraction → List p.Member → List ℕ
declaration q members = header q ++ (flat_map (member_text q) members ++ (125 ∷ 10 ∷ []))

-- The package, the imports, and the interface.
abbrev pub interface_text : Extraction → p.Class → List ℕ
interface_text q c = package_text q ++ (imports_text (in_members q c.members []) ++ declaration q c.members)
