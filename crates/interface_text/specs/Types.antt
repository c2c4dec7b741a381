-- Written types, as they are after the change.
use Rattle.std.specs.Prelude.{ℕ, Bool, not, ◌==◌, ◌&&◌, List, [], ◌++◌, Option, Some, None, if◌then◌else◌, codes}
use Rattle.std.specs.List.{list_any}
use Rattle.java_tree.specs.declared.tree.Primitive.{Primitive}
use Rattle.java_tree.specs.declared.tree.Primitive.TheVariants as prim
use Rattle.class_world.specs.declared.world.JavaType.{JavaType}
use Rattle.class_world.specs.declared.world.JavaType.TheOpen as form
use Rattle.class_world.specs.declared.world.JavaType.TheOpen.{JavaType-F}
use Rattle.class_world.specs.declared.world.JavaType.TheFolds.{fold-JavaType}
use Rattle.java_core.specs.Plain as p
use Rattle.interface_text.specs.declared.extraction.Extraction.{Extraction}
use Rattle.interface_text.specs.Names.{type_name}

abbrev pub is_among : List ℕ → ℕ → Bool
is_among xs x = list_any (λ y. y == x) xs

abbrev pub keyword : Primitive → List ℕ
keyword prim.Int = codes "int"
keyword prim.Long = codes "long"
keyword prim.Char = codes "char"
keyword prim.Boolean = codes "boolean"

-- ---- heads

-- the name of a class or interface at the head of a written type with this node: the new one, where it named the class and changes
abbrev pub class_text : Extraction → (node : ℕ) → (type : ℕ) → List ℕ
class_text q n k = if (k == q.class) && not (is_among q.kept.now n) then q.new_name.now else type_name q.world.now q.names.now k

abbrev pub head_form : Extraction → (node : ℕ) → JavaType-F (List ℕ) → List ℕ
head_form q n (form.Prim x) = keyword x
head_form q n form.Null = []
head_form q n (form.Class k xs) = class_text q n k
head_form q n (form.Var k) = []
head_form q n (form.Array x) = x

-- the head, below the array levels
abbrev pub head_text : Extraction → (node : ℕ) → JavaType → List ℕ
head_text q n = fold-JavaType (List ℕ) (head_form q n)

abbrev pub class_form : JavaType-F (Option ℕ) → Option ℕ
class_form (form.Prim x) = None
class_form form.Null = None
class_form (form.Class k xs) = Some k
class_form (form.Var k) = None
class_form (form.Array x) = x

-- the class or interface at the head, below the array levels
abbrev pub head_class : JavaType → Option ℕ
head_class = fold-JavaType (Option ℕ) class_form

abbrev pub level_form : JavaType-F (List ℕ) → List ℕ
level_form (form.Prim x) = []
level_form form.Null = []
level_form (form.Class k xs) = []
level_form (form.Var k) = []
level_form (form.Array x) = codes "[]" ++ x

-- `[]` for each array level
abbrev pub levels : JavaType → List ℕ
levels = fold-JavaType (List ℕ) level_form

-- what a written type says
abbrev pub said : p.Written → JavaType
said (p.AType n h ty xs) = ty

-- ---- whole types

abbrev pub closing : p.Writtens → List ℕ
closing p.NoTypes = []
closing (p.AndType x xs) = codes ">"

abbrev mutual
  -- a type without its array levels
  pub bare_text : Extraction → p.Written → List ℕ
  bare_text q (p.AType n h ty xs) = head_text q n.id ty ++ (row_text q (codes "<") xs ++ closing xs)

  -- types with `, ` between, and other bytes before
  pub row_text : Extraction → (before : List ℕ) → p.Writtens → List ℕ
  row_text q before p.NoTypes = []
  row_text q before (p.AndType x xs) = before ++ ((bare_text q x ++ levels (said x)) ++ row_text q (codes ", ") xs)

abbrev pub args_text : Extraction → p.Writtens → List ℕ
args_text q xs = row_text q (codes "<") xs ++ closing xs

abbrev pub type_text : Extraction → p.Written → List ℕ
type_text q x = bare_text q x ++ levels (said x)

-- ---- thrown types

abbrev pub own_name : Extraction → Option ℕ → List ℕ
own_name q None = []
own_name q (Some k) = type_name q.world.now q.names.now k

-- of a type in a throws clause, which never changes
abbrev pub thrown_name : Extraction → p.Written → List ℕ
thrown_name q x = own_name q (head_class (said x))
