-- Types with marks: a type variable stands for the place whose written type has the variable's number as its node. Code of users has no type variables of its own.
use Rattle.std.specs.Prelude.{ℕ, Bool, false, ◌||◌, ◌==◌, List, [], ◌∷◌, Option, Some, None, if◌then◌else◌}
use Rattle.std.specs.List.{list_any}
use Rattle.class_world.specs.declared.world.JavaType.{JavaType, out-JavaType}
use Rattle.class_world.specs.declared.world.JavaType.TheVariants as ty
use Rattle.class_world.specs.declared.world.JavaType.TheOpen as form
use Rattle.class_world.specs.declared.world.JavaType.TheOpen.{JavaType-F}
use Rattle.class_world.specs.declared.world.JavaType.TheFolds.{fold-JavaType}
use Rattle.class_world.specs.Types.{object_type}
use Rattle.java_core.specs.Plain as p
use Rattle.type_kinds.specs.Kinds.{args_of}

-- ---- marks put

-- a type with the mark n at its head, below its array levels, where that is of the class c, and else with these arguments
abbrev pub marked_form : (c n : ℕ) → List JavaType → JavaType-F JavaType → JavaType
marked_form c n xs (form.Prim q) = ty.Prim q
marked_form c n xs form.Null = ty.Null
marked_form c n xs (form.Class k ys) = if k == c then ty.Var n else ty.Class k xs
marked_form c n xs (form.Var k) = ty.Var k
marked_form c n xs (form.Array x) = ty.Array x

abbrev pub marked_head : (c n : ℕ) → List JavaType → JavaType → JavaType
marked_head c n xs = fold-JavaType JavaType (marked_form c n xs)

-- a type whose head stays, with other arguments
abbrev pub with_args_form : List JavaType → JavaType-F JavaType → JavaType
with_args_form xs (form.Prim q) = ty.Prim q
with_args_form xs form.Null = ty.Null
with_args_form xs (form.Class k ys) = ty.Class k xs
with_args_form xs (form.Var k) = ty.Var k
with_args_form xs (form.Array x) = ty.Array x

abbrev pub with_args : List JavaType → JavaType → JavaType
with_args xs = fold-JavaType JavaType (with_args_form xs)

abbrev pub is_class_form : (c : ℕ) → JavaType-F JavaType → Bool
is_class_form c (form.Class k xs) = k == c
is_class_form c _ = false

abbrev pub is_class : (c : ℕ) → JavaType → Bool
is_class c t = is_class_form c (out-JavaType t)

-- an argument of a written type: it has no arguments of its own (S12)
abbrev pub arg_marked : (c : ℕ) → p.Written → JavaType
arg_marked c (p.AType n head t ws) = if is_class c t then ty.Var n.id else t

abbrev pub args_marked : (c : ℕ) → p.Writtens → List JavaType
args_marked c p.NoTypes = []
args_marked c (p.AndType w us) = arg_marked c w ∷ args_marked c us

-- what is declared by a written type, with all its array levels
abbrev pub marked : (c : ℕ) → p.Written → JavaType → JavaType
marked c (p.AType n head t ws) declared = marked_head c n.id (args_marked c ws) declared

-- a written type whose head is no place, as that of a creation or a cast
abbrev pub marked_inside : (c : ℕ) → p.Written → JavaType
marked_inside c (p.AType n head t ws) = with_args (args_marked c ws) t

-- ---- marks found

abbrev pub head_mark_form : JavaType-F (Option ℕ) → Option ℕ
head_mark_form (form.Var k) = Some k
head_mark_form (form.Array x) = x
head_mark_form _ = None

-- the place at the head, below the array levels
abbrev pub head_mark : JavaType → Option ℕ
head_mark = fold-JavaType (Option ℕ) head_mark_form

abbrev pub own_mark_form : JavaType-F JavaType → Option ℕ
own_mark_form (form.Var k) = Some k
own_mark_form _ = None

-- the place that a type without array levels is
abbrev pub own_mark : JavaType → Option ℕ
own_mark t = own_mark_form (out-JavaType t)

abbrev pub head_class_form : JavaType-F (Option ℕ) → Option ℕ
head_class_form (form.Class k xs) = Some k
head_class_form (form.Array x) = x
head_class_form _ = None

-- the class at the head, below the array levels
abbrev pub head_class : JavaType → Option ℕ
head_class = fold-JavaType (Option ℕ) head_class_form

abbrev pub is_number : Option ℕ → ℕ → Bool
is_number None n = false
is_number (Some m) n = m == n

-- the head or an argument is of the class: other types have no places
abbrev pub mentions : (c : ℕ) → JavaType → Bool
mentions c t = is_number (head_class t) c || list_any (is_class c) (args_of t)

abbrev pub mark_before : Option ℕ → List ℕ → List ℕ
mark_before None ms = ms
mark_before (Some m) ms = m ∷ ms

abbrev pub marks_among : List JavaType → List ℕ
marks_among [] = []
marks_among (x ∷ xs) = mark_before (own_mark x) (marks_among xs)

-- the place at the head, or those that are arguments
abbrev pub places_with : Option ℕ → List JavaType → List ℕ
places_with (Some m) xs = m ∷ []
places_with None xs = marks_among xs

abbrev pub places_of : JavaType → List ℕ
places_of t = places_with (head_mark t) (args_of t)

-- ---- types after the change

-- A new interface without superinterfaces is below what Object is below, and arrays of it are below what arrays of Object are below.
abbrev pub raised_form : JavaType-F JavaType → JavaType
raised_form (form.Prim q) = ty.Prim q
raised_form form.Null = ty.Null
raised_form (form.Class k xs) = object_type
raised_form (form.Var k) = object_type
raised_form (form.Array x) = ty.Array x

-- the type with the new head, as others that were there before ask for it
abbrev pub raised : JavaType → JavaType
raised = fold-JavaType JavaType raised_form
