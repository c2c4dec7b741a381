-- The declared types of users' fields and methods, with marks.
use Rattle.std.specs.Prelude.{ℕ, zero, suc, List, [], ◌∷◌, length, Option, Some, None, slice_get}
use Rattle.class_world.specs.declared.world.World.{World}
use Rattle.class_world.specs.declared.world.FieldInfo.{FieldInfo}
use Rattle.class_world.specs.declared.world.MethodInfo.{MethodInfo}
use Rattle.class_world.specs.declared.world.JavaType.{JavaType}
use Rattle.java_core.specs.Plain as p
use Rattle.type_kinds.specs.Members.{field_at, method_at}
use Rattle.marked_types.specs.declared.marks.Marks.{Marks}
use Rattle.marked_types.specs.Marked.{marked}

-- the item of a number becomes this one, where there is such an item
abbrev pub set_at : {A : Type 0} → List A → ℕ → A → List A
set_at [] n x = []
set_at (y ∷ ys) zero x = x ∷ ys
set_at (y ∷ ys) (suc n) x = y ∷ set_at ys n x

abbrev pub so_many : {A : Type 0} → A → ℕ → List A
so_many x zero = []
so_many x (suc n) = x ∷ so_many x n

abbrev pub with_field : Marks → ℕ → JavaType → Marks
with_field m k t = record { fields = set_at m.fields k (Some t); results = m.results; params = m.params }

abbrev pub with_result : Marks → ℕ → JavaType → Marks
with_result m k t = record { fields = m.fields; results = set_at m.results k (Some t); params = m.params }

abbrev pub with_params : Marks → ℕ → List JavaType → Marks
with_params m k ts = record { fields = m.fields; results = m.results; params = set_at m.params k ts }

-- ---- declarations

abbrev pub mark_field : (c : ℕ) → p.Written → (k : ℕ) → Option FieldInfo → Marks → Marks
mark_field c w k None m = m
mark_field c w k (Some i) m = with_field m k (marked c w i.ty)

abbrev pub mark_fields : (c : ℕ) → World → p.Written → List p.FieldVar → Marks → Marks
mark_fields c w t [] m = m
mark_fields c w t (v ∷ vs) m = mark_fields c w t vs (mark_field c t v.field (field_at w v.field) m)

abbrev pub marked_params : (c : ℕ) → List p.Param → List JavaType
marked_params c [] = []
marked_params c (x ∷ xs) = marked c x.written x.ty ∷ marked_params c xs

abbrev pub mark_given : (c : ℕ) → p.Written → (k : ℕ) → Option JavaType → Marks → Marks
mark_given c w k None m = m
mark_given c w k (Some t) m = with_result m k (marked c w t)

abbrev pub result_of : Option MethodInfo → Option JavaType
result_of None = None
result_of (Some i) = i.result

abbrev pub mark_result : (c : ℕ) → World → (k : ℕ) → Option p.Written → Marks → Marks
mark_result c w k None m = m
mark_result c w k (Some t) m = mark_given c t k (result_of (method_at w k)) m

abbrev pub mark_method : (c : ℕ) → World → p.Method → Marks → Marks
mark_method c w x m = mark_result c w x.method x.result (with_params m x.method (marked_params c x.params))

abbrev pub mark_member : (c : ℕ) → World → p.Member → Marks → Marks
mark_member c w (p.Fields n t vs) m = mark_fields c w t vs m
mark_member c w (p.AMethod x) m = mark_method c w x m

abbrev pub mark_members : (c : ℕ) → World → List p.Member → Marks → Marks
mark_members c w [] m = m
mark_members c w (x ∷ xs) m = mark_members c w xs (mark_member c w x m)

abbrev pub mark_classes : (c : ℕ) → World → List p.Class → Marks → Marks
mark_classes c w [] m = m
mark_classes c w (x ∷ xs) m = mark_classes c w xs (mark_members c w x.members m)

abbrev pub mark_files : (c : ℕ) → World → List p.File → Marks → Marks
mark_files c w [] m = m
mark_files c w (x ∷ xs) m = mark_files c w xs (mark_classes c w x.classes m)

abbrev pub no_marks : World → Marks
no_marks w = record { fields = so_many None (length w.fields); results = so_many None (length w.methods); params = so_many [] (length w.methods) }

-- the marks of what these files declare
abbrev pub marks_of : (c : ℕ) → World → List p.File → Marks
marks_of c w fs = mark_files c w fs (no_marks w)

-- ---- look-ups

abbrev pub joined : {A : Type 0} → Option (Option A) → Option A
joined None = None
joined (Some x) = x

abbrev pub field_mark : Marks → ℕ → Option JavaType
field_mark m k = joined (slice_get m.fields k)

abbrev pub result_mark : Marks → ℕ → Option JavaType
result_mark m k = joined (slice_get m.results k)

abbrev pub item_in : Option (List JavaType) → ℕ → Option JavaType
item_in None i = None
item_in (Some ts) i = slice_get ts i

abbrev pub param_mark : Marks → (k i : ℕ) → Option JavaType
param_mark m k i = item_in (slice_get m.params k) i
