-- The heads of a file that change together with a place.
use Rattle.std.specs.Prelude.{ℕ, Bool, true, false, List, [], ◌∷◌, ◌++◌, Option, Some, None, slice_get, if◌then◌else◌}
use Rattle.java_tree.specs.declared.tree.Span.{Span}
use Rattle.java_core.specs.Plain as p
use Rattle.type_places.specs.declared.changes.Changes.{Changes}
use Rattle.type_places.specs.declared.places.Declared.{Declared}
use Rattle.type_places.specs.declared.places.Declared.TheVariants as declared
use Rattle.type_places.specs.declared.places.TypePlace.{TypePlace}
use Rattle.type_places.specs.Changes.{is_param}

abbrev pub written_head : p.Written → Span
written_head (p.AType n head ty xs) = head

abbrev pub head_of : Option p.Param → Option Span
head_of None = None
head_of (Some x) = Some (written_head x.written)

-- the head of the parameter i of a method where it changes
abbrev pub param_head : Changes → (i : ℕ) → p.Method → Option Span
param_head c i m = if is_param c m.method i then head_of (slice_get m.params i) else None

abbrev pub push_head : Option Span → List Span → List Span
push_head None heads = heads
push_head (Some x) heads = heads ++ x ∷ []

-- behind those of what stands before
abbrev pub in_member : Changes → (i : ℕ) → p.Member → List Span → List Span
in_member c i (p.Fields n t vs) heads = heads
in_member c i (p.AMethod m) heads = push_head (param_head c i m) heads

abbrev pub in_members : Changes → (i : ℕ) → List p.Member → List Span → List Span
in_members c i [] heads = heads
in_members c i (m ∷ ms) heads = in_members c i ms (in_member c i m heads)

abbrev pub in_classes : Changes → (i : ℕ) → List p.Class → List Span → List Span
in_classes c i [] heads = heads
in_classes c i (x ∷ xs) heads = in_classes c i xs (in_members c i x.members heads)

abbrev pub own_head : Span → (in_file : Bool) → List Span
own_head head true = head ∷ []
own_head head false = []

abbrev pub heads_of : Changes → Declared → (head : Span) → (in_file : Bool) → p.File → List Span
heads_of c (declared.Param method i) head in_file file = in_classes c i file.classes []
heads_of c (declared.Locals body slots scope) head in_file file = own_head head in_file
heads_of c (declared.Fields fs) head in_file file = own_head head in_file
heads_of c (declared.Result m) head in_file file = own_head head in_file

-- Those that change together with the place, whose own head is in the file or is not.
abbrev pub heads_in : Changes → TypePlace → (in_file : Bool) → p.File → List Span
heads_in c place in_file file = heads_of c place.declared place.head in_file file
