-- Where a command may change the head of a declared type, and what is declared by it.
use Rattle.std.specs.Prelude.{ℕ, ◌+◌, Bool, false, ◌==◌, List, [], ◌∷◌, Option, Some, None, slice_get, if◌then◌else◌}
use Rattle.java_tree.specs.declared.tree.Node.{Node}
use Rattle.class_world.specs.declared.world.World.{World}
use Rattle.class_world.specs.declared.world.TypeInfo.{TypeInfo}
use Rattle.class_world.specs.declared.world.JavaType.{JavaType}
use Rattle.class_world.specs.declared.world.JavaType.TheOpen as form
use Rattle.class_world.specs.declared.world.JavaType.TheOpen.{JavaType-F}
use Rattle.class_world.specs.declared.world.JavaType.TheFolds.{fold-JavaType}
use Rattle.java_core.specs.Plain as p
use Rattle.type_places.specs.declared.places.Declared.{Declared}
use Rattle.type_places.specs.declared.places.Declared.TheVariants as declared
use Rattle.type_places.specs.declared.places.TypePlace.{TypePlace}
use Rattle.type_places.specs.declared.places.Wanted.{Wanted}

-- ---- heads

abbrev pub bare_class : ℕ → List (Option ℕ) → Option ℕ
bare_class k [] = Some k
bare_class k (x ∷ xs) = None

abbrev pub bare_form : JavaType-F (Option ℕ) → Option ℕ
bare_form (form.Prim q) = None
bare_form form.Null = None
bare_form (form.Class k xs) = bare_class k xs
bare_form (form.Var k) = None
bare_form (form.Array x) = x

-- the class or interface at the head, below the array levels, where it has no arguments
abbrev pub bare_head : JavaType → Option ℕ
bare_head = fold-JavaType (Option ℕ) bare_form

abbrev pub has_no_params : Option TypeInfo → Bool
has_no_params None = false
has_no_params (Some info) = info.params == 0

abbrev pub is_bare : World → ℕ → Bool
is_bare w k = has_no_params (slice_get w.types k)

abbrev pub if_bare : World → Option ℕ → Option ℕ
if_bare w None = None
if_bare w (Some k) = if is_bare w k then Some k else None

-- the type of a head that begins at the byte
abbrev pub head_at : World → (at : ℕ) → p.Written → Option ℕ
head_at w at (p.AType n head ty xs) = if head.from == at then if_bare w (bare_head ty) else None

-- the first place that is found counts
abbrev pub put_at : (old : Option ℕ) → p.Written → Declared → Option TypePlace → Option TypePlace
put_at None t d found = found
put_at (Some old) t d (Some place) = Some place
put_at (Some old) (p.AType n head ty xs) d None = Some (record { node = n.id; head = head; old = old; declared = d })

abbrev pub put : World → (at : ℕ) → p.Written → Declared → Option TypePlace → Option TypePlace
put w at t d found = put_at (head_at w at t) t d found

-- ---- statements (14.4, 14.14.2)

-- in a statement at whose end the scope of its locals ends
abbrev pub until : Node → Wanted → Wanted
until n q = record { at = q.at; body = q.body; end = n.span.to }

abbrev pub slots_of : List p.Var → List ℕ
slots_of [] = []
slots_of (v ∷ vs) = v.slot ∷ slots_of vs

-- locals that are in scope from their declaration on
abbrev pub locals : Wanted → Node → (slots : List ℕ) → Declared
locals q n slots = declared.Locals q.body slots (record { from = n.span.from; to = q.end })

abbrev mutual
  pub walk : World → Wanted → p.Stmt → Option TypePlace → Option TypePlace
  walk w q (p.Block n ss) found = walks w (until n q) ss found
  walk w q (p.Locals n is_final t vs) found = put w q.at t (locals q n (slots_of vs)) found
  walk w q (p.Empty n) found = found
  walk w q (p.Value n x) found = found
  walk w q (p.If n x a b) found = maybe_walk w q b (walk w q a found)
  walk w q (p.While n x a) found = walk w q a found
  walk w q (p.Do n a x) found = walk w q a found
  walk w q (p.For n ss x xs a) found = walk w (until n q) a (walks w (until n q) ss found)
  walk w q (p.ForEach n is_final t v x item implied a) found = walk w q a (put w q.at t (locals (until n q) n (v.slot ∷ [])) found)
  walk w q (p.Switch n x gs) found = groups w (until n q) gs found
  walk w q (p.Break n) found = found
  walk w q (p.Continue n) found = found
  walk w q (p.Return n x) found = found
  walk w q (p.Throw n x) found = found
  walk w q (p.Try n a cs b) found = maybe_walk w q b (catches w q cs (walk w q a found))
  walk w q (p.ThisCall n k xs) found = found
  walk w q (p.SuperFirst n k xs) found = found

  pub maybe_walk : World → Wanted → p.MaybeStmt → Option TypePlace → Option TypePlace
  maybe_walk w q p.NoStmt found = found
  maybe_walk w q (p.AStmt a) found = walk w q a found

  pub walks : World → Wanted → p.Stmts → Option TypePlace → Option TypePlace
  walks w q p.Last found = found
  walks w q (p.Then a ss) found = walks w q ss (walk w q a found)

  pub groups : World → Wanted → p.Groups → Option TypePlace → Option TypePlace
  groups w q p.NoGroup found = found
  groups w q (p.AndGroup (p.Labelled n ls ss) gs) found = groups w q gs (walks w q ss found)

  -- what a catch declares is no place
  pub catches : World → Wanted → p.Catches → Option TypePlace → Option TypePlace
  catches w q p.NoCatch found = found
  catches w q (p.AndCatch (p.Caught n x a) cs) found = catches w q cs (walk w q a found)

-- ---- members

abbrev pub fields_of : List p.FieldVar → List ℕ
fields_of [] = []
fields_of (v ∷ vs) = v.field ∷ fields_of vs

abbrev pub in_result : World → (at method : ℕ) → Option p.Written → Option TypePlace → Option TypePlace
in_result w at m None found = found
in_result w at m (Some t) found = put w at t (declared.Result m) found

-- in parameters, the first of them at the place i
abbrev pub in_params : World → (at method i : ℕ) → List p.Param → Option TypePlace → Option TypePlace
in_params w at m i [] found = found
in_params w at m i (x ∷ xs) found = in_params w at m (i + 1) xs (put w at x.written (declared.Param m i) found)

abbrev pub in_body : World → Wanted → Option p.Stmt → Option TypePlace → Option TypePlace
in_body w q None found = found
in_body w q (Some a) found = walk w q a found

abbrev pub in_method : World → (at : ℕ) → p.Method → Option TypePlace → Option TypePlace
in_method w at m found =
    in_body w (record { at = at; body = m.method; end = m.node.span.to }) m.body
    (in_params w at m.method 0 m.params (in_result w at m.method m.result found))

abbrev pub in_member : World → (at : ℕ) → p.Member → Option TypePlace → Option TypePlace
in_member w at (p.Fields n t vs) found = put w at t (declared.Fields (fields_of vs)) found
in_member w at (p.AMethod m) found = in_method w at m found

abbrev pub in_members : World → (at : ℕ) → List p.Member → Option TypePlace → Option TypePlace
in_members w at [] found = found
in_members w at (m ∷ ms) found = in_members w at ms (in_member w at m found)

abbrev pub in_classes : World → (at : ℕ) → List p.Class → Option TypePlace → Option TypePlace
in_classes w at [] found = found
in_classes w at (c ∷ cs) found = in_classes w at cs (in_members w at c.members found)

-- The place of a file whose head begins at the byte.
abbrev pub place_in : World → p.File → (at : ℕ) → Option TypePlace
place_in w file at = in_classes w at file.classes None
