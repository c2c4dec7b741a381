-- Values that go to what has a declared type, and arms of conditionals, a clause a form.
use Rattle.std.specs.Prelude.{ℕ, zero, suc, Bool, true, false, ◌||◌, ◌==◌, List, [], ◌∷◌, length, nat_lt, Option, Some, None, slice_get}
use Rattle.class_world.specs.declared.world.World.{World}
use Rattle.class_world.specs.declared.world.TypeInfo.{TypeInfo}
use Rattle.class_world.specs.declared.world.Walk.{Walk}
use Rattle.class_world.specs.declared.world.JavaType.{JavaType}
use Rattle.java_core.specs.Plain as p
use Rattle.type_kinds.specs.Kinds.{args_of, class_number, element, node_of, ty_of}
use Rattle.kept_places.specs.declared.links.Kind.TheVariants as kind
use Rattle.kept_places.specs.declared.links.Kind.{Kind}
use Rattle.kept_places.specs.declared.links.Link.{Link}
use Rattle.marked_types.specs.Marked.{head_class, head_mark, is_number, mentions, own_mark, raised}
use Rattle.marked_types.specs.Read.{read}
use Rattle.extract_constraints.specs.Told.{Told, Where, need, need_maybe, need_unless, step}

abbrev pub world : Where → World
world a = a.reading.world

abbrev pub class_of : Where → ℕ
class_of a = a.reading.class

-- the marked type of an expression
abbrev pub value_type : Told → Where → (locals : List JavaType) → p.Expr → JavaType
value_type k a ls x = read k.facts a.reading ls x

-- ---- types that stay equal

-- of two places that differ each changes the other
abbrev pub tied : (same : Bool) → (place other node : ℕ) → Kind → List Link → List Link
tied true p q n i ls = ls
tied false p q n i ls = step q p n i (step p q n i ls)

-- two heads or arguments, by their places
abbrev pub equal : Option ℕ → Option ℕ → (node : ℕ) → Kind → List Link → List Link
equal (Some p) (Some q) n i ls = tied (p == q) p q n i ls
equal (Some p) None n i ls = need p n i ls
equal None (Some q) n i ls = need q n i ls
equal None None n i ls = ls

abbrev pub all_equal : (xs ys : List JavaType) → (node : ℕ) → List Link → List Link
all_equal [] ys n ls = ls
all_equal (x ∷ xs) [] n ls = ls
all_equal (x ∷ xs) (y ∷ ys) n ls = all_equal xs ys n (equal (own_mark x) (own_mark y) n kind.Argument ls)

-- the arguments of the supertype
abbrev pub args_equal : Option JavaType → (ys : List JavaType) → (node : ℕ) → List Link → List Link
args_equal None ys n ls = ls
args_equal (Some t) ys n ls = all_equal (args_of t) ys n ls

-- the arguments of t are those that s has at the class of t
abbrev pub arguments_at : Told → (s : JavaType) → Option ℕ → (ys : List JavaType) → (node : ℕ) → List Link → List Link
arguments_at k s None ys n ls = ls
arguments_at k s (Some c) [] n ls = ls
arguments_at k s (Some c) (y ∷ ys) n ls = args_equal (k.facts.super_as s c) (y ∷ ys) n ls

abbrev pub equal_arguments : Told → (s t : JavaType) → (node : ℕ) → List Link → List Link
equal_arguments k s t n ls = arguments_at k s (class_number t) (args_of t) n ls

-- ---- flows (JLS 5.2)

-- a value of a place goes to a type: to that of a place, or to one that takes the new interface or not
abbrev pub to_type : Told → (place : ℕ) → (s t : JavaType) → Option ℕ → (node : ℕ) → List Link → List Link
to_type k p s t (Some q) n ls = step p q n kind.Assign ls
to_type k p s t None n ls = need_unless (k.facts.fits (raised s) t) p n kind.Assign ls

abbrev pub flow_from : Option ℕ → Told → (s t : JavaType) → (node : ℕ) → List Link → List Link
flow_from (Some p) k s t n ls = to_type k p s t (head_mark t) n ls
flow_from None k s t n ls = equal_arguments k s t n ls

abbrev pub flow : Told → (s t : JavaType) → (node : ℕ) → List Link → List Link
flow k s t n ls = flow_from (head_mark s) k s t n ls

-- of the value of an expression: one whose type does not have the class has no places
abbrev pub value_if : (mentioned : Bool) → Told → Where → List JavaType → p.Expr → JavaType → List Link → List Link
value_if true k a locals x t ls = flow k (value_type k a locals x) t (node_of x) ls
value_if false k a locals x t ls = ls

abbrev pub value_to : Told → Where → List JavaType → p.Expr → JavaType → List Link → List Link
value_to k a locals x t ls = value_if (mentions (class_of a) (ty_of x)) k a locals x t ls

abbrev pub value_to_maybe : Told → Where → List JavaType → p.Expr → Option JavaType → List Link → List Link
value_to_maybe k a locals x None ls = ls
value_to_maybe k a locals x (Some t) ls = value_to k a locals x t ls

-- a value, or items in braces of which an array of the type is made, of any depth (JLS 10.6)
abbrev mutual
  pub initialise : Told → Where → List JavaType → p.Expr → Option JavaType → List Link → List Link
  initialise k a locals (p.At n t x) to ls = initialise_form k a locals (p.At n t x) x to ls

  pub initialise_form : Told → Where → List JavaType → (whole : p.Expr) → p.Form → Option JavaType → List Link → List Link
  initialise_form k a locals e (p.Filled xs) None ls = ls
  initialise_form k a locals e (p.Filled xs) (Some t) ls = initialise_all k a locals xs (element t) ls
  initialise_form k a locals e _ to ls = value_to_maybe k a locals e to ls

  pub initialise_all : Told → Where → List JavaType → p.Exprs → Option JavaType → List Link → List Link
  initialise_all k a locals p.End to ls = ls
  initialise_all k a locals (p.Also x xs) to ls = initialise_all k a locals xs to (initialise k a locals x to ls)

abbrev pub is_filled_form : p.Form → Bool
is_filled_form (p.Filled xs) = true
is_filled_form _ = false

abbrev pub is_filled : p.Expr → Bool
is_filled (p.At n t x) = is_filled_form x

-- of items in braces an array of the declared type is made, which then stays
abbrev pub need_if_filled : Bool → JavaType → (node : ℕ) → List Link → List Link
need_if_filled true t n ls = need_maybe (head_mark t) n kind.Assign ls
need_if_filled false t n ls = ls

-- the value of a declared variable
abbrev pub declare : Told → Where → List JavaType → p.Expr → JavaType → List Link → List Link
declare k a locals x t ls = initialise k a locals x (Some t) (need_if_filled (is_filled x) t (node_of x) ls)

-- ---- conditionals (JLS 15.25)

-- an arm that changes beside another one, where the conditional is a place or not
abbrev pub to_inner : (place : ℕ) → Option ℕ → (node : ℕ) → List Link → List Link
to_inner p None n ls = ls
to_inner p (Some q) n ls = step p q n kind.Arm ls

-- beside an arm of type t that stays: nothing where the new type fits that; a need where neither fits the other
abbrev pub beside : (fits_it it_fits : Bool) → (place : ℕ) → Option ℕ → (node : ℕ) → List Link → List Link
beside true b p inner n ls = ls
beside false true p inner n ls = to_inner p inner n ls
beside false false p inner n ls = need p n kind.Arm ls

abbrev pub lone_arm : Told → (place : ℕ) → (s t : JavaType) → Option ℕ → (node : ℕ) → List Link → List Link
lone_arm k p s t inner n ls = beside (k.facts.fits (raised s) t) (k.facts.fits t s) p inner n ls

abbrev pub arm_heads : Told → (first second : Option ℕ) → (s t : JavaType) → Option ℕ → (node : ℕ) → List Link → List Link
arm_heads k (Some p) (Some q) s t inner n ls = to_inner q inner n (to_inner p inner n ls)
arm_heads k (Some p) None s t inner n ls = lone_arm k p s t inner n ls
arm_heads k None (Some q) s t inner n ls = lone_arm k q t s inner n ls
arm_heads k None None s t inner n ls = ls

abbrev pub inner_place : (of_class : Bool) → (node : ℕ) → Option ℕ
inner_place true n = Some n
inner_place false n = None

abbrev pub arms_of : Told → (first second whole s t : JavaType) → Option ℕ → (node yes no : ℕ) → List Link → List Link
arms_of k first second whole s t inner n y z ls =
    equal_arguments k second whole z (equal_arguments k first whole y (arm_heads k (head_mark first) (head_mark second) s t inner n ls))

abbrev pub arms_if : (mentioned : Bool) → Told → Where → List JavaType → (whole yes no : p.Expr) → List Link → List Link
arms_if true k a locals x y z ls =
    arms_of k (value_type k a locals y) (value_type k a locals z) (value_type k a locals x) (ty_of y) (ty_of z)
    (inner_place (is_number (head_class (ty_of x)) (class_of a)) (node_of x)) (node_of x) (node_of y) (node_of z) ls
arms_if false k a locals x y z ls = ls

abbrev pub arms : Told → Where → List JavaType → (whole yes no : p.Expr) → List Link → List Link
arms k a locals x y z ls = arms_if (mentions (class_of a) (ty_of y) || mentions (class_of a) (ty_of z)) k a locals x y z ls

-- ---- casts (JLS 15.16)

abbrev pub is_generic_info : Option TypeInfo → Bool
is_generic_info None = false
is_generic_info (Some i) = nat_lt 0 i.params

abbrev pub both_args : (s t : Option JavaType) → (node : ℕ) → List Link → List Link
both_args None t n ls = ls
both_args (Some s) None n ls = ls
both_args (Some s) (Some t) n ls = all_equal (args_of s) (args_of t) n ls

abbrev pub equal_above : (generic : Bool) → Told → (s t : JavaType) → (c node : ℕ) → List Link → List Link
equal_above true k s t c n ls = both_args (k.facts.super_as s c) (k.facts.super_as t c) n ls
equal_above false k s t c n ls = ls

-- the arguments that both have at the classes below a number
abbrev pub equal_below : Told → Where → (s t : JavaType) → (count node : ℕ) → List Link → List Link
equal_below k a s t zero n ls = ls
equal_below k a s t (suc c) n ls = equal_above (is_generic_info (slice_get (world a).types c)) k s t c n (equal_below k a s t c n ls)

-- what is cast to a type with arguments stays, and its own arguments stay equal to those
abbrev pub cast_of : Option ℕ → Told → Where → (s t : JavaType) → (node operand : ℕ) → List Link → List Link
cast_of (Some p) k a s t n x ls = need p n kind.Argument ls
cast_of None k a s t n x ls = equal_below k a s t (length (world a).types) x ls

abbrev pub cast_to : (args : List JavaType) → Told → Where → (s t : JavaType) → (node operand : ℕ) → List Link → List Link
cast_to [] k a s t n x ls = ls
cast_to (y ∷ ys) k a s t n x ls = cast_of (head_mark s) k a s t n x ls

abbrev pub cast : Told → Where → (s t : JavaType) → (node operand : ℕ) → List Link → List Link
cast k a s t n x ls = cast_to (args_of t) k a s t n x ls

-- ---- loops over a value (JLS 14.14.2)

abbrev pub first_arg : Option JavaType → Option JavaType
first_arg None = None
first_arg (Some t) = slice_get (args_of t) 0

abbrev pub walked_by : Told → Option Walk → JavaType → Option JavaType
walked_by k None s = None
walked_by k (Some w) s = first_arg (k.facts.super_as s w.iterable)

-- the type of the items of a value: those of an array, or the argument that it has as an Iterable
abbrev pub item_with : Option JavaType → Told → Where → JavaType → Option JavaType
item_with (Some x) k a s = Some x
item_with None k a s = walked_by k (world a).walk s

abbrev pub item : Told → Where → JavaType → Option JavaType
item k a s = item_with (element s) k a s

abbrev pub flow_maybe : Told → (s : Option JavaType) → (t : JavaType) → (node : ℕ) → List Link → List Link
flow_maybe k None t n ls = ls
flow_maybe k (Some s) t n ls = flow k s t n ls

abbrev pub walked_if : (mentioned : Bool) → Told → Where → List JavaType → p.Expr → JavaType → List Link → List Link
walked_if true k a locals x t ls = flow_maybe k (item k a (value_type k a locals x)) t (node_of x) ls
walked_if false k a locals x t ls = ls

-- the items of a value go to a variable
abbrev pub walked : Told → Where → List JavaType → p.Expr → JavaType → List Link → List Link
walked k a locals x t ls = walked_if (mentions (class_of a) (ty_of x)) k a locals x t ls
