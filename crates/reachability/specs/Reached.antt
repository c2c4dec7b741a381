-- What is reached of a body, and how its statements end (JLS 3rd edition, 14.21), a clause a form: rules F1 and F2.
use Rattle.std.specs.Prelude.{ℕ, Bool, true, false, ◌&&◌, ◌||◌, not, List, [], ◌∷◌, Option, Some, None, is_some}
use Rattle.std.specs.List.{list_any}
use Rattle.java_tree.specs.declared.tree.Node.{Node}
use Rattle.java_core.specs.Plain as p
use Rattle.reachability.specs.declared.ways.Ways.{Ways}
use Rattle.reachability.specs.declared.flaw.Flaw.{Flaw}
use Rattle.reachability.specs.Flaws.{noted}

abbrev pub flaw_unless : Bool → (node rule : ℕ) → Option Flaw → Option Flaw
flaw_unless true n r first = first
flaw_unless false n r first = noted n r first

-- ---- constant tests: `true` and `false`, also in brackets (15.28)

abbrev pub is_same_truth : Bool → Bool → Bool
is_same_truth true c = c
is_same_truth false c = not c

abbrev mutual
  pub is_constant : Bool → p.Expr → Bool
  is_constant b (p.At n t x) = is_constant_form b x

  pub is_constant_form : Bool → p.Form → Bool
  is_constant_form b (p.Truth c) = is_same_truth b c
  is_constant_form b (p.Paren x) = is_constant b x
  is_constant_form b _ = false

-- a loop without a test goes on for ever
abbrev pub is_endless : Option p.Expr → Bool
is_endless None = true
is_endless (Some x) = is_constant true x

abbrev pub is_never : Option p.Expr → Bool
is_never None = false
is_never (Some x) = is_constant false x

-- ---- ways

abbrev pub at : (alive : Bool) → Ways → Ways
at alive w = record { alive = alive; breaks = w.breaks; continues = w.continues; first = w.first }

-- a statement at this node: F1
abbrev pub reached : Node → Ways → Ways
reached n w = record { alive = w.alive; breaks = w.breaks; continues = w.continues; first = flaw_unless w.alive n.id 1 w.first }

-- in a body of its own, whose jumps are told apart
abbrev pub inside : (alive : Bool) → Ways → Ways
inside alive w = record { alive = alive; breaks = false; continues = false; first = w.first }

-- behind a loop that w led to, whose body ended as b
abbrev pub behind_loop : (w : Ways) → (ends : Bool) → (b : Ways) → Ways
behind_loop w ends b = record { alive = ends || b.breaks; breaks = w.breaks; continues = w.continues; first = b.first }

abbrev pub behind_do : (w : Ways) → p.Expr → (b : Ways) → Ways
behind_do w x b = behind_loop w ((b.alive || b.continues) && not (is_constant true x)) b

-- before the groups of a switch: its breaks are its own
abbrev pub in_switch : Ways → Ways
in_switch w = record { alive = false; breaks = false; continues = w.continues; first = w.first }

abbrev pub is_default_group : p.Group → Bool
is_default_group (p.Labelled n ls ss) = list_any (λ l. not (is_some l)) ls

abbrev pub has_default : p.Groups → Bool
has_default p.NoGroup = false
has_default (p.AndGroup g gs) = is_default_group g || has_default gs

-- behind a switch that w led to, whose groups ended as b
abbrev pub behind_switch : (w : Ways) → (has_default : Bool) → (b : Ways) → Ways
behind_switch w has_default b = record {
  alive = b.alive || b.breaks || (w.alive && not has_default);
  breaks = w.breaks;
  continues = b.continues;
  first = b.first;
}

-- in the catches of a try that w led to, whose block ended as b
abbrev pub in_catches : (w b : Ways) → Ways
in_catches w b = record { alive = b.alive; breaks = w.breaks; continues = w.continues; first = b.first }

-- Behind a try whose block ended as b, whose block or catches end normally where `ends` says so, and whose finally block ended as w: where that cannot complete
-- normally, the jumps of the try's block go nowhere.
abbrev pub behind_try : (b : Ways) → (ends : Bool) → (w : Ways) → Ways
behind_try b ends w = record {
  alive = ends && w.alive;
  breaks = w.breaks || (b.breaks && w.alive);
  continues = w.continues || (b.continues && w.alive);
  first = w.first;
}

abbrev pub or_alive : Bool → Ways → Ways
or_alive alive w = at (alive || w.alive) w

abbrev pub broken : Ways → Ways
broken w = record { alive = false; breaks = w.breaks || w.alive; continues = w.continues; first = w.first }

abbrev pub continued : Ways → Ways
continued w = record { alive = false; breaks = w.breaks; continues = w.continues || w.alive; first = w.first }

-- ---- statements

abbrev mutual
  pub walk : p.Stmt → Ways → Ways
  walk (p.Block n ss) w = walks ss (reached n w)
  walk (p.Locals n is_final t vs) w = reached n w
  walk (p.Empty n) w = reached n w
  walk (p.Value n x) w = reached n w
  walk (p.If n x a b) w = otherwise w.alive b (walk a (reached n w))
  walk (p.While n x a) w = behind_loop w (w.alive && not (is_constant true x)) (walk a (inside (w.alive && not (is_constant false x)) (reached n w)))
  walk (p.Do n a x) w = behind_do w x (walk a (inside w.alive (reached n w)))
  walk (p.For n ss x xs a) w = behind_loop w (w.alive && not (is_endless x)) (walk a (inside (w.alive && not (is_never x)) (walks ss (reached n w))))
  walk (p.ForEach n is_final t v x item implied a) w = behind_loop w w.alive (walk a (inside w.alive (reached n w)))
  walk (p.Switch n x gs) w = behind_switch w (has_default gs) (groups w.alive gs (in_switch (reached n w)))
  walk (p.Break n) w = broken (reached n w)
  walk (p.Continue n) w = continued (reached n w)
  walk (p.Return n x) w = at false (reached n w)
  walk (p.Throw n x) w = at false (reached n w)
  walk (p.Try n a cs b) w = let block = walk a (inside w.alive (reached n w)) in finished w.alive b block (catches w.alive cs (in_catches w block))
  walk (p.ThisCall n k xs) w = reached n w
  walk (p.SuperFirst n k xs) w = reached n w

  pub walks : p.Stmts → Ways → Ways
  walks p.Last w = w
  walks (p.Then a ss) w = walks ss (walk a w)

  -- behind the first branch of an `if` that is reached or not: an `if` without `else` ends where it is reached
  pub otherwise : (alive : Bool) → p.MaybeStmt → Ways → Ways
  otherwise alive p.NoStmt w = at alive w
  otherwise alive (p.AStmt a) w = or_alive w.alive (walk a (at alive w))

  -- the groups of a switch that is reached or not; each bears a label
  pub groups : (alive : Bool) → p.Groups → Ways → Ways
  groups alive p.NoGroup w = w
  groups alive (p.AndGroup (p.Labelled n ls ss) gs) w = groups alive gs (walks ss (at alive w))

  -- the catches of a try that is reached or not
  pub catches : (alive : Bool) → p.Catches → Ways → Ways
  catches alive p.NoCatch w = w
  catches alive (p.AndCatch (p.Caught n x a) cs) w = catches alive cs (or_alive w.alive (walk a (at alive w)))

  -- the finally block of a try that is reached or not, whose block ended as b and whose catches ended as w
  pub finished : (alive : Bool) → p.MaybeStmt → (b w : Ways) → Ways
  finished alive p.NoStmt b w = behind_try b w.alive (at true w)
  finished alive (p.AStmt a) b w = behind_try b w.alive (walk a (at alive w))

-- ---- bodies

abbrev pub start : Option Flaw → Ways
start first = record { alive = true; breaks = false; continues = false; first = first }

-- whether a statement that is reached can complete normally
abbrev pub completes : p.Stmt → Bool
completes a = (walk a (start None)).alive

-- F2
abbrev pub ended : (gives : Bool) → Node → Ways → Option Flaw
ended gives n w = flaw_unless (not (gives && w.alive)) n.id 2 w.first

abbrev pub in_body : (gives : Bool) → Node → Option p.Stmt → Option Flaw → Option Flaw
in_body gives n None first = first
in_body gives n (Some a) first = ended gives n (walk a (start first))

abbrev pub in_member : p.Member → Option Flaw → Option Flaw
in_member (p.Fields n t xs) first = first
in_member (p.AMethod m) first = in_body (is_some m.result) m.node m.body first

abbrev pub in_members : List p.Member → Option Flaw → Option Flaw
in_members [] first = first
in_members (m ∷ ms) first = in_members ms (in_member m first)

abbrev pub in_classes : List p.Class → Option Flaw → Option Flaw
in_classes [] first = first
in_classes (c ∷ cs) first = in_classes cs (in_members c.members first)

abbrev pub in_files : List p.File → Option Flaw → Option Flaw
in_files [] first = first
in_files (x ∷ xs) first = in_files xs (in_classes x.classes first)

-- The first of F1 and F2 that a program breaks.
abbrev pub unreached : p.Program → Option Flaw
unreached x = in_files x.files None
