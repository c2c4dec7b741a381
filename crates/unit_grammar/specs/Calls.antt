-- Where this(..) and super(..) stand (JLS 3rd edition, 8.8.7): only first in the body of a constructor.
use Rattle.std.specs.Prelude.{◌⊎◌, Bool, true, false}
use Rattle.java_tree.specs.Plain as t
use Rattle.java_tree.specs.Plain.{Stmt, MaybeStmt, Stmts, Group, Groups, Catch, Catches}

-- no this(..) and no super(..) stands there
abbrev mutual
  pub CallsNone : Stmt → Type 0
  CallsNone (t.Block n xs) = AllCallNone xs
  CallsNone (t.If n e x y) = CallsNone x × MaybeCallsNone y
  CallsNone (t.While n e x) = CallsNone x
  CallsNone (t.Do n x e) = CallsNone x
  CallsNone (t.For n xs e es x) = AllCallNone xs × CallsNone x
  CallsNone (t.ForEach n f ty v e x) = CallsNone x
  CallsNone (t.Switch n e gs) = GroupsCallNone gs
  CallsNone (t.Try n x cs last) = CallsNone x × CatchesCallNone cs × MaybeCallsNone last
  CallsNone (t.ThisCall n es) = ⊥
  CallsNone (t.SuperCall n es) = ⊥
  CallsNone (t.Local n f ty vs) = Unit {0}
  CallsNone (t.Empty n) = Unit {0}
  CallsNone (t.Value n e) = Unit {0}
  CallsNone (t.Break n) = Unit {0}
  CallsNone (t.Continue n) = Unit {0}
  CallsNone (t.Return n e) = Unit {0}
  CallsNone (t.Throw n e) = Unit {0}

  pub MaybeCallsNone : MaybeStmt → Type 0
  MaybeCallsNone t.NoStmt = Unit {0}
  MaybeCallsNone (t.AStmt x) = CallsNone x

  pub AllCallNone : Stmts → Type 0
  AllCallNone t.Last = Unit {0}
  AllCallNone (t.Then x xs) = CallsNone x × AllCallNone xs

  pub GroupsCallNone : Groups → Type 0
  GroupsCallNone t.NoGroup = Unit {0}
  GroupsCallNone (t.AndGroup (t.Labelled n ls xs) gs) = AllCallNone xs × GroupsCallNone gs

  pub CatchesCallNone : Catches → Type 0
  CatchesCallNone t.NoCatch = Unit {0}
  CatchesCallNone (t.AndCatch (t.Caught n p x) cs) = CallsNone x × CatchesCallNone cs

-- this(..) or super(..)
abbrev pub IsConstructorCall : Stmt → Type 0
IsConstructorCall (t.ThisCall n es) = Unit {0}
IsConstructorCall (t.SuperCall n es) = Unit {0}
IsConstructorCall _ = ⊥

-- in the body of a constructor, or of a method
abbrev pub CallsInPlace : (constructor : Bool) → Stmt → Type 0
CallsInPlace true (t.Block n (t.Then x xs)) = (IsConstructorCall x ⊎ CallsNone x) × AllCallNone xs
CallsInPlace true x = CallsNone x
CallsInPlace false x = CallsNone x
