-- Types spelled as rows of signs.
use Rattle.std.specs.Prelude.{◌≡◌, Bool, List, [], ◌∷◌, ◌++◌, Vec}
use Rattle.std.specs.List.{list_any}
use Rattle.std.specs.Cmp.Lexicographic.{pointwise}
use Rattle.std.specs.HashSet.{HashSet, contains}
use Rattle.std.specs.declared.alloc.Global.{Global}
use Rattle.java_tree.specs.declared.tree.Primitive.TheVariants as prim
use Rattle.java_tree.specs.Plain as t
use Rattle.java_tree.specs.Plain.{TypeExpr, TypeExprs}
use Rattle.written_types.specs.Places.{Place}
use Rattle.written_types.specs.declared.scope.Named.{Named}
use Rattle.written_types.specs.declared.scope.Named.TheVariants as named
use Rattle.written_types.specs.Walk.{head_named}
use Rattle.written_types.specs.Breaks.{length_of}
use Rattle.declared_types.specs.contracts.spelling.SignPartialEq.TheImpl.{eq-value}
use Rattle.declared_types.specs.declared.spelling.Sign.{Sign}
use Rattle.declared_types.specs.declared.spelling.Sign.TheVariants as sign

abbrev pub head_sign : Named → Sign
head_sign (named.Primitive prim.Int) = sign.Int
head_sign (named.Primitive prim.Long) = sign.Long
head_sign (named.Primitive prim.Char) = sign.Char
head_sign (named.Primitive prim.Boolean) = sign.Boolean
head_sign (named.Variable k) = sign.Variable k
head_sign (named.Type c) = sign.Type c
head_sign named.Nothing = sign.Nothing

abbrev mutual
  -- array levels, head and number of arguments, and then the arguments
  pub spelled : Place → TypeExpr → List Sign
  spelled p (t.Written n h s xs d) = (sign.Levels d ∷ head_sign (head_named p h) ∷ sign.Arguments (length_of xs) ∷ []) ++ all_spelled p xs

  pub all_spelled : Place → TypeExprs → List Sign
  all_spelled p t.NoTypes = []
  all_spelled p (t.AndType x xs) = spelled p x ++ all_spelled p xs

-- what `==` answers
abbrev pub same_sign : Sign → Sign → Bool
same_sign = eq-value.it

-- whether one of these is spelled like x
abbrev pub is_spelled : Place → List TypeExpr → TypeExpr → Bool
is_spelled p before x = list_any (λ y. pointwise same_sign (spelled p x) (spelled p y)) before

-- the set of the spellings of these
abbrev pub HoldsSpelled : {S : Type 0} → Place → HashSet (Vec Sign Global) S → List TypeExpr → Type 0
HoldsSpelled p seen before = (q : Vec Sign Global) → contains (λ x y. pointwise same_sign x.items y.items) seen q ≡ list_any (λ y. pointwise same_sign q.items (spelled p y)) before
