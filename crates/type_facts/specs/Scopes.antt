-- What is in scope.
use Rattle.std.specs.Prelude.{List, [], ◌∷◌, length, Option, Some, None, ◌==◌, if◌then◌else◌}
use Rattle.java_tree.specs.declared.tree.Name.{Name}
use Rattle.class_world.specs.declared.world.JavaType.{JavaType}
use Rattle.class_world.specs.Types.{with_own}
use Rattle.type_facts.specs.declared.scope.LocalVar.{LocalVar}
use Rattle.type_facts.specs.declared.scope.Place.{Place}

-- the last local or parameter of a name, or what was found before
abbrev pub find_from : Option LocalVar → List LocalVar → Name → Option LocalVar
find_from found [] x = found
find_from found (l ∷ ls) x = find_from (if l.name.0 == x.0 then Some l else found) ls x

-- The local or parameter of a name: the one that was declared last, where two have it (T5).
abbrev pub find_local : List LocalVar → Name → Option LocalVar
find_local ls x = find_from None ls x

-- the type of `this`: the class with its own variables
abbrev pub own_type : Place → JavaType
own_type g = with_own g.class (length g.vars)
