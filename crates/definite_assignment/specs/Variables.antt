-- Lists of variables that are not definitely assigned, each once.
use Rattle.std.specs.Prelude.{Bool, false, not, List, [], ◌∷◌, ◌++◌, filter, ◌==◌, if◌then◌else◌}
use Rattle.std.specs.List.{list_any}
use Rattle.definite_assignment.specs.declared.state.Variable.{Variable}
use Rattle.definite_assignment.specs.declared.state.Variable.TheVariants as v

abbrev pub is_same : Variable → Variable → Bool
is_same (v.Local j) (v.Local k) = j == k
is_same (v.Blank m f) (v.Blank n g) = f == g
is_same _ _ = false

abbrev pub has : List Variable → Variable → Bool
has xs x = list_any (λ y. is_same y x) xs

abbrev pub with_one : List Variable → Variable → List Variable
with_one xs x = if has xs x then xs else xs ++ x ∷ []

abbrev pub without : List Variable → Variable → List Variable
without xs x = filter (λ y. not (is_same y x)) xs

-- those of either
abbrev pub either : List Variable → List Variable → List Variable
either xs [] = xs
either xs (y ∷ ys) = either (with_one xs y) ys

-- those of both
abbrev pub both : List Variable → List Variable → List Variable
both xs ys = filter (has ys) xs
