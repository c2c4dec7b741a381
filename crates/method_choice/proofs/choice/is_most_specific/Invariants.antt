use Rattle.std.proofs.Common.{◌≡◌, drop, map}
use Rattle.java_core.specs.View.{plain}
use Rattle.type_kinds.specs.Kinds.{ty_of}
use Rattle.type_facts.specs.Facts.{AreFacts, Facts}
use Rattle.method_choice.specs.Choice.{is_most_specific}
use Rattle.method_choice.proofs.choice.is_most_specific.Given as goal

-- the candidates from here on decide
abbrev pub invariant-loop-d : goal.invariant-loop-d
invariant-loop-d l = (f : Facts) → AreFacts l.q f
    → is_most_specific f (map ty_of (map plain l.args)) (drop l.d-index l.candidates) l.c ≡ is_most_specific f (map ty_of (map plain l.args)) l.candidates l.c
