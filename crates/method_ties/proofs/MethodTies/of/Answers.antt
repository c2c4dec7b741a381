use Rattle.std.proofs.Common.{ℕ, List, [], length, refl, arith}
use Rattle.std.proofs.lemmas.Option.{slice_get_within}
use Rattle.method_ties.specs.declared.Meeting.{Meeting}
use Rattle.method_ties.specs.Sides.{IsOnce}
use Rattle.method_ties.specs.Ties.{AreMeetings, AreReplaced}
use Rattle.method_ties.proofs.Firsts.{all_get, once_none}
use Rattle.method_ties.proofs.Members.{none_meet, none_replaced}
use Rattle.method_ties.proofs.MethodTies.of.Goals as goal

pub returns : goal.returns
returns c =
    let w = c.args.w.now in
    let replaced = all_get (AreReplaced w) c.in_ok-all_replaced.field-0.items (length w.methods) [] c.in_ok-all_replaced.ensures
    (λ m le. none_replaced w m [] refl (λ info is. let lt = slice_get_within w.methods m info is.0 in absurd (omega (arith, lt, le)))) in
    let meetings = all_get (λ (d : ℕ) (ps : List Meeting). AreMeetings w d ps × IsOnce ps) c.in_ok-all_meetings.field-0.items (length w.types) [] c.in_ok-all_meetings.ensures
    (λ d le. (none_meet w d [] refl (λ class. let lt = slice_get_within w.types d class.0 class.1 in absurd (omega (arith, lt, le))), once_none [] refl)) in
    record { replaced = replaced; meetings = λ d. (meetings d).0; once = λ d. (meetings d).1 }
