use Rattle.std.proofs.Common.{◌≡◌, ◌<◌, ◌∙◌, Some, length, refl, sym, ap, subst, arith}
use Rattle.std.specs.Prelude.{IfSome}
use Rattle.std.specs.Vec.{with_item}
use Rattle.std.proofs.lemmas.Option.{slice_get_read}
use Rattle.overrides.proofs.Places.{ok_both}
use Rattle.found_methods.specs.declared.firsts.Firsts.{Firsts}
use Rattle.found_methods.specs.Firsts.{end_with}
use Rattle.found_methods.specs.Tables.{IsBegun}
use Rattle.found_methods.proofs.Rises.{added_is, end_is}
use Rattle.found_methods.proofs.firsts.Firsts.add.Goals as goal
use Rattle.found_methods.proofs.firsts.Firsts.add.Goals.{in-Some, in-None}

pub set_all-requires-clause-keys : goal.set_all-requires-clause-keys
set_all-requires-clause-keys c = λ key value has. let lt = c.requires.keys key value has in let same = c.begin.ensures.size.keys in omega (arith, lt, same)

pub returns : goal.returns
returns c =
    let old = c.args.self.now in
    let ends = old.ends.items in
    let end = c.match-from.end in
    let new : Firsts = record { table = c.set_all.new.self; ends = with_item old.ends c.args.c end } in
    let is : end ≡ end_with ends c.args.from c.args.c = elim c.match-from.branch [
      | in-Some v ↦
          let lt : v.in-Some.s < length ends = subst (λ o. IfSome o (λ s. s < length ends)) v.in-Some.is c.requires.ends in
          let at = slice_get_read ends (length ends) v.in-Some.s v.index.result.now refl lt v.index.ensures in
          end_is ends c.args.from c.args.c v.in-Some.s end v.in-Some.is (at ∙ ap (λ x. Some x) (sym v.end-is))
      | in-None v ↦ v.end-is ∙ sym (ap (λ o. end_with ends o c.args.c) v.in-None.is)
    ] in
    let same : c.match-from.from ≡ c.args.from = elim c.match-from.branch [ in-Some v ↦ v.from-is ∙ sym v.in-Some.is | in-None v ↦ v.from-is ] in
    let begun = subst (IsBegun old.table c.begin.new.self c.args.c) same c.begin.ensures.begun in
    ok_both c.set_all.result (λ size over value are. added_is old new c.begin.new.self c.args.c end c.args.from value c.begin.ensures.size begun size (over value are) c.requires.end refl is) c.set_all.ensures.size c.set_all.ensures.overlaid
