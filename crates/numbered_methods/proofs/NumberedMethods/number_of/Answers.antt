use Rattle.std.proofs.Common.{ap, ◌∙◌, subst}
use Rattle.seen_methods.specs.Seen.{TellsParams}
use Rattle.signature_numbers.specs.Numbers.{number_in}
use Rattle.numbered_methods.proofs.Listing.{number_none, number_told}
use Rattle.numbered_methods.proofs.NumberedMethods.number_of.Goals as goal

pub returns-in_default : goal.returns-in_default
returns-in_default c = number_none c.args.w.now c.args.m c.args.self.now (λ info ps method has. c.in_default.ensures.none info method)

pub returns-in-Some-2 : goal.returns-in-Some-2
returns-in-Some-2 c =
    let w = c.args.w.now in
    let t = c.args.self.now in
    let info = c.in-Some.info.now in
    number_told w c.args.m info c.in-Some-2.params t c.find.result c.in-Some.ensures.some (subst (TellsParams w t.class c.args.m) c.in-Some-2.is c.in_ok-params.ensures)
    (c.find.ensures ∙ ap (number_in t.numbers info.name) c.as_slice.ensures)

pub returns-in-None : goal.returns-in-None
returns-in-None c =
    let w = c.args.w.now in
    let t = c.args.self.now in
    let told = subst (TellsParams w t.class c.args.m) c.in-None.is c.in_ok-params.ensures in
    number_none w c.args.m t (λ info ps method has. told ps has)
