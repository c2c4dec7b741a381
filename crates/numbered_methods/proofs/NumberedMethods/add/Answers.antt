use Rattle.std.proofs.Common.{refl, sym, ap, ◌∙◌, subst}
use Rattle.seen_methods.specs.Seen.{TellsParams}
use Rattle.signature_numbers.specs.Numbers.{number_in}
use Rattle.numbered_methods.specs.declared.NumberedMethods.{NumberedMethods}
use Rattle.numbered_methods.proofs.Listing.{added_none, added_told, unseen}
use Rattle.numbered_methods.proofs.NumberedMethods.add.Goals as goal

pub returns-in_default : goal.returns-in_default
returns-in_default c = added_none c.args.w.now c.args.m c.args.self.now c.requires.apart (λ info ps method has. c.in_default.ensures.none info method)

pub returns-in_default-2 : goal.returns-in_default-2
returns-in_default-2 c =
    added_none c.args.w.now c.args.m c.args.self.now c.requires.apart (λ info ps method has. unseen c.args.w.now c.args.self.now.class c.args.m c.in_ok-params.field-0 ps c.in_ok-params.ensures c.in_default-2.not-Some has)

pub returns : goal.returns
returns c =
    let w = c.args.w.now in
    let old = c.args.self.now in
    let info = c.in-Some.info.now in
    let params = c.in-Some-2.params in
    let numbers = c.number.new.self in
    let new : NumberedMethods = record { class = old.class; numbers = numbers; lists = c.add_to.new.lists } in
    added_told w c.args.m c.in_ok-number.number info params old new c.in-Some.ensures.some (subst (TellsParams w old.class c.args.m) c.in-Some-2.is c.in_ok-params.ensures) refl c.in_ok-number.ensures.apart
    c.in_ok-number.ensures.kept (ap (number_in numbers info.name) (sym c.as_slice.ensures) ∙ c.in_ok-number.ensures.number) c.in_ok-add_to.ensures.here c.in_ok-add_to.ensures.others
