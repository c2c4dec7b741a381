use Rattle.numbered_methods.proofs.Listing.{alike_told}
use Rattle.numbered_methods.proofs.NumberedMethods.alike.Goals as goal

pub returns : goal.returns
returns c d ms is = alike_told c.args.w.now d c.args.m ms c.listed.result.now c.args.self.now c.in_ok-number.number is c.in_ok-number.ensures c.listed.ensures
