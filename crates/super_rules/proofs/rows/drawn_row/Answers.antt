use Rattle.std.proofs.Common.{sym, subst}
use Rattle.std.proofs.lemmas.Result.{IfOk-weaker}
use Rattle.super_rules.specs.Looks.{IsRow, IsDrawn}
use Rattle.super_rules.proofs.rows.drawn_row.Goals as goal

pub returns-in-All : goal.returns-in-All
returns-in-All c = λ java fs types has at.
    IfOk-weaker c.row_of.result _ _ (λ row h. subst (λ e. IsRow row (IsDrawn java fs types e c.args.number)) (sym c.in-All.is) h) (c.row_of.ensures java fs types has at)

pub returns-else-info : goal.returns-else-info
returns-else-info c = λ java fs types has at.
    IfOk-weaker c.row_of-in-FromLibraries.result _ _ (λ row h.
    subst (λ e. IsRow row (IsDrawn java fs types e c.args.number)) (sym c.in-FromLibraries.is)
    (λ g. (λ own. ((c.args.info.now, at, c.if-info.false), (h g).0 own), λ drawn. (h g).1 drawn.1))) (c.row_of-in-FromLibraries.ensures java fs types has at)

pub returns-in-Superclasses : goal.returns-in-Superclasses
returns-in-Superclasses c = λ java fs types has at.
    IfOk-weaker c.row_of-in-Superclasses.result _ _ (λ row h. subst (λ e. IsRow row (IsDrawn java fs types e c.args.number)) (sym c.in-Superclasses.is) h)
    (c.row_of-in-Superclasses.ensures java fs types has at)
