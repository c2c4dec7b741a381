use Rattle.std.proofs.Common.{ap}
use Rattle.run_frames.specs.Runs.{comes, place_of, whole}
use Rattle.run_frames.proofs.Steps.{ok_as}
use Rattle.run_statements.proofs.Begins.{block, breaks, chooses, constructs_above, constructs_on, continues, counts, declares, does, empty, evaluates, goes_over, repeats, returns_with, switches, throws, tries}
use Rattle.run_statements.proofs.statements.statement.Goals as goal

pub returns-in-Block : goal.returns-in-Block
returns-in-Block c k is =
    let old = c.args.run.now in
    let i = c.in-Block in
    ok_as c.execute_from.result (whole k c.execute_from.new.run) (comes k old) _ _ (block (place_of k old) c.args.x.now old.state i.stmts i.is) (c.execute_from.ensures k)

pub returns-in-Local : goal.returns-in-Local
returns-in-Local c k is =
    let old = c.args.run.now in
    let i = c.in-Local in
    ok_as c.locals_from.result (whole k c.locals_from.new.run) (comes k old) _ _ (declares (place_of k old) c.args.x.now old.state i.is_final i.written i.vars i.is) (c.locals_from.ensures k)

pub returns-in-Value : goal.returns-in-Value
returns-in-Value c k is =
    let old = c.args.run.now in
    let i = c.in-Value in
    ok_as c.evaluate.result (whole k c.evaluate.new.run) (comes k old) _ _ (evaluates (place_of k old) c.args.x.now old.state i.x i.is) (c.evaluate.ensures k)

pub returns-in-If : goal.returns-in-If
returns-in-If c k is =
    let old = c.args.run.now in
    let i = c.in-If in
    ok_as c.evaluate-in-If.result (whole k c.evaluate-in-If.new.run) (comes k old) _ _ (chooses (place_of k old) c.args.x.now old.state i.test i.yes i.no i.is) (c.evaluate-in-If.ensures k)

pub returns-in-While : goal.returns-in-While
returns-in-While c k is =
    let old = c.args.run.now in
    let i = c.in-While in
    ok_as c.begin_loop.result (whole k c.begin_loop.new.run) (comes k old) _ _ (repeats (place_of k old) c.args.x.now old.state i.test i.body i.is) (c.begin_loop.ensures k is)

pub returns-in-Do : goal.returns-in-Do
returns-in-Do c k is =
    let old = c.args.run.now in
    let i = c.in-Do in
    ok_as c.begin_do.result (whole k c.begin_do.new.run) (comes k old) _ _ (does (place_of k old) c.args.x.now old.state i.body i.test i.is) (c.begin_do.ensures k)

pub returns-in-For : goal.returns-in-For
returns-in-For c k is =
    let old = c.args.run.now in
    let i = c.in-For in
    ok_as c.begin_for.result (whole k c.begin_for.new.run) (comes k old) _ _ (counts (place_of k old) c.args.x.now old.state i.init i.test i.step i.body i.is) (c.begin_for.ensures k)

pub returns-in-ForEach : goal.returns-in-ForEach
returns-in-ForEach c k is =
    let old = c.args.run.now in
    let i = c.in-ForEach in
    ok_as c.evaluate-in-ForEach.result (whole k c.evaluate-in-ForEach.new.run) (comes k old) _ _ (goes_over (place_of k old) c.args.x.now old.state i.is_final i.written i.var i.over i.item i.implied i.body i.is) (c.evaluate-in-ForEach.ensures k)

pub returns-in-Switch : goal.returns-in-Switch
returns-in-Switch c k is =
    let old = c.args.run.now in
    let i = c.in-Switch in
    ok_as c.evaluate-in-Switch.result (whole k c.evaluate-in-Switch.new.run) (comes k old) _ _ (switches (place_of k old) c.args.x.now old.state i.on i.groups i.is) (c.evaluate-in-Switch.ensures k)

pub returns-in-Return : goal.returns-in-Return
returns-in-Return c k is =
    let old = c.args.run.now in
    let i = c.in-Return in
    ok_as c.begin_return.result (whole k c.begin_return.new.run) (comes k old) _ _ (returns_with (place_of k old) c.args.x.now old.state i.x i.is) (c.begin_return.ensures k)

pub returns-in-Throw : goal.returns-in-Throw
returns-in-Throw c k is =
    let old = c.args.run.now in
    let i = c.in-Throw in
    ok_as c.evaluate-in-Throw.result (whole k c.evaluate-in-Throw.new.run) (comes k old) _ _ (throws (place_of k old) c.args.x.now old.state i.x i.is) (c.evaluate-in-Throw.ensures k)

pub returns-in-Try : goal.returns-in-Try
returns-in-Try c k is =
    let old = c.args.run.now in
    let i = c.in-Try in
    ok_as c.begin_try.result (whole k c.begin_try.new.run) (comes k old) _ _ (tries (place_of k old) c.args.x.now old.state i.body i.catches i.last i.is) (c.begin_try.ensures k)

pub returns-in-ThisCall : goal.returns-in-ThisCall
returns-in-ThisCall c k is =
    let old = c.args.run.now in
    let i = c.in-ThisCall in
    ok_as c.evaluate_all.result (whole k c.evaluate_all.new.run) (comes k old) _ _ (constructs_on (place_of k old) c.args.x.now old.state i.constructor i.args i.is) (c.evaluate_all.ensures k)

pub returns-in-SuperCall : goal.returns-in-SuperCall
returns-in-SuperCall c k is =
    let old = c.args.run.now in
    let i = c.in-SuperCall in
    ok_as c.evaluate_all-in-SuperCall.result (whole k c.evaluate_all-in-SuperCall.new.run) (comes k old) _ _ (constructs_above (place_of k old) c.args.x.now old.state i.constructor i.args i.is) (c.evaluate_all-in-SuperCall.ensures k)

pub returns-in-Empty : goal.returns-in-Empty
returns-in-Empty c k is =
    let old = c.args.run.now in
    ap (comes k old) (empty (place_of k old) c.args.x.now old.state c.in-Empty.is)

pub returns-in-Break : goal.returns-in-Break
returns-in-Break c k is =
    let old = c.args.run.now in
    ap (comes k old) (breaks (place_of k old) c.args.x.now old.state c.in-Break.is)

pub returns-in-Continue : goal.returns-in-Continue
returns-in-Continue c k is =
    let old = c.args.run.now in
    ap (comes k old) (continues (place_of k old) c.args.x.now old.state c.in-Continue.is)
