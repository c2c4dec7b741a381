use Rattle.std.proofs.Common.{◌-◌, refl, sym, subst, arith, length}
use Rattle.std.proofs.lemmas.Option.{slice_get_read}
use Rattle.std.proofs.lemmas.Result.{IfOk-weaker}
use Rattle.type_headers.specs.Declared.{place_of, written_supers}
use Rattle.super_rules.specs.Looks.{IsRow, IsLed, NamesOneOf}
use Rattle.super_rules.proofs.Edged as by
use Rattle.super_rules.proofs.rows.row_of.Goals as goal

pub returns-then-number-first : goal.returns-then-number-first
returns-then-number-first c = λ java fs types has at.
    IfOk-weaker c.built_in_row.result _ _ (λ row h. by.built_led java fs types c.args.classes c.args.number c.args.info.now row c.if-number-first.true at h) c.built_in_row.ensures

pub returns-in-None : goal.returns-in-None
returns-in-None c = λ java fs types has at.
    by.none_led java fs types c.args.classes c.args.number c.new.result c.new.ensures c.if-number-first.false (let past = c.in-None.ensures.lookup.3 in let size = has.size in omega (arith, past, size))

pub returns-then-classes : goal.returns-then-classes
returns-then-classes c = λ java fs types has at.
    let n = c.args.number in
    let e = c.in-Some.entry.now in
    let found = c.in-Some.ensures.lookup in
    let there = has.each (n - 19) e (slice_get_read c.args.entries.now (length c.args.entries.now) (n - 19) e refl found.3.0 found.1) in
    let is = there.2 in
    IfOk-weaker c.class_row.result _ _ (λ row h.
    subst (λ b. IsRow row (IsLed java fs types b n)) (sym c.if-classes.true) (by.class_led java fs types n there.0 e c.if-number-first.false there.1 is row
    (by.class_own java fs types there.0 e is row h))) (c.class_row.ensures (place_of java fs types there.0) is.place)

pub returns-else-classes : goal.returns-else-classes
returns-else-classes c = λ java fs types has at.
    let n = c.args.number in
    let e = c.in-Some.entry.now in
    let found = c.in-Some.ensures.lookup in
    let there = has.each (n - 19) e (slice_get_read c.args.entries.now (length c.args.entries.now) (n - 19) e refl found.3.0 found.1) in
    let is = there.2 in
    IfOk-weaker c.written_row.result _ _ (λ row h.
    subst (λ b. IsRow row (IsLed java fs types b n)) (sym c.if-classes.false) (by.written_led java fs types n there.0 e c.if-number-first.false there.1 is row
    (subst (λ d. IsRow row (NamesOneOf (place_of java fs types there.0) (written_supers d))) is.decl h))) (c.written_row.ensures (place_of java fs types there.0) is.place)
