use Rattle.std.proofs.Common.{◌≡◌, ◌<◌, ◌++◌, [], ◌∷◌, List, ℕ, length, map, sym, ap, ◌∙◌, subst, arith}
use Rattle.std.proofs.lemmas.Bool.{eqb-true}
use Rattle.std.proofs.lemmas.Bool.Decides.{nat_tests}
use Rattle.std.proofs.lemmas.List.{append-nil, nil_from_length, map-append}
use Rattle.report_reading.specs.declared.stop.Stop.{Stop}
use Rattle.report_reading.specs.Lines.{Parts, parts, AreLines, lines_text}
use Rattle.report_reading.specs.Reading.{Fails, line_at}
use Rattle.report_reading.proofs.Lines.{ends, alone, line_shorter, more_lines}
use Rattle.report_reading.proofs.report_reader.lines_of.Goals as goal

pub returns-clause-only : goal.returns-clause-only
returns-clause-only c ms are e =
    let nothing : c.loop-rest.rest.now ≡ [] = nil_from_length c.loop-rest.rest.now (eqb-true _ 0 (sym c.is_empty.ensures ∙ c.loop-rest-test.false)) in
    let ls : List Parts = map parts c.loop-rest.lines in
    alone ls ms c.loop-rest.invariant.are are (e ∙ sym c.loop-rest.invariant.text ∙ ap (λ (x : List ℕ). lines_text ls ++ x) nothing ∙ append-nil (lines_text ls))

pub loop-rest-smaller : goal.loop-rest-smaller
loop-rest-smaller c = line_shorter c.loop-rest.rest.now (parts c.in-Ok.line) c.in-Ok.behind.now c.in-Ok.ensures

pub loop-rest-preserved : goal.loop-rest-preserved
loop-rest-preserved c =
    let m = more_lines (map parts c.loop-rest.lines) (parts c.in-Ok.line) c.args.text.now c.loop-rest.rest.now c.in-Ok.behind.now c.loop-rest.invariant.are c.loop-rest.invariant.text c.in-Ok.ensures in
    let made : map parts c.push.new.self ≡ map parts c.loop-rest.lines ++ parts c.in-Ok.line ∷ [] = ap (map parts) c.in_ok-push-in-Ok.ensures.ok ∙ map-append parts c.loop-rest.lines (c.in-Ok.line ∷ []) in
    record {
      are = subst AreLines (sym made) m.0;
      text = subst (λ (x : List Parts). lines_text x ++ c.in-Ok.behind.now ≡ c.args.text.now) (sym made) m.1;
    }

pub returns-in-Err-clause-none : goal.returns-in-Err-clause-none
returns-in-Err-clause-none c is ms are e =
    let some : 0 < length c.loop-rest.rest.now = grind (arith, nat_tests) in
    ends (map parts c.loop-rest.lines) ms c.loop-rest.rest.now c.loop-rest.invariant.are are (e ∙ sym c.loop-rest.invariant.text) some (subst (λ (s : Stop). Fails s (line_at c.loop-rest.rest.now)) is c.in-Err.ensures)
