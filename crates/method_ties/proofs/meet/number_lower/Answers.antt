use Rattle.std.proofs.Common.{◌↔◌, ℕ, List, sym, subst}
use Rattle.std.specs.List.{Contains}
use Rattle.std.specs.List.Sorted.{IsStrictlyIncreasing}
use Rattle.method_ties.specs.Sides.{IsLower}
use Rattle.method_ties.specs.Tables.{IsKeyedLower}
use Rattle.method_ties.proofs.Firsts.{once_rising}
use Rattle.method_ties.proofs.Numbering.{tables_made}
use Rattle.method_ties.proofs.meet.number_lower.Goals as goal

pub make-requires-clause-once : goal.make-requires-clause-once
make-requires-clause-once c = once_rising c.as_slice.result.now (subst IsStrictlyIncreasing (sym c.as_slice.ensures.value) c.in_ok-lower.ensures.ascending)

pub returns-clause-tables : goal.returns-clause-tables
returns-clause-tables c =
    let w = c.args.w.now in
    let key = c.args.key in
    let lower = c.as_slice.result.now in
    let has = subst (λ (l : List ℕ). (m : ℕ) → Contains l m ↔ (Contains c.args.listed.now m × IsLower w key.owner m)) (sym c.as_slice.ensures.value) c.in_ok-lower.ensures.has in
    tables_made w (IsKeyedLower w) lower key c.args.tables.now c.make.new.self c.requires.tables c.in_ok-make.ensures (λ m. (
      λ h. let t = (has m).0 h in ((c.requires.listed.0 m).0 t.0, t.1),
      λ h. (has m).1 ((c.requires.listed.0 m).1 h.0, h.1),
    ))
