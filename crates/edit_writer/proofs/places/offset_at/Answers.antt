use Rattle.std.proofs.Common.{◌≡◌, ℕ, suc, ◌<◌, ◌+◌, ◌⊎◌, inl, inr, ◌∷◌, length, sym, ◌∙◌, ap, subst, rules, arith}
use Rattle.edit_writer.specs.Places.{place_from, place_at}
use Rattle.edit_writer.proofs.Lines.{one_place, one_on, step_small}
use Rattle.edit_writer.proofs.places.offset_at.Goals as goal

pub returns-then-eq-clause-there : goal.returns-then-eq-clause-there
returns-then-eq-clause-there c =
    let plus : c.bytes.offset + 0 ≡ c.bytes.offset = omega arith in
    let here = subst (λ n. place_from c.bytes.at.line c.bytes.at.col c.bytes.rest.now 0 ≡ place_at c.args.text.now n) plus (c.bytes.invariant.here 0) in
    let same : c.bytes.at ≡ c.args.place = search rules in
    sym here ∙ same

pub returns-then-eq-clause-alone : goal.returns-then-eq-clause-alone
returns-then-eq-clause-alone c q lt e =
    one_place c.args.text.now q c.bytes.offset lt (omega (arith, c.bytes.invariant.within, c.in-Some.ensures.cases.1)) (e ∙ sym (returns-then-eq-clause-there c))

pub bytes-preserved : goal.bytes-preserved
bytes-preserved c =
    let split : c.bytes.rest.now ≡ c.in-Some.byte.now ∷ c.in-Some.behind.now = c.in-Some.ensures.cases.0 in
    let longer : length c.bytes.rest.now ≡ length c.in-Some.behind.now + 1 = ap length split ∙ omega arith in
    let small = step_small c.bytes.at.line c.bytes.at.col c.in-Some.byte.now c.in-Some.behind.now c.step-at.result (c.bytes.offset + 1) c.step-at.ensures c.bytes.invariant.line c.bytes.invariant.col in
    let next : (p : ℕ) → c.bytes.offset + suc p ≡ c.bytes.offset + 1 + p = λ p. omega arith in
    let turn : (p : ℕ) → place_from c.bytes.at.line c.bytes.at.col (c.in-Some.byte.now ∷ c.in-Some.behind.now) (suc p) ≡ place_at c.args.text.now (c.bytes.offset + suc p) =
    λ p. subst (λ xs. place_from c.bytes.at.line c.bytes.at.col xs (suc p) ≡ place_at c.args.text.now (c.bytes.offset + suc p)) split (c.bytes.invariant.here (suc p)) in
    let plus : c.bytes.offset + 0 ≡ c.bytes.offset = omega arith in
    let here = subst (λ n. place_from c.bytes.at.line c.bytes.at.col c.bytes.rest.now 0 ≡ place_at c.args.text.now n) plus (c.bytes.invariant.here 0) in
    let other : c.bytes.at ≡ c.args.place → ⊥ = search rules in
    let at_last : (q : ℕ) → q < c.bytes.offset + 1 → (q < c.bytes.offset) ⊎ (q ≡ c.bytes.offset) = λ q lt. grind (arith, lt) in
    record {
      here = λ p. sym (one_on c.bytes.at.line c.bytes.at.col c.in-Some.byte.now c.in-Some.behind.now p c.step-at.result c.step-at.ensures) ∙ turn p ∙ ap (place_at c.args.text.now) (next p);
      none = λ q lt e. elim (at_last q lt) [ inl below ↦ c.bytes.invariant.none q below e | inr same ↦ other (here ∙ ap (place_at c.args.text.now) (sym same) ∙ e) ];
      within = omega (arith, c.bytes.invariant.within, longer);
      line = omega (arith, small.0);
      col = omega (arith, small.1);
    }
