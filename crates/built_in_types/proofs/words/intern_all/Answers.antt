use Rattle.std.proofs.Common.{◌≡◌, ℕ, List, ◌+◌, ◌<◌, ◌≤◌, [], ◌∷◌, map, drop, length, length-append, get_or, slice_get, Some, sym, ap, ◌∙◌, subst, arith}
use Rattle.std.proofs.lemmas.List.{get_or-map, length-map}
use Rattle.std.proofs.lemmas.Option.{slice_get-get_or}
use Rattle.java_tree.specs.declared.tree.Name.{Name}
use Rattle.java_tree.specs.Names.{with_text}
use Rattle.java_tree.proofs.Tables.{length_with_text}
use Rattle.built_in_types.specs.BuiltIns.{with_texts}
use Rattle.built_in_types.proofs.Lists.{word_more, interned_more, interned_all}
use Rattle.built_in_types.proofs.words.intern_all.Goals as goal

pub loop-text-preserved : goal.loop-text-preserved
loop-text-preserved c =
    let i = c.loop-text.text-index in
    let ts : List (List ℕ) = map (λ t. t.now) c.args.texts.now in
    let same : length c.loop-text.numbers ≡ i = c.loop-text.invariant.long in
    let grown : length c.intern.new.self ≤ length c.loop-text.names + 1 = subst (λ t. length t ≤ length c.loop-text.names + 1) (sym c.in_ok-intern.ensures.table) (length_with_text _ c.loop-text.names) in
    let there : slice_get ts (length c.loop-text.numbers) ≡ Some (get_or ts i []) =
    subst (λ n. slice_get ts n ≡ Some (get_or ts i [])) (sym same) (slice_get-get_or ts i [] (subst (λ n. i < n) (sym (length-map c.args.texts.now (λ t. t.now))) c.loop-text-test.true)) in
    let given : slice_get c.intern.new.self c.in_ok-intern.field-0.0 ≡ Some (get_or ts i []) =
    c.in_ok-intern.ensures.given ∙ ap Some (sym (get_or-map (λ t. t.now) c.args.texts.now i _ [] c.loop-text-test.true)) in
    record {
      kept = λ n text e. c.in_ok-intern.ensures.kept n text (c.loop-text.invariant.kept n text e);
      few = omega (arith, grown, c.loop-text.invariant.few);
      table =
          ap (with_texts (drop (i + 1) ts)) (c.in_ok-intern.ensures.table ∙ ap (λ t. with_text t c.loop-text.names) (sym (get_or-map (λ t. t.now) c.args.texts.now i _ [] c.loop-text-test.true)))
          ∙ interned_more ts c.loop-text.names i (subst (λ n. i < n) (sym (length-map c.args.texts.now (λ t. t.now))) c.loop-text-test.true)
          ∙ c.loop-text.invariant.table;
      long = ap length c.in_ok-push.ensures.ok ∙ length-append {A = Name} c.loop-text.numbers (c.in_ok-intern.field-0 ∷ []) ∙ omega (arith, same);
      words = λ k u low e. word_more ts c.loop-text.names c.intern.new.self c.loop-text.numbers c.push.new.self c.in_ok-intern.field-0 (get_or ts i [])
          c.in_ok-intern.ensures.kept c.in_ok-push.ensures.ok there given
          (λ j v lower. c.loop-text.invariant.words j v (omega (arith, same, lower))) k u (omega (arith, same, low)) e;
    }

pub returns-clause-table : goal.returns-clause-table
returns-clause-table c =
    let ts : List (List ℕ) = map (λ t. t.now) c.args.texts.now in
    let size = length-map c.args.texts.now (λ t. t.now) in
    let all : length ts ≤ c.loop-text.text-index = omega (arith, size, c.loop-text-test.false) in
    sym (interned_all ts c.loop-text.names c.loop-text.text-index all) ∙ c.loop-text.invariant.table
