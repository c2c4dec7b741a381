use Rattle.std.proofs.Common.{◌≡◌, ◌++◌, true, false, List, ℕ, map, get_or, sym, ap, ◌∙◌, subst, refl}
use Rattle.std.specs.String.{string_bytes}
use Rattle.java_tree.specs.Names.{with_text, AreDistinct}
use Rattle.java_tree.proofs.Tables.{with_text_distinct}
use Rattle.command_words.specs.Names.{is_among}
use Rattle.command_words.proofs.Sets.{added, there, all_taken, told_new, told_old}
use Rattle.command_words.proofs.word_set.WordSet.add_new.Goals as goal

pub loop-word-preserved : goal.loop-word-preserved
loop-word-preserved c =
    let item : List ℕ = string_bytes (get_or c.args.words.now c.loop-word.word-index c.word-item.result) in
    let is : c.as_bytes.result.now ≡ item = c.as_bytes.ensures.value ∙ ap string_bytes c.word-item.is in
    let absent : is_among c.as_bytes.result.now c.loop-word.self ≡ false = told_new c.in_ok-insert.field-0 (is_among c.as_bytes.result.now c.loop-word.self) c.in_ok-insert.ensures.new c.if-not-branch.false in
    record {
      table = added c.args.self.now c.loop-word.self c.insert.new.self c.args.words.now c.loop-word.word-index c.word-item.result c.loop-word-test.true c.loop-word.invariant.table
          (subst (λ t. is_among t c.loop-word.self ≡ false) is absent) (c.in_ok-insert.ensures.table ∙ ap (λ t. with_text t c.loop-word.self) is);
      distinct = λ d. subst AreDistinct (sym c.in_ok-insert.ensures.table) (with_text_distinct c.as_bytes.result.now c.loop-word.self (c.loop-word.invariant.distinct d));
    }

pub returns-then-not-branch-clause-new : goal.returns-then-not-branch-clause-new
returns-then-not-branch-clause-new c d =
    let item : List ℕ = string_bytes (get_or c.args.words.now c.loop-word.word-index c.word-item.result) in
    let is : c.as_bytes.result.now ≡ item = c.as_bytes.ensures.value ∙ ap string_bytes c.word-item.is in
    let present : is_among c.as_bytes.result.now c.loop-word.self ≡ true = told_old c.in_ok-insert.field-0 (is_among c.as_bytes.result.now c.loop-word.self) c.in_ok-insert.ensures.new c.if-not-branch.true in (
      λ t. absurd (cc),
      λ ds. absurd (there c.args.self.now c.loop-word.self c.args.words.now c.loop-word.word-index c.word-item.result c.loop-word-test.true c.loop-word.invariant.table (subst (λ t. is_among t c.loop-word.self ≡ true) is present) ds),
    )

pub returns-clause-table : goal.returns-clause-table
returns-clause-table c t = c.loop-word.invariant.table ∙ ap (λ ws. c.args.self.now ++ map string_bytes ws) (all_taken c.args.words.now c.loop-word.word-index c.loop-word-test.false)

pub returns-clause-new : goal.returns-clause-new
returns-clause-new c d =
    let table : c.loop-word.self ≡ c.args.self.now ++ map string_bytes c.args.words.now =
    c.loop-word.invariant.table ∙ ap (λ ws. c.args.self.now ++ map string_bytes ws) (all_taken c.args.words.now c.loop-word.word-index c.loop-word-test.false) in
    (λ t. subst AreDistinct table (c.loop-word.invariant.distinct d), λ ds. refl)
