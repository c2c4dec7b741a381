use Rattle.std.proofs.Common.{ℕ, ◌+◌, List, drop, get_or, map, sym, subst, ◌∙◌}
use Rattle.std.specs.String.{string_bytes}
use Rattle.std.proofs.lemmas.Bool.{true≢false}
use Rattle.std.proofs.lemmas.List.{drop_all, drop_more}
use Rattle.extract_interface.proofs.Wanted.{AreSoFar, so_all, with_next, without_next}
use Rattle.extract_interface.proofs.methods.wanted.Goals as goal
use Rattle.extract_interface.proofs.methods.wanted.Goals.{then-is_wanted+in_ok-push, else-is_wanted}

pub loop-method-preserved : goal.loop-method-preserved
loop-method-preserved c =
    let w = c.args.w.now in
    let names = c.args.names.now in
    let words = map string_bytes c.args.words.now in
    let all = c.args.methods.now in
    let found = c.loop-method.found in
    let i = c.loop-method.method-index in
    let m = get_or all i 0 in
    let rest = drop (i + 1) all in
    let so = subst (λ (left : List ℕ). AreSoFar w names words all left found) (drop_more all i 0 c.loop-method-test.true) c.loop-method.invariant in
    elim c.if-is_wanted.branch [
      | then-is_wanted+in_ok-push b ↦
          subst (AreSoFar w names words all rest) (sym (b.found-is ∙ b.in_ok-push.ensures.ok)) (with_next w names words all rest found m (c.is_wanted.ensures.0 b.if-is_wanted.true) so)
      | else-is_wanted b ↦
          subst (AreSoFar w names words all rest) (sym b.found-is) (without_next w names words all rest found m (λ p. true≢false (sym (c.is_wanted.ensures.1 p) ∙ b.if-is_wanted.false)) so)
    ]

pub returns : goal.returns
returns c =
    let w = c.args.w.now in
    let names = c.args.names.now in
    let words = map string_bytes c.args.words.now in
    let all = c.args.methods.now in
    let found = c.loop-method.found in
    so_all w names words all found (subst (λ (left : List ℕ). AreSoFar w names words all left found) (drop_all c.loop-method.method-index all c.loop-method-test.false) c.loop-method.invariant)
