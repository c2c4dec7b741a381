use Rattle.std.proofs.Common.{◌∙◌, ◌∷◌, [], Some, true, inl, inr, refl, sym, ap, subst, length, arith}
use Rattle.std.specs.List.{Contains}
use Rattle.std.proofs.lemmas.Option.{slice_get_read}
use Rattle.std.proofs.lemmas.List.Elements.{Contains-append_left, Contains-push}
use Rattle.class_world.proofs.Words.{set_there, same_or_other}
use Rattle.overrides.proofs.order.put.Goals as goal
use Rattle.overrides.proofs.order.put.Goals.{else-at-len-via-then-at-len+else-not-index, else-at-len-via-else-at-len}

pub returns-in_ok-push-clause-there : goal.returns-in_ok-push-clause-there
returns-in_ok-push-clause-there c k is =
    rw c.in_ok-push.ensures.items (elim (same_or_other c.args.m k) [
      | inl same ↦ subst (Contains _) same (Contains-push c.args.methods.now.items c.args.m)
      | inr other ↦ Contains-append_left c.args.methods.now.items (c.args.m ∷ []) k (c.requires k (sym (set_there c.args.there.now.items c.args.m k true other) ∙ is))
    ])

pub returns-in_ok-push-clause-put : goal.returns-in_ok-push-clause-put
returns-in_ok-push-clause-put c lt = rw c.in_ok-push.ensures.items (Contains-push c.args.methods.now.items c.args.m)

pub returns-else-at-len-clause-put : goal.returns-else-at-len-clause-put
returns-else-at-len-clause-put c lt = elim c.else-at-len.branch [
  | else-at-len-via-then-at-len+else-not-index w ↦
      let there = c.args.there.now.items in
      c.requires c.args.m (slice_get_read there (length there) c.args.m w.index.result.now refl lt w.index.ensures ∙ ap (λ b. Some b) w.if-not-index.false)
  | else-at-len-via-else-at-len w ↦ absurd (omega (arith, w.if-at-len.false, lt, c.len.ensures, c.args.there.now.ok.0))
]
