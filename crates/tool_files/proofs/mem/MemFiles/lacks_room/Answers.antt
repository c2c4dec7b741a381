use Rattle.std.proofs.Common.{sym, ◌∙◌, inr, ⊎_elim}
use Rattle.std.proofs.lemmas.Bool.{ltb-true, lt-ltb, eqb-false, both_ways}
use Rattle.tool_files.proofs.mem.MemFiles.lacks_room.Goals as goal
use Rattle.tool_files.proofs.mem.MemFiles.lacks_room.Goals.{then-is_new, else-is_new}

pub returns-else-self-eq0 : goal.returns-else-self-eq0
returns-else-self-eq0 c =
    rw (← c.self.view_is) (
      λ t. inr (ltb-true _ _ t),
      ⊎_elim
          (λ h. elim c.if-is_new.branch [
            | then-is_new w ↦ absurd (eqb-false _ _ (sym w.value-is ∙ c.if-self-eq0.false) h.0)
            | else-is_new w ↦ absurd (both_ways _ (c.place_of.ensures.none.1 (rw (c.deref.ensures.value, c.deref-2.ensures.value) h.1)) w.if-is_new.ensures)
          ])
          (λ l. lt-ltb _ _ l),
    )
