-- Fields one by one, as the code has them: behind references.
use Rattle.std.proofs.Common.{◌≡◌, ℕ, ◌+◌, ◌<◌, List, [], ◌∷◌, map, drop, length, get_or, true, Some, None, slice_get, refl, sym, ap, ◌∙◌}
use Rattle.std.proofs.lemmas.List.{drop-map}
use Rattle.std.specs.Option.{option_map}
use Rattle.java_core.specs.declared.expr.CoreExpr.{CoreExpr}
use Rattle.java_core.specs.declared.program.CoreField.{CoreField}
use Rattle.java_core.specs.View.{field_plain, plain}
use Rattle.java_core.specs.Plain.{FieldVar}
use Rattle.core_meaning.specs.declared.values.Variable.TheVariants as of
use Rattle.core_meaning.specs.State.{in_static, with_static}
use Rattle.core_meaning.specs.Code.{is_instance_field}
use Rattle.core_meaning.specs.Expressions.{value}
use Rattle.core_meaning.specs.declared.values.State.{State}
use Rattle.core_meaning.specs.declared.values.Ending.TheVariants.{Goes}
use Rattle.core_meaning.specs.Outcome.{Gives, choose, with_some}
use Rattle.core_meaning.specs.Variables.{Place, store}
use Rattle.core_meaning.specs.Statements.{all_filled, done, filled}
use Rattle.core_meaning.specs.Calls.{all_given, given, has_initialiser}
use Rattle.run_frames.specs.Frames.{and_ending, and_nothing, and_value, ended, nothing, valued}
use Rattle.run_frames.proofs.Outcomes.{two_ways}
use Rattle.run_frames.proofs.Pieces.{dropped_next, dropped_none}
use Rattle.run_calls.specs.Opened.{filled_one, given_one}

module _ {A : Type 0} (field : A → FieldVar) (rs : List A) (xs : List FieldVar) (k : ℕ) (is : map field rs ≡ xs) where
  next : (x : A) → k < length rs → x ≡ get_or rs k x → drop k xs ≡ field x ∷ drop (k + 1) xs
  next x within e = ap (drop k) (sym is) ∙ drop-map field k rs ∙ ap (map field) (dropped_next rs k x within e)
      ∙ ap (λ ys. field x ∷ ys) (sym (drop-map field (k + 1) rs) ∙ ap (drop (k + 1)) is)

  none : slice_get rs k ≡ None → drop k xs ≡ []
  none e = ap (drop k) (sym is) ∙ drop-map field k rs ∙ ap (map field) (dropped_none rs k e)

  pub next_filled : (p : Place) (x : A) (s : State) → k < length rs → x ≡ get_or rs k x
      → and_ending (ended (filled_one p (field x) s)) (λ e s. ended (all_filled p (drop (k + 1) xs) s)) ≡ ended (all_filled p (drop k xs) s)
  next_filled p x s within e =
      sym (ap (λ ys. ended (all_filled p ys s)) (next x within e) ∙ two_ways (filled_one p (field x) s) _ _ _ _ (λ f s. refl))

  pub none_filled : (p : Place) (s : State) → slice_get rs k ≡ None → ended (Gives Goes s) ≡ ended (all_filled p (drop k xs) s)
  none_filled p s e = sym (ap (λ ys. ended (all_filled p ys s)) (none e))

  pub next_given : (p : Place) (x : A) (s : State) → k < length rs → x ≡ get_or rs k x
      → and_nothing (nothing (given_one p (field x) s)) (λ s. nothing (all_given p (drop (k + 1) xs) s)) ≡ nothing (all_given p (drop k xs) s)
  next_given p x s within e =
      sym (ap (λ ys. nothing (all_given p ys s)) (next x within e) ∙ two_ways (given_one p (field x) s) _ _ _ _ (λ f s. refl))

  pub none_given : (p : Place) (s : State) → slice_get rs k ≡ None → nothing (Gives tt s) ≡ nothing (all_given p (drop k xs) s)
  none_given p s e = sym (ap (λ ys. nothing (all_given p ys s)) (none e))

-- an initialiser that there is

pub filled_there : (p : Place) (x : CoreField) (e : CoreExpr) (s : State) → is_instance_field p.code.world x.field ≡ true → x.init ≡ Some e
    → and_value (valued (value p (plain e) s)) (λ a s. ended (done (store p (of.Field s.frame.this x.field) a s))) ≡ ended (filled_one p (field_plain x) s)
filled_there p x e s has there =
    two_ways (value p (plain e) s) _ _ _ _ (λ a s. refl)
    ∙ ap (λ b. ended (choose b (filled p x.field (Some (plain e))) (λ s. Gives Goes s) s)) (sym has)
    ∙ ap (λ i. ended (choose (is_instance_field p.code.world x.field) (filled p x.field (option_map plain i)) (λ s. Gives Goes s) s)) (sym there)

pub given_there : (p : Place) (x : CoreField) (e : CoreExpr) (s : State) → has_initialiser p.code x.field ≡ true → x.init ≡ Some e
    → and_value (valued (value p (plain e) s)) (λ a s. nothing (with_some (in_static x.field s) s (λ old. Gives tt (with_static x.field a s))))
    ≡ nothing (given_one p (field_plain x) s)
given_there p x e s has there =
    two_ways (value p (plain e) s) _ _ _ _ (λ a s. refl)
    ∙ ap (λ b. nothing (choose b (given p x.field (Some (plain e))) (λ s. Gives tt s) s)) (sym has)
    ∙ ap (λ i. nothing (choose (has_initialiser p.code x.field) (given p x.field (option_map plain i)) (λ s. Gives tt s) s)) (sym there)
