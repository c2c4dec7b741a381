-- From the start of a run to what is reported of it.
use Rattle.std.proofs.Common.{◌≡◌, ℕ, ◌+◌, Bool, true, false, inl, inr, List, [], ◌∷◌, map, Option, Some, None, refl, sym, ap, ◌∙◌, subst, arith}
use Rattle.std.specs.Prelude.{unwrap_or}
use Rattle.std.specs.Option.{option_map}
use Rattle.class_world.specs.declared.world.JavaType.TheVariants as ty
use Rattle.class_world.proofs.Substs.{erased_class}
use Rattle.java_core.specs.Plain as e
use Rattle.core_meaning.specs.declared.values.Value.{Value}
use Rattle.core_meaning.specs.declared.values.Value.TheVariants as v
use Rattle.core_meaning.specs.declared.values.State.{State}
use Rattle.core_meaning.specs.declared.values.End.TheVariants as end
use Rattle.core_meaning.specs.BuiltIns.{object_class, string_class, print_stream}
use Rattle.core_meaning.specs.Outcome.{Outcome, Gives, Threw, Bound, after, and_then, with_some}
use Rattle.core_meaning.specs.Code.{Code, is_constant}
use Rattle.core_meaning.specs.Classes.{class_of}
use Rattle.core_meaning.specs.Calls.{enter, initialise, place_at}
use Rattle.core_meaning.specs.Runs.{Result, start, all_fields, constants_given, main_of, most_initialised, run_within, run, end_of, result_of}
use Rattle.program_maps.specs.Pairs.{Pair}
use Rattle.program_maps.specs.Trees.{FieldsAlike}
use Rattle.program_maps.specs.Correspond.{Correspond}
use Rattle.program_maps.specs.Behave.{moved_end, SameResult, IsCounted, CorrespondingAlike}
use Rattle.alike_laws.proofs.Types.{moved_class}
use Rattle.alike_laws.proofs.Others.{Other, OtherOf, key, image}
use Rattle.alike_laws.proofs.Goes.{Counts, SameBy, Follows, gave, and_so, choose_follows, some_follows}
use Rattle.alike_laws.proofs.Simulate.{class_found, given_follows, enter_follows, initialise_follows}

module _ (p : Pair) (c c' : Code) (h : Correspond p c c') where
  constants_follow : (d k : ℕ) (xs xs' : List e.FieldVar) (s : State) → FieldsAlike p xs xs'
      → Follows p s (constants_given (place_at c d k) xs s) (λ u. constants_given (place_at c' d (p.ways.types k)) xs' (image p.ways s u))
  constants_follow d k [] [] s w = gave p tt s
  constants_follow d k (x ∷ xs) (x' ∷ xs') s w = rw w.0.0 (rw (h.tables.constant x.field) (and_so p _ _ _ _ _
      (choose_follows p (λ a. a) (is_constant c x.field) _ _ _ _ s
      (given_follows p c c' h (enter c d) (enter c' d) (initialise c d) (initialise c' d) _ (enter_follows p c c' h d) (initialise_follows p c c' h d) k x.field x.init x'.init s w.0.1)
      (gave p tt s))
      (λ f s. constants_follow d k xs xs' s w.1)))
  constants_follow d k _ _ s w = absurd w

  -- what the new program's start differs in
  abbrev begins : List (List ℕ) → ℕ → Other
  begins args n = record { heap = (start c' args n).heap; statics = (start c' args n).statics; progress = (start c' args n).progress }

  begun : (args : List (List ℕ)) (n : ℕ) → OtherOf p.ways (key (start c args n)) (begins args n)
  begun args n = record {
    heap = (
      (sym (h.built_in.types print_stream (omega arith)), refl, λ f. refl),
      ((erased_class string_class [], ap (λ k. ty.Class k []) (sym (h.built_in.types string_class (omega arith))) ∙ sym (moved_class p.ways.types string_class []), refl), tt),
    );
    statics = h.tables.statics;
    progress = h.tables.progress;
  }

  within_follows : (d k n : ℕ) (args : List (List ℕ))
      → Follows p (start c args n) (run_within c d k args n)
      (λ u. and_then (constants_given (place_at c' d (p.ways.types k)) (all_fields c') (image p.ways (start c args n) u)) (λ u s.
      and_then (initialise c' d (p.ways.types k) s) (λ u s. with_some (main_of c' (p.ways.types k)) s (λ m. enter c' d m v.Null (v.Ref 1 ∷ []) s))))
  within_follows d k n args = and_so p _ _ _ _ _ (constants_follow d k (all_fields c) (all_fields c') (start c args n) h.all_fields) (λ u s.
      and_so p _ _ _ _ _ (initialise_follows p c c' h d k s) (λ u s.
      some_follows p h.built_in (λ a. a) p.ways.methods (main_of c k) (λ u. main_of c' (p.ways.types k)) s _ _ (λ x o. inl (h.tables.mains k)) (λ m w.
      enter_follows p c c' h d m v.Null (v.Ref 1 ∷ []) s)))

  class_thrown : (r : ℕ) (s : State) (x : Other) → OtherOf p.ways (key s) x
      → unwrap_or (class_of (v.Ref r) (image p.ways s x)) object_class ≡ p.ways.types (unwrap_or (class_of (v.Ref r) s) object_class)
  class_thrown r s x o = ap (λ k. unwrap_or k object_class) (class_found p c c' h (v.Ref r) s x o) ∙ at (class_of (v.Ref r) s)
    where
      at : (o : Option ℕ) → unwrap_or (option_map p.ways.types o) object_class ≡ p.ways.types (unwrap_or o object_class)
      at None = sym (h.built_in.types object_class (omega arith))
      at (Some k) = refl

  same_result : (o o' : Outcome Value) → SameBy p (λ a. a) o o' → SameResult p.ways (result_of o) (result_of o')
  same_result (Gives a s) o' w = record {
    printed = ap (λ o. (after o).printed) w.2;
    entered = ap (λ o. (after o).entered) w.2;
    end = ap end_of w.2;
    wrong = ap (λ o. (after o).wrong) w.2;
  }
  same_result (Threw k s) o' w = record {
    printed = ap (λ o. (after o).printed) w.2;
    entered = ap (λ o. (after o).entered) w.2;
    end = ap end_of w.2 ∙ ap end.Threw (class_thrown k s w.0 w.1);
    wrong = ap (λ o. (after o).wrong) w.2;
  }
  same_result (Bound s) o' w = record {
    printed = ap (λ o. (after o).printed) w.2;
    entered = ap (λ o. (after o).entered) w.2;
    end = ap end_of w.2;
    wrong = ap (λ o. (after o).wrong) w.2;
  }

  counts : (o : Outcome Value) → IsCounted p.strict (result_of o) → Counts p.strict (after o).wrong
  counts o (inl w) = subst (λ b. Counts b (after o).wrong) (sym w) tt
  counts o (inr w) = at p.strict
    where
      at : (b : Bool) → Counts b (after o).wrong
      at true = tt
      at false = w

  runs_same : (d d' k n : ℕ) (args : List (List ℕ)) → d' ≡ d → IsCounted p.strict (result_of (run_within c d k args n))
      → SameResult p.ways (result_of (run_within c d k args n)) (result_of (run_within c' d' (p.ways.types k) args n))
  runs_same d d' k n args e w = subst (λ d'. SameResult p.ways (result_of (run_within c d k args n)) (result_of (run_within c' d' (p.ways.types k) args n))) (sym e)
      (same_result _ _ ((within_follows d k n args).same (begins args n) (begun args n) (counts (run_within c d k args n) w)))

-- programs that correspond behave alike
pub corresponding_alike : CorrespondingAlike
corresponding_alike p c c' h k m main args n w =
    runs_same p c c' h (n + most_initialised c.world) (n + most_initialised c'.world) k n args (ap (λ d. n + d) h.tables.initialised) w
