-- Programs that correspond run alike: a lemma for each primitive, and a line for each form.
use Rattle.std.proofs.Common.{◌≡◌, ℕ, zero, suc, ◌+◌, ◌<◌, ℤ, pos, Bool, true, false, inl, inr, List, [], ◌∷◌, ◌++◌, map, length, replicate, Option, Some, None, refl, sym, ap, ◌∙◌, subst, arith}
use Rattle.std.specs.Prelude.{slice_get, slice_set, option_and_then, unsigned_abs, int_lt, is_some, codes, nat_lt, if◌then◌else◌, IsTrue}
use Rattle.std.specs.Int.{w32, int_wrap}
use Rattle.std.specs.List.{find}
use Rattle.std.specs.Option.{option_map}
use Rattle.std.proofs.lemmas.Option.{slice_get_within, slice_get_past}
use Rattle.std.proofs.lemmas.List.{map-append, length-map}
use Rattle.java_tree.specs.declared.tree.BinOp.{BinOp}
use Rattle.java_tree.specs.declared.tree.UnOp.{UnOp}
use Rattle.java_tree.specs.declared.tree.Primitive.{Primitive}
use Rattle.class_world.specs.declared.world.World.{World}
use Rattle.class_world.specs.declared.world.MethodInfo.{MethodInfo}
use Rattle.class_world.specs.declared.world.FieldInfo.{FieldInfo}
use Rattle.class_world.specs.declared.world.Walk.{Walk}
use Rattle.class_world.specs.declared.world.JavaType.{JavaType}
use Rattle.class_world.specs.declared.world.JavaType.TheVariants as ty
use Rattle.class_world.specs.Types.{erased}
use Rattle.class_world.specs.Subtypes.{Subtype, through}
use Rattle.class_world.proofs.Substs.{erased_class}
use Rattle.java_core.specs.declared.expr.Kind.{Kind}
use Rattle.java_core.specs.Plain as e
use Rattle.type_kinds.specs.Kinds.{primitive, element, class_number, ty_of}
use Rattle.type_kinds.specs.OfWorld.{AreBoth}
use Rattle.type_kinds.specs.Members.{field_at}
use Rattle.core_meaning.specs.declared.built_ins.BuiltIn.{BuiltIn}
use Rattle.core_meaning.specs.declared.built_ins.BuiltIn.TheVariants as b
use Rattle.core_meaning.specs.declared.values.Value.{Value}
use Rattle.core_meaning.specs.declared.values.Value.TheVariants as v
use Rattle.core_meaning.specs.declared.values.Variable.{Variable}
use Rattle.core_meaning.specs.declared.values.Variable.TheVariants as of
use Rattle.core_meaning.specs.declared.values.Ending.{Ending}
use Rattle.core_meaning.specs.declared.values.Ending.TheVariants as ending
use Rattle.core_meaning.specs.declared.values.Progress.{Progress}
use Rattle.core_meaning.specs.declared.values.Progress.TheVariants as progress
use Rattle.core_meaning.specs.declared.values.Frame.{Frame}
use Rattle.core_meaning.specs.declared.values.State.{State}
use Rattle.core_meaning.specs.declared.values.Thing.{Thing}
use Rattle.core_meaning.specs.declared.values.Thing.TheVariants.{Object, Array}
use Rattle.core_meaning.specs.State as state
use Rattle.core_meaning.specs.State.{thing_at, field_of, message_of, items_of, element_of, item_count, item_of, in_static, in_slot, with_frame, with_local, with_static, with_field, with_message, with_item, with_array, with_thing, with_text, with_literal, with_progress, with_printed, with_entered}
use Rattle.core_meaning.specs.Numbers.{as_primitive, as_kind, operated, prefixed, stepped, same_reference}
use Rattle.core_meaning.specs.Texts.{number_units, truth_units, null_units, hex_units, is_text, length_of, printed_bytes}
use Rattle.core_meaning.specs.BuiltIns as built
use Rattle.core_meaning.specs.BuiltIns.{built_in, object_class, string_class, error_class, to_string, hash_code, get_message}
use Rattle.core_meaning.specs.Outcome.{Outcome, Gives, Threw, Bound, after, and_then, throws_plain, throws_saying, misfit, with_some, with_reference, unless_null, with_units, with_int, choose, by_truth, with_made, step, leave, and_goes, behind_switch, loop, do_loop, finally, rescued}
use Rattle.core_meaning.specs.Code.{Code, Body, Written, Default, body_of, class_at, class_fields, superclass, default_value, new_object, is_join_of, joined_literal, literal_of, literal_form, both, only_if, is_constant, is_instance_field}
use Rattle.core_meaning.specs.Classes.{class_of, class_of_thing, type_of, type_of_thing, name_at, name_of, full_name, array_name}
use Rattle.core_meaning.specs.Variables.{Place, fitted, fitted_by, is_below, cast_or, implied_cast, cast, cast_by, instance_of, index_in, at_place, at_item, may_hold, storable, storable_by, ready, ready_by, read, store}
use Rattle.core_meaning.specs.Members as member
use Rattle.core_meaning.specs.Members.{new_text, literal, literal_at, with_none, with_one, with_two, char_at, substring, equals_text, identity_hash, saying, printed, chars_of, print_chars, plain, found_on, entered_or, asked, object_text, throwable_text, speaking, told, text_of, print, performed, invoked, called, is_in_text, is_no_begin, is_no_end}
use Rattle.core_meaning.specs.Expressions as expr
use Rattle.core_meaning.specs.Expressions.{literal_or, joined, calculated, binary, compounded, ints_of, repeated, array_with, arrays_of, unless_negative, sized, array_length, count, called_static, created, current, current_form, value, value_form, values, dropped, variable, variable_form}
use Rattle.core_meaning.specs.Statements as stmts
use Rattle.core_meaning.specs.Statements.{done, local_by, local, locals, tested, tested_or, and_updates, taken, take_item, item_before, cast_if, next_before, walked, each_item, each, selector, has_label, has_default, has_group, chosen, labels_of, begins_at, filled, all_filled, begun, stmt, maybe_stmt, group, groups, from_group, caught}
use Rattle.core_meaning.specs.Calls.{entered_with, answer, answered, ran, body, given, has_initialiser, all_given, above_first, initialisers, failed, settled, initialised, by_progress, place_with, entered, enter, initialise, place_at}
use Rattle.program_maps.specs.Ways.{Ways, moved}
use Rattle.program_maps.specs.Pairs.{Pair, CallAlike, ErasedAlike, ArrayAlike, FitAlike, CastAlike, ImpliedAlike, IsClassBelow}
use Rattle.program_maps.specs.Trees.{ExprAlike, FormAlike, MaybeExprAlike, ExprsAlike, OptExprAlike, VarAlike, VarsAlike, StmtAlike, MaybeStmtAlike, StmtsAlike, GroupAlike, GroupsAlike, CatchesAlike, BodyAlike, OptBodyAlike, FieldAlike, FieldsAlike}
use Rattle.program_maps.specs.Correspond.{LedTo, KeepsBuiltIn, ThingAlike, Correspond, moved_walk, method_owner, field_owner}
use Rattle.alike_laws.proofs.Types.{moved_class, primitive_moved, primitive_erased, default_moved, erased_twice, erased_moved, element_moved, element_erased as element_of_erased, array_alike}
use Rattle.alike_laws.proofs.Others.{ThingsAlike, OptThingAlike, Other, OtherOf, Key, key, image, set_moved, length_set, things_length, things_at, things_pushed, things_changed, things_set, with_alike, saying_alike, item_alike, field_alike, message_alike, items_alike, element_alike, element_erased, class_alike, type_alike, type_erased}
use Rattle.alike_laws.proofs.Goes as go
use Rattle.alike_laws.proofs.Goes.{Counts, Follows, FollowsBy, gives, gave, threw, bound, retold, from, then_follows, and_so, end_follows, leave_follows, choose_follows, step_follows, goes_follows, switch_follows, loop_follows, do_follows, finally_follows, rescued_follows, plain_follows, saying_follows, misfit_follows, amiss, some_follows, known_follows, reference_follows, unless_follows, units_follow, int_follows, truth_follows, made_follows}

module _ (p : Pair) (c c' : Code) (h : Correspond p c c') where
  abbrev φ : Ways
  φ = p.ways

  abbrev keeps : KeepsBuiltIn p.ways
  keeps = h.built_in

  -- ---- what is found in states

  field_found : (r f : ℕ) (s : State) (x : Other) → OtherOf φ (key s) x → field_of r (φ.fields f) (image φ s x) ≡ field_of r f s
  field_found r f s x o = field_alike φ f _ _ (things_at φ _ _ r o.heap)

  message_found : (r : ℕ) (s : State) (x : Other) → OtherOf φ (key s) x → message_of r (image φ s x) ≡ message_of r s
  message_found r s x o = message_alike φ _ _ (things_at φ _ _ r o.heap)

  items_found : (r : ℕ) (s : State) (x : Other) → OtherOf φ (key s) x → items_of r (image φ s x) ≡ items_of r s
  items_found r s x o = items_alike φ _ _ (things_at φ _ _ r o.heap)

  element_found : (r : ℕ) (s : State) (x : Other) → OtherOf φ (key s) x → element_of r (image φ s x) ≡ option_map (moved φ.types) (element_of r s)
  element_found r s x o = element_alike φ _ _ (things_at φ _ _ r o.heap)

  pub class_found : (a : Value) (s : State) (x : Other) → OtherOf φ (key s) x → class_of a (image φ s x) ≡ option_map φ.types (class_of a s)
  class_found (v.Ref r) s x o = class_alike φ (keeps.types object_class (omega arith)) _ _ (things_at φ _ _ r o.heap)
  class_found (v.Text k) s x o = ap Some (sym (keeps.types string_class (omega arith)))
  class_found v.Null s x o = refl
  class_found (v.Int z) s x o = refl
  class_found (v.Long z) s x o = refl
  class_found (v.Char z) s x o = refl
  class_found (v.Truth z) s x o = refl

  type_found : (a : Value) (s : State) (x : Other) → OtherOf φ (key s) x → type_of a (image φ s x) ≡ option_map (moved φ.types) (type_of a s)
  type_found (v.Ref r) s x o = type_alike φ _ _ (things_at φ _ _ r o.heap)
  type_found (v.Text k) s x o = ap (λ k. Some (ty.Class k [])) (sym (keeps.types string_class (omega arith))) ∙ ap Some (sym (moved_class φ.types string_class []))
  type_found v.Null s x o = refl
  type_found (v.Int z) s x o = refl
  type_found (v.Long z) s x o = refl
  type_found (v.Char z) s x o = refl
  type_found (v.Truth z) s x o = refl

  -- what is there at run time is its own erasure
  is_erased : (a : Value) (s : State) (x : Other) → OtherOf φ (key s) x → (u : JavaType) → type_of a s ≡ Some u → erased u ≡ u
  is_erased (v.Ref r) s x o u w = type_erased φ _ _ (things_at φ _ _ r o.heap) u w
  is_erased (v.Text k) s x o u w = subst (λ u. erased u ≡ u) (same w) (erased_class string_class [])
    where
      same : Some (ty.Class string_class []) ≡ Some u → ty.Class string_class [] ≡ u
      same w = cc w
  is_erased v.Null s x o u w = absurd (cc w)
  is_erased (v.Int z) s x o u w = absurd (cc w)
  is_erased (v.Long z) s x o u w = absurd (cc w)
  is_erased (v.Char z) s x o u w = absurd (cc w)
  is_erased (v.Truth z) s x o u w = absurd (cc w)

  -- ---- changes of states

  pushed : (s : State) (x : Other) (a b : Thing) → OtherOf φ (key s) x → ThingAlike φ a b
      → OtherOf φ (key (with_thing a s)) (record { heap = x.heap ++ b ∷ []; statics = x.statics; progress = x.progress })
  pushed s x a b o k = record { heap = things_pushed φ _ _ a b o.heap k; statics = o.statics; progress = o.progress }

  abbrev with_heap : Other → List Thing → Other
  with_heap x l = record { heap = l; statics = x.statics; progress = x.progress }

  heap_changed : (f g : Thing → Thing) → ((a b : Thing) → ThingAlike φ a b → ThingAlike φ (f a) (g b)) → (r : ℕ) (s : State) (x : Other) → OtherOf φ (key s) x
      → OtherOf φ (key (state.with_changed f r s)) (with_heap x (state.changed g r x.heap))
  heap_changed f g k r s x o = record { heap = things_changed φ f g k r _ _ o.heap; statics = o.statics; progress = o.progress }

  -- ---- casts

  fitted_follows : (t t' : JavaType) (a : Value) (s : State) → FitAlike t t' → Follows p s (fitted t a s) (λ x. fitted t' a (image φ s x))
  fitted_follows t t' a s k = retold p (λ x o. ap (λ q. with_some (fitted_by q a) (image φ s x) (λ b. Gives b (image φ s x))) k)
      (known_follows p keeps (λ a. a) (fitted_by (primitive t) a) (λ x. fitted_by (primitive t) a) s _ _ (λ x o. refl) (λ b w. gave p b s))

  below_moved : (u t t' : JavaType) → erased u ≡ u → ErasedAlike p t t' → is_below c' (moved φ.types u) t' ≡ is_below c u t
  below_moved u t t' w k = ap (c'.sub (moved φ.types u)) k ∙ h.order u (erased t) w (erased_twice t)

  -- one way or another by whether what a reference is at run time is below a type
  by_type_follows : {B : Type 0} (a : Value) (t t' : JavaType) (s : State) (f f' : Bool → State → Outcome B) → ErasedAlike p t t'
      → ((b : Bool) → Follows p s (f b s) (λ x. f' b (image φ s x)))
      → Follows p s (with_some (type_of a s) s (λ u. f (is_below c u t) s)) (λ x. with_some (type_of a (image φ s x)) (image φ s x) (λ u. f' (is_below c' u t') (image φ s x)))
  by_type_follows a t t' s f f' k i =
      some_follows p keeps (λ a. a) (moved φ.types) (type_of a s) (λ x. type_of a (image φ s x)) s _ _ (λ x o. inl (type_found a s x o)) (λ u w.
      retold p (λ x o. ap (λ b. f' b (image φ s x)) (below_moved u t t' (is_erased a s x o u w) k)) (i (is_below c u t)))

  -- an option of what has an owner
  owner_follows : {A A' B : Type 0} (own : A → ℕ) (own' : A' → ℕ) (o : Option A) (o' : Option A') (s : State) (f : ℕ → Outcome B) (f' : Other → ℕ → Outcome B)
      → option_map own' o' ≡ option_map φ.types (option_map own o) → ((j : ℕ) → option_map own o ≡ Some j → Follows p s (f j) (λ x. f' x (φ.types j)))
      → Follows p s (with_some o s (λ i. f (own i))) (λ x. with_some o' (image φ s x) (λ i. f' x (own' i)))
  owner_follows own own' None None s f f' w k = misfit_follows p keeps (λ a. a) s
  owner_follows own own' (Some i) (Some i') s f f' w k = retold p (λ x o. ap (f' x) (same w)) (k (own i) refl)
    where
      same : Some (own' i') ≡ Some (φ.types (own i)) → own' i' ≡ φ.types (own i)
      same w = cc w
  owner_follows own own' None (Some i') s f f' w k = absurd (cc w)
  owner_follows own own' (Some i) None s f f' w k = absurd (cc w)

  type_kept : (k : ℕ) → φ.types k ≡ k → ErasedAlike p (ty.Class k []) (ty.Class k [])
  type_kept k w = erased_class k [] ∙ ap (λ k. ty.Class k []) (sym w) ∙ sym (moved_class φ.types k []) ∙ ap (moved φ.types) (sym (erased_class k []))

  primitive_alike : (t t' : JavaType) → ErasedAlike p t t' → primitive t' ≡ primitive t
  primitive_alike t t' w = sym (primitive_erased t') ∙ ap primitive w ∙ primitive_moved φ.types (erased t) ∙ primitive_erased t

  abbrev moved_variable : Variable → Variable
  moved_variable (of.Local k) = of.Local k
  moved_variable (of.Field a f) = of.Field a (φ.fields f)
  moved_variable (of.Static f) = of.Static (φ.fields f)
  moved_variable (of.Item a i) = of.Item a i

  -- a change of a thing in the heap
  heap_gives : (a : Value) (f g : Thing → Thing) → ((x y : Thing) → ThingAlike φ x y → ThingAlike φ (f x) (g y)) → (r : ℕ) (s : State)
      → Follows p s (Gives a (state.with_changed f r s)) (λ x. Gives a (state.with_changed g r (image φ s x)))
  heap_gives a f g k r s = record { fine = λ e. e; same = λ x o e. (with_heap x (state.changed g r x.heap), heap_changed f g k r s x o, refl) }

  static_gives : {A : Type 0} (a : A) (f : ℕ) (b : Value) (s : State) → Follows p s (Gives a (with_static f b s)) (λ x. Gives a (with_static (φ.fields f) b (image φ s x)))
  static_gives a f b s = record {
    fine = λ e. e;
    same = λ x o e. (
      record { heap = x.heap; statics = slice_set x.statics (φ.fields f) (Some b); progress = x.progress },
      record { heap = o.heap; statics = set_moved φ.fields h.fields _ _ o.statics f (Some b); progress = o.progress },
      refl,
    );
  }

  at_item_follows : {B : Type 0} (a i : Value) (s : State) (f : ℕ → ℕ → Outcome B) (f' : Other → ℕ → ℕ → Outcome B) → ((r k : ℕ) → Follows p s (f r k) (λ x. f' x r k))
      → Follows p s (at_item a i s f) (λ x. at_item a i (image φ s x) (f' x))
  at_item_follows a i s f f' w =
      reference_follows p keeps (λ b. b) a s _ _ (λ r.
      known_follows p keeps (λ b. b) (item_count r s) (λ x. item_count r (image φ s x)) s _ _ (λ x o. ap (option_map length) (items_found r s x o)) (λ m e.
      int_follows p keeps (λ b. b) i s _ _ (λ z. placed r z (index_in z m))))
    where
      placed : (r : ℕ) (z : ℤ) (o : Option ℕ) → Follows p s (at_place o z s (f r)) (λ x. at_place o z (image φ s x) (f' x r))
      placed r z None = saying_follows p keeps (λ b. b) built.array_index_exception (number_units z) s (keeps.types built.array_index_exception (omega arith))
      placed r z (Some k) = w r k

  entered_moved : (m : ℕ) (g : Frame) (s : State) (x : Other) → with_frame g (with_entered (φ.methods m) (image φ s x)) ≡ image φ (with_frame g (with_entered m s)) x
  entered_moved m g s x = ap at (sym (map-append φ.methods s.entered (m ∷ [])))
    where
      at : List ℕ → State
      at l = record {
        left = s.left;
        heap = x.heap;
        texts = s.texts;
        literals = s.literals;
        statics = x.statics;
        progress = x.progress;
        frame = g;
        printed = s.printed;
        entered = l;
        wrong = s.wrong;
      }

  -- Trees that run where calls and initialisations correspond.
  module _ (call call' : ℕ → Value → List Value → State → Outcome Value) (init init' : ℕ → State → Outcome (Unit {0})) (turns : ℕ)
      (calls : (m : ℕ) (a : Value) (xs : List Value) (s : State) → Follows p s (call m a xs s) (λ x. call' (φ.methods m) a xs (image φ s x)))
      (inits : (k : ℕ) (s : State) → Follows p s (init k s) (λ x. init' (φ.types k) (image φ s x)))
      (k : ℕ) where
    abbrev old : Place
    old = place_with c call init turns k

    abbrev new : Place
    new = place_with c' call' init' turns (φ.types k)

    -- ---- casts

    or_follows : (a : Value) (t t' : JavaType) (s : State) (other other' : State → Outcome Value) → ErasedAlike p t t'
        → Follows p s (other s) (λ x. other' (image φ s x))
        → Follows p s (with_some (type_of a s) s (λ u. choose (is_below c u t) (λ s. Gives a s) other s))
        (λ x. with_some (type_of a (image φ s x)) (image φ s x) (λ u. choose (is_below c' u t') (λ s. Gives a s) other' (image φ s x)))
    or_follows a t t' s other other' w i =
        by_type_follows a t t' s (λ b s. choose b (λ s. Gives a s) other s) (λ b s. choose b (λ s. Gives a s) other' s) w (λ b.
        choose_follows p (λ a. a) b _ _ _ _ s (gave p a s) i)

    cast_or_follows : (a : Value) (t t' : JavaType) (s : State) (other other' : State → Outcome Value) → ErasedAlike p t t'
        → Follows p s (other s) (λ x. other' (image φ s x)) → Follows p s (cast_or old t a s other) (λ x. cast_or new t' a (image φ s x) other')
    cast_or_follows v.Null t t' s other other' w i = gave p v.Null s
    cast_or_follows (v.Ref r) t t' s other other' w i = or_follows (v.Ref r) t t' s other other' w i
    cast_or_follows (v.Text r) t t' s other other' w i = or_follows (v.Text r) t t' s other other' w i
    cast_or_follows (v.Int z) t t' s other other' w i = or_follows (v.Int z) t t' s other other' w i
    cast_or_follows (v.Long z) t t' s other other' w i = or_follows (v.Long z) t t' s other other' w i
    cast_or_follows (v.Char z) t t' s other other' w i = or_follows (v.Char z) t t' s other other' w i
    cast_or_follows (v.Truth z) t t' s other other' w i = or_follows (v.Truth z) t t' s other other' w i

    -- what is below a class that is below another one is below that
    raised : (u t t' : JavaType) (d g : ℕ) → erased u ≡ u → erased t ≡ ty.Class d [] → erased t' ≡ ty.Class g [] → IsClassBelow p d g → is_below c u t ≡ true
        → is_below c' (moved φ.types u) t' ≡ true
    raised u t t' d g w i j b e =
        let class_kept : moved φ.types (erased t) ≡ ty.Class (φ.types d) [] = ap (moved φ.types) i ∙ moved_class φ.types d [] in
        let first : c'.sub (moved φ.types u) (ty.Class (φ.types d) []) ≡ true =
        ap (c'.sub (moved φ.types u)) (sym class_kept) ∙ h.order u (erased t) w (erased_twice t) ∙ e in
        let under = (h.told.sub (moved φ.types u) (ty.Class (φ.types d) [])).0 first in
        let there = subst (λ w. AreBoth w (ty.Class (φ.types d) []) (ty.Class g []) × Subtype w (ty.Class (φ.types d) []) (ty.Class g [])) h.world b in
        ap (c'.sub (moved φ.types u)) j ∙ (h.told.sub (moved φ.types u) (ty.Class g [])).1 ((under.0.0, there.0.1), through under.1 there.1)

    implied_typed : (a : Value) (t t' : JavaType) (s : State) → CastAlike p t t'
        → Follows p s (with_some (type_of a s) s (λ u. choose (is_below c u t) (λ s. Gives a s) misfit s))
        (λ x. with_some (type_of a (image φ s x)) (image φ s x) (λ u. choose (is_below c' u t') (λ s. Gives a s) misfit (image φ s x)))
    implied_typed a t t' s (inl w) = or_follows a t t' s misfit misfit w (misfit_follows p keeps (λ a. a) s)
    implied_typed a t t' s (inr w) =
        some_follows p keeps (λ a. a) (moved φ.types) (type_of a s) (λ x. type_of a (image φ s x)) s _ _ (λ x o. inl (type_found a s x o)) (λ u i. at u i (is_below c u t) refl)
      where
        at : (u : JavaType) → type_of a s ≡ Some u → (b : Bool) → is_below c u t ≡ b
            → Follows p s (choose b (λ s. Gives a s) misfit s) (λ x. choose (is_below c' (moved φ.types u) t') (λ s. Gives a s) misfit (image φ s x))
        at u i true e = retold p (λ x o. ap (λ b. choose b (λ s. Gives a s) misfit (image φ s x)) (raised u t t' w.1.0 w.1.1 (is_erased a s x o u i) w.1.2 w.1.3 w.1.4 e)) (gave p a s)
        at u i false e = amiss p keeps (λ a. a) s _ w.0

    implied_follows : (t t' : JavaType) (a : Value) (s : State) → CastAlike p t t' → Follows p s (implied_cast old t a s) (λ x. implied_cast new t' a (image φ s x))
    implied_follows t t' v.Null s w = gave p v.Null s
    implied_follows t t' (v.Ref r) s w = implied_typed (v.Ref r) t t' s w
    implied_follows t t' (v.Text r) s w = implied_typed (v.Text r) t t' s w
    implied_follows t t' (v.Int z) s w = implied_typed (v.Int z) t t' s w
    implied_follows t t' (v.Long z) s w = implied_typed (v.Long z) t t' s w
    implied_follows t t' (v.Char z) s w = implied_typed (v.Char z) t t' s w
    implied_follows t t' (v.Truth z) s w = implied_typed (v.Truth z) t t' s w

    cast_follows : (t t' : JavaType) (a : Value) (s : State) → ErasedAlike p t t' → Follows p s (cast old t a s) (λ x. cast new t' a (image φ s x))
    cast_follows t t' a s w = retold p (λ x o. ap (λ q. cast_by q new t' a (image φ s x)) (primitive_alike t t' w)) (at (primitive t))
      where
        at : (q : Option Primitive) → Follows p s (cast_by q old t a s) (λ x. cast_by q new t' a (image φ s x))
        at None = cast_or_follows a t t' s _ _ w (plain_follows p keeps (λ a. a) built.class_cast_exception s (keeps.types built.class_cast_exception (omega arith)))
        at (Some q) = known_follows p keeps (λ a. a) (as_primitive q a) (λ x. as_primitive q a) s _ _ (λ x o. refl) (λ b e. gave p b s)

    instance_typed : (a : Value) (t t' : JavaType) (s : State) → ErasedAlike p t t'
        → Follows p s (with_some (type_of a s) s (λ u. Gives (v.Truth (is_below c u t)) s))
        (λ x. with_some (type_of a (image φ s x)) (image φ s x) (λ u. Gives (v.Truth (is_below c' u t')) (image φ s x)))
    instance_typed a t t' s w = by_type_follows a t t' s (λ b s. Gives (v.Truth b) s) (λ b s. Gives (v.Truth b) s) w (λ b. gave p (v.Truth b) s)

    instance_follows : (t t' : JavaType) (a : Value) (s : State) → ErasedAlike p t t' → Follows p s (instance_of old t a s) (λ x. instance_of new t' a (image φ s x))
    instance_follows t t' v.Null s w = gave p (v.Truth false) s
    instance_follows t t' (v.Ref r) s w = instance_typed (v.Ref r) t t' s w
    instance_follows t t' (v.Text r) s w = instance_typed (v.Text r) t t' s w
    instance_follows t t' (v.Int z) s w = instance_typed (v.Int z) t t' s w
    instance_follows t t' (v.Long z) s w = instance_typed (v.Long z) t t' s w
    instance_follows t t' (v.Char z) s w = instance_typed (v.Char z) t t' s w
    instance_follows t t' (v.Truth z) s w = instance_typed (v.Truth z) t t' s w

    -- ---- variables

    hold_typed : (a : Value) (t : JavaType) (s : State) (go go' : State → Outcome Value) → Follows p s (go s) (λ x. go' (image φ s x))
        → Follows p s (with_some (type_of a s) s (λ u. choose (is_below c u t) go (throws_plain built.array_store_exception) s))
        (λ x. with_some (type_of a (image φ s x)) (image φ s x) (λ u. choose (is_below c' u (moved φ.types t)) go' (throws_plain built.array_store_exception) (image φ s x)))
    hold_typed a t s go go' w =
        by_type_follows a t (moved φ.types t) s (λ b s. choose b go (throws_plain built.array_store_exception) s) (λ b s. choose b go' (throws_plain built.array_store_exception) s)
        (erased_moved φ.types (keeps.types object_class (omega arith)) t) (λ b. choose_follows p (λ a. a) b _ _ _ _ s w
        (plain_follows p keeps (λ a. a) built.array_store_exception s (keeps.types built.array_store_exception (omega arith))))

    may_hold_follows : (a : Value) (t : JavaType) (s : State) (go go' : State → Outcome Value) → Follows p s (go s) (λ x. go' (image φ s x))
        → Follows p s (may_hold c t a s go) (λ x. may_hold c' (moved φ.types t) a (image φ s x) go')
    may_hold_follows v.Null t s go go' w = w
    may_hold_follows (v.Ref r) t s go go' w = hold_typed (v.Ref r) t s go go' w
    may_hold_follows (v.Text r) t s go go' w = hold_typed (v.Text r) t s go go' w
    may_hold_follows (v.Int z) t s go go' w = hold_typed (v.Int z) t s go go' w
    may_hold_follows (v.Long z) t s go go' w = hold_typed (v.Long z) t s go go' w
    may_hold_follows (v.Char z) t s go go' w = hold_typed (v.Char z) t s go go' w
    may_hold_follows (v.Truth z) t s go go' w = hold_typed (v.Truth z) t s go go' w

    storable_follows : (a : Value) (t : JavaType) (s : State) (go go' : State → Outcome Value) → Follows p s (go s) (λ x. go' (image φ s x))
        → Follows p s (storable c t a s go) (λ x. storable c' (moved φ.types t) a (image φ s x) go')
    storable_follows a t s go go' w = retold p (λ x o. ap (λ q. storable_by q c' (moved φ.types t) a (image φ s x) go') (primitive_moved φ.types t)) (at (primitive t))
      where
        at : (q : Option Primitive) → Follows p s (storable_by q c t a s go) (λ x. storable_by q c' (moved φ.types t) a (image φ s x) go')
        at None = may_hold_follows a t s go go' w
        at (Some q) = w

    ready_follows : (f : ℕ) (s : State) → Follows p s (ready old f s) (λ x. ready new (φ.fields f) (image φ s x))
    ready_follows f s = retold p (λ x o. ap (λ b. ready_by b new (φ.fields f) (image φ s x)) (h.tables.constant f)) (at (is_constant c f))
      where
        at : (b : Bool) → Follows p s (ready_by b old f s) (λ x. ready_by b new (φ.fields f) (image φ s x))
        at true = gave p tt s
        at false = owner_follows (λ (i : FieldInfo). i.owner) (λ (i : FieldInfo). i.owner) (field_at c.world f) (field_at c'.world (φ.fields f)) s
            (λ j. init j s) (λ x j. init' j (image φ s x)) (h.tables.field_owner f) (λ j e. inits j s)

    read_follows : (y : Variable) (s : State) → Follows p s (read old y s) (λ x. read new (moved_variable y) (image φ s x))
    read_follows (of.Local i) s = known_follows p keeps (λ a. a) (in_slot i s.frame) (λ x. in_slot i s.frame) s _ _ (λ x o. refl) (λ a e. gave p a s)
    read_follows (of.Field a f) s = reference_follows p keeps (λ a. a) a s _ _ (λ r.
        known_follows p keeps (λ a. a) (field_of r f s) (λ x. field_of r (φ.fields f) (image φ s x)) s _ _ (λ x o. field_found r f s x o) (λ a e. gave p a s))
    read_follows (of.Static f) s = and_so p _ _ _ _ _ (ready_follows f s) (λ u s.
        known_follows p keeps (λ a. a) (in_static f s) (λ x. in_static (φ.fields f) (image φ s x)) s _ _ (λ x o. ap state.joined (o.statics f)) (λ a e. gave p a s))
    read_follows (of.Item a i) s = at_item_follows a i s _ _ (λ r j.
        known_follows p keeps (λ a. a) (item_of r j s) (λ x. item_of r j (image φ s x)) s _ _ (λ x o. ap (option_and_then (λ xs. slice_get xs j)) (items_found r s x o)) (λ a e. gave p a s))

    store_follows : (y : Variable) (a : Value) (s : State) → Follows p s (store old y a s) (λ x. store new (moved_variable y) a (image φ s x))
    store_follows (of.Local i) a s = gave p a (with_local i a s)
    store_follows (of.Field of f) a s = reference_follows p keeps (λ a. a) of s _ _ (λ r.
        known_follows p keeps (λ a. a) (field_of r f s) (λ x. field_of r (φ.fields f) (image φ s x)) s _ _ (λ x o. field_found r f s x o) (λ b e.
        heap_gives a _ _ (with_alike φ h.fields f a) r s))
    store_follows (of.Static f) a s = and_so p _ _ _ _ _ (ready_follows f s) (λ u s.
        known_follows p keeps (λ a. a) (in_static f s) (λ x. in_static (φ.fields f) (image φ s x)) s _ _ (λ x o. ap state.joined (o.statics f)) (λ b e. static_gives a f a s))
    store_follows (of.Item of i) a s = at_item_follows of i s _ _ (λ r j.
        some_follows p keeps (λ a. a) (moved φ.types) (element_of r s) (λ x. element_of r (image φ s x)) s _ _ (λ x o. inl (element_found r s x o)) (λ t e.
        storable_follows a t s _ _ (heap_gives a _ _ (item_alike φ j a) r s)))

    -- ---- members of built-in types

    literal_follows : (units : List ℕ) (s : State) → Follows p s (literal units s) (λ x. literal units (image φ s x))
    literal_follows units s = at (find (is_text units s.texts) s.literals)
      where
        at : (o : Option ℕ) → Follows p s (literal_at o units s) (λ x. literal_at o units (image φ s x))
        at None = gave p (v.Text (length s.texts)) (with_literal units s)
        at (Some j) = gave p (v.Text j) s

    text_gives : (units : List ℕ) (s : State) → Follows p s (new_text units s) (λ x. new_text units (image φ s x))
    text_gives units s = gave p (v.Text (length s.texts)) (with_text units s)

    none_follows : (xs : List Value) (s : State) (o : Outcome Value) (o' : Other → Outcome Value) → Follows p s o o'
        → Follows p s (with_none xs s o) (λ x. with_none xs (image φ s x) (o' x))
    none_follows [] s o o' w = w
    none_follows (y ∷ ys) s o o' w = misfit_follows p keeps (λ a. a) s

    one_follows : (xs : List Value) (s : State) (f : Value → Outcome Value) (f' : Other → Value → Outcome Value) → ((a : Value) → Follows p s (f a) (λ x. f' x a))
        → Follows p s (with_one xs s f) (λ x. with_one xs (image φ s x) (f' x))
    one_follows [] s f f' w = misfit_follows p keeps (λ a. a) s
    one_follows (y ∷ []) s f f' w = w y
    one_follows (y ∷ z ∷ ys) s f f' w = misfit_follows p keeps (λ a. a) s

    two_follows : (xs : List Value) (s : State) (f : Value → Value → Outcome Value) (f' : Other → Value → Value → Outcome Value)
        → ((a b : Value) → Follows p s (f a b) (λ x. f' x a b)) → Follows p s (with_two xs s f) (λ x. with_two xs (image φ s x) (f' x))
    two_follows [] s f f' w = misfit_follows p keeps (λ a. a) s
    two_follows (y ∷ []) s f f' w = misfit_follows p keeps (λ a. a) s
    two_follows (y ∷ z ∷ []) s f f' w = w y z
    two_follows (y ∷ z ∷ u ∷ ys) s f f' w = misfit_follows p keeps (λ a. a) s

    index_follows : (z : ℤ) (s : State) → Follows p {A = Value} s (throws_saying built.string_index_exception (number_units z) s)
        (λ x. throws_saying built.string_index_exception (number_units z) (image φ s x))
    index_follows z s = saying_follows p keeps (λ a. a) built.string_index_exception (number_units z) s (keeps.types built.string_index_exception (omega arith))

    char_follows : (units : List ℕ) (z : ℤ) (s : State) → Follows p s (char_at units z s) (λ x. char_at units z (image φ s x))
    char_follows units z s = choose_follows p (λ a. a) (is_in_text z units) _ _ _ _ s
        (known_follows p keeps (λ a. a) (slice_get units (unsigned_abs z)) (λ x. slice_get units (unsigned_abs z)) s _ _ (λ x o. refl) (λ a e. gave p (v.Char a) s))
        (index_follows z s)

    substring_follows : (units : List ℕ) (y z : ℤ) (s : State) → Follows p s (substring units y z s) (λ x. substring units y z (image φ s x))
    substring_follows units y z s = choose_follows p (λ a. a) (is_no_begin y units) _ _ _ _ s (index_follows y s)
        (choose_follows p (λ a. a) (is_no_end y z units) _ _ _ _ s (index_follows z s) (text_gives _ s))

    equals_follows : (units : List ℕ) (a : Value) (s : State) → Follows p s (equals_text units a s) (λ x. equals_text units a (image φ s x))
    equals_follows units (v.Text j) s = known_follows p keeps (λ a. a) (slice_get s.texts j) (λ x. slice_get s.texts j) s _ _ (λ x o. refl) (λ a e. gave p _ s)
    equals_follows units v.Null s = gave p (v.Truth false) s
    equals_follows units (v.Ref r) s = gave p (v.Truth false) s
    equals_follows units (v.Int z) s = gave p (v.Truth false) s
    equals_follows units (v.Long z) s = gave p (v.Truth false) s
    equals_follows units (v.Char z) s = gave p (v.Truth false) s
    equals_follows units (v.Truth z) s = gave p (v.Truth false) s

    hash_follows : (a : Value) (s : State) → Follows p s (identity_hash a s) (λ x. identity_hash a (image φ s x))
    hash_follows (v.Ref r) s = gave p (v.Int (int_wrap w32 (pos r))) s
    hash_follows (v.Text j) s = misfit_follows p keeps (λ a. a) s
    hash_follows v.Null s = misfit_follows p keeps (λ a. a) s
    hash_follows (v.Int z) s = misfit_follows p keeps (λ a. a) s
    hash_follows (v.Long z) s = misfit_follows p keeps (λ a. a) s
    hash_follows (v.Char z) s = misfit_follows p keeps (λ a. a) s
    hash_follows (v.Truth z) s = misfit_follows p keeps (λ a. a) s

    saying_gives : (a m : Value) (s : State) → Follows p s (saying a m s) (λ x. saying a m (image φ s x))
    saying_gives a m s = reference_follows p keeps (λ a. a) a s _ _ (λ r.
        known_follows p keeps (λ a. a) (message_of r s) (λ x. message_of r (image φ s x)) s _ _ (λ x o. message_found r s x o) (λ b e.
        heap_gives v.Null _ _ (saying_alike φ m) r s))

    printed_follows : (line : Bool) (units : List ℕ) (s : State) → Follows p s (printed line units s) (λ x. printed line units (image φ s x))
    printed_follows true units s = gave p v.Null (with_printed (printed_bytes units ++ 10 ∷ []) s)
    printed_follows false units s = gave p v.Null (with_printed (printed_bytes units) s)

    chars_follow : (line : Bool) (a : Value) (s : State) → Follows p s (print_chars line a s) (λ x. print_chars line a (image φ s x))
    chars_follow line a s = reference_follows p keeps (λ a. a) a s _ _ (λ r.
        known_follows p keeps (λ a. a) (option_and_then chars_of (items_of r s)) (λ x. option_and_then chars_of (items_of r (image φ s x))) s _ _
        (λ x o. ap (option_and_then chars_of) (items_found r s x o)) (λ us e. printed_follows line us s))

    plain_does : (y : BuiltIn) (a : Value) (xs : List Value) (s : State) → Follows p s (plain y a xs s) (λ x. plain y a xs (image φ s x))
    plain_does b.NewObject a xs s = none_follows xs s _ _ (gave p v.Null s)
    plain_does (b.NewThrowable false) a xs s = none_follows xs s _ _ (gave p v.Null s)
    plain_does (b.NewThrowable true) a xs s = one_follows xs s _ _ (λ m. saying_gives a m s)
    plain_does b.ObjectEquals a xs s = one_follows xs s _ _ (λ y.
        known_follows p keeps (λ a. a) (same_reference a y) (λ x. same_reference a y) s _ _ (λ x o. refl) (λ z e. gave p (v.Truth z) s))
    plain_does b.ObjectHashCode a xs s = none_follows xs s _ _ (hash_follows a s)
    plain_does b.Length a xs s = none_follows xs s _ _ (units_follow p keeps (λ a. a) a s _ _ (λ us. gave p _ s))
    plain_does b.CharAt a xs s = one_follows xs s _ _ (λ y. units_follow p keeps (λ a. a) a s _ _ (λ us. int_follows p keeps (λ a. a) y s _ _ (λ z. char_follows us z s)))
    plain_does b.SubstringFrom a xs s = one_follows xs s _ _ (λ y. units_follow p keeps (λ a. a) a s _ _ (λ us. int_follows p keeps (λ a. a) y s _ _ (λ z.
        substring_follows us z _ s)))
    plain_does b.SubstringBetween a xs s = two_follows xs s _ _ (λ y u. units_follow p keeps (λ a. a) a s _ _ (λ us. int_follows p keeps (λ a. a) y s _ _ (λ z.
        int_follows p keeps (λ a. a) u s _ _ (λ w. substring_follows us z w s))))
    plain_does b.CompareTo a xs s = one_follows xs s _ _ (λ y. units_follow p keeps (λ a. a) a s _ _ (λ us. units_follow p keeps (λ a. a) y s _ _ (λ vs. gave p _ s)))
    plain_does b.StringEquals a xs s = one_follows xs s _ _ (λ y. units_follow p keeps (λ a. a) a s _ _ (λ us. equals_follows us y s))
    plain_does b.StringHashCode a xs s = none_follows xs s _ _ (units_follow p keeps (λ a. a) a s _ _ (λ us. gave p _ s))
    plain_does b.StringToString a xs s = none_follows xs s _ _ (gave p a s)
    plain_does (b.PrintChars line) a xs s = one_follows xs s _ _ (λ y. chars_follow line y s)
    plain_does b.PrintLine a xs s = none_follows xs s _ _ (printed_follows true [] s)
    plain_does b.GetMessage a xs s = none_follows xs s _ _ (reference_follows p keeps (λ a. a) a s _ _ (λ r.
        known_follows p keeps (λ a. a) (message_of r s) (λ x. message_of r (image φ s x)) s _ _ (λ x o. message_found r s x o) (λ m e. gave p m s)))
    plain_does b.ObjectToString a xs s = misfit_follows p keeps (λ a. a) s
    plain_does (b.Print line) a xs s = misfit_follows p keeps (λ a. a) s
    plain_does b.ThrowableToString a xs s = misfit_follows p keeps (λ a. a) s

    -- ---- calls

    found_follows : (m m' : ℕ) (a : Value) (s : State) (f : ℕ → Outcome Value) (f' : Other → ℕ → Outcome Value) → CallAlike p m m'
        → ((j : ℕ) → Follows p s (f j) (λ x. f' x (φ.methods j))) → Follows p s (found_on old m a s f) (λ x. found_on new m' a (image φ s x) (f' x))
    found_follows m m' a s f f' w i =
        some_follows p keeps (λ a. a) φ.types (class_of a s) (λ x. class_of a (image φ s x)) s _ _ (λ x o. inl (class_found a s x o)) (λ j e.
        some_follows p keeps (λ a. a) φ.methods (c.found m j) (λ x. c'.found m' (φ.types j)) s _ _ (λ x o. h.calls m m' w j) (λ l g. i l))

    abbrev Does : (does does' : BuiltIn → Value → List Value → State → Outcome Value) → Type 0
    Does does does' = (y : BuiltIn) (a : Value) (xs : List Value) (s : State) → Follows p s (does y a xs s) (λ x. does' y a xs (image φ s x))

    entered_follows : (does does' : BuiltIn → Value → List Value → State → Outcome Value) → Does does does' → (m : ℕ) (a : Value) (xs : List Value) (s : State)
        → Follows p s (entered_or does (built_in m) old m a xs s) (λ x. entered_or does' (built_in (φ.methods m)) new (φ.methods m) a xs (image φ s x))
    entered_follows does does' w m a xs s = retold p (λ x o. ap (λ y. entered_or does' y new (φ.methods m) a xs (image φ s x)) (keeps.methods m)) (at (built_in m))
      where
        at : (y : Option BuiltIn) → Follows p s (entered_or does y old m a xs s) (λ x. entered_or does' y new (φ.methods m) a xs (image φ s x))
        at None = calls m a xs s
        at (Some y) = w y a xs s

    asked_follows : (does does' : BuiltIn → Value → List Value → State → Outcome Value) → Does does does' → (m : ℕ) → φ.methods m ≡ m → (a : Value) (s : State)
        → Follows p s (asked does old m a s) (λ x. asked does' new m a (image φ s x))
    asked_follows does does' w m e a s = found_follows m m a s _ _ (inl (sym e)) (λ j. entered_follows does does' w j a [] s)

    name_found : (r : ℕ) (s : State) (x : Other) → OtherOf φ (key s) x → name_at c' r (image φ s x) ≡ name_at c r s
    name_found r s x o = at (thing_at r s) (thing_at r (image φ s x)) (things_at φ _ _ r o.heap)
      where
        at : (y y' : Option Thing) → OptThingAlike φ y y' → option_map (name_of c') y' ≡ option_map (name_of c) y
        at None None i = refl
        at (Some (Object j hs m)) (Some (Object j' hs' m')) i = ap (λ j. Some (full_name c' j)) i.0 ∙ ap Some (h.tables.names j)
        at (Some (Array t xs)) (Some (Array t' xs')) i =
            ap (λ t. Some (array_name c' t)) i.1 ∙ ap Some (array_alike c c' φ.types h.tables.names (keeps.types object_class (omega arith)) t)
        at (Some (Object j hs m)) (Some (Array t' xs')) i = absurd i
        at (Some (Array t xs)) (Some (Object j' hs' m')) i = absurd i
        at None (Some y) i = absurd i
        at (Some y) None i = absurd i

    object_text_follows : (a : Value) (s : State) → Follows p s (object_text old a s) (λ x. object_text new a (image φ s x))
    object_text_follows a s = reference_follows p keeps (λ a. a) a s _ _ (λ r.
        known_follows p keeps (λ a. a) (name_at c r s) (λ x. name_at c' r (image φ s x)) s _ _ (λ x o. name_found r s x o) (λ name e.
        and_so p _ _ _ _ _ (asked_follows plain plain plain_does hash_code keeps.hash_code a s) (λ b s. int_follows p keeps (λ a. a) b s _ _ (λ z. text_gives _ s))))

    said_follows : (name : List ℕ) (m : Value) (s : State) → Follows p s (member.said name m s) (λ x. member.said name m (image φ s x))
    said_follows name v.Null s = text_gives name s
    said_follows name (v.Text j) s = units_follow p keeps (λ a. a) (v.Text j) s _ _ (λ us. text_gives _ s)
    said_follows name (v.Ref r) s = misfit_follows p keeps (λ a. a) s
    said_follows name (v.Int z) s = misfit_follows p keeps (λ a. a) s
    said_follows name (v.Long z) s = misfit_follows p keeps (λ a. a) s
    said_follows name (v.Char z) s = misfit_follows p keeps (λ a. a) s
    said_follows name (v.Truth z) s = misfit_follows p keeps (λ a. a) s

    throwable_text_follows : (a : Value) (s : State) → Follows p s (throwable_text old a s) (λ x. throwable_text new a (image φ s x))
    throwable_text_follows a s = reference_follows p keeps (λ a. a) a s _ _ (λ r.
        known_follows p keeps (λ a. a) (name_at c r s) (λ x. name_at c' r (image φ s x)) s _ _ (λ x o. name_found r s x o) (λ name e.
        and_so p _ _ _ _ _ (asked_follows plain plain plain_does get_message keeps.get_message a s) (λ m s. said_follows name m s)))

    speaking_does : (y : BuiltIn) (a : Value) (xs : List Value) (s : State) → Follows p s (speaking old y a xs s) (λ x. speaking new y a xs (image φ s x))
    speaking_does b.ObjectToString a xs s = none_follows xs s _ _ (object_text_follows a s)
    speaking_does b.ThrowableToString a xs s = none_follows xs s _ _ (throwable_text_follows a s)
    speaking_does b.NewObject a xs s = plain_does b.NewObject a xs s
    speaking_does (b.NewThrowable m) a xs s = plain_does (b.NewThrowable m) a xs s
    speaking_does b.ObjectEquals a xs s = plain_does b.ObjectEquals a xs s
    speaking_does b.ObjectHashCode a xs s = plain_does b.ObjectHashCode a xs s
    speaking_does b.Length a xs s = plain_does b.Length a xs s
    speaking_does b.CharAt a xs s = plain_does b.CharAt a xs s
    speaking_does b.SubstringFrom a xs s = plain_does b.SubstringFrom a xs s
    speaking_does b.SubstringBetween a xs s = plain_does b.SubstringBetween a xs s
    speaking_does b.CompareTo a xs s = plain_does b.CompareTo a xs s
    speaking_does b.StringEquals a xs s = plain_does b.StringEquals a xs s
    speaking_does b.StringHashCode a xs s = plain_does b.StringHashCode a xs s
    speaking_does b.StringToString a xs s = plain_does b.StringToString a xs s
    speaking_does (b.Print line) a xs s = plain_does (b.Print line) a xs s
    speaking_does (b.PrintChars line) a xs s = plain_does (b.PrintChars line) a xs s
    speaking_does b.PrintLine a xs s = plain_does b.PrintLine a xs s
    speaking_does b.GetMessage a xs s = plain_does b.GetMessage a xs s

    told_follows : (a : Value) (s : State) → Follows p s (told a s) (λ x. told a (image φ s x))
    told_follows v.Null s = gave p null_units s
    told_follows (v.Text j) s = known_follows p keeps (λ a. a) (slice_get s.texts j) (λ x. slice_get s.texts j) s _ _ (λ x o. refl) (λ us e. gave p us s)
    told_follows (v.Ref r) s = misfit_follows p keeps (λ a. a) s
    told_follows (v.Int z) s = misfit_follows p keeps (λ a. a) s
    told_follows (v.Long z) s = misfit_follows p keeps (λ a. a) s
    told_follows (v.Char z) s = misfit_follows p keeps (λ a. a) s
    told_follows (v.Truth z) s = misfit_follows p keeps (λ a. a) s

    text_follows : (a : Value) (s : State) → Follows p s (text_of old a s) (λ x. text_of new a (image φ s x))
    text_follows (v.Int z) s = gave p (number_units z) s
    text_follows (v.Long z) s = gave p (number_units z) s
    text_follows (v.Char u) s = gave p (u ∷ []) s
    text_follows (v.Truth z) s = gave p (truth_units z) s
    text_follows v.Null s = told_follows v.Null s
    text_follows (v.Text j) s = told_follows (v.Text j) s
    text_follows (v.Ref r) s = and_so p _ _ _ _ _ (asked_follows (speaking old) (speaking new) speaking_does to_string keeps.to_string (v.Ref r) s) (λ a s. told_follows a s)

    print_follows : (line : Bool) (a : Value) (s : State) → Follows p s (print old line a s) (λ x. print new line a (image φ s x))
    print_follows line a s = and_so p _ _ _ _ _ (text_follows a s) (λ us s. printed_follows line us s)

    performed_does : (y : BuiltIn) (a : Value) (xs : List Value) (s : State) → Follows p s (performed old y a xs s) (λ x. performed new y a xs (image φ s x))
    performed_does (b.Print line) a xs s = one_follows xs s _ _ (λ y. print_follows line y s)
    performed_does b.ObjectToString a xs s = speaking_does b.ObjectToString a xs s
    performed_does b.ThrowableToString a xs s = speaking_does b.ThrowableToString a xs s
    performed_does b.NewObject a xs s = speaking_does b.NewObject a xs s
    performed_does (b.NewThrowable m) a xs s = speaking_does (b.NewThrowable m) a xs s
    performed_does b.ObjectEquals a xs s = speaking_does b.ObjectEquals a xs s
    performed_does b.ObjectHashCode a xs s = speaking_does b.ObjectHashCode a xs s
    performed_does b.Length a xs s = speaking_does b.Length a xs s
    performed_does b.CharAt a xs s = speaking_does b.CharAt a xs s
    performed_does b.SubstringFrom a xs s = speaking_does b.SubstringFrom a xs s
    performed_does b.SubstringBetween a xs s = speaking_does b.SubstringBetween a xs s
    performed_does b.CompareTo a xs s = speaking_does b.CompareTo a xs s
    performed_does b.StringEquals a xs s = speaking_does b.StringEquals a xs s
    performed_does b.StringHashCode a xs s = speaking_does b.StringHashCode a xs s
    performed_does b.StringToString a xs s = speaking_does b.StringToString a xs s
    performed_does (b.PrintChars line) a xs s = speaking_does (b.PrintChars line) a xs s
    performed_does b.PrintLine a xs s = speaking_does b.PrintLine a xs s
    performed_does b.GetMessage a xs s = speaking_does b.GetMessage a xs s

    invoked_follows : (m : ℕ) (a : Value) (xs : List Value) (s : State) → Follows p s (invoked old m a xs s) (λ x. invoked new (φ.methods m) a xs (image φ s x))
    invoked_follows m a xs s = entered_follows (performed old) (performed new) performed_does m a xs s

    called_follows : (m m' : ℕ) (a : Value) (xs : List Value) (s : State) → CallAlike p m m' → Follows p s (called old m a xs s) (λ x. called new m' a xs (image φ s x))
    called_follows m m' a xs s w = unless_follows p keeps (λ a. a) a s _ _ (found_follows m m' a s _ _ w (λ j. invoked_follows j a xs s))

    -- ---- what operators do with values, arrays and new objects

    joined_follows : (a y : Value) (s : State) → Follows p s (joined old a y s) (λ x. joined new a y (image φ s x))
    joined_follows a y s = and_so p _ _ _ _ _ (text_follows a s) (λ us s. and_so p _ _ _ _ _ (text_follows y s) (λ vs s. text_gives _ s))

    binary_follows : (op : BinOp) (i : Kind) (a y : Value) (s : State) → Follows p s (binary old op i a y s) (λ x. binary new op i a y (image φ s x))
    binary_follows op i a y s = at (is_join_of op i)
      where
        at : (w : Bool) → Follows p s (calculated w old op a y s) (λ x. calculated w new op a y (image φ s x))
        at true = joined_follows a y s
        at false = made_follows p keeps (operated op a y) s _ _ (λ z. gave p z s)

    compounded_follows : (op : BinOp) (i : Kind) (t t' : JavaType) (a y : Value) (s : State) → FitAlike t t'
        → Follows p s (compounded old op i t a y s) (λ x. compounded new op i t' a y (image φ s x))
    compounded_follows op i t t' a y s w =
        known_follows p keeps (λ a. a) (as_kind i a) (λ x. as_kind i a) s _ _ (λ x o. refl) (λ a e.
        and_so p _ _ _ _ _ (binary_follows op i a y s) (λ z s. fitted_follows t t' z s w))

    array_gives : (r : ℕ) (t : JavaType) (xs : List Value) (s : State) → erased t ≡ t
        → Follows p s (Gives (v.Ref r) (with_array r t xs s)) (λ x. Gives (v.Ref r) (with_array r (moved φ.types t) xs (image φ s x)))
    array_gives r t xs s w = record {
      fine = λ e. e;
      same = λ x o e. (
        with_heap x (slice_set x.heap r (Array (moved φ.types t) xs)),
        record { heap = things_set φ (Array t xs) (Array (moved φ.types t) xs) (w, refl, refl) r _ _ o.heap; statics = o.statics; progress = o.progress },
        refl,
      );
    }

    array_follows : (t : JavaType) (m : ℕ) (items items' : State → Outcome (List Value)) → erased t ≡ t
        → ((s : State) → Follows p s (items s) (λ x. items' (image φ s x))) → (s : State)
        → Follows p s (array_with t m items s) (λ x. array_with (moved φ.types t) m items' (image φ s x))
    array_follows t m items items' w i s =
        retold p (λ x o. ap (λ r. and_then (items' (with_thing fresh' (image φ s x))) (λ xs u. Gives (v.Ref r) (with_array r (moved φ.types t) xs u))) (things_length φ _ _ o.heap))
        (from p (λ x. with_heap x (x.heap ++ fresh' ∷ [])) (λ e. e) (λ x o. pushed s x fresh fresh' o (w, refl, ap (replicate m) (default_moved φ.types t)))
        (and_so p _ _ _ _ _ (i (with_thing fresh s)) (λ xs s. array_gives _ t xs s w)))
      where
        fresh : Thing
        fresh = Array t (replicate m (default_value t))

        fresh' : Thing
        fresh' = Array (moved φ.types t) (replicate m (default_value (moved φ.types t)))

    repeated_follows : (m : ℕ) (one one' : State → Outcome Value) → ((s : State) → Follows p s (one s) (λ x. one' (image φ s x))) → (s : State)
        → Follows p s (repeated m one s) (λ x. repeated m one' (image φ s x))
    repeated_follows zero one one' w s = gave p [] s
    repeated_follows (suc m) one one' w s = and_so p _ _ _ _ _ (w s) (λ y s. and_so p _ _ _ _ _ (repeated_follows m one one' w s) (λ ys s. gave p (y ∷ ys) s))

    arrays_follow : (ms : List ℕ) (t : JavaType) → erased t ≡ t → (s : State) → Follows p s (arrays_of ms t s) (λ x. arrays_of ms (moved φ.types t) (image φ s x))
    arrays_follow [] t w s = retold p (λ x o. ap (λ a. Gives a (image φ s x)) (default_moved φ.types t)) (gave p (default_value t) s)
    arrays_follow (m ∷ ms) t w s =
        some_follows p keeps (λ a. a) (moved φ.types) (element t) (λ x. element (moved φ.types t)) s _ _ (λ x o. inl (element_moved φ.types t)) (λ u e.
        array_follows u m (repeated m (arrays_of ms u)) (repeated m (arrays_of ms (moved φ.types u))) (element_of_erased t u w e)
        (repeated_follows m (arrays_of ms u) (arrays_of ms (moved φ.types u)) (arrays_follow ms u (element_of_erased t u w e))) s)

    sized_follows : (t t' : JavaType) (xs : List Value) (s : State) → ArrayAlike p t t' → Follows p s (sized t xs s) (λ x. sized t' xs (image φ s x))
    sized_follows t t' xs s w = retold p (λ x o. ap (λ t. sized t xs (image φ s x)) w.1)
        (known_follows p keeps (λ a. a) (ints_of xs) (λ x. ints_of xs) s _ _ (λ x o. refl) (λ zs e. at zs (find (λ z. int_lt z (pos 0)) zs)))
      where
        at : (zs : List ℤ) (o : Option ℤ) → Follows p s (unless_negative o (arrays_of (map unsigned_abs zs) t) s) (λ x. unless_negative o (arrays_of (map unsigned_abs zs) (moved φ.types t)) (image φ s x))
        at zs None = arrays_follow (map unsigned_abs zs) t w.0 s
        at zs (Some z) = saying_follows p keeps (λ a. a) built.negative_array_size_exception (number_units z) s (keeps.types built.negative_array_size_exception (omega arith))

    filled_follows : (t t' : JavaType) (m : ℕ) (items items' : State → Outcome (List Value)) → ArrayAlike p t t'
        → ((s : State) → Follows p s (items s) (λ x. items' (image φ s x))) → (s : State)
        → Follows p s (with_some (element t) s (λ u. array_with u m items s)) (λ x. with_some (element t') (image φ s x) (λ u. array_with u m items' (image φ s x)))
    filled_follows t t' m items items' w i s =
        retold p (λ x o. ap (λ t. with_some (element t) (image φ s x) (λ u. array_with u m items' (image φ s x))) w.1)
        (some_follows p keeps (λ a. a) (moved φ.types) (element t) (λ x. element (moved φ.types t)) s _ _ (λ x o. inl (element_moved φ.types t)) (λ u e.
        array_follows u m items items' (element_of_erased t u w.0 e) i s))

    length_follows : (a : Value) (s : State) → Follows p s (array_length a s) (λ x. array_length a (image φ s x))
    length_follows a s = reference_follows p keeps (λ a. a) a s _ _ (λ r.
        known_follows p keeps (λ a. a) (item_count r s) (λ x. item_count r (image φ s x)) s _ _ (λ x o. ap (option_map length) (items_found r s x o)) (λ m e. gave p (v.Int (pos m)) s))

    static_follows : (m : ℕ) (xs : List Value) (s : State) → Follows p s (called_static old m xs s) (λ x. called_static new (φ.methods m) xs (image φ s x))
    static_follows m xs s = owner_follows (λ (i : MethodInfo). i.owner) (λ (i : MethodInfo). i.owner) (slice_get c.world.methods m) (slice_get c'.world.methods (φ.methods m)) s
        (λ j. and_then (init j s) (λ u s. invoked old m v.Null xs s)) (λ x j. and_then (init' j (image φ s x)) (λ u s. invoked new (φ.methods m) v.Null xs s))
        (h.tables.method_owner m) (λ j e. and_so p _ _ _ _ _ (inits j s) (λ u s. invoked_follows m v.Null xs s))

    created_follows : (class class' : Option ℕ) (m : ℕ) (args args' : State → Outcome (List Value)) → class' ≡ option_map φ.types class
        → ((s : State) → Follows p s (args s) (λ x. args' (image φ s x))) → (s : State)
        → Follows p s (created old class m args s) (λ x. created new class' (φ.methods m) args' (image φ s x))
    created_follows class class' m args args' w i s =
        some_follows p keeps (λ a. a) φ.types class (λ x. class') s _ _ (λ x o. inl w) (λ j e. and_so p _ _ _ _ _ (inits j s) (λ u s. at j s))
      where
        at : (j : ℕ) (s : State) → Follows p s
            (and_then (args (with_thing (new_object c j) s)) (λ xs t. and_then (invoked old m (v.Ref (length s.heap)) xs t) (λ a t. Gives (v.Ref (length s.heap)) t)))
            (λ x. and_then (args' (with_thing (new_object c' (φ.types j)) (image φ s x))) (λ xs t.
            and_then (invoked new (φ.methods m) (v.Ref (length x.heap)) xs t) (λ a t. Gives (v.Ref (length x.heap)) t)))
        at j s =
            retold p (λ x o. ap (λ r. and_then (args' (with_thing (new_object c' (φ.types j)) (image φ s x))) (λ xs t. and_then (invoked new (φ.methods m) (v.Ref r) xs t) (λ a t. Gives (v.Ref r) t))) (things_length φ _ _ o.heap))
            (from p (λ x. with_heap x (x.heap ++ new_object c' (φ.types j) ∷ [])) (λ e. e) (λ x o. pushed s x (new_object c j) (new_object c' (φ.types j)) o (h.tables.objects j))
            (and_so p _ _ _ _ _ (i (with_thing (new_object c j) s)) (λ xs t. and_so p _ _ _ _ _ (invoked_follows m (v.Ref (length s.heap)) xs t) (λ a t. gave p (v.Ref (length s.heap)) t))))

    -- ---- expressions

    joined_same : (op op' : BinOp) (i i' : Kind) (x x' y y' : e.Expr) → op' ≡ op → i' ≡ i → literal_of x' ≡ literal_of x → literal_of y' ≡ literal_of y
        → joined_literal op' i' x' y' ≡ joined_literal op i x y
    joined_same op op' i i' x x' y y' a b d g =
        ap (λ op. only_if (is_join_of op i') (both (literal_of x') (literal_of y'))) a
        ∙ ap (λ i. only_if (is_join_of op i) (both (literal_of x') (literal_of y'))) b
        ∙ ap (λ u. only_if (is_join_of op i) (both u (literal_of y'))) d
        ∙ ap (λ u. only_if (is_join_of op i) (both (literal_of x) u)) g

    -- alike trees are the same literals
    mutual
      literal_same : (x x' : e.Expr) → ExprAlike p x x' → literal_of x' ≡ literal_of x
      literal_same (e.At i t x) (e.At i' t' x') w = form_literal t t' x x' w

      form_literal : (t t' : JavaType) (x x' : e.Form) → FormAlike p t t' x x' → literal_form x' ≡ literal_form x
      form_literal t t' (e.Int z) (e.Int z') w = ap (λ z. literal_form (e.Int z)) w
      form_literal t t' (e.Long z) (e.Long z') w = ap (λ z. literal_form (e.Long z)) w
      form_literal t t' (e.Char z) (e.Char z') w = ap (λ z. literal_form (e.Char z)) w
      form_literal t t' (e.Text z) (e.Text z') w = ap (λ z. literal_form (e.Text z)) w
      form_literal t t' (e.Truth z) (e.Truth z') w = ap (λ z. literal_form (e.Truth z)) w
      form_literal t t' e.Null e.Null w = refl
      form_literal t t' (e.Paren x) (e.Paren x') w = literal_same x x' w
      form_literal t t' (e.Binary op i x y) (e.Binary op' i' x' y') w = joined_same op op' i i' x x' y y' w.0 w.1 (literal_same x x' w.2) (literal_same y y' w.3)
      form_literal t t' e.This e.This w = refl
      form_literal t t' (e.Local j) (e.Local j') w = refl
      form_literal t t' (e.Widen x) (e.Widen x') w = refl
      form_literal t t' (e.Implied x) (e.Implied x') w = refl
      form_literal t t' (e.Field x i f) (e.Field x' i' f') w = refl
      form_literal t t' (e.SuperField f) (e.SuperField f') w = refl
      form_literal t t' (e.StaticField i x f) (e.StaticField i' x' f') w = refl
      form_literal t t' (e.Length x) (e.Length x') w = refl
      form_literal t t' (e.Index x y) (e.Index x' y') w = refl
      form_literal t t' (e.Call x i m xs) (e.Call x' i' m' xs') w = refl
      form_literal t t' (e.SuperCall m xs) (e.SuperCall m' xs') w = refl
      form_literal t t' (e.StaticCall i x m xs) (e.StaticCall i' x' m' xs') w = refl
      form_literal t t' (e.New i m xs) (e.New i' m' xs') w = refl
      form_literal t t' (e.NewArray i xs) (e.NewArray i' xs') w = refl
      form_literal t t' (e.NewFilled i x) (e.NewFilled i' x') w = refl
      form_literal t t' (e.Filled xs) (e.Filled xs') w = refl
      form_literal t t' (e.Unary op x) (e.Unary op' x') w = refl
      form_literal t t' (e.Step i j x) (e.Step i' j' x') w = refl
      form_literal t t' (e.Cast i j x) (e.Cast i' j' x') w = refl
      form_literal t t' (e.Logic i x y) (e.Logic i' x' y') w = refl
      form_literal t t' (e.InstanceOf x i) (e.InstanceOf x' i') w = refl
      form_literal t t' (e.Cond x y z) (e.Cond x' y' z') w = refl
      form_literal t t' (e.Assign x y) (e.Assign x' y') w = refl
      form_literal t t' (e.Compound op i x y) (e.Compound op' i' x' y') w = refl
      form_literal t t' _ _ w = absurd w

    literal_or_follows : (o : Option (List ℕ)) (f f' : State → Outcome Value) (s : State) → Follows p s (f s) (λ x. f' (image φ s x))
        → Follows p s (literal_or o f s) (λ x. literal_or o f' (image φ s x))
    literal_or_follows None f f' s w = w
    literal_or_follows (Some units) f f' s w = literal_follows units s

    -- what a variable holds, with the casts that are implied where it is read
    mutual
      current_follows : (x x' : e.Expr) (y : Variable) (s : State) → ExprAlike p x x' → Follows p s (current old x y s) (λ u. current new x' (moved_variable y) (image φ s u))
      current_follows (e.At i t x) (e.At i' t' x') y s w = form_current t t' x x' y s w

      form_current : (t t' : JavaType) (x x' : e.Form) (y : Variable) (s : State) → FormAlike p t t' x x'
          → Follows p s (current_form old t x y s) (λ u. current_form new t' x' (moved_variable y) (image φ s u))
      form_current t t' (e.Paren x) (e.Paren x') y s w = current_follows x x' y s w
      form_current t t' (e.Implied x) (e.Implied x') y s w = and_so p _ _ _ _ _ (current_follows x x' y s w.1) (λ a s. implied_follows t t' a s w.0)
      form_current t t' (e.Int z) (e.Int z') y s w = read_follows y s
      form_current t t' (e.Long z) (e.Long z') y s w = read_follows y s
      form_current t t' (e.Char z) (e.Char z') y s w = read_follows y s
      form_current t t' (e.Text z) (e.Text z') y s w = read_follows y s
      form_current t t' (e.Truth z) (e.Truth z') y s w = read_follows y s
      form_current t t' e.Null e.Null y s w = read_follows y s
      form_current t t' e.This e.This y s w = read_follows y s
      form_current t t' (e.Local j) (e.Local j') y s w = read_follows y s
      form_current t t' (e.Widen x) (e.Widen x') y s w = read_follows y s
      form_current t t' (e.Field x i f) (e.Field x' i' f') y s w = read_follows y s
      form_current t t' (e.SuperField f) (e.SuperField f') y s w = read_follows y s
      form_current t t' (e.StaticField i x f) (e.StaticField i' x' f') y s w = read_follows y s
      form_current t t' (e.Length x) (e.Length x') y s w = read_follows y s
      form_current t t' (e.Index x z) (e.Index x' z') y s w = read_follows y s
      form_current t t' (e.Call x i m xs) (e.Call x' i' m' xs') y s w = read_follows y s
      form_current t t' (e.SuperCall m xs) (e.SuperCall m' xs') y s w = read_follows y s
      form_current t t' (e.StaticCall i x m xs) (e.StaticCall i' x' m' xs') y s w = read_follows y s
      form_current t t' (e.New i m xs) (e.New i' m' xs') y s w = read_follows y s
      form_current t t' (e.NewArray i xs) (e.NewArray i' xs') y s w = read_follows y s
      form_current t t' (e.NewFilled i x) (e.NewFilled i' x') y s w = read_follows y s
      form_current t t' (e.Filled xs) (e.Filled xs') y s w = read_follows y s
      form_current t t' (e.Unary op x) (e.Unary op' x') y s w = read_follows y s
      form_current t t' (e.Step i j x) (e.Step i' j' x') y s w = read_follows y s
      form_current t t' (e.Cast i j x) (e.Cast i' j' x') y s w = read_follows y s
      form_current t t' (e.Binary op i x z) (e.Binary op' i' x' z') y s w = read_follows y s
      form_current t t' (e.Logic i x z) (e.Logic i' x' z') y s w = read_follows y s
      form_current t t' (e.InstanceOf x i) (e.InstanceOf x' i') y s w = read_follows y s
      form_current t t' (e.Cond x z u) (e.Cond x' z' u') y s w = read_follows y s
      form_current t t' (e.Assign x z) (e.Assign x' z') y s w = read_follows y s
      form_current t t' (e.Compound op i x z) (e.Compound op' i' x' z') y s w = read_follows y s
      form_current t t' _ _ y s w = absurd w

    counted : (xs xs' : e.Exprs) → ExprsAlike p xs xs' → count xs' ≡ count xs
    counted e.End e.End w = refl
    counted (e.Also x xs) (e.Also x' xs') w = ap suc (counted xs xs' w.1)
    counted _ _ w = absurd w

    mutual
      value_follows : (x x' : e.Expr) (s : State) → ExprAlike p x x' → Follows p s (value old x s) (λ u. value new x' (image φ s u))
      value_follows (e.At i t x) (e.At i' t' x') s w = form_follows t t' x x' s w

      form_follows : (t t' : JavaType) (x x' : e.Form) (s : State) → FormAlike p t t' x x' → Follows p s (value_form old t x s) (λ u. value_form new t' x' (image φ s u))
      form_follows t t' (e.Int z) (e.Int z') s w = rw w (gave p (v.Int z) s)
      form_follows t t' (e.Long z) (e.Long z') s w = rw w (gave p (v.Long z) s)
      form_follows t t' (e.Char z) (e.Char z') s w = rw w (gave p (v.Char z) s)
      form_follows t t' (e.Text z) (e.Text z') s w = rw w (literal_follows z s)
      form_follows t t' (e.Truth z) (e.Truth z') s w = rw w (gave p (v.Truth z) s)
      form_follows t t' e.Null e.Null s w = gave p v.Null s
      form_follows t t' e.This e.This s w = gave p s.frame.this s
      form_follows t t' (e.Local j) (e.Local j') s w = rw w (read_follows (of.Local j) s)
      form_follows t t' (e.Paren x) (e.Paren x') s w = value_follows x x' s w
      form_follows t t' (e.Widen x) (e.Widen x') s w = and_so p _ _ _ _ _ (value_follows x x' s w.1) (λ a s. fitted_follows t t' a s w.0)
      form_follows t t' (e.Implied x) (e.Implied x') s w = and_so p _ _ _ _ _ (value_follows x x' s w.1) (λ a s. implied_follows t t' a s w.0)
      form_follows t t' (e.Field x i f) (e.Field x' i' f') s w = rw w.0 (and_so p _ _ _ _ _ (value_follows x x' s w.1) (λ a s. read_follows (of.Field a f) s))
      form_follows t t' (e.SuperField f) (e.SuperField f') s w = rw w (read_follows (of.Field s.frame.this f) s)
      form_follows t t' (e.StaticField i x f) (e.StaticField i' x' f') s w = rw w.0 (and_so p _ _ _ _ _ (dropped_follows x x' s w.1) (λ a s. read_follows (of.Static f) s))
      form_follows t t' (e.Length x) (e.Length x') s w = and_so p _ _ _ _ _ (value_follows x x' s w) (λ a s. length_follows a s)
      form_follows t t' (e.Index x y) (e.Index x' y') s w =
          and_so p _ _ _ _ _ (value_follows x x' s w.0) (λ a s. and_so p _ _ _ _ _ (value_follows y y' s w.1) (λ i s. read_follows (of.Item a i) s))
      form_follows t t' (e.Call x i m xs) (e.Call x' i' m' xs') s w =
          and_so p _ _ _ _ _ (value_follows x x' s w.1) (λ a s. and_so p _ _ _ _ _ (values_follow xs xs' s w.2) (λ ys s. called_follows m m' a ys s w.0))
      form_follows t t' (e.SuperCall m xs) (e.SuperCall m' xs') s w = rw w.0 (and_so p _ _ _ _ _ (values_follow xs xs' s w.1) (λ ys s. invoked_follows m s.frame.this ys s))
      form_follows t t' (e.StaticCall i x m xs) (e.StaticCall i' x' m' xs') s w =
          rw w.0 (and_so p _ _ _ _ _ (dropped_follows x x' s w.1) (λ u s. and_so p _ _ _ _ _ (values_follow xs xs' s w.2) (λ ys s. static_follows m ys s)))
      form_follows t t' (e.New i m xs) (e.New i' m' xs') s w = rw w.1 (created_follows _ _ m (values old xs) (values new xs') w.0 (λ s. values_follow xs xs' s w.2) s)
      form_follows t t' (e.NewArray i xs) (e.NewArray i' xs') s w = and_so p _ _ _ _ _ (values_follow xs xs' s w.1) (λ ys s. sized_follows t t' ys s w.0)
      form_follows t t' (e.NewFilled i x) (e.NewFilled i' x') s w = value_follows x x' s w
      form_follows t t' (e.Filled xs) (e.Filled xs') s w = rw (counted xs xs' w.1) (filled_follows t t' (count xs) (values old xs) (values new xs') w.0 (λ s. values_follow xs xs' s w.1) s)
      form_follows t t' (e.Unary op x) (e.Unary op' x') s w = rw w.0 (and_so p _ _ _ _ _ (value_follows x x' s w.1) (λ a s.
          known_follows p keeps (λ a. a) (prefixed op a) (λ u. prefixed op a) s _ _ (λ u o. refl) (λ b g. gave p b s)))
      form_follows t t' (e.Step i j x) (e.Step i' j' x') s w = rw (w.0, w.1) (then_follows p moved_variable (λ a. a) _ _ _ _ _ (variable_follows x x' s w.2) (λ y s.
          and_so p _ _ _ _ _ (current_follows x x' y s w.2) (λ a s.
          known_follows p keeps (λ a. a) (stepped i a) (λ u. stepped i a) s _ _ (λ u o. refl) (λ b g. and_so p _ _ _ _ _ (store_follows y b s) (λ z s. gave p _ s)))))
      form_follows t t' (e.Cast i j x) (e.Cast i' j' x') s w = and_so p _ _ _ _ _ (value_follows x x' s w.1) (λ a s. cast_follows _ _ a s w.0)
      form_follows t t' (e.Binary op i x y) (e.Binary op' i' x' y') s w = rw (joined_same op op' i i' x x' y y' w.0 w.1 (literal_same x x' w.2) (literal_same y y' w.3)) (rw (w.0, w.1) (literal_or_follows (joined_literal op i x y) _ _ s
          (and_so p _ _ _ _ _ (value_follows x x' s w.2) (λ a s. and_so p _ _ _ _ _ (value_follows y y' s w.3) (λ b s. binary_follows op i a b s)))))
      form_follows t t' (e.Logic true x y) (e.Logic i' x' y') s w = rw w.0 (and_so p _ _ _ _ _ (value_follows x x' s w.1) (λ a s.
          truth_follows p keeps a s _ _ _ _ (value_follows y y' s w.2) (gave p (v.Truth false) s)))
      form_follows t t' (e.Logic false x y) (e.Logic i' x' y') s w = rw w.0 (and_so p _ _ _ _ _ (value_follows x x' s w.1) (λ a s.
          truth_follows p keeps a s _ _ _ _ (gave p (v.Truth true) s) (value_follows y y' s w.2)))
      form_follows t t' (e.InstanceOf x i) (e.InstanceOf x' i') s w = and_so p _ _ _ _ _ (value_follows x x' s w.1) (λ a s. instance_follows _ _ a s w.0)
      form_follows t t' (e.Cond x y z) (e.Cond x' y' z') s w = and_so p _ _ _ _ _ (value_follows x x' s w.0) (λ a s.
          truth_follows p keeps a s _ _ _ _ (value_follows y y' s w.1) (value_follows z z' s w.2))
      form_follows t t' (e.Assign x y) (e.Assign x' y') s w = then_follows p moved_variable (λ a. a) _ _ _ _ _ (variable_follows x x' s w.0) (λ z s.
          and_so p _ _ _ _ _ (value_follows y y' s w.1) (λ a s. store_follows z a s))
      form_follows t t' (e.Compound op i x y) (e.Compound op' i' x' y') s w = rw (w.1, w.2) (then_follows p moved_variable (λ a. a) _ _ _ _ _ (variable_follows x x' s w.3) (λ z s.
          and_so p _ _ _ _ _ (current_follows x x' z s w.3) (λ a s. and_so p _ _ _ _ _ (value_follows y y' s w.4) (λ b s.
          and_so p _ _ _ _ _ (compounded_follows op i t t' a b s w.0) (λ d s. store_follows z d s)))))
      form_follows t t' _ _ s w = absurd w

      values_follow : (xs xs' : e.Exprs) (s : State) → ExprsAlike p xs xs' → Follows p s (values old xs s) (λ u. values new xs' (image φ s u))
      values_follow e.End e.End s w = gave p [] s
      values_follow (e.Also x xs) (e.Also x' xs') s w =
          and_so p _ _ _ _ _ (value_follows x x' s w.0) (λ a s. and_so p _ _ _ _ _ (values_follow xs xs' s w.1) (λ ys s. gave p (a ∷ ys) s))
      values_follow _ _ s w = absurd w

      dropped_follows : (x x' : e.MaybeExpr) (s : State) → MaybeExprAlike p x x' → Follows p s (dropped old x s) (λ u. dropped new x' (image φ s u))
      dropped_follows e.NoExpr e.NoExpr s w = gave p tt s
      dropped_follows (e.AnExpr x) (e.AnExpr x') s w = and_so p _ _ _ _ _ (value_follows x x' s w) (λ a s. gave p tt s)
      dropped_follows _ _ s w = absurd w

      variable_follows : (x x' : e.Expr) (s : State) → ExprAlike p x x'
          → FollowsBy p moved_variable (key s) (variable old x s) (λ u. variable new x' (image φ s u))
      variable_follows (e.At i t x) (e.At i' t' x') s w = form_variable t t' x x' s w

      form_variable : (t t' : JavaType) (x x' : e.Form) (s : State) → FormAlike p t t' x x'
          → FollowsBy p moved_variable (key s) (variable_form old x s) (λ u. variable_form new x' (image φ s u))
      form_variable t t' (e.Local j) (e.Local j') s w = rw w (gives p moved_variable (of.Local j) s)
      form_variable t t' (e.Field x i f) (e.Field x' i' f') s w = rw w.0 (then_follows p (λ a. a) moved_variable _ _ _ _ _ (value_follows x x' s w.1) (λ a s. gives p moved_variable (of.Field a f) s))
      form_variable t t' (e.SuperField f) (e.SuperField f') s w = rw w (gives p moved_variable (of.Field s.frame.this f) s)
      form_variable t t' (e.StaticField i x f) (e.StaticField i' x' f') s w = rw w.0 (then_follows p (λ a. a) moved_variable _ _ _ _ _ (dropped_follows x x' s w.1) (λ a s. gives p moved_variable (of.Static f) s))
      form_variable t t' (e.Index x y) (e.Index x' y') s w = then_follows p (λ a. a) moved_variable _ _ _ _ _ (value_follows x x' s w.0) (λ a s.
          then_follows p (λ a. a) moved_variable _ _ _ _ _ (value_follows y y' s w.1) (λ i s. gives p moved_variable (of.Item a i) s))
      form_variable t t' (e.Paren x) (e.Paren x') s w = variable_follows x x' s w
      form_variable t t' (e.Implied x) (e.Implied x') s w = variable_follows x x' s w.1
      form_variable t t' (e.Int z) (e.Int z') s w = misfit_follows p keeps moved_variable s
      form_variable t t' (e.Long z) (e.Long z') s w = misfit_follows p keeps moved_variable s
      form_variable t t' (e.Char z) (e.Char z') s w = misfit_follows p keeps moved_variable s
      form_variable t t' (e.Text z) (e.Text z') s w = misfit_follows p keeps moved_variable s
      form_variable t t' (e.Truth z) (e.Truth z') s w = misfit_follows p keeps moved_variable s
      form_variable t t' e.Null e.Null s w = misfit_follows p keeps moved_variable s
      form_variable t t' e.This e.This s w = misfit_follows p keeps moved_variable s
      form_variable t t' (e.Widen x) (e.Widen x') s w = misfit_follows p keeps moved_variable s
      form_variable t t' (e.Length x) (e.Length x') s w = misfit_follows p keeps moved_variable s
      form_variable t t' (e.Call x i m xs) (e.Call x' i' m' xs') s w = misfit_follows p keeps moved_variable s
      form_variable t t' (e.SuperCall m xs) (e.SuperCall m' xs') s w = misfit_follows p keeps moved_variable s
      form_variable t t' (e.StaticCall i x m xs) (e.StaticCall i' x' m' xs') s w = misfit_follows p keeps moved_variable s
      form_variable t t' (e.New i m xs) (e.New i' m' xs') s w = misfit_follows p keeps moved_variable s
      form_variable t t' (e.NewArray i xs) (e.NewArray i' xs') s w = misfit_follows p keeps moved_variable s
      form_variable t t' (e.NewFilled i x) (e.NewFilled i' x') s w = misfit_follows p keeps moved_variable s
      form_variable t t' (e.Filled xs) (e.Filled xs') s w = misfit_follows p keeps moved_variable s
      form_variable t t' (e.Unary op x) (e.Unary op' x') s w = misfit_follows p keeps moved_variable s
      form_variable t t' (e.Step i j x) (e.Step i' j' x') s w = misfit_follows p keeps moved_variable s
      form_variable t t' (e.Cast i j x) (e.Cast i' j' x') s w = misfit_follows p keeps moved_variable s
      form_variable t t' (e.Binary op i x y) (e.Binary op' i' x' y') s w = misfit_follows p keeps moved_variable s
      form_variable t t' (e.Logic i x y) (e.Logic i' x' y') s w = misfit_follows p keeps moved_variable s
      form_variable t t' (e.InstanceOf x i) (e.InstanceOf x' i') s w = misfit_follows p keeps moved_variable s
      form_variable t t' (e.Cond x y z) (e.Cond x' y' z') s w = misfit_follows p keeps moved_variable s
      form_variable t t' (e.Assign x y) (e.Assign x' y') s w = misfit_follows p keeps moved_variable s
      form_variable t t' (e.Compound op i x y) (e.Compound op' i' x' y') s w = misfit_follows p keeps moved_variable s
      form_variable t t' _ _ s w = absurd w

    -- ---- parts of statements

    done_follows : {A : Type 0} (j : Key) (o : Outcome A) (o' : Other → Outcome A) → FollowsBy p (λ a. a) j o o' → FollowsBy p (λ a. a) j (done o) (λ u. done (o' u))
    done_follows j o o' w = and_so p _ _ _ _ _ w (λ a s. gave p ending.Goes s)

    local_follows : (x x' : e.Var) (s : State) → VarAlike p x x' → Follows p s (local old x s) (λ u. local new x' (image φ s u))
    local_follows x x' s w = rw w.0 (at x.init x'.init w.1)
      where
        at : (y y' : Option e.Expr) → OptExprAlike p y y' → Follows p s (local_by y old x.slot s) (λ u. local_by y' new x.slot (image φ s u))
        at None None i = gave p ending.Goes s
        at (Some y) (Some y') i = and_so p _ _ _ _ _ (value_follows y y' s i) (λ a s. gave p ending.Goes (with_local x.slot a s))
        at _ _ i = absurd i

    locals_follow : (xs xs' : List e.Var) (s : State) → VarsAlike p xs xs' → Follows p s (locals old xs s) (λ u. locals new xs' (image φ s u))
    locals_follow [] [] s w = gave p ending.Goes s
    locals_follow (x ∷ xs) (x' ∷ xs') s w = and_so p _ _ _ _ _ (local_follows x x' s w.0) (λ f s. locals_follow xs xs' s w.1)
    locals_follow _ _ s w = absurd w

    tested_follows : (x x' : e.Expr) (s : State) → ExprAlike p x x' → Follows p s (tested old x s) (λ u. tested new x' (image φ s u))
    tested_follows x x' s w = and_so p _ _ _ _ _ (value_follows x x' s w) (λ a s. truth_test a s)
      where
        truth_test : (a : Value) (s : State) → Follows p s (by_truth a (λ s. Gives true s) (λ s. Gives false s) s)
            (λ u. by_truth a (λ s. Gives true s) (λ s. Gives false s) (image φ s u))
        truth_test a s = truth_follows p keeps a s _ _ _ _ (gave p true s) (gave p false s)

    tested_or_follows : (x x' : Option e.Expr) (s : State) → OptExprAlike p x x' → Follows p s (tested_or old x s) (λ u. tested_or new x' (image φ s u))
    tested_or_follows None None s w = gave p true s
    tested_or_follows (Some x) (Some x') s w = tested_follows x x' s w
    tested_or_follows _ _ s w = absurd w

    updates_follow : (f : Ending) (us us' : e.Exprs) (s : State) → ExprsAlike p us us'
        → Follows p s (and_updates f (λ s. done (values old us s)) s) (λ u. and_updates f (λ s. done (values new us' s)) (image φ s u))
    updates_follow ending.Goes us us' s w = done_follows _ _ _ (values_follow us us' s w)
    updates_follow ending.Breaks us us' s w = gave p ending.Breaks s
    updates_follow ending.Continues us us' s w = done_follows _ _ _ (values_follow us us' s w)
    updates_follow (ending.Returns a) us us' s w = gave p (ending.Returns a) s

    -- ---- the enhanced for

    taken_follows : (j : ℕ) (t t' : JavaType) (a : Value) (s : State) → FitAlike t t' → Follows p s (taken j t a s) (λ u. taken j t' a (image φ s u))
    taken_follows j t t' a s w = and_so p _ _ _ _ _ (fitted_follows t t' a s w) (λ a s. gave p true (with_local j a s))

    item_follows : (j : ℕ) (t t' : JavaType) (a : Value) (i : ℕ) (s : State) → FitAlike t t' → Follows p s (item_before j t a i s) (λ u. item_before j t' a i (image φ s u))
    item_follows j t t' a i s w = reference_follows p keeps (λ a. a) a s _ _ (λ r.
        known_follows p keeps (λ a. a) (items_of r s) (λ u. items_of r (image φ s u)) s _ _ (λ u o. items_found r s u o) (λ xs g. at (slice_get xs i)))
      where
        at : (o : Option Value) → Follows p s (take_item j t o s) (λ u. take_item j t' o (image φ s u))
        at None = gave p false s
        at (Some a) = taken_follows j t t' a s w

    cast_if_follows : (i i' : Bool) (t t' : JavaType) (a : Value) (s : State) → ImpliedAlike p i i' t t' → Follows p s (cast_if i old t a s) (λ u. cast_if i' new t' a (image φ s u))
    cast_if_follows true i' t t' a s (e, inr w) = rw e (implied_follows t t' a s w)
    cast_if_follows true i' t t' a s (e, inl w) = absurd (cc w)
    cast_if_follows false i' t t' a s w = rw w.0 (gave p a s)

    next_follows : (w : Walk) (j : ℕ) (x x' t t' : JavaType) (i i' : Bool) (a : Value) (s : State) → FitAlike x x' → ImpliedAlike p i i' t t'
        → Follows p s (next_before old w j x t i a s) (λ u. next_before new (moved_walk φ w) j x' t' i' a (image φ s u))
    next_follows w j x x' t t' i i' a s f g =
        and_so p _ _ _ _ _ (called_follows w.has_next (φ.methods w.has_next) a [] s (inl refl)) (λ b s. truth_follows p keeps b s _ _ _ _
        (and_so p _ _ _ _ _ (called_follows w.next (φ.methods w.next) a [] s (inl refl)) (λ y s.
        and_so p _ _ _ _ _ (cast_if_follows i i' t t' y s g) (λ y s. taken_follows j x x' y s f)))
        (gave p false s))

    walked_follows : (w : Option Walk) (j : ℕ) (x x' t t' : JavaType) (i i' : Bool) (a : Value) (run run' : State → Outcome Ending) (s : State) → FitAlike x x'
        → ImpliedAlike p i i' t t' → ((s : State) → Follows p s (run s) (λ u. run' (image φ s u)))
        → Follows p s (walked old w j x t i a run s) (λ u. walked new (option_map (moved_walk φ) w) j x' t' i' a run' (image φ s u))
    walked_follows None j x x' t t' i i' a run run' s f g l = misfit_follows p keeps (λ a. a) s
    walked_follows (Some w) j x x' t t' i i' a run run' s f g l =
        and_so p _ _ _ _ _ (called_follows w.iterator (φ.methods w.iterator) a [] s (inl refl)) (λ it s.
        loop_follows p turns 0 _ _ run run' (λ y s. next_follows w j x x' t t' i i' it s f g) l s)

    each_follows : (o o' : Option JavaType) (j : ℕ) (x x' t t' : JavaType) (i i' : Bool) (a : Value) (run run' : State → Outcome Ending) (s : State)
        → is_some o' ≡ is_some o → FitAlike x x' → ImpliedAlike p i i' t t' → ((s : State) → Follows p s (run s) (λ u. run' (image φ s u)))
        → Follows p s (each o old j x t i a run s) (λ u. each o' new j x' t' i' a run' (image φ s u))
    each_follows None None j x x' t t' i i' a run run' s e f g l =
        retold p (λ u o. ap (λ w. walked new w j x' t' i' a run' (image φ s u)) h.tables.walk) (walked_follows c.world.walk j x x' t t' i i' a run run' s f g l)
    each_follows (Some y) (Some y') j x x' t t' i i' a run run' s e f g l = reference_follows p keeps (λ a. a) a s _ _ (λ r.
        loop_follows p turns 0 _ _ run run' (λ m s. item_follows j x x' a m s f) l s)
    each_follows None (Some y') j x x' t t' i i' a run run' s e f g l = absurd (cc e)
    each_follows (Some y) None j x x' t t' i i' a run run' s e f g l = absurd (cc e)

    -- ---- constructors

    filled_field : (f : ℕ) (x x' : Option e.Expr) (s : State) → OptExprAlike p x x' → Follows p s (filled old f x s) (λ u. filled new (φ.fields f) x' (image φ s u))
    filled_field f None None s w = gave p ending.Goes s
    filled_field f (Some x) (Some x') s w = and_so p _ _ _ _ _ (value_follows x x' s w) (λ a s. done_follows _ _ _ (store_follows (of.Field s.frame.this f) a s))
    filled_field f _ _ s w = absurd w

    all_filled_follow : (xs xs' : List e.FieldVar) (s : State) → FieldsAlike p xs xs' → Follows p s (all_filled old xs s) (λ u. all_filled new xs' (image φ s u))
    all_filled_follow [] [] s w = gave p ending.Goes s
    all_filled_follow (x ∷ xs) (x' ∷ xs') s w = rw w.0.0 (rw (h.tables.on_instance x.field) (and_so p _ _ _ _ _
        (choose_follows p (λ a. a) (is_instance_field c.world x.field) _ _ _ _ s (filled_field x.field x.init x'.init s w.0.1) (gave p ending.Goes s))
        (λ f s. all_filled_follow xs xs' s w.1)))
    all_filled_follow _ _ s w = absurd w

    begun_follows : (m : ℕ) (xs : List Value) (s : State) → Follows p s (begun old m xs s) (λ u. begun new (φ.methods m) xs (image φ s u))
    begun_follows m xs s = and_so p _ _ _ _ _ (invoked_follows m s.frame.this xs s) (λ a s. all_filled_follow _ _ s (h.class_fields k))

    -- ---- switch

    same_group : (test : List (Option ℤ) → Bool) (gs gs' : e.Groups) → GroupsAlike p gs gs' → has_group test gs' ≡ has_group test gs
    same_group test e.NoGroup e.NoGroup w = refl
    same_group test (e.AndGroup (e.Labelled i ls xs) gs) (e.AndGroup (e.Labelled i' ls' xs') gs') w = rw (w.0.0, same_group test gs gs' w.1) refl
    same_group test _ _ w = absurd w

    begins_same : (z : ℤ) (gs gs' : e.Groups) → GroupsAlike p gs gs' → begins_at z gs' ≡ begins_at z gs
    begins_same z gs gs' w = ap (λ b. chosen b z) (same_group (has_label z) gs gs' w)

    -- ---- the forms of statements

    mutual
      stmt_follows : (x x' : e.Stmt) (s : State) → StmtAlike p x x' → Follows p s (stmt old x s) (λ u. stmt new x' (image φ s u))
      stmt_follows (e.Block i xs) (e.Block i' xs') s w = stmts_follow xs xs' s w
      stmt_follows (e.Locals i f t xs) (e.Locals i' f' t' xs') s w = locals_follow xs xs' s w
      stmt_follows (e.Empty i) (e.Empty i') s w = gave p ending.Goes s
      stmt_follows (e.Value i x) (e.Value i' x') s w = done_follows _ _ _ (value_follows x x' s w)
      stmt_follows (e.If i x y z) (e.If i' x' y' z') s w = and_so p _ _ _ _ _ (value_follows x x' s w.0) (λ a s.
          truth_follows p keeps a s _ _ _ _ (stmt_follows y y' s w.1) (maybe_follows z z' s w.2))
      stmt_follows (e.While i x y) (e.While i' x' y') s w = loop_follows p turns 0 _ _ _ _ (λ j s. tested_follows x x' s w.0) (λ s. stmt_follows y y' s w.1) s
      stmt_follows (e.Do i y x) (e.Do i' y' x') s w = do_follows p turns _ _ _ _ (λ s. stmt_follows y y' s w.0) (λ s. tested_follows x x' s w.1) s
      stmt_follows (e.For i xs x us y) (e.For i' xs' x' us' y') s w = and_so p _ _ _ _ _ (stmts_follow xs xs' s w.0) (λ f s.
          loop_follows p turns 0 _ _ _ _ (λ j s. tested_or_follows x x' s w.1)
          (λ s. and_so p _ _ _ _ _ (stmt_follows y y' s w.3) (λ g s. updates_follow g us us' s w.2)) s)
      stmt_follows (e.ForEach i f o x y t j z) (e.ForEach i' f' o' x' y' t' j' z') s w = rw w.0.0 (and_so p _ _ _ _ _ (value_follows y y' s w.3) (λ a s.
          each_follows (element (ty_of y)) (element (ty_of y')) x.slot x.ty x'.ty t t' j j' a _ _ s w.1 w.0.1 w.2 (λ s. stmt_follows z z' s w.4)))
      stmt_follows (e.Switch i x gs) (e.Switch i' x' gs') s w = and_so p _ _ _ _ _ (value_follows x x' s w.0) (λ a s.
          known_follows p keeps (λ a. a) (selector a) (λ u. selector a) s _ _ (λ u o. refl) (λ z g.
          rw (begins_same z gs gs' w.1) (switch_follows p _ _ _ (from_follows (begins_at z gs) gs gs' s w.1))))
      stmt_follows (e.Break i) (e.Break i') s w = gave p ending.Breaks s
      stmt_follows (e.Continue i) (e.Continue i') s w = gave p ending.Continues s
      stmt_follows (e.Return i None) (e.Return i' None) s w = gave p (ending.Returns None) s
      stmt_follows (e.Return i (Some x)) (e.Return i' (Some x')) s w = and_so p _ _ _ _ _ (value_follows x x' s w) (λ a s. gave p (ending.Returns (Some a)) s)
      stmt_follows (e.Throw i x) (e.Throw i' x') s w = and_so p _ _ _ _ _ (value_follows x x' s w) (λ a s.
          reference_follows p keeps (λ a. a) a s _ _ (λ r. threw p (λ a. a) r s))
      stmt_follows (e.Try i y cs z) (e.Try i' y' cs' z') s w =
          finally_follows p _ _ _ _ _ (rescued_follows p _ _ _ _ _ (stmt_follows y y' s w.0) (λ r s. caught_follows r cs cs' s w.1)) (λ s. maybe_follows z z' s w.2)
      stmt_follows (e.ThisCall i m xs) (e.ThisCall i' m' xs') s w = rw w.0 (and_so p _ _ _ _ _ (values_follow xs xs' s w.1) (λ ys s.
          done_follows _ _ _ (invoked_follows m s.frame.this ys s)))
      stmt_follows (e.SuperFirst i m xs) (e.SuperFirst i' m' xs') s w = rw w.0 (and_so p _ _ _ _ _ (values_follow xs xs' s w.1) (λ ys s. begun_follows m ys s))
      stmt_follows _ _ s w = absurd w

      maybe_follows : (x x' : e.MaybeStmt) (s : State) → MaybeStmtAlike p x x' → Follows p s (maybe_stmt old x s) (λ u. maybe_stmt new x' (image φ s u))
      maybe_follows e.NoStmt e.NoStmt s w = gave p ending.Goes s
      maybe_follows (e.AStmt x) (e.AStmt x') s w = stmt_follows x x' s w
      maybe_follows _ _ s w = absurd w

      stmts_follow : (xs xs' : e.Stmts) (s : State) → StmtsAlike p xs xs' → Follows p s (stmts.stmts old xs s) (λ u. stmts.stmts new xs' (image φ s u))
      stmts_follow e.Last e.Last s w = gave p ending.Goes s
      stmts_follow (e.Then x xs) (e.Then x' xs') s w = and_so p _ _ _ _ _ (stmt_follows x x' s w.0) (λ f s. goes_follows p f s _ _ (λ s. stmts_follow xs xs' s w.1))
      stmts_follow _ _ s w = absurd w

      group_follows : (g g' : e.Group) (s : State) → GroupAlike p g g' → Follows p s (group old g s) (λ u. group new g' (image φ s u))
      group_follows (e.Labelled i ls xs) (e.Labelled i' ls' xs') s w = stmts_follow xs xs' s w.1

      groups_follow : (gs gs' : e.Groups) (s : State) → GroupsAlike p gs gs' → Follows p s (groups old gs s) (λ u. groups new gs' (image φ s u))
      groups_follow e.NoGroup e.NoGroup s w = gave p ending.Goes s
      groups_follow (e.AndGroup g gs) (e.AndGroup g' gs') s w = and_so p _ _ _ _ _ (group_follows g g' s w.0) (λ f s. goes_follows p f s _ _ (λ s. groups_follow gs gs' s w.1))
      groups_follow _ _ s w = absurd w

      from_follows : (test : List (Option ℤ) → Bool) (gs gs' : e.Groups) (s : State) → GroupsAlike p gs gs'
          → Follows p s (from_group old test gs s) (λ u. from_group new test gs' (image φ s u))
      from_follows test e.NoGroup e.NoGroup s w = gave p ending.Goes s
      from_follows test (e.AndGroup (e.Labelled i ls xs) gs) (e.AndGroup (e.Labelled i' ls' xs') gs') s w = rw w.0.0 (choose_follows p (λ a. a) (test ls) _ _ _ _ s
          (and_so p _ _ _ _ _ (stmts_follow xs xs' s w.0.1) (λ f s. goes_follows p f s _ _ (λ s. groups_follow gs gs' s w.1)))
          (from_follows test gs gs' s w.1))
      from_follows test _ _ s w = absurd w

      caught_follows : (r : ℕ) (cs cs' : e.Catches) (s : State) → CatchesAlike p cs cs' → Follows p s (caught old r cs s) (λ u. caught new r cs' (image φ s u))
      caught_follows r e.NoCatch e.NoCatch s w = threw p (λ a. a) r s
      caught_follows r (e.AndCatch (e.Caught i x y) cs) (e.AndCatch (e.Caught i' x' y') cs') s w = rw w.0.0.0 (
          by_type_follows (v.Ref r) x.ty x'.ty s
          (λ b s. choose b (λ s. stmt old y (with_local x.slot (v.Ref r) s)) (caught old r cs) s) (λ b s. choose b (λ s. stmt new y' (with_local x.slot (v.Ref r) s)) (caught new r cs') s)
          w.0.0.1 (λ b. choose_follows p (λ a. a) b _ _ _ _ s (stmt_follows y y' (with_local x.slot (v.Ref r) s) w.0.1) (caught_follows r cs cs' s w.1)))
      caught_follows r _ _ s w = absurd w

    -- ---- bodies and initialisation

    answered_follows : (f : Ending) (s : State) → Follows p s (answered f s) (λ u. answered f (image φ s u))
    answered_follows ending.Goes s = gave p v.Null s
    answered_follows ending.Breaks s = misfit_follows p keeps (λ a. a) s
    answered_follows ending.Continues s = misfit_follows p keeps (λ a. a) s
    answered_follows (ending.Returns a) s = gave p (answer a) s

    ran_follows : (j : Key) (o : Outcome Ending) (o' : Other → Outcome Ending) → FollowsBy p (λ a. a) j o o' → FollowsBy p (λ a. a) j (ran o) (λ u. ran (o' u))
    ran_follows j o o' w = and_so p _ _ _ _ _ w (λ f s. answered_follows f s)

    body_follows : (y y' : Body) (s : State) → BodyAlike p y y' → Follows p s (body old y s) (λ u. body new y' (image φ s u))
    body_follows (Written None x) (Written None x') s w = ran_follows _ _ _ (stmt_follows x x' s w.1)
    body_follows (Written (Some m) x) (Written (Some m') x') s w = rw (first w.0) (and_so p _ _ _ _ _ (begun_follows m [] s) (λ f s. ran_follows _ _ _ (stmt_follows x x' s w.1)))
      where
        first : Some m' ≡ Some (φ.methods m) → m' ≡ φ.methods m
        first e = cc e
    body_follows (Default m) (Default m') s w = rw w (ran_follows _ _ _ (begun_follows m [] s))
    body_follows (Written None x) (Written (Some m') x') s w = absurd (cc w.0)
    body_follows (Written (Some m) x) (Written None x') s w = absurd (cc w.0)
    body_follows (Written m x) (Default m') s w = absurd w
    body_follows (Default m) (Written m' x') s w = absurd w

    pub given_follows : (f : ℕ) (x x' : Option e.Expr) (s : State) → OptExprAlike p x x' → Follows p s (given old f x s) (λ u. given new (φ.fields f) x' (image φ s u))
    given_follows f None None s w = gave p tt s
    given_follows f (Some x) (Some x') s w = and_so p _ _ _ _ _ (value_follows x x' s w) (λ a s.
        known_follows p keeps (λ a. a) (in_static f s) (λ u. in_static (φ.fields f) (image φ s u)) s _ _ (λ u o. ap state.joined (o.statics f)) (λ b g. static_gives tt f a s))
    given_follows f _ _ s w = absurd w

    initialised_same : (f : ℕ) → has_initialiser c' (φ.fields f) ≡ has_initialiser c f
    initialised_same f = rw (h.tables.on_instance f, h.tables.constant f) refl

    all_given_follow : (xs xs' : List e.FieldVar) (s : State) → FieldsAlike p xs xs' → Follows p s (all_given old xs s) (λ u. all_given new xs' (image φ s u))
    all_given_follow [] [] s w = gave p tt s
    all_given_follow (x ∷ xs) (x' ∷ xs') s w = rw w.0.0 (rw (initialised_same x.field) (and_so p _ _ _ _ _
        (choose_follows p (λ a. a) (has_initialiser c x.field) _ _ _ _ s (given_follows x.field x.init x'.init s w.0.1) (gave p tt s))
        (λ f s. all_given_follow xs xs' s w.1)))
    all_given_follow _ _ s w = absurd w

    above_follows : (o : Option ℕ) (s : State) → Follows p s (above_first old o s) (λ u. above_first new (option_map φ.types o) (image φ s u))
    above_follows None s = gave p tt s
    above_follows (Some j) s = inits j s

    initialisers_follow : (s : State) → Follows p s (initialisers old k s) (λ u. initialisers new (φ.types k) (image φ s u))
    initialisers_follow s = rw (h.tables.superclass k) (leave_follows p s.frame _ _ _ (and_so p _ _ _ _ _
        (above_follows (superclass c.world k) (with_frame (entered_with v.Null []) s)) (λ u s. all_given_follow _ _ s (h.class_fields k))))

    failed_follows : (r : ℕ) (s : State) → Follows p s (failed old r s) (λ u. failed new r (image φ s u))
    failed_follows r s = by_type_follows (v.Ref r) (ty.Class error_class []) (ty.Class error_class []) s
        (λ b s. choose b (Threw r) (throws_plain built.exception_in_initializer_error) s) (λ b s. choose b (Threw r) (throws_plain built.exception_in_initializer_error) s)
        (type_kept error_class (keeps.types error_class (omega arith))) (λ b. choose_follows p (λ a. a) b _ _ _ _ s (threw p (λ a. a) r s)
        (plain_follows p keeps (λ a. a) built.exception_in_initializer_error s (keeps.types built.exception_in_initializer_error (omega arith))))

    abbrev progressed : Other → Progress → Other
    progressed x y = record { heap = x.heap; statics = x.statics; progress = slice_set x.progress (φ.types k) y }

    progress_moved : (y : Progress) (s : State) (x : Other) → OtherOf φ (key s) x → OtherOf φ (key (with_progress k y s)) (progressed x y)
    progress_moved y s x o = record { heap = o.heap; statics = o.statics; progress = set_moved φ.types h.types _ _ o.progress k y }

    at_progress : {A : Type 0} (y : Progress) (s : State) (o : Outcome A) (o' : Other → Outcome A) → FollowsBy p (λ a. a) (key (with_progress k y s)) o o'
        → Follows p s o (λ u. o' (progressed u y))
    at_progress y s o o' w = from p (λ u. progressed u y) (λ e. e) (λ u o. progress_moved y s u o) w

    settled_follows : (j : Key) (o : Outcome (Unit {0})) (o' : Other → Outcome (Unit {0})) → FollowsBy p (λ a. a) j o o'
        → FollowsBy p (λ a. a) j (settled old k o) (λ u. settled new (φ.types k) (o' u))
    settled_follows j o o' w = end_follows p (λ a. a) (λ a. a) j o o' (settled old k) (settled new (φ.types k)) w
        (λ u s. at_progress progress.Done s _ _ (gave p tt (with_progress k progress.Done s)))
        (λ r s. at_progress progress.Failed s _ _ (failed_follows r (with_progress k progress.Failed s)))
        (λ s. bound p (λ a. a) s)

    initialised_follows : (s : State) → Follows p s (initialised old k s) (λ u. initialised new (φ.types k) (image φ s u))
    initialised_follows s = settled_follows _ _ _ (at_progress progress.Running s _ _ (initialisers_follow (with_progress k progress.Running s)))

    body_entered : (m : ℕ) (y y' : Body) (a : Value) (xs : List Value) (s : State) → BodyAlike p y y'
        → Follows p s (entered old m y a xs s) (λ u. entered new (φ.methods m) y' a xs (image φ s u))
    body_entered m y y' a xs s g = step_follows p s _ _ (λ s. leave_follows p s.frame _ _ _ (retold p
        (λ u o. ap (body new y') (entered_moved m (entered_with a xs) s u)) (body_follows y y' (with_frame (entered_with a xs) (with_entered m s)) g)))

  by_progress_follows : (j : ℕ) (s : State) (go go' : State → Outcome (Unit {0})) → Follows p s (go s) (λ u. go' (image φ s u))
      → Follows p s (by_progress (slice_get s.progress j) go s) (λ u. by_progress (slice_get u.progress (φ.types j)) go' (image φ s u))
  by_progress_follows j s go go' w = retold p (λ u o. ap (λ y. by_progress y go' (image φ s u)) (o.progress j)) (at (slice_get s.progress j))
    where
      at : (y : Option Progress) → Follows p s (by_progress y go s) (λ u. by_progress y go' (image φ s u))
      at None = misfit_follows p keeps (λ a. a) s
      at (Some progress.Untouched) = w
      at (Some progress.Running) = gave p tt s
      at (Some progress.Done) = gave p tt s
      at (Some progress.Failed) = plain_follows p keeps (λ a. a) built.no_class_def_found_error s (keeps.types built.no_class_def_found_error (omega arith))

  -- where both methods have bodies that are alike
  with_bodies : (m j : ℕ) (s : State) (f f' : Body → State → Outcome Value) → method_owner c m ≡ Some j
      → ((y y' : Body) → BodyAlike p y y' → Follows p s (f y s) (λ u. f' y' (image φ s u)))
      → Follows p s (with_some (body_of c j m) s (λ y. f y s)) (λ u. with_some (body_of c' (φ.types j) (φ.methods m)) (image φ s u) (λ y. f' y (image φ s u)))
  with_bodies m j s f f' w i = at (body_of c j m) (body_of c' (φ.types j) (φ.methods m)) (h.bodies m j w)
    where
      at : (y y' : Option Body) → OptBodyAlike p y y' → Follows p s (with_some y s (λ y. f y s)) (λ u. with_some y' (image φ s u) (λ y. f' y (image φ s u)))
      at None None g = misfit_follows p keeps (λ a. a) s
      at (Some y) (Some y') g = i y y' g
      at None (Some y') g = absurd g
      at (Some y) None g = absurd g

  mutual
    pub enter_follows : (d m : ℕ) (a : Value) (xs : List Value) (s : State) → Follows p s (enter c d m a xs s) (λ u. enter c' d (φ.methods m) a xs (image φ s u))
    enter_follows zero m a xs s = owner_follows (λ (i : MethodInfo). i.owner) (λ (i : MethodInfo). i.owner) (slice_get c.world.methods m) (slice_get c'.world.methods (φ.methods m)) s
        (λ j. with_some (body_of c j m) s (λ y. Bound s)) (λ u j. with_some (body_of c' j (φ.methods m)) (image φ s u) (λ y. Bound (image φ s u)))
        (h.tables.method_owner m) (λ j w. with_bodies m j s (λ y s. Bound s) (λ y s. Bound s) w (λ y y' g. bound p (λ a. a) s))
    enter_follows (suc d) m a xs s = owner_follows (λ (i : MethodInfo). i.owner) (λ (i : MethodInfo). i.owner) (slice_get c.world.methods m) (slice_get c'.world.methods (φ.methods m)) s
        (λ j. with_some (body_of c j m) s (λ y. entered (place_with c (enter c d) (initialise c d) (suc d) j) m y a xs s))
        (λ u j. with_some (body_of c' j (φ.methods m)) (image φ s u) (λ y. entered (place_with c' (enter c' d) (initialise c' d) (suc d) j) (φ.methods m) y a xs (image φ s u)))
        (h.tables.method_owner m) (λ j w. with_bodies m j s
        (λ y s. entered (place_with c (enter c d) (initialise c d) (suc d) j) m y a xs s)
        (λ y s. entered (place_with c' (enter c' d) (initialise c' d) (suc d) (φ.types j)) (φ.methods m) y a xs s) w (λ y y' g.
        body_entered (enter c d) (enter c' d) (initialise c d) (initialise c' d) (suc d) (enter_follows d) (initialise_follows d) j m y y' a xs s g))

    pub initialise_follows : (d j : ℕ) (s : State) → Follows p s (initialise c d j s) (λ u. initialise c' d (φ.types j) (image φ s u))
    initialise_follows zero j s = by_progress_follows j s _ _ (bound p (λ a. a) s)
    initialise_follows (suc d) j s = by_progress_follows j s _ _ (initialised_follows (enter c d) (enter c' d) (initialise c d) (initialise c' d) (suc d) (enter_follows d) (initialise_follows d) j s)
