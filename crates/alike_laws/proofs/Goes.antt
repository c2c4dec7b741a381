-- Pieces of the two programs that end alike, and the ways to go on from them.
use Rattle.std.proofs.Common.{◌≡◌, ℕ, zero, suc, ℤ, Bool, true, false, inl, inr, List, [], ◌∷◌, ◌++◌, map, length, Option, Some, None, refl, sym, ap, ◌∙◌, subst, arith}
use Rattle.std.specs.Option.{option_map}
use Rattle.core_meaning.specs.declared.values.Value.{Value}
use Rattle.core_meaning.specs.declared.values.Value.TheVariants as v
use Rattle.core_meaning.specs.declared.values.Ending.{Ending}
use Rattle.core_meaning.specs.declared.values.Ending.TheVariants as ending
use Rattle.core_meaning.specs.declared.values.Frame.{Frame}
use Rattle.core_meaning.specs.declared.values.State.{State}
use Rattle.core_meaning.specs.declared.values.Thing.{Thing}
use Rattle.core_meaning.specs.declared.values.Thing.TheVariants.{Object}
use Rattle.core_meaning.specs.declared.values.Made.{Made}
use Rattle.core_meaning.specs.declared.values.Made.TheVariants.{Makes, ByZero, NoRule}
use Rattle.core_meaning.specs.BuiltIns.{null_pointer_exception, class_cast_exception, arithmetic_exception}
use Rattle.core_meaning.specs.State.{with_frame, with_text, with_thing, gone_wrong}
use Rattle.core_meaning.specs.Outcome.{Outcome, Gives, Threw, Bound, after, and_then, throws, throws_plain, throws_saying, misfit, with_some, with_reference, unless_null, with_units, with_int, choose, by_truth, with_made, step, step_at, leave, and_goes, and_turns, behind_switch, loop, do_loop, finally, rescued}
use Rattle.program_maps.specs.Ways.{Ways}
use Rattle.program_maps.specs.Pairs.{Pair}
use Rattle.program_maps.specs.Correspond.{LedTo, KeepsBuiltIn}
use Rattle.alike_laws.proofs.Others.{Other, OtherOf, Key, key, image, things_length, things_pushed}

-- whether a run counts that has come so far
abbrev pub Counts : (strict wrong : Bool) → Type 0
Counts true w = Unit {0}
Counts false w = w ≡ false

-- what is added to the heap
abbrev pub with_pushed : Other → List Thing → Other
with_pushed x h = record { heap = h; statics = x.statics; progress = x.progress }

module _ (p : Pair) where
  -- The new program's piece ends as the old one's, with what g makes of its answer.
  abbrev pub SameBy : {A : Type 0} → (A → A) → Outcome A → Outcome A → Type 0
  SameBy g (Gives a s) o' = (x : Other) × OtherOf p.ways (key s) x × (o' ≡ Gives (g a) (image p.ways s x))
  SameBy g (Threw k s) o' = (x : Other) × OtherOf p.ways (key s) x × (o' ≡ Threw k (image p.ways s x))
  SameBy g (Bound s) o' = (x : Other) × OtherOf p.ways (key s) x × (o' ≡ Bound (image p.ways s x))

  -- From a state the old program's piece ends so, and the new one's from each state that corresponds. If the run counts at the end it did before, and the ends are the
  -- same.
  pub record FollowsBy {A : Type 0} (g : A → A) (k : Key) (o : Outcome A) (o' : Other → Outcome A) : Type 0 where
    pub fine : Counts p.strict (after o).wrong → Counts p.strict k.wrong
    pub same : (x : Other) → OtherOf p.ways k x → Counts p.strict (after o).wrong → SameBy g o (o' x)

  abbrev pub Follows : {A : Type 0} → State → Outcome A → (Other → Outcome A) → Type 0
  Follows s o o' = FollowsBy (λ a. a) (key s) o o'

  -- ---- ends

  pub gives : {A : Type 0} (g : A → A) (a : A) (s : State) → FollowsBy g (key s) (Gives a s) (λ x. Gives (g a) (image p.ways s x))
  gives g a s = record { fine = λ e. e; same = λ x o e. (x, o, refl) }

  pub gave : {A : Type 0} (a : A) (s : State) → Follows s (Gives a s) (λ x. Gives a (image p.ways s x))
  gave a s = gives (λ a. a) a s

  pub threw : {A : Type 0} (g : A → A) (k : ℕ) (s : State) → FollowsBy g (key s) (Threw k s) (λ x. Threw k (image p.ways s x))
  threw g k s = record { fine = λ e. e; same = λ x o e. (x, o, refl) }

  pub bound : {A : Type 0} (g : A → A) (s : State) → FollowsBy g (key s) (Bound s) (λ x. Bound (image p.ways s x))
  bound g s = record { fine = λ e. e; same = λ x o e. (x, o, refl) }

  -- the new piece may be told in another way
  pub retold : {A : Type 0} {g : A → A} {k : Key} {o : Outcome A} {o' o'' : Other → Outcome A} → ((x : Other) → OtherOf p.ways k x → o'' x ≡ o' x) → FollowsBy g k o o'
      → FollowsBy g k o o''
  retold {A} {g} {k} {o} {o'} {o''} e h = record { fine = h.fine; same = λ x w c. subst (SameBy g o) (sym (e x w)) (h.same x w c) }

  -- the piece goes on from a state that was changed, and so was its counterpart
  pub from : {A : Type 0} {g : A → A} {k l : Key} {o : Outcome A} {o' : Other → Outcome A} (y : Other → Other) → (Counts p.strict l.wrong → Counts p.strict k.wrong)
      → ((x : Other) → OtherOf p.ways k x → OtherOf p.ways l (y x)) → FollowsBy g l o o' → FollowsBy g k o (λ x. o' (y x))
  from y f k h = record { fine = λ e. f (h.fine e); same = λ x w c. h.same (y x) (k x w) c }

  -- what goes on after a piece
  pub then_follows : {A B : Type 0} (g : A → A) (h : B → B) (k : Key) (o : Outcome A) (o' : Other → Outcome A) (f f' : A → State → Outcome B) → FollowsBy g k o o'
      → ((a : A) (t : State) → FollowsBy h (key t) (f a t) (λ y. f' (g a) (image p.ways t y))) → FollowsBy h k (and_then o f) (λ x. and_then (o' x) f')
  then_follows g h k (Gives a t) o' f f' w i = record {
    fine = λ e. w.fine ((i a t).fine e);
    same = λ x q e. let r = w.same x q ((i a t).fine e) in subst (SameBy h (f a t)) (ap (λ o. and_then o f') (sym r.2)) ((i a t).same r.0 r.1 e);
  }
  then_follows g h k (Threw z t) o' f f' w i = record { fine = w.fine; same = λ x q e. let r = w.same x q e in (r.0, r.1, ap (λ o. and_then o f') r.2) }
  then_follows g h k (Bound t) o' f f' w i = record { fine = w.fine; same = λ x q e. let r = w.same x q e in (r.0, r.1, ap (λ o. and_then o f') r.2) }

  pub and_so : {A B : Type 0} (k : Key) (o : Outcome A) (o' : Other → Outcome A) (f f' : A → State → Outcome B) → FollowsBy (λ a. a) k o o'
      → ((a : A) (t : State) → Follows t (f a t) (λ y. f' a (image p.ways t y))) → FollowsBy (λ b. b) k (and_then o f) (λ x. and_then (o' x) f')
  and_so k o o' f f' w i = then_follows (λ a. a) (λ b. b) k o o' f f' w i

  -- whatever is done with an end
  pub end_follows : {A B : Type 0} (g : A → A) (h : B → B) (k : Key) (o : Outcome A) (o' : Other → Outcome A) (F F' : Outcome A → Outcome B) → FollowsBy g k o o'
      → ((a : A) (t : State) → FollowsBy h (key t) (F (Gives a t)) (λ y. F' (Gives (g a) (image p.ways t y))))
      → ((z : ℕ) (t : State) → FollowsBy h (key t) (F (Threw z t)) (λ y. F' (Threw z (image p.ways t y))))
      → ((t : State) → FollowsBy h (key t) (F (Bound t)) (λ y. F' (Bound (image p.ways t y))))
      → FollowsBy h k (F o) (λ x. F' (o' x))
  end_follows g h k (Gives a t) o' F F' w i j l = record {
    fine = λ e. w.fine ((i a t).fine e);
    same = λ x q e. let r = w.same x q ((i a t).fine e) in subst (SameBy h (F (Gives a t))) (ap F' (sym r.2)) ((i a t).same r.0 r.1 e);
  }
  end_follows g h k (Threw z t) o' F F' w i j l = record {
    fine = λ e. w.fine ((j z t).fine e);
    same = λ x q e. let r = w.same x q ((j z t).fine e) in subst (SameBy h (F (Threw z t))) (ap F' (sym r.2)) ((j z t).same r.0 r.1 e);
  }
  end_follows g h k (Bound t) o' F F' w i j l = record {
    fine = λ e. w.fine ((l t).fine e);
    same = λ x q e. let r = w.same x q ((l t).fine e) in subst (SameBy h (F (Bound t))) (ap F' (sym r.2)) ((l t).same r.0 r.1 e);
  }

  pub leave_follows : {A : Type 0} (f : Frame) (k : Key) (o : Outcome A) (o' : Other → Outcome A) → FollowsBy (λ a. a) k o o'
      → FollowsBy (λ a. a) k (leave f o) (λ x. leave f (o' x))
  leave_follows f k o o' w = end_follows (λ a. a) (λ a. a) k o o' (leave f) (leave f) w
      (λ a t. gives (λ a. a) a (with_frame f t)) (λ z t. threw (λ a. a) z (with_frame f t)) (λ t. bound (λ a. a) (with_frame f t))

  -- ---- choices

  pub choose_follows : {B : Type 0} (g : B → B) (b : Bool) (go other go' other' : State → Outcome B) (s : State)
      → FollowsBy g (key s) (go s) (λ x. go' (image p.ways s x)) → FollowsBy g (key s) (other s) (λ x. other' (image p.ways s x))
      → FollowsBy g (key s) (choose b go other s) (λ x. choose b go' other' (image p.ways s x))
  choose_follows g true go other go' other' s h k = h
  choose_follows g false go other go' other' s h k = k

  pub step_follows : {A : Type 0} (s : State) (f f' : State → Outcome A) → ((t : State) → Follows t (f t) (λ x. f' (image p.ways t x)))
      → Follows s (step s f) (λ x. step (image p.ways s x) f')
  step_follows s f f' h = at s.left
    where
      at : (l : ℕ) → Follows s (step_at l s f) (λ x. step_at l (image p.ways s x) f')
      at zero = bound (λ a. a) s
      at (suc l) = h (record s { left = l })

  pub goes_follows : (e : Ending) (s : State) (f f' : State → Outcome Ending) → ((t : State) → Follows t (f t) (λ x. f' (image p.ways t x)))
      → Follows s (and_goes e s f) (λ x. and_goes e (image p.ways s x) f')
  goes_follows ending.Goes s f f' h = h s
  goes_follows ending.Breaks s f f' h = gave ending.Breaks s
  goes_follows ending.Continues s f f' h = gave ending.Continues s
  goes_follows (ending.Returns a) s f f' h = gave (ending.Returns a) s

  pub turns_follows : (e : Ending) (s : State) (f f' : State → Outcome Ending) → ((t : State) → Follows t (f t) (λ x. f' (image p.ways t x)))
      → Follows s (and_turns e s f) (λ x. and_turns e (image p.ways s x) f')
  turns_follows ending.Goes s f f' h = h s
  turns_follows ending.Breaks s f f' h = gave ending.Goes s
  turns_follows ending.Continues s f f' h = h s
  turns_follows (ending.Returns a) s f f' h = gave (ending.Returns a) s

  pub switch_follows : (k : Key) (o : Outcome Ending) (o' : Other → Outcome Ending) → FollowsBy (λ a. a) k o o'
      → FollowsBy (λ a. a) k (behind_switch o) (λ x. behind_switch (o' x))
  switch_follows k o o' w = end_follows (λ a. a) (λ a. a) k o o' behind_switch behind_switch w at (λ z t. threw (λ a. a) z t) (λ t. bound (λ a. a) t)
    where
      at : (e : Ending) (t : State) → Follows t (behind_switch (Gives e t)) (λ y. behind_switch (Gives e (image p.ways t y)))
      at ending.Goes t = gave ending.Goes t
      at ending.Breaks t = gave ending.Goes t
      at ending.Continues t = gave ending.Continues t
      at (ending.Returns a) t = gave (ending.Returns a) t

  pub loop_follows : (m i : ℕ) (before before' : ℕ → State → Outcome Bool) (body body' : State → Outcome Ending)
      → ((i : ℕ) (t : State) → Follows t (before i t) (λ x. before' i (image p.ways t x))) → ((t : State) → Follows t (body t) (λ x. body' (image p.ways t x)))
      → (s : State) → Follows s (loop m i before body s) (λ x. loop m i before' body' (image p.ways s x))
  loop_follows zero i before before' body body' h k s = bound (λ a. a) s
  loop_follows (suc m) i before before' body body' h k s = and_so _ _ _ _ _ (h i s) (λ b t. choose_follows (λ a. a) b _ _ _ _ t
      (step_follows t _ _ (λ t. and_so _ _ _ _ _ (k t) (λ e t. turns_follows e t _ _ (loop_follows m (suc i) before before' body body' h k))))
      (gave ending.Goes t))

  pub do_follows : (m : ℕ) (body body' : State → Outcome Ending) (test test' : State → Outcome Bool)
      → ((t : State) → Follows t (body t) (λ x. body' (image p.ways t x))) → ((t : State) → Follows t (test t) (λ x. test' (image p.ways t x)))
      → (s : State) → Follows s (do_loop m body test s) (λ x. do_loop m body' test' (image p.ways s x))
  do_follows zero body body' test test' h k s = bound (λ a. a) s
  do_follows (suc m) body body' test test' h k s = step_follows s _ _ (λ t. and_so _ _ _ _ _ (h t) (λ e t. turns_follows e t _ _ (λ t.
      and_so _ _ _ _ _ (k t) (λ b t. choose_follows (λ a. a) b _ _ _ _ t (do_follows m body body' test test' h k t) (gave ending.Goes t)))))

  pub finally_follows : (k : Key) (o : Outcome Ending) (o' : Other → Outcome Ending) (last last' : State → Outcome Ending) → FollowsBy (λ a. a) k o o'
      → ((t : State) → Follows t (last t) (λ x. last' (image p.ways t x))) → FollowsBy (λ a. a) k (finally o last) (λ x. finally (o' x) last')
  finally_follows k o o' last last' w h = end_follows (λ a. a) (λ a. a) k o o' (λ o. finally o last) (λ o. finally o last') w
      (λ e t. and_so _ _ _ _ _ (h t) (λ f t. goes_follows f t _ _ (λ t. gave e t)))
      (λ z t. and_so _ _ _ _ _ (h t) (λ f t. goes_follows f t _ _ (λ t. threw (λ a. a) z t)))
      (λ t. bound (λ a. a) t)

  pub rescued_follows : (k : Key) (o : Outcome Ending) (o' : Other → Outcome Ending) (catches catches' : ℕ → State → Outcome Ending) → FollowsBy (λ a. a) k o o'
      → ((z : ℕ) (t : State) → Follows t (catches z t) (λ x. catches' z (image p.ways t x))) → FollowsBy (λ a. a) k (rescued o catches) (λ x. rescued (o' x) catches')
  rescued_follows k o o' catches catches' w h = end_follows (λ a. a) (λ a. a) k o o' (λ o. rescued o catches) (λ o. rescued o catches') w
      (λ e t. gave e t) h (λ t. bound (λ a. a) t)

  -- ---- exceptions of the machine, and what is looked up

  module _ (keeps : KeepsBuiltIn p.ways) where
    -- a new object that the language throws
    pub throws_follows : {A : Type 0} (g : A → A) (c : ℕ) (a : Value) (s : State) → p.ways.types c ≡ c
        → FollowsBy g (key s) (throws c a s) (λ x. throws c a (image p.ways s x))
    throws_follows g c a s e = record {
      fine = λ e. e;
      same = λ x o w. (
        with_pushed x (x.heap ++ Object c [] a ∷ []),
        record { heap = things_pushed p.ways _ _ _ _ o.heap (sym e, refl, λ f. refl); statics = o.statics; progress = o.progress },
        ap (λ r. Threw r (with_thing (Object c [] a) (image p.ways s x))) (things_length p.ways _ _ o.heap),
      );
    }

    pub plain_follows : {A : Type 0} (g : A → A) (c : ℕ) (s : State) → p.ways.types c ≡ c → FollowsBy g (key s) (throws_plain c s) (λ x. throws_plain c (image p.ways s x))
    plain_follows g c s e = throws_follows g c v.Null s e

    pub saying_follows : {A : Type 0} (g : A → A) (c : ℕ) (units : List ℕ) (s : State) → p.ways.types c ≡ c
        → FollowsBy g (key s) (throws_saying c units s) (λ x. throws_saying c units (image p.ways s x))
    saying_follows g c units s e = throws_follows g c (v.Text (length s.texts)) (with_text units s) e

    -- what has no rule
    pub misfit_follows : {A : Type 0} (g : A → A) (s : State) → FollowsBy g (key s) (misfit s) (λ x. misfit (image p.ways s x))
    misfit_follows g s =
        from (λ x. x) (wrong p.strict s.wrong) (λ x o. record { heap = o.heap; statics = o.statics; progress = o.progress })
        (plain_follows g class_cast_exception (gone_wrong s) (keeps.types class_cast_exception (omega arith)))
      where
        wrong : (strict w : Bool) → Counts strict true → Counts strict w
        wrong true w e = tt
        wrong false w e = cc

    -- of which nothing is said, where not all runs count
    pub amiss : {A : Type 0} (g : A → A) (s : State) (o' : Other → Outcome A) → p.strict ≡ false → FollowsBy g (key s) (misfit s) o'
    amiss g s o' e = record { fine = λ w. absurd (no p.strict e w); same = λ x q w. absurd (no p.strict e w) }
      where
        no : (strict : Bool) → strict ≡ false → Counts strict true → ⊥
        no true e w = cc
        no false e w = cc

    pub some_follows : {A A' B : Type 0} (h : B → B) (g : A → A') (o : Option A) (o' : Other → Option A') (s : State) (f : A → Outcome B) (f' : Other → A' → Outcome B)
        → ((x : Other) → OtherOf p.ways (key s) x → LedTo p g o (o' x)) → ((a : A) → o ≡ Some a → FollowsBy h (key s) (f a) (λ x. f' x (g a)))
        → FollowsBy h (key s) (with_some o s f) (λ x. with_some (o' x) (image p.ways s x) (f' x))
    some_follows h g None o' s f f' e k = record {
      fine = (misfit_follows h s).fine;
      same = λ x q w. at x (e x q) w ((misfit_follows h s).same x q w);
    }
      where
        at : (x : Other) → LedTo p g None (o' x) → Counts p.strict true → SameBy h (misfit s) (misfit (image p.ways s x))
            → SameBy h (misfit s) (with_some (o' x) (image p.ways s x) (f' x))
        at x (inl e) w r = subst (λ o. SameBy h (misfit s) (with_some o (image p.ways s x) (f' x))) (sym e) r
        at x (inr e) w r = absurd (no p.strict e.0 w)
          where
            no : (strict : Bool) → strict ≡ false → Counts strict true → ⊥
            no true e w = cc
            no false e w = cc
    some_follows h g (Some a) o' s f f' e k = retold (λ x q. ap (λ o. with_some o (image p.ways s x) (f' x)) (at x (e x q))) (k a refl)
      where
        at : (x : Other) → LedTo p g (Some a) (o' x) → o' x ≡ Some (g a)
        at x (inl e) = e
        at x (inr e) = cc

    -- where both programs find the same
    pub known_follows : {A B : Type 0} (h : B → B) (o : Option A) (o' : Other → Option A) (s : State) (f : A → Outcome B) (f' : Other → A → Outcome B)
        → ((x : Other) → OtherOf p.ways (key s) x → o' x ≡ o) → ((a : A) → o ≡ Some a → FollowsBy h (key s) (f a) (λ x. f' x a))
        → FollowsBy h (key s) (with_some o s f) (λ x. with_some (o' x) (image p.ways s x) (f' x))
    known_follows h o o' s f f' e k = some_follows h (λ a. a) o o' s f f' (λ x q. inl (e x q ∙ same o)) k
      where
        same : {A : Type 0} (o : Option A) → o ≡ option_map (λ a. a) o
        same None = refl
        same (Some a) = refl

    pub reference_follows : {B : Type 0} (h : B → B) (a : Value) (s : State) (f : ℕ → Outcome B) (f' : Other → ℕ → Outcome B)
        → ((r : ℕ) → FollowsBy h (key s) (f r) (λ x. f' x r)) → FollowsBy h (key s) (with_reference a s f) (λ x. with_reference a (image p.ways s x) (f' x))
    reference_follows h v.Null s f f' k = plain_follows h null_pointer_exception s (keeps.types null_pointer_exception (omega arith))
    reference_follows h (v.Ref r) s f f' k = k r
    reference_follows h (v.Int z) s f f' k = misfit_follows h s
    reference_follows h (v.Long z) s f f' k = misfit_follows h s
    reference_follows h (v.Char c) s f f' k = misfit_follows h s
    reference_follows h (v.Truth b) s f f' k = misfit_follows h s
    reference_follows h (v.Text t) s f f' k = misfit_follows h s

    pub unless_follows : {B : Type 0} (h : B → B) (a : Value) (s : State) (o : Outcome B) (o' : Other → Outcome B) → FollowsBy h (key s) o o'
        → FollowsBy h (key s) (unless_null a s o) (λ x. unless_null a (image p.ways s x) (o' x))
    unless_follows h v.Null s o o' k = plain_follows h null_pointer_exception s (keeps.types null_pointer_exception (omega arith))
    unless_follows h (v.Ref r) s o o' k = k
    unless_follows h (v.Int z) s o o' k = k
    unless_follows h (v.Long z) s o o' k = k
    unless_follows h (v.Char c) s o o' k = k
    unless_follows h (v.Truth b) s o o' k = k
    unless_follows h (v.Text t) s o o' k = k

    pub units_follow : {B : Type 0} (h : B → B) (a : Value) (s : State) (f : List ℕ → Outcome B) (f' : Other → List ℕ → Outcome B)
        → ((us : List ℕ) → FollowsBy h (key s) (f us) (λ x. f' x us)) → FollowsBy h (key s) (with_units a s f) (λ x. with_units a (image p.ways s x) (f' x))
    units_follow h v.Null s f f' k = plain_follows h null_pointer_exception s (keeps.types null_pointer_exception (omega arith))
    units_follow h (v.Text t) s f f' k = known_follows h _ _ s _ _ (λ x q. refl) (λ us e. k us)
    units_follow h (v.Ref r) s f f' k = misfit_follows h s
    units_follow h (v.Int z) s f f' k = misfit_follows h s
    units_follow h (v.Long z) s f f' k = misfit_follows h s
    units_follow h (v.Char c) s f f' k = misfit_follows h s
    units_follow h (v.Truth b) s f f' k = misfit_follows h s

    pub int_follows : {B : Type 0} (h : B → B) (a : Value) (s : State) (f : ℤ → Outcome B) (f' : Other → ℤ → Outcome B)
        → ((z : ℤ) → FollowsBy h (key s) (f z) (λ x. f' x z)) → FollowsBy h (key s) (with_int a s f) (λ x. with_int a (image p.ways s x) (f' x))
    int_follows h (v.Int z) s f f' k = k z
    int_follows h v.Null s f f' k = misfit_follows h s
    int_follows h (v.Text t) s f f' k = misfit_follows h s
    int_follows h (v.Ref r) s f f' k = misfit_follows h s
    int_follows h (v.Long z) s f f' k = misfit_follows h s
    int_follows h (v.Char c) s f f' k = misfit_follows h s
    int_follows h (v.Truth b) s f f' k = misfit_follows h s

    pub truth_follows : {B : Type 0} (a : Value) (s : State) (go other go' other' : State → Outcome B)
        → Follows s (go s) (λ x. go' (image p.ways s x)) → Follows s (other s) (λ x. other' (image p.ways s x))
        → Follows s (by_truth a go other s) (λ x. by_truth a go' other' (image p.ways s x))
    truth_follows (v.Truth b) s go other go' other' h k = choose_follows (λ a. a) b go other go' other' s h k
    truth_follows (v.Int z) s go other go' other' h k = misfit_follows (λ a. a) s
    truth_follows v.Null s go other go' other' h k = misfit_follows (λ a. a) s
    truth_follows (v.Text t) s go other go' other' h k = misfit_follows (λ a. a) s
    truth_follows (v.Ref r) s go other go' other' h k = misfit_follows (λ a. a) s
    truth_follows (v.Long z) s go other go' other' h k = misfit_follows (λ a. a) s
    truth_follows (v.Char c) s go other go' other' h k = misfit_follows (λ a. a) s

    pub made_follows : {B : Type 0} (m : Made) (s : State) (f : Value → Outcome B) (f' : Other → Value → Outcome B)
        → ((a : Value) → Follows s (f a) (λ x. f' x a)) → Follows s (with_made m s f) (λ x. with_made m (image p.ways s x) (f' x))
    made_follows (Makes a) s f f' k = k a
    made_follows ByZero s f f' k = saying_follows (λ a. a) arithmetic_exception _ s (keeps.types arithmetic_exception (omega arith))
    made_follows NoRule s f f' k = misfit_follows (λ a. a) s
