-- Statements in two places of one program, a line a form.
use Rattle.std.proofs.Common.{ℕ, Bool, true, false, List, [], ◌∷◌, Option, Some, None, ℤ, refl}
use Rattle.std.specs.Prelude.{slice_get}
use Rattle.class_world.specs.declared.world.JavaType.{JavaType}
use Rattle.class_world.specs.declared.world.Walk.{Walk}
use Rattle.java_core.specs.Plain as e
use Rattle.type_kinds.specs.Kinds.{ty_of, element}
use Rattle.core_meaning.specs.declared.values.Value.{Value}
use Rattle.core_meaning.specs.declared.values.Value.TheVariants as v
use Rattle.core_meaning.specs.declared.values.Variable.TheVariants as of
use Rattle.core_meaning.specs.declared.values.Ending.{Ending}
use Rattle.core_meaning.specs.declared.values.Ending.TheVariants.{Goes, Breaks, Continues, Returns}
use Rattle.core_meaning.specs.declared.values.State.{State}
use Rattle.core_meaning.specs.State.{items_of, with_local}
use Rattle.core_meaning.specs.Outcome.{Outcome}
use Rattle.core_meaning.specs.Code.{class_at, class_fields, is_instance_field}
use Rattle.core_meaning.specs.Classes.{type_of}
use Rattle.core_meaning.specs.Variables.{is_below}
use Rattle.core_meaning.specs.Statements.{done, local_by, local, locals, tested, tested_or, and_updates, taken, take_item, item_before, cast_if, next_before, walked, each, selector, labels_of, begins_at, filled, all_filled, begun, stmt, maybe_stmt, stmts, group, groups, from_group, caught}
use Rattle.bound_laws.proofs.Further.{Further, Always, kept, ends, from, then_on, goes_on, choose_on, switch_on, finally_on, rescued_on, loop_on, do_loop_on}
use Rattle.bound_laws.proofs.Primitives.{Places, low, high, some_on, reference_on, truth_on, fitted_on, implied_cast_on, store_on}
use Rattle.bound_laws.proofs.Members.{invoked_on, called_on}
use Rattle.bound_laws.proofs.Expressions.{value_on, values_on}

pub done_on : {A : Type 0} {s : State} {o o' o'' : Outcome A} → Further s o o' o'' → Further s (done o) (done o') (done o'')
done_on h = then_on h (λ a s. ends (kept s) refl)

updates_on : {f f' : State → Outcome Ending} (e : Ending) → Always f f' → Always (and_updates e f) (and_updates e f')
updates_on Goes h s = h s
updates_on Breaks h s = ends (kept s) refl
updates_on Continues h s = h s
updates_on (Returns a) h s = ends (kept s) refl

-- ---- the next item of an array

taken_on : (k : ℕ) (t : JavaType) (a : Value) → Always (taken k t a) (taken k t a)
taken_on k t a s = then_on (fitted_on t a s) (λ a s. ends (kept s) refl)

take_item_on : (k : ℕ) (t : JavaType) (o : Option Value) → Always (take_item k t o) (take_item k t o)
take_item_on k t None s = ends (kept s) refl
take_item_on k t (Some a) s = taken_on k t a s

item_before_on : (k : ℕ) (t : JavaType) (a : Value) (i : ℕ) → Always (item_before k t a i) (item_before k t a i)
item_before_on k t a i s = reference_on a (λ r. some_on (items_of r s) (λ xs. take_item_on k t (slice_get xs i) s))

module _ (q : Places) where
  -- ---- locals and tests

  local_by_on : (o : Option e.Expr) (k : ℕ) → Always (local_by o (low q) k) (local_by o (high q) k)
  local_by_on None k s = ends (kept s) refl
  local_by_on (Some x) k s = then_on (value_on q x s) (λ a s. ends (kept s) refl)

  local_on : (x : e.Var) → Always (local (low q) x) (local (high q) x)
  local_on x s = local_by_on x.init x.slot s

  locals_on : (xs : List e.Var) → Always (locals (low q) xs) (locals (high q) xs)
  locals_on [] s = ends (kept s) refl
  locals_on (x ∷ xs) s = then_on (local_on x s) (λ f s. locals_on xs s)

  tested_on : (x : e.Expr) → Always (tested (low q) x) (tested (high q) x)
  tested_on x s = then_on (value_on q x s) (λ a s. truth_on a (λ s. ends (kept s) refl) (λ s. ends (kept s) refl) s)

  tested_or_on : (o : Option e.Expr) → Always (tested_or (low q) o) (tested_or (high q) o)
  tested_or_on None s = ends (kept s) refl
  tested_or_on (Some x) s = tested_on x s

  -- ---- the enhanced for

  cast_if_on : (b : Bool) (t : JavaType) (a : Value) → Always (cast_if b (low q) t a) (cast_if b (high q) t a)
  cast_if_on true t a s = implied_cast_on q t a s
  cast_if_on false t a s = ends (kept s) refl

  next_before_on : (w : Walk) (k : ℕ) (u t : JavaType) (implied : Bool) (a : Value) → Always (next_before (low q) w k u t implied a) (next_before (high q) w k u t implied a)
  next_before_on w k u t implied a s = then_on (called_on q w.has_next a [] s) (λ b s. truth_on b
      (λ s. then_on (called_on q w.next a [] s) (λ y s. then_on (cast_if_on implied t y s) (λ y s. taken_on k u y s)))
      (λ s. ends (kept s) refl) s)

  walked_on : {f f' : State → Outcome Ending} (w : Option Walk) (k : ℕ) (u t : JavaType) (implied : Bool) (a : Value) → Always f f'
      → Always (walked (low q) w k u t implied a f) (walked (high q) w k u t implied a f')
  walked_on w k u t implied a h s = some_on w (λ w. then_on (called_on q w.iterator a [] s) (λ it s. loop_on q.turns 0 (λ i s. next_before_on w k u t implied it s) h s))

  each_on : {f f' : State → Outcome Ending} (o : Option JavaType) (k : ℕ) (u t : JavaType) (implied : Bool) (a : Value) → Always f f'
      → Always (each o (low q) k u t implied a f) (each o (high q) k u t implied a f')
  each_on (Some t) k u t' implied a h s = reference_on a (λ r. loop_on q.turns 0 (λ i s. item_before_on k u a i s) h s)
  each_on None k u t implied a h s = walked_on q.code.world.walk k u t implied a h s

  -- ---- constructors

  filled_on : (f : ℕ) (o : Option e.Expr) → Always (filled (low q) f o) (filled (high q) f o)
  filled_on f None s = ends (kept s) refl
  filled_on f (Some x) s = then_on (value_on q x s) (λ a s. done_on (store_on q (of.Field s.frame.this f) a s))

  all_filled_on : (xs : List e.FieldVar) → Always (all_filled (low q) xs) (all_filled (high q) xs)
  all_filled_on [] s = ends (kept s) refl
  all_filled_on (x ∷ xs) s = then_on (choose_on (is_instance_field q.code.world x.field) (λ s. filled_on x.field x.init s) (λ s. ends (kept s) refl) s) (λ f s. all_filled_on xs s)

  pub begun_on : (m : ℕ) (xs : List Value) → Always (begun (low q) m xs) (begun (high q) m xs)
  begun_on m xs s = then_on (invoked_on q m s.frame.this xs s) (λ a s. all_filled_on (class_fields (class_at q.code q.class)) s)

  -- ---- the forms

  mutual
    pub stmt_on : (x : e.Stmt) → Always (stmt (low q) x) (stmt (high q) x)
    stmt_on (e.Block n xs) s = stmts_on xs s
    stmt_on (e.Locals n is_final w xs) s = locals_on xs s
    stmt_on (e.Empty n) s = ends (kept s) refl
    stmt_on (e.Value n x) s = done_on (value_on q x s)
    stmt_on (e.If n x y z) s = then_on (value_on q x s) (λ a s. truth_on a (λ s. stmt_on y s) (λ s. maybe_on z s) s)
    stmt_on (e.While n x y) s = loop_on q.turns 0 (λ i s. tested_on x s) (λ s. stmt_on y s) s
    stmt_on (e.Do n y x) s = do_loop_on q.turns (λ s. stmt_on y s) (λ s. tested_on x s) s
    stmt_on (e.For n xs x us y) s = then_on (stmts_on xs s) (λ f s.
        loop_on q.turns 0 (λ i s. tested_or_on x s) (λ s. then_on (stmt_on y s) (λ g s. updates_on g (λ s. done_on (values_on q us s)) s)) s)
    stmt_on (e.ForEach n is_final w x y t implied z) s = then_on (value_on q y s) (λ a s. each_on (element (ty_of y)) x.slot x.ty t implied a (λ s. stmt_on z s) s)
    stmt_on (e.Switch n x gs) s = then_on (value_on q x s) (λ a s. some_on (selector a) (λ z. switch_on (from_group_on (begins_at z gs) gs s)))
    stmt_on (e.Break n) s = ends (kept s) refl
    stmt_on (e.Continue n) s = ends (kept s) refl
    stmt_on (e.Return n None) s = ends (kept s) refl
    stmt_on (e.Return n (Some x)) s = then_on (value_on q x s) (λ a s. ends (kept s) refl)
    stmt_on (e.Throw n x) s = then_on (value_on q x s) (λ a s. reference_on a (λ k. ends (kept s) refl))
    stmt_on (e.Try n y cs z) s = finally_on (rescued_on (stmt_on y s) (λ k s. caught_on k cs s)) (λ s. maybe_on z s)
    stmt_on (e.ThisCall n m xs) s = then_on (values_on q xs s) (λ ys s. done_on (invoked_on q m s.frame.this ys s))
    stmt_on (e.SuperFirst n m xs) s = then_on (values_on q xs s) (λ ys s. begun_on m ys s)

    maybe_on : (x : e.MaybeStmt) → Always (maybe_stmt (low q) x) (maybe_stmt (high q) x)
    maybe_on e.NoStmt s = ends (kept s) refl
    maybe_on (e.AStmt x) s = stmt_on x s

    stmts_on : (xs : e.Stmts) → Always (stmts (low q) xs) (stmts (high q) xs)
    stmts_on e.Last s = ends (kept s) refl
    stmts_on (e.Then x xs) s = then_on (stmt_on x s) (λ f s. goes_on f (λ s. stmts_on xs s) s)

    group_on : (g : e.Group) → Always (group (low q) g) (group (high q) g)
    group_on (e.Labelled n ls xs) s = stmts_on xs s

    groups_on : (gs : e.Groups) → Always (groups (low q) gs) (groups (high q) gs)
    groups_on e.NoGroup s = ends (kept s) refl
    groups_on (e.AndGroup g gs) s = then_on (group_on g s) (λ f s. goes_on f (λ s. groups_on gs s) s)

    from_group_on : (test : List (Option ℤ) → Bool) (gs : e.Groups) → Always (from_group (low q) test gs) (from_group (high q) test gs)
    from_group_on test e.NoGroup s = ends (kept s) refl
    from_group_on test (e.AndGroup g gs) s =
        choose_on (test (labels_of g)) (λ s. then_on (group_on g s) (λ f s. goes_on f (λ s. groups_on gs s) s)) (λ s. from_group_on test gs s) s

    caught_on : (k : ℕ) (cs : e.Catches) → Always (caught (low q) k cs) (caught (high q) k cs)
    caught_on k e.NoCatch s = ends (kept s) refl
    caught_on k (e.AndCatch (e.Caught n x y) cs) s = some_on (type_of (v.Ref k) s) (λ u.
        choose_on (is_below q.code u x.ty) (λ s. from (stmt_on y (with_local x.slot (v.Ref k) s)) (kept s)) (λ s. caught_on k cs s) s)
