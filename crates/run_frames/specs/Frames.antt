-- What is done with what waits: a clause for each case, in the words of core_meaning.
use Rattle.std.specs.Prelude.{ℕ, suc, length, drop, Bool, true, false, List, [], ◌∷◌, ◌++◌, Some, map, codes, if◌then◌else◌}
use Rattle.std.specs.Option.{option_map}
use Rattle.java_core.specs.View.{plain, plains, stmt_plain, stmts_plain, stmt_maybe, group_plain, group_row, catch_plain, catch_row, var_plain}
use Rattle.java_core.specs.declared.stmt.CoreStmt.{CoreStmt}
use Rattle.type_kinds.specs.Kinds.{element}
use Rattle.core_meaning.specs.declared.values.Value.{Value}
use Rattle.core_meaning.specs.declared.values.Value.TheVariants as v
use Rattle.core_meaning.specs.declared.values.Variable.{Variable}
use Rattle.core_meaning.specs.declared.values.Variable.TheVariants as var
use Rattle.core_meaning.specs.declared.values.Ending.{Ending}
use Rattle.core_meaning.specs.declared.values.Ending.TheVariants.{Goes, Returns}
use Rattle.core_meaning.specs.declared.values.State.{State}
use Rattle.core_meaning.specs.State.{with_local, with_static, in_static, with_thing, with_array}
use Rattle.core_meaning.specs.Numbers.{prefixed, stepped}
use Rattle.core_meaning.specs.Texts.{hex_units}
use Rattle.core_meaning.specs.Outcome.{Outcome, Gives, Threw, Bound, and_then, misfit, with_some, with_int, with_reference, choose, by_truth, and_goes, and_turns, behind_switch, step, loop, do_loop, finally, rescued, leave}
use Rattle.core_meaning.specs.Code.{Code, new_object, class_at, class_fields}
use Rattle.core_meaning.specs.Variables.{Place, fitted, implied_cast, cast, instance_of, read, store}
use Rattle.core_meaning.specs.Members as members
use Rattle.core_meaning.specs.Members.{new_text, told, text_of, printed, invoked, called}
use Rattle.core_meaning.specs.Expressions.{value, values, variable, current, binary, compounded, sized, array_length, called_static}
use Rattle.core_meaning.specs.Statements.{stmt, stmts, maybe_stmt, done, locals, tested, tested_or, and_updates, taken, item_before, cast_if, next_before, each, selector, begins_at, chosen, all_filled, begun, groups, from_group, caught}
use Rattle.core_meaning.specs.Calls.{ran, answered, all_given, settled, place_at}
use Rattle.run_frames.specs.declared.focus.Answer.{Answer}
use Rattle.run_frames.specs.declared.focus.Answer.TheVariants as an
use Rattle.run_frames.specs.declared.focus.Focus.{Focus}
use Rattle.run_frames.specs.declared.focus.Focus.TheVariants as f
use Rattle.run_frames.specs.declared.waits.Waits.{Waits}
use Rattle.run_frames.specs.declared.waits.Waits.TheVariants as w
use Rattle.run_frames.specs.declared.waits.ForValue.{ForValue}
use Rattle.run_frames.specs.declared.waits.ForValue.TheVariants as for_value
use Rattle.run_frames.specs.declared.waits.ForNothing.{ForNothing}
use Rattle.run_frames.specs.declared.waits.ForNothing.TheVariants as for_nothing
use Rattle.run_frames.specs.declared.waits.ForValues.{ForValues}
use Rattle.run_frames.specs.declared.waits.ForValues.TheVariants as for_values
use Rattle.run_frames.specs.declared.waits.ForVariable.{ForVariable}
use Rattle.run_frames.specs.declared.waits.ForVariable.TheVariants as for_variable
use Rattle.run_frames.specs.declared.waits.ForUnits.{ForUnits}
use Rattle.run_frames.specs.declared.waits.ForUnits.TheVariants as for_units
use Rattle.run_frames.specs.declared.waits.ForTruth.{ForTruth}
use Rattle.run_frames.specs.declared.waits.ForTruth.TheVariants as for_truth
use Rattle.run_frames.specs.declared.waits.ForEnding.{ForEnding}
use Rattle.run_frames.specs.declared.waits.ForEnding.TheVariants as for_ending
use Rattle.run_frames.specs.declared.waits.Loop.{Loop}
use Rattle.run_frames.specs.declared.waits.Loop.TheVariants as l
use Rattle.run_frames.specs.declared.waits.Saved.{Saved}
use Rattle.run_frames.specs.declared.waits.Saved.TheVariants as saved

-- ---- outcomes as answers

abbrev pub valued : Outcome Value → Outcome Answer
valued o = and_then o (λ a s. Gives (an.Value a) s)

abbrev pub a_variable : Outcome Variable → Outcome Answer
a_variable o = and_then o (λ z s. Gives (an.Variable z) s)

abbrev pub a_truth : Outcome Bool → Outcome Answer
a_truth o = and_then o (λ b s. Gives (an.Truth b) s)

abbrev pub a_text : Outcome (List ℕ) → Outcome Answer
a_text o = and_then o (λ units s. Gives (an.Units units) s)

abbrev pub all_valued : Outcome (List Value) → Outcome Answer
all_valued o = and_then o (λ xs s. Gives (an.Values xs) s)

abbrev pub ended : Outcome Ending → Outcome Answer
ended o = and_then o (λ e s. Gives (an.Ending e) s)

abbrev pub nothing : Outcome (Unit {0}) → Outcome Answer
nothing o = and_then o (λ u s. Gives an.Nothing s)

-- ---- answers of the kind that is waited for

abbrev pub in_value : {B : Type 0} → Answer → State → (Value → State → Outcome B) → Outcome B
in_value (an.Value a) s k = k a s
in_value _ s k = misfit s

abbrev pub in_variable : {B : Type 0} → Answer → State → (Variable → State → Outcome B) → Outcome B
in_variable (an.Variable z) s k = k z s
in_variable _ s k = misfit s

abbrev pub in_truth : {B : Type 0} → Answer → State → (Bool → State → Outcome B) → Outcome B
in_truth (an.Truth b) s k = k b s
in_truth _ s k = misfit s

abbrev pub in_units : {B : Type 0} → Answer → State → (List ℕ → State → Outcome B) → Outcome B
in_units (an.Units units) s k = k units s
in_units _ s k = misfit s

abbrev pub in_values : {B : Type 0} → Answer → State → (List Value → State → Outcome B) → Outcome B
in_values (an.Values xs) s k = k xs s
in_values _ s k = misfit s

abbrev pub in_ending : {B : Type 0} → Answer → State → (Ending → State → Outcome B) → Outcome B
in_ending (an.Ending e) s k = k e s
in_ending _ s k = misfit s

abbrev pub in_nothing : {B : Type 0} → Answer → State → (State → Outcome B) → Outcome B
in_nothing an.Nothing s k = k s
in_nothing _ s k = misfit s

abbrev pub and_value : Outcome Answer → (Value → State → Outcome Answer) → Outcome Answer
and_value o k = and_then o (λ x s. in_value x s k)

abbrev pub and_values : Outcome Answer → (List Value → State → Outcome Answer) → Outcome Answer
and_values o k = and_then o (λ x s. in_values x s k)

abbrev pub and_variable : Outcome Answer → (Variable → State → Outcome Answer) → Outcome Answer
and_variable o k = and_then o (λ x s. in_variable x s k)

abbrev pub and_truth : Outcome Answer → (Bool → State → Outcome Answer) → Outcome Answer
and_truth o k = and_then o (λ x s. in_truth x s k)

abbrev pub and_units : Outcome Answer → (List ℕ → State → Outcome Answer) → Outcome Answer
and_units o k = and_then o (λ x s. in_units x s k)

abbrev pub and_ending : Outcome Answer → (Ending → State → Outcome Answer) → Outcome Answer
and_ending o k = and_then o (λ x s. in_ending x s k)

abbrev pub and_nothing : Outcome Answer → (State → Outcome Answer) → Outcome Answer
and_nothing o k = and_then o (λ x s. in_nothing x s k)

-- ---- loops

abbrev pub before : Place → Loop → ℕ → State → Outcome Bool
before p (l.While test body) i s = tested p (plain test.now) s
before p (l.For test updates body) i s = tested_or p (option_map plain test.now) s
before p (l.Items k t array body) i s = item_before k t.now array i s
before p (l.Walk w k t u implied it body) i s = next_before p w k t.now u.now implied it s

abbrev pub body_of : Place → Loop → State → Outcome Ending
body_of p (l.While test body) s = stmt p (stmt_plain body.now) s
body_of p (l.For test updates body) s = and_then (stmt p (stmt_plain body.now) s) (λ g s. and_updates g (λ s. done (values p (plains updates.now) s)) s)
body_of p (l.Items k t array body) s = stmt p (stmt_plain body.now) s
body_of p (l.Walk w k t u implied it body) s = stmt p (stmt_plain body.now) s

abbrev pub looped : Place → Loop → (n i : ℕ) → State → Outcome Ending
looped p x n i s = loop n i (before p x) (body_of p x) s

abbrev pub done_looped : Place → CoreStmt → (test : State → Outcome Bool) → (n : ℕ) → State → Outcome Ending
done_looped p x test n s = do_loop n (stmt p (stmt_plain x)) test s

-- ---- what waits for a value

abbrev pub on_value : Place → ForValue → Value → State → Outcome Answer
on_value p (for_value.Widen t) a s = valued (fitted t.now a s)
on_value p (for_value.Implied t) a s = valued (implied_cast p t.now a s)
on_value p (for_value.Field k) a s = valued (read p (var.Field a k) s)
on_value p for_value.Length a s = valued (array_length a s)
on_value p (for_value.IndexOf y) a s = and_value (valued (value p (plain y.now) s)) (λ i s. valued (read p (var.Item a i) s))
on_value p (for_value.IndexAt of) a s = valued (read p (var.Item of a) s)
on_value p (for_value.CallOf m xs) a s = and_values (all_valued (values p (plains xs.now) s)) (λ ys s. valued (called p m a ys s))
on_value p (for_value.Unary op) a s = valued (with_some (prefixed op a) s (λ b. Gives b s))
on_value p (for_value.Cast t) a s = valued (cast p t.now a s)
on_value p (for_value.InstanceOf t) a s = valued (instance_of p t.now a s)
on_value p (for_value.Left op k y) a s = and_value (valued (value p (plain y.now) s)) (λ b s. valued (binary p op k a b s))
on_value p (for_value.Right op k of) a s = valued (binary p op k of a s)
on_value p (for_value.Logic true y) a s = valued (by_truth a (value p (plain y.now)) (λ s. Gives (v.Truth false) s) s)
on_value p (for_value.Logic false y) a s = valued (by_truth a (λ s. Gives (v.Truth true) s) (value p (plain y.now)) s)
on_value p (for_value.Cond y z) a s = valued (by_truth a (value p (plain y.now)) (value p (plain z.now)) s)
on_value p (for_value.Store z) a s = valued (store p z a s)
on_value p (for_value.Step up first z) a s =
    valued (with_some (stepped up a) s (λ b. and_then (store p z b s) (λ c s. Gives (if first then b else a) s)))
on_value p (for_value.Compound op k t y z) a s =
    and_value (valued (value p (plain y.now) s)) (λ b s. valued (and_then (compounded p op k t.now a b s) (λ c s. store p z c s)))
on_value p (for_value.CompoundRight op k t of z) a s = valued (and_then (compounded p op k t.now of a s) (λ c s. store p z c s))
on_value p (for_value.Replace b) a s = Gives (an.Value b) s
on_value p (for_value.VariableField k) a s = Gives (an.Variable (var.Field a k)) s
on_value p (for_value.VariableIndexOf y) a s = and_value (valued (value p (plain y.now) s)) (λ i s. Gives (an.Variable (var.Item a i)) s)
on_value p (for_value.VariableIndexAt of) a s = Gives (an.Variable (var.Item of a)) s
on_value p for_value.Drop a s = Gives an.Nothing s
on_value p (for_value.Argument xs args k) a s = all_valued (and_then (values p (plains (drop k args.now)) s) (λ ys s. Gives (xs ++ a ∷ ys) s))
on_value p for_value.Told a s = a_text (told a s)
on_value p (for_value.Hash name) a s = valued (with_int a s (λ z. new_text (name ++ codes "@" ++ hex_units z) s))
on_value p (for_value.Message name) a s = valued (members.said name a s)
on_value p (for_value.Local k) a s = Gives (an.Ending Goes) (with_local k a s)
on_value p for_value.Done a s = Gives (an.Ending Goes) s
on_value p (for_value.If y z) a s = ended (by_truth a (stmt p (stmt_plain y.now)) (maybe_stmt p (stmt_maybe (option_map stmt_plain z.now))) s)
on_value p for_value.Test a s = a_truth (by_truth a (λ s. Gives true s) (λ s. Gives false s) s)
on_value p (for_value.Each k t of u implied body) a s =
    ended (each (element of.now) p k t.now u.now implied a (stmt p (stmt_plain body.now)) s)
on_value p (for_value.Iterator w k t u implied body) a s = ended (looped p (l.Walk w k t u implied a body) p.turns 0 s)
on_value p (for_value.HasNext w k t u implied it) a s = a_truth (by_truth a
    (λ s. and_then (called p w.next it [] s) (λ y s. and_then (cast_if implied p u.now y s) (taken k t.now)))
    (λ s. Gives false s) s)
on_value p (for_value.Next k t u implied) a s = a_truth (and_then (cast_if implied p u.now a s) (taken k t.now))
on_value p (for_value.Switch gs) a s = ended (with_some (selector a) s (λ z.
    behind_switch (from_group p (begins_at z (group_row (map group_plain gs.now))) (group_row (map group_plain gs.now)) s)))
on_value p for_value.Return a s = Gives (an.Ending (Returns (Some a))) s
on_value p for_value.Throw a s = with_reference a s (λ k. Threw k s)
on_value p (for_value.Filled k) a s = ended (done (store p (var.Field s.frame.this k) a s))
on_value p for_value.Fill a s = ended (all_filled p (class_fields (class_at p.code p.class)) s)
on_value p (for_value.Given k) a s = nothing (with_some (in_static k s) s (λ old. Gives tt (with_static k a s)))

-- ---- what waits for other answers

abbrev pub on_nothing : Place → ForNothing → State → Outcome Answer
on_nothing p (for_nothing.StaticField k) s = valued (read p (var.Static k) s)
on_nothing p (for_nothing.StaticVariable k) s = Gives (an.Variable (var.Static k)) s
on_nothing p (for_nothing.StaticArgs m xs) s = and_values (all_valued (values p (plains xs.now) s)) (λ ys s. valued (called_static p m ys s))
on_nothing p (for_nothing.ReadStatic k) s = valued (with_some (in_static k s) s (λ a. Gives a s))
on_nothing p (for_nothing.StoreStatic k a) s = valued (with_some (in_static k s) s (λ old. Gives a (with_static k a s)))
on_nothing p (for_nothing.StaticCall m xs) s = valued (invoked p m v.Null xs s)
on_nothing p (for_nothing.New k m xs) s =
    and_values (all_valued (values p (plains xs.now) (with_thing (new_object p.code k) s))) (λ ys t.
    valued (and_then (invoked p m (v.Ref (length s.heap)) ys t) (λ a t. Gives (v.Ref (length s.heap)) t)))
on_nothing p (for_nothing.AllGiven k at) s = nothing (all_given p (drop at (class_fields (class_at p.code k))) s)

abbrev pub on_values : Place → ForValues → List Value → State → Outcome Answer
on_values p (for_values.Call a m) xs s = valued (called p m a xs s)
on_values p (for_values.SuperCall m) xs s = valued (invoked p m s.frame.this xs s)
on_values p (for_values.StaticCall m) xs s = valued (called_static p m xs s)
on_values p (for_values.New r m) xs s = valued (and_then (invoked p m (v.Ref r) xs s) (λ a s. Gives (v.Ref r) s))
on_values p (for_values.Sizes t) xs s = valued (sized t.now xs s)
on_values p (for_values.Filled r t) xs s = Gives (an.Value (v.Ref r)) (with_array r t.now xs s)
on_values p for_values.Done xs s = Gives (an.Ending Goes) s
on_values p (for_values.ThisCall m) xs s = ended (done (invoked p m s.frame.this xs s))
on_values p (for_values.SuperFirst m) xs s = ended (begun p m xs s)

abbrev pub on_variable : Place → ForVariable → Variable → State → Outcome Answer
on_variable p (for_variable.Assign y) z s = and_value (valued (value p (plain y.now) s)) (λ a s. valued (store p z a s))
on_variable p (for_variable.Step up first x) z s = and_value (valued (current p (plain x.now) z s)) (λ a s.
    valued (with_some (stepped up a) s (λ b. and_then (store p z b s) (λ c s. Gives (if first then b else a) s))))
on_variable p (for_variable.Compound op k t x y) z s = and_value (valued (current p (plain x.now) z s)) (λ a s.
    and_value (valued (value p (plain y.now) s)) (λ b s. valued (and_then (compounded p op k t.now a b s) (λ c s. store p z c s))))

abbrev pub on_units : Place → ForUnits → List ℕ → State → Outcome Answer
on_units p (for_units.Left b) xs s = valued (and_then (text_of p b s) (λ ys s. new_text (xs ++ ys) s))
on_units p (for_units.Right xs) ys s = valued (new_text (xs ++ ys) s)
on_units p (for_units.Print line) xs s = valued (printed line xs s)

abbrev pub on_truth : Place → ForTruth → Bool → State → Outcome Answer
on_truth p (for_truth.Loop n i x) b s = ended (choose b
    (λ s. step s (λ s. and_then (body_of p x s) (λ e s. and_turns e s (looped p x n (suc i)))))
    (λ s. Gives Goes s) s)
on_truth p (for_truth.Do n x test) b s = ended (choose b (done_looped p x.now (tested p (plain test.now)) n) (λ s. Gives Goes s) s)

abbrev pub restored : Saved → State → Outcome Ending
restored (saved.Ending e) s = Gives e s
restored (saved.Threw k) s = Threw k s

abbrev pub on_ending : Place → ForEnding → Ending → State → Outcome Answer
on_ending p (for_ending.Then xs k) e s = ended (and_goes e s (stmts p (stmts_plain (drop k xs.now))))
on_ending p (for_ending.Locals xs k) e s = ended (locals p (map var_plain (drop k xs.now)) s)
on_ending p (for_ending.Loop n i x) e s = ended (and_turns e s (looped p x n i))
on_ending p (for_ending.Do n x test) e s =
    ended (and_turns e s (λ s. and_then (tested p (plain test.now) s) (λ b s. choose b (done_looped p x.now (tested p (plain test.now)) n) (λ s. Gives Goes s) s)))
on_ending p (for_ending.Updates xs) e s = ended (and_updates e (λ s. done (values p (plains xs.now) s)) s)
on_ending p (for_ending.Initial x) e s = ended (looped p x p.turns 0 s)
on_ending p for_ending.Switch e s = ended (behind_switch (Gives e s))
on_ending p (for_ending.Groups gs k) e s = ended (and_goes e s (groups p (group_row (map group_plain (drop k gs.now)))))
on_ending p (for_ending.Fill k at) e s = ended (all_filled p (drop at (class_fields (class_at p.code k))) s)
on_ending p (for_ending.Body x) e s = valued (ran (stmt p (stmt_plain x.now) s))
on_ending p for_ending.Answered e s = valued (answered e s)
on_ending p (for_ending.After x) e s = ended (and_goes e s (restored x))

-- ---- what waits for an outcome

abbrev pub endings : Outcome Answer → Outcome Ending
endings o = and_then o (λ x s. in_ending x s (λ e s. Gives e s))

abbrev pub nothings : Outcome Answer → Outcome (Unit {0})
nothings o = and_then o (λ x s. in_nothing x s (λ s. Gives tt s))

abbrev pub on : Place → Waits → Outcome Answer → Outcome Answer
on p (w.Value x) o = and_value o (on_value p x)
on p (w.Nothing x) o = and_nothing o (on_nothing p x)
on p (w.Values x) o = and_values o (on_values p x)
on p (w.Variable x) o = and_variable o (on_variable p x)
on p (w.Units x) o = and_units o (on_units p x)
on p (w.Truth x) o = and_truth o (on_truth p x)
on p (w.Ending x) o = and_ending o (on_ending p x)
on p (w.Finally z) o = ended (finally (endings o) (maybe_stmt p (stmt_maybe (option_map stmt_plain z.now))))
on p (w.Rescue cs) o = ended (rescued (endings o) (λ k s. caught p k (catch_row (map catch_plain cs.now)) s))
on p (w.Leave frame d k) o = leave frame o
on p (w.Settle k) o = nothing (settled p k (nothings o))

-- ---- what is done next

abbrev pub outcome : Place → Focus → State → Outcome Answer
outcome p (f.Value x) s = valued (value p (plain x.now) s)
outcome p (f.Variable x) s = a_variable (variable p (plain x.now) s)
outcome p (f.Current x z) s = valued (current p (plain x.now) z s)
outcome p (f.Statement x) s = ended (stmt p (stmt_plain x.now) s)
outcome p (f.Groups gs at z by_label) s = ended (from_group p (chosen by_label z) (group_row (map group_plain (drop at gs.now))) s)
outcome p (f.Catches k cs at) s = ended (caught p k (catch_row (map catch_plain (drop at cs.now))) s)
outcome p (f.Initialise k) s = nothing (p.initialise k s)
outcome p (f.Gives a) s = Gives a s
outcome p (f.Threw k) s = Threw k s
outcome p f.AtBound s = Bound s

-- ---- the whole

-- where what is below something on the stack waits
abbrev pub depth_below : ℕ → Waits → ℕ
depth_below d (w.Leave frame e k) = e
depth_below d _ = d

abbrev pub class_below : ℕ → Waits → ℕ
class_below k (w.Leave frame e j) = j
class_below k _ = k

-- an outcome goes through all that waits
abbrev pub resumed : Code → (depth class : ℕ) → List Waits → Outcome Answer → Outcome Answer
resumed c d k [] o = o
resumed c d k (x ∷ xs) o = resumed c (depth_below d x) (class_below k x) xs (on (place_at c d k) x o)
