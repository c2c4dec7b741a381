-- The report of a run, and what is told of it.
use Rattle.std.proofs.Common.{◌≡◌, ℕ, List, [], false, Option, Result, Ok, Err, IfOk, refl, sym, ap, subst, ◌∙◌}
use Rattle.class_world.specs.declared.world.World.{World}
use Rattle.java_core.specs.declared.program.CoreProgram.{CoreProgram}
use Rattle.java_core.specs.Plain as e
use Rattle.java_core.specs.View.{program_plain}
use Rattle.member_table.specs.declared.members.Members.{Members}
use Rattle.core_meaning.specs.declared.values.State.{State}
use Rattle.core_meaning.specs.declared.values.Value.{Value}
use Rattle.core_meaning.specs.Outcome.{Outcome, Gives, Threw, Bound, after}
use Rattle.core_meaning.specs.Code.{Code}
use Rattle.core_meaning.specs.Runs.{main_class, report, result_of}
use Rattle.running_code.specs.declared.running.Running.{Running}
use Rattle.running_code.specs.Running.{HaveOneSuperclass, IsCode, IsMadeOf}
use Rattle.run_frames.specs.Frames.{valued}
use Rattle.program_runs.specs.declared.answer.RunAnswer.{RunAnswer}
use Rattle.program_runs.specs.declared.answer.RunAnswer.TheVariants as answer
use Rattle.program_runs.specs.declared.ended.Ended.{Ended}
use Rattle.program_runs.specs.declared.ended.Ended.TheVariants as ended
use Rattle.program_runs.specs.Answers.{Answers, ended_end}
use Rattle.program_runs.specs.Ends.{ended_as}
use Rattle.program_runs.specs.Told.{IsCodeOf, IsReported, IsRun}

-- the object that is thrown
abbrev number : {A : Type 0} → Outcome A → ℕ
number (Gives a s) = 0
number (Threw k s) = k
number (Bound s) = 0

-- the state after it, and how it ended
pub told_of : (c : Code) (x : Ended) (s : State) (o : Outcome Value) → ended_as x s ≡ valued o
    → IsReported c (result_of o) (report c (record { printed = s.printed; entered = []; end = ended_end x s; wrong = false })) (ended_end x s)
told_of c (ended.Gave a) s (Gives b t) h = let e = ap after h in subst (λ t. IsReported c (result_of (Gives b t)) (report c (record { printed = s.printed; entered = []; end = ended_end (ended.Gave a) s; wrong = false })) (ended_end (ended.Gave a) s)) e (refl, refl)
told_of c (ended.Gave a) s (Threw k t) h = search h
told_of c (ended.Gave a) s (Bound t) h = search h
told_of c (ended.Threw n) s (Gives b t) h = search h
told_of c (ended.Threw n) s (Threw k t) h =
    subst (λ k. IsReported c (result_of (Threw k t)) (report c (record { printed = s.printed; entered = []; end = ended_end (ended.Threw n) s; wrong = false })) (ended_end (ended.Threw n) s)) (ap number h)
    (subst (λ t. IsReported c (result_of (Threw n t)) (report c (record { printed = s.printed; entered = []; end = ended_end (ended.Threw n) s; wrong = false })) (ended_end (ended.Threw n) s)) (ap after h) (refl, refl))
told_of c (ended.Threw n) s (Bound t) h = search h
told_of c ended.Bound s (Gives b t) h = search h
told_of c ended.Bound s (Threw k t) h = search h
told_of c ended.Bound s (Bound t) h = let e = ap after h in subst (λ t. IsReported c (result_of (Bound t)) (report c (record { printed = s.printed; entered = []; end = ended_end ended.Bound s; wrong = false })) (ended_end ended.Bound s)) e (refl, refl)

-- what is told of the program that was made is told of its parts
pub code_of : (g : Running) (w : World) (names : List (List ℕ)) (core : CoreProgram) (members : Members) (c : Code) → IsMadeOf g w names core members → IsCodeOf w names (program_plain core) c → IsCode g c
code_of g w names core members c made of = record {
  world = of.world ∙ sym made.0;
  names = of.names ∙ sym made.1;
  core = of.core ∙ ap program_plain (sym made.2);
  told = of.told;
  single = subst (λ w. HaveOneSuperclass w) (sym made.0) of.single;
}

pub run_told : (w : World) (names : List (List ℕ)) (core : e.Program) (users : ℕ) (class : List ℕ) (args : List (List ℕ)) (n : ℕ) (x : RunAnswer)
    → ((c : Code) → IsCodeOf w names core c → Answers c (main_class c users class) args n x) → IsRun w names core users class args n x
run_told w names core users class args n answer.NoMain h = h
run_told w names core users class args n (answer.Ran text end) h = h

pub run_as : {E : Type 0} (w : World) (names : List (List ℕ)) (core : e.Program) (users : ℕ) (class : List ℕ) (args : List (List ℕ)) (n : ℕ) (r : Result RunAnswer E)
    → ((c : Code) → IsCodeOf w names core c → IfOk r (Answers c (main_class c users class) args n)) → IfOk r (IsRun w names core users class args n)
run_as w names core users class args n (Ok x) h = run_told w names core users class args n x h
run_as w names core users class args n (Err x) h = tt

pub answers_for : {E : Type 0} (c : Code) (k l : Option ℕ) (args : List (List ℕ)) (n : ℕ) (r : Result RunAnswer E) → k ≡ l → IfOk r (Answers c k args n) → IfOk r (Answers c l args n)
answers_for c k l args n r e h = subst (λ k. IfOk r (Answers c k args n)) e h
