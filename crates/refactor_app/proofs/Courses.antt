-- From what a call's parts ensure to the way that it goes.
use Rattle.std.proofs.Common.{◌≡◌, ◌≢◌, ℕ, zero, suc, ◌+◌, ◌<◌, ◌≤◌, ◌⊎◌, inl, inr, List, [], ◌∷◌, length, map, get_or, Option, Some, None, slice_get, Result, Ok, Err, IfOk, refl, sym, ◌∙◌, ap, subst, arith, length-append}
use Rattle.std.specs.Prelude.{IfNone, OnErr}
use Rattle.std.specs.String.{string_bytes}
use Rattle.std.specs.declared.string.String.{String}
use Rattle.std.specs.declared.alloc.Global.{Global}
use Rattle.java_tree.specs.Names.{built_in_names}
use Rattle.java_tree.specs.Plain.{SourceUnit}
use Rattle.java_tree.specs.declared.fault.NoMemory.{NoMemory}
use Rattle.tool_files.specs.Told.{Look, Rose, WhereTold, SameBut, PutsAt}
use Rattle.command_words.specs.Table.{parts_of}
use Rattle.command_words.specs.declared.table.Command.TheVariants as command
use Rattle.report_text.specs.Report.{types_report, write_fault}
use Rattle.command_words.specs.declared.request.Request as words_of
use Rattle.command_words.specs.Asked as asked_words
use Rattle.command_words.specs.declared.table.Command.{Command}
use Rattle.command_words.specs.Table.{Parts, role_of, word_of}
use Rattle.command_words.specs.Rules.{FitsNumber, HasNumbers, HasShape, Meets}
use Rattle.source_files.specs.declared.read.ReadStop.{ReadStop}
use Rattle.source_files.specs.declared.read.ReadStop.TheVariants as read
use Rattle.source_files.specs.declared.trees.TreeStop.{TreeStop}
use Rattle.source_files.specs.declared.trees.TreeStop.TheVariants as tree
use Rattle.source_files.specs.Held.{AreHeld, Stop, StopsAt, Missing, Failed}
use Rattle.source_files.specs.Trees.{AreTrees, Lexical, Tokens, LeftOut, NoTree}
use Rattle.source_files.specs.Answers as files
use Rattle.refactor_app.specs.declared.status.Status.{Status}
use Rattle.refactor_app.specs.declared.status.Status.TheVariants as s
use Rattle.refactor_app.specs.declared.decide.Output.{Output}
use Rattle.refactor_app.specs.declared.decide.Verdict.{Verdict}
use Rattle.refactor_app.specs.declared.decide.Verdict.TheVariants as verdict
use Rattle.checker.specs.declared.check.CheckedProgram.{CheckedProgram}
use Rattle.refactor_app.specs.Words.{ExtractRequest, Files, Request, inputs, Asks, AsksCheck, AsksExtract, AsksRun, AsksSteps, Uses, AskOther}
use Rattle.extract_interface.specs.declared.command.Answer.{Answer}
use Rattle.extract_interface.specs.declared.command.Answer.TheVariants as extract
use Rattle.class_world.specs.declared.world.World.{World}
use Rattle.java_core.specs.Plain as plain
use Rattle.java_core.specs.View.{program_plain}
use Rattle.built_in_types.specs.BuiltIns.{with_words}
use Rattle.program_runs.specs.declared.answer.RunAnswer.{RunAnswer}
use Rattle.program_runs.specs.declared.answer.RunAnswer.TheVariants as run
use Rattle.program_runs.specs.Told.{IsRun}
use Rattle.java_tree.specs.declared.fault.Broken.{Broken}
use Rattle.unchecked_ops.specs.declared.program.Operation.{Operation}
use Rattle.checker.specs.Checking.{IsWellTyped}
use Rattle.checked_files.proofs.Tables.{trees_long}
use Rattle.checked_files.proofs.Held.{held_long}
use Rattle.refactor_app.specs.declared.asked.AskedRun.{AskedRun}
use Rattle.refactor_app.specs.declared.asked.Task.{Task}
use Rattle.refactor_app.specs.declared.asked.Task.TheVariants as task
use Rattle.refactor_app.specs.declared.check.CheckAnswer.{CheckAnswer}
use Rattle.refactor_app.specs.declared.check.CheckAnswer.TheVariants as answer
use Rattle.refactor_app.specs.Asked.{AreRunWords, AsksRunOf, AsksTask, HasRunWords, extract_of, files_of, request_of, task_files, task_steps}
use Rattle.refactor_app.specs.Checked.{Answers}
use Rattle.refactor_app.specs.Declarations.{broken_line}
use Rattle.refactor_app.specs.Changes.{IsAnswered, IsAnsweredBy, Said, Stands, Changed, Listed, change_writing}
use Rattle.refactor_app.specs.Extractions as extractions
use Rattle.refactor_app.specs.Extractions.{extract_writing}
use Rattle.refactor_app.specs.Writes.{Writes, FailsAt, Writing}
use Rattle.refactor_app.specs.Decided.{AreOutputs, Decides, DecidesExtract, IsExtractVerdict, IsVerdict}
use Rattle.refactor_app.specs.Written.{ChangesSo, EndsVerdict, ExtractsSo}
use Rattle.refactor_app.specs.Refusals.{AsksFew, HasChecked, HasDeclared, IsCheckRefusal, Refusal}
use Rattle.refactor_app.specs.Refusals as refusal
use Rattle.refactor_app.specs.Checking.{Passes}
use Rattle.refactor_app.specs.Running.{Runs, run_status}
use Rattle.refactor_app.specs.Ran.{EndsRun, IsRunAnswer, RunsSo}
use Rattle.refactor_app.specs.Answers.{AreTypes, Ends, IsAsked, IsChange, IsExtraction}
use Rattle.refactor_app.specs.Answers as answers
use Rattle.refactor_app.specs.Course.{Moment, EndsAt, EndsWith, Finishes, Course}
use Rattle.refactor_app.specs.Course as way
use Rattle.refactor_app.specs.Stops.{Stops, TellsStop, IsNamed}
use Rattle.refactor_app.proofs.Asking.{one_steps}
use Rattle.refactor_app.proofs.OneSense.{change_or_run, check_or_run, run_or_extraction}

-- ---- what is held

pub map_length : {X Y : Type 0} (f : X → Y) (xs : List X) → length (map f xs) ≡ length xs
map_length f [] = refl
map_length f (x ∷ xs) = ap suc (map_length f xs)

-- ---- a check

module _ (words : List (List ℕ)) (fs : Files) (texts names : List (List ℕ)) (units : List SourceUnit) (a b : Moment) (st : Status) (w : World)
    (h : HasDeclared words a.holds fs texts names units) (world : h.declared.world ≡ w) where
  refusal_told : (rule : Broken) → IsCheckRefusal h.declared.program w rule → IsCheckRefusal h.declared.program h.declared.world rule
  refusal_told rule broken = subst (λ (w : World). IsCheckRefusal h.declared.program w rule) (sym world) broken

  typed_told : (core : plain.Program) (operations : List Operation) → IsWellTyped h.declared.program w core operations → IsWellTyped h.declared.program h.declared.world core operations
  typed_told core operations well = subst (λ (w : World). IsWellTyped h.declared.program w core operations) (sym world) well

  abbrev checked_told : (c : CheckedProgram) → IsWellTyped h.declared.program w (program_plain c.core) c.operations → HasChecked words a.holds fs texts names units
  checked_told c well = record { declared = h; core = program_plain c.core; operations = c.operations; typed = typed_told (program_plain c.core) c.operations well }

  -- the line of a rule that a check names is put
  refused : (line : String Global) (rule : Broken) → IsCheckRefusal h.declared.program w rule → string_bytes line ≡ broken_line fs texts units rule → b.holds ≡ a.holds
      → EndsAt a b (string_bytes line) s.Refused st → Course words a b st
  refused line rule broken is same ends =
      way.Course.refuses (refusal.Refusal.checked fs texts names units rule h (refusal_told rule broken)) same (subst (λ (x : List ℕ). EndsAt a b x s.Refused st) is ends)

  -- what becomes of a check of files is what becomes of the call
  pub on_check : (x : CheckAnswer) → AsksCheck words fs → Answers fs texts units h.declared.program w x → b.holds ≡ a.holds → EndsWith a.put b.put a.faults b.faults x st → Course words a b st
  on_check (answer.Refused line) asks (rule, broken, is) same ends = refused line rule broken is same ends
  on_check (answer.Passed report checked) asks (well, is) same ends =
      way.Course.checks {line = string_bytes report}
      (record {
        fs = fs;
        texts = texts;
        names = names;
        units = units;
        core = program_plain checked.core;
        operations = checked.operations;
        asks = asks;
        declared = h;
        typed = typed_told (program_plain checked.core) checked.operations well;
        is = is;
      }) same ends

  module _ (r : AskedRun) (asks : AsksRunOf words r) (files : files_of r.inputs ≡ fs) (table : List (List ℕ)) (words_are : table ≡ with_words names) where
    run_told : (core : plain.Program) (x : RunAnswer) → IsRunAnswer w table r core x
        → IsRun h.declared.world (with_words names) core (length fs.users) r.class.now (map string_bytes r.args.now) r.steps x
    run_told core x is =
        let users : length r.inputs.users.now ≡ length fs.users = sym (map_length string_bytes r.inputs.users.now) ∙ ap (λ (fs : Files). length fs.users) files in
        subst (λ (w : World). IsRun w (with_words names) core (length fs.users) r.class.now (map string_bytes r.args.now) r.steps x) (sym world)
        (subst (λ (ns : List (List ℕ)). IsRun w ns core (length fs.users) r.class.now (map string_bytes r.args.now) r.steps x) words_are
        (subst (λ (n : ℕ). IsRun w table core n r.class.now (map string_bytes r.args.now) r.steps x) users is))

    run_asked : AsksRun words r.steps r.class.now (map string_bytes r.args.now) fs
    run_asked = subst (λ (fs : Files). AsksRun words r.steps r.class.now (map string_bytes r.args.now) fs) files asks

    -- what becomes of a run of checked files is what becomes of the call
    ran : (core : plain.Program) (operations : List Operation) (x : Result RunAnswer NoMemory) → IsWellTyped h.declared.program w core operations → IfOk x (IsRunAnswer w table r core)
        → b.holds ≡ a.holds → EndsRun a.put b.put a.faults b.faults x st → Course words a b st
    ran core operations (Ok run.NoMain) well is same ends =
        way.Course.refuses (refusal.Refusal.s24 (record {
          fs = fs;
          texts = texts;
          names = names;
          units = units;
          steps = r.steps;
          class = r.class.now;
          args = map string_bytes r.args.now;
          asks = run_asked;
          checked = record { declared = h; core = core; operations = operations; typed = typed_told core operations well };
          none = run_told core run.NoMain is;
        })) same ends
    ran core operations (Ok (run.Ran line how)) well is same ends =
        way.Course.runs {line = line} how (record {
          fs = fs;
          texts = texts;
          names = names;
          units = units;
          steps = r.steps;
          class = r.class.now;
          args = map string_bytes r.args.now;
          core = core;
          operations = operations;
          asks = run_asked;
          declared = h;
          typed = typed_told core operations well;
          runs = run_told core (run.Ran line how) is;
        }) same ends
    ran core operations (Err e) well is same none = way.Course.no_memory same none.1 none.0

    pub on_run : (x : CheckAnswer) → Answers fs texts units h.declared.program w x → b.holds ≡ a.holds → RunsSo w table r a.put b.put a.faults b.faults x st → Course words a b st
    on_run (answer.Refused line) (rule, broken, is) same ends = refused line rule broken is same ends
    on_run (answer.Passed report checked) (well, is) same (x, runs, ends) = ran (program_plain checked.core) checked.operations x well runs same ends

-- ---- a change

rose_later : (a b c : ℕ) → a ≤ b → Rose b c → Rose a c
rose_later a b c le (inl h) = inl (omega arith)
rose_later a b c le (inr h) = inr h

-- the new files of outputs are written, or one of them fails
finishes : (os : List Output) (ns ts : List (List ℕ)) (old new : Option Look) (f f' : ℕ) (report : List ℕ) (ends : List ℕ → Status → Status → Type 0) (st : Status)
    → AreOutputs ns ts os → Finishes os old new f f' report ends st
    → (Writes ns ts old new × ends report s.Done st) ⊎ ((name : List ℕ) × FailsAt ns ts name old new × Rose f f' × ends (write_fault name) s.WriteFault st)
finishes [] [] [] old new f f' report ends st are (same, done) = inl (same, done)
finishes [] [] (t ∷ ts) old new f f' report ends st are h = absurd are
finishes [] (n ∷ ns) [] old new f f' report ends st are h = absurd are
finishes [] (n ∷ ns) (t ∷ ts) old new f f' report ends st are h = absurd are
finishes (o ∷ os) [] [] old new f f' report ends st are h = absurd are
finishes (o ∷ os) [] (t ∷ ts) old new f f' report ends st are h = absurd are
finishes (o ∷ os) (n ∷ ns) [] old new f f' report ends st are h = absurd are
finishes (o ∷ os) (n ∷ ns) (t ∷ ts) old new f f' report ends st (is, more) (inl (now, g, le, put, rest)) =
    let here : WhereTold old now (PutsAt n t) = subst (λ (m : List ℕ). WhereTold old now (PutsAt m t)) is.named (subst (λ (x : List ℕ). WhereTold old now (PutsAt (string_bytes o.name) x)) is.holds put) in
    elim (finishes os ns ts now new g f' report ends st more rest) [
      | inl (writes, done) ↦ inl ((now, here, writes), done)
      | inr (name, fails, rose, fault) ↦ inr (name, inr (now, here, fails), rose_later f g f' le rose, fault)
    ]
finishes (o ∷ os) (n ∷ ns) (t ∷ ts) old new f f' report ends st (is, more) (inr (others, rose, fault)) =
    inr (n, inl (refl, subst (λ (m : List ℕ). WhereTold old new (SameBut m)) is.named others), rose, subst (λ (x : List ℕ). ends x s.WriteFault st) is.fault fault)

-- what is to be written is written and its report put, or one of its writes fails
written : (words : List (List ℕ)) (a b : Moment) (st : Status) (x : Writing) (outputs : List Output) (report : List ℕ) → IsAsked words a.holds x → AreOutputs x.names x.texts outputs
    → report ≡ x.report → Finishes outputs a.holds b.holds a.write_faults b.write_faults report (Ends a.put b.put a.faults b.faults) st → Course words a b st
written words a b st x outputs report asked are told ends =
    elim (finishes outputs x.names x.texts a.holds b.holds a.write_faults b.write_faults report (Ends a.put b.put a.faults b.faults) st are ends) [
      | inl (writes, done) ↦ way.Course.writes asked writes (subst (λ (l : List ℕ). EndsAt a b l s.Done st) told done)
      | inr (name, fails, rose, fault) ↦ way.Course.fails name asked fails rose fault
    ]

module _ (words : List (List ℕ)) (q : Request) (texts names : List (List ℕ)) (units : List SourceUnit) (a b : Moment) (st : Status) (w : World)
    (h : HasDeclared words a.holds q.files texts names units) (world : h.declared.world ≡ w) (asks : Asks words q) (table : List (List ℕ)) (words_are : table ≡ with_words names) where
  abbrev checked_of : (c : CheckedProgram) → IsWellTyped h.declared.program w (program_plain c.core) c.operations → HasChecked words a.holds q.files texts names units
  checked_of c well = checked_told words q.files texts names units a b st w h world c well

  answered : (c : CheckedProgram) (x : Said) → IsAnsweredBy q texts table units h.declared.program w (program_plain c.core) c.operations x
      → IsAnswered q texts names units h.declared.program h.declared.world (program_plain c.core) c.operations x
  answered c x is =
      subst (λ (w : World). IsAnsweredBy q texts (with_words names) units h.declared.program w (program_plain c.core) c.operations x) (sym world)
      (subst (λ (ns : List (List ℕ)). IsAnsweredBy q texts ns units h.declared.program w (program_plain c.core) c.operations x) words_are is)

  -- what is said is put
  on_answer : (c : CheckedProgram) (x : Said) (v : Verdict) → IsWellTyped h.declared.program w (program_plain c.core) c.operations
      → IsAnsweredBy q texts table units h.declared.program w (program_plain c.core) c.operations x → IsVerdict q texts units x v
      → EndsVerdict a.holds b.holds a.write_faults b.write_faults a.put b.put a.faults b.faults (Ok v) st → Course words a b st
  on_answer c (Stands x) (verdict.Refused line) well is line_is (same, ends) =
      way.Course.refuses (refusal.Refusal.against q texts names units x (record { asks = asks; checked = checked_of c well; against = answered c (Stands x) is })) same
      (subst (λ (l : List ℕ). EndsAt a b l s.Refused st) line_is ends)
  on_answer c (Stands x) (verdict.Changed outputs report) well is none ends = absurd none
  on_answer c (Stands x) (verdict.Listed report) well is none ends = absurd none
  on_answer c (Changed new) (verdict.Refused line) well is none ends = absurd none
  on_answer c (Changed new) (verdict.Listed report) well is none ends = absurd none
  on_answer c (Listed types) (verdict.Refused line) well is none ends = absurd none
  on_answer c (Listed types) (verdict.Changed outputs report) well is none ends = absurd none
  on_answer c (Listed types) (verdict.Listed report) well is told (same, ends) =
      let are : AreTypes words a.holds q types = record { texts = texts; names = names; units = units; asks = asks; checked = checked_of c well; says = answered c (Listed types) is } in
      way.Course.lists are same (subst (λ (l : List ℕ). EndsAt a b l s.Done st) told ends)
  on_answer c (Changed new) (verdict.Changed outputs report) well is (are, told) ends =
      let change : IsChange words a.holds q new = record { texts = texts; names = names; units = units; asks = asks; checked = checked_of c well; says = answered c (Changed new) is } in
      written words a b st (change_writing q new) outputs report.items (answers.IsAsked.change q new change) are told ends

  on_verdict : (c : CheckedProgram) (x : Result Verdict NoMemory) → IsWellTyped h.declared.program w (program_plain c.core) c.operations
      → IfOk x (Decides q texts table units h.declared.program w c) → EndsVerdict a.holds b.holds a.write_faults b.write_faults a.put b.put a.faults b.faults x st → Course words a b st
  on_verdict c (Ok v) well (x, is, told) ends = on_answer c x v well is told ends
  on_verdict c (Err e) well told (none, same, put) = way.Course.no_memory same put none

  -- what becomes of a change of files is what becomes of the call
  pub on_changed : (x : CheckAnswer) → Answers q.files texts units h.declared.program w x
      → ChangesSo a.holds b.holds a.write_faults b.write_faults a.put b.put a.faults b.faults q texts table units h.declared.program w x st → Course words a b st
  on_changed (answer.Refused line) (rule, broken, is) (same, ends) = refused words q.files texts names units a b st w h world line rule broken is same ends
  on_changed (answer.Passed report checked) (well, is) (v, told, ends) = on_verdict checked v well told ends

-- ---- an extraction

module _ (words : List (List ℕ)) (q : ExtractRequest) (texts names : List (List ℕ)) (units : List SourceUnit) (a b : Moment) (st : Status) (w : World)
    (h : HasDeclared words a.holds q.files texts names units) (world : h.declared.world ≡ w) (asks : AsksExtract words q) (table : List (List ℕ)) (words_are : table ≡ with_words names) where
  abbrev extract_checked : (c : CheckedProgram) → IsWellTyped h.declared.program w (program_plain c.core) c.operations → HasChecked words a.holds q.files texts names units
  extract_checked c well = checked_told words q.files texts names units a b st w h world c well

  extract_answered : (c : CheckedProgram) (x : Answer) → extractions.IsAnsweredBy q texts table units w (program_plain c.core) c.operations x
      → extractions.IsAnswered q texts names units h.declared.world (program_plain c.core) c.operations x
  extract_answered c x is =
      subst (λ (w : World). extractions.IsAnsweredBy q texts (with_words names) units w (program_plain c.core) c.operations x) (sym world)
      (subst (λ (ns : List (List ℕ)). extractions.IsAnsweredBy q texts ns units w (program_plain c.core) c.operations x) words_are is)

  -- what is said is put
  on_extract_answer : (c : CheckedProgram) (x : Answer) (v : Verdict) → IsWellTyped h.declared.program w (program_plain c.core) c.operations
      → extractions.IsAnsweredBy q texts table units w (program_plain c.core) c.operations x → IsExtractVerdict q texts units x v
      → EndsVerdict a.holds b.holds a.write_faults b.write_faults a.put b.put a.faults b.faults (Ok v) st → Course words a b st
  on_extract_answer c (extract.Against x) (verdict.Refused line) well is line_is (same, ends) =
      way.Course.refuses
      (refusal.Refusal.extract_against q texts names units x (record { asks = asks; checked = extract_checked c well; against = extract_answered c (extract.Against x) is })) same
      (subst (λ (l : List ℕ). EndsAt a b l s.Refused st) line_is ends)
  on_extract_answer c (extract.Against x) (verdict.Changed outputs report) well is none ends = absurd none
  on_extract_answer c (extract.Against x) (verdict.Listed report) well is none ends = absurd none
  on_extract_answer c (extract.Extracted made) (verdict.Refused line) well is none ends = absurd none
  on_extract_answer c (extract.Extracted made) (verdict.Listed report) well is none ends = absurd none
  on_extract_answer c (extract.Extracted made) (verdict.Changed outputs report) well is (are, told) ends =
      let drawn : IsExtraction words a.holds q made =
      record { texts = texts; names = names; units = units; asks = asks; checked = extract_checked c well; says = extract_answered c (extract.Extracted made) is } in
      written words a b st (extract_writing q texts units made) outputs report.items (answers.IsAsked.extraction q made drawn) are told ends

  on_extract_verdict : (c : CheckedProgram) (x : Result Verdict NoMemory) → IsWellTyped h.declared.program w (program_plain c.core) c.operations
      → IfOk x (DecidesExtract q texts table units w c) → EndsVerdict a.holds b.holds a.write_faults b.write_faults a.put b.put a.faults b.faults x st → Course words a b st
  on_extract_verdict c (Ok v) well (x, is, told) ends = on_extract_answer c x v well is told ends
  on_extract_verdict c (Err e) well told (none, same, put) = way.Course.no_memory same put none

  -- what becomes of an extraction from files is what becomes of the call
  pub on_extracted : (x : CheckAnswer) → Answers q.files texts units h.declared.program w x
      → ExtractsSo a.holds b.holds a.write_faults b.write_faults a.put b.put a.faults b.faults q texts table units w x st → Course words a b st
  on_extracted (answer.Refused line) (rule, broken, is) (same, ends) = refused words q.files texts names units a b st w h world line rule broken is same ends
  on_extracted (answer.Passed report checked) (well, is) (v, told, ends) = on_extract_verdict checked v well told ends

-- ---- a task

-- the user's files are among the files
pub users_within : (look : Option Look) (fs : Files) (texts : List (List ℕ)) (units : List SourceUnit) (names : List (List ℕ)) → AreHeld look 0 (inputs fs) texts
    → AreTrees built_in_names 0 0 texts units names → length fs.users ≤ length units
users_within look fs texts units names held trees =
    let many = trees_long built_in_names 0 0 texts units names trees in
    let files = held_long look 0 (inputs fs) texts held in
    let both = length-append {A = List ℕ} fs.users fs.libs in
    omega (arith, many, files, both)

pub uses_of : (words : List (List ℕ)) (t : Task) → AsksTask words t → Uses words (task_files t)
uses_of words (task.Place q) asks = inl (request_of q, asks, refl)
uses_of words (task.Extract q) asks = inr (inr (inr (extract_of q, asks, refl)))
uses_of words (task.Check i) asks = inr (inl asks)
uses_of words (task.Run r) asks = inr (inr (inl (r.steps, record { class = r.class.now; args = map string_bytes r.args.now; asks = asks })))

-- only a run takes steps
pub steps_of : (words : List (List ℕ)) (t : Task) (n : ℕ) → AsksTask words t → AsksSteps words (task_files t) n → n ≡ task_steps t
steps_of words (task.Place q) n asks run = absurd (change_or_run words (request_of q) n (task_files (task.Place q)) asks run)
steps_of words (task.Extract q) n asks run = absurd (run_or_extraction words n (task_files (task.Extract q)) (extract_of q) run asks)
steps_of words (task.Check i) n asks run = absurd (check_or_run words (files_of i) n (files_of i) asks run)
steps_of words (task.Run r) n asks run = one_steps words n r.steps (files_of r.inputs) (files_of r.inputs) run (record { class = r.class.now; args = map string_bytes r.args.now; asks = asks })

-- and where there are steps, it is a run
pub run_of : (words : List (List ℕ)) (t : Task) → AsksTask words t → 0 < task_steps t → AsksSteps words (task_files t) (task_steps t)
run_of words (task.Place q) asks some = absurd (omega (arith, some))
run_of words (task.Extract q) asks some = absurd (omega (arith, some))
run_of words (task.Check i) asks some = absurd (omega (arith, some))
run_of words (task.Run r) asks some = record { class = r.class.now; args = map string_bytes r.args.now; asks = asks }

-- the words ask for a check
pub asks_check : (words : List (List ℕ)) (r : words_of.Request) → asked_words.Asks words r → r.command ≡ command.Check
    → AsksCheck words (record { users = map string_bytes r.users.now; libs = map string_bytes r.libs.now })
asks_check words r asks is = record {
  rest = asks.rest;
  are = subst (λ (c : Command). words ≡ word_of c ∷ asks.rest) is asks.are;
  users = ap (λ (p : Parts). p.users) asks.parts_are;
  libs = ap (λ (p : Parts). p.libs) asks.parts_are;
  meets = λ n. subst (λ (c : Command). Meets c (parts_of asks.rest) n) is (subst (λ (p : Parts). Meets r.command p n) (sym asks.parts_are) (asks.meets n));
}

-- the words ask for a run
pub asks_run : (words : List (List ℕ)) (r : words_of.Request) (x : AskedRun) → asked_words.Asks words r → r.command ≡ command.Run → AreRunWords (map string_bytes r.own.now) x
    → files_of x.inputs ≡ record { users = map string_bytes r.users.now; libs = map string_bytes r.libs.now } → AsksRunOf words x
asks_run words r x asks is own files = record {
  rest = asks.rest;
  are = subst (λ (c : Command). words ≡ word_of c ∷ asks.rest) is asks.are;
  count = own.count;
  more = own.more;
  own = ap (λ (p : Parts). p.own) asks.parts_are ∙ own.are;
  at_steps = own.at_steps;
  are_args = own.args;
  users = ap (λ (p : Parts). p.users) asks.parts_are ∙ sym (ap (λ (f : Files). f.users) files);
  libs = ap (λ (p : Parts). p.libs) asks.parts_are ∙ sym (ap (λ (f : Files). f.libs) files);
  meets = λ n. subst (λ (c : Command). Meets c (parts_of asks.rest) n) is (subst (λ (p : Parts). Meets r.command p n) (sym asks.parts_are) (asks.meets n));
}

has_words : (own : List (List ℕ)) → 2 ≤ length own → ((i : ℕ) (w : List ℕ) → slice_get own i ≡ Some w → FitsNumber (role_of command.Run i) w) → HasRunWords own
has_words [] long numbers = absurd (omega (arith, long))
has_words (count ∷ []) long numbers = absurd (omega (arith, long))
has_words (count ∷ class ∷ more) long numbers = record { count = count; class = class; more = more; are = refl; number = numbers 0 count refl }

pub none_so : {A P Q : Type 0} (o : Option A) → (P → Q) → IfNone o P → IfNone o Q
none_so None so is = so is
none_so (Some x) so is = tt

-- the own words of a run by the rules 2 and 3
pub run_words : (r : words_of.Request) → r.command ≡ command.Run → HasShape r.command (asked_words.parts r) → HasNumbers r.command (asked_words.parts r) → HasRunWords (map string_bytes r.own.now)
run_words r is shape numbers =
    has_words (map string_bytes r.own.now) (subst (λ (c : Command). HasShape c (asked_words.parts r)) is shape).0.0 (subst (λ (c : Command). HasNumbers c (asked_words.parts r)) is numbers)

-- the words ask for another command
pub asks_other : (words : List (List ℕ)) (r : words_of.Request) → asked_words.Asks words r → r.command ≢ command.Generalize → r.command ≢ command.Allowed → r.command ≢ command.Check → r.command ≢ command.Run
    → r.command ≢ command.ExtractInterface → AskOther words
asks_other words r asks no_change no_types no_check no_run no_extraction = record {
  command = r.command;
  rest = asks.rest;
  are = asks.are;
  no_change = no_change;
  no_types = no_types;
  no_check = no_check;
  no_run = no_run;
  no_extraction = no_extraction;
  meets = λ n. subst (λ (p : Parts). Meets r.command p n) (sym asks.parts_are) (asks.meets n);
}

-- ---- what stops a call

-- a report that was made, of which this is so, is put, or there was no memory for it
pub made_so : (m : Result (String Global) NoMemory) (before after : Option (List ℕ)) (f f' : ℕ) (wanted st : Status) (P : List ℕ → Type 0) → IfOk m (λ r. P (string_bytes r))
    → IfOk m (λ r. Ends before after f f' (string_bytes r) wanted st) → OnErr m ((st ≡ s.NoMemory) × (after ≡ before))
    → ((line : List ℕ) × P line × Ends before after f f' line wanted st) ⊎ ((st ≡ s.NoMemory) × (after ≡ before))
made_so (Ok r) before after f f' wanted st P is ends none = inl (string_bytes r, is, ends)
made_so (Err e) before after f f' wanted st P is ends none = inr none

pub named_at : {X : Type 0} (f : X → List ℕ) (xs : List X) (k : ℕ) (x : X) → k < length xs → x ≡ get_or xs k x → slice_get (map f xs) k ≡ Some (f x)
named_at f [] k x lt e = absurd (omega (arith, lt))
named_at f (y ∷ ys) zero x lt e = ap (λ z. Some (f z)) (sym e)
named_at f (y ∷ ys) (suc k) x lt e = named_at f ys k x (omega (arith, lt)) e

stops_low : (look : Option Look) (before : ℕ) (names : List (List ℕ)) (k : ℕ) (why : Stop) → StopsAt look before names k why → k < length names
stops_low look before [] k why h = absurd h
stops_low look before (n ∷ ns) zero why h = omega arith
stops_low look before (n ∷ ns) (suc k) why (text, holds, room, more) = let le = stops_low look (before + length text) ns k why more in omega arith

pub stop_named : (look : Option Look) (names : List (List ℕ)) (stop : ReadStop) → files.HasRead look names (Err stop) → IsNamed (length names) stop
stop_named look names (read.Missing k) h = stops_low look 0 names k Missing h
stop_named look names (read.Failed k) h = stops_low look 0 names k Failed h
stop_named look names read.TooLarge h = tt
stop_named look names read.TooMuch h = tt
stop_named look names read.NoMemory h = tt

pub broken : (words : List (List ℕ)) (look : Option Look) (fs : Files) (texts : List (List ℕ)) (stop : TreeStop) (line : List ℕ) → refusal.HasRead words look fs texts
    → files.HasParsed texts (Err stop) → TellsStop fs texts stop line → Refusal words look line
broken words look fs texts (tree.Lexical rule file at) line r h t = refusal.Refusal.broken fs texts file (Lexical rule at) r h t
broken words look fs texts tree.Tokens line r h t = refusal.Refusal.broken fs texts h.0 Tokens r h.1 t
broken words look fs texts (tree.LeftOut rule file at) line r h t = refusal.Refusal.broken fs texts file (LeftOut rule at) r h t
broken words look fs texts (tree.NoTree file at) line r h t = refusal.Refusal.broken fs texts file (NoTree at) r h t
broken words look fs texts tree.NoMemory line r h t = absurd t

pub stopped : (words : List (List ℕ)) (fs : Files) (a b : Moment) (st : Status) (stop : ReadStop) → AsksFew words fs → files.HasRead a.holds (inputs fs) (Err stop)
    → (files.IsMissing (Err stop) → Rose a.misses b.misses) → (files.IsFailed (Err stop) → Rose a.read_faults b.read_faults) → b.holds ≡ a.holds
    → Stops (inputs fs) stop a.put b.put a.faults b.faults st → Course words a b st
stopped words fs a b st (read.Missing k) asks h missed failed same (name, named, ends) = elim ends [
  | inl e ↦ way.Course.absent k name asks named h (missed tt) same e
  | inr none ↦ way.Course.no_memory same none.1 none.0
]
stopped words fs a b st (read.Failed k) asks h missed failed same (name, named, ends) = elim ends [
  | inl e ↦ way.Course.unread k name asks named h (failed tt) same e
  | inr none ↦ way.Course.no_memory same none.1 none.0
]
stopped words fs a b st read.TooLarge asks h missed failed same ends = way.Course.refuses (refusal.Refusal.l2 fs h.0 asks h.1) same ends
stopped words fs a b st read.TooMuch asks h missed failed same ends = way.Course.refuses (refusal.Refusal.l3 fs h.0 asks h.1) same ends
stopped words fs a b st read.NoMemory asks h missed failed same none = way.Course.no_memory same none.1 none.0

-- ---- a call that begins earlier

ends_from : (a m b : Moment) (line : List ℕ) (wanted st : Status) → m.put ≡ a.put → m.faults ≡ a.faults → EndsAt m b line wanted st → EndsAt a b line wanted st
ends_from a m b line wanted st put faults ends =
    subst (λ (p : Option (List ℕ)). Ends p b.put a.faults b.faults line wanted st) put (subst (λ (f : ℕ). Ends m.put b.put f b.faults line wanted st) faults ends)

-- what was read changed nothing
pub record IsAfter (a m : Moment) : Type 0 where
  pub holds : m.holds ≡ a.holds
  pub misses : a.misses ≤ m.misses
  pub read_faults : a.read_faults ≤ m.read_faults
  pub write_faults : a.write_faults ≤ m.write_faults
  pub put : m.put ≡ a.put
  pub faults : m.faults ≡ a.faults

module _ (words : List (List ℕ)) (a m b : Moment) (st : Status) (after : IsAfter a m) where
  pub from_before : Course words m b st → Course words a b st
  from_before (way.Course.usages low same ends) = way.Course.usages low (same ∙ after.holds) (ends_from a m b _ _ st after.put after.faults ends)
  from_before (way.Course.absent {fs = fs} k name asks named absent rose same ends) =
      way.Course.absent k name asks named (subst (λ (look : Option Look). files.HasRead look (inputs fs) (Err (read.Missing k))) after.holds absent)
      (rose_later a.misses m.misses b.misses after.misses rose) (same ∙ after.holds) (ends_from a m b _ _ st after.put after.faults ends)
  from_before (way.Course.unread {fs = fs} k name asks named unread rose same ends) =
      way.Course.unread k name asks named (subst (λ (look : Option Look). files.HasRead look (inputs fs) (Err (read.Failed k))) after.holds unread)
      (rose_later a.read_faults m.read_faults b.read_faults after.read_faults rose) (same ∙ after.holds) (ends_from a m b _ _ st after.put after.faults ends)
  from_before (way.Course.refuses {line = line} r same ends) =
      way.Course.refuses (subst (λ (look : Option Look). Refusal words look line) after.holds r) (same ∙ after.holds) (ends_from a m b line s.Refused st after.put after.faults ends)
  from_before (way.Course.checks {line = line} p same ends) =
      way.Course.checks (subst (λ (look : Option Look). Passes words look line) after.holds p) (same ∙ after.holds) (ends_from a m b line s.Done st after.put after.faults ends)
  from_before (way.Course.runs {line = line} how p same ends) =
      way.Course.runs how (subst (λ (look : Option Look). Runs words look line how) after.holds p) (same ∙ after.holds) (ends_from a m b line (run_status how) st after.put after.faults ends)
  from_before (way.Course.lists {q = q} {types = types} p same ends) =
      way.Course.lists (subst (λ (look : Option Look). AreTypes words look q types) after.holds p) (same ∙ after.holds)
      (ends_from a m b (types_report types) s.Done st after.put after.faults ends)
  from_before (way.Course.writes {x = x} asked told ends) =
      way.Course.writes (subst (λ (look : Option Look). IsAsked words look x) after.holds asked) (subst (λ (h : Option Look). Writes x.names x.texts h b.holds) after.holds told)
      (ends_from a m b x.report s.Done st after.put after.faults ends)
  from_before (way.Course.fails {x = x} name asked told rose ends) =
      way.Course.fails name (subst (λ (look : Option Look). IsAsked words look x) after.holds asked)
      (subst (λ (h : Option Look). FailsAt x.names x.texts name h b.holds) after.holds told)
      (rose_later a.write_faults m.write_faults b.write_faults after.write_faults rose) (ends_from a m b (write_fault name) s.WriteFault st after.put after.faults ends)
  from_before (way.Course.no_memory same put is) = way.Course.no_memory (same ∙ after.holds) (put ∙ after.put) is

-- a report that was made is put, or there was no memory for it
pub made : (m : Result (String Global) NoMemory) (before after : Option (List ℕ)) (f f' : ℕ) (line : List ℕ) (wanted st : Status) → IfOk m (λ r. string_bytes r ≡ line)
    → IfOk m (λ r. Ends before after f f' (string_bytes r) wanted st) → OnErr m ((st ≡ s.NoMemory) × (after ≡ before)) → (Ends before after f f' line wanted st) ⊎ ((st ≡ s.NoMemory) × (after ≡ before))
made (Ok r) before after f f' line wanted st is ends none = inl (subst (λ (x : List ℕ). Ends before after f f' x wanted st) is ends)
made (Err e) before after f f' line wanted st is ends none = inr none
