use Rattle.std.proofs.Common.{◌≡◌, List, length, map, take, refl, sym, ◌∙◌, ap, subst, arith}
use Rattle.std.specs.String.{string_bytes}
use Rattle.java_tree.specs.View.{unit_plain}
use Rattle.java_tree.specs.declared.tree.SourceUnit.{SourceUnit}
use Rattle.source_files.specs.Held.{AreHeld}
use Rattle.checked_files.specs.Judged.{AreDeclaredAs}
use Rattle.refactor_app.specs.Asked.{extract_of, request_of, task_files}
use Rattle.checked_files.proofs.Tables.{trees_long}
use Rattle.refactor_app.specs.Words.{Files, inputs}
use Rattle.refactor_app.specs.Checked.{Answers}
use Rattle.refactor_app.specs.Course.{Moment}
use Rattle.refactor_app.specs.Refusals.{AsksFew, HasDeclared}
use Rattle.refactor_app.specs.Written.{ChangesSo, ExtractsSo}
use Rattle.refactor_app.proofs.Checking.{check_asked, of_files, user_count}
use Rattle.checked_files.proofs.Held.{held_small}
use Rattle.refactor_app.proofs.Courses.{map_length, users_within, on_check, on_changed, on_extracted, on_run}
use Rattle.refactor_app.proofs.call.on_declared.Goals as goal

pub check-requires-clause-small : goal.check-requires-clause-small
check-requires-clause-small g c = held_small _ 0 _ c.args.texts.now c.requires.held

pub check-requires-clause-users : goal.check-requires-clause-users
check-requires-clause-users g c =
    let within = users_within _ (task_files c.args.task.now) c.args.texts.now (map unit_plain c.args.units) (take c.args.count c.args.table.now) c.requires.held c.requires.trees in
    let many = map_length unit_plain c.args.units in
    let users = user_count c.args.task.now c.inputs.result c.inputs.ensures in
    let slice = ap length c.as_slice.ensures in
    omega (arith, within, many, users, slice)

pub check-requires-clause-program : goal.check-requires-clause-program
check-requires-clause-program g c =
    let d = c.requires.declared in
    let names = take c.args.count c.args.table.now in
    let users = user_count c.args.task.now c.inputs.result c.inputs.ensures in
    (d.declared.program, of_files _ _ names c.args.table.now c.args.units c.as_slice.result.now d.declared.program users c.requires.words c.as_slice.ensures d.declared.files)

pub on_place-requires-clause-small : goal.on_place-requires-clause-small
on_place-requires-clause-small g c = held_small _ 0 _ c.args.texts.now c.requires.held

pub on_place-requires-clause-names : goal.on_place-requires-clause-names
on_place-requires-clause-names g c = c.requires.names ∙ ap (λ t. inputs (task_files t)) c.in-Place.is

pub on_place-requires-clause-units : goal.on_place-requires-clause-units
on_place-requires-clause-units g c =
    ap length c.as_slice-in-Place.ensures ∙ sym (map_length unit_plain c.args.units)
    ∙ trees_long _ 0 0 c.args.texts.now (map unit_plain c.args.units) (take c.args.count c.args.table.now) c.requires.trees

pub on_place-requires-clause-users : goal.on_place-requires-clause-users
on_place-requires-clause-users g c =
    let within = users_within _ (task_files c.args.task.now) c.args.texts.now (map unit_plain c.args.units) (take c.args.count c.args.table.now) c.requires.held c.requires.trees in
    let many = map_length unit_plain c.args.units in
    let users = ap (λ t. length (task_files t).users) c.in-Place.is ∙ map_length string_bytes c.in-Place.q.inputs.users.now in
    let slice = ap length c.as_slice-in-Place.ensures in
    omega (arith, within, many, users, slice)

pub on_place-requires-clause-program : goal.on_place-requires-clause-program
on_place-requires-clause-program g c =
    let d = c.requires.declared in
    let names = take c.args.count c.args.table.now in
    let users = ap (λ t. length (task_files t).users) c.in-Place.is ∙ map_length string_bytes c.in-Place.q.inputs.users.now in
    (d.declared.program, of_files _ _ names c.args.table.now c.args.units c.as_slice-in-Place.result.now d.declared.program users c.requires.words c.as_slice-in-Place.ensures d.declared.files)

pub returns-in-Place : goal.returns-in-Place
returns-in-Place g c words asks few =
    let names = take c.args.count c.args.table.now in
    let q = request_of c.in-Place.q in
    let same : task_files c.args.task.now ≡ q.files = ap task_files c.in-Place.is in
    let d = subst (λ (fs : Files). AreDeclaredAs (length fs.users) names (map unit_plain c.args.units) c.args.declared.now) same c.requires.declared in
    let h : HasDeclared words (g.F.Files.holds c.args.files.now) q.files c.args.texts.now names (map unit_plain c.args.units) = record {
      parsed = record {
        read = record { asks = subst (λ (fs : Files). AsksFew words fs) same few; held = subst (λ (fs : Files). AreHeld (g.F.Files.holds c.args.files.now) 0 (inputs fs) c.args.texts.now) same c.requires.held };
        trees = c.requires.trees;
      };
      declared = d.declared;
    } in
    let many : length q.files.users ≡ length c.in-Place.q.inputs.users.now = map_length string_bytes c.in-Place.q.inputs.users.now in
    let users = ap (λ (fs : Files). length fs.users) (sym same) ∙ user_count c.args.task.now c.inputs.result c.inputs.ensures in
    let told = subst (λ (us : List SourceUnit). Answers q.files c.args.texts.now (map unit_plain us) d.declared.program c.args.declared.now.world c.in-Ok.checked) c.as_slice.ensures
    (c.in-Ok.ensures d.declared.program q.files (of_files _ _ names c.args.table.now c.args.units c.as_slice.result.now d.declared.program users c.requires.words c.as_slice.ensures d.declared.files)
    (sym (c.requires.names ∙ ap inputs same))) in
    let a : Moment = record {
      holds = g.F.Files.holds c.args.files.now;
      misses = g.F.Files.misses c.args.files.now;
      read_faults = g.F.Files.read_faults c.args.files.now;
      write_faults = g.F.Files.write_faults c.args.files.now;
      put = g.K.Sink.written c.args.out.now;
      faults = g.K.Sink.faults c.args.out.now;
    } in
    let b : Moment = record {
      holds = g.F.Files.holds c.on_place.new.files;
      misses = g.F.Files.misses c.on_place.new.files;
      read_faults = g.F.Files.read_faults c.on_place.new.files;
      write_faults = g.F.Files.write_faults c.on_place.new.files;
      put = g.K.Sink.written c.on_place.new.out;
      faults = g.K.Sink.faults c.on_place.new.out;
    } in
    let changes = subst (λ (us : List SourceUnit). ChangesSo a.holds b.holds a.write_faults b.write_faults a.put b.put a.faults b.faults q c.args.texts.now c.args.table.now (map unit_plain us)
    d.declared.program c.args.declared.now.world c.in-Ok.checked c.on_place.result) c.as_slice-in-Place.ensures
    (c.on_place.ensures d.declared.program (of_files _ _ names c.args.table.now c.args.units c.as_slice-in-Place.result.now d.declared.program many c.requires.words c.as_slice-in-Place.ensures d.declared.files)) in
    on_changed words q c.args.texts.now names (map unit_plain c.args.units) a b c.on_place.result c.args.declared.now.world h d.world (rw c.in-Place.is at asks) c.args.table.now c.requires.words
    c.in-Ok.checked told changes

pub on_extract-requires-clause-small : goal.on_extract-requires-clause-small
on_extract-requires-clause-small g c = held_small _ 0 _ c.args.texts.now c.requires.held

pub on_extract-requires-clause-names : goal.on_extract-requires-clause-names
on_extract-requires-clause-names g c = c.requires.names ∙ ap (λ t. inputs (task_files t)) c.in-Extract.is

pub on_extract-requires-clause-units : goal.on_extract-requires-clause-units
on_extract-requires-clause-units g c =
    ap length c.as_slice-in-Extract.ensures ∙ sym (map_length unit_plain c.args.units)
    ∙ trees_long _ 0 0 c.args.texts.now (map unit_plain c.args.units) (take c.args.count c.args.table.now) c.requires.trees

pub on_extract-requires-clause-users : goal.on_extract-requires-clause-users
on_extract-requires-clause-users g c =
    let within = users_within _ (task_files c.args.task.now) c.args.texts.now (map unit_plain c.args.units) (take c.args.count c.args.table.now) c.requires.held c.requires.trees in
    let many = map_length unit_plain c.args.units in
    let users = ap (λ t. length (task_files t).users) c.in-Extract.is ∙ map_length string_bytes c.in-Extract.q.inputs.users.now in
    let slice = ap length c.as_slice-in-Extract.ensures in
    omega (arith, within, many, users, slice)

pub on_extract-requires-clause-program : goal.on_extract-requires-clause-program
on_extract-requires-clause-program g c =
    let d = c.requires.declared in
    let names = take c.args.count c.args.table.now in
    let users = ap (λ t. length (task_files t).users) c.in-Extract.is ∙ map_length string_bytes c.in-Extract.q.inputs.users.now in
    (d.declared.program, of_files _ _ names c.args.table.now c.args.units c.as_slice-in-Extract.result.now d.declared.program users c.requires.words c.as_slice-in-Extract.ensures d.declared.files)

pub returns-in-Extract : goal.returns-in-Extract
returns-in-Extract g c words asks few =
    let names = take c.args.count c.args.table.now in
    let q = extract_of c.in-Extract.q in
    let same : task_files c.args.task.now ≡ q.files = ap task_files c.in-Extract.is in
    let d = subst (λ (fs : Files). AreDeclaredAs (length fs.users) names (map unit_plain c.args.units) c.args.declared.now) same c.requires.declared in
    let h : HasDeclared words (g.F.Files.holds c.args.files.now) q.files c.args.texts.now names (map unit_plain c.args.units) = record {
      parsed = record {
        read = record { asks = subst (λ (fs : Files). AsksFew words fs) same few; held = subst (λ (fs : Files). AreHeld (g.F.Files.holds c.args.files.now) 0 (inputs fs) c.args.texts.now) same c.requires.held };
        trees = c.requires.trees;
      };
      declared = d.declared;
    } in
    let users = ap (λ (fs : Files). length fs.users) (sym same) ∙ user_count c.args.task.now c.inputs.result c.inputs.ensures in
    let told = subst (λ (us : List SourceUnit). Answers q.files c.args.texts.now (map unit_plain us) d.declared.program c.args.declared.now.world c.in-Ok.checked) c.as_slice.ensures
    (c.in-Ok.ensures d.declared.program q.files (of_files _ _ names c.args.table.now c.args.units c.as_slice.result.now d.declared.program users c.requires.words c.as_slice.ensures d.declared.files)
    (sym (c.requires.names ∙ ap inputs same))) in
    let a : Moment = record {
      holds = g.F.Files.holds c.args.files.now;
      misses = g.F.Files.misses c.args.files.now;
      read_faults = g.F.Files.read_faults c.args.files.now;
      write_faults = g.F.Files.write_faults c.args.files.now;
      put = g.K.Sink.written c.args.out.now;
      faults = g.K.Sink.faults c.args.out.now;
    } in
    let b : Moment = record {
      holds = g.F.Files.holds c.on_extract.new.files;
      misses = g.F.Files.misses c.on_extract.new.files;
      read_faults = g.F.Files.read_faults c.on_extract.new.files;
      write_faults = g.F.Files.write_faults c.on_extract.new.files;
      put = g.K.Sink.written c.on_extract.new.out;
      faults = g.K.Sink.faults c.on_extract.new.out;
    } in
    let changes = subst (λ (us : List SourceUnit). ExtractsSo a.holds b.holds a.write_faults b.write_faults a.put b.put a.faults b.faults q c.args.texts.now c.args.table.now (map unit_plain us)
    c.args.declared.now.world c.in-Ok.checked c.on_extract.result) c.as_slice-in-Extract.ensures
    c.on_extract.ensures in
    on_extracted words q c.args.texts.now names (map unit_plain c.args.units) a b c.on_extract.result c.args.declared.now.world h d.world (rw c.in-Extract.is at asks) c.args.table.now c.requires.words
    c.in-Ok.checked told changes

pub returns-in-Check : goal.returns-in-Check
returns-in-Check g c words asks few =
    let fs = task_files c.args.task.now in
    let d = c.requires.declared in
    let names = take c.args.count c.args.table.now in
    let users = user_count c.args.task.now c.inputs.result c.inputs.ensures in
    let told = subst (λ (us : List SourceUnit). Answers fs c.args.texts.now (map unit_plain us) d.declared.program c.args.declared.now.world c.in-Ok.checked) c.as_slice.ensures
    (c.in-Ok.ensures d.declared.program fs (of_files _ _ names c.args.table.now c.args.units c.as_slice.result.now d.declared.program users c.requires.words c.as_slice.ensures d.declared.files)
    (sym c.requires.names)) in
    let a : Moment = record {
      holds = g.F.Files.holds c.args.files.now;
      misses = g.F.Files.misses c.args.files.now;
      read_faults = g.F.Files.read_faults c.args.files.now;
      write_faults = g.F.Files.write_faults c.args.files.now;
      put = g.K.Sink.written c.args.out.now;
      faults = g.K.Sink.faults c.args.out.now;
    } in
    let b : Moment = record {
      holds = g.F.Files.holds c.args.files.now;
      misses = g.F.Files.misses c.args.files.now;
      read_faults = g.F.Files.read_faults c.args.files.now;
      write_faults = g.F.Files.write_faults c.args.files.now;
      put = g.K.Sink.written c.put_checked.new.out;
      faults = g.K.Sink.faults c.put_checked.new.out;
    } in
    on_check words fs c.args.texts.now names (map unit_plain c.args.units) a b c.put_checked.result c.args.declared.now.world
    (record { parsed = record { read = record { asks = few; held = c.requires.held }; trees = c.requires.trees }; declared = d.declared }) d.world c.in-Ok.checked
    (check_asked c.args.task.now _ c.in-Check.is words asks) told refl c.put_checked.ensures

pub returns : goal.returns
returns g c words asks few =
    let fs = task_files c.args.task.now in
    let d = c.requires.declared in
    let names = take c.args.count c.args.table.now in
    let users = user_count c.args.task.now c.inputs.result c.inputs.ensures in
    let told = subst (λ (us : List SourceUnit). Answers fs c.args.texts.now (map unit_plain us) d.declared.program c.args.declared.now.world c.in-Ok.checked) c.as_slice.ensures
    (c.in-Ok.ensures d.declared.program fs (of_files _ _ names c.args.table.now c.args.units c.as_slice.result.now d.declared.program users c.requires.words c.as_slice.ensures d.declared.files)
    (sym c.requires.names)) in
    let a : Moment = record {
      holds = g.F.Files.holds c.args.files.now;
      misses = g.F.Files.misses c.args.files.now;
      read_faults = g.F.Files.read_faults c.args.files.now;
      write_faults = g.F.Files.write_faults c.args.files.now;
      put = g.K.Sink.written c.args.out.now;
      faults = g.K.Sink.faults c.args.out.now;
    } in
    let b : Moment = record {
      holds = g.F.Files.holds c.args.files.now;
      misses = g.F.Files.misses c.args.files.now;
      read_faults = g.F.Files.read_faults c.args.files.now;
      write_faults = g.F.Files.write_faults c.args.files.now;
      put = g.K.Sink.written c.on_run.new.out;
      faults = g.K.Sink.faults c.on_run.new.out;
    } in
    let files = ap task_files (sym c.in-Run.is) in
    on_run words fs c.args.texts.now names (map unit_plain c.args.units) a b c.on_run.result c.args.declared.now.world
    (record { parsed = record { read = record { asks = few; held = c.requires.held }; trees = c.requires.trees }; declared = d.declared }) d.world c.in-Run.q (rw c.in-Run.is at asks) files
    c.args.table.now c.requires.words c.in-Ok.checked told refl c.on_run.ensures
