use Rattle.std.proofs.Common.{rules, ◌≡◌, ◌≤◌, map, length, sym, ap, ◌∙◌, subst, arith}
use Rattle.java_tree.specs.View.{unit_plain}
use Rattle.type_names.specs.Known.{files_of}
use Rattle.type_headers.specs.Declared.{headers}
use Rattle.decl_table.specs.Bases.{AreBases}
use Rattle.decl_table.specs.Program.{Program, ScopeSet, type_count, method_count}
use Rattle.decl_table.specs.Judged.{IsEarly}
use Rattle.decl_table.proofs.Bases.{built_in_bases}
use Rattle.decl_table.proofs.Judging.{count_types, early_none, refused_early, declared_judged}
use Rattle.decl_table.proofs.program.judge.Goals as goal

pub returns-in-Some : goal.returns-in-Some
returns-in-Some c =
    let p : Program = record { words = c.args.words.now; user = map unit_plain c.args.user.now; lib = map unit_plain c.args.lib.now } in
    let fs = files_of p.user p.lib in
    let bases = subst AreBases (sym c.in_ok-built.ensures.types) (built_in_bases c.args.words.now) in
    let is : c.as_slice-types.result.now ≡ headers c.in_ok-built.built.types fs = search rules in
    let early = subst (IsEarly (ScopeSet c.args.names.now c.java_names-java.result p.user p.lib c.as_slice-types.result.now) (type_count p) (method_count p)) c.in-Some.is
    (c.in_ok-broken.ensures c.in_ok-built.built.types bases c.in_ok-meant.ensures is) in
    refused_early c.args.names.now p c.java_names-java.result c.in_ok-built.built.types c.as_slice-types.result.now c.in-Some.broken c.java_names-java.ensures c.in_ok-built.ensures.types is early

pub judge_declarations-requires-clause-bases : goal.judge_declarations-requires-clause-bases
judge_declarations-requires-clause-bases c = subst AreBases (sym c.in_ok-built-2.ensures.types) (built_in_bases c.args.words.now)

pub judge_declarations-requires-clause-few : goal.judge_declarations-requires-clause-few
judge_declarations-requires-clause-few c =
    let p : Program = record { words = c.args.words.now; user = map unit_plain c.args.user.now; lib = map unit_plain c.args.lib.now } in
    let fs = files_of p.user p.lib in
    let bases = subst AreBases (sym c.in_ok-built.ensures.types) (built_in_bases c.args.words.now) in
    let is : c.as_slice-types.result.now ≡ headers c.in_ok-built.built.types fs = search rules in
    let early = early_none (ScopeSet c.args.names.now c.java_names-java.result p.user p.lib c.as_slice-types.result.now) (type_count p) (method_count p) c.in_ok-broken.field-0 c.in_default.not-Some
    (c.in_ok-broken.ensures c.in_ok-built.built.types bases c.in_ok-meant.ensures is) in
    let low : length c.as_slice-types.result.now ≤ 4115 = subst (λ ts. length ts ≤ 4115) (sym is) (count_types c.in_ok-built.built.types p.user p.lib bases.count early.1) in
    omega (arith, low)

pub returns : goal.returns
returns c =
    let p : Program = record { words = c.args.words.now; user = map unit_plain c.args.user.now; lib = map unit_plain c.args.lib.now } in
    let fs = files_of p.user p.lib in
    let bases = subst AreBases (sym c.in_ok-built.ensures.types) (built_in_bases c.args.words.now) in
    let is : c.as_slice-types.result.now ≡ headers c.in_ok-built.built.types fs = search rules in
    let again : c.as_slice-types.result.now ≡ headers c.in_ok-built-2.built.types fs =
    is ∙ ap (λ bs. headers bs fs) (c.in_ok-built.ensures.types ∙ sym c.in_ok-built-2.ensures.types) in
    let early = early_none (ScopeSet c.args.names.now c.java_names-java.result p.user p.lib c.as_slice-types.result.now) (type_count p) (method_count p) c.in_ok-broken.field-0 c.in_default.not-Some
    (c.in_ok-broken.ensures c.in_ok-built.built.types bases c.in_ok-meant.ensures is) in
    declared_judged c.args.names.now p c.java_names-java.result c.in_ok-built-2.built c.as_slice-types.result.now c.judge_declarations.result c.java_names-java.ensures
    c.in_ok-built-2.ensures.types c.in_ok-built-2.ensures.methods c.in_ok-built-2.ensures.fields again early c.judge_declarations.ensures
