-- The body of a method, by its statements.
use Rattle.std.proofs.Common.{◌≡◌, ℕ, Bool, List, map, Option, Some, None, sym, ap, ◌∙◌}
use Rattle.std.specs.Option.{option_map}
use Rattle.java_tree.specs.declared.tree.Node.{Node}
use Rattle.java_tree.specs.declared.tree.Stmt.{Stmt}
use Rattle.java_tree.specs.declared.tree.StmtForm.TheVariants as w
use Rattle.java_tree.specs.Plain as t
use Rattle.java_tree.specs.View.{stmt_plain, stmts_plain}
use Rattle.java_tree.proofs.Views.{plain_block}
use Rattle.java_core.specs.declared.stmt.CoreStmt.{CoreStmt}
use Rattle.java_core.specs.Plain as p
use Rattle.java_core.specs.View as view
use Rattle.checked.specs.Checked.{Checked, Fine, Broken, and_then}
use Rattle.type_facts.specs.Facts.{Facts}
use Rattle.type_facts.specs.declared.scope.LocalVar.{LocalVar}
use Rattle.type_facts.specs.declared.scope.Place.{Place}
use Rattle.check_stmt.specs.Statements.{block, typed_stmts}
use Rattle.check_program.specs.Classes as spec

abbrev pub statements : Facts → Place → Bool → List LocalVar → List Stmt → Checked (List p.Stmt)
statements f g first ls ss = typed_stmts f g spec.no_jumps first ls (stmts_plain ss)

abbrev around : Facts → Place → Node → Checked (List p.Stmt) → Checked (Option p.Stmt)
around f g n ss = and_then (block f g n ss) (λ x. Fine (Some x))

body_block : (f : Facts) (g : Place) (first : Bool) (ls ls' : List LocalVar) (b : Option Stmt) (s : Stmt) (ss : List Stmt) → b ≡ Some s → s.form ≡ w.Block ss → ls' ≡ ls
    → spec.body_of f g first ls (option_map stmt_plain b) ≡ and_then (block f g s.node (typed_stmts f g spec.no_jumps first ls' (stmts_plain ss))) (λ x. Fine (Some x))
body_block f g first ls ls' b s ss is form same =
    ap (λ b. spec.body_of f g first ls (option_map stmt_plain b)) is
    ∙ ap (spec.body_stmt f g first ls) (plain_block s ss form)
    ∙ sym (ap (λ ls. around f g s.node (statements f g first ls ss)) same)

pub body_fine : (f : Facts) (g : Place) (first : Bool) (ls ls' : List LocalVar) (b : Option Stmt) (s : Stmt) (ss : List Stmt) (body : List CoreStmt) (r : CoreStmt)
    → b ≡ Some s → s.form ≡ w.Block ss → ls' ≡ ls → typed_stmts f g spec.no_jumps first ls' (stmts_plain ss) ≡ Fine (map view.stmt_plain body)
    → view.stmt_plain r ≡ p.Block s.node (view.stmt_row (map view.stmt_plain body)) → spec.body_of f g first ls (option_map stmt_plain b) ≡ Fine (Some (view.stmt_plain r))
body_fine f g first ls ls' b s ss body r is form same fine made =
    body_block f g first ls ls' b s ss is form same ∙ ap (around f g s.node) fine ∙ ap (λ x. Fine (Some x)) (sym made)

pub body_broken : (f : Facts) (g : Place) (first : Bool) (ls ls' : List LocalVar) (b : Option Stmt) (s : Stmt) (ss : List Stmt) (n r : ℕ)
    → b ≡ Some s → s.form ≡ w.Block ss → ls' ≡ ls → typed_stmts f g spec.no_jumps first ls' (stmts_plain ss) ≡ Broken n r → spec.body_of f g first ls (option_map stmt_plain b) ≡ Broken n r
body_broken f g first ls ls' b s ss n r is form same broken = body_block f g first ls ls' b s ss is form same ∙ ap (around f g s.node) broken
