use Rattle.std.proofs.Common.{◌↔◌, ◌∙◌, IsTrue, subst}
use Rattle.std.proofs.lemmas.List.{append-nil}
use Rattle.java_tree.specs.Names.{AreDistinct}
use Rattle.command_words.specs.Table.{role_of}
use Rattle.command_words.specs.Rules.{FitsFile}
use Rattle.command_words.specs.Scan.{AllFrom}
use Rattle.command_words.specs.Asked.{parts_in}
use Rattle.command_words.proofs.RuleLemmas.{places_are, places_not, fails, holds}
use Rattle.command_words.proofs.rules.names_places.Goals as goal

pub returns-then-not-has_user_file : goal.returns-then-not-has_user_file
returns-then-not-has_user_file c =
    places_not c.args.command (parts_in c.args.words.now)
    (fails c.has_user_file.result (AllFrom (λ i w. FitsFile (parts_in c.args.words.now).users (role_of c.args.command i) w) 0 (parts_in c.args.words.now).own) c.if-not-has_user_file.true c.has_user_file.ensures)

pub returns : goal.returns
returns c =
    places_are c.args.command (parts_in c.args.words.now) c.in_ok-distinct.distinct
    (holds c.has_user_file.result (AllFrom (λ i w. FitsFile (parts_in c.args.words.now).users (role_of c.args.command i) w) 0 (parts_in c.args.words.now).own) c.if-not-has_user_file.false c.has_user_file.ensures)
    (subst (λ xs. IsTrue c.in_ok-distinct.distinct ↔ AreDistinct xs) (append-nil _ ∙ c.members.ensures) c.in_ok-distinct.ensures)
