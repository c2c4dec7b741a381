use Rattle.command_words.specs.Asked.{parts_in}
use Rattle.command_words.specs.Table.{role_of}
use Rattle.command_words.specs.Rules.{HasShape, FitsNumber, HasUsers, HasPaths, KeepsInputs, FitsIdentifier, NamesPlaces}
use Rattle.command_words.specs.Scan.{AllFrom}
use Rattle.command_words.proofs.Lists.{each_is}
use Rattle.command_words.proofs.RuleLemmas.{fails, holds, breaks_shape, breaks_numbers, breaks_users, breaks_paths, breaks_inputs, breaks_identifiers, breaks_places, breaks_none}
use Rattle.command_words.proofs.rules.lowest_broken.Goals as goal

pub returns-then-not-has_shape : goal.returns-then-not-has_shape
returns-then-not-has_shape c =
    breaks_shape c.args.command (parts_in c.args.words.now)
    (fails c.has_shape.result (HasShape c.args.command (parts_in c.args.words.now)) c.if-not-has_shape.true c.has_shape.ensures)

pub returns-then-not-has_numbers : goal.returns-then-not-has_numbers
returns-then-not-has_numbers c =
    breaks_numbers c.args.command (parts_in c.args.words.now)
    (holds c.has_shape.result (HasShape c.args.command (parts_in c.args.words.now)) c.if-not-has_shape.false c.has_shape.ensures)
    (λ h. fails c.has_numbers.result (AllFrom (λ i w. FitsNumber (role_of c.args.command i) w) 0 (parts_in c.args.words.now).own) c.if-not-has_numbers.true c.has_numbers.ensures ((each_is (λ i w. FitsNumber (role_of c.args.command i) w) (parts_in c.args.words.now).own).1 h))

pub returns-then-not-has_users : goal.returns-then-not-has_users
returns-then-not-has_users c =
    breaks_users c.args.command (parts_in c.args.words.now)
    (holds c.has_shape.result (HasShape c.args.command (parts_in c.args.words.now)) c.if-not-has_shape.false c.has_shape.ensures)
    ((each_is (λ i w. FitsNumber (role_of c.args.command i) w) (parts_in c.args.words.now).own).0 (holds c.has_numbers.result (AllFrom (λ i w. FitsNumber (role_of c.args.command i) w) 0 (parts_in c.args.words.now).own) c.if-not-has_numbers.false c.has_numbers.ensures))
    (fails c.has_users.result (HasUsers c.args.command (parts_in c.args.words.now)) c.if-not-has_users.true c.has_users.ensures)

pub returns-then-not-paths : goal.returns-then-not-paths
returns-then-not-paths c =
    breaks_paths c.args.command (parts_in c.args.words.now)
    (holds c.has_shape.result (HasShape c.args.command (parts_in c.args.words.now)) c.if-not-has_shape.false c.has_shape.ensures)
    ((each_is (λ i w. FitsNumber (role_of c.args.command i) w) (parts_in c.args.words.now).own).0 (holds c.has_numbers.result (AllFrom (λ i w. FitsNumber (role_of c.args.command i) w) 0 (parts_in c.args.words.now).own) c.if-not-has_numbers.false c.has_numbers.ensures))
    (holds c.has_users.result (HasUsers c.args.command (parts_in c.args.words.now)) c.if-not-has_users.false c.has_users.ensures)
    (fails c.in_ok-paths.paths (HasPaths c.args.command (parts_in c.args.words.now)) c.if-not-paths.true c.in_ok-paths.ensures)

pub returns-then-not-kept : goal.returns-then-not-kept
returns-then-not-kept c =
    breaks_inputs c.args.command (parts_in c.args.words.now)
    (holds c.has_shape.result (HasShape c.args.command (parts_in c.args.words.now)) c.if-not-has_shape.false c.has_shape.ensures)
    ((each_is (λ i w. FitsNumber (role_of c.args.command i) w) (parts_in c.args.words.now).own).0 (holds c.has_numbers.result (AllFrom (λ i w. FitsNumber (role_of c.args.command i) w) 0 (parts_in c.args.words.now).own) c.if-not-has_numbers.false c.has_numbers.ensures))
    (holds c.has_users.result (HasUsers c.args.command (parts_in c.args.words.now)) c.if-not-has_users.false c.has_users.ensures)
    (holds c.in_ok-paths.paths (HasPaths c.args.command (parts_in c.args.words.now)) c.if-not-paths.false c.in_ok-paths.ensures)
    (fails c.in_ok-kept.kept (KeepsInputs c.args.command (parts_in c.args.words.now)) c.if-not-kept.true c.in_ok-kept.ensures)

pub returns-then-not-has_identifiers : goal.returns-then-not-has_identifiers
returns-then-not-has_identifiers c =
    breaks_identifiers c.args.command (parts_in c.args.words.now)
    (holds c.has_shape.result (HasShape c.args.command (parts_in c.args.words.now)) c.if-not-has_shape.false c.has_shape.ensures)
    ((each_is (λ i w. FitsNumber (role_of c.args.command i) w) (parts_in c.args.words.now).own).0 (holds c.has_numbers.result (AllFrom (λ i w. FitsNumber (role_of c.args.command i) w) 0 (parts_in c.args.words.now).own) c.if-not-has_numbers.false c.has_numbers.ensures))
    (holds c.has_users.result (HasUsers c.args.command (parts_in c.args.words.now)) c.if-not-has_users.false c.has_users.ensures)
    (holds c.in_ok-paths.paths (HasPaths c.args.command (parts_in c.args.words.now)) c.if-not-paths.false c.in_ok-paths.ensures)
    (holds c.in_ok-kept.kept (KeepsInputs c.args.command (parts_in c.args.words.now)) c.if-not-kept.false c.in_ok-kept.ensures)
    (λ h. fails c.has_identifiers.result (AllFrom (λ i w. FitsIdentifier (role_of c.args.command i) w) 0 (parts_in c.args.words.now).own) c.if-not-has_identifiers.true c.has_identifiers.ensures ((each_is (λ i w. FitsIdentifier (role_of c.args.command i) w) (parts_in c.args.words.now).own).1 h))

pub returns-then-not-places : goal.returns-then-not-places
returns-then-not-places c =
    breaks_places c.args.command (parts_in c.args.words.now)
    (holds c.has_shape.result (HasShape c.args.command (parts_in c.args.words.now)) c.if-not-has_shape.false c.has_shape.ensures)
    ((each_is (λ i w. FitsNumber (role_of c.args.command i) w) (parts_in c.args.words.now).own).0 (holds c.has_numbers.result (AllFrom (λ i w. FitsNumber (role_of c.args.command i) w) 0 (parts_in c.args.words.now).own) c.if-not-has_numbers.false c.has_numbers.ensures))
    (holds c.has_users.result (HasUsers c.args.command (parts_in c.args.words.now)) c.if-not-has_users.false c.has_users.ensures)
    (holds c.in_ok-paths.paths (HasPaths c.args.command (parts_in c.args.words.now)) c.if-not-paths.false c.in_ok-paths.ensures)
    (holds c.in_ok-kept.kept (KeepsInputs c.args.command (parts_in c.args.words.now)) c.if-not-kept.false c.in_ok-kept.ensures)
    ((each_is (λ i w. FitsIdentifier (role_of c.args.command i) w) (parts_in c.args.words.now).own).0 (holds c.has_identifiers.result (AllFrom (λ i w. FitsIdentifier (role_of c.args.command i) w) 0 (parts_in c.args.words.now).own) c.if-not-has_identifiers.false c.has_identifiers.ensures))
    (fails c.in_ok-places.places (NamesPlaces c.args.command (parts_in c.args.words.now)) c.if-not-places.true c.in_ok-places.ensures)

pub returns : goal.returns
returns c =
    breaks_none c.args.command (parts_in c.args.words.now)
    (holds c.has_shape.result (HasShape c.args.command (parts_in c.args.words.now)) c.if-not-has_shape.false c.has_shape.ensures)
    ((each_is (λ i w. FitsNumber (role_of c.args.command i) w) (parts_in c.args.words.now).own).0 (holds c.has_numbers.result (AllFrom (λ i w. FitsNumber (role_of c.args.command i) w) 0 (parts_in c.args.words.now).own) c.if-not-has_numbers.false c.has_numbers.ensures))
    (holds c.has_users.result (HasUsers c.args.command (parts_in c.args.words.now)) c.if-not-has_users.false c.has_users.ensures)
    (holds c.in_ok-paths.paths (HasPaths c.args.command (parts_in c.args.words.now)) c.if-not-paths.false c.in_ok-paths.ensures)
    (holds c.in_ok-kept.kept (KeepsInputs c.args.command (parts_in c.args.words.now)) c.if-not-kept.false c.in_ok-kept.ensures)
    ((each_is (λ i w. FitsIdentifier (role_of c.args.command i) w) (parts_in c.args.words.now).own).0 (holds c.has_identifiers.result (AllFrom (λ i w. FitsIdentifier (role_of c.args.command i) w) 0 (parts_in c.args.words.now).own) c.if-not-has_identifiers.false c.has_identifiers.ensures))
    (holds c.in_ok-places.places (NamesPlaces c.args.command (parts_in c.args.words.now)) c.if-not-places.false c.in_ok-places.ensures)
