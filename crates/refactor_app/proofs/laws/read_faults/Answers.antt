use Rattle.refactor_app.proofs.Excluding.{fault_words}
use Rattle.refactor_app.proofs.OneReading.{faults_missing, faults_large, faults_held}
use Rattle.refactor_app.proofs.laws.read_faults.Goals as goal

pub returns-clause-words : goal.returns-clause-words
returns-clause-words c words q r h = fault_words words q r h

pub returns-clause-missing : goal.returns-clause-missing
returns-clause-missing c look names j k h = faults_missing look names j k h

pub returns-clause-large : goal.returns-clause-large
returns-clause-large c look names j k stop a b h = faults_large look names j k stop a b h

pub returns-clause-read : goal.returns-clause-read
returns-clause-read c look names texts k h = faults_held look names texts k h
