-- What objects and throwables say of themselves, by their numbers.
use Rattle.std.specs.Prelude.{ℕ, ◌++◌, codes}
use Rattle.core_meaning.specs.declared.values.Value.{Value}
use Rattle.core_meaning.specs.declared.values.State.{State}
use Rattle.core_meaning.specs.Texts.{hex_units}
use Rattle.core_meaning.specs.BuiltIns.{get_message, hash_code}
use Rattle.core_meaning.specs.Outcome.{Outcome, and_then, with_int, with_some}
use Rattle.core_meaning.specs.Classes.{name_at}
use Rattle.core_meaning.specs.Variables.{Place}
use Rattle.core_meaning.specs.Members.{asked, new_text, plain, said}

abbrev pub object_told : Place → Value → (object : ℕ) → State → Outcome Value
object_told p a r s = with_some (name_at p.code r s) s (λ name.
    and_then (asked plain p hash_code a s) (λ h s. with_int h s (λ z. new_text (name ++ codes "@" ++ hex_units z) s)))

abbrev pub throwable_told : Place → Value → (object : ℕ) → State → Outcome Value
throwable_told p a r s = with_some (name_at p.code r s) s (λ name. and_then (asked plain p get_message a s) (λ m s. said name m s))
