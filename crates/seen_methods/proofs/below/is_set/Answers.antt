use Rattle.std.proofs.Common.{refl}
use Rattle.std.proofs.lemmas.Option.{slice_get_read, slice_get_past}
use Rattle.seen_methods.proofs.Bits.{set_told, none_set}
use Rattle.seen_methods.proofs.below.is_set.Goals as goal

pub returns-in-Some : goal.returns-in-Some
returns-in-Some c = let at = c.in-Some.ensures.lookup in set_told c.args.words.now c.args.g c.in-Some.word.now (slice_get_read c.args.words.now _ _ _ refl at.3.0 at.1)

pub returns-in-None : goal.returns-in-None
returns-in-None c = (λ h. absurd (cc h), λ h. absurd (none_set c.args.words.now c.args.g (slice_get_past c.args.words.now _ c.in-None.ensures.lookup.3) h))
