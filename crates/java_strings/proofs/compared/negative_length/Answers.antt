use Rattle.std.proofs.Common.{length, pos}
use Rattle.java_strings.proofs.Comparing.{negative_wraps}
use Rattle.java_strings.proofs.compared.negative_length.Goals as goal

pub returns : goal.returns
returns c = negative_wraps (pos (length c.args.units.now)) _ _ c.length_of.ensures c.wrapping_neg.ensures
