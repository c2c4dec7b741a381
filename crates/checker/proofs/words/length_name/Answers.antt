use Rattle.std.proofs.Common.{refl}
use Rattle.built_in_types.specs.declared.words.Word.TheVariants.{Length}
use Rattle.checker.proofs.Names.{there_is, is_word}
use Rattle.checker.proofs.words.length_name.Goals as goal

pub number_of-requires : goal.number_of-requires
number_of-requires c = there_is c.args.names.now c.requires.words.0 6 _ c.requires.words.1 refl

pub returns : goal.returns
returns c = λ w are. is_word c.args.names.now w Length _ c.number_of.result c.requires.distinct are refl c.number_of.ensures
