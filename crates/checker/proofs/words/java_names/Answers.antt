use Rattle.std.proofs.Common.{refl, ap, ◌∙◌}
use Rattle.built_in_types.specs.declared.words.Word.TheVariants.{Java, Lang, Io}
use Rattle.built_in_types.specs.BuiltIns.{name_of}
use Rattle.checker.proofs.Names.{there_is, is_word}
use Rattle.checker.proofs.words.java_names.Goals as goal

pub number_of-requires : goal.number_of-requires
number_of-requires c = there_is c.args.names.now c.requires.words.0 0 _ c.requires.words.1 refl

pub number_of-requires-2 : goal.number_of-requires-2
number_of-requires-2 c = there_is c.args.names.now c.requires.words.0 1 _ c.requires.words.1 refl

pub number_of-requires-3 : goal.number_of-requires-3
number_of-requires-3 c = there_is c.args.names.now c.requires.words.0 2 _ c.requires.words.1 refl

pub returns : goal.returns
returns c = λ w are.
    let java = is_word c.args.names.now w Java _ c.number_of.result c.requires.distinct are refl c.number_of.ensures in
    let lang = is_word c.args.names.now w Lang _ c.number_of-2.result c.requires.distinct are refl c.number_of-2.ensures in
    let io = is_word c.args.names.now w Io _ c.number_of-3.result c.requires.distinct are refl c.number_of-3.ensures in
    ap (λ n. record { java = n; lang = c.number_of-2.result; io = c.number_of-3.result }) java
    ∙ ap (λ n. record { java = name_of w Java; lang = n; io = c.number_of-3.result }) lang
    ∙ ap (λ n. record { java = name_of w Java; lang = name_of w Lang; io = n }) io
