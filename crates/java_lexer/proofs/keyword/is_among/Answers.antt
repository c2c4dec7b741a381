use Rattle.std.proofs.Common.{◌≡◌, ◌∙◌, ◌∷◌, [], codes, false, arith, ap, sym}
use Rattle.std.specs.List.{list_any}
use Rattle.std.specs.Str.{bytes_eq}
use Rattle.std.proofs.lemmas.Bool.Decides.{nat_tests}
use Rattle.java_lexer.specs.Bytes.{keywords}
use Rattle.java_lexer.specs.Scan.{with_head}
use Rattle.java_lexer.proofs.KeywordLemmas as words
use Rattle.java_lexer.proofs.keyword.is_among.Goals as goal

pub returns-in-97 : goal.returns-in-97
returns-in-97 c =
    let letter : 97 ≡ c.args.letter = omega arith in
    c.contains.ensures.value ∙ words.any_turned c.args.word.now (codes "abstract" ∷ codes "assert" ∷ []) ∙ ap (list_any (bytes_eq c.args.word.now)) (sym words.head_a)
    ∙ ap (λ b. list_any (bytes_eq c.args.word.now) (with_head b keywords)) letter

pub returns-in-98 : goal.returns-in-98
returns-in-98 c =
    let letter : 98 ≡ c.args.letter = omega arith in
    c.contains-in-98.ensures.value ∙ words.any_turned c.args.word.now (codes "boolean" ∷ codes "break" ∷ codes "byte" ∷ []) ∙ ap (list_any (bytes_eq c.args.word.now)) (sym words.head_b)
    ∙ ap (λ b. list_any (bytes_eq c.args.word.now) (with_head b keywords)) letter

pub returns-in-99 : goal.returns-in-99
returns-in-99 c =
    let letter : 99 ≡ c.args.letter = omega arith in
    c.contains-in-99.ensures.value ∙ words.any_turned c.args.word.now (codes "case" ∷ codes "catch" ∷ codes "char" ∷ codes "class" ∷ codes "const" ∷ codes "continue" ∷ []) ∙ ap (list_any (bytes_eq c.args.word.now)) (sym words.head_c)
    ∙ ap (λ b. list_any (bytes_eq c.args.word.now) (with_head b keywords)) letter

pub returns-in-100 : goal.returns-in-100
returns-in-100 c =
    let letter : 100 ≡ c.args.letter = omega arith in
    c.contains-in-100.ensures.value ∙ words.any_turned c.args.word.now (codes "default" ∷ codes "do" ∷ codes "double" ∷ []) ∙ ap (list_any (bytes_eq c.args.word.now)) (sym words.head_d)
    ∙ ap (λ b. list_any (bytes_eq c.args.word.now) (with_head b keywords)) letter

pub returns-in-101 : goal.returns-in-101
returns-in-101 c =
    let letter : 101 ≡ c.args.letter = omega arith in
    c.contains-in-101.ensures.value ∙ words.any_turned c.args.word.now (codes "else" ∷ codes "enum" ∷ codes "extends" ∷ []) ∙ ap (list_any (bytes_eq c.args.word.now)) (sym words.head_e)
    ∙ ap (λ b. list_any (bytes_eq c.args.word.now) (with_head b keywords)) letter

pub returns-in-102 : goal.returns-in-102
returns-in-102 c =
    let letter : 102 ≡ c.args.letter = omega arith in
    c.contains-in-102.ensures.value ∙ words.any_turned c.args.word.now (codes "final" ∷ codes "finally" ∷ codes "float" ∷ codes "for" ∷ codes "false" ∷ []) ∙ ap (list_any (bytes_eq c.args.word.now)) (sym words.head_f)
    ∙ ap (λ b. list_any (bytes_eq c.args.word.now) (with_head b keywords)) letter

pub returns-in-103 : goal.returns-in-103
returns-in-103 c =
    let letter : 103 ≡ c.args.letter = omega arith in
    c.contains-in-103.ensures.value ∙ words.any_turned c.args.word.now (codes "goto" ∷ []) ∙ ap (list_any (bytes_eq c.args.word.now)) (sym words.head_g)
    ∙ ap (λ b. list_any (bytes_eq c.args.word.now) (with_head b keywords)) letter

pub returns-in-105 : goal.returns-in-105
returns-in-105 c =
    let letter : 105 ≡ c.args.letter = omega arith in
    c.contains-in-105.ensures.value ∙ words.any_turned c.args.word.now (codes "if" ∷ codes "implements" ∷ codes "import" ∷ codes "instanceof" ∷ codes "int" ∷ codes "interface" ∷ []) ∙ ap (list_any (bytes_eq c.args.word.now)) (sym words.head_i)
    ∙ ap (λ b. list_any (bytes_eq c.args.word.now) (with_head b keywords)) letter

pub returns-in-108 : goal.returns-in-108
returns-in-108 c =
    let letter : 108 ≡ c.args.letter = omega arith in
    c.contains-in-108.ensures.value ∙ words.any_turned c.args.word.now (codes "long" ∷ []) ∙ ap (list_any (bytes_eq c.args.word.now)) (sym words.head_l)
    ∙ ap (λ b. list_any (bytes_eq c.args.word.now) (with_head b keywords)) letter

pub returns-in-110 : goal.returns-in-110
returns-in-110 c =
    let letter : 110 ≡ c.args.letter = omega arith in
    c.contains-in-110.ensures.value ∙ words.any_turned c.args.word.now (codes "native" ∷ codes "new" ∷ codes "null" ∷ []) ∙ ap (list_any (bytes_eq c.args.word.now)) (sym words.head_n)
    ∙ ap (λ b. list_any (bytes_eq c.args.word.now) (with_head b keywords)) letter

pub returns-in-112 : goal.returns-in-112
returns-in-112 c =
    let letter : 112 ≡ c.args.letter = omega arith in
    c.contains-in-112.ensures.value ∙ words.any_turned c.args.word.now (codes "package" ∷ codes "private" ∷ codes "protected" ∷ codes "public" ∷ []) ∙ ap (list_any (bytes_eq c.args.word.now)) (sym words.head_p)
    ∙ ap (λ b. list_any (bytes_eq c.args.word.now) (with_head b keywords)) letter

pub returns-in-114 : goal.returns-in-114
returns-in-114 c =
    let letter : 114 ≡ c.args.letter = omega arith in
    c.contains-in-114.ensures.value ∙ words.any_turned c.args.word.now (codes "return" ∷ []) ∙ ap (list_any (bytes_eq c.args.word.now)) (sym words.head_r)
    ∙ ap (λ b. list_any (bytes_eq c.args.word.now) (with_head b keywords)) letter

pub returns-in-115 : goal.returns-in-115
returns-in-115 c =
    let letter : 115 ≡ c.args.letter = omega arith in
    c.contains-in-115.ensures.value ∙ words.any_turned c.args.word.now (codes "short" ∷ codes "static" ∷ codes "strictfp" ∷ codes "super" ∷ codes "switch" ∷ codes "synchronized" ∷ []) ∙ ap (list_any (bytes_eq c.args.word.now)) (sym words.head_s)
    ∙ ap (λ b. list_any (bytes_eq c.args.word.now) (with_head b keywords)) letter

pub returns-in-116 : goal.returns-in-116
returns-in-116 c =
    let letter : 116 ≡ c.args.letter = omega arith in
    c.contains-in-116.ensures.value ∙ words.any_turned c.args.word.now (codes "this" ∷ codes "throw" ∷ codes "throws" ∷ codes "transient" ∷ codes "try" ∷ codes "true" ∷ []) ∙ ap (list_any (bytes_eq c.args.word.now)) (sym words.head_t)
    ∙ ap (λ b. list_any (bytes_eq c.args.word.now) (with_head b keywords)) letter

pub returns-in-118 : goal.returns-in-118
returns-in-118 c =
    let letter : 118 ≡ c.args.letter = omega arith in
    c.contains-in-118.ensures.value ∙ words.any_turned c.args.word.now (codes "void" ∷ codes "volatile" ∷ []) ∙ ap (list_any (bytes_eq c.args.word.now)) (sym words.head_v)
    ∙ ap (λ b. list_any (bytes_eq c.args.word.now) (with_head b keywords)) letter

pub returns-in-119 : goal.returns-in-119
returns-in-119 c =
    let letter : 119 ≡ c.args.letter = omega arith in
    c.contains-in-119.ensures.value ∙ words.any_turned c.args.word.now (codes "while" ∷ []) ∙ ap (list_any (bytes_eq c.args.word.now)) (sym words.head_w)
    ∙ ap (λ b. list_any (bytes_eq c.args.word.now) (with_head b keywords)) letter

pub returns-in_default : goal.returns-in_default
returns-in_default c =
    let e : words.is_letter c.args.letter ≡ false = grind (arith, nat_tests) in
    words.no_keyword c.args.word.now c.args.letter e
