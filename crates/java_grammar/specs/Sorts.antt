-- What the tokens of a text are to the grammar.
use Rattle.std.specs.Prelude.{◌≡◌, ℕ, ◌-◌, true, false, List, [], ◌∷◌, Some, None, take, drop, if◌then◌else◌, slice_get, codes}
use Rattle.std.specs.Str.{bytes_eq}
use Rattle.java_tree.specs.declared.tree.Span.{Span}
use Rattle.java_tree.specs.declared.tree.Token.{Token}
use Rattle.java_tree.specs.declared.tree.Kind.{Kind}
use Rattle.java_tree.specs.declared.tree.Kind.TheVariants as kind
use Rattle.java_tree.specs.declared.tree.BinOp.TheVariants as op
use Rattle.java_grammar.specs.declared.token.Tok.{Tok}
use Rattle.java_grammar.specs.declared.token.Sort.{Sort}
use Rattle.java_grammar.specs.declared.token.Sort.TheVariants as s
use Rattle.java_grammar.specs.declared.token.Keyword.TheVariants as word
use Rattle.java_grammar.specs.declared.token.Mark.TheVariants as m

-- the bytes of a token
abbrev pub bytes_in : List ℕ → Span → List ℕ
bytes_in text span = take (span.to - span.from) (drop span.from text)

-- the sorts of texts, of which a token has the first that is its own
pub record Spelling : Type 0 where
  pub text : List ℕ
  pub sort : Sort

abbrev spelling : List ℕ → Sort → Spelling
spelling w x = record { text = w; sort = x }

abbrev pub sort_in : List Spelling → List ℕ → Sort
sort_in [] w = s.Other
sort_in (x ∷ xs) w = if bytes_eq w x.text then x.sort else sort_in xs w

abbrev pub keywords : List Spelling
keywords =
    spelling (codes "abstract") (s.Keyword word.Abstract)
    ∷ spelling (codes "boolean") (s.Keyword word.Boolean)
    ∷ spelling (codes "break") (s.Keyword word.Break)
    ∷ spelling (codes "case") (s.Keyword word.Case)
    ∷ spelling (codes "catch") (s.Keyword word.Catch)
    ∷ spelling (codes "char") (s.Keyword word.Char)
    ∷ spelling (codes "class") (s.Keyword word.Class)
    ∷ spelling (codes "continue") (s.Keyword word.Continue)
    ∷ spelling (codes "default") (s.Keyword word.Default)
    ∷ spelling (codes "do") (s.Keyword word.Do)
    ∷ spelling (codes "else") (s.Keyword word.Else)
    ∷ spelling (codes "extends") (s.Keyword word.Extends)
    ∷ spelling (codes "false") (s.Keyword word.False)
    ∷ spelling (codes "final") (s.Keyword word.Final)
    ∷ spelling (codes "finally") (s.Keyword word.Finally)
    ∷ spelling (codes "for") (s.Keyword word.For)
    ∷ spelling (codes "if") (s.Keyword word.If)
    ∷ spelling (codes "implements") (s.Keyword word.Implements)
    ∷ spelling (codes "import") (s.Keyword word.Import)
    ∷ spelling (codes "instanceof") (s.Keyword word.InstanceOf)
    ∷ spelling (codes "int") (s.Keyword word.Int)
    ∷ spelling (codes "interface") (s.Keyword word.Interface)
    ∷ spelling (codes "long") (s.Keyword word.Long)
    ∷ spelling (codes "new") (s.Keyword word.New)
    ∷ spelling (codes "null") (s.Keyword word.Null)
    ∷ spelling (codes "package") (s.Keyword word.Package)
    ∷ spelling (codes "private") (s.Keyword word.Private)
    ∷ spelling (codes "protected") (s.Keyword word.Protected)
    ∷ spelling (codes "public") (s.Keyword word.Public)
    ∷ spelling (codes "return") (s.Keyword word.Return)
    ∷ spelling (codes "static") (s.Keyword word.Static)
    ∷ spelling (codes "super") (s.Keyword word.Super)
    ∷ spelling (codes "switch") (s.Keyword word.Switch)
    ∷ spelling (codes "this") (s.Keyword word.This)
    ∷ spelling (codes "throw") (s.Keyword word.Throw)
    ∷ spelling (codes "throws") (s.Keyword word.Throws)
    ∷ spelling (codes "true") (s.Keyword word.True)
    ∷ spelling (codes "try") (s.Keyword word.Try)
    ∷ spelling (codes "void") (s.Keyword word.Void)
    ∷ spelling (codes "while") (s.Keyword word.While) ∷ []

-- `>` is one token, so that the shifts to the right are none
abbrev pub operators : List Spelling
operators =
    spelling (codes "(") (s.Mark m.Open)
    ∷ spelling (codes ")") (s.Mark m.Close)
    ∷ spelling (codes "{") (s.Mark m.LeftBrace)
    ∷ spelling (codes "}") (s.Mark m.RightBrace)
    ∷ spelling (codes "[") (s.Mark m.LeftBracket)
    ∷ spelling (codes "]") (s.Mark m.RightBracket)
    ∷ spelling (codes ";") (s.Mark m.Semicolon)
    ∷ spelling (codes ",") (s.Mark m.Comma)
    ∷ spelling (codes ".") (s.Mark m.Dot)
    ∷ spelling (codes "?") (s.Mark m.Question)
    ∷ spelling (codes ":") (s.Mark m.Colon)
    ∷ spelling (codes "!") (s.Mark m.Not)
    ∷ spelling (codes "~") (s.Mark m.Invert)
    ∷ spelling (codes "++") (s.Step true)
    ∷ spelling (codes "--") (s.Step false)
    ∷ spelling (codes "||") (s.Infix op.LogicOr)
    ∷ spelling (codes "&&") (s.Infix op.LogicAnd)
    ∷ spelling (codes "|") (s.Infix op.BitOr)
    ∷ spelling (codes "^") (s.Infix op.BitXor)
    ∷ spelling (codes "&") (s.Infix op.BitAnd)
    ∷ spelling (codes "==") (s.Infix op.Equal)
    ∷ spelling (codes "!=") (s.Infix op.NotEqual)
    ∷ spelling (codes "<") (s.Infix op.Less)
    ∷ spelling (codes ">") (s.Infix op.Greater)
    ∷ spelling (codes "<=") (s.Infix op.LessEqual)
    ∷ spelling (codes ">=") (s.Infix op.GreaterEqual)
    ∷ spelling (codes "<<") (s.Infix op.ShiftLeft)
    ∷ spelling (codes "+") (s.Infix op.Add)
    ∷ spelling (codes "-") (s.Infix op.Sub)
    ∷ spelling (codes "*") (s.Infix op.Mul)
    ∷ spelling (codes "/") (s.Infix op.Div)
    ∷ spelling (codes "%") (s.Infix op.Rem)
    ∷ spelling (codes "=") (s.Assign None)
    ∷ spelling (codes "|=") (s.Assign (Some op.BitOr))
    ∷ spelling (codes "^=") (s.Assign (Some op.BitXor))
    ∷ spelling (codes "&=") (s.Assign (Some op.BitAnd))
    ∷ spelling (codes "<<=") (s.Assign (Some op.ShiftLeft))
    ∷ spelling (codes "+=") (s.Assign (Some op.Add))
    ∷ spelling (codes "-=") (s.Assign (Some op.Sub))
    ∷ spelling (codes "*=") (s.Assign (Some op.Mul))
    ∷ spelling (codes "/=") (s.Assign (Some op.Div))
    ∷ spelling (codes "%=") (s.Assign (Some op.Rem)) ∷ []

abbrev pub sort_of : Kind → List ℕ → Sort
sort_of kind.Word w = s.Word
sort_of kind.Keyword w = sort_in keywords w
sort_of kind.Int w = s.Number false
sort_of kind.Long w = s.Number true
sort_of kind.Float w = s.Other
sort_of kind.Char w = s.Char
sort_of kind.Text w = s.Text
sort_of kind.Op w = sort_in operators w

-- an identifier has the number of its text in the table of names, any other token 0
abbrev pub HasName : List (List ℕ) → Kind → List ℕ → ℕ → Type 0
HasName names kind.Word w n = slice_get names n ≡ Some w
HasName names _ w n = n ≡ 0

pub record IsTok (text : List ℕ) (names : List (List ℕ)) (token : Token) (t : Tok) : Type 0 where
  pub span : t.span ≡ token.span
  pub sort : t.sort ≡ sort_of token.kind (bytes_in text token.span)
  pub name : HasName names token.kind (bytes_in text token.span) t.name

-- the tokens of a text, as the grammar sees them
abbrev pub AreToks : List ℕ → List (List ℕ) → List Token → List Tok → Type 0
AreToks text names [] ts = ts ≡ []
AreToks text names (x ∷ xs) [] = ⊥
AreToks text names (x ∷ xs) (t ∷ ts) = IsTok text names x t × AreToks text names xs ts
