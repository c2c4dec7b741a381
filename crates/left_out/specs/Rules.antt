-- The tokens that this Java leaves out, each by the number of its rule.
use Rattle.std.specs.Prelude.{◌≡◌, ◌<◌, ℕ, suc, zero, ◌-◌, nat_lt, Bool, false, not, ◌&&◌, ◌||◌, List, [], ◌∷◌, Option, Some, None, take, drop, slice_get, count_by, if◌then◌else◌, codes}
use Rattle.std.specs.Str.{bytes_eq}
use Rattle.java_tree.specs.declared.tree.Span.{Span}
use Rattle.java_tree.specs.declared.tree.Token.{Token}
use Rattle.java_tree.specs.declared.tree.Kind.{Kind}
use Rattle.java_tree.specs.declared.tree.Kind.TheVariants as kind

-- a text that stands nowhere, and the rule that it breaks
pub record Banned : Type 0 where
  pub text : List ℕ
  pub rule : ℕ

abbrev banned : List ℕ → ℕ → Banned
banned w n = record { text = w; rule = n }

abbrev pub rule_in : List Banned → List ℕ → Option ℕ
rule_in [] w = None
rule_in (x ∷ xs) w = if bytes_eq w x.text then Some x.rule else rule_in xs w

abbrev pub keywords : List Banned
keywords =
    banned (codes "synchronized") 1
    ∷ banned (codes "volatile") 1
    ∷ banned (codes "native") 2
    ∷ banned (codes "strictfp") 2
    ∷ banned (codes "transient") 2
    ∷ banned (codes "const") 2
    ∷ banned (codes "goto") 2
    ∷ banned (codes "enum") 3
    ∷ banned (codes "assert") 4
    ∷ banned (codes "float") 7
    ∷ banned (codes "double") 7
    ∷ banned (codes "byte") 8
    ∷ banned (codes "short") 8 ∷ []

abbrev pub operators : List Banned
operators = banned (codes "@") 6 ∷ banned (codes "...") 9 ∷ []

-- the bytes of a token
abbrev pub bytes_in : List ℕ → Span → List ℕ
bytes_in text span = take (span.to - span.from) (drop span.from text)

-- the token is this operator or separator
abbrev pub is_op : List ℕ → Kind → List ℕ → Bool
is_op mark kind.Op w = bytes_eq w mark
is_op mark _ w = false

abbrev pub is_mark : List ℕ → List ℕ → Token → Bool
is_mark text mark t = is_op mark t.kind (bytes_in text t.span)

-- a dot stands directly before token i
abbrev pub follows_dot : List ℕ → List Token → ℕ → Bool
follows_dot text ts zero = false
follows_dot text ts (suc i) = is_dot (slice_get ts i)
  where
    is_dot : Option Token → Bool
    is_dot None = false
    is_dot (Some t) = is_mark text (codes ".") t

-- More braces are opened than closed before token i.
abbrev pub is_in_braces : List ℕ → List Token → ℕ → Bool
is_in_braces text ts i = nat_lt (count_by (is_mark text (codes "}")) (take i ts)) (count_by (is_mark text (codes "{")) (take i ts))

abbrev pub is_declaration : List ℕ → Bool
is_declaration w = bytes_eq w (codes "class") || bytes_eq w (codes "interface")

-- The rule that a token breaks, by its kind and its bytes; `nests` says that a type which it declares is declared within another.
unfoldable pub token_rule : Kind → List ℕ → (nests : Bool) → Option ℕ
token_rule kind.Keyword w nests = if nests && is_declaration w then Some 5 else rule_in keywords w
token_rule kind.Float w nests = Some 7
token_rule kind.Op w nests = rule_in operators w
token_rule _ w nests = None

-- the rule that token i of a text breaks
abbrev pub rule_of : List ℕ → List Token → ℕ → Option ℕ
rule_of text ts i = of (slice_get ts i)
  where
    of : Option Token → Option ℕ
    of None = None
    of (Some t) = token_rule t.kind (bytes_in text t.span) (not (follows_dot text ts i) && is_in_braces text ts i)

-- The token is the first that breaks a rule, and this is its rule.
pub record IsFirst (text : List ℕ) (ts : List Token) (i n : ℕ) : Type 0 where
  pub rule : rule_of text ts i ≡ Some n
  pub first : (j : ℕ) → j < i → rule_of text ts j ≡ None
