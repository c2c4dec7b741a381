-- The edits of a file in which heads of types become the name of another type.
use Rattle.std.specs.Prelude.{ℕ, ◌-◌, Bool, true, false, ◌&&◌, ◌||◌, ◌==◌, if◌then◌else◌, List, [], ◌∷◌, ◌++◌, length, map, Option, Some, None, slice_get, unwrap_or, codes}
use Rattle.std.specs.Option.{option_map}
use Rattle.java_tree.specs.declared.tree.Import.{Import}
use Rattle.java_tree.specs.declared.tree.Kind.{Kind}
use Rattle.java_tree.specs.declared.tree.Kind.TheVariants as k
use Rattle.java_tree.specs.declared.tree.Name.{Name}
use Rattle.java_tree.specs.declared.tree.Span.{Span}
use Rattle.java_tree.specs.declared.tree.Token.{Token}
use Rattle.java_tree.specs.Plain.{SourceUnit}
use Rattle.edit_writer.specs.declared.edits.Edit.{Edit}

-- ---- where an import goes

abbrev pub is_operator : Kind → Bool
is_operator k.Op = true
is_operator _ = false

abbrev pub byte_at : List ℕ → ℕ → ℕ
byte_at text at = unwrap_or (slice_get text at) 0

-- The token is `;`: no other operator begins with it.
abbrev pub is_semicolon : List ℕ → Token → Bool
is_semicolon text t = is_operator t.kind && (byte_at text t.span.from == 59)

-- behind the first `;`
abbrev pub semicolon_end : List ℕ → List Token → Option ℕ
semicolon_end text [] = None
semicolon_end text (t ∷ ts) = if is_semicolon text t then Some t.span.to else semicolon_end text ts

-- `import NAME;`, and what stands behind it
abbrev pub import_text : List ℕ → List ℕ → List ℕ
import_text full_name behind = codes "import " ++ (full_name ++ (59 ∷ behind))

-- a text put at an offset
abbrev pub put_at : ℕ → List ℕ → Edit
put_at at text = record { from = at; to = at; text = text }

-- the import on a line of its own, behind what ends at an offset
abbrev pub line_behind : List ℕ → ℕ → Edit
line_behind full_name at = put_at at (10 ∷ import_text full_name [])

-- the import as the first line
abbrev pub first_line : List ℕ → Edit
first_line full_name = put_at 0 (import_text full_name (10 ∷ []))

-- behind the `;` of the package, or first where no package is written
abbrev pub package_edit : List ℕ → List Token → List Name → List ℕ → Option Edit
package_edit text tokens [] full_name = Some (first_line full_name)
package_edit text tokens (n ∷ ns) full_name = option_map (line_behind full_name) (semicolon_end text tokens)

-- behind the last import, if there is one
abbrev pub behind_import : List ℕ → Option Import → Option Edit → Option Edit
behind_import full_name (Some i) other = Some (line_behind full_name i.node.span.to)
behind_import full_name None other = other

-- the import of a type in a text with these tokens and this tree
abbrev pub import_edit : List ℕ → List Token → SourceUnit → List ℕ → Option Edit
import_edit text tokens unit full_name =
    behind_import full_name (slice_get unit.imports (length unit.imports - 1)) (package_edit text tokens unit.«package» full_name)

-- ---- all edits of a file

-- the import, where the name of the type is used and not seen
abbrev pub import_edits : (sees : Bool) → List ℕ → List Token → SourceUnit → List ℕ → Option (List Edit)
import_edits true text tokens unit full_name = Some []
import_edits false text tokens unit full_name = option_map (λ e. e ∷ []) (import_edit text tokens unit full_name)

abbrev pub head_edit : List ℕ → Span → Edit
head_edit name head = record { from = head.from; to = head.to; text = name }

abbrev pub has_no_heads : List Span → Bool
has_no_heads [] = true
has_no_heads (h ∷ hs) = false

-- the import, and then the heads in order
abbrev pub file_edits : List ℕ → List Token → SourceUnit → (sees : Bool) → (heads : List Span) → (name full_name : List ℕ) → Option (List Edit)
file_edits text tokens unit sees heads name full_name =
    option_map (λ es. es ++ map (head_edit name) heads) (import_edits (sees || has_no_heads heads) text tokens unit full_name)
