-- What `head_named` answers is what the rules say of a head.
use Rattle.std.proofs.Common.{◌≡◌, ℕ, [], ◌∷◌, Option, Some, None, refl, ap, ◌∙◌}
use Rattle.java_tree.specs.declared.tree.Name.{Name}
use Rattle.java_tree.specs.declared.tree.Head.{Head}
use Rattle.java_tree.specs.declared.tree.Head.TheVariants as head
use Rattle.written_types.specs.Places.{Place}
use Rattle.written_types.specs.Types.{variable}
use Rattle.written_types.specs.Breaks.{NamesVariable, NamesType}
use Rattle.written_types.specs.declared.scope.Named.TheVariants as named
use Rattle.written_types.specs.Walk.{named_by, head_named}
use Rattle.written_types.proofs.Places.{variable_is, variable_not, variable_has, variable_none}

name_is : (p : Place) (h : Head) (n : Name) → h ≡ head.Path (n ∷ []) → head_named p h ≡ named_by (variable n p.vars) (p.mean n)
name_is p h n is = ap (head_named p) is

pub named_variable : (p : Place) (h : Head) → NamesVariable p h → (k : ℕ) × (head_named p h ≡ named.Variable k)
named_variable p h (n, is, has) =
    let var = variable_has n p.vars has in
    (var.0, name_is p h n is ∙ ap (λ v. named_by v (p.mean n)) var.1)

pub named_type : (p : Place) (h : Head) (c : ℕ) → NamesType p h c → head_named p h ≡ named.Type c
named_type p h c (n, is, out_, mean) = name_is p h n is ∙ ap (λ v. named_by v (p.mean n)) (variable_none n p.vars out_) ∙ ap (named_by None) mean

pub variable_named : (p : Place) (h : Head) (k : ℕ) → head_named p h ≡ named.Variable k → NamesVariable p h
variable_named p (head.Prim q) k e = absurd (cc e)
variable_named p (head.Path []) k e = absurd (cc e)
variable_named p (head.Path (n ∷ [])) k e = split (variable n p.vars) (p.mean n) refl e
  where
    split : (v m : Option ℕ) → variable n p.vars ≡ v → named_by v m ≡ named.Variable k → NamesVariable p (head.Path (n ∷ []))
    split (Some i) m is e = (n, refl, variable_is n p.vars i is)
    split None (Some c) is e = absurd (cc e)
    split None None is e = absurd (cc e)
variable_named p (head.Path (n ∷ m ∷ names)) k e = absurd (cc e)

pub type_named : (p : Place) (h : Head) (c : ℕ) → head_named p h ≡ named.Type c → NamesType p h c
type_named p (head.Prim q) c e = absurd (cc e)
type_named p (head.Path []) c e = absurd (cc e)
type_named p (head.Path (n ∷ [])) c e = split (variable n p.vars) (p.mean n) refl refl e
  where
    split : (v m : Option ℕ) → variable n p.vars ≡ v → p.mean n ≡ m → named_by v m ≡ named.Type c → NamesType p (head.Path (n ∷ [])) c
    split (Some i) m is mean e = absurd (cc e)
    split None (Some d) is mean e = let same : d ≡ c = cc e in (n, refl, variable_not n p.vars is, mean ∙ ap Some same)
    split None None is mean e = absurd (cc e)
type_named p (head.Path (n ∷ m ∷ names)) c e = absurd (cc e)
