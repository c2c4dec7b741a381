-- Keys are the same exactly where they are those of methods that are alike.
use Rattle.std.proofs.Common.{◌≡◌, ℕ, Bool, true, false, ◌↔◌, refl, sym, ap, ◌∙◌}
use Rattle.std.specs.Prelude.{Decides}
use Rattle.std.specs.Bool.{beq}
use Rattle.std.proofs.lemmas.Bool.{eqb-true, eq-eqb}
use Rattle.std.proofs.lemmas.Bool.Decides.{Decides-eqb, Decides-and, Decides-like}
use Rattle.std.proofs.lemmas.Slice.Eq.{slice_eq-Decides}
use Rattle.java_tree.specs.declared.tree.Name.{Name}
use Rattle.class_world.specs.declared.world.MethodInfo.{MethodInfo}
use Rattle.method_rules.specs.contracts.signatures.SignaturePartialEq.TheImpl as signatures
use Rattle.method_rules.specs.contracts.signatures.PartPartialEq.TheImpl as written
use Rattle.method_rules.specs.declared.signatures.Signature.{Signature}
use Rattle.method_rules.specs.declared.signatures.Part.{Part}
use Rattle.method_rules.specs.declared.signatures.Part.TheVariants as part
use Rattle.method_rules.specs.Repeats.{AreAlike}
use Rattle.method_rules.specs.Signatures.{IsSignatureOf}
use Rattle.method_rules.proofs.Writing.{written_alike}

abbrev pub same_key : Signature → Signature → Bool
same_key = (signatures.eq-value).it

abbrev same_part : Part → Part → Bool
same_part = (written.eq-value).it

part_is : (a b : Part) → same_part a b ≡ true → a ≡ b
part_is part.Level part.Level e = refl
part_is part.Int part.Int e = refl
part_is part.Long part.Long e = refl
part_is part.Char part.Char e = refl
part_is part.Boolean part.Boolean e = refl
part_is part.Null part.Null e = refl
part_is (part.Class c) (part.Class d) e = ap part.Class (eqb-true c d e)
part_is a b e = absurd (cc e)

part_itself : (a : Part) → same_part a a ≡ true
part_itself part.Level = refl
part_itself part.Int = refl
part_itself part.Long = refl
part_itself part.Char = refl
part_itself part.Boolean = refl
part_itself part.Null = refl
part_itself (part.Class c) = eq-eqb c c refl

part_decides : (a b : Part) → Decides (same_part a b) (a ≡ b)
part_decides a b = (part_is a b, λ e. ap (same_part a) (sym e) ∙ part_itself a)

bool_decides : (a b : Bool) → Decides (beq a b) (a ≡ b)
bool_decides true true = (λ e. refl, λ e. refl)
bool_decides false false = (λ e. refl, λ e. refl)
bool_decides true false = (λ e. absurd (cc e), λ e. absurd (cc e))
bool_decides false true = (λ e. absurd (cc e), λ e. absurd (cc e))

abbrev AreSame : Signature → Signature → Type 0
AreSame k q = (k.owner ≡ q.owner) × (k.name ≡ q.name) × (k.constructor ≡ q.constructor) × (k.params.items ≡ q.params.items)

key_decides : (k q : Signature) → Decides (same_key k q) (AreSame k q)
key_decides k q =
    Decides-like _ (λ h. (h.0, h.1.0, h.1.1.0, h.1.1.1)) (λ h. (h.0, (h.1, (h.2, h.3))))
    (Decides-and _ _ (Decides-eqb k.owner q.owner)
    (Decides-and _ _ (Decides-eqb k.name q.name) (Decides-and _ _ (bool_decides k.constructor q.constructor) (slice_eq-Decides part_decides k.params.items q.params.items _ refl))))

-- of a key that is the method's, another is the method's too exactly where it is the same
pub key_told : (m : MethodInfo) (k q : Signature) → IsSignatureOf m k → Decides (same_key k q) (IsSignatureOf m q)
key_told m k q h =
    Decides-like _ (λ e. (sym e.0 ∙ h.0, sym e.1 ∙ h.1, sym e.2 ∙ h.2, sym e.3 ∙ h.3)) (λ e. (h.0 ∙ sym e.0, h.1 ∙ sym e.1, h.2 ∙ sym e.2, h.3 ∙ sym e.3)) (key_decides k q)

-- a method's key is that of another exactly where the two are alike
pub alike_told : (m n : MethodInfo) (k : Signature) → IsSignatureOf n k → IsSignatureOf m k ↔ AreAlike m n
alike_told m n k h = (
  λ e. (sym e.0 ∙ h.0, ap named (sym e.1 ∙ h.1), sym e.2 ∙ h.2, (written_alike m.params n.params).0 (sym e.3 ∙ h.3)),
  λ e. (h.0 ∙ sym e.0, h.1 ∙ ap (λ (x : Name). x.0) (sym e.1), h.2 ∙ sym e.2, h.3 ∙ sym ((written_alike m.params n.params).1 e.3)),
)
  where
    named : ℕ → Name
    named x = record { 0 = x }
