-- The keys under which a type counts.
use Rattle.std.proofs.Common.{◌≡◌, ℕ, Bool, true, false, not, cond, ◌&&◌, ◌||◌, Option, Some, None, refl, sym, ap, ◌∙◌}
use Rattle.std.specs.Prelude.{is_none, nat_eq}
use Rattle.std.specs.Bool.{beq}
use Rattle.std.proofs.lemmas.Bool.{and_parts, eqb-true}
use Rattle.type_names.specs.declared.firsts.TypeKey.{TypeKey}
use Rattle.type_names.specs.declared.firsts.FirstTypes.{FirstTypes}
use Rattle.type_names.specs.Tables.{same_key, first_at}
use Rattle.std.specs.Option.{option_or}

pub or_none : {A : Type 0} (o : Option A) → option_or o None ≡ o
or_none None = refl
or_none (Some x) = refl

cond_or : {A : Type 0} (b : Bool) (o n : Option A) → option_or o (cond b n None) ≡ cond b (option_or o n) o
cond_or true o n = refl
cond_or false o n = or_none o

-- Four notes, each under a key of its own, are one for any key: p and l say what the key asks, u and v what the type is, s and r that package and name are those of the key.
pub noted : (p l u v s r : Bool) (n a b c d e : Option ℕ)
    → b ≡ cond (true && (beq false p && (beq false l && (s && r)))) (option_or a n) a
    → c ≡ cond (u && (beq true p && (beq false l && (s && r)))) (option_or b n) b
    → d ≡ cond (not v && (beq false p && (beq true l && (s && r)))) (option_or c n) c
    → e ≡ cond ((u && not v) && (beq true p && (beq true l && (s && r)))) (option_or d n) d
    → e ≡ option_or a (cond ((not p || u) && ((not l || not v) && (s && r))) n None)
noted true true true true s r n a b c d e h i j k = cc (h, i, j, k, or_none a)
noted true true true false s r n a b c d e h i j k = cc (h, i, j, k, cond_or (s && r) a n)
noted true true false true s r n a b c d e h i j k = cc (h, i, j, k, or_none a)
noted true true false false s r n a b c d e h i j k = cc (h, i, j, k, or_none a)
noted true false true true s r n a b c d e h i j k = cc (h, i, j, k, cond_or (s && r) a n)
noted true false true false s r n a b c d e h i j k = cc (h, i, j, k, cond_or (s && r) a n)
noted true false false true s r n a b c d e h i j k = cc (h, i, j, k, or_none a)
noted true false false false s r n a b c d e h i j k = cc (h, i, j, k, or_none a)
noted false true true true s r n a b c d e h i j k = cc (h, i, j, k, or_none a)
noted false true true false s r n a b c d e h i j k = cc (h, i, j, k, cond_or (s && r) a n)
noted false true false true s r n a b c d e h i j k = cc (h, i, j, k, or_none a)
noted false true false false s r n a b c d e h i j k = cc (h, i, j, k, cond_or (s && r) a n)
noted false false true true s r n a b c d e h i j k = cc (h, i, j, k, cond_or (s && r) a n)
noted false false true false s r n a b c d e h i j k = cc (h, i, j, k, cond_or (s && r) a n)
noted false false false true s r n a b c d e h i j k = cc (h, i, j, k, cond_or (s && r) a n)
noted false false false false s r n a b c d e h i j k = cc (h, i, j, k, cond_or (s && r) a n)

beq_is : (x y : Bool) → beq x y ≡ true → x ≡ y
beq_is true true e = refl
beq_is false false e = refl
beq_is true false e = absurd (cc e)
beq_is false true e = absurd (cc e)

abbrev made : Bool → Bool → ℕ → ℕ → TypeKey
made p l n x = record { public_only = p; library_only = l; «package» = n; name = x }

key_is : (k q : TypeKey) → same_key k q ≡ true → k ≡ q
key_is k q e =
    let a = and_parts (beq k.public_only q.public_only) (beq k.library_only q.library_only && (nat_eq k.«package» q.«package» && nat_eq k.name q.name)) e in
    let b = and_parts (beq k.library_only q.library_only) (nat_eq k.«package» q.«package» && nat_eq k.name q.name) a.1 in
    let c = and_parts (nat_eq k.«package» q.«package») (nat_eq k.name q.name) b.1 in
    ap (λ x. made x k.library_only k.«package» k.name) (beq_is k.public_only q.public_only a.0)
    ∙ ap (λ x. made q.public_only x k.«package» k.name) (beq_is k.library_only q.library_only b.0)
    ∙ ap (λ x. made q.public_only q.library_only x k.name) (eqb-true k.«package» q.«package» c.0)
    ∙ ap (λ x. made q.public_only q.library_only q.«package» x) (eqb-true k.name q.name c.1)

-- a note under a key that has none
pub noted_new : (t : FirstTypes) (key q : TypeKey) (at : ℕ) (b : Bool) → first_at t key ≡ None → same_key key q ≡ b
    → cond b (Some at) (first_at t q) ≡ cond b (option_or (first_at t q) (Some at)) (first_at t q)
noted_new t key q at true absent same = let e : first_at t q ≡ None = sym (ap (first_at t) (key_is key q same)) ∙ absent in ap (λ o. option_or o (Some at)) (sym e)
noted_new t key q at false absent same = refl

-- a note under a key that has one
pub noted_old : (t : FirstTypes) (key q : TypeKey) (at : ℕ) (b : Bool) (o : Option ℕ) → o ≡ first_at t key → is_none o ≡ false → same_key key q ≡ b
    → first_at t q ≡ cond b (option_or (first_at t q) (Some at)) (first_at t q)
noted_old t key q at true None is some same = absurd (cc some)
noted_old t key q at true (Some k) is some same =
    let e : first_at t q ≡ Some k = sym (ap (first_at t) (key_is key q same)) ∙ sym is in e ∙ ap (λ o. option_or o (Some at)) (sym e)
noted_old t key q at false o is some same = refl

pub is_absent : (o : Option ℕ) → is_none o ≡ true → o ≡ None
is_absent None e = refl
is_absent (Some k) e = absurd (cc e)
