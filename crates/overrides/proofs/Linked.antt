-- Links put into a list.
use Rattle.std.proofs.Common.{◌≡◌, ℕ, List, [], ◌∷◌, ◌++◌, Bool, inl, inr, subst}
use Rattle.std.specs.Prelude.{IsTrue}
use Rattle.std.proofs.lemmas.List.Elements.{Contains-append_left, Contains-push_cases}
use Rattle.class_world.specs.declared.world.World.{World}
use Rattle.overrides.specs.declared.at_once.TheConstants.{FREE, APART}
use Rattle.overrides.specs.declared.links.Link.{Link}
use Rattle.overrides.specs.AtOnce.{IsTie}
use Rattle.overrides.specs.Links.{IsLink, AreLinks, HasLink}

pub links_more : (w : World) (links : List Link) (x : Link) → AreLinks w links → IsLink w x → AreLinks w (links ++ x ∷ [])
links_more w links x are is y has = elim (Contains-push_cases links x y has) [ inl before ↦ are y before | inr last ↦ subst (IsLink w) last is ]

pub link_kept : (links : List Link) (x : Link) (m t : ℕ) → HasLink links m t → HasLink (links ++ x ∷ []) m t
link_kept links x m t h = (h.0, Contains-append_left links (x ∷ []) h.0 h.1, h.2, h.3)

pub tie_link : (w : World) (m t v : ℕ) (free : Bool) → IsTie w m t v → (v ≡ APART → ⊥) → (IsTrue free → v ≡ FREE) → IsLink w (record { lower = m; upper = t; free = free })
tie_link w m t v free tie tied is = record { at_once = tie.tied tied; free = λ e. tie.free (is e) }
