use Rattle.inherited_rules.proofs.Members.{overriding_namesakes}
use Rattle.inherited_rules.proofs.Named.{is_named, named_member}
use Rattle.inherited_rules.proofs.bodies.has_named_body.Goals as goal

pub returns-in_default : goal.returns-in_default
returns-in_default c = (
  λ h. absurd (cc h),
  λ h. let both = overriding_namesakes c.args.w.now h.0 c.args.m h.1.2 in absurd (c.in_default.ensures.none both.1 both.3),
)

pub returns : goal.returns
returns c =
    let w = c.args.w.now in
    let ms = c.named-named.result.now in
    let named = c.named-named.ensures w c.requires.lists in
    let told = c.is_one_body.ensures in (
      λ h. let b = told.0 h in (b.0, (named_member w c.args.c b.0 c.len.result c.in-Some.info.now.name ms named b.1, b.2, b.3)),
      λ h.
          let both = overriding_namesakes w h.0 c.args.m h.1.2 in
          told.1 (h.0, is_named w c.args.c c.args.m h.0 c.len.result c.in-Some.info.now ms c.in-Some.ensures.some c.len.ensures named h.1.0 both, h.1.1, h.1.2),
    )
