use Rattle.std.proofs.Common.{◌≡◌, ◌++◌, ◌∷◌, [], ◌∙◌, sym, ap, length, map, arith}
use Rattle.std.specs.List.{Contains}
use Rattle.class_world.proofs.Substs.{length_map}
use Rattle.member_methods.specs.Lists.{list_of}
use Rattle.member_methods.proofs.Arena.{list_pushed, pushed}
use Rattle.member_methods.proofs.lists.Lists.push.Goals as goal

pub returns : goal.returns
returns c =
    let s = c.self.inside in
    let view : c.args.self.now ≡ map (list_of s.numbers.items) s.parts.items = sym c.self.view_is in
    let size : length c.args.self.now ≡ length s.parts.items = ap length view ∙ length_map (list_of s.numbers.items) s.parts.items in
    let begins : c.len.result ≡ length s.numbers.items = omega (arith, c.len.ensures, s.numbers.ok.0) in
    let parts = c.in_ok-push.ensures.items ∙ ap (λ n. s.parts.items ++ record { from = n; len = length c.args.numbers.now } ∷ []) begins in
    list_pushed c.args.self.now _ c.args.numbers.now c.len-list.result (Contains c.args.numbers.now) c.requires (omega (arith, c.len-list.ensures, s.parts.ok.0, size))
    (ap (λ xs. map (list_of xs) c.push.new.self.items) c.in_ok-extend_from_slice.ensures.items ∙ ap (map (list_of (s.numbers.items ++ c.args.numbers.now))) parts ∙ pushed s.numbers.items c.args.numbers.now s.parts.items c.self.invariant ∙ ap (λ l. l ++ c.args.numbers.now ∷ []) (sym view))
    (λ m. (λ x. x, λ x. x))
