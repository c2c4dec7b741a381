use Rattle.std.proofs.Common.{sym, ap, subst, length, arith}
use Rattle.member_methods.specs.Keys.{found_in}
use Rattle.member_methods.specs.Own.{IsOwnerLimit}
use Rattle.member_methods.specs.Made.{AreMade}
use Rattle.member_methods.proofs.Whole.{all_named, all_inheritable, all_listed, all_from_interfaces}
use Rattle.member_methods.proofs.MethodLists.of.Goals as goal

pub all_made-requires-clause-few : goal.all_made-requires-clause-few
all_made-requires-clause-few c = let same = ap length c.as_slice.ensures.value in let few = c.in_ok-keys.ensures.few in omega (arith, same, few)

pub returns : goal.returns
returns c =
    let keyed = c.in_ok-keys.keyed.items in
    let made = c.in_ok-made.made in
    let all = subst (λ l. AreMade c.args.w.now l made) c.as_slice.ensures.value c.in_ok-made.ensures in
    let keys = c.in_ok-keys.ensures.keys in
    record {
      named = λ t n arity. all_named c.args.w.now (found_in c.in_ok-keys.keys) keyed keys t n arity made.tables made.members.items all.limit (λ d lt. (all.each d lt).members);
      inheritable = λ t n arity. all_inheritable c.args.w.now (found_in c.in_ok-keys.keys) keyed keys t n arity made.tables made.inheritable.items (subst (IsOwnerLimit c.args.w.now) (sym all.inheritable) all.limit)
          (λ d lt. (all.each d (let same = all.inheritable in omega (arith, lt, same))).inheritable);
      members = λ t m. all_listed c.args.w.now (found_in c.in_ok-keys.keys) keyed keys made.tables made.members.items all.limit (λ d lt. (all.each d lt).members) t m;
      from_interfaces = λ t m. all_from_interfaces c.args.w.now (found_in c.in_ok-keys.keys) keyed keys made.tables made.from_interfaces.items (subst (IsOwnerLimit c.args.w.now) (sym all.from_interfaces) all.limit)
          (λ d lt. (all.each d (let same = all.from_interfaces in omega (arith, lt, same))).from_interfaces) t m;
    }
