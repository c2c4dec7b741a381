use Rattle.std.proofs.Common.{◌∙◌, sym, true≢false}
use Rattle.type_names.proofs.Tested.{user_names, library_names, built_in_names}
use Rattle.type_names.proofs.packages.names_no_package.Goals as goal

pub returns-then-from_user : goal.returns-then-from_user
returns-then-from_user c = λ fs is library. user_names c.args.java fs c.args.packages.now c.args.path.now c.args.from_user c.has.result is c.if-from_user.true c.has.ensures

pub returns-then-is_built_in : goal.returns-then-is_built_in
returns-then-is_built_in c = λ fs is library. (
  λ e. absurd (cc e),
  λ none. absurd (built_in_names c.args.java fs c.args.path.now c.args.from_user (c.is_built_in.ensures.0 c.if-is_built_in.true) none),
)

pub returns : goal.returns
returns c = λ fs is library.
    library_names c.args.java fs c.args.library.now c.args.path.now c.args.from_user c.has-2.result library c.if-from_user.false
    (λ h. true≢false (sym (c.is_built_in.ensures.1 h) ∙ c.if-is_built_in.false)) c.has-2.ensures
