use Rattle.type_names.specs.Known.{types_of}
use Rattle.type_names.proofs.Tested.{on_demand_by, single_by}
use Rattle.type_names.proofs.table.TypeNames.names_nothing.Goals as goal

pub returns-then-import : goal.returns-then-import
returns-then-import c = λ fs f stands home is.
    on_demand_by (types_of c.args.java fs) c.args.java fs f c.args.import.now c.as_slice-path.result.now c.args.home.user c.names_no_package.result c.if-import.true c.as_slice-path.ensures is
    (c.names_no_package.ensures fs stands.homes stands.library)

pub returns : goal.returns
returns c = λ fs f stands home is.
    single_by (types_of c.args.java fs) c.args.java fs f c.args.import.now c.as_slice-path.result.now c.names_no_type.result c.if-import.false c.as_slice-path.ensures
    (c.names_no_type.ensures (types_of c.args.java fs) f stands.types home is)
