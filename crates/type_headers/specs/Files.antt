-- What is known of the types of one file. No header has the file's number, which is 0 here.
use Rattle.std.specs.Prelude.{List, map}
use Rattle.class_world.specs.declared.world.TypeInfo.{TypeInfo}
use Rattle.type_names.specs.Known.{File}
use Rattle.type_headers.specs.Declared.{header}

abbrev pub headers_in : File → List TypeInfo
headers_in f = map (λ d. header (record { file = f; number = 0; decl = d })) f.unit.types
