use Rattle.std.proofs.Common.{◌∙◌}
use Rattle.java_parse_term.proofs.Scans.{type_end_again}
use Rattle.java_parse_term.proofs.Answered.{end_answered}
use Rattle.java_parse_term.proofs.types.type_end.Goals as goal

pub returns-clause-found : goal.returns-clause-found
returns-clause-found c = end_answered c.args.toks.now c.args.at c.end_of_type.result c.end_of_type.ensures

pub returns-clause-only : goal.returns-clause-only
returns-clause-only c text x j p ends = c.end_of_type.ensures ∙ type_end_again text c.args.toks.now x c.args.at j p ends
