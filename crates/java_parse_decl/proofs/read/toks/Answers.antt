use Rattle.std.proofs.Common.{arith}
use Rattle.java_grammar.proofs.Reading.{one_toks, as_many}
use Rattle.java_parse_expr.proofs.Answered.{readable}
use Rattle.java_parse_decl.proofs.read.toks.Goals as goal

pub returns-clause-one : goal.returns-clause-one
returns-clause-one c us are = one_toks c.args.text.now c.toks_of.new.names c.len-many.ensures.distinct c.args.tokens.now us c.in_ok-toks.toks are c.in_ok-toks.ensures.toks

pub returns-clause-ready : goal.returns-clause-ready
returns-clause-ready c = readable c.args.text.now c.toks_of.new.names c.args.tokens.now c.in_ok-toks.toks c.requires.lexed c.in_ok-toks.ensures.toks (omega arith)

pub returns-clause-count : goal.returns-clause-count
returns-clause-count c = as_many c.args.text.now c.toks_of.new.names c.args.tokens.now c.in_ok-toks.toks c.in_ok-toks.ensures.toks
