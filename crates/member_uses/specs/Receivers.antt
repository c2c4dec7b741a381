-- The plain receiver of a receiver of the code, and what stands before a dot.
use Rattle.java_core.specs.View.{plain}
use Rattle.member_uses.specs.declared.receiver.Receiver as declared_receiver
use Rattle.member_uses.specs.declared.receiver.Receiver.TheVariants as v
use Rattle.member_uses.specs.declared.receiver.Dotted as declared_dotted
use Rattle.member_uses.specs.declared.receiver.Dotted.TheVariants as w
use Rattle.member_uses.specs.Targets.{Receiver, OfThis, OfValue, OfType, OfSuper, Dotted, AValue, AType, Unknown}

abbrev pub receiver : declared_receiver.Receiver → Receiver
receiver v.This = OfThis
receiver (v.Value x) = OfValue (plain x)
receiver (v.Type n c) = OfType n c
receiver (v.Super t) = OfSuper t

abbrev pub before : declared_dotted.Dotted → Dotted
before w.Value = AValue
before (w.Type n c) = AType n c
before (w.Unknown n) = Unknown n
