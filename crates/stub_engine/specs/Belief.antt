-- What may be believed of the engine's answer over a line at whose end a stub runs.
use Rattle.std.specs.Prelude.{List, Option}
use Rattle.host_devices.specs.declared.item.Item.{Item}
use Rattle.engine.specs.Session.{HasGained}
use Rattle.exchange_law.specs.Law.{IsExchanged, MayExchange}
use Rattle.exchange_law.specs.Line.{Link, Passes}
use Rattle.exchange_law.specs.Station.{Program}
use Rattle.stub_engine.specs.Exchanging.{Exchanging}

-- the exchange may be trusted over every station's line at which it may begin, where what was said passed there
abbrev pub IsBelievable : Exchanging → List Item → Type 0
IsBelievable turns said =
    (program : Program) (x y : Link) → MayExchange turns.chunks x → Passes program x said y
    → IsExchanged program turns.plan turns.chunks x.machine.odt.memory turns.new y

-- the same of a line that tells what was said on it
abbrev pub IsBelievableOver : Exchanging → Option (List Item) → Option (List Item) → Type 0
IsBelievableOver turns line line' = (said : List Item) → HasGained line line' said → IsBelievable turns said
