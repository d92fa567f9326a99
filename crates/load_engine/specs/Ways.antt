-- What the host of a load makes of what it hears.
use Rattle.std.specs.Prelude.{option_to_list}
use Rattle.host_core.specs.declared.phase.End.{End}
use Rattle.host_core.specs.Core.{Core, ended}
use Rattle.host_core.specs.PhaseTable.{move}
use Rattle.host_devices.specs.declared.item.Kept.{Kept}
use Rattle.host_devices.specs.Dialogue.{news_between}
use Rattle.engine.specs.Ways.{Ways}
use Rattle.load_engine.specs.declared.hosting.Loading.{Loading}

abbrev pub loading : Core → Loading
loading core = record { core = core }

abbrev pub loadings : Ways Loading End Kept
loadings = record {
  step = λ l heard. loading (move l.core heard).next;
  keys = λ l heard. option_to_list (move l.core heard).key;
  news = λ l heard. news_between l.core (move l.core heard).next;
  ended = λ l. ended l.core.phase;
}
