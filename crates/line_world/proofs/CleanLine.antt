-- A line that loses nothing loads everything: the ends, the overlay and the keys together.
use Rattle.std.proofs.Common.{◌≡◌, List, Some}
use Rattle.host_core.specs.declared.phase.End.{End}
use Rattle.host_core.specs.Core.{ended}
use Rattle.line_world.specs.declared.event.Event.{Event}
use Rattle.line_world.specs.Scene.{Scene}
use Rattle.line_world.specs.World.{after, typed, IsCleanRun}
use Rattle.line_world.specs.Invariant.{IsKept}
use Rattle.line_world.specs.CleanLine.{IsAtOpening, LoadsClean}
use Rattle.line_world.proofs.CleanKeys.{clean_typed}
use Rattle.line_world.proofs.CleanEnds.{clean_ends}

pub loads_clean : (w : Scene) (events : List Event) (end : End) → IsAtOpening w → IsKept w → IsCleanRun w events → ended (after w events).core.phase ≡ Some end →
    LoadsClean w (after w events) (typed w events) end
loads_clean w events end opening k run is = clean_ends w events (typed w events) end opening k run is (λ lies. clean_typed w events k opening lies run)
