-- What passes over an honest line while the loading host hears things is a run of its world.
use Rattle.std.proofs.Common.{ℕ, List, [], ◌∷◌, ◌++◌}
use Rattle.std.specs.Prelude.{option_to_list}
use Rattle.host_core.specs.declared.heard.Heard.{Heard}
use Rattle.host_core.specs.Core.{Core}
use Rattle.host_core.specs.Laws.{led, replay}
use Rattle.host_core.specs.PhaseTable.{move}
use Rattle.line_world.specs.Scene.{Scene, over}
use Rattle.line_world.specs.Wire.{Wire, sent}
use Rattle.line_world.specs.World.{loading}
use Rattle.host_devices.specs.Dialogue.{dialogue}
use Rattle.honest_line.specs.Moves.{Moves, Passes}
use Rattle.honest_line.proofs.Leading.{Leads as AnyLeads, gives_lead, leads_then, moves_lead}
use Rattle.honest_line.proofs.Passings.{passing_said}

abbrev pub Leads : Scene → List ℕ → Scene → Type 0
Leads w keys next = AnyLeads loading w keys next

pub dialogue_leads : (things : List Heard) (core : Core) (x y : Wire) → Passes x (dialogue core things) y → Leads (over core x) (replay core things) (over (led core things) y)
dialogue_leads [] core x y moves = moves_lead loading core x y moves
dialogue_leads (what ∷ things) core x y (z, v, before, gives, passes) =
    let key = (move core what).key in
    let next = (move core what).next in
    leads_then loading (over core x) (over core z) (over (led next things) y) [] (option_to_list key ++ replay next things) (moves_lead loading core x z before)
    (leads_then loading (over core z) (over next (sent v (option_to_list key))) (over (led next things) y) (option_to_list key) (replay next things) (gives_lead loading core what z v gives)
    (dialogue_leads things next (sent v (option_to_list key)) y (passing_said Moves key (dialogue next things) v y passes)))
