-- What passes over an honest line while a reading host hears things is a run of its world.
use Rattle.std.proofs.Common.{ℕ, List, [], ◌∷◌, ◌++◌}
use Rattle.std.specs.Prelude.{option_to_list}
use Rattle.host_core.specs.declared.heard.Heard.{Heard}
use Rattle.reading_core.specs.Reader.{Reader}
use Rattle.reading_core.specs.Laws.{led, replay}
use Rattle.reading_core.specs.ReadingTable.{ask}
use Rattle.line_world.specs.Scene.{over}
use Rattle.line_world.specs.Wire.{Wire, sent}
use Rattle.honest_line.specs.Moves.{Moves, Passes}
use Rattle.honest_line.proofs.Leading.{Leads as AnyLeads, gives_lead, leads_then, moves_lead}
use Rattle.honest_line.proofs.Passings.{passing_said}
use Rattle.looking_law.specs.Belief.{dialogue}
use Rattle.looking_law.specs.Inquiry.{Inquiry, reading}

abbrev pub Leads : Inquiry → List ℕ → Inquiry → Type 0
Leads w keys next = AnyLeads reading w keys next

pub dialogue_leads : (things : List Heard) (r : Reader) (x y : Wire) → Passes x (dialogue r things) y → Leads (over r x) (replay r things) (over (led r things) y)
dialogue_leads [] r x y moves = moves_lead reading r x y moves
dialogue_leads (what ∷ things) r x y (z, v, before, gives, passes) =
    let key = (ask r what).key in
    let next = (ask r what).next in
    leads_then reading (over r x) (over r z) (over (led next things) y) [] (option_to_list key ++ replay next things) (moves_lead reading r x z before)
    (leads_then reading (over r z) (over next (sent v (option_to_list key))) (over (led next things) y) (option_to_list key) (replay next things) (gives_lead reading r what z v gives)
    (dialogue_leads things next (sent v (option_to_list key)) y (passing_said Moves key (dialogue next things) v y passes)))
