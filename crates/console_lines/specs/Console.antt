-- What a console and an output tell, before and after something was done there.
use Rattle.std.specs.Prelude.{ℕ, List, Option}
use Rattle.std.specs.declared.io.Write.{Ghosts as Write}
use Rattle.console_lines.specs.declared.consoles.Consoles.{Ghosts as Consoles}
use Rattle.host_devices.specs.Devices.{LineTold}
use Rattle.console_lines.specs.Dialling.{Call, LineRequest}

-- what was asked for a line, where that one leads, what the lines tell that were given back, and what the output holds, each where it tells
pub record ConsoleTold : Type 0 where
  pub asked : Option (List LineRequest)
  pub call : Call
  pub lines : Option (List LineTold)
  pub out : Option (List ℕ)

-- what these consoles, of which this one is called, and this output tell
abbrev pub console_told : {C L W : Type 0} → Consoles C L → Write W → Call → C → W → ConsoleTold
console_told tell write call consoles out =
    record { asked = tell.asked consoles; call = call; lines = tell.lines consoles; out = write.contents out }
