-- A load as those tell of it with whom it is done: the surroundings and the output, the line and the keeper.
use Rattle.std.specs.Prelude.{◌≡◌, ◌⊎◌, List, Option, IsSome, option_map}
use Rattle.std.specs.declared.io.Write.{Ghosts as Write}
use Rattle.host_devices.specs.declared.keep.Keep.{Ghosts as Keep}
use Rattle.host_devices.specs.declared.line.Line.{Ghosts as Line}
use Rattle.host_devices.specs.Told.{Gains}
use Rattle.host_devices.specs.Devices.{line_told}
use Rattle.engine.specs.Keeping.{progress_calls}
use Rattle.machine_load.specs.declared.fault.LoadFault.{LoadFault}
use Rattle.machine_load.specs.declared.lived.Lived.{Lived}
use Rattle.machine_load.specs.declared.outcome.Outcome.{Outcome}
use Rattle.machine_load.specs.declared.surroundings.Surroundings.{Ghosts as Surroundings}
use Rattle.machine_load.specs.Asked.{Change, LoadTask, ◌⇒◌}
use Rattle.machine_load.specs.Called.{asked_by, IsAskedBefore}
use Rattle.machine_load.specs.Driving.{KeeperTells, IsDrivenOn}
use Rattle.machine_load.specs.LoadFault.{Gone, IsLoadFault, gone}
use Rattle.console_lines.specs.Dialling.{LineRequest, Call}
use Rattle.machine_load.specs.Load.{SurroundingsTold, Ending, Finish, HowItGoesOn, Setting, IsNeverBegun, IsReported}

-- what surroundings tell
abbrev pub around_of : {S L K : Type 0} → Surroundings S L K → S → SurroundingsTold
around_of tell around = record { steps = tell.steps around; record_text = tell.record_text around; disk = tell.disk around; left = tell.left }

-- the same, and the lines that were given back
abbrev pub gone_of : {S L K : Type 0} → Surroundings S L K → S → Gone
gone_of tell around = gone (around_of tell around) (tell.lines around)

-- what is known of a load at a moment: what its surroundings tell, the lines that were given back and its output, what was asked for lines, and whom a
-- connection leads to
pub record Scene : Type 0 where
  pub setting : Setting
  pub asked : Option (List LineRequest)
  pub call : Call

-- what surroundings and an output tell
abbrev pub scene : {S L K W : Type 0} → Surroundings S L K → Write W → S → W → Scene
scene tell write around out = record {
  setting = record { around = around_of tell around; lines = tell.lines around; out = write.contents out };
  asked = tell.asked around;
  call = tell.call around;
}

-- what the keepers tell that surroundings begin
abbrev pub keeper_of : {S L K : Type 0} → Surroundings S L K → Keep K → KeeperTells K
keeper_of around tell = record { calls = progress_calls tell; begins = around.begins; text = around.kept_text }

-- what a load gives back, and what its line tells then
abbrev pub ending : {L : Type 0} → Line L → Outcome L → Ending
ending tell outcome = record { end = outcome.end; marked = outcome.marked; line = option_map (line_told tell) outcome.line }

-- what a life came to, and what its line tells
abbrev pub finish_told : {L : Type 0} → Line L → Lived L → Finish
finish_told tell lived = record {
  looks = lived.looks;
  stubs = lived.stubs;
  again = lived.again;
  core = lived.core;
  end = lived.end;
  line = option_map (line_told tell) lived.line;
}

-- what the lines tell that surroundings reach, and the keepers that they begin
pub record LoadTells (L K : Type 0) : Type 1 where
  pub line : Line L
  pub keeper : KeeperTells K

abbrev pub tells_of : {S L K : Type 0} → Surroundings S L K → Line L → Keep K → LoadTells L K
tells_of around line keep = record { line = line; keeper = keeper_of around keep }

-- a load was reported, and gives its line back to whoever would listen
pub record IsLoaded {L K : Type 0} (tells : LoadTells L K) (task : LoadTask) (scenes : Change Scene) (outcome : Outcome L) : Type 0 where
  -- the report is of the host that the life ended with, over the line that was reached and the keeper that was begun
  pub reported : IsReported (IsDrivenOn tells.keeper) task (scenes.before.setting ⇒ scenes.after.setting) (ending tells.line outcome)
  pub stubs : outcome.stubs ≡ reported.stubs
  pub line : IsSome outcome.line ⊎ IsNeverBegun outcome.end
  pub asked : Gains scenes.before.asked scenes.after.asked (asked_by scenes.before.call outcome.line)

-- or it came to nothing
pub record IsNotLoaded {K : Type 0} (keeper : KeeperTells K) (task : LoadTask) (scenes : Change Scene) (why : LoadFault) : Type 0 where
  -- also a life whose report could not be written was lived over its line and its keeper
  pub fault : IsLoadFault (IsDrivenOn keeper) task (scenes.before.setting ⇒ scenes.after.setting) why
  pub asked : IsAskedBefore scenes.before.call scenes.before.asked scenes.after.asked why

-- what is said of a load by somebody who does not know of which type its line is: it was reported, and ended so
pub record IsLoadReported (GoesSo : HowItGoesOn) (task : LoadTask) (scenes : Change Scene) (ending : Ending) : Type 0 where
  pub reported : IsReported GoesSo task (scenes.before.setting ⇒ scenes.after.setting) ending
  pub asked : Gains scenes.before.asked scenes.after.asked (asked_by scenes.before.call ending.line)

-- or it came to nothing
pub record IsLoadUnreported (GoesSo : HowItGoesOn) (task : LoadTask) (scenes : Change Scene) (why : LoadFault) : Type 0 where
  pub fault : IsLoadFault GoesSo task (scenes.before.setting ⇒ scenes.after.setting) why
  pub asked : IsAskedBefore scenes.before.call scenes.before.asked scenes.after.asked why
