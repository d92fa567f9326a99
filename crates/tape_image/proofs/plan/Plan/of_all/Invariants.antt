use Rattle.std.proofs.Common.{◌≡◌, take}
use Rattle.std.specs.Prelude.{All}
use Rattle.tape_values.specs.Tape.{IsSound}
use Rattle.tape_image.specs.Image.{byte_at}
use Rattle.tape_image.specs.Pages.{IsLaid}
use Rattle.tape_image.specs.Plan.{blocks_of_all, start_of_all}
use Rattle.tape_image.proofs.plan.Plan.of_all.Given as goal

-- the tapes so far are laid, and the start is that of the last of them
abbrev pub invariant-loop-tape : goal.invariant-loop-tape
invariant-loop-tape l = record {
  laid : IsLaid (byte_at (blocks_of_all (take l.tape-index l.tapes))) l.initial.pages l.pages;
  start : l.start ≡ start_of_all (take l.tape-index l.tapes);
  sound : All IsSound (take l.tape-index l.tapes);
}
