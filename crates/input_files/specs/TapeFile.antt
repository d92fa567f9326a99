-- What an input says of a tape that is refused.
use Rattle.std.specs.Prelude.{ℕ, List, Option}
use Rattle.tape_blocks.specs.Told.{IsAsTold}
use Rattle.tape_blocks.specs.Refusal.{IsRefused}
use Rattle.tape_blocks.specs.declared.fault.Fault.{Fault}

-- the input is refused for this fault
pub record IsRefusedInput (known : Option (List ℕ)) (fault : Fault) : Type 0 where
  pub input : List ℕ
  pub is_input : IsAsTold known input
  pub refused : IsRefused input fault.at fault.why
