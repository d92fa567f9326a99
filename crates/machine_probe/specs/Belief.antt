-- What may be believed of a probe.
use Rattle.std.specs.Prelude.{◌≡◌, ℕ, List, Some, None}
use Rattle.tape_image.specs.Memory.{top_of}
use Rattle.odt_machine.specs.Machine.{Machine, word_at}
use Rattle.host_devices.specs.declared.item.Item.{Item}
use Rattle.honest_line.specs.Honest.{IsHonest}
use Rattle.looking_law.specs.Rows.{AreHonest, in_a_row}
use Rattle.probe_report.specs.declared.findings.Extent.TheVariants.{Top}
use Rattle.probe_report.specs.declared.findings.Findings.{Findings}
use Rattle.probe_report.specs.declared.findings.Sighting.TheVariants.{Number}
use Rattle.probe_report.specs.ProbeText.{changed_in_all}
use Rattle.looking_law.specs.Belief.{IsReadyMachine}

-- memory is what it was; what a look read is what it holds, so that nothing is put back; it ends where the search found its end; and no character
-- is said to have come changed
pub record IsRight (f : Findings) (before now : List ℕ) : Type 0 where
  pub memory : now ≡ before
  pub first : (number : ℕ) → f.first ≡ Number number → number ≡ word_at before f.address
  pub second : (number : ℕ) → f.second ≡ Some (Number number) → number ≡ word_at before f.address
  pub nothing_put_back : f.put_back ≡ None
  pub top : (top : ℕ) → f.search ≡ Some (Top top) → top_of before ≡ top
  pub unchanged : changed_in_all f.changes ≡ 0

-- over every machine that runs no program, and honest lines in a row
abbrev pub AreBelievable : Findings → List (List Item) → Type 0
AreBelievable f parts =
    (machine machine' : Machine) (lost : ℕ) → IsReadyMachine machine → AreHonest machine parts lost machine' → IsRight f machine.memory machine'.memory

-- over every machine that runs no program, and one honest line on which all the parts were said, one after another
abbrev pub AreBelievableOver : Findings → List (List Item) → Type 0
AreBelievableOver f parts =
    (machine machine' : Machine) (lost : ℕ) → IsReadyMachine machine → IsHonest machine (in_a_row parts) lost machine' →
    IsRight f machine.memory machine'.memory
