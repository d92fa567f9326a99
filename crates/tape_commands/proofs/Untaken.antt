-- Commands whose tapes were not taken, and what was written of others.
use Rattle.request_values.specs.Change.{◌⇒◌}
use Rattle.std.proofs.Common.{◌≡◌, ℕ, Bool, List, inl, sym, subst}
use Rattle.std.proofs.KnownBytes.{Appends-kept, Keeps-refl}
use Rattle.std.specs.Io.KnownBytes.{Keeps}
use Rattle.input_files.specs.Tapes.{AreTapesFault}
use Rattle.endings.specs.declared.command_fault.CommandFault.{CommandFault}
use Rattle.endings.specs.declared.command_fault.CommandFault.TheVariants as fault
use Rattle.endings.specs.Failure.{IsFailureOf}
use Rattle.endings.specs.declared.failure.Failure.{Failure}
use Rattle.host_core.specs.declared.phase.End.{End}
use Rattle.tape_commands.specs.Dialogue.{IsDialogue, IsDialogueFault}
use Rattle.request_values.specs.declared.request.Stage.{Stage}
use Rattle.tape_commands.specs.CheckText.{IsChecked}
use Rattle.tape_commands.specs.CheckFault.{IsCheckFault}
use Rattle.tape_commands.specs.Rehearsal.{IsRehearseFault}
use Rattle.tape_commands.specs.Rehearsing.{IsRehearsedInto}
use Rattle.input_files.specs.Inputs.{Known, Inputs}
use Rattle.input_files.specs.Opening.{Name}

module _ (inputs rests : List Known) (before after : Known) where
  -- nothing was written
  pub check_untaken : (blocks : Bool) → after ≡ before → (why : CommandFault) → AreTapesFault inputs rests why → IsCheckFault blocks (inputs ⇒ rests) (before ⇒ after) why
  check_untaken blocks same (fault.Tape number refusal) failed = (failed, subst (Keeps before) (sym same) (Keeps-refl before))
  check_untaken blocks same (fault.ReadTape number) failed = (failed, subst (Keeps before) (sym same) (Keeps-refl before))
  check_untaken blocks same fault.Memory failed = subst (Keeps before) (sym same) (Keeps-refl before)
  check_untaken blocks same other failed = absurd failed

  pub dialogue_untaken : (stage : Stage) → after ≡ before → (why : CommandFault) → AreTapesFault inputs rests why
      → IsDialogueFault (inputs ⇒ rests) stage (before ⇒ after) why
  dialogue_untaken stage same (fault.Tape number refusal) failed = (failed, subst (Keeps before) (sym same) (Keeps-refl before))
  dialogue_untaken stage same (fault.ReadTape number) failed = (failed, subst (Keeps before) (sym same) (Keeps-refl before))
  dialogue_untaken stage same fault.Memory failed = inl (subst (Keeps before) (sym same) (Keeps-refl before))
  dialogue_untaken stage same other failed = absurd failed

  -- what was written is passed on
  pub checked_on : (blocks : Bool) (between : Known) → Keeps between after → IsChecked blocks (inputs ⇒ rests) (before ⇒ between) → IsChecked blocks (inputs ⇒ rests) (before ⇒ after)
  checked_on blocks between kept is = record { texts = is.texts; taken = is.taken; text = is.text; is_text = is.is_text; written = Appends-kept before between after _ is.written kept }

  pub dialogue_on : (between : Known) (stage : Stage) (end : End) → Keeps between after
      → IsDialogue (inputs ⇒ rests) stage (before ⇒ between) end → IsDialogue (inputs ⇒ rests) stage (before ⇒ after) end
  dialogue_on between stage end kept is = record { text = is.text; is_text = is.is_text; written = Appends-kept before between after _ is.written kept }

  pub rehearsal_untaken : (script : Known) → after ≡ before → (why : CommandFault) → AreTapesFault inputs rests why → IsRehearseFault (inputs ⇒ rests) script (before ⇒ after) why
  rehearsal_untaken script same (fault.Tape number refusal) failed = (failed, subst (Keeps before) (sym same) (Keeps-refl before))
  rehearsal_untaken script same (fault.ReadTape number) failed = (failed, subst (Keeps before) (sym same) (Keeps-refl before))
  rehearsal_untaken script same fault.Memory failed = subst (Keeps before) (sym same) (Keeps-refl before)
  rehearsal_untaken script same other failed = absurd failed

  -- a fault of tapes is called the same, whatever the script's name is
  pub called_without_script : (why : CommandFault) (names : List Name) (script other : List ℕ) (failure : Failure) → AreTapesFault inputs rests why
      → IsFailureOf why names script failure → IsFailureOf why names other failure
  called_without_script (fault.Tape number refusal) names script other failure failed is = is
  called_without_script (fault.ReadTape number) names script other failure failed is = is
  called_without_script fault.Memory names script other failure failed is = is
  called_without_script why names script other failure failed is = absurd failed

-- a rehearsal that was written is passed on
pub rehearsed_on : (script : Known) (inputs : Inputs) (before between after : Known) → Keeps between after → IsRehearsedInto script inputs before between
    → IsRehearsedInto script inputs before after
rehearsed_on script inputs before between after kept is =
    record { text = is.text; rehearsed = is.rehearsed; written = Appends-kept before between after is.text is.written kept }
