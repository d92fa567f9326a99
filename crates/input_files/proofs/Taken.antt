-- What is so of taken tapes is so of the inputs that they were taken of.
use Rattle.std.proofs.Common.{◌≡◌, ◌⊎◌, ℕ, List, [], inl, inr, refl, sym, subst}
use Rattle.input_files.specs.Tapes.{BlamesNoTape}
use Rattle.input_files.specs.declared.tapes.Tapes.{Tapes}
use Rattle.endings.specs.declared.command_fault.CommandFault.{CommandFault}
use Rattle.endings.specs.declared.command_fault.CommandFault.TheVariants as fault
use Rattle.endings.specs.declared.failure.Failure.{Failure}
use Rattle.endings.specs.Failure.{IsFailureOf}
use Rattle.endings.specs.Held.{Held}
use Rattle.input_files.specs.Opening.{Name}
use Rattle.input_files.specs.Inputs.{Known, Inputs, AreOpened, OfInputs, OfTapes, FailsUnopened, files_of, only_input}
use Rattle.input_files.specs.Intake.{Intake}
use Rattle.input_files.specs.Taking.{AreNotRehearsed, AreTakenOf, AreUntaken, FailsToTake, OfRehearsed, OfTakenInputs, behind_first, rehearsed_files, rehearsed_tapes}
use Rattle.request_values.specs.declared.request.Rehearsal.{Rehearsal}

-- what is so of the inputs is more, and so it is once something was written
pub inputs_more : (names : List Name) (held : List Known) (before between after : Held) (P Q : Inputs → Type 0) → ((inputs : Inputs) → P inputs → Q inputs) → after.input ≡ between.input
    → OfInputs names held before between P → OfInputs names held before after Q
inputs_more names held before between after P Q more same (inl (is, h)) = inl (is, subst (λ rest. Q (only_input before.input rest)) (sym same) (more _ h))
inputs_more names held before between after P Q more same (inr (is, files, kept)) =
    inr (is, record { rests = files.rests; is_so = more _ files.is_so }, subst (λ rest. rest ≡ before.input) (sym same) kept)

pub tapes_more : (names : List Name) (before between after : Intake) (P Q : Inputs → Type 0) → ((inputs : Inputs) → P inputs → Q inputs) → after.opened ≡ between.opened
    → after.held.input ≡ between.held.input → OfTapes names before between P → OfTapes names before after Q
tapes_more names before between after P Q more opened same is = record {
  held = is.held;
  opened = subst (AreOpened (files_of names) is.held before.opened) (sym opened) is.opened;
  is_so = inputs_more names is.held before.held between.held after.held P Q more same is.is_so;
}

-- what is so of taken tapes is so of the inputs that their names stand for, also over an output that is written to then
pub names_taken : (names : List Name) (before between after : Intake) (taken : Tapes) (Q : Known → Inputs → Type 0) (out : Known) → out ≡ before.held.out
    → after.opened ≡ between.opened → after.held.input ≡ between.held.input → OfTapes names before between (AreTakenOf taken) → OfTakenInputs taken (Q out)
    → OfTapes names before after (Q before.held.out)
names_taken names before between after taken Q out out_is opened same is of =
    tapes_more names before between after (AreTakenOf taken) (Q before.held.out) (λ inputs are. subst (λ (o : Known). Q o inputs) out_is (of inputs are)) opened same is

-- tapes that were not taken: what comes of that is so of the inputs
pub untaken : (names : List Name) (before after : Intake) (failure : Failure) (Q : Inputs → Type 0) → ((inputs : Inputs) → FailsToTake inputs failure → Q inputs)
    → AreUntaken names before after failure → FailsUnopened (files_of names) before after failure ⊎ OfTapes names before after Q
untaken names before after failure Q more (inl unopened) = inl unopened
untaken names before after failure Q more (inr is) = inr (tapes_more names before after after (λ inputs. FailsToTake inputs failure) Q more refl refl is)

-- the same of the tapes of a rehearsal
pub rehearsed_more : (rehearsal : Rehearsal) (before between after : Intake) (P Q : Known → Inputs → Type 0) → ((script : Known) (inputs : Inputs) → P script inputs → Q script inputs)
    → after.opened ≡ between.opened → after.held.input ≡ between.held.input → OfRehearsed rehearsal before between P → OfRehearsed rehearsal before after Q
rehearsed_more rehearsal before between after P Q more opened same is = record {
  script = is.script;
  held = is.held;
  opened = subst (AreOpened (rehearsed_files rehearsal) (behind_first is.script is.held) before.opened) (sym opened) is.opened;
  is_so = inputs_more (rehearsed_tapes rehearsal) is.held before.held between.held after.held (P is.script) (Q is.script) (more is.script) same is.is_so;
}

pub rehearsed_taken : (rehearsal : Rehearsal) (before between after : Intake) (taken : Tapes) (script : Known) (Q : Known → Known → Inputs → Type 0) (out : Known) → out ≡ before.held.out
    → after.opened ≡ between.opened → after.held.input ≡ between.held.input → OfRehearsed rehearsal before between (λ held inputs. AreTakenOf taken inputs × (script ≡ held))
    → OfTakenInputs taken (Q out script) → OfRehearsed rehearsal before after (Q before.held.out)
rehearsed_taken rehearsal before between after taken script Q out out_is opened same is of =
    rehearsed_more rehearsal before between after (λ held inputs. AreTakenOf taken inputs × (script ≡ held)) (Q before.held.out)
    (λ held inputs are. subst (λ (o : Known). Q o held inputs) out_is (subst (λ (s : Known). Q out s inputs) are.1 (of inputs are.0))) opened same is

pub not_rehearsed : (rehearsal : Rehearsal) (before after : Intake) (failure : Failure) (Q : Known → Inputs → Type 0) → ((script : Known) (inputs : Inputs) → FailsToTake inputs failure → Q script inputs)
    → AreNotRehearsed rehearsal before after failure → FailsUnopened (rehearsed_files rehearsal) before after failure ⊎ OfRehearsed rehearsal before after Q
not_rehearsed rehearsal before after failure Q more (inl unopened) = inl unopened
not_rehearsed rehearsal before after failure Q more (inr is) = inr (rehearsed_more rehearsal before after after (λ script inputs. FailsToTake inputs failure) Q more refl refl is)

-- a fault that blames no tape is called the same, whatever names the tapes have
pub blames_none : (why : CommandFault) (names : List Name) (script : List ℕ) (failure : Failure) → BlamesNoTape why → IsFailureOf why [] script failure → IsFailureOf why names script failure
blames_none (fault.Tape number refusal) names script failure none is = absurd none
blames_none (fault.ReadTape number) names script failure none is = absurd none
blames_none (fault.Script number) names script failure none is = is
blames_none fault.TooLarge names script failure none is = is
blames_none fault.ReadScript names script failure none is = is
blames_none fault.ReadKeys names script failure none is = is
blames_none fault.Write names script failure none is = is
blames_none fault.Memory names script failure none is = is
