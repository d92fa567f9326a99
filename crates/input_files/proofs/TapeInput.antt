-- What the bytes that were taken say of the whole input.
use Rattle.std.proofs.Common.{◌≡◌, ℕ, List, [], ◌++◌, Option, Some, None, refl, sym, ap, ◌∙◌, subst, append-nil, ⊎_elim}
use Rattle.std.specs.Io.KnownBytes.{Consumes, IsAtEnd}
use Rattle.tape_blocks.specs.Refusal.{IsRefused}
use Rattle.tape_blocks.specs.Standing.{IsRefusedForGood}
use Rattle.tape_blocks.specs.declared.fault.Fault.{Fault}
use Rattle.std.specs.Prelude.{◌⊎◌}
use Rattle.tape_blocks.specs.Tape.{TapeValue}
use Rattle.tape_blocks.specs.declared.input.FromError.{FromError}
use Rattle.tape_blocks.specs.declared.input.FromError.TheVariants.{Tape}
use Rattle.tape_blocks.specs.Input.{IsReadFrom, input_limit}
use Rattle.std.proofs.Common.{Result, Ok, Err}
use Rattle.byte_io.specs.Input.{TakesAtMost}
use Rattle.tape_blocks.specs.Told.{IsAsTold}
use Rattle.input_files.specs.TapeFile.{IsRefusedInput}
use Rattle.input_files.specs.Tapes.{IsTapeTaken}

-- what a reader has left, where it tells
abbrev pub left_of : Option (List ℕ) → List ℕ
left_of None = []
left_of (Some bytes) = bytes

pub whole : (before after : Option (List ℕ)) (bytes : List ℕ) → Consumes before after bytes → IsAsTold before (bytes ++ left_of after)
whole None after bytes h = tt
whole (Some xs) None bytes h = absurd h
whole (Some xs) (Some ys) bytes h = sym h

pub ends : (after : Option (List ℕ)) → IsAtEnd after → left_of after ≡ []
ends None h = refl
ends (Some ys) h = h

-- bytes that were taken and are refused, at the end or whatever follows: the input is refused
refused_input : (before after : Option (List ℕ)) (taken : List ℕ) (fault : Fault) → Consumes before after taken → IsRefused taken fault.at fault.why → IsAtEnd after ⊎ IsRefusedForGood taken fault → IsRefusedInput before fault
refused_input before after taken fault consumed refused cause = record {
  input = taken ++ left_of after;
  is_input = whole before after taken consumed;
  refused = ⊎_elim (λ end. subst (λ l. IsRefused l fault.at fault.why) (sym (ap (λ l. taken ++ l) (ends after end) ∙ append-nil taken)) refused) (λ good. good (left_of after)) cause;
}

pub takes_at_most : (before after : Option (List ℕ)) (result : Result (TapeValue × ℕ) FromError) → IsReadFrom before after result → TakesAtMost before after input_limit
takes_at_most before after result read = record { taken = read.taken; consumed = read.consumed; within = read.within }

pub refused_reading : (before after : Option (List ℕ)) (error : FromError) (fault : Fault) → error ≡ Tape fault → IsReadFrom before after (Err error) → IsRefusedInput before fault
refused_reading before after error fault is read =
    let known : IsReadFrom before after (Err (Tape fault)) = subst (λ e. IsReadFrom before after (Err e)) is read in
    refused_input before after known.taken fault known.consumed known.answer.0 known.answer.1

pub tape_taken : (before after : Option (List ℕ)) (tape : TapeValue) (count : ℕ) (read : IsReadFrom before after (Ok (tape, count))) → IsTapeTaken before after (record { text = read.taken; tape = tape })
tape_taken before after tape count read = record { is_tape = read.answer.1; consumed = read.consumed }
