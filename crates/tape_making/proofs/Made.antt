-- The tape of a text, and what is made of an input.
use Rattle.std.proofs.Common.{◌≡◌, ℕ, List, Option, None, Result, Ok, Err, get_or, ap, sym, ◌∙◌, subst}
use Rattle.std.specs.Prelude.{IfOk, IfErr, IsErrAnd}
use Rattle.tape_values.specs.Block.{BlockValue, top}
use Rattle.tape_values.specs.Tape.{TapeValue}
use Rattle.tape_image.specs.Image.{byte_at, image_of, image_below}
use Rattle.tape_image.specs.Plan.{plan_with, program_start}
use Rattle.byte_io.specs.Input.{IsTaken, TakesAtMost}
use Rattle.byte_io.specs.declared.input.InputFault.{InputFault}
use Rattle.byte_io.specs.declared.input.InputFault.TheVariants as input
use Rattle.tape_making.specs.Reading.{HoldsText, IsWordsFault}
use Rattle.tape_making.specs.Sheet.{bytes_on}
use Rattle.tape_making.specs.declared.sheet.Sheet.{Sheet}
use Rattle.tape_making.specs.declared.refusal.WordsFault.{WordsFault}
use Rattle.tape_making.specs.declared.refusal.WordsFault.TheVariants as words
use Rattle.tape_making.specs.MadeTape.{IsTapeOf, IsTapeSaid, byte_on}
use Rattle.tape_making.specs.Making.{IsNotMade, from_input, from_words, input_limit}

-- blocks with the same bytes have the same image
same_image : (xs ys : List BlockValue) → ((a : ℕ) → byte_at xs a ≡ byte_at ys a) → image_of xs ≡ image_of ys
unfolding image_of
same_image xs ys same = ap (λ (f : ℕ → Option ℕ). image_below f top) (λ i a. same a i)

pub said_by_sheet : (text : List ℕ) (start : ℕ) (sheet : Sheet) (bytes : List (Option ℕ)) (tape : TapeValue) → HoldsText text sheet → bytes ≡ bytes_on sheet → IsTapeOf (byte_on bytes) start tape
    → IsTapeSaid text start tape
said_by_sheet text start sheet bytes tape holds is made =
    let same : (a : ℕ) → byte_at tape.blocks a ≡ byte_at holds.rows a = λ a. made.bytes a ∙ (ap (λ (bs : List (Option ℕ)). get_or bs a None) is ∙ holds.holds.bytes a) in
    record {
      rows = holds.rows;
      are = holds.are;
      is_tape = record { bytes = same; short = made.short; rising = made.rising; start_is = made.start_is };
      plan = ap (λ s. plan_with (image_of tape.blocks) (program_start s)) made.start_is ∙ ap (λ image. plan_with image (program_start start)) (same_image tape.blocks holds.rows same);
    }

-- ---- faults

pub fault_is : {A E : Type 0} (r : Result A E) (fault : E) (F : E → Type 0) → IsErrAnd r (λ e. e ≡ fault) → F fault → IfErr r F
fault_is (Ok x) fault F is holds = absurd is
fault_is (Err e) fault F is holds = subst F (sym is) holds

pub no_value : {A E : Type 0} (r : Result A E) (fault : E) (P : A → Type 0) → IsErrAnd r (λ e. e ≡ fault) → IfOk r P
no_value (Ok x) fault P is = absurd is
no_value (Err e) fault P is = tt

pub taken_at_most : (before after : Option (List ℕ)) (text : List ℕ) → IsTaken before after input_limit text → TakesAtMost before after input_limit
taken_at_most before after text is = record { taken = text; consumed = is.consumed; within = is.within }

pub not_read : (before after : Option (List ℕ)) (fault : InputFault) → TakesAtMost before after input_limit → IsNotMade before after (from_input fault)
not_read before after input.Read at_most = at_most
not_read before after input.Memory at_most = at_most

pub not_words : (before after : Option (List ℕ)) (text : List ℕ) (fault : WordsFault) → IsTaken before after input_limit text → IsWordsFault text fault → IsNotMade before after (from_words fault)
not_words before after text (words.Refused refusal) taken wrong = (text, taken, wrong)
not_words before after text words.Memory taken wrong = taken_at_most before after text taken
