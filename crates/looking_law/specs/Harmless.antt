-- A host that only looks does no harm, and what it reads is true.
use Rattle.std.specs.Prelude.{◌≡◌, ℕ, ◌^◌, ◌<◌, ◌≤◌, ◌⊎◌, Bool, true, false, ◌==◌, List, [], ◌∷◌, length, get_or, ⊤}
use Rattle.octal.specs.Octal.{is_digit}
use Rattle.tape_image.specs.Memory.{top_of}
use Rattle.odt_machine.specs.Machine.{Machine, IsMachine, is_word, word_at}
use Rattle.odt_machine.specs.Laws.{is_running}
use Rattle.host_core.specs.Console.{carriage_return, resynchronise, slash}
use Rattle.line_world.specs.declared.event.Event.{Event}
use Rattle.line_world.specs.Wire.{most_waiting}
use Rattle.reading_core.specs.declared.phase.Phase.{Phase}
use Rattle.reading_core.specs.declared.phase.Phase.TheVariants.{Ended}
use Rattle.reading_core.specs.declared.phase.End.{End}
use Rattle.reading_core.specs.declared.phase.End.TheVariants.{GaveUp, NoWord}
use Rattle.reading_core.specs.Addresses.{AreAddresses}
use Rattle.reading_core.specs.Reader.{Manner, Reader, begun_in}
use Rattle.looking_law.specs.Inquiry.{Inquiry, opened, after, typed}

-- memory has a word at each address that was read, and it is the number that was read there
pub record HoldsRead (memory : List ℕ) (r : Reader) : Type 0 where
  pub lies : (i : ℕ) → i < length r.values → is_word memory (get_or r.addresses i 0) ≡ true
  pub holds : (i : ℕ) → i < length r.values → get_or r.values i 0 ≡ word_at memory (get_or r.addresses i 0)

-- an end has its cause: it gives up after more losses than the patience, and finds no word past the memory alone
abbrev pub EndIsPaid : End → List ℕ → (patience lost : ℕ) → Type 0
EndIsPaid GaveUp memory patience lost = patience < lost
EndIsPaid (NoWord a) memory patience lost = top_of memory ≤ a
EndIsPaid end memory patience lost = ⊤

-- a phase has its cause, where it is an end
abbrev pub HasCause : Phase → List ℕ → (patience lost : ℕ) → Type 0
HasCause (Ended end) memory patience lost = EndIsPaid end memory patience lost
HasCause phase memory patience lost = ⊤

-- a key of a host that only looks. Right after `/`, where a digit would change the word, it is CR, which closes the
-- word as it was, or `Z`; else it is a digit, `/`, CR or `Z`
abbrev pub IsLooking : Bool → ℕ → Type 0
IsLooking true key = (key ≡ carriage_return) ⊎ (key ≡ resynchronise)
IsLooking false key = (is_digit key ≡ true) ⊎ ((key ≡ slash) ⊎ ((key ≡ carriage_return) ⊎ (key ≡ resynchronise)))

-- all these keys are so, where the key before them was `/` or not: no digit comes right after `/`, and `G` never
abbrev pub OnlyLook : Bool → List ℕ → Type 0
OnlyLook behind_slash [] = ⊤
OnlyLook behind_slash (key ∷ keys) = IsLooking behind_slash key × OnlyLook (key == slash) keys

-- what holds against the memory before: it is what it was, what was read is what it holds, no mishap and no end is
-- without its losses, and nothing was heard that no loss explains
pub record IsHarmless (memory : List ℕ) (w : Inquiry) : Type 0 where
  pub same : w.machine.memory ≡ memory
  pub read : HoldsRead memory w.core
  pub spent : w.core.spent ≤ w.lost
  pub foreign : w.core.foreign ≡ 0
  pub cause : HasCause w.core.phase memory w.core.patience w.lost

-- in every manner and over every machine that runs no program, whatever it is in the middle of and whatever few answers wait:
-- after any deliveries, losses both ways, timeouts and restarts, in any order, no harm is done and only looking keys were typed
abbrev pub ReadingsDoNoHarm : Type 0
ReadingsDoNoHarm =
    (machine : Machine) (manner : Manner) (addresses waiting : List ℕ) (patience : ℕ) (events : List Event) →
    IsMachine machine → is_running machine.mode ≡ false → AreAddresses addresses → length waiting ≤ most_waiting → patience < 2 ^ 32 →
    IsHarmless machine.memory (after (opened machine (begun_in manner addresses [] patience) waiting) events)
    × OnlyLook false (typed (opened machine (begun_in manner addresses [] patience) waiting) events)
