-- A station: a machine at whose console ODT listens, or on which a program runs, which may be a stub (this project's choice). A stub takes bytes
-- one after another: for each it hears two characters, then it answers two with what memory holds there, then the next; behind the last it halts.
-- What it does is said as a host sees it, and no more than a host relies on: how it makes bytes of characters is left open.
use Rattle.std.specs.Prelude.{◌≡◌, ◌≢◌, ℕ, zero, suc, ◌+◌, ◌/◌, ◌⊎◌, Bool, true, false, ⊤}
use Rattle.std.specs.Prelude.{List, [], ◌∷◌, ◌++◌, length, Option, Some, None}
use Rattle.octal.specs.Octal.{is_digit}
use Rattle.tape_image.specs.Memory.{byte_of}
use Rattle.odt_machine.specs.Character.{carriage_return, line_feed, prompt}
use Rattle.odt_machine.specs.KeyTable.{after_key, take_of}
use Rattle.odt_machine.specs.Laws.{is_running}
use Rattle.odt_machine.specs.Machine.{Machine, IsWide}
use Rattle.odt_machine.specs.declared.mode.Mode.{Mode}
use Rattle.odt_machine.specs.declared.mode.Mode.TheVariants.{Prompt, Running}
use Rattle.exchange_core.specs.Chunk.{answer_for, is_nibble}

-- a stub that runs: where the bytes go that it has still to take, in their order, and whether it has taken the first character of the next
pub record Stub : Type 0 where
  pub left : List ℕ
  pub half : Bool

-- a machine, and the stub that runs on it, where one does
pub record Station : Type 0 where
  pub odt : Machine
  pub stub : Option Stub

-- memory changed at one address alone
pub record ChangesAt (a : ℕ) (before now : List ℕ) : Type 0 where
  pub size : length now ≡ length before
  pub wide : IsWide before → IsWide now
  pub bytes : (b : ℕ) → b ≢ a → byte_of now b ≡ byte_of before b

-- what ODT may print where a program halts: an address, in lines of its own, and its prompt
abbrev pub IsHaltCharacter : ℕ → Type 0
IsHaltCharacter c = (is_digit c ≡ true) ⊎ ((c ≡ carriage_return) ⊎ ((c ≡ line_feed) ⊎ (c ≡ prompt)))

-- each character is such
abbrev pub Each : (ℕ → Type 0) → List ℕ → Type 0
Each P [] = ⊤
Each P (c ∷ text) = P c × Each P text

-- any text of these; a console may also print nothing
abbrev pub IsHaltText : List ℕ → Type 0
IsHaltText text = Each IsHaltCharacter text

-- so many characters of an answer, from a place of it on, for the bytes that memory holds from an address on
unfoldable pub answer_from : List ℕ → (address place left : ℕ) → List ℕ
answer_from memory address place zero = []
answer_from memory address place (suc left) = answer_for (byte_of memory (address + place / 2)) place ∷ answer_from memory address (place + 1) left

-- the answer for a byte: two characters, as memory holds it
abbrev pub answer_text : List ℕ → ℕ → List ℕ
answer_text memory a = answer_for (byte_of memory a) 0 ∷ answer_for (byte_of memory a) 1 ∷ []

-- the stub halted over this memory: ODT is at its prompt
abbrev pub halted : Machine → List ℕ → Station
halted m memory = record { odt = record m { memory = memory; mode = Prompt }; stub = None }

-- the stub runs on
abbrev pub running : Machine → List ℕ → List ℕ → Bool → Station
running m memory left half = record { odt = record m { memory = memory }; stub = Some (record { left = left; half = half }) }

-- behind the last character for a byte: its answer, and then the next byte, or the halt
abbrev pub Answers : Machine → List ℕ → List ℕ → List ℕ → Station → List ℕ → Type 0
Answers m memory text [] station' answer = (station' ≡ halted m memory) × ((more : List ℕ) × IsHaltText more × (answer ≡ text ++ more))
Answers m memory text (next ∷ left) station' answer = (station' ≡ running m memory (next ∷ left) false) × (answer ≡ text)

-- a character for a byte was taken: was it the second?
abbrev pub Fills : Bool → Machine → ℕ → List ℕ → Station → List ℕ → Type 0
Fills false m a left station' answer = (station' ≡ running m m.memory (a ∷ left) true) × (answer ≡ [])
Fills true m a left station' answer = (memory : List ℕ) × ChangesAt a m.memory memory × Answers m memory (answer_text memory a) left station' answer

-- what a stub makes of a character: of a nibble it may change memory where the next byte goes; anything else halts it
abbrev pub StubMeets : Bool → Machine → List ℕ → Bool → Station → List ℕ → Type 0
StubMeets false m left half station' answer = (station' ≡ halted m m.memory) × IsHaltText answer
StubMeets true m [] half station' answer = (station' ≡ halted m m.memory) × IsHaltText answer
StubMeets true m (a ∷ left) half station' answer = Fills half m a left station' answer

-- which bytes a stub fills that lies in a memory at an address, where one lies there
abbrev pub Program : Type 0
Program = List ℕ → ℕ → Option (List ℕ)

-- a stub that has taken nothing yet
abbrev pub fresh : Option (List ℕ) → Option Stub
fresh None = None
fresh (Some left) = Some (record { left = left; half = false })

-- the stub that a key started: where the machine ran before, none
abbrev pub begins : Program → Bool → List ℕ → Mode → Option Stub
begins program true memory mode = None
begins program false memory (Running address) = fresh (program memory address)
begins program false memory mode = None

-- what ODT makes of a key, by the key table
abbrev pub after_odt : Program → Machine → ℕ → Station
after_odt program m c = record { odt = after_key m c; stub = begins program (is_running m.mode) (after_key m c).memory (after_key m c).mode }

-- what a station makes of a character, and what it answers
abbrev pub Meets : Program → Option Stub → Machine → ℕ → Station → List ℕ → Type 0
Meets program None m c station' answer = (station' ≡ after_odt program m c) × (answer ≡ (take_of m c).answer)
Meets program (Some stub) m c station' answer = StubMeets (is_nibble c) m stub.left stub.half station' answer
