-- Parts of the world: what a key under way can meet there (`Ground`), and where one word is loaded (`Site`). And what the machine's mode is after
-- so many typed digits, and what its exact answer still holds.
use Rattle.std.specs.Prelude.{ℕ, zero, suc, ◌≡◌, ◌-◌, ◌==◌, Bool, true, false, if◌then◌else◌, List, [], ◌∷◌, unwrap_or}
use Rattle.octal.specs.Octal.{head, digit_of}
use Rattle.tape_image.specs.Word.{WordValue, merged}
use Rattle.tape_image.specs.Plan.{PlanValue}
use Rattle.host_core.specs.Console.{carriage_return, line_feed, prompt, question_mark, resynchronise_of, space}
use Rattle.host_core.specs.Core.{word_nr}
use Rattle.odt_machine.specs.declared.style.Style.{Style}
use Rattle.odt_machine.specs.declared.mode.Mode.{Mode}
use Rattle.odt_machine.specs.declared.mode.Mode.TheVariants.{Prompt, Number, Opened, Typing}
use Rattle.odt_machine.specs.Machine.{Machine, is_word, word_at}
use Rattle.line_world.specs.Scene.{Scene}

-- of the world, what a key under way can meet: the machine, and of the host its plan, its mark and its care
pub record Ground : Type 0 where
  pub machine : Machine
  pub plan : PlanValue
  pub going : Bool
  pub careful : Bool

-- what a key can meet in a world
abbrev pub ground : Scene → Ground
ground w = record { machine = w.machine; plan = w.core.plan; going = w.core.going; careful = w.core.careful }

-- of the world, where one word is loaded: the machine's style and memory, the word, the start, and whether the host is careful
pub record Site : Type 0 where
  pub style : Style
  pub memory : List ℕ
  pub word : WordValue
  pub start : ℕ
  pub careful : Bool

-- the place of the plan's word numbered i
abbrev pub site_in : Ground → ℕ → Site
site_in g i = record {
  style = g.machine.style;
  memory = g.machine.memory;
  word = word_nr g.plan.words i;
  start = unwrap_or g.plan.start 0;
  careful = g.careful;
}

-- the same in a world
abbrev pub site_of : Scene → ℕ → Site
site_of w i = site_in (ground w) i

-- the place of the word that is loaded now
abbrev pub site : Scene → Site
site w = site_of w w.core.verified

-- what memory holds at the word's address
abbrev pub held_number : Site → ℕ
held_number t = word_at t.memory t.word.address

-- the word's address lies in memory
abbrev pub Lies : Site → Type 0
Lies t = is_word t.memory t.word.address ≡ true

-- it doesn't
abbrev pub IsMissing : Site → Type 0
IsMissing t = is_word t.memory t.word.address ≡ false

-- what has to be stored at the word's address
abbrev pub wanted : Site → ℕ
wanted t = merged t.word (held_number t)

-- memory has the word's address, and holds there what is wanted
abbrev pub IsThere : Site → Type 0
IsThere t = Lies t × (wanted t ≡ held_number t)

-- the mode after the first k digits of a number at the prompt
abbrev pub number_mode : ℕ → ℕ → Mode
number_mode n k = if k == 0 then Prompt else Number (head n k) k

-- the mode after the first k digits of a value with the address a open
abbrev pub typing_mode : ℕ → ℕ → ℕ → Mode
typing_mode a x k = if k == 0 then Opened a else Typing a (head x k) k

-- the mode after `/`
abbrev pub opened_mode : Site → Mode
opened_mode t = if is_word t.memory t.word.address then Opened t.word.address else Prompt

-- a new line and the prompt, without the first i of the longest form's characters: one CR more where the style has two
abbrev pub prompt_from : Bool → ℕ → List ℕ
prompt_from two_returns i =
    if i == 0 then (if two_returns then carriage_return ∷ carriage_return ∷ line_feed ∷ prompt ∷ [] else carriage_return ∷ line_feed ∷ prompt ∷ [])
    else if i == 1 then (if two_returns then carriage_return ∷ line_feed ∷ prompt ∷ [] else line_feed ∷ prompt ∷ [])
    else if i == 2 then line_feed ∷ prompt ∷ [] else prompt ∷ []

-- the last digits of a word, and the space behind them
abbrev pub last_digits : ℕ → ℕ → List ℕ
last_digits w zero = space ∷ []
last_digits w (suc left) = digit_of w (6 - left) ∷ last_digits w left

-- what follows the echo of `/`
abbrev pub reading : Site → List ℕ
reading t =
    if is_word t.memory t.word.address then (if t.style.space_before then space ∷ last_digits (held_number t) 6 else last_digits (held_number t) 6)
    else question_mark ∷ prompt_from t.style.two_returns 0

-- what is left of the answer to the key that resynchronises
abbrev pub refusal_from : Bool → Style → ℕ → List ℕ
refusal_from careful s k =
    if k == 0 then
    (if s.echo_illegal then resynchronise_of careful ∷ question_mark ∷ prompt_from s.two_returns 0 else question_mark ∷ prompt_from s.two_returns 0)
    else if k == 1 then question_mark ∷ prompt_from s.two_returns 0
    else prompt_from s.two_returns (k - 2)
