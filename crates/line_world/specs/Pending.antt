-- The phases in which the host waits for an answer: the key that it sent last, the mode in which ODT takes it, the mode after it, and what
-- the answer still holds.
use Rattle.std.specs.Prelude.{ℕ, ◌≡◌, ◌<◌, ◌-◌, ◌⊎◌, Bool, true, false, List, [], ◌∷◌, ⊤}
use Rattle.octal.specs.Octal.{head, digit_of}
use Rattle.odt_machine.specs.declared.mode.Mode.{Mode}
use Rattle.odt_machine.specs.declared.mode.Mode.TheVariants.{Prompt, Opened, Running}
use Rattle.host_core.specs.Console.{carriage_return, go, resynchronise_of, slash}
use Rattle.host_core.specs.declared.phase.Try.{Try}
use Rattle.host_core.specs.declared.phase.Try.TheVariants.{Only, First, Second}
use Rattle.host_core.specs.declared.phase.Visit.{Visit}
use Rattle.host_core.specs.declared.phase.Visit.TheVariants.{Look, Again, Check}
use Rattle.host_core.specs.declared.phase.Reason.TheVariants.{Store, Reopen, Missing, Close}
use Rattle.host_core.specs.declared.phase.Phase.{Phase}
use Rattle.host_core.specs.declared.phase.Phase.TheVariants.{Sync, Address, Slash, Before, Value, Deposit, Return, Start, Go}
use Rattle.line_world.specs.Site.{Site, held_number, Lies, IsMissing, wanted, IsThere, number_mode}
use Rattle.line_world.specs.Site.{typing_mode, opened_mode, prompt_from, last_digits, reading, refusal_from}

-- no program runs
abbrev pub IsStopped : Mode → Type 0
IsStopped (Running p) = ⊥
IsStopped mode = ⊤

-- a word is open, and no digit of a new value is typed
abbrev pub IsOpened : Mode → Type 0
IsOpened (Opened a) = ⊤
IsOpened mode = ⊥

-- the phase is the first one after the key c was sent, and the mode is one in which ODT may take it
abbrev pub Fits : Phase → Site → Mode → ℕ → Type 0
Fits (Sync k) t mode c = (k ≡ 0) × (c ≡ resynchronise_of t.careful) × IsStopped mode
Fits (Address visit k) t mode c = (c ≡ digit_of t.word.address k) × (mode ≡ number_mode t.word.address (k - 1))
Fits (Slash visit) t mode c = (c ≡ slash) × (mode ≡ number_mode t.word.address 6)
Fits (Deposit deposit x k) t mode c = (c ≡ digit_of x k) × (mode ≡ typing_mode t.word.address x (k - 1))
Fits (Return (Store deposit x) k) t mode c = (k ≡ 0) × (c ≡ carriage_return) × (mode ≡ typing_mode t.word.address (wanted t) 6)
Fits (Return (Reopen r) k) t mode c = (k ≡ 0) × (c ≡ carriage_return) × IsOpened mode
Fits (Return Close k) t mode c = (k ≡ 0) × (c ≡ carriage_return) × IsOpened mode
Fits (Start k) t mode c = (c ≡ digit_of t.start k) × (mode ≡ number_mode t.start (k - 1))
Fits Go t mode c = (c ≡ go) × (mode ≡ number_mode t.start 6)
Fits phase t mode c = ⊥

-- the mode after the key
abbrev pub after_of : Phase → Site → Mode
after_of (Address visit k) t = number_mode t.word.address k
after_of (Slash visit) t = opened_mode t
after_of (Before visit) t = opened_mode t
after_of (Value visit v j) t = opened_mode t
after_of (Deposit deposit x k) t = typing_mode t.word.address x k
after_of (Start k) t = number_mode t.start k
after_of Go t = Running t.start
after_of phase t = Prompt

-- what the exact answer still holds
abbrev pub rest_of : Phase → Site → List ℕ
rest_of (Sync k) t = refusal_from t.careful t.style k
rest_of (Address visit k) t = digit_of t.word.address k ∷ []
rest_of (Slash visit) t = slash ∷ reading t
rest_of (Before visit) t = reading t
rest_of (Value visit v j) t = last_digits (held_number t) (6 - j)
rest_of (Deposit deposit x k) t = digit_of x k ∷ []
rest_of (Return why k) t = prompt_from t.style.two_returns k
rest_of (Start k) t = digit_of t.start k ∷ []
rest_of Go t = go ∷ []
rest_of phase t = []

-- while the answer to the deposit comes, the word stands
abbrev pub StandsWhere : List ℕ → Site → Type 0
StandsWhere [] t = ⊤
StandsWhere (c ∷ up) t = IsThere t

-- only where a character was changed earlier in the attempt a second deposit is made
abbrev pub Turned : Bool → Try → Type 0
Turned true deposit = ⊤
Turned false Only = ⊤
Turned false First = ⊤
Turned false (Second before) = ⊥

-- the first look has read what memory holds, if no character was changed in the attempt
abbrev pub Remembered : Bool → ℕ → Site → Type 0
Remembered true r t = ⊤
Remembered false r t = r ≡ held_number t

-- the word stands at a check, but for the first one after a character was changed
abbrev pub Stood : Bool → Try → Site → Type 0
Stood true Only t = IsThere t
Stood true First t = ⊤
Stood true (Second before) t = IsThere t
Stood false deposit t = IsThere t

-- the same while the answer to the deposit comes
abbrev pub StoodWhere : Bool → Try → List ℕ → Site → Type 0
StoodWhere true Only up t = StandsWhere up t
StoodWhere true First up t = ⊤
StoodWhere true (Second before) up t = StandsWhere up t
StoodWhere false deposit up t = StandsWhere up t

-- what a visit knows, where `old` says that a character was changed in the attempt before this key
abbrev pub Known : Bool → Visit → Site → Type 0
Known old Look t = ⊤
Known old (Again r) t = Remembered old r t
Known old (Check deposit x) t = Turned old deposit × (x ≡ wanted t) × Stood old deposit t

-- what else is known of memory in a phase
abbrev pub Facts : Bool → Phase → Site → List ℕ → Type 0
Facts old (Address visit k) t up = Known old visit t
Facts old (Slash visit) t up = Known old visit t
Facts old (Before visit) t up = Known old visit t
Facts old (Value visit v j) t up = Known old visit t × Lies t × (up ≡ last_digits (held_number t) (6 - j) → v ≡ head (held_number t) j)
Facts old (Deposit deposit x k) t up = Turned old deposit × Lies t × (x ≡ wanted t)
Facts old (Return (Store deposit x) k) t up = Turned old deposit × (x ≡ wanted t) × StoodWhere old deposit up t
Facts old (Return (Reopen r) k) t up = Remembered old r t
Facts old (Return (Missing a) k) t up = IsMissing t
Facts old phase t up = ⊤

-- the first list is the second with any characters lost
abbrev pub IsRemnant : List ℕ → List ℕ → Type 0
IsRemnant [] ys = ⊤
IsRemnant (x ∷ xs) [] = ⊥
IsRemnant (x ∷ xs) (y ∷ ys) = ((x ≡ y) × IsRemnant xs ys) ⊎ IsRemnant (x ∷ xs) ys

-- a key under way is the one that the phase waits for
abbrev pub KeyFits : Phase → Site → Mode → List ℕ → Type 0
KeyFits phase t mode [] = ⊤
KeyFits phase t mode (c ∷ down) = Fits phase t mode c

-- characters under way are of the exact answer, and the mode is the one after the key
abbrev pub RestFits : Mode → List ℕ → Mode → List ℕ → Type 0
RestFits new rest mode [] = ⊤
RestFits new rest mode (c ∷ up) = (mode ≡ new) × IsRemnant (c ∷ up) rest

-- where neither the key is under way nor the whole rest of its answer, a loss has not been paid for yet
abbrev pub BrokenIsPaid : List ℕ → List ℕ → List ℕ → ℕ → ℕ → Type 0
BrokenIsPaid rest [] up spent lost = (up ≡ rest) ⊎ (spent < lost)
BrokenIsPaid rest (c ∷ down) up spent lost = ⊤

-- a phase that waits for an answer, the machine's mode and the queues belong together
pub record Live (old : Bool) (phase : Phase) (t : Site) (mode : Mode) (down up : List ℕ) (spent lost : ℕ) : Type 0 where
  pub key : KeyFits phase t mode down
  pub rest : RestFits (after_of phase t) (rest_of phase t) mode up
  pub paid : BrokenIsPaid (rest_of phase t) down up spent lost
  pub facts : Facts old phase t up
