-- The exchange in which the line changed a character: what may still come, and what the host may then do.
use Rattle.std.specs.Prelude.{ℕ, ◌≡◌, ◌≢◌, ◌<◌, ◌⊎◌, Bool, true, false, List, [], ◌∷◌, ⊤}
use Rattle.octal.specs.Octal.{digit_of}
use Rattle.odt_machine.specs.declared.mode.Mode.{Mode}
use Rattle.odt_machine.specs.declared.mode.Mode.TheVariants.{Opened, Running}
use Rattle.host_core.specs.declared.phase.Reason.TheVariants.{Store, Missing}
use Rattle.host_core.specs.declared.phase.Phase.{Phase}
use Rattle.host_core.specs.declared.phase.Phase.TheVariants.{Sync, Address, Slash, Before, Value, Deposit, Return, Start, Go}
use Rattle.host_core.specs.declared.turn.Turn.{Turn}
use Rattle.host_core.specs.declared.turn.Turn.TheVariants.{Listen, Stop, Stray}
use Rattle.host_core.specs.declared.phase.End.{End}
use Rattle.host_core.specs.declared.phase.End.TheVariants.{Started, NoWord}
use Rattle.host_core.specs.PhaseTable.{hears}
use Rattle.line_world.specs.Site.{Site, Lies, IsMissing, wanted}
use Rattle.line_world.specs.Wire.{is_harmless}
use Rattle.line_world.specs.Pending.{Live, Known, Turned, after_of}

-- the mode in which the answer to a phase's key has ended, where it was answered at all
abbrev pub leaving : Phase → Site → Mode
leaving (Value visit v j) t = Opened t.word.address
leaving phase t = after_of phase t

-- an end says so of the machine: the program runs, or no memory answers
abbrev pub EndsRight : Site → Mode → End → Type 0
EndsRight t mode Started = mode ≡ Running t.start
EndsRight t mode (NoWord a) = IsMissing t
EndsRight t mode end = ⊤

-- a turn after which `u` is left: where it sends a key, nothing is left, and the mode is the one after the phase's key
abbrev pub Goes : Site → Mode → Phase → List ℕ → (Phase → Type 0) → Turn → Type 0
Goes t mode phase u on (Listen next) = on next
Goes t mode phase u on (Stop end) = EndsRight t mode end
Goes t mode phase u on Stray = ⊤
Goes t mode phase u on turn = (u ≡ []) × (mode ≡ leaving phase t)

-- whatever of these characters is lost, and however many of the others are heard: so the host goes
abbrev pub Fine : Site → Mode → Phase → List ℕ → Type 0
Fine t mode phase [] = ⊤
Fine t mode phase (c ∷ u) = Fine t mode phase u × Goes t mode phase u (λ next. Fine t mode next u) (hears t.careful t.word t.start phase c)

-- the phase is the first one after a key that is not c
abbrev pub Missed : Phase → Site → ℕ → Type 0
Missed (Sync k) t c = k ≡ 0
Missed (Address visit k) t c = c ≢ digit_of t.word.address k
Missed (Slash visit) t c = ⊤
Missed (Deposit deposit x k) t c = c ≢ digit_of x k
Missed (Return (Missing a) k) t c = ⊥
Missed (Return why k) t c = k ≡ 0
Missed (Start k) t c = c ≢ digit_of t.start k
Missed Go t c = ⊤
Missed phase t c = ⊥

-- the changed key is under way, or the answer is that may hold the changed character
abbrev pub Way : Phase → Site → Mode → List ℕ → List ℕ → Type 0
Way phase t mode [] up = Fine t mode phase up
Way phase t mode (c ∷ down) up = (is_harmless c ≡ true) × Missed phase t c

-- what was known before the change
abbrev pub Sound : Phase → Site → Type 0
Sound (Address visit k) t = Known false visit t
Sound (Slash visit) t = Known false visit t
Sound (Before visit) t = Known false visit t
Sound (Value visit v j) t = Known false visit t
Sound (Deposit deposit x k) t = Turned false deposit × Lies t × (x ≡ wanted t)
Sound (Return (Store deposit x) k) t = Turned false deposit × (x ≡ wanted t)
Sound phase t = ⊤

-- a character of this exchange was changed
pub record Struck (phase : Phase) (t : Site) (mode : Mode) (down up : List ℕ) : Type 0 where
  pub way : Way phase t mode down up
  pub facts : Sound phase t

-- a phase that waits for an answer: no character was changed in the attempt, or one in an earlier exchange, or one in this
abbrev pub Attempt : Bool → Phase → Site → Mode → List ℕ → List ℕ → ℕ → ℕ → Type 0
Attempt false phase t mode down up spent lost = Live false phase t mode down up spent lost
Attempt true phase t mode down up spent lost = (spent < lost) × (Live true phase t mode down up spent lost ⊎ Struck phase t mode down up)
