-- The answers of ODT to the keys that the host waits for.
use Rattle.std.proofs.Common.{◌≡◌, ℕ, ◌+◌, ◌-◌, ◌%◌, ◌<◌, Bool, true, false, cond, List, [], ◌∷◌, refl, arith, lit<, min}
use Rattle.std.specs.Prelude.{if◌then◌else◌}
use Rattle.octal.specs.Octal.{head, digit_of, pushed, digit_value}
use Rattle.odt_machine.specs.declared.style.Style.{Style}
use Rattle.odt_machine.specs.declared.mode.Mode.{Mode}
use Rattle.odt_machine.specs.declared.mode.Mode.TheVariants.{Prompt, Number, Opened, Typing, Running}
use Rattle.odt_machine.specs.declared.key.Key.TheVariants.{Digit}
use Rattle.odt_machine.specs.Key.{key_of}
use Rattle.odt_machine.specs.Machine.{is_word, stored}
use Rattle.odt_machine.specs.Answer.{prompt_text, word_text, refused_text}
use Rattle.odt_machine.specs.KeyTable.{Taken, row}
use Rattle.host_core.specs.declared.phase.Reason.TheVariants.{Store, Reopen, Missing, Close}
use Rattle.host_core.specs.declared.phase.Phase.{Phase}
use Rattle.host_core.specs.declared.phase.Phase.TheVariants.{Settle, Sync, Address, Slash, Before, Value, Deposit, Return, Start, Go, Ended}
use Rattle.host_core.specs.Console.{resynchronise_of}
use Rattle.host_core.specs.Core.{Core}
use Rattle.host_core.specs.Host.{PhaseFits, IsPlace, basis_of}
use Rattle.line_world.specs.Site.{Site, held_number, wanted, number_mode, typing_mode, opened_mode, reading, refusal_from, prompt_from}
use Rattle.line_world.specs.Pending.{Fits, IsStopped, IsOpened, after_of, rest_of}
use Rattle.line_world.proofs.Digits.{digit_key, pushed_head, at_place}

-- what the plan says of a site's word and start
pub record IsSite (t : Site) : Type 0 where
  pub low : t.word.address < 65536
  pub even : t.word.address % 2 ≡ 0
  pub value : t.word.value < 65536
  pub start_low : t.start < 65536
  pub start_even : t.start % 2 ≡ 0

first_row : (s : Style) (memory : List ℕ) (c v : ℕ) → key_of c ≡ Digit → digit_value c ≡ v → row s memory Prompt (key_of c) c ≡ record { mode = Number v 1; memory = memory; answer = c ∷ [] }
first_row s memory c v key value = rw (key, value) refl

number_row : (s : Style) (memory : List ℕ) (old n c v : ℕ) → key_of c ≡ Digit → pushed old c ≡ v → row s memory (Number old n) (key_of c) c ≡ record { mode = Number v (min (n + 1) 7); memory = memory; answer = c ∷ [] }
number_row s memory old n c v key value = rw (key, value) refl

opened_row : (s : Style) (memory : List ℕ) (a c v : ℕ) → key_of c ≡ Digit → digit_value c ≡ v → row s memory (Opened a) (key_of c) c ≡ record { mode = Typing a v 1; memory = memory; answer = c ∷ [] }
opened_row s memory a c v key value = rw (key, value) refl

typing_row : (s : Style) (memory : List ℕ) (a old n c v : ℕ) → key_of c ≡ Digit → pushed old c ≡ v → row s memory (Typing a old n) (key_of c) c ≡ record { mode = Typing a v (min (n + 1) 7); memory = memory; answer = c ∷ [] }
typing_row s memory a old n c v key value = rw (key, value) refl

first_value : (w : ℕ) → w < 65536 → digit_value (digit_of w 1) ≡ head w 1
first_value w small = omega arith

-- a digit of a number, after the digits before it
row_number : (s : Style) (memory : List ℕ) (w : ℕ) → w < 65536 → (k : ℕ) → IsPlace k → row s memory (number_mode w (k - 1)) (key_of (digit_of w k)) (digit_of w k) ≡ record { mode = number_mode w k; memory = memory; answer = digit_of w k ∷ [] }
row_number s memory w small = at_place (λ k. row s memory (number_mode w (k - 1)) (key_of (digit_of w k)) (digit_of w k) ≡ record { mode = number_mode w k; memory = memory; answer = digit_of w k ∷ [] })
    (first_row s memory (digit_of w 1) (head w 1) (digit_key w 1) (first_value w small))
    (number_row s memory (head w 1) 1 (digit_of w 2) (head w 2) (digit_key w 2) (pushed_head w small 1 (lit< tt)))
    (number_row s memory (head w 2) 2 (digit_of w 3) (head w 3) (digit_key w 3) (pushed_head w small 2 (lit< tt)))
    (number_row s memory (head w 3) 3 (digit_of w 4) (head w 4) (digit_key w 4) (pushed_head w small 3 (lit< tt)))
    (number_row s memory (head w 4) 4 (digit_of w 5) (head w 5) (digit_key w 5) (pushed_head w small 4 (lit< tt)))
    (number_row s memory (head w 5) 5 (digit_of w 6) (head w 6) (digit_key w 6) (pushed_head w small 5 (lit< tt)))

-- a digit of a value, after the digits before it
row_typing : (s : Style) (memory : List ℕ) (a w : ℕ) → w < 65536 → (k : ℕ) → IsPlace k → row s memory (typing_mode a w (k - 1)) (key_of (digit_of w k)) (digit_of w k) ≡ record { mode = typing_mode a w k; memory = memory; answer = digit_of w k ∷ [] }
row_typing s memory a w small = at_place (λ k. row s memory (typing_mode a w (k - 1)) (key_of (digit_of w k)) (digit_of w k) ≡ record { mode = typing_mode a w k; memory = memory; answer = digit_of w k ∷ [] })
    (opened_row s memory a (digit_of w 1) (head w 1) (digit_key w 1) (first_value w small))
    (typing_row s memory a (head w 1) 1 (digit_of w 2) (head w 2) (digit_key w 2) (pushed_head w small 1 (lit< tt)))
    (typing_row s memory a (head w 2) 2 (digit_of w 3) (head w 3) (digit_key w 3) (pushed_head w small 2 (lit< tt)))
    (typing_row s memory a (head w 3) 3 (digit_of w 4) (head w 4) (digit_key w 4) (pushed_head w small 3 (lit< tt)))
    (typing_row s memory a (head w 4) 4 (digit_of w 5) (head w 5) (digit_key w 5) (pushed_head w small 4 (lit< tt)))
    (typing_row s memory a (head w 5) 5 (digit_of w 6) (head w 6) (digit_key w 6) (pushed_head w small 5 (lit< tt)))

slash_row : (s : Style) (memory : List ℕ) (v : ℕ) (b : Bool) (text : List ℕ) → ◌≡◌ {A = Taken} (cond b (record { mode = Opened v; memory = memory; answer = 47 ∷ text }) (record { mode = Prompt; memory = memory; answer = refused_text s 47 })) (record { mode = if b then Opened v else Prompt; memory = memory; answer = 47 ∷ (if b then text else 63 ∷ prompt_text s) })
slash_row s memory v true text = refl
slash_row s memory v false text = refl

-- `/` after a whole address
row_slash : (t : Site) → row t.style t.memory (number_mode t.word.address 6) (key_of 47) 47 ≡ record { mode = opened_mode t; memory = t.memory; answer = 47 ∷ reading t }
row_slash t = slash_row t.style t.memory t.word.address (is_word t.memory t.word.address) (word_text t.style (held_number t))

-- the key that resynchronises in any mode but Running
pub row_resync : (careful : Bool) (s : Style) (memory : List ℕ) (mode : Mode) → IsStopped mode →
    row s memory mode (key_of (resynchronise_of careful)) (resynchronise_of careful) ≡ record { mode = Prompt; memory = memory; answer = refusal_from careful s 0 }
row_resync true s memory Prompt h = refl
row_resync true s memory (Number v n) h = refl
row_resync true s memory (Opened a) h = refl
row_resync true s memory (Typing a v n) h = refl
row_resync true s memory (Running p) h = absurd h
row_resync false s memory Prompt h = refl
row_resync false s memory (Number v n) h = refl
row_resync false s memory (Opened a) h = refl
row_resync false s memory (Typing a v n) h = refl
row_resync false s memory (Running p) h = absurd h

-- CR on an open word
row_close : (s : Style) (memory : List ℕ) (mode : Mode) → IsOpened mode → row s memory mode (key_of 13) 13 ≡ record { mode = Prompt; memory = memory; answer = prompt_from s.two_returns 0 }
row_close s memory Prompt h = absurd h
row_close s memory (Number v n) h = absurd h
row_close s memory (Opened a) h = refl
row_close s memory (Typing a v n) h = absurd h
row_close s memory (Running p) h = absurd h

-- `G` after an even address
pub row_go : (s : Style) (memory : List ℕ) (v n : ℕ) → v % 2 ≡ 0 → row s memory (Number v n) (key_of 71) 71 ≡ record { mode = Running v; memory = memory; answer = 71 ∷ [] }
row_go s memory v n even = rw even refl

-- memory after the key
abbrev memory_after : Phase → Site → List ℕ
memory_after (Return (Store deposit x) k) t = stored t.memory t.word.address (wanted t)
memory_after phase t = t.memory

-- what the key that a phase waits for makes of the machine
abbrev pub taken_in : Phase → Site → Taken
taken_in phase t = record { mode = after_of phase t; memory = memory_after phase t; answer = rest_of phase t }

pub row_live : (phase : Phase) (core : Core) (t : Site) (mode : Mode) (c : ℕ) → IsSite t → PhaseFits phase (basis_of core) → Fits phase t mode c → row t.style t.memory mode (key_of c) c ≡ taken_in phase t
row_live Settle core t mode c site fits key = absurd key
row_live (Sync k) core t mode c site fits key = rw (key.0, key.1) (row_resync t.careful t.style t.memory mode key.2)
row_live (Address visit k) core t mode c site fits key = rw (key.0, key.1) (row_number t.style t.memory t.word.address site.low k fits.1)
row_live (Slash visit) core t mode c site fits key = rw (key.0, key.1) (row_slash t)
row_live (Before visit) core t mode c site fits key = absurd key
row_live (Value visit v j) core t mode c site fits key = absurd key
row_live (Deposit deposit x k) core t mode c site fits key = rw (key.0, key.1) (row_typing t.style t.memory t.word.address x fits.2 k fits.1)
row_live (Return (Store deposit x) k) core t mode c site fits key = rw (key.0, key.1, key.2) refl
row_live (Return (Reopen r) k) core t mode c site fits key = rw (key.0, key.1) (row_close t.style t.memory mode key.2)
row_live (Return (Missing a) k) core t mode c site fits key = absurd key
row_live (Return Close k) core t mode c site fits key = rw (key.0, key.1) (row_close t.style t.memory mode key.2)
row_live (Start k) core t mode c site fits key = rw (key.0, key.1) (row_number t.style t.memory t.start site.start_low k fits.1)
row_live Go core t mode c site fits key = rw (key.0, key.1) (row_go t.style t.memory t.start 6 site.start_even)
row_live (Ended e) core t mode c site fits key = absurd key
