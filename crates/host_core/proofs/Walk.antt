-- What holds of each answer that a phase can give holds of the one that it gives.
use Rattle.std.proofs.Common.{◌≡◌, ℕ, ◌+◌, ◌-◌, ◌*◌, ◌<◌, ◌≤◌, Bool, true, false, not, ◌&&◌, ◌==◌, refl, ap}
use borrow.Author.Tests.{eqb-true}
use Rattle.octal.specs.Octal.{digit_of, is_digit}
use Rattle.tape_image.specs.Word.{WordValue, merged}
use Rattle.host_core.specs.declared.phase.Phase.TheVariants.{Sync, Address, Slash, Before, Value, Deposit, Return, Start}
use Rattle.host_core.specs.declared.phase.Try.{Try}
use Rattle.host_core.specs.declared.phase.Try.TheVariants.{Only, First, Second}
use Rattle.host_core.specs.declared.phase.Visit.{Visit}
use Rattle.host_core.specs.declared.phase.Visit.TheVariants.{Look, Again, Check}
use Rattle.host_core.specs.declared.phase.Reason.{Reason}
use Rattle.host_core.specs.declared.phase.Reason.TheVariants.{Store, Reopen, Missing}
use Rattle.host_core.specs.declared.phase.End.TheVariants.{Started, Uncertain, NoWord, WontHold}
use Rattle.host_core.specs.declared.turn.Turn.{Turn}
use Rattle.host_core.specs.declared.turn.Turn.TheVariants.{Listen, Key, Verified, Next, Mark, Stop, Stray}
use Rattle.host_core.specs.Console.{resynchronise_of, carriage_return, slash, space}
use Rattle.host_core.specs.PhaseTable.{synced, sync_hears, echoed, address_hears, slash_hears, mends, differs, read, reads, before_hears, value_hears, deposit_hears, returns, return_hears, returned, start_hears, go_hears}
use Rattle.host_core.proofs.Replies.{either, refusal_walk, return_walk as return_reply_walk, echo_walk, start_walk as reading_start_walk, rest_walk}

pub sync_walk : (P : Turn → Type 0) (careful : Bool) (place c : ℕ) → P Stray → ((k : ℕ) → k ≤ 5 → P (Listen (Sync k))) → P Next → P (sync_hears careful place c)
sync_walk P careful place c lost on done = refusal_walk (λ r. P (synced r)) (resynchronise_of careful) place c lost on (λ _. done)

pub address_walk : (P : Turn → Type 0) (address : ℕ) (visit : Visit) (place c : ℕ) → P Stray → (place < 6 → P (Key (digit_of address (place + 1)) (Address visit (place + 1)))) → P (Key slash (Slash visit)) → P (address_hears address visit place c)
address_walk P address visit place c lost on done =
    echo_walk (λ e. P (echoed e (Address visit (place + 1)) (Key slash (Slash visit)))) address place c lost (λ _ less. on less) (λ _ _. done)

pub slash_walk : (P : Turn → Type 0) (visit : Visit) (c : ℕ) → P Stray → P (Listen (Before visit)) → P (slash_hears visit c)
slash_walk P visit c lost done = either P (c == 47) _ _ (λ _. done) (λ _. lost)

pub before_walk : (P : Turn → Type 0) (careful : Bool) (word : WordValue) (visit : Visit) (c : ℕ) → P Stray → P (Listen (Value visit 0 0)) →
    (careful ≡ true → P (Listen (Return (Missing word.address) 0))) → (careful ≡ false → P (Stop (NoWord word.address))) →
    (48 ≤ c → c ≤ 49 → P (Listen (Value visit (c - 48) 1))) → P (before_hears careful word visit c)
before_walk P careful word visit c lost blank awaits none on = reading_start_walk (λ r. P (reads careful word visit r)) c lost blank (either P careful _ _ awaits none) on

pub value_walk : (P : Turn → Type 0) (careful : Bool) (word : WordValue) (visit : Visit) (value place c : ℕ) → P Stray →
    (place ≡ 0 → 48 ≤ c → c ≤ 49 → P (Listen (Value visit (c - 48) 1))) →
    ((place == 0) ≡ false → place < 6 → is_digit c ≡ true → P (Listen (Value visit (8 * value + (c - 48)) (place + 1)))) →
    (6 ≤ place → c ≡ space → P (read careful word visit value)) → P (value_hears careful word visit value place c)
value_walk P careful word visit value place c lost first on done = rest_walk (λ r. P (reads careful word visit r)) value place c lost first on (λ all blank. done all (eqb-true _ _ blank))

-- a check that differs
differs_walk : (P : Turn → Type 0) (word : WordValue) (deposit : Try) (stored value : ℕ) → P Stray → (deposit ≡ First → P (mends (Second value) stored)) → P (Stop (WontHold word.address)) → P (differs word deposit stored value)
differs_walk P word Only stored value lost more end = end
differs_walk P word First stored value lost more end = more refl
differs_walk P word (Second before) stored value lost more end = either P (not (value == before)) _ _ (λ _. lost) (λ _. end)

-- a whole reading: it makes the host look again, only where it is careful; the word stands where laying it over the reading changes nothing; or it is
-- deposited, once or twice
pub read_walk : (P : Turn → Type 0) (careful : Bool) (word : WordValue) (visit : Visit) (value : ℕ) → P Stray → (merged word value ≡ value → P Verified) →
    (careful ≡ true → visit ≡ Look → P (Key carriage_return (Return (Reopen value) 0))) →
    (careful ≡ false → visit ≡ Look → P (mends Only (merged word value))) → (careful ≡ true → visit ≡ Look → P (mends First (merged word value))) →
    ((first : ℕ) → visit ≡ Again first → P (mends First (merged word value))) → ((stored : ℕ) → visit ≡ Check First stored → P (mends (Second value) stored)) →
    P (Stop (WontHold word.address)) → P (read careful word visit value)
read_walk P true word Look value lost done again once twice behind more end =
    either P (word.mask == 65535 && not (merged word value == value)) _ _ (λ _. twice refl refl) (λ _. again refl refl)
read_walk P false word Look value lost done again once twice behind more end =
    either P (merged word value == value) _ _ (λ same. done (eqb-true _ _ same)) (λ _. once refl refl)
read_walk P careful word (Again first) value lost done again once twice behind more end =
    either P (not (value == first)) _ _ (λ _. lost) (λ _. either P (merged word value == value) _ _ (λ same. done (eqb-true _ _ same)) (λ _. behind first refl))
read_walk P careful word (Check deposit stored) value lost done again once twice behind more end =
    either P (merged word value == value) _ _ (λ same. done (eqb-true _ _ same))
    (λ _. differs_walk P word deposit stored value lost (λ is. more stored (ap (λ d. Check d stored) is)) end)

pub deposit_walk : (P : Turn → Type 0) (deposit : Try) (value place c : ℕ) → P Stray → (place < 6 → P (Key (digit_of value (place + 1)) (Deposit deposit value (place + 1)))) → P (Key carriage_return (Return (Store deposit value) 0)) → P (deposit_hears deposit value place c)
deposit_walk P deposit value place c lost on done =
    echo_walk (λ e. P (echoed e (Deposit deposit value (place + 1)) (Key carriage_return (Return (Store deposit value) 0)))) value place c lost (λ _ less. on less) (λ _ _. done)

pub return_walk : (P : Turn → Type 0) (reason : Reason) (place c : ℕ) → P Stray → ((k : ℕ) → k ≤ 3 → P (Listen (Return reason k))) → P (returned reason) → P (return_hears reason place c)
return_walk P reason place c lost on done = return_reply_walk (λ r. P (returns reason r)) place c lost on (λ _. done)

pub start_walk : (P : Turn → Type 0) (start place c : ℕ) → P Stray → (place < 6 → P (Key (digit_of start (place + 1)) (Start (place + 1)))) → (6 ≤ place → P Mark) → P (start_hears start place c)
start_walk P start place c lost on done = echo_walk (λ e. P (echoed e (Start (place + 1)) Mark)) start place c lost (λ _ less. on less) (λ _ all. done all)

pub go_walk : (P : Turn → Type 0) (c : ℕ) → P (Stop Started) → P (Stop Uncertain) → P (go_hears c)
go_walk P c started other = either P (c == 71) _ _ (λ _. started) (λ _. other)
