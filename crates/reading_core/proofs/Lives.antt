-- What holds of a life over every list of heard things.
use Rattle.std.specs.Prelude.{None, option_to_list}
use Rattle.std.proofs.Common.{◌≡◌, ℕ, ◌+◌, ◌*◌, ◌^◌, ◌<◌, ◌≤◌, Bool, true, false, nat_lt, if◌then◌else◌, List, [], ◌∷◌, length, refl, arith, ◌∙◌, ap, length-append}
use Rattle.host_core.specs.declared.heard.Heard.{Heard}
use Rattle.octal.specs.Octal.{digit_of}
use Rattle.host_core.specs.Console.{resynchronise}
use Rattle.host_core.proofs.Frame.{on_test}
use Rattle.reading_core.specs.declared.phase.Phase.TheVariants.{Settle, Sync, Address, Ended}
use Rattle.reading_core.specs.declared.phase.End.TheVariants.{Complete, GaveUp}
use Rattle.reading_core.specs.declared.turn.Turn.{Turn}
use Rattle.reading_core.specs.declared.turn.Turn.TheVariants.{Listen, Key, Read, Again, Next, Stop, Stray, Timeout}
use Rattle.reading_core.specs.Invariant.{IsReader}
use Rattle.reading_core.specs.Laws.{led, replay, KeepsBound}
use Rattle.reading_core.specs.Bound.{life_bound}
use Rattle.reading_core.specs.Reader.{Reader, address_under_way, looks_twice}
use Rattle.reading_core.specs.ReadingTable.{ReaderStep, ask, counted, listens, sends, taken, turn_of, values_after}
use Rattle.reading_core.proofs.Turns.{kept, within_bound}

-- what every turn does: addresses, manner and patience stay, a character that is sent is counted, and the numbers grow by
-- what the turn took
pub record IsAsked (r : Reader) (turn : Turn) (a : ReaderStep) : Type 0 where
  pub addresses : a.next.addresses ≡ r.addresses
  pub manner : a.next.manner ≡ r.manner
  pub values : a.next.values ≡ values_after r.values turn
  pub patience : a.next.patience ≡ r.patience
  pub sent : a.next.sent ≡ r.sent + length (option_to_list a.key)

not_sent : (n : ℕ) → n ≡ n + 0
not_sent n = omega arith

either_asked : (r : Reader) (turn : Turn) (test : Bool) (a b : ReaderStep) → IsAsked r turn a → IsAsked r turn b → IsAsked r turn (if test then a else b)
either_asked r turn test a b one other = on_test (λ v. IsAsked r turn (if v then a else b)) test (λ _. one) (λ _. other)

taken_asked : (r : Reader) (turn : Turn) → IsAsked r turn (taken r turn)
taken_asked r (Listen phase) = record { addresses = refl; manner = refl; values = refl; patience = refl; sent = not_sent r.sent }
taken_asked r (Key key phase) = record { addresses = refl; manner = refl; values = refl; patience = refl; sent = refl }
taken_asked r (Read value) = record { addresses = refl; manner = refl; values = refl; patience = refl; sent = refl }
taken_asked r (Again value) = record { addresses = refl; manner = refl; values = refl; patience = refl; sent = refl }
taken_asked r Next =
    either_asked r Next (nat_lt (length r.values) (length r.addresses)) (sends r (digit_of (address_under_way r) 1) (Address 1)) (listens r (Ended Complete))
    record { addresses = refl; manner = refl; values = refl; patience = refl; sent = refl }
    record { addresses = refl; manner = refl; values = refl; patience = refl; sent = not_sent r.sent }
taken_asked r (Stop end) = record { addresses = refl; manner = refl; values = refl; patience = refl; sent = not_sent r.sent }
taken_asked r Stray =
    either_asked r Stray (nat_lt r.spent r.patience) (listens (record r { spent = r.spent + 1; earlier = None }) Settle) (listens r (Ended GaveUp))
    record { addresses = refl; manner = refl; values = refl; patience = refl; sent = not_sent r.sent }
    record { addresses = refl; manner = refl; values = refl; patience = refl; sent = not_sent r.sent }
taken_asked r Timeout =
    either_asked r Timeout (nat_lt r.spent r.patience) (sends (record r { spent = r.spent + 1; earlier = None }) resynchronise (Sync 0)) (listens r (Ended GaveUp))
    record { addresses = refl; manner = refl; values = refl; patience = refl; sent = refl }
    record { addresses = refl; manner = refl; values = refl; patience = refl; sent = not_sent r.sent }

pub asked : (r : Reader) (heard : Heard) → IsAsked r (turn_of r heard) (ask r heard)
asked r heard =
    let a = taken_asked (counted r heard) (turn_of r heard) in record { addresses = a.addresses; manner = a.manner; values = a.values; patience = a.patience; sent = a.sent }

pub led_kept : (r : Reader) (heard : List Heard) → IsReader r → IsReader (led r heard)
led_kept r [] h = h
led_kept r (heard ∷ more) h = led_kept (ask r heard).next more (kept r heard h)

pub led_addresses : (r : Reader) (heard : List Heard) → (led r heard).addresses ≡ r.addresses
led_addresses r [] = refl
led_addresses r (heard ∷ more) = led_addresses (ask r heard).next more ∙ (asked r heard).addresses

pub led_patience : (r : Reader) (heard : List Heard) → (led r heard).patience ≡ r.patience
led_patience r [] = refl
led_patience r (heard ∷ more) = led_patience (ask r heard).next more ∙ (asked r heard).patience

pub led_manner : (r : Reader) (heard : List Heard) → (led r heard).manner ≡ r.manner
led_manner r [] = refl
led_manner r (heard ∷ more) = led_manner (ask r heard).next more ∙ (asked r heard).manner

led_sent : (r : Reader) (heard : List Heard) → (led r heard).sent ≡ r.sent + length (replay r heard)
led_sent r [] = omega arith
led_sent r (heard ∷ more) =
    omega (arith, led_sent (ask r heard).next more, (asked r heard).sent, length-append (option_to_list (ask r heard).key) (replay (ask r heard).next more))

pub keeps_bound : (r : Reader) → IsReader r → KeepsBound r
keeps_bound r h heard =
    let same : life_bound (led r heard).manner.care (length (led r heard).addresses) (led r heard).patience ≡ life_bound r.manner.care (length r.addresses) r.patience = rw (led_manner r heard, led_addresses r heard, led_patience r heard) refl in
    omega (arith, within_bound (led r heard) (led_kept r heard h), led_sent r heard, same)

-- a word costs 8 characters or 16
largest : (twice : Bool) (n patience : ℕ) → n ≤ 28672 → patience < 2 ^ 32 → (if twice then 16 else 8) * n + ((if twice then 16 else 8) + 1) * (patience + 1) ≤ 73014902784
largest true n patience few long = omega (arith, few, long)
largest false n patience few long = omega (arith, few, long)

pub within_largest : (r : Reader) → IsReader r → r.sent ≤ 73014902784
within_largest r h = omega (arith, within_bound r h, largest (looks_twice r.manner.care) (length r.addresses) r.patience h.asked.few h.long)
