-- What holds of a life over every list of heard things.
use Rattle.std.specs.Prelude.{option_to_list}
use Rattle.std.proofs.Common.{◌≡◌, ℕ, ◌+◌, Bool, nat_lt, if◌then◌else◌, List, [], ◌∷◌, length, refl, arith, ◌∙◌, ap, length-append}
use Rattle.host_core.specs.declared.heard.Heard.{Heard}
use Rattle.octal.specs.Octal.{digit_of}
use Rattle.host_core.specs.Console.{resynchronise}
use Rattle.memory_core.specs.declared.phase.Visit.TheVariants.{Look}
use Rattle.host_core.proofs.Frame.{on_test}
use Rattle.memory_core.specs.declared.phase.Phase.TheVariants.{Settle, Sync, Address, Ended}
use Rattle.memory_core.specs.declared.phase.End.TheVariants.{Complete, GaveUp}
use Rattle.memory_core.specs.declared.turn.Turn.{Turn}
use Rattle.memory_core.specs.declared.turn.Turn.TheVariants.{Listen, Key, LooksAgain, Deposits, Counts, ReadBack, Next, Stop, Stray, Timeout}
use Rattle.memory_core.specs.Invariant.{IsTester}
use Rattle.memory_core.specs.Laws.{led, replay, KeepsBound}
use Rattle.memory_core.specs.MemoryTable.{TesterStep, ask, listens, sends, taken, turn_of, seen_after}
use Rattle.memory_core.specs.Tester.{Tester, address_under_way}
use Rattle.memory_core.proofs.Turns.{kept, within_bound}

-- what every turn does: addresses and patience stay, a character that is sent is counted, and one more word counts as
-- tested where the turn says so
pub record IsAsked (t : Tester) (turn : Turn) (a : TesterStep) : Type 0 where
  pub addresses : a.next.addresses ≡ t.addresses
  pub seen : a.next.seen ≡ seen_after t.seen turn
  pub patience : a.next.patience ≡ t.patience
  pub sent : a.next.sent ≡ t.sent + length (option_to_list a.key)

not_sent : (n : ℕ) → n ≡ n + 0
not_sent n = omega arith

either_asked : (t : Tester) (turn : Turn) (test : Bool) (a b : TesterStep) → IsAsked t turn a → IsAsked t turn b → IsAsked t turn (if test then a else b)
either_asked t turn test a b one other = on_test (λ v. IsAsked t turn (if v then a else b)) test (λ _. one) (λ _. other)

taken_asked : (t : Tester) (turn : Turn) → IsAsked t turn (taken t turn)
taken_asked t (Listen phase) = record { addresses = refl; seen = refl; patience = refl; sent = not_sent t.sent }
taken_asked t (Key key phase) = record { addresses = refl; seen = refl; patience = refl; sent = refl }
taken_asked t (LooksAgain first) = record { addresses = refl; seen = refl; patience = refl; sent = refl }
taken_asked t (Deposits stage) = record { addresses = refl; seen = refl; patience = refl; sent = refl }
taken_asked t (Counts word) = record { addresses = refl; seen = refl; patience = refl; sent = refl }
taken_asked t ReadBack = record { addresses = refl; seen = refl; patience = refl; sent = refl }
taken_asked t Next =
    either_asked t Next (nat_lt (length t.seen) (length t.addresses)) (sends t (digit_of (address_under_way t) 1) (Address Look 1)) (listens t (Ended Complete))
    record { addresses = refl; seen = refl; patience = refl; sent = refl }
    record { addresses = refl; seen = refl; patience = refl; sent = not_sent t.sent }
taken_asked t (Stop end) = record { addresses = refl; seen = refl; patience = refl; sent = not_sent t.sent }
taken_asked t Stray =
    either_asked t Stray (nat_lt t.spent t.patience) (listens (record t { spent = t.spent + 1 }) Settle) (listens t (Ended GaveUp))
    record { addresses = refl; seen = refl; patience = refl; sent = not_sent t.sent }
    record { addresses = refl; seen = refl; patience = refl; sent = not_sent t.sent }
taken_asked t Timeout =
    either_asked t Timeout (nat_lt t.spent t.patience) (sends (record t { spent = t.spent + 1 }) resynchronise (Sync 0)) (listens t (Ended GaveUp))
    record { addresses = refl; seen = refl; patience = refl; sent = refl }
    record { addresses = refl; seen = refl; patience = refl; sent = not_sent t.sent }

pub asked : (t : Tester) (heard : Heard) → IsAsked t (turn_of t heard) (ask t heard)
asked t heard = taken_asked t (turn_of t heard)

pub led_kept : (t : Tester) (heard : List Heard) → IsTester t → IsTester (led t heard)
led_kept t [] h = h
led_kept t (heard ∷ more) h = led_kept (ask t heard).next more (kept t heard h)

pub led_addresses : (t : Tester) (heard : List Heard) → (led t heard).addresses ≡ t.addresses
led_addresses t [] = refl
led_addresses t (heard ∷ more) = led_addresses (ask t heard).next more ∙ (asked t heard).addresses

pub led_patience : (t : Tester) (heard : List Heard) → (led t heard).patience ≡ t.patience
led_patience t [] = refl
led_patience t (heard ∷ more) = led_patience (ask t heard).next more ∙ (asked t heard).patience

led_sent : (t : Tester) (heard : List Heard) → (led t heard).sent ≡ t.sent + length (replay t heard)
led_sent t [] = omega arith
led_sent t (heard ∷ more) =
    omega (arith, led_sent (ask t heard).next more, (asked t heard).sent, length-append (option_to_list (ask t heard).key) (replay (ask t heard).next more))

pub keeps_bound : (t : Tester) → IsTester t → KeepsBound t
keeps_bound t h heard =
    omega (arith, within_bound (led t heard) (led_kept t heard h), led_sent t heard, ap length (led_addresses t heard), led_patience t heard)
