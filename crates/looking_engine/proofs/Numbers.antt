-- What a reader gives to be kept are the numbers that it reads.
use Rattle.std.proofs.Common.{◌≡◌, ℕ, ◌<◌, ◌≤◌, List, [], ◌∷◌, ◌++◌, inl, inr, Option, Some, None, refl, ap, sym, ◌∙◌, arith, length, append_assoc, append-nil, length-append}
use Rattle.std.specs.Prelude.{option_to_list, slice_index_or}
use Rattle.host_core.specs.declared.heard.Heard.{Heard}
use Rattle.host_devices.specs.declared.item.Item.{Item}
use Rattle.engine.specs.Session.{IsDone}
use Rattle.engine.specs.Ways.{led as lead_led, news_of}
use Rattle.engine.specs.declared.stop.Stop.{Stop as LeadStop}
use Rattle.engine.specs.declared.stop.Cut.TheVariants.{LineFailed, TurnsOver}
use Rattle.engine.specs.declared.stop.Stop.TheVariants.{Ended, KeepFailed, CutOff}
use Rattle.engine.proofs.Turns.{unkept_news}
use Rattle.reading_core.specs.declared.phase.End.{End}
use Rattle.reading_core.specs.declared.turn.Turn.{Turn}
use Rattle.reading_core.specs.declared.turn.Turn.TheVariants.{Listen, Key, Read, Again, Next, Stop, Stray, Timeout}
use Rattle.reading_core.specs.Reader.{Reader}
use Rattle.reading_core.specs.ReadingTable.{ask, turn_of, values_after}
use Rattle.reading_core.proofs.Lives.{asked}
use Rattle.looking_engine.specs.Leading.{number_of, reading, reads}

pub behind_turn : (values : List ℕ) (turn : Turn) → values_after values turn ≡ values ++ option_to_list (number_of turn)
behind_turn values (Listen phase) = sym (append-nil values)
behind_turn values (Key key phase) = sym (append-nil values)
behind_turn values (Read value) = refl
behind_turn values (Again value) = sym (append-nil values)
behind_turn values Next = sym (append-nil values)
behind_turn values (Stop end) = sym (append-nil values)
behind_turn values Stray = sym (append-nil values)
behind_turn values Timeout = sym (append-nil values)

-- whatever is heard, numbers only come behind those that were read
pub read_more : (r : Reader) (heard : List Heard) → (lead_led reads (reading r) heard).core.values ≡ r.values ++ news_of reads (reading r) heard
read_more r [] = sym (append-nil r.values)
read_more r (h ∷ heard) =
    let one = option_to_list (number_of (turn_of r h)) in
    let more = news_of reads (reading (ask r h).next) heard in
    read_more (ask r h).next heard ∙ (ap (λ values. values ++ more) ((asked r h).values ∙ behind_turn r.values (turn_of r h)) ∙ append_assoc r.values one more)

-- all of them are given; but for those behind one that could not be kept
abbrev pub AreGiven : LeadStop End → List ℕ → List ℕ → Type 0
AreGiven (KeepFailed fault) numbers given = (rest : List ℕ) × (numbers ≡ given ++ rest)
AreGiven other numbers given = numbers ≡ given

pub numbers_given : (stop : LeadStop End) (left : ℕ) (r : Reader) (heard : List Heard) (items : List Item) (given : List ℕ) → IsDone reads (Some stop) left (reading r) heard items given → AreGiven stop (news_of reads (reading r) heard) given
numbers_given (Ended end) left r heard items given d = sym d.given_is
numbers_given (CutOff TurnsOver) left r heard items given d = sym d.0.given_is
numbers_given (CutOff (LineFailed fault)) left r heard items given (inl d) = sym d.0.given_is
numbers_given (CutOff (LineFailed fault)) left r heard items given (inr u) = sym u.given_is
numbers_given (KeepFailed fault) left r heard items given u = (u.rest, unkept_news reads (reading r) heard items given u)

-- ---- one step

at_end : (old more : List ℕ) (v d : ℕ) → slice_index_or (old ++ v ∷ more) (length old) d ≡ v
at_end [] more v d = refl
at_end (x ∷ old) more v d = at_end old more v d

pub one_number : (old new : List ℕ) (turn : Turn) (k n : ℕ) → new ≡ values_after old turn → k ≡ length old → k < length new → n ≡ slice_index_or new k n → n ∷ [] ≡ option_to_list (number_of turn)
one_number old new turn k n is at low found = by (number_of turn) (is ∙ behind_turn old turn) where
  by : (o : Option ℕ) → new ≡ old ++ option_to_list o → n ∷ [] ≡ option_to_list o
  by None all = absurd (omega (arith, at, low, ap length all, length-append old []))
  by (Some v) all = ap (λ m. m ∷ []) (found ∙ (ap (λ list. slice_index_or list k n) all ∙ (ap (λ i. slice_index_or (old ++ v ∷ []) i n) at ∙ at_end old [] v n)))

pub no_number : (old new : List ℕ) (turn : Turn) (k : ℕ) → new ≡ values_after old turn → k ≡ length old → length new ≤ k → [] ≡ option_to_list (number_of turn)
no_number old new turn k is at high = by (number_of turn) (is ∙ behind_turn old turn) where
  by : (o : Option ℕ) → new ≡ old ++ option_to_list o → [] ≡ option_to_list o
  by None all = refl
  by (Some v) all = absurd (omega (arith, at, high, ap length all, length-append old (v ∷ [])))
