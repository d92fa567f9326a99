-- What holds of a trial over every list of heard things.
use Rattle.std.proofs.Common.{◌≡◌, ℕ, ◌+◌, Bool, nat_lt, if◌then◌else◌, List, [], ◌∷◌, Option, Some, None, refl, ◌∙◌}
use Rattle.std.specs.Prelude.{All, option_to_list}
use Rattle.std.proofs.lemmas.List.Elements.{All-nil, All-cons, All-append}
use Rattle.host_core.specs.declared.heard.Heard.{Heard}
use Rattle.host_core.specs.Console.{resynchronise}
use Rattle.host_core.proofs.Frame.{on_test}
use Rattle.trial_core.specs.declared.phase.Phase.TheVariants.{Settle, Sync, Ended}
use Rattle.trial_core.specs.declared.phase.End.TheVariants.{GaveUp}
use Rattle.trial_core.specs.declared.turn.Turn.{Turn}
use Rattle.trial_core.specs.declared.turn.Turn.TheVariants.{Listen, Key, Stop, Stray, Timeout}
use Rattle.trial_core.specs.declared.trial.Trial.{Trial}
use Rattle.trial_core.specs.Laws.{led, replay, TypesOnlyTrying}
use Rattle.trial_core.specs.Trial.{IsTrial}
use Rattle.trial_core.specs.TrialTable.{TrialStep, IsTrying, KeyTries, ask, listens, noted, sends, taken, turn_of}
use Rattle.trial_core.proofs.Trials.{kept, tries}

key_tries : (key : Option ℕ) → KeyTries key → All IsTrying (option_to_list key)
key_tries None h = All-nil IsTrying
key_tries (Some c) h = All-cons IsTrying c [] h (All-nil IsTrying)

pub types_only_trying : (t : Trial) → IsTrial t → TypesOnlyTrying t
types_only_trying t h [] = All-nil IsTrying
types_only_trying t h (heard ∷ more) =
    All-append IsTrying (option_to_list (ask t heard).key) (replay (ask t heard).next more) (key_tries (ask t heard).key (tries t heard h)) (types_only_trying (ask t heard).next (kept t heard h) more)

-- what every turn leaves as it is: the address, the digits and the patience
pub record IsSame (t : Trial) (a : TrialStep) : Type 0 where
  pub address : a.next.address ≡ t.address
  pub digits : a.next.digits ≡ t.digits
  pub patience : a.next.patience ≡ t.patience

either : (t : Trial) (test : Bool) (a b : TrialStep) → IsSame t a → IsSame t b → IsSame t (if test then a else b)
either t test a b one other = on_test (λ v. IsSame t (if v then a else b)) test (λ _. one) (λ _. other)

taken_same : (t : Trial) (turn : Turn) → IsSame t (taken t turn)
taken_same t (Listen phase) = record { address = refl; digits = refl; patience = refl }
taken_same t (Key key phase) = record { address = refl; digits = refl; patience = refl }
taken_same t (Stop end) = record { address = refl; digits = refl; patience = refl }
taken_same t Stray =
    either t (nat_lt t.spent t.patience) (listens (record t { spent = t.spent + 1 }) Settle) (listens t (Ended GaveUp))
    record { address = refl; digits = refl; patience = refl }
    record { address = refl; digits = refl; patience = refl }
taken_same t Timeout =
    either t (nat_lt t.spent t.patience) (sends (record t { spent = t.spent + 1 }) resynchronise (Sync 0)) (listens t (Ended GaveUp))
    record { address = refl; digits = refl; patience = refl }
    record { address = refl; digits = refl; patience = refl }

asked_same : (t : Trial) (heard : Heard) → IsSame t (ask t heard)
asked_same t heard = let s = taken_same (noted t heard) (turn_of t heard) in record { address = s.address; digits = s.digits; patience = s.patience }

pub led_address : (t : Trial) (heard : List Heard) → (led t heard).address ≡ t.address
led_address t [] = refl
led_address t (heard ∷ more) = led_address (ask t heard).next more ∙ (asked_same t heard).address

pub led_digits : (t : Trial) (heard : List Heard) → (led t heard).digits ≡ t.digits
led_digits t [] = refl
led_digits t (heard ∷ more) = led_digits (ask t heard).next more ∙ (asked_same t heard).digits

pub led_patience : (t : Trial) (heard : List Heard) → (led t heard).patience ≡ t.patience
led_patience t [] = refl
led_patience t (heard ∷ more) = led_patience (ask t heard).next more ∙ (asked_same t heard).patience
