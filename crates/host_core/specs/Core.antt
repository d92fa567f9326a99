-- The host core as one value, and how a life begins (this project's choice).
use Rattle.std.specs.Prelude.{◌≡◌, ℕ, Bool, true, false, ◌==◌, ◌&&◌, if◌then◌else◌, min, List, length, get_or}
use Rattle.std.specs.Prelude.{Option, Some, None, unwrap_or}
use Rattle.std.specs.Option.{is_none}
use Rattle.tape_image.specs.Word.{WordValue}
use Rattle.tape_image.specs.Plan.{PlanValue}
use Rattle.host_core.specs.declared.phase.Phase.{Phase}
use Rattle.host_core.specs.declared.phase.Phase.TheVariants.{Settle, Sync, Return, Ended}
use Rattle.host_core.specs.declared.phase.Reason.TheVariants.{Close}
use Rattle.host_core.specs.declared.phase.End.{End}
use Rattle.host_core.specs.declared.phase.End.TheVariants.{Loaded, MaybeStarted}

-- whether the host is careful, as one on a line that changes characters has to be; what is loaded, how many of its words are verified, whether
-- the start was typed (the mark), how many mishaps a life survives and how many it has had, the characters it has sent, and its phase
pub record Core : Type 0 where
  pub careful : Bool
  pub plan : PlanValue
  pub verified : ℕ
  pub going : Bool
  pub patience : ℕ
  pub spent : ℕ
  pub sent : ℕ
  pub phase : Phase

-- the word past the end of every plan
abbrev pub no_word : WordValue
no_word = record { address = 0; mask = 0; value = 0 }

-- the plan's word number k, counted from 0
abbrev pub word_nr : List WordValue → ℕ → WordValue
word_nr words k = get_or words k no_word

-- the word under way: the first that is not verified
abbrev pub word_under_way : Core → WordValue
word_under_way core = word_nr core.plan.words core.verified

-- the start address, where there is one
abbrev pub start_of : Core → ℕ
start_of core = unwrap_or core.plan.start 0

-- where a life begins: after the mark nothing is typed, and with all words verified and no start nothing is left to do
abbrev pub first_phase : PlanValue → ℕ → Bool → Phase
first_phase plan verified going =
    if going then Ended MaybeStarted
    else (if verified == length plan.words && is_none plan.start then Ended Loaded
    else Settle)

-- the mishaps that a life survives where nothing else is said: a good line has none, and a dead one is told of after ten silences
-- (this project's choice)
abbrev pub plain_patience : ℕ
plain_patience = 8

-- a core at the beginning of a life
abbrev pub begun_by : Bool → PlanValue → ℕ → Bool → ℕ → Core
begun_by careful plan verified going patience = record {
  careful = careful;
  plan = plan;
  verified = verified;
  going = going;
  patience = patience;
  spent = 0;
  sent = 0;
  phase = first_phase plan verified going;
}

-- a plain one: so is each host that is not said to be careful
abbrev pub begun : PlanValue → ℕ → Bool → ℕ → Core
begun plan verified going patience = begun_by false plan verified going patience

-- a new life that keeps the care, the plan, the patience, the mark and at most the first `kept` verified words
abbrev pub restarted : Core → ℕ → Core
restarted core kept = begun_by core.careful core.plan (min kept core.verified) core.going core.patience

-- a core that has done nothing: no word verified, no mark, at the beginning of its life
abbrev pub IsFresh : Core → Type 0
IsFresh core = core ≡ begun_by core.careful core.plan 0 false core.patience

-- the end of the life, where it has ended
abbrev pub ended : Phase → Option End
ended (Ended end) = Some end
ended _ = None

-- an attempt at a word begins with the key that resynchronises, or with the CR that closes a verified word
abbrev pub begins_attempt : Phase → Bool
begins_attempt (Sync place) = true
begins_attempt (Return Close place) = true
begins_attempt phase = false
