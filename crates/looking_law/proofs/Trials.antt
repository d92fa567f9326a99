-- The keys of a trial's dialogue, and of what is told of it.
use Rattle.std.proofs.Common.{◌≡◌, ℕ, ◌^◌, ◌<◌, Bool, true, false, List, [], ◌∷◌, ◌++◌, Option, Some, None, inl, inr, refl, arith, sym, subst}
use Rattle.std.proofs.lemmas.List.Elements.{All-nil, All-cons}
use Rattle.std.specs.Prelude.{All, ◌⊎◌, ◌==◌, ◌||◌, if◌then◌else◌}
use Rattle.host_core.specs.declared.heard.Heard.{Heard}
use Rattle.host_devices.specs.declared.item.Item.{Item}
use Rattle.host_devices.specs.declared.item.Item.TheVariants.{Sent, Heard as Came}
use Rattle.host_devices.specs.Dialogue.{said, keys_of}
use Rattle.trial_core.specs.declared.trial.Trial.{Trial}
use Rattle.reading_core.specs.Addresses.{IsAddress}
use Rattle.trial_core.specs.Trial.{IsTrial, begun_trial}
use Rattle.trial_core.specs.TrialTable.{IsTrying, KeyTries, ask}
use Rattle.trial_core.proofs.Trials.{kept, tries}
use Rattle.looking_law.specs.Trying.{IsToldOf, TrialsOnlyTry, trial_dialogue}
use Rattle.looking_law.proofs.Keys.{Only}

all_only : (keys : List ℕ) → Only keys → All IsTrying keys
all_only [] only = All-nil IsTrying
all_only (c ∷ keys) only = All-cons IsTrying c keys only.0 (all_only keys only.1)

only_said : (key : Option ℕ) (items : List Item) → KeyTries key → Only (keys_of items) → Only (keys_of (said key ++ items))
only_said None items key only = only
only_said (Some c) items key only = (key, only)

only_dialogue : (things : List Heard) (t : Trial) → IsTrial t → Only (keys_of (trial_dialogue t things))
only_dialogue [] t is = tt
only_dialogue (heard ∷ more) t is = only_said (ask t heard).key (trial_dialogue (ask t heard).next more) (tries t heard is) (only_dialogue more (ask t heard).next (kept t heard is))

only_front : (items more : List Item) → Only (keys_of (items ++ more)) → Only (keys_of items)
only_front [] more only = tt
only_front (Sent key ∷ items) more only = (only.0, only_front items more only.1)
only_front (Came what ∷ items) more only = only_front items more only

only_told : (all told : List Item) → IsToldOf all told → Only (keys_of all) → Only (keys_of told)
only_told all told (inl whole) only = subst (λ items. Only (keys_of items)) (sym whole) only
only_told all told (inr (key, lacks)) only = only_front told (Sent key ∷ []) (subst (λ items. Only (keys_of items)) lacks only)

pub only_try : TrialsOnlyTry
only_try t things told is front = all_only (keys_of told) (only_told (trial_dialogue t things) told front (only_dialogue things t is))

either : (test : Bool) (one other : ℕ) → ((if test then other else one) ≡ one) ⊎ ((if test then other else one) ≡ other)
either true one other = inr refl
either false one other = inl refl

pub begins_kept : (address old patience : ℕ) → IsAddress address → patience < 2 ^ 32 → IsTrial (begun_trial address old patience)
begins_kept address old patience is long = record {
  address = is;
  digits = either (old == 1 || old == 10 || old == 83) 83 209;
  patient = omega arith;
  long = long;
  fits = tt;
}
