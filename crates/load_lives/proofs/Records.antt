-- What the record says that a life left.
use Rattle.std.proofs.Common.{◌≡◌, ℕ, ◌≤◌, true, false, List, [], ◌∷◌, ◌++◌, inl, inr, refl, ap, sym, subst, ◌∙◌}
use Rattle.std.specs.Prelude.{◌⊎◌, Ok, Contains}
use Rattle.tape_image.specs.Plan.{PlanValue, IsPlan}
use Rattle.host_core.specs.declared.progress.Progress.{Progress}
use Rattle.host_core.specs.Console.{go}
use Rattle.host_core.specs.Core.{Core}
use Rattle.host_devices.specs.declared.item.Item.{Item}
use Rattle.host_devices.specs.Dialogue.{keys_of}
use Rattle.load_record.specs.declared.version.Version.{Version}
use Rattle.load_record.specs.declared.version.Version.TheVariants.{Second}
use Rattle.load_record.specs.Law.{SaysAtMost}
use Rattle.load_record.specs.Reading.{Says, Lead, nothing}
use Rattle.load_record.specs.RecordText.{record_text}
use Rattle.load_record.proofs.Readings.{one_answer}
use Rattle.load_record.proofs.RecordLaws.{record_made, record_short, front_read, whole_read}
use Rattle.load_record.proofs.Sound.{IsSound, sound-accepted, nothing-sound, adds_sound, torn_sound}
use Rattle.load_lives.specs.Lives.{IsLeft}

-- ---- what a text says

lead_sound : (version : Version) (plan : PlanValue) (lines : List (List ℕ)) (before after : Progress) → Lead version plan lines before after → IsSound plan before → IsSound plan after
lead_sound version plan [] before after led sound = subst (IsSound plan) (sym led) sound
lead_sound version plan (line ∷ lines) before after led sound = lead_sound version plan lines led.0 after led.2 (adds_sound version plan line before led.0 led.1 sound)

-- what a text says is a progress that a host can begin with
pub says_sound : (plan : PlanValue) (text : List ℕ) (progress : Progress) → Says plan text (Ok progress) → IsSound plan progress
says_sound plan text progress (short, inl empty) = subst (IsSound plan) (sym empty.none) (nothing-sound plan)
says_sound plan text progress (short, inr r) =
    subst (IsSound plan) (sym r.counted) (torn_sound r.version plan r.torn r.reached r.whole (lead_sound r.version plan r.lines nothing r.reached r.leads (nothing-sound plan)) r.held)

-- a text says one thing alone
pub says_once : (plan : PlanValue) (text : List ℕ) (p q : Progress) → Says plan text (Ok p) → Says plan text (Ok q) → p ≡ q
says_once plan text p q a b = let same : Ok p ≡ Ok q = one_answer plan text (Ok p) (Ok q) a b in cc same

-- ---- what is left

-- the record that a life left, which began with a progress where the record said another, became a core and said these items
pub record Remains (plan : PlanValue) (recorded begun : Progress) (core : Core) (items : List Item) (new : List ℕ) : Type 0 where
  pub progress : Progress
  pub says : Says plan new (Ok progress)
  pub from : (progress ≡ recorded) ⊎ (progress.verified ≤ core.verified)
  pub marked : progress.going ≡ true → core.going ≡ true
  pub stays : begun.going ≡ true → progress.going ≡ true
  pub sent : Contains (keys_of items) go → progress.going ≡ true

-- with the mark's words the core is one whose record can be read
abbrev pub CanBeRead : PlanValue → Core → Type 0
CanBeRead plan core = IsSound plan (record { verified = core.verified; going = core.going })

-- the mark stood before: the text is the old one
untouched : (plan : PlanValue) (recorded begun : Progress) (core : Core) (items : List Item) (old new : List ℕ) → begun.going ≡ recorded.going → (begun.going ≡ true → core.going ≡ true) →
    begun.going ≡ true → Says plan old (Ok recorded) → new ≡ old → Remains plan recorded begun core items new
untouched plan recorded begun core items old new mark stays set says same = record {
  progress = recorded;
  says = subst (λ text. Says plan text (Ok recorded)) (sym same) says;
  from = inl refl;
  marked = λ h. stays set;
  stays = λ h. sym mark ∙ h;
  sent = λ h. sym mark ∙ set;
}

-- where the whole new text says the mark, the text says it
pub said_whole : (plan : PlanValue) (core : Core) (new : List ℕ) (progress : Progress) → IsPlan plan → core.going ≡ true → CanBeRead plan core → Says plan new (Ok progress) →
    new ≡ record_text Second plan core.verified true → progress.going ≡ true
said_whole plan core new progress fits set sound says whole =
    let readable : IsSound plan (record { verified = core.verified; going = true }) = subst (λ g. IsSound plan (record { verified = core.verified; going = g })) set sound in
    let read : Says plan (record_text Second plan core.verified true) (Ok (record { verified = core.verified; going = true })) =
    whole_read Second plan (record_text Second plan core.verified true) core.verified true (record_short Second plan core.verified true fits)
    (record_made Second plan core.verified true (sound-accepted plan (record { verified = core.verified; going = true }) readable)) in
    ap (λ (p : Progress). p.going) (says_once plan new progress (record { verified = core.verified; going = true }) says (subst (λ text. Says plan text (Ok (record { verified = core.verified; going = true }))) (sym whole) read))

-- no mark stood before: the old text, or a front of the new one
begun_anew : (plan : PlanValue) (recorded begun : Progress) (core : Core) (items : List Item) (old new : List ℕ) → IsPlan plan → begun.going ≡ false → begun.going ≡ recorded.going → CanBeRead plan core →
    (Contains (keys_of items) go → core.going ≡ true) → Says plan old (Ok recorded) → (Contains (keys_of items) go → new ≡ record_text Second plan core.verified true) →
    (new ≡ old) ⊎ ((missing : List ℕ) × (new ++ missing ≡ record_text Second plan core.verified core.going)) → Remains plan recorded begun core items new
begun_anew plan recorded begun core items old new fits unset mark sound sets says whole (inl same) =
    let here : Says plan new (Ok recorded) = subst (λ text. Says plan text (Ok recorded)) (sym same) says in
    let none : recorded.going ≡ false = sym mark ∙ unset in record {
      progress = recorded;
      says = here;
      from = inl refl;
      marked = λ h. absurd (cc);
      stays = λ h. absurd (cc);
      sent = λ h. said_whole plan core new recorded fits (sets h) sound here (whole h);
    }
begun_anew plan recorded begun core items old new fits unset mark sound sets says whole (inr (missing, is)) =
    let few : SaysAtMost plan new core.verified core.going =
    front_read Second plan (record_text Second plan core.verified core.going) new missing core.verified core.going (record_short Second plan core.verified core.going fits)
    (record_made Second plan core.verified core.going (sound-accepted plan (record { verified = core.verified; going = core.going }) sound)) is in record {
      progress = few.progress;
      says = few.says;
      from = inr few.few;
      marked = few.marked;
      stays = λ h. absurd (cc);
      sent = λ h. said_whole plan core new few.progress fits (sets h) sound few.says (whole h);
    }

pub remains : (plan : PlanValue) (recorded begun : Progress) (core : Core) (items : List Item) (old new : List ℕ) → IsPlan plan → begun.going ≡ recorded.going → (begun.going ≡ true → core.going ≡ true) →
    (begun.going ≡ false → CanBeRead plan core) → (Contains (keys_of items) go → core.going ≡ true) → Says plan old (Ok recorded) → IsLeft plan begun core items old new → Remains plan recorded begun core items new
remains plan recorded begun core items old new fits mark stays sound sets says left =
    elim begun.going as (λ g. begun.going ≡ g → Remains plan recorded begun core items new) [
      | true ↦ (λ set. untouched plan recorded begun core items old new mark stays set says (left.alone set))
      | false ↦ (λ unset. begun_anew plan recorded begun core items old new fits unset mark (sound unset) sets says left.whole left.cut)
    ] refl
