-- A progress that a host can begin with, and that lines lead to no other.
use Rattle.std.proofs.Common.{◌≡◌, ℕ, ◌+◌, ◌≤◌, Bool, true, false, cond, ◌&&◌, ◌||◌, nat_lt, List, length, drop, Option, Some, None, IsSome, arith, ap, sym, refl, ◌∙◌, subst, length-append, length-drop, inl, inr}
use Rattle.std.specs.Option.{is_none}
use Rattle.std.proofs.lemmas.Bool.{false≢true}
use Rattle.std.proofs.lemmas.Bool.Decides.{nat_tests}
use Rattle.tape_image.specs.Plan.{PlanValue}
use Rattle.host_core.specs.declared.progress.Progress.{Progress}
use Rattle.host_core.specs.declared.progress.BadProgress.{BadProgress}
use Rattle.host_core.specs.declared.progress.BadProgress.TheVariants.{TooMany, EarlyMark}
use Rattle.host_core.specs.Opening.{refusal_of}
use Rattle.load_record.specs.declared.version.Version.{Version}
use Rattle.load_record.specs.Reading.{Adds, against, nothing, HoldsTorn}

-- no more words than the plan has, and the mark only with all of them and a start
pub record IsSound (plan : PlanValue) (progress : Progress) : Type 0 where
  pub within : progress.verified ≤ length plan.words
  pub marked : progress.going ≡ true → (progress.verified ≡ length plan.words) × IsSome plan.start

-- what refuses a progress, by the plan's length and its start
abbrev refused : ℕ → Option ℕ → ℕ → Bool → Option BadProgress
refused n start v g = cond (nat_lt n v) (Some TooMany) (cond (g && (nat_lt v n || is_none start)) (Some EarlyMark) None)

not_refused : (n : ℕ) (start : Option ℕ) (v : ℕ) (g : Bool) → v ≤ n → (g ≡ true → (v ≡ n) × IsSome start) → refused n start v g ≡ None
not_refused n start v false within marked =
    let few : nat_lt n v ≡ false = grind (arith, nat_tests) in ap (λ t. cond t (Some TooMany) None) few
not_refused n None v true within marked = let none = (marked refl).1 in absurd (cc none)
not_refused n (Some start) v true within marked =
    let all = (marked refl).0 in
    let few : nat_lt n v ≡ false = grind (arith, nat_tests) in
    let full : nat_lt v n ≡ false = grind (arith, nat_tests) in
    ap (λ t. cond t (Some TooMany) (cond (nat_lt v n || false) (Some EarlyMark) None)) few ∙ ap (λ t. cond (t || false) (Some EarlyMark) None) full

pub sound-accepted : (plan : PlanValue) (progress : Progress) → IsSound plan progress → refusal_of plan progress.verified progress.going ≡ None
sound-accepted plan progress s = not_refused (length plan.words) plan.start progress.verified progress.going s.within s.marked

few_enough : (n : ℕ) (start : Option ℕ) (v : ℕ) (g : Bool) → refused n start v g ≡ None → v ≤ n
few_enough n start v g e = elim (nat_lt n v) as (λ t. nat_lt n v ≡ t → cond t (Some TooMany) (cond (g && (nat_lt v n || is_none start)) (Some EarlyMark) None) ≡ None → v ≤ n)
    [ true ↦ (λ on h. absurd (cc h)) | false ↦ (λ off h. grind (arith, nat_tests)) ] refl e

mark_due : (n : ℕ) (start : Option ℕ) (v : ℕ) → refused n start v true ≡ None → (v ≡ n) × IsSome start
mark_due n start v e =
    let few = few_enough n start v true e in
    let off : nat_lt n v ≡ false = grind (arith, nat_tests) in
    let rest : cond (nat_lt v n || is_none start) (Some EarlyMark) None ≡ None =
    ap (λ t. cond t (Some TooMany) (cond (nat_lt v n || is_none start) (Some EarlyMark) None)) (sym off) ∙ e in
    elim (nat_lt v n) as (λ t. nat_lt v n ≡ t → cond (t || is_none start) (Some EarlyMark) None ≡ None → (v ≡ n) × IsSome start) [
      | true ↦ (λ on h. absurd (cc h))
      | false ↦ (λ less h. (grind (arith, nat_tests), has_start start h))
    ] refl rest
  where
    has_start : (s : Option ℕ) → cond (is_none s) (Some EarlyMark) None ≡ None → IsSome s
    has_start None h = absurd (cc h)
    has_start (Some s) h = refl

pub accepted-sound : (plan : PlanValue) (verified : ℕ) (going : Bool) → refusal_of plan verified going ≡ None → IsSound plan (record { verified = verified; going = going })
accepted-sound plan verified false e = record {
  within = few_enough (length plan.words) plan.start verified false e;
  marked = λ h. absurd (false≢true h);
}
accepted-sound plan verified true e = record {
  within = few_enough (length plan.words) plan.start verified true e;
  marked = λ h. mark_due (length plan.words) plan.start verified e;
}

pub nothing-sound : (plan : PlanValue) → IsSound plan nothing
nothing-sound plan = record { within = omega arith; marked = λ h. absurd (false≢true h) }

-- so many of the words that come next leave it sound
further_sound : (plan : PlanValue) (before : Progress) (count : ℕ) → IsSound plan before → count ≤ length (drop before.verified plan.words)
    → IsSound plan (record { verified = before.verified + count; going = before.going })
further_sound plan before count s few =
    let l = length-drop before.verified plan.words in
    let w = s.within in
    record {
      within = omega arith;
      marked = λ h. let m = s.marked h in let all = m.0 in (omega arith, m.1);
    }

-- a line leads to a sound progress
pub adds_sound : (version : Version) (plan : PlanValue) (line : List ℕ) (before after : Progress) → Adds (against version plan) line before after → IsSound plan before → IsSound plan after
adds_sound version plan line before after (inl w) s =
    let l = ap length w.next ∙ length-append w.words w.later in
    subst (IsSound plan) (sym w.after_is) (further_sound plan before (length w.words) s (omega arith))
adds_sound version plan line before after (inr m) s =
    let here : IsSound plan (record { verified = before.verified; going = true }) = record { within = s.within; marked = λ h. (m.due.all, m.due.has_start) } in
    subst (IsSound plan) (sym m.after_is) here

-- the words of a torn piece leave it sound
pub torn_sound : (version : Version) (plan : PlanValue) (torn : List ℕ) (reached : Progress) (whole : ℕ) → IsSound plan reached
    → HoldsTorn version torn (drop reached.verified plan.words) whole → IsSound plan (record { verified = reached.verified + whole; going = reached.going })
torn_sound version plan torn reached whole s held = further_sound plan reached whole s held.few
