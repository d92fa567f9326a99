-- Which progress a host can begin with.
use Rattle.std.specs.Prelude.{ℕ, Bool, ◌&&◌, ◌||◌, nat_lt, if◌then◌else◌, length, Option, Some, None}
use Rattle.std.specs.Option.{is_none}
use Rattle.tape_image.specs.Plan.{PlanValue}
use Rattle.host_core.specs.declared.progress.BadProgress.{BadProgress}
use Rattle.host_core.specs.declared.progress.BadProgress.TheVariants.{TooMany, EarlyMark}

-- what is wrong with a progress: more words are verified than the plan has; else the mark is set
-- and a word is not verified, or the plan has no start
abbrev pub refusal_of : PlanValue → ℕ → Bool → Option BadProgress
refusal_of plan verified going =
    if nat_lt (length plan.words) verified then Some TooMany
    else (if going && (nat_lt verified (length plan.words) || is_none plan.start) then Some EarlyMark
    else None)
