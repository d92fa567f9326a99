-- Lives that are over before they have begun.
use Rattle.std.proofs.Common.{◌≡◌, ◌⊎◌, ℕ, Bool, true, false, ◌==◌, ◌&&◌, if◌then◌else◌, List, Option, Some, None, length, sym, subst, ap, ◌∙◌, inl, inr}
use Rattle.std.specs.Option.{is_none}
use Rattle.tape_image.specs.Plan.{PlanValue}
use Rattle.host_core.specs.declared.phase.End.{End}
use Rattle.host_core.specs.declared.phase.End.TheVariants.{Loaded, MaybeStarted}
use Rattle.host_core.specs.declared.phase.Phase.TheVariants.{Settle, Ended as HasEnded}
use Rattle.host_core.specs.Core.{Core, ended}
use Rattle.engine.specs.declared.stop.Stop.TheVariants.{Ended}
use Rattle.machine_load.specs.declared.load_end.LoadEnd.{LoadEnd}
use Rattle.machine_load.specs.declared.load_end.LoadEnd.TheVariants.{Driven}
use Rattle.machine_load.specs.Load.{IsOpening, IsOverAtOnce, IsNeverBegun, words_taken}
use Rattle.request_values.specs.declared.options.LoadOptions.{LoadOptions}

abbrev end_of : (otherwise : End) → Option End → End
end_of otherwise (Some end) = end
end_of otherwise None = otherwise

-- the end with which a life begins
first_end : (going all : Bool) (end : End) → ended (if going then HasEnded MaybeStarted else (if all then HasEnded Loaded else Settle)) ≡ Some end → (end ≡ Loaded) ⊎ (end ≡ MaybeStarted)
first_end true all end is = inr (sym (ap (end_of end) is))
first_end false true end is = inl (sym (ap (end_of end) is))
first_end false false end is = absurd (cc is)

ends_so : (ended_so : LoadEnd) (end : End) → ended_so ≡ Driven (Ended end) → (end ≡ Loaded) ⊎ (end ≡ MaybeStarted) → IsNeverBegun ended_so
ends_so ended_so end is (inl loaded) = inl (is ∙ ap (λ e. Driven (Ended e)) loaded)
ends_so ended_so end is (inr started) = inr (is ∙ ap (λ e. Driven (Ended e)) started)

pub never_begun : (told : Option (List ℕ)) (plan : PlanValue) (options : LoadOptions) (core last : Core) (ended_so : LoadEnd) → IsOpening told plan options core → IsOverAtOnce core last ended_so → IsNeverBegun ended_so
never_begun told plan options core last ended_so opening over =
    ends_so ended_so over.end over.end_is
    (first_end opening.said.going ((words_taken options.recheck opening.said == length plan.words) && is_none plan.start) over.end (subst (λ (c : Core). ended c.phase ≡ Some over.end) opening.core_is over.over))
