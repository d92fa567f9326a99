-- One honest line on which the hosts of a test were led is an honest line for each of them.
use Rattle.std.proofs.Common.{◌≡◌, ◌⊎◌, ℕ, zero, suc, ◌^◌, ◌<◌, true, List, [], ◌∷◌, ◌++◌, refl, ap, sym, subst, inl, inr, ◌∙◌, append-nil}
use Rattle.std.specs.Prelude.{⊤}
use Rattle.host_devices.specs.declared.item.Item.{Item}
use Rattle.std.proofs.lemmas.List.Elements.{All-nil}
use Rattle.reading_core.specs.Addresses.{IsAddress, IsRange}
use Rattle.memory_report.specs.declared.findings.Word.{Word}
use Rattle.probe_report.specs.declared.findings.Findings.{Findings}
use Rattle.probe_report.specs.declared.judging.Verdict.{Verdict}
use Rattle.probe_report.specs.declared.judging.Verdict.TheVariants.{Forgets, Stores, Unknown}
use Rattle.probe_report.specs.Judging.{verdict_of}
use Rattle.machine_probe.specs.Follow.{stores}
use Rattle.machine_probe.proofs.OneLine.{AllLeave, AreHosts, all_join, hosts_all, hosts_behind, row_of_line, tried_hosts}
use Rattle.machine_memory.specs.declared.course.Place.{Place}
use Rattle.machine_memory.specs.declared.course.Place.TheVariants.{Trying, Testing, Marking, Looking, PuttingBack, LookingAgain, Over}
use Rattle.machine_memory.specs.declared.memory_options.MemoryOptions.{MemoryOptions}
use Rattle.machine_memory.specs.Belief.{AreBelievableOver}
use Rattle.machine_memory.specs.Course.{AreWords, IsWithin, Standing, begun, behind_test, by_verdict}
use Rattle.machine_memory.specs.Bus.{number_at}
use Rattle.machine_memory.specs.BusRuns.{IsNamedStep}
use Rattle.memory_core.specs.declared.stage.Borrowed.{Borrowed}
use Rattle.machine_memory.specs.Options.{IsAsked, probe_options}
use Rattle.machine_memory.specs.Runs.{AreSteps, IsRow, IsStepAt, most_steps}
use Rattle.machine_memory.proofs.Believed.{believes, test_asked, test_leaves}
use Rattle.machine_memory.proofs.BusFacts.{look_leaves}
use Rattle.machine_memory.proofs.BusLeads.{look_within, look_words, mark_within, mark_words, put_back_within, put_back_words, stopped_within, stopped_words, second_look_within, second_look_words, test_words, then_are, then_within}
use Rattle.machine_memory.proofs.Deposits.{deposit_leaves}
use Rattle.machine_memory.proofs.Leads.{test_within, trial_within, trial_words}

abbrev IsOver : Place → Type 0
IsOver (Over end) = ⊤
IsOver place = ⊥

-- all of it leaves the machine ready, but for a load at the end, behind which nothing comes
abbrev Leave : List (List Item) → Place → Type 0
Leave parts place = AllLeave parts ⊎ (AreHosts parts × IsOver place)

stored_over : (to : ℕ) (s : Standing) (f : Findings) (verdict : Verdict) → stores verdict ≡ true → IsOver (by_verdict to s f verdict).place
stored_over to s f Forgets is = absurd (cc is)
stored_over to s f Stores is = tt
stored_over to s f Unknown is = absurd (cc is)

-- behind parts that leave it ready
behind : (front more : List (List Item)) (place : Place) → AllLeave front → Leave more place → Leave (front ++ more) place
behind front more place all (inl leave) = inl (all_join front more all leave)
behind front more place all (inr hosts) = inr (hosts_behind front more all hosts.0, hosts.1)

-- a word that is named was given its old number by a host like the others
named_leaves : (options : MemoryOptions) (word : Borrowed) (s after : Standing) (parts : List (List Item)) → IsNamedStep options word s after parts → Leave parts after.place
named_leaves options word s after parts t =
    inl (subst AllLeave (sym t.deposit_led.part) (deposit_leaves options word.address word.old t.stop parts t.deposit_led, tt))

step_leaves : (options : MemoryOptions) (place : Place) (s after : Standing) (parts : List (List Item)) → options.patience < 2 ^ 32 → IsAsked options → IsWithin options.to place → IsStepAt options place s after parts → Leave parts after.place
step_leaves options (Trying at) s after parts long asked range t =
    by (tried_hosts (probe_options options at) t.f parts range.from_is long t.tried)
  where
    by : AllLeave parts ⊎ (AreHosts parts × (stores (verdict_of t.f) ≡ true)) → Leave parts after.place
    by (inl all) = inl all
    by (inr hosts) = inr (hosts.0, subst (λ (x : Standing). IsOver x.place) (sym t.after_is) (stored_over options.to s t.f (verdict_of t.f) hosts.1))
step_leaves options (Testing at) s after parts long asked range t =
    inl (subst AllLeave (sym t.test_led.part) (test_leaves options at t.last t.stop parts long asked.some range t.test_led, tt))
step_leaves options (Marking word place) s after parts long asked within (inr t) = named_leaves options word s after parts t
step_leaves options (Looking word first) s after parts long asked within (inr t) = named_leaves options word s after parts t
step_leaves options (Marking word place) s after parts long asked within (inl t) =
    inl (subst AllLeave (sym t.deposit_led.part) (deposit_leaves options word.address (number_at place word.old) t.stop parts t.deposit_led, tt))
step_leaves options (Looking word first) s after parts long asked within (inl t) =
    inl (subst AllLeave (sym t.look_led.part) (look_leaves options word.address first t.last t.stop parts long within.1 t.look_led, tt))
step_leaves options (PuttingBack word) s after parts long asked within t =
    inl (subst AllLeave (sym t.deposit_led.part) (deposit_leaves options word.address word.old t.stop parts t.deposit_led, tt))
step_leaves options (LookingAgain word first) s after parts long asked within t =
    inl (subst AllLeave (sym t.look_led.part) (look_leaves options word.address first t.last t.stop parts long within t.look_led, tt))
step_leaves options (Over end) s after parts long asked range t = inl (subst AllLeave (sym t.1) tt)

record IsIn (options : MemoryOptions) (s : Standing) : Type 0 where
  pub within : IsWithin options.to s.place
  pub are : AreWords s.words

named_within : (options : MemoryOptions) (word : Borrowed) (s after : Standing) (parts : List (List Item)) → AreWords s.words → IsNamedStep options word s after parts → IsIn options after
named_within options word s after parts are t = record {
  within = subst (λ (x : Standing). IsWithin options.to x.place) (sym t.after_is) (stopped_within options.to s word t.stop);
  are = subst AreWords (sym (ap (λ (x : Standing). x.words) t.after_is ∙ stopped_words s word t.stop)) are;
}

step_within : (options : MemoryOptions) (place : Place) (s after : Standing) (parts : List (List Item)) → options.patience < 2 ^ 32 → IsAsked options → s.place ≡ place → IsWithin options.to place → AreWords s.words → IsStepAt options place s after parts → IsIn options after
step_within options (Trying at) s after parts long asked is range are t = record {
  within = subst (λ (x : Standing). IsWithin options.to x.place) (sym t.after_is) (trial_within options.to s t.f (subst (λ n. IsRange n options.to) (sym t.tried.address) range));
  are = subst AreWords (sym (ap (λ (x : Standing). x.words) t.after_is ∙ trial_words options.to s t.f)) are;
}
step_within options (Testing at) s after parts long asked is range are t =
    let reached : AreWords (behind_test options.to s t.last t.stop).words = test_words options.to s t.last t.stop are (test_asked options at t.last t.stop parts long asked.some range t.test_led) in
    record {
      within = subst (λ (x : Standing). IsWithin options.to x.place) (sym t.after_is) (then_within options.to options.every (behind_test options.to s t.last t.stop) reached (test_within options.to s t.last t.stop range.to_is));
      are = subst (λ (x : Standing). AreWords x.words) (sym t.after_is) (then_are options.every (behind_test options.to s t.last t.stop) reached);
    }
step_within options (Marking word place) s after parts long asked is within are (inr t) = named_within options word s after parts are t
step_within options (Looking word first) s after parts long asked is within are (inr t) = named_within options word s after parts are t
step_within options (Marking word place) s after parts long asked is within are (inl t) = record {
  within = subst (λ (x : Standing). IsWithin options.to x.place) (sym t.after_is) (mark_within options.to place s word t.stop within);
  are = subst AreWords (sym (ap (λ (x : Standing). x.words) t.after_is ∙ mark_words place s word t.stop)) are;
}
step_within options (Looking word first) s after parts long asked is within are (inl t) = record {
  within = subst (λ (x : Standing). IsWithin options.to x.place) (sym t.after_is) (look_within options.to s word t.last t.stop within.0);
  are = subst AreWords (sym (ap (λ (x : Standing). x.words) t.after_is ∙ look_words s word t.last t.stop)) are;
}
step_within options (PuttingBack word) s after parts long asked is within are t = record {
  within = subst (λ (x : Standing). IsWithin options.to x.place) (sym t.after_is) (put_back_within options.to s word t.stop);
  are = subst AreWords (sym (ap (λ (x : Standing). x.words) t.after_is ∙ put_back_words s word t.stop)) are;
}
step_within options (LookingAgain word first) s after parts long asked is within are t = record {
  within = subst (λ (x : Standing). IsWithin options.to x.place) (sym t.after_is) (second_look_within options.to s word t.last t.stop);
  are = subst AreWords (sym (ap (λ (x : Standing). x.words) t.after_is ∙ second_look_words s word t.last t.stop)) are;
}
step_within options (Over end) s after parts long asked is range are t = record {
  within = subst (λ (x : Standing). IsWithin options.to x.place) (sym t.0) (subst (IsWithin options.to) (sym is) tt);
  are = subst (λ (x : Standing). AreWords x.words) (sym t.0) are;
}

-- nothing is said behind the end
over_says : (options : MemoryOptions) (place : Place) (s after : Standing) (parts : List (List Item)) → IsOver place → IsStepAt options place s after parts → (after ≡ s) × (parts ≡ [])
over_says options (Trying at) s after parts over t = absurd over
over_says options (Testing at) s after parts over t = absurd over
over_says options (Marking word place) s after parts over t = absurd over
over_says options (Looking word first) s after parts over t = absurd over
over_says options (PuttingBack word) s after parts over t = absurd over
over_says options (LookingAgain word first) s after parts over t = absurd over
over_says options (Over end) s after parts over t = t

record LeavesWithin (options : MemoryOptions) (parts : List (List Item)) (last : Standing) : Type 0 where
  pub leave : Leave parts last.place
  pub inside : IsIn options last

step_more : (options : MemoryOptions) (between last : Standing) (front more : List (List Item)) → options.patience < 2 ^ 32 → IsAsked options → LeavesWithin options front between → IsStepAt options between.place between last more → LeavesWithin options (front ++ more) last
step_more options between last front more long asked k step = record {
  leave = by k.leave;
  inside = step_within options between.place between last more long asked refl k.inside.within k.inside.are step;
}
  where
    by : Leave front between.place → Leave (front ++ more) last.place
    by (inl all) = behind front more last.place all (step_leaves options between.place between last more long asked k.inside.within step)
    by (inr hosts) =
        let none = over_says options between.place between last more hosts.1 step in
        inr (subst AreHosts (sym (ap (λ rest. front ++ rest) none.1 ∙ append-nil front)) hosts.0, subst (λ (x : Standing). IsOver x.place) (sym none.0) hosts.1)

steps_leave : (n : ℕ) (options : MemoryOptions) (last : Standing) (parts : List (List Item)) → options.patience < 2 ^ 32 → IsAsked options → AreSteps n options (begun options.from) last parts → LeavesWithin options parts last
steps_leave zero options last parts long asked steps = record {
  leave = inl (subst AllLeave (sym steps.1) tt);
  inside = subst (IsIn options) (sym steps.0) (record { within = asked.range; are = All-nil (λ (word : Word). IsAddress word.address) });
}
steps_leave (suc n) options last parts long asked (between, front, more, steps, step, all) =
    subst (λ list. LeavesWithin options list last) (sym all) (step_more options between last front more long asked (steps_leave n options between front long asked steps) step)

are_hosts : (parts : List (List Item)) (place : Place) (said : List Item) (more : List (List Item)) → parts ≡ said ∷ more → Leave parts place → AreHosts parts
are_hosts parts place said more is (inl all) = subst AreHosts (sym is) (some (subst AllLeave is all))
  where
    some : AllLeave (said ∷ more) → AreHosts (said ∷ more)
    some leave = hosts_all said more leave.0 leave.1
are_hosts parts place said more is (inr hosts) = hosts.0

pub believes_over : (options : MemoryOptions) (last : Standing) (parts : List (List Item)) → options.patience < 2 ^ 32 → IsAsked options → IsRow options (begun options.from) last parts → AreBelievableOver last parts
believes_over options last parts long asked row machine now lost said more is ready honest =
    believes options last parts long asked row machine now lost ready
    (row_of_line machine now parts lost ready (are_hosts parts last.place said more is (steps_leave most_steps options last parts long asked row).leave) honest)
