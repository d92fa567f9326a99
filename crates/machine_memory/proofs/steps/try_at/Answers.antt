use Rattle.std.proofs.Common.{ap, subst, sym, ◌∙◌}
use Rattle.memory_report.specs.declared.findings.Word.{Word}
use Rattle.std.specs.Prelude.{List}
use Rattle.reading_core.specs.Addresses.{IsRange}
use Rattle.machine_memory.specs.BusRuns.{IsUnlent}
use Rattle.machine_memory.specs.Course.{AreWords, IsWithin, Standing}
use Rattle.machine_memory.proofs.Leads.{holds_on_error, map_ok, trial_ready, trial_within, trial_words, try_cut, try_step}
use Rattle.machine_memory.proofs.steps.try_at.Goals as goal

pub returns-clause-made : goal.returns-clause-made
returns-clause-made g c =
    let told = g.L.Line.told in
    map_ok c.behind_trial.result _ _
    (λ after is. try_step c.args.options c.args.at c.args.course after c.in_ok-found.found (told c.args.line.now) (told c.try_console.new.line) c.in_ok-found.ensures.made is)
    c.behind_trial.ensures

pub returns-clause-within : goal.returns-clause-within
returns-clause-within g c =
    map_ok c.behind_trial.result _ _
    (λ after is. subst (λ (s : Standing). IsWithin c.args.options.to s.place) (sym is)
    (trial_within c.args.options.to c.args.course c.in_ok-found.found (subst (λ n. IsRange n c.args.options.to) (sym c.in_ok-found.ensures.made.are.address) c.requires.within)))
    c.behind_trial.ensures

pub returns-clause-cut : goal.returns-clause-cut
returns-clause-cut g c =
    let told = g.L.Line.told in
    holds_on_error c.behind_trial.result _ (try_cut c.args.options c.args.at c.in_ok-found.found (told c.args.line.now) (told c.try_console.new.line) c.in_ok-found.ensures.made)

pub behind_trial-requires : goal.behind_trial-requires
behind_trial-requires g c = subst (λ n. IsRange n c.args.options.to) (sym c.in_ok-found.ensures.made.are.address) c.requires.within

pub returns-clause-words : goal.returns-clause-words
returns-clause-words g c =
    map_ok c.behind_trial.result _ _
    (λ after is. subst (λ (words : List Word). AreWords words) (sym (ap (λ (s : Standing). s.words) is ∙ trial_words c.args.options.to c.args.course c.in_ok-found.found)) c.requires.words)
    c.behind_trial.ensures

pub returns-clause-ready : goal.returns-clause-ready
returns-clause-ready g c =
    map_ok c.behind_trial.result _ _
    (λ after is. subst (λ (s : Standing). IsUnlent s.place) (sym is) (trial_ready c.args.options.to c.args.course c.in_ok-found.found))
    c.behind_trial.ensures
