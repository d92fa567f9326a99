use Rattle.std.proofs.Common.{rules, refl, subst, IfOk, IfErr}
use Rattle.std.proofs.lemmas.Result.{IfOk-weaker, IfErr-weaker}
use Rattle.request_values.specs.Change.{◌⇒◌}
use Rattle.request_values.specs.declared.request.Request.TheVariants.{Tape}
use Rattle.request_values.specs.declared.request.TapeRequest.TheVariants.{Print}
use Rattle.requests.specs.Asked.{asked_of, system_told}
use Rattle.requests.specs.Attempt.{IsDone, IsFailed}
use Rattle.requests.specs.Loading.{AreUnloaded}
use Rattle.requests.specs.Verifying.{AreUnverified}
use Rattle.requests.specs.Moment.{moment}
use Rattle.requests.proofs.Attempts.{came_to, told}
use Rattle.requests.proofs.handling.attempt.Goals as goal
use Rattle.requests.proofs.handling.attempt.Goals.{in-Tape-Print, in-Tape-Make, in-Machine-Load, in-Machine-Verify, in-Machine-Save, in-Machine-Probe, in-Machine-Memory}

pub returns : goal.returns
returns g c =
    let holds = g.K.Disk.Disk.holds in
    let before = moment holds c.args.system c.args.streams.now in
    told holds c.args.request.now before c.match-request.system c.match-request.streams c.end-status.new.streams c.say_changed.new.streams c.end-status.result
    c.only_prints-only_prints.result c.changed-changed.result c.only_prints-only_prints.ensures
    (elim c.match-request.branch [
      | in-Tape-Print w ↦
          let outcome = w.print_answer-outcome.result in
          let inside = w.system.inside in
          let disk = g.K.Disk.Disk.asked inside.disk in
          let for_lines = g.K.Consoles.Consoles.asked inside.consoles in
          let lines = g.K.Consoles.Consoles.lines inside.consoles in
          let first = moment holds (system_told (asked_of (g.K.Inputs.InputFiles.opened inside.inputs) disk for_lines lines) inside.disk) c.args.streams.now in
          let asked = system_told (asked_of (g.K.Inputs.InputFiles.opened w.print_answer-outcome.new.inputs) disk for_lines lines) inside.disk in
          let after = moment holds asked w.print_answer-outcome.new.streams in
          let done : IfOk outcome (IsDone (Tape (Print w.in-Tape-Print.request)) (first ⇒ after)) =
          IfOk-weaker outcome _ _ (λ status h. (h, refl)) w.print_answer-outcome.ensures.ok in
          let failed : IfErr outcome (IsFailed (Tape (Print w.in-Tape-Print.request)) (first ⇒ after)) =
          IfErr-weaker outcome _ _ (λ failure h. (h, refl)) w.print_answer-outcome.ensures.err in
          rw (← w.system.view_is) (came_to holds c.args.request.now first c.match-request.system (asked, outcome) c.match-request.streams w.print_answer-outcome.new.streams
          w.system-is w.streams-is (record {
            ok = search rules;
            err = search rules;
            quiet = w.print_answer-outcome.ensures.quiet;
          }))
      | in-Tape-Make w ↦ came_to holds _ before _ w.make_words.result _ w.make_words.new.streams w.system-is w.streams-is (record {
        ok = search rules;
        err = search rules;
        quiet = w.make_words.ensures.quiet;
      })
      | in-Machine-Load w ↦
          let due : IfErr w.load_tapes.result.1 (AreUnloaded w.in-Machine-Load.names.items w.in-Machine-Load.load (before ⇒ moment holds w.load_tapes.result.0 w.load_tapes.new.streams)) =
          subst (λ items. IfErr w.load_tapes.result.1 (AreUnloaded items w.in-Machine-Load.load (before ⇒ moment holds w.load_tapes.result.0 w.load_tapes.new.streams)))
          w.deref.ensures.value w.load_tapes.ensures.err in
          came_to holds _ before _ w.load_tapes.result _ w.load_tapes.new.streams w.system-is w.streams-is (record {
            ok = search rules;
            err = grind rules steps 20000000;
            quiet = w.load_tapes.ensures.quiet;
          })
      | in-Machine-Verify w ↦
          let over = w.verify_tapes-outcome in
          let due : IfErr over.result (AreUnverified w.in-Machine-Verify.names.items w.in-Machine-Verify.look (before ⇒ moment holds over.new.system over.new.streams)) =
          subst (λ items. IfErr over.result (AreUnverified items w.in-Machine-Verify.look (before ⇒ moment holds over.new.system over.new.streams)))
          w.deref-in-Machine-Verify.ensures.value over.ensures.err in
          came_to holds _ before _ (over.new.system, over.result) _ over.new.streams w.system-is w.streams-is (record {
            ok = search rules;
            err = grind rules steps 20000000;
            quiet = over.ensures.quiet;
          })
      | in-Machine-Save w ↦ came_to holds _ before _ w.save_words.result _ w.save_words.new.streams w.system-is w.streams-is (record {
        ok = search rules;
        err = search rules;
        quiet = w.save_words.ensures.quiet;
      })
      | in-Machine-Probe w ↦ came_to holds _ before _ (w.probe_console-outcome.new.system, w.probe_console-outcome.result) _ w.probe_console-outcome.new.streams w.system-is w.streams-is (record {
        ok = search rules;
        err = search rules;
        quiet = w.probe_console-outcome.ensures.quiet;
      })
      | in-Machine-Memory w ↦ came_to holds _ before _ (w.test_words-outcome.new.system, w.test_words-outcome.result) _ w.test_words-outcome.new.streams w.system-is w.streams-is (record {
        ok = search rules;
        err = search rules;
        quiet = w.test_words-outcome.ensures.quiet;
      })
    ])
    c.end-status.ensures c.say_changed.ensures.others c.say_changed.ensures.told
