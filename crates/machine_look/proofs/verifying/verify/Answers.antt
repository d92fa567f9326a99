use Rattle.std.proofs.Common.{List, ℕ, length, Some, ap, subst, ◌∙◌, refl}
use Rattle.std.specs.Io.KnownBytes.{Appends}
use Rattle.std.proofs.KnownBytes.{Appends-trans, Keeps-refl}
use Rattle.byte_io.specs.Output.{WritesPrefix}
use Rattle.byte_io.proofs.Fronts.{front_behind}
use Rattle.tape_image.specs.Word.{WordValue}
use Rattle.machine_look.specs.declared.look_fault.LookFault.TheVariants.{WriteOutput, Memory}
use Rattle.console_lines.specs.Console.{console_told}
use Rattle.request_values.specs.Change.{◌⇒◌}
use Rattle.machine_look.specs.LookFault.{IsVerifyFault}
use Rattle.machine_look.specs.Differences.{differences}
use Rattle.machine_look.specs.Trust.{is_trusted}
use Rattle.machine_look.specs.VerifyReport.{difference_lines, last_lines, verify_end}
use Rattle.tape_shelf.proofs.OnShelf.{error_is}
use Rattle.machine_look.proofs.Faults.{no_value}
use Rattle.machine_look.proofs.Verified.{compare_fault, differ_is, last_is, verified_of}
use Rattle.console_lines.specs.Path.{call_of}
use Rattle.machine_look.proofs.verifying.verify.Goals as goal

pub returns-in_err-core-clause-ok : goal.returns-in_err-core-clause-ok
returns-in_err-core-clause-ok g c = no_value c.from_residual.result _ _ c.from_residual.ensures.1

pub returns-in_err-core-clause-err : goal.returns-in_err-core-clause-err
returns-in_err-core-clause-err g c =
    error_is c.from_residual.result Memory
    (IsVerifyFault c.args.plan.now c.args.options (console_told g.C.Consoles g.W.Write (call_of c.args.dial) c.args.consoles.now c.args.out.now ⇒ console_told g.C.Consoles g.W.Write (call_of c.args.dial) c.args.consoles.now c.args.out.now))
    c.from_residual.ensures.1 (refl, refl, Keeps-refl (g.W.Write.contents c.args.out.now))

pub returns-in_err-core-2-clause-ok : goal.returns-in_err-core-2-clause-ok
returns-in_err-core-2-clause-ok g c = no_value c.from_residual-in_err-core-2.result _ _ c.from_residual-in_err-core-2.ensures.1

pub returns-in_err-core-2-clause-err : goal.returns-in_err-core-2-clause-err
returns-in_err-core-2-clause-err g c =
    let before = console_told g.C.Consoles g.W.Write (call_of c.args.dial) c.args.consoles.now c.args.out.now in
    let after = console_told g.C.Consoles g.W.Write (call_of c.args.dial) c.compare_over.new.consoles c.compare_over.new.out in
    error_is c.from_residual-in_err-core-2.result c.in_err-core-2.field-0.0 (IsVerifyFault c.args.plan.now c.args.options (before ⇒ after)) c.from_residual-in_err-core-2.ensures.1
    (compare_fault c.args.plan.now c.args.options c.words-words.result.now c.in_ok-core.core (before ⇒ after) c.in_err-core-2.field-0.0 c.words-words.ensures.value c.in_ok-core.ensures.begun c.in_err-core-2.ensures.fault)

pub returns-in_err-write_and_flush-clause-ok : goal.returns-in_err-write_and_flush-clause-ok
returns-in_err-write_and_flush-clause-ok g c = no_value c.from_residual-in_err-write_and_flush.result _ _ c.from_residual-in_err-write_and_flush.ensures.1

pub returns-in_err-write_and_flush-clause-err : goal.returns-in_err-write_and_flush-clause-err
returns-in_err-write_and_flush-clause-err g c =
    let before = console_told g.C.Consoles g.W.Write (call_of c.args.dial) c.args.consoles.now c.args.out.now in
    let after = console_told g.C.Consoles g.W.Write (call_of c.args.dial) c.compare_over.new.consoles c.write_and_flush.new.out in
    let plan = c.args.plan.now in
    let look = c.in_ok-core-2.ensures.look in
    let last = c.in_ok-core-2.core in
    let stop = c.in_ok-core-2.stop in
    let begun_is = c.in_ok-core.ensures.begun in
    let addresses = look.addresses ∙ ap (λ r. r.addresses) begun_is in
    let text = last_is plan.words c.words-words.result.now last c.values.result.now c.trusts-trusted.result (is_trusted c.args.options.care last.foreign) c.count_differences-differ.result stop c.deref.result.now c.trusts-trusted.ensures c.words-words.ensures.value c.values.ensures.value addresses c.count_differences-differ.ensures
    (c.deref.ensures.0 ∙ c.last_lines.ensures) in
    let verified = verified_of plan c.args.options before after c.in_ok-core.core last stop (verify_end (is_trusted c.args.options.care last.foreign) (length (differences plan.words last.values)) stop) begun_is look c.in_ok-core-2.ensures.asked refl in
    let shown = subst (λ (words : List WordValue). Appends before.out (g.W.Write.contents c.compare_over.new.out) (difference_lines words last.values)) c.words-words.ensures.value c.in_ok-core-2.ensures.shown in
    let front = front_behind before.out (g.W.Write.contents c.compare_over.new.out) after.out (difference_lines plan.words last.values) (last_lines (is_trusted c.args.options.care last.foreign) (length plan.words) last (length (differences plan.words last.values)) stop) shown
    (subst (λ (t : List ℕ). WritesPrefix (g.W.Write.contents c.compare_over.new.out) after.out t) text c.in_err-write_and_flush.ensures.err) in
    error_is c.from_residual-in_err-write_and_flush.result WriteOutput (IsVerifyFault plan c.args.options (before ⇒ after)) c.from_residual-in_err-write_and_flush.ensures.1 (record {
      last = last;
      stop = Some stop;
      look = verified.look;
      asked = verified.asked;
      missing = front.0;
      reported = front.1;
    })

pub returns-clause-ok : goal.returns-clause-ok
returns-clause-ok g c =
    let before = console_told g.C.Consoles g.W.Write (call_of c.args.dial) c.args.consoles.now c.args.out.now in
    let after = console_told g.C.Consoles g.W.Write (call_of c.args.dial) c.compare_over.new.consoles c.write_and_flush.new.out in
    let plan = c.args.plan.now in
    let look = c.in_ok-core-2.ensures.look in
    let last = c.in_ok-core-2.core in
    let stop = c.in_ok-core-2.stop in
    let begun_is = c.in_ok-core.ensures.begun in
    let addresses = look.addresses ∙ ap (λ r. r.addresses) begun_is in
    let text = last_is plan.words c.words-words.result.now last c.values.result.now c.trusts-trusted.result (is_trusted c.args.options.care last.foreign) c.count_differences-differ.result stop c.deref.result.now c.trusts-trusted.ensures c.words-words.ensures.value c.values.ensures.value addresses c.count_differences-differ.ensures
    (c.deref.ensures.0 ∙ c.last_lines.ensures) in
    let shown = subst (λ (words : List WordValue). Appends before.out (g.W.Write.contents c.compare_over.new.out) (difference_lines words last.values)) c.words-words.ensures.value c.in_ok-core-2.ensures.shown in
    record {
      verified = verified_of plan c.args.options before after c.in_ok-core.core last stop c.verify_end.result begun_is look c.in_ok-core-2.ensures.asked
          (c.verify_end.ensures ∙ (ap (λ t. verify_end t c.count_differences-differ.result stop) c.trusts-trusted.ensures ∙ ap (λ n. verify_end (is_trusted c.args.options.care last.foreign) n stop) (differ_is plan.words c.words-words.result.now last c.values.result.now c.count_differences-differ.result c.words-words.ensures.value c.values.ensures.value c.count_differences-differ.ensures)));
      reported = Appends-trans before.out (g.W.Write.contents c.compare_over.new.out) after.out (difference_lines plan.words last.values) (last_lines (is_trusted c.args.options.care last.foreign) (length plan.words) last (length (differences plan.words last.values)) stop) shown
          (subst (Appends (g.W.Write.contents c.compare_over.new.out) after.out) text c.in_ok-write_and_flush.ensures.ok);
    }

pub returns-clause-err : goal.returns-clause-err
returns-clause-err g c = tt
