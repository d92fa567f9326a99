use Rattle.std.proofs.Common.{None, Some, subst, sym}
use Rattle.std.specs.Io.KnownBytes.{Appends}
use Rattle.std.proofs.KnownBytes.{Appends-nil}
use Rattle.console_lines.specs.Dialling.{asked_once}
use Rattle.host_devices.specs.Devices.{line_told}
use Rattle.host_devices.specs.Told.{Gains}
use Rattle.host_devices.specs.Turns.{most_turns}
use Rattle.looking_engine.specs.Inquired.{IsInquired, inquiry}
use Rattle.machine_look.specs.Look.{AsksOnce}
use Rattle.machine_look.specs.Shown.{Shows}
use Rattle.machine_look.specs.VerifyReport.{difference_lines}
use Rattle.machine_look.proofs.Looks.{look_over, no_look}
use Rattle.machine_look.proofs.Shown.{no_lines}
use Rattle.console_lines.specs.Path.{call_of}
use Rattle.machine_look.proofs.comparing.compare_over.Goals as goal

pub returns-in-Some-clause-look : goal.returns-in-Some-clause-look
returns-in-Some-clause-look g c = no_look c.args.core c.in-Some.end (g.C.Consoles.lines c.args.consoles.now) c.end.ensures.kept (sym c.in-Some.ensures.value)

pub returns-in-Some-clause-shown : goal.returns-in-Some-clause-shown
returns-in-Some-clause-shown g c =
    let out = g.W.Write.contents c.args.out.now in subst (Appends out out) (sym (no_lines c.args.words.now c.args.core.values c.requires)) (Appends-nil out)

pub returns-in-Some-stop-clause-look : goal.returns-in-Some-stop-clause-look
returns-in-Some-stop-clause-look g c =
    let told = line_told g.C.Line.Line in
    let read = c.compare-core in
    look_over (Some c.in-Some-stop.stop) c.args.core read.result.0 (told c.in_ok-line.line) (told read.new.line) (g.C.Consoles.lines c.args.consoles.now) (g.C.Consoles.lines c.reach.new.self) (g.C.Consoles.lines c.let_go.new.self) c.end.ensures.kept (sym c.in_default.ensures.value)
    (subst (λ stop. IsInquired most_turns (inquiry c.args.core read.result.0 stop) (told c.in_ok-line.line) (told read.new.line)) c.in-Some-stop.is read.ensures.inquired)
    c.in_ok-line.ensures.fresh.nothing_said c.in_ok-line.ensures.fresh.none_failed c.in_ok-line.ensures.lines c.let_go.ensures.lines

pub returns-in-Some-stop-clause-shown : goal.returns-in-Some-stop-clause-shown
returns-in-Some-stop-clause-shown g c =
    let read = c.compare-core in
    subst (λ stop. Shows stop (g.W.Write.contents c.args.out.now) (g.W.Write.contents read.new.out) (difference_lines c.args.words.now read.result.0.values)) c.in-Some-stop.is read.ensures.shown

pub returns-in-None-clause-fault : goal.returns-in-None-clause-fault
returns-in-None-clause-fault g c =
    let told = line_told g.C.Line.Line in
    let read = c.compare-core in
    let front = subst (λ stop. Shows stop (g.W.Write.contents c.args.out.now) (g.W.Write.contents read.new.out) (difference_lines c.args.words.now read.result.0.values)) c.in-None.is read.ensures.shown in
    record {
      last = read.result.0;
      stop = None;
      look = look_over None c.args.core read.result.0 (told c.in_ok-line.line) (told read.new.line) (g.C.Consoles.lines c.args.consoles.now) (g.C.Consoles.lines c.reach.new.self) (g.C.Consoles.lines c.let_go.new.self) c.end.ensures.kept (sym c.in_default.ensures.value)
          (subst (λ stop. IsInquired most_turns (inquiry c.args.core read.result.0 stop) (told c.in_ok-line.line) (told read.new.line)) c.in-None.is read.ensures.inquired)
          c.in_ok-line.ensures.fresh.nothing_said c.in_ok-line.ensures.fresh.none_failed c.in_ok-line.ensures.lines c.let_go.ensures.lines;
      asked = subst (λ over. AsksOnce over (call_of c.args.dial) (g.C.Consoles.asked c.args.consoles.now) (g.C.Consoles.asked c.let_go.new.self)) c.in_default.ensures.value
          (subst (λ asked. Gains (g.C.Consoles.asked c.args.consoles.now) asked (asked_once (call_of c.args.dial))) (sym c.let_go.ensures.asked) c.in_ok-line.ensures.asked);
      missing = front.0;
      reported = front.1;
    }
