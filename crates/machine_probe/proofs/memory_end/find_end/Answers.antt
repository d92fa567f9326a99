use Rattle.std.proofs.Common.{subst}
use Rattle.host_devices.specs.Devices.{line_told}
use Rattle.machine_probe.specs.declared.memory_end.PassEnd.{PassEnd}
use Rattle.machine_probe.specs.Passes.{limits, pass_over}
use Rattle.machine_probe.specs.Steps.{Stepped}
use Rattle.machine_probe.proofs.Searching.{ends_first, ends_second, ends_there, ends_third, large, small, words}
use Rattle.machine_probe.proofs.memory_end.find_end.Goals as goal
use Rattle.machine_probe.proofs.memory_end.find_end.Goals.{in-Lacking-end-2, in-Over-end-2}

pub returns-in-Over-clause-found : goal.returns-in-Over-clause-found
returns-in-Over-clause-found g c =
    let told = line_told g.L.Line in
    let first = subst (λ (e : PassEnd). Stepped (pass_over (limits c.args.patience c.args.turns) 0 large) e c.pass-end.result.1 (told c.args.line.now) (told c.pass-end.new.line)) c.in-Over.is c.pass-end.ensures.pass in
    rw c.from-changed.ensures (ends_first _ c.in-Over.search c.pass-end.result.1 _ _ first)

pub returns-in-Over-end-clause-found : goal.returns-in-Over-end-clause-found
returns-in-Over-end-clause-found g c =
    let told = line_told g.L.Line in
    let at = limits c.args.patience c.args.turns in
    let first = subst (λ (e : PassEnd). Stepped (pass_over at 0 large) e c.pass-end.result.1 (told c.args.line.now) (told c.pass-end.new.line)) c.in-Lacking.is c.pass-end.ensures.pass in
    let second = subst (λ (e : PassEnd). Stepped (pass_over at c.in-Lacking.from small) e c.pass-end-2.result.1 (told c.pass-end.new.line) (told c.pass-end-2.new.line)) c.in-Over-end.is c.pass-end-2.ensures.pass in
    rw (c.from.ensures, c.from-in-Over-end.ensures) (ends_second at c.in-Lacking.from c.in-Over-end.search c.pass-end.result.1 c.pass-end-2.result.1 _ _ _ first second)

pub returns-clause-found : goal.returns-clause-found
returns-clause-found g c =
    let told = line_told g.L.Line in
    let at = limits c.args.patience c.args.turns in
    let from = c.in-Lacking.from in
    let next = c.in-Lacking-end.from in
    let first = subst (λ (e : PassEnd). Stepped (pass_over at 0 large) e c.pass-end.result.1 (told c.args.line.now) (told c.pass-end.new.line)) c.in-Lacking.is c.pass-end.ensures.pass in
    let second = subst (λ (e : PassEnd). Stepped (pass_over at from small) e c.pass-end-2.result.1 (told c.pass-end.new.line) (told c.pass-end-2.new.line)) c.in-Lacking-end.is c.pass-end-2.ensures.pass in
    rw (c.from-2.ensures, c.from-3.ensures, c.from-4.ensures) (elim c.match-end-3.branch [
      | in-Lacking-end-2 w ↦ rw w.search-is (ends_there at from next _ c.pass-end.result.1 c.pass-end-2.result.1 c.pass-end-3.result.1 _ _ _ _ first second
          (subst (λ (e : PassEnd). Stepped (pass_over at next words) e c.pass-end-3.result.1 (told c.pass-end-2.new.line) (told c.pass-end-3.new.line)) w.in-Lacking-end-2.is c.pass-end-3.ensures.pass))
      | in-Over-end-2 w ↦ rw w.search-is (ends_third at from next _ c.pass-end.result.1 c.pass-end-2.result.1 c.pass-end-3.result.1 _ _ _ _ first second
          (subst (λ (e : PassEnd). Stepped (pass_over at next words) e c.pass-end-3.result.1 (told c.pass-end-2.new.line) (told c.pass-end-3.new.line)) w.in-Over-end-2.is c.pass-end-3.ensures.pass))
    ])
