use Rattle.std.proofs.Common.{List, [], ap, subst, sym, ℕ}
use Rattle.endings.specs.Held.{Held}
use Rattle.request_values.specs.Change.{◌⇒◌}
use Rattle.requests.specs.Asked.{SystemAsked}
use Rattle.requests.specs.Attempt.{IsAttempted}
use Rattle.told_calls.specs.ToldSteps.{steps_of}
use Rattle.command_tests.specs.ToldSystem.{asked_told, held_told, moment_told}
use Rattle.command_tests.proofs.told_system.attempt_told.Goals as goal

pub returns : goal.returns
returns g c =
    let input = c.args.input.now in
    let streams = c.streams.inside in
    let is_so = λ (before : SystemAsked) (out err : List ℕ) (after : SystemAsked) (held : Held).
    IsAttempted c.args.request.now (moment_told before (held_told input out err) ⇒ moment_told after held) c.attempt-system.result.1 in
    let before = c.new-system.result.asked in
    let after = c.attempt-system.result.0.asked in
    let printed = subst (λ (out : List ℕ). is_so before out c.new-2.result.items after c.attempt-system.new.streams) c.new.ensures.items c.attempt-system.ensures in
    let said = subst (λ (err : List ℕ). is_so before [] err after c.attempt-system.new.streams) c.new-2.ensures.items printed in
    let held = subst (λ (held : Held). is_so before [] [] after held) (sym c.streams.view_is) said in
    let ended = held_told streams.input.now streams.out.items streams.err.items in
    let system = c.system.inside in
    let asked = asked_told system.inputs.opened.items (steps_of system.disk.asked) system.consoles.asked.items system.consoles.given_back.items in
    let begun = subst (λ (told : SystemAsked). is_so told [] [] after ended) (ap (λ s. s.asked) c.new-system.ensures) held in
    let done = subst (λ (told : SystemAsked). is_so asked [] [] told ended) (ap (λ s. s.asked) c.parts_of-inputs.ensures) begun in
    rw (← c.system.view_is) (streams.input.now, done)
