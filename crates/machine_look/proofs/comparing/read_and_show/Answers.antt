use Rattle.std.proofs.Common.{◌≡◌, List, ℕ, ◌++◌, ap, sym, subst, ◌∙◌}
use Rattle.engine.specs.Ways.{news_of}
use Rattle.host_devices.specs.Devices.{line_told}
use Rattle.host_devices.specs.Turns.{most_turns}
use Rattle.looking_engine.specs.Inquired.{IsInquired, inquiry}
use Rattle.looking_engine.specs.Leading.{reading, reads, stop_of}
use Rattle.looking_engine.specs.Ways.{readings}
use Rattle.looking_engine.specs.declared.reading.Reading.{Reading}
use Rattle.looking_engine.proofs.Inquiries.{inquired}
use Rattle.looking_engine.proofs.Looks.{are_turns, reader_looks}
use Rattle.looking_engine.proofs.Numbers.{numbers_given, read_more}
use Rattle.machine_look.specs.Shown.{Shows}
use Rattle.machine_look.specs.VerifyReport.{difference_lines}
use Rattle.machine_look.proofs.Shown.{shown_by}
use Rattle.machine_look.proofs.comparing.read_and_show.Goals as goal

pub returns-clause-inquired : goal.returns-clause-inquired
returns-clause-inquired g c =
    let led = c.lead-stop.ensures.led in
    let after = c.lead-stop.new.host.core in
    subst (λ stop. IsInquired most_turns (inquiry c.args.core after stop) (line_told g.L.Line c.args.line.now) (line_told g.L.Line c.lead-stop.new.line)) (sym c.stop_from.ensures)
    (inquired most_turns c.args.core after (stop_of c.lead-stop.result) (line_told g.L.Line c.args.line.now) (line_told g.L.Line c.lead-stop.new.line) c.requires.kept c.lead-stop.ensures.kept
    (are_turns reads readings (λ r. r.core) reader_looks _ most_turns c.lead-stop.result (reading c.args.core) c.lead-stop.new.host _ _ led))

pub returns-clause-shown : goal.returns-clause-shown
returns-clause-shown g c =
    let led = c.lead-stop.ensures.led in
    let s = led.session in
    let numbers : List ℕ = news_of reads (reading c.args.core) s.heard in
    let after = c.lead-stop.new.host.core in
    let out = g.W.Write.contents c.args.differences.now.out.now in
    let out' = g.W.Write.contents c.lead-stop.new.keep.out.now in
    let all : after.values ≡ numbers = ap (λ (r : Reading). r.core.values) s.host ∙ (read_more c.args.core s.heard ∙ ap (λ (values : List ℕ). values ++ numbers) c.requires.fresh) in
    let shown = shown_by _ (λ k. k.words.now) (λ k. g.W.Write.contents k.out.now) (λ k. k.out.ghost_name) (record { keeps = λ a b n h. h; fails = λ a b n h. h }) c.lead-stop.result c.args.differences.now c.lead-stop.new.keep numbers s.given
    (numbers_given c.lead-stop.result _ c.args.core s.heard s.said s.given s.done) led.keeper in
    subst (λ stop. Shows stop out out' (difference_lines c.args.differences.now.words.now after.values)) (sym c.stop_from.ensures)
    (subst (λ (values : List ℕ). Shows (stop_of c.lead-stop.result) out out' (difference_lines c.args.differences.now.words.now values)) (sym all) shown.0)

pub returns-clause-same_reference : goal.returns-clause-same_reference
returns-clause-same_reference g c =
    let led = c.lead-stop.ensures.led in
    let s = led.session in
    (shown_by _ (λ k. k.words.now) (λ k. g.W.Write.contents k.out.now) (λ k. k.out.ghost_name) (record { keeps = λ a b n h. h; fails = λ a b n h. h }) c.lead-stop.result c.args.differences.now c.lead-stop.new.keep (news_of reads (reading c.args.core) s.heard) s.given
    (numbers_given c.lead-stop.result _ c.args.core s.heard s.said s.given s.done) led.keeper).1
