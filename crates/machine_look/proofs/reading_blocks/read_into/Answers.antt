use Rattle.std.proofs.Common.{◌≡◌, ◌≤◌, List, ℕ, ◌++◌, None, length, ap, arith, sym, subst, ◌∙◌, append-nil, length-append}
use Rattle.engine.specs.Ways.{news_of}
use Rattle.host_devices.specs.Devices.{line_told}
use Rattle.host_devices.specs.Turns.{most_turns}
use Rattle.looking_engine.specs.Inquired.{IsInquired, inquiry}
use Rattle.looking_engine.specs.Leading.{reading, reads, stop_of}
use Rattle.looking_engine.specs.Ways.{readings}
use Rattle.looking_engine.specs.declared.reading.Reading.{Reading}
use Rattle.looking_engine.proofs.Inquiries.{inquired}
use Rattle.looking_engine.proofs.Looks.{are_turns, reader_looks}
use Rattle.looking_engine.proofs.Numbers.{numbers_given, read_more}
use Rattle.reading_core.specs.Reader.{Reader}
use Rattle.tape_shelf.specs.ShelfAt.{shelf_at}
use Rattle.tape_shelf.proofs.OnShelf.{done}
use Rattle.machine_look.specs.Adding.{AddsAll, blocks_at}
use Rattle.machine_look.proofs.Adding.{added_by}
use Rattle.machine_look.proofs.Looks.{error_known, untouched}
use Rattle.machine_look.proofs.reading_blocks.read_into.Goals as goal

pub returns-then-is_err-clause-inquired : goal.returns-then-is_err-clause-inquired
returns-then-is_err-clause-inquired g c = untouched c.args.core (line_told g.L.Line c.args.line.now) c.requires.kept

pub returns-then-is_err-clause-added : goal.returns-then-is_err-clause-added
returns-then-is_err-clause-added g c =
    subst (λ (values : List ℕ). AddsAll None c.args.blocks.now.from values (shelf_at g.S.Shelf c.args.blocks.now.shelf.now) (shelf_at g.S.Shelf c.keep_found.new.self.shelf.now))
    (sym (append-nil c.args.found.now) ∙ ap (λ (more : List ℕ). c.args.found.now ++ more) (sym c.requires.fresh))
    (error_known _ c.keep_found.result c.if-is_err.ensures.value c.keep_found.ensures.not_added)

pub returns-clause-inquired : goal.returns-clause-inquired
returns-clause-inquired g c =
    let led = c.lead-stop.ensures.led in
    let after = c.lead-stop.new.host.core in
    subst (λ stop. IsInquired most_turns (inquiry c.args.core after stop) (line_told g.L.Line c.args.line.now) (line_told g.L.Line c.lead-stop.new.line)) (sym c.stop_from.ensures)
    (inquired most_turns c.args.core after (stop_of c.lead-stop.result) (line_told g.L.Line c.args.line.now) (line_told g.L.Line c.lead-stop.new.line) c.requires.kept c.lead-stop.ensures.kept
    (are_turns reads readings (λ r. r.core) reader_looks _ most_turns c.lead-stop.result (reading c.args.core) c.lead-stop.new.host _ _ led))

pub returns-clause-added : goal.returns-clause-added
returns-clause-added g c =
    let led = c.lead-stop.ensures.led in
    let s = led.session in
    let found : List ℕ = c.args.found.now in
    let numbers : List ℕ = news_of reads (reading c.args.core) s.heard in
    let after : Reader = c.lead-stop.new.host.core in
    let before = shelf_at g.S.Shelf c.args.blocks.now.shelf.now in
    let from = c.args.blocks.now.from in
    let all : after.values ≡ numbers = ap (λ (r : Reading). r.core.values) s.host ∙ (read_more c.args.core s.heard ∙ ap (λ (values : List ℕ). values ++ numbers) c.requires.fresh) in
    let i = inquired most_turns c.args.core after (stop_of c.lead-stop.result) (line_told g.L.Line c.args.line.now) (line_told g.L.Line c.lead-stop.new.line) c.requires.kept c.lead-stop.ensures.kept
    (are_turns reads readings (λ r. r.core) reader_looks _ most_turns c.lead-stop.result (reading c.args.core) c.lead-stop.new.host _ _ led) in
    let within = c.lead-stop.ensures.kept.within in
    let few : length numbers ≤ length c.args.core.addresses = omega (arith, within, ap length all, ap length i.same_addresses) in
    let added = added_by _ (λ k. blocks_at k.from k.numbers.items (shelf_at g.S.Shelf k.shelf.now) k.shelf.ghost_name) (record { keeps = λ a b n h. h; fails = λ a b n h. h }) c.lead-stop.result from found numbers s.given before c.keep_found.new.self c.lead-stop.new.keep
    (done _ c.keep_found.result c.if-is_err.ensures.value c.keep_found.ensures.added) (numbers_given c.lead-stop.result _ c.args.core s.heard s.said s.given s.done) (omega (arith, few, c.requires.below, length-append found numbers)) led.keeper in
    subst (λ stop. AddsAll stop from (found ++ after.values) before (shelf_at g.S.Shelf c.lead-stop.new.keep.shelf.now)) (sym c.stop_from.ensures)
    (subst (λ (values : List ℕ). AddsAll (stop_of c.lead-stop.result) from (found ++ values) before (shelf_at g.S.Shelf c.lead-stop.new.keep.shelf.now)) (sym all) added.0)

pub returns-clause-same_reference : goal.returns-clause-same_reference
returns-clause-same_reference g c =
    let led = c.lead-stop.ensures.led in
    let s = led.session in
    let found : List ℕ = c.args.found.now in
    let numbers : List ℕ = news_of reads (reading c.args.core) s.heard in
    let after : Reader = c.lead-stop.new.host.core in
    let before = shelf_at g.S.Shelf c.args.blocks.now.shelf.now in
    let from = c.args.blocks.now.from in
    let all : after.values ≡ numbers = ap (λ (r : Reading). r.core.values) s.host ∙ (read_more c.args.core s.heard ∙ ap (λ (values : List ℕ). values ++ numbers) c.requires.fresh) in
    let i = inquired most_turns c.args.core after (stop_of c.lead-stop.result) (line_told g.L.Line c.args.line.now) (line_told g.L.Line c.lead-stop.new.line) c.requires.kept c.lead-stop.ensures.kept
    (are_turns reads readings (λ r. r.core) reader_looks _ most_turns c.lead-stop.result (reading c.args.core) c.lead-stop.new.host _ _ led) in
    let within = c.lead-stop.ensures.kept.within in
    let few : length numbers ≤ length c.args.core.addresses = omega (arith, within, ap length all, ap length i.same_addresses) in
    let added = added_by _ (λ k. blocks_at k.from k.numbers.items (shelf_at g.S.Shelf k.shelf.now) k.shelf.ghost_name) (record { keeps = λ a b n h. h; fails = λ a b n h. h }) c.lead-stop.result from found numbers s.given before c.keep_found.new.self c.lead-stop.new.keep
    (done _ c.keep_found.result c.if-is_err.ensures.value c.keep_found.ensures.added) (numbers_given c.lead-stop.result _ c.args.core s.heard s.said s.given s.done) (omega (arith, few, c.requires.below, length-append found numbers)) led.keeper in
    added.1 ∙ c.keep_found.ensures.same_reference
