use Rattle.std.proofs.Common.{◌≡◌, ◌∙◌, ℕ, ◌+◌, ◌*◌, ◌-◌, ◌++◌, [], List, length, Some, Ok, refl, subst, sym, ap, arith}
use Rattle.std.specs.Prelude.{IfSome}
use Rattle.console_lines.specs.Dialling.{asked_once}
use Rattle.host_devices.specs.Devices.{line_told}
use Rattle.host_devices.specs.Failures.{CountsFault}
use Rattle.host_devices.specs.Told.{Gains}
use Rattle.host_devices.proofs.Told.{gains_join}
use Rattle.reading_core.specs.Addresses.{AreAddresses}
use Rattle.reading_core.specs.Reader.{Manner, Reader, begun_in, ended, manner_of}
use Rattle.reading_core.specs.declared.phase.End.TheVariants.{Complete}
use Rattle.reading_core.proofs.Asking.{length_from}
use Rattle.looking_engine.specs.Stopping.{LookStop, TellsEnd, line_fault}
use Rattle.sample_looks.specs.Finding.{IsFound}
use Rattle.sample_looks.specs.declared.finding.Finding.TheVariants.{AllStand}
use Rattle.console_lines.specs.Console.{ConsoleTold}
use Rattle.request_values.specs.Change.{Change, ◌⇒◌}
use Rattle.tape_shelf.specs.SavedTape.{words_in}
use Rattle.tape_shelf.specs.SavedSteps.{adds, full, not_all_added}
use Rattle.tape_shelf.specs.ShelfAt.{shelf_at}
use Rattle.tape_shelf.specs.ShelfTold.{AreDone}
use Rattle.machine_look.specs.Adding.{AddsAll}
use Rattle.machine_look.specs.Behind.{IsRead, Saving, addresses_behind, begun_behind}
use Rattle.machine_look.specs.Save.{save_at}
use Rattle.machine_look.proofs.Courses.{are_looked_at, begins_looking, found_there, held_up, is_read}
use Rattle.machine_look.proofs.Looks.{given_back}
use Rattle.console_lines.specs.Path.{call_of}
use Rattle.machine_look.proofs.reading_blocks.read_over.Goals as goal

pub look_at_samples-looked-requires-clause-begun : goal.look_at_samples-looked-requires-clause-begun
look_at_samples-looked-requires-clause-begun g c =
    (begins_looking c.args.hosts.samples.items _ c.args.options c.args.hosts.looker c.requires.hosts.looker c.deref.ensures.value).0

pub look_at_samples-looked-requires-clause-asked : goal.look_at_samples-looked-requires-clause-asked
look_at_samples-looked-requires-clause-asked g c =
    (begins_looking c.args.hosts.samples.items _ c.args.options c.args.hosts.looker c.requires.hosts.looker c.deref.ensures.value).1

pub returns-then-not-all_stand-clause-course : goal.returns-then-not-all_stand-clause-course
returns-then-not-all_stand-clause-course g c =
    let told = line_told g.C.Line.Line in
    let looked = c.look_at_samples-looked in
    let inquired = looked.ensures.inquired in
    let hosts = c.requires.hosts in
    let samples = c.args.hosts.samples.items in
    let saving : Saving = record { options = c.args.options; found = c.args.found.now } in
    let whose = ap (λ (r : Reader). r.patience) hosts.looker in (
      held_up saving _ looked.result samples inquired.turns.session.said hosts.of_found
          (are_looked_at samples c.args.options c.args.hosts.looker looked.result (told c.in_ok-line.line).said (told looked.new.line).said hosts.looker inquired.turns.session inquired.turns.end
          (found_there samples _ c.args.options c.args.hosts.looker looked.result.reader looked.result.stop looked.result.finding hosts.looker c.deref.ensures.value inquired.same_addresses inquired.kept looked.ensures.found)
          looked.ensures.bound
          inquired.same_patience inquired.kept)
          inquired.kept (let long = hosts.looks.long in omega (arith, long, whose)) (λ all. absurd (cc (c.all_stand.ensures.1 all, c.if-not-all_stand.true)))
          (subst (λ asked. Gains (g.C.Consoles.asked c.args.consoles.now) asked (asked_once (call_of c.args.dial))) (sym c.let_go.ensures.asked) c.in_ok-line.ensures.asked)
          (given_back (Some looked.result.stop) (told c.in_ok-line.line) (told looked.new.line) inquired.turns.session.said (g.C.Consoles.lines c.args.consoles.now) (g.C.Consoles.lines c.reach.new.self) (g.C.Consoles.lines c.let_go.new.self)
          c.in_ok-line.ensures.fresh.nothing_said c.in_ok-line.ensures.fresh.none_failed inquired.turns.session.on_line inquired.turns.counted inquired.turns.named c.in_ok-line.ensures.lines c.let_go.ensures.lines),
      refl,
    )

pub read_behind-core-requires-clause-below : goal.read_behind-core-requires-clause-below
read_behind-core-requires-clause-below g c =
    let there : c.with_care-core.result.addresses ≡ c.args.hosts.addresses.items = ap (λ (r : Reader). r.addresses) c.with_care-core.ensures.begun ∙ ap (λ (r : Reader). r.addresses) c.in_room-core.ensures.begun in
    let fill = c.requires.fill.within in
    omega (arith, c.from.ensures.value, ap length there, ap length c.requires.hosts.addresses, length_from (c.args.options.range.from + 2 * length c.args.found.now) (words_in c.args.options.range - length c.args.found.now), c.words_of.ensures.below, c.words_of.ensures.words, fill)

pub returns-in-Some-clause-course : goal.returns-in-Some-clause-course
returns-in-Some-clause-course g c =
    let told = line_told g.C.Line.Line in
    let looked = c.look_at_samples-looked in
    let inquired = looked.ensures.inquired in
    let read = c.read_behind-core in
    let i = read.ensures.inquired in
    let hosts = c.requires.hosts in
    let options = c.args.options in
    let found = c.args.found.now in
    let saving : Saving = record { options = options; found = found } in
    let samples = c.args.hosts.samples.items in
    let lines = g.C.Consoles.lines c.args.consoles.now in
    let lines' = g.C.Consoles.lines c.let_go-2.new.self in
    let line = (told c.in_ok-line.line).said in
    let mid = (told looked.new.line).said in
    let line' = (told read.new.line).said in
    let whose = ap (λ (r : Reader). r.patience) hosts.looker in
    let all : looked.result.finding ≡ AllStand = c.all_stand.ensures.0 c.if-not-all_stand.false in
    let seen = found_there samples _ options c.args.hosts.looker looked.result.reader looked.result.stop looked.result.finding hosts.looker c.deref.ensures.value inquired.same_addresses inquired.kept looked.ensures.found in
    let stop_is : looked.result.stop ≡ Ok Complete = (subst (λ f. IsFound samples looked.result.reader.values looked.result.stop f) all seen).0 in
    let s = are_looked_at samples options c.args.hosts.looker looked.result line mid hosts.looker inquired.turns.session inquired.turns.end seen
    looked.ensures.bound inquired.same_patience inquired.kept in
    let manner : Manner = manner_of options.care [] in
    let begins : c.with_care-core.result ≡ begun_behind saving looked.result.reader =
    c.with_care-core.ensures.begun
    ∙ (ap (λ (r : Reader). begun_in manner r.addresses [] r.patience) c.in_room-core.ensures.begun
    ∙ (ap (λ (list : List ℕ). begun_in manner list [] (options.patience - c.spent.result)) hosts.addresses ∙ ap (λ n. begun_in manner (addresses_behind options.range found) [] (options.patience - n)) c.spent.ensures.value)) in
    let none : g.C.Line.Line.fault_count looked.new.line ≡ g.C.Line.Line.fault_count c.in_ok-line.line =
    subst (λ (t : LookStop). CountsFault (line_fault (Some t)) (g.C.Line.Line.fault_count c.in_ok-line.line) (g.C.Line.Line.fault_count looked.new.line)) stop_is inquired.turns.counted in
    let console : Change ConsoleTold = (save_at g.S.Shelf g.C.Consoles (call_of c.args.dial) c.args.shelf.now c.args.consoles.now).console ⇒ (save_at g.S.Shelf g.C.Consoles (call_of c.args.dial) read.new.shelf c.let_go-2.new.self).console in
    let is_it = is_read saving console looked.result read.result.0 c.with_care-core.result read.result.1 samples
    inquired.turns.session.said mid line' c.words_of.ensures.in_order c.requires.begins c.requires.fill
    (subst AreAddresses hosts.addresses hosts.asked) hosts.of_found all s inquired.kept (let long = hosts.looks.long in omega (arith, long, whose)) begins
    i.turns.session i.same_addresses i.same_patience i.bound i.kept
    (subst (λ asked. Gains (g.C.Consoles.asked c.args.consoles.now) asked (asked_once (call_of c.args.dial))) (sym c.let_go-2.ensures.asked) c.in_ok-line.ensures.asked)
    (given_back read.result.1 (told c.in_ok-line.line) (told read.new.line) _ lines (g.C.Consoles.lines c.reach.new.self) lines' c.in_ok-line.ensures.fresh.nothing_said c.in_ok-line.ensures.fresh.none_failed
    (gains_join line mid line' inquired.turns.session.said i.turns.session.said inquired.turns.session.on_line i.turns.session.on_line)
    (subst (λ n. CountsFault (line_fault read.result.1) n (g.C.Line.Line.fault_count read.new.line)) none i.turns.counted) i.turns.named c.in_ok-line.ensures.lines c.let_go-2.ensures.lines) in
    let before = shelf_at g.S.Shelf c.args.shelf.now in
    let after = shelf_at g.S.Shelf read.new.shelf in
    let numbers = found ++ read.result.0.values in
    let added = subst (λ stop. AddsAll stop c.from.result numbers before after) c.in-Some.is read.ensures.added in (
      subst (λ stop. IsRead saving console (record { looks = looked.result.reader; last = read.result.0; stop = stop })) c.in-Some.is is_it,
      subst (λ stop. IfSome stop (λ s. TellsEnd s (ended read.result.0.phase))) c.in-Some.is i.turns.end,
      λ folder known. let h = added folder (g.S.Shelf.told c.args.shelf.now) known refl in
          (h.0, subst (λ f. AreDone folder (adds f numbers (full numbers)) (g.S.Shelf.told c.args.shelf.now) (g.S.Shelf.told read.new.shelf)) c.from.ensures.value h.1),
    )

pub returns-clause-fault : goal.returns-clause-fault
returns-clause-fault g c =
    let told = line_told g.C.Line.Line in
    let looked = c.look_at_samples-looked in
    let inquired = looked.ensures.inquired in
    let read = c.read_behind-core in
    let i = read.ensures.inquired in
    let hosts = c.requires.hosts in
    let options = c.args.options in
    let found = c.args.found.now in
    let saving : Saving = record { options = options; found = found } in
    let samples = c.args.hosts.samples.items in
    let lines = g.C.Consoles.lines c.args.consoles.now in
    let lines' = g.C.Consoles.lines c.let_go-2.new.self in
    let line = (told c.in_ok-line.line).said in
    let mid = (told looked.new.line).said in
    let line' = (told read.new.line).said in
    let whose = ap (λ (r : Reader). r.patience) hosts.looker in
    let all : looked.result.finding ≡ AllStand = c.all_stand.ensures.0 c.if-not-all_stand.false in
    let seen = found_there samples _ options c.args.hosts.looker looked.result.reader looked.result.stop looked.result.finding hosts.looker c.deref.ensures.value inquired.same_addresses inquired.kept looked.ensures.found in
    let stop_is : looked.result.stop ≡ Ok Complete = (subst (λ f. IsFound samples looked.result.reader.values looked.result.stop f) all seen).0 in
    let s = are_looked_at samples options c.args.hosts.looker looked.result line mid hosts.looker inquired.turns.session inquired.turns.end seen
    looked.ensures.bound inquired.same_patience inquired.kept in
    let manner : Manner = manner_of options.care [] in
    let begins : c.with_care-core.result ≡ begun_behind saving looked.result.reader =
    c.with_care-core.ensures.begun
    ∙ (ap (λ (r : Reader). begun_in manner r.addresses [] r.patience) c.in_room-core.ensures.begun
    ∙ (ap (λ (list : List ℕ). begun_in manner list [] (options.patience - c.spent.result)) hosts.addresses ∙ ap (λ n. begun_in manner (addresses_behind options.range found) [] (options.patience - n)) c.spent.ensures.value)) in
    let none : g.C.Line.Line.fault_count looked.new.line ≡ g.C.Line.Line.fault_count c.in_ok-line.line =
    subst (λ (t : LookStop). CountsFault (line_fault (Some t)) (g.C.Line.Line.fault_count c.in_ok-line.line) (g.C.Line.Line.fault_count looked.new.line)) stop_is inquired.turns.counted in
    let console : Change ConsoleTold = (save_at g.S.Shelf g.C.Consoles (call_of c.args.dial) c.args.shelf.now c.args.consoles.now).console ⇒ (save_at g.S.Shelf g.C.Consoles (call_of c.args.dial) read.new.shelf c.let_go-2.new.self).console in
    let is_it = is_read saving console looked.result read.result.0 c.with_care-core.result read.result.1 samples
    inquired.turns.session.said mid line' c.words_of.ensures.in_order c.requires.begins c.requires.fill
    (subst AreAddresses hosts.addresses hosts.asked) hosts.of_found all s inquired.kept (let long = hosts.looks.long in omega (arith, long, whose)) begins
    i.turns.session i.same_addresses i.same_patience i.bound i.kept
    (subst (λ asked. Gains (g.C.Consoles.asked c.args.consoles.now) asked (asked_once (call_of c.args.dial))) (sym c.let_go-2.ensures.asked) c.in_ok-line.ensures.asked)
    (given_back read.result.1 (told c.in_ok-line.line) (told read.new.line) _ lines (g.C.Consoles.lines c.reach.new.self) lines' c.in_ok-line.ensures.fresh.nothing_said c.in_ok-line.ensures.fresh.none_failed
    (gains_join line mid line' inquired.turns.session.said i.turns.session.said inquired.turns.session.on_line i.turns.session.on_line)
    (subst (λ n. CountsFault (line_fault read.result.1) n (g.C.Line.Line.fault_count read.new.line)) none i.turns.counted) i.turns.named c.in_ok-line.ensures.lines c.let_go-2.ensures.lines) in
    let before = shelf_at g.S.Shelf c.args.shelf.now in
    let after = shelf_at g.S.Shelf read.new.shelf in
    let numbers = found ++ read.result.0.values in
    let failed = subst (λ stop. AddsAll stop c.from.result numbers before after) c.in-None.is read.ensures.added in (
      looked.result.reader,
      read.result.0,
      subst (λ stop. IsRead saving console (record { looks = looked.result.reader; last = read.result.0; stop = stop })) c.in-None.is is_it,
      failed.0,
      failed.1,
      λ folder known. subst (λ f. AreDone folder (not_all_added f numbers failed.0) (g.S.Shelf.told c.args.shelf.now) (g.S.Shelf.told read.new.shelf)) c.from.ensures.value
          (failed.2 folder (g.S.Shelf.told c.args.shelf.now) known refl).1,
    )
