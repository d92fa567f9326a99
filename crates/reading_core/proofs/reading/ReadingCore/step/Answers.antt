use Rattle.std.proofs.Common.{◌≡◌, ◌<◌, arith, length, subst, sym}
use Rattle.reading_core.specs.Invariant.{IsReader}
use Rattle.reading_core.specs.Reader.{Reader, manner_of, reader_of}
use Rattle.reading_core.specs.ReadingTable.{taken, values_after}
use Rattle.reading_core.proofs.Turns.{read_within, step_kept, within_bound}
use Rattle.reading_core.proofs.reading.ReadingCore.step.Goals as goal

pub taken-key-requires : goal.taken-key-requires
taken-key-requires c = step_kept c.count.new.self c.args.self.now c.args.heard c.turn-turn.result c.count.ensures c.turn-turn.ensures (subst IsReader c.self.view_is c.self.invariant.0)

pub note-requires : goal.note-requires
note-requires c reads =
    let kept : IsReader (taken c.count.new.self c.turn-turn.result).next =
    step_kept c.count.new.self c.args.self.now c.args.heard c.turn-turn.result c.count.ensures c.turn-turn.ensures (subst IsReader c.self.view_is c.self.invariant.0) in
    let within : length c.self.inside.values.items < length c.self.inside.addresses.items =
    subst (λ r. length r.values < length r.addresses) (sym c.self.view_is) (read_within c.count.new.self c.turn-turn.result kept reads) in
    omega (arith, within, c.self.invariant.1)

-- what the fields make is the reader after the step
pub returns-clause-kept : goal.returns-clause-kept
returns-clause-kept c =
    let P : Reader → Type 0 = λ r. reader_of r.addresses r.manner (values_after r.values c.turn-turn.result) r.patience c.taken-key.result.life ≡ (taken c.count.new.self c.turn-turn.result).next in
    let is_next : reader_of c.self.inside.addresses.items (manner_of c.self.inside.care c.self.inside.expected.items) c.note.new.values.items c.self.inside.patience c.taken-key.result.life ≡ (taken c.count.new.self c.turn-turn.result).next =
    rw c.note.ensures.items (subst P (sym c.self.view_is) c.taken-key.ensures.next) in
    subst IsReader (sym is_next) (step_kept c.count.new.self c.args.self.now c.args.heard c.turn-turn.result c.count.ensures c.turn-turn.ensures (subst IsReader c.self.view_is c.self.invariant.0))

pub invariant_of-self : goal.invariant_of-self
invariant_of-self c = (returns-clause-kept c, omega (arith, c.self.invariant.1, c.note.ensures.room))

pub returns-clause-bound : goal.returns-clause-bound
returns-clause-bound c = within_bound _ (returns-clause-kept c)
