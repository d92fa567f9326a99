use Rattle.std.proofs.Common.{◌∷◌, [], IfSome, rules, subst}
use Rattle.endings.specs.declared.place.Place.TheVariants.{LineOfLoad}
use Rattle.request_values.specs.declared.request.MachineRequest.TheVariants.{Load}
use Rattle.request_values.specs.declared.request.Request.TheVariants.{Machine}
use Rattle.ldaodt.specs.Misplaced.{IsOfPlace, names_at, record_at, tapes_at}
use Rattle.ldaodt.proofs.Places.{either, either_out, some_behind}
use Rattle.ldaodt.proofs.misplaced.misplaced.Goals as goal

pub returns-in-Machine-Load-clause-misplaced : goal.returns-in-Machine-Load-clause-misplaced
returns-in-Machine-Load-clause-misplaced g c =
    let tapes = c.in-Machine-Load.tapes in
    let load = c.in-Machine-Load.load in
    let due : IfSome c.or.result (IsOfPlace (names_at (Machine (Load tapes load)))) =
    some_behind c.or.result ((load.line, LineOfLoad) ∷ []) _
    (either c.or.result _ _ (tapes_at tapes.items) (record_at load.record) c.or.ensures
    (subst (λ l. IfSome c.terminal_among.result (IsOfPlace (tapes_at l))) c.deref.ensures.value c.terminal_among.ensures.misplaced) c.terminal_as_record.ensures.misplaced) in
    search rules

pub returns-in-Machine-Load-clause-out : goal.returns-in-Machine-Load-clause-out
returns-in-Machine-Load-clause-out g c = either_out _ c.or.result _ _ c.or.ensures c.terminal_among.ensures.out c.terminal_as_record.ensures.out
