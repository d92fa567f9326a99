use Rattle.std.proofs.Common.{◌∷◌, [], IfSome, refl, subst}
use Rattle.endings.specs.declared.place.Place.TheVariants.{Tape, Script}
use Rattle.ldaodt.specs.Misplaced.{IsOfPlace, tapes_at}
use Rattle.ldaodt.proofs.Places.{either, either_out, named_files, named_tapes}
use Rattle.ldaodt.proofs.misplaced.terminal_as_input.Goals as goal

pub returns-in-Tapes-clause-misplaced : goal.returns-in-Tapes-clause-misplaced
returns-in-Tapes-clause-misplaced g c =
    subst (λ l. IfSome c.terminal_among.result (IsOfPlace l)) (named_tapes c.args.request.now c.in-Tapes.tapes c.in-Tapes.ensures) c.terminal_among.ensures.misplaced

pub returns-in-Scripted-clause-misplaced : goal.returns-in-Scripted-clause-misplaced
returns-in-Scripted-clause-misplaced g c =
    let rehearsal = c.in-Scripted.rehearsal.now in
    subst (λ l. IfSome c.or-in-Scripted.result (IsOfPlace l)) (named_files c.args.request.now c.in-Scripted.rehearsal c.in-Scripted.ensures)
    (either c.or-in-Scripted.result _ _ ((rehearsal.tape, Tape) ∷ (rehearsal.script, Script) ∷ []) (tapes_at rehearsal.more.items) c.or-in-Scripted.ensures
    (either c.or.result _ _ ((rehearsal.tape, Tape) ∷ []) ((rehearsal.script, Script) ∷ []) c.or.ensures c.terminal_among-in-Scripted.ensures.misplaced c.terminal.ensures.misplaced)
    (subst (λ l. IfSome c.terminal_among-in-Scripted-2.result (IsOfPlace (tapes_at l))) c.deref.ensures.value c.terminal_among-in-Scripted-2.ensures.misplaced))

pub returns-in-Scripted-clause-out : goal.returns-in-Scripted-clause-out
returns-in-Scripted-clause-out g c =
    either_out _ c.or-in-Scripted.result _ _ c.or-in-Scripted.ensures
    (either_out _ c.or.result _ _ c.or.ensures c.terminal_among-in-Scripted.ensures.out (c.terminal.ensures.out refl)) c.terminal_among-in-Scripted-2.ensures.out
