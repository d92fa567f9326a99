use Rattle.tape_making.proofs.Made.{said_by_sheet}
use Rattle.tape_making.proofs.tape.tape_from.Goals as goal

pub returns-clause-made : goal.returns-clause-made
returns-clause-made c = said_by_sheet c.args.text.now c.args.start c.in_ok-sheet.sheet c.bytes.result.now c.in_ok-tape.tape c.in_ok-sheet.ensures c.bytes.ensures c.in_ok-tape.ensures
