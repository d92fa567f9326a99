use Rattle.std.proofs.Common.{List, sym, subst, Some, None, append-nil}
use Rattle.tape_values.specs.Block.{BlockValue}
use Rattle.tape_making.specs.Sheet.{HoldsRows}
use Rattle.tape_making.specs.Reading.{IsRowFault, LaysLine}
use Rattle.tape_making.proofs.Numbers.{error_is}
use Rattle.tape_making.proofs.Lines.{row_block, fault_said}
use Rattle.tape_making.proofs.Readings.{says_so}
use Rattle.tape_making.proofs.text.lay_line.Goals as goal

pub returns-in_err-said : goal.returns-in_err-said
returns-in_err-said c =
    error_is c.from_residual.result c.in_err-said.field-0.0 (λ _. LaysLine c.args.line.now c.args.sheet.now c.args.sheet.now) (IsRowFault c.args.line.now) c.from_residual.ensures.1
    (fault_said c.args.line.now c.in_err-said.field-0.0 c.in_err-said.ensures)

pub lay-requires-clause-within : goal.lay-requires-clause-within
lay-requires-clause-within c = row_block c.args.line.now c.in_ok-said.said c.in-Some.row c.in_ok-said.ensures c.in-Some.is

pub returns-in-Some : goal.returns-in-Some
returns-in-Some c = record {
  row = Some c.in-Some.row;
  says = subst (says_so c.args.line.now) c.in-Some.is c.in_ok-said.ensures;
  lays = λ rows holds. c.lay.ensures rows holds;
}

pub returns-in-None : goal.returns-in-None
returns-in-None c = record {
  row = None;
  says = subst (says_so c.args.line.now) c.in-None.is c.in_ok-said.ensures;
  lays = λ (rows : List BlockValue) (holds : HoldsRows rows c.args.sheet.now). subst (λ r. HoldsRows r c.args.sheet.now) (sym (append-nil rows)) holds;
}
