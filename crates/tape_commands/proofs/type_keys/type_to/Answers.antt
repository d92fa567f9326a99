use Rattle.request_values.specs.Change.{◌⇒◌}
use Rattle.std.proofs.Common.{rules}
use Rattle.tape_commands.specs.TypedKeys.{IsTypeFault}
use Rattle.endings.specs.declared.command_fault.CommandFault.TheVariants.{Write}
use Rattle.endings.proofs.Faults.{fault_is}
use Rattle.tape_commands.proofs.TypedKeys.{so_far_kept, so_far_more, in_part}
use Rattle.tape_commands.proofs.type_keys.type_to.Goals as goal

pub returns-in_err-type_piece-clause-err : goal.returns-in_err-type_piece-clause-err
returns-in_err-type_piece-clause-err g c =
    fault_is c.from_residual.result Write
    (IsTypeFault (g.R.Read.remaining c.args.keys.now ⇒ g.R.Read.remaining c.read.new.self) (c.args.odt.now ⇒ c.type_piece.new.odt) (g.W.Write.contents c.args.out.now ⇒ g.W.Write.contents c.type_piece.new.out))
    c.from_residual.ensures.1
    (in_part _ _ _ _ _ _ _ _ _ _ c.in-Ok.read c.read.new.buf _ c.loop-count.invariant.so_far
    (c.in-Ok.ensures.bound.0, c.in-Ok.ensures.bound.1, c.in-Ok.ensures.bytes.0, c.in_err-type_piece.ensures.machine, search rules)
    c.in_err-type_piece.ensures.err)

pub loop-count-preserved : goal.loop-count-preserved
loop-count-preserved g c = record {
  within = search rules;
  so_far = so_far_more _ _ _ _ _ _ _ _ _ _ c.in-Ok.read c.read.new.buf _ c.loop-count.invariant.so_far
      (c.in-Ok.ensures.bound.0, c.in-Ok.ensures.bound.1, c.in-Ok.ensures.bytes.0, c.in_ok-type_piece.ensures.machine, search rules)
      c.in_ok-type_piece.ensures.ok;
}

pub returns-in_default-clause-err : goal.returns-in_default-clause-err
returns-in_default-clause-err g c = (c.loop-count.count, so_far_kept _ _ _ _ _ _ _ _ c.loop-count.invariant.so_far c.in_default.ensures.bytes)
