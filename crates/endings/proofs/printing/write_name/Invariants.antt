-- What is said and what is still to be shown are the whole name.
use Rattle.std.proofs.Common.{IsUtf8}
use Rattle.std.specs.Str.Iter.{chars_rest}
use Rattle.endings.proofs.Lines.{IsSaidBut}
use Rattle.endings.proofs.Names.{shown_text}
use Rattle.endings.proofs.printing.write_name.Given as goal

abbrev pub invariant-loop-character : goal.invariant-loop-character
invariant-loop-character g l = record {
  text : IsUtf8 (chars_rest l.character-iterator);
  so_far : IsSaidBut (g.E.FaultOutput.said l.fn.err) (g.E.FaultOutput.said l.err)
      (shown_text l.fn.name) (shown_text (chars_rest l.character-iterator));
}
