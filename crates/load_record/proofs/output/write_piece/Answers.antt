use Rattle.std.proofs.Common.{sym, ◌∙◌, ap, length}
use Rattle.load_record.proofs.Pieces.{ended_text, joined_piece, full_piece, half_piece}
use Rattle.load_record.proofs.Writing.{ok_same, err_same}
use Rattle.load_record.proofs.output.write_piece.Goals as goal

pub returns-then-joins-clause-err : goal.returns-then-joins-clause-err
returns-then-joins-clause-err g c =
    err_same c.write_whole.result _ _ _ _ (c.value_text.ensures ∙ sym (joined_piece c.args.run c.args.word (sym c.joins.ensures ∙ c.if-joins.true))) c.write_whole.ensures.err

pub returns-then-is_full-clause-ok : goal.returns-then-is_full-clause-ok
returns-then-is_full-clause-ok g c =
    ok_same c.write_whole-then-is_full.result _ _ _ _
    (ended_text c.args.run c.ended_run_text.result _ 14 c.front_of_line-from.result c.ended_run_text.ensures (sym (ap length c.ended_run_text.ensures)) c.front_of_line-from.ensures.front
    ∙ sym (full_piece c.args.run c.args.word (sym c.joins.ensures ∙ c.if-joins.false) (sym c.is_full.ensures ∙ c.if-is_full.true)))
    c.write_whole-then-is_full.ensures.ok

pub returns-then-is_full-clause-err : goal.returns-then-is_full-clause-err
returns-then-is_full-clause-err g c =
    err_same c.write_whole-then-is_full.result _ _ _ _
    (ended_text c.args.run c.ended_run_text.result _ 14 c.front_of_line-from.result c.ended_run_text.ensures (sym (ap length c.ended_run_text.ensures)) c.front_of_line-from.ensures.front
    ∙ sym (full_piece c.args.run c.args.word (sym c.joins.ensures ∙ c.if-joins.false) (sym c.is_full.ensures ∙ c.if-is_full.true)))
    c.write_whole-then-is_full.ensures.err

pub returns-else-is_full-clause-ok : goal.returns-else-is_full-clause-ok
returns-else-is_full-clause-ok g c =
    ok_same c.write_whole-else-is_full.result _ _ _ _
    (ended_text c.args.run c.ended_half_line.result _ 24 c.front_of_line-from.result c.ended_half_line.ensures (sym (ap length c.ended_half_line.ensures)) c.front_of_line-from.ensures.front
    ∙ sym (half_piece c.args.run c.args.word (sym c.joins.ensures ∙ c.if-joins.false) (sym c.is_full.ensures ∙ c.if-is_full.false)))
    c.write_whole-else-is_full.ensures.ok

pub returns-else-is_full-clause-err : goal.returns-else-is_full-clause-err
returns-else-is_full-clause-err g c =
    err_same c.write_whole-else-is_full.result _ _ _ _
    (ended_text c.args.run c.ended_half_line.result _ 24 c.front_of_line-from.result c.ended_half_line.ensures (sym (ap length c.ended_half_line.ensures)) c.front_of_line-from.ensures.front
    ∙ sym (half_piece c.args.run c.args.word (sym c.joins.ensures ∙ c.if-joins.false) (sym c.is_full.ensures ∙ c.if-is_full.false)))
    c.write_whole-else-is_full.ensures.err
