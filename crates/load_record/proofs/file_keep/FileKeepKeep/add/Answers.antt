use Rattle.std.proofs.Common.{◌≤◌, arith, ap, arith, subst, OnOk}
use Rattle.load_record.specs.Keeper.{Keeper}
use Rattle.load_record.specs.RecordText.{second_run, second_piece}
use Rattle.load_record.proofs.Keeping.{AddsWord, FailsAs, never_failed, failed_before, failed_now, wrote_now, wrote_adds}
use Rattle.load_record.proofs.Writing.{on_ok_map}
use Rattle.load_record.proofs.file_keep.FileKeepKeep.add.Goals as goal

pub returns-then-is_broken-clause-err : goal.returns-then-is_broken-clause-err
returns-then-is_broken-clause-err g c =
    failed_before c.args.self.now c.settle.new.self c.settle.result _ (c.is_broken.ensures.0 c.if-is_broken.true) c.settle.ensures.err c.settle.ensures.text

pub returns-clause-adds : goal.returns-clause-adds
returns-clause-adds g c =
    let before : Keeper = record { text = g.W.Write.contents c.self.inside.writer; lasting = g.W.LastingWrite.lasting c.self.inside.writer; run = c.self.inside.run; failures = c.self.inside.failures } in
    let none : before.failures ≤ 0 = (let same = ap (λ (k : Keeper). k.failures) c.self.view_is in let few = never_failed c.is_broken.result c.args.self.now.failures c.if-is_broken.false c.is_broken.ensures in omega arith) in
    subst (λ (k : Keeper). OnOk c.settle-2.result (AddsWord k c.settle-2.new.self c.args.word)) c.self.view_is
    (on_ok_map c.settle-2.result _ _ (wrote_adds before c.settle-2.new.self c.args.word)
    (wrote_now before c.settle-2.new.self (g.W.Write.contents c.write_word-outcome.new.out) c.write_word-outcome.result c.settle-2.result
    (second_piece c.self.inside.run c.args.word) (second_run c.self.inside.run c.args.word) none c.write_word-outcome.ensures.ok c.settle-2.ensures.text c.settle-2.ensures.ok))

pub returns-clause-err : goal.returns-clause-err
returns-clause-err g c =
    let before : Keeper = record { text = g.W.Write.contents c.self.inside.writer; lasting = g.W.LastingWrite.lasting c.self.inside.writer; run = c.self.inside.run; failures = c.self.inside.failures } in
    let none : before.failures ≤ 0 = (let same = ap (λ (k : Keeper). k.failures) c.self.view_is in let few = never_failed c.is_broken.result c.args.self.now.failures c.if-is_broken.false c.is_broken.ensures in omega arith) in
    subst (λ (k : Keeper). FailsAs k c.settle-2.new.self c.settle-2.result (second_piece k.run c.args.word)) c.self.view_is
    (failed_now before c.settle-2.new.self (g.W.Write.contents c.write_word-outcome.new.out) c.write_word-outcome.result c.settle-2.result
    (second_piece c.self.inside.run c.args.word) (second_run c.self.inside.run c.args.word) none c.write_word-outcome.ensures.ok c.write_word-outcome.ensures.err c.settle-2.ensures.text c.settle-2.ensures.err)
