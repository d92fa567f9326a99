use Rattle.std.proofs.Common.{ℕ, List, [], map, ap, sym, ◌∙◌, subst, Bor}
use Rattle.tape_making.specs.Reading.{IsWordsFault}
use Rattle.tape_making.proofs.Readings.{read_more, read_all, read_wrong}
use Rattle.tape_making.proofs.text.read_words.Goals as goal

pub loop-index-init : goal.loop-index-init
loop-index-init c = record { said = []; each = tt; holds = c.in_ok-sheet.ensures }

pub returns-in-Err : goal.returns-in-Err
returns-in-Err c =
    subst (IsWordsFault c.args.text.now) (sym c.fault_at-in-Err.ensures)
    (read_wrong c.args.text.now c.deref-line-items.result.now c.loop-index.index _ c.loop-index.sheet c.in-Err.fault
    (ap (map (λ (f : Bor (List ℕ)). f.now)) c.deref-line-items.ensures.value ∙ c.in_ok-lines.ensures) c.loop-index-test.true c.if-text-gt-WORDS_LIMIT.false c.loop-index.invariant c.in-Err.ensures)

pub loop-index-preserved : goal.loop-index-preserved
loop-index-preserved c =
    read_more c.args.text.now c.deref-line-items.result.now c.loop-index.index _ c.loop-index.sheet c.lay_line.new.sheet
    (ap (map (λ (f : Bor (List ℕ)). f.now)) c.deref-line-items.ensures.value ∙ c.in_ok-lines.ensures) c.loop-index-test.true c.loop-index.invariant c.in-Ok.ensures

pub returns : goal.returns
returns c =
    read_all c.args.text.now c.deref-line-items.result.now c.loop-index.index c.loop-index.sheet
    (ap (map (λ (f : Bor (List ℕ)). f.now)) c.deref-line-items.ensures.value ∙ c.in_ok-lines.ensures) c.loop-index-test.false c.if-text-gt-WORDS_LIMIT.false c.loop-index.invariant
