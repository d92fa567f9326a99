use Rattle.std.proofs.Common.{ℕ, List, [], ◌∷◌, ◌++◌, ◌∙◌, take, get_or, sym, ap, subst, append_assoc}
use Rattle.std.proofs.lemmas.List.{take_all, take_more}
use Rattle.run_log.specs.Report.{IsNoted}
use Rattle.run_log.proofs.report_notes.ReportNotes.see.Goals as goal

pub loop-byte-preserved : goal.loop-byte-preserved
loop-byte-preserved c text noted =
    let all : List ℕ = c.args.bytes.now in
    let i = c.loop-byte.byte-index in
    subst (λ (t : List ℕ). IsNoted t c.see_byte.new.self)
    (append_assoc text (take i all) (get_or all i 0 ∷ []) ∙ ap (λ (some : List ℕ). text ++ some) (sym (take_more all i 0 c.loop-byte-test.true)))
    (c.see_byte.ensures (text ++ take i all) (c.loop-byte.invariant text noted))

pub returns : goal.returns
returns c text noted =
    subst (λ (some : List ℕ). IsNoted (text ++ some) c.loop-byte.self) (take_all c.loop-byte.byte-index c.args.bytes.now c.loop-byte-test.false)
    (c.loop-byte.invariant text noted)
