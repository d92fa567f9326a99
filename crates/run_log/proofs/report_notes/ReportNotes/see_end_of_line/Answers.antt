use Rattle.std.proofs.Common.{sym, subst, ◌∙◌}
use Rattle.run_log.specs.Report.{IsNoted}
use Rattle.run_log.proofs.Notes.{says_counts, says_end, says_neither}
use Rattle.run_log.proofs.report_notes.ReportNotes.see_end_of_line.Goals as goal

pub returns-then-begins : goal.returns-then-begins
returns-then-begins c text noted =
    says_end (λ l. l.items) text c.self.inside.end c.keep_first.new.kept c.self.inside.counts c.take-line.result _
    c.keep_first.ensures (sym c.begins.ensures ∙ c.if-begins.true) c.take-line.ensures.after
    (rw (c.take-line.ensures.value) (subst (IsNoted text) (sym c.self.view_is) noted))

pub returns-then-is_count : goal.returns-then-is_count
returns-then-is_count c text noted =
    says_counts (λ l. l.items) text c.self.inside.counts c.keep_first-then-is_count.new.kept c.self.inside.end c.take-line.result _
    c.keep_first-then-is_count.ensures (sym c.begins.ensures ∙ c.if-begins.false) (sym c.is_count.ensures ∙ c.if-is_count.true) c.take-line.ensures.after
    (rw (c.take-line.ensures.value) (subst (IsNoted text) (sym c.self.view_is) noted))

pub returns-else-is_count : goal.returns-else-is_count
returns-else-is_count c text noted =
    says_neither text c.take-line.result.items _ _ _
    (sym c.begins.ensures ∙ c.if-begins.false) (sym c.is_count.ensures ∙ c.if-is_count.false) c.take-line.ensures.after
    (rw (c.take-line.ensures.value) (subst (IsNoted text) (sym c.self.view_is) noted))
