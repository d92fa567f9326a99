use Rattle.std.proofs.Common.{ℕ, [], ◌∷◌, ◌++◌, refl, sym, subst}
use Rattle.run_log.specs.Report.{IsNoted}
use Rattle.run_log.proofs.Notes.{goes_on, pushed}
use Rattle.run_log.proofs.report_notes.ReportNotes.see_byte.Goals as goal

pub returns-then-byte-eq10 : goal.returns-then-byte-eq10
returns-then-byte-eq10 c text noted =
    subst (λ (b : ℕ). IsNoted (text ++ b ∷ []) c.see_end_of_line.new.self) (sym c.if-byte-eq10.true) (c.see_end_of_line.ensures text noted)

pub returns-else-byte-eq10 : goal.returns-else-byte-eq10
returns-else-byte-eq10 c text noted =
    let push = c.try_push.ensures in
    goes_on text c.args.byte _ _ c.if-byte-eq10.false refl refl
    (λ front is. pushed (λ v. v.items) c.try_push.result c.self.inside.front c.try_push.new.self front c.args.byte push.variant.0 push.ok push.err push.full is)
    (subst (IsNoted text) (sym c.self.view_is) noted)
