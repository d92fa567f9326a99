use Rattle.std.proofs.Common.{ℕ, ◌&&◌, ◌||◌, ◌==◌, ap, sym, ◌∙◌, ◌++◌, ◌∷◌, []}
use Rattle.host_core.specs.declared.heard.Heard.{Heard}
use Rattle.host_devices.specs.declared.item.Item.TheVariants.{Heard as Came}
use Rattle.probe_report.specs.Notes.{Noted, heard_characters, echoes, notes_of}
use Rattle.probe_report.proofs.Noting.{noted_got, noted_quiet}
use Rattle.probe_report.proofs.notes.Notes.hears.Goals as goal

pub returns-in-Got : goal.returns-in-Got
returns-in-Got c items is =
    let all = c.self.view_is ∙ is in
    let key = ap (λ (n : Noted). n.last_key) all in
    let this : ℕ = c.in-Got.c in
    noted_got items this _
    (c.prompt_by_now-self-inside.ensures ∙ ap (λ (n : Noted). n.prompt || (this == 64)) all)
    (c.still_echoes-self-inside.ensures ∙ ap (λ (n : Noted). n.only_echoes && echoes n.last_key this) all)
    key (c.push_last.ensures (heard_characters items) (ap (λ (n : Noted). n.tail) all))
    ∙ sym (ap (λ (h : Heard). notes_of (items ++ Came h ∷ [])) c.in-Got.is)

pub returns-in-Quiet : goal.returns-in-Quiet
returns-in-Quiet c items is = is ∙ (noted_quiet items ∙ ap (λ (h : Heard). notes_of (items ++ Came h ∷ [])) (sym c.in-Quiet.is))
