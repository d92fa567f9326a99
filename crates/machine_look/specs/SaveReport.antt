-- What `save` prints (this project's own).
use Rattle.std.specs.Prelude.{ℕ, Bool, true, if◌then◌else◌, List, ◌++◌, codes, decimal, Ok, Err}
use Rattle.octal.specs.Octal.{octal_text}
use Rattle.byte_io.specs.Text.{line}
use Rattle.reading_core.specs.declared.phase.End.TheVariants.{Complete, GaveUp as HostGaveUp, NoWord as HostFoundNoWord}
use Rattle.looking_engine.specs.Stopping.{LookStop}
use Rattle.engine.specs.Stopping.{cut_name}
use Rattle.sample_looks.specs.declared.finding.Finding.{Finding}
use Rattle.sample_looks.specs.declared.finding.Finding.TheVariants.{AllStand, Stale as HasStaleWord, Unfinished}
use Rattle.machine_look.specs.declared.save_end.SaveEnd.{SaveEnd}
use Rattle.machine_look.specs.declared.save_end.SaveEnd.TheVariants.{Saved, Changed, NoWord, GaveUp, CutOff, Stale}
use Rattle.machine_look.specs.declared.save_report.SaveCounts.{SaveCounts}

-- how it ends, by how the reading stopped, and whether what was read may be believed: memory is saved only where every word was read
abbrev pub save_end : LookStop → (trusted : Bool) → SaveEnd
save_end (Ok Complete) trusted = if trusted then Saved else Changed
save_end (Ok HostGaveUp) trusted = GaveUp
save_end (Ok (HostFoundNoWord address)) trusted = if trusted then NoWord address else Changed
save_end (Err cut) trusted = CutOff cut

-- how it ends that its looks held up, by what they found and how they stopped
abbrev pub held_end : Finding → LookStop → SaveEnd
held_end (HasStaleWord address) stop = Stale address
held_end AllStand stop = save_end stop true
held_end Unfinished stop = save_end stop true

-- the name of an end
abbrev pub save_end_name : SaveEnd → List ℕ
save_end_name Saved = codes "Saved"
save_end_name Changed = codes "Changed"
save_end_name (NoWord address) = codes "NoWord " ++ octal_text address
save_end_name GaveUp = codes "GaveUp"
save_end_name (CutOff cut) = cut_name cut
save_end_name (Stale address) = codes "Stale " ++ octal_text address

-- the characters sent, the mishaps, and how many of the words the tape has
abbrev pub save_counts_text : SaveCounts → List ℕ
save_counts_text counts =
    codes "sent " ++ decimal counts.sent ++ codes " spent " ++ decimal counts.spent ++ codes " read " ++ decimal counts.read
    ++ codes " of " ++ decimal counts.words

-- the counts, and the end
abbrev pub save_report : SaveCounts → SaveEnd → List ℕ
save_report counts end = line (save_counts_text counts) ++ line (codes "end " ++ save_end_name end)
