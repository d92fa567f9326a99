-- How the notes of an output go on.
use Rattle.std.proofs.Common.{ℕ, List, ◌++◌, Option, Some, None, ap, ◌∙◌, append_assoc}
use Rattle.std.specs.Io.KnownBytes.{Appends}
use Rattle.run_log.specs.Report.{AreNotesSince, IsNoted, Noted}

pub noted_on : (first held held' : Option (List ℕ)) (notes notes' : Noted) (bytes : List ℕ) → Appends held held' bytes
    → ((text : List ℕ) → IsNoted text notes → IsNoted (text ++ bytes) notes') → AreNotesSince first held notes → AreNotesSince first held' notes'
noted_on None held held' notes notes' bytes appends next are = tt
noted_on (Some first) None held' notes notes' bytes appends next are = absurd are
noted_on (Some first) (Some now) None notes notes' bytes appends next are = absurd appends
noted_on (Some first) (Some now) (Some grown) notes notes' bytes appends next are =
    (are.0 ++ bytes, appends ∙ (ap (λ (x : List ℕ). x ++ bytes) are.1 ∙ append_assoc first are.0 bytes), next are.0 are.2)
