-- What a crash leaves of a load's record is what a stopped life leaves.
use Rattle.std.proofs.Common.{◌≡◌, ℕ, true, false, List, [], ◌∷◌, ◌++◌, inl, inr, refl, ap, sym, ◌∙◌, append-nil, append_assoc}
use Rattle.std.specs.Prelude.{Contains}
use Rattle.disk_law.specs.Laws.{HasLasted}
use Rattle.disk_law.specs.Lives.{StoppedLife, BeginningsAreStops, AppendsAreStops}
use Rattle.disk_law.proofs.Appends.{appends_last}
use Rattle.disk_law.proofs.Kept.{a_record_is_kept}
use Rattle.host_core.specs.Console.{go}
use Rattle.host_devices.specs.Dialogue.{keys_of}
use Rattle.load_lives.proofs.Stopping.{records_are_fronts}
use Rattle.load_record.specs.RecordText.{record_text}
use Rattle.load_record.specs.declared.version.Version.TheVariants.{Second}

unmarked : (life : StoppedLife) (now : List ℕ) → life.progress.going ≡ true → now ≡ life.old
unmarked life now marked = absurd (cc (sym marked ∙ life.no_mark))

pub beginnings_are_stops : BeginningsAreStops
beginnings_are_stops life name words was is course history later earlier few no_go old list so left leaves =
    elim ((a_record_is_kept name (record_text Second life.plan words false) was is course history later earlier list so).record_is left leaves) [
      | inl before ↦ (life.old, old left before, record { cut = inl refl; whole = λ has. absurd (no_go has); alone = unmarked life life.old })
      | inr new ↦ (
        record_text Second life.plan words false,
        new,
        record {
          cut = inr (records_are_fronts.fewer life.plan words life.core.verified life.core.going few);
          whole = λ has. absurd (no_go has);
          alone = unmarked life (record_text Second life.plan words false);
        },
      )
    ]

pub appends_are_stops : AppendsAreStops
appends_are_stops life name begun synced pending history i events kind durable appends begins typed left leaves = (
  synced ++ lasted.front,
  lasted.is,
  record { cut = inr (lasted.rest ++ begins.0, all); whole = whole; alone = unmarked life (synced ++ lasted.front) },
)
  where
    lasted : HasLasted begun synced pending left
    lasted = appends_last name begun synced pending history i events kind durable appends left leaves

    all : (synced ++ lasted.front) ++ (lasted.rest ++ begins.0) ≡ record_text Second life.plan life.core.verified life.core.going
    all = append_assoc synced lasted.front (lasted.rest ++ begins.0)
        ∙ (ap (λ l. synced ++ l) (sym (append_assoc lasted.front lasted.rest begins.0) ∙ ap (λ l. l ++ begins.0) (sym lasted.part))
        ∙ (sym (append_assoc synced pending begins.0) ∙ begins.1))

    none_of : (front rest : List ℕ) → [] ≡ front ++ rest → front ≡ []
    none_of [] rest e = refl
    none_of (x ∷ front) rest e = absurd (cc e)

    whole : Contains (keys_of life.items) go → synced ++ lasted.front ≡ record_text Second life.plan life.core.verified true
    whole has = let t = typed has in
        ap (λ l. synced ++ l) (none_of lasted.front lasted.rest (sym t.0 ∙ lasted.part)) ∙ (append-nil synced ∙ t.1)
