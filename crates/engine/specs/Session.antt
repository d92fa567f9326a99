-- What turns of a host were: what was heard, said and kept in them.
use Rattle.std.specs.Prelude.{◌≡◌, ℕ, ◌-◌, ◌<◌, ◌≤◌, ◌⊎◌, List, [], ◌∷◌, ◌++◌, length, Option, Some, None}
use Rattle.host_core.specs.declared.heard.Heard.{Heard}
use Rattle.host_devices.specs.declared.item.Item.{Item}
use Rattle.host_devices.specs.declared.item.Item.TheVariants.{Heard as Came}
use Rattle.host_devices.specs.Told.{Gains}
use Rattle.engine.specs.Keeping.{AllOrFront, LacksLast}
use Rattle.engine.specs.Stopping.{keep_fault}
use Rattle.engine.specs.Ways.{GoesOn, Ways, dialogue, led, news_of, said_all}
use Rattle.engine.specs.declared.stop.Stop.{Stop}
use Rattle.engine.specs.declared.stop.Cut.TheVariants.{LineFailed, TurnsOver}
use Rattle.engine.specs.declared.stop.Stop.TheVariants.{Ended, KeepFailed, CutOff}

-- a host that has such ways, before turns and after them, and how they stopped (None: they are over, and may go on)
pub record Turns {Host End News : Type 0} (ways : Ways Host End News) : Type 0 where
  pub old : Host
  pub new : Host
  pub stop : Option (Stop End)

abbrev pub turns_of : {Host End News : Type 0} (ways : Ways Host End News) → Host → Host → Option (Stop End) → Turns ways
turns_of ways old new stop = record { old = old; new = new; stop = stop }

-- all that a host decides was said and given to the keeper
pub record IsAll {Host End News : Type 0} (ways : Ways Host End News) (old : Host) (heard : List Heard) (said : List Item) (given : List News) : Type 0 where
  pub said_is : said ≡ dialogue ways old heard
  pub given_is : given ≡ news_of ways old heard

-- in the last turn the line failed at one of the keys: it and those behind it were not said
pub record Unsent {Host End News : Type 0} (ways : Ways Host End News) (old : Host) (heard : List Heard) (said : List Item) (given : List News) : Type 0 where
  pub first : List Heard
  pub last : Heard
  pub heard_is : heard ≡ first ++ last ∷ []
  pub front : List ℕ
  pub key : ℕ
  pub rest : List ℕ
  pub keys_are : ways.keys (led ways old first) last ≡ front ++ key ∷ rest
  pub said_is : said ≡ dialogue ways old first ++ Came last ∷ said_all front
  pub given_is : given ≡ news_of ways old heard

-- in the last turn the keeper failed at one of the things that the host gave: no more was given, and no key sent
pub record Unkept {Host End News : Type 0} (ways : Ways Host End News) (old : Host) (heard : List Heard) (said : List Item) (given : List News) : Type 0 where
  pub first : List Heard
  pub last : Heard
  pub heard_is : heard ≡ first ++ last ∷ []
  pub said_is : said ≡ dialogue ways old first ++ Came last ∷ []
  pub front : List News
  pub item : News
  pub rest : List News
  pub news_are : ways.news (led ways old first) last ≡ front ++ item ∷ rest
  pub given_is : given ≡ news_of ways old first ++ (front ++ item ∷ [])

-- what was said and given of what a host makes of heard things, by how the turns stopped and how many were left. A line fails at a hear
-- of a further turn, or at a key
abbrev pub IsDone : {Host End News : Type 0} → Ways Host End News → Option (Stop End) → ℕ → Host → List Heard → List Item → List News → Type 0
IsDone ways (Some (CutOff (LineFailed fault))) left old heard said given = (IsAll ways old heard said given × (0 < left)) ⊎ Unsent ways old heard said given
IsDone ways (Some (KeepFailed fault)) left old heard said given = Unkept ways old heard said given
IsDone ways (Some (CutOff TurnsOver)) left old heard said given = IsAll ways old heard said given × (left ≡ 0)
IsDone ways (Some (Ended end)) left old heard said given = IsAll ways old heard said given
IsDone ways None left old heard said given = IsAll ways old heard said given × (left ≡ 0)

-- what was said on a line and what a keeper kept, where they tell it
pub record SessionTold (News : Type 0) : Type 0 where
  pub said : Option (List Item)
  pub kept : Option (List News)

abbrev pub session_told : {News : Type 0} → Option (List Item) → Option (List News) → SessionTold News
session_told said kept = record { said = said; kept = kept }

-- at most so many turns, with what line and keeper told before and tell after
pub record Session {Host End News : Type 0} {ways : Ways Host End News} (most : ℕ) (turns : Turns ways) (before after : SessionTold News) : Type 0 where
  pub heard : List Heard
  pub said : List Item
  pub given : List News
  pub kept : List News
  -- the host heard these things, and nothing more once it had an end
  pub host : turns.new ≡ led ways turns.old heard
  pub goes_on : GoesOn ways turns.old heard
  pub within : length heard ≤ most
  -- the keys of each right behind it, and what it makes the host give
  pub done : IsDone ways turns.stop (most - length heard) turns.old heard said given
  -- all that was given was kept, but for the last where the keeper failed
  pub news : AllOrFront (keep_fault turns.stop) (kept ≡ given) (LacksLast given kept)
  pub on_line : Gains before.said after.said said
  pub at_keeper : Gains before.kept after.kept kept

-- a told list has gained these
abbrev pub HasGained : {A : Type 0} → Option (List A) → Option (List A) → List A → Type 0
HasGained {A} old new more = (items : List A) × (old ≡ Some items) × (new ≡ Some (items ++ more))
