-- What a host says on a line, and what it gives to be kept, while it hears things.
use Rattle.std.specs.Prelude.{◌≡◌, ℕ, ◌-◌, Bool, true, false, List, [], ◌∷◌, ◌++◌, map, take, drop, Option, Some, None}
use Rattle.host_core.specs.Core.{Core}
use Rattle.host_core.specs.PhaseTable.{move}
use Rattle.host_core.specs.declared.heard.Heard.{Heard}
use Rattle.host_core.specs.declared.heard.Heard.TheVariants.{Got, Quiet}
use Rattle.host_devices.specs.declared.item.Item.{Item}
use Rattle.host_devices.specs.declared.item.Item.TheVariants.{Sent, Heard as Came}
use Rattle.host_devices.specs.declared.item.Kept.{Kept}
use Rattle.host_devices.specs.declared.item.Kept.TheVariants.{Word, Go}

-- the character that is sent, if any
abbrev pub said : Option ℕ → List Item
said None = []
said (Some key) = Sent key ∷ []

-- each heard thing, and right after it the key that it makes the host send
abbrev pub dialogue : Core → List Heard → List Item
dialogue core [] = []
dialogue core (heard ∷ more) = Came heard ∷ (said (move core heard).key ++ dialogue (move core heard).next more)

-- the characters sent, in their order
abbrev pub keys_of : List Item → List ℕ
keys_of [] = []
keys_of (Sent key ∷ items) = key ∷ keys_of items
keys_of (Came heard ∷ items) = keys_of items

-- what was heard, in its order
abbrev pub heard_of : List Item → List Heard
heard_of [] = []
heard_of (Sent key ∷ items) = heard_of items
heard_of (Came heard ∷ items) = heard ∷ heard_of items

-- the characters that were heard, in their order
abbrev pub characters_of : List Heard → List ℕ
characters_of [] = []
characters_of (Got character ∷ more) = character ∷ characters_of more
characters_of (Quiet ∷ more) = characters_of more

-- all but the last, which is a character that was to be sent
abbrev pub LacksKey : List Item → List Item → Type 0
LacksKey all most = (key : ℕ) × (all ≡ most ++ Sent key ∷ [])

-- the start mark, where it was set meanwhile
abbrev pub mark_between : Bool → Bool → List Kept
mark_between false true = Go ∷ []
mark_between _ _ = []

-- what there is to keep from one core to a later one: the plan's words that were verified meanwhile, then the mark
abbrev pub news_between : Core → Core → List Kept
news_between old new =
    map Word (take (new.verified - old.verified) (drop old.verified old.plan.words)) ++ mark_between old.going new.going
