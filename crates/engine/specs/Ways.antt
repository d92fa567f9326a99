-- What a host makes of what it hears.
use Rattle.std.specs.Prelude.{◌≡◌, ℕ, List, [], ◌∷◌, ◌++◌, Option, None, ⊤}
use Rattle.host_core.specs.declared.heard.Heard.{Heard}
use Rattle.host_devices.specs.declared.item.Item.{Item}
use Rattle.host_devices.specs.declared.item.Item.TheVariants.{Sent, Heard as Came}

-- of one thing heard: the host afterwards, the keys it sends, what it gives to keep; and how its life ended, if it did
pub record Ways (Host End News : Type 0) : Type 0 where
  pub step : Host → Heard → Host
  pub keys : Host → Heard → List ℕ
  pub news : Host → Heard → List News
  pub ended : Host → Option End

-- the host that a list of heard things makes
abbrev pub led : {Host End News : Type 0} → Ways Host End News → Host → List Heard → Host
led ways host [] = host
led ways host (heard ∷ more) = led ways (ways.step host heard) more

-- these characters, as said
abbrev pub said_all : List ℕ → List Item
said_all [] = []
said_all (key ∷ keys) = Sent key ∷ said_all keys

-- each heard thing, and right after it the keys that it makes the host send
abbrev pub dialogue : {Host End News : Type 0} → Ways Host End News → Host → List Heard → List Item
dialogue ways host [] = []
dialogue ways host (heard ∷ more) = Came heard ∷ (said_all (ways.keys host heard) ++ dialogue ways (ways.step host heard) more)

-- what it gives to keep meanwhile
abbrev pub news_of : {Host End News : Type 0} → Ways Host End News → Host → List Heard → List News
news_of ways host [] = []
news_of ways host (heard ∷ more) = ways.news host heard ++ news_of ways (ways.step host heard) more

-- the host has no end before the last of these is heard
abbrev pub GoesOn : {Host End News : Type 0} → Ways Host End News → Host → List Heard → Type 0
GoesOn ways host [] = ⊤
GoesOn ways host (heard ∷ more) = (ways.ended host ≡ None) × GoesOn ways (ways.step host heard) more
