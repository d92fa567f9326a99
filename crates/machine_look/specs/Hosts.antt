-- The hosts of a save, before the console is reached.
use Rattle.std.specs.Prelude.{◌≡◌, ℕ, ◌≤◌, List, [], length, vec_capacity}
use Rattle.reading_core.specs.Addresses.{AreAddresses}
use Rattle.reading_core.specs.Invariant.{IsReader}
use Rattle.machine_look.specs.Behind.{AreOfFound, addresses_behind, begun_at}
use Rattle.machine_look.specs.declared.hosts.Hosts.{Hosts}
use Rattle.machine_look.specs.declared.saving.SaveOptions.{SaveOptions}

-- one looks at samples of what was found, with the care and the patience of the save, and for the other there are the addresses behind that, and room for as many
-- numbers
pub record AreHosts (options : SaveOptions) (found : List ℕ) (hosts : Hosts) : Type 0 where
  pub of_found : AreOfFound options.range found hosts.samples.items
  pub looker : hosts.looker ≡ begun_at options hosts.samples.items
  pub looks : IsReader hosts.looker
  pub addresses : hosts.addresses.items ≡ addresses_behind options.range found
  pub asked : AreAddresses hosts.addresses.items
  pub empty : hosts.room.items ≡ []
  pub ample : length hosts.addresses.items ≤ vec_capacity hosts.room
