-- How a line failed, as a person is told.
use Rattle.std.specs.Prelude.{ℕ, List, codes}
use Rattle.host_devices.specs.declared.fault.LineFault.{LineFault}
use Rattle.host_devices.specs.declared.fault.LineFault.TheVariants.{Connect, Send, Closed, Receive, Full, Noise}

-- that the line failed, and on a line of its own how, and what to look at
abbrev pub line_failed : LineFault → List ℕ
line_failed Connect = codes "line failed\nldaodt: there was no connection"
line_failed Send = codes "line failed\nldaodt: a key could not be sent: is its output stopped, or the other end gone?"
line_failed Closed = codes "line failed\nldaodt: the other end closed it, or the adapter was pulled"
line_failed Receive = codes "line failed\nldaodt: nothing more could be read: was the adapter pulled?"
line_failed Full = codes "line failed\nldaodt: it has no room for more"
line_failed Noise = codes "line failed\nldaodt: nothing but zeroes came: are speed and parity the console's?"
