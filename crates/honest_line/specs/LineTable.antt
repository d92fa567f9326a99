-- A line in memory: what it shows, and what its calls make of it.
use Rattle.std.specs.Prelude.{ℕ, ◌+◌, ◌-◌, ◌==◌, ◌||◌, Bool, true, false, nat_lt, if◌then◌else◌, List, [], ◌∷◌, ◌++◌, length, Option, Some, None}
use Rattle.std.specs.List.{list_any}
use Rattle.odt_machine.specs.Answer.{longest_answer}
use Rattle.odt_machine.specs.Machine.{Machine}
use Rattle.odt_machine.specs.KeyTable.{take_of, after_key}
use Rattle.host_core.specs.declared.heard.Heard.{Heard}
use Rattle.host_core.specs.declared.heard.Heard.TheVariants.{Got, Quiet}
use Rattle.host_devices.specs.declared.fault.LineFault.{LineFault}
use Rattle.host_devices.specs.declared.fault.LineFault.TheVariants.{Send, Receive, Full}
use Rattle.host_devices.specs.declared.item.Item.{Item}
use Rattle.host_devices.specs.declared.item.Item.TheVariants.{Sent, Heard as Came}
use Rattle.host_devices.specs.Failures.{one_more}
use Rattle.host_devices.specs.KeepTable.{is_failing}
use Rattle.honest_line.specs.declared.loss.Loss.{Loss}
use Rattle.honest_line.specs.declared.loss.Loss.TheVariants.{Down, Up}

-- the machine, the answers that wait for the host, and what was sent and heard; the losses to come, how many things may be
-- said, and the number of the first call that fails; the calls, the keys sent and the characters answered so far, how many
-- calls failed, and the fault of the last
pub record LineValue : Type 0 where
  pub machine : Machine
  pub waiting : List ℕ
  pub items : List Item
  pub losses : List Loss
  pub room : ℕ
  pub fail_at : Option ℕ
  pub calls : ℕ
  pub keys : ℕ
  pub answers : ℕ
  pub failures : ℕ
  pub fault : Option LineFault

-- this loss is the key with the number
abbrev pub is_key : ℕ → Loss → Bool
is_key number (Down lost) = lost == number
is_key number (Up lost) = false

-- this loss is the answer character with the number
abbrev pub is_answer : ℕ → Loss → Bool
is_answer number (Down lost) = false
is_answer number (Up lost) = lost == number

-- the character alone, or nothing where it is lost
abbrev pub unless_lost : Bool → ℕ → List ℕ
unless_lost true c = []
unless_lost false c = c ∷ []

-- what is left of an answer, where so many characters were answered before it
abbrev pub let_through : List Loss → ℕ → List ℕ → List ℕ
let_through losses before [] = []
let_through losses before (c ∷ answer) = unless_lost (list_any (is_answer (before + 1)) losses) c ++ let_through losses (before + 1) answer

-- the number of the next call, from 1; at its largest, 64 bits, it stays
abbrev pub next_call : LineValue → ℕ
next_call line = one_more line.calls

-- what the next call fails with, if it does: by its number, else Full where no room is left
abbrev pub call_refusal : LineValue → LineFault → Bool → Option LineFault
call_refusal line failure is_full =
    if is_failing line.fail_at (next_call line) then Some failure
    else (if is_full || (length line.items == line.room) then Some Full
    else None)

-- the line after a call was judged, with nothing said yet
abbrev pub called : LineValue → Option LineFault → LineValue
called line None = record line { calls = next_call line; fault = None }
called line (Some fault) = record line { calls = next_call line; failures = one_more line.failures; fault = Some fault }

-- the machine takes a key, and what the line lets through of its answer waits
abbrev pub with_key : LineValue → ℕ → LineValue
with_key line key = record line {
  machine = after_key line.machine key;
  waiting = line.waiting ++ let_through line.losses line.answers (take_of line.machine key).answer;
  answers = line.answers + length (take_of line.machine key).answer;
}

-- a key that is lost changes nothing on the other side
abbrev pub delivered : Bool → LineValue → ℕ → LineValue
delivered true line key = line
delivered false line key = with_key line key

-- a key is sent, and is the next one that counts
abbrev pub with_sent : LineValue → ℕ → LineValue
with_sent line key =
    delivered (list_any (is_key (line.keys + 1)) line.losses) (record line { items = line.items ++ Sent key ∷ []; keys = line.keys + 1 }) key

-- the first that waits, or that nothing waits
abbrev pub first_heard : List ℕ → Heard
first_heard [] = Quiet
first_heard (c ∷ waiting) = Got c

-- all but the first
abbrev pub rest_waiting : List ℕ → List ℕ
rest_waiting [] = []
rest_waiting (c ∷ waiting) = waiting

-- the next thing is heard
abbrev pub with_heard : LineValue → LineValue
with_heard line = record line { waiting = rest_waiting line.waiting; items = line.items ++ Came (first_heard line.waiting) ∷ [] }

-- the most answer characters for which the line has room: a host here types only where nothing waits, so that seven of the longest answers are
-- enough for whoever types on (this project's choice)
abbrev pub waiting_room : ℕ
waiting_room = 64

-- the most that may wait when a key is sent: the answer to it has room then
abbrev pub most_before_key : ℕ
most_before_key = waiting_room - longest_answer

-- a send fails with Send by its number, and with Full also where so many answer characters wait that the answer may have no room
abbrev pub send_refusal : LineValue → Option LineFault
send_refusal line = call_refusal line Send (nat_lt most_before_key (length line.waiting))

-- a hear fails with Receive by its number
abbrev pub hear_refusal : LineValue → Option LineFault
hear_refusal line = call_refusal line Receive false

-- the line after a send that was judged so
abbrev pub sent_or_not : Option LineFault → LineValue → ℕ → LineValue
sent_or_not None line key = with_sent (called line None) key
sent_or_not (Some fault) line key = called line (Some fault)

-- the line after a hear that was judged so
abbrev pub heard_or_not : Option LineFault → LineValue → LineValue
heard_or_not None line = with_heard (called line None)
heard_or_not (Some fault) line = called line (Some fault)

-- the line after a send
abbrev pub after_send : LineValue → ℕ → LineValue
after_send line key = sent_or_not (send_refusal line) line key

-- the line after a hear
abbrev pub after_hear : LineValue → LineValue
after_hear line = heard_or_not (hear_refusal line) line

-- a line on which nothing was said yet
abbrev pub quiet_line : Machine → List Loss → ℕ → Option ℕ → LineValue
quiet_line machine losses room fail_at = record {
  machine = machine;
  waiting = [];
  items = [];
  losses = losses;
  room = room;
  fail_at = fail_at;
  calls = 0;
  keys = 0;
  answers = 0;
  failures = 0;
  fault = None;
}
