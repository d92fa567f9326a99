-- A test of a bus between two hosts: what was found so far, and what comes next (this project's own).
use Rattle.std.specs.Prelude.{ℕ, ◌+◌, ◌*◌, ◌/◌, ◌==◌, true, nat_lt, if◌then◌else◌, min, List, [], ◌∷◌, ◌++◌, length, Option, Some, None, Ok, Err}
use Rattle.std.specs.List.{fold}
use Rattle.engine.specs.declared.stop.Cut.TheVariants.{TurnsOver}
use Rattle.engine.specs.declared.stop.Stop.TheVariants as load
use Rattle.host_core.specs.declared.phase.End.TheVariants as loaded
use Rattle.load_engine.specs.Driving.{LoadStop}
use Rattle.looking_engine.specs.Stopping.{LookStop}
use Rattle.reading_core.specs.declared.phase.End.TheVariants as looked
use Rattle.reading_core.specs.Reader.{Reader}
use Rattle.memory_core.specs.declared.stage.Borrowed.{Borrowed}
use Rattle.memory_core.specs.Seen.{old_in}
use Rattle.memory_report.specs.declared.test_end.TestEnd.TheVariants.{Tested, NoWord, GaveUp, CutOff}
use Rattle.memory_report.specs.declared.findings.Word.{Word}
use Rattle.memory_report.specs.Words.{is_bad}
use Rattle.machine_memory.specs.declared.course.Place.{Place}
use Rattle.machine_memory.specs.declared.course.Place.TheVariants.{Marking, Looking, PuttingBack, LookingAgain, Over}
use Rattle.machine_memory.specs.Bus.{mark, reading}
use Rattle.machine_memory.specs.Course.{Standing, over}

-- ---- where it begins

abbrev pub good_also : Option Borrowed → Word → Option Borrowed
good_also (Some word) next = Some word
good_also None next = if is_bad next then None else Some (record { address = next.address; old = old_in next.seen })

-- the first word that holds what it is given, and what it held before
abbrev pub first_good : List Word → Option Borrowed
first_good words = fold good_also None words

abbrev pub bus_begins : ℕ → Standing → Place → Option Borrowed → Option Borrowed → Standing
bus_begins every s (Over Tested) None (Some word) = if every == 1 then record s { bus = record s.bus { at = Some word.address }; place = Marking word 0 } else s
bus_begins every s place borrowed word = s

-- where each word of the range was tested, and none is borrowed
abbrev pub then_bus : ℕ → Standing → Standing
then_bus every s = bus_begins every s s.place s.borrowed (first_good s.words)

-- ---- behind a deposit

-- the word is lent: a number may stand there that it did not hold before
abbrev pub lends : Standing → Borrowed → Place → Standing
lends s word place = record s { borrowed = Some word; place = place }

abbrev pub touching : Standing → Standing
touching s = record s { bus = record s.bus { touches = true } }

abbrev pub next_mark : Borrowed → ℕ → Place
next_mark word place = if nat_lt place 3 then Marking word (place + 1) else Looking word 0

abbrev pub stopped_load : Standing → Borrowed → LoadStop → Standing
stopped_load s word (load.Ended (loaded.NoWord address)) = over s (NoWord address) (Some word)
stopped_load s word (load.Ended end) = over s GaveUp (Some word)
stopped_load s word (load.CutOff cut) = over s (CutOff cut) (Some word)
stopped_load s word (load.KeepFailed fault) = over s (CutOff TurnsOver) (Some word)

-- of the number at a place
abbrev pub behind_mark : Standing → Borrowed → ℕ → LoadStop → Standing
behind_mark s word place (load.Ended loaded.Loaded) = lends s word (next_mark word place)
-- each of its bits can stand there, and together they do not
behind_mark s word place (load.Ended (loaded.WontHold address)) = lends (touching s) word (PuttingBack word)
behind_mark s word place stopped = stopped_load s word stopped

-- a second look is wanted where a word read the mark
abbrev pub put_back_next : Borrowed → List ℕ → Place
put_back_next word [] = Over Tested
put_back_next word (address ∷ marked) = LookingAgain word 0

-- of the old number
abbrev pub behind_put_back : Standing → Borrowed → LoadStop → Standing
behind_put_back s word (load.Ended loaded.Loaded) = record s { borrowed = None; place = put_back_next word s.bus.marked }
behind_put_back s word (load.Ended (loaded.WontHold address)) = over (touching s) Tested (Some word)
behind_put_back s word stopped = stopped_load s word stopped

-- ---- behind a look at the words around it

-- the word behind an address at which nothing answers, if there may be one
abbrev pub in_bus : ℕ → Option ℕ
in_bus gap = if nat_lt gap 0o157776 then Some (gap / 2 * 2 + 2) else None

abbrev pub on_from : Borrowed → Option ℕ → Place
on_from word (Some next) = Looking word next
on_from word None = PuttingBack word

abbrev pub look_on : Borrowed → ℕ → Place
look_on word gap = on_from word (in_bus gap)

abbrev pub with_marked : Standing → Borrowed → Reader → Standing
with_marked s word r = record s {
  bus = record s.bus {
    looked_at = min (s.bus.looked_at + length r.values) 4294967295;
    marked = s.bus.marked ++ reading (mark word.old) r.addresses r.values;
  };
}

abbrev pub by_look : Standing → Borrowed → LookStop → Standing
by_look s word (Ok looked.Complete) = record s { place = PuttingBack word }
by_look s word (Ok (looked.NoWord gap)) = record s { place = look_on word gap }
by_look s word (Ok looked.GaveUp) = over s GaveUp (Some word)
by_look s word (Err cut) = over s (CutOff cut) (Some word)

abbrev pub behind_look : Standing → Borrowed → Reader → LookStop → Standing
behind_look s word r stopped = by_look (with_marked s word r) word stopped

-- ---- and behind a second one

abbrev pub again_from : Borrowed → Option ℕ → Place
again_from word (Some next) = LookingAgain word next
again_from word None = Over Tested

abbrev pub second_look_on : Borrowed → ℕ → Place
second_look_on word gap = again_from word (in_bus gap)

abbrev pub with_returned : Standing → Borrowed → Reader → Standing
with_returned s word r = record s { bus = record s.bus { returned = s.bus.returned ++ reading word.old r.addresses r.values } }

abbrev pub by_second_look : Standing → Borrowed → LookStop → Standing
by_second_look s word (Ok looked.Complete) = over s Tested None
by_second_look s word (Ok (looked.NoWord gap)) = record s { place = second_look_on word gap }
by_second_look s word (Ok looked.GaveUp) = over s GaveUp None
by_second_look s word (Err cut) = over s (CutOff cut) None

abbrev pub behind_second_look : Standing → Borrowed → Reader → LookStop → Standing
behind_second_look s word r stopped = by_second_look (with_returned s word r) word stopped
