-- How a test of memory ended (this project's own).
use Rattle.engine.specs.declared.stop.Cut.TheVariants.{TurnsOver}
use Rattle.memory_report.specs.Report.{Found, is_good}
use Rattle.memory_report.specs.declared.test_end.TestEnd.{TestEnd}
use Rattle.memory_report.specs.declared.test_end.TestEnd.TheVariants.{CutOff}
use Rattle.machine_memory.specs.Course.{Standing}
use Rattle.machine_memory.specs.declared.course.Place.{Place}
use Rattle.machine_memory.specs.declared.course.Place.TheVariants.{Over}
use Rattle.machine_memory.specs.declared.memory_options.MemoryOptions.{MemoryOptions}
use Rattle.machine_memory.specs.declared.memory_end.MemoryEnd.{MemoryEnd}

-- by what was found
abbrev pub memory_end : Found → MemoryEnd
memory_end f = record { end = f.end; good = is_good f }

-- how it ended by what comes next: where a step would follow, the turns are over
abbrev pub end_at : Place → TestEnd
end_at (Over end) = end
end_at place = CutOff TurnsOver

-- what was found, once the test is over
abbrev pub found_at : MemoryOptions → Standing → Found
found_at options s = record { from = options.from; to = options.to; words = s.words; gaps = s.gaps; bus = s.bus; borrowed = s.borrowed; end = end_at s.place }
