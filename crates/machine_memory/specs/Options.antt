-- Which words may be asked for.
use Rattle.std.specs.Prelude.{ℕ, ◌+◌, ◌-◌, ◌*◌, ◌/◌, ◌≤◌}
use Rattle.reading_core.specs.Addresses.{IsRange}
use Rattle.machine_probe.specs.declared.probe_options.ProbeOptions.{ProbeOptions}
use Rattle.machine_memory.specs.declared.memory_options.MemoryOptions.{MemoryOptions}

pub record IsAsked (options : MemoryOptions) : Type 0 where
  pub range : IsRange options.from options.to
  pub some : 1 ≤ options.every

-- a trial of the console at a word
abbrev pub probe_options : MemoryOptions → ℕ → ProbeOptions
probe_options options at = record { address = at; patience = options.patience }

-- how many words are asked for: each so manieth from the first on
abbrev pub words_asked : MemoryOptions → ℕ
words_asked options = (options.to - options.from) / (2 * options.every) + 1
