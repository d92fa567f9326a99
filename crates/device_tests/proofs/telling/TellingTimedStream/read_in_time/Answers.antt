use Rattle.std.proofs.Common.{◌≡◌, ◌<◌, ℕ, List, [], ◌∷◌, ◌++◌, length, take, arith, rules, ap, ◌∙◌}
use Rattle.std.specs.Prelude.{slice_set}
use Rattle.device_tests.specs.declared.telling.Step.{Step}
use Rattle.device_tests.specs.declared.telling.Step.TheVariants.{Byte}
use Rattle.device_tests.specs.Telling.{bytes_of}
use Rattle.device_tests.proofs.telling.TellingTimedStream.read_in_time.Goals as goal

-- the byte that stands in front is the one that is given
given : (steps rest : List Step) (step : Step) (byte : ℕ) (buf : List ℕ) → 0 < length buf → steps ≡ step ∷ rest → step ≡ Byte byte → bytes_of steps ≡ take 1 (slice_set buf 0 byte) ++ bytes_of rest
given steps rest step byte [] room is which = absurd (omega (arith, room))
given steps rest step byte (b ∷ buf) room is which = ap bytes_of is ∙ ap (λ s. bytes_of (s ∷ rest)) which

pub returns-in-Byte-clause-bytes : goal.returns-in-Byte-clause-bytes
returns-in-Byte-clause-bytes c =
    (given c.args.self.now.steps.now c.in-Some.rest.now c.in-Some.step.now c.in-Byte.byte c.args.buf.now (search rules) c.in-Some.ensures.cases.0 c.in-Byte.is, λ none. absurd (omega arith))
