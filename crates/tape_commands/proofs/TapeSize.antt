-- The data of a tape is no longer than the tape.
use Rattle.std.proofs.Common.{◌≡◌, ◌≤◌, ◌+◌, List, [], ◌∷◌, length, arith, subst, sym}
use Rattle.std.specs.Prelude.{sum_by}
use Rattle.std.proofs.lemmas.List.Sums.{sum_by-cons}
use Rattle.tape_values.specs.Block.{BlockValue}
use Rattle.tape_values.specs.Tape.{TapeValue, IsSound, tape_limit}
use Rattle.tape_commands.specs.CheckText.{data_count}

data_count-framed : (blocks : List BlockValue) → data_count blocks ≤ sum_by (λ b. 7 + length b.bytes) blocks
data_count-framed [] = omega arith
data_count-framed (block ∷ blocks) = let rest = data_count-framed blocks in
    omega (arith, rest, sum_by-cons (λ b. length b.bytes) block blocks, sum_by-cons (λ b. 7 + length b.bytes) block blocks)

pub data_count-small : (blocks : List BlockValue) (tape : TapeValue) → IsSound tape → blocks ≡ tape.blocks → data_count blocks ≤ tape_limit
data_count-small blocks tape sound same =
    let framed = data_count-framed tape.blocks in
    let within = sound.within in
    let small : data_count tape.blocks ≤ tape_limit = omega arith in
    subst (λ l. data_count l ≤ tape_limit) (sym same) small
