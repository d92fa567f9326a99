use Rattle.std.proofs.Common.{◌+◌, ◌≡◌, length, arith}
use Rattle.std.proofs.lemmas.List.{length-append}
use Rattle.tape_blocks.specs.PartialTape.{part_of}
use Rattle.tape_blocks.proofs.Longer.{WantsBlock, wants_block}
use Rattle.tape_blocks.proofs.partial_tape.PartialTape.lacking.Goals as goal
use Rattle.tape_blocks.proofs.partial_tape.PartialTape.lacking.Goals.{After-count}

part : (c : After-count) → length (part_of c.args.self.now) ≡ length c.args.self.now.header.items + length c.args.self.now.body.items
part c = length-append c.args.self.now.header.items c.args.self.now.body.items

wanted : (c : After-count) → WantsBlock (part_of c.args.self.now)
wanted c = let p = part c in let l = c.len.ensures.value in wants_block c.args.self.now.place (part_of c.args.self.now) c.requires.wanting (omega arith)

pub overflow_sub-result-2 : goal.overflow_sub-result-2
overflow_sub-result-2 c = let w = wanted ((goal.at.overflow_sub-result-2 c).After-count) in let e = w.enough in omega arith

pub overflow_sub-result-3 : goal.overflow_sub-result-3
overflow_sub-result-3 c =
    let a = (goal.at.overflow_sub-result-3 c).After-count in
    let w = wanted a in let p = part a in let e = w.short in omega arith

pub returns-clause-some : goal.returns-clause-some
returns-clause-some c =
    let a = (goal.at.returns-clause-some c).After-count in
    let w = wanted a in let p = part a in let e = w.short in omega arith

pub returns-clause-block : goal.returns-clause-block
returns-clause-block c =
    let a = (goal.at.returns-clause-block c).After-count in
    let w = wanted a in let p = part a in let e = w.short in λ _. omega arith
