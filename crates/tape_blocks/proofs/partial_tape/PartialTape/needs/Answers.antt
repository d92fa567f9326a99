use Rattle.std.proofs.Common.{◌+◌, ◌≡◌, length, arith, ◌∙◌}
use Rattle.std.proofs.lemmas.List.{length-append}
use Rattle.tape_blocks.specs.Refusal.{count_of}
use Rattle.tape_blocks.specs.PartialTape.{part_of}
use Rattle.tape_blocks.specs.declared.fault.Why.TheVariants.{Cut}
use Rattle.tape_blocks.proofs.Longer.{WantsBlock, wants_block}
use Rattle.tape_blocks.proofs.Needs.{behind, seven, block_too}
use Rattle.tape_blocks.proofs.partial_tape.PartialTape.needs.Goals as goal
use Rattle.tape_blocks.proofs.partial_tape.PartialTape.needs.Goals.{After-len-2, After-count-count}

part : (c : After-len-2) → length (part_of c.args.self.now) ≡ c.len.result + c.len-2.result
part c =
    let p = length-append c.args.self.now.header.items c.args.self.now.body.items in
    let l = c.len.ensures.value in
    let k = c.len-2.ensures in
    omega arith

wanted : (c : After-count-count) → WantsBlock (part_of c.args.self.now)
wanted c =
    let p = part ((goal.at.After-count-count c).After-len-2) in
    let l = c.len-3.ensures.value in
    let k = c.len.ensures.value in
    wants_block c.args.self.now.place (part_of c.args.self.now) c.requires.wanting (omega arith)

pub returns-then-len-lt4-clause-known : goal.returns-then-len-lt4-clause-known
returns-then-len-lt4-clause-known c = λ fed more blocks start read tape.
    let p = part ((goal.at.returns-then-len-lt4-clause-known c).After-len-2) in
    let s = seven (part_of c.args.self.now) more start (behind fed more (part_of c.args.self.now) _ blocks c.args.self.now.place start read tape) in
    omega arith

pub overflow_sub-result-then-count-eq-HEADER : goal.overflow_sub-result-then-count-eq-HEADER
overflow_sub-result-then-count-eq-HEADER c =
    let p = part ((goal.at.overflow_sub-result-then-count-eq-HEADER c).After-len-2) in
    let w = wanted ((goal.at.overflow_sub-result-then-count-eq-HEADER c).After-count-count) in
    let s = w.short in
    let v = c.count-count.ensures.value in
    omega arith

pub overflow_sub-result-else-count-eq-HEADER : goal.overflow_sub-result-else-count-eq-HEADER
overflow_sub-result-else-count-eq-HEADER c =
    let p = part ((goal.at.overflow_sub-result-else-count-eq-HEADER c).After-len-2) in
    let w = wanted ((goal.at.overflow_sub-result-else-count-eq-HEADER c).After-count-count) in
    let s = w.short in
    let v = c.count-count.ensures.value in
    omega arith

pub returns-then-count-eq-HEADER-clause-some : goal.returns-then-count-eq-HEADER-clause-some
returns-then-count-eq-HEADER-clause-some c =
    let p = part ((goal.at.returns-then-count-eq-HEADER-clause-some c).After-len-2) in
    let w = wanted ((goal.at.returns-then-count-eq-HEADER-clause-some c).After-count-count) in
    let s = w.short in
    let v = c.count-count.ensures.value in
    omega arith

pub returns-then-count-eq-HEADER-clause-known : goal.returns-then-count-eq-HEADER-clause-known
returns-then-count-eq-HEADER-clause-known c = λ fed more blocks start read tape.
    let p = part ((goal.at.returns-then-count-eq-HEADER-clause-known c).After-len-2) in
    let s = seven (part_of c.args.self.now) more start (behind fed more (part_of c.args.self.now) _ blocks c.args.self.now.place start read tape) in
    omega arith

pub returns-else-count-eq-HEADER-clause-some : goal.returns-else-count-eq-HEADER-clause-some
returns-else-count-eq-HEADER-clause-some c =
    let p = part ((goal.at.returns-else-count-eq-HEADER-clause-some c).After-len-2) in
    let w = wanted ((goal.at.returns-else-count-eq-HEADER-clause-some c).After-count-count) in
    let s = w.short in
    let v = c.count-count.ensures.value in
    omega arith

pub returns-else-count-eq-HEADER-clause-known : goal.returns-else-count-eq-HEADER-clause-known
returns-else-count-eq-HEADER-clause-known c = λ fed more blocks start read tape.
    let p = part ((goal.at.returns-else-count-eq-HEADER-clause-known c).After-len-2) in
    let v = c.count-count.ensures.value in
    let l = c.len-3.ensures.value in
    let k = c.len.ensures.value in
    let other : count_of (part_of c.args.self.now) ≡ 6 → ⊥ = λ e. c.if-count-eq-HEADER.false (v ∙ e) in
    let s = block_too (part_of c.args.self.now) more start (behind fed more (part_of c.args.self.now) _ blocks c.args.self.now.place start read tape)
    (c.requires.wanting (record { at = 0; why = Cut })).no_piece.no_blank (omega arith) other in
    omega arith
