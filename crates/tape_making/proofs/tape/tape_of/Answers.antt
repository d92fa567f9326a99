use Rattle.std.proofs.Common.{◌≡◌, ℕ, ◌+◌, List, length, arith, refl, sym, subst, Result, Ok, IfOk}
use Rattle.tape_values.specs.Block.{BlockValue}
use Rattle.tape_values.specs.Tape.{TapeValue}
use Rattle.tape_making.specs.MadeTape.{IsTapeOf, byte_on}
use Rattle.tape_making.proofs.Gathered.{IsGathered, gathered_more, all_bytes, few_enough}
use Rattle.tape_making.proofs.Refused.{never_refused}
use Rattle.tape_making.proofs.tape.tape_of.Goals as goal

pub loop-first-preserved : goal.loop-first-preserved
loop-first-preserved c =
    let bytes = c.args.bytes.now in
    let first = c.in-Some.first in
    let long : first + length c.in_ok-run.run'.items ≡ first + c.len.result = omega arith in
    subst (λ n. IsGathered bytes n c.push.new.self.items) long
    (subst (IsGathered bytes (first + length c.in_ok-run.run'.items)) (sym c.in_ok-push.ensures.items)
    (gathered_more bytes c.loop-first.at first c.in_ok-run.run'.items c.loop-first.blocks.items c.requires c.loop-first.invariant c.in-Some.ensures.found c.in_ok-run.ensures))

made_of : {E : Type 0} (r : Result TapeValue E) (blocks : List BlockValue) (start : ℕ) (tape : TapeValue) → IfOk r (λ t. t ≡ record { blocks = blocks; start = start }) → r ≡ Ok tape
    → ◌≡◌ {A = TapeValue} tape (record { blocks = blocks; start = start })
made_of r blocks start tape made is = subst (λ x. IfOk x (λ t. t ≡ record { blocks = blocks; start = start })) is made

pub unwrap-requires : goal.unwrap-requires
unwrap-requires c =
    never_refused c.new.result c.loop-first.blocks.items c.loop-first.invariant.each (few_enough c.args.bytes.now c.loop-first.at c.loop-first.blocks.items c.requires c.loop-first.invariant) c.new.ensures.refused

pub returns : goal.returns
returns c =
    let bytes = c.args.bytes.now in
    let blocks = c.loop-first.blocks.items in
    subst (IsTapeOf (byte_on bytes) c.args.start) (sym (made_of c.new.result blocks c.args.start c.unwrap.result c.new.ensures.made c.unwrap.ensures))
    (record {
      bytes = all_bytes bytes c.loop-first.at blocks c.loop-first.invariant (λ a high. c.in_default.ensures.none a high);
      short = c.loop-first.invariant.short;
      rising = c.loop-first.invariant.rising;
      start_is = refl;
    })
