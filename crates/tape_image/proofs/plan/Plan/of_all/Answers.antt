use Rattle.std.proofs.Common.{◌≡◌, sym, ap, subst, ◌∙◌, take, arith}
use Rattle.std.specs.Prelude.{All}
use Rattle.std.proofs.lemmas.List.{take_all}
use Rattle.std.proofs.lemmas.List.Elements.{All-more}
use Rattle.tape_values.specs.Tape.{IsSound}
use Rattle.tape_image.specs.Image.{image_of, byte_at, IsImageOf}
use Rattle.tape_image.specs.Pages.{IsLaid}
use Rattle.tape_image.specs.Plan.{PlanValue, IsPlan, program_start, blocks_of_all, start_of_all, plan_of_all}
use Rattle.tape_image.proofs.Plans.{IsPlan-of_blocks, laid-image_of, plan_with-same}
use Rattle.tape_image.proofs.Images.{get-image_of}
use Rattle.tape_image.proofs.Tapes.{start_of_all-next, IsLaid-tape, each_block, each_byte, start_of_all-even, plan_of_all-one, plan_of_all-none}
use Rattle.tape_image.proofs.plan.Plan.of_all.Goals as goal

pub loop-tape-preserved : goal.loop-tape-preserved
loop-tape-preserved c =
    let i = c.loop-tape.tape-index in
    let tape = c.tape-item.result in
    record {
      laid = IsLaid-tape c.args.tapes.now i tape c.in_ok-pages.pages c.loop-tape.pages c.lay_blocks.new.self c.loop-tape-test.true c.tape-item.is c.loop-tape.invariant.laid
          (subst (λ blocks. IsLaid (byte_at blocks) c.loop-tape.pages c.lay_blocks.new.self) c.blocks-in-loop-tape.ensures.value c.in_ok-lay_blocks.ensures);
      start = c.program_start-start.ensures ∙ ap program_start c.start.ensures.value ∙ start_of_all-next c.args.tapes.now i tape c.loop-tape-test.true c.tape-item.is;
      sound = All-more IsSound c.args.tapes.now i tape c.loop-tape-test.true c.loop-tape.invariant.sound (subst IsSound c.tape-item.is c.start.ensures.sound);
    }

all : (c : goal.After-loop-tape) → take c.loop-tape.tape-index c.args.tapes.now ≡ c.args.tapes.now
all c = take_all c.loop-tape.tape-index c.args.tapes.now (omega arith)

sound : (c : goal.After-loop-tape) → All IsSound c.args.tapes.now
sound c = subst (All IsSound) (all c) c.loop-tape.invariant.sound

image_is : (c : goal.After-loop-tape) → c.loop-tape.pages ≡ image_of (blocks_of_all c.args.tapes.now)
image_is c =
    laid-image_of (blocks_of_all c.args.tapes.now) c.in_ok-pages.pages c.loop-tape.pages (each_block c.args.tapes.now (sound c)) c.in_ok-pages.ensures
    (subst (λ tapes. IsLaid (byte_at (blocks_of_all tapes)) c.in_ok-pages.pages c.loop-tape.pages) (all c) c.loop-tape.invariant.laid)

start_is : (c : goal.After-loop-tape) → c.loop-tape.start ≡ start_of_all c.args.tapes.now
start_is c = c.loop-tape.invariant.start ∙ ap start_of_all (all c)

pub of_pages-requires : goal.of_pages-requires
of_pages-requires c =
    let tapes = c.args.tapes.now in
    subst IsPlan (plan_with-same _ _ _ _ (sym (image_is c)) (sym (start_is c)))
    (IsPlan-of_blocks (blocks_of_all tapes) (start_of_all tapes) (each_block tapes (sound c)) (each_byte tapes (sound c)) (start_of_all-even tapes (sound c)))

pub returns-clause-plan : goal.returns-clause-plan
returns-clause-plan c = c.in_ok-of_pages.ensures.plan ∙ plan_with-same _ _ _ _ (image_is c.before.before.before) (start_is c.before.before.before)

pub returns-clause-bytes : goal.returns-clause-bytes
returns-clause-bytes c =
    let blocks = blocks_of_all c.args.tapes.now in
    subst (λ (p : PlanValue). IsImageOf blocks p.image) (sym (returns-clause-plan c)) (get-image_of blocks (each_block _ (sound c.before.before.before)))

pub returns-clause-none : goal.returns-clause-none
returns-clause-none c none = returns-clause-plan c ∙ ap plan_of_all none ∙ plan_of_all-none

pub returns-clause-one : goal.returns-clause-one
returns-clause-one c tape one = returns-clause-plan c ∙ ap plan_of_all one ∙ plan_of_all-one tape
