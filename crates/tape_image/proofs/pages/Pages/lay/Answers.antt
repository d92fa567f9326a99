use Rattle.std.proofs.Common.{◌≡◌, ◌*◌, ◌/◌, ◌-◌, take, arith, subst}
use Rattle.std.proofs.lemmas.List.{take_all}
use Rattle.tape_values.specs.Block.{block_at}
use Rattle.tape_image.specs.Image.{byte_in}
use Rattle.tape_image.specs.Pages.{IsLaid}
use Rattle.tape_image.proofs.Laying.{IsLaid-none, IsLaid-page, byte_in-nothing}
use Rattle.tape_image.proofs.pages.Pages.lay.Goals as goal

pub loop-number-init : goal.loop-number-init
loop-number-init c =
    let k = 512 * (c.args.address / 512) - c.args.address in
    IsLaid-none c.args.self.now (byte_in (block_at c.args.address (take k c.args.bytes.now))) (byte_in-nothing c.args.address k c.args.bytes.now (omega arith))

pub loop-number-preserved : goal.loop-number-preserved
loop-number-preserved c =
    IsLaid-page c.args.address c.args.bytes.now c.loop-number.number c.max-first.result c.min-last.result c.args.self.now c.loop-number.self c.lay_run.new.self
    c.max-first.ensures c.min-last.ensures (omega arith) (omega arith) c.loop-number.invariant c.in_ok-lay_run.ensures

pub returns : goal.returns
returns c =
    let all : take (512 * c.loop-number.number - c.args.address) c.args.bytes.now ≡ c.args.bytes.now = take_all (512 * c.loop-number.number - c.args.address) c.args.bytes.now (omega arith) in
    subst (λ xs. IsLaid (byte_in (block_at c.args.address xs)) c.args.self.now c.loop-number.self) all c.loop-number.invariant
