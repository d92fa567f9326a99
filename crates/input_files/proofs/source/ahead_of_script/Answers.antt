use Rattle.std.proofs.Common.{arith}
use Rattle.std.proofs.lemmas.Bool.{leb-true}
use Rattle.std.specs.Io.Buffered.{reader_remaining}
use Rattle.input_files.proofs.Left.{ahead_of, kept_same}
use Rattle.input_files.proofs.source.ahead_of_script.Goals as goal

pub returns-in-Ok : goal.returns-in-Ok
returns-in-Ok g c =
    let taken = c.in-Ok.ensures.ok in
    ahead_of (reader_remaining g.F.Read.remaining) _ c.read_up_to.new.input c.of.result.value c.in-Ok.text.items c.from_vec.result.items _ c.of.ensures c.from_vec.ensures.items
    (taken.consumed, λ is. taken.to_end (omega (arith, leb-true _ _ is, c.len.ensures)))

pub returns-in-Err-Read : goal.returns-in-Err-Read
returns-in-Err-Read g c = kept_same _ _ c.failing-failing.ensures
