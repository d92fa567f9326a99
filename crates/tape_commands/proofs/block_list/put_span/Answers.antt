use Rattle.std.proofs.Common.{ℕ, Option, ◌++◌, ap, sym, ◌∙◌}
use Rattle.std.proofs.lemmas.Result.{on_ok_weaker}
use Rattle.byte_io.specs.Text.{line}
use Rattle.tape_commands.specs.BlockList.{span_text}
use Rattle.tape_commands.proofs.block_list.put_span.Goals as goal

pub returns-in-Some : goal.returns-in-Some
returns-in-Some c =
    on_ok_weaker c.put_range.result
    (λ put. put ∙ ap (λ (s : Option (ℕ × ℕ)). c.args.list.now.items ++ line (span_text s)) (sym c.in-Some.is)) c.put_range.ensures
