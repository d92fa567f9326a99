-- The words so far are written, and their run line stands open.
use Rattle.std.proofs.Common.{◌≡◌, take, None}
use Rattle.std.specs.Io.KnownBytes.{Appends}
use Rattle.load_record.specs.declared.version.Version.TheVariants.{Second}
use Rattle.load_record.specs.RecordText.{pieces, run_over}
use Rattle.load_record.proofs.output.write_words.Given as goal

abbrev pub invariant-loop-word : goal.invariant-loop-word
invariant-loop-word g l =
    (l.run ≡ run_over Second None (take l.word-index l.words))
    × Appends (g.W.Write.contents l.fn.out) (g.W.Write.contents l.out) (pieces Second None (take l.word-index l.words))
