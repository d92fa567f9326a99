use Rattle.tape_blocks.proofs.Readings.{one_answer}
use Rattle.tape_blocks.proofs.Totality.{each_says}
use Rattle.tape_blocks.proofs.law.one_reading.Goals as goal

pub returns : goal.returns
returns c = λ input bytes.
    let s = each_says input bytes in
    (s.answer, s.so, λ other h. one_answer input other s.answer h s.so)
