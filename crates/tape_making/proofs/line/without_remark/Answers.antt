use Rattle.std.proofs.Common.{length, take, ap, sym, ◌∙◌}
use Rattle.std.specs.List.{position_or_len}
use Rattle.std.proofs.lemmas.List.{take_all}
use Rattle.tape_making.specs.Words.{is_remark}
use Rattle.tape_making.proofs.Numbers.{found_at, found_nowhere}
use Rattle.tape_making.proofs.line.without_remark.Goals as goal

pub returns-in-Some : goal.returns-in-Some
returns-in-Some c =
    let line = c.args.line.now in
    sym (ap (λ n. take n line) (found_at (position_or_len is_remark line) (length line) c.in-Some.end (sym c.remark_place.ensures ∙ c.in-Some.is)).1)

pub returns-in-None : goal.returns-in-None
returns-in-None c =
    let line = c.args.line.now in
    sym (take_all (position_or_len is_remark line) line (found_nowhere (position_or_len is_remark line) (length line) (sym c.remark_place.ensures ∙ c.in-None.is)))
