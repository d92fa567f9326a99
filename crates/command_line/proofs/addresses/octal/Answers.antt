use Rattle.std.proofs.Common.{rules, arith, ℕ, ◌≡◌, ◌≤◌, ◌-◌, ◌++◌, length, replicate, ap, ◌∙◌}
use borrow.Rule.Slice.PartMut.{put_mid}
use Rattle.command_line.proofs.Filled.{filled, read_whole}
use Rattle.command_line.proofs.addresses.octal.Goals as goal

pub returns : goal.returns
returns c =
    let missing = c.in_ok-missing.missing in
    let text = c.args.text.now in
    let copied : c.copy_from_slice.new.self ≡ text = search rules in
    let count : missing ≡ 6 - length text = search rules in
    let within : missing ≤ 6 = omega (arith, count) in
    let some : 1 ≤ length text = search rules in
    read_whole c.read_oct6.result _ text c.read_oct6.ensures.exact
    (ap (put_mid missing (6 - missing) (replicate {A = ℕ} 6 48)) copied ∙ filled missing text within ∙ ap (λ (zeros : ℕ). replicate {A = ℕ} zeros 48 ++ text) count)
    some
