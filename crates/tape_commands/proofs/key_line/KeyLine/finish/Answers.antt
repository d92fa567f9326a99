use Rattle.std.proofs.Common.{rules, ◌≡◌, ◌++◌, ◌∷◌, [], codes, length, ap, sym, ◌∙◌, subst}
use Rattle.std.specs.Io.KnownBytes.{Appends}
use Rattle.std.proofs.KnownBytes.{Appends-nil}
use Rattle.tape_commands.specs.KeyLines.{Holds, last_line}
use Rattle.byte_io.proofs.Fronts.{front_prefix}
use Rattle.tape_commands.proofs.KeyTexts.{none_held, none_of_line, some_of_line}
use Rattle.tape_commands.proofs.key_line.KeyLine.finish.Goals as goal

pub returns-then-is_empty-clause-ok : goal.returns-then-is_empty-clause-ok
returns-then-is_empty-clause-ok g c held holds =
    let empty : length c.args.self.now.keys.items ≡ 0 = search rules in
    let none = none_held held (sym (ap length holds.keys) ∙ empty) in (
      subst (λ h. Appends (g.W.Write.contents c.args.out.now) (g.W.Write.contents c.args.out.now) (last_line h)) (sym none) (Appends-nil (g.W.Write.contents c.args.out.now)),
      subst (λ h. Holds h (record { keys = c.args.self.now.keys; answers = c.args.self.now.answers })) none holds,
    )

pub returns-in_err-end_line-clause-front : goal.returns-in_err-end_line-clause-front
returns-in_err-end_line-clause-front g c = none_of_line _ c.args.self.now (g.W.Write.contents c.args.out.now)

pub returns-in_err-write_whole-clause-front : goal.returns-in_err-write_whole-clause-front
returns-in_err-write_whole-clause-front g c =
    let some : length c.args.self.now.keys.items ≡ 0 → ⊥ = search rules in
    some_of_line _ c.args.self.now c.end_line.new.keys.items _ (g.W.Write.contents c.args.out.now) (g.W.Write.contents c.write_whole.new.out) some c.deref-2.ensures.value
    (c.in_ok-end_line.ensures ∙ ap (λ answers. (c.args.self.now.keys.items ++ codes " -> " ++ answers) ++ 10 ∷ []) c.deref.ensures.value)
    (front_prefix _ _ _ c.in_err-write_whole.ensures.err)

pub returns-clause-ok : goal.returns-clause-ok
returns-clause-ok g c = search rules
