use Rattle.tape_commands.proofs.Reports.{on_ok, number_name, typing_name}
use Rattle.tape_commands.proofs.report.put_mode_name.Goals as goal

pub returns-in_ok-put_named-in-Number : goal.returns-in_ok-put_named-in-Number
returns-in_ok-put_named-in-Number c =
    rw c.in-Number.is (on_ok _ _ _ c.put_digits.ensures (number_name _ _ _ c.in-Number.value c.in-Number.digits c.in_ok-put_named-in-Number.ensures))

pub returns-in_ok-put_named-in-Typing-2 : goal.returns-in_ok-put_named-in-Typing-2
returns-in_ok-put_named-in-Typing-2 c =
    rw c.in-Typing.is (on_ok _ _ _ c.put_digits-in-Typing.ensures
    (typing_name _ _ _ _ c.in-Typing.address c.in-Typing.value c.in-Typing.digits c.in_ok-put_named-in-Typing.ensures c.in_ok-put_named-in-Typing-2.ensures))
