-- A console's style: where consoles differ (this project's choice).
use Rattle.std.specs.Prelude.{ℕ, ◌+◌, if◌then◌else◌, false}
use Rattle.odt_machine.specs.declared.style.Style.{Style}

-- a style's number: 1 for a space before the digits, plus 2 for two returns, plus 4 for the echo
-- of an illegal key (this project's choice)
abbrev pub style_number : Style → ℕ
style_number s = (if s.space_before then 1 else 0) + (if s.two_returns then 2 else 0) + (if s.echo_illegal then 4 else 0)

-- the largest number of a style: that with all three
abbrev pub largest_style : ℕ
largest_style = 7

-- the style of number 0
abbrev pub plain_style : Style
plain_style = record { space_before = false; two_returns = false; echo_illegal = false }
