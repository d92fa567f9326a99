-- What is told of the console that a name stands for, and of an output.
use Rattle.std.proofs.Common.{◌≡◌, subst}
use Rattle.console_lines.specs.Console.{ConsoleTold}
use Rattle.input_files.specs.Inputs.{Known}

-- what is so where the output held this is so where it held that
pub at_output : {out out' : Known} → out ≡ out' → (before after : ConsoleTold) → (P : ConsoleTold → ConsoleTold → Type 0)
    → P (record before { out = out }) after → P (record before { out = out' }) after
at_output same before after P h = subst (λ o. P (record before { out = o }) after) same h
