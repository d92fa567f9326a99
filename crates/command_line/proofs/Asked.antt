-- A word among others that asks for help.
use Rattle.std.proofs.Common.{◌≡◌, ◌<◌, ℕ, zero, suc, true, List, [], ◌∷◌, length, map, get_or, inl, inr, arith}
use Rattle.clap.specs.Walk.{Text}
use Rattle.command_line.specs.Help.{AskForHelp, asks_for_help}

pub asked_at : {X : Type 0} (text : X → Text) (words : List X) (i : ℕ) (d : X) → i < length words → asks_for_help (text (get_or words i d)) ≡ true → AskForHelp (map text words)
asked_at text [] i d within asks = let no : ⊥ = omega (arith, within) in absurd no
asked_at text (word ∷ words) zero d within asks = inl asks
asked_at text (word ∷ words) (suc i) d within asks = inr (asked_at text words i d (omega (arith, within)) asks)
