-- How far the stubs of a load have come.
use Rattle.std.specs.Prelude.{◌≡◌, ℕ, zero, suc, ◌+◌, ◌<◌, ◌⊎◌, ◌==◌, if◌then◌else◌}
use Rattle.exchange_core.specs.declared.duplex.Duplex.{Duplex}
use Rattle.exchange_core.specs.declared.duplex.Duplex.TheVariants.{Full, Half}
use Rattle.stub_engine.specs.declared.tally.Tally.{Tally}

-- before the first stub
abbrev pub begun : ℕ → Tally
begun verified = record { verified = verified; sent = 0; spent = 0; in_vain = 0 }

-- with characters and mishaps more
abbrev pub with_counts : Tally → ℕ → ℕ → Tally
with_counts tally sent spent = record tally { sent = tally.sent + sent; spent = tally.spent + spent }

-- with a stub behind which so many words are verified
abbrev pub with_words : Tally → ℕ → Tally
with_words tally verified = record tally { verified = verified; in_vain = if verified == tally.verified then tally.in_vain + 1 else 0 }

-- whether the host sends while a stub answers: it does, but behind a stub that verified nothing
abbrev pub duplex_behind : ℕ → Duplex
duplex_behind zero = Full
duplex_behind (suc in_vain) = Half

-- behind one stub more: it verified nothing, or some words, and then none is in vain
abbrev pub IsOneMore : Tally → Tally → Type 0
IsOneMore old new = ((new.verified ≡ old.verified) × (new.in_vain ≡ old.in_vain + 1)) ⊎ ((old.verified < new.verified) × (new.in_vain ≡ 0))
