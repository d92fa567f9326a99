-- A timeout keeps the invariant.
use Rattle.std.proofs.Common.{◌≡◌, ℕ, zero, suc, ◌-◌, ◌<◌, Bool, true, false, eqb, List, [], ◌∷◌, inl, inr, refl, arith, subst}
use Rattle.std.specs.Prelude.{if◌then◌else◌}
use Rattle.odt_machine.specs.declared.style.Style.{Style}
use Rattle.odt_machine.specs.declared.mode.Mode.{Mode}
use Rattle.odt_machine.specs.declared.mode.Mode.TheVariants.{Prompt, Number, Opened, Typing, Running}
use Rattle.odt_machine.specs.Machine.{Machine, is_word}
use Rattle.host_core.specs.declared.phase.Phase.{Phase}
use Rattle.host_core.specs.declared.phase.Phase.TheVariants.{Settle, Sync, Address, Slash, Before, Value, Deposit, Return, Start, Go, Ended}
use Rattle.host_core.specs.declared.heard.Heard.TheVariants.{Quiet}
use Rattle.host_core.specs.Core.{Core}
use Rattle.host_core.specs.Host.{IsHost, MarkFits, IsPastMark}
use Rattle.host_core.specs.PhaseTable.{move, waits}
use Rattle.line_world.proofs.Stepped.{stepped}
use Rattle.line_world.specs.Site.{Site, site, held_number, reading, refusal_from, prompt_from, last_digits}
use Rattle.line_world.specs.Scene.{Toll}
use Rattle.line_world.specs.Pending.{IsStopped, BrokenIsPaid, rest_of}
use Rattle.line_world.specs.Struck.{Attempt}
use Rattle.line_world.specs.Invariant.{IsKept, RunsWith}
use Rattle.line_world.proofs.Frame.{scene, TurnFits, PhaseHolds, kept_turn}

-- something is still to come
abbrev IsFilled : List ℕ → Type 0
IsFilled [] = ⊥
IsFilled (c ∷ rest) = Unit {0}

filled_if : (b : Bool) (xs ys : List ℕ) → IsFilled xs → IsFilled ys → IsFilled (if b then xs else ys)
filled_if true xs ys f g = f
filled_if false xs ys f g = g

filled_prompt : (two : Bool) (k : ℕ) → IsFilled (prompt_from two k)
filled_prompt two k = filled_if (eqb k 0) _ _ (filled_if two _ _ tt tt) (filled_if (eqb k 1) _ _ (filled_if two _ _ tt tt) (filled_if (eqb k 2) _ _ tt tt))

filled_refusal : (careful : Bool) (s : Style) (k : ℕ) → IsFilled (refusal_from careful s k)
filled_refusal careful s k = filled_if (eqb k 0) _ _ (filled_if s.echo_illegal _ _ tt tt) (filled_if (eqb k 1) _ _ tt (filled_prompt s.two_returns (k - 2)))

filled_digits : (w n : ℕ) → IsFilled (last_digits w n)
filled_digits w zero = tt
filled_digits w (suc n) = tt

filled_reading : (t : Site) → IsFilled (reading t)
filled_reading t = filled_if (is_word t.memory t.word.address) _ _ (filled_if t.style.space_before _ _ tt (filled_digits (held_number t) 6)) tt

-- where nothing is under way, a loss was there that no mishap has paid for
broken : (rest : List ℕ) (spent lost : ℕ) → IsFilled rest → BrokenIsPaid rest [] [] spent lost → spent < lost
broken [] spent lost filled paid = absurd filled
broken (c ∷ rest) spent lost filled (inl whole) = absurd (cc)
broken (c ∷ rest) spent lost filled (inr paid) = paid

stopped : (going : Bool) (mode : Mode) → RunsWith going mode → (going ≡ true → ⊥) → IsStopped mode
stopped going Prompt runs unmarked = tt
stopped going (Number v n) runs unmarked = tt
stopped going (Opened a) runs unmarked = tt
stopped going (Typing a v n) runs unmarked = tt
stopped going (Running p) runs unmarked = unmarked runs

pub past_mark : (core : Core) → MarkFits core.going core.plan.start core.phase → core.going ≡ true → IsPastMark core.phase
past_mark core mark going = (subst (λ b. MarkFits b core.plan.start core.phase) going mark).1

-- where nothing is under way in an attempt, a loss or a change was there that no mishap has paid for
due : (hurt : Bool) (phase : Phase) (t : Site) (mode : Mode) (spent lost : ℕ) → IsFilled (rest_of phase t) → Attempt hurt phase t mode [] [] spent lost → spent < lost
due false phase t mode spent lost filled h = broken (rest_of phase t) spent lost filled h.paid
due true phase t mode spent lost filled h = h.0

pub fits_silence : (m : Machine) (core : Core) (lost : Toll) (phase : Phase) → PhaseHolds phase m core [] [] lost → RunsWith core.going m.mode → (core.going ≡ true → IsPastMark phase) → TurnFits m core [] lost (waits core.careful phase)
fits_silence m core lost Settle h runs past = (refl, record { key = (refl, refl, stopped core.going m.mode runs past); rest = tt; paid = tt; facts = tt })
fits_silence m core lost (Sync k) h runs past = (refl, due lost.hurt (Sync k) _ m.mode core.spent lost.count (filled_refusal core.careful m.style k) h, stopped core.going m.mode runs past)
fits_silence m core lost (Address visit k) h runs past = (refl, due lost.hurt (Address visit k) _ m.mode core.spent lost.count (tt) h, stopped core.going m.mode runs past)
fits_silence m core lost (Slash visit) h runs past = (refl, due lost.hurt (Slash visit) _ m.mode core.spent lost.count (tt) h, stopped core.going m.mode runs past)
fits_silence m core lost (Before visit) h runs past = (refl, due lost.hurt (Before visit) _ m.mode core.spent lost.count (filled_reading (site (scene m core [] [] lost))) h, stopped core.going m.mode runs past)
fits_silence m core lost (Value visit v j) h runs past = (refl, due lost.hurt (Value visit v j) _ m.mode core.spent lost.count (filled_digits _ (6 - j)) h, stopped core.going m.mode runs past)
fits_silence m core lost (Deposit deposit x k) h runs past = (refl, due lost.hurt (Deposit deposit x k) _ m.mode core.spent lost.count (tt) h, stopped core.going m.mode runs past)
fits_silence m core lost (Return why k) h runs past = (refl, due lost.hurt (Return why k) _ m.mode core.spent lost.count (filled_prompt m.style.two_returns k) h, stopped core.going m.mode runs past)
fits_silence m core lost (Start k) h runs past = (refl, due lost.hurt (Start k) _ m.mode core.spent lost.count (tt) h, stopped core.going m.mode runs past)
fits_silence m core lost Go h runs past = due lost.hurt Go _ m.mode core.spent lost.count tt h
fits_silence m core lost (Ended end) h runs past = h

pub kept_silence : (m : Machine) (core : Core) (lost : Toll) → IsHost (move core Quiet).next → IsKept (scene m core [] [] lost) → IsKept (stepped (scene m core [] [] lost) [] (move core Quiet))
kept_silence m core lost host k = kept_turn m core [] [] lost (waits core.careful core.phase) k (omega arith) host (fits_silence m core lost core.phase k.phase k.running (past_mark core k.host.mark))
