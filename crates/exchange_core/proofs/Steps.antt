-- Each step keeps what every exchange is.
use Rattle.std.proofs.Common.{◌≡◌, ℕ, suc, ◌+◌, ◌*◌, ◌^◌, ◌<◌, ◌≤◌, Bool, true, false, ltb, List, length, refl, arith, ap}
use Rattle.std.proofs.lemmas.Bool.Decides.{nat_tests}
use Rattle.std.proofs.lemmas.Bool.{eqb-true}
use Rattle.std.specs.Prelude.{◌==◌, if◌then◌else◌, nat_lt}
use Rattle.tape_image.specs.Image.{Image}
use Rattle.tape_image.specs.Plan.{PlanValue}
use Rattle.host_core.specs.declared.heard.Heard.{Heard}
use Rattle.host_core.specs.declared.heard.Heard.TheVariants.{Got, Quiet}
use Rattle.exchange_core.specs.declared.chunk.Chunk.{Chunk}
use Rattle.exchange_core.specs.declared.exchange.Exchange.{Exchange}
use Rattle.exchange_core.specs.declared.phase.Phase.{Phase}
use Rattle.exchange_core.specs.declared.phase.Phase.TheVariants.{Settle, Answer, Leave, Ended}
use Rattle.exchange_core.specs.declared.phase.End.TheVariants.{Complete, Broken}
use Rattle.exchange_core.specs.declared.turn.Turn.{Turn}
use Rattle.exchange_core.specs.declared.turn.Turn.TheVariants.{Listen, More, Next, Verified, Stop}
use Rattle.exchange_core.specs.Chunk.{AreChunks, chunk_nr, answer_at, sent_at, words_behind}
use Rattle.exchange_core.specs.Exchange.{EndsAnswer, IsExchange, PhaseFits, ExchangeStep, advance, exchange_bound, listens, next_chunk, taken, turn_of, used_in, with_chunk}
use Rattle.exchange_core.proofs.Chunks.{chunks_few}
use Rattle.exchange_core.proofs.Keys.{sent_rises, sent_within}

-- there is a chunk, and each has one to 64 bytes
pub record AreSmall (chunks : List Chunk) : Type 0 where
  pub some : 0 < length chunks
  pub each : (k : ℕ) → k < length chunks → (1 ≤ (chunk_nr chunks k).size) × ((chunk_nr chunks k).size ≤ 64)

pub are_small : (plan : PlanValue) (from : ℕ) (chunks : List Chunk) → AreChunks plan from chunks → AreSmall chunks
are_small plan from chunks are = record { some = are.some; each = λ k below. let chunk = are.each k below in (chunk.some, chunk.few) }

-- the counts of an exchange are far from their limits
pub counts_fit : (plan : PlanValue) (chunks : List Chunk) (e : Exchange) → AreChunks plan e.from chunks → IsExchange chunks e → (e.done < 2 ^ 31) × (e.sent < 2 ^ 31)
counts_fit plan chunks e are k = by e.phase k.fits k.paid
  where
    by : (phase : Phase) → PhaseFits chunks e.done phase → e.sent ≤ 128 * e.done + used_in e.duplex (chunk_nr chunks e.done) phase → (e.done < 2 ^ 31) × (e.sent < 2 ^ 31)
    by phase fits paid = let few = chunks_few plan e.from chunks are in let within = k.within in let most = used_most phase fits in (omega (arith, few, within), omega (arith, few, within, paid, most))
      where
        used_most : (phase : Phase) → PhaseFits chunks e.done phase → used_in e.duplex (chunk_nr chunks e.done) phase ≤ 129
        used_most Settle fits = omega arith
        used_most (Answer place) fits = let here = (are.each e.done fits.0).few in let all = sent_within e.duplex (chunk_nr chunks e.done) place in omega (arith, here, all)
        used_most Leave fits = omega arith
        used_most (Ended Complete) fits = omega arith
        used_most (Ended Broken) fits = omega arith

-- what was sent is never more than the bound
pub bound_kept : (chunks : List Chunk) (e : Exchange) → AreSmall chunks → IsExchange chunks e → e.sent ≤ exchange_bound (length chunks)
bound_kept chunks e small k = by e.phase k.fits k.paid
  where
    by : (phase : Phase) → PhaseFits chunks e.done phase → e.sent ≤ 128 * e.done + used_in e.duplex (chunk_nr chunks e.done) phase → e.sent ≤ exchange_bound (length chunks)
    by Settle fits paid = omega (arith, fits, paid)
    by (Answer place) fits paid = let less = fits.0 in let here = (small.each e.done less).1 in let all = sent_within e.duplex (chunk_nr chunks e.done) place in omega (arith, less, paid, here, all)
    by Leave fits paid = omega (arith, fits, paid)
    by (Ended Complete) fits paid = omega (arith, fits, paid)
    by (Ended Broken) fits paid = omega (arith, fits, paid)

-- a test over steps
pub on_step : (P : ExchangeStep → Type 0) (test : Bool) (one other : ExchangeStep) → (test ≡ true → P one) → (test ≡ false → P other) → P (if test then one else other)
on_step P true one other h k = h refl
on_step P false one other h k = k refl

pub on_turn : (P : Turn → Type 0) (test : Bool) (one other : Turn) → (test ≡ true → P one) → (test ≡ false → P other) → P (if test then one else other)
on_turn P true one other h k = h refl
on_turn P false one other h k = k refl

pub below : (a b : ℕ) → ltb a b ≡ true → a < b
below a b e = grind (arith, nat_tests)

pub not_below : (a b : ℕ) → ltb a b ≡ false → b ≤ a
not_below a b e = grind (arith, nat_tests)

-- what is left of an exchange before the next chunk is sent
next_kept : (image : Image) (chunks : List Chunk) (e : Exchange) → AreSmall chunks → e.done ≤ length chunks → e.verified ≡ words_behind e.from chunks e.done → e.sent ≤ 128 * e.done →
    IsExchange chunks (next_chunk image chunks e).next
next_kept image chunks e small within words paid =
    on_step (λ s. IsExchange chunks s.next) (ltb e.done (length chunks)) _ (listens e (Ended Complete))
    (λ less. let here = small.each e.done (below e.done (length chunks) less) in
    record { within = within; words = words; fits = (below e.done (length chunks) less, omega (arith, here.0)); paid = omega (arith, paid) })
    (λ more. record { within = within; words = words; fits = omega (arith, within, not_below e.done (length chunks) more); paid = omega (arith, paid) })

-- the turns that the table gives, for an exchange in a phase
abbrev TurnFits : List Chunk → Exchange → Turn → Type 0
TurnFits chunks e (Listen (Answer place)) = ⊥
TurnFits chunks e (More place) = (e.done < length chunks) × (place + 1 < 2 * (chunk_nr chunks e.done).size) × (e.sent ≤ 128 * e.done + sent_at e.duplex (chunk_nr chunks e.done) place)
TurnFits chunks e (Listen Settle) = (e.done ≡ 0) × (e.sent ≤ 128 * e.done)
TurnFits chunks e (Listen Leave) = (e.done < length chunks) × (e.sent ≤ 128 * e.done + 128)
TurnFits chunks e (Listen (Ended Complete)) = (e.done ≡ length chunks) × (e.sent ≤ 128 * e.done)
TurnFits chunks e (Listen (Ended Broken)) = (e.done < length chunks) × (e.sent ≤ 128 * e.done + 129)
TurnFits chunks e Next = e.sent ≤ 128 * e.done
TurnFits chunks e Verified = (e.done < length chunks) × (e.sent ≤ 128 * e.done + 128)
TurnFits chunks e Stop = (e.done < length chunks) × (e.sent ≤ 128 * e.done + 128)

taken_kept : (image : Image) (chunks : List Chunk) (e : Exchange) (turn : Turn) → AreSmall chunks → e.done ≤ length chunks → e.verified ≡ words_behind e.from chunks e.done → TurnFits chunks e turn →
    IsExchange chunks (taken image chunks e turn).next
taken_kept image chunks e (Listen Settle) small within words fits = record { within = within; words = words; fits = fits.0; paid = omega (arith, fits.1) }
taken_kept image chunks e (Listen (Answer place)) small within words fits = absurd fits
taken_kept image chunks e (More place) small within words fits =
    let rises = sent_rises e.duplex (chunk_nr chunks e.done) place in
    record { within = within; words = words; fits = (fits.0, fits.1); paid = omega (arith, fits.2, rises) }
taken_kept image chunks e (Listen Leave) small within words fits = record { within = within; words = words; fits = fits.0; paid = fits.1 }
taken_kept image chunks e (Listen (Ended Complete)) small within words fits = record { within = within; words = words; fits = fits.0; paid = omega (arith, fits.1) }
taken_kept image chunks e (Listen (Ended Broken)) small within words fits = record { within = within; words = words; fits = fits.0; paid = fits.1 }
taken_kept image chunks e Next small within words fits = next_kept image chunks e small within words fits
taken_kept image chunks e Verified small within words fits =
    next_kept image chunks (with_chunk chunks e) small (omega (arith, fits.0)) (words_more e.from chunks e.done) (omega (arith, fits.1))
  where
    words_more : (from : ℕ) (chunks : List Chunk) (done : ℕ) → (chunk_nr chunks done).until ≡ words_behind from chunks (done + 1)
    words_more from chunks done = let one : suc done ≡ done + 1 = omega arith in ap (words_behind from chunks) one
taken_kept image chunks e Stop small within words fits = record { within = within; words = words; fits = fits.0; paid = omega (arith, fits.1) }

turn_fits : (image : Image) (chunks : List Chunk) (e : Exchange) (small : AreSmall chunks) (heard : Heard) (phase : Phase) → 0 < length chunks → e.phase ≡ phase → IsExchange chunks (record e { phase = phase }) → TurnFits chunks e (turn_of image chunks (record e { phase = phase }) heard)
turn_fits image chunks e small (Got c) Settle some is k = let none = k.fits in (omega (arith, some, none), omega (arith, k.paid))
turn_fits image chunks e small Quiet Settle some is k = omega (arith, k.paid)
turn_fits image chunks e small (Got c) (Answer place) some is k =
    on_turn (TurnFits chunks e) (c == answer_at image (chunk_nr chunks e.done) place) _ (Listen Leave)
    (λ same. on_turn (TurnFits chunks e) (ltb (place + 1) (2 * (chunk_nr chunks e.done).size)) (More place) Verified
    (λ more. (k.fits.0, below (place + 1) (2 * (chunk_nr chunks e.done).size) more, k.paid))
    (λ last. (k.fits.0, all_sent k.fits.0 k.paid)))
    (λ other. (k.fits.0, all_sent k.fits.0 k.paid))
  where
    all_sent : e.done < length chunks → e.sent ≤ 128 * e.done + sent_at e.duplex (chunk_nr chunks e.done) place → e.sent ≤ 128 * e.done + 128
    all_sent less paid = let here = (small.each e.done less).1 in let all = sent_within e.duplex (chunk_nr chunks e.done) place in omega (arith, paid, here, all)
turn_fits image chunks e small Quiet (Answer place) some is k = (k.fits.0, (let paid = k.paid in let here = (small.each e.done k.fits.0).1 in let all = sent_within e.duplex (chunk_nr chunks e.done) place in omega (arith, paid, here, all)))
turn_fits image chunks e small (Got c) Leave some is k = (k.fits, k.paid)
turn_fits image chunks e small Quiet Leave some is k = (k.fits, k.paid)
turn_fits image chunks e small (Got c) (Ended Complete) some is k = (k.fits, omega (arith, k.paid))
turn_fits image chunks e small Quiet (Ended Complete) some is k = (k.fits, omega (arith, k.paid))
turn_fits image chunks e small (Got c) (Ended Broken) some is k = (k.fits, k.paid)
turn_fits image chunks e small Quiet (Ended Broken) some is k = (k.fits, k.paid)

pub step_kept : (image : Image) (chunks : List Chunk) (e : Exchange) (heard : Heard) → AreSmall chunks → IsExchange chunks e → IsExchange chunks (advance image chunks e heard).next
step_kept image chunks e heard small k = taken_kept image chunks e (turn_of image chunks e heard) small k.within k.words (turn_fits image chunks e small heard e.phase small.some refl k)

-- ---- where it began

next_from : (image : Image) (chunks : List Chunk) (e : Exchange) → (next_chunk image chunks e).next.from ≡ e.from
next_from image chunks e = on_step (λ s. s.next.from ≡ e.from) (ltb e.done (length chunks)) _ (listens e (Ended Complete)) (λ less. refl) (λ over. refl)

taken_from : (image : Image) (chunks : List Chunk) (e : Exchange) (turn : Turn) → (taken image chunks e turn).next.from ≡ e.from
taken_from image chunks e (Listen phase) = refl
taken_from image chunks e (More place) = refl
taken_from image chunks e Next = next_from image chunks e
taken_from image chunks e Verified = next_from image chunks (with_chunk chunks e)
taken_from image chunks e Stop = refl

pub step_from : (image : Image) (chunks : List Chunk) (e : Exchange) (heard : Heard) → (advance image chunks e heard).next.from ≡ e.from
step_from image chunks e heard = taken_from image chunks e (turn_of image chunks e heard)

-- ---- no word is lost

next_verified : (image : Image) (chunks : List Chunk) (e : Exchange) → (next_chunk image chunks e).next.verified ≡ e.verified
next_verified image chunks e = on_step (λ s. s.next.verified ≡ e.verified) (ltb e.done (length chunks)) _ (listens e (Ended Complete)) (λ less. refl) (λ over. refl)

pub step_grows : (plan : PlanValue) (chunks : List Chunk) (e : Exchange) (heard : Heard) → AreChunks plan e.from chunks → IsExchange chunks e → e.verified ≤ (advance plan.image chunks e heard).next.verified
step_grows plan chunks e heard are k = by (turn_of plan.image chunks e heard) (turn_fits plan.image chunks e (are_small plan e.from chunks are) heard e.phase are.some refl k)
  where
    by : (turn : Turn) → TurnFits chunks e turn → e.verified ≤ (taken plan.image chunks e turn).next.verified
    by (Listen phase) fits = omega arith
    by (More place) fits = omega arith
    by Next fits = let same = next_verified plan.image chunks e in omega (arith, same)
    by Verified fits = let same = next_verified plan.image chunks (with_chunk chunks e) in let more = are.rising e.done fits.0 in let words = k.words in omega (arith, same, more, words)
    by Stop fits = omega arith

-- ---- words are verified by the last character of an answer

-- more words are verified only so
abbrev pub RisesByAnswer : Image → List Chunk → Exchange → Heard → Exchange → Type 0
RisesByAnswer image chunks e heard e' = e.verified < e'.verified → EndsAnswer image (chunk_nr chunks e.done) e.phase heard

-- a turn that verifies comes of it
turn_rises : (image : Image) (chunks : List Chunk) (e : Exchange) (heard : Heard) (phase : Phase) → e.phase ≡ phase → PhaseFits chunks e.done phase →
    RisesByAnswer image chunks e heard (taken image chunks e (turn_of image chunks (record e { phase = phase }) heard)).next
turn_rises image chunks e (Got c) Settle is fits more = absurd (omega (arith, more))
turn_rises image chunks e Quiet Settle is fits more = let same = next_verified image chunks e in absurd (omega (arith, more, same))
turn_rises image chunks e (Got c) (Answer place) is fits more =
    tested (c == answer_at image (chunk_nr chunks e.done) place) refl more
  where
    answered : (test : Bool) → (nat_lt (place + 1) (2 * (chunk_nr chunks e.done).size)) ≡ test → c ≡ answer_at image (chunk_nr chunks e.done) place →
        RisesByAnswer image chunks e (Got c) (taken image chunks e (if test then More place else Verified)).next
    answered true more same grows = absurd (omega (arith, grows))
    answered false last same grows =
        let over = not_below (place + 1) (2 * (chunk_nr chunks e.done).size) last in
        let inside = fits.1 in
        (place, is, omega (arith, over, inside), ap Got same)

    tested : (test : Bool) → (c == answer_at image (chunk_nr chunks e.done) place) ≡ test →
        RisesByAnswer image chunks e (Got c) (taken image chunks e (if test then (if nat_lt (place + 1) (2 * (chunk_nr chunks e.done).size) then More place else Verified) else Listen Leave)).next
    tested true same grows = answered (nat_lt (place + 1) (2 * (chunk_nr chunks e.done).size)) refl (eqb-true c (answer_at image (chunk_nr chunks e.done) place) same) grows
    tested false other grows = absurd (omega (arith, grows))
turn_rises image chunks e Quiet (Answer place) is fits more = absurd (omega (arith, more))
turn_rises image chunks e (Got c) Leave is fits more = absurd (omega (arith, more))
turn_rises image chunks e Quiet Leave is fits more = absurd (omega (arith, more))
turn_rises image chunks e (Got c) (Ended end) is fits more = absurd (omega (arith, more))
turn_rises image chunks e Quiet (Ended end) is fits more = absurd (omega (arith, more))

pub step_rises : (image : Image) (chunks : List Chunk) (e : Exchange) (heard : Heard) → IsExchange chunks e → RisesByAnswer image chunks e heard (advance image chunks e heard).next
step_rises image chunks e heard k = turn_rises image chunks e heard e.phase refl k.fits
