-- Each heard thing, and what the host sends on it, keeps an exchange.
use Rattle.std.proofs.Common.{◌≡◌, ℕ, suc, ◌+◌, ◌-◌, ◌*◌, ◌/◌, ◌<◌, ◌≤◌, ◌⊎◌, Bool, true, false, ltb, List, [], ◌∷◌, ◌++◌, length, drop, inl, inr, refl, arith, ap, sym, subst, ◌∙◌, append-nil, length-append}
use Rattle.std.proofs.lemmas.Bool.{eqb-true}
use Rattle.std.proofs.lemmas.List.{drop_all}
use Rattle.std.specs.Prelude.{◌==◌, if◌then◌else◌}
use Rattle.tape_image.specs.Image.{Image}
use Rattle.tape_image.specs.Memory.{byte_of}
use Rattle.odt_machine.specs.Machine.{IsWide}
use Rattle.host_core.specs.declared.heard.Heard.{Heard}
use Rattle.host_core.specs.declared.heard.Heard.TheVariants.{Got, Quiet}
use Rattle.exchange_core.specs.declared.chunk.Chunk.{Chunk}
use Rattle.exchange_core.specs.declared.duplex.Duplex.{Duplex}
use Rattle.exchange_core.specs.declared.exchange.Exchange.{Exchange}
use Rattle.exchange_core.specs.declared.phase.Phase.{Phase}
use Rattle.exchange_core.specs.declared.phase.Phase.TheVariants.{Settle, Answer, Leave, Ended}
use Rattle.exchange_core.specs.declared.phase.End.TheVariants.{Complete, Broken}
use Rattle.exchange_core.specs.declared.turn.Turn.TheVariants.{Listen, More, Verified, Stop}
use Rattle.exchange_core.specs.Chunk.{IsChunk, answer_at, answer_for, chunk_keys, chunk_nr, is_nibble, keys_from, sent_at, told}
use Rattle.exchange_core.specs.Exchange.{IsExchange, PhaseFits, ExchangeStep, advance, listens, next_chunk, sends_on, taken, with_chunk}
use Rattle.exchange_core.proofs.Keys.{keys_length, sent_rises, sent_within}
use Rattle.exchange_core.proofs.Steps.{below, not_below, on_step, on_turn}
use Rattle.exchange_law.specs.Station.{Each, answer_from}
use Rattle.line_world.specs.Wire.{sent}
use Rattle.honest_line.specs.Moves.{Gives}
use Rattle.exchange_law.specs.Line.{Link}
use Rattle.exchange_law.specs.Law.{Holds, bytes_of}
use Rattle.exchange_law.proofs.Holding.{IsAnswered, one_more_holds}
use Rattle.exchange_law.proofs.Texts.{IsNibble, TextFits, answer_is_one, answer_more, answer_none, each_append, fits_none, fits_some, keys_are_nibbles, nibbles, one_if}
use Rattle.exchange_law.proofs.Standing.{Amid, Answers_are, Intact, IsParted, IsZ, Kept, Stood, amid_parted, left_at, left_first, left_last, left_next, no_first}

-- what is known of an exchange's chunks and image
pub record Known (image : Image) (chunks : List Chunk) : Type 0 where
  pub each : (k : ℕ) → k < length chunks → IsChunk image (chunk_nr chunks k)
  pub small : (a : ℕ) → told image a < 256

-- a step leads to an exchange that is kept
abbrev pub Goes : Image → List Chunk → List ℕ → ExchangeStep → Link → Type 0
Goes image chunks before s v = Kept s.next.duplex image chunks before s.next.done s.next.phase (sent v s.keys)

goes_listen : (image : Image) (chunks : List Chunk) (before : List ℕ) (e : Exchange) (phase : Phase) (v : Link) → Kept e.duplex image chunks before e.done phase v → Goes image chunks before (listens e phase) v
goes_listen image chunks before e phase v kept = subst (λ down. Kept e.duplex image chunks before e.done phase (record v { down = down })) (sym (append-nil v.down)) kept

-- ---- the next chunk is sent, or there is none

pub goes_next : (image : Image) (chunks : List Chunk) (before : List ℕ) (e : Exchange) (v : Link) → Known image chunks → e.done ≤ length chunks → Holds image chunks before e.done v.machine.odt.memory → IsWide v.machine.odt.memory →
    v.down ≡ [] → Stood (bytes_of (drop e.done chunks)) false v.machine → TextFits (bytes_of (drop e.done chunks)) v.up → Goes image chunks before (next_chunk image chunks e) v
goes_next image chunks before e v known within h wide none at fits =
    on_step (λ s. Goes image chunks before s v) (ltb e.done (length chunks)) _ (listens e (Ended Complete))
    (λ less. sends (below e.done (length chunks) less))
    (λ over. let all : drop e.done chunks ≡ [] = drop_all e.done chunks (not_below e.done (length chunks) over) in
    goes_listen image chunks before e (Ended Complete) v (record { holds = h; wide = wide; stands = (none, subst (λ (list : List Chunk). Stood (bytes_of list) false v.machine) all at) }))
  where
    sends : e.done < length chunks → Kept e.duplex image chunks before e.done (Answer 0) (sent v (chunk_keys image (chunk_nr chunks e.done) (sent_at e.duplex (chunk_nr chunks e.done) 0)))
    sends less =
        let c : Chunk = chunk_nr chunks e.done in
        let keys : List ℕ = chunk_keys image (chunk_nr chunks e.done) (sent_at e.duplex (chunk_nr chunks e.done) 0) in
        let first = left_first chunks e.done less in
        let more = left_next chunks e.done 0 (let some = (known.each e.done less).some in omega (arith, some)) in
        let long : length (v.down ++ keys) ≡ sent_at e.duplex (chunk_nr chunks e.done) 0 = ap (λ (down : List ℕ). length (down ++ keys)) none ∙ keys_length image (chunk_nr chunks e.done) 0 (sent_at e.duplex (chunk_nr chunks e.done) 0) in record {
          holds = h;
          wide = wide;
          stands = (
            record {
              bytes = 0;
              half = false;
              at = subst (λ left. Stood left false v.machine) first at;
              keys = subst (λ (down : List ℕ). Each IsNibble (down ++ keys)) (sym none) (keys_are_nibbles image (chunk_nr chunks e.done) known.small 0 (sent_at e.duplex (chunk_nr chunks e.done) 0));
              few = omega (arith, long);
            },
            inl (record {
              text = [];
              fits = fits_none (left_at chunks e.done 0) [] refl;
              order = omega arith;
              rest = fits_some (left_at chunks e.done 0) ((chunk_nr chunks e.done).address + 0) (left_at chunks e.done 1) v.up more (subst (λ left. TextFits left v.up) first fits)
                  ∙ sym (append-nil (answer_from v.machine.odt.memory (chunk_nr chunks e.done).address 0 0) ∙ answer_none v.machine.odt.memory (chunk_nr chunks e.done).address 0);
              heard = λ q low. absurd (omega (arith, low));
            }),
          );
        }

-- ---- a character of the answer

-- the answer's next character, where all of it is under way
next_is : (memory : List ℕ) (address place left : ℕ) (text up rest : List ℕ) (c n : ℕ) → left ≡ n + 1 → up ≡ c ∷ rest → up ≡ answer_from memory address place left ++ text →
    (c ≡ answer_for (byte_of memory (address + place / 2)) place) × (rest ≡ answer_from memory address (place + 1) n ++ text)
next_is memory address place left text up rest c n more first whole =
    let one : left ≡ suc n = omega (arith, more) in
    let both : c ∷ rest ≡ answer_for (byte_of memory (address + place / 2)) place ∷ (answer_from memory address (place + 1) n ++ text) =
    sym first ∙ (whole ∙ (ap (λ k. answer_from memory address place k ++ text) one ∙ ap (λ list. list ++ text) (answer_more memory address place n))) in
    (heads both, tails both)
  where
    heads : {a b : ℕ} {xs ys : List ℕ} → a ∷ xs ≡ b ∷ ys → a ≡ b
    heads e = cc e

    tails : {a b : ℕ} {xs ys : List ℕ} → a ∷ xs ≡ b ∷ ys → xs ≡ ys
    tails e = cc e

below_or : (k n : ℕ) → k < n + 1 → (k < n) ⊎ (k ≡ n)
below_or k n h = grind arith

heard_more : (image : Image) (chunk : Chunk) (memory : List ℕ) (place c : ℕ) → IsAnswered image chunk memory place → c ≡ answer_at image chunk place → c ≡ answer_for (byte_of memory (chunk.address + place / 2)) place →
    IsAnswered image chunk memory (place + 1)
heard_more image chunk memory place c heard awaited given q less = elim (below_or q place less) [
  | inl earlier ↦ heard q earlier
  | inr same ↦ subst (λ n. answer_at image chunk n ≡ answer_for (byte_of memory (chunk.address + n / 2)) n) (sym same) (sym awaited ∙ given)
]

-- it is one of a stub's characters
one_heard : (image : Image) (chunk : Chunk) (up rest : List ℕ) (place c : ℕ) → ((a : ℕ) → told image a < 256) → c ≡ answer_at image chunk place → up ≡ c ∷ rest → nibbles up ≡ 1 + nibbles rest
one_heard image chunk up rest place c small awaited first =
    let one : is_nibble c ≡ true = ap is_nibble awaited ∙ answer_is_one (told image (chunk.address + place / 2)) place (small (chunk.address + place / 2)) in
    ap nibbles first ∙ ap (λ b. one_if b + nibbles rest) one

nothing_after : (memory : List ℕ) (address place n : ℕ) (text rest : List ℕ) → n ≡ 0 → rest ≡ answer_from memory address place n ++ text → rest ≡ text
unfolding answer_from
nothing_after memory address place n text rest none is = is ∙ ap (λ k. answer_from memory address place k ++ text) none

abbrev after_hearing : Link → List ℕ → Link
after_hearing x rest = record x { up = rest }

-- more of the chunk's characters are sent, where there are any
goes_on : (image : Image) (chunks : List Chunk) (before : List ℕ) (e : Exchange) (place : ℕ) (x : Link) → Known image chunks → Holds image chunks before e.done x.machine.odt.memory → IsWide x.machine.odt.memory →
    (a : Amid chunks e.done (sent_at e.duplex (chunk_nr chunks e.done) place) x) → Answers_are image chunks e.done (place + 1) a.bytes x.machine.odt.memory x.up → Goes image chunks before (sends_on image (chunk_nr chunks e.done) e place) x
goes_on image chunks before e place x known h wide a answer =
    let from : ℕ = sent_at e.duplex (chunk_nr chunks e.done) place in
    let count : ℕ = sent_at e.duplex (chunk_nr chunks e.done) (place + 1) - sent_at e.duplex (chunk_nr chunks e.done) place in
    let keys : List ℕ = keys_from image (chunk_nr chunks e.done) from count in
    let few = a.few in
    let rises = sent_rises e.duplex (chunk_nr chunks e.done) place in
    let long = length-append x.down keys in
    let counted : length keys ≡ count = keys_length image (chunk_nr chunks e.done) from count in record {
      holds = h;
      wide = wide;
      stands = (
        record {
          bytes = a.bytes;
          half = a.half;
          at = a.at;
          keys = each_append IsNibble x.down keys a.keys (keys_are_nibbles image (chunk_nr chunks e.done) known.small from count);
          few = omega (arith, few, long, counted, rises);
        },
        answer,
      );
    }

-- nothing of an answer is under way, and so nothing is heard
none_heard : (image : Image) (chunks : List Chunk) (done place bytes : ℕ) (memory up rest : List ℕ) (c : ℕ) → place < 2 * (chunk_nr chunks done).size → (i : Intact image chunks done place bytes memory up) → up ≡ c ∷ rest → 2 * bytes ≤ place → ⊥
none_heard image chunks done place bytes memory up rest c inside i first over =
    no_first up rest c
    (i.rest ∙ (ap (λ n. answer_from memory (chunk_nr chunks done).address place n ++ i.text) (nothing (2 * bytes) place over)
    ∙ (ap (λ l. l ++ i.text) (answer_none memory (chunk_nr chunks done).address place)
    ∙ fits_some (left_at chunks done bytes) ((chunk_nr chunks done).address + bytes) (left_at chunks done (bytes + 1)) i.text (left_next chunks done bytes (omega (arith, over, inside))) i.fits)))
    first
  where
    nothing : (a b : ℕ) → a ≤ b → a - b ≡ 0
    nothing a b le = omega (arith, le)

-- the character that is awaited
same_heard : (image : Image) (chunks : List Chunk) (before : List ℕ) (e : Exchange) (place : ℕ) (x : Link) → Known image chunks → PhaseFits chunks e.done (Answer place) → Holds image chunks before e.done x.machine.odt.memory → IsWide x.machine.odt.memory →
    (a : Amid chunks e.done (sent_at e.duplex (chunk_nr chunks e.done) place) x) → Answers_are image chunks e.done place a.bytes x.machine.odt.memory x.up → (c : ℕ) (rest : List ℕ) → x.up ≡ c ∷ rest → c ≡ answer_at image (chunk_nr chunks e.done) place →
    Goes image chunks before (taken image chunks e (if ltb (place + 1) (2 * (chunk_nr chunks e.done).size) then More place else Verified)) (after_hearing x rest)
same_heard image chunks before e place x known fits h wide a answer c rest first awaited =
    on_turn (λ turn. Goes image chunks before (taken image chunks e turn) (after_hearing x rest)) (ltb (place + 1) (2 * (chunk_nr chunks e.done).size)) (More place) Verified
    (λ less. goes_on image chunks before e place (after_hearing x rest) known h wide (record { bytes = a.bytes; half = a.half; at = a.at; keys = a.keys; few = a.few }) (more answer))
    (λ last. whole (not_below (place + 1) (2 * (chunk_nr chunks e.done).size) last) answer)
  where
    memory : List ℕ
    memory = x.machine.odt.memory

    -- its next character is the first that is under way
    next : (i : Intact image chunks e.done place a.bytes x.machine.odt.memory x.up) → place < 2 * a.bytes →
        (c ≡ answer_for (byte_of x.machine.odt.memory ((chunk_nr chunks e.done).address + place / 2)) place) × (rest ≡ answer_from x.machine.odt.memory (chunk_nr chunks e.done).address (place + 1) (2 * a.bytes - (place + 1)) ++ i.text)
    next i some = next_is x.machine.odt.memory (chunk_nr chunks e.done).address place (2 * a.bytes - place) i.text x.up rest c (2 * a.bytes - (place + 1)) (omega (arith, some)) first i.rest

    some_left : (i : Intact image chunks e.done place a.bytes x.machine.odt.memory x.up) → place < 2 * a.bytes
    some_left i = elim (either place (2 * a.bytes)) [
      | inl less ↦ less
      | inr over ↦ absurd (none_heard image chunks e.done place a.bytes x.machine.odt.memory x.up rest c fits.1 i first over)
    ]
      where
        either : (a b : ℕ) → (a < b) ⊎ (b ≤ a)
        either a b = grind arith

    more : Answers_are image chunks e.done place a.bytes x.machine.odt.memory x.up → Answers_are image chunks e.done (place + 1) a.bytes x.machine.odt.memory rest
    more (inl i) =
        let some = some_left i in
        let n = next i some in
        inl (record { text = i.text; fits = i.fits; order = omega (arith, some); rest = n.1; heard = heard_more image (chunk_nr chunks e.done) x.machine.odt.memory place c i.heard awaited n.0 })
    more (inr few) = let f = one_heard image (chunk_nr chunks e.done) x.up rest place c known.small awaited first in inr (omega (arith, f, few))

    whole : 2 * (chunk_nr chunks e.done).size ≤ place + 1 → Answers_are image chunks e.done place a.bytes x.machine.odt.memory x.up → Goes image chunks before (taken image chunks e Verified) (after_hearing x rest)
    whole last (inl i) =
        let some = some_left i in
        let few = a.few in
        let room = sent_within e.duplex (chunk_nr chunks e.done) place in
        let size : 2 * (chunk_nr chunks e.done).size ≡ place + 1 = let less = fits.1 in omega (arith, last, less) in
        let filled : (chunk_nr chunks e.done).size ≤ a.bytes = omega (arith, some, size) in
        let all : 2 * a.bytes - (place + 1) ≡ 0 = omega (arith, some, size, few, room) in
        let n = next i some in
        let heard : IsAnswered image (chunk_nr chunks e.done) x.machine.odt.memory (2 * (chunk_nr chunks e.done).size) =
        subst (IsAnswered image (chunk_nr chunks e.done) x.machine.odt.memory) (sym size) (heard_more image (chunk_nr chunks e.done) x.machine.odt.memory place c i.heard awaited n.0) in
        let text : rest ≡ i.text = nothing_after x.machine.odt.memory (chunk_nr chunks e.done).address (place + 1) (2 * a.bytes - (place + 1)) i.text rest all n.1 in
        let none : x.down ≡ [] = no_length x.down (omega (arith, some, size, few, room)) in
        let whole_bytes : a.half ≡ false = no_half a.half (omega (arith, some, size, few, room)) in
        let left = left_last chunks e.done a.bytes filled in
        goes_next image chunks before (with_chunk chunks e) (after_hearing x rest) known (let less = fits.0 in omega (arith, less))
        (one_more_holds image chunks before e.done x.machine.odt.memory (known.each e.done fits.0) known.small wide heard h) wide none
        (subst (λ list. Stood list false x.machine) left (subst (λ half. Stood (left_at chunks e.done a.bytes) half x.machine) whole_bytes a.at))
        (subst (λ list. TextFits list rest) left (subst (TextFits (left_at chunks e.done a.bytes)) (sym text) i.fits))
      where
        no_length : (xs : List ℕ) → length xs ≡ 0 → xs ≡ []
        no_length [] is = refl
        no_length (y ∷ ys) is = absurd (omega (arith, is))

        no_half : (h : Bool) → one_if h ≡ 0 → h ≡ false
        no_half true is = absurd (omega (arith, is))
        no_half false is = refl
    whole last (inr few) =
        let f = one_heard image (chunk_nr chunks e.done) x.up rest place c known.small awaited first in
        let taken = a.few in
        let room = sent_within e.duplex (chunk_nr chunks e.done) place in
        absurd (omega (arith, f, few, last, taken, room))

-- ---- each phase

-- after a character that was not the one the host sends no more
leaves : (duplex : Duplex) (chunks : List Chunk) (done place : ℕ) (x : Link) (up : List ℕ) → Amid chunks done (sent_at duplex (chunk_nr chunks done) place) x → Amid chunks done (2 * (chunk_nr chunks done).size) (record x { up = up })
leaves duplex chunks done place x up a = record { bytes = a.bytes; half = a.half; at = a.at; keys = a.keys; few = let few = a.few in let room = sent_within duplex (chunk_nr chunks done) place in omega (arith, few, room) }

got : (image : Image) (chunks : List Chunk) (before : List ℕ) (e : Exchange) (phase : Phase) (x : Link) → Known image chunks → PhaseFits chunks e.done phase → Kept e.duplex image chunks before e.done phase x → (c : ℕ) (rest : List ℕ) → x.up ≡ c ∷ rest →
    Goes image chunks before (advance image chunks (record e { phase = phase }) (Got c)) (after_hearing x rest)
got image chunks before e Settle x known fits k c rest first = absurd (no_first x.up rest c k.stands.1 first)
got image chunks before e (Answer place) x known fits k c rest first =
    on_turn (λ turn. Goes image chunks before (taken image chunks (record e { phase = Answer place }) turn) (after_hearing x rest)) (c == answer_at image (chunk_nr chunks e.done) place) _ (Listen Leave)
    (λ same. same_heard image chunks before (record e { phase = Answer place }) place x known fits k.holds k.wide k.stands.0 k.stands.1 c rest first (eqb-true c (answer_at image (chunk_nr chunks e.done) place) same))
    (λ other. goes_listen image chunks before (record e { phase = Answer place }) Leave (after_hearing x rest)
    (record { holds = k.holds; wide = k.wide; stands = leaves e.duplex chunks e.done place x rest k.stands.0 }))
got image chunks before e Leave x known fits k c rest first =
    let a = k.stands in
    goes_listen image chunks before (record e { phase = Leave }) Leave (after_hearing x rest) (record { holds = k.holds; wide = k.wide; stands = record { bytes = a.bytes; half = a.half; at = a.at; keys = a.keys; few = a.few } })
got image chunks before e (Ended Complete) x known fits k c rest first =
    goes_listen image chunks before (record e { phase = Ended Complete }) (Ended Complete) (after_hearing x rest) (record { holds = k.holds; wide = k.wide; stands = k.stands })
got image chunks before e (Ended Broken) x known fits k c rest first =
    goes_listen image chunks before (record e { phase = Ended Broken }) (Ended Broken) (after_hearing x rest) (record { holds = k.holds; wide = k.wide; stands = k.stands })

-- `Z` is sent
stops : (image : Image) (chunks : List Chunk) (before : List ℕ) (e : Exchange) (x : Link) → Holds image chunks before e.done x.machine.odt.memory → IsWide x.machine.odt.memory → x.down ≡ [] → IsParted chunks e.done x.machine →
    Goes image chunks before (taken image chunks e Stop) x
stops image chunks before e x h wide none parted = record { holds = h; wide = wide; stands = (subst (λ (down : List ℕ). Each IsZ (down ++ 90 ∷ [])) (sym none) (refl, tt), parted) }

quiet : (image : Image) (chunks : List Chunk) (before : List ℕ) (e : Exchange) (phase : Phase) (x : Link) → Known image chunks → e.done ≤ length chunks → PhaseFits chunks e.done phase → Kept e.duplex image chunks before e.done phase x → x.down ≡ [] → x.up ≡ [] →
    Goes image chunks before (advance image chunks (record e { phase = phase }) Quiet) x
quiet image chunks before e Settle x known within fits k none silent =
    goes_next image chunks before (record e { phase = Settle }) x known within k.holds k.wide none k.stands.2 (fits_none (bytes_of (drop e.done chunks)) x.up silent)
quiet image chunks before e (Answer place) x known within fits k none silent =
    stops image chunks before (record e { phase = Answer place }) x k.holds k.wide none (amid_parted chunks e.done (sent_at e.duplex (chunk_nr chunks e.done) place) x fits.0 (sent_within e.duplex (chunk_nr chunks e.done) place) k.stands.0)
quiet image chunks before e Leave x known within fits k none silent =
    stops image chunks before (record e { phase = Leave }) x k.holds k.wide none (amid_parted chunks e.done (2 * (chunk_nr chunks e.done).size) x fits (omega arith) k.stands)
quiet image chunks before e (Ended Complete) x known within fits k none silent = goes_listen image chunks before (record e { phase = Ended Complete }) (Ended Complete) x k
quiet image chunks before e (Ended Broken) x known within fits k none silent = goes_listen image chunks before (record e { phase = Ended Broken }) (Ended Broken) x k

pub heard_kept : (image : Image) (chunks : List Chunk) (before : List ℕ) (e : Exchange) (what : Heard) (x v : Link) → Known image chunks → IsExchange chunks e → Kept e.duplex image chunks before e.done e.phase x → Gives x what v →
    Goes image chunks before (advance image chunks e what) v
heard_kept image chunks before e (Got c) x v known is k (rest, first, now) =
    subst (Goes image chunks before (advance image chunks e (Got c))) (sym now) (got image chunks before e e.phase x known is.fits k c rest first)
heard_kept image chunks before e Quiet x v known is k (none, silent, now) =
    subst (Goes image chunks before (advance image chunks e Quiet)) (sym now) (quiet image chunks before e e.phase x known is.within is.fits k none silent)
