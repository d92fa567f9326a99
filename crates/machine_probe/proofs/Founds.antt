-- What a reading of last words finds.
use Rattle.std.proofs.Common.{◌≡◌, ℕ, zero, suc, ◌+◌, ◌-◌, ◌*◌, ◌%◌, ◌<◌, ◌≤◌, true, List, length, get_or, Some, Ok, Err, refl, arith, ap, subst, ◌∙◌, mul-zero, mul-suc, mul-le-mul_left}
use Rattle.std.proofs.lemmas.Bool.Decides.{nat_tests}
use Rattle.tape_image.specs.Memory.{top_of}
use Rattle.odt_machine.specs.Machine.{is_word}
use Rattle.reading_core.specs.declared.phase.End.{End}
use Rattle.reading_core.specs.declared.phase.End.TheVariants.{Complete, GaveUp, NoWord}
use Rattle.reading_core.specs.declared.phase.Phase.{Phase}
use Rattle.reading_core.specs.declared.phase.Phase.TheVariants.{Settle, Sync, Address, Slash, Before, Value, Close, Refused, Ended as Over}
use Rattle.reading_core.specs.Invariant.{Basis, EndFits, PhaseFits, IsReader, basis_of}
use Rattle.reading_core.specs.Reader.{Reader, address_nr, ended}
use Rattle.looking_law.specs.Harmless.{HasCause, EndIsPaid, HoldsRead}
use Rattle.looking_engine.specs.Stopping.{LookStop, TellsEnd}
use Rattle.machine_probe.specs.declared.pieces.Pieces.{Pieces}
use Rattle.machine_probe.specs.Passes.{ArePieces, last_words, found}
use Rattle.machine_probe.specs.Passes.{passed}
use Rattle.machine_probe.specs.Steps.{LiesWithin}
use Rattle.machine_probe.proofs.LastWords.{even_times, last_at, length_last, next_end}

-- ---- ends

end_at : (phase : Phase) (end : End) (b : Basis) → ended phase ≡ Some end → PhaseFits phase b → EndFits end b
end_at (Over Complete) Complete b is fits = fits
end_at (Over GaveUp) GaveUp b is fits = fits
end_at (Over (NoWord a)) (NoWord c) b is fits = subst (λ x. EndFits (NoWord x) b) (same is) fits
  where
    same : {a c : ℕ} → Some (NoWord a) ≡ Some (NoWord c) → a ≡ c
    same e = cc e
end_at (Over Complete) GaveUp b is fits = absurd (cc is)
end_at (Over Complete) (NoWord c) b is fits = absurd (cc is)
end_at (Over GaveUp) Complete b is fits = absurd (cc is)
end_at (Over GaveUp) (NoWord c) b is fits = absurd (cc is)
end_at (Over (NoWord a)) Complete b is fits = absurd (cc is)
end_at (Over (NoWord a)) GaveUp b is fits = absurd (cc is)
end_at Settle end b is fits = absurd (cc is)
end_at (Sync place) end b is fits = absurd (cc is)
end_at (Address place) end b is fits = absurd (cc is)
end_at Slash end b is fits = absurd (cc is)
end_at Before end b is fits = absurd (cc is)
end_at (Value value place) end b is fits = absurd (cc is)
end_at (Close place) end b is fits = absurd (cc is)
end_at (Refused place) end b is fits = absurd (cc is)

pub paid_at : (phase : Phase) (end : End) (memory : List ℕ) (patience lost : ℕ) → ended phase ≡ Some end → HasCause phase memory patience lost → EndIsPaid end memory patience lost
paid_at (Over over) end memory patience lost is cause = subst (λ e. EndIsPaid e memory patience lost) (same is) cause
  where
    same : {a c : End} → Some a ≡ Some c → a ≡ c
    same e = cc e
paid_at Settle end memory patience lost is cause = absurd (cc is)
paid_at (Sync place) end memory patience lost is cause = absurd (cc is)
paid_at (Address place) end memory patience lost is cause = absurd (cc is)
paid_at Slash end memory patience lost is cause = absurd (cc is)
paid_at Before end memory patience lost is cause = absurd (cc is)
paid_at (Value value place) end memory patience lost is cause = absurd (cc is)
paid_at (Close place) end memory patience lost is cause = absurd (cc is)
paid_at (Refused place) end memory patience lost is cause = absurd (cc is)

-- ---- how many words were read

-- the reader of a pass over these pieces
pub record IsOver (from : ℕ) (pieces : Pieces) (last : Reader) : Type 0 where
  pub addresses : last.addresses ≡ last_words from pieces.bytes pieces.count
  pub kept : IsReader last

addressed : (from : ℕ) (pieces : Pieces) (last : Reader) → IsOver from pieces last → length last.addresses ≡ pieces.count
addressed from pieces last is = ap length is.addresses ∙ length_last from pieces.bytes pieces.count

within_count : (from : ℕ) (pieces : Pieces) (last : Reader) → IsOver from pieces last → length last.values ≤ pieces.count
within_count from pieces last is = omega (arith, is.kept.within, addressed from pieces last is)

pub found_below : (from : ℕ) (pieces : Pieces) (last : Reader) → IsOver from pieces last → pieces.bytes * length last.values ≤ pieces.bytes * pieces.count
found_below from pieces last is = mul-le-mul_left pieces.bytes (within_count from pieces last is)

pub all_read : (from : ℕ) (pieces : Pieces) (last : Reader) → IsOver from pieces last → ended last.phase ≡ Some Complete → length last.values ≡ pieces.count
all_read from pieces last is complete = end_at last.phase Complete (basis_of last) complete is.kept.fits ∙ addressed from pieces last is

one_lacks : (from address : ℕ) (pieces : Pieces) (last : Reader) → IsOver from pieces last → ended last.phase ≡ Some (NoWord address) → length last.values < pieces.count
one_lacks from address pieces last is lacks = omega (arith, (end_at last.phase (NoWord address) (basis_of last) lacks is.kept.fits).0, addressed from pieces last is)

-- the address that is no word's is that of the last word of the piece that begins where memory was found to go on to
pub lacking : (from address : ℕ) (pieces : Pieces) (last : Reader) → IsOver from pieces last → ended last.phase ≡ Some (NoWord address) → address ≡ found from pieces last + (pieces.bytes - 2)
lacking from address pieces last is lacks =
    (end_at last.phase (NoWord address) (basis_of last) lacks is.kept.fits).1
    ∙ (ap (λ addresses. address_nr addresses (length last.values)) is.addresses
    ∙ last_at from pieces.bytes pieces.count (length last.values) 0 (one_lacks from address pieces last is lacks))

-- the piece that lacks its last word is one of the pieces
lies_within : (from address : ℕ) (pieces : Pieces) (last : Reader) → ArePieces from pieces → IsOver from pieces last → ended last.phase ≡ Some (NoWord address) →
    (found from pieces last % 2 ≡ 0) × (found from pieces last + pieces.bytes ≤ from + pieces.bytes * pieces.count)
lies_within from address pieces last are is lacks = (
  omega (arith, are.even, even_times pieces.bytes (length last.values) are.whole),
  omega (arith, next_end pieces.bytes (length last.values) pieces.count (one_lacks from address pieces last is lacks)),
)

pub passed_within : (from : ℕ) (pieces : Pieces) (stop : LookStop) (last : Reader) → ArePieces from pieces → IsOver from pieces last → TellsEnd stop (ended last.phase) → LiesWithin from pieces (passed stop (found from pieces last))
passed_within from pieces (Ok (NoWord address)) last are is lacks = lies_within from address pieces last are is lacks
passed_within from pieces (Ok Complete) last are is ends = tt
passed_within from pieces (Ok GaveUp) last are is ends = tt
passed_within from pieces (Err cut) last are is ends = tt

-- ---- memory goes on to there

lies_below : (memory : List ℕ) (a : ℕ) → is_word memory a ≡ true → a < top_of memory
lies_below memory a lies = grind (arith, nat_tests)

pub reached : (memory : List ℕ) (from : ℕ) (pieces : Pieces) (last : Reader) → ArePieces from pieces → IsOver from pieces last → from ≤ top_of memory → HoldsRead memory last → found from pieces last ≤ top_of memory
reached memory from pieces last are is reaches holds = far (length last.values) refl
  where
    bytes : ℕ
    bytes = pieces.bytes

    far : (r : ℕ) → r ≡ length last.values → from + bytes * r ≤ top_of memory
    far zero here = omega (arith, reaches, mul-zero bytes)
    far (suc r) here =
        let low : r < length last.values = omega (arith, here) in
        let at : get_or last.addresses r 0 ≡ from + bytes * r + (bytes - 2) =
        ap (λ addresses. get_or addresses r 0) is.addresses ∙ last_at from bytes pieces.count r 0 (omega (arith, low, within_count from pieces last is)) in
        let lies : get_or last.addresses r 0 < top_of memory = lies_below memory (get_or last.addresses r 0) (holds.lies r low) in
        omega (arith, at, lies, mul-suc bytes r, are.some, are.even, are.whole, even_times bytes r are.whole)
