-- Each input of bytes says something: by the head behind each front, until a transfer block or a fault stands there.
use Rattle.std.proofs.Common.{◌≡◌, ℕ, ◌+◌, ◌<◌, ◌^◌, zero, suc, get_or, inl, inr, List, [], ◌∷◌, ◌++◌, length, take, drop, arith, refl, All, Result, Ok, Err}
use Rattle.std.proofs.lemmas.List.{get_or-drop, get_or_past}
use Rattle.std.proofs.lemmas.List.Elements.{All-take}
use Rattle.tape_values.specs.Block.{BlockValue}
use Rattle.tape_values.specs.Tape.{TapeValue, tape_limit}
use Rattle.tape_blocks.specs.Refusal.{missing_fault}
use Rattle.tape_blocks.specs.Reading.{IsReading}
use Rattle.tape_blocks.specs.Standing.{IsReadTo}
use Rattle.tape_blocks.specs.declared.fault.ReadError.{ReadError}
use Rattle.tape_blocks.specs.declared.fault.ReadError.TheVariants.{Tape}
use Rattle.tape_blocks.proofs.Heads.{AreBytes, Headed, head_of, at_most}
use Rattle.tape_blocks.proofs.Heads.Headed.{blank_head, data_head, transfer_head, faulty_head}
use Rattle.tape_blocks.proofs.Standings.{IsReadTo-start, IsReadTo-blank, IsReadTo-data, IsReadTo-fault, IsReadTo-length, ends_before}

pub record Says (input : List ℕ) : Type 0 where
  pub answer : Result (TapeValue × ℕ) ReadError
  pub so : IsReading input answer

step :
    (input text : List ℕ) (at : ℕ) (blocks : List BlockValue) (rest : List ℕ) → text ≡ take tape_limit input → IsReadTo text blocks at rest
    → ((place : ℕ) (new : List BlockValue) (n : ℕ) → at < place → IsReadTo text new place (drop n rest) → Says input)
    → Headed at (missing_fault input at) rest → Says input
step input text at blocks rest is r more (blank_head e) = more (at + 1) blocks 1 (omega arith) (IsReadTo-blank text at blocks rest (drop 1 rest) r e)
step input text at blocks rest is r more (data_head b ok bytes e) =
    more (at + (7 + length b.bytes)) (blocks ++ b ∷ []) (7 + length b.bytes) (omega arith)
    (IsReadTo-data text at blocks b rest (drop (7 + length b.bytes) rest) r ok bytes e)
step input text at blocks rest is r more (transfer_head start word e) =
    let t = ends_before input text at blocks rest (drop 7 rest) start is r e in
    record { answer = Ok (record { blocks = blocks; start = start }, at + 7); so = t }
step input text at blocks rest is r more (faulty_head f h) =
    record { answer = Err (Tape f); so = IsReadTo-fault input text at blocks rest f is r h }

drop_bytes : (n : ℕ) (text : List ℕ) → AreBytes text → AreBytes (drop n text)
drop_bytes n text h = λ i. rw (get_or-drop n text i 0) (h (n + i))

are_bytes : (text : List ℕ) → All (λ b. b < 2 ^ 8) text → AreBytes text
are_bytes text h = λ i.
    elim (at_most (length text) i) [
      | inl past ↦ let e : get_or text i 0 ≡ 0 = get_or_past text i 0 past in omega arith
      | inr within ↦ h i 0 within
    ]

walk :
    (input text : List ℕ) → text ≡ take tape_limit input → (fuel at : ℕ) (blocks : List BlockValue) (rest : List ℕ) → AreBytes rest
    → IsReadTo text blocks at rest → length rest < fuel → Says input
walk input text is zero at blocks rest are r l = absurd (omega arith)
walk input text is (suc fuel) at blocks rest are r l =
    step input text at blocks rest is r
    (λ place new n further w.
    let a = IsReadTo-length text at blocks rest r in
    let b = IsReadTo-length text place new (drop n rest) w in
    walk input text is fuel place new (drop n rest) (drop_bytes n rest are) w (omega arith))
    (head_of at (missing_fault input at) rest are)

pub each_says : (input : List ℕ) → All (λ b. b < 2 ^ 8) input → Says input
each_says input h =
    let text : List ℕ = take tape_limit input in
    walk input text refl (length text + 1) 0 [] text (are_bytes text (All-take (λ b. b < 2 ^ 8) tape_limit input h)) (IsReadTo-start text) (omega arith)
