-- What a reader that stands at a list answers.
use Rattle.std.proofs.Common.{◌≡◌, ◌==◌, ℕ, ◌+◌, ◌≤◌, List, [], ◌∷◌, ◌++◌, length, take, arith, ◌∙◌, sym, ap, subst, refl, append-nil, length-append, Bool, true, false, cond, Option, Some, Result, Ok, Err, inl, inr, ◌⊎◌, zero, suc}
use Rattle.std.proofs.lemmas.Bool.{le-ltb, cond-false}
use Rattle.std.proofs.lemmas.List.{take_all, take-append-le, length-take-le}
use Rattle.std.proofs.Math.Seq.{take-append-add}
use Rattle.tape_values.specs.Block.{BlockValue}
use Rattle.tape_values.specs.Tape.{TapeValue, text_of, IsTape, tape_limit}
use Rattle.tape_blocks.specs.Refusal.{Test, IsRefused, first_fault, missing_fault, tests_of, fault_at}
use Rattle.tape_blocks.specs.Reading.{IsReading}
use Rattle.tape_blocks.specs.Standing.{EndsTape, IsRefusedForGood}
use Rattle.tape_blocks.specs.PartialTape.{IsPart, IsReadBy, IsStep, part_of}
use Rattle.tape_blocks.specs.TapeReader.{ReaderValue, IsUnderWay, StandsAs, StandsAt, IsForMore, IsFed, IsFinished, used_of}
use Rattle.tape_blocks.specs.declared.fault.Fault.{Fault}
use Rattle.tape_blocks.specs.declared.fault.Why.TheVariants.{Cut, NoTransfer, TooLong}
use Rattle.tape_blocks.specs.declared.fault.ReadError.{ReadError}
use Rattle.tape_blocks.specs.declared.fault.ReadError.TheVariants.{Tape, Memory}
use Rattle.tape_blocks.specs.declared.reader_state.ReaderState.{ReaderState}
use Rattle.tape_blocks.specs.declared.reader_state.ReaderState.TheVariants.{Open, Done, Failed}
use Rattle.tape_blocks.specs.declared.partial_tape.PartialTape.{PartialTape}
use Rattle.tape_blocks.specs.declared.partial_tape.Step.TheVariants.{Took}
use Rattle.tape_blocks.specs.declared.reader.Fed.{Fed}
use Rattle.tape_blocks.specs.declared.reader.Fed.TheVariants.{More, Done as DoneAt}
use Rattle.tape_blocks.proofs.Readings.{complete, one_answer}
use Rattle.tape_blocks.proofs.Standings.{IsReadTo-fault, IsReadTo-length}
use Rattle.tape_blocks.proofs.Steps.{too_long, good_longer}

-- each test's fault is so
abbrev EachFault : (Fault → Type 0) → List Test → Type 0
EachFault P [] = Unit {0}
EachFault P (t ∷ ts) = P t.fault × EachFault P ts

chosen_fault : (P : Fault → Type 0) (a b : Bool) (rest : Option Fault) (m f g : Fault) → P m → P f → (rest ≡ Some g → P g)
    → cond a (Some m) (cond b rest (Some f)) ≡ Some g → P g
chosen_fault P true b rest m f g pm pf pr e = let s : m ≡ g = cc e in subst P s pm
chosen_fault P false true rest m f g pm pf pr e = pr e
chosen_fault P false false rest m f g pm pf pr e = let s : f ≡ g = cc e in subst P s pf

first_fault-is : (P : Fault → Type 0) (n : ℕ) (m g : Fault) (ts : List Test) → P m → EachFault P ts → first_fault n m ts ≡ Some g → P g
first_fault-is P n m g [] pm each e = absurd (cc e)
first_fault-is P n m g (t ∷ ts) pm each e =
    chosen_fault P _ _ (first_fault n m ts) m t.fault g pm each.0 (first_fault-is P n m g ts pm each.1) e

abbrev IsFinal : Fault → Type 0
IsFinal fault = IsForMore fault.why → ⊥

final_tests : (s : ℕ) (block : List ℕ) → EachFault IsFinal (tests_of s block)
final_tests s block = (
  λ h. elim h [ inl e ↦ absurd (cc e) | inr e ↦ absurd (cc e) ],
  (
    λ h. elim h [ inl e ↦ absurd (cc e) | inr e ↦ absurd (cc e) ],
    (
      λ h. elim h [ inl e ↦ absurd (cc e) | inr e ↦ absurd (cc e) ],
      (
        λ h. elim h [ inl e ↦ absurd (cc e) | inr e ↦ absurd (cc e) ],
        (λ h. elim h [ inl e ↦ absurd (cc e) | inr e ↦ absurd (cc e) ], tt),
      ),
    ),
  ),
)

final_too_long : IsFinal (fault_at tape_limit TooLong)
final_too_long = λ h. elim h [ inl e ↦ absurd (cc e) | inr e ↦ absurd (cc e) ]

-- a list of each length
zeros : ℕ → List ℕ
zeros zero = []
zeros (suc n) = 0 ∷ zeros n

length-zeros : (n : ℕ) → length (zeros n) ≡ n
unfolding zeros
length-zeros zero = refl
length-zeros (suc n) = let h = length-zeros n in omega arith

-- a list that is refused for good lacks no bytes
for_good-final : (fed : List ℕ) (fault : Fault) → IsRefusedForGood fed fault → IsForMore fault.why → ⊥
for_good-final fed fault h =
    let more : List ℕ = zeros (tape_limit + 1) in
    let input : List ℕ = fed ++ more in
    let r = h more in
    let s : ℕ = length (text_of r.pieces) in
    let l : length input ≡ length fed + (tape_limit + 1) = length-append fed more ∙ ap (λ n. length fed + n) (length-zeros (tape_limit + 1)) in
    let m : missing_fault input s ≡ fault_at tape_limit TooLong = too_long input s (omega arith) in
    first_fault-is IsFinal (length r.rest) (missing_fault input s) (fault_at fault.at fault.why) (tests_of s r.rest)
    (subst IsFinal (sym m) final_too_long) (final_tests s r.rest) r.first

for_more_by : (b : Bool) (s : ℕ) → IsForMore ((cond b (fault_at s NoTransfer) (fault_at s Cut)).why)
for_more_by true s = inr refl
for_more_by false s = inl refl

for_more : (input : List ℕ) (s : ℕ) → length input ≤ tape_limit → IsForMore (missing_fault input s).why
for_more input s h =
    subst (λ (f : Fault). IsForMore f.why) (sym (cond-false _ _ _ (le-ltb tape_limit (length input) h))) (for_more_by (s == length input) s)

-- a list that may go on lacks bytes, where it is the whole input
pub under_way_says : (fed : List ℕ) (blocks : List BlockValue) (place : ℕ) (part : List ℕ) → IsUnderWay fed blocks place part
    → IsReading fed (Err (Tape (missing_fault fed place))) × IsForMore (missing_fault fed place).why
under_way_says fed blocks place part u = (
  IsReadTo-fault fed fed place blocks part (missing_fault fed place) (sym (take_all tape_limit fed u.within)) u.read (u.wanting (missing_fault fed place)),
  for_more fed place u.within,
)

-- what stands at a list by its state
stands_as : (r : ReaderValue) (o : ReaderState) (fed : List ℕ) → r.state ≡ o → StandsAt r fed → StandsAs o r fed
stands_as r o fed e h = subst (λ x. StandsAs x r fed) e h

stands_by : (r : ReaderValue) (o : ReaderState) (fed : List ℕ) → r.state ≡ o → StandsAs o r fed → StandsAt r fed
stands_by r o fed e h = subst (λ x. StandsAs x r fed) (sym e) h

pub done_answers : (r : ReaderValue) (start : ℕ) (fed piece : List ℕ) → r.state ≡ Done start → StandsAt r fed → IsFed fed piece (Ok (DoneAt 0))
done_answers r start fed piece e h =
    let s = stands_as r (Done start) fed e h in
    let within : r.place ≤ length fed = s.0 in
    let l = length-append fed piece in (
      record { blocks = r.blocks; start = start },
      r.place,
      (omega arith, subst (λ t. IsTape t r.blocks start) (sym (take-append-le r.place fed piece within)) s.1.is_tape),
      omega arith,
    )

pub failed_stands : (r : ReaderValue) (error : ReadError) (fed piece : List ℕ) → r.state ≡ Failed error → StandsAt r fed → StandsAt r (fed ++ piece)
failed_stands r (Tape fault) fed piece e h =
    stands_by r (Failed (Tape fault)) (fed ++ piece) e (good_longer fed piece fault (stands_as r (Failed (Tape fault)) fed e h))
failed_stands r Memory fed piece e h = stands_by r (Failed Memory) (fed ++ piece) e tt

pub failed_answers : (r : ReaderValue) (error : ReadError) (fed piece : List ℕ) → r.state ≡ Failed error → StandsAt r fed → IsFed fed piece (Err error)
failed_answers r (Tape fault) fed piece e h =
    let s = stands_as r (Failed (Tape fault)) fed e h in
    (s piece, for_good-final fed fault s, good_longer fed piece fault s)
failed_answers r Memory fed piece e h = tt

pub failed_finishes : (r : ReaderValue) (error : ReadError) (fed : List ℕ) → r.state ≡ Failed error → StandsAt r fed → IsFinished fed (Err error)
failed_finishes r (Tape fault) fed e h =
    subst (λ t. IsRefused t fault.at fault.why) (append-nil fed) (stands_as r (Failed (Tape fault)) fed e h [])
failed_finishes r Memory fed e h = tt

pub open_finishes : (r : ReaderValue) (fed : List ℕ) → r.state ≡ Open → StandsAt r fed → IsFinished fed (Err (Tape (missing_fault fed r.place)))
open_finishes r fed e h = (under_way_says fed r.blocks r.place r.part (stands_as r Open fed e h)).0

-- behind a piece that was read to its end
took_stands : (p : PartialTape) (fed : List ℕ) → IsPart p → IsReadBy p fed → IsUnderWay fed p.blocks.items p.place (part_of p)
took_stands p fed part read =
    let l = IsReadTo-length fed p.place p.blocks.items (part_of p) read in
    let w = part.within in
    record { read = read; wanting = part.wanting; within = omega arith }

pub took_answers : (p : PartialTape) (fed piece : List ℕ) → IsPart p → IsReadBy p (fed ++ piece) → IsFed fed piece (Ok More)
took_answers p fed piece part read =
    let s = under_way_says (fed ++ piece) p.blocks.items p.place (part_of p) (took_stands p (fed ++ piece) part read) in
    (missing_fault (fed ++ piece) p.place, s.0, s.1)

-- behind the tape's last byte
pub ended_stands : (fed piece : List ℕ) (n : ℕ) (blocks : List BlockValue) (place start : ℕ) → n ≤ length piece
    → EndsTape (fed ++ take n piece) blocks place start → (place ≤ length (fed ++ piece)) × EndsTape (take place (fed ++ piece)) blocks place start
ended_stands fed piece n blocks place start h t =
    let a = length-append fed (take n piece) in
    let b = length-take-le n piece h in
    let c = length-append fed piece in
    let k : length (fed ++ take n piece) ≡ place = t.length_is in
    let e : place ≡ length fed + n = omega arith in (
      omega arith,
      subst (λ x. EndsTape x blocks place start) (sym (ap (λ x. take x (fed ++ piece)) e ∙ take-append-add fed piece n)) t,
    )

pub ended_answers : (fed piece : List ℕ) (n : ℕ) (blocks : List BlockValue) (place start : ℕ) → n ≤ length piece
    → EndsTape (fed ++ take n piece) blocks place start → IsFed fed piece (Ok (DoneAt n))
ended_answers fed piece n blocks place start h t =
    let s = ended_stands fed piece n blocks place start h t in
    let a = length-append fed (take n piece) in
    let b = length-take-le n piece h in
    let k : length (fed ++ take n piece) ≡ place = t.length_is in
    (record { blocks = blocks; start = start }, place, (s.0, s.1.is_tape), omega arith)

-- behind a failure
pub failure_stands : (old new : PartialTape) (r : ReaderValue) (error : ReadError) (fed piece : List ℕ) → r.state ≡ Failed error
    → IsReadBy old fed → IsStep old piece new (Err error) → StandsAt r (fed ++ piece)
failure_stands old new r (Tape fault) fed piece e read s = stands_by r (Failed (Tape fault)) (fed ++ piece) e (s fed read)
failure_stands old new r Memory fed piece e read s = stands_by r (Failed Memory) (fed ++ piece) e tt

pub failure_answers : (old new : PartialTape) (error : ReadError) (fed piece : List ℕ) → IsReadBy old fed → IsStep old piece new (Err error) → IsFed fed piece (Err error)
failure_answers old new (Tape fault) fed piece read s =
    (subst (λ t. IsRefused t fault.at fault.why) (append-nil (fed ++ piece)) (s fed read []), for_good-final (fed ++ piece) fault (s fed read), s fed read)
failure_answers old new Memory fed piece read s = tt

-- what callers see of a reader
abbrev pub value : PartialTape → ReaderState → ReaderValue
value p o = record { blocks = p.blocks.items; places = p.places.items; place = p.place; part = part_of p; state = o }

-- an open reader has read the list at which it stands
pub came_open : (p : PartialTape) (o : ReaderState) (r : ReaderValue) (fed : List ℕ) → value p o ≡ r → o ≡ Open → StandsAt r fed → IsReadBy p fed
came_open p o r fed e f h = (stands_as (value p o) Open fed f (subst (λ x. StandsAt x fed) (sym e) h)).read

pub same_outcome : (p : PartialTape) (o x : ReaderState) (r : ReaderValue) → value p o ≡ r → o ≡ x → r.state ≡ x
same_outcome p o x r e f = ap (λ v. v.state) (sym e) ∙ f

pub took_open : (p : PartialTape) (o : ReaderState) (fed : List ℕ) → o ≡ Open → IsPart p → IsReadBy p fed → StandsAt (value p o) fed
took_open p o fed e part read = stands_by (value p o) Open fed e (took_stands p fed part read)

-- behind a whole piece
pub read_whole : (old new : PartialTape) (fed piece : List ℕ) (n : ℕ) → IsStep old piece new (Ok (Took n)) → n ≡ length piece → IsReadBy old fed → IsReadBy new (fed ++ piece)
read_whole old new fed piece n s e read =
    subst (λ t. IsReadBy new (fed ++ t)) (ap (λ k. take k piece) e ∙ take_all (length piece) piece (omega arith)) (s.2 fed read)

ok_same : {p q : TapeValue × ℕ} → ◌≡◌ {A = Result (TapeValue × ℕ) ReadError} (Ok p) (Ok q) → p ≡ q
ok_same e = cc e

-- one feed and one finish
pub fed_and_finished : (input : List ℕ) (fed : Fed) (tape : TapeValue) → IsFed [] input (Ok fed) → IsFinished input (Ok tape)
    → IsReading input (Ok (tape, used_of fed))
fed_and_finished input More tape f g =
    let e = one_answer input (Ok (tape, g.0)) (Err (Tape f.0)) g.1 f.1 in absurd (cc e)
fed_and_finished input (DoneAt used) tape f g =
    let e = one_answer input (Ok (f.0, f.1)) (Ok (tape, g.0)) f.2 g.1 in
    let n : f.1 ≡ g.0 = ap (λ p. p.1) (ok_same e) in
    let h = f.3 in
    let u : used ≡ f.1 = omega arith in
    subst (λ k. IsReading input (Ok (tape, k))) (sym n ∙ sym u) g.1

pub fed_complete : (input : List ℕ) (result : Result (TapeValue × ℕ) ReadError) (error : ReadError) → result ≡ Err error → IsFed [] input (Err error)
    → (answer : Result (TapeValue × ℕ) ReadError) → IsReading input answer → (result ≡ answer) ⊎ (result ≡ Err Memory)
fed_complete input result (Tape fault) e f answer r = complete input result (Err (Tape fault)) e f.0 answer r
fed_complete input result Memory e f answer r = inr e

pub finished_complete : (input : List ℕ) (result : Result (TapeValue × ℕ) ReadError) (error : ReadError) → result ≡ Err error → IsFinished input (Err error)
    → (answer : Result (TapeValue × ℕ) ReadError) → IsReading input answer → (result ≡ answer) ⊎ (result ≡ Err Memory)
finished_complete input result (Tape fault) e f answer r = complete input result (Err (Tape fault)) e f answer r
finished_complete input result Memory e f answer r = inr e

pub open_under_way : (r : ReaderValue) (fed : List ℕ) → r.state ≡ Open → StandsAt r fed → IsUnderWay fed r.blocks r.place r.part
open_under_way r fed e h = stands_as r Open fed e h
