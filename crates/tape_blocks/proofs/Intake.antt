-- What was taken of an input by the reads so far.
use Rattle.std.proofs.Common.{◌≡◌, ℕ, ◌+◌, ◌-◌, ◌<◌, ◌≤◌, List, [], ◌++◌, length, take, arith, ◌∙◌, sym, ap, subst, refl, append-nil, append_assoc, length-append, Option, Some, None, Ok, Err, inl, inr}
use Rattle.std.proofs.lemmas.List.{take_all, length-take, length-take-le}
use Rattle.std.proofs.Math.Seq.{take-append-add}
use Rattle.std.proofs.KnownBytes.{Consumes-trans}
use Rattle.std.specs.Io.KnownBytes.{Consumes, Keeps, IsAtEnd}
use Rattle.tape_values.specs.Block.{BlockValue}
use Rattle.tape_values.specs.Tape.{TapeValue, IsTape}
use Rattle.tape_blocks.specs.Refusal.{missing_fault}
use Rattle.tape_blocks.specs.Layout.{ArePlaced}
use Rattle.tape_blocks.specs.TapeReader.{ReaderValue, StandsAt, IsOpen, IsFed, IsFinished}
use Rattle.tape_blocks.specs.Input.{input_limit, IsNeeded, IsReadFrom, IsReadWithLayout, from_read_error}
use Rattle.tape_blocks.specs.declared.fault.ReadError.{ReadError}
use Rattle.tape_blocks.specs.declared.fault.ReadError.TheVariants.{Tape, Memory}
use Rattle.tape_blocks.specs.declared.input.FromError.{FromError}
use Rattle.tape_blocks.specs.declared.input.FromError.TheVariants.{Memory as NoMemory, Io}
use Rattle.tape_blocks.specs.declared.layout.Layout.{Layout}
use Rattle.tape_blocks.specs.declared.reader.Fed.{Fed}
use Rattle.tape_blocks.specs.declared.reader.Fed.TheVariants.{More, Done}
use Rattle.tape_blocks.proofs.Feeding.{open_under_way, under_way_says}
use Rattle.tape_blocks.proofs.Readings.{tape-not_refused}

-- bytes that were taken: none behind a tape
pub record IsTaken (before after : Option (List ℕ)) (fed : List ℕ) : Type 0 where
  pub consumed : Consumes before after fed
  pub within : length fed ≤ input_limit
  pub needed : IsNeeded fed

-- the loop between two reads
pub record IsTaking (before after : Option (List ℕ)) (reader : ReaderValue) (taken : ℕ) : Type 0 where
  pub fed : List ℕ
  pub stands : StandsAt reader fed
  pub going : IsOpen reader
  pub so_far : IsTaken before after fed
  pub counted : length fed ≡ taken
  pub limited : taken < input_limit
  pub placed : ArePlaced fed reader.blocks reader.places

-- the reader's need, as its contract says it
abbrev Needs : ReaderValue → ℕ → Type 0
Needs reader need =
    (fed more : List ℕ) (blocks : List BlockValue) (start : ℕ) → IsOpen reader → StandsAt reader fed → IsTape (fed ++ more) blocks start → need ≤ length more

-- a piece that is no longer than the need
needed-grow : (fed piece : List ℕ) (reader : ReaderValue) (need : ℕ) → IsNeeded fed → StandsAt reader fed → IsOpen reader → Needs reader need
    → length piece ≤ need → IsNeeded (fed ++ piece)
needed-grow fed piece reader need before stands going needs few = λ more n blocks start h t.
    let same : (fed ++ piece) ++ more ≡ fed ++ (piece ++ more) = append_assoc fed piece more in
    let l : length ((fed ++ piece) ++ more) ≡ length (fed ++ (piece ++ more)) = ap length same in
    let t1 : IsTape (take n (fed ++ (piece ++ more))) blocks start = subst (λ x. IsTape (take n x) blocks start) same t in
    let least : length fed ≤ n = before (piece ++ more) n blocks start (omega arith) t1 in
    let rest : List ℕ = take (n - length fed) (piece ++ more) in
    let e : n ≡ length fed + (n - length fed) = omega arith in
    let front : take n (fed ++ (piece ++ more)) ≡ fed ++ rest = ap (λ k. take k (fed ++ (piece ++ more))) e ∙ take-append-add fed (piece ++ more) (n - length fed) in
    let more_than : need ≤ length rest = needs fed rest blocks start going stands (subst (λ x. IsTape x blocks start) front t1) in
    let r = length-take (n - length fed) (piece ++ more) in
    let a = length-append fed piece in
    omega arith

-- what a read gave, within its room
pub taken_more : (a b d : Option (List ℕ)) (reader : ReaderValue) (taken need room count : ℕ) (buffer : List ℕ) (t : IsTaking a b reader taken)
    → Consumes b d (take count buffer) → Needs reader need → room ≤ need → room + taken ≤ input_limit → count ≤ room → count ≤ length buffer
    → IsTaken a d (t.fed ++ take count buffer) × (length (t.fed ++ take count buffer) ≡ taken + count)
taken_more a b d reader taken need room count buffer t read needs fits limit few held =
    let l = length-append t.fed (take count buffer) in
    let k = length-take-le count buffer held in
    let c = t.counted in (
      record {
        consumed = Consumes-trans a b d t.fed (take count buffer) t.so_far.consumed read;
        within = omega arith;
        needed = needed-grow t.fed (take count buffer) reader need t.so_far.needed t.stands t.going needs (omega arith);
      },
      omega arith,
    )

consumes_kept : (a b d : Option (List ℕ)) (fed : List ℕ) → Consumes a b fed → Keeps b d → Consumes a d fed
consumes_kept None b d fed h k = tt
consumes_kept (Some xs) None d fed h k = absurd h
consumes_kept (Some xs) (Some ys) None fed h k = absurd k
consumes_kept (Some xs) (Some ys) (Some zs) fed h k = h ∙ ap (λ t. fed ++ t) (sym k)

-- a read failed
pub read_failed : (a b d : Option (List ℕ)) (reader : ReaderValue) (taken : ℕ) → IsTaking a b reader taken → Keeps b d → IsReadFrom a d (Err Io)
read_failed a b d reader taken t kept =
    let u = open_under_way reader t.fed t.going t.stands in
    let s = under_way_says t.fed reader.blocks reader.place reader.part u in
    record {
      taken = t.fed;
      consumed = consumes_kept a b d t.fed t.so_far.consumed kept;
      within = t.so_far.within;
      needed = t.so_far.needed;
      answer = (missing_fault t.fed reader.place, s.0, s.1);
    }

-- a growth was refused before a read
pub growth_refused : (a b : Option (List ℕ)) (reader : ReaderValue) (taken : ℕ) → IsTaking a b reader taken → IsReadFrom a b (Err NoMemory)
growth_refused a b reader taken t =
    record { taken = t.fed; consumed = t.so_far.consumed; within = t.so_far.within; needed = t.so_far.needed; answer = tt }

-- the reader refused a piece
pub piece_refused : (a d : Option (List ℕ)) (fed piece : List ℕ) (error : ReadError) → IsTaken a d (fed ++ piece) → IsFed fed piece (Err error)
    → IsReadFrom a d (Err (from_read_error error))
piece_refused a d fed piece (Tape fault) t f =
    record { taken = fed ++ piece; consumed = t.consumed; within = t.within; needed = t.needed; answer = (f.0, inr f.2) }
piece_refused a d fed piece Memory t f =
    record { taken = fed ++ piece; consumed = t.consumed; within = t.within; needed = t.needed; answer = tt }

-- the tape is whole
pub tape_taken : (a d : Option (List ℕ)) (fed : List ℕ) (taken : ℕ) (tape : TapeValue) → IsTaken a d fed → length fed ≡ taken → IsFinished fed (Ok tape)
    → IsReadFrom a d (Ok (tape, taken))
tape_taken a d fed taken tape t l f =
    let n : ℕ = f.0 in
    let within : n ≤ length fed = f.1.0 in
    let same : fed ++ [] ≡ fed = append-nil fed in
    let least : length fed ≤ n = t.needed [] n tape.blocks tape.start (subst (λ x. n ≤ length x) (sym same) within)
    (subst (λ x. IsTape (take n x) tape.blocks tape.start) (sym same) f.1.1) in
    record {
      taken = fed;
      consumed = t.consumed;
      within = t.within;
      needed = t.needed;
      answer = (l, subst (λ x. IsTape x tape.blocks tape.start) (take_all n fed least) f.1.1);
    }

-- and its blocks are placed
pub tape_laid : (a d : Option (List ℕ)) (fed : List ℕ) (tape : TapeValue) (layout : Layout) → IsTaken a d fed → length fed ≡ layout.size
    → IsFinished fed (Ok tape) → ArePlaced fed tape.blocks layout.places.items → IsReadWithLayout a d (Ok (tape, layout))
unfolding tape_taken
tape_laid a d fed tape layout t l f placed = record {
  reading = tape_taken a d fed layout.size tape t l f;
  laid = record { size_is = sym l; placed = placed };
}

-- no tape, and so no layout
pub none_laid : (a d : Option (List ℕ)) (error : FromError) → IsReadFrom a d (Err error) → IsReadWithLayout a d (Err error)
none_laid a d error r = record { reading = r; laid = tt }

-- no tape, at the end of what was fed: behind the last piece the input is over, since no tape ended in it
pub none_taken : (a d : Option (List ℕ)) (fed piece : List ℕ) (answer : Fed) (error : ReadError) → IsTaken a d (fed ++ piece) → IsFed fed piece (Ok answer)
    → IsFinished (fed ++ piece) (Err error) → (answer ≡ More → IsAtEnd d) → IsReadFrom a d (Err (from_read_error error))
none_taken a d fed piece More (Tape fault) t f g h =
    record { taken = fed ++ piece; consumed = t.consumed; within = t.within; needed = t.needed; answer = (g, inl (h refl)) }
none_taken a d fed piece (Done used) (Tape fault) t f g h =
    absurd (tape-not_refused (fed ++ piece) f.1 (f.0).blocks (f.0).start fault.at fault.why f.2.0 f.2.1 g)
none_taken a d fed piece answer Memory t f g h =
    record { taken = fed ++ piece; consumed = t.consumed; within = t.within; needed = t.needed; answer = tt }

-- an open reader was fed less than the most
pub still_less : (reader : ReaderValue) (fed : List ℕ) (taken : ℕ) → IsOpen reader → StandsAt reader fed → length fed ≡ taken → taken < input_limit
still_less reader fed taken going stands l = let u = open_under_way reader fed going stands in let w = u.within in omega arith
