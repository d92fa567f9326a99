-- From one point to the next.
use Rattle.std.proofs.Common.{◌≡◌, ◌≢◌, ℕ, zero, suc, ◌+◌, ◌-◌, ◌*◌, ◌/◌, ◌%◌, ◌<◌, ◌≤◌, ◌⊎◌, Bool, true, false, if◌then◌else◌, List, [], ◌∷◌, ◌++◌, length, get_or, map, Option, Some, None, inl, inr, refl, arith, ap, sym, subst, ◌∙◌, length-append, append_assoc, append-nil, ltb, lit<}
use Rattle.std.specs.Prelude.{nat_lt, ◌==◌, bit_and}
use Rattle.std.proofs.lemmas.Bool.Decides.{nat_tests}
use Rattle.std.proofs.lemmas.List.{get_or_append_left, get_or-append-add}
use Rattle.tape_image.specs.Memory.{byte_of, half, top_of}
use Rattle.odt_machine.specs.Machine.{IsWide, is_word, word_at}
use Rattle.processor.specs.Console.{Console}
use Rattle.processor.specs.Machine.{Machine, Runs, Halted}
use Rattle.processor.specs.Access.{with_byte}
use Rattle.processor.specs.Execution.{step, difference, halved, negative}
use Rattle.processor.specs.Operand.{Word, Byte}
use Rattle.processor.specs.Console.{status}
use Rattle.exchange_core.specs.declared.stretch.Stretch.{Stretch}
use Rattle.exchange_core.specs.Chunk.{is_nibble}
use Rattle.stub.specs.Words.{code, code_bytes, halt_bytes, table, stub_words}
use Rattle.exchange_core.specs.Stretch.{places_from, places}
use Rattle.stub.specs.Filling.{Filling, after, begun, taken, takes, with_nibble, answered, spelled}
use Rattle.stub.specs.Seen.{held}
use Rattle.stub.specs.Place.{AreThere, StretchesFit, stub_end}
use Rattle.stub.specs.Law.{waiting, seven, filled}
use Rattle.stub.proofs.Cuts.{first_place, no_place, fit_behind}
use Rattle.stub.proofs.Forms.{Has, behind, target, told_byte, halts, masks, mov_r3, mov_r5, mov_sp, next_r1, next_r0, mov_r0_r2, mov_r0_r1, com_r4, com_sp, bic_r4, sub_r4, add_r4, cmp_r4, cmp_r0_r1, cmp_r2_r0, asl_r3, asr_r4, add_r4_r3}
use Rattle.stub.proofs.Forms.{reads, reads_on, stores, tests_receiver, tests_transmitter, takes_character, gives_r4, br_byte, br_out, br_loop, br_next, beq_stop_goes, beq_stop_stays, beq_idle_goes, beq_idle_stays, beq_empty_goes, beq_empty_stays, bne_loop_goes, bne_loop_stays}
use Rattle.stub.proofs.Forms.{bpl_idle_goes, bpl_idle_stays, bpl_more_goes, bpl_more_stays, bpl_loop_goes, bpl_loop_stays, bpl_low_goes, bpl_low_stays, bhi_goes, bhi_stays_below, bhi_stays_at}
use Rattle.stub.proofs.Memory.{byte_other, table_behind, table_length, there_with, length_with, wide_with}
use Rattle.stub.proofs.Numbers.{on_test, seven_bits, low_bits, high_out, below_fifteen, at_fifteen, no_nibble, is_one, sentinel_small, shift1, shift2, shift3, shift4, joined, one_nibble, two_nibbles, status_sign, apart, together, same_address, below_it}
use Rattle.stub.proofs.Points.{Point, Start, SetTable, SetPhase, TakeEnd, TestEnd, TakeStart, KeepStart, NewByteQ, AskQ, AskedQ, ListenQ, ListenedQ, IdleQ, IdleTestedQ, EmptyQ, EmptyTestedQ, NewByte, Ask, Asked, Listen, Listened, Fetch, Seven, Lower, Compare, Judge, Shift1, Shift2, Shift3, Shift4, Join, Joined}
use Rattle.stub.proofs.Points.{Store, StoredBr, Bad1, Bad2, Idle, IdleTested, OutWait, OutWaited, Turn, Turned, ReadHigh, Half1, Half2, Half3, Half4, HighBr, ReadLow, Flip, Bits, Up, Send, SentBr, Empty, EmptyTested, Again, Stop}
use Rattle.stub.proofs.Points.{offset, dist, Listens, Advances, Stays, Took, Turns, Masked, Facts, Base, Row, Within, Getting, Behind, Owes, Filling_in, Full, Side, Waiting, Busy, HighFits, PlacesFit, all_spelled, low_first, sentinel}

-- the characters that come behind others
pub filled_more : (before : List ℕ) (stretches : List Stretch) (took late : List ℕ) → filled before stretches (took ++ late) ≡ after (filled before stretches took) (map seven late)
filled_more before stretches took late = both (begun before stretches) took
  where
    both : (f : Filling) (took : List ℕ) → after f (map seven (took ++ late)) ≡ after (after f (map seven took)) (map seven late)
    both f [] = refl
    both f (c ∷ took) = both (taken f (seven c)) took

module _ (place : ℕ) (stretches : List Stretch) (before waited : List ℕ) (room : place + 126 < 57344) (small : length before ≤ 28672) (fit : StretchesFit place (stub_end place stretches) (top_of before) stretches) where
  -- an address behind the stub's start moves on by a word
  by2 : (a n : ℕ) → a ≡ place + n → ltb n 125 ≡ true → behind a ≡ place + (n + 2)
  by2 a n is low = grind (arith, nat_tests)

  -- memory has the code's words
  has : {m : Machine} → Base place stretches before waited m → (i : ℕ) → ltb i 63 ≡ true → (a : ℕ) → a ≡ place + 2 * i → Has m.memory a (get_or (code place) i 0)
  has {m} base i low a is =
      let there = base.words i (within i low) in
      subst (λ x. Has m.memory x (get_or (code place) i 0)) (sym is) (there.0, there.1 ∙ get_or_append_left (code place) (table stretches) 0 i (inside i low))
    where
      inside : (i : ℕ) → ltb i 63 ≡ true → i < length (code place)
      inside i low = grind (arith, nat_tests)

      within : (i : ℕ) → ltb i 63 ≡ true → i < length (code place ++ table stretches)
      within i low = grind (arith, nat_tests)

  -- what lasts where neither memory nor the console changes
  abbrev based : (m m' : Machine) → Base place stretches before waited m → m'.console ≡ m.console → m'.memory ≡ m.memory → Base place stretches before waited m'
  based m m' base console memory = record {
    took = base.took;
    late = base.late;
    few = base.few;
    more = base.more;
    stub = base.stub;
    stub_is = base.stub_is;
    fetched = ap (λ (c : Console). c.fetched) console ∙ base.fetched;
    sent = base.sent ∙ ap (λ (c : Console). (c.gone ++ waiting c) ++ base.more) (sym console);
    memory = memory ∙ base.memory;
    words = subst (λ x. AreThere x place (stub_words place stretches)) (sym memory) base.words;
    size = ap length memory ∙ base.size;
    wide = subst IsWide (sym memory) base.wide;
    fit = base.fit;
    high = base.high;
  }

  -- an instruction leads to a machine at a point
  moves : (m m' : Machine) (old : Base place stretches before waited m) (p : Point) → step m ≡ m' → (base : Base place stretches before waited m') → m'.state ≡ Runs → (p' : Point) → m'.pc ≡ place + offset p' → Masked p' m'.masked →
      Facts place stretches (top_of before) p' base.stub base.late base.more m' →
      Stays place stretches before waited m m' old base ⊎ Took place stretches before waited m m' old base →
      ((Listens p → m.console.done ≡ true) → m.console.ready ≡ true → Advances m m' ⊎ ((m'.console ≡ m.console) × (dist p' m'.codes.n < dist p m.codes.n))) →
      (Listens p → m.console.done ≡ false → Listens p') →
      Turns place stretches before waited m old p (step m)
  moves m m' old p is base running p' pc masked facts way ahead listening =
      subst (Turns place stretches before waited m old p) (sym is) record {
        lasts = inl record { base = base; running = running; point = p'; pc = pc; masked = masked; facts = facts };
        way = way;
        ahead = ahead;
        listening = listening;
      }

  -- one that changes neither memory nor the console
  plain : (m m' : Machine) (base : Base place stretches before waited m) (p : Point) → step m ≡ m' → m'.console ≡ m.console → m'.memory ≡ m.memory → m'.state ≡ Runs → (p' : Point) →
      m'.pc ≡ place + offset p' → Masked p' m'.masked → Facts place stretches (top_of before) p' base.stub base.late base.more m' →
      ((Listens p → m.console.done ≡ true) → m.console.ready ≡ true → dist p' m'.codes.n < dist p m.codes.n) →
      (Listens p → m.console.done ≡ false → Listens p') →
      Turns place stretches before waited m base p (step m)
  plain m m' base p is console memory running p' pc masked facts nearer listening =
      moves m m' base p is (based m m' base console memory) running p' pc masked facts
      (inl record {
        stub = refl;
        came = ap (λ (c : Console). base.late ++ held c) console;
        out = ap (λ (c : Console). waiting c ++ base.more) console;
        gone = ap (λ (c : Console). c.gone) console;
      })
      (λ done ready. inr (console, nearer done ready)) listening

  -- ---- what every point's machine has

  short : {m : Machine} → Base place stretches before waited m → length m.memory ≤ 28672
  short {m} base = let same : length m.memory ≡ length before = base.size in omega arith

  low_address : (memory : List ℕ) (a w : ℕ) → Has memory a w → length memory ≤ 28672 → a < 57344
  low_address memory a w there few = low memory a there.0 few
    where
      low : (memory : List ℕ) (a : ℕ) → is_word memory a ≡ true → length memory ≤ 28672 → a < 57344
      low memory a is few = grind (arith, nat_tests)

  -- no address of memory passes sixteen bits
  narrow : (r : ℕ) → r ≤ top_of before → r < 65536
  narrow r below = omega arith

  -- the first word, and the second, of the rest of the table
  entry : {m : Machine} (base : Base place stretches before waited m) (left : List Stretch) (b a j : ℕ) → Row place stretches (top_of before) b a left → b ≡ 2 * j → j < length (table left) → Has m.memory a (get_or (table left) j 0)
  entry {m} base left b a j row twice inside =
      let n : ℕ = 2 * length row.front + j in
      let there = base.words (63 + n) (within (length row.front) j (length (table left)) (ap (λ ps. length (table ps)) row.all ∙ table_length row.front left) inside) in
      subst (λ x. Has m.memory x (get_or (table left) j 0)) (sym (where_it_is (length row.front) b a j row.at twice))
      (there.0, there.1 ∙ (get_or-append-add (code place) (table stretches) n 0 ∙ (ap (λ ps. get_or (table ps) n 0) row.all ∙ table_behind row.front left j)))
    where
      within : (f j t : ℕ) → length (table stretches) ≡ 2 * f + t → j < t → 63 + (2 * f + j) < length (code place ++ table stretches)
      within f j t is inside = omega arith

      where_it_is : (f b a j : ℕ) → a ≡ place + code_bytes + 4 * f + b → b ≡ 2 * j → a ≡ place + 2 * (63 + (2 * f + j))
      where_it_is f b a j at twice = omega arith

  low_in : {m : Machine} (base : Base place stretches before waited m) (a b : ℕ) → a < b → b ≤ top_of before → nat_lt a (top_of m.memory) ≡ true
  low_in {m} base a b less below = low a b (length m.memory) (length before) base.size less below
    where
      low : (a b n k : ℕ) → n ≡ k → a < b → b ≤ 2 * k → nat_lt a (2 * n) ≡ true
      low a b n k same less below = grind (arith, nat_tests)

  -- a byte begins
  begins : (f : Filling) (r0 r1 r5 : ℕ) → Within place stretches (top_of before) f.left r0 r1 r5 → r0 < r1 → Getting place stretches (top_of before) f r0 r1 r5
  begins f r0 r1 r5 within less = record {
    rest = places_from (r1 - (r0 + 1)) (r0 + 1) ++ places within.later;
    left = within.are ∙ ap (λ l. l ++ places within.later) (first_place r0 r1 less);
    below = less;
    within = record { later = within.later; are = refl; row = within.row; below = within.below };
  }

  both_not : (b : Bool) → b ≡ true → b ≡ false → ⊥
  both_not b is isnt = cc

  -- ---- what is owed

  narrow_less : (a b : ℕ) → a < b → b < 65536 → a < 65536
  narrow_less a b less small = omega arith

  byte_below : (memory : List ℕ) (a : ℕ) → IsWide memory → byte_of memory a < 256
  byte_below memory a wide = in_half a (word_at memory a) (wide (a / 2))
    where
      in_half : (a w : ℕ) → w < 65536 → half a w < 256
      in_half a w small = grind (arith, nat_tests)

  -- the next byte of a text
  next_byte : (memory : List ℕ) (a b : ℕ) → a < b → all_spelled memory a (b - a) ≡ answered (byte_of memory a / 16) ∷ low_first place stretches (top_of before) memory a b
  next_byte memory a b less = ap (all_spelled memory a) (count a b less)
    where
      count : (a b : ℕ) → a < b → b - a ≡ suc (b - (a + 1))
      count a b less = omega arith

  -- nothing is owed where all was sent
  none_spelled : (memory : List ℕ) (a b : ℕ) → a ≡ b → all_spelled memory a (b - a) ≡ []
  none_spelled memory a b is = ap (all_spelled memory a) (none a b is)
    where
      none : (a b : ℕ) → a ≡ b → b - a ≡ 0
      none a b is = omega arith

  nothing_owed : (memory : List ℕ) (r2 r0 sp : ℕ) (more : List ℕ) → r2 ≡ r0 → Owes place stretches (top_of before) memory r2 r0 sp more → (sp ≡ 0) × (more ≡ [])
  nothing_owed memory r2 r0 sp more same (le, inl (phase, all)) = (phase, all ∙ none_spelled memory r2 r0 same)
  nothing_owed memory r2 r0 sp more same (le, inr (phase, less, low)) = absurd (not_less r2 r0 same less)
    where
      not_less : (a b : ℕ) → a ≡ b → a < b → ⊥
      not_less a b is less = omega arith

  owes_none : (memory : List ℕ) (r2 r0 sp : ℕ) (more : List ℕ) → r2 ≡ r0 → sp ≡ 0 → more ≡ [] → Owes place stretches (top_of before) memory r2 r0 sp more
  owes_none memory r2 r0 sp more same phase none = (at_most r2 r0 same, inl (phase, none ∙ sym (none_spelled memory r2 r0 same)))
    where
      at_most : (a b : ℕ) → a ≡ b → a ≤ b
      at_most a b is = omega arith

  -- one more byte is owed
  spelled_more : (memory : List ℕ) (n a b : ℕ) → a + n ≡ b → all_spelled memory a (n + 1) ≡ all_spelled memory a n ++ spelled memory b
  spelled_more memory zero a b is = ap (λ x. answered (byte_of memory x / 16) ∷ answered (byte_of memory x % 16) ∷ []) (same a b is)
    where
      same : (a b : ℕ) → a + 0 ≡ b → a ≡ b
      same a b is = omega arith
  spelled_more memory (suc n) a b is =
      ap (all_spelled memory a) (one n) ∙ ap (λ list. answered (byte_of memory a / 16) ∷ answered (byte_of memory a % 16) ∷ list) (spelled_more memory n (a + 1) b (next a n b is))
    where
      one : (n : ℕ) → suc n + 1 ≡ suc (n + 1)
      one n = omega arith

      next : (a n b : ℕ) → a + suc n ≡ b → a + 1 + n ≡ b
      next a n b is = omega arith

  -- bytes below one that is written stay
  spelled_stays : (memory : List ℕ) (n a b v : ℕ) → IsWide memory → v < 256 → a + n ≤ b → all_spelled (with_byte memory b v) a n ≡ all_spelled memory a n
  spelled_stays memory zero a b v wide small le = refl
  spelled_stays memory (suc n) a b v wide small le =
      ap (λ x. answered (x / 16) ∷ answered (x % 16) ∷ all_spelled (with_byte memory b v) (a + 1) n) (byte_other memory b v a wide small (other a n b le))
      ∙ ap (λ list. answered (byte_of memory a / 16) ∷ answered (byte_of memory a % 16) ∷ list) (spelled_stays memory n (a + 1) b v wide small (next a n b le))
    where
      other : (a n b : ℕ) → a + suc n ≤ b → a ≢ b
      other a n b le same = omega arith

      next : (a n b : ℕ) → a + suc n ≤ b → a + 1 + n ≤ b
      next a n b le = omega arith

  owes_more : (memory : List ℕ) (r2 r0 sp v : ℕ) (more text : List ℕ) → IsWide memory → v < 256 → text ≡ spelled (with_byte memory r0 v) r0 → Owes place stretches (top_of before) memory r2 r0 sp more →
      Owes place stretches (top_of before) (with_byte memory r0 v) r2 (r0 + 1) sp (more ++ text)
  owes_more memory r2 r0 sp v more text wide small is (le, inl (phase, all)) = (
    up r2 r0 le,
    inl (
      phase,
      ap (λ list. list ++ text) (all ∙ sym (spelled_stays memory (r0 - r2) r2 r0 v wide small (whole r2 r0 le)))
          ∙ (ap (λ list. all_spelled (with_byte memory r0 v) r2 (r0 - r2) ++ list) is
          ∙ (sym (spelled_more (with_byte memory r0 v) (r0 - r2) r2 r0 (reach r2 r0 le)) ∙ ap (all_spelled (with_byte memory r0 v) r2) (counts r2 r0 le))),
    ),
  )
    where
      up : (a b : ℕ) → a ≤ b → a ≤ b + 1
      up a b le = omega arith

      whole : (a b : ℕ) → a ≤ b → a + (b - a) ≤ b
      whole a b le = omega arith

      reach : (a b : ℕ) → a ≤ b → a + (b - a) ≡ b
      reach a b le = omega arith

      counts : (a b : ℕ) → a ≤ b → b - a + 1 ≡ b + 1 - a
      counts a b le = omega arith
  owes_more memory r2 r0 sp v more text wide small is (le, inr (phase, less, low)) = (
    up r2 r0 le,
    inr (
      phase,
      more_than r2 r0 le,
      ap (λ list. list ++ text) (low
          ∙ (ap (λ x. answered (x % 16) ∷ all_spelled memory (r2 + 1) (r0 - (r2 + 1))) (sym (byte_other memory r0 v r2 wide small (other r2 r0 less)))
          ∙ ap (λ list. answered (byte_of (with_byte memory r0 v) r2 % 16) ∷ list) (sym (spelled_stays memory (r0 - (r2 + 1)) (r2 + 1) r0 v wide small (whole r2 r0 less)))))
          ∙ (ap (λ list. answered (byte_of (with_byte memory r0 v) r2 % 16) ∷ (all_spelled (with_byte memory r0 v) (r2 + 1) (r0 - (r2 + 1)) ++ list)) is
          ∙ ap (λ list. answered (byte_of (with_byte memory r0 v) r2 % 16) ∷ list) (sym (spelled_more (with_byte memory r0 v) (r0 - (r2 + 1)) (r2 + 1) r0 (reach r2 r0 less)) ∙ ap (all_spelled (with_byte memory r0 v) (r2 + 1)) (counts r2 r0 less))),
    ),
  )
    where
      up : (a b : ℕ) → a ≤ b → a ≤ b + 1
      up a b le = omega arith

      more_than : (a b : ℕ) → a ≤ b → a < b + 1
      more_than a b le = omega arith

      other : (a b : ℕ) → a < b → a ≢ b
      other a b less same = omega arith

      whole : (a b : ℕ) → a < b → a + 1 + (b - (a + 1)) ≤ b
      whole a b less = omega arith

      reach : (a b : ℕ) → a < b → a + 1 + (b - (a + 1)) ≡ b
      reach a b less = omega arith

      counts : (a b : ℕ) → a < b → b - (a + 1) + 1 ≡ b + 1 - (a + 1)
      counts a b less = omega arith

  -- at the loop it waits, or is busy
  looks : (f : Filling) (late more memory : List ℕ) (r0 r1 r2 r3 r5 sp : ℕ) → late ≡ [] → Owes place stretches (top_of before) memory r2 r0 sp more → Side place stretches (top_of before) f r0 r1 r3 r5 →
      Waiting place stretches (top_of before) f late more r0 r1 r2 r3 r5 sp ⊎ Busy place stretches (top_of before) f late more memory r0 r1 r2 r3 r5 sp
  looks f late more memory r0 r1 r2 r3 r5 sp none owes (inr full) = inr record { none = none; owes = owes; side = inr full }
  looks f late more memory r0 r1 r2 r3 r5 sp none owes (inl some) = elim (either r2 r0 owes.0) [
    | inl less ↦ inr record { none = none; owes = owes; side = inl (some, less) }
    | inr same ↦ inl record { quiet = (none, (nothing_owed memory r2 r0 sp more same owes).1); phase = (nothing_owed memory r2 r0 sp more same owes).0; side = some; same = same }
  ]
    where
      either : (a b : ℕ) → a ≤ b → (a < b) ⊎ (a ≡ b)
      either a b le = grind arith

  -- ---- each instruction

  at_start : (m : Machine) (base : Base place stretches before waited m) → m.state ≡ Runs → m.pc ≡ place + 0 → Facts place stretches (top_of before) Start base.stub base.late base.more m → Turns place stretches before waited m base Start (step m)
  at_start m base running pc facts =
      plain m _ base Start (masks m running (has base 0 refl m.pc pc) (has base 1 refl (behind m.pc) (by2 m.pc 0 pc refl))) refl refl running SetTable (by2 (behind m.pc) 2 (by2 m.pc 0 pc refl) refl) refl facts (λ _ _. lit< tt) (λ l _. absurd l)

  at_set_table : (m : Machine) (base : Base place stretches before waited m) → m.state ≡ Runs → m.pc ≡ place + 4 → m.masked ≡ true → Facts place stretches (top_of before) SetTable base.stub base.late base.more m → Turns place stretches before waited m base SetTable (step m)
  at_set_table m base running pc masked facts =
      plain m _ base SetTable (mov_r5 m (place + code_bytes) running (has base 2 refl m.pc pc) (has base 3 refl (behind m.pc) (by2 m.pc 4 pc refl))) refl refl running SetPhase (by2 (behind m.pc) 6 (by2 m.pc 4 pc refl) refl) masked facts (λ _ _. lit< tt) (λ l _. absurd l)

  at_set_phase : (m : Machine) (base : Base place stretches before waited m) → m.state ≡ Runs → m.pc ≡ place + 8 → m.masked ≡ true → Facts place stretches (top_of before) SetPhase base.stub base.late base.more m → Turns place stretches before waited m base SetPhase (step m)
  at_set_phase m base running pc masked facts =
      plain m _ base SetPhase (mov_sp m 0 running (has base 4 refl m.pc pc) (has base 5 refl (behind m.pc) (by2 m.pc 8 pc refl))) refl refl running TakeEnd (by2 (behind m.pc) 10 (by2 m.pc 8 pc refl) refl) masked (facts.0, refl, inr facts.1, inl (facts.2.later, facts.2.left, facts.2.row)) (λ _ _. lit< tt) (λ l _. absurd l)

  at_take_end : (m : Machine) (base : Base place stretches before waited m) → m.state ≡ Runs → m.pc ≡ place + 12 → m.masked ≡ true → Facts place stretches (top_of before) TakeEnd base.stub base.late base.more m → Turns place stretches before waited m base TakeEnd (step m)
  at_take_end m base running pc masked facts = by_behind facts.3
    where
      top_row : (front : List Stretch) (a : ℕ) → a ≡ place + code_bytes + 4 * length front + 0 → a < 57344 → behind a ≡ place + code_bytes + 4 * length front + 2
      top_row front a is low = omega arith

      to_halt : (a : ℕ) → a ≡ place + halt_bytes → a ≡ place + 2 * 62
      to_halt a is = omega arith

      whole_high : (stretch : Stretch) (later : List Stretch) (left : List ℕ) → left ≡ places (stretch ∷ later) → stretch.from < stretch.to → left ≡ [] → ⊥
      whole_high stretch later left is rising none = clash (sym none ∙ (is ∙ ap (λ l. l ++ places later) (first_place stretch.from stretch.to rising)))
        where
          clash : {a : ℕ} {xs : List ℕ} → [] ≡ a ∷ xs → ⊥
          clash e = absurd (cc e)

      by_later : (later : List Stretch) → base.stub.left ≡ places later → Row place stretches (top_of before) 0 m.r5 later → Turns place stretches before waited m base TakeEnd (step m)
      by_later [] is row =
          plain m _ base TakeEnd (next_r1 m 0 running (has base 6 refl m.pc pc) (entry base [] 0 m.r5 0 row (omega arith) (omega arith))) refl refl running TestEnd (by2 m.pc 12 pc refl) masked
          (facts.0, facts.1, inl (is, refl)) (λ _ _. lit< tt) (λ l _. absurd l)
      by_later (stretch ∷ later) is row =
          let fits : StretchesFit place (stub_end place stretches) (top_of before) (stretch ∷ later) = fit_behind place (stub_end place stretches) (top_of before) row.front (stretch ∷ later) (subst (StretchesFit place (stub_end place stretches) (top_of before)) row.all fit) in
          let there : Has m.memory m.r5 stretch.to = entry base (stretch ∷ later) 0 m.r5 0 row (omega arith) (omega arith) in
          plain m _ base TakeEnd (next_r1 m stretch.to running (has base 6 refl m.pc pc) there) refl refl running TestEnd (by2 m.pc 12 pc refl) masked (
            facts.0,
            facts.1,
            inr (
              not_zero stretch.from stretch.to fits.0.rising,
              elim facts.2 [ inl none ↦ absurd (whole_high stretch later base.stub.left is fits.0.rising none) | inr high ↦ high ],
              record {
                stretch = stretch;
                later = later;
                left = is;
                end = refl;
                row = record { front = row.front; all = row.all; at = top_row row.front m.r5 row.at (low_address m.memory m.r5 stretch.to there (short base)) };
              },
            ),
          ) (λ _ _. lit< tt) (λ l _. absurd l)
        where
          not_zero : (lo hi : ℕ) → lo < hi → (hi == 0) ≡ false
          not_zero lo hi less = grind (arith, nat_tests)

      by_behind : Behind place stretches (top_of before) base.stub.left m.r5 → Turns place stretches before waited m base TakeEnd (step m)
      by_behind (inl (later, is, row)) = by_later later is row
      by_behind (inr (none, at)) =
          plain m _ base TakeEnd (next_r1 m 0 running (has base 6 refl m.pc pc) (has base 62 refl m.r5 (to_halt m.r5 at))) refl refl running TestEnd (by2 m.pc 12 pc refl) masked
          (facts.0, facts.1, inl (none, refl)) (λ _ _. lit< tt) (λ l _. absurd l)

  at_test_end : (m : Machine) (base : Base place stretches before waited m) → m.state ≡ Runs → m.pc ≡ place + 14 → m.masked ≡ true → Facts place stretches (top_of before) TestEnd base.stub base.late base.more m → Turns place stretches before waited m base TestEnd (step m)
  at_test_end m base running pc masked facts = elim facts.2 [
    | inl end ↦ plain m _ base TestEnd (beq_stop_goes m running (has base 7 refl m.pc pc) end.1) refl refl running Stop (onto m.pc pc) masked (facts.0, end.0) (λ _ _. lit< tt) (λ l _. absurd l)
    | inr more ↦ plain m _ base TestEnd (beq_stop_stays m running (has base 7 refl m.pc pc) more.0) refl refl running TakeStart (by2 m.pc 14 pc refl) masked (facts.0, facts.1, more.1, more.2) (λ _ _. lit< tt) (λ l _. absurd l)
  ]
    where
      onto : (pc : ℕ) → pc ≡ place + 14 → target pc 0o66 ≡ place + 124
      onto pc is = omega arith

  at_take_start : (m : Machine) (base : Base place stretches before waited m) → m.state ≡ Runs → m.pc ≡ place + 16 → m.masked ≡ true → Facts place stretches (top_of before) TakeStart base.stub base.late base.more m → Turns place stretches before waited m base TakeStart (step m)
  at_take_start m base running pc masked facts =
      let half = facts.3 in
      let lo : ℕ = half.stretch.from in
      let hi : ℕ = half.stretch.to in
      let fits : StretchesFit place (stub_end place stretches) (top_of before) (half.stretch ∷ half.later) = fit_behind place (stub_end place stretches) (top_of before) half.row.front (half.stretch ∷ half.later) (subst (StretchesFit place (stub_end place stretches) (top_of before)) half.row.all fit) in
      let there : Has m.memory m.r5 lo = entry base (half.stretch ∷ half.later) 2 m.r5 1 half.row refl (omega arith) in
      plain m _ base TakeStart (next_r0 m lo running (has base 8 refl m.pc pc) there) refl refl running KeepStart (by2 m.pc 16 pc refl) masked (
        facts.0,
        facts.1,
        facts.2,
        record {
          rest = places_from (hi - (lo + 1)) (lo + 1) ++ places half.later;
          left = half.left ∙ ap (λ l. l ++ places half.later) (first_place lo hi fits.0.rising);
          below = less lo hi m.r1 half.end fits.0.rising;
          within = record {
            later = half.later;
            are = ap (λ e. places_from (e - (lo + 1)) (lo + 1) ++ places half.later) (sym half.end);
            row = record {
              front = half.row.front ++ half.stretch ∷ [];
              all = half.row.all ∙ sym (append_assoc half.row.front (half.stretch ∷ []) half.later);
              at = on_row (length half.row.front) (length (half.row.front ++ half.stretch ∷ [])) m.r5 (length-append half.row.front (half.stretch ∷ [])) half.row.at (low_address m.memory m.r5 lo there (short base));
            };
            below = under hi m.r1 half.end fits.0.below;
          };
        },
      ) (λ _ _. lit< tt) (λ l _. absurd l)
    where
      on_row : (n more a : ℕ) → more ≡ n + 1 → a ≡ place + code_bytes + 4 * n + 2 → a < 57344 → behind a ≡ place + code_bytes + 4 * more + 0
      on_row n more a is at low = omega arith

      under : (hi r : ℕ) → r ≡ hi → hi ≤ top_of before → r ≤ top_of before
      under hi r is below = omega arith

      less : (lo hi r : ℕ) → r ≡ hi → lo < hi → lo < r
      less lo hi r is rising = omega arith

  at_keep_start : (m : Machine) (base : Base place stretches before waited m) → m.state ≡ Runs → m.pc ≡ place + 18 → m.masked ≡ true → Facts place stretches (top_of before) KeepStart base.stub base.late base.more m → Turns place stretches before waited m base KeepStart (step m)
  at_keep_start m base running pc masked facts =
      plain m _ base KeepStart (mov_r0_r2 m running (has base 9 refl m.pc pc)) refl refl running NewByteQ (by2 m.pc 18 pc refl) masked (facts.0, facts.1, facts.2, facts.3, refl) (λ _ _. lit< tt) (λ l _. absurd l)

  at_new_byte_q : (m : Machine) (base : Base place stretches before waited m) → m.state ≡ Runs → m.pc ≡ place + 20 → m.masked ≡ true → Facts place stretches (top_of before) NewByteQ base.stub base.late base.more m → Turns place stretches before waited m base NewByteQ (step m)
  at_new_byte_q m base running pc masked facts =
      plain m _ base NewByteQ (mov_r3 m 128 running (has base 10 refl m.pc pc) (has base 11 refl (behind m.pc) (by2 m.pc 20 pc refl))) refl refl running AskQ (by2 (behind m.pc) 22 (by2 m.pc 20 pc refl) refl) masked record { quiet = facts.0; phase = facts.1; side = (facts.3, ap sentinel (sym facts.2)); same = facts.4 } (λ _ _. lit< tt) (λ l _. absurd l)

  at_ask_q : (m : Machine) (base : Base place stretches before waited m) → m.state ≡ Runs → m.pc ≡ place + 24 → m.masked ≡ true → Facts place stretches (top_of before) AskQ base.stub base.late base.more m → Turns place stretches before waited m base AskQ (step m)
  at_ask_q m base running pc masked facts =
      plain m _ base AskQ (cmp_r0_r1 m running (has base 12 refl m.pc pc)) refl refl running AskedQ (by2 m.pc 24 pc refl) masked (facts, apart m.r0 m.r1 facts.side.0.below (narrow m.r1 facts.side.0.within.below)) (λ _ _. lit< tt) (λ _ _. tt)

  at_asked_q : (m : Machine) (base : Base place stretches before waited m) → m.state ≡ Runs → m.pc ≡ place + 26 → m.masked ≡ true → Facts place stretches (top_of before) AskedQ base.stub base.late base.more m → Turns place stretches before waited m base AskedQ (step m)
  at_asked_q m base running pc masked facts =
      plain m _ base AskedQ (beq_idle_stays m running (has base 13 refl m.pc pc) facts.1) refl refl running ListenQ (by2 m.pc 26 pc refl) masked facts.0 (λ _ _. lit< tt) (λ _ _. tt)

  at_listen_q : (m : Machine) (base : Base place stretches before waited m) → m.state ≡ Runs → m.pc ≡ place + 28 → m.masked ≡ true → Facts place stretches (top_of before) ListenQ base.stub base.late base.more m → Turns place stretches before waited m base ListenQ (step m)
  at_listen_q m base running pc masked facts =
      plain m _ base ListenQ (tests_receiver m running (has base 14 refl m.pc pc) (has base 15 refl (behind m.pc) (by2 m.pc 28 pc refl)) (short base)) refl refl running ListenedQ (by2 (behind m.pc) 30 (by2 m.pc 28 pc refl) refl) masked (facts, λ e. sym (status_sign m.console.done) ∙ e) (λ done _. let d : m.console.done ≡ true = done tt in rw (status_sign m.console.done, d) (lit< tt)) (λ _ _. tt)

  at_listened_q : (m : Machine) (base : Base place stretches before waited m) → m.state ≡ Runs → m.pc ≡ place + 32 → m.masked ≡ true → Facts place stretches (top_of before) ListenedQ base.stub base.late base.more m → Turns place stretches before waited m base ListenedQ (step m)
  at_listened_q m base running pc masked facts =
      on_test (λ _. Turns place stretches before waited m base ListenedQ (step m)) m.codes.n
      (λ e. plain m _ base ListenedQ (bpl_idle_stays m running (has base 16 refl m.pc pc) e) refl refl running Fetch (by2 m.pc 32 pc refl) masked (facts.0.quiet.0, owes_none m.memory m.r2 m.r0 m.sp base.more facts.0.same facts.0.phase facts.0.quiet.1, facts.0.side, facts.1 e) (λ _ _. rw e (lit< tt)) (λ _ none. absurd (both_not m.console.done (facts.1 e) none)))
      (λ e. plain m _ base ListenedQ (bpl_idle_goes m running (has base 16 refl m.pc pc) e) refl refl running IdleQ (onto m.pc pc) masked facts.0 (λ _ _. rw e (lit< tt)) (λ _ _. tt))
    where
      onto : (pc : ℕ) → pc ≡ place + 32 → target pc 0o24 ≡ place + 74
      onto pc is = omega arith

  at_idle_q : (m : Machine) (base : Base place stretches before waited m) → m.state ≡ Runs → m.pc ≡ place + 74 → m.masked ≡ true → Facts place stretches (top_of before) IdleQ base.stub base.late base.more m → Turns place stretches before waited m base IdleQ (step m)
  at_idle_q m base running pc masked facts =
      plain m _ base IdleQ (cmp_r2_r0 m running (has base 37 refl m.pc pc)) refl refl running IdleTestedQ (by2 m.pc 74 pc refl) masked (facts, together m.r2 m.r0 facts.same (narrow_less m.r0 m.r1 facts.side.0.below (narrow m.r1 facts.side.0.within.below))) (λ _ _. lit< tt) (λ _ _. tt)

  at_idle_tested_q : (m : Machine) (base : Base place stretches before waited m) → m.state ≡ Runs → m.pc ≡ place + 76 → m.masked ≡ true → Facts place stretches (top_of before) IdleTestedQ base.stub base.late base.more m → Turns place stretches before waited m base IdleTestedQ (step m)
  at_idle_tested_q m base running pc masked facts =
      plain m _ base IdleTestedQ (beq_empty_goes m running (has base 38 refl m.pc pc) facts.1) refl refl running EmptyQ (onto m.pc pc) masked facts.0 (λ _ _. lit< tt) (λ _ _. tt)
    where
      onto : (pc : ℕ) → pc ≡ place + 76 → target pc 0o24 ≡ place + 118
      onto pc is = omega arith

  at_empty_q : (m : Machine) (base : Base place stretches before waited m) → m.state ≡ Runs → m.pc ≡ place + 118 → m.masked ≡ true → Facts place stretches (top_of before) EmptyQ base.stub base.late base.more m → Turns place stretches before waited m base EmptyQ (step m)
  at_empty_q m base running pc masked facts =
      plain m _ base EmptyQ (cmp_r0_r1 m running (has base 59 refl m.pc pc)) refl refl running EmptyTestedQ (by2 m.pc 118 pc refl) masked (facts, apart m.r0 m.r1 facts.side.0.below (narrow m.r1 facts.side.0.within.below)) (λ _ _. lit< tt) (λ _ _. tt)

  at_empty_tested_q : (m : Machine) (base : Base place stretches before waited m) → m.state ≡ Runs → m.pc ≡ place + 120 → m.masked ≡ true → Facts place stretches (top_of before) EmptyTestedQ base.stub base.late base.more m → Turns place stretches before waited m base EmptyTestedQ (step m)
  at_empty_tested_q m base running pc masked facts =
      plain m _ base EmptyTestedQ (bne_loop_goes m running (has base 60 refl m.pc pc) facts.1) refl refl running AskQ (onto m.pc pc) masked facts.0 (λ _ _. lit< tt) (λ _ _. tt)
    where
      onto : (pc : ℕ) → pc ≡ place + 120 → target pc 0o317 ≡ place + 24
      onto pc is = omega arith

  at_new_byte : (m : Machine) (base : Base place stretches before waited m) → m.state ≡ Runs → m.pc ≡ place + 20 → m.masked ≡ true → Facts place stretches (top_of before) NewByte base.stub base.late base.more m → Turns place stretches before waited m base NewByte (step m)
  at_new_byte m base running pc masked facts =
      plain m _ base NewByte (mov_r3 m 128 running (has base 10 refl m.pc pc) (has base 11 refl (behind m.pc) (by2 m.pc 20 pc refl))) refl refl running Ask (by2 (behind m.pc) 22 (by2 m.pc 20 pc refl) refl) masked record { none = facts.0; owes = facts.3; side = by_end (less_or m.r0 m.r1 facts.5) } (λ _ _. lit< tt) (λ l _. absurd l)
    where
      less_or : (a b : ℕ) → a ≤ b → (a < b) ⊎ (a ≡ b)
      less_or a b le = grind arith

      by_end : (m.r0 < m.r1) ⊎ (m.r0 ≡ m.r1) → (Filling_in place stretches (top_of before) base.stub m.r0 m.r1 128 m.r5 × (m.r2 < m.r0)) ⊎ Full place stretches (top_of before) base.stub m.r0 m.r1 m.r5
      by_end (inl less) = inl ((begins base.stub m.r0 m.r1 m.r5 facts.4 less, ap sentinel (sym facts.1)), facts.2)
      by_end (inr end) = inr (end, facts.4.below, inr facts.1, inl (facts.4.later, facts.4.are ∙ ap (λ ps. ps ++ places facts.4.later) (no_place m.r0 m.r1 (past m.r0 m.r1 end)), facts.4.row))
        where
          past : (a b : ℕ) → a ≡ b → b ≤ a
          past a b is = omega arith

  at_ask : (m : Machine) (base : Base place stretches before waited m) → m.state ≡ Runs → m.pc ≡ place + 24 → m.masked ≡ true → Facts place stretches (top_of before) Ask base.stub base.late base.more m → Turns place stretches before waited m base Ask (step m)
  at_ask m base running pc masked facts =
      plain m _ base Ask (cmp_r0_r1 m running (has base 12 refl m.pc pc)) refl refl running Asked (by2 m.pc 24 pc refl) masked (facts, refl) (λ _ _. lit< tt) (λ l _. absurd l)

  at_asked : (m : Machine) (base : Base place stretches before waited m) → m.state ≡ Runs → m.pc ≡ place + 26 → m.masked ≡ true → Facts place stretches (top_of before) Asked base.stub base.late base.more m → Turns place stretches before waited m base Asked (step m)
  at_asked m base running pc masked facts =
      on_test (λ _. Turns place stretches before waited m base Asked (step m)) m.codes.z
      (λ e. plain m _ base Asked (beq_idle_goes m running (has base 13 refl m.pc pc) e) refl refl running Idle (onto m.pc pc) masked facts.0 (λ _ _. lit< tt) (λ l _. absurd l))
      (λ e. plain m _ base Asked (beq_idle_stays m running (has base 13 refl m.pc pc) e) refl refl running Listen (by2 m.pc 26 pc refl) masked (facts.0.none, facts.0.owes, (not_full e facts.0.side).0, (not_full e facts.0.side).1) (λ _ _. lit< tt) (λ l _. absurd l))
    where
      not_full : m.codes.z ≡ false → (Filling_in place stretches (top_of before) base.stub m.r0 m.r1 m.r3 m.r5 × (m.r2 < m.r0)) ⊎ Full place stretches (top_of before) base.stub m.r0 m.r1 m.r5 → Filling_in place stretches (top_of before) base.stub m.r0 m.r1 m.r3 m.r5 × (m.r2 < m.r0)
      not_full e (inl some) = some
      not_full e (inr full) = absurd (both_not m.codes.z (facts.1 ∙ together m.r0 m.r1 full.0 (narrow m.r1 full.1)) e)

      onto : (pc : ℕ) → pc ≡ place + 26 → target pc 0o27 ≡ place + 74
      onto pc is = omega arith

  at_listen : (m : Machine) (base : Base place stretches before waited m) → m.state ≡ Runs → m.pc ≡ place + 28 → m.masked ≡ true → Facts place stretches (top_of before) Listen base.stub base.late base.more m → Turns place stretches before waited m base Listen (step m)
  at_listen m base running pc masked facts =
      plain m _ base Listen (tests_receiver m running (has base 14 refl m.pc pc) (has base 15 refl (behind m.pc) (by2 m.pc 28 pc refl)) (short base)) refl refl running Listened (by2 (behind m.pc) 30 (by2 m.pc 28 pc refl) refl) masked (facts.0, facts.1, facts.2, facts.3, λ e. sym (status_sign m.console.done) ∙ e) (λ _ _. soon (negative Byte (status m.console.done % 256))) (λ l _. absurd l)
    where
      soon : (n : Bool) → (if n then 2 else 17) < 18
      soon true = lit< tt
      soon false = lit< tt

  at_listened : (m : Machine) (base : Base place stretches before waited m) → m.state ≡ Runs → m.pc ≡ place + 32 → m.masked ≡ true → Facts place stretches (top_of before) Listened base.stub base.late base.more m → Turns place stretches before waited m base Listened (step m)
  at_listened m base running pc masked facts =
      on_test (λ _. Turns place stretches before waited m base Listened (step m)) m.codes.n
      (λ e. plain m _ base Listened (bpl_idle_stays m running (has base 16 refl m.pc pc) e) refl refl running Fetch (by2 m.pc 32 pc refl) masked (facts.0, facts.1, facts.2, facts.4 e) (λ _ _. rw e (lit< tt)) (λ l _. absurd l))
      (λ e. plain m _ base Listened (bpl_idle_goes m running (has base 16 refl m.pc pc) e) refl refl running Idle (onto m.pc pc) masked record { none = facts.0; owes = facts.1; side = inl (facts.2, facts.3) } (λ _ _. rw e (lit< tt)) (λ l _. absurd l))
    where
      onto : (pc : ℕ) → pc ≡ place + 32 → target pc 0o24 ≡ place + 74
      onto pc is = omega arith

  at_fetch : (m : Machine) (base : Base place stretches before waited m) → m.state ≡ Runs → m.pc ≡ place + 34 → m.masked ≡ true → Facts place stretches (top_of before) Fetch base.stub base.late base.more m → Turns place stretches before waited m base Fetch (step m)
  at_fetch m base running pc masked facts =
      moves m _ base Fetch (takes_character m running (has base 17 refl m.pc pc) (has base 18 refl (behind m.pc) (by2 m.pc 34 pc refl)) (short base) facts.3)
      record {
        took = base.took;
        late = m.console.came ∷ [];
        few = omega arith;
        more = base.more;
        stub = base.stub;
        stub_is = base.stub_is;
        fetched = fetched m.console.fetched base.took base.late m.console.came base.fetched facts.0;
        sent = base.sent;
        memory = base.memory;
        words = base.words;
        size = base.size;
        wide = base.wide;
        fit = base.fit;
        high = base.high;
      }
      running Seven (by2 (behind m.pc) 36 (by2 m.pc 34 pc refl) refl) masked
      (record { getting = facts.2.0; character = m.console.came; alone = refl }, facts.2.1, refl, facts.1)
      (inl record {
        stub = refl;
        out = refl;
        gone = refl;
        came = sym (ap (λ on. base.late ++ (if on then m.console.came ∷ [] else [])) facts.3 ∙ ap (λ l. l ++ m.console.came ∷ []) facts.0);
      })
      (λ _ _. inl (inr (inl (facts.3, refl)))) (λ l _. absurd l)
    where
      fetched : (all took late : List ℕ) (c : ℕ) → all ≡ took ++ late → late ≡ [] → all ++ c ∷ [] ≡ took ++ c ∷ []
      fetched all took late c is none = rw (is, none, append-nil) refl

  at_seven : (m : Machine) (base : Base place stretches before waited m) → m.state ≡ Runs → m.pc ≡ place + 38 → m.masked ≡ true → Facts place stretches (top_of before) Seven base.stub base.late base.more m → Turns place stretches before waited m base Seven (step m)
  at_seven m base running pc masked facts =
      plain m _ base Seven (bic_r4 m 0o177600 running (has base 19 refl m.pc pc) (has base 20 refl (behind m.pc) (by2 m.pc 38 pc refl))) refl refl running Lower (by2 (behind m.pc) 40 (by2 m.pc 38 pc refl) refl) masked
      (facts.0, facts.1, ap (λ r. bit_and r 127) facts.2 ∙ seven_bits facts.0.character, facts.3) (λ _ _. lit< tt) (λ l _. absurd l)

  at_lower : (m : Machine) (base : Base place stretches before waited m) → m.state ≡ Runs → m.pc ≡ place + 42 → m.masked ≡ true → Facts place stretches (top_of before) Lower base.stub base.late base.more m → Turns place stretches before waited m base Lower (step m)
  at_lower m base running pc masked facts =
      plain m _ base Lower (sub_r4 m 0o140 running (has base 21 refl m.pc pc) (has base 22 refl (behind m.pc) (by2 m.pc 42 pc refl))) refl refl running Compare (by2 (behind m.pc) 44 (by2 m.pc 42 pc refl) refl) masked (facts.0, facts.1, ap (λ r. difference r 96) facts.2, facts.3) (λ _ _. lit< tt) (λ l _. absurd l)

  at_compare : (m : Machine) (base : Base place stretches before waited m) → m.state ≡ Runs → m.pc ≡ place + 46 → m.masked ≡ true → Facts place stretches (top_of before) Compare base.stub base.late base.more m → Turns place stretches before waited m base Compare (step m)
  at_compare m base running pc masked facts =
      plain m _ base Compare (cmp_r4 m 0o17 running (has base 23 refl m.pc pc) (has base 24 refl (behind m.pc) (by2 m.pc 46 pc refl))) refl refl running Judge (by2 (behind m.pc) 48 (by2 m.pc 46 pc refl) refl) masked (facts.0, facts.1, facts.2, refl, refl, facts.3) (λ _ _. lit< tt) (λ l _. absurd l)

  -- ---- the stub as the host knows it takes the character that was late

  abbrev eaten : (m m' : Machine) (base : Base place stretches before waited m) (stub : Filling) (more : List ℕ) → after base.stub (map seven base.late) ≡ stub → m'.console ≡ m.console →
      m'.memory ≡ stub.memory → AreThere m'.memory place (stub_words place stretches) → length m'.memory ≡ length before → IsWide m'.memory →
      PlacesFit place (stub_end place stretches) (top_of before) stub.left → HighFits stub.high → waited ++ stub.answers ≡ (m.console.gone ++ waiting m.console) ++ more →
      Base place stretches before waited m'
  eaten m m' base stub more is console memory words size wide fit high sent = record {
    took = base.took ++ base.late;
    late = [];
    few = omega arith;
    more = more;
    stub = stub;
    stub_is = sym is ∙ (ap (λ f. after f (map seven base.late)) base.stub_is ∙ sym (filled_more before stretches base.took base.late));
    fetched = ap (λ (c : Console). c.fetched) console ∙ (base.fetched ∙ sym (append-nil (base.took ++ base.late)));
    sent = sent ∙ ap (λ (c : Console). (c.gone ++ waiting c) ++ more) (sym console);
    memory = memory;
    words = words;
    size = size;
    wide = wide;
    fit = fit;
    high = high;
  }

  -- a nibble is taken
  takes_nibble : (f : Filling) (a : ℕ) (rest : List ℕ) (c n : ℕ) → f.left ≡ a ∷ rest → c ≡ 96 + n → n < 16 → taken f c ≡ with_nibble f f.high n a rest
  takes_nibble f a rest c n left is small =
      ap (λ l. takes f l c) left
      ∙ (ap (λ b. if b then with_nibble f f.high (c - 96) a rest else record f { left = [] }) (ap is_nibble is ∙ is_one n small)
      ∙ ap (λ k. with_nibble f f.high k a rest) (again c n is))
    where
      again : (c n : ℕ) → c ≡ 96 + n → c - 96 ≡ n
      again c n is = omega arith

  at_judge : (m : Machine) (base : Base place stretches before waited m) → m.state ≡ Runs → m.pc ≡ place + 50 → m.masked ≡ true → Facts place stretches (top_of before) Judge base.stub base.late base.more m → Turns place stretches before waited m base Judge (step m)
  at_judge m base running pc masked facts =
      on_test (λ _. Turns place stretches before waited m base Judge (step m)) m.codes.c
      (λ c. let is = below_fifteen (seven facts.0.character) m.r4 (seven_small facts.0.character) facts.2 (sym facts.4 ∙ c) in
      plain m _ base Judge (bhi_stays_below m running (has base 25 refl m.pc pc) c) refl refl running Shift1 (by2 m.pc 50 pc refl) masked (record { fetched = facts.0; is = is.0; small = is.1 }, facts.1, facts.5) (λ _ _. lit< tt) (λ l _. absurd l))
      (λ c. on_test (λ _. Turns place stretches before waited m base Judge (step m)) m.codes.z
      (λ z. let is = at_fifteen (seven facts.0.character) m.r4 (seven_small facts.0.character) facts.2 (sym facts.3 ∙ z) in
      plain m _ base Judge (bhi_stays_at m running (has base 25 refl m.pc pc) c z) refl refl running Shift1 (by2 m.pc 50 pc refl) masked (record { fetched = facts.0; is = is.0; small = is.1 }, facts.1, facts.5) (λ _ _. lit< tt) (λ l _. absurd l))
      (λ z. let getting = facts.0.getting in
      let taking : after base.stub (map seven base.late) ≡ record base.stub { left = [] } = ends base.stub base.late facts.0.character m.r0 getting.rest facts.0.alone getting.left
      (no_nibble (seven facts.0.character) m.r4 (seven_small facts.0.character) facts.2 (sym facts.4 ∙ c) (sym facts.3 ∙ z)) in
      moves m _ base Judge (bhi_goes m running (has base 25 refl m.pc pc) c z)
      (eaten m (record m { pc = target m.pc 0o10 }) base (record base.stub { left = [] }) base.more taking refl base.memory base.words base.size base.wide tt base.high base.sent)
      running Bad1 (onto m.pc pc) masked (refl, refl, at_most m.r0 m.r1 getting.below getting.within.below, facts.5)
      (inr record {
        character = facts.0.character;
        late = facts.0.alone;
        address = m.r0;
        rest = getting.rest;
        under = getting.left;
        stub = sym taking ∙ ap (λ l. after base.stub (map seven l)) facts.0.alone;
        came = refl;
        text = [];
        answers = sym (append-nil base.stub.answers);
        gone = refl;
        out = sym (append-nil (waiting m.console ++ base.more));
      })
      (λ _ _. inr (refl, lit< tt)) (λ l _. absurd l)))
    where
      seven_small : (c : ℕ) → seven c < 128
      seven_small c = omega arith

      at_most : (a b : ℕ) → a < b → b ≤ top_of before → a ≤ top_of before
      at_most a b less below = omega arith

      ends : (f : Filling) (late : List ℕ) (c a : ℕ) (rest : List ℕ) → late ≡ c ∷ [] → f.left ≡ a ∷ rest → is_nibble (seven c) ≡ false →
          after f (map seven late) ≡ record f { left = [] }
      ends f late c a rest alone left other = rw (alone, left, other) refl

      onto : (pc : ℕ) → pc ≡ place + 50 → target pc 0o10 ≡ place + 68
      onto pc is = omega arith

  at_shift1 : (m : Machine) (base : Base place stretches before waited m) → m.state ≡ Runs → m.pc ≡ place + 52 → m.masked ≡ true → Facts place stretches (top_of before) Shift1 base.stub base.late base.more m → Turns place stretches before waited m base Shift1 (step m)
  at_shift1 m base running pc masked facts =
      plain m _ base Shift1 (asl_r3 m running (has base 26 refl m.pc pc)) refl refl running Shift2 (by2 m.pc 52 pc refl) masked (facts.0, shift1 (sentinel base.stub.high) m.r3 (sentinel_small base.stub.high base.high) facts.1, facts.2) (λ _ _. lit< tt) (λ l _. absurd l)

  at_shift2 : (m : Machine) (base : Base place stretches before waited m) → m.state ≡ Runs → m.pc ≡ place + 54 → m.masked ≡ true → Facts place stretches (top_of before) Shift2 base.stub base.late base.more m → Turns place stretches before waited m base Shift2 (step m)
  at_shift2 m base running pc masked facts =
      plain m _ base Shift2 (asl_r3 m running (has base 27 refl m.pc pc)) refl refl running Shift3 (by2 m.pc 54 pc refl) masked (facts.0, shift2 (sentinel base.stub.high) m.r3 (sentinel_small base.stub.high base.high) facts.1, facts.2) (λ _ _. lit< tt) (λ l _. absurd l)

  at_shift3 : (m : Machine) (base : Base place stretches before waited m) → m.state ≡ Runs → m.pc ≡ place + 56 → m.masked ≡ true → Facts place stretches (top_of before) Shift3 base.stub base.late base.more m → Turns place stretches before waited m base Shift3 (step m)
  at_shift3 m base running pc masked facts =
      plain m _ base Shift3 (asl_r3 m running (has base 28 refl m.pc pc)) refl refl running Shift4 (by2 m.pc 56 pc refl) masked (facts.0, shift3 (sentinel base.stub.high) m.r3 (sentinel_small base.stub.high base.high) facts.1, facts.2) (λ _ _. lit< tt) (λ l _. absurd l)

  at_shift4 : (m : Machine) (base : Base place stretches before waited m) → m.state ≡ Runs → m.pc ≡ place + 58 → m.masked ≡ true → Facts place stretches (top_of before) Shift4 base.stub base.late base.more m → Turns place stretches before waited m base Shift4 (step m)
  at_shift4 m base running pc masked facts =
      plain m _ base Shift4 (asl_r3 m running (has base 29 refl m.pc pc)) refl refl running Join (by2 m.pc 58 pc refl) masked (facts.0, shift4 (sentinel base.stub.high) m.r3 (sentinel_small base.stub.high base.high) facts.1, facts.2) (λ _ _. lit< tt) (λ l _. absurd l)

  at_join : (m : Machine) (base : Base place stretches before waited m) → m.state ≡ Runs → m.pc ≡ place + 60 → m.masked ≡ true → Facts place stretches (top_of before) Join base.stub base.late base.more m → Turns place stretches before waited m base Join (step m)
  at_join m base running pc masked facts =
      plain m _ base Join (add_r4_r3 m running (has base 30 refl m.pc pc)) refl refl running Joined (by2 m.pc 60 pc refl) masked
      (facts.0, joined (sentinel base.stub.high) m.r3 m.r4 (sentinel_small base.stub.high base.high) facts.1 facts.0.small, refl, facts.2) (λ _ _. lit< tt) (λ l _. absurd l)

  at_joined : (m : Machine) (base : Base place stretches before waited m) → m.state ≡ Runs → m.pc ≡ place + 62 → m.masked ≡ true → Facts place stretches (top_of before) Joined base.stub base.late base.more m → Turns place stretches before waited m base Joined (step m)
  at_joined m base running pc masked facts = by_high base.stub.high refl
    where
      onto : (pc : ℕ) → pc ≡ place + 62 → target pc 0o354 ≡ place + 24
      onto pc is = omega arith

      first : (r n : ℕ) → r ≡ 16 * 128 + n → r ≡ 2048 + n
      first r n is = omega arith

      by_high : (high : Option ℕ) → base.stub.high ≡ high → Turns place stretches before waited m base Joined (step m)
      by_high None is =
          let nibble = facts.0 in
          let fetched = nibble.fetched in
          let getting = fetched.getting in
          let r3 : m.r3 ≡ 16 * 128 + m.r4 = facts.1 ∙ ap (λ h. 16 * sentinel h + m.r4) is in
          let stub : Filling = record base.stub { high = Some m.r4 } in
          let taking : after base.stub (map seven base.late) ≡ stub =
          ap (λ l. after base.stub (map seven l)) fetched.alone
          ∙ (takes_nibble base.stub m.r0 getting.rest (seven fetched.character) m.r4 getting.left nibble.is nibble.small ∙ ap (λ h. with_nibble base.stub h m.r4 m.r0 getting.rest) is) in
          let side : Filling_in place stretches (top_of before) stub m.r0 m.r1 m.r3 m.r5 = (record { rest = getting.rest; left = getting.left; below = getting.below; within = getting.within }, first m.r3 m.r4 r3) in
          let goes = bpl_more_goes m running (has base 31 refl m.pc pc) (facts.2 ∙ one_nibble m.r4 m.r3 nibble.small r3) in
          elim (looks stub [] base.more m.memory m.r0 m.r1 m.r2 m.r3 m.r5 m.sp refl facts.3 (inl side)) [
            | inl waiting_now ↦ moves m _ base Joined goes (eaten m (record m { pc = target m.pc 0o354 }) base stub base.more taking refl base.memory base.words base.size base.wide base.fit nibble.small base.sent)
                running AskQ (onto m.pc pc) masked waiting_now (inr (took getting.left nibble.fetched.alone taking)) (λ _ _. inr (refl, lit< tt)) (λ l _. absurd l)
            | inr busy ↦ moves m _ base Joined goes (eaten m (record m { pc = target m.pc 0o354 }) base stub base.more taking refl base.memory base.words base.size base.wide base.fit nibble.small base.sent)
                running Ask (onto m.pc pc) masked busy (inr (took getting.left nibble.fetched.alone taking)) (λ _ _. inr (refl, lit< tt)) (λ l _. absurd l)
          ]
        where
          took : base.stub.left ≡ m.r0 ∷ facts.0.fetched.getting.rest → (alone : base.late ≡ facts.0.fetched.character ∷ []) → (taking : after base.stub (map seven base.late) ≡ record base.stub { high = Some m.r4 }) →
              Took place stretches before waited m (record m { pc = target m.pc 0o354 }) base
              (eaten m (record m { pc = target m.pc 0o354 }) base (record base.stub { high = Some m.r4 }) base.more taking refl base.memory base.words base.size base.wide base.fit facts.0.small base.sent)
          took left alone taking = record {
            character = facts.0.fetched.character;
            late = alone;
            address = m.r0;
            rest = facts.0.fetched.getting.rest;
            under = left;
            stub = sym taking ∙ ap (λ l. after base.stub (map seven l)) alone;
            came = refl;
            text = [];
            answers = sym (append-nil base.stub.answers);
            gone = refl;
            out = sym (append-nil (waiting m.console ++ base.more));
          }
      by_high (Some h) is =
          let nibble = facts.0 in
          let small : h < 16 = subst HighFits is base.high in
          let r3 : m.r3 ≡ 16 * (2048 + h) + m.r4 = facts.1 ∙ ap (λ h. 16 * sentinel h + m.r4) is in
          let both = two_nibbles h m.r4 m.r3 small nibble.small r3 in
          plain m _ base Joined (bpl_more_stays m running (has base 31 refl m.pc pc) (facts.2 ∙ both.0)) refl refl running Store (by2 m.pc 62 pc refl) masked (facts.0, (h, is, small, both.1), facts.3) (λ _ _. lit< tt) (λ l _. absurd l)

  -- ---- a byte is stored

  -- the stub as the host knows it behind a byte
  abbrev stored_in : Filling → List ℕ → ℕ → List ℕ → Filling
  stored_in f memory a rest = record { memory = memory; left = rest; high = None; answers = f.answers ++ spelled memory a }

  at_store : (m : Machine) (base : Base place stretches before waited m) → m.state ≡ Runs → m.pc ≡ place + 64 → m.masked ≡ true → Facts place stretches (top_of before) Store base.stub base.late base.more m → Turns place stretches before waited m base Store (step m)
  at_store m base running pc masked facts =
      let nibble = facts.0 in
      let getting = nibble.fetched.getting in
      let h = facts.1.0 in
      let v : ℕ = 16 * h + m.r4 in
      let value : m.r3 % 256 ≡ v = byte_is m.r3 h m.r4 facts.1.2 nibble.small facts.1.3 in
      let fits : PlacesFit place (stub_end place stretches) (top_of before) (m.r0 ∷ getting.rest) = subst (PlacesFit place (stub_end place stretches) (top_of before)) getting.left base.fit in
      let memory : List ℕ = with_byte base.stub.memory m.r0 v in
      let now : List ℕ = with_byte m.memory m.r0 (m.r3 % 256) in
      let same : with_byte m.memory m.r0 (m.r3 % 256) ≡ memory =
      ap (λ x. with_byte x m.r0 (m.r3 % 256)) base.memory ∙ ap (λ n. with_byte base.stub.memory m.r0 n) value in
      let words : AreThere (with_byte m.memory m.r0 (m.r3 % 256)) place (stub_words place stretches) =
      there_with m.memory place (stub_words place stretches) m.r0 (m.r3 % 256) base.words fits.0.apart in
      let size : length (with_byte m.memory m.r0 (m.r3 % 256)) ≡ length before = length_with m.memory m.r0 (m.r3 % 256) ∙ base.size in
      let wide : IsWide (with_byte m.memory m.r0 (m.r3 % 256)) = wide_with m.memory m.r0 (m.r3 % 256) base.wide (byte_small m.r3) in
      let stub : Filling = stored_in base.stub memory m.r0 getting.rest in
      let taking : after base.stub (map seven base.late) ≡ stub =
      ap (λ l. after base.stub (map seven l)) nibble.fetched.alone
      ∙ (takes_nibble base.stub m.r0 getting.rest (seven nibble.fetched.character) m.r4 getting.left nibble.is nibble.small
      ∙ ap (λ h. with_nibble base.stub h m.r4 m.r0 getting.rest) facts.1.1) in
      let next : (m.r0 + 1) % 65536 ≡ m.r0 + 1 = moved m.r0 m.r1 getting.below (narrow m.r1 getting.within.below) in
      let owes : Owes place stretches (top_of before) now m.r2 (m.r0 + 1) m.sp (base.more ++ spelled memory m.r0) =
      owes_more m.memory m.r2 m.r0 m.sp (m.r3 % 256) base.more (spelled memory m.r0) base.wide (byte_small m.r3) (ap (λ x. spelled x m.r0) (sym same)) facts.2 in
      moves m _ base Store (stores m running (has base 32 refl m.pc pc) (low_in base m.r0 (top_of before) fits.0.below (at_top (top_of before))))
      (eaten m (record m { r0 = (m.r0 + 1) % 65536; pc = behind m.pc; memory = with_byte m.memory m.r0 (m.r3 % 256); codes = told_byte (m.r3 % 256) m.codes.c }) base stub (base.more ++ spelled memory m.r0) taking refl same words size wide fits.1 tt
      (answering waited base.stub.answers (m.console.gone ++ waiting m.console) base.more (spelled memory m.r0) base.sent))
      running StoredBr (by2 m.pc 64 pc refl) masked (
        refl,
        refl,
        up_one m.r2 m.r0 next facts.2.0,
        subst (λ a. Owes place stretches (top_of before) now m.r2 a m.sp (base.more ++ spelled memory m.r0)) (sym next) owes,
        subst (λ a. Within place stretches (top_of before) getting.rest a m.r1 m.r5) (sym next) getting.within,
        up_to m.r0 m.r1 next getting.below,
      )
      (inr record {
        character = nibble.fetched.character;
        late = nibble.fetched.alone;
        address = m.r0;
        rest = getting.rest;
        under = getting.left;
        stub = sym taking ∙ ap (λ l. after base.stub (map seven l)) nibble.fetched.alone;
        came = refl;
        text = spelled memory m.r0;
        answers = refl;
        gone = refl;
        out = sym (append_assoc (waiting m.console) base.more (spelled memory m.r0));
      })
      (λ _ _. inr (refl, lit< tt)) (λ l _. absurd l)
    where
      byte_is : (r h n : ℕ) → h < 16 → n < 16 → r ≡ 32768 + 16 * h + n → r % 256 ≡ 16 * h + n
      byte_is r h n high low is = omega arith

      byte_small : (r : ℕ) → r % 256 < 256
      byte_small r = omega arith

      at_top : (n : ℕ) → n ≤ n
      at_top n = omega arith

      moved : (a b : ℕ) → a < b → b < 65536 → (a + 1) % 65536 ≡ a + 1
      moved a b less small = omega arith

      up_one : (a b : ℕ) → (b + 1) % 65536 ≡ b + 1 → a ≤ b → a < (b + 1) % 65536
      up_one a b is le = omega arith

      up_to : (a b : ℕ) → (a + 1) % 65536 ≡ a + 1 → a < b → (a + 1) % 65536 ≤ b
      up_to a b is less = omega arith

      answering : (w a g more text : List ℕ) → w ++ a ≡ g ++ more → w ++ (a ++ text) ≡ g ++ (more ++ text)
      answering w a g more text is = sym (append_assoc w a text) ∙ (ap (λ x. x ++ text) is ∙ append_assoc g more text)

  at_stored_br : (m : Machine) (base : Base place stretches before waited m) → m.state ≡ Runs → m.pc ≡ place + 66 → m.masked ≡ true → Facts place stretches (top_of before) StoredBr base.stub base.late base.more m → Turns place stretches before waited m base StoredBr (step m)
  at_stored_br m base running pc masked facts =
      plain m _ base StoredBr (br_byte m running (has base 33 refl m.pc pc)) refl refl running NewByte (onto m.pc pc) masked facts (λ _ _. lit< tt) (λ l _. absurd l)
    where
      onto : (pc : ℕ) → pc ≡ place + 66 → target pc 0o350 ≡ place + 20
      onto pc is = omega arith

  at_bad_1 : (m : Machine) (base : Base place stretches before waited m) → m.state ≡ Runs → m.pc ≡ place + 68 → m.masked ≡ true → Facts place stretches (top_of before) Bad1 base.stub base.late base.more m → Turns place stretches before waited m base Bad1 (step m)
  at_bad_1 m base running pc masked facts =
      plain m _ base Bad1 (mov_r0_r1 m running (has base 34 refl m.pc pc)) refl refl running Bad2 (by2 m.pc 68 pc refl) masked (facts.0, facts.1, facts.2, refl, facts.3) (λ _ _. lit< tt) (λ l _. absurd l)

  at_bad_2 : (m : Machine) (base : Base place stretches before waited m) → m.state ≡ Runs → m.pc ≡ place + 70 → m.masked ≡ true → Facts place stretches (top_of before) Bad2 base.stub base.late base.more m → Turns place stretches before waited m base Bad2 (step m)
  at_bad_2 m base running pc masked facts =
      plain m _ base Bad2 (mov_r5 m (place + halt_bytes) running (has base 35 refl m.pc pc) (has base 36 refl (behind m.pc) (by2 m.pc 70 pc refl))) refl refl running Idle (by2 (behind m.pc) 72 (by2 m.pc 70 pc refl) refl) masked record { none = facts.0; owes = facts.4; side = inr (facts.3, rw (sym facts.3) facts.2, inl facts.1, inr (facts.1, refl)) } (λ _ _. lit< tt) (λ l _. absurd l)

  at_idle : (m : Machine) (base : Base place stretches before waited m) → m.state ≡ Runs → m.pc ≡ place + 74 → m.masked ≡ true → Facts place stretches (top_of before) Idle base.stub base.late base.more m → Turns place stretches before waited m base Idle (step m)
  at_idle m base running pc masked facts =
      plain m _ base Idle (cmp_r2_r0 m running (has base 37 refl m.pc pc)) refl refl running IdleTested (by2 m.pc 74 pc refl) masked (facts, refl) (λ _ _. lit< tt) (λ l _. absurd l)

  at_idle_tested : (m : Machine) (base : Base place stretches before waited m) → m.state ≡ Runs → m.pc ≡ place + 76 → m.masked ≡ true → Facts place stretches (top_of before) IdleTested base.stub base.late base.more m → Turns place stretches before waited m base IdleTested (step m)
  at_idle_tested m base running pc masked facts =
      on_test (λ _. Turns place stretches before waited m base IdleTested (step m)) m.codes.z
      (λ e. plain m _ base IdleTested (beq_empty_goes m running (has base 38 refl m.pc pc) e) refl refl running Empty (onto m.pc pc) masked (at_end e) (λ _ _. lit< tt) (λ l _. absurd l))
      (λ e. plain m _ base IdleTested (beq_empty_stays m running (has base 38 refl m.pc pc) e) refl refl running OutWait (by2 m.pc 76 pc refl) masked (facts.0, below_it m.r2 m.r0 facts.0.owes.0 (low_r0 facts.0.side) (sym facts.1 ∙ e)) (λ _ _. lit< tt) (λ l _. absurd l))
    where
      low_r0 : (Filling_in place stretches (top_of before) base.stub m.r0 m.r1 m.r3 m.r5 × (m.r2 < m.r0)) ⊎ Full place stretches (top_of before) base.stub m.r0 m.r1 m.r5 → m.r0 < 65536
      low_r0 (inl some) = narrow_less m.r0 m.r1 some.0.0.below (narrow m.r1 some.0.0.within.below)
      low_r0 (inr full) = rw full.0 (narrow m.r1 full.1)

      at_end : m.codes.z ≡ true → ((base.late ≡ []) × (base.more ≡ [])) × (m.sp ≡ 0) × Full place stretches (top_of before) base.stub m.r0 m.r1 m.r5
      at_end e =
          let same : m.r2 ≡ m.r0 = same_address m.r2 m.r0 facts.0.owes.0 (low_r0 facts.0.side) (sym facts.1 ∙ e) in
          let none = nothing_owed m.memory m.r2 m.r0 m.sp base.more same facts.0.owes in
          ((facts.0.none, none.1), none.0, is_full same facts.0.side)
        where
          is_full : m.r2 ≡ m.r0 → (Filling_in place stretches (top_of before) base.stub m.r0 m.r1 m.r3 m.r5 × (m.r2 < m.r0)) ⊎ Full place stretches (top_of before) base.stub m.r0 m.r1 m.r5 → Full place stretches (top_of before) base.stub m.r0 m.r1 m.r5
          is_full same (inl some) = absurd (not_less m.r2 m.r0 same some.1)
            where
              not_less : (a b : ℕ) → a ≡ b → a < b → ⊥
              not_less a b is less = omega arith
          is_full same (inr full) = full

      onto : (pc : ℕ) → pc ≡ place + 76 → target pc 0o24 ≡ place + 118
      onto pc is = omega arith

  at_out_wait : (m : Machine) (base : Base place stretches before waited m) → m.state ≡ Runs → m.pc ≡ place + 78 → m.masked ≡ true → Facts place stretches (top_of before) OutWait base.stub base.late base.more m → Turns place stretches before waited m base OutWait (step m)
  at_out_wait m base running pc masked facts =
      plain m _ base OutWait (tests_transmitter m running (has base 39 refl m.pc pc) (has base 40 refl (behind m.pc) (by2 m.pc 78 pc refl)) (short base)) refl refl running OutWaited (by2 (behind m.pc) 80 (by2 m.pc 78 pc refl) refl) masked (facts.0, facts.1, λ e. sym (status_sign m.console.ready) ∙ e) (λ _ ready. rw (status_sign m.console.ready, ready) (lit< tt)) (λ l _. absurd l)

  at_out_waited : (m : Machine) (base : Base place stretches before waited m) → m.state ≡ Runs → m.pc ≡ place + 82 → m.masked ≡ true → Facts place stretches (top_of before) OutWaited base.stub base.late base.more m → Turns place stretches before waited m base OutWaited (step m)
  at_out_waited m base running pc masked facts =
      on_test (λ _. Turns place stretches before waited m base OutWaited (step m)) m.codes.n
      (λ e. plain m _ base OutWaited (bpl_loop_stays m running (has base 41 refl m.pc pc) e) refl refl running Turn (by2 m.pc 82 pc refl) masked (facts.0, facts.1, facts.2 e) (λ _ _. rw e (lit< tt)) (λ l _. absurd l))
      (λ e. plain m _ base OutWaited (bpl_loop_goes m running (has base 41 refl m.pc pc) e) refl refl running Ask (onto m.pc pc) masked facts.0 (λ _ _. rw e (lit< tt)) (λ l _. absurd l))
    where
      onto : (pc : ℕ) → pc ≡ place + 82 → target pc 0o342 ≡ place + 24
      onto pc is = omega arith

  at_turn : (m : Machine) (base : Base place stretches before waited m) → m.state ≡ Runs → m.pc ≡ place + 84 → m.masked ≡ true → Facts place stretches (top_of before) Turn base.stub base.late base.more m → Turns place stretches before waited m base Turn (step m)
  at_turn m base running pc masked facts =
      plain m _ base Turn (com_sp m running (has base 42 refl m.pc pc)) refl refl running Turned (by2 m.pc 84 pc refl) masked (facts.2, record { none = facts.0.none; below = facts.1; side = any_side facts.0.side }, turned facts.0.owes.1) (λ _ _. lit< tt) (λ l _. absurd l)
    where
      any_side : (Filling_in place stretches (top_of before) base.stub m.r0 m.r1 m.r3 m.r5 × (m.r2 < m.r0)) ⊎ Full place stretches (top_of before) base.stub m.r0 m.r1 m.r5 → Side place stretches (top_of before) base.stub m.r0 m.r1 m.r3 m.r5
      any_side (inl some) = inl some.0
      any_side (inr full) = inr full

      turned : ((m.sp ≡ 0) × (base.more ≡ all_spelled m.memory m.r2 (m.r0 - m.r2))) ⊎ ((m.sp ≡ 65535) × (m.r2 < m.r0) × (base.more ≡ low_first place stretches (top_of before) m.memory m.r2 m.r0)) →
          ((65535 - m.sp ≡ 65535) × (negative Word (65535 - m.sp) ≡ true) × (base.more ≡ all_spelled m.memory m.r2 (m.r0 - m.r2))) ⊎ ((65535 - m.sp ≡ 0) × (negative Word (65535 - m.sp) ≡ false) × (base.more ≡ low_first place stretches (top_of before) m.memory m.r2 m.r0))
      turned (inl (zero_is, all)) = inl (ap (λ s. 65535 - s) zero_is, ap (λ s. negative Word (65535 - s)) zero_is, all)
      turned (inr (full_is, less, low)) = inr (ap (λ s. 65535 - s) full_is, ap (λ s. negative Word (65535 - s)) full_is, low)

  at_turned : (m : Machine) (base : Base place stretches before waited m) → m.state ≡ Runs → m.pc ≡ place + 86 → m.masked ≡ true → Facts place stretches (top_of before) Turned base.stub base.late base.more m → Turns place stretches before waited m base Turned (step m)
  at_turned m base running pc masked facts = elim facts.2 [
    | inl high ↦ plain m _ base Turned (bpl_low_stays m running (has base 43 refl m.pc pc) high.1) refl refl running ReadHigh (by2 m.pc 86 pc refl) masked (facts.0, facts.1, high.0, high.2) (λ _ _. lit< tt) (λ l _. absurd l)
    | inr low ↦ plain m _ base Turned (bpl_low_goes m running (has base 43 refl m.pc pc) low.1) refl refl running ReadLow (onto m.pc pc) masked (facts.0, facts.1, low.0, low.2) (λ _ _. lit< tt) (λ l _. absurd l)
  ]
    where
      onto : (pc : ℕ) → pc ≡ place + 86 → target pc 0o6 ≡ place + 100
      onto pc is = omega arith

  at_read_high : (m : Machine) (base : Base place stretches before waited m) → m.state ≡ Runs → m.pc ≡ place + 88 → m.masked ≡ true → Facts place stretches (top_of before) ReadHigh base.stub base.late base.more m → Turns place stretches before waited m base ReadHigh (step m)
  at_read_high m base running pc masked facts =
      plain m _ base ReadHigh (reads m running (has base 44 refl m.pc pc) (low_in base m.r2 m.r0 facts.1.below (side_top facts.1.side))) refl refl running Half1 (by2 m.pc 88 pc refl) masked (facts.0, facts.1, facts.2, facts.3, refl) (λ _ _. lit< tt) (λ l _. absurd l)
    where
      side_top : Side place stretches (top_of before) base.stub m.r0 m.r1 m.r3 m.r5 → m.r0 ≤ top_of before
      side_top (inl some) = at_most m.r0 m.r1 some.0.below some.0.within.below
        where
          at_most : (a b : ℕ) → a < b → b ≤ top_of before → a ≤ top_of before
          at_most a b less below = omega arith
      side_top (inr full) = rw full.0 full.1

  at_half_1 : (m : Machine) (base : Base place stretches before waited m) → m.state ≡ Runs → m.pc ≡ place + 90 → m.masked ≡ true → Facts place stretches (top_of before) Half1 base.stub base.late base.more m → Turns place stretches before waited m base Half1 (step m)
  at_half_1 m base running pc masked facts =
      plain m _ base Half1 (asr_r4 m running (has base 45 refl m.pc pc)) refl refl running Half2 (by2 m.pc 90 pc refl) masked (facts.0, facts.1, facts.2, facts.3, ap halved facts.4) (λ _ _. lit< tt) (λ l _. absurd l)

  at_half_2 : (m : Machine) (base : Base place stretches before waited m) → m.state ≡ Runs → m.pc ≡ place + 92 → m.masked ≡ true → Facts place stretches (top_of before) Half2 base.stub base.late base.more m → Turns place stretches before waited m base Half2 (step m)
  at_half_2 m base running pc masked facts =
      plain m _ base Half2 (asr_r4 m running (has base 46 refl m.pc pc)) refl refl running Half3 (by2 m.pc 92 pc refl) masked (facts.0, facts.1, facts.2, facts.3, ap halved facts.4) (λ _ _. lit< tt) (λ l _. absurd l)

  at_half_3 : (m : Machine) (base : Base place stretches before waited m) → m.state ≡ Runs → m.pc ≡ place + 94 → m.masked ≡ true → Facts place stretches (top_of before) Half3 base.stub base.late base.more m → Turns place stretches before waited m base Half3 (step m)
  at_half_3 m base running pc masked facts =
      plain m _ base Half3 (asr_r4 m running (has base 47 refl m.pc pc)) refl refl running Half4 (by2 m.pc 94 pc refl) masked (facts.0, facts.1, facts.2, facts.3, ap halved facts.4) (λ _ _. lit< tt) (λ l _. absurd l)

  at_half_4 : (m : Machine) (base : Base place stretches before waited m) → m.state ≡ Runs → m.pc ≡ place + 96 → m.masked ≡ true → Facts place stretches (top_of before) Half4 base.stub base.late base.more m → Turns place stretches before waited m base Half4 (step m)
  at_half_4 m base running pc masked facts =
      plain m _ base Half4 (asr_r4 m running (has base 48 refl m.pc pc)) refl refl running HighBr (by2 m.pc 96 pc refl) masked (facts.0, facts.1, facts.2, facts.3, ap halved facts.4) (λ _ _. lit< tt) (λ l _. absurd l)

  at_high_br : (m : Machine) (base : Base place stretches before waited m) → m.state ≡ Runs → m.pc ≡ place + 98 → m.masked ≡ true → Facts place stretches (top_of before) HighBr base.stub base.late base.more m → Turns place stretches before waited m base HighBr (step m)
  at_high_br m base running pc masked facts =
      plain m _ base HighBr (br_out m running (has base 49 refl m.pc pc)) refl refl running Flip (onto m.pc pc) masked (
        facts.0,
        byte_of m.memory m.r2 / 16,
        record {
          none = facts.1.none;
          side = facts.1.side;
          small = high_small (byte_of m.memory m.r2) (byte_below m.memory m.r2 base.wide);
          rest = low_first place stretches (top_of before) m.memory m.r2 m.r0;
          first = facts.3 ∙ next_byte m.memory m.r2 m.r0 facts.1.below;
          owes = (weaker m.r2 m.r0 facts.1.below, inr (facts.2, facts.1.below, refl));
        },
        ap (λ r. bit_and (65535 - r) 15) facts.4 ∙ high_out (byte_of m.memory m.r2) (byte_below m.memory m.r2 base.wide),
      ) (λ _ _. lit< tt) (λ l _. absurd l)
    where
      high_small : (v : ℕ) → v < 256 → v / 16 < 16
      high_small v small = omega arith

      weaker : (a b : ℕ) → a < b → a ≤ b
      weaker a b less = omega arith

      onto : (pc : ℕ) → pc ≡ place + 98 → target pc 0o1 ≡ place + 102
      onto pc is = omega arith

  at_read_low : (m : Machine) (base : Base place stretches before waited m) → m.state ≡ Runs → m.pc ≡ place + 100 → m.masked ≡ true → Facts place stretches (top_of before) ReadLow base.stub base.late base.more m → Turns place stretches before waited m base ReadLow (step m)
  at_read_low m base running pc masked facts =
      plain m _ base ReadLow (reads_on m running (has base 50 refl m.pc pc) (low_in base m.r2 m.r0 facts.1.below (side_top facts.1.side))) refl refl running Flip (by2 m.pc 100 pc refl) masked (
        facts.0,
        byte_of m.memory m.r2 % 16,
        record {
          none = facts.1.none;
          side = facts.1.side;
          small = low_small (byte_of m.memory m.r2);
          rest = all_spelled m.memory (m.r2 + 1) (m.r0 - (m.r2 + 1));
          first = facts.3;
          owes = subst (λ a. Owes place stretches (top_of before) m.memory a m.r0 m.sp (all_spelled m.memory (m.r2 + 1) (m.r0 - (m.r2 + 1)))) (sym (moved m.r2 m.r0 facts.1.below (narrow m.r0 (side_top facts.1.side)))) (up_to m.r2 m.r0 facts.1.below, inl (facts.2, refl));
        },
        low_bits (byte_of m.memory m.r2) (byte_below m.memory m.r2 base.wide),
      ) (λ _ _. lit< tt) (λ l _. absurd l)
    where
      side_top : Side place stretches (top_of before) base.stub m.r0 m.r1 m.r3 m.r5 → m.r0 ≤ top_of before
      side_top (inl some) = at_most m.r0 m.r1 some.0.below some.0.within.below
        where
          at_most : (a b : ℕ) → a < b → b ≤ top_of before → a ≤ top_of before
          at_most a b less below = omega arith
      side_top (inr full) = rw full.0 full.1

      low_small : (v : ℕ) → v % 16 < 16
      low_small v = omega arith

      moved : (a b : ℕ) → a < b → b < 65536 → (a + 1) % 65536 ≡ a + 1
      moved a b less small = omega arith

      up_to : (a b : ℕ) → a < b → a + 1 ≤ b
      up_to a b less = omega arith

  at_flip : (m : Machine) (base : Base place stretches before waited m) → m.state ≡ Runs → m.pc ≡ place + 102 → m.masked ≡ true → Facts place stretches (top_of before) Flip base.stub base.late base.more m → Turns place stretches before waited m base Flip (step m)
  at_flip m base running pc masked facts =
      plain m _ base Flip (com_r4 m running (has base 51 refl m.pc pc)) refl refl running Bits (by2 m.pc 102 pc refl) masked facts (λ _ _. lit< tt) (λ l _. absurd l)

  at_bits : (m : Machine) (base : Base place stretches before waited m) → m.state ≡ Runs → m.pc ≡ place + 104 → m.masked ≡ true → Facts place stretches (top_of before) Bits base.stub base.late base.more m → Turns place stretches before waited m base Bits (step m)
  at_bits m base running pc masked facts =
      plain m _ base Bits (bic_r4 m 0o177760 running (has base 52 refl m.pc pc) (has base 53 refl (behind m.pc) (by2 m.pc 104 pc refl))) refl refl running Up (by2 (behind m.pc) 106 (by2 m.pc 104 pc refl) refl) masked facts (λ _ _. lit< tt) (λ l _. absurd l)

  at_up : (m : Machine) (base : Base place stretches before waited m) → m.state ≡ Runs → m.pc ≡ place + 108 → m.masked ≡ true → Facts place stretches (top_of before) Up base.stub base.late base.more m → Turns place stretches before waited m base Up (step m)
  at_up m base running pc masked facts =
      plain m _ base Up (add_r4 m 0o140 running (has base 54 refl m.pc pc) (has base 55 refl (behind m.pc) (by2 m.pc 108 pc refl))) refl refl running Send (by2 (behind m.pc) 110 (by2 m.pc 108 pc refl) refl) masked (facts.0, facts.1, facts.2, raised m.r4 facts.1 facts.3 facts.2.small) (λ _ _. lit< tt) (λ l _. absurd l)
    where
      raised : (r k : ℕ) → r ≡ 15 - k → k < 16 → (r + 96) % 65536 ≡ 111 - k
      raised r k is small = omega arith

  -- the next character c is given to the transmitter out of a register r
  abbrev given : (m m' : Machine) (base : Base place stretches before waited m) (r c : ℕ) (more : List ℕ) → m'.memory ≡ m.memory → m'.console ≡ record m.console { ready = false; leaving = r % 256 % 256 } →
      m.console.ready ≡ true → r ≡ c → c < 128 → base.more ≡ c ∷ more → Base place stretches before waited m'
  given m m' base r c more memory console ready same low is = record {
    took = base.took;
    late = base.late;
    few = base.few;
    more = more;
    stub = base.stub;
    stub_is = base.stub_is;
    fetched = ap (λ (k : Console). k.fetched) console ∙ base.fetched;
    sent = base.sent ∙ (ap (λ all. (m.console.gone ++ waiting m.console) ++ all) is
        ∙ (ap (λ w. (m.console.gone ++ w) ++ c ∷ more) (ap (λ on. if on then [] else m.console.leaving ∷ []) ready)
        ∙ (one_on m.console.gone c (r % 256 % 256) more (is_it r c same low) ∙ ap (λ (k : Console). (k.gone ++ waiting k) ++ more) (sym console))));
    memory = memory ∙ base.memory;
    words = subst (λ x. AreThere x place (stub_words place stretches)) (sym memory) base.words;
    size = ap length memory ∙ base.size;
    wide = subst IsWide (sym memory) base.wide;
    fit = base.fit;
    high = base.high;
  }
    where
      is_it : (r c : ℕ) → r ≡ c → c < 128 → r % 256 % 256 ≡ c
      is_it r c same low = omega arith

      one_on : (gone : List ℕ) (c x : ℕ) (more : List ℕ) → x ≡ c → (gone ++ []) ++ c ∷ more ≡ (gone ++ x ∷ []) ++ more
      one_on gone c x more is = ap (λ g. g ++ c ∷ more) (append-nil gone) ∙ (ap (λ y. gone ++ y ∷ more) (sym is) ∙ sym (append_assoc gone (x ∷ []) more))

  -- it is on its way out then
  sends_next : (m : Machine) (r c : ℕ) (all more : List ℕ) → m.console.ready ≡ true → r ≡ c → c < 128 → all ≡ c ∷ more → (r % 256 % 256) ∷ more ≡ waiting m.console ++ all
  sends_next m r c all more ready same low is = ap (λ x. x ∷ more) (is_it r c same low) ∙ sym (ap (λ on. (if on then [] else m.console.leaving ∷ []) ++ all) ready ∙ is)
    where
      is_it : (r c : ℕ) → r ≡ c → c < 128 → r % 256 % 256 ≡ c
      is_it r c same low = omega arith

  character_low : (n : ℕ) → answered n < 128
  character_low n = omega arith

  at_send : (m : Machine) (base : Base place stretches before waited m) → m.state ≡ Runs → m.pc ≡ place + 112 → m.masked ≡ true → Facts place stretches (top_of before) Send base.stub base.late base.more m → Turns place stretches before waited m base Send (step m)
  at_send m base running pc masked facts =
      let o = facts.2 in
      let k = facts.1 in
      moves m _ base Send (gives_r4 m running (has base 56 refl m.pc pc) (has base 57 refl (behind m.pc) (by2 m.pc 112 pc refl)) (short base))
      (given m (record m { pc = behind (behind m.pc); codes = told_byte (m.r4 % 256) m.codes.c; console = record m.console { ready = false; leaving = m.r4 % 256 % 256 } }) base m.r4 (answered k)
      o.rest refl refl facts.0 facts.3 (character_low k) o.first)
      running SentBr (by2 (behind m.pc) 114 (by2 m.pc 112 pc refl) refl) masked (o.none, o.owes, o.side)
      (inl record { stub = refl; came = refl; gone = refl; out = sends_next m m.r4 (answered k) base.more o.rest facts.0 facts.3 (character_low k) o.first })
      (λ _ _. inl (inr (inr refl))) (λ l _. absurd l)

  at_sent_br : (m : Machine) (base : Base place stretches before waited m) → m.state ≡ Runs → m.pc ≡ place + 116 → m.masked ≡ true → Facts place stretches (top_of before) SentBr base.stub base.late base.more m → Turns place stretches before waited m base SentBr (step m)
  at_sent_br m base running pc masked facts = elim (looks base.stub base.late base.more m.memory m.r0 m.r1 m.r2 m.r3 m.r5 m.sp facts.0 facts.1 facts.2) [
    | inl waiting_now ↦ plain m _ base SentBr (br_loop m running (has base 58 refl m.pc pc)) refl refl running AskQ (onto m.pc pc) masked waiting_now (λ _ _. lit< tt) (λ l _. absurd l)
    | inr busy ↦ plain m _ base SentBr (br_loop m running (has base 58 refl m.pc pc)) refl refl running Ask (onto m.pc pc) masked busy (λ _ _. lit< tt) (λ l _. absurd l)
  ]
    where
      onto : (pc : ℕ) → pc ≡ place + 116 → target pc 0o321 ≡ place + 24
      onto pc is = omega arith

  at_empty : (m : Machine) (base : Base place stretches before waited m) → m.state ≡ Runs → m.pc ≡ place + 118 → m.masked ≡ true → Facts place stretches (top_of before) Empty base.stub base.late base.more m → Turns place stretches before waited m base Empty (step m)
  at_empty m base running pc masked facts =
      plain m _ base Empty (cmp_r0_r1 m running (has base 59 refl m.pc pc)) refl refl running EmptyTested (by2 m.pc 118 pc refl) masked (facts.0, facts.1, facts.2, together m.r0 m.r1 facts.2.0 (narrow m.r1 facts.2.1)) (λ _ _. lit< tt) (λ l _. absurd l)

  at_empty_tested : (m : Machine) (base : Base place stretches before waited m) → m.state ≡ Runs → m.pc ≡ place + 120 → m.masked ≡ true → Facts place stretches (top_of before) EmptyTested base.stub base.late base.more m → Turns place stretches before waited m base EmptyTested (step m)
  at_empty_tested m base running pc masked facts =
      plain m _ base EmptyTested (bne_loop_stays m running (has base 60 refl m.pc pc) facts.3) refl refl running Again (by2 m.pc 120 pc refl) masked (facts.0, facts.1, facts.2.2, facts.2.3) (λ _ _. lit< tt) (λ l _. absurd l)

  at_again : (m : Machine) (base : Base place stretches before waited m) → m.state ≡ Runs → m.pc ≡ place + 122 → m.masked ≡ true → Facts place stretches (top_of before) Again base.stub base.late base.more m → Turns place stretches before waited m base Again (step m)
  at_again m base running pc masked facts =
      plain m _ base Again (br_next m running (has base 61 refl m.pc pc)) refl refl running TakeEnd (onto m.pc pc) masked facts (λ _ _. lit< tt) (λ l _. absurd l)
    where
      onto : (pc : ℕ) → pc ≡ place + 122 → target pc 0o310 ≡ place + 12
      onto pc is = omega arith

  at_stop : (m : Machine) (base : Base place stretches before waited m) → m.state ≡ Runs → m.pc ≡ place + 124 → m.masked ≡ true → Facts place stretches (top_of before) Stop base.stub base.late base.more m → Turns place stretches before waited m base Stop (step m)
  at_stop m base running pc masked facts =
      subst (Turns place stretches before waited m base Stop) (sym (halts m running (has base 62 refl m.pc pc))) record {
        lasts = inr record { base = based m (record m { pc = behind m.pc; state = Halted }) base refl refl; halted = refl; masked = masked; late = facts.0.0; more = facts.0.1; left = facts.1 };
        way = inl record { stub = refl; came = refl; out = refl; gone = refl };
        ahead = λ _ _. inl (inl refl);
        listening = λ l _. absurd l;
      }

  -- ---- every instruction

  pub instruct : (m : Machine) (base : Base place stretches before waited m) → m.state ≡ Runs → (p : Point) → m.pc ≡ place + offset p → Masked p m.masked → Facts place stretches (top_of before) p base.stub base.late base.more m → Turns place stretches before waited m base p (step m)
  instruct m base running Start pc masked facts = at_start m base running pc facts
  instruct m base running SetTable pc masked facts = at_set_table m base running pc masked facts
  instruct m base running SetPhase pc masked facts = at_set_phase m base running pc masked facts
  instruct m base running TakeEnd pc masked facts = at_take_end m base running pc masked facts
  instruct m base running TestEnd pc masked facts = at_test_end m base running pc masked facts
  instruct m base running TakeStart pc masked facts = at_take_start m base running pc masked facts
  instruct m base running KeepStart pc masked facts = at_keep_start m base running pc masked facts
  instruct m base running NewByteQ pc masked facts = at_new_byte_q m base running pc masked facts
  instruct m base running AskQ pc masked facts = at_ask_q m base running pc masked facts
  instruct m base running AskedQ pc masked facts = at_asked_q m base running pc masked facts
  instruct m base running ListenQ pc masked facts = at_listen_q m base running pc masked facts
  instruct m base running ListenedQ pc masked facts = at_listened_q m base running pc masked facts
  instruct m base running IdleQ pc masked facts = at_idle_q m base running pc masked facts
  instruct m base running IdleTestedQ pc masked facts = at_idle_tested_q m base running pc masked facts
  instruct m base running EmptyQ pc masked facts = at_empty_q m base running pc masked facts
  instruct m base running EmptyTestedQ pc masked facts = at_empty_tested_q m base running pc masked facts
  instruct m base running NewByte pc masked facts = at_new_byte m base running pc masked facts
  instruct m base running Ask pc masked facts = at_ask m base running pc masked facts
  instruct m base running Asked pc masked facts = at_asked m base running pc masked facts
  instruct m base running Listen pc masked facts = at_listen m base running pc masked facts
  instruct m base running Listened pc masked facts = at_listened m base running pc masked facts
  instruct m base running Fetch pc masked facts = at_fetch m base running pc masked facts
  instruct m base running Seven pc masked facts = at_seven m base running pc masked facts
  instruct m base running Lower pc masked facts = at_lower m base running pc masked facts
  instruct m base running Compare pc masked facts = at_compare m base running pc masked facts
  instruct m base running Judge pc masked facts = at_judge m base running pc masked facts
  instruct m base running Shift1 pc masked facts = at_shift1 m base running pc masked facts
  instruct m base running Shift2 pc masked facts = at_shift2 m base running pc masked facts
  instruct m base running Shift3 pc masked facts = at_shift3 m base running pc masked facts
  instruct m base running Shift4 pc masked facts = at_shift4 m base running pc masked facts
  instruct m base running Join pc masked facts = at_join m base running pc masked facts
  instruct m base running Joined pc masked facts = at_joined m base running pc masked facts
  instruct m base running Store pc masked facts = at_store m base running pc masked facts
  instruct m base running StoredBr pc masked facts = at_stored_br m base running pc masked facts
  instruct m base running Bad1 pc masked facts = at_bad_1 m base running pc masked facts
  instruct m base running Bad2 pc masked facts = at_bad_2 m base running pc masked facts
  instruct m base running Idle pc masked facts = at_idle m base running pc masked facts
  instruct m base running IdleTested pc masked facts = at_idle_tested m base running pc masked facts
  instruct m base running OutWait pc masked facts = at_out_wait m base running pc masked facts
  instruct m base running OutWaited pc masked facts = at_out_waited m base running pc masked facts
  instruct m base running Turn pc masked facts = at_turn m base running pc masked facts
  instruct m base running Turned pc masked facts = at_turned m base running pc masked facts
  instruct m base running ReadHigh pc masked facts = at_read_high m base running pc masked facts
  instruct m base running Half1 pc masked facts = at_half_1 m base running pc masked facts
  instruct m base running Half2 pc masked facts = at_half_2 m base running pc masked facts
  instruct m base running Half3 pc masked facts = at_half_3 m base running pc masked facts
  instruct m base running Half4 pc masked facts = at_half_4 m base running pc masked facts
  instruct m base running HighBr pc masked facts = at_high_br m base running pc masked facts
  instruct m base running ReadLow pc masked facts = at_read_low m base running pc masked facts
  instruct m base running Flip pc masked facts = at_flip m base running pc masked facts
  instruct m base running Bits pc masked facts = at_bits m base running pc masked facts
  instruct m base running Up pc masked facts = at_up m base running pc masked facts
  instruct m base running Send pc masked facts = at_send m base running pc masked facts
  instruct m base running SentBr pc masked facts = at_sent_br m base running pc masked facts
  instruct m base running Empty pc masked facts = at_empty m base running pc masked facts
  instruct m base running EmptyTested pc masked facts = at_empty_tested m base running pc masked facts
  instruct m base running Again pc masked facts = at_again m base running pc masked facts
  instruct m base running Stop pc masked facts = at_stop m base running pc masked facts
