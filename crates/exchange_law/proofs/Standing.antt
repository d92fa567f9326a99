-- Where a station and its line stand in each phase of an exchange.
use Rattle.std.proofs.Common.{◌≡◌, ℕ, zero, suc, ◌+◌, ◌-◌, ◌*◌, ◌<◌, ◌≤◌, ◌⊎◌, Bool, true, false, List, [], ◌∷◌, ◌++◌, length, drop, Some, None, inl, inr, refl, arith, ap, sym, subst, ◌∙◌, append-nil}
use Rattle.std.proofs.lemmas.List.{drop_more}
use Rattle.tape_image.specs.Image.{Image}
use Rattle.odt_machine.specs.declared.mode.Mode.{Mode}
use Rattle.odt_machine.specs.declared.mode.Mode.TheVariants.{Prompt}
use Rattle.odt_machine.specs.declared.key.Key.TheVariants.{Other}
use Rattle.odt_machine.specs.Laws.{is_running}
use Rattle.odt_machine.specs.Machine.{Machine, IsWide}
use Rattle.odt_machine.specs.KeyTable.{row, after_key}
use Rattle.exchange_core.specs.declared.chunk.Chunk.{Chunk}
use Rattle.exchange_core.specs.declared.duplex.Duplex.{Duplex}
use Rattle.exchange_core.specs.declared.phase.Phase.{Phase}
use Rattle.exchange_core.specs.declared.phase.Phase.TheVariants.{Settle, Answer, Leave, Ended}
use Rattle.exchange_core.specs.declared.phase.End.TheVariants.{Complete, Broken}
use Rattle.exchange_core.specs.Chunk.{chunk_nr, is_nibble, no_chunk, sent_at}
use Rattle.exchange_core.specs.declared.stretch.Stretch.{Stretch}
use Rattle.exchange_core.specs.Stretch.{places, places_from, stretch_of}
use Rattle.exchange_law.specs.Station.{Program, Station, Each, ChangesAt, Answers, Fills, StubMeets, Meets, answer_from, answer_text, begins}
use Rattle.exchange_law.specs.Line.{Link}
use Rattle.exchange_law.specs.Law.{Holds, bytes_of, pieces_of}
use Rattle.exchange_law.specs.Unsettled.{IsAmong}
use Rattle.exchange_law.proofs.Holding.{IsAnswered}
use Rattle.exchange_law.proofs.Texts.{IsNibble, TextFits, each_append, nibbles, one_if}

-- a stub runs that has these bytes left
pub record StubAt (left : List ℕ) (half : Bool) (s : Station) : Type 0 where
  pub runs : is_running s.odt.mode ≡ true
  pub is : s.stub ≡ Some (record { left = left; half = half })

-- no stub runs, and ODT is at its prompt
pub record AtPrompt (s : Station) : Type 0 where
  pub none : s.stub ≡ None
  pub prompt : s.odt.mode ≡ Prompt

-- the stub has these bytes left, or has halted behind the last
abbrev pub Stood : List ℕ → Bool → Station → Type 0
Stood [] half s = AtPrompt s
Stood (a ∷ left) half s = StubAt (a ∷ left) half s

-- the addresses behind so many bytes of a chunk
abbrev pub left_at : List Chunk → ℕ → ℕ → List ℕ
left_at chunks done bytes = places_from ((chunk_nr chunks done).size - bytes) ((chunk_nr chunks done).address + bytes) ++ bytes_of (drop (done + 1) chunks)

-- so many bytes of the chunk under way were taken, and perhaps the first character of the next; and no more of its characters are under way than the
-- most that were sent
pub record Amid (chunks : List Chunk) (done most : ℕ) (x : Link) : Type 0 where
  pub bytes : ℕ
  pub half : Bool
  pub at : Stood (left_at chunks done bytes) half x.machine
  pub keys : Each IsNibble x.down
  pub few : 2 * bytes + one_if half + length x.down ≤ most

-- what was answered and not heard is under way, all of it, and what was heard of it is what memory gives
pub record Intact (image : Image) (chunks : List Chunk) (done place bytes : ℕ) (memory up : List ℕ) : Type 0 where
  pub text : List ℕ
  pub fits : TextFits (left_at chunks done bytes) text
  pub order : place ≤ 2 * bytes
  pub rest : up ≡ answer_from memory (chunk_nr chunks done).address place (2 * bytes - place) ++ text
  pub heard : IsAnswered image (chunk_nr chunks done) memory place

-- behind the exchange the stub stands anywhere from the chunk under way on, or has halted
abbrev pub IsParted : List Chunk → ℕ → Station → Type 0
IsParted chunks done s = AtPrompt s ⊎ ((left : List ℕ) × (half : Bool) × Each (IsAmong (pieces_of (drop done chunks))) left × StubAt left half s)

abbrev pub IsZ : ℕ → Type 0
IsZ c = c ≡ 90

-- all that was answered is under way or was heard, or less than that
abbrev pub Answers_are : Image → List Chunk → (done place bytes : ℕ) → List ℕ → List ℕ → Type 0
Answers_are image chunks done place bytes memory up = Intact image chunks done place bytes memory up ⊎ (place + nibbles up < 2 * bytes)

abbrev pub Stands : Duplex → Image → List Chunk → ℕ → Phase → Link → Type 0
Stands duplex image chunks done Settle x = (x.down ≡ []) × (x.up ≡ []) × Stood (bytes_of (drop done chunks)) false x.machine
Stands duplex image chunks done (Answer place) x = (a : Amid chunks done (sent_at duplex (chunk_nr chunks done) place) x) × Answers_are image chunks done place a.bytes x.machine.odt.memory x.up
Stands duplex image chunks done Leave x = Amid chunks done (2 * (chunk_nr chunks done).size) x
Stands duplex image chunks done (Ended Complete) x = (x.down ≡ []) × AtPrompt x.machine
Stands duplex image chunks done (Ended Broken) x = Each IsZ x.down × IsParted chunks done x.machine

-- what holds of an exchange and its line, with so many chunks done, in a phase
pub record Kept (duplex : Duplex) (image : Image) (chunks : List Chunk) (before : List ℕ) (done : ℕ) (phase : Phase) (x : Link) : Type 0 where
  pub holds : Holds image chunks before done x.machine.odt.memory
  pub wide : IsWide x.machine.odt.memory
  pub stands : Stands duplex image chunks done phase x

-- ---- lists

pub no_first : (xs rest : List ℕ) (c : ℕ) → xs ≡ [] → xs ≡ c ∷ rest → ⊥
no_first xs rest c none first = clash (sym none ∙ first)
  where
    clash : [] ≡ c ∷ rest → ⊥
    clash e = absurd (cc e)

pub none_removed : (xs : List ℕ) (k : ℕ) → xs ≡ [] → k < length xs → ⊥
none_removed xs k none below = absurd (omega (arith, below, ap length none))

pub pieces_more : (chunks : List Chunk) (done : ℕ) → done < length chunks → pieces_of (drop done chunks) ≡ stretch_of (chunk_nr chunks done) ∷ pieces_of (drop (done + 1) chunks)
pieces_more chunks done below = ap pieces_of (drop_more chunks done no_chunk below)

-- ---- the addresses that are left

pub left_first : (chunks : List Chunk) (done : ℕ) → done < length chunks → bytes_of (drop done chunks) ≡ left_at chunks done 0
left_first chunks done below =
    ap places (pieces_more chunks done below)
    ∙ (ap (λ n. places_from n (chunk_nr chunks done).address ++ bytes_of (drop (done + 1) chunks)) (count (chunk_nr chunks done).address (chunk_nr chunks done).size)
    ∙ ap (λ a. places_from ((chunk_nr chunks done).size - 0) a ++ bytes_of (drop (done + 1) chunks)) (none (chunk_nr chunks done).address))
  where
    count : (a n : ℕ) → a + n - a ≡ n - 0
    count a n = omega arith

    none : (a : ℕ) → a ≡ a + 0
    none a = omega arith

pub left_next : (chunks : List Chunk) (done bytes : ℕ) → bytes < (chunk_nr chunks done).size → left_at chunks done bytes ≡ ((chunk_nr chunks done).address + bytes) ∷ left_at chunks done (bytes + 1)
left_next chunks done bytes less =
    ap (λ n. places_from n ((chunk_nr chunks done).address + bytes) ++ bytes_of (drop (done + 1) chunks)) (one_less (chunk_nr chunks done).size bytes less)
    ∙ ap (λ a. ((chunk_nr chunks done).address + bytes) ∷ (places_from ((chunk_nr chunks done).size - (bytes + 1)) a ++ bytes_of (drop (done + 1) chunks))) (again (chunk_nr chunks done).address bytes)
  where
    one_less : (n b : ℕ) → b < n → n - b ≡ suc (n - (b + 1))
    one_less n b less = omega (arith, less)

    again : (a b : ℕ) → a + b + 1 ≡ a + (b + 1)
    again a b = omega arith

pub left_last : (chunks : List Chunk) (done bytes : ℕ) → (chunk_nr chunks done).size ≤ bytes → left_at chunks done bytes ≡ bytes_of (drop (done + 1) chunks)
left_last chunks done bytes le = ap (λ n. places_from n ((chunk_nr chunks done).address + bytes) ++ bytes_of (drop (done + 1) chunks)) (none (chunk_nr chunks done).size bytes le)
  where
    none : (n b : ℕ) → n ≤ b → n - b ≡ 0
    none n b le = omega (arith, le)

-- all of them are among the stretches
each_more : (P Q : ℕ → Type 0) (xs : List ℕ) → ((b : ℕ) → P b → Q b) → Each P xs → Each Q xs
each_more P Q [] h k = tt
each_more P Q (x ∷ xs) h k = (h x k.0, each_more P Q xs h k.1)

each_place : (stretch : Stretch) (more : List Stretch) (n a : ℕ) → stretch.from ≤ a → a + n ≤ stretch.to → Each (IsAmong (stretch ∷ more)) (places_from n a)
each_place stretch more zero a from to = tt
each_place stretch more (suc n) a from to = (inl (record { from = from; to = omega (arith, to) }), each_place stretch more n (a + 1) (omega (arith, from)) (omega (arith, to)))

-- the bytes of chunks
bytes_among : (chunks : List Chunk) → Each (IsAmong (pieces_of chunks)) (bytes_of chunks)
bytes_among [] = tt
bytes_among (chunk ∷ chunks) =
    each_append (IsAmong (pieces_of (chunk ∷ chunks))) (places_from (chunk.address + chunk.size - chunk.address) chunk.address) (bytes_of chunks)
    (each_place (stretch_of chunk) (pieces_of chunks) (chunk.address + chunk.size - chunk.address) chunk.address (omega arith) (whole chunk.address chunk.size))
    (each_more (IsAmong (pieces_of chunks)) (IsAmong (pieces_of (chunk ∷ chunks))) (bytes_of chunks) (λ b is. inr is) (bytes_among chunks))
  where
    whole : (a n : ℕ) → a + (a + n - a) ≤ a + n
    whole a n = omega arith

pub left_among : (chunks : List Chunk) (done bytes : ℕ) → done < length chunks → bytes ≤ (chunk_nr chunks done).size → Each (IsAmong (pieces_of (drop done chunks))) (left_at chunks done bytes)
left_among chunks done bytes below le =
    subst (λ stretches. Each (IsAmong stretches) (left_at chunks done bytes)) (sym (pieces_more chunks done below))
    (each_append (IsAmong (stretch_of (chunk_nr chunks done) ∷ pieces_of (drop (done + 1) chunks))) (places_from ((chunk_nr chunks done).size - bytes) ((chunk_nr chunks done).address + bytes)) (bytes_of (drop (done + 1) chunks))
    (each_place (stretch_of (chunk_nr chunks done)) (pieces_of (drop (done + 1) chunks)) ((chunk_nr chunks done).size - bytes) ((chunk_nr chunks done).address + bytes) (omega arith) (whole (chunk_nr chunks done).address bytes (chunk_nr chunks done).size le))
    (each_more (IsAmong (pieces_of (drop (done + 1) chunks))) (IsAmong (stretch_of (chunk_nr chunks done) ∷ pieces_of (drop (done + 1) chunks))) (bytes_of (drop (done + 1) chunks)) (λ b is. inr is) (bytes_among (drop (done + 1) chunks))))
  where
    whole : (a b n : ℕ) → b ≤ n → a + b + (n - b) ≤ a + n
    whole a b n le = omega (arith, le)

-- ---- where the stub stands behind the exchange

stood_parted : (chunks : List Chunk) (done : ℕ) (left : List ℕ) (half : Bool) (s : Station) → Each (IsAmong (pieces_of (drop done chunks))) left → Stood left half s → IsParted chunks done s
stood_parted chunks done [] half s each at = inl at
stood_parted chunks done (a ∷ left) half s each at = inr (a ∷ left, half, each, at)

pub first_parted : (chunks : List Chunk) (done : ℕ) (s : Station) → Stood (bytes_of (drop done chunks)) false s → IsParted chunks done s
first_parted chunks done s at = stood_parted chunks done (bytes_of (drop done chunks)) false s (bytes_among (drop done chunks)) at

pub amid_parted : (chunks : List Chunk) (done most : ℕ) (x : Link) → done < length chunks → most ≤ 2 * (chunk_nr chunks done).size → Amid chunks done most x → IsParted chunks done x.machine
amid_parted chunks done most x below room a = stood_parted chunks done (left_at chunks done a.bytes) a.half x.machine (left_among chunks done a.bytes below (inside a.bytes (one_if a.half) (length x.down) most (chunk_nr chunks done).size a.few room)) a.at
  where
    inside : (b h n most size : ℕ) → 2 * b + h + n ≤ most → most ≤ 2 * size → b ≤ size
    inside b h n most size few room = omega (arith, few, room)

-- ---- the stub takes a character

-- what is left behind a byte
record Left (memory text : List ℕ) (more : List ℕ) (s' : Station) (answer : List ℕ) : Type 0 where
  pub memory_is : s'.odt.memory ≡ memory
  pub at : Stood more false s'
  pub extra : List ℕ
  pub fits : TextFits more extra
  pub answer_is : answer ≡ text ++ extra

answers_left : (m : Machine) (memory text : List ℕ) (more : List ℕ) (s' : Station) (answer : List ℕ) → is_running m.mode ≡ true → Answers m memory text more s' answer → Left memory text more s' answer
answers_left m memory text [] s' answer runs (is, (extra, halts, whole)) = record {
  memory_is = ap (λ (s : Station). s.odt.memory) is;
  at = record { none = ap (λ (s : Station). s.stub) is; prompt = ap (λ (s : Station). s.odt.mode) is };
  extra = extra;
  fits = halts;
  answer_is = whole;
}
answers_left m memory text (a ∷ left) s' answer runs (is, whole) = record {
  memory_is = ap (λ (s : Station). s.odt.memory) is;
  at = record { runs = ap (λ (s : Station). is_running s.odt.mode) is ∙ runs; is = ap (λ (s : Station). s.stub) is };
  extra = [];
  fits = refl;
  answer_is = whole ∙ sym (append-nil text);
}

-- the line behind that
abbrev pub met : Link → Station → List ℕ → List ℕ → Link
met x s' rest answer = record { machine = s'; down = rest; up = x.up ++ answer; lost = x.lost }

-- the first character of a byte, or the second: the byte is answered, and what ODT prints may follow
abbrev pub Does : List Chunk → ℕ → ℕ → List ℕ → ℕ → Station → List ℕ → Type 0
Does chunks done bytes memory now s' answer =
    ((now ≡ bytes) × (s'.odt.memory ≡ memory) × (answer ≡ []))
    ⊎ ((now ≡ bytes + 1) × (bytes < (chunk_nr chunks done).size) × ChangesAt ((chunk_nr chunks done).address + bytes) memory s'.odt.memory
    × ((extra : List ℕ) × TextFits (left_at chunks done (bytes + 1)) extra × (answer ≡ answer_text s'.odt.memory ((chunk_nr chunks done).address + bytes) ++ extra)))

pub record Took (chunks : List Chunk) (done most : ℕ) (x : Link) (bytes : ℕ) (s' : Station) (rest answer : List ℕ) : Type 0 where
  pub next : Amid chunks done most (met x s' rest answer)
  pub how : Does chunks done bytes x.machine.odt.memory next.bytes s' answer

pub takes_amid : (program : Program) (chunks : List Chunk) (done most : ℕ) (x : Link) → most ≤ 2 * (chunk_nr chunks done).size → (a : Amid chunks done most x) → (c : ℕ) (rest : List ℕ) (s' : Station) (answer : List ℕ) → x.down ≡ c ∷ rest →
    Meets program x.machine.stub x.machine.odt c s' answer → Took chunks done most x a.bytes s' rest answer
takes_amid program chunks done most x room a c rest s' answer first meets = by_half a.half refl (subst (λ b. StubMeets b x.machine.odt here a.half s' answer) all.0 stub)
  where
    all : Each IsNibble (c ∷ rest)
    all = subst (Each IsNibble) first a.keys

    long : length x.down ≡ length (c ∷ rest)
    long = ap length first

    less : a.bytes < (chunk_nr chunks done).size
    less = let few = a.few in omega (arith, few, long, room)

    here : List ℕ
    here = ((chunk_nr chunks done).address + a.bytes) ∷ left_at chunks done (a.bytes + 1)

    stands : StubAt (((chunk_nr chunks done).address + a.bytes) ∷ left_at chunks done (a.bytes + 1)) a.half x.machine
    stands = subst (λ left. Stood left a.half x.machine) (left_next chunks done a.bytes less) a.at

    stub : StubMeets (is_nibble c) x.machine.odt (((chunk_nr chunks done).address + a.bytes) ∷ left_at chunks done (a.bytes + 1)) a.half s' answer
    stub = subst (λ stub. Meets program stub x.machine.odt c s' answer) stands.is meets

    by_half : (half : Bool) → a.half ≡ half → Fills a.half x.machine.odt ((chunk_nr chunks done).address + a.bytes) (left_at chunks done (a.bytes + 1)) s' answer → Took chunks done most x a.bytes s' rest answer
    by_half half is fills = go half (subst (λ h. Fills h x.machine.odt ((chunk_nr chunks done).address + a.bytes) (left_at chunks done (a.bytes + 1)) s' answer) is fills) (subst (λ h. 2 * a.bytes + one_if h + length x.down ≤ most) is a.few)
      where
        go : (half : Bool) → Fills half x.machine.odt ((chunk_nr chunks done).address + a.bytes) (left_at chunks done (a.bytes + 1)) s' answer → 2 * a.bytes + one_if half + length x.down ≤ most → Took chunks done most x a.bytes s' rest answer
        go false (now, none) few = record {
          next = record {
            bytes = a.bytes;
            half = true;
            at = subst (λ left. Stood left true s') (sym (left_next chunks done a.bytes less))
                (record { runs = ap (λ (s : Station). is_running s.odt.mode) now ∙ stands.runs; is = ap (λ (s : Station). s.stub) now });
            keys = all.1;
            few = omega (arith, few, long);
          };
          how = inl (refl, ap (λ (s : Station). s.odt.memory) now, none);
        }
        go true (memory, changes, answers) few =
            let l : Left memory (answer_text memory ((chunk_nr chunks done).address + a.bytes)) (left_at chunks done (a.bytes + 1)) s' answer =
            answers_left x.machine.odt memory (answer_text memory ((chunk_nr chunks done).address + a.bytes)) (left_at chunks done (a.bytes + 1)) s' answer stands.runs answers in record {
              next = record { bytes = a.bytes + 1; half = false; at = l.at; keys = all.1; few = omega (arith, few, long) };
              how = inr (
                refl,
                less,
                subst (λ m. ChangesAt ((chunk_nr chunks done).address + a.bytes) x.machine.odt.memory m) (sym l.memory_is) changes,
                (l.extra, l.fits, subst (λ m. answer ≡ answer_text m ((chunk_nr chunks done).address + a.bytes) ++ l.extra) (sym l.memory_is) l.answer_is),
              );
            }

-- ---- `Z` behind the exchange

-- a station that ODT has, or on which a stub runs, is at its prompt behind `Z`, over the same memory
pub record IsHalted (s s' : Station) : Type 0 where
  pub memory : s'.odt.memory ≡ s.odt.memory
  pub back : AtPrompt s'

pub z_halts : (program : Program) (chunks : List Chunk) (done : ℕ) (s s' : Station) (answer : List ℕ) → IsParted chunks done s → Meets program s.stub s.odt 90 s' answer → IsHalted s s'
z_halts program chunks done s s' answer (inl at) meets = at_odt s.odt.mode at.prompt (subst (λ stub. Meets program stub s.odt 90 s' answer) at.none meets)
  where
    -- the machine's parts, so that its mode can be replaced
    key : (mode : Mode) → mode ≡ Prompt → (row s.odt.style s.odt.memory mode Other 90).memory ≡ s.odt.memory
    key mode is = subst (λ m. (row s.odt.style s.odt.memory m Other 90).memory ≡ s.odt.memory) (sym is) refl

    goes : (mode : Mode) → mode ≡ Prompt → (row s.odt.style s.odt.memory mode Other 90).mode ≡ Prompt
    goes mode is = subst (λ m. (row s.odt.style s.odt.memory m Other 90).mode ≡ Prompt) (sym is) refl

    none_begins : (test : Bool) (memory : List ℕ) (mode : Mode) → mode ≡ Prompt → begins program test memory mode ≡ None
    none_begins true memory mode is = refl
    none_begins false memory mode is = ap (begins program false memory) is

    at_odt : (mode : Mode) → s.odt.mode ≡ Prompt → Meets program None s.odt 90 s' answer → IsHalted s s'
    at_odt mode is (now, said) = record {
      memory = ap (λ (t : Station). t.odt.memory) now ∙ key s.odt.mode is;
      back = record {
        none = ap (λ (t : Station). t.stub) now ∙ none_begins (is_running s.odt.mode) (after_key s.odt 90).memory (after_key s.odt 90).mode (goes s.odt.mode is);
        prompt = ap (λ (t : Station). t.odt.mode) now ∙ goes s.odt.mode is;
      };
    }
z_halts program chunks done s s' answer (inr (left, half, each, at)) meets = by_stub (subst (λ stub. Meets program stub s.odt 90 s' answer) at.is meets)
  where
    by_stub : StubMeets false s.odt left half s' answer → IsHalted s s'
    by_stub (now, halts) = record {
      memory = ap (λ (t : Station). t.odt.memory) now;
      back = record { none = ap (λ (t : Station). t.stub) now; prompt = ap (λ (t : Station). t.odt.mode) now };
    }
