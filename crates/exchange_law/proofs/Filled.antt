-- The stub that takes all characters of some chunks, and loses none.
use Rattle.std.proofs.Common.{◌≡◌, ◌≢◌, ℕ, zero, suc, ◌+◌, ◌-◌, ◌*◌, ◌/◌, ◌%◌, ◌<◌, ◌≤◌, ◌⊎◌, Bool, true, false, List, [], ◌∷◌, ◌++◌, length, Some, None, inl, inr, refl, arith, ap, sym, subst, ◌∙◌, append-nil, append_assoc}
use Rattle.std.proofs.lemmas.Bool.Decides.{nat_tests}
use Rattle.std.proofs.lemmas.Grind.{get_or-set_at}
use Rattle.std.specs.Prelude.{◌==◌, if◌then◌else◌, slice_index}
use Rattle.tape_image.specs.Image.{Image}
use Rattle.tape_image.specs.Memory.{byte_of, half, top_of}
use Rattle.odt_machine.specs.Machine.{IsWide, word_at}
use Rattle.processor.specs.Access.{with_byte, with_half}
use Rattle.exchange_core.specs.declared.chunk.Chunk.{Chunk}
use Rattle.exchange_core.specs.Chunk.{IsIn, chunk_keys, chunk_nr, is_nibble, key_at, key_for, told}
use Rattle.exchange_core.specs.Stretch.{places_from}
use Rattle.exchange_core.proofs.Keys.{keys_more, keys_split}
use Rattle.exchange_law.specs.Law.{bytes_of}
use Rattle.stub.specs.Filling.{Filling, after, answered, spelled, taken, takes, with_nibble}
use Rattle.stub.proofs.Memory.{byte_other, length_with, wide_with}
use Rattle.exchange_law.specs.Clean.{all_keys}

-- every byte of an image is one
abbrev pub AreBytes : Image → Type 0
AreBytes image = (a : ℕ) → told image a < 256

-- ---- memory

-- the first bytes of a chunk were written, so many
abbrev pub written : Image → Chunk → List ℕ → ℕ → List ℕ
written image c memory zero = memory
written image c memory (suc j) = with_byte (written image c memory j) (c.address + j) (told image (c.address + j))

pub written_length : (image : Image) (c : Chunk) (memory : List ℕ) (n : ℕ) → length (written image c memory n) ≡ length memory
written_length image c memory zero = refl
written_length image c memory (suc j) = length_with (written image c memory j) (c.address + j) (told image (c.address + j)) ∙ written_length image c memory j

pub written_wide : (image : Image) (c : Chunk) (memory : List ℕ) (n : ℕ) → AreBytes image → IsWide memory → IsWide (written image c memory n)
written_wide image c memory zero small wide = wide
written_wide image c memory (suc j) small wide = wide_with (written image c memory j) (c.address + j) (told image (c.address + j)) (written_wide image c memory j small wide) (small (c.address + j))

pub written_other : (image : Image) (c : Chunk) (memory : List ℕ) (n b : ℕ) → AreBytes image → IsWide memory → (b < c.address) ⊎ (c.address + n ≤ b) → byte_of (written image c memory n) b ≡ byte_of memory b
written_other image c memory zero b small wide apart = refl
written_other image c memory (suc j) b small wide apart =
    byte_other (written image c memory j) (c.address + j) (told image (c.address + j)) b (written_wide image c memory j small wide) (small (c.address + j)) (other c.address j b apart)
    ∙ written_other image c memory j b small wide (fewer c.address j b apart)
  where
    other : (a j b : ℕ) → (b < a) ⊎ (a + suc j ≤ b) → b ≢ a + j
    other a j b (inl low) same = omega arith
    other a j b (inr high) same = omega arith

    fewer : (a j b : ℕ) → (b < a) ⊎ (a + suc j ≤ b) → (b < a) ⊎ (a + j ≤ b)
    fewer a j b (inl low) = inl low
    fewer a j b (inr high) = inr (omega arith)

-- the byte that was written is there
byte_same : (memory : List ℕ) (a v : ℕ) → v < 256 → a < top_of memory → byte_of (with_byte memory a v) a ≡ v
byte_same memory a v small below =
    let now : slice_index (with_byte memory a v) (a / 2) ≡ with_half a (word_at memory a) v = get_or-set_at memory (a / 2) (a / 2) (with_half a (word_at memory a) v) 0 refl (inside a (length memory) below) in
    ap (half a) now ∙ same_half a (word_at memory a) v small
  where
    inside : (a n : ℕ) → a < 2 * n → a / 2 < n
    inside a n below = omega arith

    same_half : (a word v : ℕ) → v < 256 → half a (with_half a word v) ≡ v
    same_half a word v small = grind (arith, nat_tests)

below_or : (i n : ℕ) → i < suc n → (i < n) ⊎ (i ≡ n)
below_or i n h = grind arith

pub written_in : (image : Image) (c : Chunk) (memory : List ℕ) (n i : ℕ) → AreBytes image → IsWide memory → i < n → c.address + n ≤ top_of memory → byte_of (written image c memory n) (c.address + i) ≡ told image (c.address + i)
written_in image c memory zero i small wide less room = absurd (omega (arith, less))
written_in image c memory (suc j) i small wide less room = elim (below_or i j less) [
  | inl earlier ↦
      byte_other (written image c memory j) (c.address + j) (told image (c.address + j)) (c.address + i) (written_wide image c memory j small wide) (small (c.address + j)) (other c.address i j earlier)
      ∙ written_in image c memory j i small wide earlier (fewer c.address j (top_of memory) room)
  | inr same ↦ subst (λ k. byte_of (written image c memory (suc j)) (c.address + k) ≡ told image (c.address + k)) (sym same)
      (byte_same (written image c memory j) (c.address + j) (told image (c.address + j)) (small (c.address + j)) (within c.address j (length memory) (length (written image c memory j)) (written_length image c memory j) room))
]
  where
    other : (a i j : ℕ) → i < j → a + i ≢ a + j
    other a i j less same = omega arith

    fewer : (a j top : ℕ) → a + suc j ≤ top → a + j ≤ top
    fewer a j top le = omega arith

    within : (a j n m : ℕ) → m ≡ n → a + suc j ≤ 2 * n → a + j < 2 * m
    within a j n m same le = omega arith

-- ---- one chunk

-- so many bytes of the image from an address on, as a stub answers them
abbrev pub told_text : Image → ℕ → ℕ → List ℕ
told_text image a zero = []
told_text image a (suc n) = answered (told image a / 16) ∷ answered (told image a % 16) ∷ told_text image (a + 1) n

told_more : (image : Image) (n a b : ℕ) → a + n ≡ b → told_text image a (suc n) ≡ told_text image a n ++ answered (told image b / 16) ∷ answered (told image b % 16) ∷ []
told_more image zero a b is = ap (λ x. answered (told image x / 16) ∷ answered (told image x % 16) ∷ []) (same a b is)
  where
    same : (a b : ℕ) → a + 0 ≡ b → a ≡ b
    same a b is = omega (arith, is)
told_more image (suc n) a b is = ap (λ list. answered (told image a / 16) ∷ answered (told image a % 16) ∷ list) (told_more image n (a + 1) b (next a n b is))
  where
    next : (a n b : ℕ) → a + suc n ≡ b → a + 1 + n ≡ b
    next a n b is = omega (arith, is)

-- the stub in the middle of a chunk, behind so many of its bytes
abbrev pub midway : Image → Chunk → List ℕ → List ℕ → List ℕ → ℕ → Filling
midway image c rest memory answers j =
    record { memory = written image c memory j; left = places_from (c.size - j) (c.address + j) ++ rest; high = None; answers = answers ++ told_text image c.address j }

pub after_then : (f : Filling) (xs ys : List ℕ) → after f (xs ++ ys) ≡ after (after f xs) ys
after_then f [] ys = refl
after_then f (x ∷ xs) ys = after_then (taken f x) xs ys

-- a nibble's character is taken
one_taken : (f : Filling) (a : ℕ) (rest : List ℕ) (n : ℕ) → n < 16 → takes f (a ∷ rest) (96 + n) ≡ with_nibble f f.high n a rest
one_taken f a rest n small =
    ap (λ (t : Bool). if t then with_nibble f f.high (96 + n - 96) a rest else record f { left = [] }) (is_one n small) ∙ ap (λ k. with_nibble f f.high k a rest) (the_nibble n)
  where
    is_one : (n : ℕ) → n < 16 → is_nibble (96 + n) ≡ true
    is_one n small = grind (arith, nat_tests)

    the_nibble : (n : ℕ) → 96 + n - 96 ≡ n
    the_nibble n = omega arith

-- the characters of a byte
pub even_key : (image : Image) (c : Chunk) (j : ℕ) → key_at image c (2 * j) ≡ 96 + told image (c.address + j) / 16
even_key image c j = ap (λ i. key_for (told image (c.address + i)) (2 * j)) (half_of j) ∙ ap (λ (t : Bool). 96 + (if t then told image (c.address + j) / 16 else told image (c.address + j) % 16)) (test j)
  where
    half_of : (j : ℕ) → 2 * j / 2 ≡ j
    half_of j = omega arith

    test : (j : ℕ) → (2 * j % 2 == 0) ≡ true
    test j = grind (arith, nat_tests)

odd_key : (image : Image) (c : Chunk) (j : ℕ) → key_at image c (2 * j + 1) ≡ 96 + told image (c.address + j) % 16
odd_key image c j = ap (λ i. key_for (told image (c.address + i)) (2 * j + 1)) (half_of j) ∙ ap (λ (t : Bool). 96 + (if t then told image (c.address + j) / 16 else told image (c.address + j) % 16)) (test j)
  where
    half_of : (j : ℕ) → (2 * j + 1) / 2 ≡ j
    half_of j = omega arith

    test : (j : ℕ) → ((2 * j + 1) % 2 == 0) ≡ false
    test j = grind (arith, nat_tests)

-- the bytes that are left behind so many, with one more
next_left : (c : Chunk) (rest : List ℕ) (j : ℕ) → j < c.size → places_from (c.size - j) (c.address + j) ++ rest ≡ (c.address + j) ∷ (places_from (c.size - suc j) (c.address + suc j) ++ rest)
next_left c rest j less =
    ap (λ n. places_from n (c.address + j) ++ rest) (one_less c.size j less) ∙ ap (λ a. (c.address + j) ∷ (places_from (c.size - suc j) a ++ rest)) (again c.address j)
  where
    one_less : (n j : ℕ) → j < n → n - j ≡ suc (n - suc j)
    one_less n j less = omega (arith, less)

    again : (a j : ℕ) → a + j + 1 ≡ a + suc j
    again a j = omega arith

-- the first character of a byte
high_taken : (image : Image) (c : Chunk) (rest : List ℕ) (memory answers : List ℕ) (j : ℕ) → AreBytes image → j < c.size →
    taken (midway image c rest memory answers j) (key_at image c (2 * j)) ≡
    record { memory = written image c memory j; left = (c.address + j) ∷ (places_from (c.size - suc j) (c.address + suc j) ++ rest); high = Some (told image (c.address + j) / 16); answers = answers ++ told_text image c.address j }
high_taken image c rest memory answers j small less =
    let more : List ℕ = places_from (c.size - suc j) (c.address + suc j) ++ rest in
    let v : ℕ = told image (c.address + j) in
    ap (λ left. taken (record { memory = written image c memory j; left = left; high = None; answers = answers ++ told_text image c.address j }) (key_at image c (2 * j))) (next_left c rest j less)
    ∙ (ap (λ k. taken (record { memory = written image c memory j; left = (c.address + j) ∷ more; high = None; answers = answers ++ told_text image c.address j }) k) (even_key image c j)
    ∙ one_taken (record { memory = written image c memory j; left = (c.address + j) ∷ more; high = None; answers = answers ++ told_text image c.address j }) (c.address + j) more (v / 16) (high_small v (small (c.address + j))))
  where
    high_small : (v : ℕ) → v < 256 → v / 16 < 16
    high_small v small = omega (arith, small)

-- a byte's two characters
two_taken : (image : Image) (c : Chunk) (rest : List ℕ) (memory answers : List ℕ) (j : ℕ) → AreBytes image → IsWide memory → c.address + c.size ≤ top_of memory → j < c.size →
    after (midway image c rest memory answers j) (key_at image c (2 * j) ∷ key_at image c (2 * j + 1) ∷ []) ≡ midway image c rest memory answers (suc j)
two_taken image c rest memory answers j small wide room less =
    let a : ℕ = c.address + j in
    let more : List ℕ = places_from (c.size - suc j) (c.address + suc j) ++ rest in
    let v : ℕ = told image (c.address + j) in
    let n = nibbles v (small (c.address + j)) in
    let f : Filling = record { memory = written image c memory j; left = (c.address + j) ∷ more; high = Some (told image (c.address + j) / 16); answers = answers ++ told_text image c.address j } in
    ap (λ g. taken g (key_at image c (2 * j + 1))) (high_taken image c rest memory answers j small less)
    ∙ (ap (λ k. taken f k) (odd_key image c j)
    ∙ (one_taken f (c.address + j) more (v % 16) n.0
    ∙ (ap (λ w. record { memory = with_byte (written image c memory j) (c.address + j) w; left = more; high = None; answers = (answers ++ told_text image c.address j) ++ spelled (with_byte (written image c memory j) (c.address + j) w) (c.address + j) }) n.1
    ∙ (ap (λ b. record { memory = written image c memory (suc j); left = more; high = None; answers = (answers ++ told_text image c.address j) ++ (answered (b / 16) ∷ answered (b % 16) ∷ []) }) (written_in image c memory (suc j) j small wide (one j) (fits c.address j c.size (top_of memory) less room))
    ∙ ap (λ text. record { memory = written image c memory (suc j); left = more; high = None; answers = text })
    (append_assoc answers (told_text image c.address j) (answered (v / 16) ∷ answered (v % 16) ∷ []) ∙ ap (λ list. answers ++ list) (sym (told_more image j c.address (c.address + j) refl)))))))
  where
    nibbles : (v : ℕ) → v < 256 → (v % 16 < 16) × (16 * (v / 16) + v % 16 ≡ v)
    nibbles v small = (omega arith, omega arith)

    one : (j : ℕ) → j < suc j
    one j = omega arith

    fits : (a j n top : ℕ) → j < n → a + n ≤ top → a + suc j ≤ top
    fits a j n top less room = omega (arith, less, room)

keys_twice : (image : Image) (c : Chunk) (j : ℕ) → chunk_keys image c (2 * suc j) ≡ chunk_keys image c (2 * j) ++ (key_at image c (2 * j) ∷ key_at image c (2 * j + 1) ∷ [])
keys_twice image c j = ap (chunk_keys image c) (twice j) ∙ sym (keys_split image c 2 (2 * j))
  where
    twice : (j : ℕ) → 2 * suc j ≡ 2 * j + 2
    twice j = omega arith

-- nothing was taken yet
pub midway_none : (image : Image) (c : Chunk) (rest : List ℕ) (memory answers : List ℕ) → record { memory = memory; left = places_from c.size c.address ++ rest; high = None; answers = answers } ≡ midway image c rest memory answers 0
midway_none image c rest memory answers =
    ap (λ n. record { memory = memory; left = places_from n c.address ++ rest; high = None; answers = answers }) (off c.size)
    ∙ (ap (λ a. record { memory = memory; left = places_from (c.size - 0) a ++ rest; high = None; answers = answers }) (none c.address)
    ∙ ap (λ text. record { memory = memory; left = places_from (c.size - 0) (c.address + 0) ++ rest; high = None; answers = text }) (sym (append-nil answers)))
  where
    off : (n : ℕ) → n ≡ n - 0
    off n = omega arith

    none : (a : ℕ) → a ≡ a + 0
    none a = omega arith

-- the first bytes of a chunk
pub some_taken : (image : Image) (c : Chunk) (rest : List ℕ) (memory answers : List ℕ) (j : ℕ) → AreBytes image → IsWide memory → c.address + c.size ≤ top_of memory → j ≤ c.size →
    after (midway image c rest memory answers 0) (chunk_keys image c (2 * j)) ≡ midway image c rest memory answers j
some_taken image c rest memory answers zero small wide room le = refl
some_taken image c rest memory answers (suc j) small wide room le =
    ap (after (midway image c rest memory answers 0)) (keys_twice image c j)
    ∙ (after_then (midway image c rest memory answers 0) (chunk_keys image c (2 * j)) _
    ∙ (ap (λ f. after f (key_at image c (2 * j) ∷ key_at image c (2 * j + 1) ∷ [])) (some_taken image c rest memory answers j small wide room (fewer j c.size le))
    ∙ two_taken image c rest memory answers j small wide room le))
  where
    fewer : (j n : ℕ) → suc j ≤ n → j ≤ n
    fewer j n le = omega (arith, le)

-- all of them
pub chunk_taken : (image : Image) (c : Chunk) (rest : List ℕ) (memory answers : List ℕ) → AreBytes image → IsWide memory → c.address + c.size ≤ top_of memory →
    after (midway image c rest memory answers 0) (chunk_keys image c (2 * c.size)) ≡ record { memory = written image c memory c.size; left = rest; high = None; answers = answers ++ told_text image c.address c.size }
chunk_taken image c rest memory answers small wide room =
    some_taken image c rest memory answers c.size small wide room (all c.size)
    ∙ ap (λ n. record { memory = written image c memory c.size; left = places_from n (c.address + c.size) ++ rest; high = None; answers = answers ++ told_text image c.address c.size }) (none c.size)
  where
    all : (n : ℕ) → n ≤ n
    all n = omega arith

    none : (n : ℕ) → n - n ≡ 0
    none n = omega arith

-- ---- what was answered behind so many characters

two_or : (n : ℕ) → ((j : ℕ) × (n ≡ 2 * j)) ⊎ ((j : ℕ) × (n ≡ 2 * j + 1))
two_or zero = inl (0, refl)
two_or (suc n) = elim (two_or n) [ inl e ↦ inr (e.0, let is = e.1 in omega (arith, is)) | inr o ↦ inl (o.0 + 1, let is = o.1 in omega (arith, is)) ]

pub answered_by : (image : Image) (c : Chunk) (rest : List ℕ) (memory answers : List ℕ) (n : ℕ) → AreBytes image → IsWide memory → c.address + c.size ≤ top_of memory → n ≤ 2 * c.size →
    (after (midway image c rest memory answers 0) (chunk_keys image c n)).answers ≡ answers ++ told_text image c.address (n / 2)
answered_by image c rest memory answers n small wide room le = elim (two_or n) [
  | inl (j, is) ↦ subst (λ m. (after (midway image c rest memory answers 0) (chunk_keys image c m)).answers ≡ answers ++ told_text image c.address (m / 2)) (sym is)
      (ap (λ (f : Filling). f.answers) (some_taken image c rest memory answers j small wide room (half n j c.size is le)) ∙ ap (λ k. answers ++ told_text image c.address k) (sym (half_even j)))
  | inr (j, is) ↦ subst (λ m. (after (midway image c rest memory answers 0) (chunk_keys image c m)).answers ≡ answers ++ told_text image c.address (m / 2)) (sym is)
      (odd j (half_less n j c.size is le) ∙ ap (λ k. answers ++ told_text image c.address k) (sym (half_odd j)))
]
  where
    half : (n j s : ℕ) → n ≡ 2 * j → n ≤ 2 * s → j ≤ s
    half n j s is le = omega (arith, is, le)

    half_less : (n j s : ℕ) → n ≡ 2 * j + 1 → n ≤ 2 * s → j < s
    half_less n j s is le = omega (arith, is, le)

    half_even : (j : ℕ) → 2 * j / 2 ≡ j
    half_even j = omega arith

    half_odd : (j : ℕ) → (2 * j + 1) / 2 ≡ j
    half_odd j = omega arith

    odd : (j : ℕ) → j < c.size → (after (midway image c rest memory answers 0) (chunk_keys image c (2 * j + 1))).answers ≡ answers ++ told_text image c.address j
    odd j below =
        ap (λ (keys : List ℕ). (after (midway image c rest memory answers 0) keys).answers) (keys_more image c (2 * j))
        ∙ (ap (λ (f : Filling). f.answers) (after_then (midway image c rest memory answers 0) (chunk_keys image c (2 * j)) (key_at image c (2 * j) ∷ []))
        ∙ (ap (λ (f : Filling). (taken f (key_at image c (2 * j))).answers) (some_taken image c rest memory answers j small wide room (weaker j c.size below))
        ∙ ap (λ (f : Filling). f.answers) (high_taken image c rest memory answers j small below)))
      where
        weaker : (j n : ℕ) → j < n → j ≤ n
        weaker j n less = omega (arith, less)

-- ---- all chunks

-- memory behind all of them
abbrev pub all_written : Image → List Chunk → List ℕ → List ℕ
all_written image [] memory = memory
all_written image (c ∷ chunks) memory = all_written image chunks (written image c memory c.size)

abbrev pub told_texts : Image → List Chunk → List ℕ
told_texts image [] = []
told_texts image (c ∷ chunks) = told_text image c.address c.size ++ told_texts image chunks

-- chunks that have bytes, all of which lie in memory
abbrev pub AreInside : List Chunk → ℕ → Type 0
AreInside chunks top = (k : ℕ) → k < length chunks → (1 ≤ (chunk_nr chunks k).size) × ((chunk_nr chunks k).address + (chunk_nr chunks k).size ≤ top)

pub all_taken : (image : Image) (chunks : List Chunk) (memory answers : List ℕ) → AreBytes image → IsWide memory → AreInside chunks (top_of memory) →
    after (record { memory = memory; left = bytes_of chunks; high = None; answers = answers }) (all_keys image chunks) ≡
    record { memory = all_written image chunks memory; left = []; high = None; answers = answers ++ told_texts image chunks }
all_taken image [] memory answers small wide inside = ap (λ list. record { memory = memory; left = []; high = None; answers = list }) (sym (append-nil answers))
all_taken image (c ∷ chunks) memory answers small wide inside =
    let here = inside 0 (omega arith) in
    let rest : List ℕ = bytes_of chunks in
    let now : List ℕ = written image c memory c.size in
    after_then (record { memory = memory; left = bytes_of (c ∷ chunks); high = None; answers = answers }) (chunk_keys image c (2 * c.size)) (all_keys image chunks)
    ∙ (ap (λ n. after (after (record { memory = memory; left = places_from n c.address ++ bytes_of chunks; high = None; answers = answers }) (chunk_keys image c (2 * c.size))) (all_keys image chunks)) (size c.address c.size)
    ∙ (ap (λ f. after (after f (chunk_keys image c (2 * c.size))) (all_keys image chunks)) (midway_none image c rest memory answers)
    ∙ (ap (λ f. after f (all_keys image chunks)) (chunk_taken image c rest memory answers small wide here.1)
    ∙ (all_taken image chunks (written image c memory c.size) (answers ++ told_text image c.address c.size) small (written_wide image c memory c.size small wide)
    (λ k less. let at = inside (suc k) (omega (arith, less)) in (at.0, subst (λ n. (chunk_nr chunks k).address + (chunk_nr chunks k).size ≤ 2 * n) (sym (written_length image c memory c.size)) at.1))
    ∙ ap (λ list. record { memory = all_written image chunks (written image c memory c.size); left = []; high = None; answers = list }) (append_assoc answers (told_text image c.address c.size) (told_texts image chunks))))))
  where
    size : (a n : ℕ) → a + n - a ≡ n
    size a n = omega arith

-- ---- memory behind all of them

pub all_length : (image : Image) (chunks : List Chunk) (memory : List ℕ) → length (all_written image chunks memory) ≡ length memory
all_length image [] memory = refl
all_length image (c ∷ chunks) memory = all_length image chunks (written image c memory c.size) ∙ written_length image c memory c.size

outside_or : (c : Chunk) (b : ℕ) → (IsIn c b → ⊥) → (b < c.address) ⊎ (c.address + c.size ≤ b)
outside_or c b none = elim (three c.address (c.address + c.size) b) [ inl low ↦ inl low | inr (inl high) ↦ inr high | inr (inr inside) ↦ absurd (none (record { from = inside.0; to = inside.1 })) ]
  where
    three : (a end b : ℕ) → (b < a) ⊎ ((end ≤ b) ⊎ ((a ≤ b) × (b < end)))
    three a end b = grind arith

pub all_other : (image : Image) (chunks : List Chunk) (memory : List ℕ) (b : ℕ) → AreBytes image → IsWide memory → ((k : ℕ) → k < length chunks → IsIn (chunk_nr chunks k) b → ⊥) → byte_of (all_written image chunks memory) b ≡ byte_of memory b
all_other image [] memory b small wide none = refl
all_other image (c ∷ chunks) memory b small wide none =
    all_other image chunks (written image c memory c.size) b small (written_wide image c memory c.size small wide) (λ k less inside. none (suc k) (omega (arith, less)) inside)
    ∙ written_other image c memory c.size b small wide (outside_or c b (none 0 (omega arith)))

pub all_in : (image : Image) (chunks : List Chunk) (memory : List ℕ) (k b : ℕ) → AreBytes image → IsWide memory → AreInside chunks (top_of memory) → k < length chunks → IsIn (chunk_nr chunks k) b →
    ((j i : ℕ) → j < i → i < length chunks → (a : ℕ) → IsIn (chunk_nr chunks j) a → IsIn (chunk_nr chunks i) a → ⊥) → byte_of (all_written image chunks memory) b ≡ told image b
all_in image [] memory k b small wide inside below is apart = absurd (omega (arith, below))
all_in image (c ∷ chunks) memory zero b small wide inside below is apart =
    all_other image chunks (written image c memory c.size) b small (written_wide image c memory c.size small wide) (λ i less in_later. apart 0 (suc i) (omega arith) (omega (arith, less)) b is in_later)
    ∙ subst (λ a. byte_of (written image c memory c.size) a ≡ told image a) (at c.address b is.from) (written_in image c memory c.size (b - c.address) small wide (offset c.address c.size b is.from is.to) (inside 0 (omega arith)).1)
  where
    at : (a b : ℕ) → a ≤ b → a + (b - a) ≡ b
    at a b le = omega arith

    offset : (a n b : ℕ) → a ≤ b → b < a + n → b - a < n
    offset a n b le less = omega arith
all_in image (c ∷ chunks) memory (suc k) b small wide inside below is apart =
    all_in image chunks (written image c memory c.size) k b small (written_wide image c memory c.size small wide)
    (λ i less. let at = inside (suc i) (omega (arith, less)) in (at.0, subst (λ n. (chunk_nr chunks i).address + (chunk_nr chunks i).size ≤ 2 * n) (sym (written_length image c memory c.size)) at.1))
    (omega (arith, below)) is (λ j i less low a one other. apart (suc j) (suc i) (omega (arith, less)) (omega (arith, low)) a one other)
