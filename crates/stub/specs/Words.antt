-- The stub's words: its code, and the table of its stretches. `src/words.rt` has the listing beside the same words.
use Rattle.std.specs.Prelude.{ℕ, ◌+◌, List, [], ◌∷◌, ◌++◌}
use Rattle.exchange_core.specs.declared.stretch.Stretch.{Stretch}

-- how far behind the first word the table begins: 63 words of code
abbrev pub code_bytes : ℕ
code_bytes = 126

-- how far behind it the halt lies
abbrev pub halt_bytes : ℕ
halt_bytes = 124

-- the code, for an address at which it is to lie; that stands in two words alone
abbrev pub code : ℕ → List ℕ
code place =
    -- start: interrupts are masked, the table begins, and a high nibble is to be sent next
    0o106427 ∷ 0o000340 ∷ 0o012705 ∷ (place + code_bytes) ∷ 0o012706 ∷ 0o000000 ∷
    -- next: the next stretch, or halt
    0o012501 ∷ 0o001466 ∷ 0o012500 ∷ 0o010002 ∷
    -- byte: the next byte
    0o012703 ∷ 0o000200 ∷
    -- loop: where the stretch is not full and a character has come, it is fetched, judged, and joined to the byte
    0o020001 ∷ 0o001427 ∷ 0o105737 ∷ 0o177560 ∷ 0o100024 ∷ 0o113704 ∷ 0o177562 ∷ 0o042704 ∷ 0o177600 ∷ 0o162704 ∷ 0o000140 ∷ 0o020427 ∷ 0o000017 ∷ 0o101010 ∷
    0o006303 ∷ 0o006303 ∷ 0o006303 ∷ 0o006303 ∷ 0o060403 ∷ 0o100354 ∷
    -- the byte is stored
    0o110320 ∷ 0o000750 ∷
    -- bad: no nibble: the stretch ends here, and behind it the table
    0o010001 ∷ 0o012705 ∷ (place + halt_bytes) ∷
    -- idle: where an answer is owed and the transmitter is free, the next nibble of memory is read
    0o020200 ∷ 0o001424 ∷ 0o105737 ∷ 0o177564 ∷ 0o100342 ∷ 0o005106 ∷ 0o100006 ∷ 0o111204 ∷ 0o006204 ∷ 0o006204 ∷ 0o006204 ∷ 0o006204 ∷ 0o000401 ∷
    0o112204 ∷
    -- out: its complement is sent
    0o005104 ∷ 0o042704 ∷ 0o177760 ∷ 0o062704 ∷ 0o000140 ∷ 0o110437 ∷ 0o177566 ∷ 0o000721 ∷
    -- empty: nothing is owed: the stretch is full, or not
    0o020001 ∷ 0o001317 ∷ 0o000710 ∷
    -- stop
    0o000000 ∷ []

-- the table: each stretch's end and start, and 0
abbrev pub table : List Stretch → List ℕ
table [] = 0 ∷ []
table (stretch ∷ stretches) = stretch.to ∷ stretch.from ∷ table stretches

-- the stub for an address and stretches
abbrev pub stub_words : ℕ → List Stretch → List ℕ
stub_words place stretches = code place ++ table stretches
