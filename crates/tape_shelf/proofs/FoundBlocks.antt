-- Blocks that are found at the front of a text.
use Rattle.std.proofs.Common.{◌≡◌, ℕ, zero, suc, ◌+◌, ◌*◌, ◌/◌, ◌%◌, ◌<◌, ◌≤◌, List, [], ◌∷◌, ◌++◌, length, take, drop, get_or, refl, arith, ap, sym, subst, ◌∙◌, append_assoc, append-nil, length-append, length-drop, take-append-drop}
use Rattle.std.specs.Prelude.{All}
use Rattle.std.specs.List.{flat_map}
use Rattle.std.proofs.lemmas.List.{length-take-le, take_all}
use Rattle.std.proofs.lemmas.List.Concat.{flat_map-append}
use Rattle.std.proofs.lemmas.List.Elements.{All-head, All-nil}
use Rattle.request_values.specs.declared.range.AddressRange.{AddressRange}
use Rattle.tape_values.specs.Block.{block_at, checksum, counted, data_block, framed, low_first}
use Rattle.tape_shelf.specs.FoundPart.{AreFoundIn, FillBlocks, HasBlock, IsBlank, IsCompleteBlock, MakeBlock}
use Rattle.tape_shelf.specs.SavedSteps.{adds, full}
use Rattle.tape_shelf.specs.SavedTape.{saved_block, words_in}
use Rattle.tape_shelf.specs.Shelf.{Add, written}
use Rattle.tape_shelf.proofs.Added.{drop_behind, no_adds, one_more_add, same_adds, take_front, written_append}
use Rattle.tape_shelf.proofs.SavedBlocks.{bytes_length}

-- a text begins with the full blocks that these numbers make from an address on
abbrev pub BeginsWith : ℕ → List ℕ → List ℕ → Type 0
BeginsWith from numbers text = (behind : List ℕ) × (text ≡ written (adds from numbers (full numbers)) ++ behind)

-- the numbers that make a block for this address stand behind others
abbrev pub IsOneMore : ℕ → List ℕ → List ℕ → List ℕ → Type 0
IsOneMore address before block after = (these : List ℕ) × MakeBlock address these block × (after ≡ before ++ these)

fill_nothing : (range : AddressRange) → FillBlocks range []
fill_nothing range = record { whole = refl; within = omega arith; small = All-nil _ }

pub begins_with_none : (from : ℕ) (text numbers : List ℕ) → numbers ≡ [] → BeginsWith from numbers text
begins_with_none from text numbers none = subst (λ list. BeginsWith from list text) (sym none) (text, ap (λ steps. written steps ++ text) (sym (no_adds from [])))

-- a text of bytes 00 has no block
pub found_none : (range : AddressRange) (text numbers : List ℕ) → numbers ≡ [] → IsBlank text → AreFoundIn range text numbers
found_none range text numbers none blank = subst (AreFoundIn range text) (sym none) (record {
  fill = fill_nothing range;
  begins = begins_with_none range.from text [] refl;
  all = λ h. no_block text blank h.1.1.text;
})
  where
    no_block : (text : List ℕ) {bytes : List ℕ} → IsBlank text → take 519 text ≡ 1 ∷ bytes → ⊥
    no_block [] blank is = absurd (cc is)
    no_block (b ∷ text) blank is = let zero_is : b ≡ 0 = All-head (λ b. b ≡ 0) b text blank in absurd (cc (is, zero_is))

block_length : (from : ℕ) (numbers : List ℕ) (n : ℕ) → 256 * n + 256 ≤ length numbers → length (data_block (saved_block from numbers n)) ≡ 519
block_length from numbers n low =
    let these : List ℕ = take 256 (drop (256 * n) numbers) in
    let all : length these ≡ 256 = length-take-le 256 (drop (256 * n) numbers) (omega (arith, low, length-drop (256 * n) numbers)) in
    framed_length (from + 2 * 256 * n) (flat_map low_first these) ∙ omega (arith, bytes_length these, all)
  where
    framed_length : (a : ℕ) (bytes : List ℕ) → length (framed a bytes) ≡ length bytes + 7
    framed_length a bytes = omega (arith, length-append (counted a bytes) (checksum (counted a bytes) ∷ []))

append_length : (xs : List ℕ) → length (xs ++ []) ≡ length xs
append_length xs = ap length (append-nil xs)

pub adds_length : (from : ℕ) (numbers : List ℕ) (n : ℕ) → 256 * n ≤ length numbers → length (written (adds from numbers n)) ≡ 519 * n
adds_length from numbers zero low = ap (λ steps. length (written steps)) (no_adds from numbers)
adds_length from numbers (suc n) low =
    let block : List ℕ = data_block (saved_block from numbers n) in
    let next : n + 1 ≡ suc n = omega arith in
    ap (λ k. length (written (adds from numbers k))) (sym next)
    ∙ (ap (λ steps. length (written steps)) (one_more_add from numbers n)
    ∙ (ap length (written_append (adds from numbers n) (Add block ∷ []))
    ∙ omega (arith, length-append (written (adds from numbers n)) (block ++ []), append_length block, adds_length from numbers n (omega (arith, low)), block_length from numbers n (omega (arith, low)))))

-- ---- one more block

-- the data of a block of 256 words, behind the 6 bytes before it
pub data_in : (address : ℕ) (bytes : List ℕ) → length bytes ≡ 512 → take 512 (drop 6 (framed address bytes)) ≡ bytes
data_in address bytes long = take_front 512 bytes (checksum (counted address bytes) ∷ []) (omega (arith, long)) ∙ take_all 512 bytes (omega (arith, long))

-- the block of this number of words that are all but those before it
pub last_block : (from : ℕ) (before these : List ℕ) (n : ℕ) → length before ≡ 256 * n → length these ≡ 256
    → saved_block from (before ++ these) n ≡ block_at (from + 512 * n) (flat_map low_first these)
last_block from before these n long whole =
    let place : 256 * n ≡ length before + 0 = omega (arith, long) in
    let at : from + 2 * 256 * n ≡ from + 512 * n = omega arith in
    let left : drop (256 * n) (before ++ these) ≡ these = ap (λ k. drop k (before ++ these)) place ∙ drop_behind before these 0 in
    ap (λ a. block_at a (flat_map low_first (take 256 (drop (256 * n) (before ++ these))))) at
    ∙ ap (λ list. block_at (from + 512 * n) (flat_map low_first list)) (ap (take 256) left ∙ take_all 256 these (omega (arith, whole)))

-- as many words as there are pairs of bytes
pub pairs : (these bytes : List ℕ) → flat_map low_first these ≡ bytes → length bytes ≡ 512 → length these ≡ 256
pairs these bytes is long = omega (arith, bytes_length these, ap length is, long)

-- the data of a block is as long
pub data_length : (block : List ℕ) → length block ≡ 519 → length (take 512 (drop 6 block)) ≡ 512
data_length block long = length-take-le 512 (drop 6 block) (omega (arith, length-drop 6 block, long))

-- two bytes more are a word more
two_more : (w : ℕ) (bytes : List ℕ) → suc w < length bytes → take (suc (suc w)) bytes ≡ take w bytes ++ get_or bytes w 0 ∷ get_or bytes (suc w) 0 ∷ []
two_more zero [] low = absurd (omega arith)
two_more zero (a ∷ []) low = absurd (omega arith)
two_more zero (a ∷ b ∷ bytes) low = refl
two_more (suc w) [] low = absurd (omega arith)
two_more (suc w) (x ∷ bytes) low = ap (λ list. x ∷ list) (two_more w bytes (omega (arith, low)))

pub one_more_word : (these bytes : List ℕ) (w word : ℕ) → flat_map low_first these ≡ take (2 * w) bytes → 2 * w + 1 < length bytes → get_or bytes (2 * w) 0 < 256
    → word ≡ get_or bytes (2 * w) 0 + 256 * get_or bytes (2 * w + 1) 0 → flat_map low_first (these ++ word ∷ []) ≡ take (2 * (w + 1)) bytes
one_more_word these bytes w word so_far low small is =
    let next : suc (2 * w) ≡ 2 * w + 1 = omega arith in
    let behind : suc (suc (2 * w)) ≡ 2 * (w + 1) = omega arith in
    let first : word % 256 ≡ get_or bytes (2 * w) 0 = omega (arith, small, is) in
    let second : word / 256 ≡ get_or bytes (suc (2 * w)) 0 = omega (arith, small, is) ∙ ap (λ k. get_or bytes k 0) (sym next) in
    flat_map-append low_first these (word ∷ [])
    ∙ (ap (λ front. front ++ low_first word) so_far
    ∙ (ap (λ b. take (2 * w) bytes ++ b ∷ word / 256 ∷ []) first
    ∙ (ap (λ b. take (2 * w) bytes ++ get_or bytes (2 * w) 0 ∷ b ∷ []) second
    ∙ (sym (two_more (2 * w) bytes (omega (arith, low))) ∙ ap (λ k. take k bytes) behind))))

-- what stands behind the blocks before it makes the block, if that is its text
pub block_made : (from : ℕ) (before these after block text : List ℕ) (n : ℕ) → length before ≡ 256 * n → length these ≡ 256 → after ≡ before ++ these
    → text ≡ data_block (saved_block from after n) → text ≡ block → MakeBlock (from + 512 * n) these block
block_made from before these after block text n long whole grown is same = record {
  whole = whole;
  text = sym same ∙ (is ∙ (ap (λ list. data_block (saved_block from list n)) grown ∙ ap data_block (last_block from before these n long whole)));
}

-- the text of these words is that of the block, if that is complete
pub complete_text : (from : ℕ) (before these after block text : List ℕ) (n : ℕ) → length before ≡ 256 * n → length these ≡ 256 → after ≡ before ++ these → flat_map low_first these ≡ take 512 (drop 6 block)
    → text ≡ data_block (saved_block from after n) → IsCompleteBlock (from + 512 * n) block → text ≡ block
complete_text from before these after block text n long whole grown bytes is complete =
    let others : List ℕ = complete.0 in
    let same : flat_map low_first these ≡ flat_map low_first others =
    bytes ∙ (ap (λ b. take 512 (drop 6 b)) complete.1.text ∙ data_in (from + 512 * n) (flat_map low_first others) (omega (arith, bytes_length others, complete.1.whole))) in
    is
    ∙ (ap (λ list. data_block (saved_block from list n)) grown
    ∙ (ap data_block (last_block from before these n long whole)
    ∙ (ap (λ b. data_block (block_at (from + 512 * n) b)) same ∙ sym complete.1.text)))

-- a text that begins with some blocks begins with the next one, too
pub next_block : (from : ℕ) (text before after block : List ℕ) (n : ℕ) → length before ≡ 256 * n → BeginsWith from before text → block ≡ take 519 (drop (519 * n) text)
    → IsOneMore (from + 512 * n) before block after → BeginsWith from after text
next_block from text before after block n long begins is more =
    let behind : List ℕ = begins.0 in
    let front : List ℕ = written (adds from before n) in
    let so_many : full before ≡ n = omega (arith, long) in
    let all : text ≡ front ++ behind = begins.1 ∙ ap (λ k. written (adds from before k) ++ behind) so_many in
    let place : 519 * n ≡ length front + 0 = omega (arith, adds_length from before n (omega (arith, long))) in
    let rest : drop (519 * n) text ≡ behind = ap (λ k. drop k text) place ∙ (ap (drop (length front + 0)) all ∙ drop_behind front behind 0) in
    let cut : behind ≡ block ++ drop 519 behind = sym (take-append-drop 519 behind) ∙ ap (λ b. b ++ drop 519 behind) (sym (is ∙ ap (take 519) rest)) in
    let grown : full after ≡ n + 1 = omega (arith, long, more.1.whole, ap length more.2, length-append before more.0) in
    let this : data_block (saved_block from after n) ≡ block =
    ap (λ list. data_block (saved_block from list n)) more.2 ∙ (ap data_block (last_block from before more.0 n long more.1.whole) ∙ sym more.1.text) in
    let blocks : written (adds from after (full after)) ≡ front ++ block =
    ap (λ k. written (adds from after k)) grown
    ∙ (ap written (one_more_add from after n)
    ∙ (written_append (adds from after n) (Add (data_block (saved_block from after n)) ∷ [])
    ∙ (ap (λ b. written (adds from after n) ++ b) (append-nil (data_block (saved_block from after n)) ∙ this)
    ∙ ap (λ steps. written steps ++ block) (ap (λ numbers. adds from numbers n) more.2 ∙ same_adds from before more.0 n (omega (arith, long)))))) in
    (drop 519 behind, all ∙ (ap (λ b. front ++ b) cut ∙ (sym (append_assoc front block (drop 519 behind)) ∙ ap (λ b. b ++ drop 519 behind) (sym blocks))))

-- ---- how far it goes

-- behind blocks that are all that a range has there is none
pub no_more : (range : AddressRange) (text numbers : List ℕ) (n : ℕ) → length numbers ≡ 256 * n → words_in range / 256 ≤ n → HasBlock range text (full numbers) → ⊥
no_more range text numbers n whole all h = omega (arith, whole, all, h.0)

-- nor behind one that is not complete
pub none_behind : (range : AddressRange) (text numbers block : List ℕ) (n : ℕ) → length numbers ≡ 256 * n → block ≡ take 519 (drop (519 * n) text) → (IsCompleteBlock (range.from + 512 * n) block → ⊥)
    → HasBlock range text (full numbers) → ⊥
none_behind range text numbers block n whole is torn h =
    let so_many : full numbers ≡ n = omega (arith, whole) in
    torn (subst (IsCompleteBlock (range.from + 512 * n)) (sym is) (subst (λ k. IsCompleteBlock (range.from + 512 * k) (take 519 (drop (519 * k) text))) so_many h.1))

-- what is found in a text
pub all_found : (range : AddressRange) (text numbers : List ℕ) (n : ℕ) → All (λ k. k < 65536) numbers → length numbers ≡ 256 * n → n ≤ words_in range / 256 → BeginsWith range.from numbers text
    → (HasBlock range text (full numbers) → ⊥) → AreFoundIn range text numbers
all_found range text numbers n small whole few begins all =
    record { fill = record { whole = omega (arith, whole); within = omega (arith, whole, few); small = small }; begins = begins; all = all }
