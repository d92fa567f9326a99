-- The numbers of a line, and what they say.
use Rattle.std.proofs.Common.{◌≡◌, ◌==◌, ℕ, ◌+◌, ◌-◌, ◌*◌, ◌%◌, ◌≤◌, List, [], ◌∷◌, ◌++◌, length, take, drop, arith, ap, sym, refl, ◌∙◌, subst, inr, ⊎_elim, Result, Ok, Err, true, false, Option, Some, None, nat_lt, cond, append-nil}
use Rattle.std.specs.Prelude.{IsErrAnd, IfSome}
use Rattle.std.specs.List.{position, position_or_len, before_first, after_first, flat_map}
use Rattle.std.proofs.lemmas.List.{take_all, take_rest, drop_all}
use Rattle.std.proofs.lemmas.Bool.Decides.{nat_tests}
use Rattle.tape_values.specs.Block.{BlockValue, IsBlock, block_at, low_first, top}
use Rattle.tape_making.specs.declared.refusal.WordsWhy.{WordsWhy}
use Rattle.tape_making.specs.declared.refusal.WordsWhy.TheVariants.{BadNumber, NoWords, OddAddress, PastTop}
use Rattle.tape_making.specs.declared.refusal.RowFault.{RowFault}
use Rattle.tape_making.specs.declared.refusal.RowFault.TheVariants.{Wrong, Memory}
use Rattle.tape_making.specs.Words.{AreNumbers, HasNumbers, Says, is_slash, judged, without_remark}
use Rattle.tape_making.specs.Reading.{IsNone, IsRowFault, said_by}
use Rattle.tape_making.proofs.Numbers.{same_numbers, found_at, found_nowhere}

-- ---- a line without a slash

no_slash_before : (text : List ℕ) → position is_slash text ≡ None → before_first is_slash text ≡ text
no_slash_before text none = take_all (position_or_len is_slash text) text (found_nowhere (position_or_len is_slash text) (length text) none)

no_slash_behind : (text : List ℕ) → position is_slash text ≡ None → after_first is_slash text ≡ []
no_slash_behind text none = drop_all (position_or_len is_slash text + 1) text (let far = found_nowhere (position_or_len is_slash text) (length text) none in omega arith)

pub no_slash : (text numbers : List ℕ) → position is_slash text ≡ None → AreNumbers text numbers → HasNumbers text numbers
no_slash text numbers none are = record {
  before = numbers;
  behind = [];
  are = subst (λ t. AreNumbers t numbers) (sym (no_slash_before text none)) are;
  are_behind = subst (λ t. AreNumbers t []) (sym (no_slash_behind text none)) tt;
  slash = λ low. absurd (let far = found_nowhere (position_or_len is_slash text) (length text) none in omega arith);
  all = sym (append-nil numbers);
}

pub no_slash_back : (text numbers : List ℕ) → position is_slash text ≡ None → HasNumbers text numbers → (ms : List ℕ) × AreNumbers text ms
no_slash_back text numbers none has = (has.before, subst (λ t. AreNumbers t has.before) (no_slash_before text none) has.are)

-- ---- a line with one

slash_before : (text : List ℕ) (p : ℕ) → position is_slash text ≡ Some p → before_first is_slash text ≡ take p text
slash_before text p is = ap (λ n. take n text) (found_at (position_or_len is_slash text) (length text) p is).1

slash_behind : (text : List ℕ) (p : ℕ) → position is_slash text ≡ Some p → after_first is_slash text ≡ take (length text - (p + 1)) (drop (p + 1) text)
slash_behind text p is = ap (λ n. drop (n + 1) text) (found_at (position_or_len is_slash text) (length text) p is).1 ∙ sym (take_rest text (p + 1))

pub with_slash : (text : List ℕ) (p : ℕ) (first words all : List ℕ) → position is_slash text ≡ Some p → AreNumbers (take p text) first → length first ≡ 1
    → AreNumbers (take (length text - (p + 1)) (drop (p + 1) text)) words → all ≡ first ++ words → HasNumbers text all
with_slash text p first words all is are one are_words joined = record {
  before = first;
  behind = words;
  are = subst (λ t. AreNumbers t first) (sym (slash_before text p is)) are;
  are_behind = subst (λ t. AreNumbers t words) (sym (slash_behind text p is)) are_words;
  slash = λ low. one;
  all = joined;
}

pub address_back : (text : List ℕ) (p : ℕ) (all : List ℕ) → position is_slash text ≡ Some p → HasNumbers text all → (ms : List ℕ) × AreNumbers (take p text) ms
address_back text p all is has = (has.before, subst (λ t. AreNumbers t has.before) (slash_before text p is) has.are)

pub words_back : (text : List ℕ) (p : ℕ) (all : List ℕ) → position is_slash text ≡ Some p → HasNumbers text all → (ms : List ℕ) × AreNumbers (take (length text - (p + 1)) (drop (p + 1) text)) ms
words_back text p all is has = (has.behind, subst (λ t. AreNumbers t has.behind) (slash_behind text p is) has.are_behind)

-- before a slash stands one number
pub one_address : (text : List ℕ) (p : ℕ) (first all : List ℕ) → position is_slash text ≡ Some p → AreNumbers (take p text) first → HasNumbers text all → length first ≡ 1
one_address text p first all is are has =
    ap (length {A = ℕ}) (same_numbers (take p text) first has.before are (subst (λ t. AreNumbers t has.before) (slash_before text p is) has.are))
    ∙ has.slash (found_at (position_or_len is_slash text) (length text) p is).0

-- ---- a line has its numbers alone, and says one thing

pub one_line : (text ns ms : List ℕ) → HasNumbers text ns → HasNumbers text ms → ns ≡ ms
one_line text ns ms has also =
    has.all ∙ ap (λ f. f ++ has.behind) (same_numbers (before_first is_slash text) has.before also.before has.are also.are)
    ∙ ap (λ b. also.before ++ b) (same_numbers (after_first is_slash text) has.behind also.behind has.are_behind also.are_behind) ∙ sym also.all

pub says_one : (line : List ℕ) (a b : Result (Option BlockValue) WordsWhy) → Says line a → Says line b → a ≡ b
says_one line a b is also =
    ⊎_elim (λ some. ⊎_elim (λ some_too. some.2 ∙ ap judged (one_line (without_remark line) some.0 some_too.0 some.1 some_too.1) ∙ sym some_too.2) (λ none. absurd (none.0 some.0 some.1)) also)
    (λ none. ⊎_elim (λ some. absurd (none.0 some.0 some.1)) (λ none_too. none.1 ∙ sym none_too.1) also) is

pub not_both : (line : List ℕ) (row : Option BlockValue) (why : WordsWhy) → Says line (Ok row) → Says line (Err why) → ⊥
not_both line row why is wrong = let same : Ok row ≡ Err why = says_one line (Ok row) (Err why) is wrong in cc

-- ---- want of numbers

line_fault : (line text : List ℕ) (fault : RowFault) → text ≡ without_remark line → IsNone (HasNumbers text) fault → IfSome (said_by (Err fault)) (Says line)
line_fault line text (Wrong why) is none = inr (subst (λ t. (numbers : List ℕ) → HasNumbers t numbers → ⊥) is none.1, ap Err none.0)
line_fault line text Memory is none = tt

pub said_wrong : (line text : List ℕ) (fault : RowFault) (r : Result (Option BlockValue) RowFault) → text ≡ without_remark line → IsErrAnd r (λ e. e ≡ fault) → IsNone (HasNumbers text) fault
    → IfSome (said_by r) (Says line)
said_wrong line text fault (Ok row) is error none = absurd error
said_wrong line text fault (Err e) is error none = subst (λ f. IfSome (said_by (Err f)) (Says line)) (sym error) (line_fault line text fault is none)

pub fault_said : (line : List ℕ) (fault : RowFault) → IfSome (said_by (Err fault)) (Says line) → IsRowFault line fault
fault_said line (Wrong why) said = said
fault_said line Memory said = tt

-- ---- a row is a block

bytes_length : (words : List ℕ) → length (flat_map low_first words) ≡ 2 * length words
bytes_length [] = refl
bytes_length (w ∷ words) = omega (arith, bytes_length words)

judged_block : (numbers : List ℕ) (row : BlockValue) → Ok (Some row) ≡ judged numbers → IsBlock row
judged_block [] row is = absurd (let h : Ok (Some row) ≡ Ok None = is in cc)
judged_block (a ∷ []) row is = absurd (let h : Ok (Some row) ≡ Err NoWords = is in cc)
judged_block (a ∷ (w ∷ words)) row is =
    let block : BlockValue = block_at a (flat_map low_first (w ∷ words)) in
    elim (a % 2 == 1) as (λ t. Ok (Some row) ≡ cond t (Err OddAddress) (cond (nat_lt top (a + 2 * length (w ∷ words))) (Err PastTop) (Ok (Some block))) → IsBlock row) [
      | true ↦ λ e. absurd (let h : Ok (Some row) ≡ Err OddAddress = e in cc)
      | false ↦ λ e. elim (nat_lt top (a + 2 * length (w ∷ words))) as (λ t. nat_lt top (a + 2 * length (w ∷ words)) ≡ t → Ok (Some row) ≡ cond t (Err PastTop) (Ok (Some block)) → IsBlock row) [
        | true ↦ λ past f. absurd (let h : Ok (Some row) ≡ Err PastTop = f in cc)
        | false ↦ λ low f.
            let same : row ≡ block = (let h : Ok (Some row) ≡ Ok (Some block) = f in cc) in
            let within : a + 2 * length (w ∷ words) ≤ top = grind (arith, nat_tests) in
            subst IsBlock (sym same) (record { not_empty = omega (arith, bytes_length words); below_top = omega (arith, bytes_length (w ∷ words)) })
      ] refl e
    ] is

pub row_block : (line : List ℕ) (said : Option BlockValue) (row : BlockValue) → Says line (Ok said) → said ≡ Some row → IsBlock row
row_block line said row says is =
    ⊎_elim (λ some. judged_block some.0 row (ap Ok (sym is) ∙ some.2)) (λ none. absurd (let h : Ok said ≡ Err BadNumber = none.1 in cc)) says
