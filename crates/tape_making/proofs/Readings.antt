-- A text as far as it is read.
use Rattle.std.proofs.Common.{◌≡◌, ℕ, suc, ◌+◌, ◌<◌, ◌≤◌, List, [], ◌∷◌, ◌++◌, length, map, take, drop, get_or, arith, ap, sym, refl, ◌∙◌, subst, inr, Bor, take-append-drop, drop-cons, Option, Ok, append-nil, length-take-le}
use Rattle.std.specs.List.{flat_map}
use Rattle.std.specs.Option.{option_to_list}
use Rattle.std.proofs.lemmas.List.{take_all}
use Rattle.std.proofs.lemmas.List.Concat.{flat_map-append}
use Rattle.tape_values.specs.Block.{BlockValue}
use Rattle.tape_making.specs.declared.refusal.RowFault.{RowFault}
use Rattle.tape_making.specs.declared.refusal.RowFault.TheVariants.{Wrong, Memory}
use Rattle.tape_making.specs.declared.sheet.Sheet.{Sheet}
use Rattle.tape_making.specs.Words.{AllSay, Says, lines, words_limit}
use Rattle.tape_making.specs.Sheet.{HoldsRows}
use Rattle.tape_making.specs.Reading.{HoldsText, IsRowFault, IsWordsFault, LaysLine, fault_at}
use Rattle.tape_making.proofs.Zips.{zip_push, many_found, front_more, at_found}

-- the sheet has what the first k lines say
pub record IsReadTo (text : List ℕ) (k : ℕ) (sheet : Sheet) : Type 0 where
  pub said : List (Option BlockValue)
  pub each : AllSay (take k (lines text)) said
  pub holds : HoldsRows (flat_map option_to_list said) sheet

abbrev pub says_so : List ℕ → Option BlockValue → Type 0
says_so line row = Says line (Ok row)

pub read_more : (text : List ℕ) (found : List (Bor (List ℕ))) (i : ℕ) (d : Bor (List ℕ)) (old new : Sheet) → map (λ f. f.now) found ≡ lines text → i < length found
    → IsReadTo text i old → LaysLine (get_or found i d).now old new → IsReadTo text (i + 1) new
read_more text found i d old new is within so laid = record {
  said = so.said ++ laid.row ∷ [];
  each = subst (λ ls. AllSay ls (so.said ++ laid.row ∷ [])) (sym (front_more found (lines text) i d is within))
      (zip_push says_so (take i (lines text)) so.said (get_or found i d).now laid.row so.each laid.says);
  holds = subst (λ rows. HoldsRows rows new)
      (ap (λ rows. flat_map option_to_list so.said ++ rows) (sym (append-nil (option_to_list laid.row))) ∙ sym (flat_map-append option_to_list so.said (laid.row ∷ [])))
      (laid.lays (flat_map option_to_list so.said) so.holds);
}

pub read_all : (text : List ℕ) (found : List (Bor (List ℕ))) (i : ℕ) (sheet : Sheet) → map (λ f. f.now) found ≡ lines text → length found ≤ i → length text ≤ words_limit
    → IsReadTo text i sheet → HoldsText text sheet
read_all text found i sheet is all short so = record {
  rows = flat_map option_to_list so.said;
  are = record {
    within = short;
    said = so.said;
    each = subst (λ ls. AllSay ls so.said) (take_all i (lines text) (omega (arith, many_found found (lines text) is))) so.each;
    all = refl;
  };
  holds = so.holds;
}

-- a list about one of its things
around : (xs : List (List ℕ)) (i : ℕ) → i < length xs → xs ≡ take i xs ++ get_or xs i [] ∷ drop (i + 1) xs
around xs i within =
    let next : suc i ≡ i + 1 = omega arith in
    sym (take-append-drop i xs) ∙ ap (λ t. take i xs ++ t) (drop-cons xs i [] within ∙ ap (λ n. get_or xs i [] ∷ drop n xs) next)

pub read_wrong : (text : List ℕ) (found : List (Bor (List ℕ))) (i : ℕ) (d : Bor (List ℕ)) (sheet : Sheet) (fault : RowFault) → map (λ f. f.now) found ≡ lines text → i < length found
    → length text ≤ words_limit → IsReadTo text i sheet → IsRowFault (get_or found i d).now fault → IsWordsFault text (fault_at (i + 1) fault)
read_wrong text found i d sheet (Wrong why) is within short so wrong =
    inr (
      short,
      record {
        before = take i (lines text);
        wrong = (get_or found i d).now;
        after = drop (i + 1) (lines text);
        all = around (lines text) i (omega (arith, many_found found (lines text) is)) ∙ ap (λ x. take i (lines text) ++ x ∷ drop (i + 1) (lines text)) (at_found found (lines text) i d is within);
        number = omega (arith, length-take-le i (lines text) (omega (arith, many_found found (lines text) is)));
        said = so.said;
        each = so.each;
        why = wrong;
      },
    )
read_wrong text found i d sheet Memory is within short so wrong = tt
