-- A text made of lines and a last piece, and the fronts of it.
use Rattle.std.proofs.Common.{◌≡◌, ℕ, ◌+◌, false, List, [], ◌∷◌, ◌++◌, arith, ap, sym, refl, ◌∙◌, subst, append_assoc, inl, inr, All}
use Rattle.std.specs.List.{slice_split}
use Rattle.std.proofs.lemmas.List.Splits.{slice_split_none, slice_split_at}
use Rattle.std.proofs.lemmas.List.Elements.{All-nil, All-cons}
use Rattle.std.proofs.lemmas.Bool.Decides.{nat_tests}
use Rattle.octal.specs.Octal.{octal_text}
use Rattle.tape_image.specs.Word.{WordValue, word_fields}
use Rattle.load_record.specs.declared.version.Version.{Version}
use Rattle.load_record.specs.declared.version.Version.TheVariants.{First, Second}
use Rattle.load_record.specs.Lines.{header, value_text, values_text, run_text, HoldsWords}
use Rattle.load_record.specs.Reading.{is_line_end}

-- no LF stands in the text
abbrev pub HasNoEnd : List ℕ → Type 0
HasNoEnd [] = Unit {0}
HasNoEnd (c ∷ text) = (is_line_end c ≡ false) × HasNoEnd text

-- nor in any of the lines
abbrev pub HaveNoEnd : List (List ℕ) → Type 0
HaveNoEnd [] = Unit {0}
HaveNoEnd (line ∷ lines) = HasNoEnd line × HaveNoEnd lines

no_end-all : (text : List ℕ) → HasNoEnd text → All (λ c. is_line_end c ≡ false) text
no_end-all [] ok = All-nil (λ c. is_line_end c ≡ false)
no_end-all (c ∷ text) ok = All-cons (λ c. is_line_end c ≡ false) c text ok.0 (no_end-all text ok.1)

no_end-append : (front text : List ℕ) → HasNoEnd front → HasNoEnd text → HasNoEnd (front ++ text)
no_end-append [] text a b = b
no_end-append (c ∷ front) text a b = (a.0, no_end-append front text a.1 b)

-- a text without LF has no line, and one that is ended is a line
pub no_end-split : (text : List ℕ) → HasNoEnd text → slice_split is_line_end text ≡ text ∷ []
no_end-split text ok = slice_split_none is_line_end text (no_end-all text ok)

pub ended-split : (line more : List ℕ) → HasNoEnd line → slice_split is_line_end (line ++ 10 ∷ more) ≡ line ∷ slice_split is_line_end more
ended-split line more ok = slice_split_at is_line_end line 10 more (no_end-all line ok) refl

-- LF behind each of the lines, and then the last piece
abbrev pub joined : List (List ℕ) → List ℕ → List ℕ
joined [] torn = torn
joined (line ∷ lines) torn = line ++ 10 ∷ joined lines torn

pub joined-append : (lines : List (List ℕ)) (torn more : List ℕ) → joined lines torn ++ more ≡ joined lines (torn ++ more)
joined-append [] torn more = refl
joined-append (line ∷ lines) torn more = append_assoc line (10 ∷ joined lines torn) more ∙ ap (λ l. line ++ 10 ∷ l) (joined-append lines torn more)

-- a last piece that is ended is one more line
pub joined-ended : (lines : List (List ℕ)) (torn more : List ℕ) → joined lines (torn ++ 10 ∷ more) ≡ joined (lines ++ torn ∷ []) more
joined-ended [] torn more = refl
joined-ended (line ∷ lines) torn more = ap (λ l. line ++ 10 ∷ l) (joined-ended lines torn more)

-- the text is cut into the lines that it was joined of
pub joined-cut : (lines : List (List ℕ)) (torn : List ℕ) → HaveNoEnd lines → HasNoEnd torn → slice_split is_line_end (joined lines torn) ≡ lines ++ torn ∷ []
joined-cut [] torn ok last = no_end-split torn last
joined-cut (line ∷ lines) torn ok last =
    ended-split line (joined lines torn) ok.0 ∙ ap (λ l. line ∷ l) (joined-cut lines torn ok.1 last)

-- a front of a line and of what follows it is a front of the line, or goes past it
pub data Front (front rest line more : List ℕ) : Type 0 where
  inside : (left : List ℕ) → front ++ left ≡ line → Front front rest line more
  past : (behind : List ℕ) → front ≡ line ++ 10 ∷ behind → behind ++ rest ≡ more → Front front rest line more

front_more : (c d : ℕ) (front rest line more : List ℕ) → c ≡ d → Front front rest line more → Front (c ∷ front) rest (d ∷ line) more
front_more c d front rest line more e (inside left f) = inside left cc
front_more c d front rest line more e (past behind f g) = past behind (let h : c ∷ front ≡ d ∷ (line ++ 10 ∷ behind) = cc in h) g

pub front_of : (front rest line more : List ℕ) → front ++ rest ≡ line ++ 10 ∷ more → Front front rest line more
front_of [] rest line more e = inside line refl
front_of (c ∷ front) rest [] more e = past front (let first : c ≡ 10 = cc in cc) (let others : front ++ rest ≡ more = cc in others)
front_of (c ∷ front) rest (d ∷ line) more e =
    let first : c ≡ d = cc in
    let others : front ++ rest ≡ line ++ 10 ∷ more = cc in
    front_more c d front rest line more first (front_of front rest line more others)

pub front-no_end : (front left : List ℕ) → HasNoEnd (front ++ left) → HasNoEnd front
front-no_end [] left ok = tt
front-no_end (c ∷ front) left ok = (ok.0, front-no_end front left ok.1)

digit-no_end : (n : ℕ) → is_line_end (48 + n) ≡ false
digit-no_end n = grind (arith, nat_tests)

octal-no_end : (w : ℕ) → HasNoEnd (octal_text w)
octal-no_end w = (digit-no_end _, (digit-no_end _, (digit-no_end _, (digit-no_end _, (digit-no_end _, (digit-no_end _, tt))))))

fields-no_end : (w : WordValue) → HasNoEnd (word_fields w)
fields-no_end w =
    no_end-append (octal_text w.address) (32 ∷ (octal_text w.mask ++ 32 ∷ octal_text w.value)) (octal-no_end w.address)
    (refl, no_end-append (octal_text w.mask) (32 ∷ octal_text w.value) (octal-no_end w.mask) (refl, octal-no_end w.value))

values-no_end : (words : List WordValue) → HasNoEnd (values_text words)
values-no_end [] = tt
values-no_end (w ∷ words) = no_end-append (value_text w) (values_text words) (refl, octal-no_end w.value) (values-no_end words)

pub run-no_end : (words : List WordValue) → HasNoEnd (run_text words)
run-no_end [] = tt
run-no_end (w ∷ words) = no_end-append (octal_text w.address) (values_text (w ∷ words)) (octal-no_end w.address) (values-no_end (w ∷ words))

pub header-no_end : (version : Version) → HasNoEnd (header version)
header-no_end First = (refl, (refl, (refl, (refl, (refl, (refl, (refl, (refl, tt))))))))
header-no_end Second = (refl, (refl, (refl, (refl, (refl, (refl, (refl, (refl, tt))))))))

pub holds-no_end : (version : Version) (line : List ℕ) (words : List WordValue) → HoldsWords version line words → HasNoEnd line
holds-no_end First line words h = subst HasNoEnd (sym h.spelled) (fields-no_end h.word)
holds-no_end Second line words (inl h) = subst HasNoEnd (sym h.spelled) (refl, (refl, fields-no_end h.word))
holds-no_end Second line words (inr h) = subst HasNoEnd (sym h.spelled) (run-no_end words)
