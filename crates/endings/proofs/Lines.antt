-- A text that is said piece by piece.
use Rattle.std.proofs.Common.{◌≡◌, ℕ, List, [], ◌++◌, Option, Some, None, Result, Ok, Err, OnErr, refl, sym, ap, ◌∙◌, subst, append_assoc, append-nil, arith}
use Rattle.std.proofs.lemmas.List.{length-append}
use Rattle.std.proofs.KnownBytes.{Appends-nil, Appends-trans}
use Rattle.std.specs.Io.KnownBytes.{Appends}
use Rattle.byte_io.specs.Output.{WritesProperPrefix}
use Rattle.endings.specs.FaultOutput.{StandardError, IsSaidInPart, IsSaidWhole, NoneFailed, OneFailed}

-- all of a text but what is left of it was said
pub record IsSaidBut (err err' : StandardError) (text left : List ℕ) : Type 0 where
  pub said : List ℕ
  pub whole : text ≡ said ++ left
  pub written : Appends err.text err'.text said
  pub none_failed : NoneFailed err.failures err'.failures

pub on_any_err : {T E : Type 0} (r : Result T E) (P : Type 0) → P → OnErr r P
on_any_err (Ok x) P p = tt
on_any_err (Err e) P p = p

-- ---- failures

none_failed : (f : Option ℕ) → NoneFailed f f
none_failed None = tt
none_failed (Some count) = refl

pub none_failed_twice : (f g h : Option ℕ) → NoneFailed f g → NoneFailed g h → NoneFailed f h
none_failed_twice None g h before behind = tt
none_failed_twice (Some count) g h before behind = subst (λ x. NoneFailed x h) before behind

one_failed_behind : (f g h : Option ℕ) → NoneFailed f g → OneFailed g h → OneFailed f h
one_failed_behind None g h before behind = tt
one_failed_behind (Some count) g h before behind = subst (λ x. OneFailed x h) before behind

-- ---- pieces

pub none_said : (a : StandardError) (text left : List ℕ) → text ≡ left → IsSaidBut a a text left
none_said a text left same = record { said = []; whole = same; written = Appends-nil a.text; none_failed = none_failed a.failures }

pub piece_said : (a b d : StandardError) (text piece left : List ℕ) → IsSaidBut a b text (piece ++ left) → IsSaidWhole b d piece → IsSaidBut a d text left
piece_said a b d text piece left before now = record {
  said = before.said ++ piece;
  whole = before.whole ∙ sym (append_assoc before.said piece left);
  written = Appends-trans a.text b.text d.text before.said piece before.written now.written;
  none_failed = none_failed_twice a.failures b.failures d.failures before.none_failed now.none_failed;
}

-- the missing rest of a piece, and what stands behind it
cut_in : (a b d : StandardError) (text piece left : List ℕ) → IsSaidBut a b text (piece ++ left) → WritesProperPrefix b.text d.text piece → WritesProperPrefix a.text d.text text
cut_in a b d text piece left before (missing, some, part) = (
  missing ++ left,
  omega (arith, length-append missing left),
  record {
    written = before.said ++ part.written;
    whole = before.whole ∙ ap (λ l. before.said ++ (l ++ left)) part.whole ∙ ap (λ l. before.said ++ l) (append_assoc part.written missing left)
        ∙ sym (append_assoc before.said part.written (missing ++ left));
    appended = Appends-trans a.text b.text d.text before.said part.written before.written part.appended;
  },
)

pub piece_cut : (a b d : StandardError) (text piece left : List ℕ) → IsSaidBut a b text (piece ++ left) → IsSaidInPart b d piece → IsSaidInPart a d text
piece_cut a b d text piece left before now = record {
  written = cut_in a b d text piece left before now.written;
  one_failed = one_failed_behind a.failures b.failures d.failures before.none_failed now.one_failed;
}

pub all_said : (a b : StandardError) (text : List ℕ) → IsSaidBut a b text [] → IsSaidWhole a b text
all_said a b text done = record {
  written = subst (Appends a.text b.text) (sym (done.whole ∙ append-nil done.said)) done.written;
  none_failed = done.none_failed;
}

-- a line of a beginning, words, a name and an end, and how its pieces follow one another
pub line_pieces : (front words name end : List ℕ) → front ++ (words ++ (name ++ end)) ≡ (front ++ words) ++ (name ++ end)
line_pieces front words name end = sym (append_assoc front words (name ++ end))
